use Rattle.std.proofs.Common.{◌≡◌, ◌∙◌, sym, ap, subst, arith, Some, Option}
use Rattle.std.specs.Prelude.{Result, Ok, Err}
use Rattle.mm_types.specs.{Key, page_of, PageFault, Place}
use Rattle.mm_world.specs.{Page, same_key, private_key}
use Rattle.mm_store.specs.{Copies, place_at, touch, copying, IsReady, PassesIn, StoreOf, fetched}
use Rattle.mm_move_rules.specs.{same_place}
use Rattle.mm_move_rules.specs.{changed}
use Rattle.mm_store.specs.Behind.{Behind}
use Rattle.mm_object_tables.specs.{FitsTables, key_at, CommittedRow}
use Rattle.std.proofs.Common.{Bool, cond, true, false, ◌+◌}
use Rattle.mm_dispatch.proofs.{is-copying, fits_uncopied, fits_copied, at-named, place_itself, key-row, key-live, room-to-copy}
use Rattle.mm_types.proofs.{some_found}
use Rattle.mm_dispatch.proofs.fetching.copy.Goals as goal

-- the moves of a copy, said of the same place
copies : {q place : Place} (key : Key) (u : Bool) (r : Result (Unit {0}) PageFault) (s z : StoreOf) (b y : Behind) → q ≡ place
    → PassesIn u (Copies (record { place = q; need = copying key q; writes = true; start = b.life }) (IsReady s q (copying key q)) r) s z b y
    → PassesIn u (Copies (record { place = place; need = copying key place; writes = true; start = b.life }) (IsReady s place (copying key place)) r) s z b y
copies key u r s z b y is h = subst (λ (q : Place). PassesIn u (Copies (record { place = q; need = copying key q; writes = true; start = b.life }) (IsReady s q (copying key q)) r) s z b y) is h

pub copy-requires-clause-room : goal.copy-requires-clause-room
copy-requires-clause-room g c =
    let t = c.args.t.now in
    let h = c.requires.can.admitted in
    let page = page_of c.args.addr in
    let y = is-copying t c.args.pid.0 page h.process h.row h.committed (ap (λ (r : CommittedRow). r.copies) h.is_told ∙ c.requires.can.copies) in
    omega (arith, room-to-copy t c.requires.can.spaces c.args.pid.0 page h.process h.row y.view h.lives h.committed y.is y.none y.marked, c.requires.can.fits.counted, c.requires.can.fits.room)

pub returns-in-Err-clause-copied : goal.returns-in-Err-clause-copied
returns-in-Err-clause-copied g c =
    let t = c.args.t.now in
    let h = c.requires.can.admitted in
    let at : key_at t c.place_of.result ≡ Some c.args.row.key =
    ap (key_at t) c.place_of.ensures ∙ key-row t c.args.pid (page_of c.args.addr) h.process h.row h.lives h.committed ∙ ap (λ (r : CommittedRow). Some r.key) h.is_told in
    record {
      fits = fits_uncopied t _ _ _ _ c.place_of.result c.args.row.key c.requires.can.fits at c.copy.ensures.done.answered.served c.copy.ensures.done.answered.stored c.in-Err.ensures.kept c.in-Err.ensures.done.err c.in-Err.ensures.done.names;
      line = ap (λ (x : StoreOf). x.line) c.in-Err.ensures.done.err;
      served = c.copy.ensures.done.answered.served;
      blamed = c.in-Err.ensures.done.answered.blamed;
      was_ready = subst (λ (q : Place). IsReady (g.G.PageStore.store c.args.g.now) q (copying c.args.row.key q) → false ≡ true) c.place_of.ensures c.in-Err.ensures.done.answered.was_ready;
      unpaged = c.in-Err.ensures.done.answered.unpaged;
      passes = copies c.args.row.key g.G.PageStore.unpaged (Err c.in-Err.fault) (g.G.PageStore.store c.args.g.now) (g.G.PageStore.store c.copy.new.self) (g.G.PageStore.behind c.args.g.now) (g.G.PageStore.behind c.copy.new.self) c.place_of.ensures c.in-Err.ensures.done.passes;
      loans = c.copy.ensures.loans;
    }

pub returns-in-Ok-clause-copied : goal.returns-in-Ok-clause-copied
returns-in-Ok-clause-copied g c =
    let t = c.args.t.now in
    let old = g.G.PageStore.contents c.args.g.now in
    let s = g.G.PageStore.store c.args.g.now in
    let z = g.G.PageStore.store c.copy.new.self in
    let page = page_of c.args.addr in
    let place = place_at c.args.pid page in
    let h = c.requires.can.admitted in
    let own = private_key c.args.pid.0 page in
    let at : key_at t place ≡ Some c.args.row.key =
    key-row t c.args.pid page h.process h.row h.lives h.committed ∙ ap (λ (r : CommittedRow). Some r.key) h.is_told in
    let from = some_found (old c.args.row.key) (key-live t old s c.requires.can.fits place c.args.row.key at) in
    let contents : g.G.PageStore.contents c.copy.new.self ≡ changed same_key old own (Some from.0) =
    c.in-Ok.ensures.copied ∙ (λ i. changed same_key old (c.own_key_of.ensures i) (from.1 i)) in
    let store : z ≡ record (fetched s z) { names = changed same_place s.names place (Some own); paging = changed same_key s.paging own true; paging_keys = s.paging_keys + 1 } =
    c.in-Ok.ensures.done.ok
    ∙ (λ i. record (fetched s z) { names = changed same_place s.names (c.place_of.ensures i) (Some (c.own_key_of.ensures i)); paging = changed same_key s.paging (c.own_key_of.ensures i) true; paging_keys = s.paging_keys + 1 }) in
    record {
      fits = subst (λ (n : Key → Option Page). FitsTables c.copy_page.new.self n z) (sym contents)
          (fits_copied c.copy_page.new.self (changed same_key old own (Some from.0)) s z place (c.copy_page.ensures.fits old s from.0 c.requires.can.fits) c.copy.ensures.done.answered.served c.copy.ensures.done.answered.stored store);
      line = ap (λ (x : StoreOf). x.line) c.in-Ok.ensures.done.ok;
      served = c.copy.ensures.done.answered.served;
      blamed = tt;
      was_ready = subst (λ (q : Place). IsReady s q (copying c.args.row.key q) → true ≡ true) c.place_of.ensures c.in-Ok.ensures.done.answered.was_ready;
      unpaged = c.in-Ok.ensures.done.answered.unpaged;
      passes = copies c.args.row.key g.G.PageStore.unpaged (Ok tt) s z (g.G.PageStore.behind c.args.g.now) (g.G.PageStore.behind c.copy.new.self) c.place_of.ensures c.in-Ok.ensures.done.passes;
      loans = c.copy.ensures.loans;
    }

pub returns-in-Ok-clause-own : goal.returns-in-Ok-clause-own
returns-in-Ok-clause-own g c =
    let s = g.G.PageStore.store c.args.g.now in
    let page = page_of c.args.addr in
    let place = place_at c.args.pid page in
    let own = private_key c.args.pid.0 page in
    record {
      at = at-named c.copy_page.new.self _ (g.G.PageStore.store c.copy.new.self) (returns-in-Ok-clause-copied g c).fits place own
          (ap (λ (s : StoreOf). s.names place) c.in-Ok.ensures.done.ok
          ∙ (λ i. changed same_place s.names (c.place_of.ensures i) (Some (c.own_key_of.ensures i)) place)
          ∙ ap (λ b. cond b (Some own) (s.names place)) (place_itself place));
      ready = subst (λ (k : Key). IsReady (g.G.PageStore.store c.copy.new.self) place (touch k)) c.own_key_of.ensures (subst (λ (q : Place). IsReady (g.G.PageStore.store c.copy.new.self) q (touch c.own_key_of.result)) c.place_of.ensures c.in-Ok.ensures.done.ready);
    }
