use Rattle.std.proofs.Common.{◌≡◌, true, sym, ap, ◌∙◌, refl, subst, List, ℕ, [], Option, None, Ok, Err, Result, set, get_or-set_same}
use Rattle.std.specs.Prelude.{◌≢◌, OnOk, OnErr, IsSome, is_some, slice_get, unwrap_or}
use Rattle.std.proofs.lemmas.Result.{on_ok_weaker}
use Rattle.mm_types.specs.{Record}
use Rattle.mm_types.proofs.{some_get}
use Rattle.mm_move_rules.specs.{blank, record_at, is_read}
use Rattle.mm_ram.specs.{page_at}
use Rattle.mm_pfn_database.specs.{AreKept}
use Rattle.mm_pfn_database.proofs.{used_if, page_low, page_changed}
use Rattle.mm_pfn_database.proofs.frames.Frames.fill_from.Goals as goal

reading_used : (r : Record) → is_read r.request ≡ true → r ≢ blank
reading_used r e = used_if (λ (q : Record). is_read q.request) r refl e

-- what holds after both ends holds after either
either : {T E A : Type 0} (r : Result T E) (P : A → Type 0) (new ok err : A) → P ok → P err → OnOk r (new ≡ ok) → OnErr r (new ≡ err) → P new
either (Ok x) P new ok err p q e f = subst P (sym e) p
either (Err x) P new ok err p q e f = subst P (sym f) q

pub fill_from-requires-clause-frame : goal.fill_from-requires-clause-frame
fill_from-requires-clause-frame g c = page_low c.self.invariant c.self.view_is c.args.f.0 (reading_used (record_at c.args.self.now.table c.args.f.0) c.requires.reading)

pub invariant_of-self : goal.invariant_of-self
invariant_of-self g c =
    let i = c.self.inside in
    let f = c.args.f.0 in
    let used = reading_used (record_at c.args.self.now.table f) c.requires.reading in
    let blocks = g.D.Inject.blocks c.args.device.now in
    let read = set i.ram f (slice_get blocks c.args.block) in
    either c.fill_from.result (λ (m : List (Option (List ℕ))). AreKept i.records i.standing.items i.lists i.with_block m) c.fill_from.new.self read i.ram
    (page_changed c.self.invariant c.self.view_is f used read (unwrap_or (slice_get blocks c.args.block) []) (ap (λ (o : Option (List ℕ)). set i.ram f o) (some_get blocks c.args.block [] c.requires.block)))
    c.self.invariant c.fill_from.ensures.ok c.fill_from.ensures.err

pub returns-clause-written : goal.returns-clause-written
returns-clause-written g c =
    let i = c.self.inside in
    let f = c.args.f.0 in
    let low = page_low c.self.invariant c.self.view_is f (reading_used (record_at c.args.self.now.table f) c.requires.reading) in
    let blocks = g.D.Inject.blocks c.args.device.now in
    let there = some_get blocks c.args.block [] c.requires.block in
    on_ok_weaker {P = c.fill_from.new.self ≡ set i.ram f (slice_get blocks c.args.block)} {Q = IsSome (page_at c.fill_from.new.self f)} c.fill_from.result
    (λ e. ap is_some (ap (λ (m : List (Option (List ℕ))). page_at m f) e ∙ get_or-set_same i.ram f (slice_get blocks c.args.block) None low ∙ there))
    c.fill_from.ensures.ok
