-- What the lines of watched regions do to flags: a region begins with pages that are not written, and `watch` and
-- `resetwatch` make pages unwritten.
use Rattle.std.proofs.Common.{◌≡◌, ℕ, suc, ◌+◌, ◌-◌, ◌≤◌, ◌<◌, Bool, true, false, Option, Some, None, List, [], ◌∷◌, refl, sym, ◌∙◌, ap, subst, cond, arith, length, slice_get, take, drop, map, option_map, is_some, ◌&&◌, ◌||◌, zero}
use Rattle.std.specs.Prelude.{◌==◌, nat_lt, option_and_then, unwrap_or, filter}
use Rattle.std.specs.List.{list_any, range_with_len}
use Rattle.std.proofs.lemmas.List.{length-take, length-drop}
use Rattle.mm_types.proofs.{parts}
use Rattle.mm_types.specs.{Answer, Code, Event, Pid, Range, address_of, range_of, holds_page, lies_within, end_of, first_user_page}
use Rattle.mm_world.specs.{ProcessOf, RegionOf, Page, pages_of, Found, change_range, process_of, set_region, OutcomeOf, done, refused, change_flags}
use Rattle.mm_world.specs.{mark_written, watch, reset_watch, watched_around, written_from, written_in, unwritten, kept_by, kept_writes, line_begins}
use Rattle.mm_world.specs.{written_after, flag_of, FlagTold, Told, Each, Spaces, is_private, step, flag_in, flag_at, is_flagged, GivesFlagged}
use Rattle.mm_world.specs.World.{World}
use Rattle.mm_world.proofs.Tables.{Holds, met, tables}
use Rattle.mm_world.proofs.Finding.{found_stands}
use Rattle.mm_world.proofs.Regions.{less, not_less, laid_at, has_at}
use Rattle.mm_world.proofs.FlagRanges.{got_before, got_within, got_behind, got_unwritten, same_page, any_address, cleared, not_cleared, equal}
use Rattle.mm_world.proofs.FlagsKept.{KeepsFlags, FlagChanged, InRegion, Elsewhere, flag_changed}
use Rattle.mm_world.proofs.Ranges.{within, holds, holds_too, inside}
use Rattle.mm_world.proofs.RowsFit.{each-weaker, each-take}
use Rattle.std.specs.Option.{IfSome}
use Rattle.std.proofs.lemmas.Option.{slice_get-get_or, slice_get_within}
use Rattle.mm_world.specs.Report.{Report}
use Rattle.mm_types.specs.declared.answers.Answer.TheVariants as answer
use Rattle.mm_types.specs.declared.events.Event.TheVariants as line
use Rattle.mm_world.proofs.FlagsKept as calls

-- each page that has a flag after the line has it as the line and its answer tell
pub record TellsFlags (w : World) (e : Event) (o : OutcomeOf Page) : Type 0 where
  pub told : Spaces w → (pid page : ℕ) (b : Bool) → flag_of o.world pid page ≡ Some b → FlagTold w e o.answer pid page b

-- a line with an answer that tells nothing of pages
pub tells_kept : (w : World) (e : Event) (o : OutcomeOf Page) → Holds (KeepsFlags w) o → ((pid page : ℕ) → line_begins pid page e o.answer ≡ false) → ((pid page : ℕ) (keeps : ℕ → Bool) (was : Bool) → written_after pid page keeps was e o.answer ≡ was) → TellsFlags w e o
tells_kept w e o h none quiet = record {
  told = λ spaces pid page b at.
      Told b (h.it.kept spaces pid page b at) (none pid page) (sym (quiet pid page (λ tid. kept_writes pid page (kept_by w tid)) b));
}

-- ---- `resetwatch` and `watch`

-- the flag of a page, where some pages of a process were unwritten
record AsCleared (w : World) (pid : ℕ) (clears : ℕ → Bool) (j q : ℕ) (b : Bool) : Type 0 where
  was : Bool
  before : flag_of w j q ≡ Some was
  now : b ≡ cond ((pid == j) && clears q) false was

module _ (w : World) (pid : ℕ) (p : ProcessOf Page) (r : Found (RegionOf Page)) (change : List Bool → List Bool) (clears : ℕ → Bool) (lives : process_of w pid ≡ Some p) (there : slice_get p.regions r.place ≡ Some r.thing) (at : (q : ℕ) (fs : List Bool) → r.thing.base ≤ q → slice_get (change fs) (q - r.thing.base) ≡ cleared (clears q) (slice_get fs (q - r.thing.base))) (inside : (q : ℕ) → clears q ≡ true → holds_page (pages_of r.thing) q ≡ true) where
  in_flag : (j q : ℕ) (b : Bool) (o : Option Bool) → j ≡ pid → flag_of w j q ≡ o → cleared (clears q) o ≡ Some b → AsCleared w pid clears j q b
  in_flag j q b None process before now = cc
  in_flag j q b (Some was) process before now = record {
    was = was;
    before = before;
    now =
        let is : b ≡ cond (clears q) false was = cc in
        is ∙ sym (ap (λ (t : Bool). cond (t && clears q) false was) (equal pid j (sym process)));
  }

  in_flags : (j q : ℕ) (b : Bool) (o : Option (List Bool)) → j ≡ pid → r.thing.base ≤ q → flag_of w j q ≡ option_and_then (λ fs. slice_get fs (q - r.thing.base)) o → option_and_then (λ fs. slice_get fs (q - r.thing.base)) (option_map change o) ≡ Some b → AsCleared w pid clears j q b
  in_flags j q b None process low before now = cc
  in_flags j q b (Some fs) process low before now =
      in_flag j q b (slice_get fs (q - r.thing.base)) process before (sym (at q fs low) ∙ now)

  outside : (j q : ℕ) (b : Bool) → (j ≡ pid → holds_page (pages_of r.thing) q ≡ false) → (t : Bool) → ((pid == j) && clears q) ≡ t → b ≡ cond t false b
  outside j q b out true e =
      let h = parts (pid == j) (clears q) e in
      let bad : true ≡ false = sym (inside q h.1) ∙ out (sym (same_page pid j h.0)) in cc
  outside j q b out false e = refl

  by_change : (j q : ℕ) (b : Bool) → FlagChanged w pid r.thing (change_flags change r.thing) j q b → AsCleared w pid clears j q b
  by_change j q b (InRegion process held before now) =
      in_flags j q b r.thing.watched process ((within (pages_of r.thing) q held).low) before now
  by_change j q b (Elsewhere out before) = record { was = b; before = before; now = outside j q b out ((pid == j) && clears q) refl }

  as_cleared : Spaces w → (j q : ℕ) (b : Bool) → flag_of (set_region w pid p r.place (change_flags change r.thing)) j q ≡ Some b → AsCleared w pid clears j q b
  as_cleared spaces j q b e =
      by_change j q b (flag_changed w (set_region w pid p r.place (change_flags change r.thing)) pid p r.place r.thing (change_flags change r.thing) lives there (record { base = refl; rows = refl }) refl spaces j q b e)

-- ---- `resetwatch`

reset_at : (base : ℕ) (range : Range) (q : ℕ) (fs : List Bool) → base ≤ range.first → base ≤ q → (t : Bool) → holds_page range q ≡ t → slice_get (change_range (λ was. false) (range.first - base) range.count fs) (q - base) ≡ cleared t (slice_get fs (q - base))
reset_at base range q fs from low true e =
    let h = within range q e in
    got_within (λ was. false) (range.first - base) range.count fs (q - base) (omega (arith, h.low)) (omega (arith, h.high, from, low))
reset_at base range q fs from low false e =
    by_side (nat_lt q range.first) refl ∙ not_cleared (slice_get fs (q - base))
  where
    by_side : (t : Bool) → nat_lt q range.first ≡ t → slice_get (change_range (λ was. false) (range.first - base) range.count fs) (q - base) ≡ slice_get fs (q - base)
    by_side true t = let h = less q range.first t in got_before (λ was. false) (range.first - base) range.count fs (q - base) (omega (arith, h, low))
    by_side false t =
        by_end (nat_lt q (end_of range)) refl (not_less q range.first t)
      where
        by_end : (t : Bool) → nat_lt q (end_of range) ≡ t → range.first ≤ q → slice_get (change_range (λ was. false) (range.first - base) range.count fs) (q - base) ≡ slice_get fs (q - base)
        by_end true t above = let bad : true ≡ false = sym (holds range q above (less _ _ t)) ∙ e in cc
        by_end false t above =
            got_behind (λ was. false) (range.first - base) range.count fs (q - base) (omega (arith, not_less q (end_of range) t, from, low))

by_reset : (w : World) (pid : Pid) (addr size : ℕ) (p : ProcessOf Page) (r : Found (RegionOf Page)) → process_of w pid.0 ≡ Some p → watched_around p.regions (range_of addr size) ≡ Some r → Holds (TellsFlags w (line.ResetWatch pid addr size)) (done answer.Ok (set_region w pid.0 p r.place (mark_written false (range_of addr size) r.thing)))
by_reset w pid addr size p r lives found =
    let range = range_of addr size in
    let stands = found_stands (λ r. is_some r.watched && lies_within range (pages_of r)) p.regions r found in
    let lies = inside range (pages_of r.thing) (parts (is_some r.thing.watched) (lies_within range (pages_of r.thing)) stands.passes).1 in
    met (record {
      told = λ spaces j q b e.
          let h = as_cleared w pid.0 p r (change_range (λ was. false) (range.first - r.thing.base) range.count) (holds_page range) lives stands.there
          (λ q fs low. reset_at r.thing.base range q fs lies.low low (holds_page range q) refl)
          (λ q held. holds_too range (pages_of r.thing) q lies held) spaces j q b e in
          Told h.was h.before refl h.now;
    })

pub in_reset_watch : (w : World) (pid : Pid) (addr size : ℕ) → Holds (TellsFlags w (line.ResetWatch pid addr size)) (reset_watch w pid.0 addr size)
in_reset_watch w pid addr size = search (tables, by_refusal, by_reset) depth 12
  where
    by_refusal : (why : Code) → Holds (TellsFlags w (line.ResetWatch pid addr size)) (refused w why)
    by_refusal why = record { it = tells_kept w _ _ (calls.by_refusal w why) (λ j q. refl) (λ j q keeps was. refl) }

-- ---- `watch`

written_within : (page : ℕ) (ws : List Bool) → Each (λ q. (page ≤ q) × (q < page + length ws)) (written_from page ws)
written_within page [] = tt
written_within page (w ∷ ws) = by_flag w (later (page + 1) ws (written_from (page + 1) ws) (written_within (page + 1) ws))
  where
    later : (next : ℕ) (ws : List Bool) (qs : List ℕ) → Each (λ q. (next ≤ q) × (q < next + length ws)) qs → next ≡ page + 1 → Each (λ q. (page ≤ q) × (q < page + suc (length ws))) qs
    later next ws [] h e = tt
    later next ws (q ∷ qs) h e = ((omega (arith, h.0.0, e), omega (arith, h.0.1, e)), later next ws qs h.1 e)

    by_flag : (w : Bool) → (page + 1 ≡ page + 1 → Each (λ q. (page ≤ q) × (q < page + suc (length ws))) (written_from (page + 1) ws)) → Each (λ q. (page ≤ q) × (q < page + suc (length ws))) (cond w (page ∷ written_from (page + 1) ws) (written_from (page + 1) ws))
    by_flag true h = ((omega arith, omega arith), h refl)
    by_flag false h = h refl

any_is : (P : ℕ → Type 0) (q : ℕ) (qs : List ℕ) → Each P qs → list_any (λ p. p == q) qs ≡ true → P q
any_is P q [] h e = cc
any_is P q (p ∷ qs) h e = by_first (p == q) refl e (any_is P q qs h.1)
  where
    by_first : (t : Bool) → (p == q) ≡ t → (t || list_any (λ p. p == q) qs) ≡ true → (list_any (λ p. p == q) qs ≡ true → P q) → P q
    by_first true same e later = subst P (same_page p q same) h.0
    by_first false other e later = later e

pub given_within : (r : RegionOf Page) (range : Range) (count : ℕ) → Each (λ q. (range.first ≤ q) × (q < end_of range)) (written_in r range count)
given_within r range count =
    let bits = take range.count (drop (range.first - r.base) (unwrap_or r.watched [])) in
    let few : length bits ≤ range.count = omega (arith, length-take range.count (drop (range.first - r.base) (unwrap_or r.watched []))) in
    each-take (λ q. (range.first ≤ q) × (q < end_of range)) count (written_from range.first bits)
    (each-weaker (λ q. (range.first ≤ q) × (q < range.first + length bits)) (λ q. (range.first ≤ q) × (q < end_of range)) (written_from range.first bits)
    (λ q h. (h.0, omega (arith, h.1, few))) (written_within range.first bits))

by_unwrite : (w : World) (pid : Pid) (addr size count : ℕ) (p : ProcessOf Page) (r : Found (RegionOf Page)) → process_of w pid.0 ≡ Some p → watched_around p.regions (range_of addr size) ≡ Some r → Holds (TellsFlags w (line.Watch pid true addr size count)) (done (answer.Watched (map address_of (written_in r.thing (range_of addr size) count))) (set_region w pid.0 p r.place (change_flags (unwritten r.thing.base (written_in r.thing (range_of addr size) count)) r.thing)))
by_unwrite w pid addr size count p r lives found =
    let range = range_of addr size in
    let pages = written_in r.thing range count in
    let stands = found_stands (λ r. is_some r.watched && lies_within range (pages_of r)) p.regions r found in
    let lies = inside range (pages_of r.thing) (parts (is_some r.thing.watched) (lies_within range (pages_of r.thing)) stands.passes).1 in
    let given = given_within r.thing range count in
    met (record {
      told = λ spaces j q b e.
          let h = as_cleared w pid.0 p r (unwritten r.thing.base pages) (λ q. list_any (λ p. p == q) pages) lives stands.there
          (λ q fs low. got_unwritten r.thing.base q pages fs low (each-weaker (λ q. (range.first ≤ q) × (q < end_of range)) (λ q. r.thing.base ≤ q) pages (λ q k. omega (arith, k.0, lies.low)) given))
          (λ q any. let k = any_is (λ q. (range.first ≤ q) × (q < end_of range)) q pages given any in holds (pages_of r.thing) q (omega (arith, lies.low, k.0)) (omega (arith, lies.high, k.1))) spaces j q b e in
          Told h.was h.before refl (h.now ∙ ap (λ (t : Bool). cond ((pid.0 == j) && t) false h.was) (sym (any_address q pages)));
    })

pub in_watch : (w : World) (pid : Pid) (unwrites : Bool) (addr size count : ℕ) → Holds (TellsFlags w (line.Watch pid unwrites addr size count)) (watch w pid.0 unwrites addr size count)
in_watch w pid true addr size count = search (tables, by_refusal, by_unwrite) depth 12
  where
    by_refusal : (why : Code) → Holds (TellsFlags w (line.Watch pid true addr size count)) (refused w why)
    by_refusal why = record { it = tells_kept w _ _ (calls.by_refusal w why) (λ j q. refl) (λ j q keeps was. refl) }
in_watch w pid false addr size count = search (tables, by_same) depth 12
  where
    by_same : (a : Answer) → Holds (TellsFlags w (line.Watch pid false addr size count)) (done a w)
    by_same a = record { it = tells_kept w _ _ (calls.by_same w a) (λ j q. refl) (λ j q keeps was. refl) }

-- ---- `watch` gives the lowest flagged pages of its range, each page of which has a flag

-- ---- a list of flags from a page on

flags_filter : (test : ℕ → Bool) (page : ℕ) (ws : List Bool) → ((i : ℕ) (b : Bool) → slice_get ws i ≡ Some b → test (page + i) ≡ b) → written_from page ws ≡ filter test (range_with_len page (length ws))
flags_filter test page [] same = refl
flags_filter test page (w ∷ ws) same =
    let here : test page ≡ w = ap test (let at : page ≡ page + 0 = omega arith in at) ∙ same 0 w refl in
    ap (λ (later : List ℕ). cond w (page ∷ later) later)
    (flags_filter test (page + 1) ws (λ i b e. ap test (let at : page + 1 + i ≡ page + suc i = omega arith in at) ∙ same (suc i) b e))
    ∙ ap (λ (t : Bool). cond t (page ∷ filter test (range_with_len (page + 1) (length ws))) (filter test (range_with_len (page + 1) (length ws)))) (sym here)

slice_get-drop : (k i j : ℕ) (ws : List Bool) → k + i ≡ j → slice_get (drop k ws) i ≡ slice_get ws j
slice_get-drop zero i j [] e = refl
slice_get-drop zero i j (w ∷ ws) e = ap (slice_get (w ∷ ws)) (omega (arith, e))
slice_get-drop (suc k) i j [] e = refl
slice_get-drop (suc k) i zero (w ∷ ws) e = absurd (omega (arith, e))
slice_get-drop (suc k) i (suc j) (w ∷ ws) e = slice_get-drop k i j ws (omega (arith, e))

slice_get-take : (n i : ℕ) (ws : List Bool) (b : Bool) → slice_get (take n ws) i ≡ Some b → slice_get ws i ≡ Some b
slice_get-take (suc n) zero (w ∷ ws) b e = e
slice_get-take (suc n) (suc i) (w ∷ ws) b e = slice_get-take n i ws b e
slice_get-take _ i _ b e = cc

-- ---- the region around the range

record HasFlags (r : RegionOf Page) (flags : List Bool) : Type 0 where
  are : r.watched ≡ Some flags
  many : length flags ≡ length r.rows

has_flags : (r : RegionOf Page) (o : Option (List Bool)) → r.watched ≡ o → is_some o ≡ true → IfSome o (λ flags. (length flags ≡ length r.rows) × (is_private r.kind ≡ true)) → (flags : List Bool) × HasFlags r flags
has_flags r None e some fit = cc
has_flags r (Some flags) e some fit = (flags, record { are = e; many = fit.0 })

module _ (w : World) (pid : ℕ) (p : ProcessOf Page) (r : Found (RegionOf Page)) (range : Range) (spaces : Spaces w) (lives : process_of w pid ≡ Some p) (found : watched_around p.regions range ≡ Some r) where
  abbrev base : ℕ
  base = r.thing.base

  given : (flags : List Bool) → HasFlags r.thing flags → slice_get p.regions r.place ≡ Some r.thing → base ≤ range.first → range.first + range.count ≤ base + length r.thing.rows → (count : ℕ) → GivesFlagged w pid range count (map address_of (written_in r.thing range count))
  given flags has there low high count =
      let at : (page : ℕ) → range.first ≤ page → page < end_of range → flag_of w pid page ≡ slice_get flags (page - base) = λ page from below.
      ap (λ o. option_and_then (λ (p : ProcessOf Page). flag_at p.regions page) o) lives
      ∙ has_at (λ r. flag_in r page) first_user_page r.place page p.regions r.thing (spaces pid p lives).laid_out there (holds (pages_of r.thing) page (omega (arith, low, from)) (omega (arith, high, below)))
      ∙ ap (λ o. option_and_then (λ flags. slice_get flags (page - base)) o) has.are in
      let bits = take range.count (drop (range.first - base) flags) in
      let many : length bits ≡ range.count = omega (arith, length-take range.count (drop (range.first - base) flags), length-drop (range.first - base) flags, low, high, has.many) in
      record {
        flagged = λ page from below.
            ap is_some (at page from below ∙ slice_get-get_or flags (page - base) false (omega (arith, low, high, has.many, from, below)));
        given =
            ap (λ (o : Option (List Bool)). map address_of (take count (written_from range.first (take range.count (drop (range.first - base) (unwrap_or o [])))))) has.are
            ∙ ap (λ (pages : List ℕ). map address_of (take count pages))
            (flags_filter (is_flagged w pid) range.first bits (λ i b e.
            let got = slice_get-take range.count i (drop (range.first - base) flags) b e in
            ap (λ o. unwrap_or o false)
            (at (range.first + i) (omega arith) (omega (arith, many, slice_get_within bits i b e))
            ∙ sym (slice_get-drop (range.first - base) i (range.first + i - base) flags (omega (arith, low))) ∙ got))
            ∙ ap (λ (n : ℕ). filter (is_flagged w pid) (range_with_len range.first n)) many);
      }

  around_gives : (count : ℕ) → GivesFlagged w pid range count (map address_of (written_in r.thing range count))
  around_gives count =
      let stands = found_stands (λ r. is_some r.watched && lies_within range (pages_of r)) p.regions r found in
      let passes = parts (is_some r.thing.watched) (lies_within range (pages_of r.thing)) stands.passes in
      let lies = inside range (pages_of r.thing) passes.1 in
      let fits = laid_at first_user_page p.regions r.place r.thing (spaces pid p lives).laid_out stands.there in
      let flags = has_flags r.thing r.thing.watched refl passes.0 fits.flags in
      given flags.0 flags.1 stands.there lies.low lies.high count

-- ---- the line

record Gives (w : World) (pid : ℕ) (range : Range) (count : ℕ) (o : OutcomeOf Page) : Type 0 where
  gives : (addresses : List ℕ) → o.answer ≡ answer.Watched addresses → GivesFlagged w pid range count addresses

module _ (w : World) (spaces : Spaces w) (pid : ℕ) (addr size count : ℕ) where
  gives_none : (why : Code) → Holds (Gives w pid (range_of addr size) count) (refused w why)
  gives_none why = record { it = record { gives = λ addresses e. cc } }

  gives_pages : (p : ProcessOf Page) (r : Found (RegionOf Page)) (v : World) → process_of w pid ≡ Some p → watched_around p.regions (range_of addr size) ≡ Some r → Holds (Gives w pid (range_of addr size) count) (done (answer.Watched (map address_of (written_in r.thing (range_of addr size) count))) v)
  gives_pages p r v lives found = met (record {
    gives = λ addresses e.
        subst (λ (l : List ℕ). GivesFlagged w pid (range_of addr size) count l) (let same : map address_of (written_in r.thing (range_of addr size) count) ≡ addresses = cc in same)
        (around_gives w pid p r (range_of addr size) spaces lives found count);
  })

  gives_watched : (unwrites : Bool) → Holds (Gives w pid (range_of addr size) count) (watch w pid unwrites addr size count)
  gives_watched unwrites = search (tables, gives_none, gives_pages) depth 12

pub watch_gives_flagged : (w : World) (pid : Pid) (unwrites : Bool) (addr size count : ℕ) (addresses : List ℕ) (before after : Report) → Spaces w → (step w (line.Watch pid unwrites addr size count) before after).answer ≡ answer.Watched addresses → GivesFlagged w pid.0 (range_of addr size) count addresses
watch_gives_flagged w pid unwrites addr size count addresses before after spaces e = (gives_watched w spaces pid.0 addr size count unwrites).it.gives addresses e
