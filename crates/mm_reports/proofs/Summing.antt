-- The sums of the table are the numbers of moves of their classes.
use Rattle.std.proofs.Common.{◌≡◌, ℕ, zero, suc, ◌+◌, ◌<◌, Bool, true, false, cond, List, [], ◌∷◌, length, get_or, set, replicate, Option, Some, None, refl, sym, ap, ◌∙◌, arith, subst, length-set, get_or-set_same, get_or-set_other}
use Rattle.std.specs.Prelude.{◌==◌, ◌&&◌, not, if◌then◌else◌, count_by, is_none, option_map, unwrap_or, slice_index}
use Rattle.std.specs.declared.cmp.Ordering.{Ordering}
use Rattle.std.specs.declared.cmp.Ordering.TheVariants.{Less, Equal, Greater}
use Rattle.std.specs.Ordering.{nat_cmp, match_ordering}
use Rattle.std.proofs.lemmas.Bool.{eqb-true, eqb-false}
use Rattle.std.proofs.lemmas.List.Sums.{sum_by-cons}
use Rattle.std.proofs.lemmas.Option.{same_Some, none-some}
use Rattle.mm_types.specs.{Key, Place, Record, Move}
use Rattle.mm_types.specs.declared.moves.Move.TheVariants as move
use Rattle.mm_move_rules.specs.{after_move, record_at, has_request, is_again, is_read, fits_place, is_access, is_below_max, is_short, is_unbind, is_writer}
use Rattle.mm_move_rules.specs.{is_zeroer, IsLegal, touches, FrameLife, set_of, unstarted, Replays}
use Rattle.mm_move_classes.specs.{class_of, class_of_got, classes, classes_from, is_busy, is_trim, makes_room, makes_way, next_of, reads_into, MarksOf}
use Rattle.mm_move_classes.specs.{marks_after, no_marks, Class}
use Rattle.mm_move_classes.specs.declared.classes.Class.TheVariants as class
use Rattle.mm_reports.specs.{column_of, request_end, is_first_use, is_hard, is_on_paging_file, is_soft, is_zero_fill, page_faulted, place_of, process_of_line}
use Rattle.mm_reports.specs.{column_count, one_at, sum_in, SumsToClasses, Table, FaultTally, column_in, counted, no_tally, none_counted, one_in_column}
use Rattle.mm_reports.specs.{place_cmp, plus_one, tally_after, fault_tally, tally_from, with_class, with_end, with_fault}

-- ---- a table

-- each row has its eight columns
abbrev AreWide : {K : Type 0} → Table K → Type 0
AreWide [] = Unit {0}
AreWide (e ∷ es) = (length e.1 ≡ 8) × AreWide es

bumped : (xs : List ℕ) (i k : ℕ) → i < length xs → slice_index (one_in_column xs i) k ≡ (if i == k then 1 else 0) + slice_index xs k
bumped xs i k h = pick (i == k) refl
  where
    pick : (b : Bool) → (i == k) ≡ b → get_or (set xs i (get_or xs i 0 + 1)) k 0 ≡ cond b 1 0 + get_or xs k 0
    pick true e =
        let same : i ≡ k = eqb-true i k e in
        subst (λ (j : ℕ). get_or (set xs i (get_or xs i 0 + 1)) j 0 ≡ 1 + get_or xs j 0) same (omega (arith, get_or-set_same xs i (get_or xs i 0 + 1) 0 h))
    pick false e = omega (arith, get_or-set_other xs i k (get_or xs i 0 + 1) 0 (λ q. eqb-false i k e (sym q)))

none_there : (n k : ℕ) → slice_index (replicate n 0) k ≡ 0
none_there zero k = refl
none_there (suc n) zero = refl
none_there (suc n) (suc k) = none_there n k

wide_more : (xs : List ℕ) (i : ℕ) → length xs ≡ 8 → length (one_in_column xs i) ≡ 8
wide_more xs i w = length-set xs i (slice_index xs i + 1) ∙ w

module _ {K : Type 0} (cmp : K → K → Ordering) where
  wide : (t : Table K) (k : K) (column : ℕ) → AreWide t → AreWide (counted cmp t k column)
  wide [] k column w = (wide_more none_counted column refl, tt)
  wide (e ∷ es) k column w = pick (wide es k column w.1) (cmp k e.0)
    where
      pick : AreWide (counted cmp es k column) → (o : Ordering) → AreWide (match_ordering o ((k, one_in_column none_counted column) ∷ e ∷ es) ((e.0, one_in_column e.1 column) ∷ es) (e ∷ counted cmp es k column))
      pick again Less = (wide_more none_counted column refl, w)
      pick again Equal = (wide_more e.1 column w.0, w.1)
      pick again Greater = (w.0, again)

  -- a column has one more
  one_counted : (t : Table K) (k : K) (column j : ℕ) → AreWide t → column < 8 → sum_in j (counted cmp t k column) ≡ sum_in j t + (if column == j then 1 else 0)
  one_counted [] k column j w h = omega (arith, bumped none_counted column j h, none_there 8 j)
  one_counted (e ∷ es) k column j w h = pick (one_counted es k column j w.1 h) (cmp k e.0)
    where
      here : column < length e.1
      here = omega (arith, h, w.0)

      pick : sum_in j (counted cmp es k column) ≡ sum_in j es + (if column == j then 1 else 0) → (o : Ordering)
          → sum_in j (match_ordering o ((k, one_in_column none_counted column) ∷ e ∷ es) ((e.0, one_in_column e.1 column) ∷ es) (e ∷ counted cmp es k column)) ≡ sum_in j (e ∷ es) + (if column == j then 1 else 0)
      pick again Less = omega (arith, bumped none_counted column j h, none_there 8 j)
      pick again Equal = omega (arith, bumped e.1 column j here)
      pick again Greater = omega (arith, again)

-- ---- a fault

low_column : (c : Class) (j : ℕ) → column_of c ≡ Some j → j < 8
low_column class.DemandZeroAdded j e = absurd (none-some j e)
low_column class.FilePageAdded j e = absurd (none-some j e)
low_column class.CopyOnWriteFault j e = omega (arith, same_Some 6 j e)
low_column class.Deleted j e = absurd (none-some j e)
low_column class.DeletedInFlight j e = absurd (none-some j e)
low_column class.ZeroedByThread j e = absurd (none-some j e)
low_column class.ZeroedOnDemand j e = absurd (none-some j e)
low_column class.StandbyRepurposed j e = absurd (none-some j e)
low_column class.DemandZeroFault j e = omega (arith, same_Some 5 j e)
low_column class.FrameForCopy j e = absurd (none-some j e)
low_column class.HardFaultFromPagingFile j e = omega (arith, same_Some 0 j e)
low_column class.HardFaultFromFile j e = omega (arith, same_Some 0 j e)
low_column class.PageInDone j e = absurd (none-some j e)
low_column class.CollidedFault j e = omega (arith, same_Some 7 j e)
low_column class.PageInDoneDeleted j e = absurd (none-some j e)
low_column class.PageInFailed j e = absurd (none-some j e)
low_column class.PageInFailedDeleted j e = absurd (none-some j e)
low_column class.MadeValid j e = absurd (none-some j e)
low_column class.FirstUse j e = absurd (none-some j e)
low_column class.SoftFaultFromStandby j e = omega (arith, same_Some 1 j e)
low_column class.SoftFaultFromModified j e = omega (arith, same_Some 2 j e)
low_column class.SoftFaultInTransition j e = omega (arith, same_Some 3 j e)
low_column class.SoftFaultShared j e = omega (arith, same_Some 4 j e)
low_column class.PlaceEnds j e = absurd (none-some j e)
low_column class.Trimmed j e = absurd (none-some j e)
low_column class.TrimmedForWantOfFrames j e = absurd (none-some j e)
low_column class.Replaced j e = absurd (none-some j e)
low_column class.MakesWayForCopy j e = absurd (none-some j e)
low_column class.FirstWrite j e = absurd (none-some j e)
low_column class.FirstWriteInFlight j e = absurd (none-some j e)
low_column class.WriteByWriter j e = absurd (none-some j e)
low_column class.WriteForWantOfFrames j e = absurd (none-some j e)
low_column class.WriteByFlush j e = absurd (none-some j e)
low_column class.WriteDone j e = absurd (none-some j e)
low_column class.WriteDoneChanged j e = absurd (none-some j e)
low_column class.WriteDoneDeleted j e = absurd (none-some j e)
low_column class.WriteFailed j e = absurd (none-some j e)
low_column class.WriteFailedDeleted j e = absurd (none-some j e)

low_in : (c : Option Class) (j : ℕ) → column_in c ≡ Some j → j < 8
low_in None j e = absurd (none-some j e)
low_in (Some c) j e = low_column c j e

-- what a fault_tally keeps
record AreRows (t : FaultTally) : Type 0 where
  pages : AreWide t.pages
  processes : AreWide t.processes

-- the sums of a column, from one fault_tally to another
record Sums (t t' : FaultTally) (j n : ℕ) : Type 0 where
  pages : sum_in j t'.pages ≡ sum_in j t.pages + n
  processes : sum_in j t'.processes ≡ sum_in j t.processes + n

fault_rows_wide : (t : FaultTally) (pid : ℕ) (key : Option Key) (column : Option ℕ) → AreRows t → AreRows (with_fault t pid key column)
fault_rows_wide t pid None column w = w
fault_rows_wide t pid (Some k) None w = w
fault_rows_wide t pid (Some k) (Some column) w = record {
  pages = wide place_cmp t.pages (place_of pid k) column w.pages;
  processes = wide nat_cmp t.processes pid column w.processes;
}

fault_sums : (t : FaultTally) (pid : ℕ) (key : Option Key) (column : Option ℕ) (j : ℕ) → AreRows t → ((i : ℕ) → column ≡ Some i → i < 8) → (key ≡ None → column ≡ None)
    → Sums t (with_fault t pid key column) j (one_at column j)
fault_sums t pid None column j w low none =
    let e : 0 ≡ one_at column j = ap (λ (o : Option ℕ). one_at o j) (sym (none refl)) in
    record { pages = omega (arith, e); processes = omega (arith, e) }
fault_sums t pid (Some k) None j w low none = record { pages = omega arith; processes = omega arith }
fault_sums t pid (Some k) (Some column) j w low none = record {
  pages = one_counted place_cmp t.pages (place_of pid k) column j w.pages (low column refl);
  processes = one_counted nat_cmp t.processes pid column j w.processes (low column refl);
}

-- ---- a move without a page is no fault

if_none : (b : Bool) (x y : Class) → column_of x ≡ None → column_of y ≡ None → column_of (if b then x else y) ≡ None
if_none true x y p q = p
if_none false x y p q = q

got_none : (l : FrameLife) (before : Option Move) (f : ℕ) (r : Record) → r.owner ≡ None → column_of (class_of_got l.kind r (reads_into f before)) ≡ None
got_none l before f r e =
    ap (λ (o : Option Key). column_of (if is_none o then class.PageInDoneDeleted else if is_access l.kind && not (reads_into f before) then class.CollidedFault else class.PageInDone)) e

map_owned : (l : FrameLife) (r : Record) (p : Place) → r.owner ≡ None
    → (unwrap_or (option_map (fits_place p) r.owner) false && not (is_read r.request) && is_none (l.valid p) && touches p.pid.0 l.kind && is_below_max (set_of l p.pid.0)) ≡ false
map_owned l r p e =
    ap (λ (o : Option Key). unwrap_or (option_map (fits_place p) o) false && not (is_read r.request) && is_none (l.valid p) && touches p.pid.0 l.kind && is_below_max (set_of l p.pid.0)) e

no_page : (l : FrameLife) (v : MarksOf) (before : Option Move) (m : Move) (next : Option Move) → IsLegal m l → page_faulted l m ≡ None → column_in (class_of l v before m next) ≡ None
no_page l v before (move.At n k) next legal e = refl
no_page l v before (move.Add k b) next legal e = absurd (none-some k (sym e))
no_page l v before (move.Drop k) next legal e = if_none (is_busy l (l.stands k)) class.DeletedInFlight class.Deleted refl refl
no_page l v before (move.Clear f) next legal e = if_none (is_zeroer l.kind) class.ZeroedByThread class.ZeroedOnDemand refl refl
no_page l v before (move.Steal f) next legal e = refl
no_page l v before (move.Give f k) next legal e = absurd (none-some k (sym e))
no_page l v before (move.Read f k) next legal e = absurd (none-some k (sym e))
no_page l v before (move.Got f) next legal e = got_none l before f.0 (record_at l.frames f.0) e
no_page l v before (move.Bad f) next legal e = if_none (is_none (record_at l.frames f.0).owner) class.PageInFailedDeleted class.PageInFailed refl refl
no_page l v before (move.Map f p) next legal e =
    let bad : false ≡ true = sym (map_owned l (record_at l.frames f.0) p e) ∙ legal in cc
no_page l v before (move.Unmap p) next legal e =
    let short : Bool = is_access l.kind && is_short l && not (makes_room l p.pid.0 next) in
    let z : Class = if short then class.TrimmedForWantOfFrames else class.Replaced in
    let y : Class = if makes_way l p then class.MakesWayForCopy else z in
    let x : Class = if is_trim l.kind then class.Trimmed else y in
    if_none (is_unbind l.kind) class.PlaceEnds x refl (if_none (is_trim l.kind) class.Trimmed y refl
    (if_none (makes_way l p) class.MakesWayForCopy z refl (if_none short class.TrimmedForWantOfFrames class.Replaced refl refl)))
no_page l v before (move.Soil f) next legal e = if_none (has_request (record_at l.frames f.0).request) class.FirstWriteInFlight class.FirstWrite refl refl
no_page l v before (move.Write f s) next legal e =
    if_none (is_writer l.kind) class.WriteByWriter (if is_access l.kind then class.WriteForWantOfFrames else class.WriteByFlush) refl (if_none (is_access l.kind) class.WriteForWantOfFrames class.WriteByFlush refl refl)
no_page l v before (move.Wrote f) next legal e =
    if_none (is_none (record_at l.frames f.0).owner) class.WriteDoneDeleted (if is_again (record_at l.frames f.0).request then class.WriteDoneChanged else class.WriteDone) refl (if_none (is_again (record_at l.frames f.0).request) class.WriteDoneChanged class.WriteDone refl refl)
no_page l v before (move.Lost f) next legal e = if_none (is_none (record_at l.frames f.0).owner) class.WriteFailedDeleted class.WriteFailed refl refl

-- ---- a move

-- what is counted beside the faults leaves the tables as they are
end_keeps : (t : FaultTally) (c : Option Class) (paged : Bool) (how : Option ℕ) (j n : ℕ) (t0 : FaultTally) → Sums t0 t j n → Sums t0 (with_end (with_class t c) paged how) j n
end_keeps t c paged None j n t0 s = record { pages = s.pages; processes = s.processes }
end_keeps t c true (Some how) j n t0 s = record { pages = s.pages; processes = s.processes }
end_keeps t c false (Some how) j n t0 s = record { pages = s.pages; processes = s.processes }

end_wide : (t : FaultTally) (c : Option Class) (paged : Bool) (how : Option ℕ) → AreRows t → AreRows (with_end (with_class t c) paged how)
end_wide t c paged None w = record { pages = w.pages; processes = w.processes }
end_wide t c true (Some how) w = record { pages = w.pages; processes = w.processes }
end_wide t c false (Some how) w = record { pages = w.pages; processes = w.processes }

move_wide : (t : FaultTally) (l : FrameLife) (m : Move) (c : Option Class) → AreRows t → AreRows (tally_after t l m c)
move_wide t l m c w = end_wide (with_fault t (process_of_line l.kind) (page_faulted l m) (column_in c)) c (is_on_paging_file l m) (request_end m) (fault_rows_wide t (process_of_line l.kind) (page_faulted l m) (column_in c) w)

move_sums : (t : FaultTally) (l : FrameLife) (m : Move) (c : Option Class) (j : ℕ) → AreRows t → (page_faulted l m ≡ None → column_in c ≡ None) → Sums t (tally_after t l m c) j (one_at (column_in c) j)
move_sums t l m c j w none =
    end_keeps (with_fault t (process_of_line l.kind) (page_faulted l m) (column_in c)) c (is_on_paging_file l m) (request_end m) j (one_at (column_in c) j) t (fault_sums t (process_of_line l.kind) (page_faulted l m) (column_in c) j w (low_in c) none)

-- ---- the moves that come

joined : (a b c : FaultTally) (j n k : ℕ) → Sums a b j n → Sums b c j k → Sums a c j (n + k)
joined a b c j n k s u = record { pages = omega (arith, s.pages, u.pages); processes = omega (arith, s.processes, u.processes) }

sums_from : (ms : List Move) (t : FaultTally) (l l' : FrameLife) (v : MarksOf) (before : Option Move) (j : ℕ) → AreRows t → Replays ms l l'
    → Sums t (tally_from t l v before ms) j (column_count j (classes_from l v before ms))
sums_from [] t l l' v before j w r = record { pages = omega arith; processes = omega arith }
sums_from (m ∷ ms) t l l' v before j w r =
    let c : Option Class = class_of l v before m (next_of ms) in
    joined t (tally_after t l m c) (tally_from (tally_after t l m c) (after_move l m) (marks_after v m) (Some m) ms) j (one_at (column_in c) j) (column_count j (classes_from (after_move l m) (marks_after v m) (Some m) ms))
    (move_sums t l m c j w (no_page l v before m (next_of ms) r.0))
    (sums_from ms (tally_after t l m c) (after_move l m) l' (marks_after v m) (Some m) j (move_wide t l m c w) r.1)

-- ---- as a check of a log counts

module _ (part : FaultTally → ℕ) (is : Option Class → Bool) (one : (t : FaultTally) (l : FrameLife) (m : Move) (c : Option Class) → part (tally_after t l m c) ≡ part t + cond (is c) 1 0) where
  part_from : (ms : List Move) (t : FaultTally) (l : FrameLife) (v : MarksOf) (before : Option Move) → part (tally_from t l v before ms) ≡ part t + count_by is (classes_from l v before ms)
  part_from [] t l v before = omega arith
  part_from (m ∷ ms) t l v before =
      let c : Option Class = class_of l v before m (next_of ms) in
      omega (arith, one t l m c, part_from ms (tally_after t l m c) (after_move l m) (marks_after v m) (Some m), sum_by-cons (λ x. cond (is x) 1 0) c (classes_from (after_move l m) (marks_after v m) (Some m) ms))

one_if : (b : Bool) (n : ℕ) → plus_one b n ≡ n + cond b 1 0
one_if true n = refl
one_if false n = omega arith

record Parts (t t' : FaultTally) (c : Option Class) : Type 0 where
  zero_fills : t'.zero_fills ≡ t.zero_fills + cond (is_zero_fill c) 1 0
  hard : t'.hard ≡ t.hard + cond (is_hard c) 1 0
  soft : t'.soft ≡ t.soft + cond (is_soft c) 1 0
  first_uses : t'.first_uses ≡ t.first_uses + cond (is_first_use c) 1 0

class_parts : (t : FaultTally) (c : Option Class) → Parts t (with_class t c) c
class_parts t c = record { zero_fills = one_if (is_zero_fill c) t.zero_fills; hard = one_if (is_hard c) t.hard; soft = one_if (is_soft c) t.soft; first_uses = one_if (is_first_use c) t.first_uses }

end_parts : (t : FaultTally) (c : Option Class) (paged : Bool) (how : Option ℕ) → Parts t (with_end (with_class t c) paged how) c
end_parts t c paged None = class_parts t c
end_parts t c true (Some how) = let p = class_parts t c in record { zero_fills = p.zero_fills; hard = p.hard; soft = p.soft; first_uses = p.first_uses }
end_parts t c false (Some how) = let p = class_parts t c in record { zero_fills = p.zero_fills; hard = p.hard; soft = p.soft; first_uses = p.first_uses }

fault_parts : (t t' : FaultTally) (pid : ℕ) (key : Option Key) (column : Option ℕ) (c : Option Class) → Parts (with_fault t pid key column) t' c → Parts t t' c
fault_parts t t' pid None column c p = p
fault_parts t t' pid (Some k) None c p = p
fault_parts t t' pid (Some k) (Some column) c p = record { zero_fills = p.zero_fills; hard = p.hard; soft = p.soft; first_uses = p.first_uses }

move_parts : (t : FaultTally) (l : FrameLife) (m : Move) (c : Option Class) → Parts t (tally_after t l m c) c
move_parts t l m c =
    fault_parts t (tally_after t l m c) (process_of_line l.kind) (page_faulted l m) (column_in c) c (end_parts (with_fault t (process_of_line l.kind) (page_faulted l m) (column_in c)) c (is_on_paging_file l m) (request_end m))

from_none : (a b : ℕ) → a ≡ 0 + b → a ≡ b
from_none a b e = omega (arith, e)

pub sums_to_classes : (moves : List Move) (l : FrameLife) → Replays moves unstarted l → SumsToClasses (fault_tally moves) (classes moves)
sums_to_classes moves l r =
    let w : AreRows no_tally = record { pages = tt; processes = tt } in
    let t : FaultTally = fault_tally moves in
    let cs : List (Option Class) = classes moves in
    record {
      pages = λ j. from_none (sum_in j t.pages) (column_count j cs) (sums_from moves no_tally unstarted l no_marks None j w r).pages;
      processes = λ j. from_none (sum_in j t.processes) (column_count j cs) (sums_from moves no_tally unstarted l no_marks None j w r).processes;
      zero_fills = from_none t.zero_fills (count_by is_zero_fill cs) (part_from (λ t. t.zero_fills) is_zero_fill (λ t l m c. (move_parts t l m c).zero_fills) moves no_tally unstarted no_marks None);
      hard = from_none t.hard (count_by is_hard cs) (part_from (λ t. t.hard) is_hard (λ t l m c. (move_parts t l m c).hard) moves no_tally unstarted no_marks None);
      soft = from_none t.soft (count_by is_soft cs) (part_from (λ t. t.soft) is_soft (λ t l m c. (move_parts t l m c).soft) moves no_tally unstarted no_marks None);
      first_uses = from_none t.first_uses (count_by is_first_use cs) (part_from (λ t. t.first_uses) is_first_use (λ t l m c. (move_parts t l m c).first_uses) moves no_tally unstarted no_marks None);
    }
