-- What the table shows of a frame that comes to stand elsewhere.
use Rattle.std.proofs.Common.{◌≡◌, ◌≢◌, ℕ, ◌<◌, ◌≤◌, Bool, true, false, cond, List, [], ◌∷◌, ◌++◌, length, set, Some, None, refl, sym, ap, ◌∙◌, arith, get_or-set_same, get_or-set_other, inl, inr}
use Rattle.std.specs.Prelude.{◌==◌, ◌||◌, ◌&&◌, not, if◌then◌else◌, is_some, slice_get}
use Rattle.std.proofs.lemmas.List.{set-get_or}
use Rattle.std.proofs.lemmas.Option.{get_or_from_slice_get}
use Rattle.mm_types.specs.{Record, Request}
use Rattle.mm_types.specs.declared.frames.Request.TheVariants as request
use Rattle.mm_types.proofs.{and_false, same_or_not, get_within, get_set_same, differ}
use Rattle.mm_move_rules.specs.{FrameTable, blank, record_at, rest, is_idle, is_read, is_write, is_again, has_request, off_lists, disowned, with_record}
use Rattle.mm_move_rules.specs.{settled, settled_by}
use Rattle.mm_page_lists.specs.{list_at, number_at, without}
use Rattle.mm_page_lists.proofs.{cut, without_other, without_one}
use Rattle.mm_ram.specs.{page_at, zero_page}
use Rattle.mm_pfn_database.specs.{Standing, FramesOf, standing_at, can_be_soiled, gone_free, list_for, ArePlaced, CanStand, is_kept, is_zero, is_in_hand}
use Rattle.mm_pfn_database.specs.{table_of, lists_of, off_all, joined, stood}
use Rattle.mm_pfn_database.specs.declared.standing.Standing.TheVariants.{Zeroed, Free, Bound, Cleared, Taken}
use Rattle.mm_pfn_database.proofs.Placings.{as_bound, as_empty, used_low, used_bound, used_kept, used_written, listed_off}
use Rattle.mm_pfn_database.proofs.AtRest.{bound_high, on_low, low_blank}

busy_settled : (d : FrameTable) (f : ℕ) (r : Record) → is_idle r ≡ false → settled_by r d f ≡ d
busy_settled d f r e = ap (λ (b : Bool). if b then (if r.changed then record d { modified = d.modified ++ f ∷ [] } else record d { standby = d.standby ++ f ∷ [] }) else d) e

-- ---- a bound frame

module _ (v : FramesOf) (a : ArePlaced v) (f : ℕ) (used : record_at v.table f ≢ blank) where
  bound : standing_at v.standing f ≡ Bound
  bound = used_bound a f used

  -- it is on neither zeroed nor free
  off_low : (j : ℕ) → j < 2 → without f (list_at (lists_of v.table) j) ≡ list_at (lists_of v.table) j
  off_low j low = without_other f (list_at (lists_of v.table) j) (λ k e.
      absurd (omega (arith, low, bound_high (record_at v.table f) j (ap (λ (s : Standing). list_for s (record_at v.table f)) (sym bound) ∙ a.listed.held j k f e))))

  off_bound : off_all v.table f ≡ off_lists v.table f
  off_bound =
      let z = off_low 0 (omega arith) in
      let e = off_low 1 (omega arith) in
      λ t. record { records = v.table.records; zeroed = z t; free = e t; standby = without f v.table.standby; modified = without f v.table.modified }

  -- with shares or a request it is on no list
  pub busy_off : is_idle (record_at v.table f) ≡ false → off_lists v.table f ≡ v.table
  busy_off busy =
      let none = listed_off a f (ap (λ (s : Standing). is_some (list_for s (record_at v.table f))) bound ∙ ap (λ (b : Bool). is_some {T = ℕ} (cond b (Some (cond (record_at v.table f).changed 3 2)) None)) busy) in
      let s = without_other f v.table.standby (none 2) in
      let m = without_other f v.table.modified (none 3) in
      λ t. record { records = v.table.records; zeroed = v.table.zeroed; free = v.table.free; standby = s t; modified = m t }

  pub bound_fits : (r : Record) → (is_kept (record_at v.table f) ≡ true → is_kept r ≡ true) → (is_read r.request ≡ false → is_read (record_at v.table f).request ≡ true → is_some (page_at v.bytes f) ≡ true) → CanStand v f r Bound
  bound_fits r kept written = record {
    there = used_low a f used;
    holds = as_bound r (page_at v.bytes f) (kept (used_kept a f used)) (λ e. by (is_read (record_at v.table f).request) (written e) (used_written a f used));
  }
    where
      by : {P : Type 0} (b : Bool) → (b ≡ true → P) → (b ≡ false → P) → P
      by true p q = p refl
      by false p q = q refl

  now_bound : (r : Record) → stood v f r Bound ≡ record v { table = settled_by r (with_record (off_lists v.table f) f r) f }
  now_bound r =
      ap (λ (d : FrameTable). record { table = settled_by r (with_record d f r) f; bytes = v.bytes; standing = set v.standing f Bound }) off_bound
      ∙ ap (λ (ss : List Standing). record { table = settled_by r (with_record (off_lists v.table f) f r) f; bytes = v.bytes; standing = ss })
      (ap (λ (s : Standing). set v.standing f s) (sym bound) ∙ set-get_or v.standing f Bound)

  pub now_left : (r : Record) → is_idle r ≡ false → stood v f r Bound ≡ record v { table = with_record (off_lists v.table f) f r }
  now_left r busy = now_bound r ∙ ap (λ (d : FrameTable). record v { table = d }) (busy_settled (with_record (off_lists v.table f) f r) f r busy)

  pub now_settled : (r : Record) → is_idle (record_at v.table f) ≡ false → stood v f r Bound ≡ record v { table = settled (with_record v.table f r) f }
  now_settled r busy =
      now_bound r ∙ ap (λ (d : FrameTable). record v { table = settled_by r (with_record d f r) f }) (busy_off busy)
      ∙ ap (λ (q : Record). record v { table = settled_by q (with_record v.table f r) f }) (sym (get_or-set_same v.table.records f r blank (used_low a f used)))

  pub now_free : stood v f blank Free ≡ gone_free v f
  now_free =
      ap (λ (d : FrameTable). record { table = joined Free blank (with_record d f blank) f; bytes = v.bytes; standing = set v.standing f Free }) off_bound

-- ---- a frame in hand

module _ (v : FramesOf) (a : ArePlaced v) {f g : ℕ} (is : f ≡ g) {s : Standing} (held : slice_get v.standing g ≡ Some s) (out : is_in_hand s ≡ true) where
  stands : standing_at v.standing f ≡ s
  stands = ap (λ (x : ℕ). standing_at v.standing x) is ∙ get_or_from_slice_get v.standing g s Bound held

  inside : f < length v.table.records
  inside = omega (arith, get_within v.standing g s held, is, a.standings)

  off_hand : off_all v.table f ≡ v.table
  off_hand =
      let none = listed_off a f (ap (λ (x : Standing). is_some (list_for x (record_at v.table f))) stands ∙ hand_off s (record_at v.table f) out) in
      let z = without_other f v.table.zeroed (none 0) in
      let e = without_other f v.table.free (none 1) in
      let b = without_other f v.table.standby (none 2) in
      let m = without_other f v.table.modified (none 3) in
      λ t. record { records = v.table.records; zeroed = z t; free = e t; standby = b t; modified = m t }
    where
      hand_off : (s : Standing) (r : Record) → is_in_hand s ≡ true → is_some (list_for s r) ≡ false
      hand_off Zeroed r e = let bad : false ≡ true = e in cc
      hand_off Free r e = let bad : false ≡ true = e in cc
      hand_off Bound r e = let bad : false ≡ true = e in cc
      hand_off Cleared r e = refl
      hand_off Taken r e = refl

  empty : record_at v.table f ≡ blank
  empty = (a.holds f inside).empty (λ e. let bad : true ≡ false = sym out ∙ ap is_in_hand (sym stands ∙ e) in cc)

  pub hand_zero : is_zero s ≡ true → page_at v.bytes f ≡ Some zero_page
  hand_zero e = (a.holds f inside).zero (ap is_zero stands ∙ e)

  pub hand_fits : (s' : Standing) → s' ≢ Bound → (is_zero s' ≡ true → page_at v.bytes f ≡ Some zero_page) → CanStand v f blank s'
  hand_fits s' free zero = record { there = inside; holds = as_empty s' blank (page_at v.bytes f) free refl zero }

  pub given_fits : (r : Record) → is_kept r ≡ true → (is_read r.request ≡ false → is_some (page_at v.bytes f) ≡ true) → CanStand v f r Bound
  given_fits r kept written = record { there = inside; holds = as_bound r (page_at v.bytes f) kept written }

  pub now_given : (r : Record) (s' : Standing) → stood v f r s' ≡ record v { table = joined s' r (with_record v.table g r) g; standing = set v.standing g s' }
  now_given r s' =
      ap (λ (d : FrameTable). record { table = joined s' r (with_record d f r) f; bytes = v.bytes; standing = set v.standing f s' }) off_hand
      ∙ ap (λ (x : ℕ). record { table = joined s' r (with_record v.table x r) x; bytes = v.bytes; standing = set v.standing x s' }) is

  -- with no page
  pub now_put : (s' : Standing) → stood v f blank s' ≡ record v { table = joined s' blank v.table g; standing = set v.standing g s' }
  now_put s' =
      now_given blank s'
      ∙ ap (λ (rs : List Record). record v { table = joined s' blank (record v.table { records = rs }) g; standing = set v.standing g s' })
      (ap (λ (r : Record). set v.table.records g r) (sym (ap (λ (x : ℕ). record_at v.table x) (sym is) ∙ empty)) ∙ set-get_or v.table.records g blank)

-- ---- the first of a list is taken into hand

rest_is : (xs : List ℕ) → cut xs 0 ≡ rest xs
rest_is [] = refl
rest_is (x ∷ xs) = refl

module _ (v : FramesOf) (a : ArePlaced v) {f : ℕ} (i : ℕ) (inside : i < 4) (first : number_at (lists_of v.table) i 0 ≡ Some f) where
  abbrev ls : List (List ℕ)
  ls = lists_of v.table

  abbrev popped : List (List ℕ)
  popped = set ls i (rest (list_at ls i))

  without_at : (j : ℕ) → without f (list_at ls j) ≡ list_at popped j
  without_at j = elim (same_or_not j i) [
    | inl q ↦
        ap (λ (x : ℕ). without f (list_at ls x)) q
        ∙ without_one f (list_at ls i) 0 first (λ k e. (a.apart.once i i k 0 f e first).1) ∙ rest_is (list_at ls i)
        ∙ sym (ap (λ (x : ℕ). list_at popped x) q ∙ get_or-set_same ls i (rest (list_at ls i)) [] inside)
    | inr d ↦
        without_other f (list_at ls j) (λ k e. d (a.apart.once j i k 0 f e first).0)
        ∙ sym (get_or-set_other ls i j (rest (list_at ls i)) [] d)
  ]

  pub first_fits : (s : Standing) → s ≢ Bound → (is_zero s ≡ true → page_at v.bytes f ≡ Some zero_page) → CanStand v f blank s
  first_fits s free zero = record { there = on_low a f i 0 first; holds = as_empty s blank (page_at v.bytes f) free refl zero }

  pub first_held : (s : Standing) → slice_get (set v.standing f s) f ≡ Some s
  first_held s = get_set_same v.standing f s (omega (arith, on_low a f i 0 first, a.standings))

  pub now_first : (s : Standing) → stood v f blank s ≡ record v { table = joined s blank (table_of (set v.table.records f blank) popped) f; standing = set v.standing f s }
  now_first s =
      let z = without_at 0 in
      let e = without_at 1 in
      let b = without_at 2 in
      let m = without_at 3 in
      λ t. record {
        table = joined s blank (record { records = set v.table.records f blank; zeroed = z t; free = e t; standby = b t; modified = m t }) f;
        bytes = v.bytes;
        standing = set v.standing f s;
      }

  -- an empty frame has no other record
  pub still_empty : i < 2 → set v.table.records f blank ≡ v.table.records
  still_empty low = ap (λ (r : Record). set v.table.records f r) (sym (low_blank a f i 0 low first)) ∙ set-get_or v.table.records f blank

-- ---- requests

pub request_busy : (r : Record) → has_request r.request ≡ true → is_idle r ≡ false
request_busy r e = ap (λ (b : Bool). (r.shares == 0) && not b) e ∙ and_false (r.shares == 0)

pub shared_busy : (r : Record) → 1 ≤ r.shares → is_idle r ≡ false
shared_busy r n = ap (λ (b : Bool). b && not (has_request r.request)) (differ r.shares 0 (λ e. omega arith))

pub shared_used : (r : Record) → 1 ≤ r.shares → r ≢ blank
shared_used r n e = absurd (omega (arith, n, ap (λ (q : Record). q.shares) e))

or_left : (o h z : Bool) → z ≡ false → (o || (h && z)) ≡ true → o ≡ true
or_left true h z e t = refl
or_left false true z e t = let bad : true ≡ false = sym t ∙ e in cc
or_left false false z e t = let bad : false ≡ true = t in cc

pub shared_owned : (r : Record) → 1 ≤ r.shares → is_kept r ≡ true → is_some r.owner ≡ true
shared_owned r n k = or_left (is_some r.owner) (has_request r.request) (r.shares == 0) (differ r.shares 0 (λ e. omega arith)) k

soiled_by : (changed_page : Bool) (q : Request) → ((not changed_page && not (has_request q)) || (is_write q && not (is_again q))) ≡ true → is_read q ≡ false
soiled_by c request.None e = refl
soiled_by true request.Read e = let bad : false ≡ true = e in cc
soiled_by false request.Read e = let bad : false ≡ true = e in cc
soiled_by c request.Write e = refl
soiled_by c request.WriteAgain e = refl

pub soiled_no_read : (r : Record) → can_be_soiled r ≡ true → is_read r.request ≡ false
soiled_no_read r e = soiled_by r.changed r.request e

-- a page that is no more, with its request still there
pub disowned_kept : (r : Record) → has_request r.request ≡ true → r.shares ≡ 0 → is_kept (disowned r) ≡ true
disowned_kept r h z = ap (λ (b : Bool). b && (r.shares == 0)) h ∙ ap (λ (n : ℕ). n == 0) z
