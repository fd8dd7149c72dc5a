-- The bound places: what a change of the map at one place leaves, how many pages there are after it, and changes page by page.
use Rattle.std.proofs.Common.{◌≡◌, ◌<◌, ℕ, ◌+◌, Bool, true, false, cond, ◌∷◌, Option, Some, None, refl, sym, ap, ◌∙◌, subst, arith}
use Rattle.std.specs.Prelude.{◌==◌, ◌&&◌, ◌||◌, IsSome, is_some, unwrap_or, option_map, if◌then◌else◌}
use Rattle.std.specs.List.{sum_by}
use Rattle.std.specs.List.Sorted.{IsPermutation}
use Rattle.std.specs.Map.{values_of, remove_entry}
use Rattle.std.specs.HashMap.{HashMap, get, values, WritesThrough, PutsEntry}
use Rattle.std.proofs.lemmas.Bool.{eqb-true, and_parts}
use Rattle.std.proofs.lemmas.List.Sums.{sum_by-cons}
use Rattle.std.proofs.lemmas.Map.Entries.{sum_by-set_value, sum_by_values_permutation, sum_by-remove_entry}
use Rattle.mm_types.specs.{holds_page, Pid, Place}
use Rattle.mm_store.specs.{changed_in, place_at}
use Rattle.mm_move_rules.specs.{same_place}
use Rattle.mm_move_rules.specs.{changed}
use Rattle.mm_unpaged.specs.{BoundPlace, place_eq, page_count, range_from, page_in_place}

-- ---- the map

same_places : (k q : Place) → place_eq k q ≡ true → k ≡ q
same_places k q e =
    let h = and_parts (k.pid.0 == q.pid.0) (k.vpn.0 == q.vpn.0) e in
    λ i. record { pid = record { 0 = eqb-true k.pid.0 q.pid.0 h.0 i }; vpn = record { 0 = eqb-true k.vpn.0 q.vpn.0 h.1 i } }

-- a change at one place that leaves what `g` shows of it leaves what `g` shows of each
kept_at : {V : Type 0} (g : Option BoundPlace → V) (f h : Place → Option BoundPlace) (k : Place) (w : Option BoundPlace) → ((q : Place) → h q ≡ cond (place_eq k q) w (f q)) → g w ≡ g (f k) → ◌≡◌ {A = Place → V} (λ q. g (h q)) (λ q. g (f q))
kept_at {V} g f h k w e same = λ i. λ (q : Place). (ap g (e q) ∙ at (place_eq k q) q refl) i
  where
    at : (b : Bool) (q : Place) → place_eq k q ≡ b → g (cond b w (f q)) ≡ g (f q)
    at true q t = same ∙ ap (λ p. g (f p)) (same_places k q t)
    at false q t = refl

module _ {S : Type 0} (m n : HashMap Place BoundPlace S) (k : Place) (v w : BoundPlace) where
  pub kept_by_write : {V : Type 0} (g : Option BoundPlace → V) → WritesThrough place_eq (place_eq k) m w n → Some v ≡ get place_eq m k → g (Some w) ≡ g (Some v) → ◌≡◌ {A = Place → V} (λ q. g (get place_eq n q)) (λ q. g (get place_eq m q))
  kept_by_write g writes there same =
      kept_at g (get place_eq m) (get place_eq n) k (Some w) (writes.3 (subst IsSome there refl)).0 (same ∙ ap g there)

  pub count_by_write : WritesThrough place_eq (place_eq k) m w n → Some v ≡ get place_eq m k → sum_by page_count (values n) + page_count v ≡ sum_by page_count (values m) + page_count w
  count_by_write writes there =
      ap (λ es. sum_by page_count (values_of es) + page_count v) writes.0
      ∙ sum_by-set_value page_count (place_eq k) m.entries v w (sym there)

  pub count_kept_by_write : WritesThrough place_eq (place_eq k) m w n → Some v ≡ get place_eq m k → page_count w ≡ page_count v → sum_by page_count (values n) ≡ sum_by page_count (values m)
  count_kept_by_write writes there same =
      let count = count_by_write writes there in
      omega (arith, count, same)

module _ {S : Type 0} (m n : HashMap Place BoundPlace S) where
  pub count_in_order : IsPermutation m.entries n.entries → sum_by page_count (values n) ≡ sum_by page_count (values m)
  count_in_order perm = sum_by_values_permutation page_count m.entries n.entries perm

  -- a place without a page was bound that was not
  pub count_by_insert : (k : Place) (w : BoundPlace) (old : Option BoundPlace) → PutsEntry place_eq m n k w old → old ≡ None → page_count w ≡ 0 → sum_by page_count (values n) ≡ sum_by page_count (values m)
  count_by_insert k w None puts new none =
      let same = sum_by_values_permutation page_count ((k, w) ∷ m.entries) n.entries puts in
      let more = sum_by-cons page_count w (values m) in
      omega (arith, none, same, more)
  count_by_insert k w (Some old) puts new none = cc

  -- a place without a page is bound no more
  pub count_by_remove : (k : Place) → IsPermutation (remove_entry (place_eq k) m.entries) n.entries → page_in_place (get place_eq m k) ≡ None → sum_by page_count (values n) ≡ sum_by page_count (values m)
  count_by_remove k perm dead =
      let none : unwrap_or (option_map page_count (get place_eq m k)) 0 ≡ 0 = counts_none (get place_eq m k) dead in
      let all = sum_by-remove_entry page_count (place_eq k) m.entries in
      let same = sum_by_values_permutation page_count (remove_entry (place_eq k) m.entries) n.entries perm in
      omega (arith, none, all, same)
    where
      counts_none : (o : Option BoundPlace) → page_in_place o ≡ None → unwrap_or (option_map page_count o) 0 ≡ 0
      counts_none None e = refl
      counts_none (Some b) e = ap (λ p. if is_some p then 1 else 0) e

pub counts_without : (b : BoundPlace) → b.page ≡ None → page_count b ≡ 0
counts_without b e = ap (λ p. if is_some p then 1 else 0) e

pub counts_some : (b : BoundPlace) → IsSome b.page → page_count b ≡ 1
counts_some b e = ap (λ (t : Bool). if t then 1 else 0) e

pub none_there : (o : Option BoundPlace) → is_some o ≡ false → o ≡ None
none_there None e = refl
none_there (Some b) e = cc

-- ---- functions of places, changed page by page

no_page_held : (first p : ℕ) → holds_page (range_from first 0) p ≡ false
no_page_held first p = grind arith

one_more_held : (first i p : ℕ) → holds_page (range_from first (i + 1)) p ≡ ((p == first + i) || holds_page (range_from first i) p)
one_more_held first i p = grind arith

past_held : (first i : ℕ) → holds_page (range_from first i) (first + i) ≡ false
past_held first i = grind arith

pub held : (first n i : ℕ) → i < n → holds_page (range_from first n) (first + i) ≡ true
held first n i h = grind arith

module _ {V : Type 0} (pid : Pid) (first : ℕ) (f : Place → V) (v : V) where
  pub changed_none : changed_in pid (range_from first 0) f v ≡ f
  changed_none = λ i. λ (q : Place). at q (q.pid.0 == pid.0) i
    where
      at : (q : Place) (a : Bool) → (if a && holds_page (range_from first 0) q.vpn.0 then v else f q) ≡ f q
      at q true = ap (λ (b : Bool). if b then v else f q) (no_page_held first q.vpn.0)
      at q false = refl

  -- the next page after those that are changed already
  pub changed_more : (n : ℕ) → changed same_place (changed_in pid (range_from first n) f v) (place_at pid (first + n)) v ≡ changed_in pid (range_from first (n + 1)) f v
  changed_more n = λ i. λ (q : Place). (at q (q.pid.0 == pid.0) (q.vpn.0 == first + n) (holds_page (range_from first n) q.vpn.0)
      ∙ ap (λ (b : Bool). if (q.pid.0 == pid.0) && b then v else f q) (sym (one_more_held first n q.vpn.0))) i
    where
      at : (q : Place) (a b c : Bool) → (if a && b then v else if a && c then v else f q) ≡ (if a && (b || c) then v else f q)
      at q true true c = refl
      at q true false c = refl
      at q false b c = refl

  pub next_unchanged : (n : ℕ) → changed_in pid (range_from first n) f v (place_at pid (first + n)) ≡ f (place_at pid (first + n))
  next_unchanged n = at (pid.0 == pid.0)
    where
      at : (a : Bool) → (if a && holds_page (range_from first n) (first + n) then v else f (place_at pid (first + n))) ≡ f (place_at pid (first + n))
      at true = ap (λ (b : Bool). if b then v else f (place_at pid (first + n))) (past_held first n)
      at false = refl

pub ruleset paging = (changed_none, changed_more, next_unchanged, held)
