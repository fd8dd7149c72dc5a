-- What each call leaves of a working set.
use Rattle.std.proofs.Common.{◌≡◌, ℕ, zero, suc, ◌+◌, ◌-◌, ◌^◌, ◌<◌, ◌≤◌, min, Bool, true, false, List, [], ◌∷◌, length, set, replicate, get_or, Option, Some, None, refl, sym, ap, ◌∙◌, subst, inl, inr, arith}
use Rattle.std.proofs.lemmas.Bool.{cases_lt, cases_eq}
use Rattle.std.proofs.lemmas.List.{get_or_default, get_or_past, get_or-replicate, length-replicate, length-set}
use Rattle.std.specs.Prelude.{slice_get, IsSome}
use Rattle.std.specs.Ordering.{nat_cmp}
use Rattle.std.specs.FinMap as finite
use Rattle.std.specs.FinMap.{FinMap}
use Rattle.mm_types.specs.{found}
use Rattle.mm_types.proofs.{get_table, is_insert, is_remove, same, len_more, len_less}
use Rattle.slab.specs.Slab as slabs
use Rattle.slab.specs.Slab.{Slab, slab_len, Updates}
use Rattle.mm_working_sets.specs.{WorkingSetOf, EachAtOnePlace, AgesBy, older, places_of, room_of, maps, last_round, KnowsUses, IsWorkingSet}
use Rattle.mm_working_sets.proofs.MapLemmas.{kept, each_add, each_remove, each_used, each_older, uses_add, uses_remove, uses_used, uses_older}

abbrev Map : Type 0
Map = FinMap nat_cmp ℕ

abbrev pub made : ℕ → ℕ → Bool → Map → Map → WorkingSetOf
made min max reserved ages places = record { min = min; max = max; reserved = reserved; ages = ages; places = places }

-- ---- the places

found_at : (slots : List (Option ℕ)) (p : ℕ) → found (λ page. page) (slice_get slots p) ≡ get_or slots p None
found_at [] p = refl
found_at (w ∷ rest) zero = refl
found_at (w ∷ rest) (suc p) = found_at rest p

pub get-places : (places : Slab ℕ) (p : ℕ) → finite.get (places_of places) p ≡ slabs.get places p
get-places places p = get_table (λ page. page) places.slots p ∙ found_at places.slots p

places_put : (old new : Slab ℕ) (p v : ℕ) → Updates old new p (Some v) → places_of new ≡ finite.insert (places_of old) p v
places_put old new p v updates =
    is_insert (places_of old) (places_of new) p v
    (get-places new p ∙ updates.changed)
    (λ q other. get-places new q ∙ updates.others q other ∙ sym (get-places old q))

places_gone : (old new : Slab ℕ) (p : ℕ) → Updates old new p None → places_of new ≡ finite.remove (places_of old) p
places_gone old new p updates =
    is_remove (places_of old) (places_of new) p
    (get-places new p ∙ updates.changed)
    (λ q other. get-places new q ∙ updates.others q other ∙ sym (get-places old q))

none_at : (places : Slab ℕ) (p : ℕ) → places.slots ≡ [] → slabs.get places p ≡ None
none_at places p empty = ap (λ (slots : List (Option ℕ)). get_or slots p None) empty

pub no_places : (places : Slab ℕ) → places.slots ≡ [] → places_of places ≡ finite.empty
no_places places empty = same (places_of places) finite.empty (λ p. get-places places p ∙ none_at places p empty ∙ sym (finite.get-empty nat_cmp p))

no_slots : (places : Slab ℕ) → places.slots ≡ [] → slab_len places ≡ 0
no_slots places empty = ap (λ (slots : List (Option ℕ)). slab_len (record places { slots = slots })) empty

-- a place in use, as the slab sees it
pub in_use : (places : Slab ℕ) (m : FinMap nat_cmp ℕ) (p : ℕ) → places_of places ≡ m → IsSome (finite.get m p) → IsSome (slabs.get places p)
in_use places m p view held =
    let P : Option ℕ → Type 0 = λ o. IsSome o in
    subst P (ap (λ (n : FinMap nat_cmp ℕ). finite.get n p) (sym view) ∙ get-places places p) held

less_one : (n k m : ℕ) → n ≡ k - 1 → k ≡ m + 1 → n ≡ m
less_one n k m e f = omega (arith, e, f)

-- ---- a page is taken in

module _ (most : ℕ) (old new : Slab ℕ) (ages : Map) (has_sets : Bool) (rounds : ℕ) (used_in : List ℕ) (place v : ℕ)
    (is : IsWorkingSet most old ages has_sets rounds used_in) (vacant : slabs.get old place ≡ None) (updates : Updates old new place (Some v)) (absent : finite.get ages v ≡ None) where
  pub insert_vacant : finite.get (places_of old) place ≡ None
  insert_vacant = get-places old place ∙ vacant

  places_is : places_of new ≡ finite.insert (places_of old) place v
  places_is = places_put old new place v updates

  pub insert_keeps : (later : Map) (sets_now : Bool) (stamp : ℕ) → slab_len old < most → slab_len new ≡ slab_len old + 1 → new.capacity ≡ old.capacity → place < new.capacity →
      later ≡ finite.insert ages v 0 → sets_now ≡ has_sets → stamp ≡ min rounds (last_round - 1) → IsWorkingSet most new later sets_now rounds (set used_in place stamp)
  insert_keeps later sets_now stamp free more capacity range is_later still is_stamp =
      let within : place < length used_in = omega (arith, range, capacity, is.enough) in
      let P : Map → Map → Type 0 = λ a m. EachAtOnePlace (maps a m) in
      let Q : Map → Map → Type 0 = λ a m. KnowsUses a m rounds (set used_in place stamp) in
      record {
        counted = ap finite.len places_is ∙ len_more (places_of old) place v insert_vacant ∙ ap (λ n. n + 1) is.counted ∙ sym more;
        few = omega (arith, more, free);
        room = omega (arith, is.room, capacity);
        fits = omega (arith, is.fits, capacity);
        enough = omega (arith, is.enough, capacity, length-set used_in place stamp);
        in_range = λ p w e. elim (cases_eq p place) [
          | inl here ↦ omega (arith, here, range)
          | inr other ↦ omega (arith, capacity, is.in_range p w (get-places old p ∙ sym (updates.others p other) ∙ sym (get-places new p) ∙ e))
        ];
        roomy = λ some. still ∙ is.roomy some;
        each = subst (λ a. P a (places_of new)) (sym is_later) (subst (P (finite.insert ages v 0)) (sym places_is) (each_add ages (places_of old) is.each place v absent insert_vacant));
        uses = subst (λ a. Q a (places_of new)) (sym is_later) (subst (Q (finite.insert ages v 0)) (sym places_is) (uses_add ages (places_of old) rounds used_in is.uses place v stamp within is_stamp));
      }

  pub insert_view : (min max : ℕ) (reserved : Bool) (later : Map) → later ≡ finite.insert ages v 0 →
      made min max reserved later (places_of new) ≡ record (made min max reserved ages (places_of old)) { ages = finite.insert ages v 0; places = finite.insert (places_of old) place v }
  insert_view min max reserved later is_later =
      ap (λ a. made min max reserved a (places_of new)) is_later ∙ ap (made min max reserved (finite.insert ages v 0)) places_is

-- ---- a page goes

module _ (most : ℕ) (old new : Slab ℕ) (ages : Map) (has_sets : Bool) (rounds : ℕ) (used_in : List ℕ) (place v : ℕ)
    (is : IsWorkingSet most old ages has_sets rounds used_in) (there : slabs.get old place ≡ Some v) (updates : Updates old new place None) where
  pub remove_page_at : finite.get (places_of old) place ≡ Some v
  remove_page_at = get-places old place ∙ there

  pub remove_held : IsSome (finite.get ages v)
  remove_held = is.each.aged place v remove_page_at

  places_left : places_of new ≡ finite.remove (places_of old) place
  places_left = places_gone old new place updates

  pub remove_keeps : (later : Map) (sets_now : Bool) → slab_len new + 1 ≡ slab_len old → new.capacity ≡ old.capacity →
      later ≡ finite.remove ages v → sets_now ≡ has_sets → IsWorkingSet most new later sets_now rounds used_in
  remove_keeps later sets_now fewer capacity is_later still =
      let P : Map → Map → Type 0 = λ a m. EachAtOnePlace (maps a m) in
      let Q : Map → Map → Type 0 = λ a m. KnowsUses a m rounds used_in in
      record {
        counted = less_one (finite.len (places_of new)) (finite.len (places_of old)) (slab_len new) (ap finite.len places_left ∙ len_less (places_of old) place v remove_page_at) (is.counted ∙ sym fewer);
        few = omega (arith, is.few, fewer);
        room = omega (arith, is.room, capacity);
        fits = omega (arith, is.fits, capacity);
        enough = omega (arith, is.enough, capacity);
        in_range = λ p w e. omega (arith, capacity, is.in_range p w (kept (places_of old) place p w (ap (λ (m : Map). finite.get m p) (sym places_left) ∙ e)).1);
        roomy = λ some. still ∙ is.roomy some;
        each = subst (λ a. P a (places_of new)) (sym is_later) (subst (P (finite.remove ages v)) (sym places_left) (each_remove ages (places_of old) is.each place v remove_page_at));
        uses = subst (λ a. Q a (places_of new)) (sym is_later) (subst (Q (finite.remove ages v)) (sym places_left) (uses_remove ages (places_of old) rounds used_in is.uses place v is.each remove_page_at));
      }

  pub remove_view : (min max : ℕ) (reserved : Bool) (later : Map) → later ≡ finite.remove ages v →
      made min max reserved later (places_of new) ≡ record (made min max reserved ages (places_of old)) { ages = finite.remove ages v; places = finite.remove (places_of old) place }
  remove_view min max reserved later is_later =
      ap (λ a. made min max reserved a (places_of new)) is_later ∙ ap (made min max reserved (finite.remove ages v)) places_left

-- ---- a page is used

module _ (most : ℕ) (places : Slab ℕ) (ages : Map) (has_sets : Bool) (rounds : ℕ) (used_in : List ℕ) (place v : ℕ)
    (is : IsWorkingSet most places ages has_sets rounds used_in) (there : finite.get (places_of places) place ≡ Some v) where
  pub touch_keeps : (later : Map) (sets_now : Bool) (stamp : ℕ) → later ≡ finite.insert ages v 0 → sets_now ≡ has_sets → stamp ≡ min rounds (last_round - 1) → IsWorkingSet most places later sets_now rounds (set used_in place stamp)
  touch_keeps later sets_now stamp is_later still is_stamp =
      let within : place < length used_in = omega (arith, is.in_range place v there, is.enough) in
      let P : Map → Type 0 = λ a. EachAtOnePlace (maps a (places_of places)) in
      let Q : Map → Type 0 = λ a. KnowsUses a (places_of places) rounds (set used_in place stamp) in
      record {
        counted = is.counted;
        few = is.few;
        room = is.room;
        fits = is.fits;
        enough = omega (arith, is.enough, length-set used_in place stamp);
        in_range = is.in_range;
        roomy = λ some. still ∙ is.roomy some;
        each = subst P (sym is_later) (each_used ages (places_of places) is.each place v there);
        uses = subst Q (sym is_later) (uses_used ages (places_of places) rounds used_in is.uses place v stamp within there is_stamp);
      }

  -- a page that was used in this round has age 0 already
  pub used_already : (read : ℕ) → read ≡ get_or used_in place read → read ≡ rounds → ages ≡ finite.insert ages v 0
  used_already read is_read now =
      let within : place < length used_in = omega (arith, is.in_range place v there, is.enough) in
      let same_round : get_or used_in place 0 ≡ rounds = get_or_default used_in place 0 read within ∙ sym is_read ∙ now in
      is_insert ages ages v 0 (is.uses.fresh place v there same_round) (λ q other. refl)

-- ---- all pages become older

pub older_keeps : (most : ℕ) (places : Slab ℕ) (ages : Map) (has_sets : Bool) (rounds : ℕ) (used_in : List ℕ) → IsWorkingSet most places ages has_sets rounds used_in →
    (later : Map) (sets_now : Bool) (next : ℕ) → AgesBy older ages later → sets_now ≡ has_sets → next ≡ min (rounds + 1) last_round → IsWorkingSet most places later sets_now next used_in
older_keeps most places ages has_sets rounds used_in is later sets_now next by still is_next = record {
  counted = is.counted;
  few = is.few;
  room = is.room;
  fits = is.fits;
  enough = is.enough;
  in_range = is.in_range;
  roomy = λ some. still ∙ is.roomy some;
  each = each_older ages (places_of places) is.each later by;
  uses = uses_older ages (places_of places) rounds used_in is.uses later next is_next;
}

-- ---- a set without a page

zeros_at : (n p : ℕ) → let zero_page : ℕ = 0 in get_or (replicate n zero_page) p 0 ≡ zero_page
zeros_at n p = elim (cases_lt p n) [
  | inl near ↦ get_or-replicate n p 0 0 near
  | inr far ↦ get_or_past (replicate n 0) p 0 (omega (arith, far, length-replicate {A = ℕ} n 0))
]

pub empty_keeps : (most rounds n : ℕ) (places : Slab ℕ) (ages : Map) (has_sets : Bool) (used_in : List ℕ) → places.slots ≡ [] → ages ≡ finite.empty → (0 < most → has_sets ≡ true) → most ≤ places.capacity →
    places.capacity < 2 ^ 32 → used_in ≡ replicate n 0 → places.capacity ≤ n → IsWorkingSet most places ages has_sets rounds used_in
empty_keeps most rounds n places ages has_sets used_in empty bare roomy room fits zeros enough =
    let none : (p v : ℕ) → finite.get (places_of places) p ≡ Some v → ⊥ = λ p v e. (let bad : None ≡ Some v = sym (get-places places p ∙ none_at places p empty) ∙ e in cc) in
    let no_age : (v age : ℕ) → finite.get ages v ≡ Some age → ⊥ =
    λ v age e. (let bad : None ≡ Some age = sym (ap (λ (m : Map). finite.get m v) bare ∙ finite.get-empty nat_cmp v) ∙ e in cc) in
    let zero_at : (p : ℕ) → get_or used_in p 0 ≡ 0 = λ p. ap (λ (xs : List ℕ). get_or xs p 0) zeros ∙ zeros_at n p in
    record {
      counted = ap finite.len (no_places places empty) ∙ finite.len-empty nat_cmp ℕ ∙ sym (no_slots places empty);
      few = omega (arith, no_slots places empty);
      room = room;
      fits = fits;
      enough = omega (arith, enough, ap length zeros, length-replicate {A = ℕ} n 0);
      in_range = λ p v e. absurd (none p v e);
      roomy = roomy;
      each = record {
        aged = λ p v e. absurd (none p v e);
        placed = λ v age e. absurd (no_age v age e);
        once = λ p q v e f. absurd (none p v e);
        young = λ v age e. absurd (no_age v age e);
      };
      uses = record {
        early = λ p. omega (arith, zero_at p);
        never_last = λ p. omega (arith, zero_at p);
        fresh = λ p v e now. absurd (none p v e);
      };
    }

-- where no place is in use both maps are empty
module _ (most : ℕ) (places : Slab ℕ) (ages : Map) (has_sets : Bool) (rounds : ℕ) (used_in : List ℕ) (is : IsWorkingSet most places ages has_sets rounds used_in) (none : finite.len (places_of places) ≡ 0) where
  none_in_use : places_of places ≡ finite.empty
  none_in_use = finite.empty_of_len (places_of places) none

  none_aged : ages ≡ finite.empty
  none_aged = same ages finite.empty (λ v. nothing v (finite.get ages v) refl ∙ sym (finite.get-empty nat_cmp v)) where
    nothing : (v : ℕ) (o : Option ℕ) → finite.get ages v ≡ o → finite.get ages v ≡ None
    nothing v None e = e
    nothing v (Some age) e =
        let at = is.each.placed v age e in
        let bad : None ≡ Some v = sym (ap (λ (m : Map). finite.get m at.0) none_in_use ∙ finite.get-empty nat_cmp at.0) ∙ at.1 in
        cc

  -- other places and pages, of which there are none, and room taken or given back
  pub same_maps : (min max : ℕ) (reserved now : Bool) (later : Map) (new : Slab ℕ) → later ≡ finite.empty → new.slots ≡ [] → made min max now later (places_of new) ≡ record (made min max reserved ages (places_of places)) { reserved = now }
  same_maps min max reserved now later new bare empty =
      ap (λ a. made min max now a (places_of new)) (bare ∙ sym none_aged) ∙ ap (made min max now ages) (no_places new empty ∙ sym none_in_use)

pub no_room : (max : ℕ) (reserved : Bool) (places : Slab ℕ) (ages : Map) (has_sets : Bool) (rounds : ℕ) (used_in : List ℕ) → IsWorkingSet (room_of reserved max) places ages has_sets rounds used_in → reserved ≡ false → finite.len (places_of places) ≡ 0
no_room max reserved places ages has_sets rounds used_in is none = omega (arith, is.counted, is.few, ap (λ b. room_of b max) none)
