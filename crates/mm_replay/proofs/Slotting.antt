-- The lowest free slot, kept apart from the others.
use Rattle.std.proofs.Common.{◌≡◌, ◌≢◌, ℕ, zero, suc, ◌<◌, ◌≤◌, Bool, true, false, List, [], ◌∷◌, ◌++◌, length, get_or, Option, Some, None, refl, sym, ap, ◌∙◌, subst, inl, inr, arith}
use Rattle.std.specs.Prelude.{not, ◌&&◌, ◌==◌, slice_get, slice_set}
use Rattle.std.specs.Cmp.{unsigned_Decides}
use Rattle.std.proofs.lemmas.List.{set-set, set_comm, set-get_or, set-append_left}
use Rattle.std.proofs.lemmas.Option.{get_or_from_slice_get, slice_get-get_or}
use Rattle.mm_types.proofs.{same_or_not, get_set_same, get_set_other, get_within, differ}
use Rattle.mm_move_rules.specs.{is_lowest}
use Rattle.mm_slots.specs.{free_count, IsLowest}
use Rattle.mm_slots.proofs.{counted_some}
use Rattle.mm_replay.specs.{IsLowestIn, without_kept_slot, AreApartFrom}

-- where none is free each slot is taken
pub none_free : (xs : List Bool) (k : ℕ) (b : Bool) → free_count xs ≡ 0 → slice_get xs k ≡ Some b → b ≡ false
none_free xs k true e at = absurd (counted_some xs k at e)
none_free xs k false e at = refl

never_lowest : (s : ℕ) (xs : List Bool) → ((k : ℕ) → slice_get xs k ≡ Some true → ⊥) → is_lowest s xs ≡ false
never_lowest s [] h = refl
never_lowest zero (true ∷ xs) h = absurd (h 0 refl)
never_lowest zero (false ∷ xs) h = refl
never_lowest (suc s) (x ∷ xs) h = both x (is_lowest s xs) (never_lowest s xs (λ k. h (suc k)))
  where
    both : (a b : Bool) → b ≡ false → (not a && b) ≡ false
    both true b e = refl
    both false b e = e

pub lowest_none : (s : ℕ) (xs : List Bool) → free_count xs ≡ 0 → is_lowest s xs ≡ false
lowest_none s xs e = never_lowest s xs (λ k at. counted_some xs k at e)

one_bool : (a b : Bool) → Some a ≡ Some b → a ≡ b
one_bool a b e = cc

tail_lowest : (t : ℕ) (x : Bool) (xs : List Bool) → IsLowest (x ∷ xs) (suc t) → IsLowest xs t
tail_lowest t x xs l = record { is_free = l.is_free; below = λ k h. l.below (suc k) (omega (arith, h)) }

lowest_here : (t : ℕ) (xs : List Bool) → IsLowest xs t → is_lowest t xs ≡ true
lowest_here t [] l = let bad : None ≡ Some true = l.is_free in cc
lowest_here zero (x ∷ xs) l = one_bool x true l.is_free
lowest_here (suc t) (x ∷ xs) l =
    ap (λ b. not b && is_lowest t xs) (one_bool x false (l.below 0 (omega arith))) ∙ lowest_here t xs (tail_lowest t x xs l)

lowest_other : (s t : ℕ) (xs : List Bool) → s ≢ t → IsLowest xs t → is_lowest s xs ≡ false
lowest_other s t [] d l = let bad : None ≡ Some true = l.is_free in cc
lowest_other zero zero (x ∷ xs) d l = absurd (d refl)
lowest_other (suc s) zero (x ∷ xs) d l = ap (λ b. not b && is_lowest s xs) (one_bool x true l.is_free)
lowest_other zero (suc t) (x ∷ xs) d l = one_bool x false (l.below 0 (omega arith))
lowest_other (suc s) (suc t) (x ∷ xs) d l =
    ap (λ b. not b && is_lowest s xs) (one_bool x false (l.below 0 (omega arith)))
    ∙ lowest_other s t xs (λ e. d (ap suc e)) (tail_lowest t x xs l)

pub lowest_some : (s t : ℕ) (xs : List Bool) → IsLowest xs t → is_lowest s xs ≡ (t == s)
lowest_some s t xs l = elim (same_or_not t s) [
  | inl e ↦ ap (λ (k : ℕ). is_lowest k xs) (sym e) ∙ lowest_here t xs l ∙ sym ((unsigned_Decides t s).1 e)
  | inr d ↦ lowest_other s t xs (λ e. d (sym e)) l ∙ sym (differ t s d)
]

pub same_set : (xs : List Bool) (k : ℕ) (b : Bool) → slice_get xs k ≡ Some b → slice_set xs k b ≡ xs
same_set xs k b e = ap (λ (x : Bool). slice_set xs k x) (sym (get_or_from_slice_get xs k b false e)) ∙ set-get_or xs k false

pub past_set : (xs : List Bool) (k : ℕ) (b : Bool) → slice_get xs k ≡ None → slice_set xs k b ≡ xs
past_set [] k b e = refl
past_set (x ∷ xs) zero b e = let bad : Some x ≡ None = e in cc
past_set (x ∷ xs) (suc k) b e = ap (λ ys. x ∷ ys) (past_set xs k b e)

not_both : (xs : List Bool) (s t : ℕ) → slice_get xs s ≡ Some false → slice_get xs t ≡ Some true → s ≢ t
not_both xs s t a b e = let bad : Some false ≡ Some true = sym a ∙ ap (λ (k : ℕ). slice_get xs k) e ∙ b in cc

-- ---- a slot is given back

pub given_first : (free others : List Bool) (s : ℕ) → AreApartFrom free None others → slice_get free s ≡ Some false → AreApartFrom (slice_set free s true) (Some s) others
given_first free others s a taken =
    let within = get_within free s false taken in
    record {
      is_lowest = record {
        is_free = get_set_same free s true within;
        below = λ k h. get_set_other free s k true (λ e. omega (arith, e)) ∙ taken_at free k s within h a.is_lowest;
      };
      others_are = a.others_are ∙ sym (same_set free s false taken) ∙ sym (set-set free s true false);
    }
  where
    taken_at : (xs : List Bool) (k s : ℕ) → s < length xs → k < s → free_count xs ≡ 0 → slice_get xs k ≡ Some false
    taken_at xs k s within low none =
        let h = slice_get-get_or xs k false (omega (arith, within, low)) in
        h ∙ ap (λ (b : Bool). Some b) (none_free xs k (get_or xs k false) none h)

module _ (free others : List Bool) (s t : ℕ) (a : AreApartFrom free (Some t) others) (taken : slice_get free s ≡ Some false) where
  pub lowest_taken : slice_get others t ≡ Some false
  lowest_taken = ap (λ (xs : List Bool). slice_get xs t) a.others_are ∙ get_set_same free t false (get_within free t true a.is_lowest.is_free)

  pub given_behind : t < s → AreApartFrom (slice_set free s true) (Some t) (slice_set others s true)
  given_behind h = record {
    is_lowest = record {
      is_free = get_set_other free s t true (λ e. omega (arith, e, h)) ∙ a.is_lowest.is_free;
      below = λ k low. get_set_other free s k true (λ e. omega (arith, e, h, low)) ∙ a.is_lowest.below k low;
    };
    others_are = ap (λ (xs : List Bool). slice_set xs s true) a.others_are ∙ set_comm free t s false true (λ e. omega (arith, e, h));
  }

  pub given_before : s ≤ t → AreApartFrom (slice_set free s true) (Some s) (slice_set others t true)
  given_before h =
      let d = not_both free s t taken a.is_lowest.is_free in
      record {
        is_lowest = record {
          is_free = get_set_same free s true (get_within free s false taken);
          below = λ k low. get_set_other free s k true (λ e. omega (arith, e, low)) ∙ a.is_lowest.below k (omega (arith, low, h));
        };
        others_are =
            ap (λ (xs : List Bool). slice_set xs t true) a.others_are ∙ set-set free t false true ∙ same_set free t true a.is_lowest.is_free
            ∙ sym (same_set free s false taken) ∙ sym (set-set free s true false);
      }

-- ---- a slot is taken

pub lowest_is : (free others : List Bool) (lowest : Option ℕ) (s : ℕ) → AreApartFrom free lowest others → is_lowest s free ≡ true → others ≡ slice_set free s false
lowest_is free others None s a e = let bad : true ≡ false = sym e ∙ lowest_none s free a.is_lowest in cc
lowest_is free others (Some t) s a e =
    let same : t ≡ s = (unsigned_Decides t s).0 (sym (lowest_some s t free a.is_lowest) ∙ e) in
    a.others_are ∙ ap (λ (k : ℕ). slice_set free k false) same

pub taken_next : (free others others' : List Bool) (lowest next : Option ℕ) (s : ℕ) → AreApartFrom free lowest others → is_lowest s free ≡ true → IsLowestIn others next → others' ≡ without_kept_slot others next → AreApartFrom (slice_set free s false) next others'
taken_next free others others' lowest next s a e l w =
    let same = lowest_is free others lowest s a e in
    record {
      is_lowest = subst (λ (xs : List Bool). IsLowestIn xs next) same l;
      others_are = w ∙ ap (λ (xs : List Bool). without_kept_slot xs next) same;
    }

-- ---- more slots

get_front : (xs ys : List Bool) (k : ℕ) (b : Bool) → slice_get xs k ≡ Some b → slice_get (xs ++ ys) k ≡ Some b
get_front [] ys k b e = let bad : None ≡ Some b = e in cc
get_front (x ∷ xs) ys zero b e = e
get_front (x ∷ xs) ys (suc k) b e = get_front xs ys k b e

pub grown_some : (free others others' more : List Bool) (t : ℕ) → AreApartFrom free (Some t) others → others' ≡ others ++ more → AreApartFrom (free ++ more) (Some t) others'
grown_some free others others' more t a e = record {
  is_lowest = record {
    is_free = get_front free more t true a.is_lowest.is_free;
    below = λ k h. get_front free more k false (a.is_lowest.below k h);
  };
  others_are = e ∙ ap (λ (xs : List Bool). xs ++ more) a.others_are ∙ sym (set-append_left free more t false (get_within free t true a.is_lowest.is_free));
}

pub ruleset slotting = (lowest_none, lowest_some, past_set, same_set)
