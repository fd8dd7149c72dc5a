-- The open handles, as the map from them and as the list that is shown.
use Rattle.std.proofs.Common.{◌≡◌, ◌≢◌, inl, inr, ℕ, ◌+◌, ◌*◌, ◌/◌, ◌%◌, ◌<◌, ◌≤◌, ◌^◌, Bool, true, false, cond, [], ◌∷◌, ◌++◌, map, length, Option, Some, None, is_some, refl, sym, ap, ◌∙◌, arith}
use Rattle.std.specs.Prelude.{◌==◌, nat_lt, option_map, position, slice_set}
use Rattle.std.specs.Cmp.{unsigned_Decides}
use Rattle.std.specs.List.{position_or_len, range_with_len}
use Rattle.std.proofs.lemmas.Bool.{true≢false, ltb-true, ltb-false}
use Rattle.std.proofs.lemmas.List.{length-set, get_or-set_same, get_or-set_other, get_or_past}
use Rattle.std.proofs.lemmas.List.Sums.{position_or_len_is}
use Rattle.std.proofs.lemmas.List.FromFn.{length-map-range_with_len, get_or-map-range_with_len, map-range_with_len_more, fill_by_all}
use Rattle.mm_types.specs.{SectionId}
use Rattle.mm_types.proofs.{none_of, some_map, same_or_not, differ}
use Rattle.mm_world.specs.{Numbered, numbered}
use Rattle.mm_sections.specs.{held, handle_at, section_number, section_by_handle, AreOpen}

abbrev pub shown : (ℕ → Option SectionId) → ℕ → Numbered ℕ
shown find next = map (section_by_handle find) (range_with_len 0 next)

pub length_shown : (find : ℕ → Option SectionId) (next : ℕ) → length (shown find next) ≡ next
length_shown find next = length-map-range_with_len (section_by_handle find) 0 next

shown_at : (find : ℕ → Option SectionId) (next i : ℕ) → i < next → numbered (shown find next) i ≡ section_by_handle find i
shown_at find next i lt = get_or-map-range_with_len (section_by_handle find) 0 next i i None lt (omega arith)

-- what is shown is what is found where both have the same number
same_shown : (find other : ℕ → Option SectionId) (next : ℕ) → ((i : ℕ) → i < next → section_by_handle find i ≡ section_by_handle other i) → shown find next ≡ shown other next
same_shown find other next same =
    fill_by_all (section_by_handle other) (shown find next) next None (length_shown find next) (λ k lt. shown_at find next k lt ∙ same k lt)

module _ (find : ℕ → Option SectionId) (lowest next : ℕ) (kept : AreOpen find lowest next) where
  numbered_at : (i : ℕ) → numbered (shown find next) i ≡ section_by_handle find i
  numbered_at i =
      elim (nat_lt i next) as (λ b. nat_lt i next ≡ b → numbered (shown find next) i ≡ section_by_handle find i) [
        | true ↦ λ e. shown_at find next i (ltb-true i next e)
        | false ↦ λ e. (
            let past = ltb-false i next e in
            get_or_past (shown find next) i None (omega (arith, past, length_shown find next))
            ∙ sym (ap (option_map section_number) (none_of (find (4 * i)) (closed_past past))))
      ] refl
    where
      closed_past : next ≤ i → is_some (find (4 * i)) ≡ false
      closed_past past =
          elim (is_some (find (4 * i))) as (λ b. is_some (find (4 * i)) ≡ b → b ≡ false) [
            | true ↦ λ e. (let below = (kept.among (4 * i) e).2 in absurd (omega (arith, past, below)))
            | false ↦ λ e. refl
          ] refl

  pub held_is : (handle : ℕ) → option_map section_number (find handle) ≡ held (shown find next) handle
  held_is handle =
      elim (handle % 4 == 0) as (λ b. (handle % 4 == 0) ≡ b → option_map section_number (find handle) ≡ cond b (numbered (shown find next) (handle / 4)) None) [
        | true ↦ λ e. (
            let whole = (unsigned_Decides (handle % 4) 0).0 e in
            let same : 4 * (handle / 4) ≡ handle = omega (arith, whole) in
            sym (numbered_at (handle / 4) ∙ ap (λ (n : ℕ). option_map section_number (find n)) same))
        | false ↦ λ e. ap (option_map section_number) (none_of (find handle) (not_found e))
      ] refl
    where
      not_found : (handle % 4 == 0) ≡ false → is_some (find handle) ≡ false
      not_found e =
          elim (is_some (find handle)) as (λ b. is_some (find handle) ≡ b → b ≡ false) [
            | true ↦ λ some. sym ((unsigned_Decides (handle % 4) 0).1 (kept.among handle some).0) ∙ e
            | false ↦ λ none. refl
          ] refl

  pub lowest_is : option_map handle_at (position (is_some {T = ℕ}) (shown find next)) ≡ cond (nat_lt lowest next) (Some (4 * lowest)) None
  lowest_is =
      let at : position_or_len (is_some {T = ℕ}) (shown find next) ≡ lowest = position_or_len_is (is_some {T = ℕ}) (shown find next) lowest None (omega (arith, kept.numbers.1, length_shown find next)) closed_below opened in
      ap (λ (n : ℕ). option_map handle_at (cond (nat_lt n (length (shown find next))) (Some n) None)) at
      ∙ ap (λ (n : ℕ). option_map handle_at (cond (nat_lt lowest n) (Some lowest) None)) (length_shown find next)
      ∙ by (nat_lt lowest next)
    where
      closed_below : (k : ℕ) → k < lowest → is_some (numbered (shown find next) k) ≡ false
      closed_below k lt =
          ap is_some (numbered_at k) ∙ some_map section_number (find (4 * k)) ∙ elim (is_some (find (4 * k))) as (λ b. is_some (find (4 * k)) ≡ b → b ≡ false) [
            | true ↦ λ e. (let above = (kept.among (4 * k) e).1 in absurd (omega (arith, lt, above)))
            | false ↦ λ e. refl
          ] refl

      opened : lowest < length (shown find next) → is_some (numbered (shown find next) lowest) ≡ true
      opened lt = ap is_some (numbered_at lowest) ∙ some_map section_number (find (4 * lowest)) ∙ kept.first (omega (arith, lt, length_shown find next))

      by : (b : Bool) → option_map handle_at (cond b (Some lowest) None) ≡ cond b (Some (4 * lowest)) None
      by true = refl
      by false = refl

  -- ---- one handle more

  module _ (other : ℕ → Option SectionId) (id : SectionId) (is : (q : ℕ) → other q ≡ cond (4 * next == q) (Some id) (find q)) where
    same_at : (q : ℕ) → 4 * next ≢ q → other q ≡ find q
    same_at q apart = is q ∙ ap (λ b. cond b (Some id) (find q)) (differ (4 * next) q apart)

    new_at : other (4 * next) ≡ Some id
    new_at = is (4 * next) ∙ ap (λ b. cond b (Some id) (find (4 * next))) ((unsigned_Decides (4 * next) (4 * next)).1 refl)

    pub shown_more : shown other (next + 1) ≡ shown find next ++ Some id.0 ∷ []
    shown_more =
        map-range_with_len_more (section_by_handle other) 0 next next (omega arith)
        ∙ ap (λ (xs : Numbered ℕ). xs ++ section_by_handle other next ∷ []) (same_shown other find next (λ i lt. ap (option_map section_number) (same_at (4 * i) (λ e. absurd (omega (arith, e, lt))))))
        ∙ ap (λ (o : Option SectionId). shown find next ++ option_map section_number o ∷ []) new_at

    pub open_more : next < 2 ^ 28 → AreOpen other lowest (next + 1)
    open_more few =
        record {
          numbers = (kept.numbers.0, omega (arith, kept.numbers.1), omega (arith, few));
          among = λ handle some. elim (same_or_not (4 * next) handle) [
            | inl same ↦ (omega (arith, same), omega (arith, same, kept.numbers.1), omega (arith, same))
            | inr apart ↦ (
                let among = kept.among handle (sym (ap is_some (same_at handle apart)) ∙ some) in
                (among.0, among.1, omega (arith, among.2)))
          ];
          first = λ lt. elim (same_or_not next lowest) [
            | inl same ↦ ap (λ (n : ℕ). is_some (other (4 * n))) (sym same) ∙ ap is_some new_at
            | inr apart ↦ ap is_some (same_at (4 * lowest) (λ e. apart (omega (arith, e)))) ∙ kept.first (omega (arith, lt, apart, kept.numbers.1))
          ];
        }

  -- ---- one handle less

  module _ (other : ℕ → Option SectionId) (handle : ℕ) (is : (q : ℕ) → other q ≡ cond (handle == q) None (find q)) (lives : is_some (held (shown find next) handle) ≡ true) where
    had : (handle % 4 ≡ 0) × (4 * lowest ≤ handle) × (handle < 4 * next)
    had = kept.among handle (sym (some_map section_number (find handle)) ∙ ap is_some (held_is handle) ∙ lives)

    pub shown_less : shown other next ≡ slice_set (shown find next) (handle / 4) None
    shown_less =
        sym (fill_by_all (section_by_handle other) (slice_set (shown find next) (handle / 4) None) next None (length-set (shown find next) (handle / 4) None ∙ length_shown find next) at)
      where
        at : (k : ℕ) → k < next → numbered (slice_set (shown find next) (handle / 4) None) k ≡ section_by_handle other k
        at k lt = elim (same_or_not k (handle / 4)) [
          | inl same ↦ (
              let here : handle ≡ 4 * k = omega (arith, same, had.0) in
              ap (λ (j : ℕ). numbered (slice_set (shown find next) (handle / 4) None) j) same
              ∙ get_or-set_same (shown find next) (handle / 4) None None (omega (arith, had.2, length_shown find next))
              ∙ sym (ap (option_map section_number) (is (4 * k) ∙ ap (λ b. cond b None (find (4 * k))) ((unsigned_Decides handle (4 * k)).1 here))))
          | inr apart ↦ (
              get_or-set_other (shown find next) (handle / 4) k None None apart ∙ shown_at find next k lt
              ∙ sym (ap (option_map section_number) (is (4 * k) ∙ ap (λ b. cond b None (find (4 * k))) (differ handle (4 * k) (λ e. apart (omega (arith, e)))))))
        ]

    module _ (first : ℕ) (from : lowest ≤ first) (within : first ≤ next) (before : (i : ℕ) → lowest ≤ i → i < first → other (4 * i) ≡ None) (opens : first < next → is_some (other (4 * first)) ≡ true) where
      still : (q : ℕ) → is_some (other q) ≡ true → is_some (find q) ≡ true
      still q some =
          elim (handle == q) as (λ b. is_some (cond b None (find q)) ≡ true → is_some (find q) ≡ true) [
            | true ↦ λ e. cc
            | false ↦ λ e. e
          ] (sym (ap is_some (is q)) ∙ some)

      pub open_less : AreOpen other first next
      open_less =
          record {
            numbers = (omega (arith, kept.numbers.0, from), within, kept.numbers.2);
            among = λ q some. (
                let among = kept.among q (still q some) in
                (among.0, above q some among, among.2));
            first = opens;
          }
        where
          above : (q : ℕ) → is_some (other q) ≡ true → (q % 4 ≡ 0) × (4 * lowest ≤ q) × (q < 4 * next) → 4 * first ≤ q
          above q some among =
              elim (nat_lt q (4 * first)) as (λ b. nat_lt q (4 * first) ≡ b → 4 * first ≤ q) [
                | true ↦ λ e. (
                    let below = ltb-true q (4 * first) e in
                    let same : 4 * (q / 4) ≡ q = omega (arith, among.0) in
                    let none : other q ≡ None = ap other (sym same) ∙ before (q / 4) (omega (arith, among.1)) (omega (arith, below)) in
                    absurd (true≢false (sym some ∙ ap is_some none)))
                | false ↦ λ e. ltb-false q (4 * first) e
              ] refl
