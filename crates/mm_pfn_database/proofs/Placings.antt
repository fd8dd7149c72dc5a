-- Where the frames are, as one of them comes to stand elsewhere.
use Rattle.std.proofs.Common.{◌≡◌, ◌≢◌, ℕ, ◌<◌, Bool, true, false, cond, List, [], ◌∷◌, ◌++◌, length, map, get_or, set, Option, Some, None, refl, sym, ap, ◌∙◌, subst, inl, inr, arith, length-set, get_or-set_same, get_or-set_other}
use Rattle.std.specs.Prelude.{◌-◌, ◌==◌, ◌||◌, ◌&&◌, if◌then◌else◌, is_some}
use Rattle.std.proofs.lemmas.List.{get_or_past, length-map}
use Rattle.mm_types.specs.{Record}
use Rattle.mm_types.proofs.{same_or_not}
use Rattle.mm_move_rules.specs.{FrameTable, blank, is_idle, is_read, has_request, with_record}
use Rattle.mm_page_lists.specs.{ListsOf, AreApart, IsOnNone, IsOnOne, list_at, number_at, without}
use Rattle.mm_page_lists.proofs.{same, without_removes, push_found, push_keeps, push_new}
use Rattle.mm_ram.specs.{page_at, zero_page}
use Rattle.mm_pfn_database.specs.{Standing, standing_at, list_for, AreListed, Holds, AreFrames, is_zero, is_kept, table_of, lists_of, pushed_on, relisted}
use Rattle.mm_pfn_database.specs.{joined, off_all}
use Rattle.mm_pfn_database.specs.declared.standing.Standing.TheVariants.{Zeroed, Free, Bound, Cleared, Taken}

-- ---- which standing goes with which list

pub list_low : (s : Standing) (r : Record) (i : ℕ) → list_for s r ≡ Some i → i < 4
list_low Zeroed r i e = let h : 0 ≡ i = same 0 i e in omega arith
list_low Free r i e = let h : 1 ≡ i = same 1 i e in omega arith
list_low Bound r i e = bound_low (is_idle r) r.changed e
  where
    bound_low : (idle c : Bool) → cond idle (Some (cond c 3 2)) None ≡ Some i → i < 4
    bound_low true true e = let h : 3 ≡ i = same 3 i e in omega arith
    bound_low true false e = let h : 2 ≡ i = same 2 i e in omega arith
    bound_low false c e = let bad : None ≡ Some i = e in cc
list_low Cleared r i e = let bad : None ≡ Some i = e in cc
list_low Taken r i e = let bad : None ≡ Some i = e in cc

-- ---- what a frame holds

-- a record that says something that an empty one does not
pub used_if : (p : Record → Bool) (r : Record) → p blank ≡ false → p r ≡ true → r ≢ blank
used_if p r none e is = let bad : true ≡ false = sym e ∙ ap p is ∙ none in cc

pub kept_owned : (r : Record) → is_some r.owner ≡ true → is_kept r ≡ true
kept_owned r e = ap (λ (b : Bool). b || (has_request r.request && (r.shares == 0))) e

pub bound_if : (s : Standing) → (s ≢ Bound → ⊥) → s ≡ Bound
bound_if Zeroed d = absurd (d (λ e. cc))
bound_if Free d = absurd (d (λ e. cc))
bound_if Bound d = refl
bound_if Cleared d = absurd (d (λ e. cc))
bound_if Taken d = absurd (d (λ e. cc))

-- an empty frame, in any unbound standing
pub as_empty : (s : Standing) (r : Record) (page : Option (List ℕ)) → s ≢ Bound → r ≡ blank → (is_zero s ≡ true → page ≡ Some zero_page) → Holds s r page
as_empty s r page d e z = record {
  empty = λ n. e;
  kept = λ b. absurd (d b);
  zero = z;
  written = λ b. absurd (d b);
}

-- a bound frame
pub as_bound : (r : Record) (page : Option (List ℕ)) → is_kept r ≡ true → (is_read r.request ≡ false → is_some page ≡ true) → Holds Bound r page
as_bound r page kept written = record {
  empty = λ d. absurd (d refl);
  kept = λ e. kept;
  zero = λ e. cc;
  written = λ e. written;
}

module _ {records : List Record} {standing : List Standing} {lists : ListsOf} {bytes : List (Option (List ℕ))} (a : AreFrames records standing lists bytes) (f : ℕ) (used : get_or records f blank ≢ blank) where
  pub used_low : f < length records
  used_low = elim (same_or_not (length records - f) 0) [
    | inl e ↦ absurd (used (get_or_past records f blank (omega arith)))
    | inr d ↦ omega arith
  ]

  pub used_bound : standing_at standing f ≡ Bound
  used_bound = bound_if (standing_at standing f) (λ d. used ((a.holds f used_low).empty d))

  pub used_kept : is_kept (get_or records f blank) ≡ true
  used_kept = (a.holds f used_low).kept used_bound

  pub used_written : is_read (get_or records f blank).request ≡ false → is_some (page_at bytes f) ≡ true
  used_written = (a.holds f used_low).written used_bound

module _ {records : List Record} {standing : List Standing} {lists : ListsOf} {bytes : List (Option (List ℕ))} (a : AreFrames records standing lists bytes) (f : ℕ) where
  -- its bytes are others
  pub rewritten : f < length records → (page : List ℕ) → (is_zero (standing_at standing f) ≡ true → page ≡ zero_page) → AreFrames records standing lists (set bytes f (Some page))
  rewritten low page zero = record {
    small = a.small;
    standings = a.standings;
    pages = length-set bytes f (Some page) ∙ a.pages;
    numbers = a.numbers;
    four = a.four;
    apart = a.apart;
    listed = a.listed;
    holds = λ g h. elim (same_or_not g f) [
      | inl e ↦
          let old = a.holds g h in
          let here : page_at (set bytes f (Some page)) g ≡ Some page = ap (λ (q : ℕ). page_at (set bytes f (Some page)) q) e ∙ get_or-set_same bytes f (Some page) None (omega (arith, low, a.pages)) in
          record {
            empty = old.empty;
            kept = old.kept;
            zero = λ z. here ∙ ap (λ (x : List ℕ). Some x) (zero (ap (λ (q : ℕ). is_zero (standing_at standing q)) (sym e) ∙ z));
            written = λ b r. ap is_some here;
          }
      | inr d ↦ subst (λ (o : Option (List ℕ)). Holds (standing_at standing g) (get_or records g blank) o) (sym (get_or-set_other bytes f g (Some page) None d)) (a.holds g h)
    ];
  }

  -- ---- it leaves its list

  pub listed_on : f < length records → is_some (list_for (standing_at standing f) (get_or records f blank)) ≡ true → IsOnOne lists.lists f
  listed_on low = at (list_for (standing_at standing f) (get_or records f blank)) refl
    where
      at : (o : Option ℕ) → list_for (standing_at standing f) (get_or records f blank) ≡ o → is_some o ≡ true → IsOnOne lists.lists f
      at None e some = let bad : false ≡ true = some in cc
      at (Some j) e some = let h = a.listed.there f j low e in (j, h.0, h.1)

  pub listed_off : is_some (list_for (standing_at standing f) (get_or records f blank)) ≡ false → IsOnNone lists.lists f
  listed_off none j k e = let bad : true ≡ false = sym (ap is_some (a.listed.held j k f e)) ∙ none in cc

-- ---- it comes to stand elsewhere

numbers_kept : (o : Option ℕ) (v : ListsOf) (f : ℕ) → (pushed_on o v f).numbers ≡ v.numbers
numbers_kept None v f = refl
numbers_kept (Some i) v f = refl

count_kept : (o : Option ℕ) (v : ListsOf) (f : ℕ) → length (pushed_on o v f).lists ≡ length v.lists
count_kept None v f = refl
count_kept (Some i) v f = length-set v.lists i (list_at v.lists i ++ f ∷ [])

module _ {records : List Record} {standing : List Standing} {lists : ListsOf} {bytes : List (Option (List ℕ))} (a : AreFrames records standing lists bytes) (f : ℕ) (low : f < length records) (r : Record) (s : Standing) (holds : Holds s r (page_at bytes f)) where
  abbrev list_then : ℕ → Option ℕ
  list_then g = list_for (standing_at (set standing f s) g) (get_or (set records f r) g blank)

  here : list_then f ≡ list_for s r
  here = rw (get_or-set_same standing f s Bound (omega (arith, low, a.standings)), get_or-set_same records f r blank low) refl

  elsewhere : (g : ℕ) → g ≢ f → list_then g ≡ list_for (standing_at standing g) (get_or records g blank)
  elsewhere g d = rw (get_or-set_other standing f g s Bound d, get_or-set_other records f g r blank d) refl

  found : (j k g : ℕ) → number_at (map (without f) lists.lists) j k ≡ Some g → list_then g ≡ Some j
  found j k g at = let h = (without_removes f lists.lists).gone j k g at in elsewhere g h.0 ∙ a.listed.held j h.1.0 g h.1.1

  still : (g j : ℕ) → g ≢ f → g < length (set records f r) → list_then g ≡ Some j → (k : ℕ) × (number_at (map (without f) lists.lists) j k ≡ Some g)
  still g j d inside at =
      let h = a.listed.there g j (omega (arith, inside, length-set records f r)) (sym (elsewhere g d) ∙ at) in
      (without_removes f lists.lists).kept j h.0 g d h.1

  listed : (o : Option ℕ) → list_for s r ≡ o → AreListed (set records f r) (set standing f s) (relisted o lists f).lists
  listed None e = record {
    held = found;
    there = λ g j inside at. elim (same_or_not g f) [
      | inl q ↦ let bad : None ≡ Some j = sym (here ∙ e) ∙ ap (λ (x : ℕ). list_then x) (sym q) ∙ at in cc
      | inr d ↦ still g j d inside at
    ];
  }
  listed (Some i) e =
      let ls = map (without f) lists.lists in
      let within : i < length ls = omega (arith, list_low s r i e, a.four, length-map lists.lists (without f)) in
      record {
        held = λ j k g at. elim (push_found ls i f within j k g at) [
          | inl h ↦ ap (λ (x : ℕ). list_then x) h.1 ∙ here ∙ e ∙ ap (λ (x : ℕ). Some x) (sym h.0)
          | inr h ↦ found j k g h
        ];
        there = λ g j inside at. elim (same_or_not g f) [
          | inl q ↦
              let is : Some i ≡ Some j = sym (here ∙ e) ∙ ap (λ (x : ℕ). list_then x) (sym q) ∙ at in
              (length (list_at ls i), ap (λ (x : ℕ). number_at (set ls i (list_at ls i ++ f ∷ [])) x (length (list_at ls i))) (sym (same i j is)) ∙ push_new ls i f within ∙ ap (λ (x : ℕ). Some x) (sym q))
          | inr d ↦ let h = still g j d inside at in (h.0, push_keeps ls i f within j h.0 g h.1)
        ];
      }

  pub frames_stood : (lists' : ListsOf) → lists' ≡ relisted (list_for s r) lists f → AreApart lists' → AreFrames (set records f r) (set standing f s) lists' bytes
  frames_stood lists' e apart =
      let off = record lists { lists = map (without f) lists.lists } in
      record {
        small = omega (arith, a.small, length-set records f r);
        standings = length-set standing f s ∙ a.standings ∙ sym (length-set records f r);
        pages = a.pages ∙ sym (length-set records f r);
        numbers = ap (λ (v : ListsOf). v.numbers) e ∙ numbers_kept (list_for s r) off f ∙ a.numbers ∙ sym (length-set records f r);
        four = ap (λ (v : ListsOf). length v.lists) e ∙ count_kept (list_for s r) off f ∙ length-map lists.lists (without f) ∙ a.four;
        apart = apart;
        listed = subst (λ (v : ListsOf). AreListed (set records f r) (set standing f s) v.lists) (sym e) (listed (list_for s r) refl);
        holds = λ g h. elim (same_or_not g f) [
          | inl q ↦
              subst (λ (x : ℕ). Holds (standing_at (set standing f s) x) (get_or (set records f r) x blank) (page_at bytes x)) (sym q)
              (rw (get_or-set_same standing f s Bound (omega (arith, low, a.standings)), get_or-set_same records f r blank low) holds)
          | inr d ↦ rw (get_or-set_other standing f g s Bound d, get_or-set_other records f g r blank d) (a.holds g (omega (arith, h, length-set records f r)))
        ];
      }

-- ---- the lists as the table shows them

four_lists : (ls : List (List ℕ)) → length ls ≡ 4 → ls ≡ list_at ls 0 ∷ list_at ls 1 ∷ list_at ls 2 ∷ list_at ls 3 ∷ []
four_lists [] e = absurd (omega (arith, e))
four_lists (a ∷ []) e = absurd (omega (arith, e))
four_lists (a ∷ b ∷ []) e = absurd (omega (arith, e))
four_lists (a ∷ b ∷ c ∷ []) e = absurd (omega (arith, e))
four_lists (a ∷ b ∷ c ∷ d ∷ []) e = refl
four_lists (a ∷ b ∷ c ∷ d ∷ x ∷ ls) e = absurd (omega (arith, e))

abbrev pub lists_shown : FrameTable → ListsOf
lists_shown d = record { numbers = length d.records; lists = lists_of d }

pub as_shown : {records : List Record} {standing : List Standing} {lists : ListsOf} {bytes : List (Option (List ℕ))} → AreFrames records standing lists bytes → lists ≡ lists_shown (table_of records lists.lists)
as_shown {records = records} {lists = lists} a =
    ap (λ (n : ℕ). record lists { numbers = n }) a.numbers ∙ ap (λ (ls : List (List ℕ)). record { numbers = length records; lists = ls }) (four_lists lists.lists a.four)

-- the table that the lists show then
pub table_stood : (d : FrameTable) (f : ℕ) (r : Record) (s : Standing) → table_of (set d.records f r) (relisted (list_for s r) (lists_shown d) f).lists ≡ joined s r (with_record (off_all d f) f r) f
table_stood d f r Zeroed = refl
table_stood d f r Free = refl
table_stood d f r Bound = bound (is_idle r) r.changed
  where
    bound : (idle c : Bool) → table_of (set d.records f r) (relisted (cond idle (Some (cond c 3 2)) None) (lists_shown d) f).lists
        ≡ (if idle then (if c then record (with_record (off_all d f) f r) { modified = without f d.modified ++ f ∷ [] } else record (with_record (off_all d f) f r) { standby = without f d.standby ++ f ∷ [] }) else with_record (off_all d f) f r)
    bound true true = refl
    bound true false = refl
    bound false c = refl
table_stood d f r Cleared = refl
table_stood d f r Taken = refl
