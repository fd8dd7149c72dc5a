-- The second list: the modified frames with a block, in the order of modified.
use Rattle.std.proofs.Common.{◌≡◌, ◌≢◌, ◌⊎◌, ℕ, zero, suc, ◌<◌, Bool, true, false, cond, List, [], ◌∷◌, ◌++◌, Option, length, map, get_or, set, replicate, Some, None, refl, sym, ap, ◌∙◌, inl, inr, arith, get_or-set_same, get_or-set_other, length-set}
use Rattle.std.specs.Prelude.{slice_get, ◌==◌, ◌&&◌, not, is_some}
use Rattle.std.specs.Cmp.{unsigned_Decides}
use Rattle.std.proofs.lemmas.List.{length-map, length-replicate}
use Rattle.std.proofs.lemmas.List.Elements.{filter-append}
use Rattle.mm_types.specs.{Record}
use Rattle.mm_types.proofs.{append_nil, same_or_not, differ}
use Rattle.mm_move_rules.specs.{blank, is_idle, numbers_from}
use Rattle.mm_page_lists.specs.{ListsOf, AreApart, IsOnOne, IsOnNone, list_at, number_at, without}
use Rattle.mm_page_lists.proofs.{same, list-without}
use Rattle.mm_pfn_database.specs.{Standing, standing_at, has_block, is_modified_with_block, free_only, backed_in, backed_list, AreFrames, AreBacked}
use Rattle.mm_pfn_database.specs.{IsAtRest, list_for, pushed_on, relisted, second_for}
use Rattle.mm_pfn_database.specs.declared.standing.Standing.TheVariants.{Zeroed, Free, Bound, Cleared, Taken}
use Rattle.mm_pfn_database.proofs.Placings.{used_if, used_low, used_bound}
use Rattle.mm_pfn_database.proofs.AtRest.{listed_rests, idle_if, on_low}

-- ---- what a filter keeps

abbrev backs : List Record → ℕ → Bool
backs records f = has_block (get_or records f blank).backing

-- a number that is taken off both lists
taken_out : (records : List Record) (f : ℕ) (r : Record) (xs : List ℕ) → backed_in (set records f r) (without f xs) ≡ without f (backed_in records xs)
taken_out records f r [] = refl
taken_out records f r (x ∷ xs) = elim (same_or_not x f) [
  | inl e ↦
      let t = (unsigned_Decides x f).1 e in
      ap (λ (b : Bool). backed_in (set records f r) (cond (not b) (x ∷ without f xs) (without f xs))) t
      ∙ taken_out records f r xs ∙ sym (out x (backs records x) (backed_in records xs) t)
  | inr d ↦
      let t = differ x f d in
      ap (λ (b : Bool). backed_in (set records f r) (cond (not b) (x ∷ without f xs) (without f xs))) t
      ∙ ap (λ (b : Bool). cond b (x ∷ backed_in (set records f r) (without f xs)) (backed_in (set records f r) (without f xs))) (ap (λ (q : Record). has_block q.backing) (get_or-set_other records f x r blank d))
      ∙ ap (λ (ys : List ℕ). cond (backs records x) (x ∷ ys) ys) (taken_out records f r xs)
      ∙ sym (kept x (backs records x) (backed_in records xs) t)
]
  where
    out : (x : ℕ) (b : Bool) (ys : List ℕ) → (x == f) ≡ true → without f (cond b (x ∷ ys) ys) ≡ without f ys
    out x true ys t = ap (λ (b : Bool). cond (not b) (x ∷ without f ys) (without f ys)) t
    out x false ys t = refl

    kept : (x : ℕ) (b : Bool) (ys : List ℕ) → (x == f) ≡ false → without f (cond b (x ∷ ys) ys) ≡ cond b (x ∷ without f ys) (without f ys)
    kept x true ys t = ap (λ (b : Bool). cond (not b) (x ∷ without f ys) (without f ys)) t
    kept x false ys t = refl

-- what is on the second list is on modified and has a block, and the other way round
pub backed_found : (records : List Record) (xs : List ℕ) (k f : ℕ) → slice_get (backed_in records xs) k ≡ Some f → (has_block (get_or records f blank).backing ≡ true) × ((m : ℕ) × (slice_get xs m ≡ Some f))
backed_found records [] k f e = let bad : None ≡ Some f = e in cc
backed_found records (x ∷ xs) k f e = at (backs records x) refl k e (λ j h. backed_found records xs j f h)
  where
    at : (b : Bool) → backs records x ≡ b → (k : ℕ) → slice_get (cond b (x ∷ backed_in records xs) (backed_in records xs)) k ≡ Some f
        → ((j : ℕ) → slice_get (backed_in records xs) j ≡ Some f → (has_block (get_or records f blank).backing ≡ true) × ((m : ℕ) × (slice_get xs m ≡ Some f)))
        → (has_block (get_or records f blank).backing ≡ true) × ((m : ℕ) × (slice_get (x ∷ xs) m ≡ Some f))
    at true h zero e behind = (ap (λ (q : ℕ). backs records q) (sym (same x f e)) ∙ h, (0, e))
    at true h (suc k) e behind = let t = behind k e in (t.0, (suc t.1.0, t.1.1))
    at false h k e behind = let t = behind k e in (t.0, (suc t.1.0, t.1.1))

pub backed_there : (records : List Record) (xs : List ℕ) (m f : ℕ) → slice_get xs m ≡ Some f → has_block (get_or records f blank).backing ≡ true → (k : ℕ) × (slice_get (backed_in records xs) k ≡ Some f)
backed_there records [] m f e h = let bad : None ≡ Some f = e in cc
backed_there records (x ∷ xs) zero f e h =
    (0, ap (λ (b : Bool). slice_get (cond b (x ∷ backed_in records xs) (backed_in records xs)) 0) (ap (λ (q : ℕ). backs records q) (same x f e) ∙ h) ∙ e)
backed_there records (x ∷ xs) (suc m) f e h =
    let t = backed_there records xs m f e h in
    at (backs records x) t.0 t.1
  where
    at : (b : Bool) (k : ℕ) → slice_get (backed_in records xs) k ≡ Some f → (j : ℕ) × (slice_get (cond b (x ∷ backed_in records xs) (backed_in records xs)) j ≡ Some f)
    at true k e = (suc k, e)
    at false k e = (k, e)

-- ---- which frames are on the second list

and_left : (a b c : Bool) → (a && (b && c)) ≡ true → (a ≡ true) × ((b ≡ true) × (c ≡ true))
and_left true true true e = (refl, (refl, refl))
and_left true true false e = let bad : false ≡ true = e in cc
and_left true false c e = let bad : false ≡ true = e in cc
and_left false b c e = let bad : false ≡ true = e in cc

some_if : (b : Bool) → is_some {T = ℕ} (cond b (Some 0) None) ≡ true → b ≡ true
some_if true e = refl
some_if false e = let bad : false ≡ true = e in cc

module _ {records : List Record} {standing : List Standing} {lists b : ListsOf} {bytes : List (Option (List ℕ))} (a : AreFrames records standing lists bytes) (s : AreBacked records lists.lists b) (f : ℕ) where
  pub second_on : is_some (second_for (get_or records f blank)) ≡ true → IsOnOne b.lists f
  second_on e =
      let r = get_or records f blank in
      let used = used_if (λ (q : Record). is_some (second_for q)) r refl e in
      let parts = and_left (is_idle r) r.changed (has_block r.backing) (some_if (is_modified_with_block r) e) in
      let at : list_for (standing_at standing f) r ≡ Some 3 =
      ap (λ (t : Standing). list_for t r) (used_bound a f used)
      ∙ ap (λ (x : Bool). cond x (Some (cond r.changed 3 2)) None) parts.0 ∙ ap (λ (c : Bool). Some (cond c 3 2)) parts.1.0 in
      let there = a.listed.there f 3 (used_low a f used) at in
      let k = backed_there records (list_at lists.lists 3) there.0 f there.1 parts.1.1 in
      (0, k.0, ap (λ (w : ListsOf). number_at w.lists 0 k.0) s.same ∙ k.1)

  -- what is found there rests on modified, and has a block
  pub with_block_found : (k : ℕ) → slice_get (backed_in records (list_at lists.lists 3)) k ≡ Some f → (f < length records) × (IsAtRest true (get_or records f blank) × (has_block (get_or records f blank).backing ≡ true))
  with_block_found k e =
      let h = backed_found records (list_at lists.lists 3) k f e in
      (on_low a f 3 h.1.0 h.1.1, (listed_rests a f true h.1.0 h.1.1, h.0))

  only_list : (j k : ℕ) → number_at b.lists j k ≡ Some f → slice_get (backed_in records (list_at lists.lists 3)) k ≡ Some f
  only_list zero k e = ap (λ (w : ListsOf). number_at w.lists 0 k) (sym s.same) ∙ e
  only_list (suc j) k e = let bad : None ≡ Some f = ap (λ (w : ListsOf). number_at w.lists (suc j) k) (sym s.same) ∙ e in cc

  pub second_off : is_some (second_for (get_or records f blank)) ≡ false → IsOnNone b.lists f
  second_off other j k e =
      let r = get_or records f blank in
      let h = with_block_found k (only_list j k e) in
      let rest = h.1.0 in
      let is : is_modified_with_block r ≡ true =
      ap (λ (x : Bool). x && (r.changed && has_block r.backing)) (idle_if r rest.unshared rest.no_request)
      ∙ ap (λ (x : Bool). x && has_block r.backing) rest.same ∙ h.1.1 in
      let bad : true ≡ false = sym (ap (λ (x : Bool). is_some {T = ℕ} (cond x (Some 0) None)) is) ∙ other in
      cc

pub one_list : {records : List Record} {lists : List (List ℕ)} {b : ListsOf} → AreBacked records lists b → length b.lists ≡ 1
one_list s = ap (λ (w : ListsOf). length w.lists) s.same

pub second_low : {records : List Record} {lists : List (List ℕ)} {b : ListsOf} → AreBacked records lists b → (r : Record) (i : ℕ) → second_for r ≡ Some i → i < length b.lists
second_low {b = b} s r i = low (is_modified_with_block r)
  where
    low : (m : Bool) → cond m (Some 0) None ≡ Some i → i < length b.lists
    low true e = let h : 0 ≡ i = same 0 i e in omega (arith, one_list s)
    low false e = let bad : None ≡ Some i = e in cc

-- ---- the second list, as a frame comes to stand elsewhere

abbrev idle_list : Bool → Bool → Option ℕ
idle_list idle c = cond idle (Some (cond c 3 2)) None

abbrev second_if : Bool → Option ℕ
second_if b = cond b (Some 0) None

-- a frame goes to the end of the second list exactly where it goes to the end of modified, with a
-- block
goes_by : (x c h : Bool) → ((idle_list x c ≡ Some 3) × (second_if (x && (c && h)) ≡ second_if h)) ⊎ ((idle_list x c ≢ Some 3) × (second_if (x && (c && h)) ≡ None))
goes_by true true h = inl (refl, refl)
goes_by true false h = inr (λ e. absurd (omega (arith, same 2 3 e)), refl)
goes_by false c h = inr (λ e. cc, refl)

goes : (s : Standing) (r : Record) → (s ≢ Bound → r ≡ blank) → ((list_for s r ≡ Some 3) × (second_for r ≡ second_if (has_block r.backing))) ⊎ ((list_for s r ≢ Some 3) × (second_for r ≡ None))
goes Zeroed r empty = inr (λ e. absurd (omega (arith, same 0 3 e)), ap second_for (empty (λ e. cc)))
goes Free r empty = inr (λ e. absurd (omega (arith, same 1 3 e)), ap second_for (empty (λ e. cc)))
goes Bound r empty = goes_by (is_idle r) r.changed (has_block r.backing)
goes Cleared r empty = inr (λ e. cc, ap second_for (empty (λ e. cc)))
goes Taken r empty = inr (λ e. cc, ap second_for (empty (λ e. cc)))

third : (o : Option ℕ) (v : ListsOf) (f : ℕ) → o ≢ Some 3 → list_at (pushed_on o v f).lists 3 ≡ list_at v.lists 3
third None v f d = refl
third (Some i) v f d = get_or-set_other v.lists i 3 (list_at v.lists i ++ f ∷ []) [] (λ e. d (ap (λ (x : ℕ). Some x) (sym e)))

module _ {records : List Record} {standing : List Standing} {lists b : ListsOf} {bytes : List (Option (List ℕ))} (a : AreFrames records standing lists bytes) (k : AreBacked records lists.lists b) (f : ℕ) (low : f < length records) (r : Record) (s : Standing) (empty : s ≢ Bound → r ≡ blank) where
  abbrev off : ListsOf
  off = record lists { lists = map (without f) lists.lists }

  -- the second list of the frames that are on modified then, with the frame's record
  left : backed_in (set records f r) (list_at off.lists 3) ≡ without f (backed_in records (list_at lists.lists 3))
  left = ap (λ (xs : List ℕ). backed_in (set records f r) xs) (list-without f lists.lists 3) ∙ taken_out records f r (list_at lists.lists 3)

  put : (h : Bool) → has_block r.backing ≡ h → backed_in (set records f r) (list_at off.lists 3 ++ f ∷ []) ≡ list_at (pushed_on (second_if h) (record { numbers = 0; lists = without f (backed_in records (list_at lists.lists 3)) ∷ [] }) f).lists 0
  put h e =
      filter-append (backs (set records f r)) (list_at off.lists 3) (f ∷ [])
      ∙ ap (λ (ys : List ℕ). ys ++ backed_in (set records f r) (f ∷ [])) left
      ∙ ap (λ (x : Bool). without f (backed_in records (list_at lists.lists 3)) ++ cond x (f ∷ []) []) (ap (λ (q : Record). has_block q.backing) (get_or-set_same records f r blank low) ∙ e)
      ∙ at h
    where
      at : (h : Bool) → without f (backed_in records (list_at lists.lists 3)) ++ cond h (f ∷ []) [] ≡ list_at (pushed_on (second_if h) (record { numbers = 0; lists = without f (backed_in records (list_at lists.lists 3)) ∷ [] }) f).lists 0
      at true = refl
      at false = append_nil (without f (backed_in records (list_at lists.lists 3)))

  second_now : relisted (second_for r) (backed_list records (list_at lists.lists 3)) f ≡ record { numbers = length records; lists = backed_in (set records f r) (list_at (relisted (list_for s r) lists f).lists 3) ∷ [] }
  second_now = elim (goes s r empty) [
    | inl g ↦
        ap (λ (o : Option ℕ). relisted o (backed_list records (list_at lists.lists 3)) f) g.1
        ∙ one (has_block r.backing)
        ∙ ap (λ (xs : List ℕ). record { numbers = length records; lists = xs ∷ [] }) (sym (put (has_block r.backing) refl)
        ∙ ap (λ (xs : List ℕ). backed_in (set records f r) xs) (sym (ap (λ (o : Option ℕ). list_at (relisted o lists f).lists 3) g.0 ∙ get_or-set_same off.lists 3 (list_at off.lists 3 ++ f ∷ []) [] (omega (arith, a.four, length-map lists.lists (without f))))))
    | inr g ↦
        ap (λ (o : Option ℕ). relisted o (backed_list records (list_at lists.lists 3)) f) g.1
        ∙ ap (λ (xs : List ℕ). record { numbers = length records; lists = xs ∷ [] }) (sym left
        ∙ ap (λ (xs : List ℕ). backed_in (set records f r) xs) (sym (third (list_for s r) off f g.0)))
  ]
    where
      one : (h : Bool) → relisted (second_if h) (backed_list records (list_at lists.lists 3)) f ≡ record { numbers = length records; lists = list_at (pushed_on (second_if h) (record { numbers = 0; lists = without f (backed_in records (list_at lists.lists 3)) ∷ [] }) f).lists 0 ∷ [] }
      one true = refl
      one false = refl

  pub backed_stood : (lists' b' : ListsOf) → lists' ≡ relisted (list_for s r) lists f → b' ≡ relisted (second_for r) b f → AreApart b' → AreBacked (set records f r) lists'.lists b'
  backed_stood lists' b' to to_b apart = record {
    apart = apart;
    same =
        to_b ∙ ap (λ (w : ListsOf). relisted (second_for r) w f) k.same ∙ second_now
        ∙ ap (λ (w : ListsOf). record { numbers = length records; lists = backed_in (set records f r) (list_at w.lists 3) ∷ [] }) (sym to)
        ∙ ap (λ (n : ℕ). record { numbers = n; lists = backed_in (set records f r) (list_at lists'.lists 3) ∷ [] }) (sym (length-set records f r));
  }

-- all frames are free
pub none_backed : (n : ℕ) (lists b : ListsOf) → lists ≡ record { numbers = n; lists = free_only (numbers_from 0 n) } → b ≡ record { numbers = n; lists = replicate 1 [] } → AreApart b → AreBacked (replicate n blank) lists.lists b
none_backed n lists b e h apart = record {
  apart = apart;
  same = h ∙ sym (ap (λ (m : ℕ). record { numbers = m; lists = backed_in (replicate n blank) (list_at lists.lists 3) ∷ [] }) (length-replicate n blank) ∙ ap (λ (w : ListsOf). record { numbers = n; lists = backed_in (replicate n blank) (list_at w.lists 3) ∷ [] }) e);
}
