-- What is true of each element of a list, when the list is edited.
use Rattle.std.proofs.Common.{◌≡◌, ℕ, zero, suc, ◌+◌, ◌≤◌, ◌<◌, Bool, true, false, Some, List, [], ◌∷◌, ◌++◌, refl, ◌∙◌, ap, subst, arith, set, map, take, drop, replicate, slice_get, ◌-◌, Option, None, ◌⊎◌, inl, inr, sym, cond, length, is_some, ◌||◌, option_map, unwrap_or}
use Rattle.std.specs.Prelude.{insert, remove, ◌==◌}
use Rattle.std.proofs.Math.Decide.{dec_le}
use Rattle.mm_world.specs.{change_range, every_page_from, Each, RowOf, RegionOf, WorldOf, is_one_of, private_protections, marked_protections}
use Rattle.mm_world.specs.{view_protections, protections_of, row_at, accepts, is_committed, is_committed_at, reserved_row, commit, marked_prot}
use Rattle.mm_world.specs.{protected, change_rows, every_page, is_copy, first_protection, PrivateRowFits, ViewRowFits, RowFits, RowsFit}
use Rattle.mm_world.specs.{held_protections}
use Rattle.std.specs.Cmp.{unsigned_Decides}
use Rattle.std.proofs.lemmas.List.{take-append-drop, length-append, length-map}
use Rattle.mm_types.specs.{Kind, View, ViewAccess, Range, base_of}
use Rattle.mm_types.proofs.{or_left, parts}
use Rattle.mm_types.specs.declared.views.Kind.TheVariants as kind
use Rattle.mm_types.specs.declared.views.ViewAccess.TheVariants as view

pub each-weaker : {A : Type 0} (P Q : A → Type 0) (xs : List A) → ((x : A) → P x → Q x) → Each P xs → Each Q xs
each-weaker P Q [] f h = tt
each-weaker P Q (x ∷ xs) f h = (f x h.0, each-weaker P Q xs f h.1)

module _ {A : Type 0} where
  pub each-append : (P : A → Type 0) (xs ys : List A) → Each P xs → Each P ys → Each P (xs ++ ys)
  each-append P [] ys h k = k
  each-append P (x ∷ xs) ys h k = (h.0, each-append P xs ys h.1 k)

  pub each-take : (P : A → Type 0) (n : ℕ) (xs : List A) → Each P xs → Each P (take n xs)
  each-take P (suc n) (x ∷ xs) h = (h.0, each-take P n xs h.1)
  each-take P _ _ h = cc

  pub each-drop : (P : A → Type 0) (n : ℕ) (xs : List A) → Each P xs → Each P (drop n xs)
  each-drop P zero xs h = h
  each-drop P (suc n) [] h = tt
  each-drop P (suc n) (x ∷ xs) h = each-drop P n xs h.1

  pub each-insert : (P : A → Type 0) (xs : List A) (i : ℕ) (x : A) → Each P xs → P x → Each P (insert xs i x)
  each-insert P xs i x h k = each-append P (take i xs) (x ∷ drop i xs) (each-take P i xs h) (k, each-drop P i xs h)

  pub each-remove : (P : A → Type 0) (xs : List A) (i : ℕ) → Each P xs → Each P (remove xs i)
  each-remove P xs i h = each-append P (take i xs) (drop (suc i) xs) (each-take P i xs h) (each-drop P (suc i) xs h)

  pub each-set : (P : A → Type 0) (xs : List A) (i : ℕ) (x : A) → Each P xs → P x → Each P (set xs i x)
  each-set P [] i x h k = tt
  each-set P (y ∷ xs) zero x h k = (k, h.1)
  each-set P (y ∷ xs) (suc i) x h k = (h.0, each-set P xs i x h.1 k)

  pub each-replicate : (P : A → Type 0) (n : ℕ) (x : A) → P x → Each P (replicate n x)
  each-replicate P zero x h = tt
  each-replicate P (suc n) x h = (h, each-replicate P n x h)

  pub each-at : (P : A → Type 0) (xs : List A) (i : ℕ) (x : A) → Each P xs → slice_get xs i ≡ Some x → P x
  each-at P [] i x h e = cc
  each-at P (y ∷ xs) zero x h e = subst P (let same : y ≡ x = cc in same) h.0
  each-at P (y ∷ xs) (suc i) x h e = each-at P xs i x h.1 e

  pub get-drop : (n : ℕ) (xs : List A) (i : ℕ) (x : A) → slice_get (drop n xs) i ≡ Some x → slice_get xs (n + i) ≡ Some x
  get-drop zero xs i x e = subst (λ (k : ℕ). slice_get xs k ≡ Some x) (let k : i ≡ 0 + i = omega arith in k) e
  get-drop (suc n) [] i x e = cc
  get-drop (suc n) (y ∷ xs) i x e = subst (λ (k : ℕ). slice_get (y ∷ xs) k ≡ Some x) (let k : suc (n + i) ≡ suc n + i = omega arith in k) (get-drop n xs i x e)

  pub record GotOfTake (n : ℕ) (xs : List A) (i : ℕ) (x : A) : Type 0 where
    pub within : i < n
    pub there : slice_get xs i ≡ Some x

  pub get-take : (n : ℕ) (xs : List A) (i : ℕ) (x : A) → slice_get (take n xs) i ≡ Some x → GotOfTake n xs i x
  get-take (suc n) (y ∷ xs) zero x e = record { within = omega arith; there = e }
  get-take (suc n) (y ∷ xs) (suc i) x e = let h = get-take n xs i x e in record { within = omega (arith, h.within); there = h.there }
  get-take _ _ i x e = cc

  pub each-map : (P : A → Type 0) (f : A → A) (xs : List A) → Each P xs → ((i : ℕ) (x : A) → slice_get xs i ≡ Some x → P x → P (f x)) → Each P (map f xs)
  each-map P f [] h k = tt
  each-map P f (x ∷ xs) h k = (k 0 x refl h.0, each-map P f xs h.1 (λ i y e. k (suc i) y e))

  -- a change within a range, which needs to keep what it keeps only there
  pub each-change_range : (P : A → Type 0) (change : A → A) (first count : ℕ) (xs : List A) → Each P xs → ((i : ℕ) (x : A) → first ≤ i → i < first + count → slice_get xs i ≡ Some x → P x → P (change x)) → Each P (change_range change first count xs)
  each-change_range P change first count xs h k =
      let later = drop first xs in
      let behind = each-drop P first xs h in
      each-append P (take first xs ++ map change (take count later)) (drop count later)
      (each-append P (take first xs) (map change (take count later)) (each-take P first xs h)
      (each-map P change (take count later) (each-take P count later behind) (λ i x e.
      let got = get-take count later i x e in
      k (first + i) x (omega arith) (omega (arith, got.within)) (get-drop first xs i x got.there))))
      (each-drop P count later behind)

-- a page among those that all pass the test
pub every_page-at : (test : ℕ → Bool) (first count page : ℕ) → every_page_from test first count ≡ true → first ≤ page → page < first + count → test page ≡ true
every_page-at test first zero page e low high = absurd (omega (arith, low, high))
every_page-at test first (suc count) page e low high =
    let h = parts (test first) (every_page_from test (first + 1) count) e in
    elim (dec_le page first) [
      | yes small ↦ ap test (let same : page ≡ first = omega (arith, low, small) in same) ∙ h.0
      | no big ↦ every_page-at test (first + 1) count page h.1 (omega (arith, low, big)) (omega (arith, high))
    ]

-- ---- rows keep fitting their region

-- ---- one of a few numbers

member : (a : ℕ) (rest : List ℕ) (n : ℕ) → is_one_of (a ∷ rest) n ≡ true → (a ≡ n) ⊎ (is_one_of rest n ≡ true)
member a rest n e = by_test (a == n) refl e
  where
    by_test : (b : Bool) → (a == n) ≡ b → (b || is_one_of rest n) ≡ true → (a ≡ n) ⊎ (is_one_of rest n ≡ true)
    by_test true is e = inl ((unsigned_Decides a n).0 is)
    by_test false is e = inr e

by_three : (P : ℕ → Type 0) (a b c : ℕ) → P a → P b → P c → (n : ℕ) → is_one_of (a ∷ b ∷ c ∷ []) n ≡ true → P n
by_three P a b c pa pb pc n e =
    elim (member a (b ∷ c ∷ []) n e) [
      | inl is ↦ subst P is pa
      | inr e ↦ elim (member b (c ∷ []) n e) [
        | inl is ↦ subst P is pb
        | inr e ↦ elim (member c [] n e) [
          | inl is ↦ subst P is pc
          | inr e ↦ cc
        ]
      ]
    ]

by_four : (P : ℕ → Type 0) (a b c d : ℕ) → P a → P b → P c → P d → (n : ℕ) → is_one_of (a ∷ b ∷ c ∷ d ∷ []) n ≡ true → P n
by_four P a b c d pa pb pc pd n e =
    elim (member a (b ∷ c ∷ d ∷ []) n e) [
      | inl is ↦ subst P is pa
      | inr e ↦ by_three P b c d pb pc pd n e
    ]

pub length-change_range : {A : Type 0} (change : A → A) (first count : ℕ) (xs : List A) → length (change_range change first count xs) ≡ length xs
length-change_range change first count xs =
    let later = drop first xs in
    let middle = map change (take count later) in
    omega (
      arith,
      length-append (take first xs ++ middle) (drop count later),
      length-append (take first xs) middle,
      length-map (take count later) change,
      length-append (take first xs) later,
      length-append (take count later) (drop count later),
      (ap length (take-append-drop first xs)),
      (ap length (take-append-drop count later)),
    )

module _ {B : Type 0} where
  -- a view's row that accepts a protection holds it well
  abbrev Held : ViewAccess → Option B → Bool → ℕ → Type 0
  Held access own marked n =
      is_one_of (held_protections access own (marked || (n == 8))) (cond (marked || (n == 8)) (marked_prot (is_some own) n) n) ≡ true

  held : (access : ViewAccess) (own : Option B) (marked : Bool) (n : ℕ) → (is_some own ≡ true → marked ≡ true) → (is_copy access ≡ true → marked ≡ true) → is_one_of (cond marked marked_protections (view_protections access)) n ≡ true → Held access own marked n
  held access None true n copied copy e = by_four (Held access None true) 1 2 4 8 refl refl refl refl n e
  held access (Some b) true n copied copy e = by_four (Held access (Some b) true) 1 2 4 8 refl refl refl refl n e
  held view.Read None false n copied copy e = by_three (Held view.Read None false) 1 2 8 refl refl refl n e
  held view.Write None false n copied copy e = by_four (Held view.Write None false) 1 2 4 8 refl refl refl refl n e
  held view.Copy None false n copied copy e = let bad : false ≡ true = copy refl in cc
  held access (Some b) false n copied copy e = let bad : false ≡ true = copied refl in cc

  -- ---- rows

  pub reserved_fits : PrivateRowFits {B = B} reserved_row
  reserved_fits = record { unmarked = refl; reserved = λ e. refl; committed = λ e. cc }

  pub commit_fits : (fresh : B) (prot : ℕ) (row : RowOf B) → is_one_of private_protections (base_of prot) ≡ true → PrivateRowFits (commit fresh prot row)
  commit_fits fresh prot row e = record { unmarked = refl; reserved = λ n. cc; committed = λ n. e }

  view_fits : (v : View) (prot : ℕ) (row : RowOf B) → is_one_of (protections_of (kind.View v) row) (base_of prot) ≡ true → ViewRowFits v.access row → ViewRowFits v.access (protected (kind.View v) prot row)
  view_fits v prot row e h =
      record {
        copied = λ n. or_left row.marked (base_of prot == 8) (h.copied n);
        copy_view = λ n. or_left row.marked (base_of prot == 8) (h.copy_view n);
        held = held v.access row.own row.marked (base_of prot) h.copied h.copy_view e;
      }

  pub new_view_fits : (access : ViewAccess) → ViewRowFits {B = B} access (record { prot = first_protection access; guard = false; marked = is_copy access; own = None })
  new_view_fits access = record { copied = λ e. cc; copy_view = λ e. e; held = by_access access }
    where
      by_access : (access : ViewAccess) → is_one_of (held_protections {B = B} access None (is_copy access)) (first_protection access) ≡ true
      by_access view.Read = refl
      by_access _ = cc

  -- ---- rows of a range

  pub rows_change : (change : RowOf B → RowOf B) (range : Range) (r : RegionOf B) → RowsFit r → r.base ≤ range.first → ((page : ℕ) (row : RowOf B) → range.first ≤ page → page < range.first + range.count → row_at r page ≡ Some row → RowFits r.kind row → RowFits r.kind (change row)) → RowsFit (change_rows change range r)
  rows_change change range r h low keeps =
      each-change_range (RowFits r.kind) change (range.first - r.base) range.count r.rows h (λ i row at_least below there fits.
      let same : i ≡ r.base + i - r.base = omega arith in
      let at_page : row_at r (r.base + i) ≡ Some row = subst (λ (k : ℕ). slice_get r.rows k ≡ Some row) same there in
      keeps (r.base + i) row (omega (arith, at_least)) (omega (arith, below, low)) at_page fits)

  accepted : (r : RegionOf B) (prot page : ℕ) (row : RowOf B) → row_at r page ≡ Some row → accepts r prot page ≡ true → is_one_of (protections_of r.kind row) (base_of prot) ≡ true
  accepted r prot page row there e =
      sym (ap (λ o. unwrap_or (option_map (λ (row : RowOf B). is_one_of (protections_of r.kind row) (base_of prot)) o) false) there) ∙ e

  protected_fits : (w : WorldOf B) (k : Kind) (i prot : ℕ) (row : RowOf B) → is_one_of (protections_of k row) (base_of prot) ≡ true → is_committed w k i row ≡ true → RowFits k row → RowFits k (protected k prot row)
  protected_fits w kind.Private i prot row e there h =
      record {
        unmarked = h.unmarked;
        reserved = λ n. let bad : true ≡ false = sym there ∙ ap is_some n in cc;
        committed = λ n. e;
      }
  protected_fits w (kind.View v) i prot row e there h = view_fits v prot row e h

  pub rows_protected : (w : WorldOf B) (r : RegionOf B) (prot : ℕ) (range : Range) → RowsFit r → r.base ≤ range.first → every_page (is_committed_at w r) range ≡ true → every_page (accepts r prot) range ≡ true → RowsFit (change_rows (protected r.kind prot) range r)
  rows_protected w r prot range h low there takes =
      rows_change (protected r.kind prot) range r h low (λ page row at_least below at_page fits.
      protected_fits w r.kind (page - r.base) prot row
      (accepted r prot page row at_page (every_page-at (accepts r prot) range.first range.count page takes at_least below))
      ((sym (ap (λ o. unwrap_or (option_map (is_committed w r.kind (page - r.base)) o) false) at_page) ∙ (every_page-at (is_committed_at w r) range.first range.count page there at_least below)))
      fits)

  view_protected : (k : Kind) (v : View) (prot : ℕ) (row : RowOf B) → k ≡ kind.View v → is_one_of (protections_of k row) (base_of prot) ≡ true → RowFits k row → RowFits k (protected k prot row)
  view_protected k v prot row is =
      subst (λ k. is_one_of (protections_of k row) (base_of prot) ≡ true → RowFits k row → RowFits k (protected k prot row)) (sym is) (view_fits v prot row)

  pub view_rows_protected : (r : RegionOf B) (v : View) (prot : ℕ) (range : Range) → r.kind ≡ kind.View v → RowsFit r → r.base ≤ range.first → every_page (accepts r prot) range ≡ true → RowsFit (change_rows (protected r.kind prot) range r)
  view_rows_protected r v prot range is h low takes =
      rows_change (protected r.kind prot) range r h low (λ page row at_least below at_page fits.
      view_protected r.kind v prot row is (accepted r prot page row at_page (every_page-at (accepts r prot) range.first range.count page takes at_least below)) fits)

  private_row : (k : Kind) (row : RowOf B) → k ≡ kind.Private → PrivateRowFits row → RowFits k row
  private_row k row is h = subst (λ k. RowFits k row) (sym is) h

  pub rows_committed : (fresh : B) (r : RegionOf B) (prot : ℕ) (range : Range) → r.kind ≡ kind.Private → RowsFit r → r.base ≤ range.first → is_one_of private_protections (base_of prot) ≡ true → RowsFit (change_rows (commit fresh prot) range r)
  rows_committed fresh r prot range is h low e =
      rows_change (commit fresh prot) range r h low (λ page row at_least below at_page fits. private_row r.kind _ is (commit_fits fresh prot row e))

  pub rows_cleared : (r : RegionOf B) (range : Range) → r.kind ≡ kind.Private → RowsFit r → r.base ≤ range.first → RowsFit (change_rows (λ row. reserved_row) range r)
  rows_cleared r range is h low =
      rows_change (λ row. reserved_row) range r h low (λ page row at_least below at_page fits. private_row r.kind _ is reserved_fits)
