-- Rows in chunks and behind them, as one list.
use Rattle.std.proofs.Common.{◌≡◌, ◌⊎◌, ℕ, zero, suc, ◌+◌, ◌-◌, ◌*◌, ◌/◌, ◌%◌, ◌<◌, ◌≤◌, List, [], ◌∷◌, ◌++◌, length, get_or, set, take, drop, replicate, Some, Bool, true, false, not, ◌&&◌, eqb, refl, sym, ap, ◌∙◌, subst, inl, inr, arith, append_assoc, length-set, length-append, ◌^◌, Option, None, cond}
use mathlib.Core.Bool.{beq}
use Rattle.std.specs.List.{All, prefix_len}
use Rattle.std.specs.Prelude.{slice_get, ◌==◌}
use Rattle.std.proofs.lemmas.Nat.{div-add-mod', mod_below}
use Rattle.std.proofs.lemmas.Option.{slice_get-get_or, get_or_from_slice_get}
use Rattle.mm_types.proofs.{same_or_not}
use Rattle.std.proofs.lemmas.List.{ext_get_or, same_lists, get_or_default, length-replicate, length-take-le, length-drop, get_or_past, get_or_append_left, get_or-append_right, take-append-le, drop-append-le, replicate-append-replicate, get_or-replicate, get_or-take, get_or-drop, drop_more, drop-drop, take-append-drop}
use Rattle.mm_vad.specs.{Row, rows_joined, AreRows, filled_rows, WrittenOf, rows_of, AreAll, FilledSome, Look, look_of, same_flag, same_look}
use Rattle.mm_vad.specs.{are_alike, first_alike, run_from}
use Rattle.std.proofs.lemmas.Bool.{and_from, eq-eqb}
use Rattle.std.proofs.lemmas.List.Folds.{length-prefix_len}

-- ---- rows in whole chunks and the rows behind them, as one list

abbrev pub AreWhole : List (List Row) → Type 0
AreWhole chunks = All (λ rows. length rows ≡ 512) chunks

whole_rest : (rows : List Row) (chunks : List (List Row)) → AreWhole (rows ∷ chunks) → AreWhole chunks
whole_rest rows chunks whole = λ k d h. whole (suc k) d (omega arith)

whole_first : (rows : List Row) (chunks : List (List Row)) → AreWhole (rows ∷ chunks) → length rows ≡ 512
whole_first rows chunks whole = whole zero [] (omega arith)

pub length-joined : (chunks : List (List Row)) (rest : List Row) → AreWhole chunks → length (rows_joined chunks rest) ≡ length chunks * 512 + length rest
length-joined [] rest whole = omega arith
length-joined (rows ∷ chunks) rest whole = omega (arith, length-append rows (rows_joined chunks rest), whole_first rows chunks whole, length-joined chunks rest (whole_rest rows chunks whole))

none_before : (o : ℕ) → 0 * 512 + o ≡ o
none_before o = omega arith

-- a row of a chunk, and one behind the chunks
pub joined_within : (chunks : List (List Row)) (rest : List Row) (k o : ℕ) (d : Row) → AreWhole chunks → k < length chunks → o < 512 → get_or (rows_joined chunks rest) (k * 512 + o) d ≡ get_or (get_or chunks k []) o d
joined_within [] rest k o d whole h l = absurd (omega arith)
joined_within (rows ∷ chunks) rest zero o d whole h l =
    ap (λ (q : ℕ). get_or (rows ++ rows_joined chunks rest) q d) (none_before o) ∙ get_or_append_left rows (rows_joined chunks rest) d o (omega (arith, l, whole_first rows chunks whole))
joined_within (rows ∷ chunks) rest (suc k) o d whole h l =
    get_or-append_right rows (rows_joined chunks rest) 512 (suc k * 512 + o) d (whole_first rows chunks whole) (omega arith)
    ∙ ap (λ (q : ℕ). get_or (rows_joined chunks rest) q d) (omega arith)
    ∙ joined_within chunks rest k o d (whole_rest rows chunks whole) (omega arith) l

pub joined_behind : (chunks : List (List Row)) (rest : List Row) (o : ℕ) (d : Row) → AreWhole chunks → get_or (rows_joined chunks rest) (length chunks * 512 + o) d ≡ get_or rest o d
joined_behind [] rest o d whole = ap (λ (q : ℕ). get_or rest q d) (none_before o)
joined_behind (rows ∷ chunks) rest o d whole =
    get_or-append_right rows (rows_joined chunks rest) 512 (suc (length chunks) * 512 + o) d (whole_first rows chunks whole) (omega arith)
    ∙ ap (λ (q : ℕ). get_or (rows_joined chunks rest) q d) (omega arith)
    ∙ joined_behind chunks rest o d (whole_rest rows chunks whole)

-- chunks stay whole
pub whole-set : (chunks : List (List Row)) (k : ℕ) (rows : List Row) → AreWhole chunks → length rows ≡ 512 → AreWhole (set chunks k rows)
whole-set [] k rows whole long j d h = absurd (omega arith)
whole-set (r ∷ chunks) zero rows whole long zero d h = long
whole-set (r ∷ chunks) zero rows whole long (suc j) d h = whole (suc j) d (omega arith)
whole-set (r ∷ chunks) (suc k) rows whole long zero d h = whole zero d (omega arith)
whole-set (r ∷ chunks) (suc k) rows whole long (suc j) d h = whole-set chunks k rows (whole_rest r chunks whole) long j d (omega arith)

pub whole-replicate : (n : ℕ) (rows : List Row) → length rows ≡ 512 → AreWhole (replicate n rows)
whole-replicate zero rows long k d h = absurd (omega arith)
whole-replicate (suc n) rows long zero d h = long
whole-replicate (suc n) rows long (suc k) d h = whole-replicate n rows long k d (omega arith)

pub joined-replicate : (n m : ℕ) (row : Row) → rows_joined (replicate n (replicate 512 row)) (replicate m row) ≡ replicate (n * 512 + m) row
joined-replicate zero m row = ap (λ (q : ℕ). replicate q row) (sym (none_before m))
joined-replicate (suc n) m row =
    ap (λ (xs : List Row). replicate 512 row ++ xs) (joined-replicate n m row)
    ∙ replicate-append-replicate 512 (n * 512 + m) row
    ∙ ap (λ (q : ℕ). replicate q row) (omega arith)

-- rows that compare as equal
pub equal_if_eq : (a b : Row) → (eqb a.prot.0 b.prot.0 && (beq a.committed b.committed && (beq a.guard b.guard && (beq a.copied b.copied && beq a.marked b.marked)))) ≡ true → a ≡ b
equal_if_eq a b e = grind (arith, e)

-- one row more that is equal to it
pub equal_more : (rows : List Row) (at n : ℕ) (row d : Row) → at + n < length rows → ((k : ℕ) → k < n → get_or rows (at + k) row ≡ row) → get_or rows (at + n) d ≡ row → (k : ℕ) → k < n + 1 → get_or rows (at + k) row ≡ row
equal_more rows at n row d inside before here k few =
    elim (same_or_not k n) [
      | inl same ↦ ap (λ (i : ℕ). get_or rows (at + i) row) same ∙ get_or_default rows (at + n) row d inside ∙ here
      | inr other ↦ before k (omega (arith, few, other))
    ]

pub equal_unless_other : (a b : Row) → not (eqb a.prot.0 b.prot.0 && (beq a.committed b.committed && (beq a.guard b.guard && (beq a.copied b.copied && beq a.marked b.marked)))) ≡ false → a ≡ b
equal_unless_other a b e = equal_if_eq a b (is_true _ e)
  where
    is_true : (b : Bool) → not b ≡ false → b ≡ true
    is_true true e = refl
    is_true false e = cc

-- equal rows
pub equal_run : (rows : List Row) (i n : ℕ) (row : Row) → i + n ≤ length rows → ((k : ℕ) → k < n → get_or rows (i + k) row ≡ row) → take n (drop i rows) ≡ replicate n row
equal_run rows i n row h each =
    let long : length (take n (drop i rows)) ≡ n = length-take-le n (drop i rows) (omega (arith, h, length-drop i rows)) in
    ext_get_or row (take n (drop i rows)) (replicate n row) (long ∙ sym (length-replicate n row))
    (λ k l. get_or-take n (drop i rows) k row (omega arith) ∙ get_or-drop i rows k row ∙ each k (omega arith) ∙ sym (get_or-replicate n k row row (omega arith)))

-- a row of a run of equal ones
run_at : (rows : List Row) (o n j : ℕ) (row : Row) → take n (drop o rows) ≡ replicate n row → j < n → get_or rows (o + j) row ≡ row
run_at rows o n j row e m =
    sym (get_or-drop o rows j row)
    ∙ sym (get_or-take n (drop o rows) j row m)
    ∙ ap (λ (rs : List Row). get_or rs j row) e
    ∙ get_or-replicate n j row row m

pub equal_part : (rows : List Row) (long at n : ℕ) (row : Row) → rows ≡ replicate long row → at + n ≤ long → take n (drop at rows) ≡ replicate n row
equal_part rows long at n row e h =
    ap (λ (rs : List Row). take n (drop at rs)) e
    ∙ equal_run (replicate long row) at n row (omega (arith, h, length-replicate long row)) (λ k l. get_or-replicate long (at + k) row row (omega (arith, h)))

-- what is equal in a chunk, and behind the chunks, is equal in all rows
pub equal_within : (chunks : List (List Row)) (rest shown : List Row) (i n : ℕ) (row : Row) → AreWhole chunks → rows_joined chunks rest ≡ shown → i / 512 < length chunks → i % 512 + n ≤ 512 → take n (drop (i % 512) (get_or chunks (i / 512) [])) ≡ replicate n row → take n (drop i shown) ≡ replicate n row
equal_within chunks rest shown i n row whole is low high e =
    let all = rows_joined chunks rest in
    let k = i / 512 in
    let o = i % 512 in
    let split : k * 512 + o ≡ i = div-add-mod' i 512 in
    let long = length-joined chunks rest whole in
    ap (λ (rs : List Row). take n (drop i rs)) (sym is)
    ∙ equal_run all i n row (omega (arith, split, low, high, long))
    (λ j m.
    ap (λ (q : ℕ). get_or all q row) (let q : i + j ≡ k * 512 + (o + j) = omega (arith, split) in q)
    ∙ joined_within chunks rest k (o + j) row whole low (omega (arith, high))
    ∙ run_at (get_or chunks k []) o n j row e m)

pub equal_behind : (chunks : List (List Row)) (rest shown : List Row) (i n : ℕ) (row : Row) → AreWhole chunks → rows_joined chunks rest ≡ shown → length chunks ≤ i / 512 → i + n ≤ length shown → take n (drop (i - length chunks * 512) rest) ≡ replicate n row → take n (drop i shown) ≡ replicate n row
equal_behind chunks rest shown i n row whole is high inside e =
    let all = rows_joined chunks rest in
    let o = i - length chunks * 512 in
    let split : i ≡ length chunks * 512 + o = omega (arith, div-add-mod' i 512, high) in
    ap (λ (rs : List Row). take n (drop i rs)) (sym is)
    ∙ equal_run all i n row (omega (arith, inside, ap length is))
    (λ j m.
    ap (λ (q : ℕ). get_or all q row) (let q : i + j ≡ length chunks * 512 + (o + j) = omega (arith, split) in q)
    ∙ joined_behind chunks rest (o + j) row whole
    ∙ run_at rest o n j row e m)

-- a row as it is read
pub read_within : (chunks : List (List Row)) (rest shown : List Row) (i : ℕ) (row : Row) → AreWhole chunks → rows_joined chunks rest ≡ shown → i < length shown → i / 512 < length chunks → slice_get (get_or chunks (i / 512) []) (i % 512) ≡ Some row → slice_get shown i ≡ Some row
read_within chunks rest shown i row whole is there low e =
    slice_get-get_or shown i row there
    ∙ ap (λ (r : Row). Some r)
    (ap (λ (rs : List Row). get_or rs i row) (sym is)
    ∙ ap (λ (q : ℕ). get_or (rows_joined chunks rest) q row) (sym (div-add-mod' i 512))
    ∙ joined_within chunks rest (i / 512) (i % 512) row whole low (mod_below i 512 (omega arith))
    ∙ get_or_from_slice_get (get_or chunks (i / 512) []) (i % 512) row row e)

pub read_behind : (chunks : List (List Row)) (rest shown : List Row) (i : ℕ) (row : Row) → AreWhole chunks → rows_joined chunks rest ≡ shown → i < length shown → length chunks ≤ i / 512 → row ≡ get_or rest (i - length chunks * 512) row → slice_get shown i ≡ Some row
read_behind chunks rest shown i row whole is there high e =
    let split : i ≡ length chunks * 512 + (i - length chunks * 512) = omega (arith, div-add-mod' i 512, high) in
    slice_get-get_or shown i row there
    ∙ ap (λ (r : Row). Some r)
    (ap (λ (rs : List Row). get_or rs i row) (sym is)
    ∙ ap (λ (q : ℕ). get_or (rows_joined chunks rest) q row) split
    ∙ joined_behind chunks rest (i - length chunks * 512) row whole
    ∙ sym e)

pub rows_kept : (chunks chunks' : List (List Row)) (rest rest' : List Row) → AreRows chunks rest → AreWhole chunks' → length chunks' ≡ length chunks → length rest' ≡ length rest → AreRows chunks' rest'
rows_kept chunks chunks' rest rest' s whole long longer = record {
  whole = whole;
  few = omega (arith, s.few, length-joined chunks rest s.whole, length-joined chunks' rest' whole, long, longer);
}

pub kept_within : (chunks chunks' : List (List Row)) (rest : List Row) (k : ℕ) (rows : List Row) → AreRows chunks rest → length rows ≡ 512 → chunks' ≡ set chunks k rows → AreRows chunks' rest
kept_within chunks chunks' rest k rows s long e =
    rows_kept chunks chunks' rest rest s (subst AreWhole (sym e) (whole-set chunks k rows s.whole long)) (ap length e ∙ length-set chunks k rows) refl

pub kept_behind : (chunks : List (List Row)) (rest rest' : List Row) → AreRows chunks rest → length rest' ≡ length rest → AreRows chunks rest'
kept_behind chunks rest rest' s long = rows_kept chunks chunks rest rest' s s.whole refl long

-- ---- rows that are filled

pub length-filled : (rows : List Row) (first n : ℕ) (row : Row) → first + n ≤ length rows → length (filled_rows rows first n row) ≡ length rows
length-filled rows first n row h =
    omega (arith, length-append (take first rows ++ replicate n row) (drop (first + n) rows), length-append (take first rows) (replicate n row), length-take-le first rows (omega arith), length-replicate n row, length-drop (first + n) rows)

-- the rows before, in and behind those that are filled
filled_before : (rows : List Row) (first n : ℕ) (row : Row) (k : ℕ) (d : Row) → first + n ≤ length rows → k < first → get_or (filled_rows rows first n row) k d ≡ get_or rows k d
filled_before rows first n row k d h low =
    let long = length-take-le first rows (omega arith) in
    get_or_append_left (take first rows ++ replicate n row) (drop (first + n) rows) d k (omega (arith, long, length-append (take first rows) (replicate n row)))
    ∙ get_or_append_left (take first rows) (replicate n row) d k (omega (arith, long))
    ∙ get_or-take first rows k d low

filled_within : (rows : List Row) (first n : ℕ) (row : Row) (k : ℕ) (d : Row) → first + n ≤ length rows → first ≤ k → k < first + n → get_or (filled_rows rows first n row) k d ≡ row
filled_within rows first n row k d h low high =
    let long = length-take-le first rows (omega arith) in
    get_or_append_left (take first rows ++ replicate n row) (drop (first + n) rows) d k (omega (arith, long, length-append (take first rows) (replicate n row), length-replicate n row))
    ∙ get_or-append_right (take first rows) (replicate n row) first k d long low
    ∙ get_or-replicate n (k - first) row d (omega arith)

filled_behind : (rows : List Row) (first n : ℕ) (row : Row) (k : ℕ) (d : Row) → first + n ≤ length rows → first + n ≤ k → get_or (filled_rows rows first n row) k d ≡ get_or rows k d
filled_behind rows first n row k d h high =
    let long : length (take first rows ++ replicate n row) ≡ first + n = omega (arith, length-append (take first rows) (replicate n row), length-replicate n row, length-take-le first rows (omega arith)) in
    get_or-append_right (take first rows ++ replicate n row) (drop (first + n) rows) (first + n) k d long high
    ∙ get_or-drop (first + n) rows (k - (first + n)) d
    ∙ ap (λ (q : ℕ). get_or rows q d) (omega arith)

pub below_or_not : (k n : ℕ) → (k < n) ⊎ (n ≤ k)
below_or_not k n = elim (same_or_not (n - k) 0) [
  | inl e ↦ inr (omega (arith, e))
  | inr d ↦ inl (omega (arith, d))
]

-- rows are filled by what stands there afterwards
pub filled_is : (rows rows' : List Row) (first n : ℕ) (row : Row) → first + n ≤ length rows → length rows' ≡ length rows → ((k : ℕ) (d : Row) → k < first → get_or rows' k d ≡ get_or rows k d) → ((k : ℕ) (d : Row) → first ≤ k → k < first + n → get_or rows' k d ≡ row) → ((k : ℕ) (d : Row) → first + n ≤ k → get_or rows' k d ≡ get_or rows k d) → rows' ≡ filled_rows rows first n row
filled_is rows rows' first n row h long before within behind =
    same_lists rows' (filled_rows rows first n row) (long ∙ sym (length-filled rows first n row h))
    (λ k d l. elim (below_or_not k first) [
      | inl low ↦ before k d low ∙ sym (filled_before rows first n row k d h low)
      | inr high ↦ elim (below_or_not k (first + n)) [
        | inl mid ↦ within k d high mid ∙ sym (filled_within rows first n row k d h high mid)
        | inr past ↦ behind k d past ∙ sym (filled_behind rows first n row k d h past)
      ]
    ])

pub filled_none : (rows : List Row) (first : ℕ) (row : Row) → first ≤ length rows → rows ≡ filled_rows rows first 0 row
filled_none rows first row h = filled_is rows rows first 0 row (omega arith) refl (λ k d low. refl) (λ k d low high. absurd (omega arith)) (λ k d high. refl)

pub filled-more : (rows : List Row) (first a b : ℕ) (row : Row) → first + a + b ≤ length rows → filled_rows (filled_rows rows first a row) (first + a) b row ≡ filled_rows rows first (a + b) row
filled-more rows first a b row h =
    let long = length-filled rows first a row (omega arith) in
    let once = filled_rows rows first a row in
    let more : first + a + b ≤ length once = omega (arith, long) in
    filled_is rows (filled_rows once (first + a) b row) first (a + b) row (omega arith) (length-filled once (first + a) b row more ∙ long)
    (λ k d low. filled_before once (first + a) b row k d more (omega arith) ∙ filled_before rows first a row k d (omega arith) low)
    (λ k d low high. elim (below_or_not k (first + a)) [
      | inl mid ↦ filled_before once (first + a) b row k d more mid ∙ filled_within rows first a row k d (omega arith) low mid
      | inr past ↦ filled_within once (first + a) b row k d more past (omega arith)
    ])
    (λ k d high. filled_behind once (first + a) b row k d more (omega arith) ∙ filled_behind rows first a row k d (omega arith) (omega arith))

-- rows that are equal already
pub filled_same : (rows : List Row) (first n m : ℕ) (row : Row) → first + m ≤ length rows → n ≤ m → take m (drop first rows) ≡ replicate m row → rows ≡ filled_rows rows first n row
filled_same rows first n m row h l e =
    filled_is rows rows first n row (omega arith) refl (λ k d low. refl)
    (λ k d low high.
    ap (λ (q : ℕ). get_or rows q d) (let q : k ≡ first + (k - first) = omega arith in q)
    ∙ sym (get_or-drop first rows (k - first) d)
    ∙ sym (get_or-take m (drop first rows) (k - first) d (omega arith))
    ∙ ap (λ (rs : List Row). get_or rs (k - first) d) e
    ∙ get_or-replicate m (k - first) row d (omega arith))
    (λ k d high. refl)

-- all of them
pub filled_whole : (rows : List Row) (all at n : ℕ) (row : Row) → length rows ≡ all → n ≡ all → at ≡ 0 → replicate all row ≡ filled_rows rows at n row
filled_whole rows all at n row long whole first =
    filled_is rows (replicate all row) at n row (omega (arith, long, whole, first)) (length-replicate all row ∙ sym long)
    (λ k d low. absurd (omega (arith, first)))
    (λ k d low high. get_or-replicate all k row d (omega (arith, whole, first)))
    (λ k d high. get_or_past (replicate all row) k d (omega (arith, whole, first, length-replicate all row)) ∙ sym (get_or_past rows k d (omega (arith, whole, first, long))))

-- rows of the first of two lists, and rows of the other
filled_left : (xs ys : List Row) (first n : ℕ) (row : Row) → first + n ≤ length xs → filled_rows xs first n row ++ ys ≡ filled_rows (xs ++ ys) first n row
filled_left xs ys first n row h = simp (take-append-le first xs ys (omega arith), drop-append-le (first + n) xs ys h, append_assoc)

filled_right : (xs ys : List Row) (m o n : ℕ) (row : Row) → length xs ≡ m → xs ++ filled_rows ys o n row ≡ filled_rows (xs ++ ys) (m + o) n row
filled_right [] ys m o n row e = ap (λ (q : ℕ). filled_rows ys q n row) (omega arith)
filled_right (x ∷ xs) ys m o n row e =
    let at = length xs + o in
    let next : suc (at + n) ≡ m + o + n = omega (arith, e) in
    let here : suc at ≡ m + o = omega (arith, e) in
    ap (λ (rows : List Row). x ∷ rows) (filled_right xs ys (length xs) o n row refl)
    ∙ ap (λ (q : ℕ). take (suc at) (x ∷ xs ++ ys) ++ replicate n row ++ drop q (x ∷ xs ++ ys)) next
    ∙ ap (λ (q : ℕ). take q (x ∷ xs ++ ys) ++ replicate n row ++ drop (m + o + n) (x ∷ xs ++ ys)) here

-- rows of a chunk, one after another, and rows behind the chunks
filled_part : (chunks : List (List Row)) (rest : List Row) (k o n : ℕ) (row : Row) → AreWhole chunks → k < length chunks → o + n ≤ 512 → rows_joined (set chunks k (filled_rows (get_or chunks k []) o n row)) rest ≡ filled_rows (rows_joined chunks rest) (k * 512 + o) n row
filled_part [] rest k o n row whole h l = absurd (omega arith)
filled_part (rows ∷ chunks) rest zero o n row whole h l =
    filled_left rows (rows_joined chunks rest) o n row (omega (arith, l, whole_first rows chunks whole))
    ∙ ap (λ (q : ℕ). filled_rows (rows ++ rows_joined chunks rest) q n row) (sym (none_before o))
filled_part (rows ∷ chunks) rest (suc k) o n row whole h l =
    ap (λ (xs : List Row). rows ++ xs) (filled_part chunks rest k o n row (whole_rest rows chunks whole) (omega arith) l)
    ∙ filled_right rows (rows_joined chunks rest) 512 (k * 512 + o) n row (whole_first rows chunks whole)
    ∙ ap (λ (q : ℕ). filled_rows (rows ++ rows_joined chunks rest) q n row) (omega arith)

filled_rest : (chunks : List (List Row)) (rest : List Row) (o n : ℕ) (row : Row) → AreWhole chunks → rows_joined chunks (filled_rows rest o n row) ≡ filled_rows (rows_joined chunks rest) (length chunks * 512 + o) n row
filled_rest [] rest o n row whole = ap (λ (q : ℕ). filled_rows rest q n row) (sym (none_before o))
filled_rest (rows ∷ chunks) rest o n row whole =
    ap (λ (xs : List Row). rows ++ xs) (filled_rest chunks rest o n row (whole_rest rows chunks whole))
    ∙ filled_right rows (rows_joined chunks rest) 512 (length chunks * 512 + o) n row (whole_first rows chunks whole)
    ∙ ap (λ (q : ℕ). filled_rows (rows ++ rows_joined chunks rest) q n row) (omega arith)

-- the same from row i of all on
pub filled_within_chunk : (chunks : List (List Row)) (rest shown : List Row) (i n : ℕ) (row : Row) → AreWhole chunks → rows_joined chunks rest ≡ shown → i / 512 < length chunks → i % 512 + n ≤ 512 → rows_joined (set chunks (i / 512) (filled_rows (get_or chunks (i / 512) []) (i % 512) n row)) rest ≡ filled_rows shown i n row
filled_within_chunk chunks rest shown i n row whole is low high =
    filled_part chunks rest (i / 512) (i % 512) n row whole low high
    ∙ ap (λ (q : ℕ). filled_rows (rows_joined chunks rest) q n row) (div-add-mod' i 512)
    ∙ ap (λ (rs : List Row). filled_rows rs i n row) is

pub filled_behind_chunks : (chunks : List (List Row)) (rest shown : List Row) (i n : ℕ) (row : Row) → AreWhole chunks → rows_joined chunks rest ≡ shown → length chunks ≤ i / 512 → rows_joined chunks (filled_rows rest (i - length chunks * 512) n row) ≡ filled_rows shown i n row
filled_behind_chunks chunks rest shown i n row whole is high =
    filled_rest chunks rest (i - length chunks * 512) n row whole
    ∙ ap (λ (q : ℕ). filled_rows (rows_joined chunks rest) q n row) (omega (arith, div-add-mod' i 512, high))
    ∙ ap (λ (rs : List Row). filled_rows rs i n row) is

-- ---- the rows of a region as they are seen: equal to one row, or written out

pub rows_written : {seen now : WrittenOf} → seen ≡ now → seen.rows ≡ now.rows
rows_written e = ap (λ (w : WrittenOf). w.rows) e

pub room_written : {seen now : WrittenOf} → seen ≡ now → seen.room ≡ now.room
room_written e = ap (λ (w : WrittenOf). w.room) e

seen_as : List Row → ℕ → WrittenOf
seen_as rows room = record { rows = rows; room = room }

pub written_as : (rows rows' : List Row) (room room' : ℕ) → rows ≡ rows' → room ≡ room' → ◌≡◌ {A = WrittenOf} (record { rows = rows; room = room }) (record { rows = rows'; room = room' })
unfolding seen_as
written_as rows rows' room room' e f = ap (λ (rs : List Row). seen_as rs room) e ∙ ap (seen_as rows') f

-- ---- n equal rows, in chunks and behind them

pub joined-equal : (n : ℕ) (row : Row) (chunks : List (List Row)) (rest : List Row) → chunks ≡ replicate (n / 512) (replicate 512 row) → rest ≡ replicate (n % 512) row → rows_joined chunks rest ≡ replicate n row
joined-equal n row chunks rest e f =
    ap (λ (cs : List (List Row)). rows_joined cs rest) e
    ∙ ap (λ (rs : List Row). rows_joined (replicate (n / 512) (replicate 512 row)) rs) f
    ∙ joined-replicate (n / 512) (n % 512) row
    ∙ ap (λ (q : ℕ). replicate q row) (div-add-mod' n 512)

pub equal-rows : (n : ℕ) (row : Row) (chunks : List (List Row)) (rest : List Row) → n < 2 ^ 32 → chunks ≡ replicate (n / 512) (replicate 512 row) → rest ≡ replicate (n % 512) row → AreRows chunks rest
equal-rows n row chunks rest small e f = record {
  whole = subst AreWhole (sym e) (whole-replicate (n / 512) (replicate 512 row) (length-replicate 512 row));
  few = omega (arith, small, ap length (joined-equal n row chunks rest e f), length-replicate n row);
}

pub no-rows : (chunks : List (List Row)) (rest : List Row) → chunks ≡ [] → rest ≡ [] → AreRows chunks rest
no-rows chunks rest e f =
    subst (λ (cs : List (List Row)). AreRows cs rest) (sym e) (subst (AreRows []) (sym f) (record { whole = λ k d h. absurd (omega arith); few = omega arith }))

-- ---- one row, or all written out

pub as_one : (equal : Option Row) (w : WrittenOf) (now : List Row) (row : Row) → rows_of equal w ≡ now → equal ≡ Some row → now ≡ replicate w.room row
as_one equal w now row e is = sym e ∙ ap (λ (o : Option Row). rows_of o w) is

pub as_written : (equal : Option Row) (w : WrittenOf) (now : List Row) → rows_of equal w ≡ now → equal ≡ None → now ≡ w.rows
as_written equal w now e is = sym e ∙ ap (λ (o : Option Row). rows_of o w) is

pub length-rows : (equal : Option Row) (w : WrittenOf) (now : List Row) → AreAll equal w → rows_of equal w ≡ now → w.room ≡ length now
length-rows (Some row) w now all e = sym (length-replicate w.room row) ∙ ap length e
length-rows None w now all e = sym all ∙ ap length e

-- filling some of them changes nothing, since they were equal to the row
pub filled_equal : (now : List Row) (first n room : ℕ) (before row : Row) → now ≡ replicate room before → before ≡ row → room < 2 ^ 32 → 0 < n → first + n ≤ length now → FilledSome now now first n row n
filled_equal now first n room before row is same few some inside =
    let long : length now ≡ room = ap length is ∙ length-replicate room before in
    record {
      some = some;
      within = omega arith;
      fits = omega (arith, inside, long, few);
      after = filled_same now first n n row inside (omega arith) (equal_part now room first n before is (omega (arith, inside, long)) ∙ ap (λ (r : Row). replicate n r) same);
    }

-- ---- rows in a row that are alike

same_flag_itself : (b : Bool) → same_flag b b ≡ true
same_flag_itself true = refl
same_flag_itself false = refl

same_look_itself : (a : Look) → same_look a a ≡ true
same_look_itself a =
    and_from (same_flag a.committed a.committed && (a.prot == a.prot)) (same_flag a.guard a.guard)
    (and_from (same_flag a.committed a.committed) (a.prot == a.prot) (same_flag_itself a.committed) (eq-eqb a.prot a.prot refl))
    (same_flag_itself a.guard)

pub are_alike_itself : (row : Row) → are_alike row row ≡ true
are_alike_itself row = same_look_itself (look_of row)

pub run_from_is : (rows : List Row) (i : ℕ) (first : Row) → i < length rows → get_or rows i first ≡ first → run_from rows i ≡ prefix_len (are_alike first) (drop i rows)
run_from_is rows i first h e =
    let here : drop i rows ≡ first ∷ drop (i + 1) rows = drop_more rows i first h ∙ ap (λ (row : Row). row ∷ drop (i + 1) rows) e in
    ap first_alike here
    ∙ length-prefix_len (are_alike first) (first ∷ drop (i + 1) rows)
    ∙ sym (ap (prefix_len (are_alike first)) here)

-- so many equal rows that pass a test, and those behind them
prefix_repeated : (p : Row → Bool) (n : ℕ) (row : Row) (rest : List Row) → p row ≡ true → prefix_len p (replicate n row ++ rest) ≡ n + prefix_len p rest
prefix_repeated p zero row rest e = omega arith
prefix_repeated p (suc n) row rest e = ap (λ (b : Bool). cond b (1 + prefix_len p (replicate n row ++ rest)) 0) e ∙ omega (arith, prefix_repeated p n row rest e)

pub prefix_run : (p : Row → Bool) (rows : List Row) (i n : ℕ) (row : Row) → p row ≡ true → take n (drop i rows) ≡ replicate n row → prefix_len p (drop i rows) ≡ n + prefix_len p (drop (i + n) rows)
prefix_run p rows i n row passes e =
    ap (prefix_len p) (sym (take-append-drop n (drop i rows)) ∙ ap (λ (xs : List Row). xs ++ drop n (drop i rows)) e ∙ ap (λ (xs : List Row). replicate n row ++ xs) (drop-drop n i rows))
    ∙ prefix_repeated p n row (drop (i + n) rows) passes

pub first_of_run : (rows : List Row) (i n : ℕ) (row d : Row) → 0 < n → take n (drop i rows) ≡ replicate n row → get_or rows i d ≡ row
first_of_run rows i n row d some e =
    ap (λ (q : ℕ). get_or rows q d) (let same : i ≡ i + 0 = omega arith in same)
    ∙ sym (get_or-drop i rows 0 d)
    ∙ sym (get_or-take n (drop i rows) 0 d some)
    ∙ ap (λ (rs : List Row). get_or rs 0 d) e
    ∙ get_or-replicate n 0 row d some
