-- The links of one list, as a number is put at its end or taken out of it.
use Rattle.std.proofs.Common.{◌≡◌, ◌≢◌, ℕ, suc, ◌+◌, ◌-◌, ◌<◌, List, [], ◌∷◌, ◌++◌, length, get_or, set, Some, None, sym, ap, ◌∙◌, inl, inr, arith, length-set, get_or-set_same, get_or-set_other}
use Rattle.std.specs.Prelude.{slice_get}
use Rattle.std.proofs.lemmas.List.{length_push}
use Rattle.mm_types.proofs.{get_within}
use Rattle.mm_page_lists.specs.{Linked}
use Rattle.mm_page_lists.proofs.Cuts.{same, push_cases, cut, cut_cases, length-cut, last_there}

-- links that differ only at numbers of other lists
pub linked_kept : (next prev owner next' prev' owner' : List ℕ) (j first last len : ℕ) (xs : List ℕ) → length next' ≡ length next → ((k x : ℕ) → slice_get xs k ≡ Some x → (get_or next' x 0 ≡ get_or next x 0) × (get_or prev' x 0 ≡ get_or prev x 0) × (get_or owner' x 0 ≡ get_or owner x 0)) → Linked next prev owner j first last len xs → Linked next' prev' owner' j first last len xs
linked_kept next prev owner next' prev' owner' j first last len xs n keeps l = record {
  count = l.count;
  front = l.front;
  back = l.back;
  within = λ k x e. omega (arith, l.within k x e);
  owned = λ k x e. (keeps k x e).2 ∙ l.owned k x e;
  forth = λ k x y e f. (keeps k x e).0 ∙ l.forth k x y e f;
  past = λ k x y e f. (keeps (suc k) y f).1 ∙ l.past k x y e f;
  once = l.once;
}

-- a number on an empty list
pub linked_first : (next prev owner : List ℕ) (j first last len : ℕ) (xs : List ℕ) (x : ℕ) → length xs ≡ 0 → x < length next → length owner ≡ length next → Linked next prev owner j first last len xs → Linked next prev (set owner x j) j x x (len + 1) (xs ++ x ∷ [])
linked_first next prev owner j first last len [] x empty low owners l = record {
  count = let c : len ≡ 0 = l.count in omega arith;
  front = λ y e. same x y e;
  back = λ k y e s. elim (push_cases [] x k y e) [ inl h ↦ sym h.1 | inr h ↦ let bad : None ≡ Some y = h in cc ];
  within = λ k y e. elim (push_cases [] x k y e) [ inl h ↦ omega (arith, h.1) | inr h ↦ let bad : None ≡ Some y = h in cc ];
  owned = λ k y e. elim (push_cases [] x k y e) [
    | inl h ↦ ap (λ (z : ℕ). get_or (set owner x j) z 0) h.1 ∙ get_or-set_same owner x j 0 (omega arith)
    | inr h ↦ let bad : None ≡ Some y = h in cc
  ];
  forth = λ k y z e f. let bad : suc k < length (x ∷ []) = get_within (x ∷ []) (suc k) z f in absurd (omega arith);
  past = λ k y z e f. let bad : suc k < length (x ∷ []) = get_within (x ∷ []) (suc k) z f in absurd (omega arith);
  once = λ k m y e f. let a = get_within (x ∷ []) k y e in let b = get_within (x ∷ []) m y f in omega (arith, a, b);
}
linked_first next prev owner j first last len (y ∷ xs) x empty low owners l = absurd (omega arith)

-- a number after the last one of a list
pub linked_push : (next prev owner : List ℕ) (j first last len : ℕ) (xs : List ℕ) (x : ℕ) → 0 < length xs → x < length next → length prev ≡ length next → length owner ≡ length next → ((k : ℕ) → slice_get xs k ≡ Some x → ⊥) → Linked next prev owner j first last len xs → Linked (set next last x) (set prev x last) (set owner x j) j first x (len + 1) (xs ++ x ∷ [])
linked_push next prev owner j first last len xs x some low prevs owners none l =
    let end = last_there xs some in
    let at_end : last ≡ end.1 = l.back end.0 end.1 end.3 end.2 in
    let last_low : last < length next = let h : end.1 < length next = l.within end.0 end.1 end.3 in omega (arith, at_end) in
    let apart = λ (k : ℕ) (y : ℕ) (e : slice_get xs k ≡ Some y) (s : y ≡ x). none k (e ∙ ap (λ (z : ℕ). Some z) s) in
    record {
      count = omega (arith, l.count, length_push xs x);
      front = λ y e. elim (push_cases xs x 0 y e) [ inl h ↦ absurd (omega (arith, h.0)) | inr h ↦ l.front y h ];
      back = λ k y e s. elim (push_cases xs x k y e) [
        | inl h ↦ sym h.1
        | inr h ↦ absurd (omega (arith, get_within xs k y h, length_push xs x))
      ];
      within = λ k y e. elim (push_cases xs x k y e) [
        | inl h ↦ omega (arith, h.1, length-set next last x)
        | inr h ↦ omega (arith, l.within k y h, length-set next last x)
      ];
      owned = λ k y e. elim (push_cases xs x k y e) [
        | inl h ↦ ap (λ (z : ℕ). get_or (set owner x j) z 0) h.1 ∙ get_or-set_same owner x j 0 (omega arith)
        | inr h ↦ get_or-set_other owner x y j 0 (apart k y h) ∙ l.owned k y h
      ];
      forth = λ k y z e f. elim (push_cases xs x (suc k) z f) [
        | inl h ↦ elim (push_cases xs x k y e) [
          | inl o ↦ absurd (omega (arith, h.0, o.0))
          | inr o ↦
              let here : y ≡ last = sym (l.back k y o h.0) in
              ap (λ (w : ℕ). get_or (set next last x) w 0) here ∙ get_or-set_same next last x 0 last_low ∙ sym h.1
        ]
        | inr h ↦ elim (push_cases xs x k y e) [
          | inl o ↦ absurd (omega (arith, get_within xs (suc k) z h, o.0))
          | inr o ↦
              let other : y ≢ last = λ s. let bad : k ≡ end.0 = l.once k end.0 y o (end.3 ∙ ap (λ (w : ℕ). Some w) (sym at_end ∙ sym s)) in absurd (omega (arith, get_within xs (suc k) z h, end.2)) in
              get_or-set_other next last y x 0 other ∙ l.forth k y z o h
        ]
      ];
      past = λ k y z e f. elim (push_cases xs x (suc k) z f) [
        | inl h ↦ elim (push_cases xs x k y e) [
          | inl o ↦ absurd (omega (arith, h.0, o.0))
          | inr o ↦ ap (λ (w : ℕ). get_or (set prev x last) w 0) h.1 ∙ get_or-set_same prev x last 0 (omega arith) ∙ l.back k y o h.0
        ]
        | inr h ↦ elim (push_cases xs x k y e) [
          | inl o ↦ absurd (omega (arith, get_within xs (suc k) z h, o.0))
          | inr o ↦ get_or-set_other prev x z last 0 (apart (suc k) z h) ∙ l.past k y z o h
        ]
      ];
      once = λ k m y e f. elim (push_cases xs x k y e) [
        | inl h ↦ elim (push_cases xs x m y f) [ inl o ↦ h.0 ∙ sym o.0 | inr o ↦ absurd (apart m y o h.1) ]
        | inr h ↦ elim (push_cases xs x m y f) [ inl o ↦ absurd (apart k y h o.1) | inr o ↦ l.once k m y h o ]
      ];
    }

-- a place of the list without one
cut_once : (xs : List ℕ) (p : ℕ) → ((k m x : ℕ) → slice_get xs k ≡ Some x → slice_get xs m ≡ Some x → k ≡ m) → (k m x : ℕ) → slice_get (cut xs p) k ≡ Some x → slice_get (cut xs p) m ≡ Some x → k ≡ m
cut_once xs p once k m x e f = elim (cut_cases xs p k x e) [
  | inl o ↦ elim (cut_cases xs p m x f) [
    | inl q ↦ once k m x o.1 q.1
    | inr q ↦ let s : k ≡ suc m = once k (suc m) x o.1 q.1 in omega (arith, o.0, q.0)
  ]
  | inr o ↦ elim (cut_cases xs p m x f) [
    | inl q ↦ let s : suc k ≡ m = once (suc k) m x o.1 q.1 in omega (arith, o.0, q.0)
    | inr q ↦ let s : suc k ≡ suc m = once (suc k) (suc m) x o.1 q.1 in omega arith
  ]
]

-- the first number leaves its list
pub linked_pop : (next prev owner : List ℕ) (j first last len : ℕ) (xs : List ℕ) (x : ℕ) → slice_get xs 0 ≡ Some x → Linked next prev owner j first last len xs → Linked next prev owner j (get_or next x 0) last (len - 1) (cut xs 0)
linked_pop next prev owner j first last len [] x at l = let bad : None ≡ Some x = at in cc
linked_pop next prev owner j first last len (z ∷ xs) x at l = record {
  count = let c : len ≡ suc (length xs) = l.count in omega arith;
  front = λ y e. l.forth 0 x y at e;
  back = λ k y e s. l.back (suc k) y e (ap suc s);
  within = λ k. l.within (suc k);
  owned = λ k. l.owned (suc k);
  forth = λ k. l.forth (suc k);
  past = λ k. l.past (suc k);
  once = λ k m y e f. let s : suc k ≡ suc m = l.once (suc k) (suc m) y e f in omega arith;
}

-- the last number leaves its list, on which it is not the first
pub linked_drop : (next prev owner : List ℕ) (j first last len : ℕ) (xs : List ℕ) (x p : ℕ) → slice_get xs p ≡ Some x → suc p ≡ length xs → Linked next prev owner j first last len xs → Linked next prev owner j first (get_or prev x 0) (len - 1) (cut xs p)
linked_drop next prev owner j first last len xs x p at end l =
    let short = length-cut xs p (omega arith) in
    let low = λ (k : ℕ) (y : ℕ) (e : slice_get (cut xs p) k ≡ Some y). get_within (cut xs p) k y e in
    let old = λ (k : ℕ) (y : ℕ) (e : slice_get (cut xs p) k ≡ Some y). let r : slice_get xs k ≡ Some y = elim (cut_cases xs p k y e) [
      | inl o ↦ o.1
      | inr o ↦ absurd (omega (arith, low k y e, o.0))
    ] in r in
    record {
      count = omega (arith, l.count);
      front = λ y e. l.front y (old 0 y e);
      back = λ k y e s. let here : suc k ≡ p = omega arith in l.past k y x (old k y e) (ap (λ (q : ℕ). slice_get xs q) here ∙ at);
      within = λ k y e. l.within k y (old k y e);
      owned = λ k y e. l.owned k y (old k y e);
      forth = λ k y z e f. l.forth k y z (old k y e) (old (suc k) z f);
      past = λ k y z e f. l.past k y z (old k y e) (old (suc k) z f);
      once = λ k m y e f. l.once k m y (old k y e) (old m y f);
    }

-- a number leaves its list between w and v
pub linked_bridge : (next prev owner : List ℕ) (j first last len : ℕ) (xs : List ℕ) (q w x v : ℕ) → length prev ≡ length next → slice_get xs q ≡ Some w → slice_get xs (suc q) ≡ Some x → slice_get xs (suc (suc q)) ≡ Some v → Linked next prev owner j first last len xs → Linked (set next w v) (set prev v w) owner j first last (len - 1) (cut xs (suc q))
linked_bridge next prev owner j first last len xs q w x v prevs at_w at_x at_v l =
    let short = length-cut xs (suc q) (get_within xs (suc q) x at_x) in
    let w_low : w < length next = l.within q w at_w in
    let v_low : v < length next = l.within (suc (suc q)) v at_v in
    let not_w = λ (k : ℕ) (y : ℕ) (e : slice_get xs k ≡ Some y) (d : k ≢ q) (s : y ≡ w). d (l.once k q y e (at_w ∙ ap (λ (z : ℕ). Some z) (sym s))) in
    let not_v = λ (k : ℕ) (y : ℕ) (e : slice_get xs k ≡ Some y) (d : k ≢ suc (suc q)) (s : y ≡ v). d (l.once k (suc (suc q)) y e (at_v ∙ ap (λ (z : ℕ). Some z) (sym s))) in
    record {
      count = omega (arith, l.count, get_within xs (suc q) x at_x);
      front = λ y e. elim (cut_cases xs (suc q) 0 y e) [ inl o ↦ l.front y o.1 | inr o ↦ absurd (omega (arith, o.0)) ];
      back = λ k y e s. elim (cut_cases xs (suc q) k y e) [
        | inl o ↦ absurd (omega (arith, o.0, get_within xs (suc (suc q)) v at_v))
        | inr o ↦ l.back (suc k) y o.1 (omega arith)
      ];
      within = λ k y e. elim (cut_cases xs (suc q) k y e) [
        | inl o ↦ omega (arith, l.within k y o.1, length-set next w v)
        | inr o ↦ omega (arith, l.within (suc k) y o.1, length-set next w v)
      ];
      owned = λ k y e. elim (cut_cases xs (suc q) k y e) [ inl o ↦ l.owned k y o.1 | inr o ↦ l.owned (suc k) y o.1 ];
      forth = λ k y z e f. elim (cut_cases xs (suc q) k y e) [
        | inl o ↦ elim (cut_cases xs (suc q) (suc k) z f) [
          | inl t ↦ get_or-set_other next w y v 0 (not_w k y o.1 (λ d. omega (arith, t.0))) ∙ l.forth k y z o.1 t.1
          | inr t ↦
              let here : k ≡ q = omega (arith, o.0, t.0) in
              let y_is : y ≡ w = same y w (sym o.1 ∙ ap (λ (i : ℕ). slice_get xs i) here ∙ at_w) in
              let z_is : z ≡ v = same z v (sym t.1 ∙ ap (λ (i : ℕ). slice_get xs (suc (suc i))) here ∙ at_v) in
              ap (λ (i : ℕ). get_or (set next w v) i 0) y_is ∙ get_or-set_same next w v 0 w_low ∙ sym z_is
        ]
        | inr o ↦ elim (cut_cases xs (suc q) (suc k) z f) [
          | inl t ↦ absurd (omega (arith, o.0, t.0))
          | inr t ↦ get_or-set_other next w y v 0 (not_w (suc k) y o.1 (λ d. omega (arith, o.0))) ∙ l.forth (suc k) y z o.1 t.1
        ]
      ];
      past = λ k y z e f. elim (cut_cases xs (suc q) k y e) [
        | inl o ↦ elim (cut_cases xs (suc q) (suc k) z f) [
          | inl t ↦ get_or-set_other prev v z w 0 (not_v (suc k) z t.1 (λ d. omega (arith, t.0))) ∙ l.past k y z o.1 t.1
          | inr t ↦
              let here : k ≡ q = omega (arith, o.0, t.0) in
              let y_is : y ≡ w = same y w (sym o.1 ∙ ap (λ (i : ℕ). slice_get xs i) here ∙ at_w) in
              let z_is : z ≡ v = same z v (sym t.1 ∙ ap (λ (i : ℕ). slice_get xs (suc (suc i))) here ∙ at_v) in
              ap (λ (i : ℕ). get_or (set prev v w) i 0) z_is ∙ get_or-set_same prev v w 0 (omega arith) ∙ sym y_is
        ]
        | inr o ↦ elim (cut_cases xs (suc q) (suc k) z f) [
          | inl t ↦ absurd (omega (arith, o.0, t.0))
          | inr t ↦ get_or-set_other prev v z w 0 (not_v (suc (suc k)) z t.1 (λ d. omega (arith, o.0))) ∙ l.past (suc k) y z o.1 t.1
        ]
      ];
      once = cut_once xs (suc q) l.once;
    }
