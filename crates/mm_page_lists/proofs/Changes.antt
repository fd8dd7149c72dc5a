-- What each call leaves of the links, and of the lists that they stand for.
use Rattle.std.proofs.Common.{◌≡◌, ◌≢◌, ℕ, zero, suc, ◌+◌, ◌-◌, ◌<◌, ◌≤◌, ◌^◌, List, [], ◌∷◌, ◌++◌, length, get_or, set, map, drop, replicate, Some, None, refl, sym, ap, ◌∙◌, subst, inl, inr, arith, length-set, get_or-set_other}
use Rattle.std.specs.Prelude.{slice_get}
use Rattle.std.proofs.lemmas.List.{set-get_or, length-replicate, get_or-replicate, get_or_read}
use Rattle.std.proofs.lemmas.Option.{slice_get_past}
use Rattle.mm_types.proofs.{same_or_not, get_within}
use Rattle.mm_page_lists.specs.{ListsOf, IsOnNone, list_at, number_at, with_list, without, Linked, LinksStand}
use Rattle.mm_page_lists.proofs.Cuts.{same, cut, few, there, last_there, without_one, without_other, drop_one}
use Rattle.mm_page_lists.proofs.Linking.{linked_first, linked_push, linked_pop, linked_drop, linked_bridge}
use Rattle.mm_page_lists.proofs.Standing.{Opened, one_changed, list_within, owner_is, one_place}

-- x leaves the one list that it is on
pub map-without : (lists : List (List ℕ)) (i p x : ℕ) → number_at lists i p ≡ Some x → ((j k : ℕ) → number_at lists j k ≡ Some x → (j ≡ i) × (k ≡ p)) → map (without x) lists ≡ set lists i (cut (list_at lists i) p)
map-without [] i p x at once = let bad : None ≡ Some x = at in cc
map-without (xs ∷ lists) zero p x at once =
    ap (λ ys. ys ∷ map (without x) lists) (without_one x xs p at (λ k e. (once 0 k e).1))
    ∙ ap (λ ls. cut xs p ∷ ls) (map-without_none lists x (λ j k e. let bad : suc j ≡ 0 = (once (suc j) k e).0 in omega arith))
  where
    map-without_none : (lists : List (List ℕ)) (x : ℕ) → IsOnNone lists x → map (without x) lists ≡ lists
    map-without_none [] x none = refl
    map-without_none (xs ∷ lists) x none =
        ap (λ ys. ys ∷ map (without x) lists) (without_other x xs (none 0))
        ∙ ap (λ ls. xs ∷ ls) (map-without_none lists x (λ j. none (suc j)))
map-without (xs ∷ lists) (suc i) p x at once =
    ap (λ ys. ys ∷ map (without x) lists) (without_other x xs (λ k e. let bad : 0 ≡ suc i = (once 0 k e).0 in omega arith))
    ∙ ap (λ ls. xs ∷ ls) (map-without lists i p x at (λ j k e. let h = once (suc j) k e in let s : suc j ≡ suc i = h.0 in (omega arith, h.1)))

module _ (next prev owner firsts lasts lens : List ℕ) (v : ListsOf) (o : Opened next prev owner firsts lasts lens v) where
  s : LinksStand next prev owner firsts lasts lens v.lists
  s = o.stands

  -- list i, by what was read of its ends and its length
  at_read : (i first last len : ℕ) → i < length v.lists → first ≡ get_or firsts i 0 → last ≡ get_or lasts i 0 → len ≡ get_or lens i 0 → Linked next prev owner i first last len (list_at v.lists i)
  at_read i first last len h a b c = rw (a, b, c) (s.linked i h)

  module _ (i : ℕ) (there_is : i < length v.lists) (len : ℕ) (len_read : len ≡ get_or lens i len) where
    len_at : len ≡ get_or lens i 0
    len_at = get_or_read lens i len (omega (arith, s.counts)) len_read 0

    len_is : len ≡ length (list_at v.lists i)
    len_is = len_at ∙ (s.linked i there_is).count

    pub front_there : (first : ℕ) → first ≡ get_or firsts i first → len ≢ 0 → number_at v.lists i 0 ≡ Some first
    front_there first read some =
        let h = there (list_at v.lists i) 0 (omega (arith, len_is)) in
        h.1 ∙ ap (λ (z : ℕ). Some z) (sym ((s.linked i there_is).front h.0 h.1) ∙ sym (get_or_read firsts i first (omega (arith, s.fronts)) read 0))

    pub front_low : (first : ℕ) → first ≡ get_or firsts i first → len ≢ 0 → first < length next
    front_low first read some = (s.linked i there_is).within 0 first (front_there first read some)

    pub back_low : (last : ℕ) → last ≡ get_or lasts i last → len ≢ 0 → last < length next
    back_low last read some =
        let h = last_there (list_at v.lists i) (omega (arith, len_is)) in
        let e : last ≡ h.1 = get_or_read lasts i last (omega (arith, s.backs)) read 0 ∙ (s.linked i there_is).back h.0 h.1 h.3 h.2 in
        omega (arith, (s.linked i there_is).within h.0 h.1 h.3)

    module _ (x : ℕ) (low : x < v.numbers) (none : IsOnNone v.lists x) where
      apart_owner : (j k y : ℕ) → number_at v.lists j k ≡ Some y → y ≢ x
      apart_owner j k y e same_x = none j k (e ∙ ap (λ (z : ℕ). Some z) same_x)

      pub room : len + 1 ≤ length next
      room = let l = s.linked i there_is in
          let inside : (k y : ℕ) → slice_get (x ∷ list_at v.lists i) k ≡ Some y → y < length next =
          λ k y. elim k as (λ (k : ℕ). slice_get (x ∷ list_at v.lists i) k ≡ Some y → y < length next) [
            | zero ↦ λ e. omega (arith, same x y e, o.numbers)
            | suc k ↦ λ e. l.within k y e
          ] in
          let once : (k m y : ℕ) → slice_get (x ∷ list_at v.lists i) k ≡ Some y → slice_get (x ∷ list_at v.lists i) m ≡ Some y → k ≡ m =
          λ k m y. elim k as (λ (k : ℕ). slice_get (x ∷ list_at v.lists i) k ≡ Some y → slice_get (x ∷ list_at v.lists i) m ≡ Some y → k ≡ m) [
            | zero ↦ elim m as (λ (m : ℕ). slice_get (x ∷ list_at v.lists i) 0 ≡ Some y → slice_get (x ∷ list_at v.lists i) m ≡ Some y → 0 ≡ m) [
              | zero ↦ λ e f. refl
              | suc m ↦ λ e f. absurd (apart_owner i m y f (sym (same x y e)))
            ]
            | suc k ↦ elim m as (λ (m : ℕ). slice_get (x ∷ list_at v.lists i) (suc k) ≡ Some y → slice_get (x ∷ list_at v.lists i) m ≡ Some y → suc k ≡ m) [
              | zero ↦ λ e f. absurd (apart_owner i k y e (sym (same x y f)))
              | suc m ↦ λ e f. ap suc (l.once k m y e f)
            ]
          ] in
          omega (arith, few (length next) (x ∷ list_at v.lists i) inside once, len_is)

      pub first_pushed : len ≡ 0 → Opened next prev (set owner x i) (set firsts i x) (set lasts i x) (set lens i (len + 1)) (with_list v i (list_at v.lists i ++ x ∷ []))
      first_pushed empty =
          let l = at_read i _ _ len there_is refl refl len_at in
          record {
            numbers = o.numbers;
            stands = one_changed next prev owner firsts lasts lens next prev (set owner x i) v.lists i x x (len + 1) (list_at v.lists i ++ x ∷ []) s there_is refl refl (length-set owner x i)
                (linked_first next prev owner i (get_or firsts i 0) (get_or lasts i 0) len (list_at v.lists i) x (omega (arith, len_is)) (omega (arith, o.numbers)) s.owners l)
                (λ j k y d e. (refl, refl, get_or-set_other owner x y i 0 (apart_owner j k y e)));
          }

      pub pushed : (last : ℕ) → last ≡ get_or lasts i last → len ≢ 0 → Opened (set next last x) (set prev x last) (set owner x i) firsts (set lasts i x) (set lens i (len + 1)) (with_list v i (list_at v.lists i ++ x ∷ []))
      pushed last read some =
          let last_at : last ≡ get_or lasts i 0 = get_or_read lasts i last (omega (arith, s.backs)) read 0 in
          let l = at_read i _ last len there_is refl last_at len_at in
          let end = last_there (list_at v.lists i) (omega (arith, len_is)) in
          let end_is : last ≡ end.1 = l.back end.0 end.1 end.3 end.2 in
          let not_last : (j k y : ℕ) → j ≢ i → number_at v.lists j k ≡ Some y → y ≢ last =
          λ j k y d e q. d (one_place next prev owner firsts lasts lens v.lists j i k end.0 y s e (end.3 ∙ ap (λ (z : ℕ). Some z) (sym end_is ∙ sym q))).0 in
          let all = one_changed next prev owner firsts lasts lens (set next last x) (set prev x last) (set owner x i) v.lists i (get_or firsts i 0) x (len + 1) (list_at v.lists i ++ x ∷ []) s there_is (length-set next last x) (length-set prev x last) (length-set owner x i)
          (linked_push next prev owner i (get_or firsts i 0) last len (list_at v.lists i) x (omega (arith, len_is)) (omega (arith, o.numbers)) s.prevs s.owners (none i) l)
          (λ j k y d e. (get_or-set_other next last y x 0 (not_last j k y d e), get_or-set_other prev x y last 0 (apart_owner j k y e), get_or-set_other owner x y i 0 (apart_owner j k y e))) in
          record {
            numbers = o.numbers ∙ sym (length-set next last x);
            stands = rw (set-get_or firsts i 0) at all;
          }

    pub popped : (first behind : ℕ) → first ≡ get_or firsts i first → behind ≡ get_or next first behind → len ≢ 0 → Opened next prev owner (set firsts i behind) lasts (set lens i (len - 1)) (with_list v i (drop 1 (list_at v.lists i)))
    popped first behind read link some =
        let at_front = front_there first read some in
        let behind_at : behind ≡ get_or next first 0 = get_or_read next first behind (front_low first read some) link 0 in
        let l = at_read i _ _ len there_is refl refl len_at in
        let gone : Linked next prev owner i behind (get_or lasts i 0) (len - 1) (cut (list_at v.lists i) 0) =
        rw behind_at (linked_pop next prev owner i (get_or firsts i 0) (get_or lasts i 0) len (list_at v.lists i) first at_front l) in
        let all = one_changed next prev owner firsts lasts lens next prev owner v.lists i behind (get_or lasts i 0) (len - 1) (cut (list_at v.lists i) 0) s there_is refl refl refl gone (λ j k y d e. (refl, refl, refl)) in
        record {
          numbers = o.numbers;
          stands = rw (drop_one (list_at v.lists i)) (rw (set-get_or lasts i 0) at all);
        }

  module _ (x j k : ℕ) (on : number_at v.lists j k ≡ Some x) where
    there_j : j < length v.lists
    there_j = list_within v.lists j k x on

    pub x_low : x < length next
    x_low = (s.linked j there_j).within k x on

    pub list_is : (list : ℕ) → list ≡ get_or owner x list → list ≡ j
    list_is list read = get_or_read owner x list (omega (arith, x_low, s.owners)) read 0 ∙ owner_is next prev owner firsts lasts lens v.lists j k x s on

    pub list_low : (list : ℕ) → list ≡ get_or owner x list → list < length v.lists
    list_low list read = omega (arith, list_is list read, there_j)

    at_end : (last : ℕ) → last ≡ get_or lasts j last → last ≡ x → suc k ≡ length (list_at v.lists j)
    at_end last read is =
        let l = s.linked j there_j in
        let end = last_there (list_at v.lists j) (omega (arith, get_within (list_at v.lists j) k x on)) in
        let end_is : last ≡ end.1 = get_or_read lasts j last (omega (arith, s.backs, there_j)) read 0 ∙ l.back end.0 end.1 end.3 end.2 in
        let place : k ≡ end.0 = l.once k end.0 x on (end.3 ∙ ap (λ (z : ℕ). Some z) (sym end_is ∙ is)) in
        omega (arith, end.2)

    not_end : (last : ℕ) → last ≡ get_or lasts j last → last ≢ x → suc k < length (list_at v.lists j)
    not_end last read other = elim (same_or_not (suc k) (length (list_at v.lists j))) [
      | inl e ↦ absurd (other (get_or_read lasts j last (omega (arith, s.backs, there_j)) read 0 ∙ (s.linked j there_j).back k x on e))
      | inr d ↦ omega (arith, get_within (list_at v.lists j) k x on)
    ]

    pub none_behind : (last : ℕ) → last ≡ get_or lasts j last → last ≡ x → number_at v.lists j (suc k) ≡ None
    none_behind last read is = slice_get_past (list_at v.lists j) (suc k) (omega (arith, at_end last read is))

    pub one_behind : (last behind : ℕ) → last ≡ get_or lasts j last → last ≢ x → behind ≡ get_or next x behind → number_at v.lists j (suc k) ≡ Some behind
    one_behind last behind read other link =
        let h = there (list_at v.lists j) (suc k) (not_end last read other) in
        h.1 ∙ ap (λ (z : ℕ). Some z) (sym ((s.linked j there_j).forth k x h.0 on h.1) ∙ sym (get_or_read next x behind x_low link 0))

    left : map (without x) v.lists ≡ set v.lists j (cut (list_at v.lists j) k)
    left = map-without v.lists j k x on (λ i m e. one_place next prev owner firsts lasts lens v.lists i j m k x s e on)

    pub some_left : (len : ℕ) → len ≡ get_or lens j len → len ≢ 0
    some_left len read e = let c = len_is j there_j len read in omega (arith, c, get_within (list_at v.lists j) k x on)

    -- the first number of its list
    pub first_unlinked : (len first behind : ℕ) → len ≡ get_or lens j len → first ≡ get_or firsts j first → first ≡ x → behind ≡ get_or next x behind → Opened next prev owner (set firsts j behind) lasts (set lens j (len - 1)) (record v { lists = map (without x) v.lists })
    first_unlinked len first behind count read is link =
        let some = some_left len count in
        let x_read : x ≡ get_or firsts j x = rw is at read in
        let place : k ≡ 0 = (s.linked j there_j).once k 0 x on (front_there j there_j len count x x_read some) in
        let same_lists : set v.lists j (drop 1 (list_at v.lists j)) ≡ map (without x) v.lists =
        ap (λ xs. set v.lists j xs) (drop_one (list_at v.lists j) ∙ ap (λ (p : ℕ). cut (list_at v.lists j) p) (sym place)) ∙ sym left in
        subst (λ (ls : List (List ℕ)). Opened next prev owner (set firsts j behind) lasts (set lens j (len - 1)) (record v { lists = ls })) same_lists
        (popped j there_j len count x behind x_read link some)

    -- the last number of its list
    pub last_unlinked : (len last before : ℕ) → len ≡ get_or lens j len → last ≡ get_or lasts j last → last ≡ x → before ≡ get_or prev x before → Opened next prev owner firsts (set lasts j before) (set lens j (len - 1)) (record v { lists = map (without x) v.lists })
    last_unlinked len last before count read is link =
        let before_at : before ≡ get_or prev x 0 = get_or_read prev x before (omega (arith, x_low, s.prevs)) link 0 in
        let l = at_read j _ _ len there_j refl refl (len_at j there_j len count) in
        let gone : Linked next prev owner j (get_or firsts j 0) before (len - 1) (cut (list_at v.lists j) k) =
        rw before_at (linked_drop next prev owner j (get_or firsts j 0) (get_or lasts j 0) len (list_at v.lists j) x k on (at_end last read is) l) in
        let all = one_changed next prev owner firsts lasts lens next prev owner v.lists j (get_or firsts j 0) before (len - 1) (cut (list_at v.lists j) k) s there_j refl refl refl gone (λ i m y d e. (refl, refl, refl)) in
        record {
          numbers = o.numbers;
          stands = rw left (rw (set-get_or firsts j 0) at all);
        }

    -- a number between two others
    module _ (first last : ℕ) (front_read : first ≡ get_or firsts j first) (back_read : last ≡ get_or lasts j last) (not_first : first ≢ x) (not_last : last ≢ x) (behind before : ℕ) (behind_read : behind ≡ get_or next x behind) (before_read : before ≡ get_or prev x before) where
      some_before : (q : ℕ) × (k ≡ suc q)
      some_before = elim k as (λ (k : ℕ). number_at v.lists j k ≡ Some x → (q : ℕ) × (k ≡ suc q)) [
        | zero ↦ λ e. absurd (not_first (get_or_read firsts j first (omega (arith, s.fronts, there_j)) front_read 0 ∙ (s.linked j there_j).front x e))
        | suc q ↦ λ e. (q, refl)
      ] on

      x_at : number_at v.lists j (suc some_before.0) ≡ Some x
      x_at = ap (λ (p : ℕ). number_at v.lists j p) (sym some_before.1) ∙ on

      behind_at : number_at v.lists j (suc (suc some_before.0)) ≡ Some behind
      behind_at = ap (λ (p : ℕ). number_at v.lists j (suc p)) (sym some_before.1) ∙ one_behind last behind back_read not_last behind_read

      before_at : number_at v.lists j some_before.0 ≡ Some before
      before_at =
          let h = there (list_at v.lists j) some_before.0 (let w = get_within (list_at v.lists j) (suc some_before.0) x x_at in omega arith) in
          h.1 ∙ ap (λ (z : ℕ). Some z) (sym ((s.linked j there_j).past some_before.0 h.0 x h.1 x_at) ∙ sym (get_or_read prev x before (omega (arith, x_low, s.prevs)) before_read 0))

      pub before_low : before < length next
      before_low = (s.linked j there_j).within some_before.0 before before_at

      pub behind_low : behind < length prev
      behind_low = omega (arith, (s.linked j there_j).within (suc (suc some_before.0)) behind behind_at, s.prevs)

      pub bridged : (len : ℕ) → len ≡ get_or lens j len → Opened (set next before behind) (set prev behind before) owner firsts lasts (set lens j (len - 1)) (record v { lists = map (without x) v.lists })
      bridged len count =
          let l = at_read j _ _ len there_j refl refl (len_at j there_j len count) in
          let gone : Linked (set next before behind) (set prev behind before) owner j (get_or firsts j 0) (get_or lasts j 0) (len - 1) (cut (list_at v.lists j) (suc some_before.0)) =
          linked_bridge next prev owner j (get_or firsts j 0) (get_or lasts j 0) len (list_at v.lists j) some_before.0 before x behind s.prevs before_at x_at behind_at l in
          let other = λ (i m y p z : ℕ) (d : i ≢ j) (e : number_at v.lists i m ≡ Some y) (f : number_at v.lists j p ≡ Some z) (q : y ≡ z).
          d (one_place next prev owner firsts lasts lens v.lists i j m p z s (e ∙ ap (λ (w : ℕ). Some w) q) f).0 in
          let all = one_changed next prev owner firsts lasts lens (set next before behind) (set prev behind before) owner v.lists j (get_or firsts j 0) (get_or lasts j 0) (len - 1) (cut (list_at v.lists j) (suc some_before.0)) s there_j (length-set next before behind) (length-set prev behind before) refl gone
          (λ i m y d e. (
            get_or-set_other next before y behind 0 (other i m y some_before.0 before d e before_at),
            get_or-set_other prev behind y before 0 (other i m y (suc (suc some_before.0)) behind d e behind_at),
            refl,
          )) in
          let same_lists : set v.lists j (cut (list_at v.lists j) (suc some_before.0)) ≡ map (without x) v.lists =
          ap (λ (p : ℕ). set v.lists j (cut (list_at v.lists j) p)) (sym some_before.1) ∙ sym left in
          let ends : LinksStand (set next before behind) (set prev behind before) owner firsts lasts (set lens j (len - 1)) (set v.lists j (cut (list_at v.lists j) (suc some_before.0))) =
          rw (set-get_or lasts j 0) at (rw (set-get_or firsts j 0) at all) in
          record {
            numbers = o.numbers ∙ sym (length-set next before behind);
            stands = subst (λ (ls : List (List ℕ)). LinksStand (set next before behind) (set prev behind before) owner firsts lasts (set lens j (len - 1)) ls) same_lists ends;
          }

none_linked : (next prev owner : List ℕ) (j first last len : ℕ) → len ≡ 0 → Linked next prev owner j first last len []
none_linked next prev owner j first last len e = record {
  count = e;
  front = λ x at. let bad : None ≡ Some x = at in cc;
  back = λ k x at s. let bad : None ≡ Some x = at in cc;
  within = λ k x at. let bad : None ≡ Some x = at in cc;
  owned = λ k x at. let bad : None ≡ Some x = at in cc;
  forth = λ k x y at f. let bad : None ≡ Some x = at in cc;
  past = λ k x y at f. let bad : None ≡ Some x = at in cc;
  once = λ k m x at f. let bad : None ≡ Some x = at in cc;
}

-- k empty lists
pub fresh : (next prev owner firsts lasts lens : List ℕ) (n k : ℕ) → n < 2 ^ 32 → next ≡ replicate n 0 → prev ≡ replicate n 0 → owner ≡ replicate n 0 → firsts ≡ replicate k 0 → lasts ≡ replicate k 0 → lens ≡ replicate k 0 → Opened next prev owner firsts lasts lens (record { numbers = n; lists = replicate k [] })
fresh next prev owner firsts lasts lens n k small a b c d e f =
    let none : length (replicate {A = List ℕ} k []) ≡ k = length-replicate k [] in
    let numbers : length next ≡ n = ap length a ∙ length-replicate n 0 in
    record {
      numbers = sym numbers;
      stands = record {
        small = omega (arith, numbers);
        prevs = ap length b ∙ length-replicate n 0 ∙ sym numbers;
        owners = ap length c ∙ length-replicate n 0 ∙ sym numbers;
        fronts = ap length d ∙ length-replicate k 0 ∙ sym none;
        backs = ap length e ∙ length-replicate k 0 ∙ sym none;
        counts = ap length f ∙ length-replicate k 0 ∙ sym none;
        linked = λ j h.
            let low : j < k = omega (arith, h, none) in
            rw (get_or-replicate {A = List ℕ} k j [] [] low) (none_linked next prev owner j (get_or firsts j 0) (get_or lasts j 0) (get_or lens j 0) (ap (λ xs. get_or xs j 0) f ∙ get_or-replicate k j 0 0 low));
      };
    }
