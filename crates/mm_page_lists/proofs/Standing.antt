-- The links of all lists, as one list changes.
use Rattle.std.proofs.Common.{◌≡◌, ◌≢◌, ℕ, zero, suc, ◌<◌, List, [], ◌∷◌, length, get_or, set, Some, None, sym, ap, ◌∙◌, subst, inl, inr, arith, length-set, get_or-set_same, get_or-set_other}
use Rattle.mm_types.proofs.{same_or_not}
use Rattle.mm_page_lists.specs.{ListsOf, AreApart, list_at, number_at, rows, Linked, LinksStand}
use Rattle.mm_page_lists.proofs.Rows.{Reads, rows_is}
use Rattle.mm_page_lists.proofs.Linking.{linked_kept}

reads : (next prev owner : List ℕ) (j first last len : ℕ) (xs : List ℕ) → Linked next prev owner j first last len xs → Reads next first len xs
reads next prev owner j first last len xs l = record { count = l.count; front = l.front; forth = l.forth }

-- links stand for the lists that are read off them, and for no others
pub read_off : (next prev owner firsts lasts lens : List ℕ) (lists : List (List ℕ)) → LinksStand next prev owner firsts lasts lens lists → rows next firsts lens ≡ lists
read_off next prev owner firsts lasts lens lists s =
    rows_is next firsts lens lists s.fronts s.counts (λ j h. reads next prev owner j _ (get_or lasts j 0) _ _ (s.linked j h))

pub closed : (next prev owner firsts lasts lens : List ℕ) (lists : List (List ℕ)) → LinksStand next prev owner firsts lasts lens lists → LinksStand next prev owner firsts lasts lens (rows next firsts lens)
closed next prev owner firsts lasts lens lists s =
    subst (λ (ls : List (List ℕ)). LinksStand next prev owner firsts lasts lens ls) (sym (read_off next prev owner firsts lasts lens lists s)) s

-- what the fields show, as a value
abbrev pub shown : List ℕ → List ℕ → List ℕ → ListsOf
shown next firsts lens = record { numbers = length next; lists = rows next firsts lens }

-- the fields of a value
pub record Opened (next prev owner firsts lasts lens : List ℕ) (v : ListsOf) : Type 0 where
  pub numbers : v.numbers ≡ length next
  pub stands : LinksStand next prev owner firsts lasts lens v.lists

pub opened : (next prev owner firsts lasts lens : List ℕ) (v : ListsOf) → shown next firsts lens ≡ v → LinksStand next prev owner firsts lasts lens (rows next firsts lens) → Opened next prev owner firsts lasts lens v
opened next prev owner firsts lasts lens v e s = record {
  numbers = sym (ap (λ w. w.numbers) e);
  stands = subst (λ (w : ListsOf). LinksStand next prev owner firsts lasts lens w.lists) e s;
}

pub shows : (next prev owner firsts lasts lens : List ℕ) (v : ListsOf) → Opened next prev owner firsts lasts lens v → shown next firsts lens ≡ v
shows next prev owner firsts lasts lens v o =
    ap (λ n. record { numbers = n; lists = rows next firsts lens }) (sym o.numbers)
    ∙ ap (λ ls. record { numbers = v.numbers; lists = ls }) (read_off next prev owner firsts lasts lens v.lists o.stands)

-- a number that stands on a list: the list is one of them
pub list_within : (lists : List (List ℕ)) (j k x : ℕ) → number_at lists j k ≡ Some x → j < length lists
list_within [] j k x e = let bad : None ≡ Some x = e in cc
list_within (xs ∷ lists) zero k x e = omega arith
list_within (xs ∷ lists) (suc j) k x e = let h = list_within lists j k x e in omega arith

module _ (next prev owner firsts lasts lens : List ℕ) where
  pub at_list : (lists : List (List ℕ)) (j k x : ℕ) → LinksStand next prev owner firsts lasts lens lists → number_at lists j k ≡ Some x → Linked next prev owner j (get_or firsts j 0) (get_or lasts j 0) (get_or lens j 0) (list_at lists j)
  at_list lists j k x s e = s.linked j (list_within lists j k x e)

  pub owner_is : (lists : List (List ℕ)) (j k x : ℕ) → LinksStand next prev owner firsts lasts lens lists → number_at lists j k ≡ Some x → get_or owner x 0 ≡ j
  owner_is lists j k x s e = (at_list lists j k x s e).owned k x e

  -- two places of one number are one place
  pub one_place : (lists : List (List ℕ)) (i j k m x : ℕ) → LinksStand next prev owner firsts lasts lens lists → number_at lists i k ≡ Some x → number_at lists j m ≡ Some x → (i ≡ j) × (k ≡ m)
  one_place lists i j k m x s e f =
      let lists_same : j ≡ i = sym (owner_is lists j m x s f) ∙ owner_is lists i k x s e in
      let at_i : number_at lists i m ≡ Some x = subst (λ (h : ℕ). number_at lists h m ≡ Some x) lists_same f in
      (sym lists_same, (at_list lists i k x s e).once k m x e at_i)

  pub apart : (v : ListsOf) → Opened next prev owner firsts lasts lens v → AreApart v
  apart v o = record {
    below = λ j k x e. omega (arith, o.numbers, (at_list v.lists j k x o.stands e).within k x e);
    once = λ i j k m x e f. one_place v.lists i j k m x o.stands e f;
  }

  -- all lists but i are as they were, with links as they were at their numbers
  pub one_changed : (next' prev' owner' : List ℕ) (lists : List (List ℕ)) (i first last len : ℕ) (xs : List ℕ) → LinksStand next prev owner firsts lasts lens lists → i < length lists → length next' ≡ length next → length prev' ≡ length prev → length owner' ≡ length owner → Linked next' prev' owner' i first last len xs → ((j k x : ℕ) → j ≢ i → number_at lists j k ≡ Some x → (get_or next' x 0 ≡ get_or next x 0) × (get_or prev' x 0 ≡ get_or prev x 0) × (get_or owner' x 0 ≡ get_or owner x 0)) → LinksStand next' prev' owner' (set firsts i first) (set lasts i last) (set lens i len) (set lists i xs)
  one_changed next' prev' owner' lists i first last len xs s inside nexts prevs owners l keeps = record {
    small = let h = s.small in rw nexts h;
    prevs = prevs ∙ s.prevs ∙ sym nexts;
    owners = owners ∙ s.owners ∙ sym nexts;
    fronts = length-set firsts i first ∙ s.fronts ∙ sym (length-set lists i xs);
    backs = length-set lasts i last ∙ s.backs ∙ sym (length-set lists i xs);
    counts = length-set lens i len ∙ s.counts ∙ sym (length-set lists i xs);
    linked = λ j h. elim (same_or_not j i) [
      | inl e ↦
          subst (λ (q : ℕ). Linked next' prev' owner' q (get_or (set firsts i first) q 0) (get_or (set lasts i last) q 0) (get_or (set lens i len) q 0) (list_at (set lists i xs) q)) (sym e)
          (rw (get_or-set_same firsts i first 0 (omega (arith, s.fronts)), get_or-set_same lasts i last 0 (omega (arith, s.backs)), get_or-set_same lens i len 0 (omega (arith, s.counts)), get_or-set_same lists i xs [] inside) l)
      | inr d ↦
          rw (get_or-set_other firsts i j first 0 d, get_or-set_other lasts i j last 0 d, get_or-set_other lens i j len 0 d, get_or-set_other lists i j xs [] d)
          (linked_kept next prev owner next' prev' owner' j _ _ _ (list_at lists j) nexts (λ k x e. keeps j k x d e) (s.linked j (omega (arith, h, length-set lists i xs))))
    ];
  }
