-- The first page that may go: it exists where a place may go, and there is one alone.
use Rattle.std.proofs.Common.{◌≡◌, ◌≢◌, ◌⊎◌, ℕ, ◌+◌, ◌<◌, ◌≤◌, Bool, true, false, cond, List, [], ◌∷◌, Option, Some, None, refl, sym, ap, ◌∙◌, subst, inl, inr, arith, zero, suc, not, length}
use Rattle.std.specs.Prelude.{◌==◌, ◌&&◌, ◌||◌, nat_lt, is_some, slice_get, option_map}
use Rattle.std.specs.Cmp.{unsigned_Decides}
use Rattle.std.proofs.lemmas.Bool.{cases_lt, lt-ltb, le-ltb, ltb-false, ltb-true, eqb-true, or_cases, and_parts, and_from}
use Rattle.mm_types.proofs.{same_or_not, differ, not_true, get_within, one_only_if}
use Rattle.mm_types.specs.{Frame, Place, Pid}
use Rattle.mm_move_rules.specs.{FrameLife, same_place, is_unpinned, may_go, Ages, page_first, turn_of, process_first, IsOldest, IsVictim, set_of}
use Rattle.mm_move_rules.specs.{is_above_min, ResidentSet}
use Rattle.mm_move_laws.specs.{one_if, tally, is_of, residents}
use Rattle.mm_move_laws.specs.Sound.{Sound}
use Rattle.mm_move_laws.proofs.{same_place-true, same_place-self, resident_there}
use Rattle.mm_frame_laws.specs.{place_first, earlier, first_that, first_to_go, may_go_in, first_to_go_in, Sooner, IsNextPage, PassedTo, NoPageFollows}
use Rattle.mm_frame_laws.specs.{IsBest, BestBelow, takes_over, FollowsPage, SetShows, place_of_page, IsInSet, page_of_place}
use Rattle.mm_frame_laws.specs.{NoPageFollows as NoneNext}
use Rattle.std.specs.Ordering.{nat_cmp}
use Rattle.std.specs.FinMap.{FinMap}
use Rattle.mm_working_sets.specs.{IsOldestInSet, NoneFollowsInSet, GoesAfter, GoesBefore}
use Rattle.std.specs.FinMap as finite

-- ---- one number before another, or the same and then a second one

-- what it says that a does not go before b
not_earlier : (a b : ℕ) (same rest : Bool) → (a ≡ b → same ≡ true) → (nat_lt a b || (same && rest)) ≡ false → (b ≤ a) × (a ≡ b → rest ≡ false)
not_earlier a b same rest one h = (
  elim (cases_lt a b) [
    | inl l ↦ (let t = lt-ltb a b l in let bad : true ≡ false = sym (ap (λ x. x || (same && rest)) t) ∙ h in cc)
    | inr l ↦ l
  ],
  λ e.
      sym (ap (λ x. x || (same && rest)) (le-ltb a b (omega (arith, e))) ∙ ap (λ x. x && rest) (one e)) ∙ h,
)

from_not : (a b : ℕ) (same rest : Bool) → (a ≢ b → same ≡ false) → (a ≡ b → same ≡ true) → b ≤ a → (a ≡ b → rest ≡ false) → (nat_lt a b || (same && rest)) ≡ false
from_not a b same rest none one l k = ap (λ x. x || (same && rest)) (le-ltb a b l) ∙ elim (same_or_not a b) [
  | inl e ↦ ap (λ x. x && rest) (one e) ∙ k e
  | inr n ↦ ap (λ x. x && rest) (none n)
]

-- ---- pages of one process

-- q does not go before p
pub record NotBefore (ages : Ages) (q p : Place) : Type 0 where
  pub age : ages q ≤ ages p
  pub page : ages q ≡ ages p → p.vpn.0 ≤ q.vpn.0

pub page_not : (ages : Ages) (q p : Place) → page_first ages q p ≡ false → NotBefore ages q p
page_not ages q p h =
    let k = not_earlier (ages p) (ages q) (ages q == ages p) (nat_lt q.vpn.0 p.vpn.0) (λ e. (unsigned_Decides (ages q) (ages p)).1 (sym e)) h in
    record { age = k.0; page = λ e. ltb-false q.vpn.0 p.vpn.0 (k.1 (sym e)) }

pub page_from : (ages : Ages) (q p : Place) → NotBefore ages q p → page_first ages q p ≡ false
page_from ages q p h =
    from_not (ages p) (ages q) (ages q == ages p) (nat_lt q.vpn.0 p.vpn.0) (λ n. differ (ages q) (ages p) (λ e. n (sym e))) (λ e. (unsigned_Decides (ages q) (ages p)).1 (sym e))
    h.age (λ e. le-ltb q.vpn.0 p.vpn.0 (h.page (sym e)))

-- ---- processes

pub record NoSooner (l : FrameLife) (q p : ℕ) : Type 0 where
  pub turn : turn_of l p ≤ turn_of l q
  pub pid : turn_of l q ≡ turn_of l p → p ≤ q

pub process_not : (l : FrameLife) (q p : ℕ) → process_first l q p ≡ false → NoSooner l q p
process_not l q p h =
    let k = not_earlier (turn_of l q) (turn_of l p) (turn_of l q == turn_of l p) (nat_lt q p) (λ e. (unsigned_Decides (turn_of l q) (turn_of l p)).1 e) h in
    record { turn = k.0; pid = λ e. ltb-false q p (k.1 e) }

pub process_from : (l : FrameLife) (q p : ℕ) → NoSooner l q p → process_first l q p ≡ false
process_from l q p h =
    from_not (turn_of l q) (turn_of l p) (turn_of l q == turn_of l p) (nat_lt q p) (differ (turn_of l q) (turn_of l p)) (λ e. (unsigned_Decides (turn_of l q) (turn_of l p)).1 e)
    h.turn (λ e. le-ltb q p (h.pid e))

-- ---- pages of any processes

pub record NoFirst (l : FrameLife) (ages : Ages) (q p : Place) : Type 0 where
  pub process : NoSooner l q.pid.0 p.pid.0
  pub page : q.pid.0 ≡ p.pid.0 → NotBefore ages q p

pub place_not : (l : FrameLife) (ages : Ages) (q p : Place) → place_first l ages q p ≡ false → NoFirst l ages q p
place_not l ages q p h = at (process_first l q.pid.0 p.pid.0) refl h
  where
    at : (b : Bool) → process_first l q.pid.0 p.pid.0 ≡ b → (b || ((q.pid.0 == p.pid.0) && page_first ages q p)) ≡ false → NoFirst l ages q p
    at true e g = cc
    at false e g = record {
      process = process_not l q.pid.0 p.pid.0 e;
      page = λ same. page_not ages q p (sym (ap (λ x. x && page_first ages q p) ((unsigned_Decides q.pid.0 p.pid.0).1 same)) ∙ g);
    }

-- where q does not go before r, and r not before p, q does not go before p
not_along : (l : FrameLife) (ages : Ages) (q r p : Place) → NoFirst l ages q r → NoFirst l ages r p → NoFirst l ages q p
not_along l ages q r p a b =
    record {
      process = omega (arith, a.process, b.process);
      page = λ e.
          let qr : q.pid.0 ≡ r.pid.0 = omega (arith, a.process, b.process, e, ap (turn_of l) e) in
          let rp : r.pid.0 ≡ p.pid.0 = omega (arith, qr, e) in
          let x = a.page qr in
          let y = b.page rp in
          record { age = omega (arith, x.age, y.age); page = λ s. omega (arith, x.age, y.age, x.page, y.page, s) };
    }

-- no place goes before itself, and of two one does not go before the other
first_not_self : (l : FrameLife) (ages : Ages) (p : Place) → NoFirst l ages p p
first_not_self l ages p = record { process = record { turn = omega arith; pid = λ e. omega arith }; page = λ e. record { age = omega arith; page = λ s. omega arith } }

is_earlier : (a b : ℕ) (same rest : Bool) → (same ≡ true → a ≡ b) → (nat_lt a b || (same && rest)) ≡ true → (a < b) ⊎ ((a ≡ b) × (rest ≡ true))
is_earlier a b same rest one h = elim (or_cases (nat_lt a b) (same && rest) h) [
  | inl e ↦ inl (ltb-true a b e)
  | inr e ↦ (let p = and_parts same rest e in inr (one p.0, p.1))
]

page_is : (ages : Ages) (q p : Place) → page_first ages q p ≡ true → NotBefore ages p q
page_is ages q p h = elim (is_earlier (ages p) (ages q) (ages q == ages p) (nat_lt q.vpn.0 p.vpn.0) (λ e. sym (eqb-true (ages q) (ages p) e)) h) [
  | inl l ↦ record { age = omega (arith, l); page = λ e. absurd (omega (arith, l, e)) }
  | inr e ↦ (let same = e.0 in let low = ltb-true q.vpn.0 p.vpn.0 e.1 in record { age = omega (arith, same); page = λ s. omega (arith, low) })
]

first_is : (l : FrameLife) (ages : Ages) (q p : Place) → place_first l ages q p ≡ true → NoFirst l ages p q
first_is l ages q p h = elim (or_cases (process_first l q.pid.0 p.pid.0) ((q.pid.0 == p.pid.0) && page_first ages q p) h) [
  | inl e ↦ elim (is_earlier (turn_of l q.pid.0) (turn_of l p.pid.0) (turn_of l q.pid.0 == turn_of l p.pid.0) (nat_lt q.pid.0 p.pid.0) (λ t. eqb-true (turn_of l q.pid.0) (turn_of l p.pid.0) t) e) [
    | inl low ↦ record {
      process = record { turn = omega (arith, low); pid = λ s. absurd (omega (arith, low, s)) };
      page = λ s. let same : turn_of l p.pid.0 ≡ turn_of l q.pid.0 = ap (turn_of l) s in absurd (omega (arith, low, same));
    }
    | inr t ↦ (let same = t.0 in let low = ltb-true q.pid.0 p.pid.0 t.1 in record {
      process = record { turn = omega (arith, same); pid = λ s. omega (arith, low) };
      page = λ s. absurd (omega (arith, low, s));
    })
  ]
  | inr e ↦
      let k = and_parts (q.pid.0 == p.pid.0) (page_first ages q p) e in
      let pid : q.pid.0 ≡ p.pid.0 = eqb-true q.pid.0 p.pid.0 k.0 in
      let turn : turn_of l q.pid.0 ≡ turn_of l p.pid.0 = ap (turn_of l) pid in
      record { process = record { turn = omega (arith, turn); pid = λ s. omega (arith, pid) }; page = λ s. page_is ages q p k.1 }
]

-- the same place, where neither goes before the other
pub neither : (l : FrameLife) (ages : Ages) (q p : Place) → NoFirst l ages q p → NoFirst l ages p q → q ≡ p
neither l ages q p a b =
    let pid : q.pid.0 ≡ p.pid.0 = omega (arith, a.process.turn, a.process.pid, b.process.turn, b.process.pid) in
    let x = a.page pid in
    let y = b.page (sym pid) in
    let page : q.vpn.0 ≡ p.vpn.0 = omega (arith, x.age, x.page, y.age, y.page) in
    λ i. record { pid = record { 0 = pid i }; vpn = record { 0 = page i } }

-- ---- the first page that may go

module _ (l : FrameLife) (ages : Ages) (test : Place → Bool) where
  -- it may go, and none of the list that may go is before it
  pub record FirstOf (places : List Place) (v : Place) : Type 0 where
    pub goes : test v ≡ true
    pub first : (q : Place) → 1 ≤ tally (same_place q) places → test q ≡ true → NoFirst l ages q v

  -- what the function over a list answers
  pub data Found (places : List Place) : Option Place → Type 0 where
    none : ((q : Place) → 1 ≤ tally (same_place q) places → test q ≡ false) → Found places None
    one : (v : Place) → FirstOf places v → Found places (Some v)

  here_or_there : (q p : Place) (rest : List Place) → 1 ≤ one_if (same_place q p) + tally (same_place q) rest → (q ≡ p) ⊎ (1 ≤ tally (same_place q) rest)
  here_or_there q p rest h = at (same_place q p) refl h
    where
      at : (b : Bool) → same_place q p ≡ b → 1 ≤ one_if b + tally (same_place q) rest → (q ≡ p) ⊎ (1 ≤ tally (same_place q) rest)
      at true e g = inl (same_place-true q p e)
      at false e g = inr (omega (arith, g))

  with_first : (p : Place) (rest : List Place) (o : Option Place) → test p ≡ true → Found rest o → Found (p ∷ rest) (Some (earlier l ages p o))
  with_first p rest None goes (none h) = one p (record {
    goes = goes;
    first = λ q i g. elim (here_or_there q p rest i) [
      | inl e ↦ subst (λ (x : Place). NoFirst l ages x p) (sym e) (first_not_self l ages p)
      | inr e ↦ let bad : true ≡ false = sym g ∙ h q e in cc
    ];
  })
  with_first p rest (Some u) goes (one v f) = at (place_first l ages v p) refl
    where
      at : (b : Bool) → place_first l ages v p ≡ b → Found (p ∷ rest) (Some (cond b v p))
      at true e = one v (record {
        goes = f.goes;
        first = λ q i g. elim (here_or_there q p rest i) [
          | inl s ↦ subst (λ (x : Place). NoFirst l ages x v) (sym s) (first_is l ages v p e)
          | inr s ↦ f.first q s g
        ];
      })
      at false e = one p (record {
        goes = goes;
        first = λ q i g. elim (here_or_there q p rest i) [
          | inl s ↦ subst (λ (x : Place). NoFirst l ages x p) (sym s) (first_not_self l ages p)
          | inr s ↦ not_along l ages q v p (f.first q s g) (place_not l ages v p e)
        ];
      })

  without_first : (p : Place) (rest : List Place) (o : Option Place) → test p ≡ false → Found rest o → Found (p ∷ rest) o
  without_first p rest None stays (none h) = none (λ q i. elim (here_or_there q p rest i) [
    | inl e ↦ ap test e ∙ stays
    | inr e ↦ h q e
  ])
  without_first p rest (Some u) stays (one v f) = one v (record {
    goes = f.goes;
    first = λ q i g. elim (here_or_there q p rest i) [
      | inl e ↦ let bad : true ≡ false = sym g ∙ (ap test e ∙ stays) in cc
      | inr e ↦ f.first q e g
    ];
  })

  pub found : (places : List Place) → Found places (first_that l ages test places)
  found [] = none (λ q h. absurd (omega (arith, h)))
  found (p ∷ rest) = step p rest (first_that l ages test rest) (found rest) (test p) refl
    where
      step : (p : Place) (rest : List Place) (o : Option Place) → Found rest o → (b : Bool) → test p ≡ b → Found (p ∷ rest) (cond b (Some (earlier l ages p o)) o)
      step p rest o f true e = with_first p rest o e f
      step p rest o f false e = without_first p rest o e f

  pub found_is : (places : List Place) (v : Place) → first_that l ages test places ≡ Some v → FirstOf places v
  found_is places v e = at (first_that l ages test places) e (found places)
    where
      at : (o : Option Place) → o ≡ Some v → Found places o → FirstOf places v
      at None s h = cc
      at (Some u) s (one w f) = let same : w ≡ v = cc in subst (FirstOf places) same f

  pub found_none : (places : List Place) → first_that l ages test places ≡ None → (q : Place) → 1 ≤ tally (same_place q) places → test q ≡ false
  found_none places e = at (first_that l ages test places) e (found places)
    where
      at : (o : Option Place) → o ≡ None → Found places o → (q : Place) → 1 ≤ tally (same_place q) places → test q ≡ false
      at None s (none h) = h
      at (Some w) s h = cc

-- ---- one page is the first

module _ (l : FrameLife) (ages : Ages) (pinned : Option Frame) where
  -- a page that may go is valid
  pub goes_valid : (q : Place) → may_go l pinned q ≡ true → is_some (l.valid q) ≡ true
  goes_valid q g = at (l.valid q) g
    where
      at : (o : Option Frame) → is_unpinned pinned o ≡ true → is_some o ≡ true
      at None h = cc
      at (Some f) h = refl

  pub victim_first : (v : Place) → IsVictim l ages pinned v → (q : Place) → may_go l pinned q ≡ true → NoFirst l ages q v
  victim_first v h q g = record {
    process = process_not l q.pid.0 v.pid.0 (h.process q g);
    page = λ e. page_not ages q v (h.oldest.first q e g);
  }

  pub one_victim : (v w : Place) → IsVictim l ages pinned v → IsVictim l ages pinned w → v ≡ w
  one_victim v w a b = neither l ages v w (victim_first w b v a.oldest.goes) (victim_first v a w b.oldest.goes)

  pub one_oldest : (v w : Place) → v.pid.0 ≡ w.pid.0 → IsOldest l ages pinned v → IsOldest l ages pinned w → v ≡ w
  one_oldest v w e a b =
      let turn : turn_of l v.pid.0 ≡ turn_of l w.pid.0 = ap (turn_of l) e in
      neither l ages v w
      (record { process = record { turn = omega (arith, turn); pid = λ s. omega (arith, e) }; page = λ s. page_not ages v w (b.first v e a.goes) })
      (record { process = record { turn = omega (arith, turn); pid = λ s. omega (arith, e) }; page = λ s. page_not ages w v (a.first w (sym e) b.goes) })

  -- ---- where a list has each valid place

  module _ (places : List Place) (all : (q : Place) → is_some (l.valid q) ≡ true → 1 ≤ tally (same_place q) places) where
    victim_of : (v : Place) → FirstOf l ages (may_go l pinned) places v → IsVictim l ages pinned v
    victim_of v f = record {
      oldest = record { goes = f.goes; first = λ q e g. page_from ages q v ((f.first q (all q (goes_valid q g)) g).page e) };
      process = λ q g. process_from l q.pid.0 v.pid.0 ((f.first q (all q (goes_valid q g)) g).process);
    }

    pub victim_found : (v : Place) → first_to_go l ages pinned places ≡ Some v → IsVictim l ages pinned v
    victim_found v e = victim_of v (found_is l ages (may_go l pinned) places v e)

    pub none_found : first_to_go l ages pinned places ≡ None → (q : Place) → may_go l pinned q ≡ false
    none_found e q = not_true (may_go l pinned q) (λ g. let bad : true ≡ false = sym g ∙ found_none l ages (may_go l pinned) places e q (all q (goes_valid q g)) in cc)

    pub victim_there : (p : Place) → may_go l pinned p ≡ true → (v : Place) × IsVictim l ages pinned v
    victim_there p g = at (first_to_go l ages pinned places) refl
      where
        at : (o : Option Place) → first_to_go l ages pinned places ≡ o → (v : Place) × IsVictim l ages pinned v
        at None e = let bad : true ≡ false = sym g ∙ none_found e p in cc
        at (Some v) e = (v, victim_found v e)

    -- of one process
    module _ (pid : ℕ) where
      oldest_of : (v : Place) → FirstOf l ages (may_go_in l pinned pid) places v → (v.pid.0 ≡ pid) × IsOldest l ages pinned v
      oldest_of v f =
          let h = and_parts (v.pid.0 == pid) (may_go l pinned v) f.goes in
          let mine : v.pid.0 ≡ pid = eqb-true v.pid.0 pid h.0 in
          (mine, record { goes = h.1; first = λ q e g. page_from ages q v ((f.first q (all q (goes_valid q g)) (and_from (q.pid.0 == pid) (may_go l pinned q) ((unsigned_Decides q.pid.0 pid).1 (e ∙ mine)) g)).page e) })

      pub oldest_found : (v : Place) → first_to_go_in l ages pinned pid places ≡ Some v → (v.pid.0 ≡ pid) × IsOldest l ages pinned v
      oldest_found v e = oldest_of v (found_is l ages (may_go_in l pinned pid) places v e)

      pub none_in : first_to_go_in l ages pinned pid places ≡ None → (q : Place) → q.pid.0 ≡ pid → may_go l pinned q ≡ false
      none_in e q i = not_true (may_go l pinned q) (λ g.
          let t = and_from (q.pid.0 == pid) (may_go l pinned q) ((unsigned_Decides q.pid.0 pid).1 i) g in
          let bad : true ≡ false = sym t ∙ found_none l ages (may_go_in l pinned pid) places e q (all q (goes_valid q g)) in cc)

      pub oldest_there : (p : Place) → p.pid.0 ≡ pid → may_go l pinned p ≡ true → (v : Place) × ((v.pid.0 ≡ pid) × IsOldest l ages pinned v)
      oldest_there p i g = at (first_to_go_in l ages pinned pid places) refl
        where
          at : (o : Option Place) → first_to_go_in l ages pinned pid places ≡ o → (v : Place) × ((v.pid.0 ≡ pid) × IsOldest l ages pinned v)
          at None e = let bad : true ≡ false = sym g ∙ none_in e p i in cc
          at (Some v) e = (v, oldest_found v e)

-- the valid places of a state in a list
pub all_shown : (l : FrameLife) (s : Sound l) (q : Place) → is_some (l.valid q) ≡ true → 1 ≤ tally (same_place q) s.shown.places
all_shown l s q e = let one : tally (same_place q) s.shown.places ≡ 1 = s.shown.once q ∙ ap one_if e in omega (arith, one)

module _ (l : FrameLife) (s : Sound l) (ages : Ages) (pinned : Option Frame) (p : Place) (goes : may_go l pinned p ≡ true) where
  pub some_victim : (v : Place) × IsVictim l ages pinned v
  some_victim = victim_there l ages pinned s.shown.places (all_shown l s) p goes

  pub some_oldest : (v : Place) × ((v.pid.0 ≡ p.pid.0) × IsOldest l ages pinned v)
  some_oldest = oldest_there l ages pinned s.shown.places (all_shown l s) p.pid.0 p refl goes

-- ---- how the first page that may go is found: the pages of a set in turn, and the processes in turn

-- ---- the pages of a set in turn

sooner_not : (ages : Ages) (p q : Place) → Sooner ages p q → NotBefore ages q p
sooner_not ages p q (inl h) = record { age = omega (arith, h); page = λ e. absurd (omega (arith, h, e)) }
sooner_not ages p q (inr h) = let a = h.0 in let b = h.1 in record { age = omega (arith, a); page = λ e. omega (arith, b) }

not_self : (ages : Ages) (p : Place) → NotBefore ages p p
not_self ages p = record { age = omega arith; page = λ e. omega arith }

module _ (l : FrameLife) (ages : Ages) (pinned : Option Frame) where
  pub next_oldest : (after : Option Place) (v : Place) → PassedTo l ages pinned v.pid.0 after → IsNextPage l ages after v → may_go l pinned v ≡ true → IsOldest l ages pinned v
  next_oldest after v passed next goes = record {
    goes = goes;
    first = λ q e g. elim (next.first q e (goes_valid l ages pinned q g) (passed q e g)) [
      | inl s ↦ page_from ages q v (subst (λ (x : Place). NotBefore ages x v) (sym s) (not_self ages v))
      | inr s ↦ page_from ages q v (sooner_not ages v q s)
    ];
  }

  pub next_passed : (after : Option Place) (v : Place) → PassedTo l ages pinned v.pid.0 after → IsNextPage l ages after v → may_go l pinned v ≡ false → PassedTo l ages pinned v.pid.0 (Some v)
  next_passed after v passed next stays = λ q e g. elim (next.first q e (goes_valid l ages pinned q g) (passed q e g)) [
    | inl s ↦ (let bad : true ≡ false = sym g ∙ (ap (may_go l pinned) s ∙ stays) in cc)
    | inr s ↦ s
  ]

  pub none_next : (pid : ℕ) (after : Option Place) → PassedTo l ages pinned pid after → NoPageFollows l ages pid after → (q : Place) → q.pid.0 ≡ pid → may_go l pinned q ≡ false
  none_next pid after passed nothing q e = not_true (may_go l pinned q) (λ g. nothing q e (goes_valid l ages pinned q g) (passed q e g))

  -- ---- processes in turn

  below_or_at : (q : Place) (n : ℕ) → q.pid.0 < n + 1 → (q.pid.0 < n) ⊎ (q.pid.0 ≡ n)
  below_or_at q n h = elim (cases_lt q.pid.0 n) [ inl a ↦ inl a | inr a ↦ inr (omega (arith, h, a)) ]

  -- a process that holds no page that may go
  pub best_same : (n : ℕ) (o : Option Place) → BestBelow l ages pinned n o → ((q : Place) → q.pid.0 ≡ n → may_go l pinned q ≡ false) → BestBelow l ages pinned (n + 1) o
  best_same n None b nothing = λ q h. elim (below_or_at q n h) [ inl a ↦ b q a | inr a ↦ nothing q a ]
  best_same n (Some v) b nothing = record {
    oldest = b.oldest;
    low = let a = b.low in omega (arith, a);
    process = λ q h g. elim (below_or_at q n h) [
      | inl a ↦ b.process q a g
      | inr a ↦ let bad : true ≡ false = sym g ∙ nothing q a in cc
    ];
  }

  turn_test : (a b : Bool) → (a && not b) ≡ false → cond b 0 1 ≤ cond a 0 1
  turn_test true true h = omega arith
  turn_test true false h = cc
  turn_test false true h = omega arith
  turn_test false false h = omega arith

  turn_over : (a b : Bool) → (a && not b) ≡ true → cond a 0 1 < cond b 0 1
  turn_over true false h = omega arith
  turn_over _ _ h = cc

  same_turn : (q w : Place) → q.pid.0 ≡ w.pid.0 → process_first l q.pid.0 w.pid.0 ≡ false
  same_turn q w e = let t : turn_of l q.pid.0 ≡ turn_of l w.pid.0 = ap (turn_of l) e in process_from l q.pid.0 w.pid.0 (record { turn = omega (arith, t); pid = λ s. omega (arith, e) })

  -- it holds one, and the best so far stays
  pub best_kept : (n : ℕ) (v w : Place) → IsBest l ages pinned n v → w.pid.0 ≡ n → takes_over l n (Some v) ≡ false → IsBest l ages pinned (n + 1) v
  best_kept n v w b e stays = record {
    oldest = b.oldest;
    low = let a = b.low in omega (arith, a);
    process = λ q h g. elim (below_or_at q n h) [
      | inl a ↦ b.process q a g
      | inr a ↦
          let t : turn_of l v.pid.0 ≤ turn_of l n = turn_test (is_above_min (set_of l n)) (is_above_min (set_of l v.pid.0)) stays in
          process_from l q.pid.0 v.pid.0 (record { turn = omega (arith, t, ap (turn_of l) a); pid = λ s. omega (arith, b.low, a) })
    ];
  }

  -- it holds one, and is the best now
  pub best_now : (n : ℕ) (o : Option Place) (w : Place) → BestBelow l ages pinned n o → w.pid.0 ≡ n → IsOldest l ages pinned w → takes_over l n o ≡ true → IsBest l ages pinned (n + 1) w
  best_now n None w b e oldest takes = record {
    oldest = oldest;
    low = omega (arith, e);
    process = λ q h g. elim (below_or_at q n h) [
      | inl a ↦ let bad : true ≡ false = sym g ∙ b q a in cc
      | inr a ↦ same_turn q w (a ∙ sym e)
    ];
  }
  best_now n (Some v) w b e oldest takes = record {
    oldest = oldest;
    low = omega (arith, e);
    process = λ q h g. elim (below_or_at q n h) [
      | inl a ↦
          let t : turn_of l n < turn_of l v.pid.0 = turn_over (is_above_min (set_of l n)) (is_above_min (set_of l v.pid.0)) takes in
          let same : turn_of l w.pid.0 ≡ turn_of l n = ap (turn_of l) e in
          let kt = (process_not l q.pid.0 v.pid.0 (b.process q a g)).turn in
          process_from l q.pid.0 w.pid.0 (record { turn = omega (arith, kt, t, same); pid = λ s. absurd (omega (arith, kt, t, same, s)) })
      | inr a ↦ same_turn q w (a ∙ sym e)
    ];
  }

-- ---- all processes

-- the process of a valid place was made, and its set is not empty
module _ (l : FrameLife) (s : Sound l) (q : Place) (there : is_some (l.valid q) ≡ true) where
  pub has_process : (1 ≤ q.pid.0) × (q.pid.0 ≤ length l.sets)
  has_process = at q.pid.0 refl (resident_there l s q there)
    where
      at : (n : ℕ) → q.pid.0 ≡ n → 1 ≤ residents (set_of l n) → (1 ≤ n) × (n ≤ length l.sets)
      at zero e h = absurd (omega (arith, h))
      at (suc k) e h = by_set (slice_get l.sets k) refl h
        where
          by_set : (o : Option ResidentSet) → slice_get l.sets k ≡ o → 1 ≤ residents o → (1 ≤ suc k) × (suc k ≤ length l.sets)
          by_set None g i = absurd (omega (arith, i))
          by_set (Some t) g i = let low = get_within l.sets k t g in (omega arith, omega (arith, low))

module _ (l : FrameLife) (s : Sound l) (ages : Ages) (pinned : Option Frame) where
  below_end : (n : ℕ) → length l.sets < n → (q : Place) → may_go l pinned q ≡ true → q.pid.0 < n
  below_end n h q g = let p = has_process l s q (goes_valid l ages pinned q g) in let a = p.1 in omega (arith, h, a)

  pub best_victim : (n : ℕ) (v : Place) → length l.sets < n → IsBest l ages pinned n v → IsVictim l ages pinned v
  best_victim n v h b = record { oldest = b.oldest; process = λ q g. b.process q (below_end n h q g) g }

  pub best_none : (n : ℕ) → length l.sets < n → BestBelow l ages pinned n None → (q : Place) → may_go l pinned q ≡ false
  best_none n h b q = not_true (may_go l pinned q) (λ g. let bad : true ≡ false = sym g ∙ b q (below_end n h q g) in cc)

  -- pid 0 is no process
  pub best_begins : BestBelow l ages pinned 1 None
  best_begins = λ q h. not_true (may_go l pinned q) (λ g. omega (arith, h, (has_process l s q (goes_valid l ages pinned q g)).0))

pub all_go : (l : FrameLife) (p : Place) → may_go l None p ≡ is_some (l.valid p)
all_go l p = at (l.valid p)
  where
    at : (o : Option Frame) → is_unpinned None o ≡ is_some o
    at None = refl
    at (Some f) = refl

-- a place of a list that passes a test, or none does
search_places : (test : Place → Bool) (xs : List Place) → ((x : Place) × ((1 ≤ tally (same_place x) xs) × (test x ≡ true))) ⊎ (tally test xs ≡ 0)
search_places test [] = inr refl
search_places test (y ∷ xs) = elim (test y) as (λ b. test y ≡ b → ((x : Place) × ((1 ≤ one_if (same_place x y) + tally (same_place x) xs) × (test x ≡ true))) ⊎ (one_if b + tally test xs ≡ 0)) [
  | true ↦ λ e. inl (y, (let one : one_if (same_place y y) ≡ 1 = ap one_if (same_place-self y) in omega (arith, one), e))
  | false ↦ λ e. elim (search_places test xs) [ inl h ↦ inl (h.0, (let a = h.1.0 in omega (arith, a), h.1.1)) | inr h ↦ inr (omega (arith, h)) ]
] refl

-- a set that is not empty has an oldest page
pub set_oldest : (l : FrameLife) (s : Sound l) (ages : Ages) (pid : ℕ) → 1 ≤ residents (set_of l pid) → (v : Place) × ((v.pid.0 ≡ pid) × IsOldest l ages None v)
set_oldest l s ages pid some = elim (search_places (is_of pid) s.shown.places) [
  | inl h ↦
      let mine : h.0.pid.0 ≡ pid = eqb-true h.0.pid.0 pid h.1.1 in
      let old = some_oldest l s ages None h.0 (goes (l.valid h.0) ((one_only_if (is_some (l.valid h.0)) (omega (arith, s.shown.once h.0, h.1.0))))) in
      (old.0, (old.1.0 ∙ mine, old.1.1))
  | inr h ↦ (let sizes = s.shown.resident pid in absurd (omega (arith, some, sizes, h)))
]
  where
    goes : (o : Option Frame) → is_some o ≡ true → is_unpinned None o ≡ true
    goes None e = cc
    goes (Some f) e = refl

-- ---- the oldest page of a working set, as the page that goes next of its process

module _ (l : FrameLife) (ages : Ages) (pid : Pid) (set : FinMap nat_cmp ℕ) (agrees : SetShows l ages pid set) where
  -- a page of the set is valid
  held_valid : (p : Place) (a : ℕ) → p.pid.0 ≡ pid.0 → finite.get set p.vpn.0 ≡ Some a → (is_some (l.valid p) ≡ true) × (ages p ≡ a)
  held_valid p a e h = at (l.valid p) (sym (agrees.at p e) ∙ h)
    where
      at : (o : Option Frame) → option_map (λ _. ages p) o ≡ Some a → (is_some o ≡ true) × (ages p ≡ a)
      at None g = cc
      at (Some f) g = (refl, let same : ages p ≡ a = cc in same)

  valid_held : (p : Place) → p.pid.0 ≡ pid.0 → is_some (l.valid p) ≡ true → finite.get set p.vpn.0 ≡ Some (ages p)
  valid_held p e h = agrees.at p e ∙ at (l.valid p) h
    where
      at : (o : Option Frame) → is_some o ≡ true → option_map (λ _. ages p) o ≡ Some (ages p)
      at None g = cc
      at (Some f) g = refl

  -- of a page that is in the set
  follows_by : (after : Option Place) → IsInSet l pid after → (q : Place) → GoesAfter set (page_of_place after) q.vpn.0 (ages q) → FollowsPage ages after q
  follows_by None known q h = tt
  follows_by (Some p) known q h = let k = known p refl in h (ages p) (valid_held p k.0 k.1)

  goes_by : (after : Option Place) → IsInSet l pid after → (q : Place) → FollowsPage ages after q → GoesAfter set (page_of_place after) q.vpn.0 (ages q)
  goes_by None known q h = tt
  goes_by (Some p) known q h = λ a e.
      let same : ages p ≡ a = (held_valid p a (known p refl).0 e).1 in
      subst (λ (n : ℕ). GoesBefore p.vpn.0 n q.vpn.0 (ages q)) same h

  pub oldest_next : (after : Option Place) → IsInSet l pid after → (v : ℕ) → IsOldestInSet set (page_of_place after) v → IsNextPage l ages after (place_of_page pid v)
  oldest_next after known v o =
      let here = held_valid (place_of_page pid v) o.age refl o.held in
      record {
        valid = here.0;
        follows = follows_by after known (place_of_page pid v) (subst (λ (n : ℕ). GoesAfter set (page_of_place after) v n) (sym here.1) o.follows);
        first = λ q e t h. elim (o.first q.vpn.0 (ages q) (valid_held q e t) (goes_by after known q h)) [
          | inl s ↦ inl (λ i. record { pid = record { 0 = e i }; vpn = record { 0 = s i } })
          | inr s ↦ inr (subst (λ (n : ℕ). GoesBefore v n q.vpn.0 (ages q)) (sym here.1) s)
        ];
      }

  pub none_next_in : (after : Option Place) → IsInSet l pid after → NoneFollowsInSet set (page_of_place after) → NoneNext l ages pid.0 after
  none_next_in after known nothing = λ q e t h. nothing q.vpn.0 (ages q) (valid_held q e t) (goes_by after known q h)
