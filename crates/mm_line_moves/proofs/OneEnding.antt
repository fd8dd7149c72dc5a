-- A line that takes pages away has one log: its moves are in rising order of rank, and which they are is told.
use Rattle.std.proofs.Common.{◌≡◌, ◌≤◌, ◌<◌, ◌^◌, ℕ, zero, suc, ◌+◌, Bool, true, false, cond, List, [], ◌∷◌, Option, Some, None, refl, sym, ap, ◌∙◌, subst, inl, inr, arith, length, slice_get, not, option_map, unwrap_or}
use Rattle.std.proofs.lemmas.Bool.{eqb-true, cases_lt}
use Rattle.std.proofs.lemmas.List.Quantifiers.{position-Some}
use Rattle.std.specs.Prelude.{◌==◌, ◌&&◌, ◌||◌, position}
use Rattle.mm_types.proofs.{parts, get_within}
use Rattle.mm_move_rules.proofs.{same_key-self}
use Rattle.mm_types.specs.{end_of, end_of_user_pages, Held, Move, Area, Frame, Key, Place, Kind, first_user_page}
use Rattle.mm_types.specs.declared.frames.Held.TheVariants as held
use Rattle.mm_types.specs.declared.moves.Move.TheVariants as move
use Rattle.mm_types.specs.declared.numbers.Key.TheVariants as key
use Rattle.mm_types.specs.declared.views.Kind.TheVariants as kind
use Rattle.mm_move_rules.specs.{record_at, FrameLife, is_live, is_dead, same_key, same_place, IsLegal, is_call, is_unbind, is_unmapped, may_unmap}
use Rattle.mm_move_rules.specs.{after_move, after_unmap_at, dropped_at, Replays}
use Rattle.mm_world.specs.{Page, RegionOf, ProcessOf, SectionOf, numbered, pages_of, process_of, is_handle_to, is_view_of, uses, LaidOut}
use Rattle.mm_world.specs.World.{World}
use Rattle.mm_store.specs.{page_rank, or_else, last_rank, rank_behind, view_rank, handle_rank, section_rank, goes_with, leaving, Turned, AllTurn}
use Rattle.mm_store.specs.{is_turn, rank_gone, ranks_gone, Rises, DropsLowest, LowestFirst, Goes}
use Rattle.mm_store.specs.Leaving.{Leaving}
use Rattle.mm_store.specs.Housekeeping.{Ends}
use Rattle.mm_line_moves.specs.{StandsAlways}

-- ---- what moves leave

pub unmapped_stands : (o : Option Frame) (l : FrameLife) (p : Place) (k : Key) → (after_unmap_at o l p).stands k ≡ l.stands k
unmapped_stands None l p k = refl
unmapped_stands (Some f) l p k = refl

unmapped_paging : (o : Option Frame) (l : FrameLife) (p : Place) (k : Key) → (after_unmap_at o l p).paging k ≡ l.paging k
unmapped_paging None l p k = refl
unmapped_paging (Some f) l p k = refl

pub unmapped_other : (o : Option Frame) (l : FrameLife) (p q : Place) → same_place q p ≡ false → (after_unmap_at o l p).valid q ≡ l.valid q
unmapped_other None l p q e = refl
unmapped_other (Some f) l p q e = ap (λ b. cond b None (l.valid q)) e

dropped_valid : (h : Held) (l : FrameLife) (k : Key) (p : Place) → (dropped_at h l k).valid p ≡ l.valid p
dropped_valid (held.Frame f) l k p = refl
dropped_valid _ l k p = cc

dropped_stands : (h : Held) (l : FrameLife) (k q : Key) → (dropped_at h l k).stands q ≡ cond (same_key q k) held.Dead (l.stands q)
dropped_stands (held.Frame f) l k q = refl
dropped_stands _ l k q = cc

dropped_paging : (h : Held) (l : FrameLife) (k q : Key) → (dropped_at h l k).paging q ≡ cond (same_key q k) false (l.paging q)
dropped_paging (held.Frame f) l k q = refl
dropped_paging _ l k q = cc

-- the page-file keys live
abbrev PagingLives : FrameLife → Type 0
PagingLives l = (k : Key) → l.paging k ≡ true → is_live l k ≡ true

lives_unmapped : (l : FrameLife) (p : Place) → PagingLives l → PagingLives (after_move l (move.Unmap p))
lives_unmapped l p h k e =
    ap (λ (s : Held). not (is_dead s)) (unmapped_stands (l.valid p) l p k) ∙ h k (sym (unmapped_paging (l.valid p) l p k) ∙ e)

lives_dropped : (l : FrameLife) (k : Key) → PagingLives l → PagingLives (after_move l (move.Drop k))
lives_dropped l k h q e = at (same_key q k) refl
  where
    at : (b : Bool) → same_key q k ≡ b → is_live (dropped_at (l.stands k) l k) q ≡ true
    at true f = let bad : false ≡ true = sym (dropped_paging (l.stands k) l k q ∙ ap (λ b. cond b false (l.paging q)) f) ∙ e in cc
    at false f =
        ap (λ (s : Held). not (is_dead s)) (dropped_stands (l.stands k) l k q ∙ ap (λ b. cond b held.Dead (l.stands q)) f)
        ∙ h q (sym (dropped_paging (l.stands k) l k q ∙ ap (λ b. cond b false (l.paging q)) f) ∙ e)

drop_paging : (l : FrameLife) (k : Key) → IsLegal (move.Drop k) l → l.paging k ≡ true
drop_paging l k h =
    (parts (is_call l.kind || is_unbind l.kind) (l.paging k) (parts ((is_call l.kind || is_unbind l.kind) && l.paging k) (is_unmapped l (l.stands k)) h).0).1

pub unmap_valid : (l : FrameLife) (p : Place) → IsLegal (move.Unmap p) l → l.valid p ≡ None → ⊥
unmap_valid l p h e =
    let bad : false ≡ true = sym (ap (λ (o : Option Frame). unwrap_or (option_map (λ (f : Frame). may_unmap l p (record_at l.frames f.0)) o) false) e) ∙ h in cc

-- ---- two lists of moves that are one

pub place_of : (p q : Place) → p.pid.0 ≡ q.pid.0 → p.vpn.0 ≡ q.vpn.0 → p ≡ q
place_of p q e f = λ i. record { pid = record { 0 = e i }; vpn = record { 0 = f i } }

-- what two lists of moves leave alike: which keys live; and which places are not valid
record Left (goes : Leaving) (m n : FrameLife) : Type 0 where
  live : (k : Key) → is_live m k ≡ is_live n k
  first : (p : Place) → goes.places p ≡ true → m.valid p ≡ None
  second : (p : Place) → goes.places p ≡ true → n.valid p ≡ None

other_way : (goes : Leaving) (m n : FrameLife) → Left goes m n → Left goes n m
other_way goes m n h = record { live = λ k. sym (h.live k); first = h.second; second = h.first }

module _ (goes : Leaving) (pid from to : ℕ) (mine : (p : Place) → goes.places p ≡ true → p.pid.0 ≡ pid)
    (apart : (area page : ℕ) → from ≤ goes.rank area → goes.rank area ≡ page_rank page → ⊥)
    (once : (a b : ℕ) → from ≤ goes.rank a → goes.rank a ≡ goes.rank b → a ≡ b) where
  abbrev turn : List Move → Type 0
  turn ms = AllTurn (Ends goes from to) ms

  abbrev ranks : List Move → List ℕ
  ranks ms = ranks_gone goes.rank ms

  abbrev key_rank : Key → ℕ
  key_rank (key.Private p v) = page_rank v.0
  key_rank (key.Shared a i) = goes.rank a.0

  abbrev move_rank : Move → ℕ
  move_rank m = unwrap_or (rank_gone goes.rank m) 0

  other_place : (p q : Place) (b : Bool) → same_place p q ≡ b → page_rank p.vpn.0 < page_rank q.vpn.0 → b ≡ false
  other_place p q true e h =
      let same : p.vpn.0 ≡ q.vpn.0 = eqb-true p.vpn.0 q.vpn.0 (parts (p.pid.0 == q.pid.0) (p.vpn.0 == q.vpn.0) e).1 in
      absurd (omega (arith, same, h))
  other_place p q false e h = refl

  same_rank : (k q : Key) → same_key k q ≡ true → key_rank k ≡ key_rank q
  same_rank (key.Private p v) (key.Private q w) e = ap page_rank (eqb-true v.0 w.0 (parts (p.0 == q.0) (v.0 == w.0) e).1)
  same_rank (key.Shared a i) (key.Shared b j) e = ap goes.rank (eqb-true a.0 b.0 (parts (a.0 == b.0) (i == j) e).0)
  same_rank _ _ e = cc

  other_key : (k q : Key) (b : Bool) → same_key k q ≡ b → key_rank k < key_rank q → b ≡ false
  other_key k q true e h = let same = same_rank k q e in absurd (omega (arith, same, h))
  other_key k q false e h = refl

  -- moves of greater ranks leave a place valid
  place_stays : (ms : List Move) (l m : FrameLife) (low : ℕ) (p : Place) → turn ms → Rises low to (ranks ms) → Replays ms l m → page_rank p.vpn.0 < low → m.valid p ≡ l.valid p
  place_stays [] l m low p a r e h = ap (λ (x : FrameLife). x.valid p) e
  place_stays (move.Unmap q ∷ ms) l m low p a r e h =
      let less : page_rank p.vpn.0 < page_rank q.vpn.0 = omega (arith, h, r.0) in
      place_stays ms (after_move l (move.Unmap q)) m (page_rank q.vpn.0) p a.1 r.2 e.1 less
      ∙ unmapped_other (l.valid q) l q p (other_place p q (same_place p q) refl less)
  place_stays (move.Drop (key.Private q v) ∷ ms) l m low p a r e h =
      let less : page_rank p.vpn.0 < page_rank v.0 = omega (arith, h, r.0) in
      place_stays ms (after_move l (move.Drop (key.Private q v))) m (page_rank v.0) p a.1 r.2 e.1 less ∙ dropped_valid (l.stands (key.Private q v)) l (key.Private q v) p
  place_stays (move.Drop (key.Shared b j) ∷ ms) l m low p a r e h =
      let less : page_rank p.vpn.0 < goes.rank b.0 = omega (arith, h, r.0) in
      place_stays ms (after_move l (move.Drop (key.Shared b j))) m (goes.rank b.0) p a.1 r.2 e.1 less ∙ dropped_valid (l.stands (key.Shared b j)) l (key.Shared b j) p
  place_stays (_ ∷ ms) l m low p a r e h = let bad = a.0 in cc

  -- and leave a key where it stands
  key_stays : (ms : List Move) (l m : FrameLife) (low : ℕ) (k : Key) → turn ms → Rises low to (ranks ms) → Replays ms l m → key_rank k < low → m.stands k ≡ l.stands k
  key_stays [] l m low k a r e h = ap (λ (x : FrameLife). x.stands k) e
  key_stays (move.Unmap q ∷ ms) l m low k a r e h =
      let less : key_rank k < page_rank q.vpn.0 = omega (arith, h, r.0) in
      key_stays ms (after_move l (move.Unmap q)) m (page_rank q.vpn.0) k a.1 r.2 e.1 less ∙ unmapped_stands (l.valid q) l q k
  key_stays (move.Drop (key.Private q v) ∷ ms) l m low k a r e h =
      let less : key_rank k < page_rank v.0 = omega (arith, h, r.0) in
      key_stays ms (after_move l (move.Drop (key.Private q v))) m (page_rank v.0) k a.1 r.2 e.1 less
      ∙ dropped_stands (l.stands (key.Private q v)) l (key.Private q v) k
      ∙ ap (λ b. cond b held.Dead (l.stands k)) (other_key k (key.Private q v) (same_key k (key.Private q v)) refl less)
  key_stays (move.Drop (key.Shared b j) ∷ ms) l m low k a r e h =
      let less : key_rank k < goes.rank b.0 = omega (arith, h, r.0) in
      key_stays ms (after_move l (move.Drop (key.Shared b j))) m (goes.rank b.0) k a.1 r.2 e.1 less
      ∙ dropped_stands (l.stands (key.Shared b j)) l (key.Shared b j) k
      ∙ ap (λ b. cond b held.Dead (l.stands k)) (other_key k (key.Shared b j) (same_key k (key.Shared b j)) refl less)
  key_stays (_ ∷ ms) l m low k a r e h = let bad = a.0 in cc

  -- no key comes to be
  dead_stays : (ms : List Move) (l m : FrameLife) (k : Key) → turn ms → Replays ms l m → l.stands k ≡ held.Dead → m.stands k ≡ held.Dead
  dead_stays [] l m k a e h = ap (λ (x : FrameLife). x.stands k) e ∙ h
  dead_stays (move.Unmap q ∷ ms) l m k a e h = dead_stays ms (after_move l (move.Unmap q)) m k a.1 e.1 (unmapped_stands (l.valid q) l q k ∙ h)
  dead_stays (move.Drop q ∷ ms) l m k a e h = dead_stays ms (after_move l (move.Drop q)) m k a.1 e.1 (dropped_stands (l.stands q) l q k ∙ at (same_key k q))
    where
      at : (b : Bool) → cond b held.Dead (l.stands k) ≡ held.Dead
      at true = refl
      at false = h
  dead_stays (_ ∷ ms) l m k a e h = let bad = a.0 in cc

  -- a move of lower rank is not missed
  missed : (x : Move) (xs ys : List Move) (l m n : FrameLife) (low : ℕ) → PagingLives l → Left goes m n → is_turn (Ends goes from to) x ≡ true → IsLegal x l
      → turn xs → Replays xs (after_move l x) m → turn ys → Rises low to (ranks ys) → Replays ys l n → move_rank x < low → ⊥
  missed (move.Unmap p) xs ys l m n low lives h t legal a e b r f less =
      unmap_valid l p legal (sym (place_stays ys l n low p b r f less) ∙ h.second p t)
  missed (move.Drop k) xs ys l m n low lives h t legal a e b r f less =
      let here : l.stands k ≡ n.stands k = sym (key_stays ys l n low k b r f (rank_is k less)) in
      let dead : m.stands k ≡ held.Dead = dead_stays xs (after_move l (move.Drop k)) m k a e (dropped_stands (l.stands k) l k k ∙ ap (λ b. cond b held.Dead (l.stands k)) (same_key-self k)) in
      let bad : true ≡ false = sym (lives k (drop_paging l k legal)) ∙ ap (λ (s : Held). not (is_dead s)) here ∙ sym (h.live k) ∙ ap (λ (s : Held). not (is_dead s)) dead in cc
    where
      rank_is : (k : Key) → move_rank (move.Drop k) < low → key_rank k < low
      rank_is (key.Private q v) h = h
      rank_is (key.Shared b j) h = h
  missed _ xs ys l m n low lives h t legal a e b r f less = let bad = t in cc

  -- of two first moves of one rank each is the other
  one_move : (x y : Move) (l : FrameLife) → PagingLives l → is_turn (Ends goes from to) x ≡ true → is_turn (Ends goes from to) y ≡ true → IsLegal x l → IsLegal y l
      → DropsLowest l x → DropsLowest l y → from ≤ move_rank x → move_rank x ≡ move_rank y → y ≡ x
  one_move (move.Unmap p) (move.Unmap q) l lives t u legal other low least h e =
      ap (λ (z : Place). move.Unmap z) (place_of q p (mine q u ∙ sym (mine p t)) (omega (arith, e)))
  one_move (move.Unmap p) (move.Drop (key.Private q v)) l lives t u legal other low least h e =
      let place : Place = record { pid = q; vpn = v } in
      let same = place_of p place (mine p t ∙ sym (mine place u)) (omega (arith, e)) in
      absurd (unmap_valid l p legal (ap l.valid same ∙ least))
  one_move (move.Unmap p) (move.Drop (key.Shared b j)) l lives t u legal other low least h e = absurd (apart b.0 p.vpn.0 (omega (arith, h, e)) (sym e))
  one_move (move.Drop (key.Private q v)) (move.Unmap p) l lives t u legal other low least h e =
      let place : Place = record { pid = q; vpn = v } in
      let same = place_of p place (mine p u ∙ sym (mine place t)) (omega (arith, e)) in
      absurd (unmap_valid l p other (ap l.valid same ∙ low))
  one_move (move.Drop (key.Private q v)) (move.Drop (key.Private o w)) l lives t u legal other low least h e =
      let place : Place = record { pid = q; vpn = v } in
      let there : Place = record { pid = o; vpn = w } in
      let same = place_of there place (mine there u ∙ sym (mine place t)) (omega (arith, e)) in
      ap (λ (z : Place). move.Drop (key.Private z.pid z.vpn)) same
  one_move (move.Drop (key.Private q v)) (move.Drop (key.Shared b j)) l lives t u legal other low least h e = absurd (apart b.0 v.0 (omega (arith, h, e)) (sym e))
  one_move (move.Drop (key.Shared a i)) (move.Unmap p) l lives t u legal other low least h e = absurd (apart a.0 p.vpn.0 h e)
  one_move (move.Drop (key.Shared a i)) (move.Drop (key.Private q v)) l lives t u legal other low least h e = absurd (apart a.0 v.0 h e)
  one_move (move.Drop (key.Shared a i)) (move.Drop (key.Shared b j)) l lives t u legal other low least h e =
      let area : a ≡ b = (let same = once a.0 b.0 h e in (λ k. record { 0 = same k })) in
      elim (cases_lt i j) [
        | inl less ↦
            (let bad : true ≡ false = sym (lives (key.Shared a i) (drop_paging l (key.Shared a i) legal)) ∙ ap (λ (c : Area). is_live l (key.Shared c i)) area ∙ least i less in cc)
        | inr more ↦ elim (cases_lt j i) [
          | inl less ↦
              (let bad : true ≡ false = sym (lives (key.Shared b j) (drop_paging l (key.Shared b j) other)) ∙ ap (λ (c : Area). is_live l (key.Shared c j)) (sym area) ∙ low j less in cc)
          | inr most ↦ (let index : j ≡ i = omega (arith, more, most) in (λ k. move.Drop (key.Shared (sym area k) (index k))))
        ]
      ]
  one_move (move.Unmap p) _ l lives t u legal other low least h e = let bad = u in cc
  one_move (move.Drop k) _ l lives t u legal other low least h e = let bad = u in cc
  one_move _ y l lives t u legal other low least h e = let bad = t in cc

  -- each of these moves has its rank
  risen : (x : Move) (xs : List Move) (low : ℕ) → is_turn (Ends goes from to) x ≡ true → Rises low to (ranks (x ∷ xs)) → (low ≤ move_rank x) × (move_rank x < to) × Rises (move_rank x) to (ranks xs)
  risen (move.Unmap p) xs low t r = r
  risen (move.Drop (key.Private q v)) xs low t r = r
  risen (move.Drop (key.Shared b j)) xs low t r = r
  risen _ xs low t r = let bad = t in cc

  rises_on : (x : Move) (xs : List Move) (low : ℕ) → is_turn (Ends goes from to) x ≡ true → Rises low to (ranks (x ∷ xs)) → Rises (move_rank x) to (ranks (x ∷ xs))
  rises_on (move.Unmap p) xs low t r = (omega arith, r.1, r.2)
  rises_on (move.Drop (key.Private q v)) xs low t r = (omega arith, r.1, r.2)
  rises_on (move.Drop (key.Shared b j)) xs low t r = (omega arith, r.1, r.2)
  rises_on _ xs low t r = let bad = t in cc

  lives_on : (x : Move) (l : FrameLife) → is_turn (Ends goes from to) x ≡ true → PagingLives l → PagingLives (after_move l x)
  lives_on (move.Unmap p) l t h = lives_unmapped l p h
  lives_on (move.Drop k) l t h = lives_dropped l k h
  lives_on _ l t h = let bad = t in cc

  ends_one : (xs ys : List Move) (l m n : FrameLife) (low : ℕ) → from ≤ low → PagingLives l → Left goes m n → turn xs → Rises low to (ranks xs) → LowestFirst l xs → Replays xs l m
      → turn ys → Rises low to (ranks ys) → LowestFirst l ys → Replays ys l n → ys ≡ xs
  ends_one [] [] l m n low h lives left a r s e b q t f = refl
  ends_one [] (y ∷ ys) l m n low h lives left a r s e b q t f =
      absurd (missed y ys [] l n m (move_rank y + 1) lives (other_way goes m n left) b.0 f.0 b.1 f.1 tt tt e (omega arith))
  ends_one (x ∷ xs) [] l m n low h lives left a r s e b q t f =
      absurd (missed x xs [] l m n (move_rank x + 1) lives left a.0 e.0 a.1 e.1 tt tt f (omega arith))
  ends_one (x ∷ xs) (y ∷ ys) l m n low h lives left a r s e b q t f = elim (cases_lt (move_rank x) (move_rank y)) [
    | inl less ↦ absurd (missed x xs (y ∷ ys) l m n (move_rank y) lives left a.0 e.0 a.1 e.1 b (rises_on y ys low b.0 q) f less)
    | inr more ↦ elim (cases_lt (move_rank y) (move_rank x)) [
      | inl less ↦ absurd (missed y ys (x ∷ xs) l n m (move_rank x) lives (other_way goes m n left) b.0 f.0 b.1 f.1 a (rises_on x xs low a.0 r) e less)
      | inr most ↦
          (let rank : move_rank x ≡ move_rank y = omega (arith, more, most) in
          let first = risen x xs low a.0 r in
          let second = risen y ys low b.0 q in
          let above : from ≤ move_rank x = omega (arith, h, first.0) in
          let same = one_move x y l lives a.0 b.0 e.0 f.0 s.0 t.0 above rank in
          let rest = ends_one xs ys (after_move l x) m n (move_rank x) above (lives_on x l a.0 lives) left a.1 first.2 s.1 e.1 b.1
          (subst (λ (k : ℕ). Rises k to (ranks ys)) (sym rank) second.2)
          (subst (λ (z : Move). LowestFirst (after_move l z) ys) same t.1)
          (subst (λ (z : Move). Replays ys (after_move l z) n) same f.1) in
          (λ i. same i ∷ rest i))
    ]
  ]

-- ---- the ranks of areas

last_found : {A : Type 0} (test : A → Bool) (rank : ℕ → A → ℕ) (k : ℕ) (xs : List A) → 1 ≤ last_rank test rank k xs → (i : ℕ) × ((x : A) × ((slice_get xs i ≡ Some x) × (test x ≡ true) × (last_rank test rank k xs ≡ rank (k + i) x)))
last_found test rank k [] some = absurd (omega (arith, some))
last_found {A} test rank k (x ∷ xs) some = at (λ h. last_found test rank (k + 1) xs h) (last_rank test rank (k + 1) xs) (test x) refl refl some
  where
    at : (1 ≤ last_rank test rank (k + 1) xs → (i : ℕ) × ((z : A) × ((slice_get xs i ≡ Some z) × (test z ≡ true) × (last_rank test rank (k + 1) xs ≡ rank (k + 1 + i) z))))
        → (n : ℕ) (b : Bool) → last_rank test rank (k + 1) xs ≡ n → test x ≡ b → 1 ≤ or_else n (cond b (rank k x) 0) → (i : ℕ) × ((z : A) × ((slice_get (x ∷ xs) i ≡ Some z) × (test z ≡ true) × (or_else n (cond b (rank k x) 0) ≡ rank (k + i) z)))
    at deeper zero true e f some = (0, (x, (refl, f, ap (λ (n : ℕ). rank n x) (let same : k ≡ k + 0 = omega arith in same))))
    at deeper zero false e f some = absurd (omega (arith, some))
    at deeper (suc n) b e f some =
        let later = deeper (omega (arith, e)) in
        (suc later.0, (later.1.0, (later.1.1.0, later.1.1.1, sym e ∙ later.1.1.2 ∙ ap (λ (n : ℕ). rank n later.1.0) (let same : k + 1 + later.0 ≡ k + suc later.0 = omega arith in same))))

-- regions have other ends, each after its first page
later_end : (from i : ℕ) (rs : List (RegionOf Page)) (r : RegionOf Page) → LaidOut from rs → slice_get rs i ≡ Some r → from < end_of (pages_of r)
later_end from i [] r h at = cc
later_end from zero (x ∷ rs) r h at =
    let same : x ≡ r = cc in
    let end : end_of (pages_of x) ≡ end_of (pages_of r) = ap (λ (r : RegionOf Page). end_of (pages_of r)) same in
    omega (arith, h.0.later, h.0.some, end)
later_end from (suc i) (x ∷ rs) r h at =
    let later = later_end (end_of (pages_of x)) i rs r h.1 at in
    omega (arith, h.0.later, h.0.some, later)

one_end : (from i j : ℕ) (rs : List (RegionOf Page)) (r q : RegionOf Page) → LaidOut from rs → slice_get rs i ≡ Some r → slice_get rs j ≡ Some q → end_of (pages_of r) ≡ end_of (pages_of q) → r ≡ q
one_end from zero (suc j) (x ∷ rs) r q h at there e =
    let same : x ≡ r = cc in
    let end : end_of (pages_of x) ≡ end_of (pages_of r) = ap (λ (r : RegionOf Page). end_of (pages_of r)) same in
    let later = later_end (end_of (pages_of x)) j rs q h.1 there in absurd (omega (arith, end, e, later))
one_end from (suc i) zero (x ∷ rs) r q h at there e =
    let same : x ≡ q = cc in
    let end : end_of (pages_of x) ≡ end_of (pages_of q) = ap (λ (r : RegionOf Page). end_of (pages_of r)) same in
    let later = later_end (end_of (pages_of x)) i rs r h.1 at in absurd (omega (arith, end, e, later))
one_end from (suc i) (suc j) (x ∷ rs) r q h at there e = one_end (end_of (pages_of x)) i j rs r q h.1 at there e
one_end from _ _ _ r q h at there e = cc

-- how a process gives up a section: with a view, or with a handle
data With (n rank : ℕ) (p : ProcessOf Page) : Type 0 where
  View : (i : ℕ) (r : RegionOf Page) → slice_get p.regions i ≡ Some r → is_view_of n r.kind ≡ true → rank ≡ rank_behind r → With n rank p
  Handle : (i : ℕ) (h : Option ℕ) → slice_get p.handles i ≡ Some h → is_handle_to n h ≡ true → rank ≡ i + 1 → With n rank p

with_which : (n : ℕ) (p : ProcessOf Page) → 1 ≤ section_rank n (Some p) → With n (section_rank n (Some p)) p
with_which n p some = at (view_rank n p.regions) refl some
  where
    at : (v : ℕ) → view_rank n p.regions ≡ v → 1 ≤ or_else v (handle_rank n p.handles) → With n (or_else v (handle_rank n p.handles)) p
    at zero e some =
        let f = last_found (is_handle_to n) (λ place h. place + 1) 0 p.handles some in
        Handle f.0 f.1.0 f.1.1.0 f.1.1.1 (f.1.1.2 ∙ (let same : 0 + f.0 + 1 ≡ f.0 + 1 = omega arith in same))
    at (suc v) e some =
        let f = last_found (λ (r : RegionOf Page). is_view_of n r.kind) (λ place r. rank_behind r) 0 p.regions (omega (arith, e)) in
        View f.0 f.1.0 f.1.1.0 f.1.1.1 (sym e ∙ f.1.1.2)

one_viewed : (n m : ℕ) (k : Kind) → is_view_of n k ≡ true → is_view_of m k ≡ true → n ≡ m
one_viewed n m kind.Private e f = cc
one_viewed n m (kind.View v) e f = sym (eqb-true v.section.0 n e) ∙ eqb-true v.section.0 m f

one_handled : (n m : ℕ) (h : Option ℕ) → is_handle_to n h ≡ true → is_handle_to m h ≡ true → n ≡ m
one_handled n m None e f = cc
one_handled n m (Some k) e f = sym (eqb-true k n e) ∙ eqb-true k m f

one_area : (a b : ℕ) (s : Option SectionOf) → uses a s ≡ true → uses b s ≡ true → a ≡ b
one_area a b None e f = cc
one_area a b (Some s) e f = sym (eqb-true s.area a e) ∙ eqb-true s.area b f

module _ (p : ProcessOf Page) (space : LaidOut first_user_page p.regions) (few : length p.handles < 2 ^ 32) where
  one_section : (n m r q : ℕ) → r ≡ q → With n r p → With m q p → n ≡ m
  one_section n m r q e (View i x at is rank) (View j y there its rank') =
      let first = later_end first_user_page i p.regions x space at in
      let second = later_end first_user_page j p.regions y space there in
      let same = one_end first_user_page i j p.regions x y space at there (omega (arith, e, rank, rank', first, second)) in
      one_viewed n m y.kind (ap (λ (r : RegionOf Page). is_view_of n r.kind) (sym same) ∙ is) its
  one_section n m r q e (View i x at is rank) (Handle j h there its rank') =
      let first = later_end first_user_page i p.regions x space at in
      let low = get_within p.handles j h there in absurd (omega (arith, e, rank, rank', first, low, few))
  one_section n m r q e (Handle j h there its rank') (View i x at is rank) =
      let first = later_end first_user_page i p.regions x space at in
      let low = get_within p.handles j h there in absurd (omega (arith, e, rank, rank', first, low, few))
  one_section n m r q e (Handle i h at is rank) (Handle j k there its rank') =
      let index : i ≡ j = omega (arith, e, rank, rank') in
      let both : Some h ≡ Some k = sym at ∙ ap (slice_get p.handles) index ∙ there in
      let same : h ≡ k = cc in
      one_handled n m k (ap (is_handle_to n) (sym same) ∙ is) its

  no_page : (n r page : ℕ) → r ≡ page_rank page → With n r p → ⊥
  no_page n r page e (View i x at is rank) = let first = later_end first_user_page i p.regions x space at in omega (arith, e, rank, first)
  no_page n r page e (Handle i h at is rank) = let low = get_within p.handles i h at in omega (arith, e, rank, low, few)

-- the section that an area goes with
record Goer (w : World) (pid area : ℕ) : Type 0 where
  number : ℕ
  process : ProcessOf Page
  lives : process_of w pid ≡ Some process
  used : uses area (numbered w.sections number) ≡ true
  which : With number (goes_with w pid area) process

goer : (w : World) (pid area : ℕ) → 1 ≤ goes_with w pid area → Goer w pid area
goer w pid area some = at (position (uses area) w.sections) refl some
  where
    by_process : (n : ℕ) (o : Option (ProcessOf Page)) → process_of w pid ≡ o → 1 ≤ section_rank n o → (p : ProcessOf Page) × ((process_of w pid ≡ Some p) × With n (section_rank n o) p)
    by_process n None e some = absurd (omega (arith, some))
    by_process n (Some p) e some = (p, (e, with_which n p some))

    at : (o : Option ℕ) → position (uses area) w.sections ≡ o → 1 ≤ unwrap_or (option_map (λ n. section_rank n (process_of w pid)) o) 0 → Goer w pid area
    at None e some = absurd (omega (arith, some))
    at (Some n) e some =
        let p = by_process n (process_of w pid) refl some in
        let rank : section_rank n (process_of w pid) ≡ goes_with w pid area = ap (λ (o : Option ℕ). unwrap_or (option_map (λ n. section_rank n (process_of w pid)) o) 0) (sym e) in
        record {
          number = n;
          process = p.0;
          lives = p.1.0;
          used = (position-Some (uses area) w.sections n None e).1;
          which = subst (λ (r : ℕ). With n r p.0) rank p.1.1;
        }

module _ (w : World) (pid : ℕ) (l : FrameLife) (stands : StandsAlways w l) where
  goes_once : (a b : ℕ) → 1 ≤ goes_with w pid a → goes_with w pid a ≡ goes_with w pid b → a ≡ b
  goes_once a b some e =
      let x = goer w pid a some in
      let y = goer w pid b (omega (arith, some, e)) in
      let both : Some y.process ≡ Some x.process = sym y.lives ∙ x.lives in
      let same : y.process ≡ x.process = cc in
      let number = one_section x.process (stands.spaces pid x.process x.lives).laid_out (stands.few pid x.process x.lives) x.number y.number _ _ e x.which
      (subst (λ (p : ProcessOf Page). With y.number (goes_with w pid b) p) same y.which) in
      one_area a b (numbered w.sections y.number) (ap (λ (n : ℕ). uses a (numbered w.sections n)) (sym number) ∙ x.used) y.used

  goes_apart : (a page : ℕ) → 1 ≤ goes_with w pid a → goes_with w pid a ≡ page_rank page → ⊥
  goes_apart a page some e =
      let x = goer w pid a some in
      no_page x.process (stands.spaces pid x.process x.lives).laid_out (stands.few pid x.process x.lives) x.number _ page e x.which

  pub one_end_log : (places : Place → Bool) (m n : FrameLife) (xs ys : List Move) → ((k : Key) → is_live m k ≡ is_live n k) → ((p : Place) → places p ≡ true → m.valid p ≡ None) → ((p : Place) → places p ≡ true → n.valid p ≡ None)
      → Turned (Goes (leaving w pid places)) l xs → Turned (Goes (leaving w pid places)) l ys → Replays xs l m → Replays ys l n → ys ≡ xs
  one_end_log places m n xs ys live first second p q r t =
      let goes = leaving w pid places in
      let its : (z : Place) → goes.places z ≡ true → (z.pid.0 ≡ pid) × (places z ≡ true) = λ z e. (let h = parts (z.pid.0 == pid) (places z) e in (eqb-true z.pid.0 pid h.0, h.1)) in
      ends_one goes pid 1 (page_rank end_of_user_pages) (λ z e. (its z e).0) goes_apart goes_once
      xs ys l m n 1 (omega arith) stands.live (record { live = live; first = λ z e. first z (its z e).1; second = λ z e. second z (its z e).1 })
      p.all p.order p.lowest r q.all q.order q.lowest t
