-- An access's moves are one list: of two that are due each is the other, and where one list ends none is due.
use Rattle.std.proofs.Common.{◌≡◌, ◌⊎◌, ℕ, Bool, true, false, cond, List, [], ◌∷◌, ◌++◌, Option, Some, None, zero, suc, refl, sym, ap, ◌∙◌, subst, inl, inr, arith}
use Rattle.std.specs.Prelude.{IsTrue, not, ◌&&◌, ◌||◌, ◌==◌, if◌then◌else◌, is_some, option_map, unwrap_or, nat_lt}
use Rattle.mm_types.proofs.{same_number, some_found}
use Rattle.mm_types.specs.{Backing, Frame, Held, Key, Move, Pid, Place, Record, Stored, Why}
use Rattle.mm_types.specs.declared.answers.Why.TheVariants as why
use Rattle.mm_types.specs.declared.frames.Backing.TheVariants as backing
use Rattle.mm_types.specs.declared.frames.Held.TheVariants as held
use Rattle.mm_types.specs.declared.moves.Move.TheVariants as move
use Rattle.mm_types.specs.declared.moves.Stored.TheVariants as stored
use Rattle.mm_move_rules.specs.{FrameLife, record_at, is_write, is_again, is_on, is_stored, is_shared, is_access, is_thread, is_io, is_writer, is_call, is_block, is_lowest, has_depth, has_request, is_unpinned, owner_is}
use Rattle.mm_move_rules.specs.{Aged, IsLegal, IsOldest, IsVictim, IsWriteEnded, Replays, Starved, Through, Walk, after_move, frame_of, goes_before, home_at, homed, is_dead, same_key, next_writable, turn_of, walked, walked_all}
use Rattle.mm_move_rules.proofs.{same_key-true}
use Rattle.mm_move_laws.specs.Sound.{Sound}
use Rattle.mm_move_laws.specs.{is_backing_for}
use Rattle.mm_move_laws.proofs.{owner_passes}
use Rattle.mm_store.specs.{Aim, AccessMove, ByCopy, FromFull, InShortage, IsHeldUp, IsMapped, IsServed, IsSoiledFor, PageGoes, ReadFails, is_copied, is_read_in_flight, is_shortage, key_shown, key_written}
use Rattle.mm_line_moves.specs.{AnswerAlike, outcomes}
use Rattle.mm_line_moves.specs.{Due, EndsRead, IsDue, IsSought, TheMove, MakesRoom, Nothing, Seeks, SoughtByUnmap, SoughtByWrite, due, due_at, due_copy, due_map, due_mapped, due_of, due_unmapped, is_unsoiled, with_free}
use Rattle.mm_line_moves.proofs.OneFlush.{one_backing}
use Rattle.mm_line_moves.proofs.OneEnding.{place_of}
use Rattle.mm_line_moves.proofs.DueParts.{copied_is, first_part, last_part, not_both, thread_not_access, touch_not_call, touch_not_io, touch_not_writer, wants_mapped}
use Rattle.mm_line_moves.proofs.InAccess.{AnyMove, EndsWrite, InAccess, MapsCopy, Then, after_add, after_bad, after_clear, after_give, after_got, after_lost, after_map, after_read, after_soil, after_steal, after_unmap, after_write, after_wrote, before_copy}
use Rattle.mm_line_moves.proofs.DueMoves.{move_due, none_ends, seeking}

-- ---- pages that go

same_aged : (a b : Aged) → goes_before a b ≡ false → goes_before b a ≡ false → a.page ≡ b.page
same_aged a b p q = grind (arith, p, q)

pub one_oldest : (w : Walk) (pin : Option Frame) (p q : Place) → p.pid.0 ≡ q.pid.0 → IsOldest w.life w.ages pin p → IsOldest w.life w.ages pin q → q ≡ p
one_oldest w pin p q same a b =
    sym (place_of p q same (same_aged (record { page = p.vpn.0; age = w.ages p }) (record { page = q.vpn.0; age = w.ages q }) (b.first p same a.goes) (a.first q (sym same) b.goes)))

one_process : (s t p q : ℕ) → (nat_lt s t || ((s == t) && nat_lt p q)) ≡ false → (nat_lt t s || ((t == s) && nat_lt q p)) ≡ false → p ≡ q
one_process s t p q h k = grind (arith, h, k)

one_victim : (w : Walk) (pin : Option Frame) (p q : Place) → IsVictim w.life w.ages pin p → IsVictim w.life w.ages pin q → q ≡ p
one_victim w pin p q a b =
    let same = one_process (turn_of w.life q.pid.0) (turn_of w.life p.pid.0) q.pid.0 p.pid.0 (a.process q b.oldest.goes) (b.process p a.oldest.goes) in
    one_oldest w pin p q (sym same) a.oldest b.oldest

-- ---- where a page is written to

one_lowest : (s t : ℕ) (free : List Bool) → is_lowest s free ≡ true → is_lowest t free ≡ true → s ≡ t
one_lowest s t [] p q = cc
one_lowest zero zero (b ∷ bs) p q = refl
one_lowest zero (suc t) (true ∷ bs) p q = cc
one_lowest zero (suc t) (false ∷ bs) p q = cc
one_lowest (suc s) zero (true ∷ bs) p q = cc
one_lowest (suc s) zero (false ∷ bs) p q = cc
one_lowest (suc s) (suc t) (true ∷ bs) p q = cc
one_lowest (suc s) (suc t) (false ∷ bs) p q = ap suc (one_lowest s t bs p q)

no_block : (b : ℕ) (k : Backing) → is_backing_for true k ≡ true → is_block b k ≡ true → ⊥
no_block b (backing.Block d) p q = cc
no_block b _ p q = cc

module _ (l : FrameLife) (s : Sound l) (f : Frame) where
  abbrev r : Record
  r = record_at l.frames f.0

  slot_paged : (t : ℕ) (x : Bool) → IsTrue (is_on f.0 l.frames.modified && owner_is l.paging r && is_lowest t l.free_slots && x) → owner_is l.paging r ≡ true
  slot_paged t x h = last_part _ _ (first_part _ _ (first_part _ _ h))

  slot_lowest : (t : ℕ) (x : Bool) → IsTrue (is_on f.0 l.frames.modified && owner_is l.paging r && is_lowest t l.free_slots && x) → is_lowest t l.free_slots ≡ true
  slot_lowest t x h = last_part _ _ (first_part _ _ h)

  block_backed : (b : ℕ) (x : Bool) → IsTrue (r.changed && is_some r.owner && not (has_request r.request) && is_block b r.backing && x) → is_block b r.backing ≡ true
  block_backed b x h = last_part _ _ (first_part _ _ h)

  -- a page-file page is on no block
  no_both : (b : ℕ) → owner_is l.paging r ≡ true → is_block b r.backing ≡ true → ⊥
  no_both b p q =
      let owner = owner_passes l.paging r p in
      no_block b r.backing (ap (λ t. is_backing_for t r.backing) (sym owner.passes) ∙ s.homed.backing f.0 owner.key owner.is) q

  one_home : (x y : Stored) → IsLegal (move.Write f x) l → IsLegal (move.Write f y) l → y ≡ x
  one_home (stored.Slot x) (stored.Slot y) p q = let same = one_lowest y.0 x.0 l.free_slots (slot_lowest y.0 _ q) (slot_lowest x.0 _ p) in (λ i. stored.Slot (record { 0 = same i }))
  one_home (stored.Slot x) (stored.Block y) p q = absurd (no_both y.0 (slot_paged x.0 _ p) (block_backed y.0 _ q))
  one_home (stored.Block x) (stored.Slot y) p q = absurd (no_both x.0 (slot_paged y.0 _ q) (block_backed x.0 _ p))
  one_home (stored.Block x) (stored.Block y) p q = let same = one_backing x.0 y.0 r.backing (block_backed x.0 _ p) (block_backed y.0 _ q) in (λ i. stored.Block (record { 0 = same i }))

-- ---- of two moves that are due each is the other

one_found : (o : Option ℕ) (f : ℕ) → o ≡ Some f → o ≡ None → ⊥
one_found o f p q = let bad : Some f ≡ None = sym p ∙ q in cc

same_write : (l : FrameLife) (s : Sound l) (f g : Frame) (x y : Stored) → f ≡ g → IsLegal (move.Write f x) l → IsLegal (move.Write g y) l → move.Write g y ≡ move.Write f x
same_write l s f g x y e p q =
    let home = one_home l s f x y p (subst (λ (h : Frame). IsLegal (move.Write h y) l) (sym e) q) in
    (λ i. move.Write (sym e i) (home i))

module _ (a : Aim) (w : Walk) (s : Sound w.life) where
  one_sought : (m n : Move) → IsLegal m w.life → IsLegal n w.life → IsSought a w m → IsSought a w n → n ≡ m
  one_sought m n p q (SoughtByWrite f x e next) (SoughtByWrite g y d other) =
      let both : Some f.0 ≡ Some g.0 = sym next ∙ other in
      let number : f.0 ≡ g.0 = cc in
      let same : f ≡ g = (λ i. record { 0 = number i }) in
      d ∙ same_write w.life s f g x y same (subst (λ (z : Move). IsLegal z w.life) e p) (subst (λ (z : Move). IsLegal z w.life) d q) ∙ sym e
  one_sought m n p q (SoughtByWrite f x e next) (SoughtByUnmap v d acc none victim) = absurd (one_found (next_writable w) f.0 next none)
  one_sought m n p q (SoughtByUnmap v d acc none victim) (SoughtByWrite f x e next) = absurd (one_found (next_writable w) f.0 next none)
  one_sought m n p q (SoughtByUnmap u e acc none victim) (SoughtByUnmap v d ok lacks goes) =
      d ∙ ap (λ (z : Place). move.Unmap z) (one_victim w (w.life.valid a.place) u v victim goes) ∙ sym e

  one_ended : (f : Frame) (m n : Move) (xs ys : List Move) → (m ≡ move.Got f) ⊎ (m ≡ move.Bad f) → (n ≡ move.Got f) ⊎ (n ≡ move.Bad f) → AnswerAlike (outcomes (m ∷ xs)) (outcomes (n ∷ ys)) → n ≡ m
  one_ended f m n xs ys (inl p) (inl q) k = q ∙ sym p
  one_ended f m n xs ys (inr p) (inr q) k = q ∙ sym p
  one_ended f m n xs ys (inl p) (inr q) k =
      let alike = subst (λ (z : Move). AnswerAlike (outcomes (z ∷ xs)) (outcomes (move.Bad f ∷ ys))) p (subst (λ (z : Move). AnswerAlike (outcomes (m ∷ xs)) (outcomes (z ∷ ys))) q k) in
      let bad : true ≡ false = alike.0 in cc
  one_ended f m n xs ys (inr p) (inl q) k =
      let alike = subst (λ (z : Move). AnswerAlike (outcomes (z ∷ xs)) (outcomes (move.Got f ∷ ys))) p (subst (λ (z : Move). AnswerAlike (outcomes (m ∷ xs)) (outcomes (z ∷ ys))) q k) in
      let bad : false ≡ true = alike.0 in cc

  one_due : (d : Due) (m n : Move) (xs ys : List Move) → IsLegal m w.life → IsLegal n w.life → IsDue d a w m → IsDue d a w n → AnswerAlike (outcomes (m ∷ xs)) (outcomes (n ∷ ys)) → n ≡ m
  one_due Nothing m n xs ys p q x y k = absurd x
  one_due (TheMove o) m n xs ys p q x y k = y ∙ sym x
  one_due (EndsRead f) m n xs ys p q x y k = one_ended f m n xs ys x y k
  one_due MakesRoom m n xs ys p q x y k =
      let same : x.0.pid.0 ≡ y.0.pid.0 = ap (λ (z : Pid). z.0) (x.2 ∙ sym y.2) in
      y.1 ∙ ap (λ (z : Place). move.Unmap z) (one_oldest w None x.0 y.0 same x.3 y.3) ∙ sym x.1
  one_due Seeks m n xs ys p q x y k = one_sought m n p q x y

-- ---- where an access is over

pinned : (pin : Option Frame) (f : Frame) → pin ≡ Some f → is_unpinned pin (Some f) ≡ true → ⊥
pinned pin f e h =
    not_both (is_unpinned pin (Some f)) h (ap (λ (o : Option Frame). is_unpinned o (Some f)) e ∙ ap not (same_number f.0))

-- what its answer says of the state: it was served, no frame was found, or its thread is held up
pub data IsOver (a : Aim) (w : Walk) : Type 0 where
  OverServed : IsServed a w.life → IsOver a w
  OverStarved : is_shortage a.need a.place w.life ≡ true → Starved (w.life.valid a.place) w → IsOver a w
  OverWaiting : is_thread w.life.kind ≡ true → (why : Why) → IsHeldUp why a w.life → IsOver a w

-- what is known of an access: its copy, which its write makes, is a private page
pub record IsAim (a : Aim) : Type 0 where
  pub own : (k : Key) → a.need.copy ≡ Some k → is_shared k ≡ false
  pub writes : (k : Key) → a.need.copy ≡ Some k → a.writes ≡ true

unsoiled_not : (r : Record) (k : Key) → IsSoiledFor k r → is_unsoiled r ≡ false
unsoiled_not r k h = by r.changed h.changed (is_write r.request) (is_again r.request) (has_request r.request) h.again
  where
    by : (c : Bool) → c ≡ true → (w g q : Bool) → (w ≡ true → g ≡ true) → ((not c && not q) || (w && not g)) ≡ false
    by true e false g q u = refl
    by true e true true q u = refl
    by true e true false q u = let bad : false ≡ true = u refl in cc
    by false e w g q u = cc

-- a page is read into the first frame that is free
record ReadsFirst (k : Key) (free : List ℕ) (f : ℕ) : Type 0 where
  first : ℕ
  is : (zs ss : List ℕ) → with_free k (free ++ f ∷ []) zs ss ≡ TheMove (move.Read (frame_of first) k)

reads_first : (k : Key) (free : List ℕ) (f : ℕ) → ReadsFirst k free f
reads_first k [] f = record { first = f; is = λ zs ss. refl }
reads_first k (x ∷ xs) f = record { first = x; is = λ zs ss. refl }

module _ (a : Aim) (is : IsAim a) (w : Walk) (here : InAccess AnyMove a w.life) where
  -- nothing is due of an access that was served
  served_due : IsServed a w.life → due a w.life ≡ Nothing
  served_due s =
      let there = some_found (w.life.valid a.place) s.valid in
      ap (due_at a w.life) there.1 ∙ by there.0 there.1 a.need.copy refl
    where
      unwritten : (f : Frame) → w.life.valid a.place ≡ Some f → (b : Bool) → a.writes ≡ b → due_mapped a w.life f ≡ Nothing
      unwritten f e false r = ap (λ b. cond (b && is_unsoiled (record_at w.life.frames f.0)) (TheMove (move.Soil f)) Nothing) r
      unwritten f e true r =
          ap (λ b. cond (b && is_unsoiled (record_at w.life.frames f.0)) (TheMove (move.Soil f)) Nothing) r
          ∙ ap (λ b. cond b (TheMove (move.Soil f)) Nothing) (unsoiled_not (record_at w.life.frames f.0) (key_written a.need) (s.soiled r f e))

      by : (f : Frame) → w.life.valid a.place ≡ Some f → (o : Option Key) → a.need.copy ≡ o → due_of a w.life f o ≡ Nothing
      by f e None c = unwritten f e a.writes refl
      by f e (Some k) c =
          let owner : (record_at w.life.frames f.0).owner ≡ Some k = (s.soiled (is.writes k c) f e).owner ∙ ap (λ (o : Option Key). Some (unwrap_or o a.need.key)) c in
          let private : owner_is is_shared (record_at w.life.frames f.0) ≡ false = ap (λ (o : Option Key). unwrap_or (option_map is_shared o) false) owner ∙ is.own k c in
          ap (due_copy a w.life f k) (here.sound.owned.owned f.0 k owner) ∙ ap (λ b. cond b (TheMove (move.Unmap a.place)) (due_mapped a w.life f)) private ∙ unwritten f e a.writes refl

  module _ (m : Move) (rest : List Move) (c : FrameLife) (h : AccessMove a w m rest) (legal : IsLegal m w.life) (t : Through (AccessMove a) (walked w m) rest) (r : Replays rest (after_move w.life m) c) where
    due_now : IsDue (due a w.life) a w m
    due_now = move_due a is.own w here m rest c h legal t r

    starved_not : Starved (w.life.valid a.place) w → IsSought a w m → ⊥
    starved_not s (SoughtByWrite f x e next) = one_found (next_writable w) f.0 next s.tried
    starved_not s (SoughtByUnmap p e acc none victim) = by (w.life.valid p) refl
      where
        by : (o : Option Frame) → w.life.valid p ≡ o → ⊥
        by None v = let bad : false ≡ true = sym (ap (is_unpinned (w.life.valid a.place)) v) ∙ victim.oldest.goes in cc
        by (Some f) v = pinned (w.life.valid a.place) f (s.only p f v) (sym (ap (is_unpinned (w.life.valid a.place)) v) ∙ victim.oldest.goes)

    no_end : is_thread w.life.kind ≡ true → (x : Bool) → IsTrue (x && (is_io w.life.kind || is_access w.life.kind)) → ⊥
    no_end thread x l = by (is_io w.life.kind) (is_access w.life.kind) (touch_not_io w.life.kind here.touch) (thread_not_access w.life.kind thread) (last_part _ _ l)
      where
        by : (i q : Bool) → i ≡ false → q ≡ false → (i || q) ≡ true → ⊥
        by false false d e z = cc
        by true q d e z = cc
        by false true d e z = cc

    thread_not_sought : is_thread w.life.kind ≡ true → IsSought a w m → ⊥
    thread_not_sought thread (SoughtByUnmap p e acc none victim) = not_both (is_access w.life.kind) acc (thread_not_access w.life.kind thread)
    thread_not_sought thread (SoughtByWrite f x e next) = no_write f x (subst (λ (z : Move). IsLegal z w.life) e legal)
      where
        none : (u i q d : Bool) → i ≡ false → q ≡ false → (u && (i || (q && d))) ≡ true → ⊥
        none true false false d e f z = cc
        none false i q d e f z = cc
        none true true q d e f z = cc
        none true false true d e f z = cc

        none_block : (u o i q d k : Bool) → i ≡ false → q ≡ false → k ≡ false → (u && (((o && i) || (o && q && d)) || k)) ≡ true → ⊥
        none_block true true false false d false e f g z = cc
        none_block true false false false d false e f g z = cc
        none_block false o i q d k e f g z = cc
        none_block u o true q d k e f g z = cc
        none_block u o i true d k e f g z = cc
        none_block u o i q d true e f g z = cc

        no_write : (f : Frame) (x : Stored) → IsLegal (move.Write f x) w.life → ⊥
        no_write f (stored.Slot x) l = none _ (is_access w.life.kind) (is_writer w.life.kind) (has_depth w.life) (thread_not_access w.life.kind thread) (touch_not_writer w.life.kind here.touch) l
        no_write f (stored.Block b) l = none_block _ (is_on f.0 w.life.frames.modified) (is_access w.life.kind) (is_writer w.life.kind) (has_depth w.life) (is_call w.life.kind) (thread_not_access w.life.kind thread) (touch_not_writer w.life.kind here.touch) (touch_not_call w.life.kind here.touch) l

    -- nothing is due but the end of the read for which the thread waits
    read_waits : is_thread w.life.kind ≡ true → w.life.valid a.place ≡ None → (at : Held) → w.life.stands a.need.key ≡ at → is_read_in_flight w.life at ≡ true → ⊥
    read_waits thread none (held.Frame f) e reading =
        elim (subst (λ (d : Due). IsDue d a w m) (ap (due_at a w.life) none ∙ ap (due_unmapped a w.life) e ∙ ap (λ b. cond b (EndsRead f) (due_map a w.life f)) reading) due_now) [
          | inl got ↦ no_end thread _ (subst (λ (z : Move). IsLegal z w.life) got legal)
          | inr bad ↦ no_end thread _ (subst (λ (z : Move). IsLegal z w.life) bad legal)
        ]
    read_waits thread none _ e reading = cc

  -- no request begins, as many as the depth are in flight
  no_read : (l : FrameLife) (f : Frame) (k : Key) → is_access l.kind ≡ false → has_depth l ≡ false → IsLegal (move.Read f k) l → ⊥
  no_read l f k plain full legal = by (is_access l.kind) (is_thread l.kind) (has_depth l) plain full (last_part _ _ legal)
    where
      by : (i u d : Bool) → i ≡ false → d ≡ false → (i || (u && d)) ≡ true → ⊥
      by true u d e g z = cc
      by false u true e g z = cc
      by false true false e g z = cc
      by false false false e g z = cc

  still_stored : (s : Sound w.life) (f : Frame) (k : Key) → is_stored (w.life.stands k) ≡ true → (o : Option Key) (b : Backing) → (record_at w.life.frames f.0).owner ≡ o → is_stored (homed w.life o b k) ≡ true
  still_stored s f k h None b e = h
  still_stored s f k h (Some q) b e = by (same_key k q) refl
    where
      by : (t : Bool) → same_key k q ≡ t → is_stored (if t then home_at b else w.life.stands k) ≡ true
      by false n = h
      by true n =
          let framed : w.life.stands k ≡ held.Frame (record { 0 = f.0 }) = ap (λ (x : Key). w.life.stands x) (same_key-true k q n) ∙ s.owned.owned f.0 q e in
          let bad : false ≡ true = sym (ap is_stored framed) ∙ h in cc

  stolen_then : (f : Frame) (rest : List Move) (c : FrameLife) → is_access w.life.kind ≡ false → w.life.valid a.place ≡ None → is_stored (w.life.stands a.need.key) ≡ true → has_depth w.life ≡ false
      → AccessMove a w (move.Steal f) rest → IsLegal (move.Steal f) w.life → Through (AccessMove a) (walked w (move.Steal f)) rest → Replays rest (after_move w.life (move.Steal f)) c → ⊥
  stolen_then f [] c plain none stored full h legal t r = h.1
  stolen_then f (x ∷ rest) c plain none stored full h legal t r =
      let v = walked w (move.Steal f) in
      let after = after_steal a w (x ∷ rest) here f h legal in
      let d = move_due a is.own (walked w (move.Steal f)) after x rest c t.0 r.0 t.1 r.1 in
      let kept = still_stored here.sound f a.need.key stored (record_at w.life.frames f.0).owner (record_at w.life.frames f.0).backing refl in
      let first = reads_first a.need.key w.life.frames.free f.0 in
      let due_read = ap (due_at a (after_move w.life (move.Steal f))) none ∙ read_of ((after_move w.life (move.Steal f)).stands a.need.key) kept first in
      let reads = subst (λ (e : Due). IsDue e a (walked w (move.Steal f)) x) due_read d in
      no_read (after_move w.life (move.Steal f)) (frame_of first.first) a.need.key plain full (subst (λ (z : Move). IsLegal z (after_move w.life (move.Steal f))) reads r.0)
    where
      read_of : (at : Held) → is_stored at ≡ true → (first : ReadsFirst a.need.key w.life.frames.free f.0) → due_unmapped a (after_move w.life (move.Steal f)) at ≡ TheMove (move.Read (frame_of first.first) a.need.key)
      read_of (held.Slot s) e first = first.is (after_move w.life (move.Steal f)).frames.zeroed (after_move w.life (move.Steal f)).frames.standby
      read_of (held.Block b) e first = first.is (after_move w.life (move.Steal f)).frames.zeroed (after_move w.life (move.Steal f)).frames.standby
      read_of _ e first = cc

  module _ (m : Move) (rest : List Move) (c : FrameLife) (h : AccessMove a w m rest) (legal : IsLegal m w.life) (t : Through (AccessMove a) (walked w m) rest) (r : Replays rest (after_move w.life m) c) where
    full_waits : is_thread w.life.kind ≡ true → w.life.valid a.place ≡ None → has_depth w.life ≡ false → is_stored (w.life.stands a.need.key) ≡ true → ⊥
    full_waits thread none full stored =
        by_lists w.life.frames.free w.life.frames.zeroed w.life.frames.standby
        (subst (λ (d : Due). IsDue d a w m) (ap (due_at a w.life) none ∙ by_held (w.life.stands a.need.key) stored) (due_now m rest c h legal t r))
      where
        plain : is_access w.life.kind ≡ false
        plain = thread_not_access w.life.kind thread

        by_held : (at : Held) → is_stored at ≡ true → due_unmapped a w.life at ≡ with_free a.need.key w.life.frames.free w.life.frames.zeroed w.life.frames.standby
        by_held (held.Slot s) e = refl
        by_held (held.Block b) e = refl
        by_held _ e = cc

        by_lists : (fs zs ss : List ℕ) → IsDue (with_free a.need.key fs zs ss) a w m → ⊥
        by_lists (f ∷ fs) zs ss e = no_read w.life (frame_of f) a.need.key plain full (subst (λ (z : Move). IsLegal z w.life) e legal)
        by_lists [] (z ∷ zs) ss e = no_read w.life (frame_of z) a.need.key plain full (subst (λ (z : Move). IsLegal z w.life) e legal)
        by_lists [] [] (s ∷ ss) e =
            stolen_then (frame_of s) rest c plain none stored full
            (subst (λ (z : Move). AccessMove a w z rest) e h) (subst (λ (z : Move). IsLegal z w.life) e legal)
            (subst (λ (z : Move). Through (AccessMove a) (walked w z) rest) e t) (subst (λ (z : Move). Replays rest (after_move w.life z) c) e r)
        by_lists [] [] [] e = thread_not_sought m rest c h legal t r thread e

    -- where an access is over, it makes no more moves
    pub no_move : IsOver a w → ⊥
    no_move (OverServed s) = subst (λ (d : Due). IsDue d a w m) (served_due s) (due_now m rest c h legal t r)
    no_move (OverStarved short s) = starved_not m rest c h legal t r s (subst (λ (d : Due). IsDue d a w m) (seeking a is.own w here short) (due_now m rest c h legal t r))
    no_move (OverWaiting thread why.Read u) = read_waits m rest c h legal t r thread u.0 (w.life.stands a.need.key) refl u.1
    no_move (OverWaiting thread why.Full u) = full_waits thread u.0 u.2 u.1
    no_move (OverWaiting thread why.Frame u) = thread_not_sought m rest c h legal t r thread (subst (λ (d : Due). IsDue d a w m) (seeking a is.own w here u) (due_now m rest c h legal t r))

-- ---- two lists

-- what is left of an access: whether its read fails is told, and where it does not, it is over behind these moves
pub record Going (a : Aim) (failed : Bool) (w : Walk) (moves : List Move) (c : FrameLife) : Type 0 where
  pub each : Through (AccessMove a) w moves
  pub replays : Replays moves w.life c
  pub fails : ReadFails failed moves
  pub over : failed ≡ false → IsOver a (walked_all w moves)

abbrev Follows : Then → Aim → List Move → Type 0
Follows AnyMove a ms = Unit {0}
Follows (EndsWrite f) a ms = IsWriteEnded f ms
Follows MapsCopy a ms = IsMapped a.place ms

fails_tail : (failed : Bool) (m : Move) (ms : List Move) → ReadFails failed (m ∷ ms) → ((f : Frame) × (m ≡ move.Bad f)) ⊎ ReadFails failed ms
fails_tail failed (move.Bad f) ms h = inl (f, refl)
fails_tail failed _ ms h = inr h

ends_there : (failed : Bool) (m : Move) (ms : List Move) (f : Frame) → m ≡ move.Bad f → ReadFails failed (m ∷ ms) → ms ≡ []
ends_there failed m ms f e h = (subst (λ (z : Move). ReadFails failed (z ∷ ms)) e h).1

alike_tail : (m : Move) (xs ys : List Move) → AnswerAlike (outcomes (m ∷ xs)) (outcomes (m ∷ ys)) → AnswerAlike (outcomes xs) (outcomes ys)
alike_tail (move.Got f) xs ys k = k.1
alike_tail (move.Bad f) xs ys k = k.1
alike_tail (move.Wrote f) xs ys k = k.1
alike_tail (move.Lost f) xs ys k = k.1
alike_tail _ xs ys k = k

one_written : (f : Frame) (m n : Move) (xs ys : List Move) → (m ≡ move.Wrote f) ⊎ (m ≡ move.Lost f) → (n ≡ move.Wrote f) ⊎ (n ≡ move.Lost f) → AnswerAlike (outcomes (m ∷ xs)) (outcomes (n ∷ ys)) → n ≡ m
one_written f m n xs ys (inl p) (inl q) k = q ∙ sym p
one_written f m n xs ys (inr p) (inr q) k = q ∙ sym p
one_written f m n xs ys (inl p) (inr q) k =
    let alike = subst (λ (z : Move). AnswerAlike (outcomes (z ∷ xs)) (outcomes (move.Lost f ∷ ys))) p (subst (λ (z : Move). AnswerAlike (outcomes (m ∷ xs)) (outcomes (z ∷ ys))) q k) in
    let bad : true ≡ false = alike.0 in cc
one_written f m n xs ys (inr p) (inl q) k =
    let alike = subst (λ (z : Move). AnswerAlike (outcomes (z ∷ xs)) (outcomes (move.Wrote f ∷ ys))) p (subst (λ (z : Move). AnswerAlike (outcomes (m ∷ xs)) (outcomes (z ∷ ys))) q k) in
    let bad : false ≡ true = alike.0 in cc

-- the state behind a move, and what it asks of the moves behind it
record Next (a : Aim) (w : Walk) (x : Move) (xs ys : List Move) : Type 0 where
  asks : Then
  here : InAccess asks a (after_move w.life x)
  first : Follows asks a xs
  second : Follows asks a ys

module _ (a : Aim) (is : IsAim a) where
  -- of two moves at one state each is the other
  one_next : (t : Then) (w : Walk) (p q : Bool) (c d : FrameLife) (x y : Move) (xs ys : List Move) → InAccess t a w.life → Follows t a (x ∷ xs) → Follows t a (y ∷ ys) → Going a p w (x ∷ xs) c → Going a q w (y ∷ ys) d → AnswerAlike (outcomes (x ∷ xs)) (outcomes (y ∷ ys)) → y ≡ x
  one_next AnyMove w p q c d x y xs ys here u v first second k =
      one_due a w here.sound (due a w.life) x y xs ys first.replays.0 second.replays.0
      (move_due a is.own w here x xs c first.each.0 first.replays.0 first.each.1 first.replays.1)
      (move_due a is.own w here y ys d second.each.0 second.replays.0 second.each.1 second.replays.1) k
  one_next (EndsWrite f) w p q c d x y xs ys here u v first second k = one_written f x y xs ys u v k
  one_next MapsCopy w p q c d x y xs ys here u v first second k =
      let one = subst (λ (z : Move). AccessMove a w z xs) u.1 first.each.0 in
      let other = subst (λ (z : Move). AccessMove a w z ys) v.1 second.each.0 in
      let both : held.Frame u.0 ≡ held.Frame v.0 = sym (here.sound.owned.owned u.0.0 (key_shown a.need w.life) one.1) ∙ here.sound.owned.owned v.0.0 (key_shown a.need w.life) other.1 in
      let same : u.0 ≡ v.0 = cc in
      v.1 ∙ ap (λ (f : Frame). move.Map f a.place) (sym same) ∙ sym u.1

  any_next : (w : Walk) (x : Move) (xs ys : List Move) → InAccess AnyMove a (after_move w.life x) → Next a w x xs ys
  any_next w x xs ys h = record { asks = AnyMove; here = h; first = tt; second = tt }

  copy_maps : (w : Walk) (p : Place) (rest : List Move) → InAccess AnyMove a w.life → is_copied a.need w.life ≡ true → PageGoes a w p rest → IsMapped a.place rest
  copy_maps w p rest here copied (ByCopy e c shows next) = next
  copy_maps w p rest here copied (FromFull q none full old next) = next
  copy_maps w p rest here copied (InShortage acc short none victim) = by (w.life.valid a.place) refl
    where
      by : (o : Option Frame) → w.life.valid a.place ≡ o → IsMapped a.place rest
      by None e = absurd (not_both (is_copied a.need w.life) copied (here.copied e))
      by (Some g) e =
          let lacks = wants_mapped a.need a.place w.life g e (last_part _ _ short) in
          absurd (not_both (is_copied a.need w.life) copied (copied_is a.need w.life lacks.key lacks.is ∙ ap (λ (h : Held). not (is_dead h)) lacks.dead))

  unmap_next : (w : Walk) (p : Place) (xs ys : List Move) → InAccess AnyMove a w.life → PageGoes a w p xs → PageGoes a w p ys → IsLegal (move.Unmap p) w.life → Next a w (move.Unmap p) xs ys
  unmap_next w p xs ys here h g legal = by (is_copied a.need w.life) refl
    where
      by : (b : Bool) → is_copied a.need w.life ≡ b → Next a w (move.Unmap p) xs ys
      by true e = record { asks = MapsCopy; here = before_copy a w xs here p h legal; first = copy_maps w p xs here e h; second = copy_maps w p ys here e g }
      by false e = any_next w (move.Unmap p) xs ys (after_unmap a w xs here p e h legal)

  next_any : (w : Walk) (x : Move) (xs ys : List Move) → InAccess AnyMove a w.life → AccessMove a w x xs → AccessMove a w x ys → IsLegal x w.life → Next a w x xs ys
  next_any w (move.At n k) xs ys here h g legal = absurd h
  next_any w (move.Add k None) xs ys here h g legal = any_next w (move.Add k None) xs ys (after_add a w xs here k h legal)
  next_any w (move.Add k (Some b)) xs ys here h g legal = absurd h
  next_any w (move.Drop k) xs ys here h g legal = absurd h
  next_any w (move.Clear f) xs ys here h g legal = any_next w (move.Clear f) xs ys (after_clear a w xs here f h legal)
  next_any w (move.Steal f) xs ys here h g legal = any_next w (move.Steal f) xs ys (after_steal a w xs here f h legal)
  next_any w (move.Give f k) xs ys here h g legal = any_next w (move.Give f k) xs ys (after_give a w xs here f k h legal)
  next_any w (move.Read f k) xs ys here h g legal = any_next w (move.Read f k) xs ys (after_read a w xs here f k h legal)
  next_any w (move.Got f) xs ys here h g legal = any_next w (move.Got f) xs ys (after_got a w xs here f h legal)
  next_any w (move.Bad f) xs ys here h g legal = any_next w (move.Bad f) xs ys (after_bad a w xs here f h legal)
  next_any w (move.Map f p) xs ys here h g legal = any_next w (move.Map f p) xs ys (after_map a w xs AnyMove here (λ n e. e) f p h legal)
  next_any w (move.Unmap p) xs ys here h g legal = unmap_next w p xs ys here h g legal
  next_any w (move.Soil f) xs ys here h g legal = any_next w (move.Soil f) xs ys (after_soil a w xs here f h legal)
  next_any w (move.Write f s) xs ys here h g legal = record { asks = EndsWrite f; here = after_write a w xs here f s h legal; first = h.2; second = g.2 }
  next_any w (move.Wrote f) xs ys here h g legal = absurd (none_ends a is.own w here f (first_part _ _ legal) h)
  next_any w (move.Lost f) xs ys here h g legal = absurd (none_ends a is.own w here f (first_part _ _ legal) h)

  next_of : (t : Then) (w : Walk) (x : Move) (xs ys : List Move) → InAccess t a w.life → Follows t a (x ∷ xs) → AccessMove a w x xs → AccessMove a w x ys → IsLegal x w.life → Next a w x xs ys
  next_of AnyMove w x xs ys here u h g legal = next_any w x xs ys here h g legal
  next_of (EndsWrite f) w x xs ys here (inl e) h g legal =
      subst (λ (z : Move). Next a w z xs ys) (sym e)
      (any_next w (move.Wrote f) xs ys (after_wrote a w xs f here (subst (λ (z : Move). AccessMove a w z xs) e h) (subst (λ (z : Move). IsLegal z w.life) e legal)))
  next_of (EndsWrite f) w x xs ys here (inr e) h g legal =
      subst (λ (z : Move). Next a w z xs ys) (sym e)
      (any_next w (move.Lost f) xs ys (after_lost a w xs f here (subst (λ (z : Move). AccessMove a w z xs) e h) (subst (λ (z : Move). IsLegal z w.life) e legal)))
  next_of MapsCopy w x xs ys here u h g legal =
      subst (λ (z : Move). Next a w z xs ys) (sym u.1)
      (any_next w (move.Map u.0 a.place) xs ys (after_map a w xs MapsCopy here (λ n e. e) u.0 a.place (subst (λ (z : Move). AccessMove a w z xs) u.1 h) (subst (λ (z : Move). IsLegal z w.life) u.1 legal)))

  behind : (failed : Bool) (w : Walk) (x : Move) (xs : List Move) (c : FrameLife) → Going a failed w (x ∷ xs) c → ReadFails failed xs → Going a failed (walked w x) xs c
  behind failed w x xs c g f = record { each = g.each.1; replays = g.replays.1; fails = f; over = g.over }

  pub one_list : (xs ys : List Move) (t : Then) (w : Walk) (p q : Bool) (c d : FrameLife) → InAccess t a w.life → Follows t a xs → Follows t a ys → Going a p w xs c → Going a q w ys d → AnswerAlike (outcomes xs) (outcomes ys) → ys ≡ xs
  one_list [] [] t w p q c d here u v first second k = refl
  one_list [] (y ∷ ys) AnyMove w p q c d here u v first second k =
      absurd (no_move a is w here y ys d second.each.0 second.replays.0 second.each.1 second.replays.1 (first.over first.fails))
  one_list [] (y ∷ ys) (EndsWrite f) w p q c d here u v first second k = absurd u
  one_list [] (y ∷ ys) MapsCopy w p q c d here u v first second k = absurd u
  one_list (x ∷ xs) [] AnyMove w p q c d here u v first second k =
      absurd (no_move a is w here x xs c first.each.0 first.replays.0 first.each.1 first.replays.1 (second.over second.fails))
  one_list (x ∷ xs) [] (EndsWrite f) w p q c d here u v first second k = absurd v
  one_list (x ∷ xs) [] MapsCopy w p q c d here u v first second k = absurd v
  one_list (x ∷ xs) (y ∷ ys) t w p q c d here u v first second k =
      let same : y ≡ x = one_next t w p q c d x y xs ys here u v first second k in
      let other : Going a q w (x ∷ ys) d = subst (λ (z : Move). Going a q w (z ∷ ys) d) same second in
      let alike : AnswerAlike (outcomes (x ∷ xs)) (outcomes (x ∷ ys)) = subst (λ (z : Move). AnswerAlike (outcomes (x ∷ xs)) (outcomes (z ∷ ys))) same k in
      let next = next_of t w x xs ys here u first.each.0 other.each.0 first.replays.0 in
      let both_end : (f : Frame) → x ≡ move.Bad f → ys ≡ xs = λ f e. ends_there q x ys f e other.fails ∙ sym (ends_there p x xs f e first.fails) in
      let rest : ys ≡ xs = elim (fails_tail p x xs first.fails) [
        | inl b ↦ both_end b.0 b.1
        | inr f ↦ elim (fails_tail q x ys other.fails) [
          | inl b ↦ both_end b.0 b.1
          | inr g ↦ one_list xs ys next.asks (walked w x) p q c d next.here next.first next.second (behind p w x xs c first f) (behind q w x ys d other g) (alike_tail x xs ys alike)
        ]
      ] in
      (λ i. same i ∷ rest i)
