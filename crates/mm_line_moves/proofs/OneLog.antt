-- A line has one log: pages that go oldest first, requests that end, pages that come to be or go.
use Rattle.std.proofs.Common.{◌≡◌, ◌≤◌, ◌<◌, ◌^◌, ℕ, ◌+◌, Bool, true, false, cond, List, [], ◌∷◌, ◌++◌, map, Option, Some, None, refl, sym, ap, ◌∙◌, subst, inl, inr, arith}
use Rattle.std.proofs.lemmas.Bool.{eqb-true, cases_lt}
use Rattle.std.specs.Prelude.{IsTrue, not, ◌==◌, is_some, length}
use Rattle.mm_types.proofs.{not_left, not_third, same_number}
use Rattle.mm_move_rules.proofs.{same_key-self, same_key-true}
use Rattle.mm_types.specs.{Answer, Event, Held, Move, Block, Key, Pid, Place, Frame}
use Rattle.mm_types.specs.declared.answers.Answer.TheVariants as answer
use Rattle.mm_types.specs.declared.events.Event.TheVariants as line
use Rattle.mm_types.specs.declared.frames.Held.TheVariants as held
use Rattle.mm_types.specs.declared.moves.Move.TheVariants as move
use Rattle.mm_move_rules.specs.{record_at, FrameLife, is_live, is_dead, same_key, is_shared, is_call, is_legal_add, after_add, Replays}
use Rattle.mm_move_rules.specs.{TrimMove, ages_through, ending, frame_of, Walk, walked, Through}
use Rattle.mm_world.specs.{ReadOf, WriteOf, Execute, address_in, attempt_in, kept_by}
use Rattle.mm_world.specs.World.{World}
use Rattle.mm_store.specs.Behind.{Behind}
use Rattle.mm_store.specs.{Makes, MakesStack, Turned, AllTurn, key_number, numbers_made, Climbs, IsStack, guard_told, Completes}
use Rattle.mm_store.specs.{backed_by, block_at}
use Rattle.mm_line_moves.specs.{lives, GivesUp, Trimming, Completing, flushed_keys, is_uncommitted, AnsweredAlike, Did}
use Rattle.mm_line_moves.specs.{StandsAlike, StandsAlways, StandsBefore}
use Rattle.mm_line_moves.proofs.AgesAlike.{did_aged}
use Rattle.mm_line_moves.proofs.OneEnding.{one_end_log}
use Rattle.mm_line_moves.proofs.OneFlush.{flushed}
use Rattle.mm_line_moves.proofs.OneAccess.{one_oldest}
use Rattle.mm_line_moves.proofs.OneAccessLine.{begun_line, beside, plain_line, resumed_line}

-- ---- pages that go oldest first

trims_one : (pid : Pid) (w : Walk) (xs ys : List Move) → length xs ≡ length ys → Through (TrimMove pid) w xs → Through (TrimMove pid) w ys → ys ≡ xs
trims_one pid w [] [] n p q = refl
trims_one pid w [] (y ∷ ys) n p q = absurd (omega (arith, n))
trims_one pid w (x ∷ xs) [] n p q = absurd (omega (arith, n))
trims_one pid w (move.Unmap a ∷ xs) (move.Unmap b ∷ ys) n p q =
    let same = one_oldest w None a b (ap (λ (x : Pid). x.0) (p.0.0 ∙ sym q.0.0)) p.0.2 q.0.2 in
    let rest = trims_one pid (walked w (move.Unmap a)) xs ys (omega (arith, n)) p.1 (subst (λ (z : Place). Through (TrimMove pid) (walked w (move.Unmap z)) ys) same q.1) in
    (λ i. move.Unmap (same i) ∷ rest i)
trims_one pid w (move.Unmap a ∷ xs) (_ ∷ ys) n p q = absurd q.0
trims_one pid w (_ ∷ xs) (y ∷ ys) n p q = absurd p.0

trimmed : (there : Bool) (pid : Pid) (n : ℕ) (b o c d : Behind) (xs ys : List Move) → Trimming there pid n b xs c → Trimming there pid n (beside b o) ys d → ys ≡ xs
trimmed true pid n b o c d xs ys p q = trims_one pid (record { life = b.life; ages = b.ages; tried = [] }) xs ys (p.count ∙ sym q.count) p.each q.each
trimmed false pid n b o c d xs ys p q = q ∙ sym p

-- ---- a request that ends

completed : (i : ℕ) (ok : Bool) (b o c d : Behind) (xs ys : List Move) → Completes i ok b xs c → Completes i ok (beside b o) ys d → ys ≡ xs
completed i ok b o c d xs ys p q =
    let both : Some q.frame ≡ Some p.frame = sym q.found ∙ p.found in
    let same : q.frame ≡ p.frame = cc in
    q.one ∙ ap (λ (f : ℕ). ending (record_at b.life.frames f) (frame_of f) ok ∷ []) same ∙ sym p.one

ended : (i : ℕ) (a : Answer) (b o c d : Behind) (xs ys : List Move) → Completing i a b xs c → Completing i a (beside b o) ys d → ys ≡ xs
ended i answer.Ok b o c d xs ys p q = completed i true b o c d xs ys p q
ended i answer.Fault b o c d xs ys p q = completed i false b o c d xs ys p q
ended i _ b o c d xs ys p q = q ∙ sym p

-- ---- pages that come to be

-- where a page that came to be stands
abbrev made_at : Option Block → Held
made_at None = held.Zero
made_at (Some b) = held.Block b

stands_add : (l : FrameLife) (k q : Key) (b : Option Block) → (after_add l k b).stands q ≡ cond (same_key q k) (made_at b) (l.stands q)
stands_add l k q None = refl
stands_add l k q (Some b) = refl

dead_before : (l : FrameLife) (k : Key) (b : Option Block) → IsTrue (is_legal_add l k b) → is_live l k ≡ false
dead_before l k None h = not_left (is_live l k) _ _ h
dead_before l k (Some b) h = not_third (is_call l.kind) (is_shared k) (is_live l k) _ _ h

made_lives : (b : Option Block) → is_dead (made_at b) ≡ false
made_lives None = refl
made_lives (Some b) = refl

lives_at : (l : FrameLife) (k : Key) (b : Option Block) → l.stands k ≡ made_at b → is_live l k ≡ true
lives_at l k b e = ap (λ (h : Held). not (is_dead h)) e ∙ ap not (made_lives b)

-- what two runs leave alike: which keys live, and their blocks
record Alike (m n : FrameLife) : Type 0 where
  live : (k : Key) → is_live m k ≡ is_live n k
  blocks : (k : Key) → block_at (backed_by m (m.stands k)) ≡ block_at (backed_by n (n.stands k))

alike_back : (m n : FrameLife) → Alike m n → Alike n m
alike_back m n h = record { live = λ k. sym (h.live k); blocks = λ k. sym (h.blocks k) }

abbrev number_in : Option Block → Option ℕ
number_in None = None
number_in (Some b) = Some b.0

block_of_made : (l : FrameLife) (b : Option Block) → block_at (backed_by l (made_at b)) ≡ number_in b
block_of_made l None = refl
block_of_made l (Some b) = refl

one_block : (b e : Option Block) → number_in e ≡ number_in b → e ≡ b
one_block None None h = refl
one_block (Some b) (Some e) h = let same : e.0 ≡ b.0 = cc in (λ i. Some (record { 0 = same i }))
one_block _ _ h = cc

one_made : (l m n : FrameLife) (k : Key) (b e : Option Block) → Alike m n → m.stands k ≡ made_at b → n.stands k ≡ made_at e → e ≡ b
one_made l m n k b e alike p q =
    one_block b e
    (sym (block_of_made n e) ∙ ap (λ (h : Held). block_at (backed_by n h)) (sym q) ∙ sym (alike.blocks k) ∙ ap (λ (h : Held). block_at (backed_by m h)) p ∙ block_of_made m b)

-- pages come to be in rising order of what their numbers are ranked by
module _ (rank : ℕ → ℕ) where
  abbrev ranks : List Move → List ℕ
  ranks ms = map rank (numbers_made ms)

  other_number : (k q : Key) (b : Bool) → same_key q k ≡ b → rank (key_number q) < rank (key_number k) → b ≡ false
  other_number k q true e h = let same : rank (key_number q) ≡ rank (key_number k) = ap (λ (x : Key). rank (key_number x)) (same_key-true q k e) in absurd (omega (arith, same, h))
  other_number k q false e h = refl

  -- pages of greater numbers leave a key where it stands
  untouched : (ms : List Move) (l m : FrameLife) (from to : ℕ) (q : Key) → AllTurn Makes ms → Climbs from to (ranks ms) → Replays ms l m → rank (key_number q) < from → m.stands q ≡ l.stands q
  untouched [] l m from to q a c r h = ap (λ (x : FrameLife). x.stands q) r
  untouched (move.Add k b ∷ ms) l m from to q a c r h =
      let less : rank (key_number q) < rank (key_number k) = omega (arith, c.0, h) in
      untouched ms (after_add l k b) m (rank (key_number k) + 1) to q a.1 c.2 r.1 (omega (arith, less))
      ∙ stands_add l k q b ∙ ap (λ (x : Bool). cond x (made_at b) (l.stands q)) (other_number k q (same_key q k) refl less)
  untouched (_ ∷ ms) l m from to q a c r h = let bad = a.0 in cc

  -- the first of them lives at the end, where it came to be
  made_stands : (ms : List Move) (l m : FrameLife) (to : ℕ) (k : Key) (b : Option Block) → AllTurn Makes ms → Climbs (rank (key_number k) + 1) to (ranks ms) → Replays ms (after_add l k b) m → m.stands k ≡ made_at b
  made_stands ms l m to k b a c r = untouched ms (after_add l k b) m (rank (key_number k) + 1) to k a c r (omega arith) ∙ stands_add l k k b ∙ ap (λ (x : Bool). cond x (made_at b) (l.stands k)) (same_key-self k)

  -- a key that did not live, and comes to be in one run, does in the other
  comes_in_both : (xs ys : List Move) (l m n : FrameLife) (from to high : ℕ) (k : Key) (b : Option Block) → Alike m n → is_live l k ≡ false → AllTurn Makes xs → Climbs (rank (key_number k) + 1) high (ranks xs) → Replays xs (after_add l k b) m
      → AllTurn Makes ys → Climbs from to (ranks ys) → Replays ys l n → rank (key_number k) < from → ⊥
  comes_in_both xs ys l m n from to high k b alike dead a c r p d q less =
      let lives : is_live m k ≡ true = lives_at m k b (made_stands xs l m high k b a c r) in
      let still : is_live n k ≡ is_live l k = ap (λ (h : Held). not (is_dead h)) (untouched ys l n from to k p d q less) in
      let bad : true ≡ false = sym lives ∙ alike.live k ∙ still ∙ dead in cc

  -- of two first keys of one number, each is the other
  one_key : (xs ys : List Move) (l m n : FrameLife) (to high : ℕ) (k j : Key) (b e : Option Block) → Alike m n → is_live l k ≡ false → AllTurn Makes xs → Climbs (rank (key_number k) + 1) to (ranks xs) → Replays xs (after_add l k b) m
      → AllTurn Makes ys → Climbs (rank (key_number j) + 1) high (ranks ys) → Replays ys (after_add l j e) n → rank (key_number k) ≡ rank (key_number j) → k ≡ j
  one_key xs ys l m n to high k j b e alike dead a c r p d q same = at (same_key k j) refl
    where
      at : (t : Bool) → same_key k j ≡ t → k ≡ j
      at true h = same_key-true k j h
      at false h =
          let lives : is_live m k ≡ true = lives_at m k b (made_stands xs l m to k b a c r) in
          let still : n.stands k ≡ l.stands k = untouched ys (after_add l j e) n (rank (key_number j) + 1) high k p d q (omega (arith, same)) ∙ stands_add l j k e ∙ ap (λ (x : Bool). cond x (made_at e) (l.stands k)) h in
          let bad : true ≡ false = sym lives ∙ alike.live k ∙ ap (λ (h : Held). not (is_dead h)) still ∙ dead in
          cc

  makes_one : (xs ys : List Move) (l m n : FrameLife) (from to : ℕ) → Alike m n → AllTurn Makes xs → Climbs from to (ranks xs) → Replays xs l m → AllTurn Makes ys → Climbs from to (ranks ys) → Replays ys l n → ys ≡ xs
  makes_one [] [] l m n from to alike a c r p d q = refl
  makes_one [] (move.Add k b ∷ ys) l m n from to alike a c r p d q =
      absurd (comes_in_both ys [] l n m (rank (key_number k) + 1) to to k b (alike_back m n alike) (dead_before l k b q.0) p.1 d.2 q.1 tt tt r (omega arith))
  makes_one (move.Add k b ∷ xs) [] l m n from to alike a c r p d q =
      absurd (comes_in_both xs [] l m n (rank (key_number k) + 1) to to k b alike (dead_before l k b r.0) a.1 c.2 r.1 tt tt q (omega arith))
  makes_one (move.Add k b ∷ xs) (move.Add j e ∷ ys) l m n from to alike a c r p d q = elim (cases_lt (rank (key_number k)) (rank (key_number j))) [
    | inl less ↦ absurd (comes_in_both xs (move.Add j e ∷ ys) l m n (rank (key_number j)) to to k b alike (dead_before l k b r.0) a.1 c.2 r.1 p (omega arith, d.1, d.2) q less)
    | inr more ↦ elim (cases_lt (rank (key_number j)) (rank (key_number k))) [
      | inl less ↦ absurd (comes_in_both ys (move.Add k b ∷ xs) l n m (rank (key_number k)) to to j e (alike_back m n alike) (dead_before l j e q.0) p.1 d.2 q.1 a (omega arith, c.1, c.2) r less)
      | inr most ↦
          (let number : rank (key_number k) ≡ rank (key_number j) = omega (arith, more, most) in
          let same = one_key xs ys l m n to to k j b e alike (dead_before l k b r.0) a.1 c.2 r.1 p.1 d.2 q.1 number in
          let climbs : Climbs (rank (key_number k) + 1) to (ranks ys) = subst (λ (x : ℕ). Climbs (x + 1) to (ranks ys)) (sym number) d.2 in
          let as_k : Replays ys (after_add l k e) n = subst (λ (x : Key). Replays ys (after_add l x e) n) (sym same) q.1 in
          let block = one_made l m n k b e alike (made_stands xs l m to k b a.1 c.2 r.1) (made_stands ys l n to k e p.1 climbs as_k) in
          let rest = makes_one xs ys (after_add l k b) m n (rank (key_number k) + 1) to alike a.1 c.2 r.1 p.1 climbs (subst (λ (x : Option Block). Replays ys (after_add l k x) n) block as_k) in
          (λ i. move.Add (sym same i) (block i) ∷ rest i))
    ]
  ]
  makes_one (move.Add k b ∷ xs) (_ ∷ ys) l m n from to alike a c r p d q = let bad = p.0 in cc
  makes_one [] (_ ∷ ys) l m n from to alike a c r p d q = let bad = p.0 in cc
  makes_one (_ ∷ xs) ys l m n from to alike a c r p d q = let bad = a.0 in cc

climbs_so : (from to : ℕ) (ns : List ℕ) → Climbs from to ns → Climbs from to (map (λ n. n) ns)
climbs_so from to [] c = tt
climbs_so from to (n ∷ ns) c = (c.0, c.1, climbs_so (n + 1) to ns c.2)

made : (b c d : Behind) (xs ys : List Move) → Alike c.life d.life → Turned Makes b.life xs → Turned Makes b.life ys → Replays xs b.life c.life → Replays ys b.life d.life → ys ≡ xs
made b c d xs ys alike p q r t =
    makes_one (λ n. n) xs ys b.life c.life d.life 0 (2 ^ 32) alike
    p.all (climbs_so 0 (2 ^ 32) (numbers_made xs) p.order) r q.all (climbs_so 0 (2 ^ 32) (numbers_made ys) q.order) t

-- ---- the pages of a stack: the guard page is the last

abbrev last_of : ℕ → ℕ → ℕ → ℕ
last_of guard top n = cond (n == guard) top n

above_it : (guard n : ℕ) → guard < n → (n == guard) ≡ false
above_it guard n less = at (n == guard) refl
  where
    at : (t : Bool) → (n == guard) ≡ t → t ≡ false
    at true e = let same = eqb-true n guard e in absurd (omega (arith, same, less))
    at false e = refl

no_more : (guard : ℕ) (ns : List ℕ) → Climbs (guard + 1) (guard + 1) ns → ns ≡ []
no_more guard [] c = refl
no_more guard (n ∷ ns) c = absurd (omega (arith, c.0, c.1))

module _ (guard top : ℕ) where
  guard_behind : (low : ℕ) (last : List ℕ) → low ≤ top → Climbs guard (guard + 1) last → Climbs low (top + 1) (map (last_of guard top) last)
  guard_behind low [] h c = tt
  guard_behind low (n ∷ ns) h c =
      let same : n ≡ guard = omega (arith, c.0, c.1) in
      let is : last_of guard top n ≡ top = ap (λ (k : ℕ). cond (k == guard) top k) same ∙ ap (λ (t : Bool). cond t top guard) (same_number guard) in
      let none = no_more guard ns (subst (λ (k : ℕ). Climbs (k + 1) (guard + 1) ns) same c.2) in
      (omega (arith, h, is), omega (arith, is), subst (λ (ks : List ℕ). Climbs (last_of guard top n + 1) (top + 1) (map (last_of guard top) ks)) (sym none) tt)

  ranked : (low from : ℕ) (pages last : List ℕ) → low ≤ from → low ≤ top → guard < from → Climbs from top pages → Climbs guard (guard + 1) last → Climbs low (top + 1) (map (last_of guard top) (pages ++ last))
  ranked low from [] last h g less c d = guard_behind low last g d
  ranked low from (n ∷ ns) last h g less c d =
      let is : last_of guard top n ≡ n = ap (λ (t : Bool). cond t top n) (above_it guard n (omega (arith, less, c.0))) in
      let rest = ranked (last_of guard top n + 1) (n + 1) ns last (omega (arith, is)) (omega (arith, is, c.1)) (omega (arith, less, c.0)) c.2 d in
      (omega (arith, h, is, c.0), omega (arith, is, c.1), rest)

all_add : (guard : ℕ) (ms : List Move) → AllTurn (MakesStack guard) ms → AllTurn Makes ms
all_add guard [] a = tt
all_add guard (m ∷ ms) a = (a.0, all_add guard ms a.1)

stack_climbs : (guard : ℕ) (ns : List ℕ) → IsStack guard ns → Climbs 0 (2 ^ 32 + 1) (map (last_of guard (2 ^ 32)) ns)
stack_climbs guard ns h =
    subst (λ (ks : List ℕ). Climbs 0 (2 ^ 32 + 1) (map (last_of guard (2 ^ 32)) ks)) (sym h.whole)
    (ranked guard (2 ^ 32) 0 (guard + 1) h.pages h.last (omega arith) (omega arith) (omega arith) h.above h.below)

stacked : (guard : ℕ) (b c d : Behind) (xs ys : List Move) → Alike c.life d.life → Turned (MakesStack guard) b.life xs → Turned (MakesStack guard) b.life ys → Replays xs b.life c.life → Replays ys b.life d.life → ys ≡ xs
stacked guard b c d xs ys alike p q r t =
    makes_one (last_of guard (2 ^ 32)) xs ys b.life c.life d.life 0 (2 ^ 32 + 1) alike
    (all_add guard xs p.all) (stack_climbs guard (numbers_made xs) p.order) r (all_add guard ys q.all) (stack_climbs guard (numbers_made ys) q.order) t

-- ---- a line

module _ (w v : World) (a : Answer) (b o c d : Behind) (xs ys : List Move) where
  alike_by : (e : Event) → Did w e a v b xs c → Did w e a v (beside b o) ys d → Alike c.life d.life
  alike_by e p q = record {
    live = λ k. p.agrees.keys k ∙ sym (q.agrees.keys k);
    blocks = λ k. p.agrees.blocks k ∙ sym (q.agrees.blocks k);
  }

  -- a place without a committed row after the line is not valid then
  unmapped_by : (e : Event) (z x : Behind) (zs : List Move) → Did w e a v z zs x → (p : Place) → is_uncommitted v p ≡ true → x.life.valid p ≡ None
  unmapped_by e z x zs h p free = at (x.life.valid p) refl
    where
      at : (o : Option Frame) → x.life.valid p ≡ o → o ≡ None
      at None f = refl
      at (Some frame) f =
          let row = h.agrees.places p frame f in
          let bad : false ≡ true = sym (ap (λ (o : Option Key). not (is_some o)) row.1.0) ∙ free in cc

  gone_one : (e : Event) (pid : Pid) → StandsAlways w b.life → GivesUp w pid v b.life xs → GivesUp w pid v b.life ys → Did w e a v b xs c → Did w e a v (beside b o) ys d → ys ≡ xs
  gone_one e pid s g h p q =
      one_end_log w pid.0 b.life s (is_uncommitted v) c.life d.life xs ys (alike_by e p q).live (unmapped_by e b c xs p) (unmapped_by e (beside b o) d ys q) g h p.replays q.replays

  beside_log : (e : Event) → StandsBefore e w b.life → Did w e a v b xs c → Did w e a v (beside b o) ys d → AnsweredAlike e xs ys → ys ≡ xs
  beside_log (line.Trim pid n) s p q k = trimmed (lives w pid) pid n b o c d xs ys p.does q.does
  beside_log (line.Io i) s p q k = ended i a b o c d xs ys p.does q.does
  beside_log (line.Alloc pid addr size type prot) s p q k = made b c d xs ys (alike_by (line.Alloc pid addr size type prot) p q) p.does q.does p.replays q.replays
  beside_log (line.Create pid size flags name) s p q k = made b c d xs ys (alike_by (line.Create pid size flags name) p q) p.does q.does p.replays q.replays
  beside_log (line.File name pages byte) s p q k = made b c d xs ys (alike_by (line.File name pages byte) p q) p.does q.does p.replays q.replays
  beside_log (line.Probe tid addr) s p q k = made b c d xs ys (alike_by (line.Probe tid addr) p q) p.does q.does p.replays q.replays
  beside_log (line.Read pid addr len) s p q k = plain_line w a b o c d xs ys s pid addr (ReadOf len) p.report q.report p.began p.does q.does p.replays q.replays k
  beside_log (line.Write pid addr bytes) s p q k = plain_line w a b o c d xs ys s pid addr (WriteOf bytes) p.report q.report p.began p.does q.does p.replays q.replays k
  beside_log (line.Exec pid addr) s p q k = plain_line w a b o c d xs ys s pid addr Execute p.report q.report p.began p.does q.does p.replays q.replays k
  beside_log (line.Begin tid pid what) s p q k =
      begun_line w a b o c d xs ys s tid.0 pid (address_in what) (attempt_in what) p.report q.report (is_some (kept_by w tid.0)) p.began p.does q.does p.replays q.replays k
  beside_log (line.Resume tid) s p q k = resumed_line w a b o c d xs ys s (kept_by w tid.0) p.report q.report p.began p.does q.does p.replays q.replays k
  beside_log (line.Flush pid addr size) s p q k = flushed (flushed_keys w pid.0 addr size) b.life c.life d.life xs ys p.began p.does q.does p.replays q.replays k
  beside_log (line.Exit pid) s p q k = gone_one (line.Exit pid) pid s p.does q.does p q
  beside_log (line.Free pid addr size type) s p q k = gone_one (line.Free pid addr size type) pid s p.does q.does p q
  beside_log (line.Unmap pid addr) s p q k = gone_one (line.Unmap pid addr) pid s p.does q.does p q
  beside_log (line.Close pid handle) s p q k =
      one_end_log w pid.0 b.life s (λ _. false) c.life d.life xs ys (alike_by (line.Close pid handle) p q).live (λ z e. cc) (λ z e. cc) p.does q.does p.replays q.replays
  beside_log (line.Stack tid pid reserve commit) s p q k = stacked (guard_told a) b c d xs ys (alike_by (line.Stack tid pid reserve commit) p q) p.does q.does p.replays q.replays
  beside_log _ s p q k = q.does ∙ sym p.does

-- the second run, with the first's ages
pub one_log : (w v : World) (a : Answer) (b o c d : Behind) (xs ys : List Move) (e : Event) → StandsBefore e w b.life → StandsAlike b o → Did w e a v b xs c → Did w e a v o ys d → AnsweredAlike e xs ys → ys ≡ xs
one_log w v a b o c d xs ys e s alike p q k =
    let same : o ≡ record o { life = b.life } = (λ i. record { log = o.log; life = alike.life i; ages = o.ages; waits = o.waits; slots = o.slots }) in
    let other = did_aged w v e a (record o { life = b.life }) d ys b.ages alike.ages (subst (λ (x : Behind). Did w e a v x ys d) same q) in
    beside_log w v a b o c (record d { ages = ages_through ys b.ages }) xs ys e s p other k
