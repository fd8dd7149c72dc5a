-- A flush has one log: pages that are written or waited for, one after another, as devices answer.
use Rattle.std.proofs.Common.{◌≡◌, ℕ, Bool, true, false, List, [], ◌∷◌, ◌++◌, refl, sym, ap, ◌∙◌, subst, inl, inr, arith}
use Rattle.std.proofs.lemmas.Bool.{eqb-true}
use Rattle.std.specs.Prelude.{IsTrue, not, is_some, ◌&&◌, ◌||◌}
use Rattle.mm_types.specs.{Backing, Held, Record, Request, LineKind, Move, Stored, Frame, Key}
use Rattle.mm_types.specs.declared.frames.Backing.TheVariants as backing
use Rattle.mm_types.specs.declared.frames.Held.TheVariants as held
use Rattle.mm_types.specs.declared.frames.Request.TheVariants as request
use Rattle.mm_types.specs.declared.moves.LineKind.TheVariants as kind
use Rattle.mm_types.specs.declared.moves.Move.TheVariants as move
use Rattle.mm_types.specs.declared.moves.Stored.TheVariants as stored
use Rattle.mm_move_rules.specs.{record_at, is_on, has_request, FrameLife, is_access, is_writer, is_block, is_lowest, owner_is, has_depth, may_write_block}
use Rattle.mm_move_rules.specs.{is_legal_write, after_move, Replays}
use Rattle.mm_store.specs.{IsEndOf, IsWrittenNow, IsWrittenIf, IsEndedFirst, FlushesBy, FlushedAt, ends_lost, life_through}
use Rattle.mm_store.specs.Flushing.{Flushing}
use Rattle.mm_line_moves.specs.{outcomes, AnswerAlike}

-- ---- where a page is written to

never : (a b c d : Bool) → IsTrue (a && b && c && (false || (false && d))) → false ≡ true
never a b c d h = grind (arith, h)

fourth : (a b c d e : Bool) → IsTrue (a && b && not c && d && e) → d ≡ true
fourth a b c d e h = grind (arith, h)

no_slot : (l : FrameLife) (k : LineKind) (a b c d : Bool) → k ≡ kind.Call → IsTrue (a && b && c && (is_access k || (is_writer k && d))) → ⊥
no_slot l k a b c d e h =
    let bad : false ≡ true = never a b c d (subst (λ (x : LineKind). IsTrue (a && b && c && (is_access x || (is_writer x && d)))) e h) in cc

pub one_backing : (b c : ℕ) (k : Backing) → is_block b k ≡ true → is_block c k ≡ true → c ≡ b
one_backing b c (backing.Block d) p q = sym (eqb-true d.0 c q) ∙ eqb-true d.0 b p
one_backing b c _ p q = cc

-- in a call a page is written to the block that backs it
one_home : (l : FrameLife) (f : ℕ) (r : Record) (s t : Stored) → l.kind ≡ kind.Call → IsTrue (is_legal_write l f r s) → IsTrue (is_legal_write l f r t) → t ≡ s
one_home l f r (stored.Slot s) t e p q = absurd (no_slot l l.kind (is_on f l.frames.modified) (owner_is l.paging r) (is_lowest s.0 l.free_slots) (has_depth l) e p)
one_home l f r (stored.Block s) (stored.Slot t) e p q = absurd (no_slot l l.kind (is_on f l.frames.modified) (owner_is l.paging r) (is_lowest t.0 l.free_slots) (has_depth l) e q)
one_home l f r (stored.Block s) (stored.Block t) e p q =
    let first = fourth r.changed (is_some r.owner) (has_request r.request) (is_block s.0 r.backing) (may_write_block l f) p in
    let second = fourth r.changed (is_some r.owner) (has_request r.request) (is_block t.0 r.backing) (may_write_block l f) q in
    let same = one_backing s.0 t.0 r.backing first second in
    (λ i. stored.Block (record { 0 = same i }))

-- ---- a page that is written now

abbrev ending : Frame → Bool → Move
ending f true = move.Wrote f
ending f false = move.Lost f

record Now (f : Frame) (ms : List Move) : Type 0 where
  home : Stored
  good : Bool
  are : ms ≡ move.Write f home ∷ ending f good ∷ []

ended_by : (f : Frame) (x y : Move) (s : Stored) → x ≡ move.Write f s → IsEndOf f y → Now f (x ∷ y ∷ [])
ended_by f x y s e (inl d) = record { home = s; good = true; are = λ i. e i ∷ d i ∷ [] }
ended_by f x y s e (inr d) = record { home = s; good = false; are = λ i. e i ∷ d i ∷ [] }

now_is : (f : Frame) (ms : List Move) → IsWrittenNow f ms → Now f ms
now_is f (x ∷ y ∷ []) p = ended_by f x y p.0.0 p.0.1 p.1
now_is f _ p = absurd (omega arith)

same_good : (f : Frame) (s t : Stored) (g h : Bool) (us vs : List Move) → AnswerAlike (outcomes (move.Write f s ∷ ending f g ∷ us)) (outcomes (move.Write f t ∷ ending f h ∷ vs)) → h ≡ g
same_good f s t true false us vs a = sym a.0
same_good f s t false true us vs a = sym a.0
same_good f s t _ _ us vs a = cc

module _ (l m n : FrameLife) (f : Frame) (us vs : List Move) (call : l.kind ≡ kind.Call) where
  one_if : (changed : Bool) (xs ys : List Move) → IsWrittenIf changed f xs → IsWrittenIf changed f ys → Replays (xs ++ us) l m → Replays (ys ++ vs) l n → AnswerAlike (outcomes (xs ++ us)) (outcomes (ys ++ vs)) → ys ≡ xs
  one_if true xs ys p q r t a =
      let first = subst (λ (zs : List Move). Replays (zs ++ us) l m) (now_is f xs p).are r in
      let second = subst (λ (zs : List Move). Replays (zs ++ vs) l n) (now_is f ys q).are t in
      let alike = subst (λ (zs : List Move). AnswerAlike (outcomes (zs ++ us)) (outcomes (move.Write f (now_is f ys q).home ∷ ending f (now_is f ys q).good ∷ vs))) (now_is f xs p).are
      (subst (λ (zs : List Move). AnswerAlike (outcomes (xs ++ us)) (outcomes (zs ++ vs))) (now_is f ys q).are a) in
      let home = one_home l f.0 (record_at l.frames f.0) (now_is f xs p).home (now_is f ys q).home call first.0 second.0 in
      let good = same_good f (now_is f xs p).home (now_is f ys q).home (now_is f xs p).good (now_is f ys q).good us vs alike in
      (now_is f ys q).are ∙ (λ i. move.Write f (home i) ∷ ending f (good i) ∷ []) ∙ sym (now_is f xs p).are
  one_if false xs ys p q r t a = q ∙ sym p

-- ---- a page whose write is waited for

data Waited (again : Bool) (f : Frame) (ms : List Move) : Type 0 where
  Good : (rest : List Move) → ms ≡ move.Wrote f ∷ rest → IsWrittenIf again f rest → Waited again f ms
  Failed : ms ≡ move.Lost f ∷ [] → Waited again f ms

waited_is : (again : Bool) (f : Frame) (ms : List Move) → IsEndedFirst again f ms → Waited again f ms
waited_is again f [] p = absurd p
waited_is again f (x ∷ ms) (inl p) = Good ms (λ i. p.0 i ∷ ms) p.1
waited_is again f (x ∷ ms) (inr p) = Failed (λ i. p.0 i ∷ p.1 i)

module _ (l m n : FrameLife) (f : Frame) (us vs : List Move) (call : l.kind ≡ kind.Call) where
  one_waited : (again : Bool) (xs ys : List Move) → Waited again f xs → Waited again f ys → Replays (xs ++ us) l m → Replays (ys ++ vs) l n → AnswerAlike (outcomes (xs ++ us)) (outcomes (ys ++ vs)) → ys ≡ xs
  one_waited again xs ys (Good cs e p) (Good ds d q) r t a =
      let first = subst (λ (zs : List Move). Replays (zs ++ us) l m) e r in
      let second = subst (λ (zs : List Move). Replays (zs ++ vs) l n) d t in
      let alike = subst (λ (zs : List Move). AnswerAlike (outcomes (zs ++ us)) (outcomes (move.Wrote f ∷ ds ++ vs))) e
      (subst (λ (zs : List Move). AnswerAlike (outcomes (xs ++ us)) (outcomes (zs ++ vs))) d a) in
      let rest = one_if (after_move l (move.Wrote f)) m n f us vs call again cs ds p q first.1 second.1 alike.1 in
      d ∙ ap (λ (zs : List Move). move.Wrote f ∷ zs) rest ∙ sym e
  one_waited again xs ys (Good cs e p) (Failed d) r t a =
      let alike = subst (λ (zs : List Move). AnswerAlike (outcomes (zs ++ us)) (outcomes (move.Lost f ∷ vs))) e
      (subst (λ (zs : List Move). AnswerAlike (outcomes (xs ++ us)) (outcomes (zs ++ vs))) d a) in
      let bad : true ≡ false = alike.0 in cc
  one_waited again xs ys (Failed e) (Good ds d q) r t a =
      let alike = subst (λ (zs : List Move). AnswerAlike (outcomes (zs ++ us)) (outcomes (move.Wrote f ∷ ds ++ vs))) e
      (subst (λ (zs : List Move). AnswerAlike (outcomes (xs ++ us)) (outcomes (zs ++ vs))) d a) in
      let bad : false ≡ true = alike.0 in cc
  one_waited again xs ys (Failed e) (Failed d) r t a = d ∙ sym e

  one_by : (q : Request) (changed : Bool) (xs ys : List Move) → FlushesBy q changed f xs → FlushesBy q changed f ys → Replays (xs ++ us) l m → Replays (ys ++ vs) l n → AnswerAlike (outcomes (xs ++ us)) (outcomes (ys ++ vs)) → ys ≡ xs
  one_by request.Write changed xs ys p q r t a = one_waited false xs ys (waited_is false f xs p) (waited_is false f ys q) r t a
  one_by request.WriteAgain changed xs ys p q r t a = one_waited true xs ys (waited_is true f xs p) (waited_is true f ys q) r t a
  one_by _ changed xs ys p q r t a = one_if l m n f us vs call changed xs ys p q r t a

one_page : (l m n : FrameLife) (us vs : List Move) → l.kind ≡ kind.Call → (h : Held) (xs ys : List Move) → FlushedAt l h xs → FlushedAt l h ys → Replays (xs ++ us) l m → Replays (ys ++ vs) l n → AnswerAlike (outcomes (xs ++ us)) (outcomes (ys ++ vs)) → ys ≡ xs
one_page l m n us vs call (held.Frame f) xs ys p q r t a =
    let kept = record_at l.frames f.0 in one_by l m n f us vs call kept.request kept.changed xs ys p q r t a
one_page l m n us vs call _ xs ys p q r t a = q ∙ sym p

-- ---- the line stays a call

written_kind : (l : FrameLife) (f : Frame) (s : Stored) → (after_move l (move.Write f s)).kind ≡ l.kind
written_kind l f (stored.Slot s) = refl
written_kind l f (stored.Block b) = refl

ended_kind : (l : FrameLife) (f : Frame) (g : Bool) → (after_move l (ending f g)).kind ≡ l.kind
ended_kind l f true = refl
ended_kind l f false = refl

if_kind : (l : FrameLife) (f : Frame) (changed : Bool) (xs : List Move) → IsWrittenIf changed f xs → (life_through l xs).kind ≡ l.kind
if_kind l f true xs p =
    ap (λ (zs : List Move). (life_through l zs).kind) (now_is f xs p).are ∙ ended_kind (after_move l (move.Write f (now_is f xs p).home)) f (now_is f xs p).good ∙ written_kind l f (now_is f xs p).home
if_kind l f false xs p = ap (λ (zs : List Move). (life_through l zs).kind) p

waited_kind : (l : FrameLife) (f : Frame) (again : Bool) (xs : List Move) → Waited again f xs → (life_through l xs).kind ≡ l.kind
waited_kind l f again xs (Good rest e p) = ap (λ (zs : List Move). (life_through l zs).kind) e ∙ if_kind (after_move l (move.Wrote f)) f again rest p
waited_kind l f again xs (Failed e) = ap (λ (zs : List Move). (life_through l zs).kind) e

by_kind : (l : FrameLife) (f : Frame) (q : Request) (changed : Bool) (xs : List Move) → FlushesBy q changed f xs → (life_through l xs).kind ≡ l.kind
by_kind l f request.Write changed xs p = waited_kind l f false xs (waited_is false f xs p)
by_kind l f request.WriteAgain changed xs p = waited_kind l f true xs (waited_is true f xs p)
by_kind l f _ changed xs p = if_kind l f changed xs p

page_kind : (l : FrameLife) (h : Held) (xs : List Move) → FlushedAt l h xs → (life_through l xs).kind ≡ l.kind
page_kind l (held.Frame f) xs p = let kept = record_at l.frames f.0 in by_kind l f kept.request kept.changed xs p
page_kind l _ xs p = ap (λ (zs : List Move). (life_through l zs).kind) p

-- ---- pages one after another

behind_replays : (xs us : List Move) (l m : FrameLife) → Replays (xs ++ us) l m → Replays us (life_through l xs) m
behind_replays [] us l m r = r
behind_replays (x ∷ xs) us l m r = behind_replays xs us (after_move l x) m r.1

behind_alike : (xs us vs : List Move) → AnswerAlike (outcomes (xs ++ us)) (outcomes (xs ++ vs)) → AnswerAlike (outcomes us) (outcomes vs)
behind_alike [] us vs a = a
behind_alike (move.Got f ∷ xs) us vs a = behind_alike xs us vs a.1
behind_alike (move.Bad f ∷ xs) us vs a = behind_alike xs us vs a.1
behind_alike (move.Wrote f ∷ xs) us vs a = behind_alike xs us vs a.1
behind_alike (move.Lost f ∷ xs) us vs a = behind_alike xs us vs a.1
behind_alike (_ ∷ xs) us vs a = behind_alike xs us vs a

pub flushed : (ks : List Key) (l m n : FrameLife) (xs ys : List Move) → l.kind ≡ kind.Call → Flushing l ks xs → Flushing l ks ys → Replays xs l m → Replays ys l n → AnswerAlike (outcomes xs) (outcomes ys) → ys ≡ xs
flushed [] l m n xs ys call p q r t a = q ∙ sym p
flushed (k ∷ ks) l m n xs ys call (front, (us, (whole, at, lost, goes))) (front', (vs, (whole', at', lost', goes'))) r t a =
    let first = subst (λ (zs : List Move). Replays zs l m) whole r in
    let second = subst (λ (zs : List Move). Replays zs l n) whole' t in
    let alike = subst (λ (zs : List Move). AnswerAlike (outcomes zs) (outcomes (front' ++ vs))) whole (subst (λ (zs : List Move). AnswerAlike (outcomes xs) (outcomes zs)) whole' a) in
    let same = one_page l m n us vs call (l.stands k) front front' at at' first second alike in
    let on : ends_lost front ≡ false → vs ≡ us = λ e.
    (let rest = subst (λ (zs : List Move). Flushing (life_through l zs) ks vs) same (goes' (ap ends_lost same ∙ e)) in
    let here = subst (λ (zs : List Move). Replays (zs ++ vs) l n) same second in
    let over = subst (λ (zs : List Move). AnswerAlike (outcomes (front ++ us)) (outcomes (zs ++ vs))) same alike in
    flushed ks (life_through l front) m n us vs (page_kind l (l.stands k) front at ∙ call) (goes e) rest
    (behind_replays front us l m first) (behind_replays front vs l n here) (behind_alike front us vs over)) in
    let behind : vs ≡ us = by_end (ends_lost front) refl (λ e. lost' (ap ends_lost same ∙ e) ∙ sym (lost e)) on in
    whole' ∙ (λ i. same i ++ behind i) ∙ sym whole
  where
    by_end : (b : Bool) → ends_lost front ≡ b → (ends_lost front ≡ true → vs ≡ us) → (ends_lost front ≡ false → vs ≡ us) → vs ≡ us
    by_end true e none on = none e
    by_end false e none on = on e
