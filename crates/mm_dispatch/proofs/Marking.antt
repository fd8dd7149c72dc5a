-- Keys that come to be in a line, and keys that go, and what is noted of a line, by what the calls that it makes pass.
use Rattle.std.proofs.Common.{◌≡◌, ℕ, List, [], ◌∷◌, Bool, true, false, Option, Some, None, refl, sym, ap, ◌∙◌, cond, is_some, arith, ◌-◌, ◌++◌, subst, inl, inr, map, take}
use Rattle.std.specs.Prelude.{IsTrue, not, ◌&&◌, ◌||◌, Result, Ok, Err, IfOk}
use Rattle.mm_types.specs.{Backing, Held, Move, Stored, Block, Frame, Key, Place, Answer, Event, Record, Request, LineKind, Pid}
use Rattle.mm_types.proofs.{not_then, not_left, not_third, none_of}
use Rattle.mm_move_rules.specs.{FrameLife, is_live, is_dead, same_key, is_shared, is_call, is_unbind, is_unmapped, after_move, after_add, dropped_at, homed}
use Rattle.mm_move_rules.specs.{home_at, after_unmap_at, Replays, record_at, is_read, Log, can_be_written, Waiting, Walk, Through, walked, waits_through}
use Rattle.mm_move_rules.specs.{ages_through, TrimMove, frame_of, clearings, writes_begun, target, ending}
use Rattle.mm_world.specs.World.{World}
use Rattle.mm_world.specs.{content_of}
use Rattle.mm_store.specs.Behind.{Behind}
use Rattle.mm_store.specs.{StoreOf, Makes, MakesStack, AllTurn, Turns, Exactly, nothing, Passes, IsEndOf, IsWriteOf, IsWrittenNow, IsWrittenIf}
use Rattle.mm_store.specs.{IsEndedFirst, FlushesBy, FlushedAt, ends_lost, life_through, Turn, Turned, OneMove, NoMove, Trims, Completes, Flushes}
use Rattle.mm_store.specs.{PassesIn, Notes, NotesIn}
use Rattle.mm_store.specs.Housekeeping.{Ends}
use Rattle.mm_store.specs.Leaving.{Leaving}
use Rattle.mm_line_moves.specs.{kind_of_line, TurnsOne, TurnsKeys, Does, with_line, ages_of_line, waits_of_line}
use Rattle.mm_dispatch.specs.{keeps_keys, takes_away, EachMove, IsOneWay, LineWent, TellsLine, Halted}
use Rattle.mm_move_rules.proofs.{home_lives}
use Rattle.mm_dispatch.proofs.Begun.{passes_with, paged, begun_with, went_then, noted_then, went_alone}
use Rattle.mm_store.specs.Flushing.{Flushing}
use Rattle.mm_types.specs.declared.frames.Held.TheVariants as held
use Rattle.mm_types.specs.declared.moves.Move.TheVariants as move
use Rattle.mm_types.specs.declared.moves.Stored.TheVariants as stored
use Rattle.mm_types.specs.declared.numbers.Key.TheVariants as key
use Rattle.mm_types.specs.declared.frames.Request.TheVariants as request

same_again : (k : Key) → same_key k k ≡ true
same_again (key.Private p v) = grind arith
same_again (key.Shared a i) = grind arith

-- ---- a key that stands elsewhere lives on

living_if : (c : Bool) (h g : Held) → is_dead h ≡ false → not (is_dead g) ≡ true → not (is_dead (cond c h g)) ≡ true
living_if true h g e f = ap not e
living_if false h g e f = f

live_at : (l : FrameLife) (k : Key) (h : Held) (q : Key) → is_dead h ≡ false → is_live l q ≡ true → not (is_dead (cond (same_key q k) h (l.stands q))) ≡ true
live_at l k h q e f = living_if (same_key q k) h (l.stands q) e f

homed_lives : (l : FrameLife) (o : Option Key) (b : Backing) (q : Key) → is_live l q ≡ true → not (is_dead (homed l o b q)) ≡ true
homed_lives l None b q f = f
homed_lives l (Some k) b q f = live_at l k (home_at b) q (home_lives b) f

unmap_keeps : (o : Option Frame) (l : FrameLife) (p : Place) (q : Key) → is_live (after_unmap_at o l p) q ≡ is_live l q
unmap_keeps None l p q = refl
unmap_keeps (Some f) l p q = refl

write_leaves : (l : FrameLife) (f : Frame) (s : Stored) (q : Key) → is_live (after_move l (move.Write f s)) q ≡ is_live l q
write_leaves l f (stored.Slot s) q = refl
write_leaves l f (stored.Block b) q = refl

add_keeps : (l : FrameLife) (k : Key) (b : Option Block) (q : Key) → is_live l q ≡ true → is_live (after_add l k b) q ≡ true
add_keeps l k None q f = live_at l k held.Zero q refl f
add_keeps l k (Some b) q f = live_at l k (held.Block b) q refl f

keeps_live : (l : FrameLife) (m : Move) (q : Key) → keeps_keys m ≡ true → is_live l q ≡ true → is_live (after_move l m) q ≡ true
keeps_live l (move.At n k) q e f = cc
keeps_live l (move.Add k b) q e f = add_keeps l k b q f
keeps_live l (move.Drop k) q e f = cc
keeps_live l (move.Steal g) q e f = homed_lives l _ _ q f
keeps_live l (move.Give g k) q e f = live_at l k (held.Frame g) q refl f
keeps_live l (move.Read g k) q e f = live_at l k (held.Frame g) q refl f
keeps_live l (move.Bad g) q e f = homed_lives l _ _ q f
keeps_live l (move.Unmap p) q e f = unmap_keeps (l.valid p) l p q ∙ f
keeps_live l (move.Write g s) q e f = write_leaves l g s q ∙ f
keeps_live l _ q e f = f

lives_on : (ms : List Move) (l m : FrameLife) → Replays ms l m → EachMove keeps_keys ms → (q : Key) → is_live l q ≡ true → is_live m q ≡ true
lives_on [] l m e a q f = ap (λ (x : FrameLife). is_live x q) e ∙ f
lives_on (x ∷ ms) l m r a q f = lives_on ms (after_move l x) m r.1 a.1 q (keeps_live l x q a.0 f)

-- ---- a key that comes to be

added_lives : (l : FrameLife) (k : Key) (b : Option Block) → is_live (after_add l k b) k ≡ true
added_lives l k None = ap (λ c. not (is_dead (cond c held.Zero (l.stands k)))) (same_again k)
added_lives l k (Some b) = ap (λ c. not (is_dead (cond c (held.Block b) (l.stands k)))) (same_again k)

dead_before : (l : FrameLife) (k : Key) (b : Option Block) (ms : List Move) (m : FrameLife) → Replays (move.Add k b ∷ ms) l m → is_live l k ≡ false
dead_before l k None ms m r = not_left (is_live l k) _ _ r.0
dead_before l k (Some b) ms m r = not_third (is_call l.kind) (is_shared k) (is_live l k) _ _ r.0

module _ (w v : World) (o : FrameLife) (m : FrameLife) (before : (k : Key) → is_live o k ≡ is_some (content_of w k)) (after : (k : Key) → is_live m k ≡ is_some (content_of v k)) where
  made_one : (x : Move) (ms : List Move) (l : FrameLife) → ((q : Key) → is_live o q ≡ true → is_live l q ≡ true) → Replays (x ∷ ms) l m → EachMove keeps_keys (x ∷ ms) → TurnsOne w v x
  made_one (move.At n k) ms l h r a = tt
  made_one (move.Add k b) ms l h r a = (
    none_of (content_of w k) (sym (before k) ∙ not_then (is_live o k) (is_live l k) (h k) (dead_before l k b ms m r)),
    sym (after k) ∙ lives_on ms (after_add l k b) m r.1 a.1 k (added_lives l k b),
  )
  made_one (move.Drop k) ms l h r a = let bad = a.0 in cc
  made_one _ ms l h r a = tt

  all_made : (ms : List Move) (l : FrameLife) → ((q : Key) → is_live o q ≡ true → is_live l q ≡ true) → Replays ms l m → EachMove keeps_keys ms → TurnsKeys w v ms
  all_made [] l h r a = tt
  all_made (x ∷ ms) l h r a = (made_one x ms l h r a, all_made ms (after_move l x) (λ q f. keeps_live l x q a.0 (h q f)) r.1 a.1)

  -- where no key goes
  pub keys_made : (ms : List Move) → Replays ms o m → EachMove keeps_keys ms → TurnsKeys w v ms
  keys_made ms r a = all_made ms o (λ q f. f) r a

-- ---- a key that goes

dead_if : (c : Bool) (h : Held) → not (is_dead h) ≡ false → not (is_dead (cond c held.Dead h)) ≡ false
dead_if true h e = refl
dead_if false h e = e

dropped_stays : (h : Held) (l : FrameLife) (k q : Key) → is_live l q ≡ false → is_live (dropped_at h l k) q ≡ false
dropped_stays (held.Frame f) l k q e = dead_if (same_key q k) (l.stands q) e
dropped_stays _ l k q e = dead_if (same_key q k) (l.stands q) e

dropped_dies : (h : Held) (l : FrameLife) (k : Key) → is_live (dropped_at h l k) k ≡ false
dropped_dies (held.Frame f) l k = ap (λ c. not (is_dead (cond c held.Dead (l.stands k)))) (same_again k)
dropped_dies _ l k = ap (λ c. not (is_dead (cond c held.Dead (l.stands k)))) (same_again k)

none_if : (c b : Bool) → cond c false b ≡ true → b ≡ true
none_if true b e = cc
none_if false b e = e

dropped_paging : (h : Held) (l : FrameLife) (k q : Key) → (dropped_at h l k).paging q ≡ true → l.paging q ≡ true
dropped_paging (held.Frame f) l k q e = none_if (same_key q k) (l.paging q) e
dropped_paging _ l k q e = none_if (same_key q k) (l.paging q) e

unmap_paging : (o : Option Frame) (l : FrameLife) (p : Place) (q : Key) → (after_unmap_at o l p).paging q ≡ l.paging q
unmap_paging None l p q = refl
unmap_paging (Some f) l p q = refl

away_dead : (l : FrameLife) (m : Move) (q : Key) → takes_away m ≡ true → is_live l q ≡ false → is_live (after_move l m) q ≡ false
away_dead l (move.Unmap p) q e f = unmap_keeps (l.valid p) l p q ∙ f
away_dead l (move.Drop k) q e f = dropped_stays (l.stands k) l k q f
away_dead l _ q e f = cc

away_paging : (l : FrameLife) (m : Move) (q : Key) → takes_away m ≡ true → (after_move l m).paging q ≡ true → l.paging q ≡ true
away_paging l (move.Unmap p) q e f = sym (unmap_paging (l.valid p) l p q) ∙ f
away_paging l (move.Drop k) q e f = dropped_paging (l.stands k) l k q f
away_paging l _ q e f = cc

stays_dead : (ms : List Move) (l m : FrameLife) → Replays ms l m → EachMove takes_away ms → (q : Key) → is_live l q ≡ false → is_live m q ≡ false
stays_dead [] l m e a q f = ap (λ (x : FrameLife). is_live x q) e ∙ f
stays_dead (x ∷ ms) l m r a q f = stays_dead ms (after_move l x) m r.1 a.1 q (away_dead l x q a.0 f)

middle : (a b c : Bool) → IsTrue (a && b && c) → b ≡ true
middle true true c h = refl
middle true false c h = cc
middle false b c h = cc

listed_before : (l : FrameLife) (k : Key) (ms : List Move) (m : FrameLife) → Replays (move.Drop k ∷ ms) l m → l.paging k ≡ true
listed_before l k ms m r = middle (is_call l.kind || is_unbind l.kind) (l.paging k) (is_unmapped l (l.stands k)) r.0

module _ (w v : World) (o : FrameLife) (m : FrameLife) (before : (k : Key) → o.paging k ≡ true → is_some (content_of w k) ≡ true) (after : (k : Key) → is_live m k ≡ is_some (content_of v k)) where
  gone_one : (x : Move) (ms : List Move) (l : FrameLife) → ((q : Key) → l.paging q ≡ true → o.paging q ≡ true) → Replays (x ∷ ms) l m → EachMove takes_away (x ∷ ms) → TurnsOne w v x
  gone_one (move.Drop k) ms l h r a = (
    before k (h k (listed_before l k ms m r)),
    none_of (content_of v k) (sym (after k) ∙ stays_dead ms (dropped_at (l.stands k) l k) m r.1 a.1 k (dropped_dies (l.stands k) l k)),
  )
  gone_one (move.Unmap p) ms l h r a = tt
  gone_one _ ms l h r a = let bad = a.0 in cc

  all_gone : (ms : List Move) (l : FrameLife) → ((q : Key) → l.paging q ≡ true → o.paging q ≡ true) → Replays ms l m → EachMove takes_away ms → TurnsKeys w v ms
  all_gone [] l h r a = tt
  all_gone (x ∷ ms) l h r a = (gone_one x ms l h r a, all_gone ms (after_move l x) (λ q f. h q (away_paging l x q a.0 f)) r.1 a.1)

  -- where none comes to be
  pub keys_gone : (ms : List Move) → Replays ms o m → EachMove takes_away ms → TurnsKeys w v ms
  keys_gone ms r a = all_gone ms o (λ q f. f) r a

-- ---- the same keys before and after

pub makes_keep : (ms : List Move) → AllTurn Makes ms → EachMove keeps_keys ms
makes_keep [] a = tt
makes_keep (move.Add k b ∷ ms) a = (refl, makes_keep ms a.1)
makes_keep (_ ∷ ms) a = let bad = a.0 in cc

-- so do those of a new stack
pub stack_makes : (guard : ℕ) (ms : List Move) → AllTurn (MakesStack guard) ms → AllTurn Makes ms
stack_makes guard [] a = tt
stack_makes guard (m ∷ ms) a = (a.0, stack_makes guard ms a.1)

pub ends_take : (held : Leaving) (from to : ℕ) (ms : List Move) → AllTurn (Ends held from to) ms → EachMove takes_away ms
ends_take held from to [] a = tt
ends_take held from to (move.Unmap p ∷ ms) a = (refl, ends_take held from to ms a.1)
ends_take held from to (move.Drop k ∷ ms) a = (refl, ends_take held from to ms a.1)
ends_take held from to (_ ∷ ms) a = let bad = a.0 in cc

-- where keys come to be and no others live after than before, none did
pub none_made : (ms : List Move) (l m : FrameLife) → Replays ms l m → AllTurn Makes ms → ((k : Key) → is_live m k ≡ is_live l k) → ms ≡ []
none_made [] l m r a same = refl
none_made (move.Add k b ∷ rest) l m r a same =
    let lives = lives_on rest (after_add l k b) m r.1 (makes_keep rest a.1) k (added_lives l k b) in
    let dead = dead_before l k b rest m r in
    let bad : true ≡ false = sym lives ∙ same k ∙ dead in cc
none_made (_ ∷ rest) l m r a same = let bad = a.0 in cc

same_bool : (a b : Bool) → (a ≡ true → b ≡ true) → (a ≡ false → b ≡ false) → b ≡ a
same_bool true b f g = f refl
same_bool false b f g = g refl

-- a call of which each turn is told made no move
pub still : (s z : StoreOf) (b c : Behind) → Passes (Turns Makes) s z b c → Passes (Turns (Ends nothing 0 0)) s z b c → Passes (Exactly []) s z b c
still s z b c p q = passes_with (Turns Makes) (Exactly []) s z b c p (record {
  are = none_made p.moves b.life c.life p.replays p.that.turned.all (λ k. same_bool (is_live b.life k) (is_live c.life k)
      (lives_on p.moves b.life c.life p.replays (makes_keep p.moves p.that.turned.all) k)
      (stays_dead q.moves b.life c.life q.replays (ends_take nothing 0 0 q.moves q.that.turned.all) k));
  moved = p.that.moved;
  slots = p.that.slots;
})

-- ---- what is noted

-- ---- results

pub each-ok : {T E : Type 0} {Q : T → Type 0} (r : Result T E) → ((x : T) → Q x) → IfOk r Q
each-ok (Ok x) f = f x
each-ok (Err e) f = tt

-- ---- moves that take no key away

each_then : (test : Move → Bool) (xs ys : List Move) → EachMove test xs → EachMove test ys → EachMove test (xs ++ ys)
each_then test [] ys p q = q
each_then test (x ∷ xs) ys p q = (p.0, each_then test xs ys p.1 q)

cleared_keep : (fs : List ℕ) → EachMove keeps_keys (map (λ f. move.Clear (frame_of f)) fs)
cleared_keep [] = tt
cleared_keep (f ∷ fs) = (refl, cleared_keep fs)

pub clearings_keep : (n : ℕ) (l : FrameLife) → EachMove keeps_keys (clearings n l)
clearings_keep n l = cleared_keep (take n l.frames.free)

written_by : (b c : Bool) (xs ys : List Move) → EachMove keeps_keys xs → EachMove keeps_keys ys → EachMove keeps_keys (cond b (cond c xs ys) [])
written_by true true xs ys p q = p
written_by true false xs ys p q = q
written_by false c xs ys p q = tt

pub written_keep : (n : ℕ) (l : FrameLife) (fs : List ℕ) → EachMove keeps_keys (writes_begun n l fs)
written_keep n l [] = tt
written_keep n l (f ∷ fs) =
    let m = move.Write (frame_of f) (target (record_at l.frames f).backing l) in
    written_by _ (can_be_written l f) (m ∷ writes_begun (n - 1) (after_move l m) fs) (writes_begun n l fs)
    (refl, written_keep (n - 1) (after_move l m) fs) (written_keep n l fs)

trimmed_keep : (pid : Pid) (w : Walk) (ms : List Move) → Through (TrimMove pid) w ms → EachMove keeps_keys ms
trimmed_keep pid w [] h = tt
trimmed_keep pid w (move.Unmap p ∷ ms) h = (refl, trimmed_keep pid (walked w (move.Unmap p)) ms h.1)
trimmed_keep pid w (_ ∷ ms) h = absurd h.0

ending_keeps : (r : Record) (f : Frame) (ok : Bool) → keeps_keys (ending r f ok) ≡ true
ending_keeps r f true = by_read (is_read r.request)
  where
    by_read : (b : Bool) → keeps_keys (cond b (move.Got f) (move.Wrote f)) ≡ true
    by_read true = refl
    by_read false = refl
ending_keeps r f false = by_read (is_read r.request)
  where
    by_read : (b : Bool) → keeps_keys (cond b (move.Bad f) (move.Lost f)) ≡ true
    by_read true = refl
    by_read false = refl

end_keeps : (f : Frame) (m : Move) → IsEndOf f m → keeps_keys m ≡ true
end_keeps f m (inl e) = ap keeps_keys e
end_keeps f m (inr e) = ap keeps_keys e

write_keeps : (f : Frame) (m : Move) → IsWriteOf f m → keeps_keys m ≡ true
write_keeps f m e = ap keeps_keys e.1

none_keep : (ms : List Move) → ms ≡ [] → EachMove keeps_keys ms
none_keep ms e = subst (EachMove keeps_keys) (sym e) tt

written_now_keep : (f : Frame) (ms : List Move) → IsWrittenNow f ms → EachMove keeps_keys ms
written_now_keep f [] h = absurd h
written_now_keep f (x ∷ []) h = absurd h
written_now_keep f (x ∷ y ∷ []) h = (write_keeps f x h.0, (end_keeps f y h.1, tt))
written_now_keep f (x ∷ y ∷ z ∷ ms) h = absurd h

written_if_keep : (changed : Bool) (f : Frame) (ms : List Move) → IsWrittenIf changed f ms → EachMove keeps_keys ms
written_if_keep true f ms h = written_now_keep f ms h
written_if_keep false f ms h = none_keep ms h

ended_first_keep : (again : Bool) (f : Frame) (ms : List Move) → IsEndedFirst again f ms → EachMove keeps_keys ms
ended_first_keep again f [] h = absurd h
ended_first_keep again f (x ∷ ms) (inl h) = (ap keeps_keys h.0, written_if_keep again f ms h.1)
ended_first_keep again f (x ∷ ms) (inr h) = (ap keeps_keys h.0, none_keep ms h.1)

flush_keeps : (r : Request) (changed : Bool) (f : Frame) (ms : List Move) → FlushesBy r changed f ms → EachMove keeps_keys ms
flush_keeps request.None changed f ms h = written_if_keep changed f ms h
flush_keeps request.Read changed f ms h = written_if_keep changed f ms h
flush_keeps request.Write changed f ms h = ended_first_keep false f ms h
flush_keeps request.WriteAgain changed f ms h = ended_first_keep true f ms h

flushed_keep : (l : FrameLife) (h : Held) (ms : List Move) → FlushedAt l h ms → EachMove keeps_keys ms
flushed_keep l (held.Frame f) ms p = let r = record_at l.frames f.0 in flush_keeps r.request r.changed f ms p
flushed_keep l _ ms p = none_keep ms p

flushing_keep : (l : FrameLife) (ks : List Key) (ms : List Move) → Flushing l ks ms → EachMove keeps_keys ms
flushing_keep l [] ms h = none_keep ms h
flushing_keep l (k ∷ ks) ms h =
    subst (EachMove keeps_keys) (sym h.1.1.0) (each_then keeps_keys h.0 h.1.0 (flushed_keep l (l.stands k) h.0 h.1.1.1) (by_end (ends_lost h.0) (λ e. none_keep h.1.0 (h.1.1.2 e)) (λ e. flushing_keep (life_through l h.0) ks h.1.0 (h.1.1.3 e))))
  where
    by_end : (b : Bool) → (b ≡ true → EachMove keeps_keys h.1.0) → (b ≡ false → EachMove keeps_keys h.1.0) → EachMove keeps_keys h.1.0
    by_end true f g = f refl
    by_end false f g = g refl

-- ---- a line of whatever form, of which ages and waits are told by its moves alone

pub record Plain (e : Event) (w : World) (a : Answer) (b : Behind) : Type 0 where
  pub ages : (ms : List Move) → ages_of_line w e a b ms ≡ ages_through ms b.ages
  pub waits : (ws : ℕ → Waiting) (l : FrameLife) → waits_of_line w e a b ws l ≡ ws

module _ (n : ℕ) (k : LineKind) (e : Event) (w : World) (a : Answer) (v : World) where
  abbrev at : Move
  at = move.At n k

  module _ (u : Bool) (s m z : StoreOf) (b y c : Behind) (plain : Plain e w a b) where
    abbrev There : List Move → Type 0
    There ms = TellsLine n k e w a v z.report b ms c

    abbrev Done : List Move → Type 0
    Done ms = Does w e a v z.report (with_line at b) ms c

    abbrev Noted : Type 0
    Noted = u ≡ false → LineWent false at There s z b c

    tells : (ms : List Move) → IsOneWay ms → Done ms → c.ages ≡ ages_through ms b.ages → c.waits ≡ waits_through ms b.waits → There ms
    tells ms way done ages waits = record {
      one_way = way;
      does = done;
      ages = ages ∙ sym (plain.ages ms);
      waits = waits ∙ sym (plain.waits (waits_through ms b.waits) c.life);
    }

    -- keys come to be
    pub marked_turn : (t : Turn) → ((ms : List Move) → AllTurn t ms → AllTurn Makes ms) → ((ms : List Move) → Turned t (with_line at b).life ms → Done ms) → PassesIn u (OneMove at) s m b y → PassesIn u (Turns t) m z y c → Noted
    marked_turn t makes done p q paging =
        went_then n k (Turns t) u s m z b y c There paging
        (λ log ms h. tells ms (inl (makes_keep ms (makes ms h.turned.all))) (done ms h.turned) h.moved.ages h.moved.waits) p q

    -- pages and keys go
    pub marked_ends : (held : Leaving) (from to : ℕ) → ((ms : List Move) (log : Log) → Turns (Ends held from to) (begun_with n k log b) ms c → Done ms) → PassesIn u (OneMove at) s m b y → PassesIn u (Turns (Ends held from to)) m z y c → Noted
    marked_ends held from to done p q paging =
        went_then n k (Turns (Ends held from to)) u s m z b y c There paging
        (λ log ms h. tells ms (inr (ends_take held from to ms h.turned.all)) (done ms log h) h.moved.ages h.moved.waits) p q

    -- a call that makes no move, of which any turn is told
    pub marked_still : ((ms : List Move) → ms ≡ [] → Done ms) → PassesIn u (OneMove at) s m b y → ((turn : Turn) → PassesIn u (Turns turn) m z y c) → Noted
    marked_still done p q paging =
        went_then n k (Exactly []) u s m z b y c There paging
        (λ log ms h. tells ms (inl (none_keep ms h.are)) (done ms h.are) h.moved.ages h.moved.waits) p
        (passed u paging (still m z y c (paged u (Turns Makes) m z y c paging (q Makes)) (paged u (Turns (Ends nothing 0 0)) m z y c paging (q (Ends nothing 0 0)))))
      where
        passed : (u : Bool) → u ≡ false → Passes (Exactly []) m z y c → PassesIn u (Exactly []) m z y c
        passed true e h = cc
        passed false e h = h

    -- moves that are known
    pub marked_exactly : (known : Behind → List Move) → ((log : Log) → EachMove keeps_keys (known (begun_with n k log b))) → ((ms : List Move) (log : Log) → ms ≡ known (begun_with n k log b) → Done ms) → PassesIn u (OneMove at) s m b y → PassesIn u (λ x ms d. Exactly (known x) x ms d) m z y c → Noted
    marked_exactly known keeps done p q paging =
        went_then n k (λ x ms d. Exactly (known x) x ms d) u s m z b y c There paging
        (λ log ms h. tells ms (inl (subst (EachMove keeps_keys) (sym h.are) (keeps log))) (done ms log h.are) h.moved.ages h.moved.waits) p q

    pub marked_trims : (pid : Pid) (count : ℕ) → ((ms : List Move) (log : Log) → Trims pid count (begun_with n k log b) ms c → Done ms) → PassesIn u (OneMove at) s m b y → PassesIn u (Trims pid count) m z y c → Noted
    marked_trims pid count done p q paging =
        went_then n k (Trims pid count) u s m z b y c There paging
        (λ log ms h. tells ms (inl (trimmed_keep pid _ ms h.each)) (done ms log h) h.moved.ages h.moved.waits) p q

    pub marked_completes : (i : ℕ) (ok : Bool) → ((ms : List Move) (log : Log) → Completes i ok (begun_with n k log b) ms c → Done ms) → PassesIn u (OneMove at) s m b y → PassesIn u (Completes i ok) m z y c → Noted
    marked_completes i ok done p q paging =
        went_then n k (Completes i ok) u s m z b y c There paging
        (λ log ms h. tells ms (inl (subst (EachMove keeps_keys) (sym h.one) (ending_keeps (record_at (begun_with n k log b).life.frames h.frame) (frame_of h.frame) ok, tt))) (done ms log h) h.moved.ages h.moved.waits) p q

    pub marked_flushes : (keys : List Key) → ((ms : List Move) → Flushing (with_line at b).life keys ms → Done ms) → PassesIn u (OneMove at) s m b y → PassesIn u (Flushes keys) m z y c → Noted
    marked_flushes keys done p q paging =
        went_then n k (Flushes keys) u s m z b y c There paging
        (λ log ms h. tells ms (inl (flushing_keep (begun_with n k log b).life keys ms h.pages)) (done ms h.pages) h.moved.ages h.moved.waits) p q

    -- none at all
    pub marked_none : ((ms : List Move) → ms ≡ [] → Done ms) → PassesIn u (OneMove at) s m b y → PassesIn u NoMove m z y c → Noted
    marked_none done p q paging =
        went_then n k NoMove u s m z b y c There paging
        (λ log ms h. tells ms (inl (none_keep ms h.none)) (done ms h.none)
        (ap (λ (x : Behind). x.ages) h.same ∙ ap (λ t. ages_through t b.ages) (sym h.none))
        (ap (λ (x : Behind). x.waits) h.same ∙ ap (λ t. waits_through t b.waits) (sym h.none))) p q

  -- a line that makes no call
  pub marked_alone : (u : Bool) (s z : StoreOf) (b c : Behind) → Plain e w a b → Does w e a v z.report (with_line at b) [] c → PassesIn u (OneMove at) s z b c → u ≡ false → LineWent false at (λ ms. TellsLine n k e w a v z.report b ms c) s z b c
  marked_alone u s z b c plain done p paging =
      went_alone n k u s z b c (λ ms. TellsLine n k e w a v z.report b ms c) paging
      (λ log same. record {
        one_way = inl tt;
        does = done;
        ages = ap (λ (x : Behind). x.ages) same ∙ sym (plain.ages []);
        waits = ap (λ (x : Behind). x.waits) same ∙ sym (plain.waits b.waits c.life);
      }) p

-- ---- a line that ran out of memory

-- keys came to be, and no slot changed
abbrev Adds : Behind → Behind → List Move → Type 0
Adds b c ms = AllTurn Makes ms × (c.slots ≡ b.slots)

module _ (w : World) (e : Event) (n : ℕ) (k : LineKind) (a : Answer) (is : kind_of_line w e a ≡ k) where
  halted : (beside : Bool) (s z : StoreOf) (b c : Behind) → LineWent beside (move.At n k) (Adds b c) s z b c → Halted w e n b c
  halted beside s z b c h =
      record { piece = move.At n k ∷ h.moves; in_range = h.in_range; grew = h.grew; replays = h.replays; slots = h.that.1; cut = inr (a, (h.moves, (ap (λ (x : LineKind). move.At n x ∷ h.moves) (sym is), h.that.0))) }

  pub halted_makes : (u : Bool) (s m z : StoreOf) (b y c : Behind) → PassesIn u (OneMove (move.At n k)) s m b y → PassesIn u (Turns Makes) m z y c → u ≡ false → Halted w e n b c
  halted_makes u s m z b y c p q paging =
      halted false s z b c (went_then n k (Turns Makes) u s m z b y c (Adds b c) paging (λ log ms h. (h.turned.all, h.slots)) p q)

  pub halted_notes : (u : Bool) (s m z : StoreOf) (b y c : Behind) → PassesIn u (OneMove (move.At n k)) s m b y → NotesIn u (Turns Makes) y c → u ≡ false → Halted w e n b c
  halted_notes u s m z b y c p q paging =
      halted true s z b c (noted_then n k (Turns Makes) u s m z b y c (Adds b c) paging (λ log ms h. (h.turned.all, h.slots)) p q)

  pub halted_alone : (u : Bool) (s z : StoreOf) (b c : Behind) → PassesIn u (OneMove (move.At n k)) s z b c → u ≡ false → Halted w e n b c
  halted_alone u s z b c p paging =
      halted false s z b c (went_alone n k u s z b c (Adds b c) paging (λ log same. (tt, ap (λ (x : Behind). x.slots) same)) p)

pub halted_none : (w : World) (e : Event) (n : ℕ) (b c : Behind) → Notes NoMove b c → Halted w e n b c
halted_none w e n b c p =
    record { piece = p.moves; in_range = p.in_range; grew = p.grew; replays = p.replays; slots = ap (λ (x : Behind). x.slots) p.that.same; cut = inl p.that.none }
