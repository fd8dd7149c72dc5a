-- What a line noted, and what its function ensures of tables and store, is the promise of a world over them.
use Rattle.std.proofs.Common.{◌≡◌, ℕ, ◌+◌, List, [], ◌∷◌, Bool, true, false, Option, Some, None, refl, sym, ap, ◌∙◌, subst, cond, is_some, not, inl, inr, ◌≤◌, ◌<◌, ◌^◌, length, arith}
use Rattle.std.specs.Prelude.{◌⊎◌, Result, Ok, Err, OnOk, OnErr, option_map, unwrap_or}
use Rattle.std.proofs.lemmas.Bool.{cond_both}
use Rattle.mm_types.specs.{Answer, Event, LineKind, Move, Key, MachineOf}
use Rattle.mm_move_rules.specs.{FrameLife, is_live, is_dead, after_at, Replays}
use Rattle.mm_world.specs.{Page, ProcessOf, process_of, process_with, KeptOf, content_of, is_file_key, kept_by, Tables, world_with, charge, limit}
use Rattle.mm_world.specs.World.{World}
use Rattle.mm_types.proofs.{parts, some_found}
use Rattle.mm_store.specs.{StoreOf, PagingStands, StandsIn}
use Rattle.mm_store.specs.Behind.{Behind}
use Rattle.mm_line_moves.specs.{kind_of_line, made_process, kind_of_growth, kept_kind, lives, Agrees, TurnsKeys, HoldsBeside, LineNoted, Broken, Line}
use Rattle.mm_object_tables.specs.{FitsTables, MadeAtMost, key_bytes, is_paging, IsTidy}
use Rattle.mm_dispatch.specs.{KeepsTables, is_later, IsOneWay, IsCutLine, Marked, MarkedIn, Halted, HaltedIn, Decided, Idle, EndsWaits, Scene, StaysSound}
use Rattle.mm_dispatch.specs.{NotesMoves, Decides, Breaks, scene_of, AskedBeside}
use Rattle.mm_dispatch.proofs.Alike.{live-with, row_key-with, block_of-with}
use Rattle.mm_dispatch.proofs.Marking.{keys_made, keys_gone, none_made}
use Rattle.mm_world.specs.Report.{Report}
use Rattle.mm_world.proofs.{tables_back}
use Rattle.mm_dispatch.proofs.With.{charge-with, process-with}
use Rattle.mm_dispatch.proofs.Readiness.{idle_in}
use Rattle.mm_types.specs.declared.answers.Answer.TheVariants as answer
use Rattle.mm_types.specs.declared.events.Event.TheVariants as event
use Rattle.mm_types.specs.declared.moves.LineKind.TheVariants as kind
use Rattle.mm_types.specs.declared.moves.Move.TheVariants as move

-- ---- an `at` leaves keys as they are

at_keeps : (l : FrameLife) (n : ℕ) (k : LineKind) → is_later k ≡ true → ((after_at l n k).stands ≡ l.stands) × ((after_at l n k).paging ≡ l.paging)
at_keeps l n (kind.Machine frames slots depth blocks) e = cc
at_keeps l n _ e = (refl, refl)

at_live : (l : FrameLife) (n : ℕ) (k : LineKind) → is_later k ≡ true → (q : Key) → is_live (after_at l n k) q ≡ is_live l q
at_live l n k e q = ap (λ f. not (is_dead (f q))) ((at_keeps l n k e).0)

either_later : (b : Bool) (k : LineKind) → is_later k ≡ true → is_later (cond b k kind.Call) ≡ true
either_later b k e = cond_both b k kind.Call (λ k. is_later k ≡ true) (λ _. e) (λ _. refl)

process_later : (a : Answer) (min max : ℕ) → is_later (made_process a min max) ≡ true
process_later (answer.NewProcess pid) min max = refl
process_later _ min max = refl

grown_later : (a : Answer) (n : ℕ) → is_later (kind_of_growth a n) ≡ true
grown_later (answer.Limit limit) n = refl
grown_later _ n = refl

kept_later : (o : Option KeptOf) → is_later (kept_kind o) ≡ true
kept_later None = refl
kept_later (Some k) = refl

call_or_later : (b : Bool) (k : LineKind) → is_later k ≡ true → is_later (cond b kind.Call k) ≡ true
call_or_later b k e = cond_both b kind.Call k (λ k. is_later k ≡ true) (λ _. refl) (λ _. e)

kind_later : (w : World) (e : Event) (a : Answer) → is_later (kind_of_line w e a) ≡ true
kind_later w (event.Process min max) a = process_later a min max
kind_later w (event.Exit pid) a = either_later (lives w pid) (kind.Unbind pid) refl
kind_later w (event.Free pid addr size type) a = either_later (lives w pid) (kind.Unbind pid) refl
kind_later w (event.Unmap pid addr) a = either_later (lives w pid) (kind.Unbind pid) refl
kind_later w (event.Read pid addr len) a = either_later (lives w pid) (kind.Access pid) refl
kind_later w (event.Write pid addr bytes) a = either_later (lives w pid) (kind.Access pid) refl
kind_later w (event.Exec pid addr) a = either_later (lives w pid) (kind.Access pid) refl
kind_later w (event.Begin tid pid what) a = call_or_later (is_some (kept_by w tid.0)) (cond (lives w pid) (kind.Thread pid) kind.Call) (either_later (lives w pid) (kind.Thread pid) refl)
kind_later w (event.Resume tid) a = kept_later (kept_by w tid.0)
kind_later w (event.Trim pid n) a = either_later (lives w pid) (kind.Trim pid) refl
kind_later w (event.Grow n) a = grown_later a n
kind_later w _ a = refl

-- ---- store and tables

pub stands : (u : Bool) (c : Key → Option Page) (s : StoreOf) (b : Behind) → u ≡ false → StandsIn u c s b → PagingStands c s b
stands true c s b e h = cc
stands false c s b e h = h

module _ (t : Tables) (c : Key → Option Page) (s : StoreOf) (b : Behind) (fits : FitsTables t c s) (h : PagingStands c s b) where
  abbrev w : World
  w = world_with t (key_bytes c)

  lives_in : (k : Key) → is_live b.life k ≡ is_some (content_of w k)
  lives_in k = h.live k ∙ fits.live k ∙ sym (live-with t (key_bytes c) k)

  listed_in : (k : Key) → b.life.paging k ≡ true → is_some (content_of w k) ≡ true
  listed_in k e =
      let listed : is_paging t k ≡ true = sym (fits.paging k) ∙ sym (h.paging k) ∙ e in
      live-with t (key_bytes c) k ∙ (parts (is_some (content_of t k)) (not (is_file_key t k)) listed).0

  pub agrees : Agrees w s.report b
  agrees = record {
    keys = lives_in;
    places = λ p f valid.
        let k = some_found (s.names p) (h.valid p f valid) in
        (k.0, (row_key-with t (key_bytes c) p ∙ fits.named p k.0 k.1, h.named p f valid ∙ k.1));
    counts = h.counts;
    whereabouts = h.whereabouts;
    waits = h.waits;
    machine = h.machine ∙ fits.machine;
    slots = h.slots ∙ ap (λ (m : MachineOf). m.slots) fits.machine;
    blocks = λ k. sym (h.block k) ∙ fits.blocks k ∙ sym (block_of-with t (key_bytes c) k);
  }

-- ---- the line

module _ (e : Event) (a : Answer) (t : Tables) (old : Key → Option Page) (s : StoreOf) (b : Behind) (after : Tables) (new : Key → Option Page) (z : StoreOf) (c : Behind) (fits : FitsTables t old s) (h : PagingStands old s b) (fits' : FitsTables after new z) (h' : PagingStands new z c) where
  abbrev x : World
  x = world_with t (key_bytes old)

  abbrev v : World
  v = world_with after (key_bytes new)

  abbrev Here : Type 0
  Here = LineNoted x s.report b s.paging_device s.file_device s.file_blocks e a v z.report c z.paging_device z.file_device z.file_blocks

  abbrev Held : Type 0
  Held = HoldsBeside x e a b.slots c.slots s.file_blocks z.file_blocks

  turned : (n : ℕ) (k : LineKind) (ms : List Move) → is_later k ≡ true → IsOneWay ms → Replays ms (after_at b.life n k) c.life → TurnsKeys x v ms
  turned n k ms later (inl keep) r =
      keys_made x v (after_at b.life n k) c.life (λ q. at_live b.life n k later q ∙ lives_in t old s b fits h q) (lives_in after new z c fits' h') ms r keep
  turned n k ms later (inr take) r =
      keys_gone x v (after_at b.life n k) c.life (λ q on. listed_in t old s b fits h q (ap (λ f. f q) (sym ((at_keeps b.life n k later).1)) ∙ on)) (lives_in after new z c fits' h') ms r take

  noted_at : Held → Marked e (b.life.line + 1) x s b a v z c → Here
  noted_at beside m = record {
    piece = move.At (b.life.line + 1) (kind_of_line x e a) ∷ m.moves;
    in_range = m.in_range;
    grew = m.grew;
    replays = m.replays;
    line = record {
      moves = m.moves;
      begins = refl;
      agrees = agrees after new z c fits' h';
      keys = turned (b.life.line + 1) (kind_of_line x e a) m.moves (kind_later x e a) m.that.one_way m.replays.1;
      does = m.that.does;
      ages = m.that.ages;
      waits = m.that.waits;
      told = m.told;
      traffic = m.traffic;
      beside = beside;
    };
  }

  noted_by : (n : ℕ) → n ≡ s.line + 1 → Held → Marked e n x s b a v z c → Here
  noted_by n next beside m = noted_at beside (subst (λ (k : ℕ). Marked e k x s b a v z c) (next ∙ ap (λ l. l + 1) (sym h.line)) m)

pub line-noted : (u : Bool) (e : Event) (n : ℕ) (t : Tables) (old : Key → Option Page) (s : StoreOf) (b : Behind) (a : Answer) (after : Tables) (new : Key → Option Page) (z : StoreOf) (c : Behind) → u ≡ false → n ≡ s.line + 1 → FitsTables t old s → KeepsTables after new z → StandsIn u old s b → StandsIn u new z c → HoldsBeside (world_with t (key_bytes old)) e a b.slots c.slots s.file_blocks z.file_blocks → MarkedIn u e n t old s b a after new z c → LineNoted (world_with t (key_bytes old)) s.report b s.paging_device s.file_device s.file_blocks e a (world_with after (key_bytes new)) z.report c z.paging_device z.file_device z.file_blocks
line-noted u e n t old s b a after new z c paging next fits keeps h h' beside m =
    noted_by e a t old s b after new z c fits (stands u old s b paging h) keeps.fits (stands u new z c paging h') n next beside (m paging)

-- ---- a line that ran out of memory

module _ (w : World) (e : Event) (old new : Key → Option Page) (s z : StoreOf) (b c : Behind) (same : new ≡ old) (h : PagingStands old s b) (h' : PagingStands new z c) where
  -- such a piece, with no key that came to be
  abbrev IsAtMost : ℕ → List Move → Type 0
  IsAtMost n piece = (piece ≡ []) ⊎ ((a : Answer) × (piece ≡ move.At n (kind_of_line w e a) ∷ []))

  cut_short : (n : ℕ) (piece : List Move) → Replays piece b.life c.life → IsCutLine w e n piece → IsAtMost n piece
  cut_short n piece r (inl x) = inl x
  cut_short n piece r (inr (a, (ms, (is, makes)))) =
      let k = kind_of_line w e a in
      let r' = subst (λ (xs : List Move). Replays xs b.life c.life) is r in
      let none = none_made ms (after_at b.life n k) c.life r'.1 makes (λ q. h'.live q ∙ ap (λ (f : Key → Option Page). is_some (f q)) same ∙ sym (h.live q) ∙ sym (at_live b.life n k (kind_later w e a) q)) in
      inr (a, is ∙ ap (λ ms. move.At n k ∷ ms) none)

  broken_by : (n : ℕ) → n ≡ s.line + 1 → Halted w e n b c → Broken w e b c
  broken_by n next m = record {
    piece = m.piece;
    in_range = m.in_range;
    grew = m.grew;
    replays = m.replays;
    slots = m.slots;
    at_most = subst (λ (l : ℕ). IsAtMost l m.piece) (next ∙ ap (λ l. l + 1) (sym h.line)) (cut_short n m.piece m.replays m.cut);
  }

pub line-broken : (u : Bool) (w : World) (e : Event) (n : ℕ) (old new : Key → Option Page) (s z : StoreOf) (b c : Behind) → u ≡ false → n ≡ s.line + 1 → new ≡ old → StandsIn u old s b → StandsIn u new z c → HaltedIn u w e n b c → Broken w e b c
line-broken u w e n old new s z b c paging next same h h' m = broken_by w e old new s z b c same (stands u old s b paging h) (stands u new z c paging h') n next (m paging)

-- ---- the promise

-- ---- the moves of a line, over a store that pages

-- what was noted, if that is told of this store
abbrev NotedIn : Bool → Scene → Event → Answer → Scene → Type 0
NotedIn u s e a z = u ≡ false → LineNoted s.world s.report s.behind s.paging s.files s.blocks e a z.world z.report z.behind z.paging z.files z.blocks

pub record Piece (u : Bool) (s : Scene) (e : Event) (a : Answer) (z : Scene) : Type 0 where
  pub moves : List Move
  pub notes : u ≡ false → NotesMoves s.behind moves z.behind
  pub line : u ≡ false → Line s.world s.report s.behind s.paging s.files s.blocks e a moves z.world z.report z.behind z.paging z.files z.blocks

no_way : true ≡ false → ⊥
no_way e = cc

piece_in : (u : Bool) (s : Scene) (e : Event) (a : Answer) (z : Scene) → NotedIn u s e a z → Piece u s e a z
piece_in true s e a z h = record { moves = []; notes = λ paging. absurd (no_way paging); line = λ paging. absurd (no_way paging) }
piece_in false s e a z h =
    let n = h refl in
    record {
      moves = n.piece;
      notes = λ paging. record { in_range = n.in_range; grew = n.grew; replays = n.replays };
      line = λ paging. n.line;
    }

-- ---- a line

-- what threads keep stands in the tables
waits_with : (t : Tables) (bytes : Key → Page) (e : Event) (a : Answer) (after : Report) → EndsWaits t e a after → EndsWaits (world_with t bytes) e a after
waits_with t bytes (event.Exit pid) a after h = h
waits_with t bytes (event.Resume tid) a after h = h
waits_with t bytes _ a after h = tt

-- a million lines make fewer handles than there are numbers of 32 bits
few_handles : (t : Tables) (bytes : Key → Page) (n : ℕ) → n ≤ 1000000 → MadeAtMost n t → (pid : ℕ) (p : ProcessOf Page) → process_of (world_with t bytes) pid ≡ Some p → length p.handles < 2 ^ 32
few_handles t bytes n few made pid p e = by (process_of t pid) refl
  where
    by : (o : Option (ProcessOf (Unit {0}))) → process_of t pid ≡ o → length p.handles < 2 ^ 32
    by None q = (let no : None ≡ Some p = sym (process-with bytes t pid ∙ ap (option_map (process_with bytes pid)) q) ∙ e in cc)
    by (Some r) q =
        let is : Some (process_with bytes pid r) ≡ Some p = sym (process-with bytes t pid ∙ ap (option_map (process_with bytes pid)) q) ∙ e in
        omega (arith, few, made.handles pid r q, ap (λ (o : Option (ProcessOf Page)). length (unwrap_or o (process_with bytes pid r)).handles) is)

module _ (u : Bool) (n : ℕ) (t : Tables) (old : Key → Option Page) (s : StoreOf) (b : Behind) (after : Tables) (new : Key → Option Page) (z : StoreOf) (c : Behind) where
  abbrev before : Scene
  before = scene_of t old s b

  abbrev behind : Scene
  behind = scene_of after new z c

  -- what tables and store keep at all times
  pub record Standing : Type 0 where
    pub next : n ≡ s.line + 1
    pub stands : StandsIn u old s b
    pub stands_after : StandsIn u new z c
    pub tidy : IsTidy after
    pub within : charge after ≤ limit after

  sound : Standing → StaysSound u before behind
  sound h = record {
    within = omega (arith, charge-with after (key_bytes new), h.within);
    lives = subst (λ (t : Tables). IsTidy t) (sym (tables_back (key_bytes new) after)) h.tidy;
    unwaited_before = λ never tid. idle_in u old s b h.stands never tid;
    unwaited = λ never tid. idle_in u new z c h.stands_after never tid;
  }

  pub decides : (e : Event) (a : Answer) → n ≤ 1000000 → FitsTables t old s → Standing → Decided u e n t old s a after new z → EndsWaits t e a z.report → (u ≡ false → AskedBeside t.blocks_used e a s.paging_device z.paging_device s.file_device z.file_device s.file_blocks z.file_blocks × HoldsBeside (world_with t (key_bytes old)) e a b.slots c.slots s.file_blocks z.file_blocks) → MarkedIn u e n t old s b a after new z c → Decides u before e a behind
  decides e a few fits h d waits beside marked =
      let p = piece_in u before e a behind (λ paging. line-noted u e n t old s b a after new z c paging h.next fits d.keeps h.stands h.stands_after (beside paging).1 marked) in
      record {
        stepped = d.stepped;
        moves = p.moves;
        notes = p.notes;
        told = assumption (
          sound h,
          λ (paging : u ≡ false). (beside paging).0,
          d.devices,
          d.keeps.fits,
          d.flushed,
          waits_with t (key_bytes old) e a z.report waits,
          few_handles after (key_bytes new) n few (subst (λ (k : ℕ). MadeAtMost k after) d.line_is d.keeps.few),
          p.line,
        );
      }

  pub breaks : (e : Event) → Standing → Idle t old s after new z → HaltedIn u (world_with t (key_bytes old)) e n b c → Breaks u before e behind
  breaks e h i halted = record {
    sound = sound h;
    world = λ j. world_with (i.tables j) (key_bytes (i.contents j));
    paging = i.paging;
    files = i.files;
    blocks = i.blocks;
    broken = λ paging. line-broken u (world_with t (key_bytes old)) e n old new s z b c paging h.next i.contents h.stands h.stands_after halted;
  }

-- ---- results

-- what follows where a line was decided
pub at-ok : {A E : Type 0} {P : Type 0} (r : Result A E) → ((a : A) → r ≡ Ok a → P) → OnOk r P
at-ok (Ok a) h = h a refl
at-ok (Err x) h = tt

-- and where memory ran out
pub at-err : {A E : Type 0} {P : Type 0} (r : Result A E) → ((x : E) → r ≡ Err x → P) → OnErr r P
at-err (Ok a) h = tt
at-err (Err x) h = h x refl
