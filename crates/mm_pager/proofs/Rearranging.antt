-- Chores: places are unmapped, frames cleared, writes begun. Frames go from list to list, and no device is called.
use Rattle.std.proofs.Common.{◌≡◌, ℕ, ◌-◌, Bool, true, false, List, [], ◌∷◌, refl, sym, ap, ◌∙◌, subst}
use Rattle.std.specs.Prelude.{◌&&◌, nat_lt, if◌then◌else◌, map, take}
use Rattle.mm_types.specs.{Move, Pid}
use Rattle.mm_types.specs.declared.moves.Move.TheVariants as move
use Rattle.mm_move_rules.specs.{record_at, FrameLife, is_touch, has_depth, after_move, Replays, can_be_written, TrimMove, frame_of, clearings, target}
use Rattle.mm_move_rules.specs.{writes_begun, Waiting, waits_after, Walk, Through, walked, waits_through}
use Rattle.mm_store.specs.{Trims, Clears, WritesOut, Passes, rearranged, told_after, told_through}
use Rattle.mm_store.specs.Told.{Told}
use Rattle.mm_state_calls.specs.{StateOf, moved, DoesMoves, walk_of, StateHolds}
use Rattle.mm_reclaim.specs.{Trimmed}
use Rattle.mm_pager.specs.{LifeKept, OwnOf, StoreKept, store_of, report_of, behind_of}
use Rattle.mm_pager.proofs.Shows.{kept_untouched, passes_of}
use Rattle.mm_pager.proofs.AccessMoves.{kept_same, kept_then, kept_within, blocks_kept}
use Rattle.mm_pager.proofs.LettingGo.{rearranged_by}
use Rattle.mm_reclaim.proofs.{moved_called}

-- ---- moves of chores

abbrev pub IsChore : Move → Type 0
IsChore (move.Unmap p) = Unit {0}
IsChore (move.Clear f) = Unit {0}
IsChore (move.Write f home) = Unit {0}
IsChore m = ⊥

abbrev pub AllChores : List Move → Type 0
AllChores [] = Unit {0}
AllChores (m ∷ ms) = IsChore m × AllChores ms

-- what such a move leaves
record Quiet (l : FrameLife) (m : Move) : Type 0 where
  life : LifeKept l (after_move l m)
  told : (t : Told) → told_after l m t ≡ t
  waits : (w : ℕ → Waiting) → waits_after m w ≡ w

quiet : (l : FrameLife) (m : Move) → IsChore m → Quiet l m
quiet l (move.Unmap p) h = record { life = kept_within l (move.Unmap p) tt; told = λ t. refl; waits = λ w. refl }
quiet l (move.Clear f) h = record { life = kept_within l (move.Clear f) tt; told = λ t. refl; waits = λ w. refl }
quiet l (move.Write f home) h = record { life = kept_within l (move.Write f home) tt; told = λ t. refl; waits = λ w. refl }
quiet l m h = absurd h

life_kept : (ms : List Move) (l m : FrameLife) → AllChores ms → Replays ms l m → LifeKept l m
life_kept [] l m a r = subst (λ (x : FrameLife). LifeKept l x) (sym r) (kept_same l)
life_kept (x ∷ xs) l m a r = kept_then l (after_move l x) m (quiet l x a.0).life (life_kept xs (after_move l x) m a.1 r.1)

told_kept : (ms : List Move) (l : FrameLife) (t : Told) → AllChores ms → told_through l ms t ≡ t
told_kept [] l t a = refl
told_kept (x ∷ xs) l t a = ap (told_through (after_move l x) xs) ((quiet l x a.0).told t) ∙ told_kept xs (after_move l x) t a.1

waits_kept : (ms : List Move) (l : FrameLife) (w : ℕ → Waiting) → AllChores ms → waits_through ms w ≡ w
waits_kept [] l w a = refl
waits_kept (x ∷ xs) l w a = ap (waits_through xs) ((quiet l x a.0).waits w) ∙ waits_kept xs l w a.1

-- ---- which moves they are

of_trim : (pid : Pid) (w : Walk) (m : Move) (ms : List Move) → TrimMove pid w m ms → IsChore m
of_trim pid w (move.Unmap p) ms h = tt
of_trim pid w m ms h = absurd h

all_of_trim : (pid : Pid) (w : Walk) (ms : List Move) → Through (TrimMove pid) w ms → AllChores ms
all_of_trim pid w [] t = tt
all_of_trim pid w (m ∷ ms) t = (of_trim pid w m ms t.0, all_of_trim pid (walked w m) ms t.1)

all_cleared : (fs : List ℕ) → AllChores (map (λ f. move.Clear (frame_of f)) fs)
all_cleared [] = tt
all_cleared (f ∷ fs) = (tt, all_cleared fs)

all_begun : (n : ℕ) (l : FrameLife) (fs : List ℕ) → AllChores (writes_begun n l fs)
all_begun n l [] = tt
all_begun n l (f ∷ fs) = at (nat_lt 0 n && has_depth l) (can_be_written l f) (all_begun (n - 1) (after_move l (move.Write (frame_of f) (target (record_at l.frames f).backing l))) fs) (all_begun n l fs)
  where
    m : Move
    m = move.Write (frame_of f) (target (record_at l.frames f).backing l)

    at : (a b : Bool) → AllChores (writes_begun (n - 1) (after_move l m) fs) → AllChores (writes_begun n l fs) → AllChores (if a then (if b then m ∷ writes_begun (n - 1) (after_move l m) fs else writes_begun n l fs) else [])
    at true true more over = (tt, more)
    at true false more over = over
    at false b more over = tt

-- ---- what a chore leaves

pub record Tidied (ms : List Move) (s z : StateOf) : Type 0 where
  pub does : DoesMoves ms s z
  pub all : AllChores ms
  pub same : z ≡ moved s z

module _ (ms : List Move) (s z : StateOf) (o : OwnOf) (t : Tidied ms s z) where
  life_now : LifeKept s.life z.life
  life_now = life_kept ms s.life z.life t.all t.does.replays

  pub tidied_store : StateHolds s → StateHolds z → store_of z o ≡ record (store_of s o) { report = rearranged (report_of s o) (report_of z o) }
  tidied_store h g =
      rearranged_by s z o life_now (blocks_kept s z ms h g t.does.replays life_now.paging (ap (λ (x : StateOf). x.contents) t.same))
      (t.does.told ∙ told_kept ms s.life s.told t.all) (t.does.waits ∙ waits_kept ms s.life s.waits t.all) t.same

  pub tidied_kept : StoreKept s o → is_touch s.life.kind ≡ false → StoreKept z o
  tidied_kept k still = kept_untouched s z o k still life_now (moved_called s z t.same)

-- ---- each chore

pub by_trim : (pid : Pid) (n : ℕ) (s z : StateOf) (t : Trimmed pid n s z) → Tidied t.moves s z
by_trim pid n s z t = record { does = t.does; all = all_of_trim pid (walk_of s) t.moves t.each; same = t.same }

pub by_clears : (n : ℕ) (s z : StateOf) → DoesMoves (clearings n s.life) s z → z ≡ moved s z → Tidied (clearings n s.life) s z
by_clears n s z d e = record { does = d; all = all_cleared (take n s.life.frames.free); same = e }

pub by_writes : (n : ℕ) (s z : StateOf) → DoesMoves (writes_begun n s.life s.life.frames.modified) s z → z ≡ moved s z → Tidied (writes_begun n s.life s.life.frames.modified) s z
by_writes n s z d e = record { does = d; all = all_begun n s.life s.life.frames.modified; same = e }

pub trim_passes : (pid : Pid) (n : ℕ) (s z : StateOf) (o u : OwnOf) → Trimmed pid n s z → Passes (Trims pid n) (store_of s o) (store_of z u) (behind_of s) (behind_of z)
trim_passes pid n s z o u t = passes_of (Trims pid n) t.moves s z o u t.does (record { each = t.each; count = t.count; moved = record { waits = t.does.waits; ages = t.does.ages }; slots = ap (λ (x : StateOf). x.slots) t.same })

pub zero_passes : (n : ℕ) (s z : StateOf) (o u : OwnOf) → DoesMoves (clearings n s.life) s z → z ≡ moved s z → Passes (Clears n) (store_of s o) (store_of z u) (behind_of s) (behind_of z)
zero_passes n s z o u d e = passes_of (Clears n) (clearings n s.life) s z o u d (record { are = refl; moved = record { waits = d.waits; ages = d.ages }; slots = ap (λ (x : StateOf). x.slots) e })

pub write_passes : (n : ℕ) (s z : StateOf) (o u : OwnOf) → DoesMoves (writes_begun n s.life s.life.frames.modified) s z → z ≡ moved s z → Passes (WritesOut n) (store_of s o) (store_of z u) (behind_of s) (behind_of z)
write_passes n s z o u d e = passes_of (WritesOut n) (writes_begun n s.life s.life.frames.modified) s z o u d (record { are = refl; moved = record { waits = d.waits; ages = d.ages }; slots = ap (λ (x : StateOf). x.slots) e })
