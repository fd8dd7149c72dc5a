-- The first line, and lines after it.
use Rattle.std.proofs.Common.{◌≡◌, ◌<◌, ◌≤◌, ℕ, ◌+◌, List, [], ◌∷◌, ◌++◌, take, drop, length, refl, sym, ap, ◌∙◌, subst, inl, inr, ◌≢◌, ◌⊎◌, arith}
use Rattle.std.specs.Prelude.{Option, Ok, true}
use Rattle.mm_types.specs.{Text, spelling, Event, Answer, MachineOf, limit_of, Move}
use Rattle.mm_io.specs.{HasLine}
use Rattle.mm_script.specs.{IsLine as IsLineFor}
use Rattle.mm_types.specs.declared.answers.Answer.TheVariants as answer
use Rattle.mm_types.specs.declared.events.Event.TheVariants as line
use Rattle.mm_world.specs.{charge, limit, first_world}
use Rattle.mm_world.specs.World.{World}
use Rattle.mm_line_moves.specs.{first_move}
use Rattle.mm_run.specs.declared.endings.Ending.TheVariants as ending
use Rattle.mm_run.specs.{reading_of, Outset, Stage, NotBegun, Running, HasNoted, log_of, IsDecided, MachineIsMade, DecidedLine, IsNextLine, WentOn}
use Rattle.mm_run.specs.{Ending, CameToEnd, HoldsLine, IsUnanswered, outside, stand}
use Rattle.mm_dispatch.specs.{Scene}
use Rattle.mm_script.specs.{is_machine}
use Rattle.mm_run.proofs.Stories.{follows_here, grows_here}
use Rattle.mm_run.proofs.Stops.{is_line, went_to, came_muted, came_broken, came_memory, came_setup}

-- nothing is charged before the first line
within_first : (m : MachineOf) (s : Scene) → s.world ≡ first_world m → charge s.world ≤ limit s.world
within_first m s e = subst (λ (y : World). charge y ≤ limit y) (sym e) (omega arith)

-- the first line is decided
pub first_answered : (m : MachineOf) (o : Outset) (s : Scene) → MachineIsMade m o s → (n : ℕ) → n ≡ limit_of m → IsDecided (NotBegun o) (line.Machine m) (answer.Limit n) (first_move m ∷ []) (Running s)
first_answered m o s made n e = record {
  step = record { machine = m; names = refl; answered = ap (λ k. answer.Limit k) e; one = refl; first = made.first };
  within = within_first m s made.first.world;
  notes = made.notes;
  holds = made.holds;
}

-- a decided line was answered, or was muted
module _ (held : Text) (len n : ℕ) (h : HasLine held len) (small : n < 1000000) (behind : length held < len + 1 + 4096) where
  module _ (a t : Option Text) (kept : Text) (w w' : Stage) (event : Event) (said : Answer) (moves : List Move) (p : reading_of n (take len held) ≡ Ok event) (g : IsLineFor (take len held) event) (s : IsDecided w event said moves w') where
    abbrev one : DecidedLine
    one = record { text = take len held; event = event; answer = said; moves = moves; before = w; after = w' }

    next : IsNextLine n w one
    next = record { follows = follows_here w; says = record { is_line = is_line held len n h small behind; says = p; grammar = g }; decided = s }

    pub told_muted : (log_of w').failed ≡ true → CameToEnd (outside a t kept) (outside a t kept) (stand held n w) ending.MovesFault w'
    told_muted failed = came_muted held len n h small behind a t kept w one refl next failed

    pub told_went : HasNoted w' → (kept' held' : Text) → held' ≡ drop (len + 1) held → kept' ≡ kept ++ spelling said → WentOn (outside a t kept) (outside a t kept') (stand held n w) (stand held' (n + 1) w')
    told_went noted kept' held' rest u = went_to held len n h small behind a t kept w one refl next kept' held' rest noted u

-- a line that was not answered: memory ran out in it, or its moves were not all written
pub came_unanswered : (held : Text) (len n : ℕ) → HoldsLine held len → n < 1000000 → (a t : Option Text) (kept : Text) (s z : Scene) (event : Event) (e : Ending)
    → reading_of n (take len held) ≡ Ok event → IsLineFor (take len held) event → IsUnanswered s event e z → CameToEnd (outside a t kept) (outside a t kept) (stand held n (Running s)) e (Running z) × (e ≢ ending.Usage)
came_unanswered held len n line small a t kept s z event e says grammar (inl short) = (
  subst (λ (k : Ending). CameToEnd (outside a t kept) (outside a t kept) (stand held n (Running s)) k (Running z)) (sym short.0)
      (came_broken held len n line.line small line.behind a t kept s z event says grammar short.1.takes short.1.breaks),
  λ q. let bad : ending.NoMemory ≡ ending.Usage = sym short.0 ∙ q in cc,
)
came_unanswered held len n line small a t kept s z event e says grammar (inr muted) = (
  subst (λ (k : Ending). CameToEnd (outside a t kept) (outside a t kept) (stand held n (Running s)) k (Running z)) (sym muted.0)
      (told_muted held len n line.line small line.behind a t kept (Running s) (Running z) event muted.1.0 muted.1.1.moves says grammar muted.1.1.decided muted.2),
  λ q. let bad : ending.MovesFault ≡ ending.Usage = sym muted.0 ∙ q in cc,
)

-- a device was not opened
pub came_unopened : (held : Text) (len : ℕ) → HoldsLine held len → (a t : Option Text) (kept : Text) (o : Outset) (event : Event) → reading_of 0 (take len held) ≡ Ok event → IsLineFor (take len held) event → is_machine event ≡ true
    → (e : Ending) → (e ≡ ending.NoMemory) ⊎ (e ≡ ending.SetupFault) → CameToEnd (outside a t kept) (outside a t kept) (stand held 0 (NotBegun o)) e (NotBegun o)
came_unopened held len front a t kept o event says grammar is e (inl memory) =
    subst (λ (k : Ending). CameToEnd (outside a t kept) (outside a t kept) (stand held 0 (NotBegun o)) k (NotBegun o)) (sym memory)
    (came_memory held len 0 front.line (omega arith) front.behind a t kept (NotBegun o) (NotBegun o) event says grammar (inl (is, follows_here (NotBegun o))) (grows_here (NotBegun o)))
came_unopened held len front a t kept o event says grammar is e (inr failed) =
    subst (λ (k : Ending). CameToEnd (outside a t kept) (outside a t kept) (stand held 0 (NotBegun o)) k (NotBegun o)) (sym failed)
    (came_setup held len 0 front.line (omega arith) front.behind a t kept (NotBegun o) event refl says is)
