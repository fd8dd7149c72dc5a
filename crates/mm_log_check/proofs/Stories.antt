-- The story of a check: what was read, made and counted so far.
use Rattle.std.proofs.Common.{◌≡◌, ℕ, ◌<◌, List, [], ◌∷◌, ◌++◌, Option, sym, ap, ◌∙◌, inl, inr, subst, append_assoc, arith}
use Rattle.mm_types.specs.{Text, Move}
use Rattle.mm_move_rules.specs.{FrameLife, unstarted, is_on, CountsOfLog, spelled_moves, Replays}
use Rattle.mm_move_rules.proofs.{replays_then, spelled-append}
use Rattle.mm_log_check.specs.{TallyOf, CountsNothing, IsReadyToRead, ReadsMoves, Stops, Lines, most_log_bytes, Replayed, Came, Steps, Halts, MovesWereTaken}
use Rattle.mm_log_check.specs.{brought_after, LogReader, Ending}
use Rattle.mm_log_check.specs.Reading.{Reading}
use Rattle.mm_log_check.specs.declared.endings.Ending.TheVariants as ending
use Rattle.mm_log_check.proofs.Counts.{counts_more, brought_snoc}

pub stands_none : (left : Option Text) (r : LogReader) (l : FrameLife) (t : TallyOf) → Reading left left r [] → l ≡ unstarted → CountsNothing t → MovesWereTaken left left r l t
stands_none left r l t reading e new = record { moves = []; reading = reading; replays = e; counts = new.counts; brought = new.brought }

-- the next move was taken, made and counted
pub stands_more : (left mid left' : Option Text) (r r' : LogReader) (l : FrameLife) (t : TallyOf) (m : Move) (l' : FrameLife) (t' : TallyOf)
    → (s : MovesWereTaken left mid r l t) → ReadsMoves left left' r' s.moves l m → Steps m l t l' t' → MovesWereTaken left left' r' l' t'
stands_more left mid left' r r' l t m l' t' s n step =
    let ms = s.moves in
    record {
      moves = ms ++ m ∷ [];
      reading = n.reading;
      replays = replays_then ms (m ∷ []) unstarted l l' s.replays (n.legal, step.after);
      counts = step.counts.counts (brought_after [] ms) s.brought ∙ counts_more ms m t.counts s.counts;
      brought = λ g. step.counts.brought (brought_after [] ms) s.brought g ∙ ap (is_on g) (sym (brought_snoc [] ms m));
    }

replayed : (left left' : Option Text) (held : Text) (ms : List Move) (total : ℕ) (l : FrameLife) → Lines left left' held ms total → Replays ms unstarted l → Replayed left left' held ms l total
replayed left left' held ms total l lines replays =
    record { taken = lines.taken; took = lines.took; whole = lines.whole; in_range = lines.in_range; replays = replays; total_is = lines.total_is }

-- there is no next move
pub came_stop : (left mid left' : Option Text) (r : LogReader) (l : FrameLife) (t : TallyOf) (e : Ending) → (s : MovesWereTaken left mid r l t) → Stops left left' s.moves l e → Came left left' e l t.counts
came_stop left mid left' r l t e s stop = record {
  moves = s.moves;
  held = stop.held;
  total = stop.total;
  replayed = replayed left left' stop.held s.moves stop.total l stop.lines s.replays;
  counts = λ h. s.counts;
  ends = stop.ends;
}

-- memory was refused for the next move, or once it was made
pub came_halt : (left mid left' : Option Text) (r r' : LogReader) (l : FrameLife) (t : TallyOf) (m : Move) (l' : FrameLife) (c : CountsOfLog)
    → (s : MovesWereTaken left mid r l t) → ReadsMoves left left' r' s.moves l m → Halts m l l' → Came left left' ending.NoMemory l' c
came_halt left mid left' r r' l t m l' c s n (inl same) =
    let lines = n.reading.lines in
    let ms = s.moves in
    let held : Text = spelled_moves (m ∷ []) ++ r'.held in
    record {
      moves = ms;
      held = held;
      total = r'.bytes;
      replayed = record {
        taken = lines.taken;
        took = lines.took;
        whole = lines.whole ∙ ap (λ xs. xs ++ r'.held) (spelled-append ms (m ∷ [])) ∙ append_assoc (spelled_moves ms) (spelled_moves (m ∷ [])) r'.held;
        in_range = s.reading.lines.in_range;
        replays = subst (λ (k : FrameLife). Replays ms unstarted k) (sym same) s.replays;
        total_is = lines.total_is;
      };
      counts = λ e. cc;
      ends = tt;
    }
came_halt left mid left' r r' l t m l' c s n (inr made) = record {
  moves = s.moves ++ m ∷ [];
  held = r'.held;
  total = r'.bytes;
  replayed = replayed left left' r'.held (s.moves ++ m ∷ []) r'.bytes l' n.reading.lines (replays_then s.moves (m ∷ []) unstarted l l' s.replays (n.legal, made));
  counts = λ e. cc;
  ends = tt;
}

-- so many lines have more bytes than a log may have
pub came_full : (left left' : Option Text) (r : LogReader) (l : FrameLife) (t : TallyOf) → IsReadyToRead r → most_log_bytes < r.lines → Came left left' ending.TooLong l t.counts
came_full left left' r l t ready many = absurd (omega (arith, ready.few, ready.lines, many))

pub number_is : (left left' : Option Text) (r : LogReader) (l : FrameLife) (t : TallyOf) → MovesWereTaken left left' r l t → t.counts.moves ≡ r.lines
number_is left left' r l t s = ap (λ (c : CountsOfLog). c.moves) s.counts ∙ sym s.reading.number

pub ruleset stories = (stands_none, number_is)
