-- What the sink of moves took in a run, and what its devices hold at the end.
use Rattle.std.proofs.Common.{◌≡◌, ◌≢◌, ◌≤◌, ℕ, arith, List, [], ◌∷◌, ◌++◌, Option, Some, None, refl, sym, ap, ◌∙◌, subst, inl, inr, append_assoc}
use Rattle.std.specs.Prelude.{Bool, true, false}
use Rattle.mm_types.specs.{Appended, Text, Event, Move}
use Rattle.mm_types.proofs.{append_nil, appended_none, appended_then, rose_later, rose_then}
use Rattle.mm_move_rules.specs.{FrameLife, unstarted, LogGrew, AreMoves, spelled_moves, Replays}
use Rattle.mm_move_rules.proofs.{replays_then, spelled-append, moves-append}
use Rattle.mm_world.specs.{Page}
use Rattle.mm_line_moves.specs.{DevicesHold}
use Rattle.mm_run.specs.{Ending, Stage, NotBegun, Running, Follows, HasNoted, with_flush, log_of, replay_of, StageNotes, HoldsUnchanged, DecidedLine}
use Rattle.mm_run.specs.{AreAnswered, last_stage, moves_of, TornText, ClosesRun, BreaksAt, Left, StageLeaves, LogRan, EndsHolding, AreDecided}
use Rattle.mm_run.specs.{ClosesEvents}
use Rattle.mm_run.specs.declared.endings.Ending.TheVariants as ending
use Rattle.mm_run.proofs.Stories.{life_follows, bytes_follow, failed_follows}
use Rattle.mm_run.proofs.Events.{decided_of, closed_of}

-- ---- one piece

abbrev front_of : (a b : Option (List ℕ)) (text : List ℕ) (p q : Bool) → LogGrew a b text p q → TornText a b text
front_of None None text p q t = record { front = text; back = []; whole = sym (append_nil text); wrote = tt }
front_of None (Some b) text p q t = absurd t
front_of (Some a) None text p q t = absurd t
front_of (Some a) (Some b) text p q t = record { front = t.front; back = t.behind; whole = t.whole; wrote = t.written }

-- all of it, where the sink has not failed
front_whole : (a b : Option (List ℕ)) (text : List ℕ) (p q : Bool) (t : LogGrew a b text p q) → q ≡ false → (front_of a b text p q t).back ≡ []
front_whole None None text p q t e = refl
front_whole None (Some b) text p q t e = absurd t
front_whole (Some a) None text p q t e = absurd t
front_whole (Some a) (Some b) text p q t e = t.all e

all_of : (a b : Option (List ℕ)) (text : List ℕ) (p q : Bool) → q ≡ false → LogGrew a b text p q → Appended a b text
all_of None None text p q e t = tt
all_of None (Some b) text p q e t = absurd t
all_of (Some a) None text p q e t = absurd t
all_of (Some a) (Some b) text p q e t =
    t.written ∙ ap (λ xs. a ++ xs) (sym (t.whole ∙ ap (λ xs. t.front ++ xs) (t.all e) ∙ append_nil t.front))

-- ---- the answered lines

pub record Logged (old : Stage) (moves : List Move) (last : Stage) : Type 0 where
  pub in_range : AreMoves moves
  pub replays : Replays moves (replay_of old) (replay_of last)
  pub wrote : Appended (log_of old).bytes (log_of last).bytes (spelled_moves moves)
  pub later : (log_of old).faults ≤ (log_of last).faults
  pub noted : HasNoted old → HasNoted last

logged_here : (old : Stage) → Logged old [] old
logged_here old = record { in_range = tt; replays = refl; wrote = appended_none (log_of old).bytes; later = omega arith; noted = λ h. h }

one_logged : (old new : Stage) (moves : List Move) → StageNotes old moves new → HasNoted new → Logged old moves new
one_logged old new moves n h = record {
  in_range = n.in_range;
  replays = n.replays;
  wrote = all_of (log_of old).bytes (log_of new).bytes (spelled_moves moves) (log_of old).failed (log_of new).failed h n.grew.told;
  later = n.grew.later;
  noted = λ before. h;
}

-- at a stage that another one follows
logged_from : (a b c : Stage) (moves : List Move) → Follows a b → Logged b moves c → Logged a moves c
logged_from a b c moves h l = record {
  in_range = l.in_range;
  replays = subst (λ (f : FrameLife). Replays moves f (replay_of c)) (life_follows a b h) l.replays;
  wrote = subst (λ (x : Option Text). Appended x (log_of c).bytes (spelled_moves moves)) (bytes_follow a b h) l.wrote;
  later = omega (arith, h.later, l.later);
  noted = λ before. l.noted (failed_follows a b h ∙ before);
}

logged_then : (a b c : Stage) (xs ys : List Move) → Logged a xs b → Logged b ys c → Logged a (xs ++ ys) c
logged_then a b c xs ys u v = record {
  in_range = moves-append xs ys u.in_range v.in_range;
  replays = replays_then xs ys (replay_of a) (replay_of b) (replay_of c) u.replays v.replays;
  wrote = subst (λ (x : Text). Appended (log_of a).bytes (log_of c).bytes x) (sym (spelled-append xs ys))
      (appended_then (log_of a).bytes (log_of b).bytes (log_of c).bytes (spelled_moves xs) (spelled_moves ys) u.wrote v.wrote);
  later = omega (arith, u.later, v.later);
  noted = λ before. v.noted (u.noted before);
}

pub events_logged : (old : Stage) (lines : List DecidedLine) → AreDecided old lines → Logged old (moves_of lines) (last_stage old lines)
events_logged old [] u = logged_here old
events_logged old (l ∷ ls) u =
    logged_then old l.after (last_stage l.after ls) l.moves (moves_of ls)
    (logged_from old l.before l.after l.moves u.0.follows (one_logged l.before l.after l.moves u.0.decided.notes u.1))
    (events_logged l.after ls u.2)

pub all_logged : (n : ℕ) (old : Stage) (lines : List DecidedLine) → AreAnswered n old lines → Logged old (moves_of lines) (last_stage old lines)
all_logged n old lines u = events_logged old lines (decided_of n old lines u)

-- ---- the end

pub bytes_left : (end : Stage) (x : Left) → StageLeaves end x → (log_of end).bytes ≡ x.moves
bytes_left (NotBegun o) x h = h.bytes_are
bytes_left (Running s) x h = h.0.bytes_are

faults_left : (end : Stage) (x : Left) → StageLeaves end x → (log_of end).faults ≤ x.moves_faults
faults_left (NotBegun o) x h = h.faults_are
faults_left (Running s) x h = h.0.faults_are

-- nothing is missing where this would blame a sink that has not failed
none_missing : {R : Type 0} (back : Text) (q : Bool) → (q ≡ false → back ≡ []) → (q ≡ true → R) → (R → ⊥) → back ≡ []
none_missing back false all blame calm = all refl
none_missing back true all blame calm = absurd (calm (blame refl))

module _ (old last : Stage) (moves : List Move) (l : Logged old moves last) (start : replay_of old ≡ unstarted) (fresh : HasNoted old) where
  from_start : Replays moves unstarted (replay_of last)
  from_start = subst (λ (f : FrameLife). Replays moves f (replay_of last)) start l.replays

  -- nothing more was noted
  log_whole : (e : Ending) (end : Stage) → Follows last end → LogRan (log_of old).bytes (log_of end).bytes (log_of old).faults (log_of end).faults moves e last end
  log_whole e end h = record {
    more = [];
    in_range = moves-append moves [] l.in_range tt;
    replays = from_start;
    replays_more = life_follows last end h;
    wrote = record {
      front = spelled_moves (moves ++ []);
      back = [];
      whole = sym (append_nil (spelled_moves (moves ++ [])));
      wrote = subst (λ (x : Option Text). Appended (log_of old).bytes x (spelled_moves (moves ++ []))) (sym (bytes_follow last end h))
          (subst (λ (ms : List Move). Appended (log_of old).bytes (log_of last).bytes (spelled_moves ms)) (sym (append_nil moves)) l.wrote);
    };
    none = λ a b. refl;
    whole = λ a b. refl;
    unless = λ calm. refl;
  }

  -- a line more was noted, as far as the sink took it
  log_more : (e : Ending) (mid end : Stage) (more : List Move) → Follows last mid → StageNotes mid more end → ((e ≢ ending.NoMemory) → (e ≢ ending.MovesFault) → ⊥) → LogRan (log_of old).bytes (log_of end).bytes (log_of old).faults (log_of end).faults moves e last end
  log_more e mid end more h n never =
      let t = front_of (log_of mid).bytes (log_of end).bytes (spelled_moves more) (log_of mid).failed (log_of end).failed n.grew.told in
      record {
        more = more;
        in_range = moves-append moves more l.in_range n.in_range;
        replays = from_start;
        replays_more = subst (λ (f : FrameLife). Replays more f (replay_of end)) (life_follows last mid h) n.replays;
        wrote = record {
          front = spelled_moves moves ++ t.front;
          back = t.back;
          whole = spelled-append moves more ∙ ap (λ xs. spelled_moves moves ++ xs) t.whole ∙ sym (append_assoc (spelled_moves moves) t.front t.back);
          wrote = appended_then (log_of old).bytes (log_of mid).bytes (log_of end).bytes (spelled_moves moves) t.front
              (subst (λ (x : Option Text). Appended (log_of old).bytes x (spelled_moves moves)) (sym (bytes_follow last mid h)) l.wrote) t.wrote;
        };
        none = λ a b. absurd (never a b);
        whole = λ a b. absurd (never a b);
        unless = none_missing t.back (log_of end).failed (front_whole (log_of mid).bytes (log_of end).bytes (spelled_moves more) (log_of mid).failed (log_of end).failed n.grew.told) (λ bad. elim (n.grew.cause bad) [
          | inl was ↦ (let clash : true ≡ false = sym was ∙ failed_follows last mid h ∙ l.noted fresh in cc)
          | inr rose ↦ rose_later (log_of old).faults (log_of mid).faults (log_of end).faults (omega (arith, l.later, h.later)) rose
        ]);
      }

  break_notes : (e : Ending) (event : Event) (mid end : Stage) → e ≡ ending.NoMemory → Follows last mid → BreaksAt event mid end → LogRan (log_of old).bytes (log_of end).bytes (log_of old).faults (log_of end).faults moves e last end
  break_notes e event (NotBegun o) end q h b = absurd b
  break_notes e event (Running s) (NotBegun o) q h b = absurd b
  break_notes e event (Running s) (Running z) q h b =
      let p = b.broken refl in
      log_more e (Running s) (Running z) p.piece h (record { in_range = p.in_range; grew = p.grew; replays = p.replays }) (λ n m. n q)

  pub log_closed : (e : Ending) (end : Stage) → ClosesEvents e last end → LogRan (log_of old).bytes (log_of end).bytes (log_of old).faults (log_of end).faults moves e last end
  log_closed ending.NoMemory end (inl h) = log_whole ending.NoMemory end h
  log_closed ending.NoMemory end (inr b) = break_notes ending.NoMemory b.0 b.1.before end refl b.1.follows b.1.breaks
  log_closed ending.MovesFault end (inl h) = log_whole ending.MovesFault end h
  log_closed ending.MovesFault end (inr m) =
      subst (λ (z : Stage). LogRan (log_of old).bytes (log_of z).bytes (log_of old).faults (log_of z).faults moves ending.MovesFault last z) (sym m.after)
      (log_more ending.MovesFault m.line.before m.line.after m.line.moves m.next.follows m.next.decided.notes (λ a b. b refl))
  log_closed e end h = log_whole e end h

  pub log_ran : (e : Ending) (n : ℕ) (front : Text) (end : Stage) → ClosesRun e n front last end → LogRan (log_of old).bytes (log_of end).bytes (log_of old).faults (log_of end).faults moves e last end
  log_ran e n front end h = log_closed e end (closed_of e n front last end h)

-- ---- what stands on devices

holds_last : (old : Stage) (lines : List DecidedLine) → HoldsUnchanged old → AreDecided old lines → HoldsUnchanged (last_stage old lines)
holds_last old [] h u = h
holds_last old (l ∷ ls) h u = holds_last l.after ls u.0.decided.holds u.2

holds_with : (g : Option Text) (k : ℕ) (s : Stage) → HoldsUnchanged s → HoldsUnchanged (with_flush g k s)
holds_with g k (NotBegun o) h = h
holds_with g k (Running s) h = h

holds_follows : (a b : Stage) → Follows a b → HoldsUnchanged a → HoldsUnchanged b
holds_follows a b f h = subst HoldsUnchanged (sym f.same) (holds_with (log_of b).given (log_of b).faults a h)

ends_holding : (end : Stage) (x : Left) → StageLeaves end x → HoldsUnchanged end → EndsHolding end x.paging.blocks x.files.blocks
ends_holding (NotBegun o) x l h = tt
ends_holding (Running s) x l h =
    subst (λ (b : List Page). DevicesHold s.world s.behind.life x.paging.blocks b) l.2.blocks_are
    (subst (λ (b : List Page). DevicesHold s.world s.behind.life b s.blocks) l.1.blocks_are h)

pub events_hold : (old : Stage) (lines : List DecidedLine) (end : Stage) (x : Left) → HoldsUnchanged old → AreDecided old lines → Follows (last_stage old lines) end → StageLeaves end x → EndsHolding end x.paging.blocks x.files.blocks
events_hold old lines end x h u f l = ends_holding end x l (holds_follows (last_stage old lines) end f (holds_last old lines h u))

pub holds_at_end : (n : ℕ) (old : Stage) (lines : List DecidedLine) (end : Stage) (x : Left) → HoldsUnchanged old → AreAnswered n old lines → Follows (last_stage old lines) end → StageLeaves end x → EndsHolding end x.paging.blocks x.files.blocks
holds_at_end n old lines end x h u f l = events_hold old lines end x h (decided_of n old lines u) f l

-- the count of faults may rise further
pub log_counted : (took took' : Option Text) (faults counted counted' : ℕ) (moves : List Move) (e : Ending) (last end : Stage) → counted ≤ counted' → LogRan took took' faults counted moves e last end → LogRan took took' faults counted' moves e last end
log_counted took took' faults counted counted' moves e last end more r = record {
  more = r.more;
  in_range = r.in_range;
  replays = r.replays;
  replays_more = r.replays_more;
  wrote = r.wrote;
  none = r.none;
  whole = r.whole;
  unless = λ calm. r.unless (λ rose. calm (rose_then faults counted counted' rose more));
}

pub log_left : (took : Option Text) (faults : ℕ) (moves : List Move) (e : Ending) (last end : Stage) (x : Left) → StageLeaves end x → LogRan took (log_of end).bytes faults (log_of end).faults moves e last end → LogRan took x.moves faults x.moves_faults moves e last end
log_left took faults moves e last end x h r =
    log_counted took x.moves faults (log_of end).faults x.moves_faults moves e last end (faults_left end x h)
    (subst (λ (b : Option Text). LogRan took b faults (log_of end).faults moves e last end) (bytes_left end x h) r)
