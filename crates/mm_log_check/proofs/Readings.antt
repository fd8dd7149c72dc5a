-- A log that is read line by line.
use Rattle.std.proofs.Common.{◌≡◌, ℕ, suc, ◌+◌, ◌-◌, ◌<◌, ◌≤◌, List, [], ◌∷◌, ◌++◌, length, take, drop, Option, None, refl, sym, ap, ◌∙◌, subst, arith, add-one, append_assoc, length-append}
use Rattle.std.proofs.Math.Seq.{take-append_seam, drop-append-add}
use Rattle.std.specs.Prelude.{Result, Ok, Err, MatchResult}
use Rattle.mm_types.specs.{Text, IsEnd, Move}
use Rattle.mm_types.proofs.{took_then, append_nil}
use Rattle.mm_move_rules.specs.{move_text, spelling_of_move, spelled_moves, IsMove, FrameLife, IsLegal}
use Rattle.mm_move_rules.proofs.{spelled-append, moves-append}
use Rattle.mm_replay.proofs.{NoFeed, move_onto-is, move_no_feed, move_short}
use Rattle.mm_io.specs.{FitsLine, HasLine, IsLong, Filled, Finds, Found}
use Rattle.mm_io.specs.declared.buffers.Found.TheVariants as found
use Rattle.mm_log_check.specs.{most_log_bytes, EndsAt, StandsInFront, Lines, ReadsMoves, Stops, TakesNext, LogReader, Ending}
use Rattle.mm_log_check.specs.Reading.{Reading}
use Rattle.mm_log_check.specs.declared.endings.Ending.TheVariants as ending
use Rattle.mm_log_check.proofs.Stuck.{stuck_line, stuck_long, stuck_end, spells_line, spells_long, spells_end}

pub longer : (left left' : Option Text) (held held' : Text) → Filled left left' held held' → length held ≤ length held'
longer left left' held held' f = omega (arith, ap length f.behind, length-append held f.taken)

-- more bytes are held
pub lines_more : (left mid left' : Option Text) (held held' : Text) (moves : List Move) (total total' : ℕ)
    → Lines left mid held moves total → Filled mid left' held held' → total' + length held ≡ total + length held' → Lines left left' held' moves total'
lines_more left mid left' held held' moves total total' r f e = record {
  taken = r.taken ++ f.taken;
  took = took_then left mid left' r.taken f.taken r.took f.took;
  whole = ap (λ xs. xs ++ f.taken) r.whole ∙ append_assoc (spelled_moves moves) held f.taken ∙ ap (λ xs. spelled_moves moves ++ xs) (sym f.behind);
  in_range = r.in_range;
  total_is = omega (arith, e, r.total_is, length-append r.taken f.taken, ap length f.behind, length-append held f.taken);
}

pub lines_here : (left mid left' : Option Text) (held held' : Text) (moves : List Move) (total : ℕ)
    → Lines left mid held moves total → Filled mid left' held held' → Lines left left' held' moves (total + (length held' - length held))
lines_here left mid left' held held' moves total r f =
    lines_more left mid left' held held' moves total (total + (length held' - length held)) r f (omega (arith, longer mid left' held held' f))

-- a line was a move
line_spelled : (m : Move) (line rest : Text) → move_text m ≡ line → spelling_of_move m ++ rest ≡ line ++ 10 ∷ rest
line_spelled m line rest e =
    ap (λ xs. xs ++ rest) (move_onto-is m (10 ∷ [])) ∙ append_assoc (move_text m) (10 ∷ []) rest ∙ ap (λ xs. xs ++ 10 ∷ rest) e

-- the moves so far, and one more
lines_move : (left left' : Option Text) (held : Text) (len total : ℕ) (m : Move) (ms : List Move) → Lines left left' held ms total → HasLine held len → IsMove m → move_text m ≡ take len held
    → Lines left left' (drop (len + 1) held) (ms ++ m ∷ []) total
lines_move left left' held len total m ms a h in_range text =
    let rest : Text = drop (len + 1) held in
    let front : held ≡ take len held ++ 10 ∷ rest = h.feed.whole ∙ ap (λ k. take len held ++ 10 ∷ drop k held) (sym (add-one len)) in
    record {
      taken = a.taken;
      took = a.took;
      whole =
          a.whole ∙ ap (λ xs. spelled_moves ms ++ xs) (front ∙ sym (line_spelled m (take len held) rest text))
          ∙ sym (append_assoc (spelled_moves ms) (spelling_of_move m) rest)
          ∙ ap (λ xs. (spelled_moves ms ++ xs) ++ rest) (sym (append_nil (spelling_of_move m)))
          ∙ ap (λ xs. xs ++ rest) (sym (spelled-append ms (m ∷ [])));
      in_range = moves-append ms (m ∷ []) a.in_range (in_range, tt);
      total_is = a.total_is;
    }

-- the line in front was taken, or is none
pub took_line : (left left' : Option Text) (r r' : LogReader) (len : ℕ) (l : FrameLife) (moves : List Move) (result : Result Move Ending)
    → Lines left left' r.held moves r.bytes → r.lines ≡ length moves → HasLine r.held len → r.bytes ≤ most_log_bytes → TakesNext r r' len l result
    → MatchResult result (λ m. ReadsMoves left left' r' moves l m) (λ e. Stops left left' moves l e)
took_line left left' r r' len l moves (Ok m) lines number h few t = record {
  reading = record {
    lines = subst (λ (n : ℕ). Lines left left' r'.held (moves ++ m ∷ []) n) (sym t.bytes)
        (subst (λ (xs : Text). Lines left left' xs (moves ++ m ∷ []) r.bytes) (sym t.held) (lines_move left left' r.held len r.bytes m moves lines h t.in_range t.text));
    number = omega (arith, t.lines, number, length-append moves (m ∷ []));
  };
  legal = t.legal;
}
took_line left left' r r' len l moves (Err e) lines number h few t = record {
  held = r.held;
  total = r.bytes;
  lines = lines;
  ends = subst (λ (x : Ending). EndsAt x left' moves l r.held r.bytes) (sym t.no) (ap (λ (k : ℕ). k + 1) number, stuck_line l r.held left' len h t.none, few, spells_line l r.held left' len h _ t.spelled);
}

-- ---- a line that was read without seeking its end

front_is : (m : Move) (rest held : Text) → StandsInFront m rest held → held ≡ move_text m ++ 10 ∷ rest
front_is m rest held s = sym s.0 ∙ move_onto-is m (10 ∷ rest)

pub shorter : (m : Move) (rest held : Text) → StandsInFront m rest held → length rest < length held
shorter m rest held s = omega (arith, ap length (front_is m rest held s), length-append (move_text m) (10 ∷ rest))

front_text : (m : Move) (rest held : Text) → StandsInFront m rest held → take (length (move_text m)) held ≡ move_text m
front_text m rest held s = ap (take (length (move_text m))) (front_is m rest held s) ∙ take-append_seam (move_text m) (10 ∷ rest)

front_line : (m : Move) (rest held : Text) → StandsInFront m rest held → HasLine held (length (move_text m))
front_line m rest held s =
    let n : ℕ = length (move_text m) in
    let whole : held ≡ move_text m ++ 10 ∷ rest = front_is m rest held s in
    let front : take n held ≡ move_text m = front_text m rest held s in
    let behind : drop (suc n) held ≡ rest =
    ap (drop (suc n)) whole ∙ ap (λ k. drop k (move_text m ++ 10 ∷ rest)) (sym (add-one n)) ∙ drop-append-add (move_text m) (10 ∷ rest) 1 in
    record {
      feed = record {
        within = omega (arith, ap length whole, length-append (move_text m) (10 ∷ rest));
        whole = whole ∙ ap (λ t. t ++ 10 ∷ rest) (sym front) ∙ ap (λ t. take n held ++ 10 ∷ t) (sym behind);
        first = subst NoFeed (sym front) (move_no_feed m);
      };
      short = omega (arith, move_short m);
    }

pub took_front : (left left' : Option Text) (r r' : LogReader) (l : FrameLife) (moves : List Move) (m : Move) (rest : Text)
    → Reading left left' r moves → StandsInFront m rest r.held → r.bytes ≤ most_log_bytes → IsLegal m l
    → r'.held ≡ drop (length r.held - length rest) r.held → r'.lines ≡ r.lines + 1 → r'.bytes ≡ r.bytes → ReadsMoves left left' r' moves l m
took_front left left' r r' l moves m rest reading s few legal held lines bytes =
    let n : ℕ = length (move_text m) in
    let count : length r.held - length rest ≡ n + 1 = omega (arith, ap length (front_is m rest r.held s), length-append (move_text m) (10 ∷ rest)) in
    took_line left left' r r' n l moves (Ok m) reading.lines reading.number (front_line m rest r.held s) few (record {
      in_range = s.1;
      text = sym (front_text m rest r.held s);
      legal = legal;
      held = held ∙ ap (λ k. drop k r.held) count;
      lines = lines;
      bytes = bytes;
    })

-- ---- ends

stops_here : (left left' : Option Text) (held : Text) (moves : List Move) (total : ℕ) (l : FrameLife) (e : Ending) → Lines left left' held moves total → EndsAt e left' moves l held total → Stops left left' moves l e
stops_here left left' held moves total l e lines ends = record { held = held; total = total; lines = lines; ends = ends }

pub stops_read : (left left' : Option Text) (held : Text) (moves : List Move) (total : ℕ) (l : FrameLife) → Lines left left' held moves total → Stops left left' moves l ending.ReadFault
stops_read left left' held moves total l lines = stops_here left left' held moves total l ending.ReadFault lines tt

pub stops_full : (left left' : Option Text) (held : Text) (moves : List Move) (total : ℕ) (l : FrameLife) → Lines left left' held moves total → most_log_bytes < total → Stops left left' moves l ending.TooLong
stops_full left left' held moves total l lines many = stops_here left left' held moves total l ending.TooLong lines many

-- what was found, where it is known what that is
pub finds_line : (f : Found) (n : ℕ) (left : Option Text) (held : Text) → f ≡ found.Line n → Finds (Ok f) left held → HasLine held n × (length held < n + 1 + 4096)
finds_line f n left held e h = subst (λ (x : Found). Finds (Ok x) left held) e h

pub finds_long : (f : Found) (left : Option Text) (held : Text) → f ≡ found.Long → Finds (Ok f) left held → IsLong held
finds_long f left held e h = (subst (λ (x : Found). Finds (Ok x) left held) e h).0

pub finds_end : (f : Found) (left : Option Text) (held : Text) → f ≡ found.End → Finds (Ok f) left held → FitsLine held × IsEnd left
finds_end f left held e h = subst (λ (x : Found). Finds (Ok x) left held) e h

pub stops_long : (left left' : Option Text) (held : Text) (moves : List Move) (lines total : ℕ) (l : FrameLife) → Lines left left' held moves total → lines ≡ length moves → IsLong held → total ≤ most_log_bytes
    → Stops left left' moves l (ending.No (lines + 1) None)
stops_long left left' held moves lines total l r number h few =
    stops_here left left' held moves total l (ending.No (lines + 1) None) r (ap (λ (k : ℕ). k + 1) number, stuck_long l held left' h, few, spells_long l held left' h)

-- the last line: whole or not
pub stops_last : (left left' : Option Text) (held : Text) (moves : List Move) (lines total : ℕ) (l : FrameLife) (e : Ending) → Lines left left' held moves total → lines ≡ length moves → total ≤ most_log_bytes
    → FitsLine held → IsEnd left' → (held ≡ [] → e ≡ ending.Yes) → (0 < length held → e ≡ ending.No (lines + 1) None) → Stops left left' moves l e
stops_last left left' [] moves lines total l e r number few line end whole cut =
    subst (λ (x : Ending). Stops left left' moves l x) (sym (whole refl)) (stops_here left left' [] moves total l ending.Yes r (refl, end, few))
stops_last left left' (x ∷ xs) moves lines total l e r number few line end whole cut =
    subst (λ (y : Ending). Stops left left' moves l y) (sym (cut (omega arith)))
    (stops_here left left' (x ∷ xs) moves total l (ending.No (lines + 1) None) r (ap (λ (k : ℕ). k + 1) number, stuck_end l (x ∷ xs) left' (omega arith) line end, few, spells_end l (x ∷ xs) left' line end))

pub ruleset readings = (longer, shorter)
