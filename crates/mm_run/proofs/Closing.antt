-- What a run did, from what it came to and how it was closed.
use Rattle.std.proofs.Common.{◌≡◌, ◌≢◌, ◌≤◌, ℕ, ◌+◌, true, false, List, [], ◌++◌, length, Option, refl, sym, ap, ◌∙◌, subst, inl, inr, arith, ◌∷◌, append_assoc, length-append}
use Rattle.mm_types.specs.{Appended, Text, spelled, spelling, answer_text}
use Rattle.mm_types.proofs.{append_nil, appended_then, rose_later}
use Rattle.mm_move_rules.specs.{Log, IsFrontOf}
use Rattle.mm_move_rules.proofs.{front_of_then, gave_nothing}
use Rattle.mm_run.specs.{Ending, Stage, NotBegun, Running, outset, log_of, DecidedLine, HoldMovesOf, last_stage, answers_in, moves_of, last_text}
use Rattle.mm_run.specs.{status_of, CameFrom, Comes, FaultCounts, IsBlamed, SettlesRun, StandsAt, fault_counts_with, most_kept, outside, stand, ClosesRun}
use Rattle.mm_run.specs.{DeviceLeft, Left, StageLeaves, IsLeft, IsLogLeft, GaveMoves, Drops, Closed, is_over, IsAccounted, Around}
use Rattle.mm_io.specs.{SinkSeen}
use Rattle.mm_run.specs.{EndsTelling, GaveAll, begun_at}
use Rattle.mm_run.specs.declared.endings.Ending.TheVariants as ending
use Rattle.mm_run.specs.Ran.{Ran}
use Rattle.mm_run.proofs.Stories.{held_both, held_by_more, spelled_lines}
use Rattle.mm_run.proofs.Ends.{stands_whole, out_stands, moves_stand, accounted_behind, accounted_out, accounted_moves, blamed_later, blamed_beside_moves}
use Rattle.mm_run.proofs.Logs.{all_logged, bytes_left, log_ran, log_left, holds_at_end}
use Rattle.mm_run.proofs.Failures.{faultless}
use Rattle.mm_run.proofs.WatchesTold.{watches_told}
use Rattle.mm_run.proofs.Events.{follows_done, closed_of}

-- ---- the sink of moves, as the run is closed

-- what was given on may have grown, and the count of faults
pub record MovesAfter (x y : Left) : Type 0 where
  pub took_is : y.moves ≡ x.moves
  pub grows : IsFrontOf x.gave y.gave
  pub later : x.moves_faults ≤ y.moves_faults
  pub paging_is : y.paging ≡ x.paging
  pub files_is : y.files ≡ x.files

log_after : (log : Log) (x y : Left) → MovesAfter x y → IsLogLeft log x → IsLogLeft log y
log_after log x y m h =
    let f = h.faults_are in
    let l = m.later in
    record {
      bytes_are = h.bytes_are ∙ sym m.took_is;
      gave_more = front_of_then log.given x.gave y.gave h.gave_more m.grows;
      faults_are = omega (arith, f, l);
    }

pub leaves_after : (end : Stage) (x y : Left) → MovesAfter x y → StageLeaves end x → StageLeaves end y
leaves_after (NotBegun o) x y m h = log_after o.log x y m h
leaves_after (Running s) x y m h =
    (log_after s.behind.log x y m h.0, subst (λ (d : DeviceLeft). IsLeft s.paging s.behind.slots d) (sym m.paging_is) h.1, subst (λ (d : DeviceLeft). IsLeft s.files s.blocks d) (sym m.files_is) h.2)

gave_left : (end : Stage) (x : Left) → StageLeaves end x → IsFrontOf (log_of end).given x.gave
gave_left (NotBegun o) x h = h.gave_more
gave_left (Running s) x h = h.0.gave_more

-- ---- the end of a run

-- lines whose answers make no text are none
none_still : (ls : List DecidedLine) → spelled (answers_in ls) ≡ [] → ls ≡ []
none_still [] e = refl
none_still (l ∷ ls) e =
    let short : length (spelling l.answer ++ spelled (answers_in ls)) ≡ 0 = ap length e in
    absurd (omega (arith, short, length-append (spelling l.answer) (spelled (answers_in ls)), length-append (answer_text l.answer) (10 ∷ [])))

module _ (a b : Around) (e : Ending) (form : Type 0) (yes_form : form → e ≢ ending.Usage) (not_form : (form → ⊥) → e ≡ ending.Usage) (o : Option Text) (kept : Text) (x : Left) (h : Comes (outside a.left a.took []) (outside b.left o kept) (stand [] 0 (begun_at a.beside)) e x) (status : ℕ) where
  abbrev came : CameFrom [] (outside a.left a.took []) (outside b.left o kept) (stand [] 0 (begun_at a.beside)) e h.end
  came = h.came [] (record { text_is = refl; noted = tt })

  module _ (moves : MovesAfter x b.beside) where
    ran_by : (told still : List DecidedLine) (written : Text) → came.decided.lines ≡ told ++ still → HoldMovesOf told b.beside.gave → Appended a.took b.took written → EndsTelling a b status e told still written → Ran a b form status
    ran_by told still written split gave wrote ends =
        let d = came.decided in
        let none : 0 + length d.lines ≡ length d.lines = omega arith in
        let closes = subst (λ (k : ℕ). ClosesRun e k d.front (last_stage (begun_at a.beside) d.lines) h.end) none d.closes in
        let leaves = leaves_after h.end x b.beside moves h.leaves in
        record {
          lines = d.lines;
          answered = d.answered;
          limit = let l = d.limit in omega arith;
          watches = λ before after l at. watches_told (outset a.beside.paging.faults a.beside.files.faults a.beside.moves a.beside.gave a.beside.moves_faults) d.lines d.answered before after l at;
          e = e;
          taken = d.taken;
          front = d.front;
          more = d.more;
          read = d.read;
          whole = d.whole;
          settled = subst (λ (k : ℕ). SettlesRun k d.front d.more b.left e) none d.settled;
          few = d.few;
          is_form = yes_form;
          no_form = not_form;
          told = told;
          kept = still;
          split = split;
          gave = gave;
          written = written;
          wrote = wrote;
          ends = ends;
          end = h.end;
          closes = closes;
          leaves = leaves;
          log = log_left a.beside.moves a.beside.moves_faults (moves_of d.lines) e (last_stage (begun_at a.beside) d.lines) h.end b.beside leaves
              (log_ran (begun_at a.beside) (last_stage (begun_at a.beside) d.lines) (moves_of d.lines) (all_logged 0 (begun_at a.beside) d.lines d.answered) refl refl e (length d.lines) d.front h.end closes);
          holds = λ q. holds_at_end 0 (begun_at a.beside) d.lines h.end b.beside tt d.answered (follows_done e (last_stage (begun_at a.beside) d.lines) h.end q (closed_of e (length d.lines) d.front (last_stage (begun_at a.beside) d.lines) h.end closes)) leaves;
          faultless = λ calm. faultless a.beside b.beside e h.end leaves calm (length d.lines) d.front d.lines d.answered closes;
        }

    -- the told lines are those that were told before
    gave_told : HoldMovesOf came.told b.beside.gave
    gave_told = held_by_more came.told (log_of h.end).given b.beside.gave (front_of_then (log_of h.end).given x.gave b.beside.gave (gave_left h.end x h.leaves) moves.grows) came.gave

    ran_some : b.took ≡ o → EndsTelling a b status e came.told came.still came.written → Ran a b form status
    ran_some same ends = ran_by came.told came.still came.written came.split gave_told (subst (λ (t : Option Text). Appended a.took t came.written) (sym same) came.wrote) ends

    -- all lines are told
    module _ (goes : is_over e ≡ false) (all : b.beside.gave ≡ b.beside.moves) where
      gave_all : HoldMovesOf (came.told ++ came.still) b.beside.gave
      gave_all = held_both came.told came.still b.beside.gave gave_told
          (subst (λ (t : Option Text). HoldMovesOf came.still t) (bytes_left h.end x h.leaves ∙ sym moves.took_is ∙ sym all) came.keeps.noted)

      text_all : came.written ++ (kept ++ last_text e) ≡ spelled (answers_in (came.told ++ came.still)) ++ last_text e
      text_all =
          ap (λ t. t ++ (kept ++ last_text e)) (stands_whole e came.told came.still came.written goes came.stands)
          ∙ ap (λ t. spelled (answers_in came.told) ++ (t ++ last_text e)) came.keeps.text_is
          ∙ sym (append_assoc (spelled (answers_in came.told)) (spelled (answers_in came.still)) (last_text e))
          ∙ ap (λ t. t ++ last_text e) (sym (spelled_lines came.told came.still))

      ran_all : (text : Text) → Appended o b.took text → EndsTelling a b status e (came.told ++ came.still) [] (came.written ++ text) → Ran a b form status
      ran_all text w ends =
          ran_by (came.told ++ came.still) [] (came.written ++ text) (came.split ∙ sym (append_nil (came.told ++ came.still))) gave_all (appended_then a.took o b.took came.written text came.wrote w) ends

  -- a sink had failed, or the source
  ends_over : (f : Ending) (told still : List DecidedLine) (written : Text) → is_over f ≡ true → status ≡ status_of f → StandsAt f told still written → length (spelled (answers_in still)) ≤ most_kept → (f ≡ ending.ReadFault → still ≡ []) → (f ≡ ending.ReadFault → GaveAll a → GaveAll b) → EndsTelling a b status f told still written
  ends_over ending.ReadFault told still written q s stands few none gave =
      inl (record {
        status_is = s;
        out_stands = λ same. cc;
        moves_stand = λ same. cc;
        all_told = none refl;
        text = stands ∙ sym (append_nil (spelled (answers_in told)));
        gave = λ begun. gave refl (begun refl);
      })
  ends_over ending.OutFault told still written q s stands few none gave =
      inr (inl (record {
        status_is = s;
        moves_stand = λ same. cc;
        all_told = stands.0;
        text = record {
          back = stands.1.back;
          whole = append_nil (spelled (answers_in told)) ∙ stands.1.whole;
          few = (let n = stands.1.few in omega (arith, n));
        };
      }))
  ends_over ending.MovesFault told still written q s stands few none gave = inr (inr (record { status_is = s; out_stands = λ same. cc; text = stands; few = few }))
  ends_over x told still written q s stands few none gave = cc

abbrev sink_of_moves : Left → SinkSeen
sink_of_moves x = record { took = x.moves; gave = x.gave; faults = x.moves_faults }

module _ (x y : Left) (p : y.paging ≡ x.paging) (f : y.files ≡ x.files) where
  moves_same : sink_of_moves y ≡ sink_of_moves x → MovesAfter x y
  moves_same e = record {
    took_is = ap (λ (s : SinkSeen). s.took) e;
    grows = subst (λ (t : Option Text). IsFrontOf x.gave t) (sym (ap (λ (s : SinkSeen). s.gave) e)) (gave_nothing (record { bytes = x.gave; given = x.gave; failed = true; faults = 0 })).grows;
    later = (let k = ap (λ (s : SinkSeen). s.faults) e in omega (arith, k));
    paging_is = p;
    files_is = f;
  }

  moves_gave : GaveMoves (sink_of_moves x) (sink_of_moves y) → MovesAfter x y
  moves_gave g = record {
    took_is = g.took_is;
    grows = g.grows;
    later = (let k = g.faults_are in omega (arith, k));
    paging_is = p;
    files_is = f;
  }

  moves_dropped : (o o' : SinkSeen) (e : Ending) (status : ℕ) → Drops o o' (sink_of_moves x) (sink_of_moves y) e status → MovesAfter x y
  moves_dropped o o' e status d = record { took_is = d.moves_kept; grows = d.moves_gave; later = d.moves_later; paging_is = p; files_is = f }

module _ (a b : Around) (e : Ending) (form : Type 0) (yes_form : form → e ≢ ending.Usage) (not_form : (form → ⊥) → e ≡ ending.Usage) (o : SinkSeen) (faults : ℕ) (kept : Text) (x : Left) (h : Comes (outside a.left a.took []) (outside b.left o.took kept) (stand [] 0 (begun_at a.beside)) e x) (p : b.beside.paging ≡ x.paging) (f : b.beside.files ≡ x.files) (status : ℕ) where
  abbrev o' : SinkSeen
  o' = record { took = b.took; gave = b.gave; faults = faults }

  -- nothing was held back where a read failed
  module _ (short : length kept ≤ most_kept) (none : e ≡ ending.ReadFault → kept ≡ []) (answers : e ≡ ending.ReadFault → a.gave ≡ a.took → o.gave ≡ o.took) (moves : e ≡ ending.ReadFault → a.beside.gave ≡ a.beside.moves → x.gave ≡ x.moves) where
    pub ran_closed : Closed o o' (sink_of_moves x) (sink_of_moves b.beside) e kept status → Ran a b form status
    ran_closed (inl s) =
        let c = came a b e form yes_form not_form o.took kept x h status in
        ran_some a b e form yes_form not_form o.took kept x h status (moves_same x b.beside p f s.moves_same) (ap (λ (k : SinkSeen). k.took) s.out_same)
        (ends_over a b e form yes_form not_form o.took kept x h status e c.told c.still c.written s.over s.status_is c.stands
        (subst (λ (t : Text). length t ≤ most_kept) c.keeps.text_is short)
        (λ q. none_still c.still (sym c.keeps.text_is ∙ none q))
        (λ q begun. record {
          answers = ap (λ (k : SinkSeen). k.gave) s.out_same ∙ answers q begun.answers ∙ sym (ap (λ (k : SinkSeen). k.took) s.out_same);
          moves = ap (λ (k : SinkSeen). k.gave) s.moves_same ∙ moves q begun.moves ∙ sym (ap (λ (k : SinkSeen). k.took) s.moves_same);
        }))
    ran_closed (inr (inl d)) =
        let c = came a b e form yes_form not_form o.took kept x h status in
        ran_some a b e form yes_form not_form o.took kept x h status (moves_dropped x b.beside p f o o' e status d) (ap (λ (k : SinkSeen). k.took) d.out_same)
        (inr (inr (record { status_is = d.status_is; out_stands = out_stands e d.goes; text = stands_whole e c.told c.still c.written d.goes c.stands; few = subst (λ (t : Text). length t ≤ most_kept) c.keeps.text_is short })))
    ran_closed (inr (inr (inl t))) =
        let m = moves_gave x b.beside p f t.moves in
        ran_all a b e form yes_form not_form o.took kept x h status m t.goes t.moves.gave_all (kept ++ last_text e) t.wrote
        (inl (record {
          status_is = t.status_is;
          out_stands = out_stands e t.goes;
          moves_stand = moves_stand e t.goes;
          all_told = refl;
          text = text_all a b e form yes_form not_form o.took kept x h status m t.goes t.moves.gave_all;
          gave = λ begun. record { answers = t.gave_all; moves = t.moves.gave_all };
        }))
    ran_closed (inr (inr (inr t))) =
        let c = came a b e form yes_form not_form o.took kept x h status in
        let m = moves_gave x b.beside p f t.moves in
        ran_all a b e form yes_form not_form o.took kept x h status m t.goes t.moves.gave_all t.wrote.front t.wrote.wrote
        (inr (inl (record {
          status_is = t.status_is;
          moves_stand = moves_stand e t.goes;
          all_told = refl;
          text = record {
            back = t.wrote.back;
            whole = sym (text_all a b e form yes_form not_form o.took kept x h status m t.goes t.moves.gave_all)
                ∙ ap (λ (ts : Text). c.written ++ ts) t.wrote.whole ∙ sym (append_assoc c.written t.wrote.front t.wrote.back);
            few = (let all = ap length t.wrote.whole in
                omega (arith, all, short, length-append kept (last_text e), length-append t.wrote.front t.wrote.back));
          };
        })))

-- ---- the counts of faults

module _ (opening : Type 0) (e : Ending) (s : ℕ) (o o' m m' : SinkSeen) (c : FaultCounts) (kept : Text) (status : ℕ) (b : IsBlamed e opening c (fault_counts_with s o.faults m.faults)) where
  abbrev mid : FaultCounts
  mid = fault_counts_with s o.faults m.faults

  own : fault_counts_with s o'.faults m'.faults ≡ mid → status ≡ status_of e → IsAccounted status opening c (fault_counts_with s o'.faults m'.faults)
  own same q = accounted_behind e opening c mid (fault_counts_with s o'.faults m'.faults) status same q b

  pub accounted_closed : Closed o o' m m' e kept status → IsAccounted status opening c (fault_counts_with s o'.faults m'.faults)
  accounted_closed (inl t) = own (λ i. fault_counts_with s (t.out_same i).faults (t.moves_same i).faults) t.status_is
  accounted_closed (inr (inl d)) =
      accounted_moves opening c (fault_counts_with s o'.faults m'.faults) status d.status_is (rose_later c.moves m.faults m'.faults (blamed_later opening c mid e d.goes b).1 d.rose)
      (λ i. fault_counts_with ((blamed_beside_moves opening c mid e d.goes b).0 i) ((ap (λ (k : SinkSeen). k.faults) d.out_same ∙ (blamed_beside_moves opening c mid e d.goes b).1) i) m'.faults)
  accounted_closed (inr (inr (inl t))) = own (λ i. fault_counts_with s (t.faults_are i) (t.moves.faults_are i)) t.status_is
  accounted_closed (inr (inr (inr t))) =
      accounted_out opening c (fault_counts_with s o'.faults m'.faults) status t.status_is (rose_later c.out o.faults o'.faults (blamed_later opening c mid e t.goes b).0 t.rose) (blamed_beside_moves opening c mid e t.goes b).0
