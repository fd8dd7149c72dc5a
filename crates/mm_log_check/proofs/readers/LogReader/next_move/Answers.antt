use Rattle.std.proofs.Common.{◌≡◌, ℕ, ◌+◌, ◌-◌, length, arith, subst}
use Rattle.mm_replay.specs.Standing.{life}
use Rattle.mm_log_check.specs.{Lines}
use Rattle.mm_log_check.proofs.{lines_here, took_line, stops_read, stops_full, stops_long, stops_last, finds_line, finds_long, finds_end}
use Rattle.mm_log_check.proofs.readers.LogReader.next_move.Goals as goal

pub returns-in-Err-clause-read : goal.returns-in-Err-clause-read
returns-in-Err-clause-read g c = λ left moves r.
    let a = c.args in
    let held = a.self.now.held in
    let held' = c.next.new.self in
    let mid = g.S.Source.left a.source.now in
    let left' = g.S.Source.left c.next.new.source in
    stops_read left left' held' moves (a.self.now.bytes + (length held' - length held)) (life a.life.now) (lines_here left mid left' held held' moves a.self.now.bytes r.lines c.next.ensures.filled)

pub returns-then-self-gt-MOST_BYTES-clause-read : goal.returns-then-self-gt-MOST_BYTES-clause-read
returns-then-self-gt-MOST_BYTES-clause-read g c = λ left moves r.
    let a = c.args in
    let held = a.self.now.held in
    let held' = c.next.new.self in
    let mid = g.S.Source.left a.source.now in
    let left' = g.S.Source.left c.next.new.source in
    stops_full left left' held' moves (a.self.now.bytes + (length held' - length held)) (life a.life.now) (lines_here left mid left' held held' moves a.self.now.bytes r.lines c.next.ensures.filled) (omega arith)

pub returns-in-Line-clause-read : goal.returns-in-Line-clause-read
returns-in-Line-clause-read g c = λ left moves r.
    let a = c.args in
    let held = a.self.now.held in
    let held' = c.next.new.self in
    let mid = g.S.Source.left a.source.now in
    let left' = g.S.Source.left c.next.new.source in
    let now : ℕ = a.self.now.bytes + (c.held_len.result - c.held_len-before.result) in
    let e : a.self.now.bytes + (length held' - length held) ≡ now = omega arith in
    let lines : Lines left left' held' moves now =
    subst (λ (k : ℕ). Lines left left' held' moves k) e (lines_here left mid left' held held' moves a.self.now.bytes r.lines c.next.ensures.filled) in
    took_line left left' _ c.take_line.new.self c.in-Line.len (life a.life.now) moves c.take_line.result
    lines r.number
    (finds_line c.in-Ok.found c.in-Line.len left' held' c.in-Line.is c.in-Ok.ensures.finds).0 (omega arith) c.take_line.ensures

pub returns-in-Long-clause-read : goal.returns-in-Long-clause-read
returns-in-Long-clause-read g c = λ left moves r.
    let a = c.args in
    let held = a.self.now.held in
    let held' = c.next.new.self in
    let mid = g.S.Source.left a.source.now in
    let left' = g.S.Source.left c.next.new.source in
    stops_long left left' held' moves a.self.now.lines (a.self.now.bytes + (length held' - length held)) (life a.life.now)
    (lines_here left mid left' held held' moves a.self.now.bytes r.lines c.next.ensures.filled) r.number
    (finds_long c.in-Ok.found left' held' c.in-Long.is c.in-Ok.ensures.finds) (omega arith)

pub returns-in-End-clause-read : goal.returns-in-End-clause-read
returns-in-End-clause-read g c = λ left moves r.
    let a = c.args in
    let held = a.self.now.held in
    let held' = c.next.new.self in
    let mid = g.S.Source.left a.source.now in
    let left' = g.S.Source.left c.next.new.source in
    let h = finds_end c.in-Ok.found left' held' c.in-End.is c.in-Ok.ensures.finds in
    stops_last left left' held' moves a.self.now.lines (a.self.now.bytes + (length held' - length held)) (life a.life.now) c.last_line.result
    (lines_here left mid left' held held' moves a.self.now.bytes r.lines c.next.ensures.filled) r.number (omega arith)
    h.0 h.1 c.last_line.ensures.whole c.last_line.ensures.cut
