use Rattle.std.proofs.Common.{◌≡◌, sym, ap, ◌∙◌, subst}
use Rattle.mm_types.specs.{Frame}
use Rattle.mm_types.specs.declared.moves.Move.TheVariants as move
use Rattle.mm_move_rules.specs.{after_read, with_record, being_read, IsLegal, backing_of}
use Rattle.mm_pfn_database.specs.{FramesOf}
use Rattle.mm_page_tables.specs.Shown as tables
use Rattle.mm_parts.specs.{life_in, joined_parts, shown_parts, front_for_read, parts_after, own_after}
use Rattle.mm_parts.proofs.{Step, step_to, frame_fits, read_backing, read_fewer, read_new, read_frame, read_step, read_fresh}
use Rattle.mm_parts.proofs.parts.Parts.start_read.Goals as goal
use Rattle.mm_parts.proofs.parts.Parts.start_read.Goals.{After-bind_read-f, After-begin_request}

pub take_for_read-dirty-requires : goal.take_for_read-dirty-requires
take_for_read-dirty-requires c = read_frame (joined_parts c.args.self.now) (front_for_read (life_in (joined_parts c.args.self.now))) c.args.key c.requires.legal

is : (c : After-bind_read-f) → c.bind_read-f.result ≡ front_for_read (life_in (joined_parts c.args.self.now))
is c = λ i. record { 0 = (c.bind_read-f.ensures.same ∙ c.take_for_read-dirty.ensures.first) i }

legal : (c : After-bind_read-f) → IsLegal (move.Read c.bind_read-f.result c.args.key) (life_in (joined_parts c.args.self.now))
legal c = subst (λ (g : Frame). IsLegal (move.Read g c.args.key) (life_in (joined_parts c.args.self.now))) (sym (is c)) c.requires.legal

pub set_word-requires-clause-fits : goal.set_word-requires-clause-fits
set_word-requires-clause-fits c =
    let s = c.args.self.now in
    frame_fits (joined_parts s) s.kept c.bind_read-f.result (read_fresh (joined_parts s) s.kept c.bind_read-f.result c.args.key (legal (goal.at.set_word-requires-clause-fits c).After-bind_read-f)).low

pub begin_request-requires-clause-fewer : goal.begin_request-requires-clause-fewer
begin_request-requires-clause-fewer c =
    read_fewer (joined_parts c.args.self.now) c.args.self.now.kept c.bind_read-f.result c.args.key (legal (goal.at.begin_request-requires-clause-fewer c).After-bind_read-f)

pub begin_request-requires-clause-new : goal.begin_request-requires-clause-new
begin_request-requires-clause-new c = λ other.
    read_new (joined_parts c.args.self.now) c.args.self.now.kept c.bind_read-f.result c.args.key (legal (goal.at.begin_request-requires-clause-new c).After-bind_read-f)

made : (c : After-begin_request) → IsLegal (move.Read c.bind_read-f.result c.args.key) (life_in (joined_parts c.args.self.now))
    → Step (record (joined_parts c.args.self.now) {
      table = c.bind_read-f.new.self.table;
      bytes = c.bind_read-f.new.self.bytes;
      words = tables.words c.set_word.new.self;
      ages = tables.place_ages c.set_word.new.self;
      flight = c.begin_request.new.flight;
      own = c.begin_request.new.own;
    }) (record (parts_after (shown_parts c.args.self.now) (move.Read c.bind_read-f.result c.args.key)) { own = own_after c.args.self.now.kind c.args.self.now.own c.bind_read-f.result })
made c legal' =
    let s = c.args.self.now in
    let f = c.bind_read-f.result in
    let backing : c.backing_of-backing.result ≡ backing_of ((life_in (joined_parts s)).stands c.args.key) = c.backing_of-backing.ensures ∙ read_backing (joined_parts s) c.args.key c.word.result c.word.ensures in
    let table : c.bind_read-f.new.self.table ≡ after_read s.frames.table f.0 c.args.key (backing_of ((life_in (joined_parts s)).stands c.args.key)) =
    ap (λ (v : FramesOf). v.table) c.bind_read-f.ensures.bound
    ∙ (λ i. with_record (c.take_for_read-dirty.ensures.table i) (sym c.bind_read-f.ensures.same i) (being_read c.args.key (backing i))) in
    let bytes : c.bind_read-f.new.self.bytes ≡ s.frames.bytes = ap (λ (v : FramesOf). v.bytes) c.bind_read-f.ensures.bound ∙ c.take_for_read-dirty.ensures.bytes in
    step_to _ _ _ (λ i. record (joined_parts s) { table = table i; bytes = bytes i; words = c.set_word.ensures.words i; ages = c.set_word.ensures.ages i; flight = c.begin_request.ensures.flight i; own = c.begin_request.ensures.own i })
    (read_step (joined_parts s) s.kept f c.args.key legal' c.requires.room)

pub invariant_of-self : goal.invariant_of-self
invariant_of-self c = let at = goal.at.invariant_of-self c in record { kept = (made at.After-begin_request (legal at.After-bind_read-f)).kept }

pub returns-clause-made : goal.returns-clause-made
returns-clause-made c = let at = goal.at.returns-clause-made c in (made at.After-begin_request (legal at.After-bind_read-f)).shown
