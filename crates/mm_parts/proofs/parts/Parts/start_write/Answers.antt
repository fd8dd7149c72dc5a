use Rattle.std.proofs.Common.{◌≡◌, sym, ap, ◌∙◌, subst}
use Rattle.mm_types.specs.{Record, Backing, Stored}
use Rattle.mm_types.specs.declared.moves.Move.TheVariants as move
use Rattle.mm_move_rules.specs.{record_at, after_write, IsLegal}
use Rattle.mm_pfn_database.specs.{FramesOf, can_go_to}
use Rattle.mm_parts.specs.{life_in, joined_parts, shown_parts, parts_after, own_after, write_target, goes_to, lowest_free_slot}
use Rattle.mm_frame_laws.specs.{backing_to}
use Rattle.mm_parts.proofs.{Step, step_to, write_can, write_low, write_free, write_step, new_in}
use Rattle.mm_parts.proofs.parts.Parts.start_write.Goals as goal
use Rattle.mm_parts.proofs.parts.Parts.start_write.Goals.{After-begin_request}

pub look-requires : goal.look-requires
look-requires c = write_low (joined_parts c.args.self.now) c.args.f _ (write_can (joined_parts c.args.self.now) c.args.self.now.kept c.args.f _ c.requires.legal)

pub take_target-to-requires : goal.take_target-to-requires
take_target-to-requires c = write_free (joined_parts c.args.self.now) c.args.f c.requires.legal c.look.result.backing (ap (λ (r : Record). r.backing) c.look.ensures)

pub start_write-requires-clause-changed : goal.start_write-requires-clause-changed
start_write-requires-clause-changed c = (write_can (joined_parts c.args.self.now) c.args.self.now.kept c.args.f _ c.requires.legal).changed

pub start_write-requires-clause-target : goal.start_write-requires-clause-target
start_write-requires-clause-target c =
    let s = c.args.self.now in
    let to : c.take_target-to.result ≡ write_target (life_in (joined_parts s)) c.args.f = c.take_target-to.ensures.to ∙ ap (λ (r : Record). goes_to r.backing (lowest_free_slot s.slots.free)) c.look.ensures in
    ap (λ (b : Backing). can_go_to b (record_at s.frames.table c.args.f.0)) (c.target.ensures ∙ ap backing_to to) ∙ (write_can (joined_parts s) s.kept c.args.f _ c.requires.legal).goes

pub start_write-requires-clause-no_request : goal.start_write-requires-clause-no_request
start_write-requires-clause-no_request c = (write_can (joined_parts c.args.self.now) c.args.self.now.kept c.args.f _ c.requires.legal).quiet

pub begin_request-requires-clause-fewer : goal.begin_request-requires-clause-fewer
begin_request-requires-clause-fewer c = (write_can (joined_parts c.args.self.now) c.args.self.now.kept c.args.f _ c.requires.legal).fewer

pub begin_request-requires-clause-new : goal.begin_request-requires-clause-new
begin_request-requires-clause-new c = λ other. new_in (joined_parts c.args.self.now) c.args.self.now.kept c.args.f.0 (write_can (joined_parts c.args.self.now) c.args.self.now.kept c.args.f _ c.requires.legal).quiet

pub returns-clause-to : goal.returns-clause-to
returns-clause-to c = c.take_target-to.ensures.to ∙ ap (λ (r : Record). goes_to r.backing (lowest_free_slot c.args.self.now.slots.free)) c.look.ensures

made : (c : After-begin_request) → Step (record (joined_parts c.args.self.now) { table = c.start_write.new.self.table; bytes = c.start_write.new.self.bytes; free = c.take_target-to.new.slots.free; flight = c.begin_request.new.flight; own = c.begin_request.new.own })
    (record (parts_after (shown_parts c.args.self.now) (move.Write c.args.f c.take_target-to.result)) { own = own_after c.args.self.now.kind c.args.self.now.own c.args.f })
made c =
    let s = c.args.self.now in
    let t = c.take_target-to.result in
    let to : t ≡ write_target (life_in (joined_parts s)) c.args.f = c.take_target-to.ensures.to ∙ ap (λ (r : Record). goes_to r.backing (lowest_free_slot s.slots.free)) c.look.ensures in
    let legal : IsLegal (move.Write c.args.f t) (life_in (joined_parts s)) = subst (λ (x : Stored). IsLegal (move.Write c.args.f x) (life_in (joined_parts s))) (sym to) c.requires.legal in
    let table : c.start_write.new.self.table ≡ after_write s.frames.table c.args.f.0 (backing_to t) = ap (λ (v : FramesOf). v.table) c.start_write.ensures ∙ ap (after_write s.frames.table c.args.f.0) c.target.ensures in
    let bytes : c.start_write.new.self.bytes ≡ s.frames.bytes = ap (λ (v : FramesOf). v.bytes) c.start_write.ensures in
    step_to _ _ _ (λ i. record (joined_parts s) { table = table i; bytes = bytes i; free = c.take_target-to.ensures.slots i; flight = c.begin_request.ensures.flight i; own = c.begin_request.ensures.own i }) (write_step (joined_parts s) s.kept c.args.f t legal c.requires.room)

pub invariant_of-self : goal.invariant_of-self
invariant_of-self c = record { kept = (made (goal.at.invariant_of-self c).After-begin_request).kept }

pub returns-clause-made : goal.returns-clause-made
returns-clause-made c = (made (goal.at.returns-clause-made c).After-begin_request).shown
