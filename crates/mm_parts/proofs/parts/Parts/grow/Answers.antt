use Rattle.std.proofs.Common.{◌≡◌, ◌+◌, ap, sym, ◌∙◌, subst, arith}
use Rattle.mm_types.specs.{IsMachine}
use Rattle.mm_types.specs.declared.moves.LineKind.TheVariants as kind
use Rattle.mm_slots.specs.{SlotsOf}
use Rattle.mm_parts.specs.{joined_parts, machine_grown}
use Rattle.mm_parts.proofs.{step_to, grow_step, grow_machine, slots_small}
use Rattle.mm_parts.proofs.parts.Parts.grow.Goals as goal
use Rattle.mm_parts.proofs.parts.Parts.grow.Goals.{After-new-self}

pub new-self-requires : goal.new-self-requires
new-self-requires c =
    subst IsMachine (λ i. record { frames = sym c.frames.ensures i; slots = sym c.slots.ensures i + c.args.n; depth = sym c.depth.ensures i; blocks = sym c.blocks-2.ensures i })
    (grow_machine (joined_parts c.args.self.now) c.args.self.now.kept c.args.line c.args.n c.requires.legal)

pub overflow_add-slots : goal.overflow_add-slots
overflow_add-slots c = omega (arith, (grow_machine (joined_parts c.args.self.now) c.args.self.now.kept c.args.line c.args.n c.requires.legal).most_slots, c.slots.ensures)

pub grow-requires-clause-small : goal.grow-requires-clause-small
grow-requires-clause-small c = slots_small (joined_parts c.args.self.now) c.args.self.now.kept c.args.line c.args.n c.requires.legal

more : (c : After-new-self) → c.new-self.result ≡ machine_grown c.args.self.now.machine c.args.n
more c = c.new-self.ensures ∙ (λ i. record { frames = c.frames.ensures i; slots = c.slots.ensures i + c.args.n; depth = c.depth.ensures i; blocks = c.blocks-2.ensures i })

pub invariant_of-self : goal.invariant_of-self
invariant_of-self c =
    let s = c.args.self.now in
    record { kept = (step_to _ _ _ (λ i. record (joined_parts s) { line = record (joined_parts s).line { machine = more (goal.at.invariant_of-self c).After-new-self i; line = c.args.line; kind = kind.Grow c.args.n }; free = ap (λ (v : SlotsOf). v.free) c.grow.ensures i }) (grow_step (joined_parts s) s.kept c.args.line c.args.n c.requires.legal c.requires.done c.requires.alone)).kept }

pub returns : goal.returns
returns c =
    let s = c.args.self.now in
    record { made = (step_to _ _ _ (λ i. record (joined_parts s) { line = record (joined_parts s).line { machine = more (goal.at.returns c).After-new-self i; line = c.args.line; kind = kind.Grow c.args.n }; free = ap (λ (v : SlotsOf). v.free) c.grow.ensures i }) (grow_step (joined_parts s) s.kept c.args.line c.args.n c.requires.legal c.requires.done c.requires.alone)).shown }
