use Rattle.mm_parts.specs.{joined_parts}
use Rattle.mm_parts.proofs.{step_to, at_step, set_room}
use Rattle.mm_parts.proofs.parts.Parts.at.Goals as goal

pub begin_set-requires : goal.begin_set-requires
begin_set-requires c = set_room (joined_parts c.args.self.now) c.args.line c.args.kind c.requires.legal

pub invariant_of-self : goal.invariant_of-self
invariant_of-self c =
    let s = c.args.self.now in
    record { kept = (step_to _ _ _ (λ i. record (joined_parts s) { line = record (joined_parts s).line { line = c.args.line; kind = c.args.kind }; words = c.begin_set.ensures.words i; ages = c.begin_set.ensures.ages i }) (at_step (joined_parts s) s.kept c.args.line c.args.kind c.requires.legal c.requires.plain c.requires.done c.requires.alone)).kept }

pub returns : goal.returns
returns c =
    let s = c.args.self.now in
    record { made = (step_to _ _ _ (λ i. record (joined_parts s) { line = record (joined_parts s).line { line = c.args.line; kind = c.args.kind }; words = c.begin_set.ensures.words i; ages = c.begin_set.ensures.ages i }) (at_step (joined_parts s) s.kept c.args.line c.args.kind c.requires.legal c.requires.plain c.requires.done c.requires.alone)).shown }
