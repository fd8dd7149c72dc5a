use Rattle.std.proofs.Common.{ap, ◌∙◌}
use Rattle.mm_requests.specs.{FlightOf}
use Rattle.mm_requests.specs.declared.flights.Waiting.TheVariants as waiting
use Rattle.mm_parts.specs.{joined_parts, waits_of}
use Rattle.mm_parts.proofs.{step_to, read_flies, wait_step, new_wait, waits_set}
use Rattle.mm_parts.proofs.parts.Parts.wait.Goals as goal

pub wait-requires : goal.wait-requires
wait-requires c = read_flies (joined_parts c.args.self.now) c.args.self.now.kept c.args.f.0 c.requires.read c.requires.other

pub invariant_of-self : goal.invariant_of-self
invariant_of-self c = record { kept = (step_to _ _ _ (λ i. record (joined_parts c.args.self.now) { flight = c.wait.ensures.waits i }) (wait_step (joined_parts c.args.self.now) c.args.self.now.kept c.args.t.0 (waiting.For c.args.f) c.wait.ensures.there (λ g e. new_wait (joined_parts c.args.self.now) c.args.self.now.kept c.args.f g c.requires.read c.requires.other e))).kept }

pub returns-clause-made : goal.returns-clause-made
returns-clause-made c = (step_to _ _ _ (λ i. record (joined_parts c.args.self.now) { flight = c.wait.ensures.waits i }) (wait_step (joined_parts c.args.self.now) c.args.self.now.kept c.args.t.0 (waiting.For c.args.f) c.wait.ensures.there (λ g e. new_wait (joined_parts c.args.self.now) c.args.self.now.kept c.args.f g c.requires.read c.requires.other e))).shown

pub returns-clause-walked : goal.returns-clause-walked
returns-clause-walked c = λ u.
    ap (λ (v : FlightOf). waits_of v.waits u) c.wait.ensures.waits ∙ waits_set c.args.self.now.flight.waits c.args.t.0 (waiting.For c.args.f) c.wait.ensures.there u
