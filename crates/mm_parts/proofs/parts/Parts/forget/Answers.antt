use Rattle.std.proofs.Common.{ap, ◌∙◌}
use Rattle.mm_requests.specs.{FlightOf}
use Rattle.mm_requests.specs.declared.flights.Waiting.TheVariants as waiting
use Rattle.mm_parts.specs.{joined_parts, waits_of}
use Rattle.mm_parts.proofs.{step_to, wait_step, waits_set, no_wait}
use Rattle.mm_parts.proofs.parts.Parts.forget.Goals as goal

pub invariant_of-self : goal.invariant_of-self
invariant_of-self c = record { kept = (step_to _ _ _ (λ i. record (joined_parts c.args.self.now) { flight = c.forget.ensures.waits i }) (wait_step (joined_parts c.args.self.now) c.args.self.now.kept c.args.t.0 waiting.Nothing c.forget.ensures.there (no_wait (joined_parts c.args.self.now)))).kept }

pub returns-clause-made : goal.returns-clause-made
returns-clause-made c = (step_to _ _ _ (λ i. record (joined_parts c.args.self.now) { flight = c.forget.ensures.waits i }) (wait_step (joined_parts c.args.self.now) c.args.self.now.kept c.args.t.0 waiting.Nothing c.forget.ensures.there (no_wait (joined_parts c.args.self.now)))).shown

pub returns-clause-walked : goal.returns-clause-walked
returns-clause-walked c = λ u.
    ap (λ (v : FlightOf). waits_of v.waits u) c.forget.ensures.waits ∙ waits_set c.args.self.now.flight.waits c.args.t.0 waiting.Nothing c.forget.ensures.there u
