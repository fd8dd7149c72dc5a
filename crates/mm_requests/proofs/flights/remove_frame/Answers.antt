use Rattle.std.proofs.Common.{rules, not}
use Rattle.std.specs.Prelude.{◌==◌}
use Rattle.std.proofs.lemmas.Fn.{filter_same}
use Rattle.mm_requests.proofs.flights.remove_frame.Goals as goal

pub returns-clause-items : goal.returns-clause-items
returns-clause-items c = filter_same _ (λ x. not (x.0 == c.args.f.0)) _ (λ x b g k. search rules) _ _ c.retain.ensures.filtered
