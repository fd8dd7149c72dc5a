use Rattle.std.proofs.Common.{ap, ◌∙◌}
use Rattle.std.specs.Option.{option_copied}
use Rattle.mm_types.specs.{holds_page}
use Rattle.mm_vad.proofs.{space_shown, none_shown, found_shown}
use Rattle.mm_vad.proofs.spaces.Space.find.Goals as goal

pub returns-in-Some-clause-sound : goal.returns-in-Some-clause-sound
returns-in-Some-clause-sound c = space_shown c.self.inside.regions _ _ c.self.invariant c.self.view_is

pub returns-in_err-base-clause-found : goal.returns-in_err-base-clause-found
returns-in_err-base-clause-found c = ap option_copied c.from_residual.ensures ∙ none_shown c.self.inside.regions _ _ c.self.invariant c.self.view_is (λ r. holds_page r c.args.v.0) c.in_err-base.ensures.found

pub returns-in_err-base-clause-sound : goal.returns-in_err-base-clause-sound
returns-in_err-base-clause-sound c = space_shown c.self.inside.regions _ _ c.self.invariant c.self.view_is

pub returns-clause-found : goal.returns-clause-found
returns-clause-found c = c.get.ensures.value ∙ found_shown c.self.inside.regions _ _ c.self.invariant c.self.view_is (λ r. holds_page r c.args.v.0) c.in_ok-base.base c.in_ok-base.field-0-1 c.in_ok-base.ensures.found

pub returns-clause-sound : goal.returns-clause-sound
returns-clause-sound c = space_shown c.self.inside.regions _ _ c.self.invariant c.self.view_is
