use Rattle.std.proofs.Common.{ℕ, sym, ap, ◌∙◌}
use Rattle.std.specs.Prelude.{option_map}
use Rattle.mm_types.specs.{lowest_gap}
use Rattle.mm_vad.specs.{page_number, region_ranges}
use Rattle.mm_vad.proofs.{space_shown, ranges_shown, nothing_is_free}
use Rattle.mm_vad.proofs.spaces.Space.lowest_gap.Goals as goal

-- no page at all is free at once
pub returns-then-n-eq0-clause-found : goal.returns-then-n-eq0-clause-found
returns-then-n-eq0-clause-found c =
    let taken = region_ranges c.args.self.now.regions in
    sym (ap (λ (n : ℕ). option_map page_number (lowest_gap taken n)) c.if-n-eq0.true ∙ ap (option_map page_number) (nothing_is_free taken (space_shown c.self.inside.regions _ _ c.self.invariant c.self.view_is).apart))

pub returns-then-n-eq0-clause-sound : goal.returns-then-n-eq0-clause-sound
returns-then-n-eq0-clause-sound c = space_shown c.self.inside.regions _ _ c.self.invariant c.self.view_is

pub returns-clause-found : goal.returns-clause-found
returns-clause-found c = c.lowest_gap.ensures.found ∙ ap (λ taken. option_map page_number (lowest_gap taken c.args.n)) (ranges_shown c.self.inside.regions _ _ c.self.invariant c.self.view_is)

pub returns-clause-sound : goal.returns-clause-sound
returns-clause-sound c = space_shown c.self.inside.regions _ _ c.self.invariant c.self.view_is
