use Rattle.std.proofs.Common.{Option, subst}
use Rattle.std.specs.Prelude.{option_map, MatchOption}
use Rattle.mm_types.specs.{Vpn}
use Rattle.mm_page_tables.specs.{ages_in, NoneBehind, IsOldestOf}
use Rattle.mm_parts.specs.{joined_parts}
use Rattle.mm_parts.proofs.{ages_held, next_told, oldest_told}
use Rattle.mm_parts.proofs.parts.Parts.oldest.Goals as goal

pub oldest-requires-clause-held : goal.oldest-requires-clause-held
oldest-requires-clause-held c = ages_held (joined_parts c.args.self.now) c.args.pid c.args.after c.working_sets_hold.ensures.aged c.requires.held

pub returns-clause-next : goal.returns-clause-next
returns-clause-next c = next_told (joined_parts c.args.self.now) c.working_sets_hold.ensures.aged c.args.pid c.args.after c.oldest.result c.requires.held c.oldest.ensures

pub returns-clause-first : goal.returns-clause-first
returns-clause-first c = λ none.
    let ages = ages_in (joined_parts c.args.self.now).ages c.args.pid in
    let P : Option Vpn → Type 0 = λ after. MatchOption c.oldest.result (NoneBehind ages (option_map (λ (w : Vpn). w.0) after)) (λ v. IsOldestOf ages (option_map (λ (w : Vpn). w.0) after) v.0) in
    oldest_told (joined_parts c.args.self.now) c.working_sets_hold.ensures.aged c.args.pid c.oldest.result (subst P none c.oldest.ensures)
