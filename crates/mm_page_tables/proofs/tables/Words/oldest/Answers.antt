use Rattle.std.proofs.Common.{◌∙◌, ap, ℕ, Option, subst}
use Rattle.std.specs.Prelude.{is_some, option_map, MatchOption}
use Rattle.mm_types.specs.{Vpn}
use Rattle.mm_page_tables.specs.{NoneBehind, IsOldestOf}
use Rattle.mm_page_tables.proofs.{own_ages}
use Rattle.mm_page_tables.proofs.tables.Words.oldest.Goals as goal

pub oldest-requires : goal.oldest-requires
oldest-requires c x is =
    let same = own_ages c.args.self.now.processes.items c.index_of-at.result c.index.result.now c.index.result.now c.index_of-at.ensures.within c.index.ensures c.args.pid c.index_of-at.ensures.next in
    ap (λ (f : ℕ → Option ℕ). is_some (f x.0)) same ∙ c.requires.held x is

pub returns : goal.returns
returns c =
    let same = own_ages c.args.self.now.processes.items c.index_of-at.result c.index.result.now c.index.result.now c.index_of-at.ensures.within c.index.ensures c.args.pid c.index_of-at.ensures.next in
    subst (λ (f : ℕ → Option ℕ). MatchOption c.oldest.result (NoneBehind f (option_map (λ (w : Vpn). w.0) c.args.after)) (λ v. IsOldestOf f (option_map (λ (w : Vpn). w.0) c.args.after) v.0)) same c.oldest.ensures
