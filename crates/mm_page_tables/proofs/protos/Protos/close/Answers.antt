use Rattle.std.proofs.Common.{ap, ◌∙◌, refl, None, arith}
use Rattle.std.specs.FinMap as finite
use Rattle.mm_types.proofs.{table_remove}
use Rattle.mm_page_tables.specs.{words_in}
use Rattle.mm_page_tables.proofs.AreaLemmas.{within}
use Rattle.mm_page_tables.proofs.protos.Protos.close.Goals as goal

pub index_mut-requires : goal.index_mut-requires
index_mut-requires c = omega (arith, within words_in c.self.inside.areas.items c.args.self.now c.args.a.0 c.self.view_is c.requires, c.self.inside.areas.ok)

pub returns : goal.returns
returns c =
    table_remove words_in c.self.inside.areas.items c.args.a.0 None (within words_in c.self.inside.areas.items c.args.self.now c.args.a.0 c.self.view_is c.requires) refl
    ∙ ap (λ m. finite.remove m c.args.a.0) c.self.view_is
