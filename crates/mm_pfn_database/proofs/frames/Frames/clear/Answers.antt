use Rattle.std.proofs.Common.{refl, ap, ◌∙◌, List, ℕ, Option, set}
use Rattle.std.specs.Prelude.{slice_get}
use Rattle.mm_ram.specs.{with_page, zero_page}
use Rattle.mm_pfn_database.specs.declared.standing.Standing.TheVariants.{Cleared}
use Rattle.mm_pfn_database.specs.{FramesOf, now_cleared, table_of}
use Rattle.mm_pfn_database.proofs.{now_put}
use Rattle.mm_pfn_database.proofs.frames.Frames.clear.Goals as goal

pub returns-clause-cleared : goal.returns-clause-cleared
returns-clause-cleared c =
    let i = c.self.inside in
    let held = ap (λ (w : FramesOf). slice_get w.standing c.args.d) c.self.view_is ∙ c.requires in
    c.stand.ensures.stood
    ∙ now_put (record { table = table_of i.records i.lists.lists; bytes = c.zero.new.self; standing = i.standing.items }) c.stand.ensures.placed c.d.view_is held refl Cleared
    ∙ ap (λ (m : List (Option (List ℕ))). record { table = table_of i.records i.lists.lists; bytes = m; standing = set i.standing.items c.args.d Cleared }) (c.zero.ensures ∙ ap (λ (x : ℕ). with_page i.ram x zero_page) c.d.view_is)
    ∙ ap (λ (w : FramesOf). now_cleared w c.args.d) c.self.view_is
