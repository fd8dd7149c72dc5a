use Rattle.std.proofs.Common.{◌≡◌, ◌+◌, ◌<◌, ◌≤◌, ℕ, List, length, get_or, refl, sym, ap, ◌∙◌, subst, inl, inr, arith}
use Rattle.std.specs.Prelude.{unwrap_or}
use Rattle.std.proofs.lemmas.Bool.{cases_lt}
use Rattle.std.proofs.lemmas.Option.{slice_get_past, slice_get_read}
use Rattle.std.proofs.Math.ListN.{set}
use Rattle.mm_world.specs.{AreaOf, blank, commit_shared, no_area}
use Rattle.mm_object_tables.specs.{CanShare, SharesPages, listed_area}
use Rattle.mm_object_tables.proofs.views.share_pages.Given as given
use Rattle.mm_object_tables.proofs.views.share_pages.Goals as goal
use Rattle.mm_object_tables.proofs.views.share_pages.Goals.{After-index_mut}

-- an area that has pages is listed
listed : (areas : List (AreaOf (Unit {0}))) (at : ℕ) → 1 ≤ length (listed_area areas at).pages → at < length areas
listed areas at some =
    elim (cases_lt at (length areas)) [
      | inl there ↦ there
      | inr past ↦ absurd (omega (arith, ap (λ o. length (unwrap_or o no_area).pages) (slice_get_past areas at past)))
    ]

-- what stands there is that area
is_listed : (areas : List (AreaOf (Unit {0}))) (at : ℕ) (a : AreaOf (Unit {0})) → 1 ≤ length (listed_area areas at).pages → a ≡ get_or areas at a → a ≡ listed_area areas at
is_listed areas at a some is = sym (ap (λ o. unwrap_or o no_area) (slice_get_read areas (length areas) at a refl (listed areas at some) is))

here : (g : given.Over) (c : After-index_mut g) → c.index_mut.result.now ≡ listed_area c.args.areas.now.items c.args.view.area.0
here g c = is_listed c.args.areas.now.items c.args.view.area.0 c.index_mut.result.now (omega (arith, c.requires.some, c.requires.can.inside)) c.index_mut.ensures.value

pub index_mut-requires : goal.index_mut-requires
index_mut-requires g c =
    let there = listed c.args.areas.now.items c.args.view.area.0 (omega (arith, c.requires.some, c.requires.can.inside)) in
    omega (arith, there, c.args.areas.now.ok.0)

pub share_in-requires-clause-can : goal.share_in-requires-clause-can
share_in-requires-clause-can g c =
    subst (λ (a : AreaOf (Unit {0})). CanShare c.args.view.area (c.args.view.first + c.args.offset) c.args.count a (g.G.PageStore.contents c.args.g.now) (g.G.PageStore.store c.args.g.now)) (sym (here g (goal.at.share_in-requires-clause-can g c).After-index_mut)) c.requires.can

pub returns-clause-areas : goal.returns-clause-areas
returns-clause-areas g c =
    ap (set c.args.areas.now.items c.args.view.area.0) (c.share_in.ensures.pages ∙ ap (commit_shared blank (c.args.view.first + c.args.offset) c.args.count) (here g (goal.at.returns-clause-areas g c).After-index_mut))

pub returns-clause-shared : goal.returns-clause-shared
returns-clause-shared g c =
    subst (λ (a : AreaOf (Unit {0})). SharesPages g.G.PageStore c.args.view.area (c.args.view.first + c.args.offset) c.args.count a c.args.g.now c.share_in.new.g) (here g (goal.at.returns-clause-shared g c).After-index_mut) c.share_in.ensures.shared
