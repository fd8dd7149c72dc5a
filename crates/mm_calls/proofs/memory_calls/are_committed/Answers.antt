use Rattle.std.proofs.Common.{◌∙◌, sym, ap, is_some}
use Rattle.mm_world.specs.{RegionOf, Found, process_of, region_around, is_private, is_committed_at, every_page}
use Rattle.mm_calls.proofs.{in_section, around}
use Rattle.mm_calls.proofs.memory_calls.are_committed.Goals as goal
use Rattle.mm_types.proofs.{some_found, same_found}

pub area-requires : goal.area-requires
area-requires c =
    let t = c.args.t.now in
    let p = some_found (process_of t c.args.pid.0) c.requires.lives in
    let told = c.requires.asked p.0 p.1 in
    let r = told.region in
    (in_section t c.args.pid.0 p.0 r.place r.thing c.in-View.view p.1 c.sound.ensures.sound (around p.0.regions c.args.range r told.around).at (told.kind ∙ c.in-View.is)).made

pub are_committed-requires-clause-inside : goal.are_committed-requires-clause-inside
are_committed-requires-clause-inside c =
    let p = some_found (process_of c.args.t.now c.args.pid.0) c.requires.lives in
    ap is_some (ap (λ rs. region_around rs c.args.range) (c.space.ensures p.0 p.1) ∙ (c.requires.asked p.0 p.1).around)

pub are_committed-requires-clause-view : goal.are_committed-requires-clause-view
are_committed-requires-clause-view c r e =
    let p = some_found (process_of c.args.t.now c.args.pid.0) c.requires.lives in
    let told = c.requires.asked p.0 p.1 in
    let same = same_found _ told.region r told.around (ap (λ rs. region_around rs c.args.range) (sym (c.space.ensures p.0 p.1)) ∙ e) in
    ap (λ (f : Found (RegionOf (Unit {0}))). is_private f.thing.kind) (sym same) ∙ ap is_private (told.kind ∙ c.in-View.is)

pub returns-in-Private : goal.returns-in-Private
returns-in-Private c p r lives e =
    let t = c.args.t.now in
    let told = c.requires.asked p lives in
    let same = same_found _ told.region r told.around e in
    told.committed (ap is_private (told.kind ∙ c.in-Private.is)) t
    ∙ ap (λ (f : Found (RegionOf (Unit {0}))). every_page (is_committed_at t f.thing) c.args.range) same

pub returns-in-View : goal.returns-in-View
returns-in-View c p r lives e =
    let told = c.requires.asked p lives in
    let same = same_found _ told.region r told.around e in
    c.are_committed.ensures c.args.t.now r c.in-View.view (ap (λ rs. region_around rs c.args.range) (c.space.ensures p lives) ∙ e)
    (ap (λ (f : Found (RegionOf (Unit {0}))). f.thing.kind) (sym same) ∙ told.kind ∙ c.in-View.is) (sym c.area.ensures)
