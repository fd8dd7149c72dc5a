use Rattle.std.proofs.Common.{sym, ap, ◌∙◌}
use Rattle.std.specs.FinMap as finite
use Rattle.mm_working_sets.specs.{WorkingSetOf, ages_of}
use Rattle.mm_working_sets.proofs.{in_use, remove_page_at, remove_held, remove_keeps, remove_view}
use Rattle.mm_working_sets.proofs.sets.WorkingSet.remove.Goals as goal

pub remove-page-requires : goal.remove-page-requires
remove-page-requires c = in_use c.self.inside.places c.args.self.now.places c.args.place (ap (λ (w : WorkingSetOf). w.places) c.self.view_is) c.requires

pub remove-requires-clause-held : goal.remove-requires-clause-held
remove-requires-clause-held c =
    let s = c.self.inside in
    let r = c.remove-page in
    remove_held _ s.places r.new.self (ages_of s.pages) _ s.rounds s.used_in.items c.args.place r.result c.self.invariant r.ensures.value r.ensures.updates

pub invariant_of-self : goal.invariant_of-self
invariant_of-self c =
    let s = c.self.inside in
    let r = c.remove-page in
    remove_keeps _ s.places r.new.self (ages_of s.pages) _ s.rounds s.used_in.items c.args.place r.result c.self.invariant r.ensures.value r.ensures.updates
    _ _ r.ensures.len r.ensures.capacity c.remove.ensures.ages c.remove.ensures.room

pub returns-clause-page : goal.returns-clause-page
returns-clause-page c =
    let s = c.self.inside in
    let r = c.remove-page in
    ap (λ (w : WorkingSetOf). finite.get w.places c.args.place) (sym c.self.view_is)
    ∙ remove_page_at _ s.places r.new.self (ages_of s.pages) _ s.rounds s.used_in.items c.args.place r.result c.self.invariant r.ensures.value r.ensures.updates

pub returns-clause-set : goal.returns-clause-set
returns-clause-set c =
    let s = c.self.inside in
    let r = c.remove-page in
    remove_view _ s.places r.new.self (ages_of s.pages) _ s.rounds s.used_in.items c.args.place r.result c.self.invariant r.ensures.value r.ensures.updates
    s.min s.max s.is_reserved _ c.remove.ensures.ages
    ∙ ap (λ (w : WorkingSetOf). record w { ages = finite.remove w.ages r.result; places = finite.remove w.places c.args.place }) c.self.view_is
