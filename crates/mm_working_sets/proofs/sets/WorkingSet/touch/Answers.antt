use Rattle.std.proofs.Common.{◌≡◌, ℕ, Some, sym, ap, ◌∙◌}
use Rattle.std.specs.Ordering.{nat_cmp}
use Rattle.std.specs.FinMap as finite
use Rattle.std.specs.FinMap.{FinMap}
use Rattle.mm_working_sets.specs.{WorkingSetOf, ages_of, places_of}
use Rattle.mm_working_sets.proofs.{made, in_use, get-places, touch_keeps, used_already}
use Rattle.mm_working_sets.proofs.sets.WorkingSet.touch.Goals as goal

pub returns-then-used_in-self : goal.returns-then-used_in-self
returns-then-used_in-self c = λ v held.
    let s = c.self.inside in
    let there : finite.get (places_of s.places) c.args.place ≡ Some v = ap (λ (w : WorkingSetOf). finite.get w.places c.args.place) c.self.view_is ∙ held in
    sym c.self.view_is
    ∙ ap (λ (m : FinMap nat_cmp ℕ). made s.min s.max s.is_reserved m (places_of s.places))
    (used_already _ s.places (ages_of s.pages) _ s.rounds s.used_in.items c.args.place v c.self.invariant there c.index-used_in.result.now c.index-used_in.ensures c.if-used_in-self.true)
    ∙ ap (λ (w : WorkingSetOf). record w { ages = finite.insert w.ages v 0 }) c.self.view_is

pub index-page-requires : goal.index-page-requires
index-page-requires c = in_use c.self.inside.places c.args.self.now.places c.args.place (ap (λ (w : WorkingSetOf). w.places) c.self.view_is) c.requires

pub renew-requires-clause-held : goal.renew-requires-clause-held
renew-requires-clause-held c =
    let s = c.self.inside in
    c.self.invariant.each.aged c.args.place c.index-page.result.now (get-places s.places c.args.place ∙ c.index-page.ensures)

pub invariant_of-self : goal.invariant_of-self
invariant_of-self c =
    let s = c.self.inside in
    let there : finite.get (places_of s.places) c.args.place ≡ Some c.index-page.result.now = get-places s.places c.args.place ∙ c.index-page.ensures in
    touch_keeps _ s.places (ages_of s.pages) _ s.rounds s.used_in.items c.args.place c.index-page.result.now c.self.invariant there _ _ c.use_in.result c.renew.ensures.ages c.renew.ensures.room c.use_in.ensures

pub returns : goal.returns
returns c = λ v held.
    let s = c.self.inside in
    let there : finite.get (places_of s.places) c.args.place ≡ Some c.index-page.result.now = get-places s.places c.args.place ∙ c.index-page.ensures in
    let both : Some c.index-page.result.now ≡ Some v = sym there ∙ ap (λ (w : WorkingSetOf). finite.get w.places c.args.place) c.self.view_is ∙ held in
    let same : c.index-page.result.now ≡ v = cc in
    ap (λ (m : FinMap nat_cmp ℕ). made s.min s.max s.is_reserved m (places_of s.places)) c.renew.ensures.ages
    ∙ ap (λ (w : WorkingSetOf). record w { ages = finite.insert w.ages c.index-page.result.now 0 }) c.self.view_is
    ∙ ap (λ (n : ℕ). record c.args.self.now { ages = finite.insert c.args.self.now.ages n 0 }) same
