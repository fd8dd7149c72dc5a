use Rattle.std.proofs.Common.{◌≡◌, ◌<◌, None, sym, ap, ◌∙◌, arith}
use Rattle.std.specs.FinMap as finite
use Rattle.slab.specs.Slab.{slab_len}
use Rattle.mm_working_sets.specs.{WorkingSetOf, ages_of, room_of}
use Rattle.mm_working_sets.proofs.{insert_vacant, insert_keeps, insert_view}
use Rattle.mm_working_sets.proofs.sets.WorkingSet.insert.Goals as goal

pub invariant_of-self : goal.invariant_of-self
invariant_of-self c =
    let s = c.self.inside in
    let i = c.insert_reserved-place in
    let absent : finite.get (ages_of s.pages) c.args.v.0 ≡ None = ap (λ (w : WorkingSetOf). finite.get w.ages c.args.v.0) c.self.view_is ∙ c.requires.absent in
    let free : slab_len s.places < room_of s.is_reserved s.max =
    omega (
      arith,
      c.self.invariant.counted,
      ap (λ (w : WorkingSetOf). finite.len w.places) c.self.view_is,
      ap (λ (w : WorkingSetOf). room_of w.reserved w.max) c.self.view_is,
      ap (λ b. room_of b c.args.self.now.max) c.requires.reserved,
      c.requires.room,
    ) in
    insert_keeps _ s.places i.new.self (ages_of s.pages) _ s.rounds s.used_in.items i.result c.args.v.0 c.self.invariant i.ensures.was_vacant i.ensures.updates absent
    _ _ c.use_in.result free i.ensures.len i.ensures.capacity i.ensures.key_in_range c.insert.ensures.ages c.insert.ensures.room c.use_in.ensures

pub returns-clause-vacant : goal.returns-clause-vacant
returns-clause-vacant c =
    let s = c.self.inside in
    let i = c.insert_reserved-place in
    let absent : finite.get (ages_of s.pages) c.args.v.0 ≡ None = ap (λ (w : WorkingSetOf). finite.get w.ages c.args.v.0) c.self.view_is ∙ c.requires.absent in
    ap (λ (w : WorkingSetOf). finite.get w.places i.result) (sym c.self.view_is)
    ∙ insert_vacant _ s.places i.new.self (ages_of s.pages) _ s.rounds s.used_in.items i.result c.args.v.0 c.self.invariant i.ensures.was_vacant i.ensures.updates absent

pub returns-clause-set : goal.returns-clause-set
returns-clause-set c =
    let s = c.self.inside in
    let i = c.insert_reserved-place in
    let absent : finite.get (ages_of s.pages) c.args.v.0 ≡ None = ap (λ (w : WorkingSetOf). finite.get w.ages c.args.v.0) c.self.view_is ∙ c.requires.absent in
    insert_view _ s.places i.new.self (ages_of s.pages) _ s.rounds s.used_in.items i.result c.args.v.0 c.self.invariant i.ensures.was_vacant i.ensures.updates absent
    s.min s.max s.is_reserved _ c.insert.ensures.ages
    ∙ ap (λ (w : WorkingSetOf). record w { ages = finite.insert w.ages c.args.v.0 0; places = finite.insert w.places i.result c.args.v.0 }) c.self.view_is
