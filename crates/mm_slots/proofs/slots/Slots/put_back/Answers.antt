use Rattle.std.proofs.Common.{ap, ◌∙◌, refl, true, arith}
use Rattle.std.specs.Prelude.{slice_get}
use Rattle.mm_bits.specs.{have_bit}
use Rattle.mm_slots.specs.{SlotsOf}
use Rattle.mm_slots.proofs.{before, free_changed, low_changed, slot_given, more_fits, shown_changed}
use Rattle.mm_slots.proofs.slots.Slots.put_back.Goals as goal

pub insert-requires : goal.insert-requires
insert-requires c =
    let back = have_bit c.self.inside.back.words in
    let was = before back back _ 0 _ 0 _ _ _ c.self.invariant c.args.s.0 (ap (λ (v : SlotsOf). slice_get v.free c.args.s.0) c.self.view_is ∙ c.requires) in
    c.self.invariant.covered c.args.s.0 (omega (arith, was.1)) (omega (arith, was.1))

pub overflow_add-self : goal.overflow_add-self
overflow_add-self c =
    let back = have_bit c.self.inside.back.words in
    let fits = more_fits back back _ 0 _ 0 _ _ _ c.self.invariant c.args.s.0 (ap (λ (v : SlotsOf). slice_get v.free c.args.s.0) c.self.view_is ∙ c.requires) in
    omega (arith, fits)

pub invariant_of-self : goal.invariant_of-self
invariant_of-self c =
    let back = have_bit c.self.inside.back.words in
    let back' = have_bit c.insert.new.self.words in
    let taken = ap (λ (v : SlotsOf). slice_get v.free c.args.s.0) c.self.view_is ∙ c.requires in
    let was = (before back back _ 0 _ 0 _ _ _ c.self.invariant c.args.s.0 taken).0 in
    let puts = c.insert.ensures.puts in
    slot_given back back' _ _ _ _ _ _ _ c.self.invariant c.args.s.0 taken c.insert.ensures.room refl
    (low_changed back back' c.self.inside.fresh c.args.s.0 true was puts c.self.invariant.low) (free_changed back back' c.self.inside.fresh c.args.s.0 true was puts)

pub returns : goal.returns
returns c =
    let back = have_bit c.self.inside.back.words in
    let taken = ap (λ (v : SlotsOf). slice_get v.free c.args.s.0) c.self.view_is ∙ c.requires in
    let was = (before back back _ 0 _ 0 _ _ _ c.self.invariant c.args.s.0 taken).0 in
    shown_changed _ _ _ _ _ _ c.args.self.now c.self.view_is (free_changed back (have_bit c.insert.new.self.words) c.self.inside.fresh c.args.s.0 true was c.insert.ensures.puts)
