use Rattle.std.proofs.Common.{◌+◌, ◌-◌, ◌*◌, ◌++◌, ◌∙◌, ℕ, List, length, take, ap, arith}
use Rattle.std.specs.Prelude.{map}
use Rattle.std.proofs.lemmas.List.{length_push}
use Rattle.mm_types.specs.{address_of}
use Rattle.mm_address_spaces.proofs.{written_between, next_between, none_between, told_more, told_all, told_enough, in_places}
use Rattle.mm_address_spaces.proofs.watched.list.Goals as goal

pub loop-told-preserved : goal.loop-told-preserved
loop-told-preserved c =
    let flags = c.args.flags.now in
    let base = c.args.base in
    let end = c.args.first - base + c.args.n in
    let step = next_between flags base c.loop-told.at end c.requires.high c.in-Some.i c.in-Some.ensures.within c.in-Some.ensures.found in
    let later = written_between flags base (c.in-Some.i + 1) end in
    record {
      few = omega (arith, ap length c.push.ensures, length_push c.loop-told.pages ((base + c.in-Some.i) * 4096), c.loop-told.invariant.few);
      told =
          ap (λ (pages : List ℕ). pages ++ map address_of (take (c.args.count - (c.loop-told._told + 1)) later)) c.push.ensures
          ∙ told_more c.loop-told.pages _ _ later (base + c.in-Some.i) c.args.count c.loop-told._told c.loop-told-test.true step c.loop-told.invariant.told;
    }

pub returns-in_default : goal.returns-in_default
returns-in_default c =
    let flags = c.args.flags.now in
    let base = c.args.base in
    let end = c.args.first - base + c.args.n in
    told_all c.loop-told.pages _ _ (c.args.count - c.loop-told._told) (none_between flags base c.loop-told.at end c.requires.high c.in_default.ensures.none) c.loop-told.invariant.told
    ∙ ap (map address_of) (in_places flags base c.args.first c.args.n c.args.count c.requires.low)

pub returns-after-loop-told : goal.returns-after-loop-told
returns-after-loop-told c =
    told_enough c.loop-told.pages _ _ (c.args.count - c.loop-told._told) (omega arith) c.loop-told.invariant.told
    ∙ ap (map address_of) (in_places c.args.flags.now c.args.base c.args.first c.args.n c.args.count c.requires.low)
