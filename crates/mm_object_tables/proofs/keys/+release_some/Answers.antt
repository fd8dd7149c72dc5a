use Rattle.std.proofs.Common.{◌≡◌, ◌∙◌, ◌-◌, ◌/◌, ap, arith}
use Rattle.mm_types.specs.{Range}
use Rattle.mm_object_tables.specs.{is_owned_at}
use Rattle.mm_object_tables.proofs.PageByPage.{all_owned}
use Rattle.mm_object_tables.proofs.{owned_is, low_in, high_in, apart, around_part, can_part, can_after, given_halves, halves_pass, halves}
use Rattle.mm_object_tables.proofs.EndingExits.{counted}
use Rattle.mm_object_tables.proofs.keys.+release_some.Goals as goal

pub release_empty-requires-clause-none : goal.release_empty-requires-clause-none
release_empty-requires-clause-none g t c =
    let is = owned_is c.args.space.now.regions c.args.range c.sound.ensures c.requires.around in
    omega (arith, is)

pub release_each-requires-clause-known : goal.release_each-requires-clause-known
release_each-requires-clause-known g t c =
    let is = owned_is c.args.space.now.regions c.args.range c.sound.ensures c.requires.around in
    let whole : c.range.inside.count ≡ c.args.range.count = ap (λ (r : Range). r.count) c.range.view_is in
    all_owned (is_owned_at c.args.space.now.regions c.args.range.first) c.args.range.count (omega (arith, is, whole))

pub owned-low_owned-requires : goal.owned-low_owned-requires
owned-low_owned-requires g t c =
    let h = halves c.args.range c.low_half-low.result c.high_half-high.result c.low_half-low.ensures c.high_half-high.ensures in
    record { inside = around_part c.args.space.now.regions c.requires.around (low_in h) }

pub overflow_sub-owned : goal.overflow_sub-owned
overflow_sub-owned g t c =
    let h = halves c.args.range c.low_half-low.result c.high_half-high.result c.low_half-low.ensures c.high_half-high.ensures in
    let sum = counted h c.args.space.now.regions c.sound.ensures c.requires.around in
    omega (arith, sum)

pub release_some-requires : goal.release_some-requires
release_some-requires g t c κs within =
    let h = halves c.args.range c.low_half-low.result c.high_half-high.result c.low_half-low.ensures c.high_half-high.ensures in
    let count : c.low_half-low.result.count ≡ c.args.range.count / 2 = ap (λ (r : Range). r.count) c.low_half-low.ensures in
    let whole : c.range.inside.count ≡ c.args.range.count = ap (λ (r : Range). r.count) c.range.view_is in
    (omega (arith, count, whole, c.decreases), (within, (omega (arith, c.requires.end, h.first, h.count), (around_part c.args.space.now.regions c.requires.around (low_in h), (c.owned-low_owned.ensures, can_part c.requires.can (low_in h))))))

pub release_some-requires-else-range-le-FEW_PAGES : goal.release_some-requires-else-range-le-FEW_PAGES
release_some-requires-else-range-le-FEW_PAGES g t c κs within =
    let h = halves c.args.range c.low_half-low.result c.high_half-high.result c.low_half-low.ensures c.high_half-high.ensures in
    let count : c.high_half-high.result.count ≡ c.args.range.count - c.args.range.count / 2 = ap (λ (r : Range). r.count) c.high_half-high.ensures in
    let whole : c.range.inside.count ≡ c.args.range.count = ap (λ (r : Range). r.count) c.range.view_is in
    let sum = counted h c.args.space.now.regions c.sound.ensures c.requires.around in (
      omega (arith, count, whole, c.decreases),
      (
        within,
        (
          omega (arith, c.requires.end, h.second, h.count),
          (
            around_part c.args.space.now.regions c.requires.around (high_in h),
            (
              omega (arith, sum, c.owned-low_owned.ensures),
              can_after (apart h) (can_part c.requires.can (high_in h)) c.release_some.ensures.given_up,
            ),
          ),
        ),
      ),
    )

pub returns-else-range-le-FEW_PAGES : goal.returns-else-range-le-FEW_PAGES
returns-else-range-le-FEW_PAGES g t c =
    let h = halves c.args.range c.low_half-low.result c.high_half-high.result c.low_half-low.ensures c.high_half-high.ensures in
    record {
      given_up = given_halves h c.args.goes c.args.space.now.regions c.release_some.ensures.given_up c.release_some-else-range-le-FEW_PAGES.ensures.given_up;
      passes = λ held from to among.
          halves_pass h g.G.PageStore.unpaged held from to c.args.pid (g.G.PageStore.store c.args.g.now) (g.G.PageStore.store c.release_some.new.g) (g.G.PageStore.store c.release_some-else-range-le-FEW_PAGES.new.g)
          (g.G.PageStore.behind c.args.g.now) (g.G.PageStore.behind c.release_some.new.g) (g.G.PageStore.behind c.release_some-else-range-le-FEW_PAGES.new.g) among c.release_some.ensures.passes c.release_some-else-range-le-FEW_PAGES.ensures.passes;
      loans = c.release_some-else-range-le-FEW_PAGES.ensures.loans ∙ c.release_some.ensures.loans;
    }
