use Rattle.std.proofs.Common.{◌≡◌, ℕ, subst, ◌+◌, ◌-◌, ◌^◌, ◌∙◌, ap, arith}
use Rattle.mm_types.specs.{Range}
use Rattle.mm_world.specs.{charge, limit, Tables, set_region, commit, change_rows}
use Rattle.mm_store.specs.{Turns, MakesStack, PassesIn}
use Rattle.mm_store.proofs.{stack_then}
use Rattle.mm_calls.specs.{IsReserved, IsUncommitted, reserved_region}
use Rattle.mm_calls.proofs.{joined, in_user, top_free, guard_free, both_made, charge_more, lasts_commit}
use Rattle.mm_calls.proofs.stacks.commit_ends.Given as given
use Rattle.mm_calls.proofs.stacks.commit_ends.Goals as goal
use Rattle.mm_calls.proofs.stacks.commit_ends.Goals.{After-pages-2}

-- the top pages, of which none is committed, and the guard page once they are

top_is : (g : given.Over) (c : After-pages-2 g) → c.pages.result ≡ record { first = c.args.range.first + c.args.range.count - (c.args.top + 1) + 1; count = c.args.top }
top_is g c = c.pages.ensures.pages ∙ (λ i. record { first = c.guard_of-guard.ensures.guard i + 1; count = c.args.top })

abbrev top : (g : given.Over) (c : After-pages-2 g) → IsReserved c.args.t.now c.args.pid.0 c.args.range → IsUncommitted c.args.t.now c.args.pid.0 c.pages.result
top g c r = top_free c.args.t.now c.args.pid.0 c.args.range c.args.top r c.requires.tall.inside c.pages.result (top_is g c) c.requires.tall.some c.sound.ensures.sound

record Ends (g : given.Over) (c : After-pages-2 g) (r : IsReserved c.args.t.now c.args.pid.0 c.args.range) : Type 0 where
  made : c.commit_new.new.t ≡ set_region c.args.t.now c.args.pid.0 r.process r.place (change_rows (commit tt 0x04) c.pages.result (reserved_region c.args.range))
  one : c.pages-2.result ≡ record { first = c.args.range.first + c.args.range.count - (c.args.top + 1); count = 1 }

ends : (g : given.Over) (c : After-pages-2 g) (r : IsReserved c.args.t.now c.args.pid.0 c.args.range) → Ends g c r
ends g c r = record {
  made = c.commit_new.ensures.changed (top g c r);
  one = c.pages-2.ensures.pages ∙ (λ i. record { first = c.guard_of-guard.ensures.guard i; count = 1 });
}

pub guard_of-guard-requires-clause-user : goal.guard_of-guard-requires-clause-user
guard_of-guard-requires-clause-user g c = in_user c.args.t.now c.args.pid.0 c.args.range c.args.top c.requires.reserved c.requires.tall.inside c.sound.ensures.sound

pub overflow_add-guard : goal.overflow_add-guard
overflow_add-guard g c =
    omega (arith, c.guard_of-guard.ensures.guard, in_user c.args.t.now c.args.pid.0 c.args.range c.args.top c.requires.reserved c.requires.tall.inside c.sound.ensures.sound)

pub commit_new-requires-clause-free : goal.commit_new-requires-clause-free
commit_new-requires-clause-free g c =
    top_free c.args.t.now c.args.pid.0 c.args.range c.args.top c.requires.reserved c.requires.tall.inside c.pages.result
    (c.pages.ensures.pages ∙ (λ i. record { first = c.guard_of-guard.ensures.guard i + 1; count = c.args.top })) c.requires.tall.some c.sound.ensures.sound

pub commit_new-requires-2-clause-free : goal.commit_new-requires-2-clause-free
commit_new-requires-2-clause-free g c =
    let d = (goal.at.commit_new-requires-2-clause-free g c).After-pages-2 in
    let e = ends g d c.requires.reserved in
    guard_free c.args.t.now c.args.pid.0 c.args.range c.args.top c.requires.reserved c.requires.tall.inside c.pages.result (top_is g d) c.commit_new.new.t e.made c.pages-2.result e.one c.sound-2.ensures.sound

pub commit_new-requires-2-clause-room : goal.commit_new-requires-2-clause-room
commit_new-requires-2-clause-room g c =
    let d = (goal.at.commit_new-requires-2-clause-room g c).After-pages-2 in
    let e = ends g d c.requires.reserved in
    let more = charge_more c.args.t.now c.args.pid.0 c.pages.result (top g d c.requires.reserved) 0x04 in
    let charged = ap (λ (t : Tables). charge t) e.made in
    let tops = ap (λ (r : Range). r.count) (top_is g d) in
    let one = ap (λ (r : Range). r.count) e.one in
    record {
      allowed = omega (arith, more, charged, ap (λ (t : Tables). limit t) e.made, tops, one, c.requires.room.allowed);
      room = omega (arith, more, charged, tops, one, c.requires.room.room, c.commit_new.ensures.makes.later);
    }

pub returns-clause-changed : goal.returns-clause-changed
returns-clause-changed g c h =
    let d = (goal.at.returns-clause-changed g c).After-pages-2 in
    let e = ends g d h in
    both_made c.args.t.now c.args.pid.0 c.args.range c.args.top h c.requires.tall.inside c.pages.result (top_is g d) c.commit_new.new.t e.made c.pages-2.result e.one c.commit_new-2.new.t
    (c.commit_new-2.ensures.changed (guard_free c.args.t.now c.args.pid.0 c.args.range c.args.top h c.requires.tall.inside c.pages.result (top_is g d) c.commit_new.new.t e.made c.pages-2.result e.one c.sound-2.ensures.sound))

pub returns-clause-settled : goal.returns-clause-settled
returns-clause-settled g c =
    let d = (goal.at.returns-clause-settled g c).After-pages-2 in
    joined c.args.t.now c.commit_new.new.t c.commit_new-2.new.t _ _ _ _ _ _ c.requires.begins.fits
    (lasts_commit c.args.t.now c.args.pid.0 c.pages.result (top g d c.requires.reserved) 0x04 c.commit_new.new.t c.sound.ensures.sound (ends g d c.requires.reserved).made)
    c.commit_new.ensures.settled c.commit_new-2.ensures.settled

pub returns-clause-passes : goal.returns-clause-passes
returns-clause-passes g c =
    let guard = c.guard_of-guard.result in
    let top = c.pages.ensures.pages in
    let one = c.pages-2.ensures.pages in
    let first : c.pages.result.first ≡ guard + 1 = ap (λ (r : Range). r.first) top in
    let below : c.pages-2.result.first ≡ guard = ap (λ (r : Range). r.first) one in
    let count : c.pages-2.result.count ≡ 1 = ap (λ (r : Range). r.count) one in
    let is : guard ≡ c.args.range.first + c.args.range.count - (c.args.top + 1) = c.guard_of-guard.ensures.guard in
    subst (λ (n : ℕ). PassesIn g.G.PageStore.unpaged (Turns (MakesStack n)) (g.G.PageStore.store c.args.g.now) (g.G.PageStore.store c.commit_new-2.new.g) (g.G.PageStore.behind c.args.g.now) (g.G.PageStore.behind c.commit_new-2.new.g)) is
    (stack_then g.G.PageStore.unpaged guard (g.G.PageStore.store c.args.g.now) (g.G.PageStore.store c.commit_new.new.g) (g.G.PageStore.store c.commit_new-2.new.g)
    (g.G.PageStore.behind c.args.g.now) (g.G.PageStore.behind c.commit_new.new.g) (g.G.PageStore.behind c.commit_new-2.new.g)
    (c.commit_new.ensures.makes.passes (guard + 1) (2 ^ 32) (omega (arith, first), c.commit_new.ensures.makes.among.1))
    (c.commit_new-2.ensures.makes.passes guard (guard + 1) (omega (arith, below), omega (arith, below, count))))
