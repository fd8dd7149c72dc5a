use Rattle.std.proofs.Common.{◌≡◌, ◌∙◌, refl, sym, ap, inl, inr, true, false, subst}
use Rattle.std.specs.Prelude.{Bool}
use Rattle.mm_types.specs.{Rose}
use Rattle.mm_world.specs.{filled}
use Rattle.mm_dispatch.specs.{takes_memory, world, world_behind, report, ToldBeside, Breaks, scene}
use Rattle.mm_run.specs.{Running, Moved, fault_counts_with}
use Rattle.mm_run.proofs.{devices_hold, unpaged_answer, plain_answer}
use Rattle.mm_dispatch.proofs.{stands}
use Rattle.mm_run.proofs.decisions.decide.Goals as goal
use Rattle.mm_run.proofs.decisions.decide.Goals.{In-Ok}
use Rattle.mm_run.proofs.decisions.decide.Given as given

-- the line was decided
moved : (g : given.Over) (c : In-Ok g) → Moved (Running (scene c.args.world.now)) c.args.event.now c.step-decided.new.answer (Running (scene c.step-decided.new.self))
moved g c =
    let e = c.args.event.now in
    let old = c.args.world.now in
    let new = c.step-decided.new.self in
    let a = c.step-decided.new.answer in
    let pages = g.G.PageStore in
    let kept = stands pages.unpaged (pages.contents new.pages) (pages.store new.pages) (pages.behind new.pages) c.requires.ready.begun.paged c.sound.ensures.stands in
    let d = c.in-Ok.ensures.decided in
    let o = d.stepped in
    let noted = d.notes c.requires.ready.begun.paged in
    record {
      moves = d.moves;
      decided = record {
        step = (
          c.requires.later.later,
          record {
            answered = o.decided;
            unpaged = unpaged_answer (world old) (world new) e a (report old) (report new) o.decided;
            plain = λ few none. plain_answer (world old) (report old) (report new) none kept.search kept.read (world new) e a o.decided few;
            told = subst (λ (u : Bool). ToldBeside u (scene old) e a d.moves (scene new)) c.requires.ready.begun.paged d.told;
          },
        );
        within = d.told.sound.within;
        notes = record { in_range = noted.in_range; grew = noted.grew; replays = noted.replays };
        holds = devices_hold new.tables (pages.contents new.pages) (pages.store new.pages) (pages.behind new.pages) kept (d.told.line c.requires.ready.begun.paged).agrees.keys;
      };
    }

pub returns-in-Err-clause-came : goal.returns-in-Err-clause-came
returns-in-Err-clause-came g c = inl (
  refl,
  record {
    breaks = subst (λ (u : Bool). Breaks u (scene c.args.world.now) c.args.event.now (scene c.step-decided.new.self)) c.requires.ready.begun.paged c.in-Err.ensures.broke;
    takes = taken (takes_memory filled (world c.args.world.now) c.args.event.now) c.in-Err.ensures.no_memory;
  },
)
  where
    taken : (b : Bool) → (b ≡ false → false ≡ true) → b ≡ true
    taken true h = refl
    taken false h = h refl

pub returns-in-Err-clause-faults : goal.returns-in-Err-clause-faults
returns-in-Err-clause-faults g c = λ s o.
    let breaks : Breaks false (scene c.args.world.now) c.args.event.now (scene c.step-decided.new.self) = subst (λ (u : Bool). Breaks u (scene c.args.world.now) c.args.event.now (scene c.step-decided.new.self)) c.requires.ready.begun.paged c.in-Err.ensures.broke in
    ((breaks.broken refl).grew.later, refl)

pub returns-then-moves_failed-clause-came : goal.returns-then-moves_failed-clause-came
returns-then-moves_failed-clause-came g c =
    inr (refl, (c.step-decided.new.answer, moved g (goal.at.returns-then-moves_failed-clause-came g c).In-Ok), sym c.if-moves_failed.ensures)

pub returns-then-moves_failed-clause-faults : goal.returns-then-moves_failed-clause-faults
returns-then-moves_failed-clause-faults g c = λ s o.
    let rose : Rose (world_behind c.args.world.now).log.faults (world_behind c.step-decided.new.self).log.faults = elim ((c.in-Ok.ensures.decided.notes c.requires.ready.begun.paged).grew.cause (sym c.if-moves_failed.ensures)) [
      | inl was ↦ (let clash : true ≡ false = sym was ∙ c.requires.ready.noted in cc)
      | inr rose ↦ rose
    ] in
    (rose, refl)

pub returns-clause-came : goal.returns-clause-came
returns-clause-came g c = moved g (goal.at.returns-clause-came g c).In-Ok

pub returns-clause-faults : goal.returns-clause-faults
returns-clause-faults g c = λ s o. ap (λ k. fault_counts_with s o k) ((c.in-Ok.ensures.decided.notes c.requires.ready.begun.paged).grew.same (sym c.if-moves_failed.ensures))

pub returns-clause-ready : goal.returns-clause-ready
returns-clause-ready g c = record {
  begun = record { count = c.in-Ok.ensures.line; ready = c.in-Ok.ensures.ready; paged = c.requires.ready.begun.paged };
  noted = sym c.if-moves_failed.ensures;
}
