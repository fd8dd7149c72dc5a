use Rattle.std.proofs.Common.{refl, ◌∙◌, sym, ap, arith, is_some}
use Rattle.mm_types.proofs.{some_found}
use Rattle.mm_world.specs.{region_around, protected}
use Rattle.mm_commit_charge.specs.{CommitOf}
use Rattle.mm_address_spaces.specs.{owned_in}
use Rattle.mm_object_tables.proofs.{out_of_memory, settled_as, protect_done, around, Held, held_by, still_kept, around_became, around_changed, lives_there}
use Rattle.mm_object_tables.proofs.Settled.{all_owned}
use Rattle.mm_object_tables.proofs.tables.Tables.protect.Given as given
use Rattle.mm_object_tables.proofs.tables.Tables.protect.Goals as goal
use Rattle.mm_object_tables.proofs.tables.Tables.protect.Goals.{After-space_of}

held : (g : given.Over) (c : After-space_of g) → Held c.self.inside c.args.self.now c.args.pid.0 c.index_mut.result.now c.space_of.result.now.regions
held g c = held_by c.self.inside c.args.self.now c.self.view_is c.self.invariant c.args.pid.0 c.index_mut.result.now c.requires.ready.lives c.index_mut.ensures.value c.space_of.ensures.value

pub space_of-requires : goal.space_of-requires
space_of-requires g c = record { lives = lives_there c.self.inside c.args.self.now c.self.view_is c.args.pid.0 c.index_mut.result.now c.requires.ready.lives c.index_mut.ensures.value }

pub protect-requires : goal.protect-requires
protect-requires g c =
    let h = held g (goal.at.protect-requires g c).After-space_of in
    record {
      inside = ap (λ rs. is_some (region_around rs c.args.range)) h.same ∙ c.requires.can.inside h.process h.lives;
      prot = c.requires.can.allowed;
      accepted = λ r found. c.requires.can.accepted h.process r h.lives (ap (λ rs. region_around rs c.args.range) (sym h.same) ∙ found);
      committed = λ r found private.
          let at = ap (λ rs. region_around rs c.args.range) (sym h.same) ∙ found in
          let a = around h.process.regions c.args.range r at in
          ap (λ rs. owned_in rs c.args.range) h.same ∙ a.owned
          ∙ all_owned c.args.self.now c.args.pid.0 h.process r.place r.thing c.args.range h.lives h.kept.sound a.at a.inside private (c.requires.can.committed h.process r h.lives at);
    }

pub invariant_of-self : goal.invariant_of-self
invariant_of-self g c =
    let h = held g (goal.at.invariant_of-self g c).After-space_of in
    let r = some_found (region_around h.process.regions c.args.range) (c.requires.can.inside h.process h.lives) in
    let n = c.requires.can.counted h.process h.lives in
    let done = protect_done c.args.self.now c.args.pid h.process c.args.range _ _ _ _ h.lives h.kept.sound c.requires.ready.fits r.0 c.args.prot r.1 (c.requires.can.committed h.process r.0 h.lives r.1) (c.requires.can.accepted h.process r.0 h.lives r.1)
    c.grow_for_marks.ensures.more (omega (arith, c.now.ensures.charge, h.kept.charged, c.in_ok-grow_for_marks.ensures.room, n)) in
    let became = around_became h c.args.range c.protect.new.self (λ r. protected r.kind c.args.prot) c.protect.ensures.changed h.process r.0 h.lives r.1 in
    still_kept h c.protect.new.self _ c.take.new.commit _ became done.stands done.charged (omega (arith, c.requires.room, n))
    (omega (arith, ap (λ (k : CommitOf). k.charge) c.take.ensures, h.kept.charged, n)) (ap (λ (k : CommitOf). k.limit) c.take.ensures)

pub returns-clause-ok : goal.returns-clause-ok
returns-clause-ok g c p r lives found =
    around_changed (held g (goal.at.returns-clause-ok g c).After-space_of) c.args.range c.protect.new.self (λ r. protected r.kind c.args.prot) c.protect.ensures.changed p r lives found

pub returns-clause-settles : goal.returns-clause-settles
returns-clause-settles g c =
    let h = held g (goal.at.returns-clause-settles g c).After-space_of in
    let r = some_found (region_around h.process.regions c.args.range) (c.requires.can.inside h.process h.lives) in
    let done = protect_done c.args.self.now c.args.pid h.process c.args.range _ _ _ _ h.lives h.kept.sound c.requires.ready.fits r.0 c.args.prot r.1 (c.requires.can.committed h.process r.0 h.lives r.1) (c.requires.can.accepted h.process r.0 h.lives r.1)
    c.grow_for_marks.ensures.more (omega (arith, c.now.ensures.charge, h.kept.charged, c.in_ok-grow_for_marks.ensures.room, c.requires.can.counted h.process h.lives)) in
    record { err = tt; settled = settled_as (around_changed h c.args.range c.protect.new.self (λ r. protected r.kind c.args.prot) c.protect.ensures.changed h.process r.0 h.lives r.1) done.settled }

pub returns-in_err-grow_for_marks-clause-settles : goal.returns-in_err-grow_for_marks-clause-settles
returns-in_err-grow_for_marks-clause-settles g c = out_of_memory g.G.PageStore c.from_residual.result c.requires.ready.fits refl c.grow_for_marks.ensures.more
