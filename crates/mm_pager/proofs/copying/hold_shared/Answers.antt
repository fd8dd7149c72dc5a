use Rattle.std.proofs.Common.{sym, ◌∙◌}
use Rattle.mm_pager.proofs.{there_readied, faulted_readied, shared_fits, named_here}
use Rattle.mm_pager.proofs.copying.hold_shared.Goals as goal
use Rattle.mm_types.proofs.{on_err}

pub returns-in-Some-clause-readied : goal.returns-in-Some-clause-readied
returns-in-Some-clause-readied g c = there_readied c.args.from c.in-Some.f c.args.place (g.T.StateCalls.shown c.args.state.now) (sym c.valid.ensures ∙ c.in-Some.is) (named_here c.args.from c.in-Some.f c.args.place (g.T.StateCalls.shown c.args.state.now) (g.met.T.StateCalls.holds c.args.state.now) (sym c.valid.ensures ∙ c.in-Some.is) c.requires.named)

pub returns-in-None-clause-free : goal.returns-in-None-clause-free
returns-in-None-clause-free g c = on_err _ (sym c.valid.ensures ∙ c.in-None.is)

pub fault-requires : goal.fault-requires
fault-requires g c = record {
  may = record {
    access = c.requires.access (sym c.valid.ensures ∙ c.in-None.is);
    live = c.requires.may.live;
    usable = record { bound = c.requires.may.bound; fits = shared_fits c.args.place c.args.from c.requires.may.shared; alone = λ h. c.requires.may.dead; aside = c.requires.may.aside };
    free = sym c.valid.ensures ∙ c.in-None.is;
    own = c.requires.may.own;
  };
}

pub returns-in-None-clause-readied : goal.returns-in-None-clause-readied
returns-in-None-clause-readied g c = faulted_readied _ c.args.from c.args.place (g.T.StateCalls.shown c.args.state.now) (g.T.StateCalls.shown c.fault.new.state) (sym c.valid.ensures ∙ c.in-None.is) c.fault.ensures.ok
