use Rattle.std.proofs.Common.{refl, sym, ap, ◌∙◌}
use Rattle.std.specs.Prelude.{is_ok}
use Rattle.mm_store.specs.{is_framed}
use Rattle.mm_pager.proofs.{block_of_frame, page_framed, page_home, not_framed}
use Rattle.mm_pager.proofs.flushing.flush_page.Goals as goal

pub returns-in-Frame-clause-flushed : goal.returns-in-Frame-clause-flushed
returns-in-Frame-clause-flushed g c b e =
    let at = sym c.stands.ensures ∙ c.in-Frame.is in
    page_framed c.args.key b c.in-Frame.f (is_ok c.flush_frame.result) (g.T.StateCalls.shown c.args.state.now) (g.T.StateCalls.shown c.flush_frame.new.state) at (c.flush_frame.ensures.flushed b (block_of_frame (g.T.StateCalls.shown c.args.state.now) c.args.key c.in-Frame.f b.0 at e))

pub returns-in_default : goal.returns-in_default
returns-in_default g c = record {
  flushed = λ b e. page_home c.args.key b (g.T.StateCalls.shown c.args.state.now) (ap is_framed (sym c.stands.ensures) ∙ not_framed c.stands.result c.in_default.not-Frame) e;
  loans = refl;
}
