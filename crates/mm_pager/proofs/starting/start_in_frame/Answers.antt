use Rattle.std.proofs.Common.{sym, ap, ◌∙◌}
use Rattle.mm_types.specs.{Record}
use Rattle.mm_move_rules.specs.{is_read}
use Rattle.mm_pager.proofs.{begun_reading, begun_put}
use Rattle.mm_pager.proofs.starting.start_in_frame.Goals as goal

pub returns-then-is_reading-clause-begun : goal.returns-then-is_reading-clause-begun
returns-then-is_reading-clause-begun g c = begun_reading c.args.key c.args.f c.args.place _ c.requires.free c.requires.stands (ap (λ (r : Record). is_read r.request) (sym c.look-r.ensures) ∙ sym c.is_reading.ensures ∙ c.if-is_reading.true)

pub returns-clause-begun : goal.returns-clause-begun
returns-clause-begun g c = begun_put c.args.key c.args.f c.args.place _ _ c.requires.stands (ap (λ (r : Record). is_read r.request) (sym c.look-r.ensures) ∙ sym c.is_reading.ensures ∙ c.if-is_reading.false) c.put.ensures.went c.put.ensures.puts
