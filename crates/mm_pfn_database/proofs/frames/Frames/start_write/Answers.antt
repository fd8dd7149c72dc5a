use Rattle.std.proofs.Common.{◌≡◌, true, false, refl, sym, ap, ◌∙◌}
use Rattle.std.specs.Prelude.{is_some}
use Rattle.mm_types.specs.{Record}
use Rattle.mm_move_rules.specs.{record_at, being_written, off_lists, with_record}
use Rattle.mm_move_rules.proofs.{calm}
use Rattle.mm_pfn_database.proofs.{kept_owned, owned_used, request_busy}
use Rattle.mm_pfn_database.proofs.frames.Frames.start_write.Goals as goal

pub rebind-requires-clause-bound : goal.rebind-requires-clause-bound
rebind-requires-clause-bound c = owned_used (record_at c.args.self.now.table c.args.f.0) c.requires.owned

pub rebind-requires-clause-kept : goal.rebind-requires-clause-kept
rebind-requires-clause-kept c = λ k. kept_owned (being_written c.args.backing c.look-r.result) (ap (λ (r : Record). is_some r.owner) c.look-r.ensures ∙ c.requires.owned)

pub rebind-requires-clause-written : goal.rebind-requires-clause-written
rebind-requires-clause-written c = λ e d.
    let bad : true ≡ false = sym d ∙ calm (record_at c.args.self.now.table c.args.f.0).request c.requires.no_request in
    cc

pub returns : goal.returns
returns c =
    let v = c.args.self.now in
    let f = c.args.f.0 in
    c.rebind.ensures.left (request_busy (being_written c.args.backing c.look-r.result) refl)
    ∙ ap (λ (r : Record). record v { table = with_record (off_lists v.table f) f (being_written c.args.backing r) }) c.look-r.ensures
