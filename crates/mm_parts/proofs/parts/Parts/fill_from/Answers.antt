use Rattle.std.proofs.Common.{ap, set}
use Rattle.std.specs.Prelude.{slice_get}
use Rattle.std.proofs.lemmas.Result.{on_ok_weaker, on_err_weaker}
use Rattle.mm_pfn_database.specs.{FramesOf}
use Rattle.mm_parts.specs.{JoinedParts, joined_parts}
use Rattle.mm_parts.proofs.{kept_by, bytes_step}
use Rattle.mm_parts.proofs.parts.Parts.fill_from.Goals as goal

pub invariant_of-self : goal.invariant_of-self
invariant_of-self g c =
    let t = joined_parts c.args.self.now in
    let over : FramesOf → JoinedParts = λ v. record t { table = v.table; bytes = v.bytes } in
    let page = slice_get (g.D.Inject.blocks c.args.device.now) c.args.block in
    let step = bytes_step t c.args.self.now.kept (set t.bytes c.args.f.0 page) in
    record { kept = kept_by c.fill_from.result t _ (over c.fill_from.new.self) _ c.args.self.now.kept step (on_ok_weaker c.fill_from.result (λ e. ap over e) c.fill_from.ensures.ok) (on_err_weaker c.fill_from.result (λ e. ap over e) c.fill_from.ensures.err) }
