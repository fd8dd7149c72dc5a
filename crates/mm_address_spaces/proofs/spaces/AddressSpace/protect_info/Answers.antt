use Rattle.std.proofs.Common.{sym, ap, ◌∙◌}
use Rattle.mm_world.specs.{RegionOf}
use Rattle.mm_address_spaces.specs.{passes}
use Rattle.mm_address_spaces.specs.declared.rows.RowTest.TheVariants as test
use Rattle.mm_address_spaces.proofs.{every_row, every_owned}
use Rattle.mm_address_spaces.proofs.spaces.AddressSpace.protect_info.Goals as goal

pub returns-clause-some : goal.returns-clause-some
returns-clause-some c =
    let rs = c.args.self.now.regions in
    let range = c.args.range in
    let around = c.in_ok-region.ensures.some in
    let r = around.at.found in
    let e = around.around in
    record {
      region = r;
      around = e;
      kind = ap (λ (x : RegionOf (Unit {0})). x.kind) around.at.is_shown;
      committed = λ private w. c.do_all_pass.ensures r e ∙ sym (every_owned w rs range r e private);
      before = c.protection_at.ensures r e;
    }

pub returns-clause-accepted : goal.returns-clause-accepted
returns-clause-accepted c r e = c.do_all_pass-2.ensures r e ∙ sym (every_row (passes (test.Accepts c.args.prot) r.thing.kind) c.args.self.now.regions c.args.range r e)
