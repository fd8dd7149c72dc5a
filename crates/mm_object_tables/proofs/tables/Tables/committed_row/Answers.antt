use Rattle.std.proofs.Common.{◌≡◌, Some, sym, subst}
use Rattle.mm_types.proofs.{some_found}
use Rattle.mm_world.specs.{process_of}
use Rattle.mm_address_spaces.specs.{told_page_row}
use Rattle.mm_object_tables.proofs.{in_area}
use Rattle.mm_object_tables.proofs.tables.Tables.committed_row.Goals as goal

pub key_of_row-requires : goal.key_of_row-requires
key_of_row-requires c = record {
  inside = (λ v is. let p = some_found (process_of c.args.self.now c.args.pid.0) (sym c.if-not-has.ensures) in
      in_area c.args.self.now c.args.pid.0 c.args.page p.0 c.in_ok-row.row c.sound.ensures.sound p.1
      (subst (λ rs. told_page_row rs c.args.page ≡ Some c.in_ok-row.row) (c.space.ensures p.0 p.1) (sym c.in_ok-row.ensures.row)) v is);
}
