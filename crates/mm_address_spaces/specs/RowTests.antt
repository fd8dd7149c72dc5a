-- What is asked of the rows of a range.
-- Profile, "Calls".
use Rattle.std.specs.Prelude.{Bool, not, is_some}
use Rattle.mm_types.specs.{Kind, base_of}
use Rattle.mm_world.specs.{RowOf, is_one_of, protections_of}
use Rattle.mm_address_spaces.specs.declared.rows.RowTest.{RowTest}
use Rattle.mm_address_spaces.specs.declared.rows.RowTest.TheVariants as test

-- whether a row passes, in a region of this kind
abbrev pub passes : RowTest → Kind → RowOf (Unit {0}) → Bool
passes test.Owned kind = λ row. is_some row.own
passes test.Unmarked kind = λ row. not row.marked
passes test.Marked kind = λ row. row.marked
passes (test.Accepts prot) kind = λ row. is_one_of (protections_of kind row) (base_of prot)
