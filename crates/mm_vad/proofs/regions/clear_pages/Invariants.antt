use Rattle.std.proofs.Common.{drop}
use Rattle.std.specs.Prelude.{map}
use Rattle.mm_types.specs.{page_of}
use Rattle.mm_world.specs.{unwritten}
use Rattle.mm_vad.proofs.{Left}
use Rattle.mm_vad.proofs.regions.clear_pages.Given as goal

abbrev pub invariant-loop-address : goal.invariant-loop-address
invariant-loop-address l = Left l.base (unwritten l.base (map page_of l.addresses) l.fn.flags) l.fn.flags l.flags (drop l.address-index l.addresses)
