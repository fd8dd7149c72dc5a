use Rattle.std.proofs.Common.{ap, List, Option, ℕ, map}
use Rattle.std.specs.Prelude.{Box}
use Rattle.std.specs.declared.alloc.Global.{Global}
use Rattle.mm_devices.specs.{block_bytes}
use Rattle.mm_devices.proofs.stores.Store.new.Goals as goal

pub returns : goal.returns
returns c = ap (λ (bs : List (Option (Box (List ℕ) Global))). map block_bytes bs) c.new.ensures.items
