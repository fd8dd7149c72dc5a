-- A machine at rest: no frame has a record, no key lives.
use Rattle.std.proofs.Common.{◌≡◌, ℕ, true, false, refl, sym, ap, ◌∙◌, length}
use Rattle.std.specs.Prelude.{is_some}
use Rattle.mm_types.specs.{MachineOf, Record, LineKind}
use Rattle.mm_move_rules.specs.{blank, record_at, free_table, life_at, FrameBytes, BlockBytes, BytesLocated}
use Rattle.mm_move_rules.proofs.Records.{all_blank}

pub record_at_start : (n f : ℕ) → record_at (free_table n) f ≡ blank
record_at_start n f = all_blank n f

pub located_at_start : (m : MachineOf) (n : ℕ) (k : LineKind) (ram : FrameBytes) (slots blocks : BlockBytes)
    → length ram ≡ m.frames → length slots ≡ m.slots → length blocks ≡ m.blocks → BytesLocated (life_at m n k) ram slots blocks
located_at_start m n k ram slots blocks frames low high = record {
  clean = λ f owned _ _. let bad : false ≡ true = sym (ap (λ (r : Record). is_some r.owner) (record_at_start m.frames f)) ∙ owned in cc;
  zeroed = λ f on. let bad : false ≡ true = on in cc;
  live = λ key. refl;
  frame_room = frames;
  room = low;
  file_room = high;
}
