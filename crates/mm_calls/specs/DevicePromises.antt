-- What the calls that call devices promise: a paging file that grows, new files and flushes.
-- Profile, "Calls".
use Rattle.std.specs.Prelude.{◌≡◌, ◌≤◌, ◌<◌, ℕ, true, false, length}
use Rattle.mm_types.specs.{Answer, Rose, Text}
use Rattle.mm_types.specs.declared.answers.Answer.TheVariants as answer
use Rattle.mm_devices.specs.{CallFailed}
use Rattle.mm_world.specs.{Tables, BytesAfterFile, is_failed_extension}
use Rattle.mm_store.specs.{Ghosts as PageStoreGhosts, Served, begun, wrote}
use Rattle.mm_object_tables.specs.{FitsTables, beside_file, extended, file_told, grow_told, key_bytes}
use Rattle.mm_calls.specs.Stages.{AreHeld, NewFileMade}

module _ {G : Type 0} (p : PageStoreGhosts G) where
  -- the paging file grew by `n` slots in this line, or it could not
  pub record AnswersGrow (line n : ℕ) (t : Tables) (g : G) (a : Answer) (after : Tables) (h : G) :
      Type 0 where
    pub told : grow_told t n (p.store h).report ≡ record { answer = a; world = after }
    pub contents : p.contents h ≡ p.contents g
    pub fits : FitsTables after (p.contents h) (p.store h)
    pub rest : p.store h ≡ extended (p.store g) (p.store h)
    pub report : (p.store h).report ≡ record (begun (p.store g).report) {
      counts = (p.store h).report.counts;
      extended = (p.store h).report.extended;
    }
    pub line_is : (p.store h).line ≡ line
    pub grew : (limit : ℕ) → a ≡ answer.Limit limit →
        (p.store h).paging_device ≡ (p.store g).paging_device
    -- where the machine can have no more slots the device is not asked
    pub unasked : a ≡ answer.Full → (p.store h).paging_device ≡ (p.store g).paging_device
    pub cause : a ≡ answer.Fault →
        Rose (p.store g).paging_device.faults (p.store h).paging_device.faults
    pub faults : (p.store g).paging_device.faults ≤ (p.store h).paging_device.faults
    pub unpaged : p.unpaged ≡ true → is_failed_extension (p.store h).report.extended ≡ false

  -- a file was made, or it was refused, or a write of its pages failed
  pub record AnswersFile (name : Text) (pages byte : ℕ) (t : Tables) (g : G) (a : Answer)
      (after : Tables) (h : G) : Type 0 where
    pub told : file_told t name pages byte (p.store h).report ≡ record {
      answer = a;
      world = after;
    }
    pub bytes : BytesAfterFile byte t (key_bytes (p.contents g)) after (key_bytes (p.contents h))
    pub fits : FitsTables after (p.contents h) (p.store h)
    pub beside : p.store h ≡ beside_file (p.store g) (p.store h)
    pub served : Served (p.store g) (p.store h)
    pub blamed : a ≡ answer.Fault → CallFailed (p.store g).file_device (p.store h).file_device
    pub file : p.unpaged ≡ false → NewFileMade t.blocks_used pages a (p.store g) (p.store h)

  -- blocks of files were written and nothing else, up to a write that failed
  pub record AnswersFlush (t : Tables) (a : Answer) (g h : G) : Type 0 where
    pub contents : p.contents h ≡ p.contents g
    pub fits : FitsTables t (p.contents h) (p.store h)
    pub beside : p.store h ≡ wrote (p.store g) (p.store h)
    pub served : Served (p.store g) (p.store h)
    pub blamed : a ≡ answer.Fault → CallFailed (p.store g).file_device (p.store h).file_device
    pub loans : p.loans h ≡ p.loans g

  -- the same, of each page's write
  pub record FlushesBlocks (g h : G) : Type 0 where
    pub store : p.store h ≡ wrote (p.store g) (p.store h)
    pub served : Served (p.store g) (p.store h)
    pub stored : length (p.store h).file_blocks ≡ length (p.store g).file_blocks
    pub contents : p.contents h ≡ p.contents g
    pub loans : p.loans h ≡ p.loans g

  -- the blocks of these pages of a file hold their bytes, and no write failed
  pub record HoldsPages (area first count : ℕ) (g h : G) : Type 0 where
    pub held : AreHeld (p.store g).block_of (p.contents g) (p.store h).file_blocks area first count
    pub quiet : (p.store h).report.file_writes.failed ≡ (p.store g).report.file_writes.failed

  -- a write failed: the device's failure, and told
  pub record FailsWrite (g h : G) : Type 0 where
    pub failed : 0 < (p.store h).report.file_writes.failed
    pub blamed : CallFailed (p.store g).file_device (p.store h).file_device
