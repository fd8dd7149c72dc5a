-- What sources, sinks and devices show: the words of a run, said of these themselves.
-- Profile, "A run".
use Rattle.mm_types.specs.{Text}
use Rattle.mm_io.specs.declared.Source.{Ghosts as SourceGhosts}
use Rattle.mm_io.specs.declared.Sink.{Ghosts as SinkGhosts}
use Rattle.mm_devices.specs.declared.BlockDevice.{Ghosts as DeviceGhosts}
use Rattle.mm_store.specs.{Ghosts as PageStoreGhosts}
use Rattle.mm_dispatch.specs.{World, line_number, loans, scene}
use Rattle.mm_run.specs.Scenes.{Outset, Running, outset}
use Rattle.mm_run.specs.Ends.{DeviceLeft, Left, device_left, left_with}
use Rattle.mm_run.specs.Ran.{Around, around}
use Rattle.mm_io.specs.{SinkSeen}
use Rattle.mm_run.specs.Faults.{OpenFailed}
use Rattle.mm_run.specs.Story.{Outside, FaultCounts, outside, fault_counts_with}
use Rattle.mm_run.specs.Moments.{Input, Output, Moment, WorldSeen, moment}
use Rattle.mm_run.specs.Settings.{Setting}

abbrev pub device_seen : {D : Type 0} → DeviceGhosts D → D → DeviceLeft
device_seen d x = device_left (d.log x) (d.blocks x) (d.faults x)

-- the sink of moves and both devices
abbrev pub left_seen : {M P F : Type 0} →
    SinkGhosts M → DeviceGhosts P → DeviceGhosts F → M → P → F → Left
left_seen m p f moves paging files =
    left_with (m.taken moves) (m.given moves) (m.faults moves)
    (device_seen p paging) (device_seen f files)

-- the same, before the first line
abbrev pub outset_seen : {M P F : Type 0} →
    SinkGhosts M → DeviceGhosts P → DeviceGhosts F → M → P → F → Outset
outset_seen m p f moves paging files =
    outset (p.faults paging) (f.faults files) (m.taken moves) (m.given moves) (m.faults moves)

-- the source and the sink of answers, with the answers that are kept for it
abbrev pub outside_seen : {S O : Type 0} → SourceGhosts S → SinkGhosts O → S → O → Text → Outside
outside_seen s o source out kept = outside (s.left source) (o.taken out) kept

abbrev pub input_seen : {S : Type 0} → SourceGhosts S → S → Input
input_seen s source = record {
  left = s.left source;
  faults = s.faults source;
  idle = s.idle source;
  last_idle = s.last_idle source;
}

abbrev pub output_seen : {O : Type 0} → SinkGhosts O → O → Output
output_seen o out = record { took = o.taken out; faults = o.faults out }

module _ {G : Type 0} {g : PageStoreGhosts G} where
  abbrev pub world_seen : World G g → WorldSeen
  world_seen w = record {
    unpaged = g.unpaged;
    scene = scene w;
    line = line_number w;
    spent = w.spent;
    loans = loans w;
  }

  -- a moment of a run that has begun
  abbrev pub moment_seen : {S O : Type 0} →
      SourceGhosts S → SinkGhosts O → S → O → Text → World G g → Moment
  moment_seen s o source out kept w =
      moment (input_seen s source) (output_seen o out) kept (Running (scene w))

-- all that a run may change
abbrev pub setting : {S O M P F : Type 0} →
    SourceGhosts S → SinkGhosts O → SinkGhosts M → DeviceGhosts P → DeviceGhosts F →
    S → O → Text → M → P → F → Setting
setting s o m p f source out kept moves paging files = record {
  input = input_seen s source;
  output = output_seen o out;
  kept = kept;
  left = left_seen m p f moves paging files;
}

-- all that stands around a run
abbrev pub seen : {S O M P F : Type 0} →
    SourceGhosts S → SinkGhosts O → SinkGhosts M → DeviceGhosts P → DeviceGhosts F →
    S → O → M → P → F → Around
seen s o m p f source out moves paging files =
    around (s.left source) (o.taken out) (o.given out) (left_seen m p f moves paging files)

-- a device that could not be opened
abbrev pub open_failed : {P F : Type 0} → DeviceGhosts P → DeviceGhosts F → P → P → F → F → Type 0
open_failed p f paging paging' files files' =
    OpenFailed (device_seen p paging) (device_seen p paging')
    (device_seen f files) (device_seen f files')

-- the counts of faults
abbrev pub counts_seen : {S O M : Type 0} →
    SourceGhosts S → SinkGhosts O → SinkGhosts M → S → O → M → FaultCounts
counts_seen s o m source out moves = fault_counts_with (s.faults source) (o.faults out)
    (m.faults moves)
