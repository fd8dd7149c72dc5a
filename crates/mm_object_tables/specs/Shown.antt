-- The tables as they are kept.
use Rattle.std.specs.Prelude.{◌∷◌, ℕ, ◌==◌, if◌then◌else◌, List, Option, Some, None, map, option_map}
use Rattle.mm_types.specs.{MachineOf}
use Rattle.mm_world.specs.{ProcessOf, AreaOf, FileOf, KeptOf, StackOf, Numbered, Tables}
use Rattle.mm_sections.specs.{CountedSection, sections_of}
use Rattle.mm_object_tables.specs.declared.waiting.Kept.{Kept}
use Rattle.mm_object_tables.specs.declared.tables.Process.{Process}

abbrev pub shown_process : Process → ProcessOf (Unit {0})
shown_process p = record { regions = p.space.regions; handles = p.handles.entries }

abbrev pub shown_processes : List (Option Process) → List (Option (ProcessOf (Unit {0})))
shown_processes processes = None ∷ map (option_map shown_process) processes

abbrev pub kept_of : Kept → KeptOf
kept_of k = record { pid = k.pid.0; access = k.access }

abbrev pub shown_accesses : List (Option Kept) → Numbered KeptOf
shown_accesses kept = map (option_map kept_of) kept

-- what is kept, unless it is an access of this process
abbrev pub unless_of : ℕ → Option Kept → Option Kept
unless_of pid None = None
unless_of pid (Some k) = if k.pid.0 == pid then None else Some k

abbrev pub tables_with : MachineOf → List (Option (ProcessOf (Unit {0}))) →
    Numbered CountedSection → List (AreaOf (Unit {0})) → List FileOf → ℕ → ℕ → Numbered KeptOf →
    Numbered StackOf → Tables
tables_with machine processes entries areas files blocks_used fails_taken kept stacks =
    record {
      machine = machine;
      processes = processes;
      sections = sections_of entries;
      areas = areas;
      files = files;
      blocks_used = blocks_used;
      fails_taken = fails_taken;
      kept = kept;
      stacks = stacks;
    }
