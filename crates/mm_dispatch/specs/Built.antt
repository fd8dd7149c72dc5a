-- Which line makes a world, and which lines may take memory.
-- Profile, "Script".
use Rattle.std.specs.Prelude.{ℕ, Bool, true, false, nat_le, length}
use Rattle.mm_types.specs.{Event}
use Rattle.mm_types.specs.declared.events.Event.TheVariants as line
use Rattle.mm_world.specs.{WorldOf, grow, most_processes, new_file, create, create_file, open_section, stack, map_view, is_success}
use Rattle.mm_calls.specs.{allocates_anew, marks_anew, grows}
use Rattle.mm_script.specs.{is_machine}

-- a line that makes an access itself, which no thread keeps
abbrev pub is_access_line : Event → Bool
is_access_line (line.Read pid addr len) = true
is_access_line (line.Write pid addr bytes) = true
is_access_line (line.Exec pid addr) = true
is_access_line _ = false

-- a line that is one call, which its `at` tells no more of, and which asks devices for nothing
-- beside its moves
abbrev pub is_call_line : Event → Bool
is_call_line (line.Alloc pid addr size type prot) = true
is_call_line (line.Protect pid addr size prot) = true
is_call_line (line.Query pid addr) = true
is_call_line line.Charge = true
is_call_line (line.Create pid size flags name) = true
is_call_line (line.CreateFile pid file flags name) = true
is_call_line (line.Open pid name) = true
is_call_line (line.Close pid handle) = true
is_call_line (line.Map pid handle access offset len addr) = true
is_call_line line.Counts = true
is_call_line (line.Stack tid pid reserve commit) = true
is_call_line (line.Probe tid addr) = true
is_call_line (line.Watch pid unwrites addr size count) = true
is_call_line (line.ResetWatch pid addr size) = true
is_call_line _ = false

-- a line that asks for a step of paging, or names device calls to come that fail
abbrev pub is_paging_line : Event → Bool
is_paging_line (line.Trim pid count) = true
is_paging_line (line.Age pid) = true
is_paging_line (line.Zeroer count) = true
is_paging_line (line.Writer count) = true
is_paging_line (line.Io index) = true
is_paging_line (line.Fail device direction nth count) = true
is_paging_line _ = false

-- a line that may run out of memory in this world: of `process`, one for which a number is left, of
-- `alloc`, one that makes a region or commits a page that was not, of `protect`, one that gives a
-- page its first mark, of `probe`, one that makes a stack grow, and of the others one that is not
-- refused
abbrev pub takes_memory : {B : Type 0} → (ℕ → B) → WorldOf B → Event → Bool
takes_memory fill w (line.Process min max) = nat_le (length w.processes) most_processes
takes_memory fill w (line.File name pages byte) =
    is_success (new_file fill w name pages byte).answer
takes_memory fill w (line.Alloc pid addr size type prot) =
    allocates_anew fill w pid.0 addr size type prot
takes_memory fill w (line.Protect pid addr size prot) = marks_anew w pid.0 addr size prot
takes_memory fill w (line.Create pid size flags name) =
    is_success (create fill w pid.0 size flags name).answer
takes_memory fill w (line.CreateFile pid file flags name) =
    is_success (create_file w pid.0 file flags name).answer
takes_memory fill w (line.Open pid name) = is_success (open_section w pid.0 name).answer
takes_memory fill w (line.Map pid handle access offset len addr) =
    is_success (map_view w pid.0 handle access offset len addr).answer
takes_memory fill w (line.Grow n) = is_success (grow w n).answer
takes_memory fill w (line.Stack tid pid reserve commit) =
    is_success (stack fill w tid.0 pid.0 reserve commit).answer
takes_memory fill w (line.Probe tid addr) = grows fill w tid.0 addr
takes_memory fill w _ = false
