-- Which lines may take memory is the same of a world and of its tables.
use Rattle.std.proofs.Common.{◌≡◌, ℕ, false, nat_le, refl, sym, ap, ◌∙◌}
use Rattle.std.specs.Prelude.{Result, IsOk}
use Rattle.mm_types.specs.{Event, Key}
use Rattle.mm_types.specs.declared.events.Event.TheVariants as line
use Rattle.mm_world.specs.{Page, filled, is_success, OutcomeOf, grow, most_processes, new_file, create, create_file, open_section, map_view, Tables}
use Rattle.mm_world.specs.{blank, map_outcome, no_bytes, tables_of, world_with}
use Rattle.mm_world.proofs.{in_create_file, in_grow, in_new_file, in_open, tables_back}
use Rattle.mm_world.proofs.NaturalSections.{in_create, in_map}
use Rattle.mm_calls.proofs.{allocates_with, marks_with, grows_with, stack_with}
use Rattle.mm_dispatch.specs.{takes_memory}
use Rattle.mm_dispatch.proofs.Numbering.{numbers-length, processes-numbered}

-- what a call answers
answers : (t : Tables) (bytes : Key → Page) (on : Tables → OutcomeOf (Unit {0})) (o : OutcomeOf Page)
    → on (tables_of (world_with t bytes)) ≡ map_outcome no_bytes o → is_success o.answer ≡ is_success (on t).answer
answers t bytes on o same =
    ap (λ (o : OutcomeOf (Unit {0})). is_success o.answer) (sym same ∙ ap on (tables_back bytes t))

pub takes_with : (t : Tables) (bytes : Key → Page) (e : Event) → takes_memory filled (world_with t bytes) e ≡ takes_memory blank t e
takes_with t bytes (line.Protect pid addr size prot) = marks_with t bytes pid.0 addr size prot
takes_with t bytes (line.Process min max) = ap (λ (n : ℕ). nat_le n most_processes) (numbers-length (processes-numbered bytes) 0 t.processes)
takes_with t bytes (line.Stack tid pid reserve commit) = ap is_success (stack_with t bytes tid.0 pid.0 reserve commit)
takes_with t bytes (line.Probe tid addr) = grows_with t bytes tid.0 addr
takes_with t bytes (line.Alloc pid addr size type prot) = allocates_with t bytes pid.0 addr size type prot
takes_with t bytes (line.File name pages byte) =
    let w = world_with t bytes in
    answers t bytes (λ t. new_file blank t name pages byte) (new_file filled w name pages byte)
    (in_new_file no_bytes filled w name pages byte).same
takes_with t bytes (line.Create pid size flags name) =
    let w = world_with t bytes in
    answers t bytes (λ t. create blank t pid.0 size flags name) (create filled w pid.0 size flags name)
    (in_create no_bytes filled w pid.0 size flags name).same
takes_with t bytes (line.CreateFile pid file flags name) =
    let w = world_with t bytes in
    answers t bytes (λ t. create_file t pid.0 file flags name) (create_file w pid.0 file flags name)
    (in_create_file no_bytes w pid.0 file flags name).same
takes_with t bytes (line.Open pid name) =
    let w = world_with t bytes in
    answers t bytes (λ t. open_section t pid.0 name) (open_section w pid.0 name) (in_open no_bytes w pid.0 name).same
takes_with t bytes (line.Map pid handle access offset len addr) =
    let w = world_with t bytes in
    answers t bytes (λ t. map_view t pid.0 handle access offset len addr) (map_view w pid.0 handle access offset len addr)
    (in_map no_bytes w pid.0 handle access offset len addr).same
takes_with t bytes (line.Grow n) =
    let w = world_with t bytes in
    answers t bytes (λ t. grow t n) (grow w n) (in_grow no_bytes w n).same
takes_with t bytes _ = refl

pub is_ok_with : {A E : Type 0} (t : Tables) (bytes : Key → Page) (e : Event) (r : Result A E) → (takes_memory blank t e ≡ false → IsOk r) → takes_memory filled (world_with t bytes) e ≡ false → IsOk r
is_ok_with t bytes e r h none = h (sym (takes_with t bytes e) ∙ none)
