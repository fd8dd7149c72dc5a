use Rattle.std.proofs.Common.{◌≡◌, ℕ, ap, ◌∙◌}
use Rattle.std.proofs.Common.{true, false, [], None, replicate, rules}
use Rattle.mm_types.specs.{IsMachine}
use Rattle.mm_move_rules.specs.{free_table}
use Rattle.mm_pfn_database.specs.{FramesOf}
use Rattle.mm_page_tables.specs.Shown as tables
use Rattle.mm_requests.specs.declared.flights.Waiting.TheVariants as waiting
use Rattle.mm_parts.specs.{first_parts, started_parts}
use Rattle.mm_parts.proofs.{Step, step_to, start_step}
use Rattle.mm_parts.proofs.parts.Parts.new.Goals as goal
use Rattle.mm_parts.proofs.parts.Parts.new.Goals.{After-kind_of-kind}

made : (c : After-kind_of-kind) → IsMachine c.args.machine
    → Step (record {
      line = record { machine = c.args.machine; line = 1; kind = c.kind_of-kind.result; paging_keys = 0; added = c.in_ok-added.added.items };
      table = c.in_ok-frames.frames.table;
      bytes = c.in_ok-frames.frames.bytes;
      free = c.in_ok-slots.slots.free;
      words = tables.words c.in_ok-words.words;
      ages = tables.place_ages c.in_ok-words.words;
      flight = c.in_ok-flight.flight;
      own = None;
    }) (first_parts c.args.machine)
made c h =
    let m = c.args.machine in
    let added : c.in_ok-added.added.items ≡ replicate m.blocks false = search rules in
    let table : c.in_ok-frames.frames.table ≡ free_table m.frames = ap (λ (v : FramesOf). v.table) c.in_ok-frames.ensures ∙ ap free_table c.frames.ensures in
    let bytes : c.in_ok-frames.frames.bytes ≡ replicate m.frames None = ap (λ (v : FramesOf). v.bytes) c.in_ok-frames.ensures ∙ ap (λ (n : ℕ). replicate n None) c.frames.ensures in
    let free : c.in_ok-slots.slots.free ≡ replicate m.slots true = c.in_ok-slots.ensures ∙ ap (λ (n : ℕ). replicate n true) c.slots.ensures in
    let flight : c.in_ok-flight.flight ≡ record { depth = m.depth; frames = []; waits = replicate 256 waiting.Nothing } = c.in_ok-flight.ensures ∙ ap (λ (n : ℕ). record { depth = n; frames = []; waits = replicate 256 waiting.Nothing }) c.depth.ensures in
    step_to (started_parts m) _ (first_parts m) (λ i. record { line = record { machine = m; line = 1; kind = c.kind_of-kind.ensures i; paging_keys = 0; added = added i }; table = table i; bytes = bytes i; free = free i; words = c.in_ok-words.ensures.words i; ages = c.in_ok-words.ensures.ages i; flight = flight i; own = None }) (start_step m h)

pub invariant_of-result : goal.invariant_of-result
invariant_of-result c = record { kept = (made (goal.at.invariant_of-result c).After-kind_of-kind (search rules)).kept }

pub returns : goal.returns
returns c = (made (goal.at.returns c).After-kind_of-kind (search rules)).shown
