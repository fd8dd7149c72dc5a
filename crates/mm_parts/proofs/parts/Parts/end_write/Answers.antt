use Rattle.std.proofs.Common.{◌≡◌, sym, ap, ◌∙◌}
use Rattle.mm_move_rules.specs.{freed}
use Rattle.mm_pfn_database.specs.{FramesOf}
use Rattle.mm_parts.specs.{joined_parts}
use Rattle.mm_parts.proofs.{step_to, table_end, write_end_step, ended_table, ended_bytes, write_frees, write_busy, held_by_request}
use Rattle.mm_parts.proofs.parts.Parts.end_write.Goals as goal

pub give_back-requires : goal.give_back-requires
give_back-requires c = λ t e. write_frees (joined_parts c.args.self.now) c.args.self.now.kept c.args.f c.args.ok t (sym c.end_write-ended.ensures.slot ∙ e)

pub end_request-requires : goal.end_request-requires
end_request-requires c = (held_by_request (joined_parts c.args.self.now) c.args.self.now.kept c.args.f.0 (write_busy (joined_parts c.args.self.now) c.args.f c.args.ok c.requires.legal)).once

pub invariant_of-self : goal.invariant_of-self
invariant_of-self c =
    let s = c.args.self.now in
    let table : c.end_write-ended.new.self.table ≡ table_end c.args.ok s.frames.table c.args.f.0 = ap (λ (v : FramesOf). v.table) c.end_write-ended.ensures.ended ∙ ended_table s.frames c.args.f.0 c.args.ok in
    let bytes : c.end_write-ended.new.self.bytes ≡ s.frames.bytes = ap (λ (v : FramesOf). v.bytes) c.end_write-ended.ensures.ended ∙ ended_bytes s.frames c.args.f.0 c.args.ok in
    let free = c.give_back.ensures ∙ ap (freed s.slots.free) c.end_write-ended.ensures.slot in
    record { kept = (step_to _ _ _ (λ i. record (joined_parts s) { table = table i; bytes = bytes i; free = free i; flight = c.end_request.ensures.flight i; own = c.end_request.ensures.own i }) (write_end_step (joined_parts s) s.kept c.args.f c.args.ok c.requires.legal)).kept }

pub returns : goal.returns
returns c =
    let s = c.args.self.now in
    let table : c.end_write-ended.new.self.table ≡ table_end c.args.ok s.frames.table c.args.f.0 = ap (λ (v : FramesOf). v.table) c.end_write-ended.ensures.ended ∙ ended_table s.frames c.args.f.0 c.args.ok in
    let bytes : c.end_write-ended.new.self.bytes ≡ s.frames.bytes = ap (λ (v : FramesOf). v.bytes) c.end_write-ended.ensures.ended ∙ ended_bytes s.frames c.args.f.0 c.args.ok in
    let free = c.give_back.ensures ∙ ap (freed s.slots.free) c.end_write-ended.ensures.slot in
    record { made = (step_to _ _ _ (λ i. record (joined_parts s) { table = table i; bytes = bytes i; free = free i; flight = c.end_request.ensures.flight i; own = c.end_request.ensures.own i }) (write_end_step (joined_parts s) s.kept c.args.f c.args.ok c.requires.legal)).shown }
