use Rattle.std.proofs.Common.{ap}
use Rattle.mm_ram.specs.{bytes_of, overwritten, with_page}
use Rattle.mm_pfn_database.specs.{FramesOf}
use Rattle.mm_parts.specs.{joined_parts}
use Rattle.mm_parts.proofs.{step_to, bytes_step}
use Rattle.mm_tests.proofs.behind.write_in_parts.Goals as goal

pub invariant_of-parts : goal.invariant_of-parts
invariant_of-parts c =
    let s = c.args.parts.now in
    record { kept = (step_to _ _ _ (λ i. record (joined_parts s) { table = ap (λ (v : FramesOf). v.table) c.write.ensures.wrote i; bytes = ap (λ (v : FramesOf). v.bytes) c.write.ensures.wrote i }) (bytes_step (joined_parts s) s.kept (with_page s.frames.bytes c.args.f.0 (overwritten (bytes_of s.frames.bytes c.args.f.0) 0 c.args.bytes.now)))).kept }

pub returns : goal.returns
returns c =
    let s = c.args.parts.now in
    record { made = (step_to _ _ _ (λ i. record (joined_parts s) { table = ap (λ (v : FramesOf). v.table) c.write.ensures.wrote i; bytes = ap (λ (v : FramesOf). v.bytes) c.write.ensures.wrote i }) (bytes_step (joined_parts s) s.kept (with_page s.frames.bytes c.args.f.0 (overwritten (bytes_of s.frames.bytes c.args.f.0) 0 c.args.bytes.now)))).shown }
