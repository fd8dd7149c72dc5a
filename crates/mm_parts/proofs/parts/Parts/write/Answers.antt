use Rattle.std.proofs.Common.{ap, ◌∙◌}
use Rattle.mm_types.proofs.{same_found}
use Rattle.mm_types.specs.{Frame}
use Rattle.mm_move_rules.specs.{changed, same_place}
use Rattle.mm_ram.specs.{bytes_of, overwritten, with_page}
use Rattle.mm_parts.specs.{joined_parts, shown_parts}
use Rattle.mm_parts.proofs.{step_to, used_step, valid_entry}
use Rattle.mm_parts.proofs.parts.Parts.write.Goals as goal

pub touch-requires : goal.touch-requires
touch-requires c = valid_entry ((joined_parts c.args.self.now).words.at c.args.place) c.frame_at-f.result c.frame_at-f.ensures.frame

pub invariant_of-self : goal.invariant_of-self
invariant_of-self c =
    let s = c.args.self.now in
    let f = c.frame_at-f.result in
    record { kept = (step_to _ _ _ (λ i. record (joined_parts s) { table = (c.write.ensures.wrote i).table; bytes = (c.write.ensures.wrote i).bytes; words = c.touch.ensures.words i; ages = c.touch.ensures.ages i }) (used_step (joined_parts s) s.kept c.args.place (with_page s.frames.bytes f.0 (overwritten (bytes_of s.frames.bytes f.0) c.args.off c.args.bytes.now)))).kept }

pub returns : goal.returns
returns c =
    let s = c.args.self.now in
    let f = c.frame_at-f.result in
    record {
      made = λ g v. (step_to _ _ _ (λ i. record (joined_parts s) { table = (c.write.ensures.wrote i).table; bytes = (c.write.ensures.wrote i).bytes; words = c.touch.ensures.words i; ages = c.touch.ensures.ages i }) (used_step (joined_parts s) s.kept c.args.place (with_page s.frames.bytes f.0 (overwritten (bytes_of s.frames.bytes f.0) c.args.off c.args.bytes.now)))).shown
          ∙ ap (λ (h : Frame). record (shown_parts s) { ages = changed same_place (shown_parts s).ages c.args.place 0; bytes = with_page s.frames.bytes h.0 (overwritten (bytes_of s.frames.bytes h.0) c.args.off c.args.bytes.now) })
          (same_found _ f g c.frame_at-f.ensures.frame v);
    }
