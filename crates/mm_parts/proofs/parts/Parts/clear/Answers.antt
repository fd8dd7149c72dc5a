use Rattle.std.proofs.Common.{◌≡◌, ℕ, refl, sym, ap, ◌∙◌}
use Rattle.mm_types.specs.{Frame}
use Rattle.mm_types.specs.declared.moves.Move.TheVariants as move
use Rattle.mm_move_rules.specs.{after_clear}
use Rattle.mm_ram.specs.{with_page, zero_page}
use Rattle.mm_pfn_database.specs.{FramesOf, free_taken, zeroed_put, now_cleared}
use Rattle.mm_parts.specs.{joined_parts, shown_parts, front, parts_after}
use Rattle.mm_parts.proofs.{front_is, Step, step_to, clear_step}
use Rattle.mm_parts.proofs.parts.Parts.clear.Goals as goal
use Rattle.mm_parts.proofs.parts.Parts.clear.Goals.{After-put_zeroed}

made : (c : After-put_zeroed) → Step (record (joined_parts c.args.self.now) { table = c.put_zeroed.new.self.table; bytes = c.put_zeroed.new.self.bytes })
    (record (parts_after (shown_parts c.args.self.now) (move.Clear (front c.args.self.now.frames.table.free))) { bytes = with_page c.args.self.now.frames.bytes (front c.args.self.now.frames.table.free).0 zero_page })
made c =
    let s = c.args.self.now in
    let f = front s.frames.table.free in
    let is : c.in-Some.dirty ≡ f.0 = ap (λ (x : Frame). x.0) (front_is s.frames.table.free c.in-Some.dirty (record { 0 = c.in-Some.dirty }) (sym c.in-Some.ensures.first) refl) in
    let same : c.clear-blank.result ≡ f.0 = c.clear-blank.ensures.same ∙ is in
    let now : c.put_zeroed.new.self ≡ zeroed_put (now_cleared (free_taken s.frames) c.in-Some.dirty) c.clear-blank.result =
    c.put_zeroed.ensures ∙ ap (λ (v : FramesOf). zeroed_put v c.clear-blank.result) (c.clear-blank.ensures.cleared ∙ ap (λ (v : FramesOf). now_cleared v c.in-Some.dirty) c.take_free.ensures.taken) in
    let table : c.put_zeroed.new.self.table ≡ after_clear s.frames.table f.0 = ap (λ (v : FramesOf). v.table) now ∙ ap (λ (x : ℕ). after_clear s.frames.table x) same in
    let bytes : c.put_zeroed.new.self.bytes ≡ with_page s.frames.bytes f.0 zero_page = ap (λ (v : FramesOf). v.bytes) now ∙ ap (λ (x : ℕ). with_page s.frames.bytes x zero_page) is in
    step_to _ _ _ (λ i. record (joined_parts s) { table = table i; bytes = bytes i }) (clear_step (joined_parts s) s.kept f (with_page s.frames.bytes f.0 zero_page) c.requires.legal)

pub invariant_of-self : goal.invariant_of-self
invariant_of-self c = record { kept = (made (goal.at.invariant_of-self c).After-put_zeroed).kept }

pub returns : goal.returns
returns c = record { made = (made (goal.at.returns c).After-put_zeroed).shown }
