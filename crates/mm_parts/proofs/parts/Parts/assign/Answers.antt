use Rattle.std.proofs.Common.{◌≡◌, ℕ, sym, ap, ◌∙◌, subst, arith}
use Rattle.mm_types.specs.{Frame}
use Rattle.mm_types.specs.declared.moves.Move.TheVariants as move
use Rattle.mm_move_rules.specs.{after_give, IsLegal}
use Rattle.mm_pfn_database.specs.{FramesOf, zeroed_taken, given_to}
use Rattle.mm_page_tables.specs.Shown as tables
use Rattle.mm_parts.specs.{life_in, joined_parts, shown_parts, front, parts_after, names_after_give}
use Rattle.mm_parts.proofs.{front_is, Step, step_to, frame_fits, give_step}
use Rattle.mm_parts.proofs.parts.Parts.assign.Goals as goal
use Rattle.mm_parts.proofs.parts.Parts.assign.Goals.{After-set_word}

pub set_word-requires-clause-fits : goal.set_word-requires-clause-fits
set_word-requires-clause-fits c =
    let low = c.in-Some.ensures.there in
    let same = c.bind-f.ensures.same in
    frame_fits (joined_parts c.args.self.now) c.args.self.now.kept c.bind-f.result (omega (arith, low, same))

made : (c : After-set_word) → Step (record (joined_parts c.args.self.now) { table = c.bind-f.new.self.table; bytes = c.bind-f.new.self.bytes; words = tables.words c.set_word.new.self; ages = tables.place_ages c.set_word.new.self })
    (record (parts_after (shown_parts c.args.self.now) (move.Give c.bind-f.result c.args.key)) { names = names_after_give (shown_parts c.args.self.now).aside (shown_parts c.args.self.now).names c.args.key })
made c =
    let s = c.args.self.now in
    let f = c.bind-f.result in
    let is : f ≡ front s.frames.table.zeroed = front_is s.frames.table.zeroed c.in-Some.blank f (sym c.in-Some.ensures.first) c.bind-f.ensures.same in
    let legal : IsLegal (move.Give f c.args.key) (life_in (joined_parts s)) = subst (λ (g : Frame). IsLegal (move.Give g c.args.key) (life_in (joined_parts s))) (sym is) c.requires.legal in
    let now : c.bind-f.new.self ≡ given_to (zeroed_taken s.frames) c.in-Some.blank c.args.key = c.bind-f.ensures.bound ∙ ap (λ (v : FramesOf). given_to v c.in-Some.blank c.args.key) c.take_zeroed.ensures.taken in
    let table : c.bind-f.new.self.table ≡ after_give s.frames.table f.0 c.args.key = ap (λ (v : FramesOf). v.table) now ∙ ap (λ (x : ℕ). after_give s.frames.table x c.args.key) (sym c.bind-f.ensures.same) in
    step_to _ _ _ (λ i. record (joined_parts s) { table = table i; bytes = (now i).bytes; words = c.set_word.ensures.words i; ages = c.set_word.ensures.ages i }) (give_step (joined_parts s) s.kept f c.args.key legal)

pub invariant_of-self : goal.invariant_of-self
invariant_of-self c = record { kept = (made (goal.at.invariant_of-self c).After-set_word).kept }

pub returns-clause-made : goal.returns-clause-made
returns-clause-made c = (made (goal.at.returns-clause-made c).After-set_word).shown
