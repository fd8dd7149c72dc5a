use Rattle.std.proofs.Common.{sym, ap, ◌∙◌, Option, List, ℕ, set, arith}
use Rattle.std.specs.Prelude.{slice_get}
use Rattle.mm_types.specs.{Record}
use Rattle.mm_move_rules.specs.{rest}
use Rattle.mm_ram.specs.{page_at}
use Rattle.mm_pfn_database.specs.declared.standing.Standing.TheVariants.{Cleared}
use Rattle.mm_pfn_database.specs.{FramesOf, stands}
use Rattle.mm_pfn_database.proofs.{on_low, zeroed_zero, first_fits, first_held, now_first, still_empty}
use Rattle.mm_pfn_database.proofs.frames.Frames.take_zeroed.Goals as goal

pub stand-requires : goal.stand-requires
stand-requires c = λ a. first_fits c.args.self.now a 0 (omega arith) (sym c.in_ok-frame.ensures) Cleared (λ e. cc) (λ e. zeroed_zero a c.in_ok-frame.frame.0 0 (sym c.in_ok-frame.ensures))

pub returns-clause-taken : goal.returns-clause-taken
returns-clause-taken c =
    let v = c.args.self.now in
    let first = sym c.in_ok-frame.ensures in
    c.stand.ensures.stood
    ∙ now_first v c.stand.ensures.placed 0 (omega arith) first Cleared
    ∙ ap (λ (rs : List Record). record v { table = record v.table { records = rs; zeroed = rest v.table.zeroed }; standing = set v.standing c.in_ok-frame.frame.0 Cleared }) (still_empty v c.stand.ensures.placed 0 (omega arith) first (omega arith))
    ∙ ap (λ (o : Option ℕ). record v { table = record v.table { zeroed = rest v.table.zeroed }; standing = stands v.standing o Cleared }) (sym first)

pub returns-clause-there : goal.returns-clause-there
returns-clause-there c = on_low c.stand.ensures.placed c.in_ok-frame.frame.0 0 0 (sym c.in_ok-frame.ensures)

pub returns-clause-in_hand : goal.returns-clause-in_hand
returns-clause-in_hand c =
    ap (λ (w : FramesOf). slice_get w.standing c.in_ok-frame.frame.0) c.stand.ensures.stood
    ∙ first_held c.args.self.now c.stand.ensures.placed 0 (omega arith) (sym c.in_ok-frame.ensures) Cleared

pub returns-clause-zero : goal.returns-clause-zero
returns-clause-zero c =
    ap (λ (w : FramesOf). page_at w.bytes c.in_ok-frame.frame.0) c.stand.ensures.stood
    ∙ zeroed_zero c.stand.ensures.placed c.in_ok-frame.frame.0 0 (sym c.in_ok-frame.ensures)
