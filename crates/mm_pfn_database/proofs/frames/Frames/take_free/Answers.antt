use Rattle.std.proofs.Common.{sym, ap, ◌∙◌, Option, List, ℕ, set, arith}
use Rattle.std.specs.Prelude.{slice_get}
use Rattle.mm_types.specs.{Record}
use Rattle.mm_move_rules.specs.{rest}
use Rattle.mm_pfn_database.specs.declared.standing.Standing.TheVariants.{Taken}
use Rattle.mm_pfn_database.specs.{FramesOf, stands}
use Rattle.mm_pfn_database.proofs.{on_low, first_fits, first_held, now_first, still_empty}
use Rattle.mm_pfn_database.proofs.frames.Frames.take_free.Goals as goal

pub stand-requires : goal.stand-requires
stand-requires c = λ a. first_fits c.args.self.now a 1 (omega arith) (sym c.in_ok-frame.ensures) Taken (λ e. cc) (λ e. cc)

pub returns-clause-taken : goal.returns-clause-taken
returns-clause-taken c =
    let v = c.args.self.now in
    let first = sym c.in_ok-frame.ensures in
    c.stand.ensures.stood
    ∙ now_first v c.stand.ensures.placed 1 (omega arith) first Taken
    ∙ ap (λ (rs : List Record). record v { table = record v.table { records = rs; free = rest v.table.free }; standing = set v.standing c.in_ok-frame.frame.0 Taken }) (still_empty v c.stand.ensures.placed 1 (omega arith) first (omega arith))
    ∙ ap (λ (o : Option ℕ). record v { table = record v.table { free = rest v.table.free }; standing = stands v.standing o Taken }) (sym first)

pub returns-clause-there : goal.returns-clause-there
returns-clause-there c = on_low c.stand.ensures.placed c.in_ok-frame.frame.0 1 0 (sym c.in_ok-frame.ensures)

pub returns-clause-in_hand : goal.returns-clause-in_hand
returns-clause-in_hand c =
    ap (λ (w : FramesOf). slice_get w.standing c.in_ok-frame.frame.0) c.stand.ensures.stood
    ∙ first_held c.args.self.now c.stand.ensures.placed 1 (omega arith) (sym c.in_ok-frame.ensures) Taken
