use Rattle.std.proofs.Common.{◌≡◌, ◌∙◌, ap, arith, false, Option, Some, ℕ, subst, sym}
use Rattle.std.specs.Prelude.{is_some, slice_get}
use Rattle.mm_types.specs.{Record}
use Rattle.mm_move_rules.specs.{record_at, rest}
use Rattle.mm_pfn_database.specs.declared.standing.Standing.TheVariants.{Taken}
use Rattle.mm_pfn_database.specs.{FramesOf, emptied, stands, IsAtRest}
use Rattle.mm_pfn_database.proofs.{listed_rests, first_held, now_first}
use Rattle.mm_pfn_database.proofs.frames.Frames.take_standby.Goals as goal

pub unwrap-key-requires : goal.unwrap-key-requires
unwrap-key-requires c =
    ap (λ (r : Record). is_some r.owner) c.get-r.ensures
    ∙ (listed_rests c.self.invariant.placed c.in_ok-front.field-0 false 0 (sym c.in_ok-front.ensures.first)).owned

pub returns-clause-rests : goal.returns-clause-rests
returns-clause-rests c =
    subst (λ (w : FramesOf). IsAtRest false (record_at w.table c.in_ok-front.field-0)) c.self.view_is
    (listed_rests c.self.invariant.placed c.in_ok-front.field-0 false 0 (sym c.in_ok-front.ensures.first))

pub returns-clause-in_hand : goal.returns-clause-in_hand
returns-clause-in_hand c =
    let first = sym (c.in_ok-front.ensures.first ∙ ap (λ (w : FramesOf). slice_get w.table.standby 0) c.self.view_is) in
    ap (λ (w : FramesOf). slice_get w.standing c.in_ok-front.field-0) c.stand.ensures.stood
    ∙ first_held c.args.self.now c.stand.ensures.placed 2 (omega arith) first Taken

pub returns-clause-taken : goal.returns-clause-taken
returns-clause-taken c =
    let v = c.args.self.now in
    let first : slice_get v.table.standby 0 ≡ Some c.in_ok-front.field-0 = sym (c.in_ok-front.ensures.first ∙ ap (λ (w : FramesOf). slice_get w.table.standby 0) c.self.view_is) in
    c.stand.ensures.stood
    ∙ now_first v c.stand.ensures.placed 2 (omega arith) first Taken
    ∙ ap (λ (o : Option ℕ). record v { table = record v.table { records = emptied v.table.records o; standby = rest v.table.standby }; standing = stands v.standing o Taken }) (sym first)
