use Rattle.std.proofs.Common.{◌*◌, ◌∙◌, ◌++◌, ◌∷◌, ◌≡◌, ◌-◌, [], ℕ, Some, refl, ap, arith, length, set}
use Rattle.mm_world.specs.{Numbered, ProcessOf, process_of, numbered}
use Rattle.mm_object_tables.specs.{shown_processes, with_handles}
use Rattle.mm_object_tables.proofs.{same_kept, settled_as, settled_same, handle_few, handle_kept, handle_now, handle_settled, Lent, lent_are, lives_there}
use Rattle.mm_object_tables.proofs.{one_given, room_alone}
use Rattle.mm_object_tables.proofs.SectionFits.{same_tables}
use Rattle.mm_types.proofs.{some_found, on_err}
use Rattle.mm_object_tables.proofs.tables.Tables.add_handle.Goals as goal
use Rattle.mm_object_tables.proofs.tables.Tables.add_handle.Goals.{After-add, After-handles_of-handles}

lent : (c : After-handles_of-handles) → Lent c.self.inside c.args.self.now c.args.pid.0 c.index_mut.result.now c.handles_of-handles.result.now.entries
lent c = record { view = c.self.view_is; lives = c.requires.lives; at = c.index_mut.ensures.value; are = c.handles_of-handles.ensures.value }

pub handles_of-handles-requires : goal.handles_of-handles-requires
handles_of-handles-requires c = record { lives = lives_there c.self.inside c.args.self.now c.self.view_is c.args.pid.0 c.index_mut.result.now c.requires.lives c.index_mut.ensures.value }

pub invariant_of-self : goal.invariant_of-self
invariant_of-self c =
    same_kept c.self.inside (room_alone (lent (goal.at.invariant_of-self c).After-handles_of-handles) c.reserve.new.self c.reserve.ensures.same) refl refl refl c.self.invariant

pub returns-in_err-reserve-clause-err : goal.returns-in_err-reserve-clause-err
returns-in_err-reserve-clause-err c =
    on_err c.from_residual.result
    (same_tables c.self.inside (room_alone (lent (goal.at.returns-in_err-reserve-clause-err c).After-handles_of-handles) c.reserve.new.self c.reserve.ensures.same) refl refl refl c.self.view_is)

pub returns-in_err-reserve-clause-settled : goal.returns-in_err-reserve-clause-settled
returns-in_err-reserve-clause-settled c old s fits =
    settled_as (same_tables c.self.inside (room_alone (lent (goal.at.returns-in_err-reserve-clause-settled c).After-handles_of-handles) c.reserve.new.self c.reserve.ensures.same) refl refl refl c.self.view_is)
    (settled_same c.args.self.now old s fits)

pub add_handle-requires-clause-few : goal.add_handle-requires-clause-few
add_handle-requires-clause-few c = handle_few c.self.inside c.args.id.0 c.self.view_is c.self.invariant c.requires.few

pub add-requires-clause-few : goal.add-requires-clause-few
add-requires-clause-few c =
    let p = some_found (process_of c.args.self.now c.args.pid.0) c.requires.lives in
    let same = c.reserve.ensures.same ∙ lent_are (lent (goal.at.add-requires-clause-few c).After-handles_of-handles) p.0 p.1 in
    omega (arith, c.requires.few.handles c.args.pid.0 p.0 p.1, ap (λ (hs : Numbered ℕ). length hs) same)

-- the process has the handle
given : (c : After-add) (p : ProcessOf (Unit {0})) → numbered (shown_processes c.self.inside.processes.items) c.args.pid.0 ≡ Some p → shown_processes (set c.self.inside.processes.items (c.args.pid.0 - 1) (with_handles c.index_mut.result.now c.add.new.self)) ≡ set (shown_processes c.self.inside.processes.items) c.args.pid.0 (Some (record p { handles = p.handles ++ Some c.args.id.0 ∷ [] }))
given c =
    let l : Lent c.self.inside c.args.self.now c.args.pid.0 c.index_mut.result.now c.handles_of-handles.result.now.entries = record { view = c.self.view_is; lives = c.requires.lives; at = c.index_mut.ensures.value; are = c.handles_of-handles.ensures.value } in
    one_given l c.add.new.self c.args.id.0 (c.add.ensures.added ∙ ap (λ hs. hs ++ Some c.args.id.0 ∷ []) c.reserve.ensures.same)

pub invariant_of-self-2 : goal.invariant_of-self-2
invariant_of-self-2 c =
    let p = some_found (process_of c.args.self.now c.args.pid.0) c.requires.lives in
    handle_kept c.self.inside c.args.pid.0 c.args.id.0 c.self.view_is (given (goal.at.invariant_of-self-2 c).After-add) c.add_handle.ensures p.0 p.1 c.requires.section c.self.invariant

pub returns-clause-ok : goal.returns-clause-ok
returns-clause-ok c p lives = (
  c.add.ensures.handle ∙ ap (λ (hs : Numbered ℕ). 4 * length hs) (c.reserve.ensures.same ∙ lent_are (lent (goal.at.returns-clause-ok c).After-handles_of-handles) p lives),
  handle_now c.self.inside c.args.pid.0 c.args.id.0 c.self.view_is (given (goal.at.returns-clause-ok c).After-add) c.add_handle.ensures p lives,
)

pub returns-clause-settled : goal.returns-clause-settled
returns-clause-settled c old s fits =
    let p = some_found (process_of c.args.self.now c.args.pid.0) c.requires.lives in
    handle_settled c.self.inside c.args.pid.0 c.args.id.0 c.self.view_is (given (goal.at.returns-clause-settled c).After-add) c.add_handle.ensures p.0 p.1 old s fits
