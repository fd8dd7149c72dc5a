use Rattle.std.proofs.Common.{◌*◌, ◌∙◌, ◌++◌, ◌∷◌, ◌-◌, [], ℕ, Some, refl, sym, ap, arith, length, set, false}
use Rattle.mm_types.specs.declared.answers.Answer.TheVariants as answer
use Rattle.mm_world.specs.{Numbered, process_of}
use Rattle.mm_object_tables.specs.{shown_processes, with_handles}
use Rattle.mm_object_tables.proofs.{ListsSection, same_kept, settled_as, settled_same, lists, file_section_kept, file_section_settled, Lent, lent_are}
use Rattle.mm_object_tables.proofs.{lives_there, one_given, room_alone, file_section_now}
use Rattle.mm_object_tables.proofs.SectionFits.{same_tables}
use Rattle.mm_types.proofs.{some_found, on_err}
use Rattle.mm_object_tables.proofs.tables.Tables.add_file_section.Goals as goal
use Rattle.mm_object_tables.proofs.tables.Tables.add_file_section.Goals.{After-handles_of-handles, After-list_section}

lent : (c : After-handles_of-handles) → Lent c.self.inside c.args.self.now c.args.pid.0 c.index_mut.result.now c.handles_of-handles.result.now.entries
lent c = record { view = c.self.view_is; lives = c.requires.lives; at = c.index_mut.ensures.value; are = c.handles_of-handles.ensures.value }

pub handles_of-handles-requires : goal.handles_of-handles-requires
handles_of-handles-requires c = record { lives = lives_there c.self.inside c.args.self.now c.self.view_is c.args.pid.0 c.index_mut.result.now c.requires.lives c.index_mut.ensures.value }

-- what has become of the processes and the directory
listed : (c : After-list_section) → ListsSection c.self.inside c.args.self.now c.args.pid.0 (record { prot = c.args.prot.0; name = c.args.name; area = c.args.area.0 }) (shown_processes (set c.self.inside.processes.items (c.args.pid.0 - 1) (with_handles c.index_mut.result.now c.list_section.new.handles))) c.list_section.new.directory.entries c.list_section.new.directory.files
listed c =
    let l : Lent c.self.inside c.args.self.now c.args.pid.0 c.index_mut.result.now c.handles_of-handles.result.now.entries = record { view = c.self.view_is; lives = c.requires.lives; at = c.index_mut.ensures.value; are = c.handles_of-handles.ensures.value } in
    let grown = c.grow_for_section.ensures in
    let number = length c.grow_for_section.new.directory.entries in
    lists c.self.inside c.args.pid.0 (record { prot = c.args.prot.0; name = c.args.name; area = c.args.area.0 }) c.self.view_is grown.listed.entries grown.listed.files
    (one_given l c.list_section.new.handles number (c.list_section.ensures.given ∙ ap (λ hs. hs ++ Some number ∷ []) grown.same)) c.list_section.ensures.entries c.list_section.ensures.files

pub invariant_of-self : goal.invariant_of-self
invariant_of-self c =
    same_kept c.self.inside (room_alone (lent (goal.at.invariant_of-self c).After-handles_of-handles) c.grow_for_section.new.handles c.grow_for_section.ensures.same) c.grow_for_section.ensures.listed.entries refl c.grow_for_section.ensures.listed.files c.self.invariant

pub returns-in_err-grow_for_section-clause-err : goal.returns-in_err-grow_for_section-clause-err
returns-in_err-grow_for_section-clause-err c =
    on_err c.from_residual.result
    (same_tables c.self.inside (room_alone (lent (goal.at.returns-in_err-grow_for_section-clause-err c).After-handles_of-handles) c.grow_for_section.new.handles c.grow_for_section.ensures.same) c.grow_for_section.ensures.listed.entries refl c.grow_for_section.ensures.listed.files c.self.view_is)

pub returns-in_err-grow_for_section-clause-settled : goal.returns-in_err-grow_for_section-clause-settled
returns-in_err-grow_for_section-clause-settled c old s fits =
    settled_as
    (same_tables c.self.inside (room_alone (lent (goal.at.returns-in_err-grow_for_section-clause-settled c).After-handles_of-handles) c.grow_for_section.new.handles c.grow_for_section.ensures.same) c.grow_for_section.ensures.listed.entries refl c.grow_for_section.ensures.listed.files c.self.view_is)
    (settled_same c.args.self.now old s fits)

pub list_section-requires-clause-can : goal.list_section-requires-clause-can
list_section-requires-clause-can c =
    let p = some_found (process_of c.args.self.now c.args.pid.0) c.requires.lives in
    let same = c.grow_for_section.ensures.same ∙ lent_are (lent (goal.at.list_section-requires-clause-can c).After-handles_of-handles) p.0 p.1 in
    record { room = c.in_ok-grow_for_section.ensures.room; few = omega (arith, c.requires.few.handles c.args.pid.0 p.0 p.1, ap (λ (hs : Numbered ℕ). length hs) same) }

pub invariant_of-self-2 : goal.invariant_of-self-2
invariant_of-self-2 c =
    let p = some_found (process_of c.args.self.now c.args.pid.0) c.requires.lives in
    file_section_kept (listed (goal.at.invariant_of-self-2 c).After-list_section) p.0 p.1 c.requires.file c.self.invariant

pub returns-clause-ok : goal.returns-clause-ok
returns-clause-ok c p lives =
    let handle = c.list_section.ensures.handle ∙ ap (λ (hs : Numbered ℕ). 4 * length hs) (c.grow_for_section.ensures.same ∙ lent_are (lent (goal.at.returns-clause-ok c).After-handles_of-handles) p lives) in
    let end = file_section_now (listed (goal.at.returns-clause-ok c).After-list_section) p lives in
    λ i. record { answer = answer.Created (sym handle i) false; world = sym end i }

pub returns-clause-settled : goal.returns-clause-settled
returns-clause-settled c old z fits =
    let p = some_found (process_of c.args.self.now c.args.pid.0) c.requires.lives in
    file_section_settled (listed (goal.at.returns-clause-settled c).After-list_section) p.0 p.1 old z fits
