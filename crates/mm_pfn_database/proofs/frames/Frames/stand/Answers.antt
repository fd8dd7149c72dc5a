use Rattle.std.proofs.Common.{◌≡◌, sym, ap, ◌∙◌, subst, List, ℕ, Option, get_or, set, arith}
use Rattle.std.specs.Prelude.{is_some}
use Rattle.std.proofs.lemmas.List.{get_or_read}
use Rattle.mm_types.specs.{Record}
use Rattle.mm_move_rules.specs.{FrameTable, blank}
use Rattle.mm_page_lists.specs.{ListsOf}
use Rattle.mm_pfn_database.specs.{Standing, FramesOf, AreFrames, AreBacked, list_for, second_for, relisted, stood, table_of}
use Rattle.mm_pfn_database.specs.declared.standing.Standing.TheVariants.{Bound}
use Rattle.mm_pfn_database.proofs.{listed_on, frames_stood, as_shown, table_stood, list_low, listed_off, second_on, second_off, second_low, backed_stood}
use Rattle.mm_pfn_database.proofs.{shown, there, holds}
use Rattle.mm_pfn_database.proofs.frames.Frames.stand.Goals as goal

pub get-old-requires : goal.get-old-requires
get-old-requires c = there c.self.invariant c.self.view_is c.requires

pub index-requires : goal.index-requires
index-requires c = omega (arith, there c.self.invariant c.self.view_is c.requires, c.self.invariant.placed.standings)

-- the list that it is on
stands_on : (c : goal.After-list_for) → list_for (get_or c.self.inside.standing.items c.args.f.0 Bound) (get_or c.self.inside.records c.args.f.0 blank) ≡ c.list_for-listed.result
stands_on c =
    let i = c.self.inside in
    let f = c.args.f.0 in
    let low = there c.self.invariant c.self.view_is c.requires in
    let stands = get_or_read i.standing.items f c.index.result.now (omega (arith, low, c.self.invariant.placed.standings)) c.index.ensures Bound in
    ap (λ (s : Standing). list_for s (get_or i.records f blank)) (sym stands) ∙ ap (λ (r : Record). list_for c.index.result.now r) (sym c.get-old.ensures) ∙ sym c.list_for-listed.ensures

pub relist-requires-clause-on_one : goal.relist-requires-clause-on_one
relist-requires-clause-on_one c = λ e.
    listed_on c.self.invariant.placed c.args.f.0 (there c.self.invariant c.self.view_is c.requires) (ap is_some (stands_on c) ∙ e)

pub relist-requires-clause-on_none : goal.relist-requires-clause-on_none
relist-requires-clause-on_none c = λ e. listed_off c.self.invariant.placed c.args.f.0 (ap is_some (stands_on c) ∙ e)

pub relist-requires-clause-apart : goal.relist-requires-clause-apart
relist-requires-clause-apart c = c.self.invariant.placed.apart

pub relist-requires-clause-below : goal.relist-requires-clause-below
relist-requires-clause-below c = omega (arith, there c.self.invariant c.self.view_is c.requires, c.self.invariant.placed.numbers)

pub relist-requires-clause-there : goal.relist-requires-clause-there
relist-requires-clause-there c = λ i e. omega (arith, list_low c.args.standing c.args.r i (sym c.list_for.ensures ∙ e), c.self.invariant.placed.four)

pub relist-requires-2-clause-on_one : goal.relist-requires-2-clause-on_one
relist-requires-2-clause-on_one c = λ e.
    second_on c.self.invariant.placed c.self.invariant.backed c.args.f.0 (ap is_some (ap second_for (sym c.get-old.ensures) ∙ sym c.second_list_for.ensures) ∙ e)

pub relist-requires-2-clause-on_none : goal.relist-requires-2-clause-on_none
relist-requires-2-clause-on_none c = λ e.
    second_off c.self.invariant.placed c.self.invariant.backed c.args.f.0 (ap is_some (ap second_for (sym c.get-old.ensures) ∙ sym c.second_list_for.ensures) ∙ e)

pub relist-requires-2-clause-apart : goal.relist-requires-2-clause-apart
relist-requires-2-clause-apart c = c.self.invariant.backed.apart

pub relist-requires-2-clause-below : goal.relist-requires-2-clause-below
relist-requires-2-clause-below c =
    let numbers = ap (λ (w : ListsOf). w.numbers) c.self.invariant.backed.same in
    omega (arith, there c.self.invariant c.self.view_is c.requires, numbers)

pub relist-requires-2-clause-there : goal.relist-requires-2-clause-there
relist-requires-2-clause-there c = λ i e. second_low c.self.invariant.backed c.args.r i (sym c.second_list_for-2.ensures ∙ e)

pub set-requires : goal.set-requires
set-requires c = there c.self.invariant c.self.view_is c.requires

pub index_mut-requires : goal.index_mut-requires
index_mut-requires c = omega (arith, there c.self.invariant c.self.view_is c.requires, c.self.invariant.placed.standings)

pub invariant_of-self : goal.invariant_of-self
invariant_of-self c =
    let i = c.self.inside in
    let f = c.args.f.0 in
    let r = c.args.r in
    let s = c.args.standing in
    let low = there c.self.invariant c.self.view_is c.requires in
    let held = holds c.self.invariant c.self.view_is c.requires in
    let to = c.relist.ensures.relisted ∙ ap (λ (o : Option ℕ). relisted o i.lists f) c.list_for.ensures in
    let to_second = c.relist-2.ensures.relisted ∙ ap (λ (o : Option ℕ). relisted o i.with_block f) c.second_list_for-2.ensures in
    record {
      placed =
          subst (λ (rs : List Record). AreFrames rs (set i.standing.items f s) c.relist.new.lists i.ram) (sym c.set.ensures)
          (frames_stood c.self.invariant.placed f low r s held c.relist.new.lists to c.relist.ensures.apart);
      backed =
          subst (λ (rs : List Record). AreBacked rs c.relist.new.lists.lists c.relist-2.new.lists) (sym c.set.ensures)
          (backed_stood c.self.invariant.placed c.self.invariant.backed f low r s held.empty c.relist.new.lists c.relist-2.new.lists to to_second c.relist-2.ensures.apart);
    }

pub returns-clause-stood : goal.returns-clause-stood
returns-clause-stood c =
    let i = c.self.inside in
    let f = c.args.f.0 in
    let r = c.args.r in
    let s = c.args.standing in
    ap (λ (rs : List Record). record { table = table_of rs c.relist.new.lists.lists; bytes = i.ram; standing = set i.standing.items f s }) c.set.ensures
    ∙ ap (λ (ls : ListsOf). record { table = table_of (set i.records f r) ls.lists; bytes = i.ram; standing = set i.standing.items f s })
    (c.relist.ensures.relisted ∙ ap (λ (o : Option ℕ). relisted o i.lists f) c.list_for.ensures ∙ ap (λ (ls : ListsOf). relisted (list_for s r) ls f) (as_shown c.self.invariant.placed))
    ∙ ap (λ (d : FrameTable). record { table = d; bytes = i.ram; standing = set i.standing.items f s }) (table_stood (table_of i.records i.lists.lists) f r s)
    ∙ ap (λ (w : FramesOf). stood w f r s) c.self.view_is

pub returns-clause-placed : goal.returns-clause-placed
returns-clause-placed c = shown c.self.invariant c.self.view_is
