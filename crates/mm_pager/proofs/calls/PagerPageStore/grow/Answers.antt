use Rattle.std.proofs.Common.{rules, ◌≡◌, ◌≤◌, ◌+◌, ◌-◌, ◌∙◌, ℕ, List, true, false, None, Some, refl, sym, ap, subst, arith}
use Rattle.std.specs.Prelude.{Result, Ok, Err, OnOk, IsErrOf}
use Rattle.mm_types.specs.{GrowFault, MachineOf, Rose, limit_of, reserve_of}
use Rattle.mm_types.specs.declared.faults.GrowFault.TheVariants as grow_fault
use Rattle.mm_move_rules.specs.{FrameLife, counts_of}
use Rattle.mm_world.specs.{Page, with_slots}
use Rattle.mm_types.specs.declared.moves.LineKind.TheVariants as kind
use Rattle.mm_types.specs.declared.moves.Move.TheVariants as move
use Rattle.mm_devices.specs.{DeviceOf}
use Rattle.mm_store.specs.{PagingGrown, begun, called}
use Rattle.mm_state_calls.specs.{StateOf, GrowBegins, moved, asked_to_grow}
use Rattle.mm_pager.specs.{OwnOf, store_of, own_in, paged_state}
use Rattle.mm_pager.proofs.{line_whole, notes_by}
use Rattle.mm_pager.proofs.calls.PagerPageStore.grow.Goals as goal

abbrev failed_own : OwnOf → OwnOf
failed_own o = record { extended = Some false; ready = None; blocks_used = o.blocks_used }

abbrev HasFailed : StateOf → DeviceOf → OwnOf → ℕ → StateOf → Type 0
HasFailed s d o n x = store_of x (failed_own o) ≡ record (store_of s o) {
  line = n;
  kind = kind.Call;
  ready = None;
  report = record (begun (store_of s o).report) { extended = Some false };
  paging_device = called (store_of s o).paging_device d;
}

failed_store : (s z : StateOf) (o : OwnOf) (n : ℕ) → GrowBegins (move.At n kind.Call) s z → z ≡ record (moved s z) { paging = asked_to_grow s.paging z.paging } → HasFailed s z.paging o n z
failed_store s z o n b e = subst (λ (x : StateOf). HasFailed s z.paging o n x) (sym (line_whole s z (asked_to_grow s.paging z.paging) n kind.Call b.life b.told b.ages b.waits e)) refl

abbrev grown_own : OwnOf → OwnOf
grown_own o = record { extended = Some true; ready = None; blocks_used = o.blocks_used }

abbrev HasGrown : StateOf → OwnOf → ℕ → ℕ → StateOf → Type 0
HasGrown s o line n x = store_of x (grown_own o) ≡ record (store_of s o) {
  machine = with_slots s.life.machine n;
  room = limit_of x.life.machine;
  line = line;
  kind = kind.Grow n;
  ready = None;
  report = record (begun (store_of s o).report) { counts = counts_of x.life; extended = Some true };
}

grown_store : (s z : StateOf) (o : OwnOf) (line n : ℕ) (slots : List Page) → GrowBegins (move.At line (kind.Grow n)) s z → z ≡ record (moved s z) { slots = slots } → HasGrown s o line n z
grown_store s z o line n slots b e = subst (λ (x : StateOf). HasGrown s o line n x) (sym (e ∙ (λ i. record s { life = b.life i; log = z.log; told = b.told i; ages = b.ages i; waits = b.waits i; slots = slots }))) refl

-- what the store keeps after it
abbrev own_after : Result (Unit {0}) GrowFault → OwnOf → OwnOf
own_after (Ok v) o = grown_own o
own_after (Err grow_fault.Failed) o = failed_own o
own_after (Err grow_fault.Memory) o = o

more_room : (frames slots reserve n : ℕ) → (frames + slots) - reserve ≤ (frames + (slots + n)) - reserve
more_room frames slots reserve n = omega arith

same_room : (room : ℕ) → room ≤ room
same_room room = omega arith

room_later : (m : MachineOf) (s z : StateOf) → z.life.machine ≡ m → limit_of s.life.machine ≤ limit_of m → limit_of s.life.machine ≤ limit_of z.life.machine
room_later m s z e h = subst (λ (x : MachineOf). limit_of s.life.machine ≤ limit_of x) (sym e) h

grown_as : (r : Result (Unit {0}) GrowFault) (s z : StateOf) (o : OwnOf) (line n : ℕ) (slots : List Page) → OnOk r (GrowBegins (move.At line (kind.Grow n)) s z) → OnOk r (z ≡ record (moved s z) { slots = slots })
    → (IsErrOf r grow_fault.Failed → GrowBegins (move.At line kind.Call) s z) → (IsErrOf r grow_fault.Failed → z ≡ record (moved s z) { paging = asked_to_grow s.paging z.paging }) → (IsErrOf r grow_fault.Memory → z ≡ s)
    → s.paging.faults ≤ z.paging.faults → (IsErrOf r grow_fault.Failed → Rose s.paging.faults z.paging.faults) → PagingGrown false line n (store_of s o) (store_of z (own_after r o)) r
grown_as (Ok v) s z o line n slots begins grew failed kept memory faults cause = record {
  ok = grown_store s z o line n slots begins grew;
  extended = refl;
  later = room_later (with_slots s.life.machine n) s z (ap (λ (x : FrameLife). x.machine) begins.life) (more_room s.life.machine.frames s.life.machine.slots (reserve_of s.life.machine) n);
  failed = λ q. cc;
  memory = λ q. cc;
  faults = faults;
  cause = cause;
  unpaged = λ p q. cc;
}
grown_as (Err grow_fault.Failed) s z o line n slots begins grew failed kept memory faults cause = record {
  ok = tt;
  extended = tt;
  later = room_later s.life.machine s z (ap (λ (x : FrameLife). x.machine) (failed refl).life) (same_room (limit_of s.life.machine));
  failed = λ q. failed_store s z o line (failed q) (kept q);
  memory = λ q. cc;
  faults = faults;
  cause = cause;
  unpaged = λ p q. cc;
}
grown_as (Err grow_fault.Memory) s z o line n slots begins grew failed kept memory faults cause = record {
  ok = tt;
  extended = tt;
  later = room_later s.life.machine s z (ap (λ (x : StateOf). x.life.machine) (memory refl)) (same_room (limit_of s.life.machine));
  failed = λ q. cc;
  memory = λ q. ap (λ (x : StateOf). store_of x o) (memory q);
  faults = faults;
  cause = cause;
  unpaged = λ p q. cc;
}

pub returns-in-Ok-clause-done : goal.returns-in-Ok-clause-done
returns-in-Ok-clause-done g c =
    let s = paged_state c.args.self.now in
    let z = g.T.StateCalls.shown c.grow-done.new.self in
    let o = own_in c.args.self.now in
    let e = c.grow-done.ensures in
    subst (λ (u : OwnOf). PagingGrown false c.args.line c.args.n (store_of s o) (store_of z u) c.grow-done.result) (ap (λ (r : Result (Unit {0}) GrowFault). own_after r o) c.in-Ok.is)
    (grown_as c.grow-done.result s z o c.args.line c.args.n _ e.ok e.grown e.failed e.kept e.memory e.later e.cause)

pub returns-in-Err-Failed-clause-done : goal.returns-in-Err-Failed-clause-done
returns-in-Err-Failed-clause-done g c =
    let s = paged_state c.args.self.now in
    let z = g.T.StateCalls.shown c.grow-done.new.self in
    let o = own_in c.args.self.now in
    let e = c.grow-done.ensures in
    let is : c.grow-done.result ≡ Err grow_fault.Failed = search rules in
    subst (λ (u : OwnOf). PagingGrown false c.args.line c.args.n (store_of s o) (store_of z u) c.grow-done.result) (ap (λ (r : Result (Unit {0}) GrowFault). own_after r o) is)
    (grown_as c.grow-done.result s z o c.args.line c.args.n _ e.ok e.grown e.failed e.kept e.memory e.later e.cause)

pub returns-in-Err-Memory-clause-done : goal.returns-in-Err-Memory-clause-done
returns-in-Err-Memory-clause-done g c =
    let s = paged_state c.args.self.now in
    let z = g.T.StateCalls.shown c.grow-done.new.self in
    let o = own_in c.args.self.now in
    let e = c.grow-done.ensures in
    let is : c.grow-done.result ≡ Err grow_fault.Memory = search rules in
    subst (λ (u : OwnOf). PagingGrown false c.args.line c.args.n (store_of s o) (store_of z u) c.grow-done.result) (ap (λ (r : Result (Unit {0}) GrowFault). own_after r o) is)
    (grown_as c.grow-done.result s z o c.args.line c.args.n _ e.ok e.grown e.failed e.kept e.memory e.later e.cause)

pub returns-in-Ok-clause-notes : goal.returns-in-Ok-clause-notes
returns-in-Ok-clause-notes g c = notes_by c.grow-done.result (paged_state c.args.self.now) (g.T.StateCalls.shown c.grow-done.new.self) c.args.line c.args.n c.grow-done.ensures.ok c.grow-done.ensures.grown c.grow-done.ensures.failed c.grow-done.ensures.kept c.grow-done.ensures.memory

pub returns-in-Err-Failed-clause-notes : goal.returns-in-Err-Failed-clause-notes
returns-in-Err-Failed-clause-notes g c = notes_by c.grow-done.result (paged_state c.args.self.now) (g.T.StateCalls.shown c.grow-done.new.self) c.args.line c.args.n c.grow-done.ensures.ok c.grow-done.ensures.grown c.grow-done.ensures.failed c.grow-done.ensures.kept c.grow-done.ensures.memory

pub returns-in-Err-Memory-clause-notes : goal.returns-in-Err-Memory-clause-notes
returns-in-Err-Memory-clause-notes g c = notes_by c.grow-done.result (paged_state c.args.self.now) (g.T.StateCalls.shown c.grow-done.new.self) c.args.line c.args.n c.grow-done.ensures.ok c.grow-done.ensures.grown c.grow-done.ensures.failed c.grow-done.ensures.kept c.grow-done.ensures.memory
