-- A machine begins over a new store of pages, as a run tells it.
use Rattle.std.proofs.lemmas.List.{length-replicate}
use Rattle.std.specs.Prelude.{Bool}
use Rattle.std.proofs.Common.{◌≡◌, ◌≤◌, ℕ, zero, suc, List, [], ◌∷◌, Option, None, true, false, length, replicate, slice_get, refl, sym, ap, ◌∙◌, subst}
use Rattle.mm_types.specs.{MachineOf, Key, Loan, Both}
use Rattle.mm_move_rules.specs.{IsLegal, unstarted, Log, Grew, AreMoves, spelled_moves, Idle, wait_of}
use Rattle.std.specs.Borrow.{GName}
use Rattle.mm_devices.specs.{DeviceOf, NamedCalls, NoneLogged, device_with, empty_block}
use Rattle.mm_devices.specs.declared.BlockDevice.{Ghosts as DeviceGhosts}
use Rattle.mm_io.specs.declared.Sink.{Ghosts as SinkGhosts}
use Rattle.mm_world.specs.{Page, first_world}
use Rattle.mm_world.specs.World.{World}
use Rattle.mm_requests.specs.declared.flights.Waiting.TheVariants as waiting
use Rattle.mm_parts.specs.{walked_or, first_parts}
use Rattle.mm_store.specs.{StoreOf, none_told, IsNew}
use Rattle.mm_store.specs.Behind.{Behind}
use Rattle.mm_state_calls.specs.{StateOf}
use Rattle.mm_state.specs.{MachineStarts, joined_state}
use Rattle.mm_pager.specs.{OwnOf, own_of, store_of, behind_of}
use Rattle.mm_line_moves.specs.{Agrees, first_move}
use Rattle.mm_dispatch.specs.{Scene}
use Rattle.mm_run.specs.{AreOpened, Outset, MachineIsMade, Opened, StartsFrom, device_seen, outset}

nobody_waits : (n t : ℕ) → walked_or (slice_get (replicate n waiting.Nothing) t) ≡ Idle
nobody_waits zero t = refl
nobody_waits (suc n) zero = refl
nobody_waits (suc n) (suc t) = nobody_waits n t

abbrev own : OwnOf
own = own_of None None 0

abbrev scene_of : World → StoreOf → Behind → Scene
scene_of y s b = record { world = y; report = s.report; paging = s.paging_device; files = s.file_device; blocks = s.file_blocks; behind = b }

module _ (m : MachineOf) (o : Outset) (paging files : DeviceOf) (slots blocks : List Page) (opened : Opened m o paging files slots blocks) where
  abbrev begun : Log → StateOf
  begun l = record (joined_state (first_parts m) l none_told paging files slots blocks) { contents = λ _. None }

  new_at : (l : Log) → IsNew m (begun l).contents (store_of (begun l) own)
  new_at l = record {
    empty = λ k. refl;
    machine = refl;
    closed = λ pid. refl;
    no_area = λ area. refl;
    unbound = λ place. refl;
    no_name = λ place. refl;
    not_paging = λ k. refl;
    no_keys = refl;
    no_block = λ k. refl;
    unused = refl;
    stored = ap (λ (xs : List Page). length xs) opened.opened.blocks ∙ length-replicate m.blocks empty_block;
    line = refl;
    kind = refl;
    no_pid = refl;
    not_ready = refl;
    begun = record { no_failed_read = refl; no_failed_write = refl };
    none_named_paging = opened.paging_named;
    none_named_file = opened.files_named;
  }

  new_over : (log : Log) (z : StateOf) → MachineStarts m log paging files slots blocks z → (c : Key → Option Page) (s : StoreOf) → c ≡ z.contents → s ≡ store_of z own → IsNew m c s
  new_over log z h c s ec es =
      let here : IsNew m z.contents (store_of z own) = subst (λ (x : StateOf). IsNew m x.contents (store_of x own)) (sym h.shows) (new_at z.log) in
      subst (λ (x : StoreOf). IsNew m c x) (sym es) (subst (λ (x : Key → Option Page). IsNew m x (store_of z own)) (sym ec) here)

  made_at : (l : Log) → AreMoves (first_move m ∷ []) → Grew o.log l (spelled_moves (first_move m ∷ [])) → IsLegal (first_move m) unstarted → Agrees (first_world m) (store_of (begun l) own).report (behind_of (begun l))
      → MachineIsMade m o (scene_of (first_world m) (store_of (begun l) own) (behind_of (begun l)))
  made_at l range grew legal agrees = record {
    first = record {
      world = refl;
      slots = opened.opened.slots;
      blocks = opened.opened.blocks;
      paging = record { none_logged = opened.opened.paging_logged; none_named = opened.paging_named; later = opened.paging_later };
      files = record { none_logged = opened.opened.files_logged; none_named = opened.files_named; later = opened.files_later };
      agrees = agrees;
      told = refl;
      extended = refl;
      idle = λ tid. (nobody_waits 256 tid, ap wait_of (nobody_waits 256 tid));
    };
    notes = record { in_range = range; grew = grew; replays = (legal, refl) };
    holds = λ k on. (let no_way : false ≡ true = on in cc);
  }

  made_over : (z : StateOf) → MachineStarts m o.log paging files slots blocks z → IsLegal (first_move m) unstarted → (y : World) (s : StoreOf) (b : Behind) → y ≡ first_world m → s ≡ store_of z own → b ≡ behind_of z
      → Agrees y s.report b → MachineIsMade m o (scene_of y s b)
  made_over z h legal y s b ey es eb agrees =
      let there : Agrees (first_world m) (store_of z own).report (behind_of z) =
      subst (λ (x : World). Agrees x (store_of z own).report (behind_of z)) ey
      (subst (λ (x : StoreOf). Agrees y x.report (behind_of z)) es
      (subst (λ (x : Behind). Agrees y s.report x) eb agrees)) in
      let begins : Agrees (first_world m) (store_of (begun z.log) own).report (behind_of (begun z.log)) =
      subst (λ (x : StateOf). Agrees (first_world m) (store_of x own).report (behind_of x)) h.shows there in
      let here : MachineIsMade m o (scene_of (first_world m) (store_of z own) (behind_of z)) =
      subst (λ (x : StateOf). MachineIsMade m o (scene_of (first_world m) (store_of x own) (behind_of x))) (sym h.shows)
      (made_at z.log h.in_range h.grew legal begins) in
      subst (λ (x : World). MachineIsMade m o (scene_of x s b)) (sym ey)
      (subst (λ (x : StoreOf). MachineIsMade m o (scene_of (first_world m) x b)) (sym es)
      (subst (λ (x : Behind). MachineIsMade m o (scene_of (first_world m) (store_of z own) x)) (sym eb) here))

-- the state that was made over devices that were opened, and over the sink of moves, is one with which a run starts
pub starts_over : {P F K : Type 0} (p : DeviceGhosts P) (f : DeviceGhosts F) (k : SinkGhosts K) (m : MachineOf) {x x' : P} {y y' : F} {w w' : K} {plan plan' : List NamedCalls} {failed : Bool} (z : StateOf)
    → AreOpened m (device_seen p x) (device_seen f y) → x' ≡ x → y' ≡ y → w' ≡ w → plan ≡ [] → plan' ≡ [] → failed ≡ false
    → MachineStarts m (record { bytes = k.taken w'; given = k.given w'; failed = failed; faults = k.faults w' }) (device_with (p.log x') plan (p.faults x')) (device_with (f.log y') plan' (f.faults y')) (p.blocks x') (f.blocks y') z
    → (a b : ℕ) → a ≤ p.faults x → b ≤ f.faults y → StartsFrom m (outset a b (k.taken w) (k.given w) (k.faults w)) z
starts_over p f k m {x} {x'} {y} {y'} {w} {w'} {plan} {plan'} {failed} z opened xs ys ws named named' fresh noted a b later later' = record {
  paging = device_with (p.log x') plan (p.faults x');
  files = device_with (f.log y') plan' (f.faults y');
  slots = p.blocks x';
  blocks = f.blocks y';
  opened = record {
    opened = subst (λ d. AreOpened m (device_seen p d) (device_seen f y')) (sym xs) (subst (λ d. AreOpened m (device_seen p x) (device_seen f d)) (sym ys) opened);
    paging_named = named;
    files_named = named';
    paging_later = subst (λ d. a ≤ p.faults d) (sym xs) later;
    files_later = subst (λ d. b ≤ f.faults d) (sym ys) later';
  };
  noted = subst (λ (l : Log). MachineStarts m l (device_with (p.log x') plan (p.faults x')) (device_with (f.log y') plan' (f.faults y')) (p.blocks x') (f.blocks y') z)
      (λ i. record { bytes = k.taken (ws i); given = k.given (ws i); failed = fresh i; faults = k.faults (ws i) }) noted;
  unfailed = refl;
}

-- over a state that starts a store of pages is new
pub is_new : (m : MachineOf) (o : Outset) (z : StateOf) → StartsFrom m o z → (c : Key → Option Page) (s : StoreOf) → c ≡ z.contents → s ≡ store_of z own → IsNew m c s
is_new m o z h = new_over m o h.paging h.files h.slots h.blocks h.opened o.log z h.noted

-- and the machine is made
pub is_made : (m : MachineOf) (o : Outset) (z : StateOf) → StartsFrom m o z → IsLegal (first_move m) unstarted → (y : World) (s : StoreOf) (b : Behind) → y ≡ first_world m → s ≡ store_of z own → b ≡ behind_of z
    → Agrees y s.report b → MachineIsMade m o (scene_of y s b)
is_made m o z h = made_over m o h.paging h.files h.slots h.blocks h.opened z h.noted

-- three loans of references
pub three_names : (a b c x y z : GName) → Both (Both (Loan a) (Loan b)) (Loan c) ≡ Both (Both (Loan x) (Loan y)) (Loan z) → (a ≡ x) × (b ≡ y) × (c ≡ z)
three_names a b c x y z e = (let first : a ≡ x = cc in first, let second : b ≡ y = cc in second, let third : c ≡ z = cc in third)

-- what was lent stands at the end as it was given back
pub lent : {A : Type 0} {final back now : A} {entry first last name : GName} → (entry ≡ name → final ≡ back) → first ≡ entry → last ≡ first → name ≡ last → back ≡ now → now ≡ final
lent ends made kept same is = sym (ends (sym made ∙ sym kept ∙ sym same) ∙ is)
