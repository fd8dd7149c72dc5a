-- A new state, and a store over it, is where each scene begins.
use Rattle.std.proofs.Common.{◌≡◌, ℕ, List, [], Option, None, length, replicate, refl, sym, ap, subst}
use Rattle.mm_types.specs.{MachineOf, Key}
use Rattle.mm_move_rules.specs.{Log}
use Rattle.mm_devices.specs.{DeviceOf, empty_block}
use Rattle.mm_world.specs.{Page}
use Rattle.mm_store.specs.{IsNew, StoreOf, none_told}
use Rattle.mm_parts.specs.{first_parts}
use Rattle.mm_state_calls.specs.{StateOf}
use Rattle.mm_pager.specs.{OwnOf, own_of, store_of}
use Rattle.mm_state.specs.{MachineStarts, joined_state}
use Rattle.mm_tests.specs.{small_machine}

abbrev first_own : OwnOf
first_own = own_of None None 0

new_at : (log : Log) (paging files : DeviceOf) (slots blocks : List (List ℕ)) → blocks ≡ replicate 1 empty_block → paging.named ≡ [] → files.named ≡ []
    → let s = record (joined_state (first_parts small_machine) log none_told paging files slots blocks) { contents = λ _. None } in IsNew small_machine s.contents (store_of s first_own)
new_at log paging files slots blocks empty none none' = record {
  empty = λ k. refl;
  machine = refl;
  closed = λ pid. refl;
  no_area = λ area. refl;
  unbound = λ place. refl;
  no_name = λ place. refl;
  not_paging = λ k. refl;
  no_keys = refl;
  no_block = λ k. refl;
  unused = refl;
  stored = ap (λ (xs : List (List ℕ)). length xs) empty;
  line = refl;
  kind = refl;
  no_pid = refl;
  not_ready = refl;
  begun = record { no_failed_read = refl; no_failed_write = refl };
  none_named_paging = none;
  none_named_file = none';
}

pub is_new : (m : MachineOf) (log : Log) (paging files : DeviceOf) (slots blocks : List (List ℕ)) (z : StateOf) → m ≡ small_machine → blocks ≡ replicate 1 empty_block → paging.named ≡ [] → files.named ≡ [] → MachineStarts m log paging files slots blocks z
    → (c : Key → Option Page) (s : StoreOf) → c ≡ z.contents → s ≡ store_of z first_own → IsNew small_machine c s
is_new m log paging files slots blocks z e empty none none' h c s ec es =
    let starts : MachineStarts small_machine log paging files slots blocks z = subst (λ (k : MachineOf). MachineStarts k log paging files slots blocks z) e h in
    let here : IsNew small_machine z.contents (store_of z first_own) = subst (λ (x : StateOf). IsNew small_machine x.contents (store_of x first_own)) (sym starts.shows) (new_at z.log paging files slots blocks empty none none') in
    subst (λ (x : StoreOf). IsNew small_machine c x) (sym es) (subst (λ (x : Key → Option Page). IsNew small_machine x (store_of z first_own)) (sym ec) here)
