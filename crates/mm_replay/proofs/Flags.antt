-- Lists of flags as tests of a number.
use Rattle.std.proofs.Common.{◌≡◌, ℕ, ◌<◌, Bool, true, false, cond, List, [], length, Option, None, sym, ap, ◌∙◌, inl, inr}
use Rattle.std.specs.Prelude.{replicate, slice_set, slice_index_or, ◌==◌}
use Rattle.std.proofs.lemmas.List.{get_or-set_same, get_or-set_other}
use Rattle.std.specs.Cmp.{unsigned_Decides}
use Rattle.mm_types.proofs.{same_or_not, differ}
use Rattle.mm_types.specs.{MachineOf, Frame, Key, Place, Held, LineKind}
use Rattle.mm_types.specs.declared.frames.Held.TheVariants as held
use Rattle.mm_move_rules.specs.{ResidentSet, FrameTable, changed, free_table, life_at}
use Rattle.mm_replay.specs.{flagged}
use Rattle.mm_replay.proofs.Outcomes.{filled_at}

flagged-replicate : (n : ℕ) → flagged (replicate n false) ≡ (λ (k : ℕ). false)
flagged-replicate n = λ i. λ (k : ℕ). filled_at n k false i

set_at : (xs : List Bool) (b q : ℕ) → b < length xs → slice_index_or (slice_set xs b true) q false ≡ cond (q == b) true (slice_index_or xs q false)
set_at xs b q h = elim (same_or_not q b) [
  | inl e ↦
      ap (λ k. slice_index_or (slice_set xs b true) k false) e ∙ get_or-set_same xs b true false h
      ∙ sym (ap (λ t. cond t true (slice_index_or xs q false)) ((unsigned_Decides q b).1 e))
  | inr d ↦
      get_or-set_other xs b q true false d
      ∙ sym (ap (λ t. cond t true (slice_index_or xs q false)) (differ q b d))
]

pub flagged-set : (xs : List Bool) (b : ℕ) → b < length xs → flagged (slice_set xs b true) ≡ changed ◌==◌ (flagged xs) b true
flagged-set xs b h = λ i. λ (q : ℕ). set_at xs b q h i

pub flagged_none : (xs : List Bool) (n : ℕ) → xs ≡ replicate n false → flagged xs ≡ (λ (k : ℕ). false)
flagged_none xs n e = ap flagged e ∙ flagged-replicate n

pub ruleset flags = (flagged_none, flagged-set)

-- the state after line 1, part by part
pub fresh_life : (m : MachineOf) (line : ℕ) (kind : LineKind) (sets : List ResidentSet) (table : FrameTable) (slots : List Bool) (stands : Key → Held) (paging : Key → Bool) (added : ℕ → Bool) (valid : Place → Option Frame) (flight : List ℕ) →
    sets ≡ [] → table ≡ free_table m.frames → slots ≡ replicate m.slots true → stands ≡ (λ (k : Key). held.Dead) → paging ≡ (λ (k : Key). false) → added ≡ (λ (b : ℕ). false)
    → valid ≡ (λ (p : Place). None) → flight ≡ []
    → record (life_at m line kind) { sets = sets; frames = table; free_slots = slots; stands = stands; paging = paging; added = added; valid = valid; flight = flight } ≡ life_at m line kind
fresh_life m line kind sets table slots stands paging added valid flight a b c d e f g h = λ i. record (life_at m line kind) { sets = a i; frames = b i; free_slots = c i; stands = d i; paging = e i; added = f i; valid = g i; flight = h i }
