-- The counts of one move more.
use Rattle.std.proofs.Common.{◌≡◌, ℕ, ◌+◌, Bool, List, [], ◌∷◌, ◌++◌, length, refl, sym, ap, ◌∙◌, arith, length-append, zero-add}
use Rattle.std.specs.Prelude.{count_by}
use Rattle.std.proofs.lemmas.List.Sums.{sum_by-append}
use Rattle.mm_types.specs.{Move}
use Rattle.mm_move_rules.specs.{CountsOfLog, is_give, is_read_in, is_steal, is_wrote, soft_fault, soft_faults_from, brought_in, counts_of_log}
use Rattle.mm_log_check.specs.{one_if, counts_after, brought_after}

count_snoc : (p : Move → Bool) (ms : List Move) (m : Move) → count_by p (ms ++ m ∷ []) ≡ count_by p ms + one_if (p m)
count_snoc p ms m = sum_by-append (λ x. one_if (p x)) ms (m ∷ []) ∙ ap (λ (k : ℕ). count_by p ms + k) (zero-add (one_if (p m)))

soft_snoc : (frames : List ℕ) (ms : List Move) (m : Move) → soft_faults_from frames (ms ++ m ∷ []) ≡ soft_faults_from frames ms + soft_fault (brought_after frames ms) m
soft_snoc frames [] m = omega arith
soft_snoc frames (x ∷ xs) m =
    ap (λ (k : ℕ). soft_fault frames x + k) (soft_snoc (brought_in frames x) xs m)
    ∙ add_assoc' (soft_fault frames x) (soft_faults_from (brought_in frames x) xs) (soft_fault (brought_after (brought_in frames x) xs) m)
  where
    add_assoc' : (a b c : ℕ) → a + (b + c) ≡ (a + b) + c
    add_assoc' a b c = omega arith

pub brought_snoc : (frames : List ℕ) (ms : List Move) (m : Move) → brought_after frames (ms ++ m ∷ []) ≡ brought_in (brought_after frames ms) m
brought_snoc frames [] m = refl
brought_snoc frames (x ∷ xs) m = brought_snoc (brought_in frames x) xs m

-- the counts of one move more
pub counts_more : (ms : List Move) (m : Move) (c : CountsOfLog) → c ≡ counts_of_log ms → counts_after c (brought_after [] ms) m ≡ counts_of_log (ms ++ m ∷ [])
counts_more ms m c e =
    let moves : length ms + 1 ≡ length (ms ++ m ∷ []) = omega (arith, length-append ms (m ∷ [])) in
    ap (λ (d : CountsOfLog). counts_after d (brought_after [] ms) m) e
    ∙ (λ i. record {
      moves = moves i;
      zero_fills = sym (count_snoc is_give ms m) i;
      soft_faults = sym (soft_snoc [] ms m) i;
      hard_faults = sym (count_snoc is_read_in ms m) i;
      steals = sym (count_snoc is_steal ms m) i;
      write_outs = sym (count_snoc is_wrote ms m) i;
    })
