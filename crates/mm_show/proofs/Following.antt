-- The lines of a script with their answers, one after another.
use Rattle.std.proofs.Common.{◌≡◌, ℕ, ◌+◌, ◌≤◌, ◌<◌, List, [], ◌∷◌, length, drop, get_or, Option, Some, None, refl, sym, ap, ◌∙◌, inl, inr}
use Rattle.std.specs.Prelude.{slice_get}
use Rattle.std.proofs.lemmas.List.{drop_more, drop_all}
use Rattle.std.proofs.lemmas.Option.{slice_get_within, get_or_from_slice_get, slice_get_cases}
use Rattle.mm_types.specs.{Text}
use Rattle.mm_observations.specs.{run_after, run_lines_from}
use Rattle.mm_observations.specs.declared.run_lines.RunLines.{RunLines}

-- a line, and those behind it
pub drop_at : (xs : List Text) (i : ℕ) (x : Text) → Some x ≡ slice_get xs i → drop i xs ≡ x ∷ drop (i + 1) xs
drop_at xs i x e =
    let there : slice_get xs i ≡ Some x = sym e in
    drop_more xs i [] (slice_get_within xs i x there) ∙ ap (λ y. y ∷ drop (i + 1) xs) (get_or_from_slice_get xs i x [] there)

pub none_at : (xs : List Text) (i : ℕ) → None ≡ slice_get xs i → drop i xs ≡ []
none_at xs i e = elim (slice_get_cases xs i).1 [
  | inl there ↦ absurd (cc (e, there.2))
  | inr over ↦ drop_all i xs over.0
]

pub run_more : (run new : RunLines) (script answers : List Text) (i : ℕ) (line answer : Text) → Some line ≡ slice_get script i → Some answer ≡ slice_get answers i → new ≡ run_after run line answer
    → run_lines_from run (drop i script) (drop i answers) ≡ run_lines_from new (drop (i + 1) script) (drop (i + 1) answers)
run_more run new script answers i line answer s a e =
    ap (λ ls. run_lines_from run ls (drop i answers)) (drop_at script i line s)
    ∙ ap (λ ts. run_lines_from run (line ∷ drop (i + 1) script) ts) (drop_at answers i answer a)
    ∙ ap (λ r. run_lines_from r (drop (i + 1) script) (drop (i + 1) answers)) (sym e)

none_answered : (run : RunLines) (lines : List Text) → run_lines_from run lines [] ≡ run
none_answered run [] = refl
none_answered run (l ∷ ls) = refl

pub run_unscripted : (run : RunLines) (script answers : List Text) (i : ℕ) → None ≡ slice_get script i → run_lines_from run (drop i script) (drop i answers) ≡ run
run_unscripted run script answers i e = ap (λ ls. run_lines_from run ls (drop i answers)) (none_at script i e)

pub run_unanswered : (run : RunLines) (script answers : List Text) (i : ℕ) → None ≡ slice_get answers i → run_lines_from run (drop i script) (drop i answers) ≡ run
run_unanswered run script answers i e = ap (λ ts. run_lines_from run (drop i script) ts) (none_at answers i e) ∙ none_answered run (drop i script)

pub run_ended : (run : RunLines) (script answers : List Text) (i : ℕ) → length answers ≤ i → run_lines_from run (drop i script) (drop i answers) ≡ run
run_ended run script answers i over = ap (λ ts. run_lines_from run (drop i script) ts) (drop_all i answers over) ∙ none_answered run (drop i script)

pub ruleset run_followed = (run_more, run_unscripted, run_unanswered, run_ended)
