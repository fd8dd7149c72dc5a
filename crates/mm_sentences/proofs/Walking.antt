-- A frame that is sought along a list, and the first of a list.
use Rattle.std.proofs.Common.{◌≡◌, ◌≢◌, ℕ, zero, suc, ◌+◌, true, false, ◌||◌, List, [], ◌∷◌, ◌++◌, drop, Option, Some, None, refl, sym, ap, ◌∙◌, arith}
use Rattle.std.specs.Prelude.{◌==◌, slice_get, codes}
use Rattle.std.proofs.lemmas.Bool.{eq-eqb, ne_eqb}
use Rattle.std.proofs.lemmas.Option.{same_Some, none-some}
use Rattle.mm_types.specs.{Frame, Text}
use Rattle.mm_move_rules.specs.{FrameTable, is_on, is_first}
use Rattle.mm_sentences.specs.{first_is, counted_words}
use Rattle.mm_replay.specs.{frame_at, frames_on, IsBehind, frame}
use Rattle.mm_replay.specs.declared.four_lists.FrameList.TheVariants as list

same_number : (n : ℕ) (x : Frame) → Some (frame n) ≡ Some x → n ≡ x.0
same_number n x e = ap (λ (f : Frame). f.0) (same_Some (frame n) x e)

-- the frame at a place of the list
pub there : (xs : List ℕ) (k : ℕ) (x : Frame) → frame_at xs k ≡ Some x → slice_get xs k ≡ Some x.0
there [] k x e = absurd (none-some x e)
there (n ∷ xs) zero x e = ap Some (same_number n x e)
there (n ∷ xs) (suc k) x e = there xs k x e

pub found : (xs : List ℕ) (k : ℕ) (x : Frame) (f : ℕ) → frame_at xs k ≡ Some x → x.0 ≡ f → is_on f (drop k xs) ≡ true
found [] k x f e q = absurd (none-some x e)
found (n ∷ xs) zero x f e q = ap (λ b. b || is_on f xs) (eq-eqb n f (same_number n x e ∙ q))
found (n ∷ xs) (suc k) x f e q = found xs k x f e q

skipped : (xs : List ℕ) (k : ℕ) (x : Frame) (f : ℕ) → frame_at xs k ≡ Some x → x.0 ≢ f → is_on f (drop k xs) ≡ is_on f (drop (suc k) xs)
skipped [] k x f e q = absurd (none-some x e)
skipped (n ∷ xs) zero x f e q = ap (λ b. b || is_on f xs) (ne_eqb n f (λ p. q (sym (same_number n x e) ∙ p)))
skipped (n ∷ xs) (suc k) x f e q = skipped xs k x f e q

one_on : (k : ℕ) → suc k ≡ k + 1
one_on k = omega arith

pub passed : (xs : List ℕ) (k : ℕ) (x : Frame) (f : ℕ) → frame_at xs k ≡ Some x → x.0 ≢ f → is_on f (drop k xs) ≡ is_on f (drop (k + 1) xs)
passed xs k x f e q = skipped xs k x f e q ∙ ap (λ n. is_on f (drop n xs)) (one_on k)

pub ended : (xs : List ℕ) (k f : ℕ) → frame_at xs k ≡ None → is_on f (drop k xs) ≡ false
ended [] zero f e = refl
ended [] (suc k) f e = refl
ended (n ∷ xs) zero f e = absurd (none-some (frame n) (sym e))
ended (n ∷ xs) (suc k) f e = ended xs k f e

-- the first of a list
pub first_some : (xs : List ℕ) (x : Frame) (f : ℕ) → frame_at xs 0 ≡ Some x → is_first f xs ≡ (x.0 == f)
first_some [] x f e = absurd (none-some x e)
first_some (n ∷ xs) x f e = ap (λ m. m == f) (same_number n x e)

pub first_none : (xs : List ℕ) (f : ℕ) → frame_at xs 0 ≡ None → is_first f xs ≡ false
first_none [] f e = refl
first_none (n ∷ xs) f e = absurd (none-some (frame n) (sym e))

-- what stands behind it on its list
pub next_there : (d : FrameTable) (k : ℕ) (x : Frame) (next : Option Frame) → frame_at d.zeroed k ≡ Some x → IsBehind (frames_on d) x.0 next → next ≡ frame_at d.zeroed (k + 1)
next_there d k x next e b = b.behind list.Zeroed k (there d.zeroed k x e)

pub ruleset walking = (found, passed, ended, next_there, first_some, first_none)

pub head_is : (name : Text) (xs : List ℕ) (x : Frame) → frame_at xs 0 ≡ Some x → first_is name xs ≡ counted_words (codes "; the first is ") x.0
head_is name [] x e = absurd (none-some x e)
head_is name (n ∷ xs) x e = ap (λ m. counted_words (codes "; the first is ") m) (same_number n x e)

pub head_none : (name : Text) (xs : List ℕ) → frame_at xs 0 ≡ None → first_is name xs ≡ codes "; " ++ (name ++ codes ": none")
head_none name [] e = refl
head_none name (n ∷ xs) e = absurd (none-some (frame n) (sym e))

pub ruleset heads = (head_is, head_none)
