-- A list of frames, read out from its first on.
use Rattle.std.proofs.Common.{◌≡◌, ℕ, zero, suc, ◌+◌, ◌≤◌, List, [], ◌∷◌, ◌++◌, length, drop, Option, Some, None, refl, sym, ap, ◌∙◌, arith, append_assoc}
use Rattle.std.specs.Prelude.{option_map, slice_get}
use Rattle.std.proofs.lemmas.List.{append-nil, drop_all}
use Rattle.std.proofs.lemmas.Option.{same_Some, none-some}
use Rattle.mm_types.specs.{Frame}
use Rattle.mm_move_rules.specs.{FrameTable}
use Rattle.mm_replay.specs.{frame_at, frames_on, IsBehind, FrameList, frame}

number_of : (o : Option ℕ) (f : Frame) → option_map frame o ≡ Some f → o ≡ Some f.0
number_of None f e = absurd (none-some f e)
number_of (Some x) f e = ap (λ (p : Option Frame). option_map (λ g. g.0) p) e

drop_here : (list : List ℕ) (n x : ℕ) → slice_get list n ≡ Some x → drop n list ≡ x ∷ drop (n + 1) list
drop_here [] zero x e = absurd (none-some x e)
drop_here [] (suc n) x e = absurd (none-some x e)
drop_here (y ∷ ys) zero x e = ap (λ (z : ℕ). z ∷ ys) (same_Some y x e)
drop_here (y ∷ ys) (suc n) x e =
    let next : suc n + 1 ≡ suc (n + 1) = omega arith in
    drop_here ys n x e ∙ ap (λ (k : ℕ). x ∷ drop k (y ∷ ys)) (sym next)

-- the frame at a place comes to the end of what was read out
pub one_more : (frames list : List ℕ) (n : ℕ) (f : Frame) → frames ++ drop n list ≡ list → frame_at list n ≡ Some f → (frames ++ f.0 ∷ []) ++ drop (n + 1) list ≡ list
one_more frames list n f rest at =
    append_assoc frames (f.0 ∷ []) (drop (n + 1) list) ∙ ap (λ xs. frames ++ xs) (sym (drop_here list n f.0 (number_of (slice_get list n) f at))) ∙ rest

none_left : (list : List ℕ) (n : ℕ) → frame_at list n ≡ None → drop n list ≡ []
none_left [] zero e = refl
none_left [] (suc n) e = refl
none_left (x ∷ xs) zero e = absurd (none-some (frame x) (sym e))
none_left (x ∷ xs) (suc n) e = none_left xs n e

-- where there is none, all was read out
pub read_out : (frames list : List ℕ) (n : ℕ) → frames ++ drop n list ≡ list → frame_at list n ≡ None → frames ≡ list
read_out frames list n rest at = sym (append-nil frames) ∙ ap (λ xs. frames ++ xs) (sym (none_left list n at)) ∙ rest

pub read_all : (frames list : List ℕ) (n : ℕ) → frames ++ drop n list ≡ list → length list ≤ n → frames ≡ list
read_all frames list n rest h = sym (append-nil frames) ∙ ap (λ xs. frames ++ xs) (sym (drop_all n list h)) ∙ rest

pub next_there : (d : FrameTable) (list : FrameList) (k : ℕ) (x : Frame) (next : Option Frame) → frame_at (frames_on d list) k ≡ Some x → IsBehind (frames_on d) x.0 next
    → next ≡ frame_at (frames_on d list) (k + 1)
next_there d list k x next e b = b.behind list k (number_of (slice_get (frames_on d list) k) x e)

pub next_begun : (flight : List ℕ) (k : ℕ) (x : Frame) (next : Option Frame) → frame_at flight k ≡ Some x → IsBehind {A = Unit {0}} (λ _. flight) x.0 next
    → next ≡ frame_at flight (k + 1)
next_begun flight k x next e b = b.behind tt k (number_of (slice_get flight k) x e)

pub ruleset walks = (one_more, read_out, read_all, next_there, next_begun)
