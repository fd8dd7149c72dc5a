-- The replay of two lists of moves in a row, and the spelling of them.
use Rattle.std.proofs.Common.{◌≡◌, List, [], ◌∷◌, ◌++◌, Bool, true, false, Option, Some, None, refl, sym, ap, ◌∙◌, subst, append_assoc}
use Rattle.std.specs.Prelude.{IsTrue, if◌then◌else◌}
use Rattle.mm_types.specs.{Move}
use Rattle.mm_move_rules.specs.{FrameLife, is_legal, after_move, Replays, replay, spelling_of_move, spelled_moves, AreMoves}

-- two pieces in a row
pub replays_then : (xs ys : List Move) (l m n : FrameLife) → Replays xs l m → Replays ys m n → Replays (xs ++ ys) l n
replays_then [] ys l m n e r = subst (λ (k : FrameLife). Replays ys k n) e r
replays_then (x ∷ xs) ys l m n p r = (p.0, replays_then xs ys (after_move l x) m n p.1 r)

pub spelled-append : (xs ys : List Move) → spelled_moves (xs ++ ys) ≡ spelled_moves xs ++ spelled_moves ys
spelled-append [] ys = refl
spelled-append (x ∷ xs) ys =
    ap (λ t. spelling_of_move x ++ t) (spelled-append xs ys) ∙ sym (append_assoc (spelling_of_move x) (spelled_moves xs) (spelled_moves ys))

pub moves-append : (xs ys : List Move) → AreMoves xs → AreMoves ys → AreMoves (xs ++ ys)
moves-append [] ys a b = b
moves-append (x ∷ xs) ys a b = (a.0, moves-append xs ys a.1 b)

-- the fold and the relation are one
true_here : (b : Bool) (later : Option FrameLife) → IsTrue b → (if b then later else None) ≡ later
true_here true later h = refl
true_here false later h = cc

pub replay_of : (xs : List Move) (l m : FrameLife) → Replays xs l m → replay l xs ≡ Some m
replay_of [] l m e = ap Some (sym e)
replay_of (x ∷ xs) l m p = true_here (is_legal l x) (replay (after_move l x) xs) p.0 ∙ replay_of xs (after_move l x) m p.1

legal_here : (b : Bool) (later : Option FrameLife) (m : FrameLife) → (if b then later else None) ≡ Some m → IsTrue b × (later ≡ Some m)
legal_here true later m e = (refl, e)
legal_here false later m e = cc

pub replays_from : (xs : List Move) (l m : FrameLife) → replay l xs ≡ Some m → Replays xs l m
replays_from [] l m e = cc
replays_from (x ∷ xs) l m e = let h = legal_here (is_legal l x) (replay (after_move l x) xs) m e in (h.0, replays_from xs (after_move l x) m h.1)

-- moves lead to one state alone
pub replays_one : (xs : List Move) (l m n : FrameLife) → Replays xs l m → Replays xs l n → m ≡ n
replays_one [] l m n e f = e ∙ sym f
replays_one (x ∷ xs) l m n p q = replays_one xs (after_move l x) m n p.1 q.1
