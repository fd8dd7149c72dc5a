-- A move's line without its line feed.
use Rattle.std.proofs.Common.{◌≡◌, ◌+◌, ◌-◌, [], ◌∷◌, ◌++◌, length, take, refl, ap, ◌∙◌, arith, length-append}
use Rattle.mm_types.specs.{Text, Move}
use Rattle.mm_move_rules.specs.{move_text, spelling_of_move}
use Rattle.mm_replay.proofs.{move_onto-is}

front : (a : Text) → take (length a) (a ++ 10 ∷ []) ≡ a
front [] = refl
front (c ∷ cs) = ap (λ t. c ∷ t) (front cs)

one_less : (a : Text) → length (a ++ 10 ∷ []) - 1 ≡ length a
one_less a = omega (arith, length-append a (10 ∷ []))

pub without_feed : (m : Move) → take (length (spelling_of_move m) - 1) (spelling_of_move m) ≡ move_text m
without_feed m =
    ap (λ t. take (length t - 1) t) (move_onto-is m (10 ∷ [])) ∙ ap (λ n. take n (move_text m ++ 10 ∷ [])) (one_less (move_text m)) ∙ front (move_text m)

pub has_feed : (m : Move) → length (spelling_of_move m) ≡ length (move_text m) + 1
has_feed m = ap length (move_onto-is m (10 ∷ [])) ∙ length-append (move_text m) (10 ∷ [])

pub ruleset spelling = (without_feed, has_feed)
