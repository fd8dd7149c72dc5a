-- Pages that come to be one behind another: their rows are one.
-- Profile, "What a log shows".
use Rattle.std.specs.Prelude.{ℕ, ◌+◌, Bool, true, false, ◌&&◌, ◌==◌, if◌then◌else◌, List, [], ◌∷◌}
use Rattle.std.specs.Prelude.{◌++◌, codes, Option, Some, None, unwrap_or}
use Rattle.mm_types.specs.{Text, decimal, Key, Block, Move}
use Rattle.mm_types.specs.declared.numbers.Key.TheVariants as key
use Rattle.mm_types.specs.declared.moves.Move.TheVariants as move
use Rattle.mm_move_classes.specs.{Class}
use Rattle.mm_move_classes.specs.declared.classes.Class.TheVariants as class
use Rattle.mm_sentences.specs.{key_text}

-- ---- what goes on

-- the page right behind a page, of the same process or control area
abbrev pub is_next_key : Key → Key → Bool
is_next_key (key.Private p v) (key.Private q w) = (p.0 == q.0) && (v.0 + 1 == w.0)
is_next_key (key.Shared a n) (key.Shared b m) = (a.0 == b.0) && (n + 1 == m)
is_next_key k h = false

-- the block right behind a block, or none at all
abbrev pub is_next_block : Option Block → Option Block → Bool
is_next_block None None = true
is_next_block (Some b) (Some c) = b.0 + 1 == c.0
is_next_block a b = false

abbrev pub adds_next : Move → Move → Bool
adds_next (move.Add k b) (move.Add h c) = is_next_key k h && is_next_block b c
adds_next m n = false

-- a page comes to be, and right behind it the next
abbrev pub folds_with_next : Option Class → Move → Option Move → Bool
folds_with_next (Some class.DemandZeroAdded) m (Some n) = adds_next m n
folds_with_next (Some class.FilePageAdded) m (Some n) = adds_next m n
folds_with_next c m n = false

-- the first of the moves whose rows are one with that of the next move
abbrev pub first_then : Option Class → Move → Option Move → Option Move → Option Move
first_then c m next first = if folds_with_next c m next then Some (unwrap_or first m) else None

-- ---- what is said of them

abbrev pub keys_text : Key → Key → Text
keys_text k h = key_text k ++ (codes " to " ++ key_text h)

abbrev pub blocks_text : Block → Block → Text
blocks_text b c = decimal b.0 ++ (codes " to " ++ decimal c.0)

-- from the first to the last
abbrev pub fold_text : Move → Move → Text
fold_text (move.Add k None) (move.Add h None) =
    codes "pages " ++ (keys_text k h ++ codes " come to be, demand-zero: no frame yet")
fold_text (move.Add k (Some b)) (move.Add h (Some c)) =
    codes "file pages " ++ (keys_text k h ++ (codes " come to be, their bytes in file blocks "
    ++ blocks_text b c))
fold_text m n = []

abbrev pub fold_row : Move → Move → Text
fold_row first last = codes "     " ++ (fold_text first last ++ 10 ∷ [])
