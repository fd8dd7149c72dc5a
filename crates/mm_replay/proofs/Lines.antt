-- The lines of moves: none has a line feed before its end, and the lines of a log are those of one list of moves alone.
use Rattle.std.proofs.Common.{◌≡◌, ◌≢◌, ℕ, ◌+◌, ◌≤◌, ◌<◌, Bool, true, List, [], ◌∷◌, ◌++◌, length, Option, Some, None, refl, sym, ap, ◌∙◌, subst, lit≤, arith, append_assoc, length-append}
use Rattle.std.specs.Prelude.{◌==◌, ◌&&◌, not, codes}
use Rattle.std.specs.List.{AllByRecursion, list_all}
use Rattle.std.proofs.lemmas.Bool.{and_parts}
use Rattle.std.specs.Cmp.{unsigned_Decides}
use Rattle.mm_types.specs.{Text, decimal, Block, Key, Place, LineKind, Stored, Move}
use Rattle.mm_types.specs.declared.numbers.Key.TheVariants.{Private, Shared}
use Rattle.mm_types.specs.declared.moves.LineKind.TheVariants as kind
use Rattle.mm_types.specs.declared.moves.Stored.TheVariants as stored
use Rattle.mm_types.specs.declared.moves.Move.TheVariants as move
use Rattle.mm_text.proofs.{decimal_is, IsPlain, plain-digits, length-decimal}
use Rattle.mm_move_rules.specs.{move_onto, move_text, IsMove}
use Rattle.mm_replay.specs.{read_text}
use Rattle.mm_replay.proofs.ReadAgain.{read_text-onto, value_of}

abbrev pub NoFeed : Text → Type 0
NoFeed bytes = AllByRecursion (λ b. b ≢ 10) bytes

-- ---- a line in pieces

data Piece : Type 0 where
  Word : Text → Piece
  Number : ℕ → Piece

abbrev piece_text : Piece → Text
piece_text (Word w) = w
piece_text (Number n) = decimal n

abbrev onto : List Piece → Text → Text
onto [] b = b
onto (p ∷ ps) b = piece_text p ++ onto ps b

abbrev with_number : Text → ℕ → List Piece → List Piece
with_number w n ps = Word w ∷ Number n ∷ ps

abbrev key_pieces : Key → List Piece → List Piece
key_pieces (Private p v) ps = with_number (codes "p") p.0 (with_number (codes ".") v.0 ps)
key_pieces (Shared a i) ps = with_number (codes "s") a.0 (with_number (codes ".") i ps)

abbrev place_pieces : Place → List Piece
place_pieces p = with_number [] p.pid.0 (with_number (codes ".") p.vpn.0 [])

abbrev kind_pieces : LineKind → List Piece
kind_pieces (kind.Machine f s d n) = with_number (codes "machine ") f (with_number (codes " ") s (with_number (codes " ") d (with_number (codes " ") n [])))
kind_pieces (kind.Process p min max) = with_number (codes "process ") p.0 (with_number (codes " ") min (with_number (codes " ") max []))
kind_pieces (kind.Unbind p) = with_number (codes "unbind ") p.0 []
kind_pieces (kind.Access p) = with_number (codes "access ") p.0 []
kind_pieces (kind.Thread p) = with_number (codes "thread ") p.0 []
kind_pieces (kind.Trim p) = with_number (codes "trim ") p.0 []
kind_pieces kind.Writer = Word (codes "writer") ∷ []
kind_pieces kind.Zeroer = Word (codes "zeroer") ∷ []
kind_pieces kind.Io = Word (codes "io") ∷ []
kind_pieces kind.Call = Word (codes "call") ∷ []
kind_pieces (kind.Grow n) = with_number (codes "grow ") n []

abbrev stored_pieces : Stored → List Piece
stored_pieces (stored.Slot s) = with_number (codes " slot ") s.0 []
stored_pieces (stored.Block n) = with_number (codes " block ") n.0 []

abbrev home_pieces : Option Block → List Piece
home_pieces None = Word (codes " zero") ∷ []
home_pieces (Some n) = with_number (codes " block ") n.0 []

abbrev move_pieces : Move → List Piece
move_pieces (move.At n k) = with_number (codes "at ") n (Word (codes " ") ∷ kind_pieces k)
move_pieces (move.Add k h) = Word (codes "add ") ∷ key_pieces k (home_pieces h)
move_pieces (move.Drop k) = Word (codes "drop ") ∷ key_pieces k []
move_pieces (move.Clear f) = with_number (codes "clear ") f.0 []
move_pieces (move.Steal f) = with_number (codes "steal ") f.0 []
move_pieces (move.Give f k) = with_number (codes "give ") f.0 (Word (codes " ") ∷ key_pieces k [])
move_pieces (move.Read f k) = with_number (codes "read ") f.0 (Word (codes " ") ∷ key_pieces k [])
move_pieces (move.Got f) = with_number (codes "got ") f.0 []
move_pieces (move.Bad f) = with_number (codes "bad ") f.0 []
move_pieces (move.Map f p) = with_number (codes "map ") f.0 (Word (codes " ") ∷ place_pieces p)
move_pieces (move.Unmap p) = Word (codes "unmap ") ∷ place_pieces p
move_pieces (move.Soil f) = with_number (codes "soil ") f.0 []
move_pieces (move.Write f s) = with_number (codes "write ") f.0 (stored_pieces s)
move_pieces (move.Wrote f) = with_number (codes "wrote ") f.0 []
move_pieces (move.Lost f) = with_number (codes "lost ") f.0 []

abbrev no_feeds : Text → Bool
no_feeds bytes = list_all (λ c. not (c == 10)) bytes

-- no word of the pieces has a line feed
abbrev words_plain : List Piece → Bool
words_plain [] = true
words_plain (Word w ∷ ps) = no_feeds w && words_plain ps
words_plain (Number n ∷ ps) = words_plain ps

-- the most that the pieces can take
abbrev width : List Piece → ℕ
width [] = 0
width (Word w ∷ ps) = length w + width ps
width (Number n ∷ ps) = 20 + width ps

-- what is seen of a move's pieces
abbrev InPieces : Move → Type 0
InPieces m = ((b : Text) → move_onto m b ≡ onto (move_pieces m) b) × (words_plain (move_pieces m) ≡ true) × (width (move_pieces m) ≤ 115)

in_pieces : (m : Move) → InPieces m
in_pieces (move.At n kind.Writer) = ((λ b. refl), refl, lit≤ tt)
in_pieces (move.Add (Private p v) None) = ((λ b. refl), refl, lit≤ tt)
in_pieces (move.Add k None) = ((λ b. refl), refl, lit≤ tt)
in_pieces (move.Drop (Private p v)) = ((λ b. refl), refl, lit≤ tt)
in_pieces (move.Give f (Private p v)) = ((λ b. refl), refl, lit≤ tt)
in_pieces (move.Read f (Private p v)) = ((λ b. refl), refl, lit≤ tt)
in_pieces (move.Write f (stored.Slot s)) = ((λ b. refl), refl, lit≤ tt)
in_pieces m = ((λ b. refl), refl, lit≤ tt)

-- what is written in front of something is written, and then that
pieces_then : (ps : List Piece) (b : Text) → onto ps b ≡ onto ps [] ++ b
pieces_then [] b = refl
pieces_then (p ∷ ps) b = ap (λ t. piece_text p ++ t) (pieces_then ps b) ∙ sym (append_assoc (piece_text p) (onto ps []) b)

pub move_onto-is : (m : Move) (b : Text) → move_onto m b ≡ move_text m ++ b
move_onto-is m b = (in_pieces m).0 b ∙ pieces_then (move_pieces m) b ∙ ap (λ t. t ++ b) (sym ((in_pieces m).0 []))

-- ---- no line feed

not_feed : (c : ℕ) → not (c == 10) ≡ true → c ≢ 10
not_feed c e h = let t : (c == 10) ≡ true = (unsigned_Decides c 10).1 h in let bad : not true ≡ true = sym (ap not t) ∙ e in cc

NoFeed-from : (bytes : Text) → no_feeds bytes ≡ true → NoFeed bytes
NoFeed-from [] e = tt
NoFeed-from (c ∷ cs) e = let h = and_parts (not (c == 10)) (no_feeds cs) e in (not_feed c h.0, NoFeed-from cs h.1)

NoFeed-append : (s t : Text) → NoFeed s → NoFeed t → NoFeed (s ++ t)
NoFeed-append [] t p q = q
NoFeed-append (c ∷ cs) t p q = (p.0, NoFeed-append cs t p.1 q)

NoFeed-plain : (s : Text) → IsPlain s → NoFeed s
NoFeed-plain [] p = tt
NoFeed-plain (c ∷ cs) p = ((λ e. absurd (omega (arith, p.0))), NoFeed-plain cs p.1)

NoFeed-decimal : (n : ℕ) → NoFeed (decimal n)
NoFeed-decimal n = NoFeed-plain (decimal n) (subst IsPlain (sym (decimal_is 20 n [])) (plain-digits 10 (omega arith) (omega arith) 20 n [] tt))

pieces_no_feed : (ps : List Piece) → words_plain ps ≡ true → NoFeed (onto ps [])
pieces_no_feed [] e = tt
pieces_no_feed (Word w ∷ ps) e = let h = and_parts (no_feeds w) (words_plain ps) e in NoFeed-append w (onto ps []) (NoFeed-from w h.0) (pieces_no_feed ps h.1)
pieces_no_feed (Number n ∷ ps) e = NoFeed-append (decimal n) (onto ps []) (NoFeed-decimal n) (pieces_no_feed ps e)

pub move_no_feed : (m : Move) → NoFeed (move_text m)
move_no_feed m = subst NoFeed (sym ((in_pieces m).0 [])) (pieces_no_feed (move_pieces m) (in_pieces m).1)

-- ---- how long

pieces_short : (ps : List Piece) → length (onto ps []) ≤ width ps
pieces_short [] = lit≤ tt
pieces_short (Word w ∷ ps) = omega (arith, length-append w (onto ps []), pieces_short ps)
pieces_short (Number n ∷ ps) = omega (arith, length-append (decimal n) (onto ps []), length-decimal n, pieces_short ps)

pub move_short : (m : Move) → length (move_text m) ≤ 115
move_short m = omega (arith, ap length ((in_pieces m).0 []), pieces_short (move_pieces m), (in_pieces m).2)

-- ---- one text, one list of moves

-- two texts that are ended by a line feed
pub one_line : (xs ys a b : Text) → NoFeed xs → NoFeed ys → xs ++ 10 ∷ a ≡ ys ++ 10 ∷ b → (xs ≡ ys) × (a ≡ b)
one_line [] [] a b p q e = (refl, cc)
one_line [] (y ∷ ys) a b p q e = let h : 10 ≡ y = cc in absurd (q.0 (sym h))
one_line (x ∷ xs) [] a b p q e = let h : x ≡ 10 = cc in absurd (p.0 h)
one_line (x ∷ xs) (y ∷ ys) a b p q e =
    let head : x ≡ y = cc in
    let tail : xs ++ 10 ∷ a ≡ ys ++ 10 ∷ b = cc in
    let h = one_line xs ys a b p.1 q.1 tail in
    (ap (λ c. c ∷ xs) head ∙ ap (λ cs. y ∷ cs) h.0, h.1)

-- a line that is ended within bytes that have no line feed
pub no_line : (xs ys a b : Text) → NoFeed ys → length xs < length ys → xs ++ 10 ∷ a ≡ ys ++ b → ⊥
no_line xs [] a b q l e = absurd (omega arith)
no_line [] (y ∷ ys) a b q l e = let h : 10 ≡ y = cc in q.0 (sym h)
no_line (x ∷ xs) (y ∷ ys) a b q l e = let tail : xs ++ 10 ∷ a ≡ ys ++ b = cc in no_line xs ys a b q.1 (omega arith) tail

-- two lines in front of two texts
pub one_move : (m n : Move) (a b : Text) → IsMove m → IsMove n → move_onto m (10 ∷ a) ≡ move_onto n (10 ∷ b) → (m ≡ n) × (a ≡ b)
one_move m n a b h k e =
    let lines : move_text m ++ 10 ∷ a ≡ move_text n ++ 10 ∷ b = sym (move_onto-is m (10 ∷ a)) ∙ e ∙ move_onto-is n (10 ∷ b) in
    let same : Some m ≡ Some n = ap value_of (sym (read_text-onto m (10 ∷ a) h refl) ∙ ap read_text e ∙ read_text-onto n (10 ∷ b) k refl) in
    (cc, (one_line (move_text m) (move_text n) a b (move_no_feed m) (move_no_feed n) lines).1)
