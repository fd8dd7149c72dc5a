-- No byte of a log's data is `<` or `&`; how such texts are put together.
use Rattle.std.proofs.Common.{◌≡◌, ℕ, zero, suc, ◌+◌, ◌/◌, ◌%◌, ◌≤◌, Bool, true, false, cond, List, [], ◌∷◌, ◌++◌, Option, Some, None, refl, ap, arith}
use Rattle.std.specs.Prelude.{◌==◌, not, nat_lt, nat_le}
use Rattle.std.specs.List.{list_all}
use Rattle.mm_types.specs.{Text, Counts, LineKind, Move}
use Rattle.mm_types.proofs.{both, parts, differ}
use Rattle.mm_types.specs.declared.moves.LineKind.TheVariants as kind
use Rattle.mm_types.specs.declared.moves.Move.TheVariants as move
use Rattle.mm_move_rules.specs.{FrameLife, unstarted, counts_of, after_move}
use Rattle.mm_move_classes.specs.{MarksOf, no_marks, marks_after, class_of, next_of, code_of, digits_of, number_text, numbers_text, move_numbers}
use Rattle.mm_move_classes.specs.{kind_code, head_text, move_data, mark_data, is_plain_in_html, is_marked, mark_before, last_mark, data_from}
use Rattle.mm_move_classes.specs.{log_data, Class}
use Rattle.mm_move_classes.specs.declared.classes.Class.TheVariants as class

abbrev pub IsPlainText : Text → Type 0
IsPlainText text = list_all is_plain_in_html text ≡ true

pub plain_more : (a b : Text) → IsPlainText a → IsPlainText b → IsPlainText (a ++ b)
plain_more [] b p q = q
plain_more (x ∷ a) b p q = let h = parts (is_plain_in_html x) (list_all is_plain_in_html a) p in both (is_plain_in_html x) (list_all is_plain_in_html (a ++ b)) h.0 (plain_more a b h.1 q)

pub plain_cons : (n : ℕ) (a : Text) → is_plain_in_html n ≡ true → IsPlainText a → IsPlainText (n ∷ a)
plain_cons n a p q = both (is_plain_in_html n) (list_all is_plain_in_html a) p q

pub plain_if : (b : Bool) (x y : Text) → IsPlainText x → IsPlainText y → IsPlainText (cond b x y)
plain_if true x y p q = p
plain_if false x y p q = q

plain_high : (n : ℕ) → 63 ≤ n → is_plain_in_html n ≡ true
plain_high n high =
    both (not (n == 0x3C)) (not (n == 0x26))
    (ap not (differ n 0x3C (λ e. omega (arith, e, high)))) (ap not (differ n 0x26 (λ e. omega (arith, e, high))))

pub plain_digits : (count n : ℕ) → IsPlainText (digits_of count n)
unfolding digits_of
plain_digits zero n = refl
plain_digits (suc count) n =
    plain_if (nat_lt n 32) ((63 + n) ∷ []) ((95 + n % 32) ∷ digits_of count (n / 32))
    (plain_cons (63 + n) [] (plain_high (63 + n) (omega arith)) refl)
    (plain_cons (95 + n % 32) (digits_of count (n / 32)) (plain_high (95 + n % 32) (omega arith)) (plain_digits count (n / 32)))

pub plain_numbers : (ns : List ℕ) → IsPlainText (numbers_text ns)
plain_numbers [] = refl
plain_numbers (n ∷ ns) = plain_more (number_text n) (numbers_text ns) (plain_digits 13 n) (plain_numbers ns)

plain_code : (c : Class) → is_plain_in_html (code_of c) ≡ true
plain_code class.Deleted = refl
plain_code _ = refl

plain_kind : (k : LineKind) → is_plain_in_html (kind_code k) ≡ true
plain_kind kind.Call = refl
plain_kind _ = refl

plain_head : (o : Option Class) (m : Move) → IsPlainText (head_text o m)
plain_head o (move.At n k) = plain_cons 10 (kind_code k ∷ []) refl (plain_cons (kind_code k) [] (plain_kind k) refl)
plain_head None _ = refl
plain_head (Some c) _ = plain_cons (code_of c) [] (plain_code c) refl

plain_move : (o : Option Class) (m : Move) → IsPlainText (move_data o m)
plain_move o m = plain_more (head_text o m) (numbers_text (move_numbers m)) (plain_head o m) (plain_numbers (move_numbers m))

plain_mark : (c : Counts) → IsPlainText (mark_data c)
plain_mark c =
    let ns : List ℕ = c.zeroed ∷ c.free ∷ c.standby ∷ c.modified ∷ c.active ∷ c.transition ∷ c.free_slots ∷ c.requests ∷ [] in
    plain_cons 0x3D (numbers_text ns) refl (plain_numbers ns)

plain_before : (l : FrameLife) (m : Move) → IsPlainText (mark_before l m)
plain_before l (move.At n k) = plain_if (is_marked l.line) (mark_data (counts_of l)) [] (plain_mark (counts_of l)) refl
plain_before l _ = refl

plain_last : (l : FrameLife) → IsPlainText (last_mark l)
plain_last l = plain_if (nat_le 1 l.line) (mark_data (counts_of l)) [] (plain_mark (counts_of l)) refl

plain_from : (l : FrameLife) (v : MarksOf) (before : Option Move) (ms : List Move) → IsPlainText (data_from l v before ms)
plain_from l v before [] = plain_more (last_mark l) (10 ∷ []) (plain_last l) refl
plain_from l v before (m ∷ ms) =
    plain_more (mark_before l m) (move_data (class_of l v before m (next_of ms)) m ++ data_from (after_move l m) (marks_after v m) (Some m) ms) (plain_before l m)
    (plain_more (move_data (class_of l v before m (next_of ms)) m) (data_from (after_move l m) (marks_after v m) (Some m) ms)
    (plain_move (class_of l v before m (next_of ms)) m) (plain_from (after_move l m) (marks_after v m) (Some m) ms))

pub plain_data : (moves : List Move) → list_all is_plain_in_html (log_data moves) ≡ true
plain_data moves = plain_from unstarted no_marks None moves
