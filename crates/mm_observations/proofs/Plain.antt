-- No byte of packed rows is `<` or `&`.
use Rattle.std.proofs.Common.{◌≡◌, ℕ, ◌+◌, Bool, true, false, cond, List, [], ◌∷◌, ◌-◌, Option, Some, None, Result, Ok, Err, refl, subst}
use Rattle.std.specs.Prelude.{◌==◌}
use Rattle.std.specs.List.{list_all}
use Rattle.mm_types.specs.{Text}
use Rattle.mm_move_classes.specs.{number_text, numbers_text, is_plain_in_html}
use Rattle.mm_move_classes.proofs.{IsPlainText, plain_cons, plain_digits, plain_if, plain_more, plain_numbers}
use Rattle.mm_observations.specs.{good_row, region_letter, region_numbers, seen_data, line_data, row_data, after_row, packed_behind, if_row}
use Rattle.mm_observations.specs.{packed_from, Before, Row, Seen}
use Rattle.mm_observations.specs.declared.run_lines.RunLines.{RunLines}
use Rattle.mm_observations.specs.declared.rows.Seen.TheVariants as seen

plain_letter : (a b c d : Bool) → is_plain_in_html (cond a 0x66 (cond b (cond c 0x72 0x52) (cond d 0x63 0x43))) ≡ true
plain_letter true b c d = refl
plain_letter false true true d = refl
plain_letter false true false d = refl
plain_letter false false c true = refl
plain_letter false false c false = refl

plain_seen : (end : ℕ) (s : Seen) → IsPlainText (seen_data end s)
plain_seen end (seen.Charge charged limit) = plain_cons 0x71 (numbers_text (charged ∷ limit ∷ [])) refl (plain_numbers (charged ∷ limit ∷ []))
plain_seen end (seen.Region pid r) =
    plain_cons (region_letter r) (numbers_text (region_numbers pid end r))
    (plain_letter (r.state == 0x10000) (r.state == 0x2000) (r.kind == 0x20000) (r.kind == 0x20000)) (plain_numbers (region_numbers pid end r))

plain_row : (b : Before) (row : Row) → IsPlainText (row_data b row)
plain_row b row =
    plain_more (line_data b.line row.line) (seen_data b.end row.seen)
    (plain_if (b.line == row.line) [] (10 ∷ number_text (row.line - b.line)) refl (plain_cons 10 (number_text (row.line - b.line)) refl (plain_digits 13 (row.line - b.line))))
    (plain_seen b.end row.seen)

-- what is packed, if it is
abbrev IsPlain : Result Text ℕ → Type 0
IsPlain (Ok text) = IsPlainText text
IsPlain (Err n) = Unit {0}

plain_behind : (a : Text) (r : Result Text ℕ) → IsPlainText a → IsPlain r → IsPlain (packed_behind a r)
plain_behind a (Ok t) p q = plain_more a t p q
plain_behind a (Err n) p q = tt

plain_from : (run : RunLines) (b : Before) (n : ℕ) (rows : List Text) → IsPlain (packed_from run b n rows)
plain_from run b n [] = refl
plain_from run b n (t ∷ ts) = pick (good_row run b.line t) (λ next. plain_from run next (n + 1) ts)
  where
    pick : (o : Option Row) → ((next : Before) → IsPlain (packed_from run next (n + 1) ts)) → IsPlain (if_row n o (λ row. packed_behind (row_data b row) (packed_from run (after_row b row) (n + 1) ts)))
    pick None more = tt
    pick (Some row) more = plain_behind (row_data b row) (packed_from run (after_row b row) (n + 1) ts) (plain_row b row) (more (after_row b row))

pub plain_packed : (run : RunLines) (b : Before) (n : ℕ) (rows : List Text) (text : Text) → packed_from run b n rows ≡ Ok text → list_all is_plain_in_html text ≡ true
plain_packed run b n rows text e = subst IsPlain e (plain_from run b n rows)
