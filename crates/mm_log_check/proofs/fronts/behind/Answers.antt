use Rattle.std.proofs.Common.{◌≡◌, ℕ, ◌-◌, ◌∷◌, ◌++◌, length, take, drop, get_or, Option, Some, None, refl, sym, ap, ◌∙◌}
use Rattle.std.specs.Prelude.{MatchOption, IfSome}
use Rattle.std.specs.Borrow.{Bor}
use Rattle.std.proofs.lemmas.Bool.Decides.{Decides-eqb}
use Rattle.std.proofs.lemmas.Slice.Eq.{strip_prefix_is}
use Rattle.mm_types.specs.{Text}
use Rattle.mm_log_check.proofs.{first_and_rest}
use Rattle.mm_log_check.proofs.fronts.behind.Goals as goal

-- a text without its first byte
abbrev others : Text → Text
others text = take (length text - 1) (drop 1 text)

-- the first bytes are one, and the others of the words stand in front of those of the text
behind_both : (N : Type 0) (text words : Text) (byte first : ℕ) (r : Option (Bor Text)) → text ≡ byte ∷ others text → words ≡ first ∷ others words → byte ≡ first → MatchOption r N (λ x. others text ≡ others words ++ x.now) → IfSome r (λ x. words ++ x.now ≡ text)
behind_both N text words byte first None t w same h = tt
behind_both N text words byte first (Some x) t w same h =
    ap (λ l. l ++ x.now) w ∙ ap (λ l. first ∷ l) (sym h) ∙ ap (λ (b : ℕ). b ∷ others text) (sym same) ∙ sym t

pub returns-in-len1-up-text : goal.returns-in-len1-up-text
returns-in-len1-up-text c =
    let text : Text = c.args.text.now in
    let words : Text = c.args.words.now in
    behind_both _ text words (get_or text 0 0) (get_or words 0 0) c.strip_prefix.result
    (first_and_rest text (get_or text 0 0) c.in-len1-up-text.len_at_least refl)
    (first_and_rest words (get_or words 0 0) c.in-len1-up.len_at_least refl)
    c.if-byte-first.true
    (strip_prefix_is Decides-eqb (others text) (others words) c.strip_prefix.result c.strip_prefix.ensures.cases)
