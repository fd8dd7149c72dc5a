-- The number of a line `at`, counted up where it stands.
use Rattle.std.proofs.Common.{◌≡◌, ℕ, zero, suc, ◌+◌, ◌-◌, ◌/◌, ◌%◌, ◌^◌, ◌≤◌, ◌<◌, Bool, cond, List, [], ◌∷◌, ◌++◌, length, get_or, set, drop, refl, sym, ap, ◌∙◌, subst, inl, inr, arith, append_assoc, length-append, length-set}
use Rattle.std.specs.Prelude.{take, codes, slice_range}
use Rattle.std.proofs.lemmas.Bool.{lt-ltb, cases_lt}
use Rattle.std.proofs.lemmas.List.{length-take-le, take_more, take_more_set, drop-append-le, drop-take}
use Rattle.std.proofs.Math.Seq.{take-append_seam, get_or-append_seam, drop-append_seam}
use Rattle.mm_types.specs.{Text, glyph, decimal, LineKind}
use Rattle.mm_types.proofs.{append_nil}
use Rattle.mm_types.specs.declared.moves.Move.TheVariants as move
use Rattle.mm_move_rules.specs.{kind_onto, spelling_of_move}
use Rattle.mm_log_writer.specs.{HasNumber, IsAtLine}
use Rattle.mm_log_writer.proofs.Fronts.{shorter}
use Rattle.mm_log_writer.proofs.Written.{decimal_one, decimal_more}

-- ---- the last of some bytes

same_front : (xs ys : Text) (a b : ℕ) → xs ++ a ∷ [] ≡ ys ++ b ∷ [] → xs ≡ ys
same_front xs ys a b e =
    let long : length xs ≡ length ys = omega (arith, ap length e, length-append xs (a ∷ []), length-append ys (b ∷ [])) in
    sym (take-append_seam xs (a ∷ []))
    ∙ ap (take (length xs)) e
    ∙ ap (λ (k : ℕ). take k (ys ++ b ∷ [])) long
    ∙ take-append_seam ys (b ∷ [])

same_last : (xs ys : Text) (a b : ℕ) → xs ++ a ∷ [] ≡ ys ++ b ∷ [] → a ≡ b
same_last xs ys a b e =
    let long : length xs ≡ length ys = omega (arith, ap length e, length-append xs (a ∷ []), length-append ys (b ∷ [])) in
    sym (get_or-append_seam xs a [] 0)
    ∙ ap (λ (t : Text). get_or t (length xs) 0) e
    ∙ ap (λ (k : ℕ). get_or (ys ++ b ∷ []) k 0) long
    ∙ get_or-append_seam ys b [] 0

-- ---- the last digit of a number

glyph_low : (d : ℕ) → d < 10 → glyph d ≡ 48 + d
glyph_low d low = ap (λ (b : Bool). cond b (48 + d) (55 + d)) (lt-ltb d 10 low)

-- the digits before the last one stay where the last one is no 9
record LastDigit (n : ℕ) : Type 0 where
  front : Text
  now : decimal n ≡ front ++ glyph (n % 10) ∷ []
  next : n % 10 < 9 → n + 1 < 2 ^ 32 → decimal (n + 1) ≡ front ++ (glyph (n % 10) + 1) ∷ []

glyph_next : (m n : ℕ) → n < 9 → m ≡ n + 1 → glyph m ≡ glyph n + 1
glyph_next m n low e = omega (arith, glyph_low n (omega (arith, low)), glyph_low m (omega (arith, low, e)), e)

last_digit : (n : ℕ) → n < 2 ^ 32 → LastDigit n
last_digit n range = elim (cases_lt n 10) [
  | inl few ↦ record {
    front = [];
    now = decimal_one n few ∙ ap (λ (d : ℕ). glyph d ∷ []) (omega (arith, few));
    next = λ low high. decimal_one (n + 1) (omega (arith, few, low)) ∙ ap (λ (d : ℕ). d ∷ []) (glyph_next (n + 1) (n % 10) low (omega (arith, few)));
  }
  | inr many ↦ record {
    front = decimal (n / 10);
    now = decimal_more n many range;
    next = λ low high.
        decimal_more (n + 1) (omega (arith, many)) high
        ∙ ap (λ (k : ℕ). decimal k ++ glyph ((n + 1) % 10) ∷ []) (omega (arith, low))
        ∙ ap (λ (d : ℕ). decimal (n / 10) ++ d ∷ []) (glyph_next ((n + 1) % 10) (n % 10) low (omega (arith, low)));
  }
]

-- ---- one more

pub counted : (room : Text) (start number n : ℕ) → HasNumber room start number → n ≡ number + 1 → n < 2 ^ 32 → get_or room 12 0 < 57 → HasNumber (set room 12 (get_or room 12 0 + 1)) start n
counted room start number n has more range no_nine =
    let at : Text = codes "at " in
    let last : ℕ = get_or room 12 0 in
    let before : Text = drop start (take 12 room) in
    let twelve : length (take 12 room) ≡ 12 = length-take-le 12 room (omega (arith, has.long)) in
    let early : start ≤ length (take 12 room) = omega (arith, twelve, has.early) in
    let d = last_digit number (omega (arith, more, range)) in
    let split : drop start (take 13 room) ≡ before ++ last ∷ [] =
    ap (drop start) (take_more room 12 0 (omega (arith, has.long))) ∙ drop-append-le start (take 12 room) (last ∷ []) early in
    let told : before ++ last ∷ [] ≡ (at ++ d.front) ++ glyph (number % 10) ∷ [] =
    sym split ∙ has.digits ∙ ap (λ (t : Text). at ++ t) d.now ∙ sym (append_assoc at d.front (glyph (number % 10) ∷ [])) in
    let digit : last ≡ glyph (number % 10) = same_last before (at ++ d.front) last (glyph (number % 10)) told in
    let low : number % 10 < 9 = omega (arith, digit, no_nine, glyph_low (number % 10) (omega arith)) in
    record {
      long = omega (arith, has.long, length-set room 12 (last + 1));
      early = has.early;
      digits =
          ap (drop start) (take_more_set room 12 (last + 1) (omega (arith, has.long)))
          ∙ drop-append-le start (take 12 room) ((last + 1) ∷ []) early
          ∙ ap (λ (t : Text). t ++ (last + 1) ∷ []) (same_front before (at ++ d.front) last (glyph (number % 10)) told)
          ∙ ap (λ (x : ℕ). (at ++ d.front) ++ (x + 1) ∷ []) digit
          ∙ append_assoc at d.front ((glyph (number % 10) + 1) ∷ [])
          ∙ ap (λ (t : Text). at ++ t) (sym (d.next low (omega (arith, more, range))))
          ∙ ap (λ (m : ℕ). at ++ decimal m) (sym more);
    }

-- ---- a number that is written anew

pub begun : (text old new : Text) (end n : ℕ) → 13 ≤ length old → 13 ≤ length new → end ≤ length text → end ≤ 13 → take end text ++ [] ≡ codes "at " ++ (decimal n ++ []) → take 13 new ≡ take (13 - end) old ++ take end text → HasNumber new (13 - end) n
begun text old new end n inside wide within short words put =
    let at : Text = codes "at " in
    let said : take end text ≡ at ++ decimal n = sym (append_nil (take end text)) ∙ words ∙ ap (λ (t : Text). at ++ t) (append_nil (decimal n)) in
    let front : length (take (13 - end) old) ≡ 13 - end = length-take-le (13 - end) old (omega (arith, inside)) in
    let few : 3 ≤ end = omega (arith, length-take-le end text within, ap length said) in
    record {
      long = wide;
      early = omega (arith, few);
      digits =
          ap (drop (13 - end)) put
          ∙ ap (λ (k : ℕ). drop k (take (13 - end) old ++ take end text)) (sym front)
          ∙ drop-append_seam (take (13 - end) old) (take end text)
          ∙ said;
    }

-- ---- the line

pub tail_order : (old new more : Text) (end : ℕ) → 13 ≤ length old → end ≤ length new → take end new ≡ take 13 old ++ more → 13 ≤ end
tail_order old new more end inside within e = omega (arith, length-take-le 13 old inside, length-take-le end new within, ap length e, length-append (take 13 old) more)

pub tailed : (old new more : Text) (start end n : ℕ) → length new ≡ 80 → end ≤ 66 → take end new ≡ take 13 old ++ more → HasNumber old start n → IsAtLine new start end n
tailed old new more start end n same few e has =
    let order : 13 ≤ end = tail_order old new more end has.long (omega (arith, same, few)) e in
    let reach : take (13 + (end - 13)) new ≡ take 13 old ++ more = ap (λ (k : ℕ). take k new) (omega (arith, order)) ∙ e in
    let front : take 13 new ≡ take 13 old = shorter old new more 13 (end - 13) 0 has.long reach (omega arith) ∙ append_nil (take 13 old) in
    record {
      numbered = record { long = omega (arith, order, same, few); early = has.early; digits = ap (drop start) front ∙ has.digits };
      order = order;
      within = omega (arith, few);
    }

pub spelled : (old new : Text) (k : LineKind) (start end n : ℕ) → take end new ≡ take 13 old ++ (codes " " ++ kind_onto k (10 ∷ [])) → HasNumber old start n → drop start (take end new) ≡ spelling_of_move (move.At n k)
spelled old new k start end n e has =
    let more : Text = codes " " ++ kind_onto k (10 ∷ []) in
    let thirteen : length (take 13 old) ≡ 13 = length-take-le 13 old has.long in
    ap (drop start) e
    ∙ drop-append-le start (take 13 old) more (omega (arith, thirteen, has.early))
    ∙ ap (λ (t : Text). t ++ more) has.digits
    ∙ append_assoc (codes "at ") (decimal n) more

pub sliced : (room : Text) (start end : ℕ) → start ≤ end → slice_range room start end ≡ drop start (take end room)
sliced room start end order = sym (drop-take start (end - start) room) ∙ ap (λ (k : ℕ). drop start (take k room)) (omega (arith, order))
