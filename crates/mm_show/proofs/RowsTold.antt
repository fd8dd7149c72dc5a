-- A line is read again from its row: the first byte tells what follows.
use Rattle.std.proofs.Common.{◌≡◌, ◌⊎◌, ℕ, suc, ◌+◌, ◌*◌, ◌/◌, ◌%◌, ◌≤◌, ◌<◌, Bool, true, false, cond, [], ◌∷◌, ◌++◌, length, drop, map, refl, sym, ap, ◌∙◌, inl, inr, subst, arith, append_assoc}
use Rattle.std.specs.Prelude.{◌&&◌, ◌==◌, nat_lt, nat_le, bytes_eq, codes}
use Rattle.std.specs.List.{list_all}
use Rattle.std.proofs.lemmas.Bool.{and_parts, cases_lt, eqb-true, le-leb, leb-true, ltb-true}
use Rattle.std.proofs.lemmas.List.{drop_all, take_all}
use Rattle.std.proofs.lemmas.Slice.Eq.{bytes_eq-Decides}
use Rattle.mm_types.specs.{Text}
use Rattle.mm_types.proofs.{both}
use Rattle.mm_log_walk.specs.{is_hex_digit, is_plain_byte, shown_byte, shown_line}
use Rattle.mm_replay.specs.{is_digit}
use Rattle.mm_reports.specs.{before, after_byte}
use Rattle.mm_show.specs.{digit_value, digits_text, are_digits, are_divided, is_access, letter_of, access_row, is_capital, plain_row, script_row, told_row, answer_row, is_shown}
use Rattle.mm_show.proofs.RowsAgain.{heads, decimal_value, digits_again}

-- ---- a text that a byte divides

parted : (b : ℕ) (l : Text) → length (before b l) < length l → l ≡ before b l ++ b ∷ after_byte b l
parted b [] h = absurd (omega (arith, h))
parted b (c ∷ cs) h =
    elim (c == b) as (λ t. (c == b) ≡ t → length (cond t [] (c ∷ before b cs)) < length (c ∷ cs)
    → c ∷ cs ≡ cond t [] (c ∷ before b cs) ++ b ∷ drop (length (cond t [] (c ∷ before b cs)) + 1) (c ∷ cs)) [
      | true ↦ λ e k. ap (λ (n : ℕ). n ∷ cs) (eqb-true c b e)
      | false ↦ λ e k.
          (let one : suc (length (before b cs) + 1) ≡ suc (length (before b cs)) + 1 = omega arith in
          ap (λ (ns : Text). c ∷ ns) (parted b cs (omega (arith, k)))
          ∙ ap (λ (n : ℕ). c ∷ (before b cs ++ b ∷ drop n (c ∷ cs))) one)
    ] refl h

has_more : (k n : ℕ) (l ns : Text) → drop k l ≡ n ∷ ns → k < length l
has_more k n l ns e = elim (cases_lt k (length l)) [
  | inl h ↦ h
  | inr over ↦ (let bad : [] ≡ n ∷ ns = sym (drop_all k l over) ∙ e in absurd (cc bad))
]

-- ---- a line that is shown

abbrev IsShown : Text → Type 0
IsShown line = is_shown line ≡ true

abbrev Plain : Text → Type 0
Plain cs = list_all is_plain_byte cs ≡ true

plain_same : (cs : Text) → Plain cs → map shown_byte cs ≡ cs
plain_same [] h = refl
plain_same (c ∷ cs) h =
    let p = and_parts (is_plain_byte c) (list_all is_plain_byte cs) h in
    ap (λ (b : Bool). cond b c 63 ∷ map shown_byte cs) p.0 ∙ ap (λ (ns : Text). c ∷ ns) (plain_same cs p.1)

shown_same : (line : Text) → IsShown line → shown_line line ≡ line ++ 10 ∷ []
shown_same line h =
    let p = and_parts (nat_le (length line) 256) (list_all is_plain_byte line) h in
    ap (λ (l : Text). map shown_byte l ++ 10 ∷ []) (take_all 256 line (leb-true (length line) 256 p.0))
    ∙ ap (λ (l : Text). l ++ 10 ∷ []) (plain_same line p.1)

plain_low : (c : ℕ) → is_plain_byte c ≡ true → 32 ≤ c
plain_low c h = leb-true 32 c (and_parts (nat_le 32 c) (nat_le c 126) (and_parts (nat_le 32 c && nat_le c 126) _ h).0).0

record Both (a b x y : Text) : Type 0 where
  line : a ≡ b
  rest : x ≡ y

ended_again : (a b x y : Text) → Plain a → Plain b → a ++ 10 ∷ x ≡ b ++ 10 ∷ y → Both a b x y
ended_again [] [] x y p q e = record { line = refl; rest = (heads 10 10 x y e).1 }
ended_again [] (d ∷ ds) x y p q e =
    absurd (omega (arith, (heads 10 d x (ds ++ 10 ∷ y) e).0, plain_low d (and_parts (is_plain_byte d) (list_all is_plain_byte ds) q).0))
ended_again (c ∷ cs) [] x y p q e =
    absurd (omega (arith, (heads c 10 (cs ++ 10 ∷ x) y e).0, plain_low c (and_parts (is_plain_byte c) (list_all is_plain_byte cs) p).0))
ended_again (c ∷ cs) (d ∷ ds) x y p q e =
    let h = heads c d (cs ++ 10 ∷ x) (ds ++ 10 ∷ y) e in
    let more = ended_again cs ds x y (and_parts (is_plain_byte c) (list_all is_plain_byte cs) p).1 (and_parts (is_plain_byte d) (list_all is_plain_byte ds) q).1 h.1 in
    record { line = ap (λ (n : ℕ). n ∷ cs) h.0 ∙ ap (λ (ns : Text). d ∷ ns) more.line; rest = more.rest }

shown_again : (a b x y : Text) → IsShown a → IsShown b → shown_line a ++ x ≡ shown_line b ++ y → Both a b x y
shown_again a b x y p q e =
    ended_again a b x y (and_parts (nat_le (length a) 256) (list_all is_plain_byte a) p).1 (and_parts (nat_le (length b) 256) (list_all is_plain_byte b) q).1
    (sym (append_assoc a (10 ∷ []) x) ∙ ap (λ (l : Text). l ++ x) (sym (shown_same a p)) ∙ e ∙ ap (λ (l : Text). l ++ y) (shown_same b q) ∙ append_assoc b (10 ∷ []) y)

-- ---- an access

abbrev word : Bool → Text
word true = codes "write"
word false = codes "read"

abbrev access_text : Bool → ℕ → Text → Text
access_text w p cs = letter_of w p ∷ (digits_text (before 32 cs) ++ digits_text (after_byte 32 cs))

record Access (line : Text) : Type 0 where
  writes : Bool
  pid : ℕ
  behind : Text
  row : script_row line ≡ access_text writes pid behind
  is : line ≡ word writes ++ (32 ∷ pid ∷ 32 ∷ 48 ∷ 120 ∷ behind)
  digit : is_digit pid ≡ true
  divided : are_divided behind ≡ true

module _ (w : Bool) (line : Text) where
  accessed : (more : Text) → after_byte 32 line ≡ more → is_access more ≡ true → before 32 line ≡ word w → script_row line ≡ access_row w more → Access line
  accessed (p ∷ a ∷ b ∷ c ∷ cs) e h f r =
      let h1 = and_parts (is_digit p && (a == 32) && (b == 48) && (c == 120)) (are_divided cs) h in
      let h2 = and_parts (is_digit p && (a == 32) && (b == 48)) (c == 120) h1.0 in
      let h3 = and_parts (is_digit p && (a == 32)) (b == 48) h2.0 in
      let h4 = and_parts (is_digit p) (a == 32) h3.0 in
      let there = has_more (length (before 32 line) + 1) p line (a ∷ b ∷ c ∷ cs) e in
      record {
        writes = w;
        pid = p;
        behind = cs;
        row = r;
        is = parted 32 line (omega (arith, there)) ∙ ap (λ (t : Text). t ++ 32 ∷ after_byte 32 line) f
            ∙ ap (λ (t : Text). word w ++ 32 ∷ t) e
            ∙ ap (λ (n : ℕ). word w ++ 32 ∷ p ∷ n ∷ b ∷ c ∷ cs) (eqb-true a 32 h4.1)
            ∙ ap (λ (n : ℕ). word w ++ 32 ∷ p ∷ 32 ∷ n ∷ c ∷ cs) (eqb-true b 48 h3.1)
            ∙ ap (λ (n : ℕ). word w ++ 32 ∷ p ∷ 32 ∷ 48 ∷ n ∷ cs) (eqb-true c 120 h2.1);
        digit = h4.0;
        divided = h1.1;
      }
  accessed [] e h f r = cc
  accessed (p ∷ []) e h f r = cc
  accessed (p ∷ a ∷ []) e h f r = cc
  accessed (p ∷ a ∷ b ∷ []) e h f r = cc

kind : (line : Text) → Access line ⊎ (script_row line ≡ plain_row line)
kind line =
    let more = after_byte 32 line in
    let read = bytes_eq (before 32 line) (codes "read") && is_access (after_byte 32 line) in
    let write = bytes_eq (before 32 line) (codes "write") && is_access (after_byte 32 line) in
    elim read as (λ t. read ≡ t → Access line ⊎ (script_row line ≡ plain_row line)) [
      | true ↦ λ e.
          (let h = and_parts (bytes_eq (before 32 line) (codes "read")) (is_access (after_byte 32 line)) e in
          inl (accessed false line more refl h.1 ((bytes_eq-Decides (before 32 line) (codes "read")).0 h.0)
          (ap (λ (b : Bool). cond b (access_row false more) (cond write (access_row true more) (plain_row line))) e)))
      | false ↦ λ e.
          elim write as (λ t. write ≡ t → Access line ⊎ (script_row line ≡ plain_row line)) [
            | true ↦ λ f.
                (let h = and_parts (bytes_eq (before 32 line) (codes "write")) (is_access (after_byte 32 line)) f in
                inl (accessed true line more refl h.1 ((bytes_eq-Decides (before 32 line) (codes "write")).0 h.0)
                (ap (λ (b : Bool). cond b (access_row false more) (cond write (access_row true more) (plain_row line))) e
                ∙ ap (λ (b : Bool). cond b (access_row true more) (plain_row line)) f)))
            | false ↦ λ f.
                inr (ap (λ (b : Bool). cond b (access_row false more) (cond write (access_row true more) (plain_row line))) e
                ∙ ap (λ (b : Bool). cond b (access_row true more) (plain_row line)) f)
          ] refl
    ] refl

-- the letter of a process below 10
record Digit (p : ℕ) : Type 0 where
  value : ℕ
  is : digit_value p ≡ value
  of : p ≡ value + 48
  few : value ≤ 9

digit_of : (p : ℕ) → is_digit p ≡ true → Digit p
digit_of p h =
    let q = and_parts (nat_le 0x30 p) (nat_le p 0x39) h in
    let low = leb-true 48 p q.0 in
    let high = leb-true p 57 q.1 in
    record { value = digit_value p; is = refl; of = omega (arith, decimal_value p low high, low); few = omega (arith, decimal_value p low high, high) }

record Same (v w : Bool) (p q : ℕ) : Type 0 where
  writes : v ≡ w
  pid : p ≡ q

letters : (v w : Bool) (p q : ℕ) → Digit p → Digit q → letter_of v p ≡ letter_of w q → Same v w p q
letters true true p q a b e = record { writes = refl; pid = omega (arith, e, a.is, a.of, b.is, b.of) }
letters true false p q a b e = absurd (omega (arith, e, a.is, a.few, b.is, b.few))
letters false true p q a b e = absurd (omega (arith, e, a.is, a.few, b.is, b.few))
letters false false p q a b e = record { writes = refl; pid = omega (arith, e, a.is, a.of, b.is, b.of) }

record Divided (cs : Text) : Type 0 where
  few : length (before 32 cs) < length cs
  front : list_all is_hex_digit (before 32 cs) ≡ true
  end : list_all is_hex_digit (after_byte 32 cs) ≡ true

divided_of : (cs : Text) → are_divided cs ≡ true → Divided cs
divided_of cs h =
    let p = and_parts (nat_lt (length (before 32 cs)) (length cs) && are_digits (before 32 cs)) (are_digits (after_byte 32 cs)) h in
    let q = and_parts (nat_lt (length (before 32 cs)) (length cs)) (are_digits (before 32 cs)) p.0 in
    record {
      few = ltb-true (length (before 32 cs)) (length cs) q.0;
      front = (and_parts (nat_le (length (before 32 cs)) 256) (list_all is_hex_digit (before 32 cs)) q.1).1;
      end = (and_parts (nat_le (length (after_byte 32 cs)) 256) (list_all is_hex_digit (after_byte 32 cs)) p.1).1;
    }

both_accesses : (a b x y : Text) → Access a → Access b → script_row a ++ x ≡ script_row b ++ y → Both a b x y
both_accesses a b x y p q e =
    let same = heads (letter_of p.writes p.pid) (letter_of q.writes q.pid) _ _ (ap (λ (t : Text). t ++ x) (sym p.row) ∙ e ∙ ap (λ (t : Text). t ++ y) q.row) in
    let l = letters p.writes q.writes p.pid q.pid (digit_of p.pid p.digit) (digit_of q.pid q.digit) same.0 in
    let u = divided_of p.behind p.divided in
    let v = divided_of q.behind q.divided in
    let f = digits_again (before 32 p.behind) (before 32 q.behind) (digits_text (after_byte 32 p.behind) ++ x) (digits_text (after_byte 32 q.behind) ++ y) u.front v.front
    (sym (append_assoc (digits_text (before 32 p.behind)) (digits_text (after_byte 32 p.behind)) x) ∙ same.1 ∙ append_assoc (digits_text (before 32 q.behind)) (digits_text (after_byte 32 q.behind)) y) in
    let g = digits_again (after_byte 32 p.behind) (after_byte 32 q.behind) x y u.end v.end f.rest in
    let c : p.behind ≡ q.behind =
    parted 32 p.behind u.few ∙ ap (λ (t : Text). t ++ 32 ∷ after_byte 32 p.behind) f.digits ∙ ap (λ (t : Text). before 32 q.behind ++ 32 ∷ t) g.digits ∙ sym (parted 32 q.behind v.few) in
    record {
      line = p.is ∙ ap (λ (t : Text). word p.writes ++ (32 ∷ p.pid ∷ 32 ∷ 48 ∷ 120 ∷ t)) c
          ∙ ap (λ (n : ℕ). word p.writes ++ (32 ∷ n ∷ 32 ∷ 48 ∷ 120 ∷ q.behind)) l.pid
          ∙ ap (λ (w : Bool). word w ++ (32 ∷ q.pid ∷ 32 ∷ 48 ∷ 120 ∷ q.behind)) l.writes ∙ sym q.is;
      rest = g.rest;
    }

-- ---- a plain line

record Front (line y : Text) : Type 0 where
  byte : ℕ
  rest : Text
  is : shown_line line ++ y ≡ byte ∷ rest
  low : 10 ≤ byte
  apart : is_capital line ≡ false → (byte < 65) ⊎ (84 < byte)

no_capital : (c : ℕ) (cs : Text) → is_capital (c ∷ cs) ≡ false → (c < 65) ⊎ (84 < c)
no_capital c cs e = elim (cases_lt c 65) [
  | inl h ↦ inl h
  | inr low ↦ elim (cases_lt 84 c) [
    | inl h ↦ inr h
    | inr high ↦
        (let yes : is_capital (c ∷ cs) ≡ true = both (nat_le 65 c) (nat_le c 84) (le-leb 65 c low) (le-leb c 84 high) in
        let bad : true ≡ false = sym yes ∙ e in absurd (cc bad))
  ]
]

front : (line y : Text) → IsShown line → Front line y
front [] y h = record { byte = 10; rest = y; is = refl; low = omega arith; apart = λ e. inl (omega arith) }
front (c ∷ cs) y h =
    let p = and_parts (is_plain_byte c) (list_all is_plain_byte cs) (and_parts (nat_le (length (c ∷ cs)) 256) (list_all is_plain_byte (c ∷ cs)) h).1 in
    record {
      byte = c;
      rest = (cs ++ 10 ∷ []) ++ y;
      is = ap (λ (t : Text). t ++ y) (shown_same (c ∷ cs) h);
      low = omega (arith, plain_low c p.0);
      apart = no_capital c cs;
    }

tabbed : (line y t : Text) → IsShown line → 9 ∷ t ≡ shown_line line ++ y → ⊥
tabbed line y t h e = let f = front line y h in absurd (omega (arith, (heads 9 f.byte t f.rest (e ∙ f.is)).0, f.low))

plain_again : (a b x y : Text) → IsShown a → IsShown b → plain_row a ++ x ≡ plain_row b ++ y → Both a b x y
plain_again a b x y p q = by (is_capital a) (is_capital b)
  where
    by : (s t : Bool) → cond s (9 ∷ shown_line a) (shown_line a) ++ x ≡ cond t (9 ∷ shown_line b) (shown_line b) ++ y → Both a b x y
    by true true e = shown_again a b x y p q (heads 9 9 (shown_line a ++ x) (shown_line b ++ y) e).1
    by false false e = shown_again a b x y p q e
    by true false e = absurd (tabbed b y (shown_line a ++ x) q e)
    by false true e = absurd (tabbed a x (shown_line b ++ y) p (sym e))

letter_range : (w : Bool) (p : ℕ) → Digit p → (65 ≤ letter_of w p) × (letter_of w p ≤ 84)
letter_range true p d = (omega (arith, d.is, d.few), omega (arith, d.is, d.few))
letter_range false p d = (omega (arith, d.is, d.few), omega (arith, d.is, d.few))

access_or_plain : (a b x y : Text) → Access a → IsShown b → script_row a ++ x ≡ plain_row b ++ y → ⊥
access_or_plain a b x y p q e = by (is_capital b) refl (ap (λ (t : Text). t ++ x) (sym p.row) ∙ e)
  where
    tail : Text
    tail = (digits_text (before 32 p.behind) ++ digits_text (after_byte 32 p.behind)) ++ x

    range : (65 ≤ letter_of p.writes p.pid) × (letter_of p.writes p.pid ≤ 84)
    range = letter_range p.writes p.pid (digit_of p.pid p.digit)

    by : (t : Bool) → is_capital b ≡ t → access_text p.writes p.pid p.behind ++ x ≡ cond t (9 ∷ shown_line b) (shown_line b) ++ y → ⊥
    by true c f = absurd (omega (arith, range.0, (heads (letter_of p.writes p.pid) 9 _ (shown_line b ++ y) f).0))
    by false c f =
        let g = front b y q in
        let h = (heads (letter_of p.writes p.pid) g.byte _ g.rest (f ∙ g.is)).0 in
        elim (g.apart c) [
          | inl u ↦ absurd (omega (arith, h, u, range.0))
          | inr u ↦ absurd (omega (arith, h, u, range.1))
        ]

script_both : (a b x y : Text) → IsShown a → IsShown b → script_row a ++ x ≡ script_row b ++ y → Both a b x y
script_both a b x y p q e = by (kind a) (kind b)
  where
    by : Access a ⊎ (script_row a ≡ plain_row a) → Access b ⊎ (script_row b ≡ plain_row b) → Both a b x y
    by (inl u) (inl v) = both_accesses a b x y u v e
    by (inl u) (inr v) = absurd (access_or_plain a b x y u q (e ∙ ap (λ (t : Text). t ++ y) v))
    by (inr u) (inl v) = absurd (access_or_plain b a y x v p (sym e ∙ ap (λ (t : Text). t ++ x) u))
    by (inr u) (inr v) = plain_again a b x y p q (ap (λ (t : Text). t ++ x) (sym u) ∙ e ∙ ap (λ (t : Text). t ++ y) v)

pub script_told : (a b x y : Text) → is_shown a ≡ true → is_shown b ≡ true → script_row a ++ x ≡ script_row b ++ y → (a ≡ b) × (x ≡ y)
script_told a b x y p q e = let h = script_both a b x y p q e in (h.line, h.rest)

-- ---- answers

record Digits (answer : Text) : Type 0 where
  behind : Text
  is : answer ≡ 111 ∷ 107 ∷ 32 ∷ behind
  hex : list_all is_hex_digit behind ≡ true
  row : answer_row answer ≡ digits_text behind

record Spaced (answer : Text) : Type 0 where
  behind : Text
  is : answer ≡ 111 ∷ 107 ∷ 32 ∷ behind
  row : answer_row answer ≡ 32 ∷ shown_line behind

record Bare (answer : Text) : Type 0 where
  is : answer ≡ 111 ∷ 107 ∷ []
  row : answer_row answer ≡ 10 ∷ []

abbrev Told : Text → Type 0
Told answer = Bare answer ⊎ (Digits answer ⊎ (Spaced answer ⊎ (answer_row answer ≡ 9 ∷ shown_line answer)))

ok_told : (answer cs : Text) → answer ≡ 111 ∷ 107 ∷ 32 ∷ cs → answer_row answer ≡ told_row cs → Told answer
ok_told answer cs is row = by (are_digits cs) refl
  where
    by : (t : Bool) → are_digits cs ≡ t → Told answer
    by true e = inr (inl (record { behind = cs; is = is; hex = (and_parts (nat_le (length cs) 256) (list_all is_hex_digit cs) e).1; row = row ∙ ap (λ (b : Bool). cond b (digits_text cs) (32 ∷ shown_line cs)) e }))
    by false e = inr (inr (inl (record { behind = cs; is = is; row = row ∙ ap (λ (b : Bool). cond b (digits_text cs) (32 ∷ shown_line cs)) e })))

told_as : (answer : Text) → Told answer
told_as [] = inr (inr (inr refl))
told_as (o ∷ []) = inr (inr (inr refl))
told_as (o ∷ k ∷ []) = by ((o == 111) && (k == 107)) refl
  where
    by : (t : Bool) → ((o == 111) && (k == 107)) ≡ t → Told (o ∷ k ∷ [])
    by true e =
        let h = and_parts (o == 111) (k == 107) e in
        inl (record {
          is = ap (λ (n : ℕ). n ∷ k ∷ []) (eqb-true o 111 h.0) ∙ ap (λ (n : ℕ). 111 ∷ n ∷ []) (eqb-true k 107 h.1);
          row = ap (λ (b : Bool). cond b (10 ∷ []) (9 ∷ shown_line (o ∷ k ∷ []))) e;
        })
    by false e = inr (inr (inr (ap (λ (b : Bool). cond b (10 ∷ []) (9 ∷ shown_line (o ∷ k ∷ []))) e)))
told_as (o ∷ k ∷ s ∷ cs) = by ((o == 111) && (k == 107) && (s == 32)) refl
  where
    by : (t : Bool) → ((o == 111) && (k == 107) && (s == 32)) ≡ t → Told (o ∷ k ∷ s ∷ cs)
    by true e =
        let g = and_parts ((o == 111) && (k == 107)) (s == 32) e in
        let h = and_parts (o == 111) (k == 107) g.0 in
        ok_told (o ∷ k ∷ s ∷ cs) cs
        (ap (λ (n : ℕ). n ∷ k ∷ s ∷ cs) (eqb-true o 111 h.0) ∙ ap (λ (n : ℕ). 111 ∷ n ∷ s ∷ cs) (eqb-true k 107 h.1) ∙ ap (λ (n : ℕ). 111 ∷ 107 ∷ n ∷ cs) (eqb-true s 32 g.1))
        (ap (λ (b : Bool). cond b (told_row cs) (9 ∷ shown_line (o ∷ k ∷ s ∷ cs))) e)
    by false e = inr (inr (inr (ap (λ (b : Bool). cond b (told_row cs) (9 ∷ shown_line (o ∷ k ∷ s ∷ cs))) e)))

behind_shown : (cs : Text) → IsShown (111 ∷ 107 ∷ 32 ∷ cs) → IsShown cs
behind_shown cs h =
    let p = and_parts (nat_le (length (111 ∷ 107 ∷ 32 ∷ cs)) 256) (list_all is_plain_byte (111 ∷ 107 ∷ 32 ∷ cs)) h in
    both (nat_le (length cs) 256) (list_all is_plain_byte cs) (le-leb (length cs) 256 (omega (arith, leb-true (length (111 ∷ 107 ∷ 32 ∷ cs)) 256 p.0))) p.1

-- digits begin above a space
record Begun (t : Text) : Type 0 where
  byte : ℕ
  rest : Text
  is : t ≡ byte ∷ rest
  high : 33 ≤ byte

begun : (cs y : Text) → Begun (digits_text cs ++ y)
begun [] y = record { byte = 33; rest = y; is = refl; high = omega arith }
begun (a ∷ []) y = record { byte = 39 + digit_value a; rest = y; is = refl; high = omega arith }
begun (a ∷ b ∷ []) y =
    let n : ℕ = 4096 + 16 * digit_value a + digit_value b in
    record { byte = 61 + n / 66; rest = (61 + n % 66) ∷ y; is = refl; high = omega arith }
begun (a ∷ b ∷ c ∷ cs) y =
    let n : ℕ = 256 * digit_value a + 16 * digit_value b + digit_value c in
    record { byte = 61 + n / 66; rest = (61 + n % 66) ∷ (digits_text cs ++ y); is = refl; high = omega arith }

no_digits : (n : ℕ) (cs y t : Text) → n < 33 → n ∷ t ≡ digits_text cs ++ y → ⊥
no_digits n cs y t low e = let b = begun cs y in absurd (omega (arith, low, (heads n b.byte t b.rest (e ∙ b.is)).0, b.high))

other_byte : (n m : ℕ) (x y : Text) → (n ≡ m → ⊥) → n ∷ x ≡ m ∷ y → ⊥
other_byte n m x y differ e = differ (heads n m x y e).0

answer_both : (a b x y : Text) → IsShown a → IsShown b → answer_row a ++ x ≡ answer_row b ++ y → Both a b x y
answer_both a b x y p q e = by (told_as a) (told_as b)
  where
    rows : (s t : Text) → answer_row a ≡ s → answer_row b ≡ t → s ++ x ≡ t ++ y
    rows s t u v = ap (λ (r : Text). r ++ x) (sym u) ∙ e ∙ ap (λ (r : Text). r ++ y) v

    by : Told a → Told b → Both a b x y
    by (inl u) (inl v) = record { line = u.is ∙ sym v.is; rest = (heads 10 10 x y (rows (10 ∷ []) (10 ∷ []) u.row v.row)).1 }
    by (inl u) (inr (inl v)) = absurd (no_digits 10 v.behind y x (omega arith) (rows (10 ∷ []) (digits_text v.behind) u.row v.row))
    by (inl u) (inr (inr (inl v))) = absurd (other_byte 10 32 x (shown_line v.behind ++ y) (λ z. omega (arith, z)) (rows (10 ∷ []) (32 ∷ shown_line v.behind) u.row v.row))
    by (inl u) (inr (inr (inr v))) = absurd (other_byte 10 9 x (shown_line b ++ y) (λ z. omega (arith, z)) (rows (10 ∷ []) (9 ∷ shown_line b) u.row v))
    by (inr (inl u)) (inl v) = absurd (no_digits 10 u.behind x y (omega arith) (sym (rows (digits_text u.behind) (10 ∷ []) u.row v.row)))
    by (inr (inl u)) (inr (inl v)) =
        let h = digits_again u.behind v.behind x y u.hex v.hex (rows (digits_text u.behind) (digits_text v.behind) u.row v.row) in
        record { line = u.is ∙ ap (λ (t : Text). 111 ∷ 107 ∷ 32 ∷ t) h.digits ∙ sym v.is; rest = h.rest }
    by (inr (inl u)) (inr (inr (inl v))) =
        absurd (no_digits 32 u.behind x (shown_line v.behind ++ y) (omega arith) (sym (rows (digits_text u.behind) (32 ∷ shown_line v.behind) u.row v.row)))
    by (inr (inl u)) (inr (inr (inr v))) = absurd (no_digits 9 u.behind x (shown_line b ++ y) (omega arith) (sym (rows (digits_text u.behind) (9 ∷ shown_line b) u.row v)))
    by (inr (inr (inl u))) (inl v) = absurd (other_byte 32 10 (shown_line u.behind ++ x) y (λ z. omega (arith, z)) (rows (32 ∷ shown_line u.behind) (10 ∷ []) u.row v.row))
    by (inr (inr (inl u))) (inr (inl v)) =
        absurd (no_digits 32 v.behind y (shown_line u.behind ++ x) (omega arith) (rows (32 ∷ shown_line u.behind) (digits_text v.behind) u.row v.row))
    by (inr (inr (inl u))) (inr (inr (inl v))) =
        let f = heads 32 32 (shown_line u.behind ++ x) (shown_line v.behind ++ y) (rows (32 ∷ shown_line u.behind) (32 ∷ shown_line v.behind) u.row v.row) in
        let h = shown_again u.behind v.behind x y (behind_shown u.behind (subst IsShown u.is p)) (behind_shown v.behind (subst IsShown v.is q)) f.1 in
        record { line = u.is ∙ ap (λ (t : Text). 111 ∷ 107 ∷ 32 ∷ t) h.line ∙ sym v.is; rest = h.rest }
    by (inr (inr (inl u))) (inr (inr (inr v))) =
        absurd (other_byte 32 9 (shown_line u.behind ++ x) (shown_line b ++ y) (λ z. omega (arith, z)) (rows (32 ∷ shown_line u.behind) (9 ∷ shown_line b) u.row v))
    by (inr (inr (inr u))) (inl v) = absurd (other_byte 9 10 (shown_line a ++ x) y (λ z. omega (arith, z)) (rows (9 ∷ shown_line a) (10 ∷ []) u v.row))
    by (inr (inr (inr u))) (inr (inl v)) = absurd (no_digits 9 v.behind y (shown_line a ++ x) (omega arith) (rows (9 ∷ shown_line a) (digits_text v.behind) u v.row))
    by (inr (inr (inr u))) (inr (inr (inl v))) =
        absurd (other_byte 9 32 (shown_line a ++ x) (shown_line v.behind ++ y) (λ z. omega (arith, z)) (rows (9 ∷ shown_line a) (32 ∷ shown_line v.behind) u v.row))
    by (inr (inr (inr u))) (inr (inr (inr v))) =
        shown_again a b x y p q (heads 9 9 (shown_line a ++ x) (shown_line b ++ y) (rows (9 ∷ shown_line a) (9 ∷ shown_line b) u v)).1

pub answer_told : (a b x y : Text) → is_shown a ≡ true → is_shown b ≡ true → answer_row a ++ x ≡ answer_row b ++ y → (a ≡ b) × (x ≡ y)
answer_told a b x y p q e = let h = answer_both a b x y p q e in (h.line, h.rest)
