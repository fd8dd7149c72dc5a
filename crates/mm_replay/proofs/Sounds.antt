-- What is read stands in the text: its spelling, in front of the text that is given after it.
use Rattle.std.proofs.Common.{◌≡◌, ◌==◌, ◌⊎◌, length, ℕ, ◌+◌, ◌-◌, ◌*◌, ◌%◌, ◌^◌, ◌≤◌, ◌<◌, Bool, true, false, cond, [], ◌∷◌, ◌++◌, codes, Option, Some, None, refl, sym, ap, ◌∙◌, subst, inl, inr, arith, append_assoc, nat_le, nat_lt}
use Rattle.std.proofs.lemmas.Bool.{lt-ltb, le-ltb, cases_lt, lt-leb, and_left, and_right, eqb-true, ltb-true}
use Rattle.mm_types.specs.{Text, glyph, decimal, Pid, Frame, Key}
use Rattle.mm_move_rules.specs.{numbered, place_onto, key_onto, kind_onto, move_onto, IsKey, IsPlace, IsKind, IsMove}
use Rattle.mm_replay.specs.{reading, past, past_or, strip, number_from, below, is_digit, led_by, read_number, number_behind, home_behind}
use Rattle.mm_replay.specs.{stored_behind, read_pid, read_place, read_private, read_shared, read_key, read_frame, read_machine, read_process}
use Rattle.mm_replay.specs.{read_plain_kind, read_kind, read_at, read_end, read_taking, read_text}
use Rattle.mm_replay.proofs.Numbers.{next, short, led, led_more, glyph_is, number_digit, number_grows, is_digit-true}
use Rattle.mm_replay.proofs.ReadAgain.{small_or, read_key-onto, read_text-onto, value_of, rest_of}
use Rattle.mm_log_writer.proofs.{decimal_one, decimal_more}

abbrev Told : {A : Type 0} → (A → Text → Text) → (A → Type 0) → Text → Option (A × Text) → Type 0
Told onto Is text None = Unit {0}
Told onto Is text (Some p) = (onto p.0 p.1 ≡ text) × Is p.0

-- a value that was read is spelled in front of the text after it, and is one of those that are asked for
pub record Sounds {A : Type 0} (onto : A → Text → Text) (Is : A → Type 0) (text : Text) (r : Option (A × Text)) : Type 0 where
  pub told : Told onto Is text r

said : {A : Type 0} {onto : A → Text → Text} {Is : A → Type 0} (a : A) (rest : Text) → Is a → Sounds onto Is (onto a rest) (Some (a, rest))
said a rest is = record { told = (refl, is) }

-- a word that was taken off stood in front
abbrev Strips : Text → Text → Option Text → Type 0
Strips word text None = Unit {0}
Strips word text (Some rest) = word ++ rest ≡ text

if_same : (b : Bool) (w c : ℕ) (ws cs : Text) (behind : Option Text) → (b ≡ true → c ≡ w) → Strips ws cs behind → Strips (w ∷ ws) (c ∷ cs) (cond b behind None)
if_same false w c ws cs behind same below = tt
if_same true w c ws cs None same below = tt
if_same true w c ws cs (Some rest) same below = ap (λ k. k ∷ (ws ++ rest)) (sym (same refl)) ∙ ap (λ t. c ∷ t) below

strips : (word text : Text) → Strips word text (strip word text)
strips [] text = refl
strips (w ∷ ws) [] = tt
strips (w ∷ ws) (c ∷ cs) = if_same (c == w) w c ws cs (strip ws cs) (eqb-true c w) (strips ws cs)

-- ---- readings one after the other, behind what was read before

module _ {X : Type 0} {onto_x : X → Text → Text} {IsX : X → Type 0} (around : Text → Text) where
  then_by : {A : Type 0} {onto : A → Text → Text} {Is : A → Type 0} {inner : Text} (r : Option (A × Text)) (go : A → Text → Option (X × Text))
      → Sounds onto Is inner r → ((a : A) (rest : Text) → Is a → Sounds onto_x IsX (around (onto a rest)) (go a rest)) → Sounds onto_x IsX (around inner) (reading r go)
  then_by None go sound more = record { told = tt }
  then_by (Some p) go sound more = subst (λ (t : Text). Sounds onto_x IsX (around t) (go p.0 p.1)) sound.told.0 (more p.0 p.1 sound.told.1)

  past_by : (word text : Text) (r : Option Text) (go : Text → Option (X × Text))
      → Strips word text r → ((rest : Text) → Sounds onto_x IsX (around (word ++ rest)) (go rest)) → Sounds onto_x IsX (around text) (past r go)
  past_by word text None go e more = record { told = tt }
  past_by word text (Some rest) go e more = subst (λ (t : Text). Sounds onto_x IsX (around t) (go rest)) e (more rest)

  either_by : (word text : Text) (r : Option Text) (go : Text → Option (X × Text)) (other : Option (X × Text))
      → Strips word text r → ((rest : Text) → Sounds onto_x IsX (around (word ++ rest)) (go rest)) → Sounds onto_x IsX (around text) other → Sounds onto_x IsX (around text) (past_or r go other)
  either_by word text None go other e more last = last
  either_by word text (Some rest) go other e more last = subst (λ (t : Text). Sounds onto_x IsX (around t) (go rest)) e (more rest)

  then_reads : {A : Type 0} {onto : A → Text → Text} {Is : A → Type 0} {inner : Text} {r : Option (A × Text)} {go : A → Text → Option (X × Text)}
      → Sounds onto Is inner r → ((a : A) (rest : Text) → Is a → Sounds onto_x IsX (around (onto a rest)) (go a rest)) → Sounds onto_x IsX (around inner) (reading r go)
  then_reads {r = r} {go = go} sound more = then_by r go sound more

  past_reads : (word text : Text) {go : Text → Option (X × Text)} → ((rest : Text) → Sounds onto_x IsX (around (word ++ rest)) (go rest)) → Sounds onto_x IsX (around text) (past (strip word text) go)
  past_reads word text {go = go} more = past_by word text (strip word text) go (strips word text) more

  either_reads : (word text : Text) {go : Text → Option (X × Text)} {other : Option (X × Text)} → ((rest : Text) → Sounds onto_x IsX (around (word ++ rest)) (go rest)) → Sounds onto_x IsX (around text) other
      → Sounds onto_x IsX (around text) (past_or (strip word text) go other)
  either_reads word text {go = go} {other = other} more last = either_by word text (strip word text) go other (strips word text) more last

abbrev whole : Text → Text
whole t = t

-- ---- numbers

abbrev IsWord : ℕ → Type 0
IsWord n = n < 2 ^ 32

abbrev decimal_front : ℕ → Text → Text
decimal_front n behind = decimal n ++ behind

glyph_of : (c : ℕ) → 0x30 ≤ c → c ≤ 0x39 → glyph (c - 0x30) ≡ c
glyph_of c low high = glyph_is (c - 0x30) (omega arith) ∙ omega arith

digit_or : (c : ℕ) → (is_digit c ≡ false) ⊎ ((0x30 ≤ c) × (c ≤ 0x39))
digit_or c = elim (cases_lt c 0x30) [
  | inl low ↦ inl (and_left (nat_le 0x30 c) (nat_le c 0x39) (lt-leb 0x30 c low))
  | inr low ↦ elim (cases_lt 0x39 c) [ inl high ↦ inl (and_right (nat_le 0x30 c) (nat_le c 0x39) (lt-leb c 0x39 high)) | inr high ↦ inr (low, high) ]
]

number_ends : (sum c : ℕ) (cs : Text) → is_digit c ≡ false → number_from sum (c ∷ cs) ≡ (sum, c ∷ cs)
number_ends sum c cs e = ap (λ b. next b (number_from (10 * sum + (c - 0x30)) cs) (sum, c ∷ cs)) e

-- a digit more
digit_more : (sum c : ℕ) (cs : Text) → 0 < sum → 0x30 ≤ c → c ≤ 0x39 → 10 * sum + (c - 0x30) < 2 ^ 32 → decimal (10 * sum + (c - 0x30)) ++ cs ≡ decimal sum ++ c ∷ cs
digit_more sum c cs some low high small =
    let n = 10 * sum + (c - 0x30) in
    ap (λ t. t ++ cs) (
    decimal_more n (omega arith) small
    ∙ ap (λ (k : ℕ). decimal k ++ glyph (n % 10) ∷ []) (omega arith)
    ∙ ap (λ (d : ℕ). decimal sum ++ d ∷ []) (ap glyph (omega arith) ∙ glyph_of c low high)
    )
    ∙ append_assoc (decimal sum) (c ∷ []) cs

abbrev Digits : ℕ → Text → (ℕ × Text) → Type 0
Digits sum text p = p.0 < 2 ^ 32 → decimal p.0 ++ p.1 ≡ decimal sum ++ text

digits_sound : (sum : ℕ) (text : Text) → 0 < sum → Digits sum text (number_from sum text)
digits_sound sum [] some = λ h. refl
digits_sound sum (c ∷ cs) some = elim (digit_or c) [
  | inl none ↦ subst (Digits sum (c ∷ cs)) (sym (number_ends sum c cs none)) (λ h. refl)
  | inr d ↦
      (let more = 10 * sum + (c - 0x30) in
      subst (Digits sum (c ∷ cs)) (sym (number_digit sum c cs d.0 d.1))
      (λ h. digits_sound more cs (omega arith) h ∙ digit_more sum c cs some d.0 d.1 (omega (arith, h, number_grows more cs))))
]

below_sound : (text : Text) (p : ℕ × Text) (b : Bool) → nat_lt p.0 (2 ^ 32) ≡ b → (p.0 < 2 ^ 32 → decimal p.0 ++ p.1 ≡ text) → Sounds decimal_front IsWord text (short b p)
below_sound text p false e sound = record { told = tt }
below_sound text p true e sound = let h : p.0 < 2 ^ 32 = ltb-true p.0 (2 ^ 32) e in record { told = (sound h, h) }

led_sound : (c : ℕ) (cs : Text) → 0x30 ≤ c → c ≤ 0x39 → Sounds decimal_front IsWord (c ∷ cs) (led_by c cs)
led_sound c cs low high = elim (cases_lt 0x30 c) [
  | inl more ↦
      (let p = number_from (c - 0x30) cs in
      let one : decimal (c - 0x30) ++ cs ≡ c ∷ cs = ap (λ t. t ++ cs) (decimal_one (c - 0x30) (omega arith)) ∙ ap (λ d. d ∷ cs) (glyph_of c low high) in
      subst (Sounds decimal_front IsWord (c ∷ cs)) (sym (ap (λ b. led_more b (below (2 ^ 32) p) 0 cs) (lt-ltb 0x30 c more)))
      (below_sound (c ∷ cs) p (nat_lt p.0 (2 ^ 32)) refl (λ h. digits_sound (c - 0x30) cs (omega arith) h ∙ one)))
  | inr zero_is ↦
      (let e : 0x30 ≡ c = omega arith in
      subst (Sounds decimal_front IsWord (c ∷ cs)) (sym (ap (λ b. led_more b (below (2 ^ 32) (number_from (c - 0x30) cs)) 0 cs) (le-ltb 0x30 c zero_is)))
      (record { told = (ap (λ t. t ++ cs) (decimal_one 0 (omega arith)) ∙ ap (λ d. d ∷ cs) e, omega arith) }))
]

number_sound : (text : Text) → Sounds decimal_front IsWord text (read_number text)
number_sound [] = record { told = tt }
number_sound (c ∷ cs) = elim (digit_or c) [
  | inl none ↦ subst (Sounds decimal_front IsWord (c ∷ cs)) (sym (ap (λ b. led b (led_by c cs)) none)) (record { told = tt })
  | inr d ↦ subst (Sounds decimal_front IsWord (c ∷ cs)) (sym (ap (λ b. led b (led_by c cs)) (is_digit-true c d.0 d.1))) (led_sound c cs d.0 d.1)
]

behind_sound : (word text : Text) → Sounds (numbered word) IsWord text (number_behind word text)
behind_sound word text = past_reads whole word text (λ rest. behind_by word rest (read_number rest) (number_sound rest))
  where
    behind_by : (word rest : Text) (r : Option (ℕ × Text)) → Sounds decimal_front IsWord rest r → Sounds (numbered word) IsWord (word ++ rest) r
    behind_by word rest None sound = record { told = tt }
    behind_by word rest (Some p) sound = record { told = (ap (λ t. word ++ t) sound.told.0, sound.told.1) }

-- ---- parts of a move

abbrev pid_front : Pid → Text → Text
pid_front p behind = decimal p.0 ++ behind

abbrev IsPid : Pid → Type 0
IsPid p = p.0 < 2 ^ 8

small_by : (b : Bool) (n : ℕ) (rest : Text) → nat_lt n 256 ≡ b → Sounds pid_front IsPid (decimal n ++ rest) (small_or b n rest)
small_by false n rest low = record { told = tt }
small_by true n rest low = said _ _ (ltb-true n 256 low)

pid_sound : (text : Text) → Sounds pid_front IsPid text (read_pid text)
pid_sound text = then_reads whole (number_sound text) (λ n rest h. small_by (nat_lt n 256) n rest refl)

abbrev frame_front : Frame → Text → Text
frame_front f behind = decimal f.0 ++ behind

abbrev IsFrame : Frame → Type 0
IsFrame f = f.0 < 2 ^ 32

frame_sound : (text : Text) → Sounds frame_front IsFrame text (read_frame text)
frame_sound text = then_reads whole (number_sound text) (λ n rest h. said _ _ h)

place_sound : (text : Text) → Sounds place_onto IsPlace text (read_place text)
place_sound text =
    then_reads whole (pid_sound text) (λ p t h. then_reads (λ x. decimal p.0 ++ x) (behind_sound (codes ".") t) (λ v last i. said _ _ (h, i)))

private_sound : (text : Text) → Sounds key_onto IsKey (codes "p" ++ text) (read_private text)
private_sound text =
    then_reads (λ x. codes "p" ++ x) (pid_sound text)
    (λ p t h. then_reads (numbered (codes "p") p.0) (behind_sound (codes ".") t) (λ v last i. said _ _ (h, i)))

shared_sound : (text : Text) → Sounds key_onto IsKey (codes "s" ++ text) (read_shared text)
shared_sound text =
    then_reads (λ x. codes "s" ++ x) (number_sound text)
    (λ a t h. then_reads (numbered (codes "s") a) (behind_sound (codes ".") t) (λ i last k. said _ _ (h, k)))

key_sound : (text : Text) → Sounds key_onto IsKey text (read_key text)
key_sound text = either_reads whole (codes "p") text private_sound (past_reads whole (codes "s") text shared_sound)

-- ---- kinds of lines

machine_sound : (text : Text) → Sounds kind_onto IsKind (codes "machine " ++ text) (read_machine text)
machine_sound text =
    let word = numbered (codes "machine ") in
    let space = numbered (codes " ") in
    then_reads (λ x. codes "machine " ++ x) (number_sound text)
    (λ frames t h. then_reads (word frames) (behind_sound (codes " ") t)
    (λ slots u i. then_reads (λ x. word frames (space slots x)) (behind_sound (codes " ") u)
    (λ depth v j. then_reads (λ x. word frames (space slots (space depth x))) (behind_sound (codes " ") v) (λ blocks last k. said _ _ (h, i, j, k)))))

process_sound : (text : Text) → Sounds kind_onto IsKind (codes "process " ++ text) (read_process text)
process_sound text =
    let word = numbered (codes "process ") in
    then_reads (λ x. codes "process " ++ x) (pid_sound text)
    (λ p t h. then_reads (word p.0) (behind_sound (codes " ") t)
    (λ min u i. then_reads (λ x. word p.0 (numbered (codes " ") min x)) (behind_sound (codes " ") u) (λ max last j. said _ _ (h, i, j))))

plain_kind_sound : (text : Text) → Sounds kind_onto IsKind text (read_plain_kind text)
plain_kind_sound text =
    either_reads whole (codes "call") text (λ t. said _ _ tt)
    (either_reads whole (codes "writer") text (λ t. said _ _ tt)
    (either_reads whole (codes "zeroer") text (λ t. said _ _ tt)
    (either_reads whole (codes "io") text (λ t. said _ _ tt)
    (either_reads whole (codes "machine ") text machine_sound
    (past_reads whole (codes "grow ") text (λ t. then_reads (λ x. codes "grow " ++ x) (number_sound t) (λ n last h. said _ _ h)))))))

kind_sound : (text : Text) → Sounds kind_onto IsKind text (read_kind text)
kind_sound text =
    either_reads whole (codes "access ") text (λ t. then_reads (λ x. codes "access " ++ x) (pid_sound t) (λ p last h. said _ _ h))
    (either_reads whole (codes "thread ") text (λ t. then_reads (λ x. codes "thread " ++ x) (pid_sound t) (λ p last h. said _ _ h))
    (either_reads whole (codes "unbind ") text (λ t. then_reads (λ x. codes "unbind " ++ x) (pid_sound t) (λ p last h. said _ _ h))
    (either_reads whole (codes "trim ") text (λ t. then_reads (λ x. codes "trim " ++ x) (pid_sound t) (λ p last h. said _ _ h))
    (either_reads whole (codes "process ") text process_sound (plain_kind_sound text)))))

-- ---- moves

at_sound : (text : Text) → Sounds move_onto IsMove (codes "at " ++ text) (read_at text)
at_sound text =
    then_reads (λ x. codes "at " ++ x) (number_sound text)
    (λ n t h. past_reads (numbered (codes "at ") n) (codes " ") t
    (λ u. then_reads (λ x. numbered (codes "at ") n (codes " " ++ x)) (kind_sound u) (λ k last i. said _ _ (h, i))))

home_sound : (k : Key) (text : Text) → IsKey k → Sounds move_onto IsMove (codes "add " ++ key_onto k text) (home_behind k text)
home_sound k text is =
    let around = (λ (x : Text). codes "add " ++ key_onto k x) in
    either_reads around (codes " zero") text (λ t. said _ _ (is, tt))
    (then_reads around (behind_sound (codes " block ") text) (λ b last h. said _ _ (is, h)))

-- a key or a place after a space
spaced : {A : Type 0} {onto : A → Text → Text} {Is : A → Type 0} {read : Text → Option (A × Text)} → ((t : Text) → Sounds onto Is t (read t)) → (text : Text) → Sounds (λ a b. codes " " ++ onto a b) Is text (past (strip (codes " ") text) read)
spaced {A = A} {onto = onto} {Is = Is} {read = read} sound text = past_reads whole (codes " ") text (λ t. spaced_by t (read t) (sound t))
  where
    spaced_by : (t : Text) (r : Option (A × Text)) → Sounds onto Is t r → Sounds (λ a b. codes " " ++ onto a b) Is (codes " " ++ t) r
    spaced_by t None s = record { told = tt }
    spaced_by t (Some p) s = record { told = (ap (λ x. codes " " ++ x) s.told.0, s.told.1) }

stored_sound : (f : Frame) (text : Text) → IsFrame f → Sounds move_onto IsMove (numbered (codes "write ") f.0 text) (stored_behind f text)
stored_sound f text is =
    let around = numbered (codes "write ") f.0 in
    either_reads around (codes " slot ") text (λ t. then_reads (λ x. around (codes " slot " ++ x)) (number_sound t) (λ s last h. said _ _ (is, h)))
    (then_reads around (behind_sound (codes " block ") text) (λ b last h. said _ _ (is, h)))

end_sound : (text : Text) → Sounds move_onto IsMove text (read_end text)
end_sound text =
    either_reads whole (codes "wrote ") text (λ t. then_reads (λ x. codes "wrote " ++ x) (frame_sound t) (λ f last h. said _ _ h))
    (either_reads whole (codes "got ") text (λ t. then_reads (λ x. codes "got " ++ x) (frame_sound t) (λ f last h. said _ _ h))
    (either_reads whole (codes "soil ") text (λ t. then_reads (λ x. codes "soil " ++ x) (frame_sound t) (λ f last h. said _ _ h))
    (either_reads whole (codes "lost ") text (λ t. then_reads (λ x. codes "lost " ++ x) (frame_sound t) (λ f last h. said _ _ h))
    (past_reads whole (codes "bad ") text (λ t. then_reads (λ x. codes "bad " ++ x) (frame_sound t) (λ f last h. said _ _ h))))))

taking_sound : (text : Text) → Sounds move_onto IsMove text (read_taking text)
taking_sound text =
    either_reads whole (codes "give ") text (λ t. then_reads (λ x. codes "give " ++ x) (frame_sound t) (λ f u h. then_reads (numbered (codes "give ") f.0) (spaced key_sound u) (λ k last i. said _ _ (h, i))))
    (either_reads whole (codes "clear ") text (λ t. then_reads (λ x. codes "clear " ++ x) (frame_sound t) (λ f last h. said _ _ h))
    (either_reads whole (codes "read ") text (λ t. then_reads (λ x. codes "read " ++ x) (frame_sound t) (λ f u h. then_reads (numbered (codes "read ") f.0) (spaced key_sound u) (λ k last i. said _ _ (h, i))))
    (either_reads whole (codes "steal ") text (λ t. then_reads (λ x. codes "steal " ++ x) (frame_sound t) (λ f last h. said _ _ h))
    (either_reads whole (codes "write ") text (λ t. then_reads (λ x. codes "write " ++ x) (frame_sound t) (λ f u h. stored_sound f u h))
    (end_sound text)))))

text_sound : (text : Text) → Sounds move_onto IsMove text (read_text text)
text_sound text =
    either_reads whole (codes "at ") text at_sound
    (either_reads whole (codes "map ") text (λ t. then_reads (λ x. codes "map " ++ x) (frame_sound t) (λ f u h. then_reads (numbered (codes "map ") f.0) (spaced place_sound u) (λ p last i. said _ _ (h, i))))
    (either_reads whole (codes "unmap ") text (λ t. then_reads (λ x. codes "unmap " ++ x) (place_sound t) (λ p last h. said _ _ h))
    (either_reads whole (codes "add ") text (λ t. then_reads (λ x. codes "add " ++ x) (key_sound t) (λ k u h. home_sound k u h))
    (either_reads whole (codes "drop ") text (λ t. then_reads (λ x. codes "drop " ++ x) (key_sound t) (λ k last h. said _ _ h))
    (taking_sound text)))))

-- a text that is said to be empty
none_behind : (rest : Text) (b : Bool) → b ≡ (length rest == 0) → b ≡ true → rest ≡ []
none_behind [] b e yes_it_is = refl
none_behind (c ∷ cs) b e yes_it_is = let none : length (c ∷ cs) ≡ 0 = eqb-true (length (c ∷ cs)) 0 (sym e ∙ yes_it_is) in absurd (omega (arith, none))

-- a reading of a text is sound, and what is spelled right is read
pub record Reads {A : Type 0} (onto : A → Text → Text) (Is : A → Type 0) (text : Text) (r : Option (A × Text)) : Type 0 where
  pub sound : Sounds onto Is text r
  pub found : (a : A) → Is a → onto a [] ≡ text → r ≡ Some (a, [])

pub key_reads : (text : Text) → Reads key_onto IsKey text (read_key text)
key_reads text = record { sound = key_sound text; found = λ k h e. ap read_key (sym e) ∙ read_key-onto k [] h refl }

pub move_reads : (text : Text) → Reads move_onto IsMove text (read_text text)
move_reads text = record { sound = text_sound text; found = λ m h e. ap read_text (sym e) ∙ read_text-onto m [] h refl }

module _ {A : Type 0} {onto : A → Text → Text} {Is : A → Type 0} {text : Text} {r : Option (A × Text)} (reads : Reads onto Is text r) where
  -- nothing was read, all of the text, or a front of it
  pub none_again : None ≡ r → (a : A) → Is a → onto a [] ≡ text → ⊥
  none_again e a is spelled = let bad : ◌≡◌ {A = Option (A × Text)} None (Some (a, [])) = e ∙ reads.found a is spelled in cc

  pub whole_again : (v : A) (rest : Text) → Some (v, rest) ≡ r → (a : A) → Is a → onto a [] ≡ text → Some v ≡ Some a
  whole_again v rest e a is spelled = ap value_of (e ∙ reads.found a is spelled)

  pub front_again : (v : A) (rest : Text) (b : Bool) → Some (v, rest) ≡ r → b ≡ (length rest == 0) → b ≡ false → (a : A) → Is a → onto a [] ≡ text → ◌≡◌ {A = Option A} None (Some a)
  front_again v rest b e empty more a is spelled =
      let none : rest ≡ [] = ap rest_of (e ∙ reads.found a is spelled) in
      let bad : true ≡ false = sym (empty ∙ ap (λ (t : Text). length t == 0) none) ∙ more in cc

  -- what is read stands there
  pub whole_spelled : (v : A) (rest : Text) (b : Bool) → Some (v, rest) ≡ r → b ≡ (length rest == 0) → b ≡ true → onto v [] ≡ text
  whole_spelled v rest b e empty all_of =
      let here : Sounds onto Is text (Some (v, rest)) = subst (Sounds onto Is text) (sym e) reads.sound in
      ap (onto v) (sym (none_behind rest b empty all_of)) ∙ here.told.0
