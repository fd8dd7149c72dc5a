-- A number that is a word, and what is made of it.
use Rattle.std.proofs.Common.{◌≡◌, ℕ, ◌+◌, ◌-◌, ◌≤◌, ◌<◌, Bool, true, false, cond, List, [], ◌∷◌, Option, Some, None, Result, Ok, Err, refl, sym, ap, ◌∙◌, arith}
use Rattle.std.specs.Prelude.{nat_le, ◌&&◌, option_map, option_and_then}
use Rattle.std.proofs.lemmas.Bool.{le-leb, lt-leb}
use Rattle.mm_types.specs.{Text}
use Rattle.mm_text.specs.{number_of}
use Rattle.mm_text.specs.Word.{Word}
use Rattle.mm_script.specs.{LineFault, fault_at, read, Number, AnyNumber, PidNumber, TidNumber, within, number_in, pid_from, tid_from, Rest}
use Rattle.mm_script.specs.{rest_behind, word_read, first_read, word_as, word_from}
use Rattle.mm_script.proofs.Given.{given_value}

abbrev or_fault : {B : Type 0} → Option B → Rest → Result (B × Rest) LineFault
or_fault None rest = Err (fault_at rest.last (rest.number - 1))
or_fault (Some y) rest = Ok (y, rest)

-- what is made of a value that was read, or the fault at its word
abbrev made : {A B : Type 0} → (A → Option B) → Result (A × Rest) LineFault → Result (B × Rest) LineFault
made f (Err e) = Err e
made f (Ok x) = or_fault (f x.0) x.1

abbrev pub mapped : {A B : Type 0} → (A → B) → Result (A × Rest) LineFault → Result (B × Rest) LineFault
mapped g (Err e) = Err e
mapped g (Ok x) = Ok (g x.0, x.1)

module _ {A B : Type 0} (reads : Text → Option A) (rest : Rest) where
  made_here : (f : A → Option B) (w : Word) (ws : List Word) (x : A) (o : Option B) → word_read o rest w ws ≡ or_fault o (rest_behind rest w ws)
  made_here f w ws x None = ap (λ (n : ℕ). Err (fault_at w.from n)) (omega arith)
  made_here f w ws x (Some y) = refl

  made_word : (f : A → Option B) (w : Word) (ws : List Word) (o : Option A) → word_read (option_and_then f o) rest w ws ≡ made f (word_read o rest w ws)
  made_word f w ws None = refl
  made_word f w ws (Some x) = made_here f w ws x (f x)

  made_first : (f : A → Option B) (ws : List Word) → first_read (λ t. option_and_then f (reads t)) rest ws ≡ made f (first_read reads rest ws)
  made_first f [] = refl
  made_first f (w ∷ ws) = made_word f w ws (reads w.text)

  mapped_word : (g : A → B) (w : Word) (ws : List Word) (o : Option A) → word_read (option_map g o) rest w ws ≡ mapped g (word_read o rest w ws)
  mapped_word g w ws None = refl
  mapped_word g w ws (Some x) = refl

  mapped_first : (g : A → B) (ws : List Word) → first_read (λ t. option_map g (reads t)) rest ws ≡ mapped g (first_read reads rest ws)
  mapped_first g [] = refl
  mapped_first g (w ∷ ws) = mapped_word g w ws (reads w.text)

number_made : (least most : ℕ) (rest : Rest) → word_as (read (Number least most)) rest ≡ made (within least most) (word_as (read AnyNumber) rest)
unfolding word_as read number_in
number_made least most rest = made_first number_of rest (within least most) rest.left

-- a word that is read as a number, and what is made of it
pub as_number : {B : Type 0} (reads : Text → Option B) (least most : ℕ) (g : ℕ → B) → ((w : Text) → reads w ≡ option_map g (number_in least most w)) → (rest : Rest) → word_as reads rest ≡ mapped g (word_as (read (Number least most)) rest)
unfolding word_as read
as_number reads least most g h rest = same_first rest.left ∙ mapped_first (number_in least most) rest g rest.left
  where
    same_first : (ws : List Word) → first_read reads rest ws ≡ first_read (λ w. option_map g (number_in least most w)) rest ws
    same_first [] = refl
    same_first (w ∷ ws) = ap (λ o. word_read o rest w ws) (h w.text)

pid_made : (rest : Rest) → word_as (read PidNumber) rest ≡ mapped pid_from (word_as (read (Number 0 255)) rest)
unfolding read
pid_made rest = as_number (read PidNumber) 0 255 pid_from (λ w. refl) rest

tid_made : (rest : Rest) → word_as (read TidNumber) rest ≡ mapped tid_from (word_as (read (Number 0 255)) rest)
unfolding read
tid_made rest = as_number (read TidNumber) 0 255 tid_from (λ w. refl) rest

module _ (least most : ℕ) (rest new : Rest) (v : ℕ) (f : LineFault) where
  pub number_fault : word_as (read AnyNumber) rest ≡ Err f → word_as (read (Number least most)) rest ≡ Err f
  number_fault h = number_made least most rest ∙ ap (made (within least most)) h

  within_by : (a b : Bool) → nat_le least v ≡ a → nat_le v most ≡ b → within least most v ≡ cond (a && b) (Some v) None
  within_by a b p q = ap (λ t. cond (t && nat_le v most) (Some v) None) p ∙ ap (λ t. cond (a && t) (Some v) None) q

  pub number_value : word_as (read AnyNumber) rest ≡ Ok (v, new) → least ≤ v → v ≤ most → word_as (read (Number least most)) rest ≡ Ok (v, new)
  number_value h low high =
      number_made least most rest ∙ ap (made (within least most)) h
      ∙ ap (λ o. or_fault o new) (within_by true true (le-leb least v low) (le-leb v most high))

  pub number_low : word_as (read AnyNumber) rest ≡ Ok (v, new) → v < least → f ≡ fault_at new.last (new.number - 1) → word_as (read (Number least most)) rest ≡ Err f
  number_low h low e =
      number_made least most rest ∙ ap (made (within least most)) h
      ∙ ap (λ o. or_fault o new) (within_by false (nat_le v most) (lt-leb least v low) refl)
      ∙ ap (λ (g : LineFault). Err g) (sym e)

  pub number_high : word_as (read AnyNumber) rest ≡ Ok (v, new) → most < v → f ≡ fault_at new.last (new.number - 1) → word_as (read (Number least most)) rest ≡ Err f
  number_high h high e =
      number_made least most rest ∙ ap (made (within least most)) h
      ∙ ap (λ o. or_fault o new) (within_by (nat_le least v) false refl (lt-leb v most high) ∙ none_of (nat_le least v))
      ∙ ap (λ (g : LineFault). Err g) (sym e)
    where
      none_of : (a : Bool) → cond (a && false) (Some v) None ≡ None
      none_of true = refl
      none_of false = refl

module _ (rest : Rest) where
  pub pid_fault : (f : LineFault) → word_as (read (Number 0 255)) rest ≡ Err f → word_as (read PidNumber) rest ≡ Err f
  pid_fault f h = pid_made rest ∙ ap (mapped pid_from) h

  pub pid_value : (new : Rest) (v : ℕ) → word_as (read (Number 0 255)) rest ≡ Ok (v, new) → word_as (read PidNumber) rest ≡ Ok (pid_from v, new)
  pid_value new v h = pid_made rest ∙ ap (mapped pid_from) h

  pub tid_fault : (f : LineFault) → word_as (read (Number 0 255)) rest ≡ Err f → word_as (read TidNumber) rest ≡ Err f
  tid_fault f h = tid_made rest ∙ ap (mapped tid_from) h

  pub tid_value : (new : Rest) (v : ℕ) → word_as (read (Number 0 255)) rest ≡ Ok (v, new) → word_as (read TidNumber) rest ≡ Ok (tid_from v, new)
  tid_value new v h = tid_made rest ∙ ap (mapped tid_from) h

-- the next word is a number that was read at its place
pub number_taken : (old new : Rest) (text : Text) (v : ℕ) → old.left ≡ word_from new.last text ∷ new.left → new.end ≡ old.end → new.number ≡ old.number + 1 → number_of text ≡ Some v → word_as (read AnyNumber) old ≡ Ok (v, new)
unfolding read
number_taken old new text v left end number e =
    given_value (read AnyNumber) old new text v (record { left = left; end = end; number = number }) (sym e)

pub ruleset narrowed = (number_fault, number_value, number_low, number_high, pid_fault, pid_value, tid_fault, tid_value)
