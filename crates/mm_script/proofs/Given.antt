-- The value of the next word, or its fault.
use Rattle.std.proofs.Common.{◌≡◌, ℕ, ◌-◌, [], Option, Some, None, Result, Ok, Err, refl, sym, ap, ◌∙◌, subst, arith}
use Rattle.std.specs.Prelude.{codes}
use Rattle.std.specs.Option.{ok_or}
use Rattle.mm_types.specs.{Text}
use Rattle.mm_script.specs.declared.keywords.Keyword.TheVariants as keyword
use Rattle.mm_script.specs.{keyword_of}
use Rattle.mm_script.proofs.Found.{found_word}
use Rattle.mm_script.specs.{LineFault, fault_at, Rest, rest_behind, word_read, first_read, word_as, Gives, word_from, TakesWord}

-- what is left after the word
taken_rest : (old new : Rest) (text : Text) → TakesWord old text new → rest_behind old (word_from new.last text) new.left ≡ new
taken_rest old new text h = ap (λ (n : ℕ). record { left = new.left; end = old.end; number = n; last = new.last }) (sym h.number) ∙ ap (λ (e : ℕ). record { left = new.left; end = e; number = new.number; last = new.last }) (sym h.end)

read_taken : {A : Type 0} (reads : Text → Option A) (old new : Rest) (text : Text) → TakesWord old text new → word_as reads old ≡ word_read (reads text) old (word_from new.last text) new.left
unfolding word_as
read_taken reads old new text h = ap (first_read reads old) h.left

given_at : {A : Type 0} (old new : Rest) (text : Text) (f : LineFault) → TakesWord old text new → f ≡ fault_at new.last (new.number - 1) → (o : Option A) → Gives (ok_or o f) new (word_read o old (word_from new.last text) new.left)
given_at old new text f t e None =
    let n : old.number ≡ new.number - 1 = omega (arith, t.number) in
    ap (λ (k : ℕ). Err (fault_at new.last k)) n ∙ ap (λ (g : LineFault). Err g) (sym e)
given_at old new text f t e (Some x) = ap (λ (r : Rest). Ok (x, r)) (taken_rest old new text t)

-- a word's value, or the fault at it
pub given_or : {A : Type 0} (reads : Text → Option A) (old new : Rest) (text : Text) (o : Option A) (f : LineFault) (r : Result A LineFault) → TakesWord old text new → o ≡ reads text → f ≡ fault_at new.last (new.number - 1) → r ≡ ok_or o f → Gives r new (word_as reads old)
given_or reads old new text o f r t is e h =
    subst (λ (q : Result _ LineFault). Gives q new (word_as reads old)) (sym (h ∙ ap (λ o. ok_or o f) is))
    (subst (λ (w : _). Gives (ok_or (reads text) f) new w) (sym (read_taken reads old new text t)) (given_at old new text f t e (reads text)))

-- no word is left
pub missing : {A : Type 0} (reads : Text → Option A) (old : Rest) (f : LineFault) → old.left ≡ [] → f ≡ fault_at old.end old.number → word_as reads old ≡ Err f
unfolding word_as
missing reads old f l e = ap (first_read reads old) l ∙ ap (λ (g : LineFault). Err g) (sym e)

-- the word has a value
pub given_value : {A : Type 0} (reads : Text → Option A) (old new : Rest) (text : Text) (x : A) → TakesWord old text new → Some x ≡ reads text → word_as reads old ≡ Ok (x, new)
given_value reads old new text x t e = given_or reads old new text (Some x) (fault_at new.last (new.number - 1)) (Ok x) t e refl refl

-- the commonest two keywords
pub keyword_read : (old new : Rest) → TakesWord old (codes "read") new → word_as keyword_of old ≡ Ok (keyword.Read, new)
keyword_read old new t = given_value keyword_of old new (codes "read") keyword.Read t (found_word (codes "read") keyword.Read refl)

pub keyword_write : (old new : Rest) → TakesWord old (codes "write") new → word_as keyword_of old ≡ Ok (keyword.Write, new)
keyword_write old new t = given_value keyword_of old new (codes "write") keyword.Write t (found_word (codes "write") keyword.Write refl)

pub ruleset given = (given_or, missing)

pub ruleset keywords = (given_or, missing, keyword_read, keyword_write)
