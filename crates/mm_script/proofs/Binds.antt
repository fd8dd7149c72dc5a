-- Steps that may fail, one after another.
use Rattle.std.proofs.Common.{◌≡◌, ◌⊎◌, List, [], ◌∷◌, Option, Some, None, Result, Ok, Err, refl, sym, ap, ◌∙◌, inl, inr}
use Rattle.mm_types.specs.{Text}
use Rattle.mm_text.specs.Word.{Word}
use Rattle.mm_script.specs.{LineFault, fault_at, ◌>>=◌, Rest, rest_behind, word_read, first_read, word_as, ends_at, ended_words}

pub bind_ok : {A B : Type 0} (r : Result A LineFault) (f : A → Result B LineFault) (y : B) → (r >>= f) ≡ Ok y → (x : A) × (r ≡ Ok x) × (f x ≡ Ok y)
bind_ok (Ok x) f y h = (x, refl, h)
bind_ok (Err e) f y h = cc

pub bind_err : {A B : Type 0} (r : Result A LineFault) (f : A → Result B LineFault) (e : LineFault) → (r >>= f) ≡ Err e → (r ≡ Err e) ⊎ ((x : A) × (r ≡ Ok x) × (f x ≡ Err e))
bind_err (Ok x) f e h = inr (x, refl, h)
bind_err (Err d) f e h = inl (cc)

-- a word was read as x
pub record IsRead {A : Type 0} (reads : Text → Option A) (rest : Rest) (x : A) (later : Rest) : Type 0 where
  pub word : Word
  pub words : List Word
  pub left : rest.left ≡ word ∷ words
  pub value : reads word.text ≡ Some x
  pub left_then : later ≡ rest_behind rest word words

-- no word is left, or the next is another
pub data IsBad {A : Type 0} (reads : Text → Option A) (rest : Rest) (f : LineFault) : Type 0 where
  Missing : rest.left ≡ [] → f ≡ fault_at rest.end rest.number → IsBad reads rest f
  Bad : (w : Word) (ws : List Word) → rest.left ≡ w ∷ ws → reads w.text ≡ None → f ≡ fault_at w.from rest.number → IsBad reads rest f

read_word : {A : Type 0} (reads : Text → Option A) (rest later : Rest) (x : A) (w : Word) (ws : List Word) → rest.left ≡ w ∷ ws → (o : Option A) → reads w.text ≡ o → word_read o rest w ws ≡ Ok (x, later) → IsRead reads rest x later
read_word reads rest later x w ws l None e h = cc
read_word {A} reads rest later x w ws l (Some y) e h =
    let same : ◌≡◌ {A = A × Rest} (y, rest_behind rest w ws) (x, later) = cc in
    record { word = w; words = ws; left = l; value = e ∙ ap (λ (p : A × Rest). Some p.0) same; left_then = sym (ap (λ (p : A × Rest). p.1) same) }

read_first : {A : Type 0} (reads : Text → Option A) (rest later : Rest) (x : A) (ws : List Word) → rest.left ≡ ws → first_read reads rest ws ≡ Ok (x, later) → IsRead reads rest x later
read_first reads rest later x [] l h = cc
read_first reads rest later x (w ∷ ws) l h = read_word reads rest later x w ws l (reads w.text) refl h

pub word_ok : {A : Type 0} (reads : Text → Option A) (rest later : Rest) (x : A) → word_as reads rest ≡ Ok (x, later) → IsRead reads rest x later
unfolding word_as
word_ok reads rest later x h = read_first reads rest later x rest.left refl h

bad_word : {A : Type 0} (reads : Text → Option A) (rest : Rest) (f : LineFault) (w : Word) (ws : List Word) → rest.left ≡ w ∷ ws → (o : Option A) → reads w.text ≡ o → word_read o rest w ws ≡ Err f → IsBad reads rest f
bad_word reads rest f w ws l None e h = Bad w ws l e (sym (cc))
bad_word reads rest f w ws l (Some y) e h = cc

bad_first : {A : Type 0} (reads : Text → Option A) (rest : Rest) (f : LineFault) (ws : List Word) → rest.left ≡ ws → first_read reads rest ws ≡ Err f → IsBad reads rest f
bad_first reads rest f [] l h = Missing l (sym (cc))
bad_first reads rest f (w ∷ ws) l h = bad_word reads rest f w ws l (reads w.text) refl h

pub word_err : {A : Type 0} (reads : Text → Option A) (rest : Rest) (f : LineFault) → word_as reads rest ≡ Err f → IsBad reads rest f
unfolding word_as
word_err reads rest f h = bad_first reads rest f rest.left refl h

pub word_again : {A : Type 0} (reads : Text → Option A) (rest : Rest) (x : A) (w : Word) (ws : List Word) → rest.left ≡ w ∷ ws → reads w.text ≡ Some x → word_as reads rest ≡ Ok (x, rest_behind rest w ws)
unfolding word_as
word_again reads rest x w ws l e = ap (first_read reads rest) l ∙ ap (λ o. word_read o rest w ws) e

-- where a line ends, or the word that is too many
pub ended_ok : (rest : Rest) (u : Unit {0}) → ended_words rest ≡ Ok u → rest.left ≡ []
unfolding ended_words
ended_ok rest u h = at rest.left refl h where
  at : (ws : List Word) → rest.left ≡ ws → ends_at rest ws ≡ Ok u → rest.left ≡ []
  at [] l h = l
  at (w ∷ ws) l h = cc

pub data IsMore (rest : Rest) (f : LineFault) : Type 0 where
  More : (w : Word) (ws : List Word) → rest.left ≡ w ∷ ws → f ≡ fault_at w.from rest.number → IsMore rest f

more_at : (rest : Rest) (f : LineFault) (ws : List Word) → rest.left ≡ ws → ends_at rest ws ≡ Err f → IsMore rest f
more_at rest f [] l h = cc
more_at rest f (w ∷ ws) l h = More w ws l (sym (cc))

pub ended_err : (rest : Rest) (f : LineFault) → ended_words rest ≡ Err f → IsMore rest f
unfolding ended_words
ended_err rest f h = more_at rest f rest.left refl h

pub ended_again : (rest : Rest) → rest.left ≡ [] → ended_words rest ≡ Ok tt
unfolding ended_words
ended_again rest l = ap (ends_at rest) l
