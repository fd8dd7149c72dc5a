-- The words after a keyword are read as the fields of one event, or the first fault is told.
use Rattle.std.proofs.Common.{◌≡◌, ◌+◌, List, [], ◌∷◌, Option, Some, None, Ok, Err, Bool, true, false, cond, refl, sym, ap, ◌∙◌, subst, inl, inr}
use Rattle.std.specs.Prelude.{is_some, bytes_eq, codes}
use Rattle.std.proofs.lemmas.Bool.{cond-true}
use Rattle.mm_types.specs.{Text, Direction, Event}
use Rattle.mm_types.specs.declared.devices.Direction.TheVariants as direction
use Rattle.mm_text.specs.Word.{Word}
use Rattle.mm_script.specs.{LineFault, Keyword, Spells, EachSpells, are_joined, DirectionWord, read, End, Then, ReadOrWrite, fault_at, joint_fault}
use Rattle.mm_script.specs.{first_fault, ◌>>=◌, Rest, rest_behind, word_as, ended_words, MakesFromValues, by_direction, event_in}
use Rattle.mm_script.specs.Field.{Field}
use Rattle.mm_script.specs.Shape.{Shape}
use Rattle.mm_script.proofs.Binds.{bind_ok, bind_err, IsRead, Missing, Bad, word_ok, word_err, word_again, ended_ok, More, ended_err, ended_again}
use Rattle.mm_script.proofs.Joined.{texts}
use Rattle.mm_script.proofs.Shapes.{Values, made_of, field_for, fields_for, spells_read, read_spells}

-- these values were read, and they make the event
pub record IsMade (s : Shape) (make : MakesFromValues s Event) (ws : List Text) (e : Event) : Type 0 where
  pub values : Values s
  pub spelled : EachSpells ws (fields_for s values)
  pub made : made_of s make values ≡ e
  pub joined : are_joined e ≡ true

tested_ok : (e d : Event) (f : LineFault) (b : Bool) → are_joined e ≡ b → cond b (Ok e) (Err f) ≡ Ok d → (e ≡ d) × (are_joined d ≡ true)
tested_ok e d f true j h = let same : e ≡ d = cc in (same, subst (λ (x : Event). are_joined x ≡ true) same j)
tested_ok e d f false j h = cc

none_left : (rest : Rest) → rest.left ≡ [] → EachSpells (texts rest.left) []
none_left rest l = subst (λ (ws : List Word). EachSpells (texts ws) []) (sym l) tt

-- a word that was read and spells a field stands before those that spell the others
pub spelled_on : {A : Type 0} (reads : Text → Option A) (rest later : Rest) (x : A) (f : Field) (fs : List Field) → (r : IsRead reads rest x later) → Spells r.word.text f → EachSpells (texts later.left) fs → EachSpells (texts rest.left) (f ∷ fs)
spelled_on reads rest later x f fs r s each =
    subst (λ (ws : List Word). EachSpells (texts ws) (f ∷ fs)) (sym r.left) (s, subst (λ (y : Rest). EachSpells (texts y.left) fs) r.left_then each)

pub event_ok : (k : Keyword) (s : Shape) (make : MakesFromValues s Event) (rest : Rest) (e : Event) → event_in k s make rest ≡ Ok e → IsMade s make (texts rest.left) e
event_ok k End make rest e h =
    let p = bind_ok (ended_words rest) _ e h in
    let q = tested_ok make e (joint_fault k rest.last rest.number) (are_joined make) refl p.2 in
    record { values = tt; spelled = none_left rest (ended_ok rest p.0 p.1); made = q.0; joined = q.1 }
event_ok k (Then kind s) make rest e h =
    let p = bind_ok (word_as (read kind) rest) _ e h in
    let r = word_ok (read kind) rest p.0.1 p.0.0 p.1 in
    let m = event_ok k s (make p.0.0) p.0.1 e p.2 in
    record {
      values = (p.0.0, m.values);
      spelled = spelled_on (read kind) rest p.0.1 p.0.0 (field_for kind p.0.0) (fields_for s m.values) r (spells_read kind p.0.0 r.word.text r.value) m.spelled;
      made = m.made;
      joined = m.joined;
    }
event_ok k (ReadOrWrite s t) make rest e h =
    let p = bind_ok (word_as (read DirectionWord) rest) _ e h in
    let r = word_ok (read DirectionWord) rest p.0.1 p.0.0 p.1 in
    elim p.0.0 as (λ d. IsRead (read DirectionWord) rest d p.0.1 → by_direction d (event_in k s make.0 p.0.1) (event_in k t make.1 p.0.1) ≡ Ok e → IsMade (ReadOrWrite s t) make (texts rest.left) e) [
      | direction.Read ↦ λ r h.
          let m = event_ok k s make.0 p.0.1 e h in
          record {
            values = inl m.values;
            spelled = spelled_on (read DirectionWord) rest p.0.1 direction.Read (field_for DirectionWord direction.Read) (fields_for s m.values) r (spells_read DirectionWord direction.Read r.word.text r.value) m.spelled;
            made = m.made;
            joined = m.joined;
          }
      | direction.Write ↦ λ r h.
          let m = event_ok k t make.1 p.0.1 e h in
          record {
            values = inr m.values;
            spelled = spelled_on (read DirectionWord) rest p.0.1 direction.Write (field_for DirectionWord direction.Write) (fields_for t m.values) r (spells_read DirectionWord direction.Write r.word.text r.value) m.spelled;
            made = m.made;
            joined = m.joined;
          }
    ] r p.2

-- words that spell the values of an event are read as it
pub event_again : (k : Keyword) (s : Shape) (make : MakesFromValues s Event) (vs : Values s) (rest : Rest) (ws : List Word) → rest.left ≡ ws → EachSpells (texts ws) (fields_for s vs) → are_joined (made_of s make vs) ≡ true → event_in k s make rest ≡ Ok (made_of s make vs)
event_again k End make vs rest [] l h j =
    ap (λ r. r >>= λ _. cond (are_joined make) (Ok make) (Err (joint_fault k rest.last rest.number))) (ended_again rest l)
    ∙ cond-true (are_joined make) (Ok make) (Err (joint_fault k rest.last rest.number)) j
event_again k End make vs rest (w ∷ ws) l h j = absurd h
event_again k (Then kind s) make vs rest [] l h j = absurd h
event_again k (Then kind s) make vs rest (w ∷ ws) l h j =
    ap (λ r. r >>= λ x. event_in k s (make x.0) x.1) (word_again (read kind) rest vs.0 w ws l (read_spells kind vs.0 w.text h.0))
    ∙ event_again k s (make vs.0) vs.1 (rest_behind rest w ws) ws refl h.1 j
event_again k (ReadOrWrite s t) make (inl vs) rest [] l h j = absurd h
event_again k (ReadOrWrite s t) make (inr vs) rest [] l h j = absurd h
event_again k (ReadOrWrite s t) make (inl vs) rest (w ∷ ws) l h j =
    ap (λ r. r >>= λ x. by_direction x.0 (event_in k s make.0 x.1) (event_in k t make.1 x.1)) (word_again (read DirectionWord) rest direction.Read w ws l (read_spells DirectionWord direction.Read w.text h.0))
    ∙ event_again k s make.0 vs (rest_behind rest w ws) ws refl h.1 j
event_again k (ReadOrWrite s t) make (inr vs) rest (w ∷ ws) l h j =
    ap (λ r. r >>= λ x. by_direction x.0 (event_in k s make.0 x.1) (event_in k t make.1 x.1)) (word_again (read DirectionWord) rest direction.Write w ws l (read_spells DirectionWord direction.Write w.text h.0))
    ∙ event_again k t make.1 vs (rest_behind rest w ws) ws refl h.1 j

tested_err : (b : Bool) (e : Event) (f g : LineFault) → cond b (Ok e) (Err f) ≡ Err g → f ≡ g
tested_err true e f g h = cc
tested_err false e f g h = cc

-- the first fault of what is left
abbrev fault_left : Keyword → Shape → Rest → LineFault
fault_left k s rest = first_fault k s rest.left rest.end rest.number rest.last

at_word : (k : Keyword) (s : Shape) (rest : Rest) (ws : List Word) (f : LineFault) → rest.left ≡ ws → f ≡ first_fault k s ws rest.end rest.number rest.last → f ≡ fault_left k s rest
at_word k s rest ws f l h = h ∙ ap (λ xs. first_fault k s xs rest.end rest.number rest.last) (sym l)

none_of_two : (a b : Bool) (d e : Direction) (x y z : LineFault) → cond a (Some d) (cond b (Some e) None) ≡ None → cond a x (cond b y z) ≡ z
none_of_two true b d e x y z h = cc
none_of_two false true d e x y z h = cc
none_of_two false false d e x y z h = refl

-- the fault is that of one of two shapes, or of the word
abbrev choice : Text → LineFault → LineFault → LineFault → LineFault
choice word x y z = cond (bytes_eq word (codes "read")) x (cond (bytes_eq word (codes "write")) y z)

chosen_none : (word : Text) (x y z : LineFault) → read DirectionWord word ≡ None → choice word x y z ≡ z
unfolding read
chosen_none word x y z h = none_of_two (bytes_eq word (codes "read")) (bytes_eq word (codes "write")) direction.Read direction.Write x y z h

chosen_read : (word : Text) (x y z : LineFault) → read DirectionWord word ≡ Some direction.Read → choice word x y z ≡ x
chosen_read word x y z h = ap (λ t. choice t x y z) (spells_read DirectionWord direction.Read word h)

chosen_write : (word : Text) (x y z : LineFault) → read DirectionWord word ≡ Some direction.Write → choice word x y z ≡ y
chosen_write word x y z h = ap (λ t. choice t x y z) (spells_read DirectionWord direction.Write word h)

-- a fault that is told is the first
pub event_err : (k : Keyword) (s : Shape) (make : MakesFromValues s Event) (rest : Rest) (f : LineFault) → event_in k s make rest ≡ Err f → f ≡ fault_left k s rest
event_err k End make rest f h = elim (bind_err (ended_words rest) _ f h) [
  | inl e ↦ elim (ended_err rest f e) [ More w ws l p ↦ at_word k End rest (w ∷ ws) f l p ]
  | inr p ↦ at_word k End rest [] f (ended_ok rest p.0 p.1) (sym (tested_err (are_joined make) make (joint_fault k rest.last rest.number) f p.2))
]
event_err k (Then kind s) make rest f h = elim (bind_err (word_as (read kind) rest) _ f h) [
  | inl e ↦ elim (word_err (read kind) rest f e) [
    | Missing l p ↦ at_word k (Then kind s) rest [] f l p
    | Bad w ws l n p ↦ at_word k (Then kind s) rest (w ∷ ws) f l (p ∙ ap (λ o. cond (is_some o) (first_fault k s ws rest.end (rest.number + 1) w.from) (fault_at w.from rest.number)) (sym n))
  ]
  | inr p ↦
      let r = word_ok (read kind) rest p.0.1 p.0.0 p.1 in
      let e = event_err k s (make p.0.0) p.0.1 f p.2 in
      at_word k (Then kind s) rest (r.word ∷ r.words) f r.left
      (e ∙ ap (fault_left k s) r.left_then ∙ ap (λ o. cond (is_some o) (first_fault k s r.words rest.end (rest.number + 1) r.word.from) (fault_at r.word.from rest.number)) (sym r.value))
]
event_err k (ReadOrWrite s t) make rest f h = elim (bind_err (word_as (read DirectionWord) rest) _ f h) [
  | inl e ↦ elim (word_err (read DirectionWord) rest f e) [
    | Missing l p ↦ at_word k (ReadOrWrite s t) rest [] f l p
    | Bad w ws l n p ↦ at_word k (ReadOrWrite s t) rest (w ∷ ws) f l (p ∙ sym (chosen_none w.text (first_fault k s ws rest.end (rest.number + 1) w.from) (first_fault k t ws rest.end (rest.number + 1) w.from) (fault_at w.from rest.number) n))
  ]
  | inr p ↦
      elim p.0.0 as (λ d. IsRead (read DirectionWord) rest d p.0.1 → by_direction d (event_in k s make.0 p.0.1) (event_in k t make.1 p.0.1) ≡ Err f → f ≡ fault_left k (ReadOrWrite s t) rest) [
        | direction.Read ↦ λ r h.
            at_word k (ReadOrWrite s t) rest (r.word ∷ r.words) f r.left
            (event_err k s make.0 p.0.1 f h ∙ ap (fault_left k s) r.left_then ∙ sym (chosen_read r.word.text (first_fault k s r.words rest.end (rest.number + 1) r.word.from) (first_fault k t r.words rest.end (rest.number + 1) r.word.from) (fault_at r.word.from rest.number) r.value))
        | direction.Write ↦ λ r h.
            at_word k (ReadOrWrite s t) rest (r.word ∷ r.words) f r.left
            (event_err k t make.1 p.0.1 f h ∙ ap (fault_left k t) r.left_then ∙ sym (chosen_write r.word.text (first_fault k s r.words rest.end (rest.number + 1) r.word.from) (first_fault k t r.words rest.end (rest.number + 1) r.word.from) (fault_at r.word.from rest.number) r.value))
      ] (word_ok (read DirectionWord) rest p.0.1 p.0.0 p.1) p.2
]
