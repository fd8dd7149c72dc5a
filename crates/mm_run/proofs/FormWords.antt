-- Which form the words are.
use Rattle.std.proofs.Common.{◌≡◌, ◌∙◌, ℕ, ◌<◌, ◌≤◌, Bool, cond, false, true, List, [], ◌∷◌, length, get_or, map, sym, ap, ap₂, refl, subst, arith, eqb-true, Some, None, codes, inl, inr, string_bytes}
use Rattle.std.specs.Prelude.{◌==◌, ◌||◌, ◌&&◌, nat_le, option_and_then, String}
use Rattle.std.specs.List.{list_any}
use Rattle.std.specs.declared.alloc.Global.{Global}
use Rattle.std.proofs.lemmas.Bool.{and_right}
use Rattle.mm_types.specs.{Text}
use Rattle.mm_text.specs.{are_digits, value_in}
use Rattle.mm_generate.specs.{script_of}
use Rattle.mm_arguments.specs.{Form, Said, Says, SaysNone, is_dashed, texts}
use Rattle.mm_run.specs.{WordsForm, IsBulk, IsNoBulk, BulkRan, below_64, word_value, Around, RanOrRefused, IsRunForm, SaysForm}
use Rattle.mm_run.specs.declared.forms.WordsForm.TheVariants as form
use Rattle.mm_run.specs.Ran.{Ran}

-- ---- numbers do not begin with `-`

not_number : (most : ℕ) (xs : Text) (n : ℕ) → word_value most (45 ∷ xs) ≡ Some n → ⊥
not_number most xs n e =
    let none : word_value most (45 ∷ xs) ≡ None =
    ap (λ (b : Bool). option_and_then below_64 (cond b (Some (value_in 10 0 (45 ∷ xs))) None)) (and_right (nat_le 1 (length (45 ∷ xs)) && nat_le (length (45 ∷ xs)) most) (are_digits 10 (45 ∷ xs)) refl) in
    let bad : None ≡ Some n = sym none ∙ e in
    cc

not_dashed : (most n : ℕ) (w : Text) → word_value most w ≡ Some n → is_dashed w ≡ false
not_dashed most n [] e = refl
not_dashed most n (x ∷ xs) e = go (x == 45) refl
  where
    go : (b : Bool) → (x == 45) ≡ b → is_dashed (x ∷ xs) ≡ false
    go false p = p
    go true p = absurd (not_number most xs n (subst (λ (y : ℕ). word_value most (y ∷ xs) ≡ Some n) (eqb-true x 45 p) e))

-- ---- from what the words say to the form

-- The forms `run` and `bulk`.
pub record AreForms (f g : Form) : Type 0 where
  pub run : f.name.now ≡ codes "run"
  pub run_least : f.least ≡ 0
  pub run_most : f.most ≡ 0
  pub bulk : g.name.now ≡ codes "bulk"
  pub bulk_least : g.least ≡ 2
  pub bulk_most : g.most ≡ 2

pub says_none : (f g : Form) (ws : List (String Global)) → SaysNone (f ∷ g ∷ []) (map string_bytes ws) → AreForms f g → (x : WordsForm) → SaysForm ws x → ⊥
says_none f g ws none are form.Run e = none.0 [] (record {
  words_are = e ∙ ap (λ (t : Text). t ∷ []) (sym are.run);
  least = let l = are.run_least in omega arith;
  most = omega arith;
  plain = ap (list_any is_dashed) e;
})
says_none f g ws none are (form.Bulk a b) h = none.1.0 (h.first ∷ h.second ∷ []) (record {
  words_are = h.words_are ∙ ap (λ (t : Text). t ∷ h.first ∷ h.second ∷ []) (sym are.bulk);
  least = let l = are.bulk_least in omega arith;
  most = let l = are.bulk_most in omega arith;
  plain = ap (list_any is_dashed) h.words_are ∙ ap₂ (λ (x y : Bool). x || (y || false)) (not_dashed 20 a h.first h.seed_is) (not_dashed 6 b h.second h.count_is);
})

-- the two values are no seed and count
pub no_numbers : (f g : Form) (ws : List (String Global)) (said : Said) → Says (f ∷ g ∷ []) (map string_bytes ws) said → AreForms f g → (s t : Text) → texts said.values.items ≡ s ∷ t ∷ []
    → ((a b : ℕ) → word_value 20 s ≡ Some a → word_value 6 t ≡ Some b → b ≤ 100000 → ⊥) → (x : WordsForm) → SaysForm ws x → ⊥
no_numbers f g ws said (inl (name, h)) are s t e none x says =
    let l = are.run_most in let m = h.most in let n = ap length e in absurd (omega arith)
no_numbers f g ws said (inr (inl (name, h))) are s t e none form.Run says =
    let bad : codes "bulk" ∷ s ∷ t ∷ [] ≡ codes "run" ∷ [] = sym (h.words_are ∙ ap₂ (λ (x : Text) (xs : List Text). x ∷ xs) are.bulk e) ∙ says in cc
no_numbers f g ws said (inr (inl (name, h))) are s t e none (form.Bulk a b) says =
    let both : codes "bulk" ∷ s ∷ t ∷ [] ≡ codes "bulk" ∷ says.first ∷ says.second ∷ [] = sym (h.words_are ∙ ap₂ (λ (x : Text) (xs : List Text). x ∷ xs) are.bulk e) ∙ says.words_are in
    let one : s ≡ says.first = cc in
    let two : t ≡ says.second = cc in
    none a b (ap (word_value 20) one ∙ says.seed_is) (ap (word_value 6) two ∙ says.count_is) says.count_fits
no_numbers f g ws said (inr (inr h)) are s t e none x says = h

pub two_items : {X : Type 0} (xs : List X) (d e : X) → 2 ≤ length xs → length xs < 3 → xs ≡ get_or xs 0 d ∷ get_or xs 1 e ∷ []
two_items (x ∷ y ∷ []) d e some few = refl
two_items x d e some few = absurd (omega arith)

-- ---- the words are one form alone

-- the words of the form are one seed and one count
pub one_bulk : (ws : List (String Global)) (s n s' n' : ℕ) → IsBulk ws s n → IsBulk ws s' n' → (s ≡ s') × (n ≡ n')
one_bulk ws s n s' n' a b =
    let both : codes "bulk" ∷ a.first ∷ a.second ∷ [] ≡ codes "bulk" ∷ b.first ∷ b.second ∷ [] = sym a.words_are ∙ b.words_are in
    let first : a.first ≡ b.first = cc in
    let second : a.second ≡ b.second = cc in
    let seed : Some s ≡ Some s' = sym a.seed_is ∙ ap (word_value 20) first ∙ b.seed_is in
    let count : Some n ≡ Some n' = sym a.count_is ∙ ap (word_value 6) second ∙ b.count_is in
    let seeds : s ≡ s' = cc in
    let counts : n ≡ n' = cc in
    (seeds, counts)

pub no_run : (ws : List (String Global)) → IsRunForm ws → IsNoBulk ws
no_run ws q = λ s n b. let both : codes "run" ∷ [] ≡ codes "bulk" ∷ b.first ∷ b.second ∷ [] = sym q ∙ b.words_are in absurd (let many = ap length both in omega arith)

-- what a run of a script did is what a run of the same script did
pub bulk_same : (a b : Around) (s n s' n' status : ℕ) → s ≡ s' → n ≡ n' → BulkRan a b (script_of s n) status → BulkRan a b (script_of s' n') status
bulk_same a b s n s' n' status e f h = subst (λ (k : ℕ). BulkRan a b (script_of s' k) status) f (subst (λ (k : ℕ). BulkRan a b (script_of k n) status) e h)

-- the same run, its form said in other words
ran_said : (a b : Around) (p q : Type 0) (status : ℕ) → (p → q) → (q → p) → Ran a b p status → Ran a b q status
ran_said a b p q status to back h = record {
  lines = h.lines;
  answered = h.answered;
  limit = h.limit;
  watches = h.watches;
  e = h.e;
  taken = h.taken;
  front = h.front;
  more = h.more;
  read = h.read;
  whole = h.whole;
  settled = h.settled;
  few = h.few;
  is_form = λ x. h.is_form (back x);
  no_form = λ none. h.no_form (λ x. none (to x));
  told = h.told;
  kept = h.kept;
  split = h.split;
  gave = h.gave;
  written = h.written;
  wrote = h.wrote;
  ends = h.ends;
  end = h.end;
  closes = h.closes;
  leaves = h.leaves;
  log = h.log;
  holds = h.holds;
  faultless = h.faultless;
}

pub form_said : (a b : Around) (p q : Type 0) (status : ℕ) → (p → q) → (q → p) → RanOrRefused a b p status → RanOrRefused a b q status
form_said a b p q status to back (inl ran) = inl (ran_said a b p q status to back ran)
form_said a b p q status to back (inr refused) = inr refused
