-- The numbers behind a keyword, read one after another.
use Rattle.std.proofs.Common.{◌≡◌, ◌≢◌, ℕ, ◌+◌, ◌%◌, ◌^◌, ◌≤◌, ◌<◌, Bool, true, false, cond, List, [], ◌∷◌, length, drop, set, get_or, length-set, Option, Some, None, Result, Ok, Err, refl, sym, ap, ◌∙◌, subst, arith}
use Rattle.std.specs.Prelude.{option_map, option_and_then}
use Rattle.std.proofs.lemmas.Bool.{and_parts, cond-true}
use Rattle.std.proofs.lemmas.List.{drop_more, get_or-set_same, get_or-set_other}
use Rattle.std.proofs.lemmas.Option.{cond_some}
use Rattle.mm_types.specs.{Text, Event}
use Rattle.mm_text.specs.{number_of}
use Rattle.mm_script.specs.{LineFault, Keyword, are_joined, read, Number, AnyNumber, PidNumber, TidNumber, FlagNumber, End, Then, ReadOrWrite, within}
use Rattle.mm_script.specs.{number_in, pid_from, tid_from, flag_from, shape_of, joint_fault, Rest, word_as, ended_words, ◌>>=◌, MakesFromValues}
use Rattle.mm_script.specs.{make_of, event_in, line_of, Range, leading, behind, with_numbers, numbers_as, numbers_for, is_end, is_unjoined, is_plain}
use Rattle.mm_script.specs.{IfTrue, ranges_for, whole_of, made_with}
use Rattle.mm_script.specs.Shape.{Shape}
use Rattle.mm_script.proofs.Binds.{bind_ok}
use Rattle.mm_script.proofs.Narrowed.{mapped, as_number}
use Rattle.mm_script.proofs.Ranges.{number_below}
use Rattle.mm_script.proofs.Shapes.{within_again, number_in_is}

-- a word of each kind of number is a number in its range
plain_number : (o : Option ℕ) → o ≡ option_map (λ n. n) o
plain_number None = refl
plain_number (Some n) = refl

any_some : (o : Option ℕ) → ((n : ℕ) → o ≡ Some n → n < 2 ^ 32) → o ≡ option_map (λ n. n) (option_and_then (within 0 0xFFFFFFFF) o)
any_some None low = refl
any_some (Some n) low =
    let below : n < 2 ^ 32 = low n refl in
    sym (ap (option_map (λ (k : ℕ). k)) (within_again 0 0xFFFFFFFF n (omega arith) (omega arith)))

any_number : (w : Text) → number_of w ≡ option_map (λ n. n) (number_in 0 0xFFFFFFFF w)
unfolding number_in
any_number w = any_some (number_of w) (number_below w)

low_some : {A : Type 0} (g : ℕ → A) (o : Option ℕ) → ((n : ℕ) → o ≡ Some n → n ≤ 255) → option_map g o ≡ option_map (λ n. g (n % 256)) o
low_some g None low = refl
low_some g (Some n) low =
    let below : n ≤ 255 = low n refl in
    let same : n ≡ n % 256 = omega arith in
    ap (λ k. Some (g k)) same

low_number : {A : Type 0} (g : ℕ → A) (w : Text) → option_map g (number_in 0 255 w) ≡ option_map (λ n. g (n % 256)) (number_in 0 255 w)
low_number g w = low_some g (number_in 0 255 w) (λ n e. (number_in_is 0 255 w n e).2)

-- a number that was written stays
kept : (rs : List Range) (i j : ℕ) (ns ms : List ℕ) (rest later : Rest) → i < j → numbers_as rs j ns rest ≡ Ok (ms, later) → get_or ms i 0 ≡ get_or ns i 0
kept [] i j ns ms rest later before h = let same : ◌≡◌ {A = List ℕ × Rest} (ms, later) (ns, rest) = cc in ap (λ (p : List ℕ × Rest). get_or p.0 i 0) same
kept (r ∷ rs) i j ns ms rest later before h =
    let p = bind_ok (word_as (read (Number r.0 r.1)) rest) _ (ms, later) h in
    let other : i ≢ j = λ e. absurd (omega (arith, e)) in
    kept rs i (j + 1) (set ns j p.0.0) ms p.0.1 later (omega arith) p.2 ∙ get_or-set_other ns j i p.0.0 0 other

-- what is read once the numbers are, written from a place on
abbrev by_numbers : (k : Keyword) (s : Shape) → MakesFromValues s Event → ℕ → List ℕ → Rest → Result Event LineFault
by_numbers k s make i ns rest = numbers_as (leading s) i ns rest >>= λ y. event_in k (behind s) (with_numbers s make y.0 i) y.1

abbrev IsRead : Keyword → Shape → Type 0
IsRead k s = (make : MakesFromValues s Event) (i : ℕ) (ns : List ℕ) (rest : Rest) → i + length (leading s) ≤ length ns → event_in k s make rest ≡ by_numbers k s make i ns rest

module _ {A : Type 0} (k : Keyword) (s : Shape) (later : IsRead k s) (g : ℕ → A) (make : A → MakesFromValues s Event) (i : ℕ) (ns : List ℕ) (room : i + 1 + length (leading s) ≤ length ns) where
  abbrev after_number : ℕ → (List ℕ × Rest) → Result Event LineFault
  after_number n y = event_in k (behind s) (with_numbers s (make (g n)) y.0 (i + 1)) y.1

  written : (n : ℕ) (rest : Rest) (r : Result (List ℕ × Rest) LineFault) → numbers_as (leading s) (i + 1) (set ns i n) rest ≡ r → (r >>= λ y. after_number n y) ≡ (r >>= λ y. after_number (get_or y.0 i 0) y)
  written n rest (Ok y) h = ap (λ m. after_number m y) (sym (kept (leading s) i (i + 1) (set ns i n) y.0 rest y.1 (omega arith) h ∙ get_or-set_same ns i n 0 (omega arith)))
  written n rest (Err f) h = refl

  number_first : (r : Result (ℕ × Rest) LineFault) → (mapped g r >>= λ x. event_in k s (make x.0) x.1) ≡ ((r >>= λ x. numbers_as (leading s) (i + 1) (set ns i x.0) x.1) >>= λ y. after_number (get_or y.0 i 0) y)
  number_first (Err f) = refl
  number_first (Ok x) = later (make (g x.0)) (i + 1) (set ns i x.0) x.1 (omega (arith, length-set ns i x.0)) ∙ written x.0 x.1 (numbers_as (leading s) (i + 1) (set ns i x.0) x.1) refl

  first_number : (reads : Text → Option A) (least most : ℕ) → ((w : Text) → reads w ≡ option_map g (number_in least most w)) → (rest : Rest)
      → (word_as reads rest >>= λ x. event_in k s (make x.0) x.1) ≡ ((word_as (read (Number least most)) rest >>= λ x. numbers_as (leading s) (i + 1) (set ns i x.0) x.1) >>= λ y. after_number (get_or y.0 i 0) y)
  first_number reads least most same rest =
      ap (λ r. r >>= λ x. event_in k s (make x.0) x.1) (as_number reads least most g same rest)
      ∙ number_first (word_as (read (Number least most)) rest)

by_leading : (k : Keyword) (s : Shape) → IsRead k s
unfolding read
by_leading k (Then (Number least most) s) make i ns rest h = first_number k s (λ m j xs r b. by_leading k s m j xs r b) (λ n. n) make i ns (omega arith) (read (Number least most)) least most (λ w. plain_number (number_in least most w)) rest
by_leading k (Then AnyNumber s) make i ns rest h = first_number k s (λ m j xs r b. by_leading k s m j xs r b) (λ n. n) make i ns (omega arith) (read AnyNumber) 0 0xFFFFFFFF any_number rest
by_leading k (Then PidNumber s) make i ns rest h = first_number k s (λ m j xs r b. by_leading k s m j xs r b) (λ n. pid_from (n % 256)) make i ns (omega arith) (read PidNumber) 0 255 (low_number pid_from) rest
by_leading k (Then TidNumber s) make i ns rest h = first_number k s (λ m j xs r b. by_leading k s m j xs r b) (λ n. tid_from (n % 256)) make i ns (omega arith) (read TidNumber) 0 255 (low_number tid_from) rest
by_leading k (Then FlagNumber s) make i ns rest h = first_number k s (λ m j xs r b. by_leading k s m j xs r b) flag_from make i ns (omega arith) (read FlagNumber) 0 1 (λ w. refl) rest
by_leading k s make i ns rest h = refl

-- where no word is left behind the numbers, or one too many
module _ (k : Keyword) (rest : Rest) where
  end_fault : (s : Shape) (make : MakesFromValues s Event) (f : LineFault) → is_end s ≡ true → ended_words rest ≡ Err f → event_in k s make rest ≡ Err f
  end_fault End make f t h = ap (λ r. r >>= λ _. cond (are_joined make) (Ok make) (Err (joint_fault k rest.last rest.number))) h
  end_fault (Then kind s) make f t h = cc
  end_fault (ReadOrWrite s t) make f e h = cc

  end_made : (s : Shape) (make : MakesFromValues s Event) (e : Event) → ended_words rest ≡ Ok tt → whole_of s make ≡ Some e → event_in k s make rest ≡ Ok e
  end_made End make e h w =
      let p = cond_some (are_joined make) make e w in
      ap (λ r. r >>= λ _. cond (are_joined make) (Ok make) (Err (joint_fault k rest.last rest.number))) h
      ∙ cond-true (are_joined make) (Ok make) (Err (joint_fault k rest.last rest.number)) p.0
      ∙ ap (λ x. Ok x) p.1
  end_made (Then kind s) make e h w = cc
  end_made (ReadOrWrite s t) make e h w = cc

module _ (k : Keyword) (rs : List Range) (old : Rest) (plain : is_plain k ≡ true) (told : IfTrue (is_plain k) (rs ≡ ranges_for k)) (few : length rs ≤ 6) where
  given : (P : Type 0) → IfTrue (is_plain k) P → P
  given P p = subst (λ b. IfTrue b P) plain p

  after : (r : Result (List ℕ × Rest) LineFault) → numbers_for rs old ≡ r → line_of k old ≡ (r >>= λ y. event_in k (behind (shape_of k)) (with_numbers (shape_of k) (make_of k) y.0 0) y.1)
  unfolding line_of
  after r h =
      let ranges : rs ≡ ranges_for k = given (rs ≡ ranges_for k) told in
      let room : length (ranges_for k) ≤ 6 = subst (λ (xs : List Range). length xs ≤ 6) ranges few in
      by_leading k (shape_of k) (make_of k) 0 (0 ∷ 0 ∷ 0 ∷ 0 ∷ 0 ∷ 0 ∷ []) old (omega arith)
      ∙ ap (λ r. r >>= λ y. event_in k (behind (shape_of k)) (with_numbers (shape_of k) (make_of k) y.0 0) y.1) (ap (λ xs. numbers_for xs old) (sym ranges) ∙ h)

  -- a number is missing, or out of its range
  pub number_missed : (f : LineFault) → numbers_for rs old ≡ Err f → line_of k old ≡ Err f
  number_missed f h = after (Err f) h

  module _ (ns : List ℕ) (mid : Rest) (numbers : numbers_for rs old ≡ Ok (ns, mid)) where
    -- a word too many
    pub end_missed : (f : LineFault) → Err f ≡ ended_words mid → line_of k old ≡ Err f
    end_missed f h = after (Ok (ns, mid)) numbers ∙ end_fault k mid (behind (shape_of k)) (with_numbers (shape_of k) (make_of k) ns 0) f (and_parts (is_end (behind (shape_of k))) (is_unjoined k) plain).0 (sym h)

    pub numbers_made : (e : Event) → Ok tt ≡ ended_words mid → IfTrue (is_plain k) (made_with k ns ≡ Some e) → line_of k old ≡ Ok e
    numbers_made e h made = after (Ok (ns, mid)) numbers ∙ end_made k mid (behind (shape_of k)) (with_numbers (shape_of k) (make_of k) ns 0) e (sym h) (given (made_with k ns ≡ Some e) made)

-- one number more
pub one_more : (rs : List Range) (ns : List ℕ) (i c : ℕ) (d : Range) (old new : Rest) (n : ℕ) → c ≡ i → i < length rs → word_as (read (Number (get_or rs i d).0 (get_or rs i d).1)) old ≡ Ok (n, new) → numbers_as (drop i rs) i ns old ≡ numbers_as (drop (i + 1) rs) (i + 1) (set ns c n) new
one_more rs ns i c d old new n at within h =
    ap (λ xs. numbers_as xs i ns old) (drop_more rs i d within)
    ∙ ap (λ r. r >>= λ x. numbers_as (drop (i + 1) rs) (i + 1) (set ns i x.0) x.1) h
    ∙ ap (λ (k : ℕ). numbers_as (drop (i + 1) rs) (i + 1) (set ns k n) new) (sym at)

-- the event of a keyword that was told apart
pub made_told : (k found : Keyword) (ns : List ℕ) (e : Event) → k ≡ found → made_with found ns ≡ Some e → IfTrue (is_plain k) (made_with k ns ≡ Some e)
made_told k found ns e told made = if_true (is_plain k) (ap (λ x. made_with x ns) told ∙ made)
  where
    if_true : (b : Bool) → made_with k ns ≡ Some e → IfTrue b (made_with k ns ≡ Some e)
    if_true true h = h
    if_true false h = tt

pub ruleset numbered = (number_missed, end_missed, numbers_made)
