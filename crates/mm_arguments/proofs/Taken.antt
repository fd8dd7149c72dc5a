-- Which words a subcommand of no values, or of so many, takes, and what its parse has of them.
use Rattle.std.proofs.Common.{◌≡◌, ◌∙◌, ap, ap₂, sym, refl, ℕ, zero, suc, ◌+◌, ◌≤◌, Bool, cond, false, true, not, None, Some, List, ◌∷◌, ◌++◌, [], length, codes, min, subst, arith, append_assoc}
use Rattle.std.specs.Prelude.{◌||◌, ◌&&◌, ◌==◌, nat_lt}
use Rattle.std.specs.List.{fold, list_any}
use Rattle.std.proofs.lemmas.List.{append-nil}
use Rattle.std.proofs.lemmas.Bool.{and_right, le-ltb, lt-ltb, ltb-false, eq-eqb, eqb-false, eqb-true, ne_eqb, or_parts}
use Rattle.clap.specs.Lexer.{usize_max}
use Rattle.clap.specs.Words.{Rule, Shape, Text}
use Rattle.clap.specs.Walk.{Held, Walk, arg_by_index, finished, idle, is_multiple, nothing_held, positional, pushed, rows_after, settled, takes_several, to_positional, value, walk, walk_from, walked}
use Rattle.clap.specs.Simple.{built_leaf, filled, inherited, new_shape, with_index}
use Rattle.clap.specs.Kinds.{Kinds, or_else, range_kinds, values_kinds}
use Rattle.clap.specs.Faults.{check_fault, defaults_fault, level_fault, settle_fault, step_fault, walk_fault}
use Rattle.clap.specs.declared.error.ErrorKind.TheVariants.{InvalidValue, MissingRequiredArgument, TooFewValues, TooManyValues, WrongNumberOfValues}
use Rattle.clap.specs.declared.builder.ValueParser.TheVariants as vp
use Rattle.clap.proofs.OnLiterals.{clap_on_literals}
use Rattle.mm_arguments.specs.{is_dashed, top_shape, values_of, values_rule}
use Rattle.mm_arguments.proofs.Walks.{at, first_fault, placed}

-- a subcommand with these arguments, built
abbrev pub built_shape : Text → List Rule → Shape
built_shape name rules = built_leaf (inherited top_shape (record (new_shape name) { rules = rules }))

abbrev pub bare_shape : Text → Shape
bare_shape name = built_shape name []

abbrev pub valued_shape : Text → ℕ → ℕ → Shape
valued_shape name least most = built_shape name (values_rule least most ∷ [])

-- the argument of the values, built
abbrev pub the_rule : ℕ → ℕ → Rule
the_rule least most = with_index 1 (filled (values_rule least most))

-- one level of the parse, which entered no subcommand, by its walk and the faults on the way
abbrev level_by : Shape → Walk → Kinds → Kinds
level_by s end turns =
    or_else turns (or_else (settle_fault s.rules s.args_override_self end.held)
    (or_else (defaults_fault (settled s.rules end.held).rows s.rules) (check_fault s (finished s.rules end.held) false)))

abbrev pub leaf : Shape → List Text → Kinds
leaf s words = level_fault s [] nothing_held words false []

-- the values that the parse of the subcommand has
abbrev pub leaf_values : Shape → List Text → List Text
leaf_values s words = values_of (rows_after s.rules [] words)

-- what a subcommand that takes these words is known by
pub record Takes (s : Shape) (least most : ℕ) (words : List Text) : Type 0 where
  pub least_is : least ≤ length words
  pub most_is : length words ≤ most
  pub values : leaf_values s words ≡ words

pub some_kind : {X : Type 0} (x : X) (xs : List X) → x ∷ xs ≡ [] → ⊥
some_kind x xs e = cc

-- ---- no value

pub bare_takes : (name : Text) → leaf (bare_shape name) [] ≡ []
unfolding clap_on_literals
bare_takes name = refl

pub bare_refuses : (name x : Text) (xs : List Text) → is_dashed x ≡ false → leaf (bare_shape name) (x ∷ xs) ≡ [] → ⊥
bare_refuses name x xs d none =
    let s = bare_shape name in
    some_kind _ _ (sym (ap (level_by s (walk s.rules [] nothing_held (x ∷ xs))) (first_fault [] idle 1 x nothing_held d refl (λ c. refl) s xs)) ∙ none)

-- ---- no word

-- by whether a value is missing
abbrev missing_by : Bool → Kinds
missing_by b = cond ((b && true) || false) (MissingRequiredArgument ∷ []) []

none_leaf : (name : Text) (least most : ℕ) → leaf (valued_shape name least most) [] ≡ missing_by (nat_lt 0 least)
unfolding clap_on_literals
none_leaf name least most = refl

none_refused : (name : Text) (least most : ℕ) → 1 ≤ least → leaf (valued_shape name least most) [] ≡ [] → ⊥
none_refused name least most some none = some_kind _ _ (sym (none_leaf name least most ∙ ap missing_by (lt-ltb 0 least some)) ∙ none)

none_taken : (name : Text) (most : ℕ) → leaf (valued_shape name 0 most) [] ≡ []
unfolding clap_on_literals
none_taken name most = refl

none_values : (name : Text) (least most : ℕ) → leaf_values (valued_shape name least most) [] ≡ []
none_values name least most = refl

-- ---- one value

abbrev after_one : Text → Walk
after_one x = to_positional (the_rule 1 1 ∷ []) (Some (the_rule 1 1)) x (at idle nothing_held 1) nothing_held

one_end : (x : Text) → is_dashed x ≡ false → walk (the_rule 1 1 ∷ []) [] nothing_held (x ∷ []) ≡ after_one x
one_end x d = placed [] idle 1 x nothing_held d refl (λ c. refl) (the_rule 1 1 ∷ [])

one_takes : (name x : Text) → is_dashed x ≡ false → leaf (valued_shape name 1 1) (x ∷ []) ≡ []
unfolding clap_on_literals
one_takes name x d = ap₂ (level_by (valued_shape name 1 1)) (one_end x d) (first_fault [] idle 1 x nothing_held d refl (λ c. refl) (valued_shape name 1 1) [])

one_values : (name x : Text) → is_dashed x ≡ false → leaf_values (valued_shape name 1 1) (x ∷ []) ≡ x ∷ []
one_values name x d = ap (λ (w : Walk). values_of (finished (the_rule 1 1 ∷ []) w.held)) (one_end x d)

one_refuses : (name x y : Text) (ys : List Text) → is_dashed x ≡ false → is_dashed y ≡ false → leaf (valued_shape name 1 1) (x ∷ y ∷ ys) ≡ [] → ⊥
one_refuses name x y ys d e none =
    let s = valued_shape name 1 1 in
    let turns = first_fault [] idle 1 x nothing_held d refl (λ c. refl) s (y ∷ ys) ∙ first_fault [] idle 2 y (after_one x).held e refl (λ c. refl) s ys in
    some_kind _ _ (sym (ap (level_by s (walk s.rules [] nothing_held (x ∷ y ∷ ys))) turns) ∙ none)

-- ---- several values

values_pass : (ws : List Text) → values_kinds false vp.String ws ≡ []
values_pass [] = refl
values_pass (w ∷ ws) = values_pass ws

-- the values so far
abbrev collected : List Text → Held
collected acc = record { rows = []; pending = Some (codes "values", acc); skip = 0 }

abbrev state : List Text → Walk
state acc = at positional (collected acc) 1

module _ (name : Text) (least most : ℕ) (several : takes_several (the_rule least most) ≡ true) where
  abbrev s : Shape
  s = valued_shape name least most

  multiple : is_multiple (the_rule least most) ≡ true
  multiple = ap (λ (b : Bool). b || false) several

  abbrev placed_by : Held → Bool → Walk
  placed_by h b = record { held = h; waiting = cond b positional idle; position = cond b 1 (min (1 + 1) usize_max); is_trailing = false; stopped = None }

  first_placed : (x : Text) → to_positional s.rules (arg_by_index s.rules 1) x (at idle nothing_held 1) nothing_held ≡ state (x ∷ [])
  first_placed x = ap (placed_by (collected (x ∷ []))) multiple

  next_placed : (acc : List Text) (x : Text) → to_positional s.rules (arg_by_index s.rules 1) x (state acc) (collected acc) ≡ state (acc ++ x ∷ [])
  next_placed acc x = ap₂ (λ (a b : Bool). placed_by (pushed (codes "values") x (cond a (collected acc) (settled s.rules (collected acc)))) b) several multiple

  next_fault : (acc : List Text) → step_fault s 1 (collected acc) value ≡ []
  next_fault acc = ap (λ (b : Bool). cond b [] (settle_fault s.rules false (collected acc))) several

  goes_on : (acc ws : List Text) → list_any is_dashed ws ≡ false → (fold (walked s.rules []) (state acc) ws ≡ state (acc ++ ws)) × (walk_fault s [] (state acc) ws ≡ [])
  unfolding walk_fault
  goes_on acc [] d = (ap state (sym (append-nil acc)), refl)
  goes_on acc (x ∷ ws) d =
      let p = or_parts (is_dashed x) (list_any is_dashed ws) d in
      let on = goes_on (acc ++ x ∷ []) ws p.1 in
      let step = placed [] positional 1 x (collected acc) p.0 refl (λ c. refl) s.rules ∙ next_placed acc x in
      let fault = first_fault [] positional 1 x (collected acc) p.0 refl (λ c. refl) s ws in (
        ap (λ (w : Walk). fold (walked s.rules []) w ws) step ∙ (on.0 ∙ ap state (append_assoc acc (x ∷ []) ws)),
        fault ∙ (ap₂ (λ (k : Kinds) (w : Walk). or_else k (walk_fault s [] w ws)) (next_fault acc) (next_placed acc x) ∙ on.1),
      )

  module _ (x : Text) (xs : List Text) (d : list_any is_dashed (x ∷ xs) ≡ false) where
    parts : (is_dashed x ≡ false) × (list_any is_dashed xs ≡ false)
    parts = or_parts (is_dashed x) (list_any is_dashed xs) d

    many_end : walk s.rules [] nothing_held (x ∷ xs) ≡ state (x ∷ xs)
    many_end = ap (λ (w : Walk). fold (walked s.rules []) w xs) (placed [] idle 1 x nothing_held parts.0 refl (λ c. refl) s.rules ∙ first_placed x) ∙ (goes_on (x ∷ []) xs parts.1).0

    many_turns : walk_fault s [] (walk_from nothing_held) (x ∷ xs) ≡ []
    many_turns = first_fault [] idle 1 x nothing_held parts.0 refl (λ c. refl) s xs ∙ (ap (λ (w : Walk). walk_fault s [] w xs) (first_placed x) ∙ (goes_on (x ∷ []) xs parts.1).1)

    -- by whether the argument is missing
    abbrev ends_by : Kinds → Bool → Kinds
    ends_by k b = or_else (or_else (range_kinds least most (length (x ∷ xs))) k) (cond (b || false) (MissingRequiredArgument ∷ []) [])

    many_leaf : leaf s (x ∷ xs) ≡ or_else (or_else (range_kinds least most (length (x ∷ xs))) []) []
    unfolding clap_on_literals
    many_leaf = ap₂ (level_by s) many_end many_turns ∙ ap₂ ends_by (values_pass (x ∷ xs)) (and_right (nat_lt 0 least) false refl)

    many_values : leaf_values s (x ∷ xs) ≡ x ∷ xs
    many_values = ap (λ (w : Walk). values_of (finished s.rules w.held)) many_end

-- ---- so many values

pub no_kinds : (ks : Kinds) → or_else ks [] ≡ [] → ks ≡ []
no_kinds [] e = refl
no_kinds (k ∷ ks) e = e

not_zero : (least n : ℕ) → 1 ≤ n → (nat_lt 0 least && n == 0) ≡ false
not_zero least n some = and_right (nat_lt 0 least) (n == 0) (ne_eqb n 0 (λ e. omega arith))

in_range : (least most n : ℕ) → 1 ≤ n → range_kinds least most n ≡ [] → (least ≤ n) × (n ≤ most)
in_range least most n some e = go (least == most) (least == n) (nat_lt n least) (nat_lt most n) refl refl refl refl
  where
    met : (b c d f : Bool) → (least == most) ≡ b → (least == n) ≡ c → (nat_lt n least) ≡ d → (nat_lt most n) ≡ f
        → cond b (cond c [] (WrongNumberOfValues ∷ [])) (cond d (TooFewValues ∷ []) (cond f (TooManyValues ∷ []) [])) ≡ []
    met b c d f p q r t =
        sym (ap₂ (λ (a x : Bool). cond a (InvalidValue ∷ []) (cond x (cond (least == n) [] (WrongNumberOfValues ∷ [])) (cond (nat_lt n least) (TooFewValues ∷ []) (cond (nat_lt most n) (TooManyValues ∷ []) [])))) (not_zero least n some) p
        ∙ ap₂ (λ (x y : Bool). cond b (cond x [] (WrongNumberOfValues ∷ [])) (cond y (TooFewValues ∷ []) (cond (nat_lt most n) (TooManyValues ∷ []) []))) q r
        ∙ ap (λ (y : Bool). cond b (cond c [] (WrongNumberOfValues ∷ [])) (cond d (TooFewValues ∷ []) (cond y (TooManyValues ∷ []) []))) t) ∙ e

    go : (b c d f : Bool) → (least == most) ≡ b → (least == n) ≡ c → (nat_lt n least) ≡ d → (nat_lt most n) ≡ f → (least ≤ n) × (n ≤ most)
    go true true d f p q r t = (omega (arith, eqb-true least n q), omega (arith, eqb-true least most p, eqb-true least n q))
    go true false d f p q r t = absurd (some_kind _ _ (met true false d f p q r t))
    go false c true f p q r t = absurd (some_kind _ _ (met false c true f p q r t))
    go false c false true p q r t = absurd (some_kind _ _ (met false c false true p q r t))
    go false c false false p q r t = (omega (arith, ltb-false n least r), omega (arith, ltb-false most n t))

range_free : (least most n : ℕ) → 1 ≤ n → least ≤ n → n ≤ most → range_kinds least most n ≡ []
range_free least most n some low high =
    ap (λ (a : Bool). cond a (InvalidValue ∷ []) (cond (least == most) (cond (least == n) [] (WrongNumberOfValues ∷ [])) (cond (nat_lt n least) (TooFewValues ∷ []) (cond (nat_lt most n) (TooManyValues ∷ []) [])))) (not_zero least n some)
    ∙ go (least == most) refl
  where
    few : nat_lt n least ≡ false
    few = le-ltb n least low

    many : nat_lt most n ≡ false
    many = le-ltb most n high

    go : (b : Bool) → (least == most) ≡ b → cond b (cond (least == n) [] (WrongNumberOfValues ∷ [])) (cond (nat_lt n least) (TooFewValues ∷ []) (cond (nat_lt most n) (TooManyValues ∷ []) [])) ≡ []
    go true p = ap (λ (c : Bool). cond c [] (WrongNumberOfValues ∷ [])) (eq-eqb least n (omega (arith, eqb-true least most p)))
    go false p = ap₂ (λ (c d : Bool). cond c (TooFewValues ∷ []) (cond d (TooManyValues ∷ []) [])) few many

is_several : (least most : ℕ) → 1 ≤ most → least ≤ most → (least ≡ 1 → most ≡ 1 → ⊥) → takes_several (the_rule least most) ≡ true
is_several least most some low other = go (least == most) (nat_lt 1 least) refl refl
  where
    go : (b c : Bool) → (least == most) ≡ b → nat_lt 1 least ≡ c → (not (least == most) || nat_lt 1 least) ≡ true
    go false c p q = ap (λ (a : Bool). not a || nat_lt 1 least) p
    go true true p q = ap₂ (λ (a b : Bool). not a || b) p q
    go true false p q =
        let same = eqb-true least most p in
        let few = ltb-false 1 least q in
        let one : least ≡ 1 = omega (arith, same, few, some) in
        absurd (other one (omega (arith, same, few, some)))

-- the subcommand takes words that are as many as its values, and no others
pub valued_reads : (name : Text) (least most : ℕ) (ws : List Text) → 1 ≤ most → least ≤ most → list_any is_dashed ws ≡ false
    → leaf (valued_shape name least most) ws ≡ [] → Takes (valued_shape name least most) least most ws
valued_reads name zero most [] some low d none = record { least_is = omega arith; most_is = omega arith; values = none_values name 0 most }
valued_reads name (suc least) most [] some low d none = absurd (none_refused name (suc least) most (omega arith) none)
valued_reads name least most (x ∷ xs) some low d none = go (least == 1) (most == 1) refl refl
  where
    one : (ys : List Text) → list_any is_dashed (x ∷ ys) ≡ false → leaf (valued_shape name 1 1) (x ∷ ys) ≡ [] → Takes (valued_shape name 1 1) 1 1 (x ∷ ys)
    one [] e free = record { least_is = omega arith; most_is = omega arith; values = one_values name x (or_parts (is_dashed x) false e).0 }
    one (y ∷ ys) e free =
        let p = or_parts (is_dashed x) (is_dashed y || list_any is_dashed ys) e in
        absurd (one_refuses name x y ys p.0 (or_parts (is_dashed y) (list_any is_dashed ys) p.1).0 free)

    many : (least ≡ 1 → most ≡ 1 → ⊥) → Takes (valued_shape name least most) least most (x ∷ xs)
    many other =
        let several = is_several least most some low other in
        let range = in_range least most (length (x ∷ xs)) (omega arith) (no_kinds _ (no_kinds _ (sym (many_leaf name least most several x xs d) ∙ none))) in
        record { least_is = range.0; most_is = range.1; values = many_values name least most several x xs d }

    go : (b c : Bool) → (least == 1) ≡ b → (most == 1) ≡ c → Takes (valued_shape name least most) least most (x ∷ xs)
    go true true p q =
        let l = sym (eqb-true least 1 p) in
        let m = sym (eqb-true most 1 q) in
        subst (λ (k : ℕ). Takes (valued_shape name k most) k most (x ∷ xs)) l
        (subst (λ (k : ℕ). Takes (valued_shape name 1 k) 1 k (x ∷ xs)) m
        (one xs d (subst (λ (k : ℕ). leaf (valued_shape name 1 k) (x ∷ xs) ≡ []) (sym m) (subst (λ (k : ℕ). leaf (valued_shape name k most) (x ∷ xs) ≡ []) (sym l) none))))
    go false c p q = many (λ l m. eqb-false least 1 p l)
    go true false p q = many (λ l m. eqb-false most 1 q m)

pub valued_takes : (name : Text) (least most : ℕ) (ws : List Text) → 1 ≤ most → least ≤ length ws → length ws ≤ most → list_any is_dashed ws ≡ false
    → leaf (valued_shape name least most) ws ≡ []
valued_takes name zero most [] some low high d = none_taken name most
valued_takes name (suc least) most [] some low high d = absurd (omega (arith, low))
valued_takes name least most (x ∷ xs) some low high d = go (least == 1) (most == 1) refl refl
  where
    one : (ys : List Text) → length (x ∷ ys) ≤ 1 → list_any is_dashed (x ∷ ys) ≡ false → leaf (valued_shape name 1 1) (x ∷ ys) ≡ []
    one [] few e = one_takes name x (or_parts (is_dashed x) false e).0
    one (y ∷ ys) few e = absurd (omega (arith, few))

    many : (least ≡ 1 → most ≡ 1 → ⊥) → leaf (valued_shape name least most) (x ∷ xs) ≡ []
    many other =
        let several = is_several least most some (omega (arith, low, high)) other in
        many_leaf name least most several x xs d ∙ ap (λ (k : Kinds). or_else (or_else k []) []) (range_free least most (length (x ∷ xs)) (omega arith) low high)

    go : (b c : Bool) → (least == 1) ≡ b → (most == 1) ≡ c → leaf (valued_shape name least most) (x ∷ xs) ≡ []
    go true true p q =
        let l = sym (eqb-true least 1 p) in
        let m = sym (eqb-true most 1 q) in
        subst (λ (k : ℕ). leaf (valued_shape name k most) (x ∷ xs) ≡ []) l (subst (λ (k : ℕ). leaf (valued_shape name 1 k) (x ∷ xs) ≡ []) m
        (one xs (omega (arith, high, eqb-true most 1 q)) d))
    go false c p q = many (λ l m. eqb-false least 1 p l)
    go true false p q = many (λ l m. eqb-false most 1 q m)

-- a subcommand of no values takes no word
pub bare_reads : (name : Text) (ws : List Text) → list_any is_dashed ws ≡ false → leaf (bare_shape name) ws ≡ [] → Takes (bare_shape name) 0 0 ws
bare_reads name [] d none = record { least_is = omega arith; most_is = omega arith; values = refl }
bare_reads name (x ∷ xs) d none = absurd (bare_refuses name x xs (or_parts (is_dashed x) (list_any is_dashed xs) d).0 none)
