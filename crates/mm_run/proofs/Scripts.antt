-- A script comes to one thing.
use Rattle.std.proofs.Common.{◌≡◌, ◌≢◌, ◌⊎◌, ℕ, ◌+◌, ◌<◌, ◌≤◌, suc, List, [], ◌∷◌, ◌++◌, length, Option, Some, None, refl, sym, ap, ◌∙◌, subst, inl, inr, arith, append_assoc, length-append}
use Rattle.std.specs.Prelude.{Ok, Err, map}
use Rattle.mm_types.specs.{Appended, Took, Text, spelled, Event}
use Rattle.mm_types.proofs.{append_nil}
use Rattle.mm_io.specs.{NoFeed, FitsLine, with_line_feed, text_of_lines}
use Rattle.mm_run.specs.{Ending, reading_of, Stage, DecidedLine, AreAnswered, texts_of, answers_in, status_of, last_text, SettlesRun, IsBad, IsOpen}
use Rattle.mm_run.specs.{Around, RanOrRefused, begun_at, EachSays, IsVerdict, IsScriptOf, IsFault, IsComplete}
use Rattle.mm_run.specs.declared.endings.Ending.TheVariants as ending
use Rattle.mm_run.specs.Ran.{Ran}

-- Bytes without a line feed are no longer than the line in front.
front_short : (l front r more : Text) → NoFeed front → l ++ 10 ∷ r ≡ front ++ more → length front ≤ length l
front_short [] [] r more u e = omega arith
front_short [] (x ∷ front) r more u e = let ten : x ≡ 10 = cc in absurd (u.0 ten)
front_short (y ∷ l) [] r more u e = omega arith
front_short (y ∷ l) (x ∷ front) r more u e =
    let tail : l ++ 10 ∷ r ≡ front ++ more = cc in
    let le = front_short l front r more u.1 tail in omega arith

one_line : (l k r s : Text) → NoFeed l → NoFeed k → l ++ 10 ∷ r ≡ k ++ 10 ∷ s → (l ≡ k) × (r ≡ s)
one_line [] [] r s u v e = (refl, cc)
one_line [] (x ∷ k) r s u v e = let ten : x ≡ 10 = cc in absurd (v.0 ten)
one_line (x ∷ l) [] r s u v e = let ten : x ≡ 10 = cc in absurd (u.0 ten)
one_line (x ∷ l) (y ∷ k) r s u v e =
    let tail : l ++ 10 ∷ r ≡ k ++ 10 ∷ s = cc in
    let head : x ≡ y = cc in
    let both = one_line l k r s u.1 v.1 tail in
    (ap (λ z. z ∷ l) head ∙ ap (λ zs. y ∷ zs) both.0, both.1)

-- the same of a line with its feed, and what follows
feed_then : (l r : Text) → with_line_feed l ++ r ≡ l ++ 10 ∷ r
feed_then l r = append_assoc l (10 ∷ []) r

-- the first line of two texts that are the same, one of them a whole line and more
same_line : (l k front r more : Text) → NoFeed l → NoFeed k → front ≡ with_line_feed k → with_line_feed l ++ r ≡ front ++ more → l ≡ k
same_line l k front r more u v w q =
    let both = one_line l k r more u v (sym (feed_then l r) ∙ q ∙ ap (λ xs. xs ++ more) w ∙ feed_then k more) in both.0

-- A line in the grammar settles nothing.
goes_on : (n : ℕ) (l r front more : Text) (e : Ending) (event : Event) → n < 1000000 → FitsLine l → reading_of n l ≡ Ok event → IsVerdict e → SettlesRun n front more (Some []) e → with_line_feed l ++ r ≡ front ++ more → ⊥
goes_on n l r front more ending.Done event few line p v s q =
    let len = ap length q in
    omega (arith, len, length-append (with_line_feed l) r, length-append l (10 ∷ []), length-append front more, ap length s.1, ap length s.2)
goes_on n l r front more (ending.Script number column) event few line p v s q = elim s.2 [
  | inl bad ↦ (let same = same_line l bad.line front r more line.no_feed bad.is_line.no_feed bad.whole q in
      let clash : Ok event ≡ Err column = sym p ∙ ap (reading_of n) same ∙ bad.place in cc)
  | inr open_ ↦ (let le = front_short l front r more open_.is_line.no_feed (sym (feed_then l r) ∙ q) in
      let len = ap length q in
      omega (arith, len, length-append (with_line_feed l) r, length-append l (10 ∷ []), length-append front more, ap length open_.last))
]
goes_on n l r front more (ending.TooLong number) event few line p v s q = elim s.1 [
  | inl long ↦ (let le = front_short l front r more long.1 (sym (feed_then l r) ∙ q) in let short = line.short in let many = long.0 in omega arith)
  | inr full ↦ (let all = full.0 in omega arith)
]
goes_on n l r front more ending.NoMemory event few line p v s q = v
goes_on n l r front more x event few line p v s q = v

bad_and_long : (n : ℕ) (front more front' more' : Text) (column : ℕ) → front ++ more ≡ front' ++ more' → n < 1000000 → IsBad n front column ⊎ IsOpen n front more (Some []) column
    → ((length front' ≡ 257) × NoFeed front') ⊎ ((n ≡ 1000000) × (length front' ≡ 1)) → ⊥
bad_and_long n front more front' more' column q few (inl bad) (inl long) =
    let le = front_short bad.line front' more more' long.1 (sym (feed_then bad.line more) ∙ ap (λ xs. xs ++ more) (sym bad.whole) ∙ q) in
    let short = bad.is_line.short in let many = long.0 in omega arith
bad_and_long n front more front' more' column q few (inr o) (inl long) =
    let short = o.is_line.short in let many = long.0 in
    omega (arith, ap length q, length-append front more, length-append front' more', ap length o.last)
bad_and_long n front more front' more' column q few b (inr full) = let all = full.0 in omega arith

-- a whole line, and bytes without one up to the end
whole_and_open : (n : ℕ) (line front more front' more' : Text) (column : ℕ) → front ++ more ≡ front' ++ more' → front ≡ with_line_feed line → IsOpen n front' more' (Some []) column → ⊥
whole_and_open n line front more front' more' column q w o =
    let le = front_short line front' more more' o.is_line.no_feed (sym (feed_then line more) ∙ ap (λ xs. xs ++ more) (sym w) ∙ q) in
    omega (arith, ap length q, length-append front more, length-append front' more', ap length o.last, ap length w, length-append line (10 ∷ []))

-- two whole lines at the same place
two_whole : (line line' front more front' more' : Text) → front ++ more ≡ front' ++ more' → FitsLine line → FitsLine line' → front ≡ with_line_feed line → front' ≡ with_line_feed line' → line ≡ line'
two_whole line line' front more front' more' q u v w w' =
    same_line line line' front' more more' u.no_feed v.no_feed w' (ap (λ xs. xs ++ more) (sym w) ∙ q)

one_column : (n : ℕ) (front more front' more' : Text) (column column' : ℕ) → front ++ more ≡ front' ++ more' → IsBad n front column ⊎ IsOpen n front more (Some []) column
    → IsBad n front' column' ⊎ IsOpen n front' more' (Some []) column' → column ≡ column'
one_column n front more front' more' column column' q (inl b) (inl d) =
    let same = two_whole b.line d.line front more front' more' q b.is_line d.is_line b.whole d.whole in
    let both : Err column ≡ Err column' = sym b.place ∙ ap (reading_of n) same ∙ d.place in cc
one_column n front more front' more' column column' q (inl b) (inr o) = absurd (whole_and_open n b.line front more front' more' column' q b.whole o)
one_column n front more front' more' column column' q (inr o) (inl b) = absurd (whole_and_open n b.line front' more' front more column (sym q) b.whole o)
one_column n front more front' more' column column' q (inr o) (inr i) =
    let a = o.place in let b = i.place in
    omega (arith, ap length q, length-append front more, length-append front' more', ap length o.last, ap length i.last)

done_and_bad : (n : ℕ) (front more front' more' : Text) (column : ℕ) → front ≡ [] → more ≡ [] → front ++ more ≡ front' ++ more' → 0 < n → IsBad n front' column ⊎ IsOpen n front' more' (Some []) column → ⊥
done_and_bad n front more front' more' column f m q some (inl bad) =
    omega (arith, ap length f, ap length m, ap length q, length-append front more, length-append front' more', ap length bad.whole, length-append bad.line (10 ∷ []))
done_and_bad n front more front' more' column f m q some (inr o) = elim o.some [
  | inl s ↦ omega (arith, ap length f, ap length m, ap length q, length-append front more, length-append front' more')
  | inr z ↦ omega arith
]

done_and_long : (n : ℕ) (front more front' more' : Text) → front ≡ [] → more ≡ [] → front ++ more ≡ front' ++ more' → ((length front' ≡ 257) × NoFeed front') ⊎ ((n ≡ 1000000) × (length front' ≡ 1)) → ⊥
done_and_long n front more front' more' f m q (inl long) = let many = long.0 in omega (arith, ap length f, ap length m, ap length q, length-append front more, length-append front' more')
done_and_long n front more front' more' f m q (inr full) = let one = full.1 in omega (arith, ap length f, ap length m, ap length q, length-append front more, length-append front' more')

one_ending : (n : ℕ) (front more front' more' : Text) (e f : Ending) → front ++ more ≡ front' ++ more' → IsVerdict e → IsVerdict f → SettlesRun n front more (Some []) e → SettlesRun n front' more' (Some []) f → e ≡ f
one_ending n x y x' y' ending.Done ending.Done q v w s t = refl
one_ending n x y x' y' ending.Done (ending.Script l c) q v w s t = absurd (done_and_bad n x y x' y' c s.1 s.2 q s.0 t.2)
one_ending n x y x' y' ending.Done (ending.TooLong l) q v w s t = absurd (done_and_long n x y x' y' s.1 s.2 q t.1)
one_ending n x y x' y' (ending.Script l c) ending.Done q v w s t = absurd (done_and_bad n x' y' x y c t.1 t.2 (sym q) t.0 s.2)
one_ending n x y x' y' (ending.Script l c) (ending.Script k d) q v w s t =
    ap (λ m. ending.Script m c) (s.0 ∙ sym t.0) ∙ ap (λ m. ending.Script k m) (one_column n x y x' y' c d q s.2 t.2)
one_ending n x y x' y' (ending.Script l c) (ending.TooLong k) q v w s t = absurd (bad_and_long n x y x' y' c q s.1 s.2 t.1)
one_ending n x y x' y' (ending.TooLong l) ending.Done q v w s t = absurd (done_and_long n x' y' x y t.1 t.2 (sym q) s.1)
one_ending n x y x' y' (ending.TooLong l) (ending.Script k d) q v w s t = absurd (bad_and_long n x' y' x y d (sym q) t.1 t.2 s.1)
one_ending n x y x' y' (ending.TooLong l) (ending.TooLong k) q v w s t = ap (λ m. ending.TooLong m) (s.0 ∙ sym t.0)
one_ending n x y x' y' ending.Done f q v w s t = absurd w
one_ending n x y x' y' (ending.Script l c) f q v w s t = absurd w
one_ending n x y x' y' (ending.TooLong l) f q v w s t = absurd w
one_ending n x y x' y' e f q v w s t = absurd v

-- From n decided lines on there is one reading.
one_from : (n : ℕ) (ls ks : List Text) (es gs : List Event) (x y x' y' : Text) (e f : Ending)
    → text_of_lines ls ++ (x ++ y) ≡ text_of_lines ks ++ (x' ++ y') → EachSays n ls es → EachSays n ks gs → n + length ls ≤ 1000000 → n + length ks ≤ 1000000
    → SettlesRun (n + length ls) x y (Some []) e → SettlesRun (n + length ks) x' y' (Some []) f → IsVerdict e → IsVerdict f → (ls ≡ ks) × (e ≡ f)
one_from n [] [] es gs x y x' y' e f q u v a b s r p w =
    (refl, one_ending (n + 0) x y x' y' e f q p w s r)
one_from n [] (k ∷ ks) es (g ∷ gs) x y x' y' e f q u v a b s r p w =
    let here : n + 0 ≡ n = omega arith in
    absurd (goes_on n k (text_of_lines ks ++ (x' ++ y')) x y e g (omega arith) v.0.is_line v.0.says p (subst (λ (m : ℕ). SettlesRun m x y (Some []) e) here s) (sym (q ∙ append_assoc (with_line_feed k) (text_of_lines ks) (x' ++ y'))))
one_from n [] (k ∷ ks) es [] x y x' y' e f q u v a b s r p w = absurd v
one_from n (l ∷ ls) [] (g ∷ es) gs x y x' y' e f q u v a b s r p w =
    let here : n + 0 ≡ n = omega arith in
    absurd (goes_on n l (text_of_lines ls ++ (x ++ y)) x' y' f g (omega arith) u.0.is_line u.0.says w (subst (λ (m : ℕ). SettlesRun m x' y' (Some []) f) here r) (sym (append_assoc (with_line_feed l) (text_of_lines ls) (x ++ y)) ∙ q))
one_from n (l ∷ ls) [] [] gs x y x' y' e f q u v a b s r p w = absurd u
one_from n (l ∷ ls) (k ∷ ks) [] gs x y x' y' e f q u v a b s r p w = absurd u
one_from n (l ∷ ls) (k ∷ ks) (h ∷ es) [] x y x' y' e f q u v a b s r p w = absurd v
one_from n (l ∷ ls) (k ∷ ks) (h ∷ es) (g ∷ gs) x y x' y' e f q u v a b s r p w =
    let split = one_line l k (text_of_lines ls ++ (x ++ y)) (text_of_lines ks ++ (x' ++ y')) u.0.is_line.no_feed v.0.is_line.no_feed
    (sym (feed_then l (text_of_lines ls ++ (x ++ y))) ∙ sym (append_assoc (with_line_feed l) (text_of_lines ls) (x ++ y)) ∙ q ∙ append_assoc (with_line_feed k) (text_of_lines ks) (x' ++ y') ∙ feed_then k (text_of_lines ks ++ (x' ++ y'))) in
    let i : n + suc (length ls) ≡ suc n + length ls = omega arith in
    let j : n + suc (length ks) ≡ suc n + length ks = omega arith in
    let rest = one_from (suc n) ls ks es gs x y x' y' e f split.1 u.1 v.1 (omega arith) (omega arith)
    (subst (λ (m : ℕ). SettlesRun m x y (Some []) e) i s) (subst (λ (m : ℕ). SettlesRun m x' y' (Some []) f) j r) p w in
    (ap (λ z. z ∷ ls) split.0 ∙ ap (λ zs. k ∷ zs) rest.0, rest.1)

pub one_script : (text : Text) (ls ks : List Text) (e f : Ending) → IsScriptOf text 0 ls e → IsScriptOf text 0 ks f → (ls ≡ ks) × (e ≡ f)
one_script text ls ks e f a b = one_from 0 ls ks a.events b.events a.front a.more b.front b.more e f (sym a.whole ∙ b.whole) a.each b.each a.limit b.limit a.settled b.settled a.verdict b.verdict

-- What was left makes no difference.
settles_all : (n : ℕ) (x y rest : Text) (e : Ending) → IsVerdict e → SettlesRun n x y (Some rest) e → SettlesRun n x (y ++ rest) (Some []) e
settles_all n x y rest ending.Done v s = (s.0, s.1, ap (λ ys. ys ++ rest) s.2 ∙ s.3, refl)
settles_all n x y rest (ending.Script l c) v s = (
  s.0,
  s.1,
  elim s.2 [
    | inl bad ↦ inl bad
    | inr o ↦ inr (record { is_line = o.is_line; last = ap (λ ys. ys ++ rest) o.last ∙ o.at_end; at_end = refl; some = o.some; place = o.place })
  ],
)
settles_all n x y rest (ending.TooLong l) v s = s
settles_all n x y rest other v s = absurd v

abbrev events_of : List DecidedLine → List Event
events_of lines = map (λ l. l.event) lines

each_of : (n : ℕ) (old : Stage) (lines : List DecidedLine) → AreAnswered n old lines → EachSays n (texts_of lines) (events_of lines)
each_of n old [] u = tt
each_of n old (l ∷ ls) u = (u.0.says, each_of (suc n) l.after ls u.2)

texts_many : (lines : List DecidedLine) → length (texts_of lines) ≡ length lines
texts_many [] = refl
texts_many (l ∷ ls) = ap suc (texts_many ls)

verdict_or : (e : Ending) → e ≢ ending.Usage → IsVerdict e ⊎ IsFault (status_of e)
verdict_or ending.NoMemory u = inr (inl refl)
verdict_or ending.Usage u = absurd (u refl)
verdict_or ending.ReadFault u = inr (inr (inl refl))
verdict_or ending.OutFault u = inr (inr (inr (inl refl)))
verdict_or ending.MovesFault u = inr (inr (inr (inr (inl refl))))
verdict_or ending.SetupFault u = inr (inr (inr (inr (inr refl))))
verdict_or e u = inl tt

usage_only : (e : Ending) → status_of e ≡ 2 → e ≡ ending.Usage
usage_only ending.Usage q = refl
usage_only e q = absurd (omega arith)

-- a run that is a verdict is over the script
module _ (a b : Around) (form : Type 0) (status : ℕ) (ran : Ran a b form status) where
  script_of : (text : Text) (left left' : Option Text) → left ≡ Some text → Took left left' ran.taken → SettlesRun (length ran.lines) ran.front ran.more left' ran.e → IsVerdict ran.e → IsScriptOf text 0 (texts_of ran.lines) ran.e
  script_of text None left' q r s v = cc
  script_of text (Some x) None q r s v = absurd r
  script_of text (Some x) (Some rest) q r s v =
      let same : x ≡ text = cc in
      let many = texts_many ran.lines in
      let here : length ran.lines ≡ 0 + length (texts_of ran.lines) = omega (arith, many) in
      let l = ran.limit in
      record {
        events = events_of ran.lines;
        front = ran.front;
        more = ran.more ++ rest;
        whole = sym same ∙ r ∙ ap (λ xs. xs ++ rest) ran.whole ∙ append_assoc (text_of_lines (texts_of ran.lines)) (ran.front ++ ran.more) rest ∙ ap (λ xs. text_of_lines (texts_of ran.lines) ++ xs) (append_assoc ran.front ran.more rest);
        each = each_of 0 (begun_at a.beside) ran.lines ran.answered;
        limit = omega (arith, many, l);
        settled = subst (λ (k : ℕ). SettlesRun k ran.front (ran.more ++ rest) (Some []) ran.e) here (settles_all (length ran.lines) ran.front ran.more rest ran.e v s);
        verdict = v;
      }

  complete : (text : Text) (lines : List Text) (e : Ending) → a.left ≡ Some text → IsScriptOf text 0 lines e → status ≡ status_of ran.e → IsVerdict ran.e → Appended a.took b.took (spelled (answers_in ran.lines) ++ last_text ran.e) → IsComplete a b form lines e status
  complete text lines e told script q v w =
      let one = one_script text (texts_of ran.lines) lines ran.e e (script_of text a.left b.left told ran.read ran.settled v) script in
      record {
        ran = ran;
        came_to = one.1;
        all = one.0;
        status_is = q ∙ ap status_of one.1;
        wrote = subst (λ (f : Ending). Appended a.took b.took (spelled (answers_in ran.lines) ++ last_text f)) one.1 w;
      }

  exact_ran : (text : Text) (lines : List Text) (e : Ending) → a.left ≡ Some text → form → IsScriptOf text 0 lines e → IsComplete a b form lines e status ⊎ IsFault status
  exact_ran text lines e told words script = elim ran.ends [
    | inl whole ↦ elim (verdict_or ran.e (ran.is_form words)) [
      | inr fault ↦ inr (subst IsFault (sym whole.status_is) fault)
      | inl verdict ↦ inl (complete text lines e told script whole.status_is verdict (subst (λ (ws : Text). Appended a.took b.took ws) (whole.text ∙ ap (λ ls. spelled (answers_in ls) ++ last_text ran.e) (all_told whole.all_told)) ran.wrote))
    ]
    | inr (inl torn) ↦ inr (inr (inr (inl torn.status_is)))
    | inr (inr some) ↦ inr (inr (inr (inr (inl some.status_is))))
  ]
    where
      all_told : ran.kept ≡ [] → ran.told ≡ ran.lines
      all_told none = sym (ran.split ∙ ap (λ ls. ran.told ++ ls) none ∙ append_nil ran.told)

  usage_ran : (form → ⊥) → (status ≡ 2) ⊎ IsFault status
  usage_ran no_words = elim ran.ends [
    | inl whole ↦ inl (whole.status_is ∙ ap status_of (ran.no_form no_words))
    | inr (inl torn) ↦ inr (inr (inr (inl torn.status_is)))
    | inr (inr some) ↦ inr (inr (inr (inr (inl some.status_is))))
  ]

  not_usage_ran : form → status ≢ 2
  not_usage_ran words two = elim ran.ends [
    | inl whole ↦ ran.is_form words (usage_only ran.e (sym whole.status_is ∙ two))
    | inr (inl torn) ↦ (let five = torn.status_is in omega (arith, five, two))
    | inr (inr some) ↦ (let six = some.status_is in omega (arith, six, two))
  ]

-- or memory was refused before anything else
module _ (a b : Around) (form : Type 0) (status : ℕ) where
  pub exact : RanOrRefused a b form status → (text : Text) (lines : List Text) (e : Ending) → a.left ≡ Some text → form → IsScriptOf text 0 lines e → IsComplete a b form lines e status ⊎ IsFault status
  exact (inl ran) text lines e told words script = exact_ran a b form status ran text lines e told words script
  exact (inr refused) text lines e told words script = inr (inl refused.status_is)

  pub usage : RanOrRefused a b form status → (form → ⊥) → (status ≡ 2) ⊎ IsFault status
  usage (inl ran) no_words = usage_ran a b form status ran no_words
  usage (inr refused) no_words = inr (inl refused.status_is)

  pub not_usage : RanOrRefused a b form status → form → status ≢ 2
  not_usage (inl ran) words two = not_usage_ran a b form status ran words two
  not_usage (inr refused) words two = let one = refused.status_is in omega (arith, one, two)
