-- Outputs one by one, and events one by one.
use Rattle.std.proofs.Common.{◌≡◌, ℕ, zero, suc, ◌+◌, ◌-◌, ◌%◌, ◌<◌, ◌≤◌, List, [], ◌∷◌, ◌++◌, refl, sym, ap, ◌∙◌, arith, append_assoc, append-nil, zero-add}
use Rattle.rand_pcg.specs.Lcg.{Lcg, next, advance, state_after}
use Rattle.rand_pcg.specs.Pcg.{multiplier_64, pcg32}
use Rattle.mm_types.specs.{Event}
use Rattle.mm_generate.specs.{Drawn, Draws, outputs, outputs_from, drawn, drawn_by, drawn_of_kind, drawn_events, read_drawn, write_drawn}

-- the first output is that of the next step
pub first_output : (g : Lcg) → (pcg32 g).0 ≡ outputs g 0
unfolding outputs state_after
first_output g = refl

-- the outputs of a generator after one step
pub outputs_later : (g : Lcg) (i : ℕ) → outputs (next 64 multiplier_64 g) i ≡ outputs g (suc i)
unfolding outputs state_after
outputs_later g i = refl

pub one_step : (g : Lcg) → next 64 multiplier_64 g ≡ advance 64 multiplier_64 1 g
unfolding state_after
one_step g = refl

pub advance_later : (n : ℕ) (g : Lcg) → advance 64 multiplier_64 n (next 64 multiplier_64 g) ≡ advance 64 multiplier_64 (suc n) g
unfolding state_after
advance_later n g = refl

advance_none : (g : Lcg) → advance 64 multiplier_64 0 g ≡ g
unfolding state_after
advance_none g = refl

pub outputs_after : (n : ℕ) (g : Lcg) (i : ℕ) → outputs (advance 64 multiplier_64 n g) i ≡ outputs g (n + i)
outputs_after zero g i = ap (λ (h : Lcg). outputs h i) (advance_none g) ∙ ap (outputs g) (sym (zero-add i))
outputs_after (suc n) g i =
    let more : suc (n + i) ≡ suc n + i = omega arith in
    ap (λ (h : Lcg). outputs h i) (sym (advance_later n g))
    ∙ outputs_after n (next 64 multiplier_64 g) i
    ∙ outputs_later g (n + i)
    ∙ ap (outputs g) more

pub outputs_behind : (n : ℕ) (g : Lcg) → outputs (advance 64 multiplier_64 n g) ≡ outputs_from n (outputs g)
outputs_behind n g = λ k. λ i. outputs_after n g i k

-- ---- the drawn events, from one on

pub events_more : (n : ℕ) (g : Lcg) → drawn_events (suc n) (outputs g) ≡ (drawn (outputs g)).event ∷ drawn_events n (outputs (advance 64 multiplier_64 (drawn (outputs g)).taken g))
unfolding drawn_events
events_more n g =
    ap (λ (words : ℕ → ℕ). (drawn (outputs g)).event ∷ drawn_events n words) (sym (outputs_behind (drawn (outputs g)).taken g))

pub events_none : (words : ℕ → ℕ) → drawn_events 0 words ≡ []
unfolding drawn_events
events_none words = refl

-- ---- the event of a kind

pub of_kind : (g : Lcg) (drew kind : ℕ) → drew ≡ outputs g 0 % 8 → drew ≡ kind → drawn_of_kind kind (outputs g) ≡ drawn (outputs g)
of_kind g drew kind e is = ap (λ (k : ℕ). drawn_of_kind k (outputs g)) (sym is ∙ e)

pub low_kind : (kind : ℕ) (words : ℕ → ℕ) → kind ≤ 1 → drawn_of_kind kind words ≡ drawn_by (write_drawn 1 160 (words 1) (words 2)) 3
low_kind zero words h = refl
low_kind (suc zero) words h = refl
low_kind (suc (suc kind)) words h = absurd (omega arith)

pub draws : (g : Lcg) {d : Drawn} {e : Event} {after : Lcg} → d ≡ drawn (outputs g) → e ≡ d.event → after ≡ advance 64 multiplier_64 d.taken g → Draws g e after
draws g same is step = record { event = is ∙ ap (λ (x : Drawn). x.event) same; after = step ∙ ap (λ (x : Drawn). advance 64 multiplier_64 x.taken g) same }

-- a read and a write after the draw of their kind
module _ (g later : Lcg) (step : later ≡ next 64 multiplier_64 g) where
  pub output_behind : (i : ℕ) → outputs later i ≡ outputs g (suc i)
  output_behind i = ap (λ (h : Lcg). outputs h i) step ∙ outputs_later g i

  pub advance_behind : (n : ℕ) → advance 64 multiplier_64 n later ≡ advance 64 multiplier_64 (suc n) g
  advance_behind n = ap (advance 64 multiplier_64 n) step ∙ advance_later n g

  pub read_behind : (pid pages : ℕ) → read_drawn pid pages (outputs later 0) ≡ read_drawn pid pages (outputs g 1)
  read_behind pid pages = ap (read_drawn pid pages) (output_behind 0)

  pub write_behind : (pid pages : ℕ) → write_drawn pid pages (outputs later 0) (outputs later 1) ≡ write_drawn pid pages (outputs g 1) (outputs g 2)
  write_behind pid pages =
      ap (λ (w : ℕ). write_drawn pid pages w (outputs later 1)) (output_behind 0)
      ∙ ap (λ (w : ℕ). write_drawn pid pages (outputs g 1) w) (output_behind 1)

pub two_steps : (g : Lcg) → next 64 multiplier_64 (advance 64 multiplier_64 1 g) ≡ advance 64 multiplier_64 2 g
unfolding state_after
two_steps g = refl

-- ---- a script, as one more of its events is drawn, and when all are

pub one_more : (items items' whole : List Event) (e : Event) (count k : ℕ) (g later : Lcg) → k < count → items' ≡ items ++ e ∷ [] → Draws g e later → items ++ drawn_events (count - k) (outputs g) ≡ whole → items' ++ drawn_events (count - (k + 1)) (outputs later) ≡ whole
one_more items items' whole e count k g later h pushed d told =
    let left = count - (k + 1) in
    let more : suc left ≡ count - k = omega arith in
    ap (λ (xs : List Event). xs ++ drawn_events left (outputs later)) pushed
    ∙ append_assoc items (e ∷ []) (drawn_events left (outputs later))
    ∙ ap (λ (x : Event). items ++ x ∷ drawn_events left (outputs later)) d.event
    ∙ ap (λ (w : Lcg). items ++ (drawn (outputs g)).event ∷ drawn_events left (outputs w)) d.after
    ∙ ap (λ (xs : List Event). items ++ xs) (sym (events_more left g))
    ∙ ap (λ (n : ℕ). items ++ drawn_events n (outputs g)) more
    ∙ told

pub all_drawn : (items whole : List Event) (left : ℕ) (words : ℕ → ℕ) → left ≡ 0 → items ++ drawn_events left words ≡ whole → items ≡ whole
all_drawn items whole left words none told =
    sym (append-nil items)
    ∙ ap (λ (xs : List Event). items ++ xs) (sym (ap (λ (n : ℕ). drawn_events n words) none ∙ events_none words))
    ∙ told
