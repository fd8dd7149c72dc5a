-- The frames in flight stay distinct, and each thread that waits waits for one of them.
use Rattle.std.proofs.Common.{◌≡◌, ◌≢◌, ℕ, zero, suc, ◌+◌, ◌-◌, Bool, true, false, not, cond, List, [], ◌∷◌, ◌++◌, length, map, take, drop, Option, Some, None, refl, sym, ap, ◌∙◌, ◌<◌, ◌≤◌, inl, inr, arith}
use Rattle.std.specs.Prelude.{◌==◌, ◌||◌, slice_get, slice_set, option_map}
use Rattle.std.proofs.lemmas.Bool.{cases_lt, cond_both, eq-eqb, eqb-false, eqb-true, or_from, or_parts}
use Rattle.std.proofs.lemmas.List.{length-append, length-drop, length-map, length-take}
use Rattle.std.proofs.lemmas.Option.{slice_get-map}
use Rattle.std.proofs.lemmas.List.Folds.{list_any-append}
use Rattle.mm_types.specs.{Frame}
use Rattle.mm_types.proofs.{set_cases, differ, or_true}
use Rattle.mm_requests.specs.{Waiting, FlightOf, HoldsRequests, IsKept, AreDistinct, NoneWaitsFrom, is_for, is_requested, without, nth_oldest, ended}
use Rattle.mm_requests.specs.declared.flights.Waiting.TheVariants as waiting

-- ---- membership

in_at : (frames : List ℕ) (k f : ℕ) → slice_get frames k ≡ Some f → is_requested f frames ≡ true
in_at [] k f e = cc
in_at (x ∷ xs) zero f e = let same : x ≡ f = cc in ap (λ b. b || is_requested f xs) (eq-eqb x f same)
in_at (x ∷ xs) (suc k) f e = ap (λ b. (x == f) || b) (in_at xs k f e) ∙ or_true (x == f)

-- a frame stands at one place alone
pub apart_at : (frames : List ℕ) → AreDistinct frames → (i j f : ℕ) → slice_get frames i ≡ Some f → slice_get frames j ≡ Some f → i ≡ j
apart_at [] d i j f e h = cc
apart_at (x ∷ xs) d zero zero f e h = refl
apart_at (x ∷ xs) d zero (suc j) f e h =
    let same : x ≡ f = cc in let bad : true ≡ false = sym (in_at xs j f h) ∙ ap (λ k. is_requested k xs) (sym same) ∙ d.0 in cc
apart_at (x ∷ xs) d (suc i) zero f e h =
    let same : x ≡ f = cc in let bad : true ≡ false = sym (in_at xs i f e) ∙ ap (λ k. is_requested k xs) (sym same) ∙ d.0 in cc
apart_at (x ∷ xs) d (suc i) (suc j) f e h = ap suc (apart_at xs d.1 i j f e h)

-- ---- a request begins

pub distinct_more : (frames : List ℕ) (f : ℕ) → AreDistinct frames → is_requested f frames ≡ false → AreDistinct (frames ++ f ∷ [])
distinct_more [] f d new = (refl, tt)
distinct_more (x ∷ xs) f d new =
    let parts = or_parts (x == f) (is_requested f xs) new in
    let back : (f == x) ≡ false = differ f x (λ e. eqb-false x f parts.0 (sym e)) in
    let here : is_requested x (xs ++ f ∷ []) ≡ false =
    list_any-append (λ y. y == x) xs (f ∷ []) ∙ ap (λ b. b || is_requested x (f ∷ [])) d.0 ∙ ap (λ b. b || false) back in
    (here, distinct_more xs f d.1 parts.1)

in_more : (frames : List ℕ) (f g : ℕ) → is_requested g frames ≡ true → is_requested g (frames ++ f ∷ []) ≡ true
in_more frames f g e = list_any-append (λ y. y == g) frames (f ∷ []) ∙ ap (λ b. b || is_requested g (f ∷ [])) e

-- ---- a request ends

by_first : (b : Bool) (x f g : ℕ) (xs : List ℕ) → (x == f) ≡ b → g ≢ f → is_requested g (cond (not b) (x ∷ xs) xs) ≡ ((x == g) || is_requested g xs)
by_first false x f g xs e apart = refl
by_first true x f g xs e apart =
    let same = eqb-true x f e in
    sym (ap (λ b. b || is_requested g xs) (differ x g (λ h. apart (sym h ∙ same))))

in_without : (frames : List ℕ) (f g : ℕ) → g ≢ f → is_requested g (without f frames) ≡ is_requested g frames
in_without [] f g apart = refl
in_without (x ∷ xs) f g apart = by_first (x == f) x f g (without f xs) refl apart ∙ ap (λ b. (x == g) || b) (in_without xs f g apart)

none_without : (frames : List ℕ) (f g : ℕ) → is_requested g frames ≡ false → is_requested g (without f frames) ≡ false
none_without [] f g none = refl
none_without (x ∷ xs) f g none =
    let parts = or_parts (x == g) (is_requested g xs) none in
    let rest = none_without xs f g parts.1 in
    cond_both (not (x == f)) (x ∷ without f xs) (without f xs) (λ ys. is_requested g ys ≡ false) (λ e. or_from (x == g) (is_requested g (without f xs)) parts.0 rest) (λ e. rest)

pub distinct_without : (frames : List ℕ) (f : ℕ) → AreDistinct frames → AreDistinct (without f frames)
distinct_without [] f d = tt
distinct_without (x ∷ xs) f d =
    let rest = distinct_without xs f d.1 in
    cond_both (not (x == f)) (x ∷ without f xs) (without f xs) AreDistinct (λ e. (none_without xs f x d.0, rest)) (λ e. rest)

-- a wait that is left was one for another frame
by_wait : (b : Bool) (h g : Frame) (f : ℕ) (ok : Bool) → (h.0 == f) ≡ b → cond b (cond ok waiting.Done waiting.Failed) (waiting.For h) ≡ waiting.For g → (waiting.For h ≡ waiting.For g) × (g.0 ≢ f)
by_wait true h g f true e left = cc
by_wait true h g f false e left = cc
by_wait false h g f ok e left =
    let same : h ≡ g = cc in (left, λ k. eqb-false h.0 f e (ap (λ (q : Frame). q.0) same ∙ k))

wait_left : (w : Waiting) (g : Frame) (f : ℕ) (ok : Bool) → ended f ok w ≡ waiting.For g → (w ≡ waiting.For g) × (g.0 ≢ f)
wait_left waiting.Nothing g f ok e = cc
wait_left (waiting.For h) g f ok e = by_wait (h.0 == f) h g f ok refl e
wait_left waiting.Done g f ok e = cc
wait_left waiting.Failed g f ok e = cc

wait_before : (o : Option Waiting) (g : Frame) (f : ℕ) (ok : Bool) → option_map (ended f ok) o ≡ Some (waiting.For g) → (o ≡ Some (waiting.For g)) × (g.0 ≢ f)
wait_before None g f ok e = cc
wait_before (Some w) g f ok e =
    let here : ended f ok w ≡ waiting.For g = cc in let h = wait_left w g f ok here in (ap (λ (v : Waiting). Some v) h.0, h.1)

-- ---- frames and their numbers

pub nth_at : (i : ℕ) (frames : List ℕ) → i ≢ 0 → nth_oldest i frames ≡ slice_get frames (i - 1)
nth_at zero frames some = absurd (some refl)
nth_at (suc i) frames some = let before : i ≡ suc i - 1 = omega arith in ap (slice_get frames) before

-- ---- threads that do not wait

stays : (f : ℕ) (ok : Bool) (w : Waiting) → is_for w ≡ false → ended f ok w ≡ w
stays f ok waiting.Nothing e = refl
stays f ok (waiting.For g) e = cc
stays f ok waiting.Done e = refl
stays f ok waiting.Failed e = refl

none_ends : (f : ℕ) (ok : Bool) (ws : List Waiting) → NoneWaitsFrom 0 ws → map (ended f ok) ws ≡ ws
none_ends f ok [] h = refl
none_ends f ok (w ∷ ws) h =
    ap (λ v. v ∷ map (ended f ok) ws) (stays f ok w (h zero w (omega arith) refl))
    ∙ ap (λ vs. w ∷ vs) (none_ends f ok ws (λ t v le e. h (suc t) v (omega arith) e))

-- the end of a request asks no thread from n on
pub all_ended : (f : ℕ) (ok : Bool) (n : ℕ) (ws : List Waiting) → NoneWaitsFrom n ws → map (ended f ok) (take n ws) ++ drop n ws ≡ map (ended f ok) ws
all_ended f ok zero [] h = refl
all_ended f ok (suc n) [] h = refl
all_ended f ok zero (w ∷ ws) h = sym (none_ends f ok (w ∷ ws) h)
all_ended f ok (suc n) (w ∷ ws) h = ap (λ vs. ended f ok w ∷ vs) (all_ended f ok n ws (λ t v le e. h (suc t) v (omega arith) e))

pub covered : (g : Waiting → Waiting) (n : ℕ) (ws : List Waiting) → length (map g (take n ws) ++ drop n ws) ≡ length ws
covered g n ws = omega (arith, length-append (map g (take n ws)) (drop n ws), length-map (take n ws) g, length-take n ws, length-drop n ws)

still_none : (f : ℕ) (ok : Bool) (o : Option Waiting) (w : Waiting) → ((v : Waiting) → o ≡ Some v → is_for v ≡ false) → option_map (ended f ok) o ≡ Some w → is_for w ≡ false
still_none f ok None w h e = cc
still_none f ok (Some v) w h e =
    let here : ended f ok v ≡ w = cc in ap is_for (sym here ∙ stays f ok v (h v refl)) ∙ h v refl

none_after : (f : ℕ) (ok : Bool) (n : ℕ) (ws : List Waiting) → NoneWaitsFrom n ws → NoneWaitsFrom n (map (ended f ok) ws)
none_after f ok n ws h t w le e = still_none f ok (slice_get ws t) w (λ v s. h t v le s) (sym (slice_get-map (ended f ok) ws t) ∙ e)

-- none waits below n, by one who asked, and none from n on
pub none_left : (f : ℕ) (ok : Bool) (m n : ℕ) (ws vs : List Waiting) → NoneWaitsFrom n ws → vs ≡ map (ended f ok) ws → ((t : ℕ) (w : Waiting) → m ≤ t → t < n → slice_get vs t ≡ Some w → is_for w ≡ false) → NoneWaitsFrom m vs
none_left f ok m n ws vs h is below t w le e = elim (cases_lt t n) [
  | inl low ↦ below t w le low e
  | inr high ↦ none_after f ok n ws h t w high (ap (λ us. slice_get us t) (sym is) ∙ e)
]

-- one more thread was asked
pub none_asked : (m t : ℕ) (ws : List Waiting) (x : Waiting) → t < length ws → is_for x ≡ false → ((k : ℕ) (w : Waiting) → m ≤ k → k < t → slice_get ws k ≡ Some w → is_for w ≡ false) → (k : ℕ) (w : Waiting) → m ≤ k → k < t + 1 → slice_get (slice_set ws t x) k ≡ Some w → is_for w ≡ false
none_asked m t ws x inside idle before k w le lt e = elim (set_cases ws t k x w inside e) [
  | inl here ↦ ap is_for (sym here.1) ∙ idle
  | inr apart ↦ before k w le (below apart.0) apart.1
]
  where
    below : k ≢ t → k < t
    below other = elim (cases_lt k t) [ inl low ↦ low | inr high ↦ absurd (other (omega (arith, high, lt))) ]

-- ---- what the type keeps

module _ (frames : List ℕ) (waits : List Waiting) (h : IsKept frames waits) where
  pub kept_begun : (f : ℕ) → is_requested f frames ≡ false → IsKept (frames ++ f ∷ []) waits
  kept_begun f new = record {
    distinct = distinct_more frames f h.distinct new;
    awaited = λ t g e. in_more frames f g.0 (h.awaited t g e);
  }

  pub kept_ended : (f : ℕ) (ok : Bool) → IsKept (without f frames) (map (ended f ok) waits)
  kept_ended f ok = record {
    distinct = distinct_without frames f h.distinct;
    awaited = λ t g e.
        let was = wait_before (slice_get waits t) g f ok (sym (slice_get-map (ended f ok) waits t) ∙ e) in
        in_without frames f g.0 was.1 ∙ h.awaited t g was.0;
  }

pub holds_at : (v : FlightOf) → IsKept v.frames v.waits → HoldsRequests v
holds_at v h = record { distinct = apart_at v.frames h.distinct; awaited = h.awaited }
