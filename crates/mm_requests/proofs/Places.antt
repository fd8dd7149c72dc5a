-- The place of a frame among the requests in flight.
use Rattle.std.proofs.Common.{◌≡◌, ◌≢◌, ℕ, ◌+◌, ◌<◌, Bool, true, false, not, cond, List, [], ◌∷◌, length, map, get_or, Option, Some, None, refl, ap, ◌∙◌, arith}
use Rattle.std.proofs.Math.ListN.{get_or-map}
use Rattle.std.proofs.lemmas.Bool.Decides.{nat_tests}
use Rattle.std.proofs.lemmas.List.Sums.{position_or_len_is}
use Rattle.std.specs.Prelude.{◌==◌, nat_lt, filter, option_map}
use Rattle.std.specs.List.{position_or_len}
use Rattle.mm_types.specs.{Frame}
use Rattle.mm_types.proofs.{differ}
use Rattle.std.proofs.Common.{subst}
use Rattle.mm_requests.specs.{Waiting, FlightOf, frame_number, place_in, without, ended}

pub read_number : (xs : List Frame) (i : ℕ) → get_or (map frame_number xs) i 0 ≡ (get_or xs i (record { 0 = 0 })).0
read_number xs i = get_or-map frame_number xs i (record { 0 = 0 })

pub other_frame : (xs : List Frame) (i f : ℕ) → (get_or xs i (record { 0 = 0 })).0 ≢ f → (get_or (map frame_number xs) i 0 == f) ≡ false
other_frame xs i f other = ap (λ n. n == f) (read_number xs i) ∙ differ (get_or xs i (record { 0 = 0 })).0 f other

pub same_frame : (xs : List Frame) (i f : ℕ) → (get_or xs i (record { 0 = 0 })).0 ≡ f → (get_or (map frame_number xs) i 0 == f) ≡ true
same_frame xs i f same = ap (λ n. n == f) (read_number xs i ∙ same) ∙ grind (arith, nat_tests)

abbrev place_at : ℕ → Bool → Option ℕ
place_at n within = option_map (λ i. i + 1) (cond within (Some n) None)

pub place_found : (f i : ℕ) (xs : List ℕ) → i < length xs → ((k : ℕ) → k < i → (get_or xs k 0 == f) ≡ false) → (get_or xs i 0 == f) ≡ true → place_in f xs ≡ Some (i + 1)
place_found f i xs within before here =
    let first : position_or_len (λ x. x == f) xs ≡ i = position_or_len_is (λ x. x == f) xs i 0 (omega arith) before (λ _. here) in
    let inside : nat_lt i (length xs) ≡ true = grind (arith, nat_tests) in
    ap (λ n. place_at n (nat_lt n (length xs))) first ∙ ap (place_at i) inside

pub place_missing : (f : ℕ) (xs : List ℕ) → ((k : ℕ) → k < length xs → (get_or xs k 0 == f) ≡ false) → place_in f xs ≡ None
place_missing f xs before =
    let first : position_or_len (λ x. x == f) xs ≡ length xs = position_or_len_is (λ x. x == f) xs (length xs) 0 (omega arith) before (λ h. absurd (omega arith)) in
    let outside : nat_lt (length xs) (length xs) ≡ false = grind (arith, nat_tests) in
    ap (λ n. place_at n (nat_lt n (length xs))) first ∙ ap (place_at (length xs)) outside

split : (b : Bool) (x : Frame) (xs : List Frame) → map frame_number (cond b (x ∷ xs) xs) ≡ cond b (frame_number x ∷ map frame_number xs) (map frame_number xs)
split true x xs = refl
split false x xs = refl

-- the numbers of the frames that stay
pub numbers_without : (f : ℕ) (xs : List Frame) → map frame_number (filter (λ x. not (x.0 == f)) xs) ≡ without f (map frame_number xs)
numbers_without f [] = refl
numbers_without f (x ∷ xs) =
    split (not (x.0 == f)) x (filter (λ y. not (y.0 == f)) xs)
    ∙ ap (λ ys. cond (not (x.0 == f)) (x.0 ∷ ys) ys) (numbers_without f xs)

abbrev made : ℕ → List ℕ → List Waiting → FlightOf
made depth frames waits = record { depth = depth; frames = frames; waits = waits }

-- the value once a request has ended
pub ended_view : (depth : ℕ) (items kept : List Frame) (waits new : List Waiting) (f : ℕ) (ok : Bool) (v : FlightOf) →
    made depth (map frame_number items) waits ≡ v → kept ≡ filter (λ x. not (x.0 == f)) items → new ≡ map (ended f ok) waits →
    made depth (map frame_number kept) new ≡ made v.depth (without f v.frames) (map (ended f ok) v.waits)
ended_view depth items kept waits new f ok v view stays ends =
    let P : FlightOf → Type 0 = λ u. made depth (map frame_number kept) new ≡ made u.depth (without f u.frames) (map (ended f ok) u.waits) in
    subst P view (ap (λ xs. made depth xs new) (ap (map frame_number) stays ∙ numbers_without f items) ∙ ap (made depth (without f (map frame_number items))) ends)
