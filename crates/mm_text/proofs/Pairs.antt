-- Pairs of digits, read from the first on.
use Rattle.std.proofs.Common.{◌≡◌, ℕ, suc, ◌+◌, ◌*◌, ◌≤◌, ◌<◌, cond, List, [], ◌∷◌, ◌++◌, length, drop, take, set, get_or, Option, Some, None, refl, sym, ap, ◌∙◌, arith, append_assoc}
use Rattle.std.specs.Prelude.{nat_le}
use Rattle.std.specs.Option.{option_and_then}
use Rattle.std.proofs.lemmas.List.{take_more_set, append-nil}
use Rattle.std.proofs.lemmas.Bool.{and_right, lt-leb}
use Rattle.mm_types.specs.{Text}
use Rattle.mm_text.specs.{pair_of, byte_before, pairs_of, few_bytes, bytes_of_pairs}

-- bytes after those that were read
abbrev pub behind : List ℕ → Option (List ℕ) → Option (List ℕ)
behind done None = None
behind done (Some bs) = Some (done ++ bs)

behind_before : (done : List ℕ) (b : ℕ) (bs : Option (List ℕ)) → behind done (byte_before (Some b) bs) ≡ behind (done ++ b ∷ []) bs
behind_before done b None = refl
behind_before done b (Some bs) = ap (λ xs. Some xs) (sym (append_assoc done (b ∷ []) bs))

pub behind_none : (bs : Option (List ℕ)) → behind [] bs ≡ bs
behind_none None = refl
behind_none (Some bs) = refl

pairs_step : (rest : Text) → 2 ≤ length rest → pairs_of rest ≡ byte_before (pair_of (get_or rest 0 0) (get_or rest 1 0)) (pairs_of (drop 2 rest))
pairs_step [] h = absurd (omega arith)
pairs_step (c ∷ []) h = absurd (omega arith)
pairs_step (c ∷ d ∷ cs) h = refl

pub pairs_bad : (done rest : Text) → 2 ≤ length rest → pair_of (get_or rest 0 0) (get_or rest 1 0) ≡ None → behind done (pairs_of rest) ≡ None
pairs_bad done rest h e = ap (behind done) (pairs_step rest h) ∙ ap (λ o. behind done (byte_before o (pairs_of (drop 2 rest)))) e

pub pairs_more : (room : List ℕ) (n : ℕ) (rest : Text) (b : ℕ) → n < length room → 2 ≤ length rest → pair_of (get_or rest 0 0) (get_or rest 1 0) ≡ Some b → behind (take n room) (pairs_of rest) ≡ behind (take (n + 1) (set room n b)) (pairs_of (drop 2 rest))
pairs_more room n rest b within h e =
    ap (behind (take n room)) (pairs_step rest h)
    ∙ ap (λ o. behind (take n room) (byte_before o (pairs_of (drop 2 rest)))) e
    ∙ behind_before (take n room) b (pairs_of (drop 2 rest))
    ∙ ap (λ xs. behind xs (pairs_of (drop 2 rest))) (sym (take_more_set room n b within))

pub pairs_odd : (done rest : Text) → length rest ≡ 1 → behind done (pairs_of rest) ≡ None
pairs_odd done [] h = absurd (omega arith)
pairs_odd done (c ∷ []) h = refl
pairs_odd done (c ∷ d ∷ cs) h = absurd (omega arith)

pub pairs_end : (done rest : Text) → length rest ≡ 0 → behind done (pairs_of rest) ≡ Some done
pairs_end done [] h = ap (λ xs. Some xs) (append-nil done)
pairs_end done (c ∷ cs) h = absurd (omega arith)

pub bytes_none : (word : Text) → pairs_of word ≡ None → bytes_of_pairs word ≡ None
bytes_none word e = ap (option_and_then few_bytes) e

pub bytes_some : (word : Text) (bs : List ℕ) → pairs_of word ≡ Some bs → bytes_of_pairs word ≡ few_bytes bs
bytes_some word bs e = ap (option_and_then few_bytes) e

abbrev length_in : Option (List ℕ) → ℕ → Type 0
length_in None n = Unit {0}
length_in (Some bs) n = n ≡ 2 * length bs

length_before : (o : Option ℕ) (bs : Option (List ℕ)) (n : ℕ) → length_in bs n → length_in (byte_before o bs) (suc (suc n))
length_before None bs n h = tt
length_before (Some b) None n h = tt
length_before (Some b) (Some bs) n h = omega (arith, h)

pub pairs_length : (word : Text) → length_in (pairs_of word) (length word)
pairs_length [] = refl
pairs_length (c ∷ []) = tt
pairs_length (c ∷ d ∷ cs) = length_before (pair_of c d) (pairs_of cs) (length cs) (pairs_length cs)

many : (o : Option (List ℕ)) (n : ℕ) → length_in o n → 128 < n → option_and_then few_bytes o ≡ None
many None n h long = refl
many (Some bs) n h long =
    let over : 64 < length bs = omega (arith, h) in
    ap (λ b. cond b (Some bs) None) (and_right (nat_le 1 (length bs)) (nat_le (length bs) 64) (lt-leb (length bs) 64 over))

pub pairs_long : (word : Text) → 128 < length word → bytes_of_pairs word ≡ None
pairs_long word long = many (pairs_of word) (length word) (pairs_length word) long

pub ruleset pairs = (behind_none, pairs_bad, pairs_more, pairs_odd, pairs_end, bytes_none, bytes_some, pairs_long)
