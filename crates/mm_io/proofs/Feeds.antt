-- Where line feeds are.
use Rattle.std.proofs.Common.{Option, Some, None, ◌≡◌, ℕ, zero, suc, ◌+◌, ◌<◌, ◌≤◌, List, [], ◌∷◌, ◌++◌, length, take, drop, get_or, sym, ap, subst, arith, length-take}
use Rattle.std.specs.Cmp.{unsigned_Decides}
use Rattle.std.proofs.lemmas.Bool.{eqb-true}
use Rattle.std.proofs.lemmas.List.{take-append-drop}
use Rattle.mm_io.specs.{NoFeed, FitsLine, IsFeedAt, FeedAt, HasLine, IsLong}
use Rattle.memchr.specs.Find.{IsFirstByte, Passes, is_byte}

no_feed_below : (xs : List ℕ) (n : ℕ) → ((k : ℕ) → k < n → ¬ Passes (is_byte 10) xs k) → NoFeed (take n xs)
no_feed_below [] zero f = tt
no_feed_below [] (suc n) f = tt
no_feed_below (x ∷ xs) zero f = tt
no_feed_below (x ∷ xs) (suc n) f = (λ e. f 0 (omega arith) ((unsigned_Decides x 10).1 e), no_feed_below xs n (λ k l e. f (suc k) (omega arith) e))

pub no_feed_all : (xs : List ℕ) (i : ℕ) → length xs ≤ i → NoFeed (take i xs) → NoFeed xs
no_feed_all [] i h u = tt
no_feed_all (x ∷ xs) zero h u = absurd (omega arith)
no_feed_all (x ∷ xs) (suc i) h u = (u.0, no_feed_all xs i (omega arith) u.1)

pub split_at : (xs : List ℕ) (n : ℕ) → n < length xs → get_or xs n 0 ≡ 10 → xs ≡ take n xs ++ 10 ∷ drop (suc n) xs
split_at [] n h e = absurd (omega arith)
split_at (x ∷ xs) zero h e = ap (λ y. y ∷ xs) e
split_at (x ∷ xs) (suc n) h e = ap (λ ys. x ∷ ys) (split_at xs n (omega arith) e)

pub feed_at_is : (xs : List ℕ) (n : ℕ) → n < length xs → NoFeed (take n xs) → get_or xs n 0 ≡ 10 → IsFeedAt xs n
feed_at_is xs n h u e = record { within = h; whole = split_at xs n h e; first = u }

-- The first byte that is a line feed is where memchr says.
pub feed_found : (xs : List ℕ) (r : Option ℕ) → IsFirstByte (is_byte 10) xs r → FeedAt xs r
feed_found xs None f = no_feed_all xs (length xs) (omega arith) (no_feed_below xs (length xs) (λ k l e. f k (omega arith) l e))
feed_found xs (Some n) f = feed_at_is xs n f.0.high (no_feed_below xs n (λ k l e. f.0.before k (omega arith) l e)) (eqb-true (get_or xs n 0) 10 f.1)

-- A line feed stands after bytes that have none.
pub feed_after : (xs : List ℕ) (k n : ℕ) → NoFeed (take k xs) → n < length xs → xs ≡ take n xs ++ 10 ∷ drop (suc n) xs → k ≤ n
feed_after [] k n u h e = absurd (omega arith)
feed_after (x ∷ xs) zero n u h e = omega arith
feed_after (x ∷ xs) (suc k) zero u h e = let ten : x ≡ 10 = cc in absurd (u.0 ten)
feed_after (x ∷ xs) (suc k) (suc n) u h e =
    let tail : xs ≡ take n xs ++ 10 ∷ drop (suc n) xs = cc in
    let le = feed_after xs k n u.1 (omega arith) tail in omega arith

-- A line feed in a front of the bytes is one in the bytes.
pub feed_further : (xs : List ℕ) (k n : ℕ) → IsFeedAt (take k xs) n → IsFeedAt xs n
feed_further xs k n f = go xs k n f.within f.whole f.first
  where
    go : (xs : List ℕ) (k n : ℕ) → n < length (take k xs) → take k xs ≡ take n (take k xs) ++ 10 ∷ drop (suc n) (take k xs) → NoFeed (take n (take k xs)) → IsFeedAt xs n
    go [] zero n h e u = absurd (omega arith)
    go [] (suc k) n h e u = absurd (omega arith)
    go (x ∷ xs) zero n h e u = absurd (omega arith)
    go (x ∷ xs) (suc k) zero h e u = let ten : x ≡ 10 = cc in record { within = omega arith; whole = ap (λ y. y ∷ xs) ten; first = tt }
    go (x ∷ xs) (suc k) (suc n) h e u =
        let tail : take k xs ≡ take n (take k xs) ++ 10 ∷ drop (suc n) (take k xs) = cc in
        let f = go xs k n (omega arith) tail u.1 in
        record { within = omega (arith, f.within); whole = ap (λ ys. x ∷ ys) f.whole; first = (u.0, f.first) }

-- At most 4,096 bytes stand after a front without a line feed.
pub record Recent (held : List ℕ) : Type 0 where
  pub front : ℕ
  pub short : front ≤ 256
  pub few : length held ≤ front + 4096
  pub no_feed : NoFeed (take front held)

take_front : (xs ys : List ℕ) → NoFeed xs → NoFeed (take (length xs) (xs ++ ys))
take_front [] ys u = tt
take_front (x ∷ xs) ys u = (u.0, take_front xs ys u.1)

pub recent_next : (held taken held' : List ℕ) (n : ℕ) → FitsLine held → held' ≡ held ++ taken → length held' ≡ length held + n → n ≤ 4096 → Recent held'
recent_next held taken held' n line e c few = record {
  front = length held;
  short = line.short;
  few = omega arith;
  no_feed = subst (λ xs. NoFeed (take (length held) xs)) (sym e) (take_front held taken line.no_feed);
}

pub recent_line : (held : List ℕ) (n : ℕ) → Recent held → HasLine held n → length held < n + 1 + 4096
recent_line held n r l =
    let le = feed_after held r.front n r.no_feed l.feed.within l.feed.whole in
    let few = r.few in omega arith

-- Of what stands in front of a front of the bytes.
pub looks_line : (xs : List ℕ) (k n : ℕ) → k ≤ 257 → k ≤ length xs → IsFeedAt (take k xs) n → HasLine xs n
looks_line xs k n h l f = record { feed = feed_further xs k n f; short = let w = f.within in omega (arith, length-take k xs) }

pub looks_long : (xs : List ℕ) (k : ℕ) → k ≡ 257 → k ≤ length xs → NoFeed (take k xs) → IsLong xs
looks_long xs k e l u = record { front = take k xs; more = drop k xs; whole = sym (take-append-drop k xs); many = omega (arith, length-take k xs); no_feed = u }
