-- The places of frames and their contents, as one is written, cleared or emptied.
use Rattle.std.proofs.Common.{◌≡◌, ℕ, zero, suc, ◌+◌, ◌-◌, ◌<◌, ◌≤◌, Bool, true, false, List, [], ◌∷◌, ◌++◌, length, get_or, set, map, take, drop, replicate, Option, Some, None, refl, sym, ap, ◌∙◌, subst, inl, inr, arith, length-set, get_or-set_same, get_or-set_other, length-append, length-drop}
use Rattle.std.specs.Prelude.{IsSome, unwrap_or}
use Rattle.std.proofs.Math.ListN.{get_or-map}
use Rattle.std.proofs.Math.Seq.{map-set_same}
use Rattle.std.proofs.lemmas.List.{ext_get_or, get_or_read, set-get_or, length-map, map-set, length-replicate, get_or_past, length-take-le}
use Rattle.mm_types.proofs.{same_or_not}
use Rattle.mm_ram.specs.{page_at, bytes_of, overwritten, zero_page, Contents, IsFilled, is_filled, has_bytes, zeroed, backed, shows, shown, ArePlaces}
use Rattle.mm_ram.specs.{IsRam}
use Rattle.mm_ram.specs.declared.contents.Contents.TheVariants as contains
use Rattle.mm_types.specs.{page_size}

filled_if : (o : Option (List ℕ)) → is_filled o ≡ true → (x : List ℕ) × (o ≡ Some x)
filled_if None e = cc
filled_if (Some x) e = (x, refl)

none_if : (o : Option (List ℕ)) → is_filled o ≡ false → o ≡ None
none_if None e = refl
none_if (Some x) e = cc

some_if : (o : Option (List ℕ)) → IsSome o → (x : List ℕ) × (o ≡ Some x)
some_if None s = let bad : false ≡ true = s in cc
some_if (Some x) s = (x, refl)

abbrev pub contents_at : List Contents → ℕ → Contents
contents_at contents i = get_or contents i contains.Unwritten

-- what the contents say of a place
module _ (places : List (Option (List ℕ))) (contents : List Contents) (filled : map has_bytes contents ≡ map is_filled places) where
  contents_is : (i : ℕ) → has_bytes (contents_at contents i) ≡ is_filled (page_at places i)
  contents_is i = sym (get_or-map has_bytes contents i contains.Unwritten) ∙ ap (λ (w : List Bool). get_or w i false) filled ∙ get_or-map is_filled places i None

  pub as_long : length contents ≡ length places
  as_long = sym (length-map contents has_bytes) ∙ ap length filled ∙ length-map places is_filled

  pub filled_at : (i : ℕ) → has_bytes (contents_at contents i) ≡ true → IsFilled places i
  filled_at i e = filled_if (page_at places i) (sym (contents_is i) ∙ e)

  pub empty_at : (i : ℕ) → has_bytes (contents_at contents i) ≡ false → page_at places i ≡ None
  empty_at i e = none_if (page_at places i) (sym (contents_is i) ∙ e)

-- what the frames show
length-shown : (contents : List Contents) (places : List (Option (List ℕ))) → length contents ≡ length places → length (shown contents places) ≡ length places
length-shown [] (p ∷ places) e = absurd (omega arith)
length-shown (k ∷ contents) (p ∷ places) e = ap suc (length-shown contents places (omega arith))
length-shown [] [] e = refl
length-shown (k ∷ contents) [] e = refl

shown_at : (contents : List Contents) (places : List (Option (List ℕ))) (i : ℕ) → length contents ≡ length places → page_at (shown contents places) i ≡ shows (contents_at contents i) (page_at places i)
shown_at [] places i e = refl
shown_at (k ∷ contents) [] i e = absurd (omega arith)
shown_at (k ∷ contents) (p ∷ places) zero e = refl
shown_at (k ∷ contents) (p ∷ places) (suc i) e = shown_at contents places i (omega arith)

shown_both : (contents : List Contents) (places : List (Option (List ℕ))) (i : ℕ) (k : Contents) (p : Option (List ℕ)) → shown (set contents i k) (set places i p) ≡ set (shown contents places) i (shows k p)
shown_both [] places i k p = refl
shown_both (l ∷ contents) [] (suc i) k p = refl
shown_both (l ∷ contents) (q ∷ places) (suc i) k p = ap (λ (s : List (Option (List ℕ))). shows l q ∷ s) (shown_both contents places i k p)
shown_both (l ∷ contents) [] zero k p = refl
shown_both (l ∷ contents) (q ∷ places) zero k p = refl

shown_contents : (contents : List Contents) (places : List (Option (List ℕ))) (i : ℕ) (k : Contents) → shown (set contents i k) places ≡ set (shown contents places) i (shows k (page_at places i))
shown_contents [] places i k = refl
shown_contents (l ∷ contents) [] (suc i) k = refl
shown_contents (l ∷ contents) (q ∷ places) (suc i) k = ap (λ (s : List (Option (List ℕ))). shows l q ∷ s) (shown_contents contents places i k)
shown_contents (l ∷ contents) [] zero k = refl
shown_contents (l ∷ contents) (q ∷ places) zero k = refl

shown_place : (contents : List Contents) (places : List (Option (List ℕ))) (i : ℕ) (p : Option (List ℕ)) → contents_at contents i ≡ contains.Bytes → shown contents (set places i p) ≡ set (shown contents places) i p
shown_place [] places i p e = refl
shown_place (k ∷ contents) [] i p e = refl
shown_place (k ∷ contents) (q ∷ places) zero p e = ap (λ (l : Contents). shows l p ∷ shown contents places) e
shown_place (k ∷ contents) (q ∷ places) (suc i) p e = ap (λ (s : List (Option (List ℕ))). shows k q ∷ s) (shown_place contents places i p e)

zeroed_shows : (k : Contents) (p : Option (List ℕ)) → shows (zeroed k) p ≡ Some zero_page
zeroed_shows contains.Unwritten p = refl
zeroed_shows _ p = refl

zeroed_has : (k : Contents) → has_bytes (zeroed k) ≡ has_bytes k
zeroed_has contains.Unwritten = refl
zeroed_has _ = refl

-- a frame that shows something, and not what its place holds, shows zeros
shows_zeros : (k : Contents) (p : Option (List ℕ)) → IsSome (shows k p) → (k ≡ contains.Bytes → ⊥) → shows k p ≡ Some zero_page
shows_zeros contains.Zeros p s n = refl
shows_zeros contains.ZerosOver p s n = refl
shows_zeros contains.Bytes p s n = absurd (n refl)
shows_zeros _ p s n = let bad : false ≡ true = s in cc

backed_has : (k : Contents) → has_bytes (backed k) ≡ true
backed_has contains.Unwritten = refl
backed_has _ = refl

-- over a place that was empty and has zeros now, the frame shows the same
backed_shows : (k : Contents) → has_bytes k ≡ false → (p : Option (List ℕ)) → shows (backed k) p ≡ shows k None
backed_shows contains.Unwritten e p = refl
backed_shows contains.Zeros e p = refl
backed_shows _ e p = cc

-- a place that holds a page is one of the row's
filled_low : (slots : List (Option (List ℕ))) (i : ℕ) (x : List ℕ) → page_at slots i ≡ Some x → i < length slots
filled_low slots i x e = elim (same_or_not (length slots - i) 0) [
  | inl short ↦
      let bad : None ≡ Some x = sym (get_or_past slots i None (omega arith)) ∙ e in
      cc
  | inr long ↦ omega arith
]

pub zeros_long : length zero_page ≡ page_size
unfolding zero_page
zeros_long = length-replicate {A = ℕ} page_size 0

zero_long : (page : List ℕ) → Some zero_page ≡ Some page → length page ≡ page_size
zero_long page e = let is : zero_page ≡ page = cc in ap length (sym is) ∙ zeros_long

shows_whole : (k : Contents) (place : Option (List ℕ)) → ((page : List ℕ) → place ≡ Some page → length page ≡ page_size) → (page : List ℕ) → shows k place ≡ Some page → length page ≡ page_size
shows_whole contains.Zeros place whole page e = zero_long page e
shows_whole contains.ZerosOver place whole page e = zero_long page e
shows_whole contains.Bytes place whole page e = whole page e
shows_whole _ place whole page e = cc

-- what contracts see: the pages that the contents show over the places
pub record Seen (places : List (Option (List ℕ))) (contents : List Contents) (ram : List (Option (List ℕ))) : Type 0 where
  pub filled : map has_bytes contents ≡ map is_filled places
  pub view : shown contents places ≡ ram

module _ {places : List (Option (List ℕ))} {contents : List Contents} {ram : List (Option (List ℕ))} (s : Seen places contents ram) (f : ℕ) where
  frame_is : page_at ram f ≡ shows (contents_at contents f) (page_at places f)
  frame_is = ap (λ (q : List (Option (List ℕ))). page_at q f) (sym s.view) ∙ shown_at contents places f (as_long places contents s.filled)

  pub frame_low : f < length ram → f < length places
  frame_low h = omega (arith, h, ap length s.view, length-shown contents places (as_long places contents s.filled))

  pub contents_low : f < length ram → f < length contents
  contents_low h = omega (arith, frame_low h, as_long places contents s.filled)

  pub some_low : IsSome (page_at ram f) → f < length ram
  some_low some = let x = some_if (page_at ram f) some in filled_low ram f x.0 x.1

  pub contents_read : f < length ram → (k : Contents) → k ≡ get_or contents f k → k ≡ contents_at contents f
  contents_read h k e = get_or_read contents f k (contents_low h) e contains.Unwritten

  pub own_filled : contents_at contents f ≡ contains.Bytes → IsFilled places f
  own_filled e = filled_at places contents s.filled f (ap has_bytes e)

  pub own_is : contents_at contents f ≡ contains.Bytes → (x : List ℕ) → page_at places f ≡ Some x → bytes_of ram f ≡ x
  own_is e x p = ap (λ (o : Option (List ℕ)). unwrap_or o []) (frame_is ∙ ap (λ (k : Contents). shows k (page_at places f)) e ∙ p)

  pub zeros_are : IsSome (page_at ram f) → (contents_at contents f ≡ contains.Bytes → ⊥) → bytes_of ram f ≡ zero_page
  zeros_are some n =
      ap (λ (o : Option (List ℕ)). unwrap_or o [])
      (frame_is ∙ shows_zeros (contents_at contents f) (page_at places f) (subst (λ (o : Option (List ℕ)). IsSome o) frame_is some) n)

  -- what is seen once the frame has bytes in its place, once these change, and once it shows zeros
  pub seen_filled : (x : List ℕ) (places' : List (Option (List ℕ))) (contents' : List Contents) → places' ≡ set places f (Some x) → contents' ≡ set contents f contains.Bytes → shown contents' places' ≡ set ram f (Some x)
  seen_filled x places' contents' p k = ap (λ (q : List (Option (List ℕ))). shown contents' q) p ∙ ap (λ (q : List Contents). shown q (set places f (Some x))) k ∙ shown_both contents places f contains.Bytes (Some x) ∙ ap (λ (q : List (Option (List ℕ))). set q f (Some x)) s.view

  pub seen_rewritten : contents_at contents f ≡ contains.Bytes → (x : List ℕ) → shown contents (set places f (Some x)) ≡ set ram f (Some x)
  seen_rewritten e x = shown_place contents places f (Some x) e ∙ ap (λ (q : List (Option (List ℕ))). set q f (Some x)) s.view

  pub seen_zeroed : (k : Contents) → shown (set contents f (zeroed k)) places ≡ set ram f (Some zero_page)
  seen_zeroed k = shown_contents contents places f (zeroed k) ∙ ap (λ (o : Option (List ℕ)). set (shown contents places) f o) (zeroed_shows k (page_at places f)) ∙ ap (λ (q : List (Option (List ℕ))). set q f (Some zero_page)) s.view

pub seen_whole : {places : List (Option (List ℕ))} {contents : List Contents} {ram : List (Option (List ℕ))} → Seen places contents ram → ((f : ℕ) (page : List ℕ) → page_at places f ≡ Some page → length page ≡ page_size) → (f : ℕ) (page : List ℕ) → page_at ram f ≡ Some page → length page ≡ page_size
seen_whole {places} {contents} {ram} s whole f page e = shows_whole (contents_at contents f) (page_at places f) (whole f) page (sym (frame_is s f) ∙ e)

module _ (slots : List (Option (List ℕ))) (f : ℕ) (x : List ℕ) (whole : (j : ℕ) (page : List ℕ) → page_at slots j ≡ Some page → length page ≡ page_size) (there : f < length slots) (long : length x ≡ page_size) where
  whole_after : (j : ℕ) (page : List ℕ) → page_at (set slots f (Some x)) j ≡ Some page → length page ≡ page_size
  whole_after j page e = elim (same_or_not j f) [
    | inl same ↦
        let here : Some x ≡ Some page = sym (ap (λ (q : ℕ). page_at (set slots f (Some x)) q) same ∙ get_or-set_same slots f (Some x) None there) ∙ e in
        let is : x ≡ page = cc in
        ap length (sym is) ∙ long
    | inr other ↦ whole j page (sym (get_or-set_other slots f j (Some x) None other) ∙ e)
  ]

-- the places, once that of a frame has bytes of its own, once these change, and once the frame
-- shows something else over its place
module _ (places : List (Option (List ℕ))) (contents : List Contents) (r : ArePlaces places contents) (f : ℕ) where
  places_filled : (k : Contents) (x : List ℕ) → has_bytes k ≡ true → f < length places → length x ≡ page_size → ArePlaces (set places f (Some x)) (set contents f k)
  places_filled k x e there long = record {
    filled = map-set has_bytes contents f k ∙ ap (λ (b : Bool). set (map has_bytes contents) f b) e ∙ ap (λ (w : List Bool). set w f true) r.filled ∙ sym (map-set is_filled places f (Some x));
    whole = whole_after places f x r.whole there long;
  }

  places_rewritten : (x y : List ℕ) → f < length places → length x ≡ page_size → page_at places f ≡ Some y → ArePlaces (set places f (Some x)) contents
  places_rewritten x y there long e = record {
    filled = r.filled ∙ sym (map-set_same is_filled places f (Some x) None (sym (ap is_filled e)));
    whole = whole_after places f x r.whole there long;
  }

  places_zeroed : ArePlaces places (set contents f (zeroed (contents_at contents f)))
  places_zeroed = record {
    filled = map-set_same has_bytes contents f (zeroed (contents_at contents f)) contains.Unwritten (zeroed_has (contents_at contents f)) ∙ r.filled;
    whole = r.whole;
  }

  -- an empty place is given zeros
  pub places_backed : f < length places → ArePlaces (set places f (Some zero_page)) (set contents f (backed (contents_at contents f)))
  places_backed there = places_filled (backed (contents_at contents f)) zero_page (backed_has (contents_at contents f)) there zeros_long

  pub shown_backed : has_bytes (contents_at contents f) ≡ false → shown (set contents f (backed (contents_at contents f))) (set places f (Some zero_page)) ≡ shown contents places
  shown_backed e =
      let long = as_long places contents r.filled in
      let shows_same = backed_shows (contents_at contents f) e (Some zero_page) ∙ ap (shows (contents_at contents f)) (sym (empty_at places contents r.filled f e)) ∙ sym (shown_at contents places f long) in
      shown_both contents places f (backed (contents_at contents f)) (Some zero_page) ∙ ap (λ (o : Option (List ℕ)). set (shown contents places) f o) shows_same ∙ set-get_or (shown contents places) f None

module _ {P A : Type 0} {base begins deed_begins : P} {held : ℕ} {owner alloc : A} {places : List (Option (List ℕ))} {contents : List Contents} (r : IsRam base begins deed_begins held owner alloc places contents) where
  -- the fields, over places that are as many
  pub ram_over : (begins' : P) (places' : List (Option (List ℕ))) (contents' : List Contents) → begins' ≡ begins → length places' ≡ length places → ArePlaces places' contents' → IsRam base begins' deed_begins held owner alloc places' contents'
  ram_over begins' places' contents' e long kept = record {
    at = e ∙ r.at;
    deed_at = r.deed_at;
    deed_len = r.deed_len ∙ sym long;
    deed_alloc = r.deed_alloc;
    kept = kept;
  }

  pub ram_put : (f : ℕ) (x : List ℕ) → f < length places → length x ≡ page_size → (begins' : P) (places' : List (Option (List ℕ))) (contents' : List Contents) → begins' ≡ begins → places' ≡ set places f (Some x) → contents' ≡ set contents f contains.Bytes → IsRam base begins' deed_begins held owner alloc places' contents'
  ram_put f x there long begins' places' contents' e p k =
      ram_over begins' places' contents' e (ap length p ∙ length-set places f (Some x))
      (subst (λ (q : List (Option (List ℕ))). ArePlaces q contents') (sym p)
      (subst (λ (q : List Contents). ArePlaces (set places f (Some x)) q) (sym k) (places_filled places contents r.kept f contains.Bytes x refl there long)))

  pub ram_rewritten : (f : ℕ) (x y : List ℕ) → length x ≡ page_size → page_at places f ≡ Some y → IsRam base begins deed_begins held owner alloc (set places f (Some x)) contents
  ram_rewritten f x y long e = ram_over begins (set places f (Some x)) contents refl (length-set places f (Some x)) (places_rewritten places contents r.kept f x y (filled_low places f y e) long e)

  pub ram_zeroed : (f : ℕ) → IsRam base begins deed_begins held owner alloc places (set contents f (zeroed (contents_at contents f)))
  ram_zeroed f = ram_over begins places (set contents f (zeroed (contents_at contents f))) refl refl (places_zeroed places contents r.kept f)

pub seen : {P A : Type 0} {base begins deed_begins : P} {held : ℕ} {owner alloc : A} {places : List (Option (List ℕ))} {contents : List Contents} → IsRam base begins deed_begins held owner alloc places contents → {ram : List (Option (List ℕ))} → shown contents places ≡ ram → Seen places contents ram
seen r e = record { filled = r.kept.filled; view = e }

none_filled : (n : ℕ) → map has_bytes (replicate n contains.Unwritten) ≡ map is_filled (replicate n None)
none_filled zero = refl
none_filled (suc n) = ap (λ (w : List Bool). false ∷ w) (none_filled n)

pub none_shown : (n : ℕ) → shown (replicate n contains.Unwritten) (replicate n None) ≡ replicate n None
none_shown zero = refl
none_shown (suc n) = ap (λ (s : List (Option (List ℕ))). None ∷ s) (none_shown n)

page_of_none : (n i : ℕ) → page_at (replicate n None) i ≡ None
page_of_none zero i = refl
page_of_none (suc n) zero = refl
page_of_none (suc n) (suc i) = page_of_none n i

long_nones : (n : ℕ) (o : Option (List ℕ)) → length (replicate n o) ≡ n
long_nones n o = length-replicate n o

-- the first i places are empty, and the others as they were
pub record Emptied (old slots : List (Option (List ℕ))) (i : ℕ) : Type 0 where
  pub long : length slots ≡ length old
  pub empty : (k : ℕ) → k < i → page_at slots k ≡ None
  pub kept : (k : ℕ) → i ≤ k → page_at slots k ≡ page_at old k

module _ (old slots : List (Option (List ℕ))) (i : ℕ) (s : Emptied old slots i) where
  pub emptied_all : length old ≤ i → slots ≡ replicate (length old) None
  emptied_all all =
      ext_get_or None slots (replicate (length old) None) (s.long ∙ sym (long_nones (length old) None))
      (λ k h. s.empty k (omega (arith, h, s.long)) ∙ sym (page_of_none (length old) k))

  pub emptied_next : i < length old → Emptied old (set slots i None) (i + 1)
  emptied_next low = record {
    long = length-set slots i None ∙ s.long;
    empty = λ k h. elim (same_or_not k i) [
      | inl same ↦ ap (λ (q : ℕ). page_at (set slots i None) q) same ∙ get_or-set_same slots i None None (omega (arith, low, s.long))
      | inr other ↦ get_or-set_other slots i k None None other ∙ s.empty k (omega (arith, h, other))
    ];
    kept = λ k h. get_or-set_other slots i k None None (omega (arith, h)) ∙ s.kept k (omega (arith, h));
  }

  pub emptied_same : page_at old i ≡ None → Emptied old slots (i + 1)
  emptied_same e = record {
    long = s.long;
    empty = λ k h. elim (same_or_not k i) [
      | inl same ↦ ap (λ (q : ℕ). page_at slots q) same ∙ s.kept i (omega arith) ∙ e
      | inr other ↦ s.empty k (omega (arith, h, other))
    ];
    kept = λ k h. s.kept k (omega (arith, h));
  }

pub ram_new : {P A : Type 0} (base begins deed_begins : P) (held : ℕ) (owner alloc : A) (places : List (Option (List ℕ))) (contents : List Contents) (n : ℕ) → begins ≡ base → places ≡ replicate n None → deed_begins ≡ base → held ≡ n → owner ≡ alloc → contents ≡ replicate n contains.Unwritten → IsRam base begins deed_begins held owner alloc places contents
ram_new base begins deed_begins held owner alloc places contents n e f g h i j = record {
  at = e;
  deed_at = g;
  deed_len = h ∙ sym (ap length f ∙ long_nones n None);
  deed_alloc = i;
  kept = record {
    filled = ap (λ (k : List Contents). map has_bytes k) j ∙ none_filled n ∙ sym (ap (λ (s : List (Option (List ℕ))). map is_filled s) f);
    whole = λ k page p. let bad : None ≡ Some page = sym (ap (λ (s : List (Option (List ℕ))). page_at s k) f ∙ page_of_none n k) ∙ p in cc;
  };
}

-- a page of which bytes were written is as long as before
pub length-over : (page new : List ℕ) (at : ℕ) → at + length new ≤ length page → length (overwritten page at new) ≡ length page
length-over page new at inside =
    omega (arith, length-append (take at page) (new ++ drop (at + length new) page), length-append new (drop (at + length new) page), length-take-le at page (omega arith), length-drop (at + length new) page)
