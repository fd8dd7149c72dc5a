-- Regions found by their bases, and by the ranges of their pages.
use Rattle.std.proofs.Common.{◌≡◌, ◌≢◌, ℕ, suc, ◌+◌, ◌<◌, ◌≤◌, Bool, true, false, cond, List, [], ◌∷◌, length, Option, Some, None, refl, sym, ap, ◌∙◌, subst, arith, ◌-◌}
use Rattle.std.specs.Prelude.{find, insert, remove, count_by, nat_lt, ◌==◌, not, option_and_then, IsSomeAnd, All, ◌||◌, option_map, nat_eq, nat_le, IsSome, is_some}
use Rattle.std.specs.List.{cons_option, position_or_len, list_any}
use Rattle.std.proofs.lemmas.Bool.{eqb-true, eqb-false, ltb-true, ltb-false, lt-ltb, le-ltb, le-leb, and_from, or_parts, leb-true, and_parts, and_right}
use Rattle.std.proofs.lemmas.List.Elements.{All-nil, All-cons, All-head, All-tail}
use Rattle.std.proofs.lemmas.List.Sums.{sum_by-cons}
use Rattle.mm_types.specs.{Range, end_of, meets, holds_page, first_user_page, Vpn}
use Rattle.mm_vad.specs.{LieApart, add_range, remove_range, Region, IsSpace, HasFlags, region_range, region_ranges, region_holds, begins_at}
use Rattle.mm_vad.specs.{add_region, remove_region, change_region, regions_of, IsHeld, AllHeld, IsIndex, page_number, is_begun_at}
use Rattle.mm_vad.specs.{first_and_count as told_of, HasPages, region_at, region_with_base, GapsOf, SpaceOf, space_of}
use Rattle.std.specs.HashMap.{HashMap, get, spare}
use Rattle.std.proofs.lemmas.Option.{some_pair_parts}

-- ---- what a change of the ranges and of the regions found at them makes of the list of regions

-- a range and the region of just its pages
pub record Pair (found : ℕ → Option Region) (r : Range) : Type 0 where
  pub region : Region
  pub there : found r.first ≡ Some region
  pub pages : region_range region ≡ r
  pub whole : length region.rows ≡ r.count
  pub flags : HasFlags r.count region

pub pair_of : (found : ℕ → Option Region) (r : Range) → IsHeld found r → Pair found r
pair_of found r h =
    elim (found r.first) as (λ o. found r.first ≡ o → IsSomeAnd o (λ region. (region_range region ≡ r) × (length region.rows ≡ r.count) × HasFlags r.count region) → Pair found r) [
      | None ↦ λ e k. absurd k
      | Some region ↦ λ e k. record { region = region; there = e; pages = k.0; whole = k.1; flags = k.2 }
    ] refl h

held_from : (found : ℕ → Option Region) (r : Range) (region : Region) → found r.first ≡ Some region → region_range region ≡ r → length region.rows ≡ r.count → HasFlags r.count region → IsHeld found r
held_from found r region e p w flags =
    subst (λ (o : Option Region). IsSomeAnd o (λ g. (region_range g ≡ r) × (length g.rows ≡ r.count) × HasFlags r.count g)) (sym e) (p, w, flags)

regions_cons : (found : ℕ → Option Region) (r : Range) (rs : List Range) (region : Region) → found r.first ≡ Some region → regions_of found (r ∷ rs) ≡ region ∷ regions_of found rs
regions_cons found r rs region e = ap (λ (o : Option Region). cons_option o (regions_of found rs)) e

pub ranges_of-regions_of : (found : ℕ → Option Region) (rs : List Range) → AllHeld found rs → region_ranges (regions_of found rs) ≡ rs
ranges_of-regions_of found [] h = refl
ranges_of-regions_of found (r ∷ rs) h =
    let p = pair_of found r h.0 in
    ap region_ranges (regions_cons found r rs p.region p.there)
    ∙ ap (λ (x : Range). x ∷ region_ranges (regions_of found rs)) p.pages
    ∙ ap (λ (xs : List Range). r ∷ xs) (ranges_of-regions_of found rs h.1)

all_whole : (found : ℕ → Option Region) (rs : List Range) → AllHeld found rs → All (λ g. length g.rows ≡ g.pages) (regions_of found rs)
all_whole found [] h = All-nil (λ (g : Region). length g.rows ≡ g.pages)
all_whole found (r ∷ rs) h =
    let p = pair_of found r h.0 in
    subst (λ (gs : List Region). All (λ g. length g.rows ≡ g.pages) gs) (sym (regions_cons found r rs p.region p.there))
    (All-cons (λ (g : Region). length g.rows ≡ g.pages) p.region (regions_of found rs)
    (p.whole ∙ sym (ap (λ (x : Range). x.count) p.pages)) (all_whole found rs h.1))

all_flags : (found : ℕ → Option Region) (rs : List Range) → AllHeld found rs → All (λ g. HasFlags g.pages g) (regions_of found rs)
all_flags found [] h = All-nil (λ (g : Region). HasFlags g.pages g)
all_flags found (r ∷ rs) h =
    let p = pair_of found r h.0 in
    subst (λ (gs : List Region). All (λ g. HasFlags g.pages g) gs) (sym (regions_cons found r rs p.region p.there))
    (All-cons (λ (g : Region). HasFlags g.pages g) p.region (regions_of found rs)
    (subst (λ (n : ℕ). HasFlags n p.region) (sym (ap (λ (x : Range). x.count) p.pages)) p.flags) (all_flags found rs h.1))

-- what callers are told
pub is_space : (found : ℕ → Option Region) (rs : List Range) → IsIndex found rs → IsSpace (regions_of found rs)
is_space found rs i = record {
  apart = subst (LieApart first_user_page) (sym (ranges_of-regions_of found rs i.held)) i.apart;
  whole = all_whole found rs i.held;
  flags = all_flags found rs i.held;
}

-- ---- finding

pub find_held : (found : ℕ → Option Region) (t : Range → Bool) (rs : List Range) → AllHeld found rs → find (λ g. t (region_range g)) (regions_of found rs) ≡ option_and_then (λ r. found r.first) (find t rs)
find_held found t [] h = refl
find_held found t (r ∷ rs) h =
    let p = pair_of found r h.0 in
    let rest = find (λ (g : Region). t (region_range g)) (regions_of found rs) in
    ap (find (λ (g : Region). t (region_range g))) (regions_cons found r rs p.region p.there)
    ∙ ap (λ (x : Range). cond (t x) (Some p.region) rest) p.pages
    ∙ elim (t r) as (λ b. cond b (Some p.region) rest ≡ option_and_then (λ x. found x.first) (cond b (Some r) (find t rs))) [
      | true ↦ sym p.there
      | false ↦ find_held found t rs h.1
    ]

-- the ranges from one on that does not begin below `low`
pub find_low : (low : ℕ) (t : Range → Bool) (rs : List Range) (r : Range) → LieApart low rs → find t rs ≡ Some r → low ≤ r.first
find_low low t [] r a e = cc
find_low low t (x ∷ xs) r a e =
    elim (t x) as (λ b. cond b (Some x) (find t xs) ≡ Some r → low ≤ r.first) [
      | true ↦ λ k. (let same : x ≡ r = cc in subst (λ (y : Range). low ≤ y.first) same a.0.from)
      | false ↦ λ k. (let later = find_low (end_of x) t xs r a.1 k in omega (arith, a.0.from, a.0.some))
    ] e

-- ---- changes at one base

-- both tell the same at the first page of each range
abbrev Same : (ℕ → Option Region) → (ℕ → Option Region) → List Range → Type 0
Same found other [] = Unit {0}
Same found other (r ∷ rs) = (other r.first ≡ found r.first) × Same found other rs

same_above : (found other : ℕ → Option Region) (low base : ℕ) (rs : List Range) → LieApart low rs → base < low → ((q : ℕ) → q ≢ base → other q ≡ found q) → Same found other rs
same_above found other low base [] a h same = tt
same_above found other low base (x ∷ xs) a h same =
    (same x.first (λ e. omega (arith, a.0.from)), same_above found other (end_of x) base xs a.1 (omega (arith, a.0.from, a.0.some)) same)

same_regions : (found other : ℕ → Option Region) (rs : List Range) → Same found other rs → regions_of other rs ≡ regions_of found rs
same_regions found other [] s = refl
same_regions found other (r ∷ rs) s =
    ap (λ (o : Option Region). cons_option o (regions_of other rs)) s.0
    ∙ ap (cons_option (found r.first)) (same_regions found other rs s.1)

same_held_one : (found other : ℕ → Option Region) (r : Range) → other r.first ≡ found r.first → IsHeld found r → IsHeld other r
same_held_one found other r e h = let p = pair_of found r h in held_from other r p.region (e ∙ p.there) p.pages p.whole p.flags

same_held : (found other : ℕ → Option Region) (rs : List Range) → Same found other rs → AllHeld found rs → AllHeld other rs
same_held found other [] s h = tt
same_held found other (r ∷ rs) s h = (same_held_one found other r s.0 h.0, same_held found other rs s.1 h.1)

-- what came of a change: the regions that are shown, and that all are held
pub record Becomes (other : ℕ → Option Region) (ranges : List Range) (regions : List Region) : Type 0 where
  pub shown : regions_of other ranges ≡ regions
  pub held : AllHeld other ranges

-- ---- one region more

-- a region is found at its base, and elsewhere what was found before
pub record Adds (found other : ℕ → Option Region) (new : Range) (region : Region) : Type 0 where
  pub there : other new.first ≡ Some region
  pub pages : region_range region ≡ new
  pub whole : length region.rows ≡ new.count
  pub flags : HasFlags new.count region
  pub some : 0 < new.count
  pub kept : (q : ℕ) → q ≢ new.first → other q ≡ found q

-- how many regions begin below the base
abbrev below : ℕ → List Region → ℕ
below base regions = count_by (λ g. nat_lt g.base.0 base) regions

below_cons : (base : ℕ) (g : Region) (gs : List Region) → below base (g ∷ gs) ≡ cond (nat_lt g.base.0 base) 1 0 + below base gs
below_cons base g gs = sum_by-cons (λ (x : Region). cond (nat_lt x.base.0 base) 1 0) g gs

none_before : (found : ℕ → Option Region) (low base : ℕ) (rs : List Range) → LieApart low rs → AllHeld found rs → base ≤ low → below base (regions_of found rs) ≡ 0
none_before found low base [] a h le = refl
none_before found low base (r ∷ rs) a h le =
    let p = pair_of found r h.0 in
    let at : p.region.base.0 ≡ r.first = ap (λ (x : Range). x.first) p.pages in
    ap (below base) (regions_cons found r rs p.region p.there)
    ∙ below_cons base p.region (regions_of found rs)
    ∙ ap (λ (b : Bool). cond b 1 0 + below base (regions_of found rs)) (le-ltb p.region.base.0 base (omega (arith, a.0.from)))
    ∙ ap (λ (n : ℕ). 0 + n) (none_before found (end_of r) base rs a.1 h.1 (omega (arith, a.0.from)))

add_after : (g : Region) (gs : List Region) (region : Region) → g.base.0 < region.base.0 → add_region (g ∷ gs) region ≡ g ∷ add_region gs region
add_after g gs region h =
    let more : below region.base.0 (g ∷ gs) ≡ suc (below region.base.0 gs) =
    below_cons region.base.0 g gs ∙ ap (λ (b : Bool). cond b 1 0 + below region.base.0 gs) (lt-ltb g.base.0 region.base.0 h) ∙ omega arith in
    ap (λ (n : ℕ). insert (g ∷ gs) n region) more

pub add_held : (low : ℕ) (found other : ℕ → Option Region) (new : Range) (region : Region) (rs : List Range) → Adds found other new region → LieApart low rs → AllHeld found rs → list_any (meets new) rs ≡ false → Becomes other (add_range new rs) (add_region (regions_of found rs) region)
add_held low found other new region [] w a h free = record {
  shown = ap (λ (o : Option Region). cons_option o []) w.there;
  held = (held_from other new region w.there w.pages w.whole w.flags, tt);
}
add_held low found other new region (x ∷ xs) w a h free =
    elim (nat_lt new.first x.first) as (λ b. nat_lt new.first x.first ≡ b → Becomes other (cond b (new ∷ x ∷ xs) (x ∷ add_range new xs)) (add_region (regions_of found (x ∷ xs)) region)) [
      | true ↦ λ e. (
          let before = ltb-true new.first x.first e in
          let lower : LieApart x.first (x ∷ xs) = (record { from = omega arith; some = a.0.some; within = a.0.within }, a.1) in
          let same = same_above found other x.first new.first (x ∷ xs) lower before w.kept in
          let at : region.base.0 ≡ new.first = ap (λ (r : Range). r.first) w.pages in
          let olds = regions_of found (x ∷ xs) in
          let first : below region.base.0 olds ≡ 0 = none_before found x.first region.base.0 (x ∷ xs) lower h (omega arith) in
          record {
            shown = regions_cons other new (x ∷ xs) region w.there
                ∙ ap (λ (gs : List Region). region ∷ gs) (same_regions found other (x ∷ xs) same)
                ∙ sym (ap (λ (n : ℕ). insert olds n region) first);
            held = (held_from other new region w.there w.pages w.whole w.flags, same_held found other (x ∷ xs) same h);
          })
      | false ↦ λ e. (
          let apart = or_parts (meets new x) (list_any (meets new) xs) free in
          let differ : x.first ≢ new.first = λ same. (
          let met : meets new x ≡ true = and_from (nat_lt new.first (end_of x)) (nat_lt x.first (end_of new)) (lt-ltb new.first (end_of x) (omega (arith, a.0.some))) (lt-ltb x.first (end_of new) (omega (arith, w.some))) in
          let bad : true ≡ false = sym met ∙ apart.0 in cc) in
          let later = ltb-false new.first x.first e in
          let p = pair_of found x h.0 in
          let at : region.base.0 ≡ new.first = ap (λ (r : Range). r.first) w.pages in
          let at_old : p.region.base.0 ≡ x.first = ap (λ (r : Range). r.first) p.pages in
          let rest = add_held (end_of x) found other new region xs w a.1 h.1 apart.1 in
          record {
            shown = regions_cons other x (add_range new xs) p.region (w.kept x.first differ ∙ p.there)
                ∙ ap (λ (gs : List Region). p.region ∷ gs) rest.shown
                ∙ sym (add_after p.region (regions_of found xs) region (omega (arith, differ)))
                ∙ sym (ap (λ (gs : List Region). add_region gs region) (regions_cons found x xs p.region p.there));
            held = (same_held_one found other x (w.kept x.first differ) h.0, rest.held);
          })
    ] refl

-- ---- one region less

remove_first : (base : ℕ) (g : Region) (gs : List Region) → begins_at base g ≡ true → remove_region (g ∷ gs) base ≡ gs
remove_first base g gs e = ap (λ (b : Bool). remove (g ∷ gs) (cond (not b) (1 + position_or_len (begins_at base) gs) 0)) e

remove_after : (base : ℕ) (g : Region) (gs : List Region) → begins_at base g ≡ false → remove_region (g ∷ gs) base ≡ g ∷ remove_region gs base
remove_after base g gs e =
    let place = position_or_len (begins_at base) gs in
    let next : 1 + place ≡ suc place = omega arith in
    ap (λ (b : Bool). remove (g ∷ gs) (cond (not b) (1 + place) 0)) e ∙ ap (λ (n : ℕ). remove (g ∷ gs) n) next

pub remove_held : (low base : ℕ) (found other : ℕ → Option Region) (rs : List Range) → LieApart low rs → AllHeld found rs → ((q : ℕ) → q ≢ base → other q ≡ found q) → Becomes other (remove_range base rs) (remove_region (regions_of found rs) base)
remove_held low base found other [] a h kept = record { shown = refl; held = tt }
remove_held low base found other (x ∷ xs) a h kept =
    let p = pair_of found x h.0 in
    let at : p.region.base.0 ≡ x.first = ap (λ (r : Range). r.first) p.pages in
    let begins : begins_at base p.region ≡ (x.first == base) = ap (λ (n : ℕ). n == base) at in
    let cons = ap (λ (gs : List Region). remove_region gs base) (regions_cons found x xs p.region p.there) in
    elim (x.first == base) as (λ b. (x.first == base) ≡ b → Becomes other (cond b xs (x ∷ remove_range base xs)) (remove_region (regions_of found (x ∷ xs)) base)) [
      | true ↦ λ e. (
          let here = eqb-true x.first base e in
          let same = same_above found other (end_of x) base xs a.1 (omega (arith, a.0.some)) kept in
          record {
            shown = same_regions found other xs same
                ∙ sym (remove_first base p.region (regions_of found xs) (begins ∙ e))
                ∙ sym cons;
            held = same_held found other xs same h.1;
          })
      | false ↦ λ e. (
          let differ = eqb-false x.first base e in
          let rest = remove_held (end_of x) base found other xs a.1 h.1 kept in
          record {
            shown = regions_cons other x (remove_range base xs) p.region (kept x.first differ ∙ p.there)
                ∙ ap (λ (gs : List Region). p.region ∷ gs) rest.shown
                ∙ sym (remove_after base p.region (regions_of found xs) (begins ∙ e))
                ∙ sym cons;
            held = (same_held_one found other x (kept x.first differ) h.0, rest.held);
          })
    ] refl

-- ---- one region changed

-- the change leaves the region its pages, with a row for each and, where it is watched, a flag
pub record Keeps (change : Region → Region) (g : Region) : Type 0 where
  pub pages : region_range (change g) ≡ region_range g
  pub rows : length (change g).rows ≡ length g.rows
  pub flags : (n : ℕ) → HasFlags n g → HasFlags n (change g)

-- the region found at one base is changed, and elsewhere is found what was found before
pub record Rewrites (found other : ℕ → Option Region) (change : Region → Region) (base : ℕ) (region : Region) : Type 0 where
  pub there : found base ≡ Some region
  pub after : other base ≡ Some (change region)
  pub keeps : Keeps change region
  pub kept : (q : ℕ) → q ≢ base → other q ≡ found q

pub change_here : (change : Region → Region) (page : ℕ) (g : Region) (gs : List Region) → region_holds page g ≡ true → change_region change (g ∷ gs) page ≡ change g ∷ gs
change_here change page g gs e = ap (λ (b : Bool). cond b (change g ∷ gs) (g ∷ change_region change gs page)) e

pub change_later : (change : Region → Region) (page : ℕ) (g : Region) (gs : List Region) → region_holds page g ≡ false → change_region change (g ∷ gs) page ≡ g ∷ change_region change gs page
change_later change page g gs e = ap (λ (b : Bool). cond b (change g ∷ gs) (g ∷ change_region change gs page)) e

pub change_held : (low page : ℕ) (found other : ℕ → Option Region) (change : Region → Region) (region : Region) (at : Range) (rs : List Range) → Rewrites found other change at.first region → LieApart low rs → AllHeld found rs → find (λ r. holds_page r page) rs ≡ Some at → Becomes other rs (change_region change (regions_of found rs) page)
change_held low page found other change region at [] w a h e = cc
change_held low page found other change region at (x ∷ xs) w a h e =
    let p = pair_of found x h.0 in
    let held : region_holds page p.region ≡ holds_page x page = ap (λ (r : Range). holds_page r page) p.pages in
    let cons = ap (λ (gs : List Region). change_region change gs page) (regions_cons found x xs p.region p.there) in
    elim (holds_page x page) as (λ b. holds_page x page ≡ b → cond b (Some x) (find (λ r. holds_page r page) xs) ≡ Some at → Becomes other (x ∷ xs) (change_region change (regions_of found (x ∷ xs)) page)) [
      | true ↦ λ t k. (
          let same_range : x ≡ at = cc in
          let same_first : at.first ≡ x.first = ap (λ (r : Range). r.first) (sym same_range) in
          let there : found x.first ≡ Some region = ap found (sym same_first) ∙ w.there in
          let both : Some p.region ≡ Some region = sym p.there ∙ there in
          let same_region : p.region ≡ region = cc in
          let after : other x.first ≡ Some (change p.region) =
          ap other (sym same_first) ∙ w.after ∙ ap (λ (g : Region). Some (change g)) (sym same_region) in
          let keeps = subst (Keeps change) (sym same_region) w.keeps in
          let same = same_above found other (end_of x) x.first xs a.1 (omega (arith, a.0.some)) (λ q ne. w.kept q (λ i. ne (i ∙ same_first))) in
          record {
            shown = regions_cons other x xs (change p.region) after
                ∙ ap (λ (gs : List Region). change p.region ∷ gs) (same_regions found other xs same)
                ∙ sym (change_here change page p.region (regions_of found xs) (held ∙ t))
                ∙ sym cons;
            held = (held_from other x (change p.region) after (keeps.pages ∙ p.pages) (keeps.rows ∙ p.whole) (keeps.flags x.count p.flags), same_held found other xs same h.1);
          })
      | false ↦ λ f k. (
          let beyond = find_low (end_of x) (λ r. holds_page r page) xs at a.1 k in
          let differ : x.first ≢ at.first = λ i. omega (arith, a.0.some) in
          let rest = change_held (end_of x) page found other change region at xs w a.1 h.1 k in
          record {
            shown = regions_cons other x xs p.region (w.kept x.first differ ∙ p.there)
                ∙ ap (λ (gs : List Region). p.region ∷ gs) rest.shown
                ∙ sym (change_later change page p.region (regions_of found xs) (held ∙ f))
                ∙ sym cons;
            held = (same_held_one found other x (w.kept x.first differ) h.0, rest.held);
          })
    ] refl e

-- ---- what a look-up by a range tells of the list of regions

-- the range that a search told of by its first page
pub record Told (o : Option Range) (base : ℕ) : Type 0 where
  pub range : Range
  pub is : o ≡ Some range
  pub first : range.first ≡ base

pub told_some : (o : Option Range) (base : Vpn) (n : ℕ) → Some (base, n) ≡ option_map told_of o → Told o base.0
told_some None base n e = cc
told_some (Some r) base n e =
    record { range = r; is = refl; first = sym (ap (λ (v : Vpn). v.0) (some_pair_parts base (page_number r.first) n r.count e).0) }

told_none : (o : Option Range) → None ≡ option_map told_of o → o ≡ None
told_none None e = refl
told_none (Some r) e = cc

-- what a search among regions finds passes its test, and has as many rows as pages
found_region : (t : Region → Bool) (gs : List Region) (g : Region) → All (λ r. length r.rows ≡ r.pages) gs → find t gs ≡ Some g → (t g ≡ true) × (length g.rows ≡ g.pages)
found_region t [] g a e = cc
found_region t (x ∷ xs) g a e =
    elim (t x) as (λ b. t x ≡ b → cond b (Some x) (find t xs) ≡ Some g → (t g ≡ true) × (length g.rows ≡ g.pages)) [
      | true ↦ λ p k. (
          let same : x ≡ g = cc in
          subst (λ (r : Region). (t r ≡ true) × (length r.rows ≡ r.pages)) same (p, All-head (λ (r : Region). length r.rows ≡ r.pages) x xs a))
      | false ↦ λ p k. found_region t xs g (All-tail (λ (r : Region). length r.rows ≡ r.pages) x xs a) k
    ] refl e

-- the page has a row in its region
pub row_there : (gs : List Region) (page : ℕ) (g : Region) → All (λ r. length r.rows ≡ r.pages) gs → region_at gs page ≡ Some g → (g.base.0 ≤ page) × (page - g.base.0 < length g.rows)
row_there gs page g a e =
    let f = found_region (region_holds page) gs g a e in
    let both = and_parts (nat_le g.base.0 page) (nat_lt page (end_of (region_range g))) f.0 in
    let low = leb-true g.base.0 page both.0 in
    let high = ltb-true page (end_of (region_range g)) both.1 in
    (low, omega (arith, f.1))

-- the region in which a page lies has a row for each of its pages
pub rows_whole : (gs : List Region) (page : ℕ) (g : Region) → All (λ r. length r.rows ≡ r.pages) gs → region_at gs page ≡ Some g → length g.rows ≡ g.pages
rows_whole gs page g a e = (found_region (region_holds page) gs g a e).1

-- what a search among ranges finds passes its test, and a region is held at it
pub found_range : (found : ℕ → Option Region) (t : Range → Bool) (rs : List Range) (r : Range) → AllHeld found rs → find t rs ≡ Some r → (t r ≡ true) × IsHeld found r
found_range found t [] r h e = cc
found_range found t (x ∷ xs) r h e =
    elim (t x) as (λ b. t x ≡ b → cond b (Some x) (find t xs) ≡ Some r → (t r ≡ true) × IsHeld found r) [
      | true ↦ λ p k. (
          let same : x ≡ r = cc in
          subst (λ (y : Range). (t y ≡ true) × IsHeld found y) same (p, h.0))
      | false ↦ λ p k. found_range found t xs r h.1 k
    ] refl e

none_begins : (t : Range → Bool) (rs : List Range) → list_any t rs ≡ false → find t rs ≡ None
none_begins t [] e = refl
none_begins t (x ∷ xs) e =
    let parts = or_parts (t x) (list_any t xs) e in
    ap (λ (b : Bool). cond b (Some x) (find t xs)) parts.0 ∙ none_begins t xs parts.1

one_begins : (t : Range → Bool) (rs : List Range) → list_any t rs ≡ true → (r : Range) × (find t rs ≡ Some r) × (t r ≡ true)
one_begins t [] e = cc
one_begins t (x ∷ xs) e =
    elim (t x) as (λ b. t x ≡ b → (b || list_any t xs) ≡ true → (r : Range) × (cond b (Some x) (find t xs) ≡ Some r) × (t r ≡ true)) [
      | true ↦ λ p k. (x, refl, p)
      | false ↦ λ p k. one_begins t xs k
    ] refl e

module _ (found : ℕ → Option Region) (ranges : List Range) (index : IsIndex found ranges) where
  -- the region that is found at the first page of the range of the page
  pub region_there : (page base : ℕ) (region : Region) → Told (find (λ r. holds_page r page) ranges) base → found base ≡ Some region → HasPages region page 1
  region_there page base region told e =
      let f = found_range found (λ r. holds_page r page) ranges told.range index.held told.is in
      let p = pair_of found told.range f.1 in
      let both : Some p.region ≡ Some region = sym p.there ∙ ap found told.first ∙ e in
      let same : p.region ≡ region = cc in
      let sides = and_parts (nat_le told.range.first page) (nat_lt page (end_of told.range)) f.0 in
      let low = leb-true told.range.first page sides.0 in
      let high = ltb-true page (end_of told.range) sides.1 in
      subst (λ (g : Region). HasPages g page 1) same
      (record {
        low = omega (arith, low, ap (λ (r : Range). r.first) p.pages);
        within = omega (arith, high, ap (λ (r : Range). r.first) p.pages, ap (λ (r : Range). r.count) p.pages);
        whole = p.whole ∙ sym (ap (λ (r : Range). r.count) p.pages);
        flags = subst (λ (n : ℕ). HasFlags n p.region) (sym (ap (λ (r : Range). r.count) p.pages)) p.flags;
      })

-- where ranges lie apart, the one that begins at the base is found by each page that it holds
found_where : (low base page : ℕ) (rs : List Range) (r : Range) → LieApart low rs → find (λ x. x.first == base) rs ≡ Some r → holds_page r page ≡ true → find (λ x. holds_page x page) rs ≡ Some r
found_where low base page [] r a e h = cc
found_where low base page (x ∷ xs) r a e h =
    elim (x.first == base) as (λ b. cond b (Some x) (find (λ y. y.first == base) xs) ≡ Some r → cond (holds_page x page) (Some x) (find (λ y. holds_page y page) xs) ≡ Some r) [
      | true ↦ λ k. (
          let same : r ≡ x = cc in
          ap (λ (b : Bool). cond b (Some x) (find (λ y. holds_page y page) xs)) (ap (λ (y : Range). holds_page y page) (sym same) ∙ h) ∙ ap (λ (y : Range). Some y) (sym same))
      | false ↦ λ k. (
          let above = find_low (end_of x) (λ y. y.first == base) xs r a.1 k in
          let from = leb-true r.first page (and_parts (nat_le r.first page) (nat_lt page (end_of r)) h).0 in
          let not_here : holds_page x page ≡ false = and_right (nat_le x.first page) (nat_lt page (end_of x)) (le-ltb page (end_of x) (omega (arith, above, from))) in
          ap (λ (b : Bool). cond b (Some x) (find (λ y. holds_page y page) xs)) not_here ∙ found_where (end_of x) base page xs r a.1 k h)
    ] e

-- the region in which a page lies, as it is found by its base
pub record Found (found : ℕ → Option Region) (ranges : List Range) (page base : ℕ) (regions : List Region) : Type 0 where
  pub region : Region
  pub told : Told (find (λ r. holds_page r page) ranges) base
  pub there : found base ≡ Some region
  pub at : region_at regions page ≡ Some region
  pub has : HasPages region page 1

pub found_by : (found : ℕ → Option Region) (ranges : List Range) (page base : ℕ) (regions : List Region) → IsIndex found ranges → regions_of found ranges ≡ regions → Told (find (λ r. holds_page r page) ranges) base → Found found ranges page base regions
found_by found ranges page base regions index view told =
    let p = pair_of found told.range (found_range found (λ r. holds_page r page) ranges told.range index.held told.is).1 in
    let there = sym (ap found told.first) ∙ p.there in
    record {
      region = p.region;
      told = told;
      there = there;
      at = ap (λ (gs : List Region). region_at gs page) (sym view) ∙ find_held found (λ r. holds_page r page) ranges index.held ∙ ap (option_and_then (λ (r : Range). found r.first)) told.is ∙ p.there;
      has = region_there found ranges index page base p.region told there;
    }

-- a page of which this holds lies in a region
pub lies_in_one : (P : Region → Type 0) (o : Option Region) → IsSomeAnd o P → IsSome o
lies_in_one P None h = absurd h
lies_in_one P (Some g) h = refl

-- what is seen of a space, from its index and the ranges that are taken
module _ {S : Type 0} (m : HashMap ℕ Region S) (taken : GapsOf) (now : SpaceOf) (i : IsIndex (get nat_eq m) taken.ranges) (view : space_of (get nat_eq m) taken (spare m) ≡ now) where
  pub space_shown : IsSpace now.regions
  space_shown = subst (λ (v : SpaceOf). IsSpace v.regions) view (is_space (get nat_eq m) taken.ranges i)

  pub ranges_shown : taken.ranges ≡ region_ranges now.regions
  ranges_shown = sym (ranges_of-regions_of (get nat_eq m) taken.ranges i.held) ∙ ap (λ (v : SpaceOf). region_ranges v.regions) view

  -- a search among the regions gives what is found at the range that the same search gives
  seen : (t : Range → Bool) (o : Option Range) → find t taken.ranges ≡ o → find (λ g. t (region_range g)) now.regions ≡ option_and_then (λ r. get nat_eq m r.first) o
  seen t o e =
      ap (λ (v : SpaceOf). find (λ g. t (region_range g)) v.regions) (sym view)
      ∙ find_held (get nat_eq m) t taken.ranges i.held
      ∙ ap (option_and_then (λ (r : Range). get nat_eq m r.first)) e

  pub none_shown : (t : Range → Bool) → None ≡ option_map told_of (find t taken.ranges) → None ≡ find (λ g. t (region_range g)) now.regions
  none_shown t none = sym (seen t None (told_none _ none))

  pub found_shown : (t : Range → Bool) (base : Vpn) (n : ℕ) → Some (base, n) ≡ option_map told_of (find t taken.ranges) → get nat_eq m base.0 ≡ find (λ g. t (region_range g)) now.regions
  found_shown t base n some =
      let told = told_some _ base n some in
      sym (seen t (Some told.range) told.is ∙ ap (get nat_eq m) told.first)

  -- the region of a page tells of its range
  pub range_told : (page : ℕ) (region : Region) → Some region ≡ region_at now.regions page → Some (region.base, region.pages) ≡ option_map told_of (find (λ r. holds_page r page) taken.ranges)
  range_told page region e =
      elim (find (λ r. holds_page r page) taken.ranges) as (λ o. find (λ r. holds_page r page) taken.ranges ≡ o → Some (region.base, region.pages) ≡ option_map told_of o) [
        | None ↦ λ k. (let bad : Some region ≡ None = e ∙ seen (λ r. holds_page r page) None k in cc)
        | Some r ↦ λ k. (
            let p = pair_of (get nat_eq m) r (found_range (get nat_eq m) (λ r. holds_page r page) taken.ranges r i.held k).1 in
            let both : Some region ≡ Some p.region = e ∙ seen (λ r. holds_page r page) (Some r) k ∙ p.there in
            let same : region ≡ p.region = cc in
            ap (λ (g : Region). Some (told_of (region_range g))) same ∙ ap (λ (x : Range). Some (told_of x)) p.pages)
      ] refl

  -- the region that is found at a base is that of each of its pages
  pub found_at_base : (base page : ℕ) (region : Region) → Some region ≡ get nat_eq m base → base ≤ page → page < base + region.pages → region_at now.regions page ≡ Some region
  found_at_base base page region e low high =
      let one = one_begins (λ r. r.first == base) taken.ranges (i.only base (ap is_some (sym e))) in
      let here = eqb-true one.0.first base one.2 in
      let p = pair_of (get nat_eq m) one.0 (found_range (get nat_eq m) (λ r. r.first == base) taken.ranges one.0 i.held one.1).1 in
      let both : Some region ≡ Some p.region = e ∙ sym (ap (get nat_eq m) here) ∙ p.there in
      let same : region ≡ p.region = cc in
      let count : one.0.count ≡ region.pages = sym (ap (λ (r : Range). r.count) p.pages) ∙ sym (ap (λ (g : Region). g.pages) same) in
      let holds : holds_page one.0 page ≡ true = and_from (nat_le one.0.first page) (nat_lt page (end_of one.0)) (le-leb one.0.first page (omega (arith, here, low))) (lt-ltb page (end_of one.0) (omega (arith, here, high, count))) in
      seen (λ r. holds_page r page) (Some one.0) (found_where first_user_page base page taken.ranges one.0 i.apart one.1 holds) ∙ p.there ∙ ap (λ (g : Region). Some g) (sym same)

  -- a region has the base where a range begins there
  module _ (base : ℕ) where
    none_with_base_shown : is_begun_at base taken.ranges ≡ false → region_with_base now.regions base ≡ None
    none_with_base_shown e = seen (λ r. r.first == base) None (none_begins (λ r. r.first == base) taken.ranges e)

    pub begun_shown : IsSome (region_with_base now.regions base) → is_begun_at base taken.ranges ≡ true
    begun_shown some =
        elim (is_begun_at base taken.ranges) as (λ b. is_begun_at base taken.ranges ≡ b → is_begun_at base taken.ranges ≡ true) [
          | true ↦ λ e. e
          | false ↦ λ e. (let bad : false ≡ true = subst IsSome (none_with_base_shown e) some in cc)
        ] refl

    pub with_base_shown : IsSome (region_with_base now.regions base) → get nat_eq m base ≡ region_with_base now.regions base
    with_base_shown some =
        let one = one_begins (λ r. r.first == base) taken.ranges (begun_shown some) in
        sym (seen (λ r. r.first == base) (Some one.0) one.1 ∙ ap (get nat_eq m) (eqb-true one.0.first base one.2))
