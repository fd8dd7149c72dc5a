-- What searches find.
use Rattle.std.proofs.Common.{◌≡◌, ◌≢◌, ℕ, zero, suc, ◌+◌, ◌-◌, ◌<◌, Bool, true, false, Option, Some, None, List, [], ◌∷◌, ◌++◌, refl, sym, ◌∙◌, ap, subst, cond, length, set, get_or, arith, option_map, slice_get, is_some}
use Rattle.std.specs.Prelude.{option_and_then}
use Rattle.mm_types.specs.{Kind, View, Key}
use Rattle.mm_world.specs.{WorldOf, RegionOf, ProcessOf, RowOf, Found, first_where, one_later, region_with, process_of, shared_page, Home, Own}
use Rattle.mm_world.specs.{InSection, Committed, committed_at, committed_in, home_in, key_of, content_of, private_key, own_page, row_at}
use Rattle.mm_world.specs.{HasCommittedRow, same_key, is_private}
use Rattle.mm_types.specs.declared.views.Kind.TheVariants as kind
use Rattle.mm_types.specs.declared.numbers.Key.TheVariants as key

-- ---- lists

-- what was found stands at its place and passes the test
pub record Stands {A : Type 0} (test : A → Bool) (xs : List A) (f : Found A) : Type 0 where
  pub there : slice_get xs f.place ≡ Some f.thing
  pub passes : test f.thing ≡ true

abbrev IfStands : {A : Type 0} → (A → Bool) → List A → Option (Found A) → Type 0
IfStands test xs None = Unit {0}
IfStands test xs (Some f) = Stands test xs f

one_more : {A : Type 0} (test : A → Bool) (x : A) (xs : List A) (o : Option (Found A)) → IfStands test xs o → IfStands test (x ∷ xs) (option_map one_later o)
one_more test x xs None h = tt
one_more test x xs (Some f) h = record { there = h.there; passes = h.passes }

at_test : {A : Type 0} (test : A → Bool) (x : A) (xs : List A) (b : Bool) (o : Option (Found A)) → test x ≡ b → IfStands test (x ∷ xs) o → IfStands test (x ∷ xs) (cond b (Some (record { place = 0; thing = x })) o)
at_test test x xs true o e h = record { there = refl; passes = e }
at_test test x xs false o e h = h

search_stands : {A : Type 0} (test : A → Bool) (xs : List A) → IfStands test xs (first_where test xs)
search_stands test [] = tt
search_stands test (x ∷ xs) = at_test test x xs (test x) (option_map one_later (first_where test xs)) refl (one_more test x xs (first_where test xs) (search_stands test xs))

by_option : {A : Type 0} (test : A → Bool) (xs : List A) (o : Option (Found A)) (f : Found A) → IfStands test xs o → o ≡ Some f → Stands test xs f
by_option test xs None f h e = cc
by_option test xs (Some g) f h e = let same : g ≡ f = cc in record { there = ap (λ (k : Found _). slice_get xs k.place) (sym same) ∙ h.there ∙ ap (λ (k : Found _). Some k.thing) same; passes = ap (λ (k : Found _). test k.thing) (sym same) ∙ h.passes }

pub found_stands : {A : Type 0} (test : A → Bool) (xs : List A) (f : Found A) → first_where test xs ≡ Some f → Stands test xs f
found_stands test xs f e = by_option test xs (first_where test xs) f (search_stands test xs) e

-- what is there stands inside
pub numbered_inside : {A : Type 0} (xs : List (Option A)) (i : ℕ) (x : A) → get_or xs i None ≡ Some x → i < length xs
numbered_inside [] i x e = cc
numbered_inside (y ∷ ys) zero x e = omega arith
numbered_inside (y ∷ ys) (suc i) x e = omega (arith, numbered_inside ys i x e)

pub numbered_there : {A : Type 0} (xs : List (Option A)) (i : ℕ) (x : A) → get_or xs i None ≡ Some x → slice_get xs i ≡ Some (Some x)
numbered_there [] i x e = cc
numbered_there (y ∷ ys) zero x e = ap (λ (o : Option _). Some o) e
numbered_there (y ∷ ys) (suc i) x e = numbered_there ys i x e

-- what holds of the old and the new in each place, where one was put in the place of another
pub put_at : {A : Type 0} (P : Option A → Option A → Type 0) (xs : List (Option A)) (i j : ℕ) (x : A) (y : Option A) → get_or xs i None ≡ Some x → (j ≡ i → P (Some x) y) → (j ≢ i → P (get_or xs j None) (get_or xs j None)) → P (get_or xs j None) (get_or (set xs i y) j None)
put_at P [] i j x y at here other = cc
put_at P (o ∷ xs) zero zero x y at here other = subst (λ o. P o y) (sym at) (here refl)
put_at P (o ∷ xs) (suc i) (suc j) x y at here other = put_at P xs i j x y at (λ e. here (ap suc e)) (λ n. other (λ e. n (let same : j ≡ i = cc in same)))
put_at P (o ∷ xs) _ _ x y at here other = other (λ e. cc)

-- and where one more was put behind
pub push_at : {A : Type 0} (P : Option A → Option A → Type 0) (xs : List (Option A)) (j : ℕ) (y : Option A) → P None y → ((o : Option A) → P o o) → P (get_or xs j None) (get_or (xs ++ y ∷ []) j None)
push_at P [] zero y new same = new
push_at P [] (suc j) y new same = same None
push_at P (o ∷ xs) zero y new same = same o
push_at P (o ∷ xs) (suc j) y new same = push_at P xs j y new same

module _ {B : Type 0} where
  -- ---- committed rows

  pub record IsCommitted (w : WorldOf B) (regions : List (RegionOf B)) (page : ℕ) (c : Committed B) : Type 0 where
    pub region : region_with regions page ≡ Some c.region
    pub row_there : row_at c.region.thing page ≡ Some c.row
    pub home_there : home_in w (page - c.region.thing.base) c.region.thing.kind c.row.own ≡ Some c.home

  by_home : (w : WorldOf B) (r : Found (RegionOf B)) (row : RowOf B) (h : Option (Home B)) (c : Committed B) → option_map (λ home. record { region = r; row = row; home = home }) h ≡ Some c → (r ≡ c.region) × (row ≡ c.row) × (h ≡ Some c.home)
  by_home w r row None c e = cc
  by_home w r row (Some home) c e =
      let made : Committed B = record { region = r; row = row; home = home } in
      let same : made ≡ c = cc in
      (ap (λ (k : Committed B). k.region) same, ap (λ (k : Committed B). k.row) same, ap (λ (k : Committed B). Some k.home) same)

  by_row : (w : WorldOf B) (r : Found (RegionOf B)) (page : ℕ) (row : Option (RowOf B)) (c : Committed B) → row_at r.thing page ≡ row → committed_in w r (page - r.thing.base) row ≡ Some c → (r ≡ c.region) × (row_at r.thing page ≡ Some c.row) × (home_in w (page - r.thing.base) r.thing.kind c.row.own ≡ Some c.home)
  by_row w r page None c at_row e = cc
  by_row w r page (Some row) c at_row e =
      let h = by_home w r row (home_in w (page - r.thing.base) r.thing.kind row.own) c e in
      (h.0, at_row ∙ ap (λ (x : RowOf B). Some x) h.1, ap (λ (x : RowOf B). home_in w (page - r.thing.base) r.thing.kind x.own) (sym h.1) ∙ h.2)

  by_region : (w : WorldOf B) (regions : List (RegionOf B)) (page : ℕ) (r : Option (Found (RegionOf B))) (c : Committed B) → region_with regions page ≡ r → option_and_then (λ r. committed_in w r (page - r.thing.base) (row_at r.thing page)) r ≡ Some c → IsCommitted w regions page c
  by_region w regions page None c at_region e = cc
  by_region w regions page (Some r) c at_region e =
      let h = by_row w r page (row_at r.thing page) c refl e in
      record {
        region = at_region ∙ ap (λ (x : Found (RegionOf B)). Some x) h.0;
        row_there = ap (λ (x : Found (RegionOf B)). row_at x.thing page) (sym h.0) ∙ h.1;
        home_there = ap (λ (x : Found (RegionOf B)). home_in w (page - x.thing.base) x.thing.kind c.row.own) (sym h.0) ∙ h.2;
      }

  pub committed_is : (w : WorldOf B) (regions : List (RegionOf B)) (page : ℕ) (c : Committed B) → committed_at w regions page ≡ Some c → IsCommitted w regions page c
  committed_is w regions page c e = by_region w regions page (region_with regions page) c refl e

  -- where a committed row's page is
  pub data HomeCases (w : WorldOf B) (i : ℕ) (k : Kind) (own : Option B) (home : Home B) : Type 0 where
    IsOwn : (bytes : B) → own ≡ Some bytes → home ≡ Own bytes → HomeCases w i k own home
    IsShared : (v : View) (page : B) → k ≡ kind.View v → own ≡ None → shared_page w v.area.0 (v.first + i) ≡ Some page → home ≡ InSection v.area.0 (v.first + i) → HomeCases w i k own home

  by_shared : (w : WorldOf B) (i : ℕ) (v : View) (o : Option B) (home : Home B) → shared_page w v.area.0 (v.first + i) ≡ o → option_map (λ page. InSection v.area.0 (v.first + i)) o ≡ Some home → HomeCases w i (kind.View v) None home
  by_shared w i v None home at_page e = cc
  by_shared w i v (Some page) home at_page e = IsShared v page refl refl at_page cc

  pub home_cases : (w : WorldOf B) (i : ℕ) (k : Kind) (own : Option B) (home : Home B) → home_in w i k own ≡ Some home → HomeCases w i k own home
  home_cases w i k (Some bytes) home e = IsOwn bytes refl cc
  home_cases w i kind.Private None home e = cc
  home_cases w i (kind.View v) None home e = by_shared w i v (shared_page w v.area.0 (v.first + i)) home refl e

  -- ---- each committed row's key is live, and each live private key has a committed row

  found_row : (w : WorldOf B) (regions : List (RegionOf B)) (page : ℕ) (c : Committed B) → IsCommitted w regions page c → own_page regions page ≡ c.row.own
  found_row w regions page c h =
      ap (λ r. option_and_then (λ (r : Found (RegionOf B)). option_and_then (λ (row : RowOf B). row.own) (row_at r.thing page)) r) h.region
      ∙ ap (λ row. option_and_then (λ (row : RowOf B). row.own) row) h.row_there

  by_case : (w : WorldOf B) (pid page i : ℕ) (p : ProcessOf B) (c : Committed B) (home : Home B) → process_of w pid ≡ Some p → IsCommitted w p.regions page c → HomeCases w i c.region.thing.kind c.row.own home → is_some (content_of w (key_of pid page home)) ≡ true
  by_case w pid page i p c home lives h (IsOwn bytes own at_home) =
      ap (λ home. is_some (content_of w (key_of pid page home))) at_home ∙ ap is_some ((ap (λ p. option_and_then (λ (p : ProcessOf B). own_page p.regions page) p) lives) ∙ found_row w p.regions page c h ∙ own)
  by_case w pid page i p c home lives h (IsShared v shared k own at_page at_home) =
      ap (λ home. is_some (content_of w (key_of pid page home))) at_home ∙ ap is_some at_page

  pub row_has_live_key : (w : WorldOf B) (pid page : ℕ) (p : ProcessOf B) (c : Committed B) → process_of w pid ≡ Some p → committed_at w p.regions page ≡ Some c → is_some (content_of w (key_of pid page c.home)) ≡ true
  row_has_live_key w pid page p c lives committed =
      let h = committed_is w p.regions page c committed in
      by_case w pid page _ p c c.home lives h (home_cases w (page - c.region.thing.base) c.region.thing.kind c.row.own c.home h.home_there)

  -- the other way: own bytes are found only in a committed row
  in_own : (w : WorldOf B) (pid page : ℕ) (p : ProcessOf B) (r : Found (RegionOf B)) (row : RowOf B) (own : Option B) (bytes : B) → process_of w pid ≡ Some p → region_with p.regions page ≡ Some r → row_at r.thing page ≡ Some row → row.own ≡ own → own ≡ Some bytes → HasCommittedRow w pid page bytes
  in_own w pid page p r row None bytes lives at_region at_row at_own e = cc
  in_own w pid page p r row (Some own) bytes lives at_region at_row at_own e =
      record {
        process = p;
        row = record { region = r; row = row; home = Own own };
        lives = lives;
        committed =
            ap (λ r. option_and_then (λ (r : Found (RegionOf B)). committed_in w r (page - r.thing.base) (row_at r.thing page)) r) at_region
            ∙ ap (λ row. committed_in w r (page - r.thing.base) row) at_row
            ∙ ap (λ own. option_map (λ (home : Home B). let made : Committed B = record { region = r; row = row; home = home } in made) (home_in w (page - r.thing.base) r.thing.kind own)) at_own;
        own = ap (λ o. Own o) (let same : own ≡ bytes = cc in same);
      }

  in_row : (w : WorldOf B) (pid page : ℕ) (p : ProcessOf B) (r : Found (RegionOf B)) (row : Option (RowOf B)) (bytes : B) → process_of w pid ≡ Some p → region_with p.regions page ≡ Some r → row_at r.thing page ≡ row → option_and_then (λ (row : RowOf B). row.own) row ≡ Some bytes → HasCommittedRow w pid page bytes
  in_row w pid page p r None bytes lives at_region at_row e = cc
  in_row w pid page p r (Some row) bytes lives at_region at_row e = in_own w pid page p r row row.own bytes lives at_region at_row refl e

  in_region : (w : WorldOf B) (pid page : ℕ) (p : ProcessOf B) (r : Option (Found (RegionOf B))) (bytes : B) → process_of w pid ≡ Some p → region_with p.regions page ≡ r → option_and_then (λ (r : Found (RegionOf B)). option_and_then (λ (row : RowOf B). row.own) (row_at r.thing page)) r ≡ Some bytes → HasCommittedRow w pid page bytes
  in_region w pid page p None bytes lives at_region e = cc
  in_region w pid page p (Some r) bytes lives at_region e = in_row w pid page p r (row_at r.thing page) bytes lives at_region refl e

  in_lives : (w : WorldOf B) (pid page : ℕ) (p : Option (ProcessOf B)) (bytes : B) → process_of w pid ≡ p → option_and_then (λ (p : ProcessOf B). own_page p.regions page) p ≡ Some bytes → HasCommittedRow w pid page bytes
  in_lives w pid page None bytes lives e = cc
  in_lives w pid page (Some p) bytes lives e = in_region w pid page p (region_with p.regions page) bytes lives refl e

  pub private_key_has_row : (w : WorldOf B) (pid page : ℕ) (bytes : B) → content_of w (private_key pid page) ≡ Some bytes → HasCommittedRow w pid page bytes
  private_key_has_row w pid page bytes e = in_lives w pid page (process_of w pid) bytes refl e

-- ---- kinds of regions and keys of pages, by their tests

pub private_kind : (k : Kind) → is_private k ≡ true → k ≡ kind.Private
private_kind kind.Private e = refl
private_kind (kind.View v) e = cc

pub same_again : (k : Key) → same_key k k ≡ true
same_again (key.Private p v) = grind arith
same_again (key.Shared a i) = grind arith
