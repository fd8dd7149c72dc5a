-- What the changes of a `Space` make of its regions.
use Rattle.std.proofs.Common.{◌≡◌, ◌≢◌, ℕ, ◌+◌, ◌-◌, ◌<◌, ◌≤◌, Bool, true, false, List, [], ◌∷◌, length, map, Option, Some, None, refl, sym, ap, ◌∙◌, subst, arith, ◌||◌}
use Rattle.std.specs.Prelude.{◌==◌, IsTrue, IsSome, IsSomeAnd, IfSome, is_some, not, nat_eq, min, option_map, find}
use Rattle.std.specs.List.{list_any}
use Rattle.std.specs.HashMap.{HashMap, get, spare, Updates, UpdatesBy, WritesThrough}
use Rattle.std.proofs.lemmas.Bool.{eqb-true, eqb-false, ne_eqb, and_parts, not-true}
use Rattle.mm_types.specs.{Range, Vpn, holds_page, meets, is_free, are_user_pages, page_of, first_user_page}
use Rattle.mm_vad.specs.{GapsOf, LieApart, add_range, remove_range, Region, SpaceOf, IsSpace, HasFlags, HasPages, LieInRegion, LieAmong, region_range}
use Rattle.mm_vad.specs.{region_at, add_region, remove_region, change_region, Change, change_by, CanChangeAt, FitsRegion, first_and_count, regions_of}
use Rattle.mm_vad.specs.{space_of, AllHeld, IsIndex, is_begun_at}
use Rattle.mm_vad.specs.declared.regions.Change.TheVariants as change
use Rattle.mm_world.specs.{change_range, unwritten}
use Rattle.mm_vad.proofs.FlagLemmas.{length-change}
use Rattle.mm_vad.proofs.Lookups.{Adds, Becomes, Keeps, Rewrites, is_space, add_held, remove_held, change_held, Found, found_by, lies_in_one, told_some}
use Rattle.mm_vad.proofs.Joined.{length-filled}
use Rattle.mm_vad.proofs.RangeLists.{begun_add, begun_remove}

-- the index after a change, the regions that it shows, and what holds of them
pub record Done (other : ℕ → Option Region) (ranges : List Range) (regions : List Region) : Type 0 where
  pub shown : regions_of other ranges ≡ regions
  pub index : IsIndex other ranges
  pub sound : IsSpace (regions_of other ranges)

done : (other : ℕ → Option Region) (ranges after : List Range) (regions : List Region) → after ≡ ranges → Becomes other ranges regions → ((q : ℕ) → IsSome (other q) → IsTrue (is_begun_at q ranges)) → LieApart first_user_page after → Done other after regions
done other ranges after regions e b only apart =
    let begun : (q : ℕ) → IsSome (other q) → IsTrue (is_begun_at q after) = λ q some. ap (is_begun_at q) e ∙ only q some in
    let index : IsIndex other after = record { apart = apart; held = subst (AllHeld other) (sym e) b.held; only = begun } in
    record { shown = ap (regions_of other) e ∙ b.shown; index = index; sound = is_space other after index }

-- one more is found, or one less, and so begins
only_more : (found other : ℕ → Option Region) (new : Range) (ranges : List Range) → ((q : ℕ) → q ≢ new.first → other q ≡ found q) → ((q : ℕ) → IsSome (found q) → IsTrue (is_begun_at q ranges)) → (q : ℕ) → IsSome (other q) → IsTrue (is_begun_at q (add_range new ranges))
only_more found other new ranges kept only q some =
    elim (new.first == q) as (λ b. (new.first == q) ≡ b → IsTrue (is_begun_at q (add_range new ranges))) [
      | true ↦ λ e. begun_add q new ranges ∙ ap (λ b. b || is_begun_at q ranges) e
      | false ↦ λ e. begun_add q new ranges ∙ ap (λ b. b || is_begun_at q ranges) e ∙ only q (sym (ap is_some (kept q (λ k. eqb-false new.first q e (sym k)))) ∙ some)
    ] refl

only_less : (found other : ℕ → Option Region) (base : ℕ) (ranges : List Range) → ((q : ℕ) → q ≢ base → other q ≡ found q) → other base ≡ None → ((q : ℕ) → IsSome (found q) → IsTrue (is_begun_at q ranges)) → (q : ℕ) → IsSome (other q) → IsTrue (is_begun_at q (remove_range base ranges))
only_less found other base ranges kept gone only q some =
    elim (q == base) as (λ b. (q == base) ≡ b → IsTrue (is_begun_at q (remove_range base ranges))) [
      | true ↦ λ e. (let bad : false ≡ true = sym (ap is_some (ap other (eqb-true q base e) ∙ gone)) ∙ some in cc)
      | false ↦ λ e. (let ne = eqb-false q base e in begun_remove q base ranges ne ∙ only q (sym (ap is_some (kept q ne)) ∙ some))
    ] refl

only_same : (found other : ℕ → Option Region) (base : ℕ) (ranges : List Range) → IsSome (found base) → ((q : ℕ) → q ≢ base → other q ≡ found q) → ((q : ℕ) → IsSome (found q) → IsTrue (is_begun_at q ranges)) → (q : ℕ) → IsSome (other q) → IsTrue (is_begun_at q ranges)
only_same found other base ranges there kept only q some =
    elim (q == base) as (λ b. (q == base) ≡ b → IsTrue (is_begun_at q ranges)) [
      | true ↦ λ e. only q (ap is_some (ap found (eqb-true q base e)) ∙ there)
      | false ↦ λ e. only q (sym (ap is_some (kept q (eqb-false q base e))) ∙ some)
    ] refl

-- a key that is not the base
not_at : (base q : ℕ) → q ≢ base → nat_eq base q ≡ false
not_at base q ne = ne_eqb base q (λ e. ne (sym e))

module _ {S : Type 0} (m : HashMap ℕ Region S) (taken : GapsOf) (now : SpaceOf) (i : IsIndex (get nat_eq m) taken.ranges) (view : space_of (get nat_eq m) taken (spare m) ≡ now) where
  -- a region more
  pub after_add : (n : HashMap ℕ Region S) (after : List Range) (region : Region) → IsTrue (is_free taken.ranges (region_range region)) → Updates nat_eq m n region.base.0 (Some region)
      → length region.rows ≡ region.pages → HasFlags region.pages region → 0 < region.pages → after ≡ add_range (region_range region) taken.ranges → LieApart first_user_page after → Done (get nat_eq n) after (add_region now.regions region)
  after_add n after region free u whole flags some e apart =
      let new = region_range region in
      let alone : list_any (meets new) taken.ranges ≡ false = not-true (list_any (meets new) taken.ranges) (and_parts (are_user_pages new) (not (list_any (meets new) taken.ranges)) free).1 in
      let adds : Adds (get nat_eq m) (get nat_eq n) new region = record {
        there = u.1;
        pages = refl;
        whole = whole;
        flags = flags;
        some = some;
        kept = λ q ne. u.2 q (not_at region.base.0 q ne);
      } in
      let b = add_held first_user_page (get nat_eq m) (get nat_eq n) new region taken.ranges adds i.apart i.held alone in
      subst (λ (v : SpaceOf). Done (get nat_eq n) after (add_region v.regions region)) view (done (get nat_eq n) _ after _ e b (only_more (get nat_eq m) (get nat_eq n) new taken.ranges adds.kept i.only) apart)

  -- a region less
  pub after_remove : (n : HashMap ℕ Region S) (after : List Range) (base : ℕ) → UpdatesBy nat_eq (nat_eq base) m n None → after ≡ remove_range base taken.ranges → LieApart first_user_page after → Done (get nat_eq n) after (remove_region now.regions base)
  after_remove n after base u e apart =
      let kept : (q : ℕ) → q ≢ base → get nat_eq n q ≡ get nat_eq m q = λ q ne. u.2 q (not_at base q ne) in
      let b = remove_held first_user_page base (get nat_eq m) (get nat_eq n) taken.ranges i.apart i.held kept in
      subst (λ (v : SpaceOf). Done (get nat_eq n) after (remove_region v.regions base)) view (done (get nat_eq n) _ after _ e b (only_less (get nat_eq m) (get nat_eq n) base taken.ranges kept u.1 i.only) apart)

-- ---- the changes that there are

-- where one of them can be made, a region holds the page
pub can_none : (c : Change) (regions : List Region) (page : ℕ) → CanChangeAt c regions page → region_at regions page ≡ None → ⊥
can_none c regions page can none = (let bad : false ≡ true = ap is_some (sym none) ∙ is_there c can in cc)
  where
    is_there : (c : Change) → CanChangeAt c regions page → IsSome (region_at regions page)
    is_there (change.FillRows n row) h = lies_in_one _ _ h
    is_there change.Mark h = h
    is_there (change.ClearMarks n) h = lies_in_one _ _ h
    is_there (change.Unwrite pages) h = lies_in_one _ _ h

fits_region : (c : Change) (regions : List Region) (page : ℕ) (g : Region) → HasPages g page 1 → region_at regions page ≡ Some g → CanChangeAt c regions page → FitsRegion c page g
fits_region c regions page g has at can = fits c can
  where
    pages : (n : ℕ) → LieInRegion regions page n → HasPages g page n
    pages n lie = record {
      low = has.low;
      within = subst (λ (o : Option Region). IsSomeAnd o (λ r. page - r.base.0 + n ≤ r.pages)) at lie;
      whole = has.whole;
      flags = has.flags;
    }

    fits : (c : Change) → CanChangeAt c regions page → FitsRegion c page g
    fits (change.FillRows n row) h = pages n h
    fits change.Mark h = has
    fits (change.ClearMarks n) h = pages n h
    fits (change.Unwrite addresses) h = (subst (λ (o : Option Region). IsSomeAnd o (λ r. LieAmong r.base.0 r.pages addresses.now)) at h, has.flags)

-- where each list of flags keeps its length, the region keeps its flags
flags_keep : (f : List Bool → List Bool) → ((flags : List Bool) → length (f flags) ≡ length flags) → (o : Option (List Bool)) (k : ℕ) → IfSome o (λ flags. length flags ≡ k) → IfSome (option_map f o) (λ flags. length flags ≡ k)
flags_keep f same None k h = tt
flags_keep f same (Some flags) k h = same flags ∙ h

length-unwritten : (base : ℕ) (pages : List ℕ) (flags : List Bool) → length (unwritten base pages flags) ≡ length flags
length-unwritten base [] flags = refl
length-unwritten base (page ∷ pages) flags = length-unwritten base pages (change_range (λ was. false) (page - base) 1 flags) ∙ length-change (λ was. false) (page - base) 1 flags

change_keeps : (c : Change) (page : ℕ) (g : Region) → FitsRegion c page g → Keeps (change_by c page) g
change_keeps (change.FillRows n row) page g has = record {
  pages = refl;
  rows = length-filled g.rows (page - g.base.0) n row (omega (arith, has.within, has.whole));
  flags = λ n h. h;
}
change_keeps change.Mark page g has = record { pages = refl; rows = refl; flags = flags_keep _ (length-change (λ was. true) (page - g.base.0) 1) g.watched }
change_keeps (change.ClearMarks n) page g has = record { pages = refl; rows = refl; flags = flags_keep _ (length-change (λ was. false) (page - g.base.0) n) g.watched }
change_keeps (change.Unwrite addresses) page g has = record { pages = refl; rows = refl; flags = flags_keep _ (length-unwritten g.base.0 (map page_of addresses.now)) g.watched }

-- ---- one region changed

-- what a space keeps, shows and tells after a change of the region of the page
pub record Changed {S : Type 0} (n : HashMap ℕ Region S) (taken : GapsOf) (page : ℕ) (change : Region → Region) (before : SpaceOf) : Type 0 where
  pub index : IsIndex (get nat_eq n) taken.ranges
  pub shown : space_of (get nat_eq n) taken (spare n) ≡ record before { regions = change_region change before.regions page }
  pub sound : IsSpace (regions_of (get nat_eq n) taken.ranges)

shown_as : List Region → ℕ → SpaceOf
shown_as regions n = record { regions = regions; spare = n }

-- the region of the page, of whose base the ranges told
module _ {S : Type 0} (m : HashMap ℕ Region S) (taken : GapsOf) (page : ℕ) (base : Vpn) (k : ℕ) (now : SpaceOf) (i : IsIndex (get nat_eq m) taken.ranges) (view : space_of (get nat_eq m) taken (spare m) ≡ now)
    (told : Some (base, k) ≡ option_map first_and_count (find (λ r. holds_page r page) taken.ranges)) where
  found : Found (get nat_eq m) taken.ranges page base.0 now.regions
  found = found_by (get nat_eq m) taken.ranges page base.0 now.regions i (ap (λ (v : SpaceOf). v.regions) view) (told_some _ base k told)

  pub none_missing : None ≡ get nat_eq m base.0 → ⊥
  none_missing e = (let bad : None ≡ Some found.region = e ∙ found.there in cc)

  -- the pages that change are the region's
  pub fits : (region : Region) (c : Change) → Some region ≡ get nat_eq m base.0 → CanChangeAt c now.regions page → FitsRegion c page region
  fits region c e can =
      let both : Some region ≡ Some found.region = e ∙ found.there in
      let same : found.region ≡ region = cc in
      fits_region c now.regions page region (subst (λ (g : Region). HasPages g page 1) same found.has) (found.at ∙ sym both) can

  -- one change for all: it leaves the region what the index keeps of it
  pub after_change : (n : HashMap ℕ Region S) (c : Change) (region written : Region) → Some region ≡ get nat_eq m base.0 → written ≡ change_by c page region → CanChangeAt c now.regions page → WritesThrough nat_eq (nat_eq base.0) m written n → Changed n taken page (change_by c page) now
  unfolding shown_as
  after_change n c region written there is can writes =
      let change = change_by c page in
      let some : IsSome (get nat_eq m base.0) = ap is_some (sym there) in
      let updates = writes.3 some in
      let first = sym found.told.first in
      let rewrites : Rewrites (get nat_eq m) (get nat_eq n) change found.told.range.first region = record {
        there = ap (get nat_eq m) found.told.first ∙ sym there;
        after = ap (get nat_eq n) found.told.first ∙ updates.1 ∙ ap (λ (g : Region). Some g) is;
        keeps = change_keeps c page region (fits region c there can);
        kept = λ q ne. updates.2 q (not_at base.0 q (λ e. ne (e ∙ first)));
      } in
      let b = change_held first_user_page page (get nat_eq m) (get nat_eq n) change region found.told.range taken.ranges rewrites i.apart i.held found.told.is in
      let index : IsIndex (get nat_eq n) taken.ranges = record { apart = i.apart; held = b.held; only = only_same (get nat_eq m) (get nat_eq n) base.0 taken.ranges some (λ q ne. updates.2 q (not_at base.0 q ne)) i.only } in
      record {
        index = index;
        shown = ap (λ (gs : List Region). shown_as gs (min taken.spare (spare n))) b.shown
            ∙ ap (λ (k : ℕ). shown_as (change_region change (regions_of (get nat_eq m) taken.ranges) page) (min taken.spare k)) writes.6
            ∙ ap (λ (v : SpaceOf). record v { regions = change_region change v.regions page }) view;
        sound = is_space (get nat_eq n) taken.ranges index;
      }

-- ---- nothing changed but the order of the entries

pub after_none : (found other : ℕ → Option Region) (ranges after : List Range) → ((q : ℕ) → other q ≡ found q) → after ≡ ranges → IsIndex found ranges → IsIndex other after
after_none found other ranges after same e i =
    let as_one : other ≡ found = (λ i q. same q i) in
    subst (IsIndex other) (sym e) (subst (λ (f : ℕ → Option Region). IsIndex f ranges) (sym as_one) i)
