-- An area is opened or closed, or a file is made.
use Rattle.std.proofs.Common.{◌≡◌, ◌⊎◌, ℕ, zero, suc, ◌+◌, ◌-◌, ◌<◌, ◌≤◌, ◌%◌, Bool, true, false, List, [], ◌∷◌, ◌++◌, length, replicate, Option, Some, None, Result, Ok, Err, refl, sym, ap, subst, ◌∙◌, inl, inr, arith}
use Rattle.std.specs.Prelude.{◌==◌, ◌&&◌, nat_lt, IsSome, is_some, if◌then◌else◌, slice_get, slice_set, slice_index_or, unwrap_or, OnOk, OnErr}
use Rattle.std.specs.List.{sum_by}
use Rattle.std.proofs.lemmas.Bool.{eqb-true, ltb-true, cases_lt}
use Rattle.std.proofs.lemmas.List.{length-append}
use Rattle.std.proofs.lemmas.List.Sums.{sum_by-cons}
use Rattle.mm_types.specs.{Area, Key, Pid, Place, Vpn}
use Rattle.mm_types.specs.declared.numbers.Key.TheVariants.{Private, Shared}
use Rattle.mm_types.proofs.{get_within}
use Rattle.mm_world.specs.{Page, filled, written}
use Rattle.mm_store.specs.{with_file, with_blocks, HasHome}
use Rattle.mm_move_rules.specs.{same_place}
use Rattle.mm_move_rules.specs.{changed}
use Rattle.mm_unpaged.specs.{AreaPages, FilePage, area_in, size_of, area_pages, page_of_area, area_block, count_of, one_if_live, no_areas, IsMade}
use Rattle.mm_unpaged.specs.{Stored, page_in, made_page, no_page, pages_at, FilesFit, page_of_area_key, unpaged_contents, plain_paging, blocks_of}
use Rattle.mm_unpaged.specs.{sizes_of, contents_in, store_in, page_of_block}
use Rattle.mm_unpaged.specs.declared.areas.AreaPages.TheVariants.{Paged, Filed}
use Rattle.mm_unpaged.proofs.OpenAreas.{in_file, live_within, none_at}
use Rattle.mm_unpaged.proofs.Contents.{Becomes, Kept, areas_kept, page_at_place, page_in_area, paging_kept, sizes_changed}
use Rattle.mm_unpaged.specs.declared.unpaged.Unpaged.{Unpaged}
use Rattle.mm_devices.specs.declared.Inject.{Ghosts as DeviceGhosts}

-- ---- functions of areas

closed_of : (o : Option AreaPages) → size_of o ≡ None → o ≡ None
closed_of None e = refl
closed_of (Some (Paged pages)) e = cc
closed_of (Some (Filed first count)) e = cc

pub none_counted : (areas mid : ℕ → Option AreaPages) (a : ℕ) → size_of (areas a) ≡ None → mid ≡ areas → count_of (mid a) ≡ 0
none_counted areas mid a new same = ap (λ f. count_of (f a)) same ∙ ap count_of (closed_of (areas a) new)

-- ---- an area without live pages

page_there : (fs : List FilePage) (k : ℕ) → k < length fs → page_of_block (slice_get fs k) ≡ None → ⊥
page_there [] k h e = omega arith
page_there (f ∷ fs) zero h e = cc
page_there (f ∷ fs) (suc k) h e = page_there fs k (omega arith) e

-- a key that is not live, at an index of an open area, is none of a file
paged_home : (files : List FilePage) (o : Option AreaPages) (i pages : ℕ) → size_of o ≡ Some pages → i < pages → page_of_area_key files (area_block o i) (page_of_area o i) ≡ None → ((block : ℕ) → area_block o i ≡ Some block → block < length files) → i < length (area_pages o)
paged_home files None i pages size near dead within = cc
paged_home files (Some (Paged ps)) i pages size near dead within = let same : length ps ≡ pages = cc in omega (arith, near, same)
paged_home files (Some (Filed first count)) i pages size near dead within =
    let same : count ≡ pages = cc in
    let there = in_file first count i (omega (arith, near, same)) in
    absurd (page_there files (first + i) (within (first + i) there) (sym (ap (λ b. page_of_area_key files b None) there) ∙ dead))

dead_page : (files : List FilePage) (o : Option AreaPages) (j : ℕ) → page_of_area_key files (area_block o j) (page_of_area o j) ≡ None → page_of_area o j ≡ None
dead_page files None j e = refl
dead_page files (Some (Paged pages)) j e = e
dead_page files (Some (Filed first count)) j e = refl

-- a live key without a block is no file's
pub own_live : {F : Type 0} {d : DeviceGhosts F} (s : Unpaged F d) (k : Key) → blocks_of (area_in s.areas) k ≡ None → IsSome (contents_in s k) → plain_paging (pages_at s.places) (area_in s.areas) k ≡ true
own_live s (Private p v) e h = h
own_live s (Shared a i) e h = subst (λ b. IsSome (page_of_area_key s.file_pages.items b (page_of_area (area_in s.areas a.0) i))) e h

module _ {F : Type 0} {d : DeviceGhosts F} (s : Unpaged F d) {k : Key} where
  -- a key that comes to be in an area has its index there, and no page
  pub home_near : {blocks : List Page} {count : ℕ} {a : Area} {i : ℕ} → k ≡ Shared a i → HasHome (store_in s) k → contents_in s k ≡ None → FilesFit (area_in s.areas) s.file_pages.items blocks count → (i < length (area_pages (area_in s.areas a.0))) × (page_of_area (area_in s.areas a.0) i ≡ None)
  home_near {a = a} {i = i} is home dead fit =
      let own : HasHome (store_in s) (Shared a i) = subst (λ (q : Key). HasHome (store_in s) q) is home in
      let none = sym (ap (contents_in s) is) ∙ dead in
      (paged_home s.file_pages.items (area_in s.areas a.0) i own.0 own.1.0 own.1.1 none (fit.near a.0 i), dead_page s.file_pages.items (area_in s.areas a.0) i none)

  pub live_near : {a : Area} {i : ℕ} → k ≡ Shared a i → plain_paging (pages_at s.places) (area_in s.areas) k ≡ true → i < length (area_pages (area_in s.areas a.0))
  live_near {a} {i} is live = live_within (area_pages (area_in s.areas a.0)) i (sym (ap (plain_paging (pages_at s.places) (area_in s.areas)) is) ∙ live)

  -- what a key of an area shows goes by its block
  pub shown_by : {a : Area} {i : ℕ} {o : Option ℕ} → k ≡ Shared a i → area_block (area_in s.areas a.0) i ≡ o → page_of_area_key s.file_pages.items o (page_of_area (area_in s.areas a.0) i) ≡ contents_in s k
  shown_by {a} {i} is e = sym (ap (contents_in s) is ∙ ap (λ b. page_of_area_key s.file_pages.items b (page_of_area (area_in s.areas a.0) i)) e)

  -- the page of a private key, and of a key of a page-file section, is another one
  pub at_place : {late : Place → Option Page} {p : Pid} {v : Vpn} {new : Option Page} → late ≡ changed same_place (pages_at s.places) (record { pid = p; vpn = v }) new → k ≡ Private p v → Becomes (pages_at s.places) late (area_in s.areas) (area_in s.areas) s.file_pages.items k new
  at_place e key = page_at_place (area_in s.areas) s.file_pages.items _ _ k _ e key

  pub in_area : {after : ℕ → Option AreaPages} {a : Area} {i : ℕ} {new : Option Page} → i < length (area_pages (area_in s.areas a.0)) → after ≡ changed ◌==◌ (area_in s.areas) a.0 (Some (Paged (slice_set (area_pages (area_in s.areas a.0)) i new))) → k ≡ Shared a i → Becomes (pages_at s.places) (pages_at s.places) (area_in s.areas) after s.file_pages.items k new
  in_area near is key = page_in_area (area_in s.areas) _ _ _ _ near is (pages_at s.places) s.file_pages.items k key

module _ (files : List FilePage) (o : Option AreaPages) (dead : (j : ℕ) → page_of_area_key files (area_block o j) (page_of_area o j) ≡ None) where
  dead_block : ((j block : ℕ) → area_block o j ≡ Some block → block < length files) → (j : ℕ) → area_block o j ≡ None
  dead_block near j = go (area_block o j) refl
    where
      go : (x : Option ℕ) → area_block o j ≡ x → area_block o j ≡ None
      go None e = e
      go (Some k) e = absurd (page_there files k (near j k e) (sym (ap (λ b. page_of_area_key files b (page_of_area o j)) e) ∙ dead j))

  pub dead_count : count_of o ≡ 0
  dead_count = all (area_pages o) (λ j. dead_page files o j (dead j))
    where
      all : (ps : List (Option Page)) → ((j : ℕ) → slice_index_or ps j None ≡ None) → sum_by one_if_live ps ≡ 0
      all [] e = refl
      all (p ∷ ps) e =
          let first = sum_by-cons one_if_live p ps in
          let none : one_if_live p ≡ 0 = ap one_if_live (e 0) in
          omega (arith, first, none, all ps (λ j. e (suc j)))

-- ---- an area opened, and closed

pub opened : (places : Place → Option Page) (areas after : ℕ → Option AreaPages) (files : List FilePage) (a n : ℕ) → size_of (areas a) ≡ None → after ≡ changed ◌==◌ areas a (Some (Paged (replicate n None))) → Kept places areas after files
opened places areas after files a n new is =
    let none = closed_of (areas a) new in
    areas_kept areas after a _ is places files (λ j. ap (λ o. area_block o j) (sym none)) (λ j. none_at None n j ∙ ap (λ o. page_of_area o j) (sym none))

pub opened_or_not : {T E : Type 0} (result : Result T E) (places : Place → Option Page) (areas after : ℕ → Option AreaPages) (files : List FilePage) (a n : ℕ) → size_of (areas a) ≡ None → OnOk result (after ≡ changed ◌==◌ areas a (Some (Paged (replicate n None)))) → OnErr result (after ≡ areas) → Kept places areas after files
opened_or_not (Ok x) places areas after files a n new ok err = opened places areas after files a n new ok
opened_or_not (Err e) places areas after files a n new ok err =
    subst (λ f. Kept places areas f files) (sym err) (record { contents = refl; paging = refl; block = λ b j. refl; blocks = refl })

pub closed : (places : Place → Option Page) (areas after : ℕ → Option AreaPages) (files : List FilePage) (a : ℕ) → ((j : ℕ) → page_of_area_key files (area_block (areas a) j) (page_of_area (areas a) j) ≡ None) → ((j block : ℕ) → area_block (areas a) j ≡ Some block → block < length files) → after ≡ changed ◌==◌ areas a None → Kept places areas after files
closed places areas after files a dead near is =
    areas_kept areas after a None is places files (λ j. sym (dead_block files (areas a) dead near j)) (λ j. sym (dead_page files (areas a) j (dead j)))

-- ---- a file made

get_before : {A : Type 0} (xs ys : List A) (i : ℕ) → i < length xs → slice_get (xs ++ ys) i ≡ slice_get xs i
get_before [] ys i h = absurd (omega arith)
get_before (x ∷ xs) ys zero h = refl
get_before (x ∷ xs) ys (suc i) h = get_before xs ys i (omega arith)

get_behind : {A : Type 0} (xs ys : List A) (i : ℕ) → slice_get (xs ++ ys) (length xs + i) ≡ slice_get ys i
get_behind [] ys i = let e : 0 + i ≡ i = omega arith in ap (λ (k : ℕ). slice_get ys k) e
get_behind (x ∷ xs) ys i =
    let e : suc (length xs) + i ≡ suc (length xs + i) = omega arith in
    ap (λ (k : ℕ). slice_get (x ∷ (xs ++ ys)) k) e ∙ get_behind xs ys i

pub record FileOpened (places : Place → Option Page) (areas after : ℕ → Option AreaPages) (a first n byte : ℕ) (files all : List FilePage) : Type 0 where
  pub contents : unpaged_contents places after all ≡ with_file a n byte (unpaged_contents places areas files)
  pub paging : plain_paging places after ≡ plain_paging places areas
  pub sizes : sizes_of after ≡ changed ◌==◌ (sizes_of areas) a (Some n)
  pub blocks : blocks_of after ≡ with_blocks a n first (blocks_of areas)
  pub used : length all ≡ length files + n

pub block_in : (first n j block : ℕ) → area_block (Some (Filed first n)) j ≡ Some block → (j < n) × (block ≡ first + j)
block_in first n j block e = go (nat_lt j n) refl e
  where
    go : (t : Bool) → nat_lt j n ≡ t → (if t then Some (first + j) else None) ≡ Some block → (j < n) × (block ≡ first + j)
    go true h e = (ltb-true j n h, cc)
    go false h e = cc

module _ (areas mid after : ℕ → Option AreaPages) (a first n byte : ℕ) (files early made all : List FilePage) (new : size_of (areas a) ≡ None) (before : mid ≡ areas) (set : after ≡ changed ◌==◌ mid a (Some (Filed first n))) (next : first ≡ length files) (filed : IsMade made n byte) (alike : early ≡ files) (put : all ≡ early ++ made) where
  closed_before : areas a ≡ None
  closed_before = closed_of (areas a) new

  is : after ≡ changed ◌==◌ areas a (Some (Filed first n))
  is = set ∙ ap (λ f. changed ◌==◌ f a (Some (Filed first n))) before

  whole : all ≡ files ++ made
  whole = put ∙ ap (λ fs. fs ++ made) alike

  made_at : (j : ℕ) → j < n → slice_get (files ++ made) (first + j) ≡ Some (made_page ((byte + j) % 256))
  made_at j h = ap (λ (k : ℕ). slice_get (files ++ made) (k + j)) next ∙ get_behind files made j ∙ filed.each j h

  contents_with_file : (places : Place → Option Page) → ((b j block : ℕ) → area_block (areas b) j ≡ Some block → block < length files) → unpaged_contents places after all ≡ with_file a n byte (unpaged_contents places areas files)
  contents_with_file places near = ap (λ f. unpaged_contents places f all) is ∙ ap (λ fs. unpaged_contents places (changed ◌==◌ areas a (Some (Filed first n))) fs) whole ∙ (λ t. λ (q : Key). (at q) t)
    where
      old : (b j : ℕ) (o : Option ℕ) → area_block (areas b) j ≡ o → page_of_area_key (files ++ made) o (page_of_area (areas b) j) ≡ page_of_area_key files o (page_of_area (areas b) j)
      old b j None e = refl
      old b j (Some k) e = ap page_of_block (get_before files made k (near b j k e))

      here : (b j : ℕ) (t : Bool) → areas b ≡ None → nat_lt j n ≡ t → page_of_area_key (files ++ made) (if t then Some (first + j) else None) None ≡ (if t then Some (filled ((byte + j) % 256)) else page_of_area_key files (area_block (areas b) j) (page_of_area (areas b) j))
      here b j true gone h = ap page_of_block (made_at j (ltb-true j n h))
      here b j false gone h = ap (λ o. page_of_area_key files (area_block o j) (page_of_area o j)) (sym gone)

      split : (b j : ℕ) (t : Bool) → (b == a) ≡ t → page_of_area_key (files ++ made) (area_block (if t then Some (Filed first n) else areas b) j) (page_of_area (if t then Some (Filed first n) else areas b) j) ≡ (if t && nat_lt j n then Some (filled ((byte + j) % 256)) else page_of_area_key files (area_block (areas b) j) (page_of_area (areas b) j))
      split b j true e = here b j (nat_lt j n) (ap areas (eqb-true b a e) ∙ closed_before) refl
      split b j false e = old b j (area_block (areas b) j) refl

      at : (q : Key) → unpaged_contents places (changed ◌==◌ areas a (Some (Filed first n))) (files ++ made) q ≡ with_file a n byte (unpaged_contents places areas files) q
      at (Private p v) = refl
      at (Shared b j) = split b.0 j (b.0 == a) refl

  blocks_with_file : blocks_of after ≡ with_blocks a n first (blocks_of areas)
  blocks_with_file = ap blocks_of is ∙ (λ t. λ (q : Key). (at q) t)
    where
      here : (b j : ℕ) (t : Bool) → areas b ≡ None → (if t then Some (first + j) else None) ≡ (if t then Some (first + j) else area_block (areas b) j)
      here b j true gone = refl
      here b j false gone = ap (λ o. area_block o j) (sym gone)

      split : (b j : ℕ) (t : Bool) → (b == a) ≡ t → area_block (if t then Some (Filed first n) else areas b) j ≡ (if t && nat_lt j n then Some (first + j) else area_block (areas b) j)
      split b j true e = here b j (nat_lt j n) (ap areas (eqb-true b a e) ∙ closed_before)
      split b j false e = refl

      at : (q : Key) → blocks_of (changed ◌==◌ areas a (Some (Filed first n))) q ≡ with_blocks a n first (blocks_of areas) q
      at (Private p v) = refl
      at (Shared b j) = split b.0 j (b.0 == a) refl

  used_with_file : length all ≡ length files + n
  used_with_file = ap length whole ∙ length-append files made ∙ ap (λ (k : ℕ). length files + k) filed.long

  pub file_opened : (places : Place → Option Page) → ((b j block : ℕ) → area_block (areas b) j ≡ Some block → block < length files) → FileOpened places areas after a first n byte files all
  file_opened places near = record {
    contents = contents_with_file places near;
    paging = paging_kept areas after a (Some (Filed first n)) is places (λ j. ap (λ o. page_of_area o j) (sym closed_before));
    sizes = sizes_changed areas after a (Some (Filed first n)) is;
    blocks = blocks_with_file;
    used = used_with_file;
  }

  -- where the block of a page is
  whose : (b j block : ℕ) → area_block (after b) j ≡ Some block → ((b ≡ a) × ((j < n) × (block ≡ first + j))) ⊎ (area_block (areas b) j ≡ Some block)
  whose b j block e = go (b == a) refl (sym (ap (λ f. area_block (f b) j) is) ∙ e)
    where
      go : (t : Bool) → (b == a) ≡ t → area_block (if t then Some (Filed first n) else areas b) j ≡ Some block → ((b ≡ a) × ((j < n) × (block ≡ first + j))) ⊎ (area_block (areas b) j ≡ Some block)
      go true h e = inl (eqb-true b a h, block_in first n j block e)
      go false h e = inr e

  pub files_fit_made : (blocks stored : List Page) (count : ℕ) → FilesFit areas files blocks count → first + n ≤ count → Stored first n made blocks stored → FilesFit after all stored count
  files_fit_made blocks stored count fit room laid = record {
    near = λ b j block e. elim (whose b j block e) [
      | inl own ↦ omega (arith, own.1.0, own.1.1, next, used_with_file)
      | inr old ↦ (let h = fit.near b j block old in omega (arith, h, used_with_file))
    ];
    alone = λ b i d j block e f. elim (whose b i block e) [
      | inl own ↦ elim (whose d j block f) [
        | inl too ↦ (own.0 ∙ sym too.0, omega (arith, own.1.1, too.1.1))
        | inr old ↦ (let h = fit.near d j block old in absurd (omega (arith, h, own.1.1, next)))
      ]
      | inr old ↦ elim (whose d j block f) [
        | inl own ↦ (let h = fit.near b i block old in absurd (omega (arith, h, own.1.1, next)))
        | inr too ↦ fit.alone b i d j block old too
      ]
    ];
    kept = λ b page e clean. kept b page (sym (ap (λ ps. slice_get ps b) whole) ∙ e) clean;
    device = laid.long ∙ fit.device;
    used = omega (arith, used_with_file, next, room);
    few = fit.few;
  }
    where
      behind : (b : ℕ) (page : FilePage) (i : ℕ) → b ≡ length files + i → slice_get (files ++ made) b ≡ Some page → slice_get stored b ≡ Some page.page
      behind b page i at e =
          let there : slice_get made i ≡ Some page = sym (get_behind files made i) ∙ ap (λ (k : ℕ). slice_get (files ++ made) k) (sym at) ∙ e in
          let near : i < n = omega (arith, get_within made i page there, filed.long) in
          let same : b ≡ first + i = omega (arith, at, next) in
          ap (λ (k : ℕ). slice_get stored k) same ∙ laid.done i page near there

      kept : (b : ℕ) (page : FilePage) → slice_get (files ++ made) b ≡ Some page → page.changed ≡ false → slice_get stored b ≡ Some page.page
      kept b page e clean = elim (cases_lt b (length files)) [
        | inl low ↦ laid.others b (inl (omega (arith, low, next))) ∙ fit.kept b page (sym (get_before files made b low) ∙ e) clean
        | inr high ↦ behind b page (b - length files) (omega (arith, high)) e
      ]

-- ---- a page settled

settled_page : (fs : List FilePage) (b k : ℕ) → page_of_block (slice_get (slice_set fs b (record { page = page_in fs b; changed = false })) k) ≡ page_of_block (slice_get fs k)
settled_page [] b k = refl
settled_page (f ∷ fs) zero zero = refl
settled_page (f ∷ fs) zero (suc k) = refl
settled_page (f ∷ fs) (suc b) zero = refl
settled_page (f ∷ fs) (suc b) (suc k) = settled_page fs b k

pub contents_settled : (places : Place → Option Page) (areas : ℕ → Option AreaPages) (files after : List FilePage) (b : ℕ) → after ≡ slice_set files b (record { page = page_in files b; changed = false }) → unpaged_contents places areas after ≡ unpaged_contents places areas files
contents_settled places areas files after b is = ap (unpaged_contents places areas) is ∙ (λ t. λ (q : Key). (at q) t)
  where
    here : (o : Option ℕ) (p : Option Page) → page_of_area_key (slice_set files b (record { page = page_in files b; changed = false })) o p ≡ page_of_area_key files o p
    here None p = refl
    here (Some k) p = settled_page files b k

    at : (q : Key) → unpaged_contents places areas (slice_set files b (record { page = page_in files b; changed = false })) q ≡ unpaged_contents places areas files q
    at (Private p v) = refl
    at (Shared a j) = here (area_block (areas a.0) j) (page_of_area (areas a.0) j)

-- the page that stands at a block
pub file_got : (fs : List FilePage) (b : ℕ) (here : FilePage) → b < length fs → here ≡ slice_index_or fs b here → slice_get fs b ≡ Some here
file_got [] b here h e = absurd (omega arith)
file_got (f ∷ fs) zero here h e = ap Some (sym e)
file_got (f ∷ fs) (suc b) here h e = file_got fs b here (omega arith) e

pub page_got : (fs : List FilePage) (b : ℕ) (here : FilePage) → b < length fs → here ≡ slice_index_or fs b here → page_of_block (slice_get fs b) ≡ Some here.page
page_got fs b here h e = ap page_of_block (file_got fs b here h e)

pub page_here : (fs : List FilePage) (b : ℕ) (here : FilePage) → b < length fs → here ≡ slice_index_or fs b here → here.page ≡ page_in fs b
page_here fs b here h e = sym (ap (λ o. unwrap_or o (filled 0)) (page_got fs b here h e))

pub file_written : (fs : List FilePage) (b off : ℕ) (bytes : List ℕ) (here new : FilePage) → b < length fs → here ≡ slice_index_or fs b here → new ≡ record { page = written here.page off bytes; changed = true } → slice_set fs b new ≡ slice_set fs b (record { page = written (page_in fs b) off bytes; changed = true })
file_written fs b off bytes here new near read is = ap (λ w. slice_set fs b w) (is ∙ ap (λ p. record { page = written p off bytes; changed = true }) (page_here fs b here near read))

-- ---- nothing yet

pub contents_new : (places : Place → Option Page) (areas : ℕ → Option AreaPages) (files : List FilePage) (k : Key) → places ≡ no_page → areas ≡ no_areas → unpaged_contents places areas files k ≡ None
contents_new places areas files (Private p v) none closed = ap (λ f. f (record { pid = p; vpn = v })) none
contents_new places areas files (Shared a i) none closed = ap (λ f. page_of_area_key files (area_block (f a.0) i) (page_of_area (f a.0) i)) closed

pub paging_new : (places : Place → Option Page) (areas : ℕ → Option AreaPages) (k : Key) → places ≡ no_page → areas ≡ no_areas → plain_paging places areas k ≡ false
paging_new places areas (Private p v) none closed = ap (λ f. is_some (f (record { pid = p; vpn = v }))) none
paging_new places areas (Shared a i) none closed = ap (λ f. is_some (page_of_area (f a.0) i)) closed

pub blocks_new : (areas : ℕ → Option AreaPages) (k : Key) → areas ≡ no_areas → blocks_of areas k ≡ None
blocks_new areas (Private p v) closed = refl
blocks_new areas (Shared a i) closed = ap (λ f. area_block (f a.0) i) closed

-- ---- outcomes

pub on_ok : {T E P Q : Type 0} (result : Result T E) → (P → Q) → OnOk result P → OnOk result Q
on_ok (Ok x) f p = f p
on_ok (Err e) f p = p
