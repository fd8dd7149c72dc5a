-- What a change of a place, of an area or of a file's page makes of the contents.
use Rattle.std.proofs.Common.{◌≡◌, ℕ, ◌<◌, Bool, true, false, List, length, Option, Some, None, refl, sym, ap, ◌∙◌, subst, inl, inr, arith}
use Rattle.std.specs.Prelude.{◌==◌, ◌&&◌, IsSome, is_some, option_map, if◌then◌else◌, slice_set, unwrap_or}
use Rattle.std.proofs.Math.ListN.{length-set}
use Rattle.std.proofs.lemmas.Bool.{eqb-true, and_parts}
use Rattle.std.specs.Cmp.{unsigned_Decides}
use Rattle.mm_types.proofs.{same_or_not, get_set_same, get_set_other}
use Rattle.mm_types.specs.{Area, Key, Pid, Place, Vpn}
use Rattle.mm_types.specs.declared.numbers.Key.TheVariants.{Private, Shared}
use Rattle.mm_world.specs.{same_key, InFrame, Page, Tally, filled, written}
use Rattle.mm_move_rules.specs.{same_place}
use Rattle.mm_move_rules.specs.{changed}
use Rattle.mm_unpaged.specs.{AreaPages, FilePage, size_of, area_pages, page_of_area, area_block, page_of_area_key, unpaged_contents, plain_paging}
use Rattle.mm_unpaged.specs.{blocks_of, sizes_of, whereabouts_of, unpaged_report, page_of_block}
use Rattle.mm_unpaged.specs.declared.areas.AreaPages.TheVariants.{Paged, Filed}
use Rattle.mm_unpaged.proofs.OpenAreas.{set_at}

-- ---- functions of keys

same_keys : (k q : Key) → same_key k q ≡ true → k ≡ q
same_keys (Private p v) (Private q w) e =
    let h = and_parts (p.0 == q.0) (v.0 == w.0) e in
    λ i. Private (record { 0 = eqb-true p.0 q.0 h.0 i }) (record { 0 = eqb-true v.0 w.0 h.1 i })
same_keys (Private p v) (Shared a i) e = cc
same_keys (Shared a i) (Private p v) e = cc
same_keys (Shared a i) (Shared b j) e =
    let h = and_parts (a.0 == b.0) (i == j) e in
    λ t. Shared (record { 0 = eqb-true a.0 b.0 h.0 t }) (eqb-true i j h.1 t)

-- a change to what was there is none
pub changed_same : {V : Type 0} (f : Key → V) (k : Key) (v : V) → f k ≡ v → changed same_key f k v ≡ f
changed_same {V} f k v same = λ i. λ (q : Key). (at q (same_key q k) refl) i
  where
    at : (q : Key) (b : Bool) → same_key q k ≡ b → (if b then v else f q) ≡ f q
    at q true t = sym same ∙ ap f (sym (same_keys q k t))
    at q false t = refl

where_changed : (contents : Key → Option Page) (k : Key) (page : Page) → whereabouts_of (changed same_key contents k (Some page)) ≡ changed same_key (whereabouts_of contents) k (Some InFrame)
where_changed contents k page = λ i. λ (q : Key). (at q (same_key q k)) i
  where
    at : (q : Key) (b : Bool) → option_map (λ _. InFrame) (if b then Some page else contents q) ≡ (if b then Some InFrame else option_map (λ _. InFrame) (contents q))
    at q true = refl
    at q false = refl

in_frame : (o : Option Page) → IsSome o → option_map (λ _. InFrame) o ≡ Some InFrame
in_frame None live = cc
in_frame (Some page) live = refl

-- a live key with other bytes stays where it is, and the report tells of a key no more than that
pub report_kept : (w : Tally) (contents after : Key → Option Page) (k : Key) (page : Page) → after ≡ changed same_key contents k (Some page) → IsSome (contents k) → unpaged_report w after ≡ unpaged_report w contents
report_kept w contents after k page e live =
    let stays : whereabouts_of after ≡ whereabouts_of contents =
    ap whereabouts_of e ∙ where_changed contents k page ∙ changed_same (whereabouts_of contents) k (Some InFrame) (in_frame (contents k) live) in
    λ i. record (unpaged_report w contents) { whereabouts = stays i }

-- bytes written into the page that a key has
pub written_to : (C : Key → Option Page) (off : ℕ) (bytes : List ℕ) {D : Key → Option Page} {k : Key} {p : Option Page} → D ≡ changed same_key C k (Some (written (unwrap_or p (filled 0)) off bytes)) → p ≡ C k → D ≡ changed same_key C k (Some (written (unwrap_or (C k) (filled 0)) off bytes))
written_to C off bytes {k = k} e same = e ∙ ap (λ q. changed same_key C k (Some (written (unwrap_or q (filled 0)) off bytes))) same

-- ---- the page of one key is another one, or none

pub record Becomes (places late : Place → Option Page) (areas after : ℕ → Option AreaPages) (files : List FilePage) (k : Key) (new : Option Page) : Type 0 where
  pub contents : unpaged_contents late after files ≡ changed same_key (unpaged_contents places areas files) k new
  pub paging : plain_paging late after ≡ changed same_key (plain_paging places areas) k (is_some new)
  pub sizes : sizes_of after ≡ sizes_of areas
  pub block : (b j : ℕ) → area_block (after b) j ≡ area_block (areas b) j
  pub blocks : blocks_of after ≡ blocks_of areas

pub page_at_place : {places late : Place → Option Page} (areas : ℕ → Option AreaPages) (files : List FilePage) (p : Pid) (v : Vpn) (k : Key) (new : Option Page) → late ≡ changed same_place places (record { pid = p; vpn = v }) new → k ≡ Private p v → Becomes places late areas areas files k new
page_at_place {places} {late} areas files p v k new e key = subst (λ (q : Key). Becomes places late areas areas files q new) (sym key) (record {
  contents = ap (λ ps. unpaged_contents ps areas files) e ∙ (λ t. λ (q : Key). (at q) t);
  paging = ap (λ ps. plain_paging ps areas) e ∙ (λ t. λ (q : Key). (live q) t);
  sizes = refl;
  block = λ b j. refl;
  blocks = refl;
})
  where
    at : (q : Key) → unpaged_contents (changed same_place places (record { pid = p; vpn = v }) new) areas files q ≡ changed same_key (unpaged_contents places areas files) (Private p v) new q
    at (Private q w) = refl
    at (Shared a j) = refl

    cases : (b : Bool) (old : Option Page) → is_some (if b then new else old) ≡ (if b then is_some new else is_some old)
    cases true old = refl
    cases false old = refl

    live : (q : Key) → plain_paging (changed same_place places (record { pid = p; vpn = v }) new) areas q ≡ changed same_key (plain_paging places areas) (Private p v) (is_some new) q
    live (Private q w) = cases ((q.0 == p.0) && (w.0 == v.0)) (places (record { pid = q; vpn = w }))
    live (Shared a j) = refl

-- ---- an area is another one

-- an area with pages of its own is no file
pub paged_of : (o : Option AreaPages) (i : ℕ) → i < length (area_pages o) → o ≡ Some (Paged (area_pages o))
paged_of None i h = absurd (omega arith)
paged_of (Some (Paged pages)) i h = refl
paged_of (Some (Filed first count)) i h = absurd (omega arith)

-- areas of which no key shows another page or block
pub record Kept (places : Place → Option Page) (areas after : ℕ → Option AreaPages) (files : List FilePage) : Type 0 where
  pub contents : unpaged_contents places after files ≡ unpaged_contents places areas files
  pub paging : plain_paging places after ≡ plain_paging places areas
  pub block : (b j : ℕ) → area_block (after b) j ≡ area_block (areas b) j
  pub blocks : blocks_of after ≡ blocks_of areas

module _ (areas after : ℕ → Option AreaPages) (a : ℕ) (new : Option AreaPages) (is : after ≡ changed ◌==◌ areas a new) where
  -- what the areas show stays, where it does for the one that changed
  kept_at : {V : Type 0} (g : Option AreaPages → V) → g new ≡ g (areas a) → (b : ℕ) → g (after b) ≡ g (areas b)
  kept_at {V} g same b = ap (λ f. g (f b)) is ∙ go (b == a) refl
    where
      go : (t : Bool) → (b == a) ≡ t → g (if t then new else areas b) ≡ g (areas b)
      go true e = same ∙ ap (λ (n : ℕ). g (areas n)) (sym (eqb-true b a e))
      go false e = refl

  pub block_kept : ((j : ℕ) → area_block new j ≡ area_block (areas a) j) → (b j : ℕ) → area_block (after b) j ≡ area_block (areas b) j
  block_kept same b j = kept_at (λ o. area_block o j) (same j) b

  pub paging_kept : (places : Place → Option Page) → ((j : ℕ) → page_of_area new j ≡ page_of_area (areas a) j) → plain_paging places after ≡ plain_paging places areas
  paging_kept places same = λ t. λ (q : Key). (at q) t
    where
      at : (q : Key) → plain_paging places after q ≡ plain_paging places areas q
      at (Private p v) = refl
      at (Shared b j) = kept_at (λ o. is_some (page_of_area o j)) (ap is_some (same j)) b.0

  -- an area with the blocks and the pages that it had
  pub areas_kept : (places : Place → Option Page) (files : List FilePage) → ((j : ℕ) → area_block new j ≡ area_block (areas a) j) → ((j : ℕ) → page_of_area new j ≡ page_of_area (areas a) j) → Kept places areas after files
  areas_kept places files block page = record {
    contents = λ t. λ (q : Key). (at q) t;
    paging = paging_kept places page;
    block = block_kept block;
    blocks = λ t. λ (q : Key). (home q) t;
  }
    where
      at : (q : Key) → unpaged_contents places after files q ≡ unpaged_contents places areas files q
      at (Private p v) = refl
      at (Shared b j) = kept_at (λ o. page_of_area_key files (area_block o j) (page_of_area o j)) (λ t. page_of_area_key files (block j t) (page j t)) b.0

      home : (q : Key) → blocks_of after q ≡ blocks_of areas q
      home (Private p v) = refl
      home (Shared b j) = block_kept block b.0 j

  pub sizes_kept : size_of new ≡ size_of (areas a) → sizes_of after ≡ sizes_of areas
  sizes_kept same = λ t. λ (b : ℕ). (kept_at size_of same b) t

  pub sizes_changed : sizes_of after ≡ changed ◌==◌ (sizes_of areas) a (size_of new)
  sizes_changed = ap sizes_of is ∙ (λ t. λ (b : ℕ). (go b (b == a)) t)
    where
      go : (b : ℕ) (t : Bool) → size_of (if t then new else areas b) ≡ (if t then size_of new else size_of (areas b))
      go b true = refl
      go b false = refl

-- ---- an area has another page

module _ (areas after : ℕ → Option AreaPages) (a : Area) (i : ℕ) (new : Option Page) (near : i < length (area_pages (areas a.0))) (is : after ≡ changed ◌==◌ areas a.0 (Some (Paged (slice_set (area_pages (areas a.0)) i new)))) where
  paged : areas a.0 ≡ Some (Paged (area_pages (areas a.0)))
  paged = paged_of (areas a.0) i near

  at_page : {V : Type 0} (g : Option ℕ → Option Page → V) (b j : ℕ) → g (area_block (after b) j) (page_of_area (after b) j) ≡ (if (b == a.0) && (j == i) then g None new else g (area_block (areas b) j) (page_of_area (areas b) j))
  at_page {V} g b j = ap (λ f. g (area_block (f b) j) (page_of_area (f b) j)) is ∙ go (b == a.0) refl
    where
      split : (t : Bool) → areas b ≡ Some (Paged (area_pages (areas a.0))) → g None (if t then new else page_of_area (Some (Paged (area_pages (areas a.0)))) j) ≡ (if t then g None new else g (area_block (areas b) j) (page_of_area (areas b) j))
      split true e = refl
      split false e = ap (λ o. g (area_block o j) (page_of_area o j)) (sym e)

      go : (t : Bool) → (b == a.0) ≡ t → g (area_block (if t then Some (Paged (slice_set (area_pages (areas a.0)) i new)) else areas b) j) (page_of_area (if t then Some (Paged (slice_set (area_pages (areas a.0)) i new)) else areas b) j) ≡ (if t && (j == i) then g None new else g (area_block (areas b) j) (page_of_area (areas b) j))
      go true e = ap (g None) (set_at (area_pages (areas a.0)) i j new None near) ∙ split (j == i) (ap areas (eqb-true b a.0 e) ∙ paged)
      go false e = refl

  pub page_in_area : (places : Place → Option Page) (files : List FilePage) (k : Key) → k ≡ Shared a i → Becomes places places areas after files k new
  page_in_area places files k key = subst (λ (q : Key). Becomes places places areas after files q new) (sym key) (record {
    contents = λ t. λ (q : Key). (at q) t;
    paging = λ t. λ (q : Key). (live q) t;
    sizes = sizes_kept areas after a.0 _ is (ap Some (length-set (area_pages (areas a.0)) i new) ∙ ap size_of (sym paged));
    block = block_kept areas after a.0 _ is no_block;
    blocks = λ t. λ (q : Key). (home q) t;
  })
    where
      at : (q : Key) → unpaged_contents places after files q ≡ changed same_key (unpaged_contents places areas files) (Shared a i) new q
      at (Private p v) = refl
      at (Shared b j) = at_page (page_of_area_key files) b.0 j

      live : (q : Key) → plain_paging places after q ≡ changed same_key (plain_paging places areas) (Shared a i) (is_some new) q
      live (Private p v) = refl
      live (Shared b j) = at_page (λ block page. is_some page) b.0 j

      no_block : (j : ℕ) → None ≡ area_block (areas a.0) j
      no_block j = ap (λ o. area_block o j) (sym paged)

      home : (q : Key) → blocks_of after q ≡ blocks_of areas q
      home (Private p v) = refl
      home (Shared b j) = block_kept areas after a.0 _ is no_block b.0 j

-- ---- a block has another page

module _ (areas : ℕ → Option AreaPages) (files after : List FilePage) (a : Area) (i block : ℕ) (new : FilePage) (at_block : area_block (areas a.0) i ≡ Some block) (near : block < length files) (is : after ≡ slice_set files block new) where
  pub contents_in_file : ((b j : ℕ) → area_block (areas b) j ≡ Some block → (b ≡ a.0) × (j ≡ i)) → (places : Place → Option Page) (k : Key) → k ≡ Shared a i → unpaged_contents places areas after ≡ changed same_key (unpaged_contents places areas files) k (Some new.page)
  contents_in_file alone places k key =
      ap (λ fs. unpaged_contents places areas fs) is ∙ (λ t. λ (q : Key). (at q) t) ∙ ap (λ q. changed same_key (unpaged_contents places areas files) q (Some new.page)) (sym key)
    where
      other : (b : Area) (j : ℕ) → ((b.0 == a.0) && (j == i)) ≡ false → (o : Option ℕ) → area_block (areas b.0) j ≡ o → page_of_area_key (slice_set files block new) o (page_of_area (areas b.0) j) ≡ page_of_area_key files o (page_of_area (areas b.0) j)
      other b j t None e = refl
      other b j t (Some k) e = elim (same_or_not k block) [
        | inl same ↦
            let both = alone b.0 j (e ∙ ap Some same) in
            let first : (b.0 == a.0) ≡ true = (unsigned_Decides b.0 a.0).1 both.0 in
            let second : (j == i) ≡ true = (unsigned_Decides j i).1 both.1 in
            let bad : true ≡ false = sym (ap (λ x. x && (j == i)) first ∙ second) ∙ t in
            cc
        | inr apart ↦ ap page_of_block (get_set_other files block k new apart)
      ]

      split : (b : Area) (j : ℕ) (t : Bool) → ((b.0 == a.0) && (j == i)) ≡ t → page_of_area_key (slice_set files block new) (area_block (areas b.0) j) (page_of_area (areas b.0) j) ≡ (if t then Some new.page else page_of_area_key files (area_block (areas b.0) j) (page_of_area (areas b.0) j))
      split b j true e =
          let h = and_parts (b.0 == a.0) (j == i) e in
          let there : area_block (areas b.0) j ≡ Some block = ap (λ (n : ℕ). area_block (areas n) j) (eqb-true b.0 a.0 h.0) ∙ ap (λ (n : ℕ). area_block (areas a.0) n) (eqb-true j i h.1) ∙ at_block in
          ap (λ o. page_of_area_key (slice_set files block new) o (page_of_area (areas b.0) j)) there ∙ ap page_of_block (get_set_same files block new near)
      split b j false e = other b j e (area_block (areas b.0) j) refl

      at : (q : Key) → unpaged_contents places areas (slice_set files block new) q ≡ changed same_key (unpaged_contents places areas files) (Shared a i) (Some new.page) q
      at (Private p v) = refl
      at (Shared b j) = split b j ((b.0 == a.0) && (j == i)) refl
