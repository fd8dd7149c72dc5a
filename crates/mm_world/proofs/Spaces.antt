-- Each process's regions stay laid out, and their rows fit.
use Rattle.std.proofs.Common.{◌≡◌, ℕ, zero, suc, ◌-◌, ◌%◌, ◌≤◌, ◌<◌, Bool, true, false, Option, Some, None, List, [], ◌∷◌, ◌++◌, ◌⊎◌, inl, inr, refl, sym, ◌∙◌, ap, subst, cond, arith, length, set, get_or, slice_get, ◌&&◌, not, nat_lt, nat_le}
use Rattle.std.specs.Prelude.{◌==◌}
use Rattle.std.specs.List.{list_any}
use Rattle.std.specs.Cmp.{unsigned_Decides}
use Rattle.std.proofs.lemmas.Bool.{leb-true}
use Rattle.std.proofs.lemmas.List.{get_or-set_same, get_or-set_other, length-replicate}
use Rattle.mm_types.proofs.{same_or_not}
use Rattle.mm_types.specs.{Answer, Range, end_of, granule_range_of, pages_for, page_of, lies_within, meets, first_user_page, end_of_user_pages}
use Rattle.mm_types.specs.{granule_pages, granule_size, is_granule_address, base_of, reserve_type}
use Rattle.mm_types.specs.declared.answers.Answer.TheVariants as answer
use Rattle.mm_types.specs.declared.views.Kind.TheVariants as kind
use Rattle.mm_world.specs.{unwritten, WorldOf, ProcessOf, RegionOf, Numbered, numbered, pages_of, change_range, process_of, set_process, add_region}
use Rattle.mm_world.specs.{ranges_of, OutcomeOf, done, is_one_of, is_protection_among, private_protections, reserved_row, commit, private_region}
use Rattle.mm_world.specs.{new_row, are_alloc_parameters, alloc_types, free, no_regions, FlagsFit, RowFits, RowsFit, IsSpace, Spaces}
use Rattle.mm_world.proofs.Tables.{Holds, met}
use Rattle.mm_world.proofs.Edits.{Terms, RegionEdit, RegionComes, RegionGoes, RegionChanges, Edit, Rest, Regions, HandleComes, HandleGoes, ProcessComes, ProcessGoes, Edits, fold}
use Rattle.mm_world.proofs.Finding.{numbered_inside}
use Rattle.mm_world.proofs.RowsFit.{each-insert, each-remove, each-set, each-at, reserved_fits, commit_fits, length-change_range}
use Rattle.mm_world.proofs.Regions.{laid_add, laid_remove, laid_set, and-true, less, IsPlaced, PlacedAt}

-- what stands in a place after a write
pub after_set : {A : Type 0} (xs : List (Option A)) (i j : ℕ) (x : Option A) (y : A) → i < length xs → get_or (set xs i x) j None ≡ Some y → ((x ≡ Some y) × (j ≡ i)) ⊎ (get_or xs j None ≡ Some y)
after_set xs i j x y inside e =
    elim (same_or_not j i) [
      | inl same ↦ inl (sym (get_or-set_same xs i x None inside) ∙ ap (λ (k : ℕ). get_or (set xs i x) k None) (sym same) ∙ e, same)
      | inr other ↦ inr (sym (get_or-set_other xs i j x None other) ∙ e)
    ]

pub after_push : {A : Type 0} (xs : List (Option A)) (x : Option A) (j : ℕ) (y : A) → get_or (xs ++ x ∷ []) j None ≡ Some y → (x ≡ Some y) ⊎ (get_or xs j None ≡ Some y)
after_push [] x zero y e = inl e
after_push [] x (suc j) y e = cc
after_push (z ∷ xs) x zero y e = inr e
after_push (z ∷ xs) x (suc j) y e = after_push xs x j y e

not_zero : (n : ℕ) → not (n == 0) ≡ true → 1 ≤ n
not_zero zero e = cc
not_zero (suc n) e = omega arith

pub base_allowed : (size type prot : ℕ) → are_alloc_parameters size type prot ≡ true → is_one_of private_protections (base_of prot) ≡ true
base_allowed size type prot e =
    let whole = and-true (is_one_of alloc_types type && not (size == 0)) (is_protection_among private_protections prot) e in
    (and-true (is_one_of private_protections (base_of prot)) (nat_lt prot 0x200) (and-true (is_one_of private_protections (base_of prot) && nat_lt prot 0x200) (not (prot == 0x101)) whole.1).0).0

pub some_bytes : (size type prot : ℕ) → are_alloc_parameters size type prot ≡ true → 1 ≤ size
some_bytes size type prot e =
    not_zero size (and-true (is_one_of alloc_types type) (not (size == 0)) (and-true (is_one_of alloc_types type && not (size == 0)) (is_protection_among private_protections prot) e).0).1

pub some_pages : (addr size : ℕ) (taken : List Range) (range : Range) → 1 ≤ size → PlacedAt taken (granule_range_of addr size) (pages_for size) range → 1 ≤ range.count
some_pages addr size taken range some placed_at =
    elim placed_at.size [
      | inl e ↦ omega (arith, e, some)
      | inr e ↦ omega (arith, e, some)
    ]

pub wanted_granule : (addr : ℕ) → is_granule_address addr ≡ true → page_of addr % granule_pages ≡ 0
wanted_granule addr e = let h : addr % granule_size ≡ 0 = (unsigned_Decides (addr % granule_size) 0).0 e in omega (arith, h)

pub count_some : (len total first : ℕ) → nat_lt first total ≡ true → 1 ≤ cond (len == 0) (total - first) (pages_for len)
count_some len total first inside = by_len (len == 0) refl
  where
    by_len : (b : Bool) → (len == 0) ≡ b → 1 ≤ cond b (total - first) (pages_for len)
    by_len true e = omega (arith, less first total inside)
    by_len false e = let some = not_zero len (ap not e) in omega (arith, some)

pub length-unwritten : (base : ℕ) (pages : List ℕ) (ws : List Bool) → length (unwritten base pages ws) ≡ length ws
length-unwritten base [] ws = refl
length-unwritten base (page ∷ pages) ws =
    length-unwritten base pages (change_range (λ was. false) (page - base) 1 ws) ∙ length-change_range (λ was. false) (page - base) 1 ws

module _ {B : Type 0} where
  -- the processes' regions stay well formed
  pub record KeepsSpaces (w : WorldOf B) (o : OutcomeOf B) : Type 0 where
    pub kept : Spaces w → Spaces o.world

  pub by_process : (w : WorldOf B) (pid : ℕ) (p q : ProcessOf B) (a : Answer) → process_of w pid ≡ Some p → (IsSpace p.regions → IsSpace q.regions) → Holds (KeepsSpaces w) (done a (set_process w pid (Some q)))
  by_process w pid p q a lives keeps =
      met (record {
        kept = λ h j r e.
            elim (after_set w.processes pid j (Some q) r (numbered_inside w.processes pid p lives) e) [
              | inl is ↦ (let same : q ≡ r = cc in subst (λ (r : ProcessOf B). IsSpace r.regions) same (keeps (h pid p lives)))
              | inr other ↦ h j r other
            ];
      })

  -- ---- regions that come, change and go

  pub space_add : (new : RegionOf B) (rs : List (RegionOf B)) (range : Range) → IsPlaced (ranges_of rs) range → new.base ≡ range.first → length new.rows ≡ range.count → 1 ≤ range.count → FlagsFit new → RowsFit new → IsSpace rs → IsSpace (add_region new rs)
  space_add new rs range free base rows some flags fit h =
      let same : range ≡ pages_of new = λ i. record { first = sym base i; count = sym rows i } in
      let user = and-true (nat_le first_user_page range.first) (nat_le (end_of range) end_of_user_pages) free.user in
      record {
        laid_out = laid_add first_user_page new rs
            (record {
              later = omega (arith, leb-true _ _ user.0, base);
              on_granule = ap (λ (n : ℕ). n % granule_pages) base ∙ free.on_granule;
              some = omega (arith, some, rows);
              flags = flags;
            })
            (omega (arith, leb-true _ _ user.1, base, rows))
            h.laid_out
            (subst (λ range. list_any (meets range) (ranges_of rs) ≡ false) same free.free);
        rows = each-insert RowsFit rs _ new h.rows fit;
      }

  pub new_row_fits : (fill : ℕ → B) (type prot : ℕ) → is_one_of private_protections (base_of prot) ≡ true → RowFits kind.Private (new_row fill type prot)
  new_row_fits fill type prot e =
      elim (type == reserve_type) as (λ b. RowFits kind.Private (cond b reserved_row (commit (fill 0) prot reserved_row))) [ true ↦ reserved_fits | false ↦ commit_fits (fill 0) prot reserved_row e ]

  pub private_flags : (fill : ℕ → B) (watched : Bool) (type prot : ℕ) (range : Range) → FlagsFit (private_region fill watched type prot range)
  private_flags fill true type prot range = (length-replicate range.count false ∙ sym (length-replicate range.count (new_row fill type prot)), refl)
  private_flags fill false type prot range = tt

  pub space_set : (rs : List (RegionOf B)) (place : ℕ) (r new : RegionOf B) → slice_get rs place ≡ Some r → new.base ≡ r.base → length new.rows ≡ length r.rows → (FlagsFit r → FlagsFit new) → (RowsFit r → RowsFit new) → IsSpace rs → IsSpace (set rs place new)
  space_set rs place r new there base rows flags fit h =
      record {
        laid_out = laid_set first_user_page rs place r new there base rows flags h.laid_out;
        rows = each-set RowsFit rs place new h.rows (fit (each-at RowsFit rs place r h.rows there));
      }

  pub begins_before : (range : Range) (r : RegionOf B) → lies_within range (pages_of r) ≡ true → r.base ≤ range.first
  begins_before range r e = leb-true _ _ (and-true (nat_le r.base range.first) (nat_le (end_of range) (end_of (pages_of r))) e).0

module _ {B : Type 0} (t : Terms) where
  after_region : (w : WorldOf B) (pid : ℕ) (rs new : List (RegionOf B)) → RegionEdit t w pid rs new → IsSpace rs → IsSpace new
  after_region w pid rs _ (RegionComes new h) k = space_add new rs (pages_of new) h.placed refl refl h.some h.flags h.rows k
  after_region w pid rs _ (RegionGoes i r there gone charged) k = record { laid_out = laid_remove first_user_page rs i k.laid_out; rows = each-remove RowsFit rs i k.rows }
  after_region w pid rs _ (RegionChanges i r new there like) k = space_set rs i r new there like.base like.count like.flags like.rows k

  each : (w v : WorldOf B) → Edit t w v → Spaces w → Spaces v
  each w _ (Rest v b) h =
      subst (λ (ps : Numbered (ProcessOf B)). (pid : ℕ) (p : ProcessOf B) → numbered ps pid ≡ Some p → IsSpace p.regions) (sym b.processes) h
  each w _ (Regions pid p rs lives e) h = ((by_process w pid p (record p { regions = rs }) answer.Ok lives (after_region w pid p.regions rs e))).it.kept h
  each w _ (HandleComes pid p number lives there) h = (by_process w pid p _ answer.Ok lives (λ k. k)).it.kept h
  each w _ (HandleGoes pid p i lives) h = (by_process w pid p _ answer.Ok lives (λ k. k)).it.kept h
  each w _ (ProcessComes room) h = λ j r e.
      elim (after_push w.processes (Some no_regions) j r e) [
        | inl is ↦ (let same : no_regions ≡ r = cc in subst (λ (r : ProcessOf B). IsSpace r.regions) same (record { laid_out = omega arith; rows = tt }))
        | inr other ↦ h j r other
      ]
  each w _ (ProcessGoes pid p lives gone charged) h = λ j r e.
      elim (after_set w.processes pid j None r (numbered_inside w.processes pid p lives) e) [
        | inl is ↦ (let bad = is.0 in cc)
        | inr other ↦ h j r other
      ]
  each w v e h = h

  pub spaces_kept : (w v : WorldOf B) → Edits t w v → Spaces w → Spaces v
  spaces_kept = fold t Spaces each
