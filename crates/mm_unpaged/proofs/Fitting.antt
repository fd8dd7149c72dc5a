-- What changes of the parts of a store leave true of them.
use Rattle.std.proofs.Common.{◌≡◌, ◌≢◌, ◌⊎◌, ◌+◌, ◌<◌, ◌≤◌, ◌^◌, ℕ, Bool, true, false, List, [], length, Option, Some, None, Result, Ok, Err, refl, sym, ap, ◌∙◌, subst, inl, inr, arith}
use Rattle.std.specs.Prelude.{◌==◌, nat_le, nat_lt, if◌then◌else◌, OnOk, OnErr, slice_get, slice_set}
use Rattle.std.proofs.Math.ListN.{length-set}
use Rattle.std.proofs.lemmas.Bool.{and_parts, leb-true, ltb-true}
use Rattle.mm_types.specs.{Pid, Place, Range, are_user_pages, holds_page, end_of, end_of_user_pages, first_user_page}
use Rattle.mm_types.proofs.{same_or_not, get_set_same, get_set_other, get_within}
use Rattle.mm_world.specs.{Page}
use Rattle.mm_store.specs.{changed_in, is_place_in}
use Rattle.mm_unpaged.specs.{AreaPages, FilePage, area_block, count_in, no_areas, Fits, FilesFit, is_bound_in, pages_in, no_place, StockOf}
use Rattle.mm_unpaged.specs.declared.areas.Areas.{Areas}
use Rattle.mm_unpaged.specs.declared.places.Places.{Places}

-- ---- places, areas and boxes

-- places below the end stay below it
pub fits_then : {a b : Places} {x y : Areas} {s t : StockOf} → Fits a x s → is_bound_in b ≡ is_bound_in a → (pages_in b + count_in y) + t.boxes ≡ t.room → Fits b y t
fits_then fits bound boxes = record { boxes = boxes; low = λ p e. fits.low p (sym (ap (λ f. f p) bound) ∙ e) }

pub fits_kept : {a b : Places} {x : Areas} {s : StockOf} → Fits a x s → is_bound_in b ≡ is_bound_in a → pages_in b ≡ pages_in a → Fits b x s
fits_kept fits bound count = fits_then fits bound (omega (arith, count, fits.boxes))

pub fits_areas : {a : Places} {x y : Areas} {s : StockOf} → Fits a x s → count_in y ≡ count_in x → Fits a y s
fits_areas fits count = fits_then fits refl (omega (arith, count, fits.boxes))

pub fits_new : (a : Places) (x : Areas) (s : StockOf) → is_bound_in a ≡ no_place → pages_in a ≡ 0 → count_in x ≡ 0 → s ≡ record { boxes = 0; room = 0 } → Fits a x s
fits_new a x s bound count none stock = record {
  boxes = omega (arith, count, none, ap (λ (t : StockOf). t.boxes) stock, ap (λ (t : StockOf). t.room) stock);
  low = λ p e. (let bad : false ≡ true = sym (ap (λ f. f p) bound) ∙ e in cc);
}

in_range : (range : Range) (page : ℕ) → are_user_pages range ≡ true → holds_page range page ≡ true → page < end_of_user_pages
in_range range page user held =
    let u = leb-true (end_of range) end_of_user_pages (and_parts (nat_le first_user_page range.first) (nat_le (end_of range) end_of_user_pages) user).1 in
    let h = ltb-true page (end_of range) (and_parts (nat_le range.first page) (nat_lt page (end_of range)) held).1 in
    omega (arith, u, h)

module _ {a b : Places} {x : Areas} {s : StockOf} (pid : Pid) (range : Range) where
  bound_more : are_user_pages range ≡ true → Fits a x s → is_bound_in b ≡ changed_in pid range (is_bound_in a) true → pages_in b ≡ pages_in a → Fits b x s
  bound_more user fits bound count = record {
    boxes = omega (arith, count, fits.boxes);
    low = λ p e. at p (is_place_in pid range p) refl (sym (ap (λ f. f p) bound) ∙ e);
  }
    where
      at : (p : Place) (t : Bool) → is_place_in pid range p ≡ t → (if t then true else is_bound_in a p) ≡ true → p.vpn.0 < end_of_user_pages
      at p true e h = in_range range p.vpn.0 user (and_parts (p.pid.0 == pid.0) (holds_page range p.vpn.0) e).1
      at p false e h = fits.low p h

  pub fits_bound : {T E : Type 0} (result : Result T E) → are_user_pages range ≡ true → Fits a x s → OnOk result (is_bound_in b ≡ changed_in pid range (is_bound_in a) true) → OnErr result (is_bound_in b ≡ is_bound_in a) → pages_in b ≡ pages_in a → Fits b x s
  fits_bound (Ok r) user fits ok err count = bound_more user fits ok count
  fits_bound (Err e) user fits ok err count = fits_kept fits err count

  pub fits_unbound : Fits a x s → is_bound_in b ≡ changed_in pid range (is_bound_in a) false → pages_in b ≡ pages_in a → Fits b x s
  fits_unbound fits bound count = record {
    boxes = omega (arith, count, fits.boxes);
    low = λ p e. at p (is_place_in pid range p) (sym (ap (λ f. f p) bound) ∙ e);
  }
    where
      at : (p : Place) (t : Bool) → (if t then false else is_bound_in a p) ≡ true → p.vpn.0 < end_of_user_pages
      at p true h = cc
      at p false h = fits.low p h

-- ---- files

module _ {areas : ℕ → Option AreaPages} {pages : List FilePage} {blocks : List Page} {count : ℕ} (fit : FilesFit areas pages blocks count) where
  -- no page of a file has another block
  pub files_fit_areas : {after : ℕ → Option AreaPages} → ((a i : ℕ) → area_block (after a) i ≡ area_block (areas a) i) → FilesFit after pages blocks count
  files_fit_areas same = record {
    near = λ a i block e. fit.near a i block (sym (same a i) ∙ e);
    alone = λ a i b j block e f. fit.alone a i b j block (sym (same a i) ∙ e) (sym (same b j) ∙ f);
    kept = fit.kept;
    device = fit.device;
    used = fit.used;
    few = fit.few;
  }

  -- a block has another page, which the device holds unless it was changed
  pub files_fit_set : {after : List FilePage} {stored : List Page} (block : ℕ) (new : FilePage) → block < length pages → after ≡ slice_set pages block new → length stored ≡ length blocks → (new.changed ≡ false → slice_get stored block ≡ Some new.page) → ((b : ℕ) → b ≢ block → slice_get stored b ≡ slice_get blocks b) → FilesFit areas after stored count
  files_fit_set {after} {stored} block new near is wide here others =
      let long : length after ≡ length pages = ap length is ∙ length-set pages block new in
      record {
        near = λ a i b e. (let n = fit.near a i b e in omega (arith, n, long));
        alone = fit.alone;
        kept = λ b p e clean. elim (same_or_not b block) [
          | inl same ↦
              let there : Some new ≡ Some p = sym (ap (λ ps. slice_get ps b) is ∙ ap (λ (n : ℕ). slice_get (slice_set pages block new) n) same ∙ get_set_same pages block new near) ∙ e in
              let one : new ≡ p = cc in
              ap (λ (n : ℕ). slice_get stored n) same ∙ here (ap (λ (x : FilePage). x.changed) one ∙ clean) ∙ ap (λ (x : FilePage). Some x.page) one
          | inr other ↦ others b other ∙ fit.kept b p (sym (ap (λ ps. slice_get ps b) is ∙ get_set_other pages block b new other) ∙ e) clean
        ];
        device = wide ∙ fit.device;
        used = omega (arith, fit.used, long);
        few = fit.few;
      }

  -- the block of a page holds it now
  pub files_fit_settled : {after : List FilePage} {stored : List Page} (block : ℕ) (page : Page) → block < length pages → after ≡ slice_set pages block (record { page = page; changed = false }) → stored ≡ slice_set blocks block page → FilesFit areas after stored count
  files_fit_settled block page near is put =
      files_fit_set block _ near is (ap length put ∙ length-set blocks block page)
      (λ clean. ap (λ ps. slice_get ps block) put ∙ get_set_same blocks block page (omega (arith, near, fit.used, fit.device)))
      (λ b other. ap (λ ps. slice_get ps b) put ∙ get_set_other blocks block b page other)

  -- blocks that no file has hold other bytes
  pub files_fit_unused : (stored : List Page) (n : ℕ) → length stored ≡ length blocks → ((block : ℕ) → (block < length pages) ⊎ (n ≤ block) → slice_get stored block ≡ slice_get blocks block) → FilesFit areas pages stored count
  files_fit_unused stored n long same = record {
    near = fit.near;
    alone = fit.alone;
    kept = λ b p e clean. same b (inl (get_within pages b p e)) ∙ fit.kept b p e clean;
    device = long ∙ fit.device;
    used = fit.used;
    few = fit.few;
  }

-- no file, no area
pub files_fit_new : (areas : ℕ → Option AreaPages) (pages : List FilePage) (blocks : List Page) (count : ℕ) → areas ≡ no_areas → pages ≡ [] → length blocks ≡ count → count < 2 ^ 32 → FilesFit areas pages blocks count
files_fit_new areas pages blocks count none empty long few = record {
  near = λ a i b e. (let bad : None ≡ Some b = sym (ap (λ f. area_block (f a) i) none) ∙ e in cc);
  alone = λ a i b j block e f. (let bad : None ≡ Some block = sym (ap (λ g. area_block (g a) i) none) ∙ e in cc);
  kept = λ b p e clean. (let bad : None ≡ Some p = sym (ap (λ ps. slice_get ps b) empty) ∙ e in cc);
  device = long;
  used = let n = ap length empty in omega (arith, n);
  few = few;
}

pub files_fit_same : (areas after : ℕ → Option AreaPages) (pages late : List FilePage) (blocks : List Page) (count : ℕ) → after ≡ areas → late ≡ pages → FilesFit areas pages blocks count → FilesFit after late blocks count
files_fit_same areas after pages late blocks count same alike fit =
    subst (λ ps. FilesFit after ps blocks count) (sym alike) (subst (λ f. FilesFit f pages blocks count) (sym same) fit)
