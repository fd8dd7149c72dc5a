-- What the type keeps, over what contracts see.
use Rattle.std.proofs.Common.{◌≡◌, ◌≢◌, ℕ, ◌<◌, true, false, List, length, get_or, set, Option, Some, refl, sym, ap, ◌∙◌, subst, arith}
use Rattle.std.specs.Prelude.{is_some}
use Rattle.mm_types.specs.{Record}
use Rattle.mm_move_rules.specs.{blank, record_at, is_read}
use Rattle.mm_page_lists.specs.{ListsOf}
use Rattle.mm_ram.specs.{page_at}
use Rattle.mm_pfn_database.specs.{Standing, FramesOf, AreFrames, AreKept, ArePlaced, CanStand, Holds, is_zero, table_of}
use Rattle.mm_pfn_database.proofs.Placings.{as_shown, used_if, used_low, used_bound, used_written, rewritten}

module _ {records : List Record} {standing : List Standing} {lists b : ListsOf} {bytes : List (Option (List ℕ))} (k : AreKept records standing lists b bytes) {v : FramesOf} (view : (record { table = table_of records lists.lists; bytes = bytes; standing = standing }) ≡ v) where
  pub shown : ArePlaced v
  shown =
      subst (λ (w : FramesOf). ArePlaced w) view
      (subst (λ (ls : ListsOf). AreFrames records standing ls bytes) (as_shown k.placed) k.placed)

  -- ---- a frame that may come to stand elsewhere

  module _ {f : ℕ} {r : Record} {s : Standing} (fits : ArePlaced v → CanStand v f r s) where
    pub there : f < length records
    there = subst (λ (w : FramesOf). f < length w.table.records) (sym view) (fits shown).there

    pub holds : Holds s r (page_at bytes f)
    holds = subst (λ (w : FramesOf). Holds s r (page_at w.bytes f)) (sym view) (fits shown).holds

  -- ---- the page of a frame

  module _ (f : ℕ) (used : record_at v.table f ≢ blank) where
    here : get_or records f blank ≢ blank
    here e = used (sym (ap (λ (w : FramesOf). record_at w.table f) view) ∙ e)

    pub page_low : f < length bytes
    page_low = omega (arith, used_low k.placed f here, k.placed.pages)

    pub page_written : is_read (record_at v.table f).request ≡ false → is_some (page_at bytes f) ≡ true
    page_written e = used_written k.placed f here (ap (λ (w : FramesOf). is_read (record_at w.table f).request) view ∙ e)

    pub page_changed : (bytes' : List (Option (List ℕ))) (page : List ℕ) → bytes' ≡ set bytes f (Some page) → AreKept records standing lists b bytes'
    page_changed bytes' page now = record {
      placed =
          subst (λ (m : List (Option (List ℕ))). AreFrames records standing lists m) (sym now)
          (rewritten k.placed f (used_low k.placed f here) page (λ z. let bad : true ≡ false = sym z ∙ ap is_zero (used_bound k.placed f here) in cc));
      backed = k.backed;
    }

-- a frame with an owner
pub owned_used : (r : Record) → is_some r.owner ≡ true → r ≢ blank
owned_used r e = used_if (λ (q : Record). is_some q.owner) r refl e
