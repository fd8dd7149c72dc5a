-- The flags of a process, one region of which changed, but not its pages.
use Rattle.std.proofs.Common.{◌≡◌, ℕ, Bool, true, false, Option, Some, refl, sym, ◌∙◌, ap, cond, set, slice_get, ◌-◌, None, List}
use Rattle.std.specs.Prelude.{option_and_then}
use Rattle.mm_types.specs.{holds_page, first_user_page, Answer, Code}
use Rattle.mm_world.specs.{WorldOf, ProcessOf, RegionOf, Numbered, numbered, pages_of, process_of, flag_in, flag_at, flag_of, LaidOut, Spaces}
use Rattle.mm_world.specs.{set_process, OutcomeOf, done, refused, no_regions}
use Rattle.mm_world.proofs.Finding.{put_at, push_at}
use Rattle.mm_world.proofs.Regions.{SamePages, has_at, has_set, added_keeps, removed_keeps, set_keeps}
use Rattle.mm_world.proofs.Tables.{Holds}
use Rattle.mm_world.proofs.Spaces.{spaces_kept}
use Rattle.mm_world.proofs.Edits.{Rises, Terms, RegionEdit, RegionComes, RegionGoes, RegionChanges, Nothing, Then, Edit, Rest, Regions, HandleComes, HandleGoes, ProcessComes, ProcessGoes, Edits}

module _ {B : Type 0} where
  -- of a page with a flag in the world after: it is in the region that changed, or its flag was so before
  pub data FlagChanged (w : WorldOf B) (pid : ℕ) (r new : RegionOf B) (j page : ℕ) (b : Bool) : Type 0 where
    InRegion : j ≡ pid → holds_page (pages_of r) page ≡ true → flag_of w j page ≡ flag_in r page → flag_in new page ≡ Some b → FlagChanged w pid r new j page b
    Elsewhere : (j ≡ pid → holds_page (pages_of r) page ≡ false) → flag_of w j page ≡ Some b → FlagChanged w pid r new j page b

  abbrev flags_of_process : Option (ProcessOf B) → ℕ → Option Bool
  flags_of_process o page = option_and_then (λ (p : ProcessOf B). flag_at p.regions page) o

  pub flag_changed : (w v : WorldOf B) (pid : ℕ) (p : ProcessOf B) (i : ℕ) (r new : RegionOf B) → process_of w pid ≡ Some p → slice_get p.regions i ≡ Some r → SamePages r new → v.processes ≡ set w.processes pid (Some (record p { regions = set p.regions i new })) → Spaces w → (j page : ℕ) (b : Bool) → flag_of v j page ≡ Some b → FlagChanged w pid r new j page b
  flag_changed w v pid p i r new lives there pages processes h j page b e =
      put_at (λ o n. flag_of w j page ≡ flags_of_process o page → flags_of_process n page ≡ Some b → FlagChanged w pid r new j page b) w.processes pid j p (Some (record p { regions = set p.regions i new })) lives
      (λ same was now. in_process same was (holds_page (pages_of r) page) refl (sym (has_set (λ (r : RegionOf B). flag_in r page) first_user_page i page p.regions r new laid there pages) ∙ now))
      (λ other was now. Elsewhere (λ same. absurd (other same)) (was ∙ now))
      refl (ap (λ (ps : Numbered (ProcessOf B)). flags_of_process (numbered ps j) page) (sym processes) ∙ e)
    where
      laid : LaidOut first_user_page p.regions
      laid = (h pid p lives).laid_out

      in_process : j ≡ pid → flag_of w j page ≡ flag_at p.regions page → (t : Bool) → holds_page (pages_of r) page ≡ t → cond t (flag_in new page) (flag_at p.regions page) ≡ Some b → FlagChanged w pid r new j page b
      in_process same was true held now = InRegion same held (was ∙ has_at (λ (r : RegionOf B). flag_in r page) first_user_page i page p.regions r laid there held) now
      in_process same was false other now = Elsewhere (λ k. other) (was ∙ now)

-- ---- a call that neither writes nor asks for written pages leaves the flags of watched regions as they were, but that those of regions go that end

-- a page that is flagged afterwards was so before
abbrev Was : Option Bool → Option Bool → Type 0
Was old new = (b : Bool) → new ≡ Some b → old ≡ Some b

module _ {B : Type 0} where
  -- ---- worlds

  pub record KeepsFlags (w : WorldOf B) (o : OutcomeOf B) : Type 0 where
    pub kept : Spaces w → (pid page : ℕ) (b : Bool) → flag_of o.world pid page ≡ Some b → flag_of w pid page ≡ Some b

  pub by_refusal : (w : WorldOf B) (why : Code) → Holds (KeepsFlags w) (refused w why)
  by_refusal w why = record { it = record { kept = λ h pid page b e. e } }

  pub by_same : (w : WorldOf B) (a : Answer) → Holds (KeepsFlags w) (done a w)
  by_same w a = record { it = record { kept = λ h pid page b e. e } }

  abbrev flag_in_process : Option (ProcessOf B) → ℕ → Option Bool
  flag_in_process o page = option_and_then (λ (p : ProcessOf B). flag_at p.regions page) o

  put : (w : WorldOf B) (pid : ℕ) (p : ProcessOf B) (q : Option (ProcessOf B)) → process_of w pid ≡ Some p → ((page : ℕ) → Was (flag_at p.regions page) (flag_in_process q page)) → (j page : ℕ) → Was (flag_of w j page) (flag_of (set_process w pid q) j page)
  put w pid p q lives keeps j page = put_at (λ o n. Was (flag_in_process o page) (flag_in_process n page)) w.processes pid j p q lives (λ e. keeps page) (λ other b e. e)

  -- all but processes and regions
  pub by_rest : (w v : WorldOf B) (a : Answer) → v.processes ≡ w.processes → Holds (KeepsFlags w) (done a v)
  by_rest w v a same =
      record { it = record { kept = λ h pid page b e. ap (λ (ps : Numbered (ProcessOf B)). flag_in_process (numbered ps pid) page) (sym same) ∙ e } }

-- edits that change no flag
abbrev pub plain_terms : Answer → Terms
plain_terms a = record { ends = λ x. true; plain = true; kept = false; stacks = false; charge = Rises }

module _ {B : Type 0} (t : Terms) (plain : t.plain ≡ true) where
  after_region : (w : WorldOf B) (pid : ℕ) (rs new : List (RegionOf B)) → RegionEdit t w pid rs new → LaidOut first_user_page rs → (page : ℕ) → Was (flag_at rs page) (flag_at new page)
  after_region w pid rs _ (RegionComes new h) laid page =
      added_keeps (λ (r : RegionOf B). flag_in r page) Was (λ o b e. e) new rs _ page h.placed.free (λ b e. ap (λ o. option_and_then (λ ws. slice_get ws (page - new.base)) o) (sym (h.plain plain)) ∙ e)
  after_region w pid rs _ (RegionGoes i r there ends charged) laid page =
      removed_keeps (λ (r : RegionOf B). flag_in r page) Was (λ o b e. e) first_user_page i page r rs laid there (λ o b e. cc)
  after_region w pid rs _ (RegionChanges i r new there like) laid page =
      set_keeps (λ (r : RegionOf B). flag_in r page) Was (λ o b e. e) first_user_page i page rs r new laid there (record { base = like.base; rows = like.count })
      (λ b e. sym (λ i. option_and_then (λ ws. slice_get ws (page - like.base i)) (like.plain plain i)) ∙ e)

  each : (w v : WorldOf B) → Edit t w v → Spaces w → (pid page : ℕ) (b : Bool) → flag_of v pid page ≡ Some b → flag_of w pid page ≡ Some b
  each w _ (Rest v b) h = λ pid page f e. ap (λ (ps : Numbered (ProcessOf B)). flag_in_process (numbered ps pid) page) (sym b.processes) ∙ e
  each w _ (Regions pid p rs lives e) h = put w pid p (Some (record p { regions = rs })) lives (after_region w pid p.regions rs e (h pid p lives).laid_out)
  each w _ (HandleComes pid p number lives there) h = put w pid p _ lives (λ page b e. e)
  each w _ (HandleGoes pid p i lives) h = put w pid p _ lives (λ page b e. e)
  each w _ (ProcessComes room) h = λ pid page. push_at (λ o n. Was (flag_in_process o page) (flag_in_process n page)) w.processes pid (Some no_regions) (λ b e. cc) (λ o b e. e)
  each w _ (ProcessGoes pid p lives ends charged) h = put w pid p None lives (λ page b e. cc)
  each w v e h = λ pid page b e. e

  flags_kept : (w v : WorldOf B) → Edits t w v → Spaces w → (pid page : ℕ) (b : Bool) → flag_of v pid page ≡ Some b → flag_of w pid page ≡ Some b
  flags_kept w _ Nothing h pid page b e = e
  flags_kept w _ (Then u v es last) h pid page b e = flags_kept w u es h pid page b (each u v last (spaces_kept t w u es h) pid page b e)

pub by_edits : {B : Type 0} (t : Answer → Terms) (w : WorldOf B) (o : OutcomeOf B) → (t o.answer).plain ≡ true → Edits (t o.answer) w o.world → Holds (KeepsFlags w) o
by_edits t w o plain es = record { it = record { kept = flags_kept (t o.answer) plain w o.world es } }
