-- An access at a place that is ready has what it needs.
use Rattle.std.proofs.Common.{◌≡◌, ◌∙◌, ℕ, Bool, true, false, Option, inl, inr}
use Rattle.mm_types.specs.{Key, PageFault, Place, AccessSpec, Pid, Tid}
use Rattle.mm_world.specs.{Page, Need}
use Rattle.mm_store.specs.Behind.{Behind}
use Rattle.mm_store.specs.{StandsIn, StoreOf, MayAccess, IsReady}
use Rattle.std.specs.Prelude.{Result, Ok, Err, IsOk}
use Rattle.mm_world.specs.Report.{Report}
use Rattle.mm_store.specs.Reports.{Ends}
use Rattle.mm_dispatch.specs.{IsHad}
use Rattle.std.proofs.lemmas.Bool.{leb-true}
use Rattle.mm_script.specs.{IsWellFormed}
use Rattle.mm_object_tables.specs.{FitsPage}
use Rattle.mm_types.specs.declared.answers.Wait.TheVariants as wait
use Rattle.mm_types.specs.declared.events.AccessSpec.TheVariants as spec
use Rattle.mm_types.specs.declared.events.Event.TheVariants as event

pub had_ready : {T : Type 0} (need : Need) (after : Report) (r : Result T PageFault) → Ends need after r → IsOk r → IsHad need after
had_ready need after (Ok x) e ok = record { fine = e.ok; framed = e.had }
had_ready need after (Err f) e ok = cc

-- what a line may do goes on at a place that is ready
pub may_go_on : (s z : StoreOf) (place : Place) (n m : Need) → MayAccess s place n → z.kind ≡ s.kind → IsReady z place m → MayAccess z place m
may_go_on s z place n m (inl k) e r = inl (e ∙ k)
may_go_on s z place n m (inr h) e r = inr (e ∙ h.0, r)

-- no thread waits over a store that pages nothing
pub idle_in : (u : Bool) (c : Key → Option Page) (s : StoreOf) (b : Behind) → StandsIn u c s b → u ≡ true → (tid : ℕ) → s.report.wait tid ≡ wait.None
idle_in true c s b h e tid = h.idle tid
idle_in false c s b h e tid = cc

-- ---- what the form of a `begin` line says of its access

pub fits_page : (tid : Tid) (pid : Pid) (what : AccessSpec) → IsWellFormed (event.Begin tid pid what) → FitsPage what
fits_page tid pid (spec.Read addr len) h = let range = h.fields.1.1.1.1.1.0 in (range.0, (range.1, leb-true _ _ h.joined))
fits_page tid pid (spec.Write addr bytes) h = leb-true _ _ h.joined
