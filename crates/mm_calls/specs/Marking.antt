-- The pages that a `protect` marks for the first time.
-- Profile, "Calls".
use Rattle.std.specs.Prelude.{ℕ, Bool, nat_lt}
use Rattle.mm_types.specs.declared.answers.Answer.TheVariants as answer
use Rattle.mm_types.specs.declared.codes.Code.TheVariants as code
use Rattle.mm_types.specs.{Range}
use Rattle.mm_world.specs.{ProcessOf, WorldOf, charge, region_around, set_region, OutcomeOf, done, need, find_or, within_limit, protect}
use Rattle.mm_world.specs.{protection_at, accepts, is_committed_at, every_page, protected, change_rows}

module _ {B : Type 0} where
  -- what is left of a `protect` once its parameters were found right
  abbrev pub protect_pages : WorldOf B → ℕ → ProcessOf B → Range → ℕ → OutcomeOf B
  protect_pages w pid p range prot =
      find_or w code.InvalidAddress (region_around p.regions range) (λ r.
      need w code.InvalidAddress (every_page (is_committed_at w r.thing) range) (
      need w code.InvalidParameter (every_page (accepts r.thing prot) range) (
      within_limit w (done (answer.OldProt (protection_at r.thing range.first))
      (set_region w pid p r.place (change_rows (protected r.thing.kind prot) range r.thing))))))

  -- a page gets its first mark, which is charged; nothing else that a `protect` does is
  abbrev pub marks_anew : WorldOf B → ℕ → ℕ → ℕ → ℕ → Bool
  marks_anew w pid addr size prot = nat_lt (charge w) (charge (protect w pid addr size prot).world)
