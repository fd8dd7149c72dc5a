-- What the tables keep.
use Rattle.std.specs.Prelude.{◌≡◌, ℕ, Some}
use Rattle.mm_commit_charge.specs.{CommitOf}
use Rattle.mm_world.specs.{Numbered, numbered, charge, limit, Tables}
use Rattle.mm_world.specs.WellFormed.{WellFormed}
use Rattle.mm_sections.specs.{CountedSection}
use Rattle.mm_object_tables.specs.References.{IsTidy, handles_to, views_of}

-- the references to a section are counted
pub record IsCounted (t : Tables) (number : ℕ) (c : CountedSection) : Type 0 where
  pub handles : c.handles ≡ handles_to t number
  pub views : c.views ≡ views_of t number

pub record AreKeptTables (t : Tables) (entries : Numbered CountedSection) (commit : CommitOf) :
    Type 0 where
  pub sound : WellFormed t
  pub tidy : IsTidy t
  pub counted : (number : ℕ) (c : CountedSection) → numbered entries number ≡ Some c →
      IsCounted t number c
  pub charged : commit.charge ≡ charge t
  pub limited : commit.limit ≡ limit t
