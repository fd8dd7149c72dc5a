-- What a map keeps of a row.
-- Profile, "What a log shows".
use Rattle.std.specs.Prelude.{ℕ, List, unwrap_or}
use Rattle.std.specs.declared.cmp.Ordering.{Ordering}
use Rattle.std.specs.BTreeMap.{is_at}
use Rattle.std.specs.Map.{lookup}
use Rattle.mm_reports.specs.Tallies.{Table, none_counted}

abbrev pub counts_at : {K : Type 0} → (K → K → Ordering) → Table K → K → List ℕ
counts_at cmp table k = unwrap_or (lookup (is_at (cmp k)) table) none_counted
