use Rattle.mm_object_tables.proofs.keys.+release_some.Given as goal

abbrev pub decreases-release_some : goal.decreases-release_some
decreases-release_some g l = l.range.count
