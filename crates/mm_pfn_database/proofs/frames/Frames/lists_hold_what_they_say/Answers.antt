use Rattle.std.proofs.Common.{true, false, arith}
use Rattle.mm_pfn_database.proofs.{low_blank, listed_rests, rests_listed, on_rests, shown}
use Rattle.mm_pfn_database.proofs.frames.Frames.lists_hold_what_they_say.Goals as goal

pub returns-clause-zeroed : goal.returns-clause-zeroed
returns-clause-zeroed c = λ k f. low_blank (shown c.self.invariant c.self.view_is) f 0 k (omega arith)

pub returns-clause-free : goal.returns-clause-free
returns-clause-free c = λ k f. low_blank (shown c.self.invariant c.self.view_is) f 1 k (omega arith)

pub returns-clause-standby : goal.returns-clause-standby
returns-clause-standby c = λ k f. listed_rests (shown c.self.invariant c.self.view_is) f false k

pub returns-clause-modified : goal.returns-clause-modified
returns-clause-modified c = λ k f. listed_rests (shown c.self.invariant c.self.view_is) f true k

pub returns-clause-clean : goal.returns-clause-clean
returns-clause-clean c = λ f. rests_listed (shown c.self.invariant c.self.view_is) f false

pub returns-clause-changed : goal.returns-clause-changed
returns-clause-changed c = λ f. rests_listed (shown c.self.invariant c.self.view_is) f true

pub returns-clause-on_standby : goal.returns-clause-on_standby
returns-clause-on_standby c = λ f. on_rests (shown c.self.invariant c.self.view_is) f false

pub returns-clause-on_modified : goal.returns-clause-on_modified
returns-clause-on_modified c = λ f. on_rests (shown c.self.invariant c.self.view_is) f true
