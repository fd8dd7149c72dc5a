use Rattle.std.proofs.Common.{◌≡◌, Some, true, is_some, sym, ◌∙◌, ap, subst}
use Rattle.mm_world.specs.{KeptOf, Tables, process_of, keep}
use Rattle.mm_object_tables.proofs.{shown_with, put_kept, put_is}
use Rattle.mm_object_tables.proofs.tables.Tables.keep.Goals as goal

pub invariant_of-self : goal.invariant_of-self
invariant_of-self c =
    let t = shown_with c.self.inside c.self.inside.processes.items in
    let lives : is_some (process_of t c.args.pid.0) ≡ true = ap (λ (t : Tables). is_some (process_of t c.args.pid.0)) c.self.view_is ∙ c.requires.lives in
    put_kept c.self.inside c.args.tid.0 (Some c.kept_access.result)
    (λ k e. let same : record { pid = c.args.pid.0; access = c.args.access.now } ≡ k = sym c.kept_access.ensures ∙ cc in subst (λ (k : KeptOf). is_some (process_of t k.pid) ≡ true) same lives) c.self.invariant

pub returns-clause-kept : goal.returns-clause-kept
returns-clause-kept c =
    put_is c.self.inside c.args.tid.0 (Some c.kept_access.result) c.args.self.now c.self.view_is ∙ ap (λ (k : KeptOf). keep c.args.self.now c.args.tid.0 (Some k)) c.kept_access.ensures
