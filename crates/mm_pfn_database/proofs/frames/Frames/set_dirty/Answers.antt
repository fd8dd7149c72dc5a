use Rattle.std.proofs.Common.{◌≡◌, ◌≤◌, ℕ, true, false, sym, subst, ap, ◌∙◌}
use Rattle.std.specs.Prelude.{is_some}
use Rattle.mm_types.specs.{Record}
use Rattle.mm_move_rules.specs.{record_at, is_idle, soiled, with_record}
use Rattle.mm_move_rules.proofs.{soiled_shares, soiled_owner}
use Rattle.mm_pfn_database.proofs.{kept_owned, shared_busy, shared_owned, shared_used, soiled_no_read}
use Rattle.mm_pfn_database.proofs.frames.Frames.set_dirty.Goals as goal

pub rebind-requires-clause-bound : goal.rebind-requires-clause-bound
rebind-requires-clause-bound c = shared_used (record_at c.args.self.now.table c.args.f.0) c.requires.shared

pub rebind-requires-clause-kept : goal.rebind-requires-clause-kept
rebind-requires-clause-kept c = λ k.
    let r = record_at c.args.self.now.table c.args.f.0 in
    kept_owned c.soiled.result (ap (λ (q : Record). is_some q.owner) (c.soiled.ensures ∙ ap soiled c.look-r.ensures) ∙ ap is_some (soiled_owner r) ∙ shared_owned r c.requires.shared k)

pub rebind-requires-clause-written : goal.rebind-requires-clause-written
rebind-requires-clause-written c = λ e d.
    let bad : true ≡ false = sym d ∙ soiled_no_read (record_at c.args.self.now.table c.args.f.0) c.requires.clean in
    cc

pub returns-clause-soiled : goal.returns-clause-soiled
returns-clause-soiled c =
    let v = c.args.self.now in
    let f = c.args.f.0 in
    let r = record_at v.table f in
    let now = c.soiled.ensures ∙ ap soiled c.look-r.ensures in
    c.rebind.ensures.stays (shared_busy r c.requires.shared) (ap is_idle now ∙ shared_busy (soiled r) (subst (λ (n : ℕ). 1 ≤ n) (sym (soiled_shares r)) c.requires.shared))
    ∙ ap (λ (q : Record). record v { table = with_record v.table f q }) now
