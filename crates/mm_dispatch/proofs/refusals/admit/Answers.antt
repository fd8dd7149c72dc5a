use Rattle.std.proofs.Common.{◌≡◌, true, false, sym, ◌∙◌, ap, subst}
use Rattle.mm_types.specs.{page_of, permits}
use Rattle.mm_types.specs.declared.answers.Answer.TheVariants as answer
use Rattle.mm_types.specs.declared.codes.Raise.TheVariants as raise
use Rattle.mm_object_tables.specs.{CommittedRow, MadeAtMost}
use Rattle.mm_world.specs.{Tables, world_with}
use Rattle.mm_dispatch.specs.{Refuses}
use Rattle.mm_dispatch.proofs.{lives-by, row-told, no-row, made-set_row}
use Rattle.mm_dispatch.proofs.Accesses as accesses
use Rattle.mm_dispatch.proofs.refusals.admit.Goals as goal

pub returns-in-None-clause-refused : goal.returns-in-None-clause-refused
returns-in-None-clause-refused c =
    let t = c.args.t.now in
    let l = lives-by t c.args.pid.0 c.requires.lives in
    let none = no-row t c.args.pid.0 (page_of c.args.addr) l.process c.committed_row.result l.lives c.in-None.is c.committed_row.ensures in
    λ bytes what is. accesses.not_committed t bytes c.args.pid.0 c.args.addr what l.process l.lives none

pub returns-then-row-clause-refused : goal.returns-then-row-clause-refused
returns-then-row-clause-refused c =
    let t = c.args.t.now in
    let l = lives-by t c.args.pid.0 c.requires.lives in
    let r = row-told t c.args.pid.0 (page_of c.args.addr) l.process c.in-Some.row c.committed_row.result l.lives c.in-Some.is c.committed_row.ensures in
    λ bytes what is.
    subst (λ (v : Tables). Refuses (world_with t bytes) c.args.pid.0 c.args.addr what (answer.Raised raise.GuardPage) (world_with v bytes)) (sym (c.take_guard_off.ensures.off l.process r.committed l.lives r.there))
    (accesses.guarded t bytes c.args.pid.0 c.args.addr what l.process l.lives r.committed r.there (ap (λ (x : CommittedRow). x.guard) r.is ∙ c.if-row.true))

pub returns-then-row-clause-keeps : goal.returns-then-row-clause-keeps
returns-then-row-clause-keeps c =
    let t = c.args.t.now in
    let l = lives-by t c.args.pid.0 c.requires.lives in
    let r = row-told t c.args.pid.0 (page_of c.args.addr) l.process c.in-Some.row c.committed_row.result l.lives c.in-Some.is c.committed_row.ensures in
    λ contents s k.
    record {
      fits = c.take_guard_off.ensures.fits contents s k.fits;
      few = subst (λ (v : Tables). MadeAtMost s.line v) (sym (c.take_guard_off.ensures.off l.process r.committed l.lives r.there)) (made-set_row t s.line c.args.pid.0 (page_of c.args.addr) l.process r.committed.region (record r.committed.row { guard = false }) l.lives k.few);
    }

pub returns-then-not-permits-clause-refused : goal.returns-then-not-permits-clause-refused
returns-then-not-permits-clause-refused c =
    let t = c.args.t.now in
    let l = lives-by t c.args.pid.0 c.requires.lives in
    let r = row-told t c.args.pid.0 (page_of c.args.addr) l.process c.in-Some.row c.committed_row.result l.lives c.in-Some.is c.committed_row.ensures in
    let denied : permits c.in-Some.row.prot.0 c.args.wanted ≡ false = sym c.permits.ensures ∙ c.if-not-permits.true in
    λ bytes what is.
    accesses.not_permitted t bytes c.args.pid.0 c.args.addr what l.process l.lives r.committed r.there (ap (λ (x : CommittedRow). x.guard) r.is ∙ c.if-row.false) ((λ i. permits (r.is i).prot.0 (is i)) ∙ denied)

pub returns-clause-admitted : goal.returns-clause-admitted
returns-clause-admitted c =
    let t = c.args.t.now in
    let l = lives-by t c.args.pid.0 c.requires.lives in
    let r = row-told t c.args.pid.0 (page_of c.args.addr) l.process c.in-Some.row c.committed_row.result l.lives c.in-Some.is c.committed_row.ensures in
    let granted : permits c.in-Some.row.prot.0 c.args.wanted ≡ true = sym c.permits.ensures ∙ c.if-not-permits.false in
    record {
      process = l.process;
      row = r.committed;
      lives = l.lives;
      committed = r.there;
      unguarded = ap (λ (x : CommittedRow). x.guard) r.is ∙ c.if-row.false;
      permitted = ap (λ (x : CommittedRow). permits x.prot.0 c.args.wanted) r.is ∙ granted;
      is_told = r.is;
    }
