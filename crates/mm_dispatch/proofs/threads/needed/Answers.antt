use Rattle.std.proofs.Common.{refl}
use Rattle.mm_dispatch.proofs.threads.needed.Goals as goal

pub returns-then-row-clause-told : goal.returns-then-row-clause-told
returns-then-row-clause-told c = λ place. rw (c.in-Write.is, c.if-row.true) refl

pub returns-else-row-clause-told : goal.returns-else-row-clause-told
returns-else-row-clause-told c = λ place. rw (c.in-Write.is, c.if-row.false) refl

pub returns-in-Read-clause-told : goal.returns-in-Read-clause-told
returns-in-Read-clause-told c = λ place. rw c.in-Read.is refl

pub returns-in-Execute-clause-told : goal.returns-in-Execute-clause-told
returns-in-Execute-clause-told c = λ place. rw c.in-Execute.is refl
