use Rattle.std.proofs.Common.{refl}
use Rattle.mm_script.proofs.{made_told}
use Rattle.mm_script.proofs.reading.numbers.put_numbers.Goals as goal

pub returns-in-Exit : goal.returns-in-Exit
returns-in-Exit c = made_told c.args.keyword _ c.args.numbers.now _ c.in-Exit.is refl

pub returns-in-Alloc : goal.returns-in-Alloc
returns-in-Alloc c = made_told c.args.keyword _ c.args.numbers.now _ c.in-Alloc.is refl

pub returns-in-Free : goal.returns-in-Free
returns-in-Free c = made_told c.args.keyword _ c.args.numbers.now _ c.in-Free.is refl

pub returns-in-Protect : goal.returns-in-Protect
returns-in-Protect c = made_told c.args.keyword _ c.args.numbers.now _ c.in-Protect.is refl

pub returns-in-Query : goal.returns-in-Query
returns-in-Query c = made_told c.args.keyword _ c.args.numbers.now _ c.in-Query.is refl

pub returns-in-Close : goal.returns-in-Close
returns-in-Close c = made_told c.args.keyword _ c.args.numbers.now _ c.in-Close.is refl

pub returns-in-Map : goal.returns-in-Map
returns-in-Map c = made_told c.args.keyword _ c.args.numbers.now _ c.in-Map.is refl

pub returns-in-Unmap : goal.returns-in-Unmap
returns-in-Unmap c = made_told c.args.keyword _ c.args.numbers.now _ c.in-Unmap.is refl

pub returns-in-Flush : goal.returns-in-Flush
returns-in-Flush c = made_told c.args.keyword _ c.args.numbers.now _ c.in-Flush.is refl

pub returns-in-Exec : goal.returns-in-Exec
returns-in-Exec c = made_told c.args.keyword _ c.args.numbers.now _ c.in-Exec.is refl

pub returns-in-Resume : goal.returns-in-Resume
returns-in-Resume c = made_told c.args.keyword _ c.args.numbers.now _ c.in-Resume.is refl

pub returns-in-Io : goal.returns-in-Io
returns-in-Io c = made_told c.args.keyword _ c.args.numbers.now _ c.in-Io.is refl

pub returns-in-Trim : goal.returns-in-Trim
returns-in-Trim c = made_told c.args.keyword _ c.args.numbers.now _ c.in-Trim.is refl

pub returns-in-Age : goal.returns-in-Age
returns-in-Age c = made_told c.args.keyword _ c.args.numbers.now _ c.in-Age.is refl

pub returns-in-Writer : goal.returns-in-Writer
returns-in-Writer c = made_told c.args.keyword _ c.args.numbers.now _ c.in-Writer.is refl

pub returns-in-Zeroer : goal.returns-in-Zeroer
returns-in-Zeroer c = made_told c.args.keyword _ c.args.numbers.now _ c.in-Zeroer.is refl

pub returns-in-Charge : goal.returns-in-Charge
returns-in-Charge c = made_told c.args.keyword _ c.args.numbers.now _ c.in-Charge.is refl

pub returns-in-Counts : goal.returns-in-Counts
returns-in-Counts c = made_told c.args.keyword _ c.args.numbers.now _ c.in-Counts.is refl

pub returns-in-Grow : goal.returns-in-Grow
returns-in-Grow c = made_told c.args.keyword _ c.args.numbers.now _ c.in-Grow.is refl

pub returns-in-Watch : goal.returns-in-Watch
returns-in-Watch c = made_told c.args.keyword _ c.args.numbers.now _ c.in-Watch.is refl

pub returns-in-ResetWatch : goal.returns-in-ResetWatch
returns-in-ResetWatch c = made_told c.args.keyword _ c.args.numbers.now _ c.in-ResetWatch.is refl

pub returns-in-Stack : goal.returns-in-Stack
returns-in-Stack c = made_told c.args.keyword _ c.args.numbers.now _ c.in-Stack.is refl

pub returns-in-Probe : goal.returns-in-Probe
returns-in-Probe c = made_told c.args.keyword _ c.args.numbers.now _ c.in-Probe.is refl
