use Rattle.std.proofs.Common.{◌+◌, refl}
use Rattle.mm_script.specs.{Rest, rest_of}
use Rattle.mm_script.proofs.{number_taken}
use Rattle.mm_script.proofs.fields.Fields.number.Goals as goal

pub returns-in-Some-clause-value : goal.returns-in-Some-clause-value
returns-in-Some-clause-value c =
    let t = c.in-Some.ensures.some in
    let f = c.self.inside in
    let found = c.in-Some.found in
    let old : Rest = rest_of f.line.now f.words f.number f.last in
    let new : Rest = rest_of f.line.now c.next_number.new.self (f.number + 1) found.from in
    let v = c.self.view_is in
    let h = number_taken old new t.text found.value t.left refl refl t.reads in
    cc
