use Rattle.std.proofs.Common.{◌≡◌, ◌≤◌, ◌<◌, ◌+◌, length, get_or, take, set, Some, sym, ap, ◌∙◌, arith, length-set, length-drop}
use Rattle.std.proofs.lemmas.List.{take_rest}
use Rattle.mm_text.specs.{pair_of, pairs_of}
use Rattle.mm_text.proofs.{behind, pairs_more}
use Rattle.mm_text.proofs.fields.bytes.Goals as goal

pub loop-rest-preserved : goal.loop-rest-preserved
loop-rest-preserved c =
    let l = c.loop-rest in
    let rest = l.rest.now in
    let b = c.in_ok-room.field-0 in
    let two : 2 ≤ length rest = c.in-len2-up.len_at_least in
    let pair : pair_of (get_or rest 0 0) (get_or rest 1 0) ≡ Some b = sym c.pair.ensures ∙ c.in_ok-room.was in
    let place : l.len < length l.room = omega arith in
    let others = take_rest rest 2 in
    record {
      places = length-set l.room l.len b ∙ l.invariant.places;
      few = omega (arith, ap length others, length-drop 2 rest);
      pairs = l.invariant.pairs ∙ pairs_more l.room l.len rest b place two pair ∙ ap (λ r. behind (take (l.len + 1) (set l.room l.len b)) (pairs_of r)) (sym others);
    }
