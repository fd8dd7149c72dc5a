use Rattle.std.proofs.Common.{◌≡◌, ◌<◌, ◌+◌, [], ◌∷◌, ◌++◌, length, length-append, arith, sym, ap, ◌∙◌, subst, inl, inr}
use Rattle.std.specs.Prelude.{codes}
use Rattle.mm_types.specs.{Text}
use Rattle.mm_log_check.specs.{Shows}
use Rattle.mm_show.specs.{unread_text}
use Rattle.mm_show.proofs.top.unread.Goals as goal

pub returns-in-Ok-clause-says : goal.returns-in-Ok-clause-says
returns-in-Ok-clause-says g c =
    let name : Text = c.args.name.now in
    let text : c.put_unread.new.text.items ≡ unread_text name = c.in-Ok.ensures ∙ ap (λ xs. xs ++ unread_text name) c.new-text.ensures.items in
    inl (subst (λ (x : Text). Shows (g.O.Sink.taken c.args.out.now) (g.O.Sink.taken c.write_text.new.out) x 4 c.write_text.result) (c.as_slice.ensures.value ∙ text) c.write_text.ensures.shows)

pub returns-in-Ok-clause-sink : goal.returns-in-Ok-clause-sink
returns-in-Ok-clause-sink g c =
    let name : Text = c.args.name.now in
    let text : c.put_unread.new.text.items ≡ unread_text name = c.in-Ok.ensures ∙ ap (λ xs. xs ++ unread_text name) c.new-text.ensures.items in
    let long : length (unread_text name) ≡ length (codes "cannot read ") + length (name ++ 10 ∷ []) = length-append (codes "cannot read ") (name ++ 10 ∷ []) in
    let some : 0 < length (unread_text name) = omega (arith, long) in
    record {
      counts = c.write_text.ensures.counts;
      gave = λ fine. c.write_text.ensures.gave (λ write. fine (inr write)) (subst (λ (x : Text). 0 < length x) (sym (c.as_slice.ensures.value ∙ text)) some);
    }
