use Rattle.std.proofs.Common.{◌≡◌, ◌<◌, ◌≤◌, ◌+◌, ◌-◌, List, ℕ, Option, Some, None, ◌++◌, [], length, take, sym, ap, ◌∙◌, arith, length-append, length-take}
use Rattle.mm_types.specs.{IsEnd, Took}
use Rattle.mm_types.proofs.{append_nil, took_none}
use Rattle.mm_io.specs.{HasRead, ReadsFront}
use Rattle.mm_io.proofs.{read_view_at}
use Rattle.mm_io.proofs.buffers.InputBuffer.read_more.Goals as goal

end_after : (a b : Option (List ℕ)) (xs : List ℕ) → xs ≡ [] → Took a b xs → IsEnd a → IsEnd b
end_after None None xs e t u = u
end_after None (Some b) xs e t u = absurd t
end_after (Some a) None xs e t u = absurd t
end_after (Some a) (Some b) xs e t u = sym (ap (λ ys. ys ++ b) e) ∙ sym t ∙ u

has_read : (a b : Option (List ℕ)) (held held' buf : List ℕ) (n : ℕ) → held' ≡ held ++ take n buf → ReadsFront a b buf n → 0 < length buf → length buf ≤ 4096 → HasRead a b held held' n
has_read a b held held' buf n e r some few = record {
  count = ap length e ∙ length-append held (take n buf) ∙ ap (λ k. length held + k) (omega (arith, length-take n buf, r.within));
  few = omega (arith, r.within);
  end = λ none. end_after a b _ (ap (λ k. take k buf) none) r.bytes (r.end some none);
}

pub returns-in-Ok-clause-filled : goal.returns-in-Ok-clause-filled
returns-in-Ok-clause-filled g c =
    let h = c.self.inside in
    let n = h.end - h.start in
    let count = c.in-Ok.count in
    record {
      taken = take count c.read.new.buf;
      took = c.in-Ok.ensures.bytes.bytes;
      behind = read_view_at c.move_front.new.bytes c.read.new.buf n _ count _ (omega arith) (omega arith) c.in-Ok.ensures.bytes.within
          ∙ ap (λ xs. xs ++ take count c.read.new.buf) (c.move_front.ensures ∙ c.self.view_is);
    }

pub returns-in-Ok-clause-read : goal.returns-in-Ok-clause-read
returns-in-Ok-clause-read g c =
    let h = c.self.inside in
    let n = h.end - h.start in
    let count = c.in-Ok.count in
    has_read _ _ _ _ c.read.new.buf count
    (read_view_at c.move_front.new.bytes c.read.new.buf n _ count _ (omega arith) (omega arith) c.in-Ok.ensures.bytes.within
    ∙ ap (λ xs. xs ++ take count c.read.new.buf) (c.move_front.ensures ∙ c.self.view_is))
    c.in-Ok.ensures.bytes (omega arith) (omega arith)

still : goal.returns-in-Err-clause-read
still g c =
    let h = c.self.inside in
    let n = h.end - h.start in
    read_view_at c.move_front.new.bytes c.read.new.buf n _ 0 _ (omega arith) (omega arith) (omega arith)
    ∙ append_nil _ ∙ c.move_front.ensures ∙ c.self.view_is

pub returns-in-Err-clause-filled : goal.returns-in-Err-clause-filled
returns-in-Err-clause-filled g c = record {
  taken = [];
  took = rw c.in-Err.ensures.bytes (took_none (g.S.Source.left c.args.source.now));
  behind = still g c ∙ sym (append_nil c.args.self.now);
}

pub returns-in-Err-clause-read : goal.returns-in-Err-clause-read
returns-in-Err-clause-read g c = still g c
