use Rattle.std.proofs.Common.{◌≡◌, ◌++◌, ℕ, Bool, List, length, take, drop, cond, sym, ap, ◌∙◌, subst, arith}
use Rattle.std.specs.Prelude.{slice_index}
use Rattle.mm_bits.specs.{have_bit, Becomes}
use Rattle.mm_page_tables.specs.{leaf_pages, bit_numbers}
use Rattle.mm_page_tables.proofs.{all_put, filled_above, filled_slice, filled_within, filled}
use Rattle.mm_page_tables.proofs.leaves.put_all.Goals as goal
use Rattle.mm_page_tables.proofs.leaves.put_all.Goals.{After-fill, then-on, else-on}

made : (c : After-fill) → (let ws = c.fill.new.self ++ drop bit_numbers c.deref_mut.result.now in take c.args.numbers.now.len (ws ++ drop (length ws) c.args.numbers.now.items)) ≡ filled c.args.numbers.now.items 0 bit_numbers c.if-on.bits
made c = filled_slice c.args.numbers.now.len 0 bit_numbers c.if-on.bits c.args.numbers.now.items c.deref_mut.result.now c.fill.new.self (sym c.args.numbers.now.ok.0) c.deref_mut.ensures.value c.requires (c.fill.ensures.after (λ y e. e))

pub returns-clause-put : goal.returns-clause-put
returns-clause-put c =
    let bits : c.if-on.bits ≡ cond c.args.on 18446744073709551615 0 = elim c.if-on.branch [
      | then-on w ↦ w.bits-is ∙ sym (ap (λ (b : Bool). cond {A = ℕ} b 18446744073709551615 0) w.if-on.true)
      | else-on w ↦ w.bits-is ∙ sym (ap (λ (b : Bool). cond {A = ℕ} b 18446744073709551615 0) w.if-on.false)
    ] in
    let old = c.args.numbers.now.items in
    subst (λ (ns : List ℕ). Becomes c.args.on (have_bit old) (have_bit ns) 0 leaf_pages) (sym (made (goal.at.returns-clause-put c).After-fill))
    (all_put c.args.on c.if-on.bits old _ bits (λ k h. filled_within old 0 bit_numbers c.if-on.bits k c.requires (omega arith) h) (λ k h. filled_above old 0 bit_numbers c.if-on.bits k c.requires h))

pub returns-clause-rest : goal.returns-clause-rest
returns-clause-rest c = λ w l. ap (λ (ns : List ℕ). slice_index ns w) (made (goal.at.returns-clause-rest c).After-fill) ∙ filled_above c.args.numbers.now.items 0 bit_numbers c.if-on.bits w c.requires (omega (arith, l))
