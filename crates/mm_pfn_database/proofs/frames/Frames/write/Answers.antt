use Rattle.std.proofs.Common.{◌≡◌, true, refl, sym, ap, ◌∙◌, List, [], ℕ, Option, None, Some}
use Rattle.std.specs.Prelude.{is_some, unwrap_or}
use Rattle.mm_move_rules.specs.{record_at}
use Rattle.mm_ram.specs.{bytes_of, overwritten, page_at}
use Rattle.mm_pfn_database.specs.{FramesOf}
use Rattle.mm_pfn_database.proofs.{owned_used, page_written, page_changed}
use Rattle.mm_pfn_database.proofs.frames.Frames.write.Goals as goal

pub write-requires-clause-written : goal.write-requires-clause-written
write-requires-clause-written c =
    page_written c.self.invariant c.self.view_is c.args.f.0 (owned_used (record_at c.args.self.now.table c.args.f.0) c.requires.owned) c.requires.not_read

pub invariant_of-self : goal.invariant_of-self
invariant_of-self c =
    page_changed c.self.invariant c.self.view_is c.args.f.0 (owned_used (record_at c.args.self.now.table c.args.f.0) c.requires.owned)
    c.write.new.self (overwritten (bytes_of c.self.inside.ram c.args.f.0) c.args.off c.args.bytes.now) c.write.ensures

some_is : (o : Option (List ℕ)) → is_some o ≡ true → o ≡ Some (unwrap_or o [])
some_is None e = cc
some_is (Some page) e = refl

pub returns-clause-written : goal.returns-clause-written
returns-clause-written c =
    let f = c.args.f.0 in
    let old = ap (λ (v : FramesOf). page_at v.bytes f) c.self.view_is in
    let written = page_written c.self.invariant c.self.view_is f (owned_used (record_at c.args.self.now.table f) c.requires.owned) c.requires.not_read in
    some_is (page_at c.args.self.now.bytes f) (ap is_some (sym old) ∙ written)
