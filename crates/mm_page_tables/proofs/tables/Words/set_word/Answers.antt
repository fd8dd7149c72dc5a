use Rattle.std.proofs.Common.{◌≡◌, true, sym, ap, ◌∙◌, subst}
use Rattle.mm_types.specs.{Key}
use Rattle.mm_page_tables.specs.{has_word, with_entry, words}
use Rattle.mm_page_tables.proofs.{proto_shown, proto_there}
use Rattle.mm_page_tables.proofs.tables.Words.set_word.Goals as goal

pub returns-in-Shared-clause-words : goal.returns-in-Shared-clause-words
returns-in-Shared-clause-words c =
    let has = subst (λ (k : Key). has_word (words c.args.self.now) k ≡ true) c.in-Shared.is c.requires.has in
    proto_shown c.args.self.now.protos c.set.new.self c.in-Shared.a.0 c.in-Shared.i c.encode.result (proto_there c.args.self.now.protos c.in-Shared.a.0 c.in-Shared.i has) c.set.ensures
    c.args.self.now.processes.items c.args.self.now.aside c.args.e c.encode.ensures c.requires.fits c.requires.plain
    ∙ ap (λ (k : Key). with_entry (words c.args.self.now) k c.args.e) (sym c.in-Shared.is)
