use Rattle.mm_parts.specs.{joined_parts}
use Rattle.mm_parts.proofs.{lines_hold, pages_hold, storage_holds}
use Rattle.mm_parts.proofs.parts.Parts.parts_hold.Goals as goal

pub returns-clause-lines : goal.returns-clause-lines
returns-clause-lines c = lines_hold (joined_parts c.args.self.now) c.args.self.now.kept c.requests_hold.ensures.few c.requests_hold.ensures.threads

pub returns-clause-pages : goal.returns-clause-pages
returns-clause-pages c =
    let h = c.working_sets_hold.ensures in
    pages_hold (joined_parts c.args.self.now) c.args.self.now.kept c.words_hold.ensures.there c.words_hold.ensures.bound h.open h.begun h.within

pub returns-clause-storage : goal.returns-clause-storage
returns-clause-storage c = storage_holds (joined_parts c.args.self.now) c.args.self.now.kept
