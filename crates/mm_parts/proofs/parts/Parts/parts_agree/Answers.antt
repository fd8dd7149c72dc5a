use Rattle.mm_parts.specs.{joined_parts, shown_parts}
use Rattle.mm_parts.proofs.{entries_agree, slots_agree, requests_agree, sets_agree}
use Rattle.mm_parts.proofs.parts.Parts.parts_agree.Goals as goal

pub returns-clause-entries : goal.returns-clause-entries
returns-clause-entries c = entries_agree (joined_parts c.args.self.now) c.args.self.now.kept

pub returns-clause-slots : goal.returns-clause-slots
returns-clause-slots c = slots_agree (shown_parts c.args.self.now).life c.args.self.now.kept.reached

pub returns-clause-requests : goal.returns-clause-requests
returns-clause-requests c = requests_agree (joined_parts c.args.self.now) c.args.self.now.kept c.requests_hold.ensures.few

pub returns-clause-sets : goal.returns-clause-sets
returns-clause-sets c =
    let h = c.working_sets_hold.ensures in
    sets_agree (joined_parts c.args.self.now) c.args.self.now.kept h.aged h.young h.within
