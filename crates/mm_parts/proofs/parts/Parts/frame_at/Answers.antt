use Rattle.mm_parts.specs.{joined_parts}
use Rattle.mm_parts.proofs.{valid_there, valid_owned, valid_calm, valid_told, not_valid_told}
use Rattle.mm_parts.proofs.parts.Parts.frame_at.Goals as goal

pub at-requires : goal.at-requires
at-requires c = c.words_hold.ensures.bound c.args.place (valid_there ((joined_parts c.args.self.now).words.at c.args.place) c.requires)

pub unreachable-requires : goal.unreachable-requires
unreachable-requires c = not_valid_told (joined_parts c.args.self.now) c.args.place c.at.result c.at.ensures c.requires c.in_default.not-Valid

pub returns : goal.returns
returns c =
    let s = c.args.self.now in
    let v = valid_told (joined_parts s) c.args.place c.in-Valid.f c.in-Valid.field-1 c.at.result c.at.ensures c.in-Valid.is in
    record { frame = v; owned = valid_owned (joined_parts s) s.kept c.args.place c.in-Valid.f v; calm = valid_calm (joined_parts s) s.kept c.args.place c.in-Valid.f v }
