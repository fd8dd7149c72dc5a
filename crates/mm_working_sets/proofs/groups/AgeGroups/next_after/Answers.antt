use Rattle.std.proofs.Common.{◌+◌, arith}
use Rattle.mm_working_sets.proofs.{nine_sets, some_group, lowest_in_set, none_in_set, next_found, next_later}
use Rattle.mm_working_sets.proofs.groups.AgeGroups.next_after.Goals as goal

pub group_of-group-requires-clause-whole : goal.group_of-group-requires-clause-whole
group_of-group-requires-clause-whole c = nine_sets c.args.self.now.newest c.args.self.now.sets.items c.args.self.now.kept c.args.page c.requires

pub group_of-group-requires-clause-held : goal.group_of-group-requires-clause-held
group_of-group-requires-clause-held c = some_group c.args.self.now.newest c.args.self.now.sets.items c.args.self.now.kept.grouped c.args.page c.requires

pub index-requires : goal.index-requires
index-requires c =
    let s = c.args.self.now in
    omega (arith, s.sets.ok.0, nine_sets s.newest s.sets.items s.kept c.args.page c.requires, s.kept.grouped.known c.args.page c.group_of-group.result c.group_of-group.ensures)

pub returns-in-Some : goal.returns-in-Some
returns-in-Some c =
    let s = c.args.self.now in
    let group = c.group_of-group.result in
    next_found s.newest s.kept.turning s.sets.items s.kept.grouped c.args.page group c.in-Some.next.0 c.group_of-group.ensures
    (lowest_in_set s.sets.items c.index.result.now group (c.args.page + 1)
    (omega (arith, nine_sets s.newest s.sets.items s.kept c.args.page c.requires, s.kept.grouped.known c.args.page group c.group_of-group.ensures)) c.index.ensures c.in-Some.next.0 c.in-Some.ensures.is)

pub oldest_below-requires-clause-whole : goal.oldest_below-requires-clause-whole
oldest_below-requires-clause-whole c = nine_sets c.args.self.now.newest c.args.self.now.sets.items c.args.self.now.kept c.args.page c.requires

pub returns : goal.returns
returns c =
    let s = c.args.self.now in
    let group = c.group_of-group.result in
    next_later s.newest s.kept.turning s.sets.items s.kept.grouped c.args.page group c.turned.result c.oldest_below.result c.group_of-group.ensures c.turned.ensures.is
    (none_in_set s.sets.items c.index.result.now group (c.args.page + 1)
    (omega (arith, nine_sets s.newest s.sets.items s.kept c.args.page c.requires, s.kept.grouped.known c.args.page group c.group_of-group.ensures)) c.index.ensures c.in_default.ensures.is)
    c.oldest_below.ensures
