use Rattle.mm_reports.proofs.{set_told}
use Rattle.mm_reports.proofs.tables.put_set.Goals as goal

pub returns : goal.returns
returns c =
    set_told c.args.text.now.items c.put_counted.new.text.items c.put_counted-2.new.text.items c.put_pair.new.text.items c.args.pid c.from-resident.result c.from-min.result c.from-max.result
    c.args.set c.in_ok-put_counted.ensures c.in_ok-put_counted-2.ensures c.in_ok-put_pair.ensures c.from-resident.ensures c.from-min.ensures c.from-max.ensures
