use Rattle.std.proofs.Common.{rules}
use Rattle.mm_calls.proofs.Named.{with_file_bytes}
use Rattle.mm_calls.proofs.files.new_file.Goals as goal

pub returns-in-Ok-clause-done : goal.returns-in-Ok-clause-done
returns-in-Ok-clause-done g c = record {
  told = search rules;
  bytes = with_file_bytes c.args.t.now c.add_file.new.self (g.G.PageStore.contents c.args.g.now) (g.G.PageStore.contents c.add_file.new.g) (g.G.PageStore.store c.args.g.now) (g.G.PageStore.store c.add_file.new.g)
      c.args.pages c.args.byte c.requires.begins.fits c.in-Ok.ensures.stored.fits c.in-Ok.ensures.files.made;
  fits = search rules;
  beside = search rules;
  served = search rules;
  blamed = search rules;
  file = search rules;
}
