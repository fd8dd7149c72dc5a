use Rattle.std.proofs.Common.{false, length, refl, ap, arith}
use Rattle.mm_types.specs.declared.moves.LineKind.TheVariants as kind
use Rattle.mm_unpaged.specs.{area_in, size_of, pages_at}
use Rattle.mm_unpaged.proofs.{fits_new, files_fit_new, contents_new, paging_new, blocks_new, none_at}
use Rattle.mm_unpaged.proofs.unpaged.Unpaged.new.Goals as goal

pub invariant_of-result-clause-fits : goal.invariant_of-result-clause-fits
invariant_of-result-clause-fits g c = fits_new c.new.result c.new-2.result c.new-4.result c.new.ensures.bound c.new.ensures.count c.new-2.ensures.count c.new-4.ensures

pub invariant_of-result-clause-files_fit : goal.invariant_of-result-clause-files_fit
invariant_of-result-clause-files_fit g c =
    files_fit_new (area_in c.new-2.result) c.new-3.result.items _ _ c.new-2.ensures.areas c.new-3.ensures.items c.requires.opened (omega (arith, c.blocks-blocks.ensures))

pub returns-clause-new : goal.returns-clause-new
returns-clause-new g c = record {
  empty = λ k. contents_new (pages_at c.new.result) (area_in c.new-2.result) c.new-3.result.items k c.new.ensures.pages c.new-2.ensures.areas;
  machine = refl;
  closed = λ pid. none_at false 256 pid;
  no_area = λ area. ap (λ f. size_of (f area)) c.new-2.ensures.areas;
  unbound = λ place. ap (λ f. f place) c.new.ensures.bound;
  no_name = λ place. ap (λ f. f place) c.new.ensures.names;
  not_paging = λ k. paging_new (pages_at c.new.result) (area_in c.new-2.result) k c.new.ensures.pages c.new-2.ensures.areas;
  no_keys = omega (arith, c.new.ensures.count, c.new-2.ensures.count);
  no_block = λ k. blocks_new (area_in c.new-2.result) k c.new-2.ensures.areas;
  unused = ap length c.new-3.ensures.items;
  stored = c.requires.opened;
  line = refl;
  kind = λ i. kind.Machine (c.frames.ensures i) (c.slots.ensures i) (c.depth.ensures i) (c.blocks-blocks.ensures i);
  no_pid = refl;
  not_ready = refl;
  begun = record { no_failed_read = refl; no_failed_write = c.none.ensures };
  none_named_paging = refl;
  none_named_file = c.requires.plain;
}
