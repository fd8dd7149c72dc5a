use Rattle.std.proofs.Common.{◌∙◌, ap, subst, sym}
use Rattle.mm_types.specs.{end_of_user_pages}
use Rattle.mm_store.specs.{AreAmong, leaving, page_rank}
use Rattle.mm_object_tables.specs.{is_uncommitted}
use Rattle.mm_world.specs.{Tables, end_stacks, is_stack_at}
use Rattle.mm_object_tables.proofs.tables.Tables.release.Goals as goal

pub returns : goal.returns
returns g c =
    let h = c.release_region.ensures in
    record {
      changed = λ p r lives at. c.end_stack_at.ensures.ended ∙ ap (λ (t : Tables). end_stacks t (is_stack_at c.args.pid.0 c.args.addr)) (h.changed p r lives at);
      frees = record {
        settled = record {
          fits = c.end_stack_at.ensures.fits _ _ h.frees.settled.fits;
          carries = h.frees.settled.carries;
          rest = h.frees.settled.rest;
        };
        among = subst (λ (t : Tables). AreAmong (leaving c.args.self.now c.args.pid.0 (is_uncommitted t)) 1 (page_rank end_of_user_pages) c.args.pid c.args.range) (sym c.end_stack_at.ensures.ended) h.frees.among;
        passes = h.frees.passes;
        loans = h.frees.loans;
      };
    }
