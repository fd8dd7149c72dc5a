use Rattle.std.proofs.Common.{rules, Some, ap, ◌∙◌}
use Rattle.mm_store.specs.{StoreOf}
use Rattle.mm_move_rules.specs.{same_place}
use Rattle.mm_move_rules.specs.{changed}
use Rattle.mm_unpaged.specs.{names_in, contents_in, store_in}
use Rattle.mm_unpaged.proofs.{eased_named, fetched_named, named_after, served_named, touch_ends, written_live}
use Rattle.mm_unpaged.proofs.unpaged.UnpagedPageStore.write.Goals as goal

pub name_place-requires : goal.name_place-requires
name_place-requires g c = ap (λ (t : StoreOf). t.bound c.args.place) c.write_page.ensures.store ∙ c.requires.may.at.bound

pub returns-clause-written : goal.returns-clause-written
returns-clause-written g c = c.name_place.ensures.contents ∙ c.write_page.ensures.contents

pub returns-clause-done : goal.returns-clause-done
returns-clause-done g c =
    let s = c.args.self.now in
    let names = changed same_place (names_in s.places) c.args.place (Some c.args.key) in
    let named = named_after _ _ _ c.args.place c.args.key c.write_page.ensures.store c.name_place.ensures.store in
    record {
      ok = fetched_named (store_in s) (store_in c.name_place.new.self) names named;
      err = tt;
      answered = record {
        served = served_named _ _ _ named;
        stored = search rules;
        fault = λ begun. touch_ends c.args.key _ (contents_in c.name_place.new.self) (written_live (contents_in s) (contents_in c.name_place.new.self) c.args.key _ (c.name_place.ensures.contents ∙ c.write_page.ensures.contents) c.requires.may.at.live);
        causes = search rules;
        blamed = tt;
        was_ready = search rules;
        unpaged = search rules;
      };
      eased = λ ready. eased_named (store_in s) (store_in c.name_place.new.self) names named;
      passes = search rules;
    }
