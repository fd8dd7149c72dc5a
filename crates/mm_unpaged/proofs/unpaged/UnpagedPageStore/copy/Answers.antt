use Rattle.std.proofs.Common.{rules, ◌≡◌, ◌∙◌, Some, refl, sym, ap, arith}
use Rattle.mm_world.specs.{same_key}
use Rattle.mm_move_rules.specs.{same_place}
use Rattle.mm_move_rules.specs.{changed}
use Rattle.mm_store.proofs.{served_nothing}
use Rattle.mm_unpaged.specs.{contents_in}
use Rattle.mm_unpaged.proofs.{at_place, copied_from, copied_to, copy_ends, fits_then, same_parts}
use Rattle.mm_unpaged.proofs.unpaged.UnpagedPageStore.copy.Goals as goal

pub name-requires : goal.name-requires
name-requires g c = ap (λ f. f c.args.place) c.put.ensures.bound ∙ c.requires.may.at.bound

pub invariant_of-self-clause-fits : goal.invariant_of-self-clause-fits
invariant_of-self-clause-fits g c =
    let s = c.args.self.now in
    fits_then s.fits (c.name.ensures.bound ∙ c.put.ensures.bound) (omega (arith, c.name.ensures.count, c.put.ensures.count, s.fits.boxes, c.requires.room, c.take-page.ensures.boxes, c.take-page.ensures.room))

pub returns-clause-copied : goal.returns-clause-copied
returns-clause-copied g c =
    let s = c.args.self.now in
    let page : Some c.copy_from.new.self ≡ contents_in s c.args.from = ap Some c.copy_from.ensures ∙ sym c.page_of.ensures in
    (at_place s (c.name.ensures.pages ∙ c.put.ensures.pages) c.requires.own).contents ∙ ap (changed same_key (contents_in s) c.args.to) page

pub returns-clause-done : goal.returns-clause-done
returns-clause-done g c =
    let s = c.args.self.now in
    let paging = (at_place s (c.name.ensures.pages ∙ c.put.ensures.pages) c.requires.own).paging in
    let names = c.name.ensures.names ∙ ap (λ f. changed same_place f c.args.place (Some c.args.to)) c.put.ensures.names in
    record {
      ok = same_parts _ _ _ _ _ _ _ _ _ refl (c.name.ensures.bound ∙ c.put.ensures.bound) names paging (omega (arith, c.name.ensures.count, c.put.ensures.count)) c.take-page.ensures.room refl refl refl;
      err = tt;
      names = tt;
      answered = record {
        served = served_nothing _ _ refl refl refl refl refl refl;
        stored = search rules;
        fault = λ begun. copy_ends c.args.from c.args.place _ _ (copied_from (contents_in s) _ c.args.from c.args.to (returns-clause-copied g c) c.requires.may.at.live)
            (copied_to (contents_in s) _ c.args.from c.args.to c.args.place (returns-clause-copied g c) c.requires.own c.requires.may.at.live);
        causes = search rules;
        blamed = tt;
        was_ready = search rules;
        unpaged = search rules;
      };
      ready = search rules;
      passes = search rules;
    }
