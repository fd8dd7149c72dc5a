use Rattle.std.proofs.Common.{rules, ◌≡◌, ◌∙◌, Some, false, refl, sym, ap, arith}
use Rattle.std.specs.Prelude.{is_ok, slice_get, slice_set}
use Rattle.mm_types.proofs.{get_set_other, get_set_same}
use Rattle.mm_store.proofs.{served_nothing, served_writes}
use Rattle.mm_unpaged.specs.{area_in, area_block, blocks_of, page_in, pages_at}
use Rattle.mm_unpaged.proofs.{file_got, files_fit_settled, contents_settled, page_got, page_here, shown_by, wrote_one}
use Rattle.mm_unpaged.proofs.unpaged.UnpagedPageStore.flush.Goals as goal

-- the page was not changed: its block holds it
pub returns-then-not-index-clause-done : goal.returns-then-not-index-clause-done
returns-then-not-index-clause-done g c =
    let s = c.args.self.now in
    let fit = s.files_fit in
    let b = c.in-Some.block in
    let blocks = g.F.Inject.blocks s.files in
    let page = c.index.result.now in
    let there : area_block (area_in s.areas c.in-Shared.area.0) c.in-Shared.index ≡ Some b = sym c.block.ensures ∙ c.in-Some.is in
    let near = fit.near c.in-Shared.area.0 c.in-Shared.index b there in
    let plain : page.changed ≡ false = search rules in
    record {
      store = search rules;
      ok = λ block at.
          let some : Some block ≡ Some b = sym at ∙ ap (blocks_of (area_in s.areas)) c.in-Shared.is ∙ there in
          let same : block ≡ b = cc in
          ap (slice_get blocks) same ∙ fit.kept b page (file_got s.file_pages.items b page near c.index.ensures) plain
          ∙ sym (page_got s.file_pages.items b _ near c.index.ensures) ∙ shown_by s c.in-Shared.is there;
      others = λ block other at apart. refl;
      wrote = record {
        served = served_nothing _ _ refl refl refl refl refl refl;
        stored = refl;
        quiet = refl;
        failed = tt;
        blamed = tt;
      };
    }

pub returns-in_default-write_block-clause-done : goal.returns-in_default-write_block-clause-done
returns-in_default-write_block-clause-done g c =
    let w = wrote_one _ _ _ _ c.in-Some.block (is_ok c.write_block.result) _ c.write_block.ensures.serves c.write_block.ensures.writes in
    record {
      store = search rules;
      ok = tt;
      others = search rules;
      wrote = record {
        served = served_writes _ _ w.calls w.served w.counted w.none_read refl refl refl refl;
        stored = search rules;
        quiet = tt;
        failed = search rules;
        blamed = search rules;
      };
    }

pub invariant_of-self-2-clause-files_fit : goal.invariant_of-self-2-clause-files_fit
invariant_of-self-2-clause-files_fit g c =
    let s = c.args.self.now in
    let files = s.file_pages.items in
    let block = c.in-Some.block in
    let there : area_block (area_in s.areas c.in-Shared.area.0) c.in-Shared.index ≡ Some block = sym c.block.ensures ∙ c.in-Some.is in
    let near = s.files_fit.near c.in-Shared.area.0 c.in-Shared.index block there in
    let here = page_here files block _ near c.index_mut.ensures.value in
    let page = page_here files block _ near c.index-2.ensures in
    files_fit_settled s.files_fit block (page_in files block) near (ap (λ p. slice_set files block (record { page = p; changed = false })) here)
    (c.in-Ok.ensures.ok ∙ ap (slice_set (g.F.Inject.blocks s.files) block) page)

pub returns-clause-contents : goal.returns-clause-contents
returns-clause-contents g c =
    let s = c.args.self.now in
    let files = s.file_pages.items in
    let block = c.in-Some.block in
    let there : area_block (area_in s.areas c.in-Shared.area.0) c.in-Shared.index ≡ Some block = sym c.block.ensures ∙ c.in-Some.is in
    let here = page_here files block _ (s.files_fit.near c.in-Shared.area.0 c.in-Shared.index block there) c.index_mut.ensures.value in
    contents_settled (pages_at s.places) (area_in s.areas) files _ block (ap (λ p. slice_set files block (record { page = p; changed = false })) here)

pub returns-clause-done : goal.returns-clause-done
returns-clause-done g c =
    let s = c.args.self.now in
    let fit = s.files_fit in
    let b = c.in-Some.block in
    let blocks = g.F.Inject.blocks s.files in
    let page = c.index-2.result.now.page in
    let there : area_block (area_in s.areas c.in-Shared.area.0) c.in-Shared.index ≡ Some b = sym c.block.ensures ∙ c.in-Some.is in
    let near = fit.near c.in-Shared.area.0 c.in-Shared.index b there in
    let w = wrote_one _ _ _ _ b (is_ok c.write_block.result) _ c.write_block.ensures.serves c.write_block.ensures.writes in
    record {
      store = search rules;
      ok = λ block at.
          let some : Some block ≡ Some b = sym at ∙ ap (blocks_of (area_in s.areas)) c.in-Shared.is ∙ there in
          let same : block ≡ b = cc in
          ap (λ bs. slice_get bs block) c.in-Ok.ensures.ok ∙ ap (slice_get (slice_set blocks b page)) same
          ∙ get_set_same blocks b page (omega (arith, near, fit.used, fit.device))
          ∙ sym (page_got s.file_pages.items b _ near c.index-2.ensures) ∙ shown_by s c.in-Shared.is there;
      others = λ block other at apart.
          let some : Some block ≡ Some b = sym at ∙ ap (blocks_of (area_in s.areas)) c.in-Shared.is ∙ there in
          let same : block ≡ b = cc in
          ap (λ bs. slice_get bs other) c.in-Ok.ensures.ok
          ∙ get_set_other blocks b other page (λ e. apart (e ∙ sym same));
      wrote = record {
        served = served_writes _ _ w.calls w.served w.counted w.none_read refl refl refl refl;
        stored = search rules;
        quiet = search rules;
        failed = tt;
        blamed = tt;
      };
    }
