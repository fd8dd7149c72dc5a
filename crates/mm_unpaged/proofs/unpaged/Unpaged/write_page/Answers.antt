use Rattle.std.proofs.Common.{◌≡◌, ◌+◌, ◌∙◌, None, Some, true, refl, sym, ap}
use Rattle.std.proofs.Math.ListN.{length-set}
use Rattle.mm_unpaged.specs.{area_in, area_block, blocks_of, count_in, pages_at, pages_in, contents_in}
use Rattle.mm_unpaged.proofs.{at_place, in_area, changed_same, contents_in_file, file_written, live_near, own_live, report_kept, shown_by, written_to}
use Rattle.mm_unpaged.proofs.{fits_kept, fits_areas, files_fit_areas, files_fit_set, same_parts}
use Rattle.mm_unpaged.proofs.unpaged.Unpaged.write_page.Goals as goal

pub invariant_of-self-clause-fits : goal.invariant_of-self-clause-fits
invariant_of-self-clause-fits g c = fits_kept c.args.self.now.fits c.write.ensures.bound c.write.ensures.count

pub invariant_of-self-in-Some-clause-files_fit : goal.invariant_of-self-in-Some-clause-files_fit
invariant_of-self-in-Some-clause-files_fit g c =
    let fit = c.args.self.now.files_fit in
    let near = fit.near c.in-Shared.area.0 c.in-Shared.index c.in-Some.block (sym c.block.ensures ∙ c.in-Some.is) in
    files_fit_set fit c.in-Some.block _ near (file_written _ c.in-Some.block c.args.off c.args.bytes.now _ _ near c.index_mut.ensures.value c.write-in-Some.ensures) refl (λ clean. cc) (λ b other. refl)

pub invariant_of-self-in-None : goal.invariant_of-self-in-None
invariant_of-self-in-None g c =
    let s = c.args.self.now in
    let k = c.in-Shared in
    let e = c.write-in-None.ensures in
    let live = own_live s c.args.key (ap (blocks_of (area_in s.areas)) k.is ∙ sym c.block.ensures ∙ c.in-None.is) c.requires.live in
    record { fits = fits_areas s.fits e.count; files_fit = files_fit_areas s.files_fit (in_area s (live_near s k.is live) e.areas k.is).block; numbers = s.numbers }

pub returns-in-Private-clause-contents : goal.returns-in-Private-clause-contents
returns-in-Private-clause-contents g c =
    let s = c.args.self.now in
    written_to (contents_in s) c.args.off c.args.bytes.now (at_place s c.write.ensures.pages c.in-Private.is).contents (sym (ap (contents_in s) c.in-Private.is))

pub returns-in-Private-clause-store : goal.returns-in-Private-clause-store
returns-in-Private-clause-store g c =
    let s = c.args.self.now in
    let e = c.write.ensures in
    let live = own_live s c.args.key (ap (blocks_of (area_in s.areas)) c.in-Private.is) c.requires.live in
    let kept = (at_place s e.pages c.in-Private.is).paging ∙ changed_same _ c.args.key true live in
    same_parts _ _ _ _ _ _ _ _ _ refl e.bound e.names kept (ap (λ n. n + count_in s.areas) e.count) refl refl refl
    (report_kept s.writes (contents_in s) _ c.args.key _ (returns-in-Private-clause-contents g c) c.requires.live)

pub returns-in-Some-clause-contents : goal.returns-in-Some-clause-contents
returns-in-Some-clause-contents g c =
    let s = c.args.self.now in
    let k = c.in-Shared in
    let block = c.in-Some.block in
    let there : area_block (area_in s.areas k.area.0) k.index ≡ Some block = sym c.block.ensures ∙ c.in-Some.is in
    let near = s.files_fit.near k.area.0 k.index block there in
    written_to (contents_in s) c.args.off c.args.bytes.now
    (contents_in_file (area_in s.areas) s.file_pages.items _ k.area k.index block _ there near (file_written _ block c.args.off c.args.bytes.now _ _ near c.index_mut.ensures.value c.write-in-Some.ensures)
    (λ b j e. s.files_fit.alone b j k.area.0 k.index block e there) (pages_at s.places) c.args.key k.is)
    (shown_by s k.is there)

pub returns-in-Some-clause-store : goal.returns-in-Some-clause-store
returns-in-Some-clause-store g c =
    let s = c.args.self.now in
    same_parts _ _ _ _ _ _ _ _ _ refl refl refl refl refl refl refl (length-set s.file_pages.items c.in-Some.block _)
    (report_kept s.writes (contents_in s) _ c.args.key _ (returns-in-Some-clause-contents g c) c.requires.live)

pub returns-in-None-clause-contents : goal.returns-in-None-clause-contents
returns-in-None-clause-contents g c =
    let s = c.args.self.now in
    let k = c.in-Shared in
    let none : area_block (area_in s.areas k.area.0) k.index ≡ None = sym c.block.ensures ∙ c.in-None.is in
    let live = own_live s c.args.key (ap (blocks_of (area_in s.areas)) k.is ∙ none) c.requires.live in
    written_to (contents_in s) c.args.off c.args.bytes.now (in_area s (live_near s k.is live) c.write-in-None.ensures.areas k.is).contents (shown_by s k.is none)

pub returns-in-None-clause-store : goal.returns-in-None-clause-store
returns-in-None-clause-store g c =
    let s = c.args.self.now in
    let k = c.in-Shared in
    let e = c.write-in-None.ensures in
    let live = own_live s c.args.key (ap (blocks_of (area_in s.areas)) k.is ∙ sym c.block.ensures ∙ c.in-None.is) c.requires.live in
    let new = in_area s (live_near s k.is live) e.areas k.is in
    same_parts _ _ _ _ _ _ _ _ _ new.sizes refl refl (new.paging ∙ changed_same _ c.args.key true live) (ap (λ n. pages_in s.places + n) e.count) refl new.blocks refl
    (report_kept s.writes (contents_in s) _ c.args.key _ (returns-in-None-clause-contents g c) c.requires.live)
