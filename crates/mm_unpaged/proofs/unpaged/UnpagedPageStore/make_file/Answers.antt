use Rattle.std.proofs.Common.{rules, ◌+◌, refl, ap, inl, inr, length, arith}
use Rattle.mm_store.proofs.{served_nothing, served_writes}
use Rattle.mm_unpaged.specs.{area_in, pages_at}
use Rattle.mm_unpaged.proofs.{file_opened, files_fit_made, files_fit_same, files_fit_unused, fits_areas, none_counted, same_parts}
use Rattle.mm_unpaged.proofs.unpaged.UnpagedPageStore.make_file.Goals as goal

pub returns-in_default-clause-done : goal.returns-in_default-clause-done
returns-in_default-clause-done g c = record {
  made = tt;
  kept = search rules;
  ok = tt;
  err = search rules;
  memory = search rules;
  written = tt;
  others = search rules;
  wrote = record {
    served = served_nothing _ _ refl refl refl refl refl refl;
    stored = search rules;
    quiet = tt;
    failed = search rules;
    blamed = search rules;
  };
}

pub invariant_of-self-in_default-write_file : goal.invariant_of-self-in_default-write_file
invariant_of-self-in_default-write_file g c =
    let s = c.args.self.now in
    let p = c.prepare_file in
    let same = files_fit_same (area_in s.areas) (area_in p.new.areas) s.file_pages.items p.new.files.items (g.F.Inject.blocks s.files) s.machine.blocks p.ensures.areas p.ensures.files s.files_fit in
    record {
      fits = fits_areas s.fits p.ensures.count;
      files_fit = files_fit_unused same _ (c.args.first.0 + c.args.n) c.write_file.ensures.long
          (λ b h. c.write_file.ensures.others b (elim h [ inl low ↦ inl (omega (arith, low, c.requires.may.next, ap length p.ensures.files)) | inr high ↦ inr high ]));
      numbers = s.numbers;
    }

pub returns-in_default-write_file-clause-done : goal.returns-in_default-write_file-clause-done
returns-in_default-write_file-clause-done g c =
    let w = c.write_file.ensures.wrote in
    record {
      made = tt;
      kept = search rules;
      ok = tt;
      err = search rules;
      memory = search rules;
      written = tt;
      others = search rules;
      wrote = record {
        served = served_writes _ _ w.calls w.served w.counted w.none_read refl refl refl refl;
        stored = search rules;
        quiet = tt;
        failed = search rules;
        blamed = search rules;
      };
    }

pub invariant_of-self-2 : goal.invariant_of-self-2
invariant_of-self-2 g c =
    let s = c.args.self.now in
    let p = c.prepare_file.ensures in
    let e = c.set.ensures in
    let none = none_counted (area_in s.areas) _ c.args.area.0 c.requires.may.new p.areas in
    record {
      fits = fits_areas s.fits (omega (arith, e.count, none, p.count));
      files_fit = files_fit_made (area_in s.areas) _ (area_in c.set.new.self) c.args.area.0 c.args.first.0 c.args.n c.args.byte s.file_pages.items _ c.in-Ok.made.items c.append.new.self.items c.requires.may.new p.areas e.areas c.requires.may.next c.in-Ok.ensures.made p.files c.in-Ok-append.ensures.items
          (g.F.Inject.blocks s.files) _ s.machine.blocks s.files_fit c.requires.may.room c.in-Ok-write_file.ensures.ok;
      numbers = s.numbers;
    }

pub returns-clause-done : goal.returns-clause-done
returns-clause-done g c =
    let s = c.args.self.now in
    let p = c.prepare_file.ensures in
    let e = c.set.ensures in
    let none = none_counted (area_in s.areas) _ c.args.area.0 c.requires.may.new p.areas in
    let file = file_opened (area_in s.areas) _ (area_in c.set.new.self) c.args.area.0 c.args.first.0 c.args.n c.args.byte s.file_pages.items _ c.in-Ok.made.items c.append.new.self.items c.requires.may.new p.areas e.areas c.requires.may.next c.in-Ok.ensures.made p.files c.in-Ok-append.ensures.items (pages_at s.places) s.files_fit.near in
    let w = c.write_file.ensures.wrote in
    record {
      made = file.contents;
      kept = tt;
      ok = same_parts _ _ _ _ _ _ _ _ _ file.sizes refl refl file.paging (omega (arith, e.count, none, p.count)) refl file.blocks file.used refl;
      err = tt;
      memory = search rules;
      written = search rules;
      others = search rules;
      wrote = record {
        served = served_writes _ _ w.calls w.served w.counted w.none_read refl refl refl refl;
        stored = search rules;
        quiet = search rules;
        failed = search rules;
        blamed = search rules;
      };
    }
