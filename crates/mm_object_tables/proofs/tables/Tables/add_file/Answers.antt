use Rattle.std.proofs.Common.{rules, ◌≡◌, ◌+◌, ◌++◌, ◌∷◌, [], ℕ, Option, Some, None, true, refl, sym, ◌∙◌, ap, subst, length, arith}
use Rattle.std.specs.Prelude.{◌==◌, Err, find, bytes_eq}
use Rattle.mm_types.specs.{Key}
use Rattle.mm_world.specs.{Tables}
use Rattle.mm_object_tables.specs.{FitsTables, beside_file}
use Rattle.mm_object_tables.proofs.{file_area, file_kept, file_now, file_fits, fits_wrote, area_free, same_kept, notes_nothing}
use Rattle.mm_object_tables.proofs.SectionFits.{same_tables}
use Rattle.mm_store.specs.{Makes, FileMade, WritesFile, wrote, StoreOf, with_blocks, with_file}
use Rattle.mm_move_rules.specs.{changed}
use Rattle.mm_object_tables.proofs.tables.Tables.add_file.Given as given
use Rattle.mm_object_tables.proofs.tables.Tables.add_file.Goals as goal
use Rattle.mm_store.proofs.{served_none}

-- what has become of the areas and the files
at_end : (g : given.Over) (c : goal.After-self-1 g) → c.len.result ≡ length c.self.inside.areas.items
at_end g c = omega (arith, c.len.ensures, c.self.inside.areas.ok.0)

areas_are : (g : given.Over) (c : goal.After-self-1 g) → c.list_file.new.areas.items ≡ c.self.inside.areas.items ++ file_area c.self.inside.blocks_used c.args.pages ∷ []
areas_are g c = c.list_file.ensures.areas ∙ (λ i. c.grow_for_file-grown.ensures.areas i ++ c.in-Ok.ensures.made i ∷ [])

files_are : (g : given.Over) (c : goal.After-self-1 g) → c.list_file.new.directory.files ≡ c.self.inside.directory.files ++ record { name = c.args.name; area = length c.self.inside.areas.items } ∷ []
files_are g c = c.list_file.ensures.files ∙ (λ i. c.grow_for_file-grown.ensures.listed.files i ++ record { name = c.args.name; area = at_end g c i } ∷ [])

-- what a file brings stands beside the rest of the store
beside : (s z : StoreOf) (held : ℕ → Option ℕ) (blocks : Key → Option ℕ) (used : ℕ) → z ≡ record (wrote s z) { areas = held; block_of = blocks; blocks_used = used } → z ≡ beside_file s z
beside s z held blocks used e =
    e
    ∙ (λ i. record (wrote s z) {
      areas = ap (λ (x : StoreOf). x.areas) (sym e) i;
      block_of = ap (λ (x : StoreOf). x.block_of) (sym e) i;
      blocks_used = ap (λ (x : StoreOf). x.blocks_used) (sym e) i;
    })

pub invariant_of-self : goal.invariant_of-self
invariant_of-self g c = same_kept c.self.inside refl c.grow_for_file-grown.ensures.listed.entries c.grow_for_file-grown.ensures.areas c.grow_for_file-grown.ensures.listed.files c.self.invariant

pub returns-in-Err-clause-files : goal.returns-in-Err-clause-files
returns-in-Err-clause-files g c = record {
  ok = tt;
  err = same_tables c.self.inside refl c.grow_for_file-grown.ensures.listed.entries c.grow_for_file-grown.ensures.areas c.grow_for_file-grown.ensures.listed.files c.self.view_is;
  made = tt;
  kept = refl;
}

pub returns-in-Err-clause-stored : goal.returns-in-Err-clause-stored
returns-in-Err-clause-stored g c =
    let same = same_tables c.self.inside refl c.grow_for_file-grown.ensures.listed.entries c.grow_for_file-grown.ensures.areas c.grow_for_file-grown.ensures.listed.files c.self.view_is in
    record {
      fits = subst (λ (t : Tables). FitsTables t (g.G.PageStore.contents c.args.g.now) (g.G.PageStore.store c.args.g.now)) (sym same) c.requires.fits;
      beside = refl;
      memory = λ memory. refl;
      served = served_none (g.G.PageStore.store c.args.g.now);
    }

pub returns-in-Err-clause-notes : goal.returns-in-Err-clause-notes
returns-in-Err-clause-notes g c = record {
  notes = notes_nothing g.G.PageStore.unpaged Makes (g.G.PageStore.behind c.args.g.now);
  written = λ paged. tt;
  loans = refl;
}

pub make_file-requires : goal.make_file-requires
make_file-requires g c =
    let at : c.len.result ≡ length c.args.self.now.areas = omega (arith, c.len.ensures, c.self.inside.areas.ok.0, ap (λ (t : Tables). length t.areas) c.self.view_is) in
    record {
      may = record {
        new = area_free c.args.self.now (g.G.PageStore.contents c.args.g.now) (g.G.PageStore.store c.args.g.now) c.len.result c.requires.fits at;
        few = search rules;
        next = search rules;
        some = search rules;
        room = search rules;
        kind = search rules;
      };
    }

pub list_file-requires-clause-unnamed : goal.list_file-requires-clause-unnamed
list_file-requires-clause-unnamed g c =
    let files : c.grow_for_file-grown.new.directory.files ≡ c.args.self.now.files = c.grow_for_file-grown.ensures.listed.files ∙ ap (λ (t : Tables). t.files) c.self.view_is in
    subst (λ files. find (λ f. bytes_eq f.name c.args.name) files ≡ None) (sym files) c.requires.new.unnamed

pub invariant_of-self-in-Err-make_file : goal.invariant_of-self-in-Err-make_file
invariant_of-self-in-Err-make_file g c =
    same_kept c.self.inside refl c.grow_for_file-grown.ensures.listed.entries c.grow_for_file-grown.ensures.areas c.grow_for_file-grown.ensures.listed.files c.self.invariant

pub returns-in-Err-make_file-clause-files : goal.returns-in-Err-make_file-clause-files
returns-in-Err-make_file-clause-files g c = record {
  ok = tt;
  err = same_tables c.self.inside refl c.grow_for_file-grown.ensures.listed.entries c.grow_for_file-grown.ensures.areas c.grow_for_file-grown.ensures.listed.files c.self.view_is;
  made = tt;
  kept = c.in-Err-make_file.ensures.done.kept;
}

pub returns-in-Err-make_file-clause-stored : goal.returns-in-Err-make_file-clause-stored
returns-in-Err-make_file-clause-stored g c =
    let same = same_tables c.self.inside refl c.grow_for_file-grown.ensures.listed.entries c.grow_for_file-grown.ensures.areas c.grow_for_file-grown.ensures.listed.files c.self.view_is in
    let new = g.G.PageStore.contents c.make_file.new.self in
    let z = g.G.PageStore.store c.make_file.new.self in
    record {
      fits = subst (λ (t : Tables). FitsTables t new z) (sym same)
          (fits_wrote c.args.self.now (g.G.PageStore.contents c.args.g.now) new (g.G.PageStore.store c.args.g.now) z c.requires.fits c.in-Err-make_file.ensures.done.kept c.in-Err-make_file.ensures.done.err
          c.in-Err-make_file.ensures.done.wrote.stored c.in-Err-make_file.ensures.done.wrote.served);
      beside = beside (g.G.PageStore.store c.args.g.now) z (g.G.PageStore.store c.args.g.now).areas (g.G.PageStore.store c.args.g.now).block_of (g.G.PageStore.store c.args.g.now).blocks_used c.in-Err-make_file.ensures.done.err;
      memory = c.in-Err-make_file.ensures.done.memory;
      served = c.in-Err-make_file.ensures.done.wrote.served;
    }

pub returns-in-Err-make_file-clause-fails : goal.returns-in-Err-make_file-clause-fails
returns-in-Err-make_file-clause-fails g c = record {
  quiet = tt;
  failed = c.in-Err-make_file.ensures.done.wrote.failed;
  blamed = c.in-Err-make_file.ensures.done.wrote.blamed;
}

pub returns-in-Err-make_file-clause-notes : goal.returns-in-Err-make_file-clause-notes
returns-in-Err-make_file-clause-notes g c =
    let first : c.self.inside.blocks_used ≡ c.args.self.now.blocks_used = ap (λ (t : Tables). t.blocks_used) c.self.view_is in
    record {
      notes = c.in-Err-make_file.ensures.notes;
      written = λ paged. subst (λ (k : ℕ). FileMade {T = Unit {0}} k c.args.pages (Err c.in-Err-make_file.fault) (g.G.PageStore.store c.args.g.now) (g.G.PageStore.store c.make_file.new.self)) first (c.in-Err-make_file.ensures.file paged);
      loans = c.in-Err-make_file.ensures.loans;
    }

pub invariant_of-self-in-Ok-make_file : goal.invariant_of-self-in-Ok-make_file
invariant_of-self-in-Ok-make_file g c =
    file_kept c.self.inside c.args.name c.args.pages c.args.byte c.self.view_is (c.list_file.ensures.entries ∙ c.grow_for_file-grown.ensures.listed.entries) (areas_are g c) (files_are g c)
    c.requires.new.some c.requires.new.unnamed c.requires.new.room c.self.invariant

pub returns-in-Ok-make_file-clause-files : goal.returns-in-Ok-make_file-clause-files
returns-in-Ok-make_file-clause-files g c =
    let at : c.len.result ≡ length c.args.self.now.areas = omega (arith, c.len.ensures, c.self.inside.areas.ok.0, ap (λ (t : Tables). length t.areas) c.self.view_is) in
    record {
      ok = file_now c.self.inside c.args.name c.args.pages c.args.byte c.self.view_is (c.list_file.ensures.entries ∙ c.grow_for_file-grown.ensures.listed.entries) (areas_are g c) (files_are g c)
          c.requires.new.some c.requires.new.unnamed c.requires.new.room;
      err = tt;
      made = c.in-Ok-make_file.ensures.done.made ∙ ap (λ (k : ℕ). with_file k c.args.pages c.args.byte (g.G.PageStore.contents c.args.g.now)) at;
      kept = tt;
    }

pub returns-in-Ok-make_file-clause-stored : goal.returns-in-Ok-make_file-clause-stored
returns-in-Ok-make_file-clause-stored g c =
    let s = g.G.PageStore.store c.args.g.now in
    let z = g.G.PageStore.store c.make_file.new.self in
    record {
      fits = file_fits c.self.inside c.args.name c.args.pages c.args.byte c.self.view_is (c.list_file.ensures.entries ∙ c.grow_for_file-grown.ensures.listed.entries) (areas_are g c) (files_are g c)
          c.requires.new.some c.requires.new.unnamed c.requires.new.room
          c.len.result (g.G.PageStore.contents c.args.g.now) (g.G.PageStore.contents c.make_file.new.self) s z c.requires.fits (at_end g c)
          c.in-Ok-make_file.ensures.done.made c.in-Ok-make_file.ensures.done.ok c.in-Ok-make_file.ensures.done.wrote.stored c.in-Ok-make_file.ensures.done.wrote.served;
      beside = beside s z (changed ◌==◌ s.areas c.len.result (Some c.args.pages)) (with_blocks c.len.result c.args.pages c.self.inside.blocks_used s.block_of) (s.blocks_used + c.args.pages) c.in-Ok-make_file.ensures.done.ok;
      memory = c.in-Ok-make_file.ensures.done.memory;
      served = c.in-Ok-make_file.ensures.done.wrote.served;
    }

pub returns-in-Ok-make_file-clause-fails : goal.returns-in-Ok-make_file-clause-fails
returns-in-Ok-make_file-clause-fails g c = record {
  quiet = c.in-Ok-make_file.ensures.done.wrote.quiet;
  failed = c.in-Ok-make_file.ensures.done.wrote.failed;
  blamed = c.in-Ok-make_file.ensures.done.wrote.blamed;
}

pub returns-in-Ok-make_file-clause-notes : goal.returns-in-Ok-make_file-clause-notes
returns-in-Ok-make_file-clause-notes g c =
    let first : c.self.inside.blocks_used ≡ c.args.self.now.blocks_used = ap (λ (t : Tables). t.blocks_used) c.self.view_is in
    record {
      notes = c.in-Ok-make_file.ensures.notes;
      written = λ paged. subst (λ (k : ℕ). WritesFile k c.args.pages true (g.G.PageStore.store c.args.g.now) (g.G.PageStore.store c.make_file.new.self)) first (c.in-Ok-make_file.ensures.file paged);
      loans = c.in-Ok-make_file.ensures.loans;
    }
