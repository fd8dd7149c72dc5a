use Rattle.std.proofs.Common.{◌≡◌, ◌≤◌, ◌+◌, ◌-◌, ◌*◌, ◌++◌, ◌∷◌, [], ◌∙◌, ℕ, Bool, Some, set, sym, ap, subst, length, arith, true, false, refl}
use Rattle.std.specs.Prelude.{if◌then◌else◌}
use Rattle.mm_types.specs.declared.answers.Answer.TheVariants as answer
use Rattle.mm_world.specs.{Numbered, charge, Tables, process_of}
use Rattle.mm_world.specs.WellFormed.{WellFormed}
use Rattle.mm_object_tables.specs.{shown_processes, with_handles}
use Rattle.mm_object_tables.proofs.{idle, pages_as, pages_idle, ListsSection, paging_pages, committed_pages, area_free, key_free, lists, paging_kept}
use Rattle.mm_object_tables.proofs.{paging_now, paging_settled, same_kept, as_kept, paging_few, out_of_memory, Lent, lent_are, lives_there, one_given}
use Rattle.mm_object_tables.proofs.{room_alone}
use Rattle.mm_object_tables.proofs.SectionFits.{same_tables}
use Rattle.mm_types.proofs.{some_found, on_err}
use Rattle.mm_object_tables.proofs.tables.Tables.add_paging_section.Given as given
use Rattle.mm_object_tables.proofs.tables.Tables.add_paging_section.Goals as goal
use Rattle.mm_object_tables.proofs.tables.Tables.add_paging_section.Goals.{After-handles_of-handles}

-- no more pages are committed than there are
committed_few : (pages : ℕ) (committed : Bool) (n : ℕ) → n ≡ (if committed then pages else 0) → n ≤ pages
committed_few pages true n is = omega (arith, is)
committed_few pages false n is = omega (arith, is)

lent : (g : given.Over) (c : After-handles_of-handles g) → Lent c.self.inside c.args.self.now c.args.pid.0 c.index_mut.result.now c.handles_of-handles.result.now.entries
lent g c = record { view = c.self.view_is; lives = c.requires.ready.lives; at = c.index_mut.ensures.value; are = c.handles_of-handles.ensures.value }

pub handles_of-handles-requires : goal.handles_of-handles-requires
handles_of-handles-requires g c = record { lives = lives_there c.self.inside c.args.self.now c.self.view_is c.args.pid.0 c.index_mut.result.now c.requires.ready.lives c.index_mut.ensures.value }

-- what has become of the processes, the directory and the areas
listed : (g : given.Over) (c : goal.After-take g) → ListsSection c.self.inside c.args.self.now c.args.pid.0 (record { prot = c.args.prot.0; name = c.args.name; area = c.len.result }) (shown_processes (set c.self.inside.processes.items (c.args.pid.0 - 1) (with_handles c.index_mut.result.now c.list_section-handle.new.handles))) c.list_section-handle.new.directory.entries c.list_section-handle.new.directory.files
listed g c =
    let l : Lent c.self.inside c.args.self.now c.args.pid.0 c.index_mut.result.now c.handles_of-handles.result.now.entries = record { view = c.self.view_is; lives = c.requires.ready.lives; at = c.index_mut.ensures.value; are = c.handles_of-handles.ensures.value } in
    let grown = c.grow_for_paging.ensures in
    let number = length c.grow_for_paging.new.directory.entries in
    lists c.self.inside c.args.pid.0 (record { prot = c.args.prot.0; name = c.args.name; area = c.len.result }) c.self.view_is grown.listed.entries grown.listed.files
    (one_given l c.list_section-handle.new.handles number (c.list_section-handle.ensures.given ∙ ap (λ hs. hs ++ Some number ∷ []) grown.same)) c.list_section-handle.ensures.entries c.list_section-handle.ensures.files

at_end : (g : given.Over) (c : goal.After-take g) → c.len.result ≡ length c.self.inside.areas.items
at_end g c = omega (arith, c.len.ensures, c.self.inside.areas.ok.0)

areas_are : (g : given.Over) (c : goal.After-take g) → c.push_reserved.new.self.items ≡ c.self.inside.areas.items ++ paging_pages c.args.pages c.args.committed ∷ []
areas_are g c = c.push_reserved.ensures.items ∙ (λ i. c.grow_for_paging.ensures.areas i ++ c.in_ok-made.ensures.made i ∷ [])

pub invariant_of-self : goal.invariant_of-self
invariant_of-self g c =
    same_kept c.self.inside (room_alone (lent g (goal.at.invariant_of-self g c).After-handles_of-handles) c.grow_for_paging.new.handles c.grow_for_paging.ensures.same) c.grow_for_paging.ensures.listed.entries c.grow_for_paging.ensures.areas c.grow_for_paging.ensures.listed.files c.self.invariant

pub returns-in_err-made-clause-settles : goal.returns-in_err-made-clause-settles
returns-in_err-made-clause-settles g c =
    out_of_memory g.G.PageStore c.from_residual.result c.requires.ready.fits
    (same_tables c.self.inside (room_alone (lent g (goal.at.returns-in_err-made-clause-settles g c).After-handles_of-handles) c.grow_for_paging.new.handles c.grow_for_paging.ensures.same) c.grow_for_paging.ensures.listed.entries c.grow_for_paging.ensures.areas c.grow_for_paging.ensures.listed.files c.self.view_is)
    (record { contents = refl; store = refl; later = omega arith })

pub returns-in_err-made-clause-makes : goal.returns-in_err-made-clause-makes
returns-in_err-made-clause-makes g c = pages_idle g.G.PageStore c.from_residual.result (idle g.G.PageStore c.args.g.now) refl

pub open_paging_area-requires-clause-new : goal.open_paging_area-requires-clause-new
open_paging_area-requires-clause-new g c =
    let at : c.len.result ≡ length c.args.self.now.areas = omega (arith, c.len.ensures, c.self.inside.areas.ok.0, ap (λ (t : Tables). length t.areas) c.self.view_is) in
    record {
      new = area_free c.args.self.now (g.G.PageStore.contents c.args.g.now) (g.G.PageStore.store c.args.g.now) c.len.result c.requires.ready.fits at;
      few = omega (arith, at, c.requires.few.areas);
      some = c.requires.some;
      within = committed_few c.args.pages c.args.committed c.pages_if-n.result c.pages_if-n.ensures;
      dead = λ i. key_free c.args.self.now (g.G.PageStore.contents c.args.g.now) (g.G.PageStore.store c.args.g.now) (record { 0 = c.len.result }) i c.requires.ready.fits at;
    }

pub open_paging_area-requires-clause-keys : goal.open_paging_area-requires-clause-keys
open_paging_area-requires-clause-keys g c =
    let sound = subst (λ (t : Tables). WellFormed t) c.self.view_is c.self.invariant.sound in
    omega (arith, paging_few c.args.self.now sound, c.requires.ready.fits.counted, c.now.ensures.charge, c.self.invariant.charged, ap (λ (t : Tables). charge t) c.self.view_is)

pub invariant_of-self-in_err-open_paging_area : goal.invariant_of-self-in_err-open_paging_area
invariant_of-self-in_err-open_paging_area g c =
    same_kept c.self.inside (room_alone (lent g (goal.at.invariant_of-self-in_err-open_paging_area g c).After-handles_of-handles) c.grow_for_paging.new.handles c.grow_for_paging.ensures.same) c.grow_for_paging.ensures.listed.entries c.grow_for_paging.ensures.areas c.grow_for_paging.ensures.listed.files c.self.invariant

pub returns-in_err-open_paging_area-clause-settles : goal.returns-in_err-open_paging_area-clause-settles
returns-in_err-open_paging_area-clause-settles g c =
    out_of_memory g.G.PageStore c.from_residual-in_err-open_paging_area.result c.requires.ready.fits
    (same_tables c.self.inside (room_alone (lent g (goal.at.returns-in_err-open_paging_area-clause-settles g c).After-handles_of-handles) c.grow_for_paging.new.handles c.grow_for_paging.ensures.same) c.grow_for_paging.ensures.listed.entries c.grow_for_paging.ensures.areas c.grow_for_paging.ensures.listed.files c.self.view_is)
    c.in_err-open_paging_area.ensures.err

pub returns-in_err-open_paging_area-clause-makes : goal.returns-in_err-open_paging_area-clause-makes
returns-in_err-open_paging_area-clause-makes g c =
    pages_as g.G.PageStore c.from_residual-in_err-open_paging_area.result (on_err c.from_residual-in_err-open_paging_area.result c.in_err-open_paging_area.ensures.makes.idle) c.open_paging_area.ensures.makes

pub list_section-handle-requires-clause-can : goal.list_section-handle-requires-clause-can
list_section-handle-requires-clause-can g c =
    let p = some_found (process_of c.args.self.now c.args.pid.0) c.requires.ready.lives in
    let same = c.grow_for_paging.ensures.same ∙ lent_are (lent g (goal.at.list_section-handle-requires-clause-can g c).After-handles_of-handles) p.0 p.1 in
    record { room = c.in_ok-made.ensures.room; few = omega (arith, c.requires.few.handles c.args.pid.0 p.0 p.1, ap (λ (hs : Numbered ℕ). length hs) same) }

pub invariant_of-self-2 : goal.invariant_of-self-2
invariant_of-self-2 g c =
    let p = some_found (process_of c.args.self.now c.args.pid.0) c.requires.ready.lives in
    paging_kept (listed g c) p.0 p.1 c.args.pages c.args.committed (at_end g c) c.requires.some (areas_are g c)
    c.pages_if-n.result c.take.new.commit c.requires.room c.pages_if-n.ensures c.take.ensures c.self.invariant

pub returns-clause-ok : goal.returns-clause-ok
returns-clause-ok g c p lives =
    let handle = c.list_section-handle.ensures.handle ∙ ap (λ (hs : Numbered ℕ). 4 * length hs) (c.grow_for_paging.ensures.same ∙ lent_are (lent g (goal.at.returns-clause-ok g c).After-handles_of-handles) p lives) in
    let end = paging_now (listed g c) p lives c.args.pages c.args.committed (at_end g c) c.requires.some (areas_are g c) in
    λ i. record { answer = answer.Created (sym handle i) false; world = sym end i }

pub returns-clause-settles : goal.returns-clause-settles
returns-clause-settles g c =
    let z = g.G.PageStore.store c.open_paging_area.new.g in
    let p = some_found (process_of c.args.self.now c.args.pid.0) c.requires.ready.lives in
    let room : charge (as_kept c.self.inside) + committed_pages c.args.pages c.args.committed ≤ z.room =
    omega (arith, c.in_ok-open_paging_area.ensures.room, c.now.ensures.charge, c.self.invariant.charged, c.pages_if-n.ensures) in
    record {
      err = tt;
      settled = paging_settled (listed g c) p.0 p.1 c.args.pages c.args.committed (at_end g c) c.requires.some (areas_are g c)
          (record { 0 = c.len.result }) c.pages_if-n.result (g.G.PageStore.contents c.args.g.now) (g.G.PageStore.contents c.open_paging_area.new.g) (g.G.PageStore.store c.args.g.now) z refl
          c.requires.ready.fits c.pages_if-n.ensures c.in_ok-open_paging_area.ensures.ok room;
    }

pub returns-clause-makes : goal.returns-clause-makes
returns-clause-makes g c = pages_as g.G.PageStore _ tt c.open_paging_area.ensures.makes
