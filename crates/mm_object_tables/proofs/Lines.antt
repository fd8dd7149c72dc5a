-- A file, a process or slots more, one more fail line, and a new store.
use Rattle.std.proofs.Common.{◌≡◌, inl, inr, ℕ, ◌+◌, ◌≤◌, ◌<◌, Bool, true, false, Option, Some, None, refl, sym, ◌∙◌, ap, cond, arith, ◌&&◌, ◌||◌, nat_lt, zero, suc, ◌%◌, List, [], ◌∷◌, subst, length, is_some, replicate, ◌++◌, is_none, count_by, nat_le, option_map, unwrap_or}
use Rattle.std.specs.Prelude.{◌==◌}
use Rattle.std.proofs.lemmas.Bool.{le-leb}
use Rattle.std.proofs.lemmas.List.{length-replicate, length-append}
use Rattle.std.proofs.lemmas.List.Folds.{sum_by-replicate}
use Rattle.std.proofs.lemmas.List.Sums.{sum_by_push}
use Rattle.mm_types.specs.{Area, Key, Text, MachineOf, limit_of}
use Rattle.mm_types.specs.declared.numbers.Key.TheVariants as key
use Rattle.mm_types.specs.declared.moves.LineKind.TheVariants as kind
use Rattle.mm_types.specs.declared.answers.Answer.TheVariants as answer
use Rattle.mm_types.specs.declared.codes.Code.TheVariants as code
use Rattle.mm_types.proofs.{same_or_not, not_true, same_tests, and_false, spread, is_below, differ, push_other, push_at}
use Rattle.mm_devices.specs.{NamedCalls}
use Rattle.mm_world.specs.{Page, filled, AreaOf, numbered, FileOf, Numbered, same_key, area_charge, Tables, blank, file_pages, new_file, area_at}
use Rattle.mm_world.specs.{OutcomeOf, done, need, file_named, settled_area, ProcessOf, process_of, region_with, charge, process_charge, own_page}
use Rattle.mm_world.specs.{content_of, holds, views, no_regions, with_slots, most_processes, most_slots, most_fails, first_world}
use Rattle.mm_world.specs.WellFormed.{WellFormed}
use Rattle.mm_world.proofs.{less, count_by-never, each-append, new_file_keeps, ProcessComes}
use Rattle.mm_store.specs.{StoreOf, with_file, with_blocks, rearranged, wrote, Served, IsNew}
use Rattle.mm_move_rules.specs.{changed}
use Rattle.mm_sections.specs.{CountedSection}
use Rattle.mm_object_tables.specs.{is_page_of, CanFill, Come, FitsTables, IsTidy, AreKeptTables, shown_processes, before_process, is_paging, file_block_in}
use Rattle.mm_object_tables.specs.{owned_keys, handles_in, views_in, tables_with, shown_accesses}
use Rattle.mm_object_tables.specs.declared.tables.Tables.TheInside.{Inside}
use Rattle.mm_object_tables.proofs.PageByPage.{come_one, come_then}
use Rattle.mm_object_tables.proofs.Lists.{same_number, area_at_end, area_before, any_more}
use Rattle.mm_object_tables.proofs.SectionFits.{now, as_kept, IsOld, with_area_of, with_open_of, pages_before, opened_some, Grown, fits_area, fits_processes, replicated, key_free, free_key, some_if, kept_as, read_push}
use Rattle.mm_object_tables.proofs.Keeping.{settle_by, section_settled, Rest, rest_of, MayAdd, with_areas, area_rest, area_settles, with_area_charge, lives_push, sound_edit, tidy_beside, beside_kept}
use Rattle.mm_devices.proofs.{named_as_before}
use Rattle.std.specs.Cmp.{unsigned_Decides}
use Rattle.mm_commit_charge.specs.{CommitOf}
use Rattle.mm_object_tables.proofs.Rows.{regions_in, reserved_is, content_is}

below_more : (i n : ℕ) → nat_lt i (n + 1) ≡ ((i == n) || nat_lt i n)
below_more i n =
    elim (same_or_not i n) [
      | inl same ↦ is_below i (n + 1) (omega (arith, same)) ∙ sym (ap (λ b. b || nat_lt i n) (same_number i n same))
      | inr other ↦
          same_tests (nat_lt i (n + 1)) (nat_lt i n) (λ e. is_below i n (omega (arith, less _ _ e, other))) (λ e. is_below i (n + 1) (omega (arith, less _ _ e)))
          ∙ sym (ap (λ b. b || nat_lt i n) (differ i n other))
    ]

page_more : (area : Area) (n : ℕ) (k : Key) → is_page_of area (n + 1) k ≡ (same_key k (key.Shared area n) || is_page_of area n k)
page_more area n (key.Private pid vpn) = refl
page_more area n (key.Shared a i) = ap (λ b. (a.0 == area.0) && b) (below_more i n) ∙ spread (a.0 == area.0) (i == n) (nat_lt i n)

not_yet : (area : Area) (n : ℕ) → is_page_of area n (key.Shared area n) ≡ false
not_yet area n = ap (λ b. (area.0 == area.0) && b) (not_true (nat_lt n n) (λ e. absurd (omega (arith, less _ _ e)))) ∙ and_false (area.0 == area.0)

pub fills_then : (area : Area) (n : ℕ) (c d e : Key → Option Page) (s z y : StoreOf) → d (key.Shared area n) ≡ None → Come (is_page_of area n) n c d s z → e ≡ changed same_key d (key.Shared area n) (Some (filled 0)) → y ≡ record z { paging = changed same_key z.paging (key.Shared area n) true; paging_keys = z.paging_keys + 1; report = rearranged z.report y.report } → Come (is_page_of area (n + 1)) (n + 1) c e s y
fills_then area n c d e s z y dead a contents store =
    come_then _ _ (is_page_of area (n + 1)) n 1 (n + 1) (page_more area n) refl a (come_one (key.Shared area n) (λ k. same_key k (key.Shared area n)) 1 d e z y (λ k. refl) refl dead contents store)

-- ---- the next page can be added

module _ {area : Area} {n m : ℕ} {c d : Key → Option Page} {s z : StoreOf} (can : CanFill area m c s) (few : n < m) (a : Come (is_page_of area n) n c d s z) where
  pub next_dead : d (key.Shared area n) ≡ None
  next_dead =
      ap (λ (d : Key → Option Page). d (key.Shared area n)) a.contents
      ∙ ap (λ b. cond b (Some (unwrap_or (c (key.Shared area n)) (filled 0))) (c (key.Shared area n))) (not_yet area n) ∙ can.dead n few

  pub next_room : z.paging_keys < z.room
  next_room = omega (arith, can.room, few, ap (λ (x : StoreOf). x.paging_keys) a.store, ap (λ (x : StoreOf). x.room) a.store)

  pub next_kind : z.kind ≡ kind.Call
  next_kind = ap (λ (x : StoreOf). x.kind) a.store ∙ can.called

  pub next_area : z.areas area.0 ≡ Some can.pages
  next_area = ap (λ (x : StoreOf). x.areas area.0) a.store ∙ can.opened

-- ---- an area is opened and filled

pub can_fill : (area : Area) (pages n total : ℕ) (c b : Key → Option Page) (s r o : StoreOf) → b ≡ c → r ≡ record s { room = r.room } → total ≤ r.room → o ≡ record r { areas = changed ◌==◌ r.areas area.0 (Some pages) } → ((i : ℕ) → c (key.Shared area i) ≡ None) → n ≤ pages → s.paging_keys + n ≤ total → s.kind ≡ kind.Call → CanFill area n b o
can_fill area pages n total c b s r o same room more opened dead within keys called =
    record {
      dead = λ i h. ap (λ (c : Key → Option Page). c (key.Shared area i)) same ∙ dead i;
      pages = pages;
      opened = ap (λ (x : StoreOf). x.areas area.0) opened ∙ ap (λ b. cond b (Some pages) (r.areas area.0)) (same_number area.0 area.0 refl);
      within = within;
      room = omega (arith, keys, more, ap (λ (x : StoreOf). x.paging_keys) opened, ap (λ (x : StoreOf). x.room) opened, ap (λ (x : StoreOf). x.paging_keys) room);
      called = ap (λ (x : StoreOf). x.kind) opened ∙ ap (λ (x : StoreOf). x.kind) room ∙ called;
    }

-- ---- What a store holds of a new file

abbrev pub whole : Option (Unit {0})
whole = Some tt

-- a file's area
abbrev pub file_area : ℕ → ℕ → AreaOf (Unit {0})
file_area first pages = record { file_block = Some first; pages = replicate pages whole }

pub pages_are : (byte pages : ℕ) → file_pages blank byte pages ≡ replicate pages whole
pages_are byte zero = refl
pages_are byte (suc n) = ap (λ xs. whole ∷ xs) (pages_are (byte + 1) n)

pub no_charge : (first pages : ℕ) → area_charge (file_area first pages) ≡ 0
no_charge first pages = count_by-never (λ (page : Option (Unit {0})). is_some page && false) (replicate pages whole) (λ page. and_false (is_some page))

-- ---- no file was made

pub fits_wrote : (t : Tables) (c d : Key → Option Page) (s z : StoreOf) → FitsTables t c s → d ≡ c → z ≡ wrote s z → length z.file_blocks ≡ length s.file_blocks → Served s z → FitsTables t d z
fits_wrote t c d s z f same e stored served =
    subst (λ (d : Key → Option Page). FitsTables t d z) (sym same)
    (fits_processes t t.processes t.sections t.files (λ q. refl) c s z (e ∙ ap (with_open_of s) (sym e)) (λ q. ap (λ (x : StoreOf). x.is_open q) e ∙ f.opened q)
    (ap (λ (x : StoreOf). x.last_pid + 1) e ∙ f.last_pid) stored (named_as_before served.file_calls s.file_device z.file_device served.files) refl refl f)

-- ---- a file was made

abbrev pub filed_store : ℕ → ℕ → ℕ → StoreOf → StoreOf → StoreOf
filed_store area pages first s z =
    record (wrote s z) {
      areas = changed ◌==◌ s.areas area (Some pages);
      block_of = with_blocks area pages first s.block_of;
      blocks_used = s.blocks_used + pages;
    }

module _ (t : Tables) (area pages byte first : ℕ) (c d : Key → Option Page) (s z : StoreOf) (at : area ≡ length t.areas) (f : FitsTables t c s) (contents : d ≡ with_file area pages byte c) (e : z ≡ filed_store area pages first s z) where
  page_here : (b : Area) (i : ℕ) → b.0 ≡ length t.areas → ((b.0 == area) && nat_lt i pages) ≡ is_some (numbered (replicate pages whole) i)
  page_here b i new = ap (λ x. x && nat_lt i pages) (same_number b.0 area (new ∙ sym at)) ∙ sym (replicated {A = Unit {0}} pages i tt)

  block_is : (b : Bool) (x : ℕ) (y : Option ℕ) → y ≡ None → cond b (Some x) y ≡ cond b (Some x) None
  block_is true x y e = refl
  block_is false x y e = e

  live_old : (k : Key) → IsOld (length t.areas) k → is_some (with_file area pages byte c k) ≡ is_some (c k)
  live_old (key.Private pid page) h = refl
  live_old (key.Shared b i) h = ap (λ x. is_some (cond (x && nat_lt i pages) (Some (filled ((byte + i) % 256))) (c (key.Shared b i)))) (differ b.0 area (λ e. h (e ∙ at)))

  block_old : (k : Key) → IsOld (length t.areas) k → with_blocks area pages first s.block_of k ≡ s.block_of k
  block_old (key.Private pid page) h = refl
  block_old (key.Shared b i) h = ap (λ x. cond (x && nat_lt i pages) (Some (first + i)) (s.block_of (key.Shared b i))) (differ b.0 area (λ e. h (e ∙ at)))

  file_grown : 1 ≤ pages → length z.file_blocks ≡ length s.file_blocks → Served s z → Grown t (t.areas ++ file_area first pages ∷ []) (length t.areas) (file_area first pages) (t.blocks_used + pages) c d s z
  file_grown some stored served =
      let count : length (replicate pages whole) ≡ pages = length-replicate pages whole in
      record {
        here = area_at_end t.areas (file_area first pages) (length t.areas) refl;
        before = area_before t.areas (file_area first pages);
        stays = pages_before t (file_area first pages) (t.blocks_used + pages);
        live_new = λ b i new.
            ap (λ (d : Key → Option Page). is_some (d (key.Shared b i))) contents
            ∙ some_if ((b.0 == area) && nat_lt i pages) (filled ((byte + i) % 256)) (c (key.Shared b i)) (key_free t c s b i f new) ∙ page_here b i new;
        live_old = λ k h. ap (λ (d : Key → Option Page). is_some (d k)) contents ∙ live_old k h;
        paging_new = λ b i new.
            ap (λ (x : StoreOf). x.paging (key.Shared b i)) e ∙ (free_key t c s b i f new).0 ∙ sym (and_false (is_some (numbered (replicate pages whole) i)));
        paging_old = λ k h. ap (λ (x : StoreOf). x.paging k) e;
        block_new = λ b i new.
            ap (λ (x : StoreOf). x.block_of (key.Shared b i)) e
            ∙ block_is ((b.0 == area) && nat_lt i pages) (first + i) (s.block_of (key.Shared b i)) (free_key t c s b i f new).1
            ∙ ap (λ x. cond x (Some (first + i)) None) (page_here b i new);
        block_old = λ k h. ap (λ (x : StoreOf). x.block_of k) e ∙ block_old k h;
        areas_new =
            ap (λ (x : StoreOf). x.areas (length t.areas)) e
            ∙ ap (λ b. cond b (Some pages) (s.areas (length t.areas))) (same_number (length t.areas) area (sym at)) ∙ ap (λ (k : ℕ). Some k) (sym count)
            ∙ opened_some (length (replicate pages whole)) (omega (arith, count, some));
        areas_old = λ q h. ap (λ (x : StoreOf). x.areas q) e ∙ ap (λ b. cond b (Some pages) (s.areas q)) (differ q area (λ same. h (same ∙ at)));
        counted = omega (arith, ap (λ (x : StoreOf). x.paging_keys) e, f.counted, no_charge first pages, sum_by_push area_charge t.areas (file_area first pages));
        room = omega (arith, f.room, ap (λ (x : StoreOf). x.room) e, no_charge first pages, with_area_charge t (file_area first pages));
        blocks_used = omega (arith, ap (λ (x : StoreOf). x.blocks_used) e, f.used);
        rest = e ∙ ap (with_area_of s) (sym e);
        stored = stored;
        named_file = named_as_before served.file_calls s.file_device z.file_device served.files;
      }

-- ---- What tables keep, where a file is made

-- the tables with the file
abbrev pub with_new_file : Tables → Text → ℕ → Tables
with_new_file t name pages =
    record t {
      files = t.files ++ record { name = name; area = length t.areas } ∷ [];
      areas = t.areas ++ file_area t.blocks_used pages ∷ [];
      blocks_used = t.blocks_used + pages;
    }

pub file_is : (t : Tables) (name : Text) (pages byte : ℕ) → file_named t name ≡ None → t.blocks_used + pages ≤ t.machine.blocks → (new_file blank t name pages byte).world ≡ with_new_file t name pages
file_is t name pages byte unnamed room =
    ap (λ (o : Option FileOf). (need t code.AlreadyExists (is_none o) (later (nat_le (t.blocks_used + pages) t.machine.blocks))).world) unnamed
    ∙ ap (λ b. (later b).world) (le-leb (t.blocks_used + pages) t.machine.blocks room)
    ∙ (λ i. record t {
      files = t.files ++ record { name = name; area = length t.areas } ∷ [];
      areas = t.areas ++ record { file_block = Some t.blocks_used; pages = pages_are byte pages i } ∷ [];
      blocks_used = t.blocks_used + pages;
    })
  where
    made : Tables
    made = record t {
      files = t.files ++ record { name = name; area = length t.areas } ∷ [];
      areas = t.areas ++ record { file_block = Some t.blocks_used; pages = file_pages blank byte pages } ∷ [];
      blocks_used = t.blocks_used + pages;
    }

    later : Bool → OutcomeOf (Unit {0})
    later b = cond b (done answer.Ok made) (done answer.Full t)

-- ---- tidy

module _ (t : Tables) (name : Text) (pages : ℕ) (some : 1 ≤ pages) (well : WellFormed t) (h : IsTidy t) where
  may_add : MayAdd t (file_area t.blocks_used pages) (t.blocks_used + pages)
  may_add =
      let count : length (replicate pages whole) ≡ pages = length-replicate pages whole in
      let all : count_by is_some (replicate pages whole) ≡ pages = omega (arith, sum_by-replicate (λ (page : Option (Unit {0})). cond (is_some page) 1 0) pages whole) in
      record {
        later = omega arith;
        file = λ first e. let same : t.blocks_used ≡ first = cc in (omega (arith, same, count), omega (arith, some, count), all ∙ sym count);
      }

  area_kept : (m : ℕ) → settled_area t.sections m (area_at (with_new_file t name pages) m) ≡ area_at (with_new_file t name pages) m
  area_kept m =
      elim (same_or_not m (length t.areas)) [
        | inl same ↦
            let at : area_at (with_new_file t name pages) m ≡ file_area t.blocks_used pages = area_at_end t.areas (file_area t.blocks_used pages) m same in
            ap (settled_area t.sections m) at ∙ sym at
        | inr other ↦ (area_settles t (file_area t.blocks_used pages) (t.blocks_used + pages) h.settled).areas m other
      ]

  file_tidy : IsTidy (with_new_file t name pages)
  file_tidy =
      let a = file_area t.blocks_used pages in
      let rest : Rest (with_areas t (t.areas ++ a ∷ []) (t.blocks_used + pages)) = area_rest t a (t.blocks_used + pages) well.references may_add (rest_of t h) in
      let new_at : area_at (with_new_file t name pages) (length t.areas) ≡ a = area_at_end t.areas a (length t.areas) refl in
      record {
        settled = settle_by (with_new_file t name pages) (section_settled t h.settled) area_kept;
        own_area = rest.own_area;
        some = rest.some;
        files = λ area first e. let k = rest.files area first e in record { blocks = k.blocks; some = k.some; committed = k.committed };
        file_areas = each-append (λ (f : FileOf). is_some (area_at (with_new_file t name pages) f.area).file_block ≡ true) t.files (record { name = name; area = length t.areas } ∷ []) rest.file_areas
            (ap (λ (a : AreaOf (Unit {0})). is_some a.file_block) new_at, tt);
        keepers = rest.keepers;
      }

-- ---- kept

-- the area and the file are listed
module _ (i : Inside) {t : Tables} (name : Text) (pages byte : ℕ) {es : Numbered CountedSection} {areas : List (AreaOf (Unit {0}))} {files : List FileOf} (view : as_kept i ≡ t) (entries : es ≡ i.directory.entries) (areas_are : areas ≡ i.areas.items ++ file_area i.blocks_used pages ∷ []) (files_are : files ≡ i.directory.files ++ record { name = name; area = length i.areas.items } ∷ []) (some : 1 ≤ pages) (unnamed : file_named t name ≡ None) (room : t.blocks_used + pages ≤ t.machine.blocks) where
  made_is : now i (shown_processes i.processes.items) es areas files (i.blocks_used + pages) ≡ with_new_file (as_kept i) name pages
  made_is = λ j. now i (shown_processes i.processes.items) (entries j) (areas_are j) (files_are j) (i.blocks_used + pages)

  pub file_kept : AreKeptTables (as_kept i) i.directory.entries i.commit → AreKeptTables (now i (shown_processes i.processes.items) es areas files (i.blocks_used + pages)) es i.commit
  file_kept k =
      let x = as_kept i in
      let free = ap (λ (t : Tables). file_named t name) view ∙ unnamed in
      let within : i.blocks_used + pages ≤ i.machine.blocks = omega (arith, room, ap (λ (t : Tables). t.blocks_used) view, ap (λ (t : Tables). t.machine.blocks) view) in
      subst (λ (es : Numbered CountedSection). AreKeptTables (now i (shown_processes i.processes.items) es areas files (i.blocks_used + pages)) es i.commit) (sym entries)
      (kept_as (with_new_file x name pages) (now i (shown_processes i.processes.items) i.directory.entries areas files (i.blocks_used + pages)) i.directory.entries i.commit
      (λ j. now i (shown_processes i.processes.items) i.directory.entries (areas_are j) (files_are j) (i.blocks_used + pages)) (record {
        sound = subst (λ (t : Tables). WellFormed t) (file_is x name pages byte free within) (new_file_keeps blank x name pages byte k.sound);
        tidy = file_tidy x name pages some k.sound k.tidy;
        counted = λ n c there. let old = k.counted n c there in record { handles = old.handles; views = old.views };
        charged = omega (arith, k.charged, with_area_charge x (file_area i.blocks_used pages), no_charge i.blocks_used pages);
        limited = k.limited;
      }))

  pub file_now : now i (shown_processes i.processes.items) es areas files (i.blocks_used + pages) ≡ (new_file blank t name pages byte).world
  file_now = made_is ∙ ap (λ (t : Tables). with_new_file t name pages) view ∙ sym (file_is t name pages byte unnamed room)

  pub file_fits : (area : ℕ) (c d : Key → Option Page) (s z : StoreOf) → FitsTables t c s → area ≡ length i.areas.items → d ≡ with_file area pages byte c → z ≡ filed_store area pages i.blocks_used s z → length z.file_blocks ≡ length s.file_blocks → Served s z → FitsTables (now i (shown_processes i.processes.items) es areas files (i.blocks_used + pages)) d z
  file_fits area c d s z fits at contents e stored served =
      let x = as_kept i in
      let a = file_area i.blocks_used pages in
      let f = subst (λ (t : Tables). FitsTables t c s) (sym view) fits in
      let grown = fits_area x (i.areas.items ++ a ∷ []) (length i.areas.items) a (i.blocks_used + pages) c d s z (file_grown x area pages byte i.blocks_used c d s z at f contents e some stored served) f in
      let w = with_areas x (i.areas.items ++ a ∷ []) (i.blocks_used + pages) in
      subst (λ (t : Tables). FitsTables t d z) (sym made_is)
      (fits_processes w w.processes w.sections (i.directory.files ++ record { name = name; area = length i.areas.items } ∷ []) (λ q. refl) d z z refl grown.opened grown.last_pid refl refl refl refl grown)

-- ---- one process more

-- the tables as they are kept, with these processes
abbrev pub shown_as : Inside → List (Option (ProcessOf (Unit {0}))) → Tables
shown_as i ps = tables_with i.machine ps i.directory.entries i.areas.items i.directory.files i.blocks_used i.fails_taken (shown_accesses i.kept) i.stacks

abbrev pub more : Tables → Tables
more t = record t { processes = t.processes ++ Some no_regions ∷ [] }

module _ (t : Tables) where
  more_charge : charge (more t) ≡ charge t
  more_charge = omega (arith, sum_by_push process_charge t.processes (Some no_regions))

  more_tidy : IsTidy t → IsTidy (more t)
  more_tidy tidy =
      tidy_beside t t.machine (more t).processes t.fails_taken t.kept t.stacks (λ tid k e. lives_push t.processes no_regions k.pid (tidy.keepers tid k e))
      (λ n. any_more (holds n) t.processes (Some no_regions)) (λ n. any_more (views n) t.processes (Some no_regions)) tidy

  pub more_kept : (entries : Numbered CountedSection) (commit : CommitOf) → AreKeptTables t entries commit → length t.processes ≤ most_processes → AreKeptTables (more t) entries commit
  more_kept entries commit kept few =
      record {
        sound = sound_edit t (more t) (ProcessComes (le-leb (length t.processes) most_processes few)) (omega (arith, more_charge, kept.sound.charged)) kept.sound;
        tidy = more_tidy kept.tidy;
        counted = λ n c e.
            let k = kept.counted n c e in
            record {
              handles = omega (arith, k.handles, sum_by_push (handles_in n) t.processes (Some no_regions));
              views = omega (arith, k.views, sum_by_push (views_in n) t.processes (Some no_regions));
            };
        charged = kept.charged ∙ sym more_charge;
        limited = kept.limited;
      }

  same_regions : (q : ℕ) → regions_in (more t) q ≡ regions_in t q
  same_regions q =
      read_push (λ (o : Option (ProcessOf (Unit {0}))). unwrap_or (option_map (λ (p : ProcessOf (Unit {0})). p.regions) o) []) t.processes (Some no_regions) q refl

  opened_more : (pid : ℕ) (is_open : ℕ → Bool) → pid ≡ length t.processes → ((q : ℕ) → is_open q ≡ is_some (process_of t q)) → (q : ℕ) → changed ◌==◌ is_open pid true q ≡ is_some (process_of (more t) q)
  opened_more pid is_open at opened q =
      elim (same_or_not q pid) [
        | inl same ↦ ap (λ b. cond b true (is_open q)) ((unsigned_Decides q pid).1 same) ∙ sym (ap is_some (push_at t.processes (Some no_regions) q (same ∙ at)))
        | inr other ↦
            ap (λ b. cond b true (is_open q)) (differ q pid other) ∙ opened q
            ∙ sym (ap is_some (push_other t.processes (Some no_regions) q (λ e. other (e ∙ sym at))))
      ]

  pub more_fits : (c d : Key → Option Page) (s z : StoreOf) (pid : ℕ) → pid ≡ length t.processes → FitsTables t c (before_process t s) → z ≡ record s { is_open = changed ◌==◌ s.is_open pid true } → s.last_pid ≡ pid → d ≡ c → FitsTables (more t) d z
  more_fits c d s z pid at f e last contents =
      subst (λ (d : Key → Option Page). FitsTables (more t) d z) (sym contents)
      (fits_processes t (more t).processes t.sections t.files same_regions c (before_process t s) z (e ∙ ap (with_open_of (before_process t s)) (sym e))
      (λ q. ap (λ (x : StoreOf). x.is_open q) e ∙ opened_more pid s.is_open at f.opened q)
      (omega (arith, ap (λ (x : StoreOf). x.last_pid) e, last, at, length-append t.processes (Some no_regions ∷ []))) (ap (λ (x : StoreOf). length x.file_blocks) e)
      (ap (λ (x : StoreOf). length x.file_device.named) e) (omega (arith, sum_by_push owned_keys t.processes (Some no_regions))) more_charge f)

-- ---- neither processes nor areas change

abbrev pub other : Tables → MachineOf → ℕ → Tables
other t m n = record t { machine = m; fails_taken = n }

other_kept : (t : Tables) (m : MachineOf) (n : ℕ) (entries : Numbered CountedSection) (old new : CommitOf) → AreKeptTables t entries old → n ≤ most_fails → m.slots ≤ most_slots → t.machine.blocks ≡ m.blocks → limit_of t.machine ≤ limit_of m → new.charge ≡ old.charge → new.limit ≡ limit_of m → AreKeptTables (other t m n) entries new
other_kept t m n entries old new kept fails slots blocks more charged limited =
    beside_kept t m n t.kept t.stacks entries old new
    (record { processes = refl; sections = refl; areas = refl; files = refl; threads = refl; fails = λ h. fails; blocks = λ h. omega (arith, h, blocks); slots = λ h. slots; kept = λ e. refl; stacks = λ e. refl; limit = more })
    kept.tidy.keepers charged limited kept

-- ---- more slots

pub slots_kept : (t : Tables) (n : ℕ) (entries : Numbered CountedSection) (commit new : CommitOf) → AreKeptTables t entries commit → t.machine.slots + n ≤ most_slots → limit_of (with_slots t.machine n) ≡ limit_of t.machine + n → new ≡ record commit { limit = commit.limit + n } → AreKeptTables (other t (with_slots t.machine n) t.fails_taken) entries new
slots_kept t n entries commit new kept h limits e =
    other_kept t (with_slots t.machine n) t.fails_taken entries commit new kept kept.sound.numbers.fails h refl (omega (arith, limits))
    (ap (λ (c : CommitOf). c.charge) e) (ap (λ (c : CommitOf). c.limit) e ∙ ap (λ (k : ℕ). k + n) kept.limited ∙ sym limits)

-- ---- one more `fail` line

pub fail_kept : (t : Tables) (entries : Numbered CountedSection) (commit : CommitOf) → AreKeptTables t entries commit → t.fails_taken < most_fails → AreKeptTables (other t t.machine (t.fails_taken + 1)) entries commit
fail_kept t entries commit kept h = other_kept t t.machine (t.fails_taken + 1) entries commit commit kept (omega (arith, h)) kept.sound.numbers.slots refl (omega arith) refl kept.limited

-- ---- a new store fits the tables of its machine

nobody : (m : MachineOf) (q : ℕ) → is_some (process_of {B = Unit {0}} (first_world m) q) ≡ false
nobody m zero = refl
nobody m (suc q) = refl

no_regions_at : (m : MachineOf) (q : ℕ) → regions_in {B = Unit {0}} (first_world m) q ≡ []
no_regions_at m zero = refl
no_regions_at m (suc q) = refl

no_content : (m : MachineOf) (k : Key) → is_some (content_of {B = Unit {0}} (first_world m) k) ≡ false
no_content m (key.Private q v) = ap is_some (content_is (first_world m) q.0 v.0) ∙ ap (λ rs. is_some (own_page rs v.0)) (no_regions_at m q.0)
no_content m (key.Shared area index) = refl

no_paging : (m : MachineOf) (k : Key) → is_paging {B = Unit {0}} (first_world m) k ≡ false
no_paging m (key.Private q v) = ap (λ b. b && true) (no_content m (key.Private q v))
no_paging m (key.Shared area index) = refl

no_block : (m : MachineOf) (k : Key) → file_block_in {B = Unit {0}} (first_world m) k ≡ None
no_block m (key.Private q v) = refl
no_block m (key.Shared area index) = refl

pub new_fits : (m : MachineOf) (c : Key → Option Page) (s : StoreOf) → IsNew m c s → FitsTables (first_world m) c s
new_fits m c s h =
    record {
      machine = h.machine;
      opened = λ q. h.closed q ∙ sym (nobody m q);
      last_pid = omega (arith, h.no_pid);
      areas = h.no_area;
      bound = λ place. h.unbound place ∙ sym (reserved_is (first_world m) place ∙ ap (λ rs. is_some (region_with rs place.vpn.0)) (no_regions_at m place.pid.0));
      live = λ k. ap is_some (h.empty k) ∙ sym (no_content m k);
      paging = λ k. h.not_paging k ∙ sym (no_paging m k);
      counted = h.no_keys;
      room = omega arith;
      named = λ place k e. let bad : None ≡ Some k = sym (h.no_name place) ∙ e in cc;
      blocks = λ k. h.no_block k ∙ sym (no_block m k);
      used = h.unused;
      stored = h.stored;
      named_paging = omega (arith, ap (λ (n : List NamedCalls). length n) h.none_named_paging);
      named_file = omega (arith, ap (λ (n : List NamedCalls). length n) h.none_named_file);
    }
