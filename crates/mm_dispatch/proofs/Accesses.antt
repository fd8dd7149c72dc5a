-- An access to the world of some tables with bytes, by what the tables have at its page.
use Rattle.std.proofs.Common.{◌≡◌, ℕ, ◌+◌, ◌-◌, ◌≤◌, ◌%◌, Bool, true, false, Option, Some, None, is_some, List, refl, sym, ◌∙◌, ap, subst, cond, take, drop, option_map, unwrap_or, not, ◌&&◌, inr}
use Rattle.std.specs.Prelude.{option_and_then}
use Rattle.mm_types.specs.{Access, Key, View, page_of, page_size, permits, Pid, Place}
use Rattle.mm_world.specs.{Page, RowOf, RegionOf, ProcessOf, filled, process_of, shared_page, set_region, change_range, mark_written, one_page, Home}
use Rattle.mm_world.specs.{Own, InSection, Committed, committed_at, key_of, private_key, shared_key, with_row, set_row, set_shared, guard_off}
use Rattle.mm_world.specs.{Attempt, ReadOf, WriteOf, Execute, access, access_at, access_of, is_permitted, perform, write_to, written, bytes_at_home}
use Rattle.mm_world.specs.{Need, need_of, copies, same_key, OutcomeOf, done, find_or, need_at, store_line, Tables, row_with, process_with, world_with}
use Rattle.mm_world.specs.{Spaces}
use Rattle.mm_world.specs.World.{World}
use Rattle.mm_store.specs.{touch, place_at, copying, IsReady, MayAccess, IsBegun, started, StoreOf, Ghosts as PageStoreGhosts}
use Rattle.mm_object_tables.specs.{CommittedRow, is_own, MadeAtMost, key_at}
use Rattle.mm_dispatch.specs.{Refuses, Admits, Marks, CanAccess, CanTurn, row_need, LineBegins, KeepsOver}
use Rattle.mm_world.proofs.{IsCommitted, committed_is, HomeCases, IsOwn, IsShared, home_cases}
use Rattle.mm_types.proofs.{and_false, and_true, parts, none_of}
use Rattle.mm_dispatch.proofs.Alike.{same_key_of}
use Rattle.mm_dispatch.proofs.Rows.{Lives}
use Rattle.mm_dispatch.proofs.With.{begins, committed_with, home_with, process-with, committed-with, guard_off-with, shared-with}
use Rattle.mm_dispatch.proofs.Making.{made-set_region}
use Rattle.mm_dispatch.proofs.Writing.{written-with, marked-with, copied-with, shared-written}
use Rattle.mm_world.specs.Report.{Report}
use Rattle.mm_types.specs.declared.answers.Answer.TheVariants as answer
use Rattle.mm_types.specs.declared.codes.Code.TheVariants as code
use Rattle.mm_types.specs.declared.codes.Raise.TheVariants as raise
use Rattle.mm_types.specs.declared.views.Kind.TheVariants as kind
use Rattle.mm_types.specs.declared.protections.Access.TheVariants as access_kind

-- ---- a line for the store alone

pub store-gone : (t : Tables) (b : Key → Page) (pid : ℕ) → process_of t pid ≡ None → store_line (world_with t b) pid ≡ done (answer.Error code.InvalidHandle) (world_with t b)
store-gone t b pid gone =
    ap (λ p. find_or (world_with t b) code.InvalidHandle p (λ (p : ProcessOf Page). done answer.Ok (world_with t b))) (process-with b t pid ∙ ap (option_map (process_with b pid)) gone)

pub store-lives : (t : Tables) (b : Key → Page) (pid : ℕ) → Lives t pid → store_line (world_with t b) pid ≡ done answer.Ok (world_with t b)
store-lives t b pid l =
    ap (λ p. find_or (world_with t b) code.InvalidHandle p (λ (p : ProcessOf Page). done answer.Ok (world_with t b))) (process-with b t pid ∙ ap (option_map (process_with b pid)) l.lives)

-- ---- an access

-- what an access needs, by the process and by its committed row
abbrev needed : ℕ → ℕ → Attempt → Committed Page → Option Need
needed pid addr what c = cond (is_permitted what c) (Some (need_of pid (page_of addr) c what)) None

module _ (t : Tables) (b : Key → Page) (pid addr : ℕ) (what : Attempt) where
  abbrev world : World
  world = world_with t b

  -- no process
  pub no_process : process_of t pid ≡ None → Refuses world pid addr what (answer.Error code.InvalidHandle) world
  no_process gone =
      let none : process_of world pid ≡ None = process-with b t pid ∙ ap (option_map (process_with b pid)) gone in
      record {
        needless = ap (λ p. option_and_then (λ (p : ProcessOf Page). option_and_then (needed pid addr what) (committed_at world p.regions (page_of addr))) p) none;
        outcome = ap (λ p. find_or world code.InvalidHandle p (λ p. access_at world pid p (page_of addr) (addr % page_size) what (committed_at world p.regions (page_of addr)))) none;
      }

  module _ (p : ProcessOf (Unit {0})) (lives : process_of t pid ≡ Some p) where
    abbrev q : ProcessOf Page
    q = process_with b pid p

    lives_with : process_of world pid ≡ Some q
    lives_with = process-with b t pid ∙ ap (option_map (process_with b pid)) lives

    at_row : (c : Option (Committed (Unit {0}))) → committed_at t p.regions (page_of addr) ≡ c → committed_at world q.regions (page_of addr) ≡ option_map (committed_with b pid (page_of addr)) c
    at_row c e = committed-with b t pid (page_of addr) p.regions ∙ ap (option_map (committed_with b pid (page_of addr))) e

    -- the need and the outcome, by the row
    pub need-by : (c : Option (Committed (Unit {0}))) → committed_at t p.regions (page_of addr) ≡ c → need_at world pid addr what ≡ option_and_then (needed pid addr what) (option_map (committed_with b pid (page_of addr)) c)
    need-by c e =
        ap (λ p. option_and_then (λ (p : ProcessOf Page). option_and_then (needed pid addr what) (committed_at world p.regions (page_of addr))) p) lives_with
        ∙ ap (λ c. option_and_then (needed pid addr what) c) (at_row c e)

    pub access-by : (c : Option (Committed (Unit {0}))) → committed_at t p.regions (page_of addr) ≡ c → access world pid addr what ≡ access_at world pid q (page_of addr) (addr % page_size) what (option_map (committed_with b pid (page_of addr)) c)
    access-by c e =
        ap (λ p. find_or world code.InvalidHandle p (λ p. access_at world pid p (page_of addr) (addr % page_size) what (committed_at world p.regions (page_of addr)))) lives_with
        ∙ ap (λ c. access_at world pid q (page_of addr) (addr % page_size) what c) (at_row c e)

    -- no committed row
    pub not_committed : committed_at t p.regions (page_of addr) ≡ None → Refuses world pid addr what (answer.Raised raise.AccessViolation) world
    not_committed e = record { needless = need-by None e; outcome = access-by None e }

    module _ (c : Committed (Unit {0})) (committed : committed_at t p.regions (page_of addr) ≡ Some c) where
      abbrev d : Committed Page
      d = committed_with b pid (page_of addr) c

      low : c.region.thing.base ≤ page_of addr
      low = begins (page_of addr) p.regions c.region (committed_is t p.regions (page_of addr) c committed).region

      abbrev by_guard : Bool → OutcomeOf Page
      by_guard guard =
          cond guard (done (answer.Raised raise.GuardPage) (guard_off world pid q d (page_of addr)))
          (cond (not (permits c.row.prot (access_of what))) (done (answer.Raised raise.AccessViolation) world) (perform world pid q d (page_of addr) (addr % page_size) what))

      abbrev by_permission : Bool → OutcomeOf Page
      by_permission permitted = cond (not permitted) (done (answer.Raised raise.AccessViolation) world) (perform world pid q d (page_of addr) (addr % page_size) what)

      abbrev need_if : Bool → Option Need
      need_if b = cond b (Some (need_of pid (page_of addr) d what)) None

      -- the guard is on
      pub guarded : c.row.guard ≡ true → Refuses world pid addr what (answer.Raised raise.GuardPage) (world_with (guard_off t pid p c (page_of addr)) b)
      guarded on =
          record {
            needless = need-by (Some c) committed ∙ ap (λ g. need_if (not g && permits c.row.prot (access_of what))) on;
            outcome =
                access-by (Some c) committed ∙ ap by_guard on
                ∙ ap (λ (v : World). done (answer.Raised raise.GuardPage) v) (sym (guard_off-with b t pid (page_of addr) p c low));
          }

      module _ (off : c.row.guard ≡ false) where
        -- the protection does not permit it
        pub not_permitted : permits c.row.prot (access_of what) ≡ false → Refuses world pid addr what (answer.Raised raise.AccessViolation) world
        not_permitted denied =
            record {
              needless = need-by (Some c) committed ∙ (λ i. need_if (not (off i) && denied i));
              outcome = access-by (Some c) committed ∙ ap by_guard off ∙ ap by_permission denied;
            }

        module _ (permitted : permits c.row.prot (access_of what) ≡ true) where
          pub need_is : need_at world pid addr what ≡ Some (record { key = key_of pid (page_of addr) c.home; copy = cond (copies d what d.home) (Some (private_key pid (page_of addr))) None })
          need_is =
              need-by (Some c) committed
              ∙ (λ i. need_if (not (off i) && permitted i))
              ∙ ap (λ (k : Key). let n : Need = record { key = k; copy = cond (copies d what d.home) (Some (private_key pid (page_of addr))) None } in Some n) (same_key_of t b pid (page_of addr) c.home)

          pub performs : access world pid addr what ≡ perform world pid q d (page_of addr) (addr % page_size) what
          performs = access-by (Some c) committed ∙ ap by_guard off ∙ ap by_permission permitted

-- ---- a permitted access, by its form

module _ (t : Tables) (b : Key → Page) (pid addr : ℕ) where
  abbrev page : ℕ
  page = page_of addr

  abbrev w : World
  w = world_with t b

  -- the bytes of a committed row
  home-bytes : (i : ℕ) (c : Committed (Unit {0})) (home : Home (Unit {0})) → HomeCases t i c.region.thing.kind c.row.own home → bytes_at_home w (home_with b pid page home) ≡ b (key_of pid page home)
  home-bytes i c home (IsOwn u own at_home) =
      ap (λ home. bytes_at_home w (home_with b pid page home)) at_home ∙ sym (ap (λ home. b (key_of pid page home)) at_home)
  home-bytes i c home (IsShared v u is none there at_home) =
      ap (λ home. bytes_at_home w (home_with b pid page home)) at_home
      ∙ ap (λ o. unwrap_or o (filled 0)) (shared-with b t v.area.0 (v.first + i) ∙ ap (option_map (λ u. b (shared_key v.area.0 (v.first + i)))) there)
      ∙ sym (ap (λ home. b (key_of pid page home)) at_home)

  copies-told : (c : Committed (Unit {0})) (bytes : List ℕ) (home : Home (Unit {0})) → copies (committed_with b pid page c) (WriteOf bytes) (home_with b pid page home) ≡ (c.row.marked && not (is_own home))
  copies-told c bytes (Own u) = sym (and_false c.row.marked)
  copies-told c bytes (InSection area i) = sym (and_true c.row.marked)

  module _ (what : Attempt) (told : CommittedRow) (h : Admits t pid addr (access_of what) told) where
    key-told : key_of pid page h.row.home ≡ told.key
    key-told = ap (λ (r : CommittedRow). r.key) h.is_told

    needs-by : (b' : Bool) → copies (committed_with b pid page h.row) what (home_with b pid page h.row.home) ≡ b' → need_at w pid addr what ≡ Some (record { key = told.key; copy = cond b' (Some (private_key pid page)) None })
    needs-by b' e =
        need_is t b pid addr what h.process h.lives h.row h.committed h.unguarded h.permitted
        ∙ (λ i. Some (record { key = key-told i; copy = cond (e i) (Some (private_key pid page)) None }))

    does : access w pid addr what ≡ perform w pid (process_with b pid h.process) (committed_with b pid page h.row) page (addr % page_size) what
    does = performs t b pid addr what h.process h.lives h.row h.committed h.unguarded h.permitted

    committed-is : IsCommitted t h.process.regions page h.row
    committed-is = committed_is t h.process.regions page h.row h.committed

    cases : HomeCases t (page - h.row.region.thing.base) h.row.region.thing.kind h.row.row.own h.row.home
    cases = home_cases t (page - h.row.region.thing.base) h.row.region.thing.kind h.row.row.own h.row.home committed-is.home_there

    bytes-told : bytes_at_home w (home_with b pid page h.row.home) ≡ b told.key
    bytes-told = home-bytes (page - h.row.region.thing.base) h.row h.row.home cases ∙ ap b key-told

  -- ---- a read, an execution

  pub read-needs : (len : ℕ) (told : CommittedRow) (h : Admits t pid addr (access_of (ReadOf len)) told) → need_at w pid addr (ReadOf len) ≡ Some (touch told.key)
  read-needs len told h = needs-by (ReadOf len) told h false refl

  pub reads : (len : ℕ) (told : CommittedRow) (h : Admits t pid addr (access_of (ReadOf len)) told) → access w pid addr (ReadOf len) ≡ done (answer.Bytes (take len (drop (addr % page_size) (b told.key)))) w
  reads len told h =
      does (ReadOf len) told h ∙ ap (λ (x : Page). done (answer.Bytes (take len (drop (addr % page_size) x))) w) (bytes-told (ReadOf len) told h)

  pub execute-needs : (told : CommittedRow) (h : Admits t pid addr (access_of Execute) told) → need_at w pid addr Execute ≡ Some (touch told.key)
  execute-needs told h = needs-by Execute told h false refl

  pub executes : (told : CommittedRow) (h : Admits t pid addr (access_of Execute) told) → access w pid addr Execute ≡ done answer.Ok w
  executes told h = does Execute told h

  -- ---- a write

  module _ (bytes : List ℕ) (told : CommittedRow) (h : Admits t pid addr (access_of (WriteOf bytes)) told) where
    abbrev c : Committed (Unit {0})
    c = h.row

    abbrev at_page : Committed Page
    at_page = committed_with b pid page h.row

    abbrev holder : ProcessOf Page
    holder = process_with b pid h.process

    copies-is : copies at_page (WriteOf bytes) (home_with b pid page c.home) ≡ told.copies
    copies-is = copies-told c bytes c.home ∙ ap (λ (r : CommittedRow). r.copies) h.is_told

    marked-told : (c.row.marked && not (is_own c.home)) ≡ told.copies
    marked-told = ap (λ (r : CommittedRow). r.copies) h.is_told

    pub write-needs : told.copies ≡ false → need_at w pid addr (WriteOf bytes) ≡ Some (touch told.key)
    write-needs stays = needs-by (WriteOf bytes) told h false (copies-is ∙ stays)

    pub copy-needs : told.copies ≡ true → need_at w pid addr (WriteOf bytes) ≡ Some (record { key = told.key; copy = Some (private_key pid page) })
    copy-needs makes = needs-by (WriteOf bytes) told h true (copies-is ∙ makes)

    abbrev stored : Page
    stored = written (b told.key) (addr % page_size) bytes

    watched-told : (is_some c.region.thing.watched && is_own c.home) ≡ told.watched
    watched-told = ap (λ (r : CommittedRow). r.watched) h.is_told

    -- the bytes of the row's key are changed in the write, and no others, and its page is marked
    module _ (after : Tables) (marks : Marks t pid page told after) (new : Key → Page) (spaces : Spaces t) (others : (k : Key) → same_key k told.key ≡ false → new k ≡ b k) (at : new told.key ≡ stored) where
      unwatched : told.watched ≡ false → world_with t new ≡ world_with after new
      unwatched e = ap (λ (v : Tables). world_with v new) (sym (marks.plain e))

      -- the region with the row's new bytes
      abbrev stored_region : RegionOf Page
      stored_region = with_row page (row_with new pid page c.row) at_page.region.thing

      in-own : (u : Unit {0}) → c.row.own ≡ Some u → c.home ≡ Own u → write_to w pid holder at_page page (addr % page_size) bytes (home_with b pid page c.home) ≡ world_with after new
      in-own u own at_home =
          let key-is : private_key pid page ≡ told.key = sym (ap (key_of pid page) at_home) ∙ key-told (WriteOf bytes) told h in
          let row : RowOf Page = record at_page.row { own = Some (written (b (private_key pid page)) (addr % page_size) bytes) } in
          let new_at : new (private_key pid page) ≡ written (b (private_key pid page)) (addr % page_size) bytes = ap new key-is ∙ at ∙ sym (ap (λ (k : Key). written (b k) (addr % page_size) bytes) key-is) in
          let row_is : row_with new pid page c.row ≡ row = λ i. record { prot = c.row.prot; guard = c.row.guard; marked = c.row.marked; own = (ap (option_map (λ u. new (private_key pid page))) own ∙ ap (λ (x : Page). Some x) new_at) i } in
          ap (λ home. write_to w pid holder at_page page (addr % page_size) bytes (home_with b pid page home)) at_home
          ∙ ap (λ (row : RowOf Page). set_region w pid holder at_page.region.place (mark_written true (one_page page) (with_row page row at_page.region.thing))) (sym row_is)
          ∙ by_flags (is_some c.region.thing.watched) refl
        where
          other : (k : Key) → same_key k (private_key pid page) ≡ false → new k ≡ b k
          other k is = others k (ap (same_key k) (sym (sym (ap (key_of pid page) at_home) ∙ key-told (WriteOf bytes) told h)) ∙ is)

          by_flags : (b' : Bool) → is_some c.region.thing.watched ≡ b' → set_region w pid holder at_page.region.place (mark_written true (one_page page) stored_region) ≡ world_with after new
          by_flags true e =
              sym (marked-with b new pid page other t h.process c spaces h.lives h.committed)
              ∙ ap (λ (v : Tables). world_with v new) (sym (marks.watched (sym watched-told ∙ (λ i. e i && is_own (at_home i))) h.process c h.lives h.committed))
          by_flags false e =
              let none : c.region.thing.watched ≡ None = none_of c.region.thing.watched e in
              ap (λ (flags : Option (List Bool)). set_region w pid holder at_page.region.place (record stored_region { watched = flags })) (ap (option_map (change_range (λ was. true) (page - c.region.thing.base) 1)) none ∙ sym none)
              ∙ sym (written-with b new pid page other t h.process c spaces h.lives h.committed)
              ∙ unwatched (sym watched-told ∙ (λ i. e i && is_own c.home))

      in-section : (area i : ℕ) (u : Unit {0}) → told.copies ≡ false → shared_page t area i ≡ Some u → c.home ≡ InSection area i → write_to w pid holder at_page page (addr % page_size) bytes (home_with b pid page c.home) ≡ world_with after new
      in-section area i u stays there at_home =
          let key-is : shared_key area i ≡ told.key = sym (ap (key_of pid page) at_home) ∙ key-told (WriteOf bytes) told h in
          let unmarked : c.row.marked ≡ false = sym (and_true c.row.marked) ∙ sym (ap (λ home. c.row.marked && not (is_own home)) at_home) ∙ marked-told ∙ stays in
          let held : bytes_at_home w (InSection area i) ≡ b told.key = ap (λ home. bytes_at_home w (home_with b pid page home)) (sym at_home) ∙ bytes-told (WriteOf bytes) told h in
          let new_at : new (shared_key area i) ≡ written (bytes_at_home w (InSection area i)) (addr % page_size) bytes = ap new key-is ∙ at ∙ sym (ap (λ (x : Page). written x (addr % page_size) bytes) held) in
          ap (λ home. write_to w pid holder at_page page (addr % page_size) bytes (home_with b pid page home)) at_home
          ∙ ap (λ (m : Bool). cond m (set_row w pid holder at_page.region page (record at_page.row { own = Some (written (bytes_at_home w (InSection area i)) (addr % page_size) bytes); prot = 0x04 })) (set_shared w area i (written (bytes_at_home w (InSection area i)) (addr % page_size) bytes))) unmarked
          ∙ ap (λ (x : Page). set_shared w area i x) (sym new_at)
          ∙ sym (shared-written b new area i (λ k other. others k (ap (same_key k) (sym key-is) ∙ other)) t u there)
          ∙ unwatched (sym watched-told ∙ ap (λ home. is_some c.region.thing.watched && is_own home) at_home ∙ and_false (is_some c.region.thing.watched))

      in-place : told.copies ≡ false → HomeCases t (page - c.region.thing.base) c.region.thing.kind c.row.own c.home → write_to w pid holder at_page page (addr % page_size) bytes (home_with b pid page c.home) ≡ world_with after new
      in-place stays (IsOwn u own at_home) = in-own u own at_home
      in-place stays (IsShared v u is none there at_home) = in-section v.area.0 (v.first + (page - c.region.thing.base)) u stays there at_home

      pub writes : told.copies ≡ false → access w pid addr (WriteOf bytes) ≡ done answer.Ok (world_with after new)
      writes stays = does (WriteOf bytes) told h ∙ ap (λ (v : World). done answer.Ok v) (in-place stays (cases (WriteOf bytes) told h))

    -- the row has bytes of its own from now on, and no others change
    module _ (new : Key → Page) (spaces : Spaces t) (others : (k : Key) → same_key k (private_key pid page) ≡ false → new k ≡ b k) (at : new (private_key pid page) ≡ stored) where
      abbrev own_row : RowOf (Unit {0})
      own_row = record c.row { own = Some tt; prot = 0x04 }

      abbrev after : Tables
      after = set_row t pid h.process c.region page own_row

      to-copy : (area i : ℕ) → told.copies ≡ true → c.home ≡ InSection area i → write_to w pid holder at_page page (addr % page_size) bytes (home_with b pid page c.home) ≡ world_with after new
      to-copy area i makes at_home =
          let marked : c.row.marked ≡ true = sym (and_true c.row.marked) ∙ sym (ap (λ home. c.row.marked && not (is_own home)) at_home) ∙ marked-told ∙ makes in
          let held : bytes_at_home w (InSection area i) ≡ b told.key = ap (λ home. bytes_at_home w (home_with b pid page home)) (sym at_home) ∙ bytes-told (WriteOf bytes) told h in
          let row : RowOf Page = record at_page.row { own = Some (written (bytes_at_home w (InSection area i)) (addr % page_size) bytes); prot = 0x04 } in
          let row_is : row_with new pid page own_row ≡ row = λ j. record { prot = 0x04; guard = c.row.guard; marked = c.row.marked; own = Some ((at ∙ sym (ap (λ (x : Page). written x (addr % page_size) bytes) held)) j) } in
          ap (λ home. write_to w pid holder at_page page (addr % page_size) bytes (home_with b pid page home)) at_home
          ∙ ap (λ (m : Bool). cond m (set_row w pid holder at_page.region page (record at_page.row { own = Some (written (bytes_at_home w (InSection area i)) (addr % page_size) bytes); prot = 0x04 })) (set_shared w area i (written (bytes_at_home w (InSection area i)) (addr % page_size) bytes))) marked
          ∙ ap (λ (row : RowOf Page). set_row w pid holder at_page.region page row) (sym row_is)
          ∙ sym (copied-with b new pid page others t h.process c own_row spaces h.lives h.committed)

      copied : told.copies ≡ true → HomeCases t (page - c.region.thing.base) c.region.thing.kind c.row.own c.home → write_to w pid holder at_page page (addr % page_size) bytes (home_with b pid page c.home) ≡ world_with after new
      copied makes (IsShared v u is none there at_home) = to-copy v.area.0 (v.first + (page - c.region.thing.base)) makes at_home
      copied makes (IsOwn u own at_home) =
          let never : false ≡ true = sym (and_false c.row.marked) ∙ sym (ap (λ home. c.row.marked && not (is_own home)) at_home) ∙ marked-told ∙ makes in cc

      pub copies-write : told.copies ≡ true → access w pid addr (WriteOf bytes) ≡ done answer.Ok (world_with after new)
      copies-write makes = does (WriteOf bytes) told h ∙ ap (λ (v : World). done answer.Ok v) (copied makes (cases (WriteOf bytes) told h))

-- a page that was marked makes nothing
pub made-marks : (t : Tables) (n pid addr : ℕ) (form : Access) (told : CommittedRow) → Admits t pid addr form told → (after : Tables) → Marks t pid (page_of addr) told after → MadeAtMost n t → MadeAtMost n after
made-marks t n pid addr form told h after marks few = by_flags told.watched refl
  where
    by_flags : (b : Bool) → told.watched ≡ b → MadeAtMost n after
    by_flags true e = subst (λ (v : Tables). MadeAtMost n v) (sym (marks.watched e h.process h.row h.lives h.committed)) (made-set_region t n pid h.row.region.place h.process _ h.lives few)
    by_flags false e = subst (λ (v : Tables). MadeAtMost n v) (sym (marks.plain e)) few

-- a page that a write copies: its row is marked, and its bytes stand in a section
pub record IsCopying (c : Committed (Unit {0})) : Type 0 where
  pub view : View
  pub is : c.region.thing.kind ≡ kind.View view
  pub none : c.row.own ≡ None
  pub marked : c.row.marked ≡ true

pub is-copying : (t : Tables) (pid page : ℕ) (p : ProcessOf (Unit {0})) (c : Committed (Unit {0})) → committed_at t p.regions page ≡ Some c → (c.row.marked && not (is_own c.home)) ≡ true → IsCopying c
is-copying t pid page p c committed e =
    let h = committed_is t p.regions page c committed in
    by_home (home_cases t (page - c.region.thing.base) c.region.thing.kind c.row.own c.home h.home_there)
  where
    by_home : HomeCases t (page - c.region.thing.base) c.region.thing.kind c.row.own c.home → IsCopying c
    by_home (IsShared v u is none there at_home) = record { view = v; is = is; none = none; marked = (parts c.row.marked (not (is_own c.home)) e).0 }
    by_home (IsOwn u own at_home) =
        let never : false ≡ true = sym (and_false c.row.marked) ∙ sym (ap (λ home. c.row.marked && not (is_own home)) at_home) ∙ e in cc

-- ---- what an access asks of a row that was admitted

pub is-begun : {n : ℕ} {s m : StoreOf} → LineBegins n s m → IsBegun m.report
is-begun b =
    record {
      no_failed_read = ap (λ (r : Report). r.last_failed_read) b.report_is;
      no_failed_write = ap (λ (r : Report). r.search_writes) b.report_is;
    }

-- admitting it left the tables as they were
pub can-access : {G : Type 0} (p : PageStoreGhosts G) (kind : Access) (t after : Tables) (pid : Pid) (addr : ℕ) (row : CommittedRow) (need : Need) (g : G) → after ≡ t → KeepsOver p t g → Spaces t → Admits t pid.0 addr kind row → key_at t (place_at pid (page_of addr)) ≡ Some row.key → MayAccess (p.store g) (place_at pid (page_of addr)) need → IsBegun (p.store g).report → CanAccess p kind after pid addr row need g
can-access p kind t after pid addr row need g same keeps spaces admitted at may begun =
    subst (λ (v : Tables). CanAccess p kind v pid addr row need g) (sym same) assumption

-- the same for a thread, once the store has what it needs
pub can-go-on : {G : Type 0} (p : PageStoreGhosts G) (kind : Access) (t after : Tables) (pid : Pid) (addr : ℕ) (row : CommittedRow) (need : Need) (g h : G) → after ≡ t → CanTurn p t pid g → Spaces t → Admits t pid.0 addr kind row → key_at t (place_at pid (page_of addr)) ≡ Some row.key → p.store h ≡ started (p.store g) (p.store h) → KeepsOver p t h → IsReady (p.store h) (place_at pid (page_of addr)) need → CanAccess p kind after pid addr row need h
can-go-on p kind t after pid addr row need g h same can spaces admitted at e keeps ready =
    can-access p kind t after pid addr row need h same keeps spaces admitted at (inr (ap (λ (s : StoreOf). s.kind) e ∙ can.form, ready))
    (record {
      no_failed_read = ap (λ (s : StoreOf). s.report.last_failed_read) e ∙ can.begun.no_failed_read;
      no_failed_write = ap (λ (s : StoreOf). s.report.search_writes) e ∙ can.begun.no_failed_write;
    })

-- what a permitted access needs, by its kind
pub needs-of : (t : Tables) (b : Key → Page) (pid : Pid) (addr : ℕ) (what : Attempt) (kind : Access) (row : CommittedRow) → access_of what ≡ kind → Admits t pid.0 addr kind row → need_at (world_with t b) pid.0 addr what ≡ Some (row_need kind row (place_at pid (page_of addr)))
needs-of t b pid addr what kind row is h =
    subst (λ (k : Access). Admits t pid.0 addr k row → need_at (world_with t b) pid.0 addr what ≡ Some (row_need k row (place_at pid (page_of addr)))) is (by_form what) h
  where
    by_copies : (bytes : List ℕ) (h : Admits t pid.0 addr access_kind.Write row) (x : Bool) → row.copies ≡ x → need_at (world_with t b) pid.0 addr (WriteOf bytes) ≡ Some (cond x (copying row.key (place_at pid (page_of addr))) (touch row.key))
    by_copies bytes h true e = copy-needs t b pid.0 addr bytes row h e
    by_copies bytes h false e = write-needs t b pid.0 addr bytes row h e

    by_form : (what : Attempt) → Admits t pid.0 addr (access_of what) row → need_at (world_with t b) pid.0 addr what ≡ Some (row_need (access_of what) row (place_at pid (page_of addr)))
    by_form (ReadOf len) h = read-needs t b pid.0 addr len row h
    by_form (WriteOf bytes) h = by_copies bytes h row.copies refl
    by_form Execute h = execute-needs t b pid.0 addr row h

-- its key is the row's
pub need-key : (kind : Access) (row : CommittedRow) (place : Place) → (row_need kind row place).key ≡ row.key
need-key access_kind.Read row place = refl
need-key access_kind.Write row place = by_copies row.copies
  where
    by_copies : (x : Bool) → (let n : Need = cond x (copying row.key place) (touch row.key) in n.key) ≡ row.key
    by_copies true = refl
    by_copies false = refl
need-key access_kind.Execute row place = refl
