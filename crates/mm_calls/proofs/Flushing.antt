-- Pages of a file are flushed one after another: their keys, what their blocks hold, and the moves.
use Rattle.std.proofs.Common.{◌≡◌, ◌≤◌, ◌+◌, ◌-◌, ℕ, zero, suc, Bool, true, false, Option, Some, None, [], ◌∷◌, refl, sym, ◌∙◌, ap, cond, arith, length, is_some, map, option_map, unwrap_or, ◌≢◌, ◌<◌, List, slice_get, count_by, get_or, ◌++◌, subst, append_assoc}
use Rattle.std.specs.Prelude.{◌==◌, option_and_then}
use Rattle.std.proofs.Math.Decide.{dec_le}
use Rattle.std.proofs.lemmas.List.Sums.{sum_by-cons, count_by-le-length}
use Rattle.std.proofs.lemmas.List.{append-nil}
use Rattle.mm_types.specs.{Kind, View, Range, page_of, range_of, end_of, Answer, Key, Block, Move}
use Rattle.mm_types.specs.declared.views.Kind.TheVariants as kind
use Rattle.mm_types.specs.declared.answers.Answer.TheVariants as answer
use Rattle.mm_move_rules.specs.{numbers_from, FrameLife, after_move, Replays}
use Rattle.mm_devices.specs.{CallFailed}
use Rattle.mm_devices.proofs.{all_served_later, failed_later}
use Rattle.mm_world.specs.{RegionOf, ProcessOf, pages_of, Found, process_of, area_at, Tables, shared_key, flushed_view, flushed_range, Page}
use Rattle.mm_store.specs.{Ghosts as PageStoreGhosts, Served, wrote, StoreOf, FlushedAt, ends_lost, life_through, ByMoves, FlushesPage, Flushes, PassesIn}
use Rattle.mm_store.specs.{Turns, MakesFrom}
use Rattle.mm_sections.specs.{number_of_block}
use Rattle.mm_store.proofs.{served_none, served_then, Joins, passes_then, moved_then, turns_same}
use Rattle.mm_store.specs.Behind.{Behind}
use Rattle.mm_store.specs.Flushing.{Flushing}
use Rattle.mm_store.proofs.Passed as passed
use Rattle.mm_object_tables.proofs.{one_if, fits_wrote}
use Rattle.mm_object_tables.specs.{FitsTables, IsTidy}
use Rattle.mm_calls.specs.{keys_from, keys_of_region, keys_of_flush, AnswersFlush, FlushesBlocks, AreHeld, InBlocks}
use Rattle.mm_calls.proofs.Around.{mapped}

keys_mapped : (area vfirst base first n : ℕ) → base ≤ first → map (λ page. shared_key area (vfirst + (page - base))) (numbers_from first n) ≡ keys_from area (vfirst + (first - base)) n
keys_mapped area vfirst base first zero low = refl
keys_mapped area vfirst base first (suc n) low =
    let next : vfirst + (first + 1 - base) ≡ vfirst + (first - base) + 1 = omega (arith, low) in
    ap (λ ks. shared_key area (vfirst + (first - base)) ∷ ks) (keys_mapped area vfirst base (first + 1) n (omega (arith, low)) ∙ ap (λ (k : ℕ). keys_from area k n) next)

first_is : (b : Bool) (r : RegionOf (Unit {0})) (addr size : ℕ) → (let whole : Range = record { first = page_of addr; count = end_of (pages_of r) - page_of addr } in (cond b whole (range_of addr size)).first) ≡ page_of addr
first_is true r addr size = refl
first_is false r addr size = refl

count_is : (b : Bool) (r : RegionOf (Unit {0})) (addr size before first count meant : ℕ) → first ≡ r.base → count ≡ length r.rows → before ≡ page_of addr - first → first ≤ page_of addr → meant ≡ (range_of addr (cond b 1 size)).count → cond b (count - before) meant ≡ (let whole : Range = record { first = page_of addr; count = end_of (pages_of r) - page_of addr } in (cond b whole (range_of addr size)).count)
count_is true r addr size before first count meant base rows is low range = omega (arith, base, rows, is, low)
count_is false r addr size before first count meant base rows is low range = range

-- how many pages are flushed
pub flushed_count_is : (r : RegionOf (Unit {0})) (addr size before first count meant : ℕ) → first ≡ r.base → count ≡ length r.rows → before ≡ page_of addr - first → first ≤ page_of addr → meant ≡ (range_of addr (cond (size == 0) 1 size)).count → cond (size == 0) (count - before) meant ≡ (flushed_range r addr size).count
flushed_count_is r addr size before first count meant base rows is low range = count_is (size == 0) r addr size before first count meant base rows is low range

-- the keys of the region that is found
pub flushed_are : (t : Tables) (pid : ℕ) (p : ProcessOf (Unit {0})) (addr size : ℕ) (r : Found (RegionOf (Unit {0}))) (v : View) (before count : ℕ) → process_of t pid ≡ Some p → flushed_view p.regions addr size ≡ Some r → r.thing.kind ≡ kind.View v → r.thing.base ≤ page_of addr → before ≡ page_of addr - r.thing.base → count ≡ (flushed_range r.thing addr size).count → cond (is_some (area_at t v.area.0).file_block) (keys_from v.area.0 (v.first + before) count) [] ≡ keys_of_flush t pid addr size
flushed_are t pid p addr size r v before count lives found is low begins counts =
    let range = flushed_range r.thing addr size in
    let first : range.first ≡ page_of addr = first_is (size == 0) r.thing addr size in
    let keys : map (λ page. shared_key v.area.0 (v.first + (page - r.thing.base))) (numbers_from range.first range.count) ≡ keys_from v.area.0 (v.first + before) count =
    keys_mapped v.area.0 v.first r.thing.base range.first range.count (omega (arith, first, low))
    ∙ ap (λ (k : ℕ). keys_from v.area.0 k range.count) (let same : v.first + (range.first - r.thing.base) ≡ v.first + before = omega (arith, first, begins) in same)
    ∙ ap (keys_from v.area.0 (v.first + before)) (sym counts) in
    sym (
    ap (λ (o : Option (ProcessOf (Unit {0}))). unwrap_or (option_and_then (λ (p : ProcessOf (Unit {0})). option_map (λ (r : Found (RegionOf (Unit {0}))). keys_of_region t addr size r.thing.kind r.thing) (flushed_view p.regions addr size)) o) []) lives
    ∙ ap (λ (o : Option (Found (RegionOf (Unit {0})))). unwrap_or (option_map (λ (r : Found (RegionOf (Unit {0}))). keys_of_region t addr size r.thing.kind r.thing) o) []) found
    ∙ ap (λ (k : Kind). keys_of_region t addr size k r.thing) is
    ∙ ap (λ ks. cond (is_some (area_at t v.area.0).file_block) ks []) keys
    )

-- where there is no process, or no such view, there are none
pub no_process : (t : Tables) (pid addr size : ℕ) → is_some (process_of t pid) ≡ false → [] ≡ keys_of_flush t pid addr size
no_process t pid addr size none = by_process (process_of t pid) none
  where
    by_process : (o : Option (ProcessOf (Unit {0}))) → is_some o ≡ false → [] ≡ unwrap_or (option_and_then (λ (p : ProcessOf (Unit {0})). option_map (λ (r : Found (RegionOf (Unit {0}))). keys_of_region t addr size r.thing.kind r.thing) (flushed_view p.regions addr size)) o) []
    by_process None none = refl
    by_process (Some p) none = cc

pub no_view : (t : Tables) (pid : ℕ) (p : ProcessOf (Unit {0})) (addr size : ℕ) → process_of t pid ≡ Some p → flushed_view p.regions addr size ≡ None → [] ≡ keys_of_flush t pid addr size
no_view t pid p addr size lives none =
    sym (
    ap (λ (o : Option (ProcessOf (Unit {0}))). unwrap_or (option_and_then (λ (p : ProcessOf (Unit {0})). option_map (λ (r : Found (RegionOf (Unit {0}))). keys_of_region t addr size r.thing.kind r.thing) (flushed_view p.regions addr size)) o) []) lives
    ∙ ap (λ (o : Option (Found (RegionOf (Unit {0})))). unwrap_or (option_map (λ (r : Found (RegionOf (Unit {0}))). keys_of_region t addr size r.thing.kind r.thing) o) []) none
    )

-- ---- pages of a file are flushed one after another

-- ---- one page after another

-- `n` pages of an area from the index `first` on were flushed
pub record FlushedTo (c d : Key → Option Page) (s z : StoreOf) (area first n : ℕ) : Type 0 where
  pub store : z ≡ wrote s z
  pub contents : d ≡ c
  pub held : AreHeld s.block_of c z.file_blocks area first n
  pub served : Served s z
  pub stored : length z.file_blocks ≡ length s.file_blocks
  pub quiet : z.report.file_writes.failed ≡ s.report.file_writes.failed

pub flushed_none : (c : Key → Option Page) (s : StoreOf) (area first : ℕ) → FlushedTo c c s s area first 0
flushed_none c s area first =
    record {
      store = refl;
      contents = refl;
      held = λ index block low high at. absurd (omega (arith, low, high));
      served = served_none s;
      stored = refl;
      quiet = refl;
    }

pub wrote_then : (s z y : StoreOf) → z ≡ wrote s z → y ≡ wrote z y → y ≡ wrote s y
wrote_then s z y h k = k ∙ ap (λ (x : StoreOf). wrote x y) h

-- what a flush of a page does
pub record FlushedPage (d e : Key → Option Page) (z y : StoreOf) (key : Key) : Type 0 where
  pub store : y ≡ wrote z y
  pub contents : e ≡ d
  pub holds : (block : ℕ) → z.block_of key ≡ Some block → slice_get y.file_blocks block ≡ d key
  pub others : (block other : ℕ) → z.block_of key ≡ Some block → other ≢ block → slice_get y.file_blocks other ≡ slice_get z.file_blocks other
  pub served : Served z y
  pub stored : length y.file_blocks ≡ length z.file_blocks
  pub quiet : y.report.file_writes.failed ≡ z.report.file_writes.failed

module _ (c d e : Key → Option Page) (s z y : StoreOf) (area first n count block : ℕ) (before : FlushedTo c d s z area first n) (blocks : InBlocks s.block_of area first count block) (few : n < count) where
  same_blocks : z.block_of ≡ s.block_of
  same_blocks = ap (λ (x : StoreOf). x.block_of) before.store

  pub next_block : z.block_of (shared_key area (first + n)) ≡ Some (block + (first + n))
  next_block = ap (λ f. f (shared_key area (first + n))) same_blocks ∙ blocks.at (first + n) (omega arith) (omega (arith, few))

  held_next : FlushedPage d e z y (shared_key area (first + n)) → (index b : ℕ) → first ≤ index → index < first + (n + 1) → s.block_of (shared_key area index) ≡ Some b → slice_get y.file_blocks b ≡ c (shared_key area index)
  held_next h index b low high at =
      let here : Some b ≡ Some (block + index) = sym at ∙ blocks.at index low (omega (arith, high, few)) in
      let number : b ≡ block + index = cc in
      elim (dec_le (first + n) index) [
        | yes last ↦
            let same : index ≡ first + n = omega (arith, last, high) in
            ap (slice_get y.file_blocks) (omega (arith, number, same))
            ∙ h.holds (block + (first + n)) next_block ∙ ap (λ (k : ℕ). d (shared_key area k)) (sym same) ∙ ap (λ f. f (shared_key area index)) before.contents
        | no earlier ↦
            h.others (block + (first + n)) b next_block (λ e. absurd (omega (arith, earlier, e, number)))
            ∙ before.held index b low (omega (arith, earlier)) at
      ]

  pub flushed_more : FlushedPage d e z y (shared_key area (first + n)) → FlushedTo c e s y area first (n + 1)
  flushed_more h =
      record {
        store = wrote_then s z y before.store h.store;
        contents = h.contents ∙ before.contents;
        held = held_next h;
        served = served_then s z y before.served h.served;
        stored = h.stored ∙ before.stored;
        quiet = h.quiet ∙ before.quiet;
      }

-- a failure blames the device since the first page
pub blamed_since : (s z y : StoreOf) → Served s z → CallFailed z.file_device y.file_device → CallFailed s.file_device y.file_device
blamed_since s z y h failed = failed_later s.file_device z.file_device y.file_device (all_served_later h.file_calls s.file_device z.file_device h.files) failed

-- ---- a store that was only written to

-- a flush is answered, with the failure that it is blamed on
pub answers_flushed : {G : Type 0} (p : PageStoreGhosts G) {t : Tables} {g h : G} → FitsTables t (p.contents g) (p.store g) → FlushesBlocks p g h → (a : Answer) → (a ≡ answer.Fault → CallFailed (p.store g).file_device (p.store h).file_device) → AnswersFlush p t a g h
answers_flushed p {t = t} {g = g} {h = h} fits e a blamed =
    assumption (fits_wrote t (p.contents g) (p.contents h) (p.store g) (p.store h) fits e.contents e.store e.stored e.served, blamed, e)

-- ---- a file's pages have blocks in a row

all_there : (pages : List (Option (Unit {0}))) (index : ℕ) → count_by is_some pages ≡ length pages → index < length pages → is_some (get_or pages index None) ≡ true
all_there [] index all h = absurd (omega (arith, h))
all_there (None ∷ pages) index all h =
    absurd (omega (arith, all, sum_by-cons (λ (page : Option (Unit {0})). one_if (is_some page)) None pages, count_by-le-length (λ (page : Option (Unit {0})). is_some page) pages))
all_there (Some x ∷ pages) zero all h = refl
all_there (Some x ∷ pages) (suc index) all h =
    all_there pages index (omega (arith, all, sum_by-cons (λ (page : Option (Unit {0})). one_if (is_some page)) (Some x) pages)) (omega (arith, h))

pub in_blocks : (t : Tables) (c : Key → Option Page) (s : StoreOf) (area first count block : ℕ) → FitsTables t c s → IsTidy t → (area_at t area).file_block ≡ Some block → first + count ≤ length (area_at t area).pages → InBlocks s.block_of area first count block
in_blocks t c s area first count block f tidy file inside =
    record {
      at = λ index low high.
          let there = all_there (area_at t area).pages index (tidy.files area block file).committed (omega (arith, high, inside)) in
          f.blocks (shared_key area index)
          ∙ ap (λ b. cond b (option_map (λ n. n + index) (area_at t area).file_block) None) there ∙ ap (λ o. option_map (λ n. n + index) o) file;
    }

pub block_told : (o : Option ℕ) (b : Block) → option_map number_of_block o ≡ Some b → o ≡ Some b.0
block_told o b e = let m = mapped number_of_block o b e in m.1.0 ∙ ap (λ (b : Block). Some b.0) m.1.1

pub block_none : (o : Option ℕ) → option_map number_of_block o ≡ None → is_some o ≡ false
block_none None e = refl
block_none (Some n) e = cc

-- ---- the moves of pages that are flushed one after another

-- ---- pages one after another

-- the pages of these keys were flushed, and no write failed
abbrev pub Flushed : FrameLife → List Key → List Move → Type 0
Flushed l [] ms = ms ≡ []
Flushed l (k ∷ ks) ms =
    (front : List Move) × ((behind : List Move) × ((ms ≡ front ++ behind) × FlushedAt l (l.stands k) front × (ends_lost front ≡ false) × Flushed (life_through l front) ks behind))

replays_behind : (xs ys : List Move) (l m : FrameLife) → Replays (xs ++ ys) l m → Replays ys (life_through l xs) m
replays_behind [] ys l m r = r
replays_behind (x ∷ xs) ys l m r = replays_behind xs ys (after_move l x) m r.1

flushed_then : (l m : FrameLife) (ks js : List Key) (ms ns : List Move) → Replays ms l m → Flushed l ks ms → Flushed m js ns → Flushed l (ks ++ js) (ms ++ ns)
flushed_then l m [] js ms ns r p q =
    subst (λ ms. Flushed l js (ms ++ ns)) (sym p) (subst (λ (x : FrameLife). Flushed x js ns) (subst (λ ms. Replays ms l m) p r) q)
flushed_then l m (k ∷ ks) js ms ns r p q =
    let rest = replays_behind p.0 p.1.0 l m (subst (λ ms. Replays ms l m) p.1.1.0 r) in
    (p.0, (p.1.0 ++ ns, (ap (λ xs. xs ++ ns) p.1.1.0 ∙ append_assoc p.0 p.1.0 ns, p.1.1.1, p.1.1.2, flushed_then (life_through l p.0) m ks js p.1.0 ns rest p.1.1.3 q)))

flushing_then : (l m : FrameLife) (ks js : List Key) (ms ns : List Move) → Replays ms l m → Flushed l ks ms → Flushing m js ns → Flushing l (ks ++ js) (ms ++ ns)
flushing_then l m [] js ms ns r p q =
    subst (λ ms. Flushing l js (ms ++ ns)) (sym p) (subst (λ (x : FrameLife). Flushing x js ns) (subst (λ ms. Replays ms l m) p r) q)
flushing_then l m (k ∷ ks) js ms ns r p q = (
  p.0,
  (
    p.1.0 ++ ns,
    (
      ap (λ xs. xs ++ ns) p.1.1.0 ∙ append_assoc p.0 p.1.0 ns,
      p.1.1.1,
      (λ lost. let bad : true ≡ false = sym lost ∙ p.1.1.2 in cc),
      (λ ok. flushing_then (life_through l p.0) m ks js p.1.0 ns (replays_behind p.0 p.1.0 l m (subst (λ ms. Replays ms l m) p.1.1.0 r)) p.1.1.3 q),
    ),
  ),
)

-- the pages behind one whose write failed are flushed no more
flushing_last : (l : FrameLife) (k : Key) (ks : List Key) (ms : List Move) → FlushedAt l (l.stands k) ms → ends_lost ms ≡ true → Flushing l (k ∷ ks) ms
flushing_last l k ks ms p lost = (ms, ([], (sym (append-nil ms), p, (λ was. refl), (λ ok. let bad : true ≡ false = sym lost ∙ ok in cc))))

flushed_one : (l : FrameLife) (k : Key) (ms : List Move) → FlushedAt l (l.stands k) ms → ends_lost ms ≡ false → Flushed l (k ∷ []) ms
flushed_one l k ms p ok = (ms, ([], (sym (append-nil ms), p, ok, refl)))

flushing_all : (l : FrameLife) (ks : List Key) (ms : List Move) → Flushed l ks ms → Flushing l ks ms
flushing_all l [] ms p = p
flushing_all l (k ∷ ks) ms p = (p.0, (p.1.0, (p.1.1.0, p.1.1.1, (λ lost. let bad : true ≡ false = sym lost ∙ p.1.1.2 in cc), (λ ok. flushing_all (life_through l p.0) ks p.1.0 p.1.1.3))))

-- ---- calls of a store, one after another

pub record WereFlushed (keys : List Key) (b : Behind) (moves : List Move) (c : Behind) : Type 0 where
  pub pages : Flushed b.life keys moves
  pub moved : ByMoves b moves c
  pub slots : c.slots ≡ b.slots

-- a page behind those that were flushed: its write was made
more_join : (ks : List Key) (k : Key) → Joins (WereFlushed ks) (FlushesPage k true) (WereFlushed (ks ++ k ∷ []))
more_join ks k = record {
  join = λ b c d xs ys r p q. record {
    pages = flushed_then b.life c.life ks (k ∷ []) xs ys r p.pages (flushed_one c.life k ys q.page q.ends);
    moved = moved_then b c d xs ys p.moved q.moved;
    slots = q.slots ∙ p.slots;
  };
}

-- or it failed
last_join : (ks : List Key) (k : Key) (js : List Key) → Joins (WereFlushed ks) (FlushesPage k false) (Flushes (ks ++ k ∷ js))
last_join ks k js = record {
  join = λ b c d xs ys r p q. record {
    pages = flushing_then b.life c.life ks (k ∷ js) xs ys r p.pages (flushing_last c.life k js ys q.page q.ends);
    moved = moved_then b c d xs ys p.moved q.moved;
    slots = q.slots ∙ p.slots;
  };
}

-- no page: a call that makes none, twice
were_none : (u : Bool) (s : StoreOf) (b : Behind) → PassesIn u (WereFlushed []) s s b b
were_none u s b =
    let none = MakesFrom 0 0 in
    passes_then u (Turns none) (Turns none) (WereFlushed []) s s s b b b
    (record {
      join = λ b c d xs ys r p q. record {
        pages = (λ i. passed.none_made b.life xs p.turned i ++ passed.none_made c.life ys q.turned i);
        moved = moved_then b c d xs ys p.moved q.moved;
        slots = q.slots ∙ p.slots;
      };
    }) (turns_same u none s b) (turns_same u none s b)

-- all of them, and none behind
were_all : (u : Bool) (ks : List Key) (s z : StoreOf) (b c : Behind) → PassesIn u (WereFlushed ks) s z b c → PassesIn u (Flushes ks) s z b c
were_all u ks s z b c p =
    passes_then u (WereFlushed ks) (WereFlushed []) (Flushes ks) s z z b c c
    (record {
      join = λ b c d xs ys r p q. record {
        pages = subst (λ zs. Flushing b.life ks (xs ++ zs)) (sym q.pages) (subst (Flushing b.life ks) (sym (append-nil xs)) (flushing_all b.life ks xs p.pages));
        moved = moved_then b c d xs ys p.moved q.moved;
        slots = q.slots ∙ p.slots;
      };
    }) p (were_none u z c)

-- ---- the pages of an area

keys_more : (area first n : ℕ) → keys_from area first n ++ shared_key area (first + n) ∷ [] ≡ keys_from area first (suc n)
keys_more area first zero = ap (λ (k : ℕ). shared_key area k ∷ []) (let same : first + 0 ≡ first = omega arith in same)
keys_more area first (suc n) =
    ap (λ ks. shared_key area first ∷ ks)
    (ap (λ (k : ℕ). keys_from area (first + 1) n ++ shared_key area k ∷ []) (let same : first + suc n ≡ first + 1 + n = omega arith in same) ∙ keys_more area (first + 1) n)

keys_split : (area first n m : ℕ) → keys_from area first n ++ keys_from area (first + n) m ≡ keys_from area first (n + m)
keys_split area first zero m =
    let here : first + 0 ≡ first = omega arith in
    let same : m ≡ 0 + m = omega arith in
    ap (λ (k : ℕ). keys_from area k m) here ∙ ap (keys_from area first) same
keys_split area first (suc n) m =
    let here : first + suc n ≡ first + 1 + n = omega arith in
    let same : suc (n + m) ≡ suc n + m = omega arith in
    ap (λ ks. shared_key area first ∷ ks) (ap (λ (k : ℕ). keys_from area (first + 1) n ++ keys_from area k m) here ∙ keys_split area (first + 1) n m)
    ∙ ap (keys_from area first) same

pub flushes_none : (u : Bool) (s : StoreOf) (b : Behind) → PassesIn u (Flushes []) s s b b
flushes_none u s b = were_all u [] s s b b (were_none u s b)

pub loop_none : (u : Bool) (area first : ℕ) (s : StoreOf) (b : Behind) → PassesIn u (WereFlushed (keys_from area first 0)) s s b b
loop_none u area first s b = were_none u s b

pub loop_more : (u : Bool) (area first n : ℕ) (s y z : StoreOf) (b c d : Behind) → PassesIn u (WereFlushed (keys_from area first n)) s y b c → PassesIn u (FlushesPage (shared_key area (first + n)) true) y z c d → PassesIn u (WereFlushed (keys_from area first (n + 1))) s z b d
loop_more u area first n s y z b c d p q =
    let more : suc n ≡ n + 1 = omega arith in
    let k = shared_key area (first + n) in
    subst (λ ks. PassesIn u (WereFlushed ks) s z b d) (keys_more area first n ∙ ap (keys_from area first) more)
    (passes_then u (WereFlushed (keys_from area first n)) (FlushesPage k true) (WereFlushed (keys_from area first n ++ k ∷ [])) s y z b c d (more_join (keys_from area first n) k) p q)

pub loop_all : (u : Bool) (area first n count : ℕ) (s z : StoreOf) (b c : Behind) → n ≡ count → PassesIn u (WereFlushed (keys_from area first n)) s z b c → PassesIn u (Flushes (keys_from area first count)) s z b c
loop_all u area first n count s z b c all p = subst (λ (n : ℕ). PassesIn u (Flushes (keys_from area first n)) s z b c) all (were_all u (keys_from area first n) s z b c p)

pub loop_ended : (u : Bool) (area first n count : ℕ) (s y z : StoreOf) (b c d : Behind) → n < count → PassesIn u (WereFlushed (keys_from area first n)) s y b c → PassesIn u (FlushesPage (shared_key area (first + n)) false) y z c d → PassesIn u (Flushes (keys_from area first count)) s z b d
loop_ended u area first n count s y z b c d few p q =
    let k = shared_key area (first + n) in
    let rest = keys_from area (first + n + 1) (count - n - 1) in
    let all : n + suc (count - n - 1) ≡ count = omega (arith, few) in
    subst (λ ks. PassesIn u (Flushes ks) s z b d) (keys_split area first n (suc (count - n - 1)) ∙ ap (keys_from area first) all)
    (passes_then u (WereFlushed (keys_from area first n)) (FlushesPage k false) (Flushes (keys_from area first n ++ k ∷ rest)) s y z b c d (last_join (keys_from area first n) k rest) p q)
