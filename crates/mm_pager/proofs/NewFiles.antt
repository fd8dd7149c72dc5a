-- A file that is made: its blocks are written, and its pages come to be.
use Rattle.std.proofs.Common.{◌≡◌, ◌≢◌, ℕ, zero, suc, ◌+◌, ◌%◌, ◌≤◌, ◌<◌, Bool, true, false, List, [], ◌∷◌, ◌++◌, length, length-set, replicate, Option, Some, refl, sym, ap, ◌∙◌, subst, arith, inl, inr, ◌⊎◌}
use Rattle.std.proofs.lemmas.Bool.{eqb-true}
use Rattle.std.specs.Cmp.{unsigned_Decides}
use Rattle.std.specs.Prelude.{◌&&◌, ◌==◌, ◌^◌, nat_lt, if◌then◌else◌, map, slice_get, slice_set, Ok}
use Rattle.mm_types.specs.declared.devices.Direction.TheVariants as way
use Rattle.mm_types.specs.{MakeFault, Held, Move, Area, Key, limit_of}
use Rattle.mm_types.specs.declared.faults.MakeFault.TheVariants as make_fault
use Rattle.mm_types.specs.declared.frames.Held.TheVariants as held
use Rattle.mm_types.specs.declared.frames.Backing.TheVariants as backing
use Rattle.mm_types.specs.declared.moves.Move.TheVariants as move
use Rattle.mm_types.specs.declared.numbers.Key.TheVariants.{Private, Shared}
use Rattle.mm_types.proofs.{append_nil, less, same_or_not, get_set_same, get_set_other, none_below}
use Rattle.mm_devices.specs.{DeviceCall, DeviceOf, Call, AllServed, logged_call, KeepsOthers, is_next_named}
use Rattle.mm_devices.proofs.{all_served_then, all_served_one, map-logged, later_same, later_then, serves_later, serves_failed, failed_later}
use Rattle.mm_devices.proofs.{keeps_same, keeps_then, keeps_written}
use Rattle.mm_move_rules.specs.{FrameLife, changed, counts_of, same_key, wait_of}
use Rattle.mm_world.specs.{filled}
use Rattle.mm_store.specs.Behind.{Behind}
use Rattle.mm_store.specs.{Turns, Makes, NewFile, Notes, writes_from, Served, backed_by, block_at, where_of, with_blocks, with_file, with_write, wrote}
use Rattle.mm_store.specs.Told.{Told}
use Rattle.mm_store.proofs.{made_behind, made_wider, turned_none, tallied_then, served_nothing, served_writes}
use Rattle.mm_state_calls.specs.{StateOf, Made, DeviceCalled, moved, written_if}
use Rattle.mm_state_calls.proofs.{does_one, does_then, does_nothing}
use Rattle.mm_pager.specs.{BlocksWritten, CallsWritten, PagesAdded, with_pages, with_area, FileBuilt, UnmadeAs, OwnOf, store_of, behind_of}
use Rattle.mm_reclaim.proofs.{one_some}

-- ---- blocks are written

abbrev one_write : Bool → ℕ → DeviceCall
one_write ok b = record { direction = way.Write; block = b; succeeded = ok }

writes-suc : (first n : ℕ) → writes_from first (suc n) ≡ writes_from first n ++ one_write true (first + n) ∷ []
writes-suc first zero = let e : first ≡ first + 0 = omega arith in ap (λ (b : ℕ). one_write true b ∷ []) e
writes-suc first (suc n) =
    let e : (first + 1) + n ≡ first + suc n = omega arith in
    ap (λ (cs : List DeviceCall). one_write true first ∷ cs) (writes-suc (first + 1) n ∙ ap (λ (b : ℕ). writes_from (first + 1) n ++ one_write true b ∷ []) e)

writes-more : (first n : ℕ) → writes_from first (n + 1) ≡ writes_from first n ++ one_write true (first + n) ∷ []
writes-more first n = let e : n + 1 ≡ suc n = omega arith in ap (writes_from first) e ∙ writes-suc first n

filled_is : (b : ℕ) → replicate 4096 b ≡ filled b
unfolding filled
filled_is b = refl

pub blocks_none : (first byte : ℕ) (s : StateOf) → BlocksWritten first 0 byte true s s
blocks_none first byte s = record {
  whole = 0;
  calls = [];
  tells = record { served = refl; none_read = λ t. refl; told = refl; rest = refl; later = later_same s.files s.files refl; kept = keeps_same [] s.blocks s.blocks refl };
  are = refl;
  all = λ e. refl;
  some = λ e. cc;
  written = λ e i h. absurd (omega (arith, h));
  others = λ block h. refl;
  long = refl;
  quiet = λ e. refl;
  failed = λ e. cc;
  blamed = λ e. cc;
}

-- the call of the device that writes a block
abbrev call_for : StateOf → ℕ → Bool → Call
call_for y b ok = record { way = way.Write; block = b; succeeded = ok; named = is_next_named way.Write y.files.named }

-- what the write of one block does
pub record OneWritten (b byte : ℕ) (ok : Bool) (y z : StateOf) : Type 0 where
  pub called : DeviceCalled way.Write (backing.Block (record { 0 = b })) ok y z
  pub told : z.told ≡ with_write ok (backing.Block (record { 0 = b })) y.told
  pub written : z.blocks ≡ written_if ok (λ blocks. slice_set blocks b (replicate 4096 byte)) y.blocks
  pub rest : z ≡ record y { told = z.told; files = z.files; blocks = z.blocks }

pub one_written : (b byte value : ℕ) (ok : Bool) (y z : StateOf) → byte ≡ value → DeviceCalled way.Write (backing.Block (record { 0 = b })) ok y z → z.told ≡ with_write ok (backing.Block (record { 0 = b })) y.told → z.blocks ≡ written_if ok (λ blocks. slice_set blocks b (replicate 4096 byte)) y.blocks → z ≡ record y { told = z.told; files = z.files; blocks = z.blocks } → OneWritten b value ok y z
one_written b byte value ok y z e c t w r = record {
  called = c;
  told = t;
  written = w ∙ ap (λ (v : ℕ). written_if ok (λ blocks. slice_set blocks b (replicate 4096 v)) y.blocks) e;
  rest = r;
}

module _ (first i byte : ℕ) (s y z : StateOf) (p : BlocksWritten first i byte true s y) where
  calls_are : map logged_call p.calls ≡ writes_from first i
  calls_are = p.are ∙ append_nil (writes_from first p.whole) ∙ ap (writes_from first) (p.all refl)

  more_are : (ok : Bool) → map logged_call (p.calls ++ call_for y (first + i) ok ∷ []) ≡ writes_from first i ++ one_write ok (first + i) ∷ []
  more_are ok = map-logged p.calls (call_for y (first + i) ok ∷ []) ∙ ap (λ (cs : List DeviceCall). cs ++ one_write ok (first + i) ∷ []) calls_are

  one_kept : (ok : Bool) → OneWritten (first + i) ((byte + i) % 256) ok y z → KeepsOthers (one_write ok (first + i) ∷ []) y.blocks z.blocks
  one_kept true q = subst (λ (bs : List (List ℕ)). KeepsOthers (one_write true (first + i) ∷ []) y.blocks bs) (sym q.written) (keeps_written (first + i) y.blocks (replicate 4096 ((byte + i) % 256)))
  one_kept false q = keeps_same (one_write false (first + i) ∷ []) y.blocks z.blocks q.written

  more_tells : (ok : Bool) → OneWritten (first + i) ((byte + i) % 256) ok y z → CallsWritten (p.calls ++ call_for y (first + i) ok ∷ []) s z
  more_tells ok q =
      let cs : List Call = call_for y (first + i) ok ∷ [] in
      let was = p.tells in
      let a = sym (tallied_then way.Write p.calls cs s.told.file_writes) in
      let b = sym (tallied_then way.Write p.calls cs s.told.search_writes) in
      record {
        served = all_served_then p.calls cs s.files y.files z.files was.served (all_served_one (call_for y (first + i) ok) y.files z.files q.called.0);
        none_read = λ t. tallied_then way.Read p.calls cs t ∙ was.none_read t;
        told = q.told ∙ ap (λ (t : Told). with_write ok (backing.Block (record { 0 = first + i })) t) was.told ∙ (λ j. record s.told { file_writes = a j; search_writes = b j });
        rest = q.rest ∙ ap (λ (x : StateOf). record x { told = z.told; files = z.files; blocks = z.blocks }) was.rest;
        later = later_then s.files y.files z.files was.later (serves_later _ y.files z.files q.called.0);
        kept = subst (λ (ds : List DeviceCall). KeepsOthers ds s.blocks z.blocks) (sym (map-logged p.calls cs)) (keeps_then (map logged_call p.calls) (one_write ok (first + i) ∷ []) s.blocks y.blocks z.blocks was.kept (one_kept ok q));
      }

  pub blocks_more : OneWritten (first + i) ((byte + i) % 256) true y z → first + i < length y.blocks → BlocksWritten first (i + 1) byte true s z
  blocks_more q near = record {
    whole = i + 1;
    calls = p.calls ++ call_for y (first + i) true ∷ [];
    tells = more_tells true q;
    are = more_are true ∙ sym (writes-more first i) ∙ sym (append_nil (writes_from first (i + 1)));
    all = λ e. refl;
    some = λ e. cc;
    written = λ e k h. at k h;
    others = others;
    long = ap (λ (bs : List (List ℕ)). length bs) q.written ∙ length-set y.blocks (first + i) (replicate 4096 ((byte + i) % 256)) ∙ p.long;
    quiet = λ e. ap (λ (t : Told). t.file_writes.failed) q.told ∙ p.quiet refl;
    failed = λ e. cc;
    blamed = λ e. cc;
  }
    where
      at : (k : ℕ) → k < i + 1 → slice_get z.blocks (first + k) ≡ Some (filled ((byte + k) % 256))
      at k h = elim (same_or_not k i) [
        | inl last ↦
            ap (λ (bs : List (List ℕ)). slice_get bs (first + k)) q.written ∙ ap (λ (n : ℕ). slice_get (slice_set y.blocks (first + i) (replicate 4096 ((byte + i) % 256))) (first + n)) last
            ∙ get_set_same y.blocks (first + i) (replicate 4096 ((byte + i) % 256)) near ∙ ap Some (filled_is ((byte + i) % 256)) ∙ ap (λ (n : ℕ). Some (filled ((byte + n) % 256))) (sym last)
        | inr other ↦
            let far : first + k ≢ first + i = λ same. other (omega (arith, same)) in
            ap (λ (bs : List (List ℕ)). slice_get bs (first + k)) q.written ∙ get_set_other y.blocks (first + i) (first + k) (replicate 4096 ((byte + i) % 256)) far
            ∙ p.written refl k (omega (arith, h, other))
      ]

      others : (block : ℕ) → (block < first) ⊎ (first + (i + 1) ≤ block) → slice_get z.blocks block ≡ slice_get s.blocks block
      others block h =
          let far : block ≢ first + i = λ same. (elim h [ inl low ↦ omega (arith, low, same) | inr high ↦ omega (arith, high, same) ]) in
          ap (λ (bs : List (List ℕ)). slice_get bs block) q.written ∙ get_set_other y.blocks (first + i) block (replicate 4096 ((byte + i) % 256)) far
          ∙ p.others block (elim h [ inl low ↦ inl low | inr high ↦ inr (omega (arith, high)) ])

  -- the write failed
  pub blocks_lost : (n : ℕ) → OneWritten (first + i) ((byte + i) % 256) false y z → i < n → BlocksWritten first n byte false s z
  blocks_lost n q h = record {
    whole = i;
    calls = p.calls ++ call_for y (first + i) false ∷ [];
    tells = more_tells false q;
    are = more_are false;
    all = λ e. cc;
    some = λ e. h;
    written = λ e k l. cc;
    others = λ block b. ap (λ (bs : List (List ℕ)). slice_get bs block) q.written ∙ p.others block (elim b [ inl low ↦ inl low | inr high ↦ inr (omega (arith, high, h)) ]);
    long = ap (λ (bs : List (List ℕ)). length bs) q.written ∙ p.long;
    quiet = λ e. cc;
    failed = λ e. subst (λ (t : Told). 0 < t.file_writes.failed) (sym q.told) (one_some y.told.file_writes.failed);
    blamed = λ e. failed_later s.files y.files z.files p.tells.later (serves_failed _ y.files z.files q.called.0 refl);
  }

-- ---- pages come to be

not_both : {V : Type 0} (b t : Bool) (v w : V) → t ≡ false → (if b && t then v else w) ≡ w
not_both true true v w e = cc
not_both true false v w e = refl
not_both false t v w e = refl

with_none : {V : Type 0} (area : ℕ) (value : ℕ → V) (f : Key → V) (k : Key) → with_pages area 0 value f k ≡ f k
with_none area value f (Private p v) = refl
with_none area value f (Shared a i) = not_both (a.0 == area) (nat_lt i 0) (value i) (f (Shared a i)) (none_below i)

last_below : (i n : ℕ) → i ≡ n → nat_lt i (n + 1) ≡ false → ⊥
last_below i n e h = grind (arith, e, h)

still_below : (i n : ℕ) → nat_lt i n ≡ true → nat_lt i (n + 1) ≡ false → ⊥
still_below i n e h = grind (arith, e, h)

not_last : (i n : ℕ) → i ≢ n → nat_lt i n ≡ false → nat_lt i (n + 1) ≡ true → ⊥
not_last i n d e h = d (grind (arith, e, h))

apart : (i n : ℕ) → (i == n) ≡ false → i ≢ n
apart i n x e = let t = (unsigned_Decides i n).1 e in let bad : true ≡ false = sym t ∙ x in cc

with_more : {V : Type 0} (area : Area) (n : ℕ) (value : ℕ → V) (f : Key → V) (k : Key) → changed same_key (with_pages area.0 n value f) (Shared area n) (value n) k ≡ with_pages area.0 (n + 1) value f k
with_more {V} area n value f (Private p v) = refl
with_more {V} area n value f (Shared a i) = at (a.0 == area.0) (i == n) (nat_lt i n) (nat_lt i (n + 1)) refl refl refl
  where
    at : (b e t u : Bool) → (i == n) ≡ e → nat_lt i n ≡ t → nat_lt i (n + 1) ≡ u → (if b && e then value n else (if b && t then value i else f (Shared a i))) ≡ (if b && u then value i else f (Shared a i))
    at false e t u x y z = refl
    at true true t true x y z = ap value (sym (eqb-true i n x))
    at true true t false x y z = absurd (last_below i n (eqb-true i n x) z)
    at true false true true x y z = refl
    at true false true false x y z = absurd (still_below i n y z)
    at true false false true x y z = absurd (not_last i n (apart i n x) y z)
    at true false false false x y z = refl

pub pages_none : (area first : ℕ) (s : StateOf) → PagesAdded area first 0 s s
pages_none area first s = record {
  moves = [];
  does = does_nothing s;
  adds = record { all = tt; order = tt; lowest = tt };
  life = refl;
  stands = λ k. sym (with_none area (λ i. held.Block (record { 0 = first + i })) s.life.stands k);
  contents = λ k. sym (with_none area (λ i. slice_get s.blocks (first + i)) s.contents k);
  added = λ b h. refl;
  told = refl;
  waits = refl;
  same = refl;
}

-- the move with which page i comes to be
abbrev adding : Area → ℕ → ℕ → Move
adding area first i = move.Add (Shared area i) (Some (record { 0 = first + i }))

blocks_still : (area first i : ℕ) (s y : StateOf) → PagesAdded area first i s y → y.blocks ≡ s.blocks
blocks_still area first i s y p = ap (λ (x : StateOf). x.blocks) p.same

other_added : (b c : ℕ) (f : ℕ → Bool) → c < b → changed ◌==◌ f c true b ≡ f b
other_added b c f h = at (b == c) refl
  where
    at : (t : Bool) → (b == c) ≡ t → (if t then true else f b) ≡ f b
    at true e = let same = eqb-true b c e in absurd (omega (arith, h, same))
    at false e = refl

pub pages_more : (area : Area) (first i : ℕ) (s y z : StateOf) → PagesAdded area.0 first i s y → Made (adding area first i) y z → z ≡ record (moved y z) { contents = changed same_key y.contents (Shared area i) (slice_get y.blocks (first + i)) } → PagesAdded area.0 first (i + 1) s z
pages_more area first i s y z p m r = record {
  moves = p.moves ++ adding area first i ∷ [];
  does = does_then p.moves (adding area first i ∷ []) s y z p.does (does_one (adding area first i) y z m);
  adds = made_behind 0 i (i + 1) (omega arith) (omega arith) s.life y.life p.moves (adding area first i ∷ []) p.does.replays p.adds (record { all = (refl, tt); order = (omega arith, omega arith, tt); lowest = (tt, tt) });
  life = subst (λ (x : FrameLife). x ≡ record y.life { stands = x.stands; added = x.added }) (sym m.life) refl
      ∙ ap (λ (x : FrameLife). record x { stands = z.life.stands; added = z.life.added }) p.life;
  stands = λ k. ap (λ (x : FrameLife). x.stands k) m.life
      ∙ ap (λ (f : Key → Held). changed same_key f (Shared area i) (held.Block (record { 0 = first + i })) k) stood
      ∙ with_more area i (λ n. held.Block (record { 0 = first + n })) s.life.stands k;
  contents = λ k. ap (λ (x : StateOf). x.contents k) r
      ∙ ap (λ (f : Key → Option (List ℕ)). changed same_key f (Shared area i) (slice_get y.blocks (first + i)) k) held_bytes
      ∙ ap (λ (bs : List (List ℕ)). changed same_key (with_pages area.0 i (λ n. slice_get s.blocks (first + n)) s.contents) (Shared area i) (slice_get bs (first + i)) k) (blocks_still area.0 first i s y p)
      ∙ with_more area i (λ n. slice_get s.blocks (first + n)) s.contents k;
  added = λ b h. ap (λ (x : FrameLife). x.added b) m.life ∙ other_added b (first + i) y.life.added (omega (arith, h)) ∙ p.added b (omega (arith, h));
  told = m.told ∙ p.told;
  waits = m.waits ∙ p.waits;
  same = r ∙ ap (λ (c : Key → Option (List ℕ)). record (moved y z) { contents = c }) (sym (ap (λ (x : StateOf). x.contents) r))
      ∙ ap (λ (x : StateOf). record (moved x z) { contents = z.contents }) p.same;
}
  where
    stood : y.life.stands ≡ with_pages area.0 i (λ n. held.Block (record { 0 = first + n })) s.life.stands
    stood = λ j. λ q. p.stands q j

    held_bytes : y.contents ≡ with_pages area.0 i (λ n. slice_get s.blocks (first + n)) s.contents
    held_bytes = λ j. λ q. p.contents q j

-- ---- what the store shows of a file that is made

module _ (area first n byte : ℕ) (s z : StateOf) (p : FileBuilt area first n byte s z) where
  built_told : z.told ≡ record s.told { file_writes = z.told.file_writes; search_writes = z.told.search_writes }
  built_told = subst (λ (x : Told). x ≡ record s.told { file_writes = x.file_writes; search_writes = x.search_writes }) (sym (p.added.told ∙ p.wrote.tells.told)) refl

  built_still : {A : Type 0} (look : StateOf → A) → look (record (moved p.mid z) { contents = z.contents }) ≡ look p.mid → look (record (with_area area n s) { told = p.mid.told; files = p.mid.files; blocks = p.mid.blocks }) ≡ look (with_area area n s) → look z ≡ look (with_area area n s)
  built_still look e f = ap look p.added.same ∙ e ∙ ap look p.wrote.tells.rest ∙ f

  pub built_files : z.files ≡ p.mid.files
  built_files = ap (λ (x : StateOf). x.files) p.added.same

  pub built_served : (o u : OwnOf) → Served (store_of s o) (store_of z u)
  built_served o u = served_writes (store_of s o) (store_of z u) p.wrote.calls (subst (λ (d : DeviceOf). AllServed p.wrote.calls s.files d) (sym built_files) p.wrote.tells.served)
      (ap (λ (t : Told). t.file_writes) (p.added.told ∙ p.wrote.tells.told)) p.wrote.tells.none_read (built_still (λ x. x.paging) refl refl)
      (ap (λ (t : Told). t.paging_reads) built_told) (ap (λ (t : Told). t.paging_writes) built_told) (ap (λ (t : Told). t.file_reads) built_told)

  pub built_notes : n ≤ 2 ^ 32 → Notes (Turns Makes) (behind_of s) (behind_of z)
  built_notes few =
      let d = p.added.does in
      subst (λ (b : Behind). Notes (Turns Makes) b (behind_of z)) (ap behind_of p.wrote.tells.rest) (record {
        moves = p.added.moves;
        in_range = d.in_range;
        grew = d.grew;
        replays = d.replays;
        that = record {
          turned = made_wider p.mid.life 0 n 0 (2 ^ 32) (omega arith) few p.added.moves p.added.adds;
          moved = record { waits = d.waits; ages = d.ages };
          slots = ap (λ (x : StateOf). x.slots) p.added.same;
        };
      })

  -- the bytes, the blocks and the rest, each as the store shows it
  built_blocks : z.blocks ≡ p.mid.blocks
  built_blocks = ap (λ (x : StateOf). x.blocks) p.added.same

  built_life : z.life ≡ record s.life { stands = z.life.stands; added = z.life.added }
  built_life = p.added.life ∙ ap (λ (x : StateOf). record (x.life) { stands = z.life.stands; added = z.life.added }) p.wrote.tells.rest

  byte_page : (a : Area) (i : ℕ) (b t : Bool) → nat_lt i n ≡ t → (if b && t then slice_get p.mid.blocks (first + i) else p.mid.contents (Shared a i)) ≡ (if b && t then Some (filled ((byte + i) % 256)) else s.contents (Shared a i))
  byte_page a i true true e = p.wrote.written refl i (less i n e)
  byte_page a i true false e = ap (λ (x : StateOf). x.contents (Shared a i)) p.wrote.tells.rest
  byte_page a i false t e = ap (λ (x : StateOf). x.contents (Shared a i)) p.wrote.tells.rest

  byte_key : (k : Key) → z.contents k ≡ with_file area n byte s.contents k
  byte_key (Private q v) = p.added.contents (Private q v) ∙ ap (λ (x : StateOf). x.contents (Private q v)) p.wrote.tells.rest
  byte_key (Shared a i) = p.added.contents (Shared a i) ∙ byte_page a i (a.0 == area) (nat_lt i n) refl

  pub built_contents : z.contents ≡ with_file area n byte s.contents
  built_contents = λ j. λ k. byte_key k j

  held_block : (a : Area) (i : ℕ) (b : Bool) → block_at (backed_by s.life (if b then held.Block (record { 0 = first + i }) else p.mid.life.stands (Shared a i))) ≡ (if b then Some (first + i) else block_at (backed_by s.life (s.life.stands (Shared a i))))
  held_block a i true = refl
  held_block a i false = ap (λ (x : StateOf). block_at (backed_by s.life (x.life.stands (Shared a i)))) p.wrote.tells.rest

  block_key : (k : Key) → block_at (backed_by z.life (z.life.stands k)) ≡ with_blocks area n first (λ j. block_at (backed_by s.life (s.life.stands j))) k
  block_key (Private q v) = ap (λ (x : FrameLife). block_at (backed_by x (z.life.stands (Private q v)))) built_life
      ∙ ap (λ (h : Held). block_at (backed_by s.life h)) (p.added.stands (Private q v) ∙ ap (λ (x : StateOf). x.life.stands (Private q v)) p.wrote.tells.rest)
  block_key (Shared a i) = ap (λ (x : FrameLife). block_at (backed_by x (z.life.stands (Shared a i)))) built_life
      ∙ ap (λ (h : Held). block_at (backed_by s.life h)) (p.added.stands (Shared a i)) ∙ held_block a i ((a.0 == area) && nat_lt i n)

  built_waits : z.waits ≡ s.waits
  built_waits = p.added.waits ∙ ap (λ (x : StateOf). x.waits) p.wrote.tells.rest

  pub built_store : (o : OwnOf) → store_of z (record o { blocks_used = o.blocks_used + n }) ≡ record (wrote (store_of s o) (store_of z (record o { blocks_used = o.blocks_used + n }))) {
    areas = changed ◌==◌ s.areas area (Some n);
    block_of = with_blocks area n first (λ k. block_at (backed_by s.life (s.life.stands k)));
    blocks_used = o.blocks_used + n;
  }
  built_store o = λ i. record {
    machine = (built_life i).machine;
    is_open = built_still (λ x. x.is_open) refl refl i;
    areas = built_still (λ x. x.areas) refl refl i;
    bound = built_still (λ x. x.bound) refl refl i;
    names = built_still (λ x. x.names) refl refl i;
    paging = (built_life i).paging;
    paging_keys = (built_life i).paging_keys;
    room = limit_of ((built_life i).machine);
    block_of = λ k. block_key k i;
    blocks_used = o.blocks_used + n;
    file_blocks = z.blocks;
    line = (built_life i).line;
    kind = (built_life i).kind;
    last_pid = length ((built_life i).sets);
    ready = o.ready;
    report = record {
      paging_reads = (built_told i).paging_reads;
      paging_writes = (built_told i).paging_writes;
      file_reads = (built_told i).file_reads;
      file_writes = z.told.file_writes;
      last_failed_read = (built_told i).last_failed_read;
      search_writes = z.told.search_writes;
      counts = counts_of z.life;
      whereabouts = λ k. where_of z.life (z.life.stands k);
      wait = λ tid. wait_of (built_waits i tid);
      extended = o.extended;
    };
    paging_device = built_still (λ x. x.paging) refl refl i;
    file_device = z.files;
  }

  pub built_as : (o : OwnOf) → NewFile area first n byte s.contents z.contents (store_of s o) (store_of z (record o { blocks_used = o.blocks_used + n })) (Ok tt)
  built_as o = record {
    made = built_contents;
    kept = tt;
    ok = built_store o;
    err = tt;
    memory = λ e. cc;
    written = λ i h. ap (λ (bs : List (List ℕ)). slice_get bs (first + i)) built_blocks ∙ p.wrote.written refl i h;
    others = λ b h. ap (λ (bs : List (List ℕ)). slice_get bs b) built_blocks ∙ p.wrote.others b h;
    wrote = record {
      served = built_served o (record o { blocks_used = o.blocks_used + n });
      stored = ap (λ (bs : List (List ℕ)). length bs) built_blocks ∙ p.wrote.long;
      quiet = ap (λ (t : Told). t.file_writes.failed) p.added.told ∙ p.wrote.quiet refl;
      failed = λ e. cc;
      blamed = λ e. cc;
    };
  }

-- ---- what it shows where no file was made

pub unmade_served : (first n byte : ℕ) (e : MakeFault) (s z : StateOf) (o : OwnOf) → UnmadeAs first n byte e s z → Served (store_of s o) (store_of z o)
unmade_served first n byte make_fault.Write s z o p = served_writes (store_of s o) (store_of z o) p.calls p.tells.served (ap (λ (t : Told). t.file_writes) p.tells.told) p.tells.none_read (ap (λ (x : StateOf). x.paging) p.tells.rest)
    (ap (λ (t : Told). t.paging_reads) p.tells.told) (ap (λ (t : Told). t.paging_writes) p.tells.told) (ap (λ (t : Told). t.file_reads) p.tells.told)
unmade_served first n byte make_fault.Memory s z o p = subst (λ (x : StateOf). Served (store_of s o) (store_of x o)) (sym p) (served_nothing (store_of s o) (store_of s o) refl refl refl refl refl refl)

notes_none : (s z : StateOf) → behind_of z ≡ behind_of s → Notes (Turns Makes) (behind_of s) (behind_of z)
notes_none s z e = subst (λ (b : Behind). Notes (Turns Makes) (behind_of s) b) (sym e) (record {
  moves = [];
  in_range = tt;
  grew = (does_nothing s).grew;
  replays = refl;
  that = record { turned = turned_none Makes s.life; moved = record { waits = refl; ages = refl }; slots = refl };
})

pub unmade_notes : (first n byte : ℕ) (e : MakeFault) (s z : StateOf) → UnmadeAs first n byte e s z → Notes (Turns Makes) (behind_of s) (behind_of z)
unmade_notes first n byte make_fault.Write s z p = notes_none s z (ap behind_of p.tells.rest)
unmade_notes first n byte make_fault.Memory s z p = notes_none s z (ap behind_of p)
