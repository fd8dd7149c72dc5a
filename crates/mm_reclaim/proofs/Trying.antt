-- The steps of a search: what each adds to its moves, and one frame that is tried.
use Rattle.std.proofs.Common.{◌≡◌, ◌≢◌, ℕ, ◌+◌, ◌<◌, ◌≤◌, Bool, true, false, List, [], ◌∷◌, ◌++◌, length, Option, Some, None, refl, sym, ap, ◌∙◌, subst, inl, inr, arith}
use Rattle.std.specs.Prelude.{◌&&◌, ◌||◌, ◌==◌, not, if◌then◌else◌, count_by, ◌-◌, ◌^◌, min}
use Rattle.std.proofs.lemmas.Bool.{eqb-true}
use Rattle.mm_types.specs.{Backing, Frame, Place, Stored, Move, LineKind, MachineOf, Record, Direction}
use Rattle.mm_types.specs.declared.frames.Backing.TheVariants as backing
use Rattle.mm_types.specs.declared.moves.Move.TheVariants as move
use Rattle.mm_move_rules.specs.{record_at, is_on, FrameLife, is_short, is_access, is_call, can_be_written, Walk, Through, walked_all, is_wrote_move}
use Rattle.mm_move_rules.specs.{is_read_move, SearchMove, writable_in, next_writable, Starved, IsVictim, is_frame, is_unpinned, without, after_move}
use Rattle.mm_types.proofs.{same_number, not_true}
use Rattle.mm_store.proofs.{through_then, walked_then}
use Rattle.mm_store.specs.Told.{Told}
use Rattle.mm_frame_laws.specs.{NoneMayGo, lost_in, is_lost_of, failed_write, first_passing, is_untried, next_try, backing_to, after_written}
use Rattle.mm_frame_laws.specs.{after_failed, put_last}
use Rattle.mm_frame_laws.proofs.{any_append, or_none, write_record, failed, written_found}
use Rattle.mm_parts.specs.{write_end, own_after, own_ended}
use Rattle.mm_state_calls.specs.{StateOf, Made, DeviceCalled, moved_with_call, moved, backing_of_frame, SomeFault, StateHolds, DoesMoves, walk_of}
use Rattle.mm_state_calls.specs.{IsFlightOf, Searched}
use Rattle.mm_state_calls.proofs.{does_nothing, does_one, does_two, does_then, count-append, walked_here}
use Rattle.mm_reclaim.specs.{IsUnderWay, Tries, Seeks}
use Rattle.std.proofs.Math.Logic.{∥∥₁_elim}
use Rattle.std.proofs.Props.{props}
use Rattle.mm_types.specs.declared.devices.Direction.TheVariants as way
use Rattle.mm_types.specs.declared.moves.Stored.TheVariants as stored
use Rattle.mm_devices.specs.{DeviceOf, CallFailed}
use Rattle.mm_move_laws.specs.{ReachedByMoves, is_backed, times}
use Rattle.mm_move_laws.proofs.{reached_sound, modified_frame, begun_ended, times_on}
use Rattle.mm_devices.proofs.{serves_failed, failed_later, all_served_later}
use Rattle.std.proofs.Math.Bool.{Bool-set}
use Rattle.mm_store.specs.{with_write}

-- ---- the steps of a search: what each adds to its moves

-- ---- which frame is next

-- the frame that is written next, by the walk and by the moves
pub next_is : (l : FrameLife) (tried : List ℕ) (moves : List Move) → ((g : ℕ) → is_on g tried ≡ lost_in moves g) → (xs : List ℕ) → writable_in l tried xs ≡ first_passing (is_untried l moves) xs
next_is l tried moves same [] = refl
next_is l tried moves same (x ∷ xs) = (λ i. if can_be_written l x && not (same x i) then Some x else next_is l tried moves same xs i)

-- ---- lists of moves

search_more : (pin : Option Frame) (flight : List ℕ) (w : Walk) (m : Move) (ms ys : List Move) → SearchMove pin flight w m ms → SearchMove pin flight w m (ms ++ ys)
search_more pin flight w (move.Write f s) [] ys (a, b, c) = absurd c
search_more pin flight w m ms ys p = p

pub searches_then : (pin : Option Frame) (flight : List ℕ) (xs ys : List Move) (w : Walk) → Through (SearchMove pin flight) w xs → Through (SearchMove pin flight) (walked_all w xs) ys → Through (SearchMove pin flight) w (xs ++ ys)
searches_then pin flight xs ys w p q = through_then (SearchMove pin flight) (search_more pin flight) xs ys w p q

lost_then : (xs ys : List Move) (g : ℕ) → lost_in (xs ++ ys) g ≡ (lost_in xs g || lost_in ys g)
lost_then xs ys g = any_append (λ m. is_lost_of g m) xs ys

-- ---- one write

-- a modified frame that is being written has a home
pub backed_mid : (s mid : StateOf) (f : Frame) (home : Stored) → ∥ ReachedByMoves s.life ∥₁ → is_on f.0 s.life.frames.modified ≡ true → Made (move.Write f home) s mid → is_backed (record_at mid.life.frames f.0).backing ≡ true
backed_mid s mid f home r on m = ∥∥₁_elim r (hlevel props) (λ h.
    ap (λ (k : FrameLife). is_backed (record_at k.frames f.0).backing) m.life ∙ ap (λ (t : Record). is_backed t.backing) (write_record s.life (reached_sound s.life h) f on home) ∙ at home)
  where
    at : (x : Stored) → is_backed (backing_to x) ≡ true
    at (stored.Slot t) = refl
    at (stored.Block t) = refl

-- a device call of a page with a home, where it failed, is a device's failure
pub fault_by : (w : Direction) (b : Backing) (s z : StateOf) → is_backed b ≡ true → DeviceCalled w b false s z → SomeFault s z
fault_by w backing.None s z h c = cc
fault_by w (backing.Slot t) s z h c = inl (serves_failed _ s.paging z.paging c.0 refl)
fault_by w (backing.Block t) s z h c = inr (serves_failed _ s.files z.files c.0 refl)

pub fault_from : (s mid z : StateOf) → mid.paging ≡ s.paging → mid.files ≡ s.files → SomeFault mid z → SomeFault s z
fault_from s mid z p q (inl x) = inl (subst (λ (d : DeviceOf). CallFailed d z.paging) p x)
fault_from s mid z p q (inr x) = inr (subst (λ (d : DeviceOf). CallFailed d z.files) q x)

-- a write of a modified frame that failed is a device's failure
pub write_fault : (f : Frame) (home : Stored) (ok : Bool) (s mid z : StateOf) → StateHolds s → is_on f.0 s.life.frames.modified ≡ true → Made (move.Write f home) s mid → Made (write_end ok f) mid z → ok ≡ false → SomeFault s z
write_fault f home true s mid z h on b e lost = let bad : true ≡ false = lost in cc
write_fault f home false s mid z h on b e lost =
    fault_from s mid z b.calls.0 b.calls.1 (fault_by way.Write (backing_of_frame mid f) mid z (backed_mid s mid f home h.reached on b) e.calls)

-- the line's own request is over with the write
own_back : (k : LineKind) (o : Option Frame) (f : Frame) → is_access k ≡ true → o ≡ None → own_ended (own_after k o f) f.0 ≡ o
own_back k o f e n = ap (λ (b : Bool). own_ended (if b || is_call k then Some f else o) f.0) e ∙ ap (λ (b : Bool). if b then None else Some f) (same_number f.0) ∙ sym n

pub tries_same : (f : Frame) (s mid z : StateOf) → IsUnderWay s → mid ≡ record (moved s mid) { own = own_after s.life.kind s.own f } → z ≡ record (moved_with_call mid z) { own = own_ended mid.own f.0 } → z ≡ moved_with_call s z
tries_same f s mid z b a e =
    e
    ∙ ap (λ (x : StateOf). record (moved_with_call mid z) { own = own_ended x.own f.0 }) a
    ∙ ap (λ (x : Option Frame). record (moved_with_call mid z) { own = x }) (own_back s.life.kind s.own f b.access b.done)
    ∙ ap (λ (x : StateOf). record (moved_with_call x z) { own = s.own }) a

-- ---- what stays

-- the kind, the machine and the line's own request stay in a search
pub begun_then : (s z : StateOf) → IsUnderWay s → z.life.kind ≡ s.life.kind → z.life.flight ≡ s.life.flight → z.life.machine ≡ s.life.machine → z ≡ moved_with_call s z → IsUnderWay z
begun_then s z b k q m same = record {
  access = ap is_access k ∙ b.access;
  few =
      let x = ap (λ (xs : List ℕ). length xs) q in
      let y = ap (λ (n : MachineOf). n.depth) m in
      let few = b.few in omega (arith, x, y, few);
  done = ap (λ (t : StateOf). t.own) same ∙ b.done;
}

pub called_then : (s y z : StateOf) → y ≡ moved_with_call s y → z ≡ moved_with_call y z → z ≡ moved_with_call s z
called_then s y z p q = q ∙ (λ i. moved_with_call (p i) z)

pub moved_called : (s z : StateOf) → z ≡ moved s z → z ≡ moved_with_call s z
moved_called s z e = e ∙ (λ i. record (moved s z) {
  paging = ap (λ (t : StateOf). t.paging) (sym e) i;
  files = ap (λ (t : StateOf). t.files) (sym e) i;
  slots = ap (λ (t : StateOf). t.slots) (sym e) i;
  blocks = ap (λ (t : StateOf). t.blocks) (sym e) i;
})

-- ---- a frame is found

found_by : (pin : Option Frame) (s z : StateOf) (moves : List Move) → DoesMoves moves s z → ((flight : List ℕ) → IsFlightOf flight pin s.life → Through (SearchMove pin flight) (walk_of s) moves) → count_by is_wrote_move moves ≤ 1
    → count_by is_read_move moves ≡ 0 → is_short z.life ≡ false → z.told.last_failed_read ≡ s.told.last_failed_read → z ≡ moved_with_call s z → Searched pin true s z
found_by pin s z moves does each one reads found read same = record {
  moves = moves;
  does = does;
  each = each;
  one = one;
  no_read = reads;
  got = λ e. found;
  short = λ e. cc;
  lost = λ e. cc;
  starved = λ e. cc;
  fails = λ e. cc;
  fault = λ e. cc;
  none = λ e. cc;
  read = read;
  same = same;
}

-- ---- a frame is written

-- what is known of the modified frame that is written
pub record Target (pin : Option Frame) (z : StateOf) (moves : List Move) (f : Frame) : Type 0 where
  pub on : is_on f.0 z.life.frames.modified ≡ true
  pub next : next_try z.life moves ≡ Some f.0
  pub off : is_on f.0 z.life.flight ≡ false
  pub unpinned : pin ≢ Some f

-- of a write of it: what stays
pub record Stays (z y : StateOf) : Type 0 where
  pub kind : y.life.kind ≡ z.life.kind
  pub machine : y.life.machine ≡ z.life.machine
  pub flight : y.life.flight ≡ z.life.flight

not_in_flight : (flight : List ℕ) (pin : Option Frame) (s z : StateOf) (f : Frame) → IsFlightOf flight pin s.life → z.life.flight ≡ s.life.flight → is_on f.0 z.life.flight ≡ false → pin ≢ Some f → is_on f.0 flight ≡ false
not_in_flight flight pin s z f of same off un = by (is_on f.0 flight) refl
  where
    by : (b : Bool) → is_on f.0 flight ≡ b → b ≡ false
    by false e = refl
    by true e = elim (of f e) [
      | inl h ↦ (let bad : true ≡ false = sym h ∙ (ap (is_on f.0) (sym same) ∙ off) in cc)
      | inr h ↦ absurd (un h)
    ]

module _ (pin : Option Frame) (s z : StateOf) (moves : List Move) (k : Seeks pin s z moves) (f : Frame) (t : Target pin z moves f) where
  abbrev w : Walk
  w = walked_all (walk_of s) moves

  here : walked_all (walk_of s) moves ≡ record { life = z.life; ages = z.ages; tried = (walked_all (walk_of s) moves).tried }
  here = walked_here moves s z k.does

  life_here : (walked_all (walk_of s) moves).life ≡ z.life
  life_here = ap (λ (x : Walk). x.life) here

  next_here : next_writable (walked_all (walk_of s) moves) ≡ Some f.0
  next_here =
      ap (λ (l : FrameLife). writable_in l (walked_all (walk_of s) moves).tried l.frames.modified) life_here
      ∙ next_is z.life (walked_all (walk_of s) moves).tried moves k.tried z.life.frames.modified ∙ t.next

  short_here : is_short (walked_all (walk_of s) moves).life ≡ true
  short_here = ap is_short life_here ∙ k.short

  -- its write, well or not, is of a search
  writes_on : (ok : Bool) (home : Stored) (flight : List ℕ) → IsFlightOf flight pin s.life → Through (SearchMove pin flight) (walked_all (walk_of s) moves) (move.Write f home ∷ write_end ok f ∷ [])
  writes_on true home flight of = ((short_here, next_here, inl refl), (not_in_flight flight pin s z f of k.flight t.off t.unpinned, tt))
  writes_on false home flight of = ((short_here, next_here, inr refl), (not_in_flight flight pin s z f of k.flight t.off t.unpinned, tt))

  -- a write that failed: the search goes on
  module _ (y : StateOf) (tries : Tries f false z y) (stays : Stays z y) (target : (g : Frame) → pin ≡ Some g → 1 ≤ (record_at y.life.frames g.0).shares) (short : is_short y.life ≡ true) where
    made_two : DoesMoves (failed_write f tries.home) z y
    made_two = does_two (move.Write f tries.home) (move.Lost f) z tries.mid y tries.begins tries.ends

    pub seeks_failed : 0 < y.told.search_writes.failed → y.told.search_writes.succeeded ≡ z.told.search_writes.succeeded → y.told.last_failed_read ≡ z.told.last_failed_read
        → Seeks pin s y (moves ++ failed_write f tries.home)
    seeks_failed failed none read = record {
      does = does_then moves (failed_write f tries.home) s z y k.does made_two;
      each = λ flight of. searches_then pin flight moves (failed_write f tries.home) (walk_of s) (k.each flight of) (writes_on false tries.home flight of);
      tried = λ g. ap (λ (x : Walk). is_on g x.tried) (walked_then moves (failed_write f tries.home) (walk_of s)) ∙ tried_now g ∙ sym (lost_then moves (failed_write f tries.home) g);
      wrote = count-append is_wrote_move moves (failed_write f tries.home) ∙ ap (λ n. n + 0) k.wrote;
      reads = count-append is_read_move moves (failed_write f tries.home) ∙ ap (λ n. n + 0) k.reads;
      fails = λ g e. failed;
      fault = λ g e. elim (tries.fault refl) [
        | inl h ↦ inl (failed_later s.paging z.paging y.paging (all_served_later k.does.paging_calls s.paging z.paging k.does.paging) h)
        | inr h ↦ inr (failed_later s.files z.files y.files (all_served_later k.does.file_calls s.files z.files k.does.files) h)
      ];
      none = none ∙ k.none;
      read = read ∙ k.read;
      same = called_then s z y k.same tries.same;
      begun = begun_then z y k.begun stays.kind stays.flight stays.machine tries.same;
      pinned = target;
      short = short;
      flight = stays.flight ∙ k.flight;
    }
      where
        tried_now : (g : ℕ) → is_on g (walked_all (walked_all (walk_of s) moves) (failed_write f tries.home)).tried ≡ (lost_in moves g || lost_in (failed_write f tries.home) g)
        tried_now g = by (f.0 == g) (is_on g (walked_all (walk_of s) moves).tried) (lost_in moves g) (k.tried g)
          where
            by : (a b c : Bool) → b ≡ c → (a || b) ≡ (c || (a || false))
            by true true true e = refl
            by true false false e = refl
            by true true false e = cc
            by true false true e = cc
            by false true true e = refl
            by false false false e = refl
            by false true false e = cc
            by false false true e = cc

  -- a write that succeeded: a frame is found
  pub wrote_found : (y : StateOf) → (tries : Tries f true z y) → is_short y.life ≡ false → y.told.last_failed_read ≡ z.told.last_failed_read → Searched pin true s y
  wrote_found y tries found read =
      let more = move.Write f tries.home ∷ move.Wrote f ∷ [] in
      let n = count-append is_wrote_move moves more in
      let w = k.wrote in
      found_by pin s y (moves ++ more) (does_then moves more s z y k.does (does_two (move.Write f tries.home) (move.Wrote f) z tries.mid y tries.begins tries.ends))
      (λ flight of. searches_then pin flight moves more (walk_of s) (k.each flight of) (writes_on true tries.home flight of))
      (omega (arith, n, w)) (count-append is_read_move moves more ∙ ap (λ n. n + 0) k.reads) found (read ∙ k.read) (called_then s z y k.same tries.same)

-- ---- an unmap

module _ (pin : Option Frame) (s z y : StateOf) (moves : List Move) (k : Seeks pin s z moves) (p : Place) (made : Made (move.Unmap p) z y) (rest : y ≡ moved z y)
    (victim : IsVictim z.life z.ages pin p) (none_left : next_try z.life moves ≡ None) where
  here_unmap : walked_all (walk_of s) moves ≡ record { life = z.life; ages = z.ages; tried = (walked_all (walk_of s) moves).tried }
  here_unmap = walked_here moves s z k.does

  unmaps_on : (flight : List ℕ) → Through (SearchMove pin flight) (walked_all (walk_of s) moves) (move.Unmap p ∷ [])
  unmaps_on flight = subst (λ (w : Walk). Through (SearchMove pin flight) w (move.Unmap p ∷ [])) (sym here_unmap)
      ((k.short, next_is z.life (walked_all (walk_of s) moves).tried moves k.tried z.life.frames.modified ∙ none_left, victim), tt)

  -- no frame came of it
  pub seeks_unmapped : Stays z y → ((g : Frame) → pin ≡ Some g → 1 ≤ (record_at y.life.frames g.0).shares) → is_short y.life ≡ true → Seeks pin s y (moves ++ move.Unmap p ∷ [])
  seeks_unmapped stays target short = record {
    does = does_then moves (move.Unmap p ∷ []) s z y k.does (does_one (move.Unmap p) z y made);
    each = λ flight of. searches_then pin flight moves (move.Unmap p ∷ []) (walk_of s) (k.each flight of) (unmaps_on flight);
    tried = λ g. ap (λ (x : Walk). is_on g x.tried) (walked_then moves (move.Unmap p ∷ []) (walk_of s)) ∙ k.tried g ∙ sym (lost_same g);
    wrote = count-append is_wrote_move moves (move.Unmap p ∷ []) ∙ ap (λ n. n + 0) k.wrote;
    reads = count-append is_read_move moves (move.Unmap p ∷ []) ∙ ap (λ n. n + 0) k.reads;
    fails = λ g e. subst (λ (t : Told). 0 < t.search_writes.failed) (sym made.told) (k.fails g (sym (lost_same g) ∙ e));
    fault = λ g e. SomeFault-as s z y (k.fault g (sym (lost_same g) ∙ e)) made.calls.0 made.calls.1;
    none = ap (λ (t : Told). t.search_writes.succeeded) made.told ∙ k.none;
    read = ap (λ (t : Told). t.last_failed_read) made.told ∙ k.read;
    same = called_then s z y k.same (moved_called z y rest);
    begun = begun_then z y k.begun stays.kind stays.flight stays.machine (moved_called z y rest);
    pinned = target;
    short = short;
    flight = stays.flight ∙ k.flight;
  }
    where
      lost_same : (g : ℕ) → lost_in (moves ++ move.Unmap p ∷ []) g ≡ lost_in moves g
      lost_same g = lost_then moves (move.Unmap p ∷ []) g ∙ or_none (lost_in moves g)

      SomeFault-as : (s z y : StateOf) → SomeFault s z → y.paging ≡ z.paging → y.files ≡ z.files → SomeFault s y
      SomeFault-as s z y (inl h) e g = inl (subst (λ (d : DeviceOf). CallFailed s.paging d) (sym e) h)
      SomeFault-as s z y (inr h) e g = inr (subst (λ (d : DeviceOf). CallFailed s.files d) (sym g) h)

  -- a frame came of it
  pub unmapped_found : is_short y.life ≡ false → Searched pin true s y
  unmapped_found found =
      let more = move.Unmap p ∷ [] in
      let n = count-append is_wrote_move moves more in
      let w = k.wrote in
      found_by pin s y (moves ++ more) (does_then moves more s z y k.does (does_one (move.Unmap p) z y made))
      (λ flight of. searches_then pin flight moves more (walk_of s) (k.each flight of) (unmaps_on flight))
      (omega (arith, n, w)) (count-append is_read_move moves more ∙ ap (λ n. n + 0) k.reads) found (ap (λ (t : Told). t.last_failed_read) made.told ∙ k.read) (called_then s z y k.same (moved_called z y rest))

-- ---- the ends

pub found_at_once : (pin : Option Frame) (s : StateOf) → is_short s.life ≡ false → Searched pin true s s
found_at_once pin s found = found_by pin s s [] (does_nothing s) (λ flight of. tt) (omega arith) refl found refl refl

-- the pinned frame is the only one that a place may be valid for
only_pinned : (l : FrameLife) (pin : Option Frame) → NoneMayGo l pin → (p : Place) (f : Frame) → l.valid p ≡ Some f → pin ≡ Some f
only_pinned l pin none p f e = at pin refl
  where
    stays : not (is_frame f.0 pin) ≡ false
    stays = sym (ap (is_unpinned pin) e) ∙ none p

    at : (o : Option Frame) → pin ≡ o → pin ≡ Some f
    at None h = let bad : true ≡ false = sym (ap (λ (o : Option Frame). not (is_frame f.0 o)) h) ∙ stays in cc
    at (Some g) h = h ∙ ap (λ (n : ℕ). Some (record { 0 = n })) (same (g.0 == f.0) refl (sym (ap (λ (o : Option Frame). not (is_frame f.0 o)) h) ∙ stays))
      where
        same : (b : Bool) → (g.0 == f.0) ≡ b → not b ≡ false → g.0 ≡ f.0
        same true e n = eqb-true g.0 f.0 e
        same false e n = cc

pub starves : (pin : Option Frame) (s z : StateOf) (moves : List Move) → Seeks pin s z moves → next_try z.life moves ≡ None → NoneMayGo z.life pin
    → 0 < z.told.search_writes.failed → SomeFault s z → Searched pin false s z
starves pin s z moves k none_left none fails fault =
    let here : walked_all (walk_of s) moves ≡ record { life = z.life; ages = z.ages; tried = (walked_all (walk_of s) moves).tried } = walked_here moves s z k.does in
    record {
      moves = moves;
      does = k.does;
      each = k.each;
      one = let w = k.wrote in omega (arith, w);
      no_read = k.reads;
      got = λ e. cc;
      short = λ e. k.short;
      lost = λ e. k.wrote;
      starved = λ e. subst (λ (w : Walk). Starved pin w) (sym here) (record {
        tried = next_is z.life (walked_all (walk_of s) moves).tried moves k.tried z.life.frames.modified ∙ none_left;
        only = only_pinned z.life pin none;
      });
      fails = λ e. fails;
      fault = λ e. fault;
      none = λ e. k.none;
      read = k.read;
      same = k.same;
    }

-- ---- one frame of the walk, or of a turn, is tried

-- ---- what a write tells

pub one_some : (n : ℕ) → 0 < min (n + 1) (2 ^ 64 - 1)
one_some n = omega arith

told_failed : (b : Backing) (t : Told) → is_backed b ≡ true → 0 < (with_write false b t).search_writes.failed
told_failed backing.None t h = cc
told_failed b t h = one_some t.search_writes.failed

told_none : (b : Backing) (t : Told) → (with_write false b t).search_writes.succeeded ≡ t.search_writes.succeeded
told_none backing.None t = refl
told_none b t = refl

told_read : (ok : Bool) (b : Backing) (t : Told) → (with_write ok b t).last_failed_read ≡ t.last_failed_read
told_read ok backing.None t = refl
told_read ok b t = refl

-- ---- what a write leaves

pub kind_write : (l : FrameLife) (f : Frame) (home : Stored) → (after_move l (move.Write f home)).kind ≡ l.kind
kind_write l f (stored.Slot t) = refl
kind_write l f (stored.Block b) = refl

machine_write : (l : FrameLife) (f : Frame) (home : Stored) → (after_move l (move.Write f home)).machine ≡ l.machine
machine_write l f (stored.Slot t) = refl
machine_write l f (stored.Block b) = refl

flight_write : (l : FrameLife) (f : Frame) (home : Stored) → (after_move l (move.Write f home)).flight ≡ l.flight ++ f.0 ∷ []
flight_write l f (stored.Slot t) = refl
flight_write l f (stored.Block b) = refl

-- the state after both moves
pub two_life : (f : Frame) (s z : StateOf) (t : Tries f false s z) → z.life ≡ after_failed s.life f t.home
two_life f s z t = t.ends.life ∙ ap (λ (l : FrameLife). after_move l (move.Lost f)) t.begins.life

two_written : (f : Frame) (s z : StateOf) (t : Tries f true s z) → z.life ≡ after_written s.life f t.home
two_written f s z t = t.ends.life ∙ ap (λ (l : FrameLife). after_move l (move.Wrote f)) t.begins.life

module _ (f : Frame) (s z : StateOf) (t : Tries f false s z) (reached : ∥ ReachedByMoves s.life ∥₁) (on : is_on f.0 s.life.frames.modified ≡ true) where
  same_life : ReachedByMoves s.life → z.life ≡ put_last s.life f.0
  same_life r = two_life f s z t ∙ failed s.life (reached_sound s.life r) f on t.home t.begins.legal

  off_flight : times f.0 s.life.flight ≡ 0
  off_flight = ∥∥₁_elim reached (hlevel props) (λ r. (modified_frame s.life (reached_sound s.life r) f.0 on).off_flight)

  pub stays : Stays s z
  stays = record {
    kind = ap (λ (l : FrameLife). l.kind) t.ends.life ∙ ap (λ (l : FrameLife). l.kind) t.begins.life ∙ kind_write s.life f t.home;
    machine = ap (λ (l : FrameLife). l.machine) t.ends.life ∙ ap (λ (l : FrameLife). l.machine) t.begins.life ∙ machine_write s.life f t.home;
    flight = ap (λ (l : FrameLife). l.flight) t.ends.life ∙ ap (λ (l : FrameLife). without f.0 l.flight) t.begins.life
        ∙ ap (λ (xs : List ℕ). without f.0 xs) (flight_write s.life f t.home) ∙ begun_ended f.0 s.life.flight off_flight;
  }

  pub shares_stay : (pin : Option Frame) → ((g : Frame) → pin ≡ Some g → 1 ≤ (record_at s.life.frames g.0).shares) → (g : Frame) → pin ≡ Some g → 1 ≤ (record_at z.life.frames g.0).shares
  shares_stay pin was g e = ∥∥₁_elim reached (hlevel props) (λ r. subst (λ (l : FrameLife). 1 ≤ (record_at l.frames g.0).shares) (sym (same_life r)) (was g e))

  pub short_stays : is_short s.life ≡ true → is_short z.life ≡ true
  short_stays e = ∥∥₁_elim reached (Bool-set _ _) (λ r. ap is_short (same_life r) ∙ e)

  told_is : z.told ≡ with_write false (record_at t.mid.life.frames f.0).backing t.mid.told
  told_is = t.ends.told

  pub told_rose : 0 < z.told.search_writes.failed
  told_rose = subst (λ (x : Told). 0 < x.search_writes.failed) (sym told_is) (told_failed (record_at t.mid.life.frames f.0).backing t.mid.told (backed_mid s t.mid f t.home reached on t.begins))

  pub told_kept : z.told.search_writes.succeeded ≡ s.told.search_writes.succeeded
  told_kept = ap (λ (x : Told). x.search_writes.succeeded) told_is ∙ told_none (record_at t.mid.life.frames f.0).backing t.mid.told ∙ ap (λ (x : Told). x.search_writes.succeeded) t.begins.told

  pub read_kept : z.told.last_failed_read ≡ s.told.last_failed_read
  read_kept = ap (λ (x : Told). x.last_failed_read) told_is ∙ told_read false (record_at t.mid.life.frames f.0).backing t.mid.told ∙ ap (λ (x : Told). x.last_failed_read) t.begins.told

-- ---- the frame that is tried

on_false : (f : ℕ) (xs : List ℕ) → times f xs ≡ 0 → is_on f xs ≡ false
on_false f xs none = not_true (is_on f xs) (λ e. let some = times_on f xs e in absurd (omega (arith, none, some)))

pub target_of : (pin : Option Frame) (z : StateOf) (moves : List Move) (f : Frame) → ∥ ReachedByMoves z.life ∥₁ → is_on f.0 z.life.frames.modified ≡ true → next_try z.life moves ≡ Some f.0
    → ((g : Frame) → pin ≡ Some g → 1 ≤ (record_at z.life.frames g.0).shares) → Target pin z moves f
target_of pin z moves f reached on next pinned = record {
  on = on;
  next = next;
  off = ∥∥₁_elim reached (Bool-set _ _) (λ r. on_false f.0 z.life.flight (modified_frame z.life (reached_sound z.life r) f.0 on).off_flight);
  unpinned = λ e. ∥∥₁_elim reached (hlevel props) (λ r. let none = (modified_frame z.life (reached_sound z.life r) f.0 on).unshared in let some = pinned f e in absurd (omega (arith, none, some)));
}

-- a write of it that failed, and one that succeeded
pub failed_on : (pin : Option Frame) (s z y : StateOf) (moves : List Move) (k : Seeks pin s z moves) (f : Frame) → ∥ ReachedByMoves z.life ∥₁ → Target pin z moves f → (t : Tries f false z y) → Seeks pin s y (moves ++ failed_write f t.home)
failed_on pin s z y moves k f reached target t =
    seeks_failed pin s z moves k f target y t (stays f z y t reached target.on) (shares_stay f z y t reached target.on pin k.pinned) (short_stays f z y t reached target.on k.short)
    (told_rose f z y t reached target.on) (told_kept f z y t reached target.on) (read_kept f z y t reached target.on)

pub wrote_on : (pin : Option Frame) (s z y : StateOf) (moves : List Move) (k : Seeks pin s z moves) (f : Frame) → ∥ ReachedByMoves z.life ∥₁ → Target pin z moves f → Tries f true z y → Searched pin true s y
wrote_on pin s z y moves k f reached target t =
    wrote_found pin s z moves k f target y t
    (∥∥₁_elim reached (Bool-set _ _) (λ r. ap is_short (two_written f z y t) ∙ written_found z.life (reached_sound z.life r) f target.on t.home))
    (ap (λ (x : Told). x.last_failed_read) t.ends.told ∙ told_read true (record_at t.mid.life.frames f.0).backing t.mid.told ∙ ap (λ (x : Told). x.last_failed_read) t.begins.told)
