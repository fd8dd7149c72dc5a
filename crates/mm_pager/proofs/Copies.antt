-- A page is copied: where it stands is held, and the copy comes to be, gets a frame and becomes valid.
use Rattle.std.proofs.Common.{◌≡◌, true, Option, Some, None, refl, sym, ap, ◌∙◌, subst, inl, inr, ◌≢◌, ◌<◌, ℕ, false, List, [], ◌∷◌, arith, ◌≤◌, Bool}
use Rattle.std.specs.Prelude.{Result, Ok, Err, IfOk, is_some, IsSome, option_map, unwrap_or, ◌&&◌, not, ◌-◌, if◌then◌else◌}
use Rattle.mm_types.specs.{PageFault, Frame, Key, Place, MachineOf, limit_of, Held, Record}
use Rattle.mm_types.specs.declared.numbers.Key.TheVariants.{Private, Shared}
use Rattle.mm_move_rules.specs.{is_shared, fits_place, record_at, FrameLife, changed, same_key, same_place, key_of_place, owner_is, shows_shared, zero_page}
use Rattle.mm_move_rules.specs.{is_empty, is_first, is_live, is_read, is_touch, is_zero, IsLegal, touches, ResidentSet, with_record, unshared, shared}
use Rattle.mm_move_rules.specs.{is_dead, set_of, is_below_max, after_unmap_at}
use Rattle.mm_store.specs.{Aim, IsSoiledFor, is_copied, is_framed, key_shown, key_written, ByCopy, touch}
use Rattle.mm_frame_laws.specs.{is_calm}
use Rattle.mm_state_calls.specs.{StateOf, Searched, moved_with_call, StateHolds, Made, moved}
use Rattle.mm_pager.specs.{AccessBegins, Faulted, Went, Reaches, Readied, most_reads, IsFresh, TookFrame, LifeKept, HeldAt, KeyAdded, Pins, CopyMapped}
use Rattle.mm_pager.specs.{MayCopy, MayCopyHeld, CopyGiven, CopyPut, Readies, InQuietFrame, IsUncopied}
use Rattle.mm_pager.proofs.AccessMoves.{went_nothing, flight_same, went_then, sought_then, added_then, added_behind, piece_of, kept_made, kept_then, moved_on, went_one, settled_record, look_set}
use Rattle.mm_pager.proofs.Ending.{at_place, named_then, not_here}
use Rattle.mm_types.specs.declared.frames.Held.TheVariants as held
use Rattle.mm_move_laws.proofs.{changed_else, changed_here, same_place-self}
use Rattle.mm_store.specs.Told.{Told}
use Rattle.mm_pager.proofs.Taking.{changed_twice, Ready, first_there, readied_ready, ready_now, took_ready, touches_touch, went_given, copy_still, soiled_for, own_test, map_legal, unmapped_stands, went_map}
use Rattle.mm_pager.proofs.FaultSteps.{MaySeek, search_left, sought_pinned, gives}
use Rattle.mm_types.specs.declared.moves.Move.TheVariants as move
use Rattle.mm_state_calls.proofs.{does_two}
use Rattle.mm_parts.specs.{front, HasSet, left_by, MayMap, names_after_give, names_after_map}
use Rattle.mm_frame_laws.proofs.{sized}
use Rattle.mm_pager.proofs.LettingGo.{gone_then}

-- ---- the page to be copied becomes valid at its place, in an access that makes a copy

pub reaches_begins : (a : Aim) (k : Key) (place : Place) (s : StateOf) → s.life.valid place ≡ None → Reaches a k place s → IsUncopied a s → AccessBegins a k s
reaches_begins a k place s e r u = record { needs = r.needs; from = r.from; at = ap s.life.valid r.at ∙ e; uncopied = u }

-- a shared page fits any place
pub shared_fits : (place : Place) (k : Key) → is_shared k ≡ true → fits_place place k ≡ true
shared_fits place (Private p v) e = cc
shared_fits place (Shared a i) e = refl

-- the page is valid
pub there_readied : (k : Key) (f : Frame) (place : Place) (s : StateOf) → s.life.valid place ≡ Some f → s.names place ≡ Some k → Readied k f place s s
there_readied k f place s v n = record {
  went = λ a r u. went_nothing a (most_reads (s.life.valid place)) s;
  held = record { valid = v; named = n };
  flight = flight_same s.life.flight (Some f) s.life refl;
  calm = record { read = refl; begun = λ e. e };
  names = inl refl;
  still = λ e. refl;
  same = refl;
}

-- or becomes so
pub faulted_readied : (r : Result Frame PageFault) (k : Key) (place : Place) (s z : StateOf) → s.life.valid place ≡ None → IfOk r (λ f. Faulted k f place s z) → IfOk r (λ f. Readied k f place s z)
faulted_readied (Ok f) k place s z e h = record {
  went = λ a r u. subst (λ (o : Option Frame). Went a (most_reads o) s z) (sym e) (h.went a r.at (reaches_begins a k place s e r u));
  held = record { valid = h.placed.valid; named = named_then k place z.names s.names h.placed.names };
  flight = h.flight;
  calm = h.calm;
  names = inr h.placed.names;
  still = λ v. absurd (not_here (s.life.valid place) e v);
  same = h.placed.same;
}
faulted_readied (Err e) k place s z n h = tt

-- ---- A page that is valid at a place is copied to the place's own page

-- ---- the page copied from stays where it is

held_then : (k : Key) (f : Frame) (place : Place) (s t : StateOf) → HeldAt k f place s → Searched (Some f) true s t → HeldAt k f place t
held_then k f place s t h p = record { valid = (search_left (Some f) true s t p).valid place h.valid; named = ap (λ (x : StateOf). x.names place) p.same ∙ h.named }

-- and where the place's own page came to be beside the tables
pub held_given : (k : Key) (f g : Frame) (place : Place) (s t u : StateOf) → MayCopyHeld k f place s → Searched (Some f) true s t → CopyGiven place g t u → HeldAt k f place u
held_given k f g place s t u may p gave =
    let held = held_then k f place s t may.held p in
    record { valid = ap (λ (x : Place → Option Frame). x place) gave.valid ∙ held.valid; named = ap (λ (x : Place → Option Key). x place) gave.names ∙ held.named }

stands_held : (k : Key) (f : Frame) (place : Place) (u : StateOf) → StateHolds u → HeldAt k f place u → u.life.stands k ≡ held.Frame f
stands_held k f place u h at = h.of_frame k f (h.named place f at.valid ∙ at.named)

-- it is none of the place's own
not_own : (k : Key) (place : Place) → is_shared k ≡ true → k ≢ key_of_place place
not_own k place e = λ q. let bad : true ≡ false = sym e ∙ ap is_shared q in cc

-- ---- the bytes can be copied

owner_then : (k : Key) (f : Frame) (u v : StateOf) → StateHolds v → v.life.stands ≡ u.life.stands → u.life.stands k ≡ held.Frame f → (record_at v.life.frames f.0).owner ≡ Some k
owner_then k f u v h s e = h.owner k f (ap (λ (x : Key → Held). x k) s ∙ e)

-- once the copy is valid the page copied from is in its frame still, and the copy in its own
pub copied_from : (k : Key) (f g : Frame) (place : Place) (s t u v : StateOf) → StateHolds u → StateHolds v → MayCopyHeld k f place s → Searched (Some f) true s t → CopyGiven place g t u → CopyPut place g u v → (record_at v.life.frames f.0).owner ≡ Some k
copied_from k f g place s t u v hu hv may p gave put = owner_then k f u v hv put.stands (stands_held k f place u hu (held_given k f g place s t u may p gave))

pub copied_to : (g : Frame) (place : Place) (t u v : StateOf) → StateHolds v → CopyGiven place g t u → CopyPut place g u v → (record_at v.life.frames g.0).owner ≡ Some (key_of_place place)
copied_to g place t u v hv gave put = owner_then (key_of_place place) g u v hv put.stands gave.frame.stands

pub some_of : {A : Type 0} (o : Option A) (x : A) → o ≡ Some x → IsSome o
some_of o x e = ap is_some e

pub other_frame : (k : Key) (place : Place) (f g : Frame) (v : StateOf) → is_shared k ≡ true → (record_at v.life.frames f.0).owner ≡ Some k → (record_at v.life.frames g.0).owner ≡ Some (key_of_place place) → f.0 ≢ g.0
other_frame k place f g v e p q = λ h.
    let same : Some k ≡ Some (key_of_place place) = sym p ∙ ap (λ (n : ℕ). (record_at v.life.frames n).owner) h ∙ q in
    let bad : true ≡ false = sym e ∙ ap (λ (o : Option Key). unwrap_or (option_map is_shared o) false) same in
    cc

-- ---- the piece

-- bytes are no move
went_bytes : (a : Aim) (n : ℕ) (s v : StateOf) (c : Key → Option (List ℕ)) → Went a n s v → Went a n s (record v { contents = c })
went_bytes a n s v c w = record {
  moves = w.moves;
  does = record {
    in_range = w.does.in_range;
    grew = w.does.grew;
    replays = w.does.replays;
    ages = w.does.ages;
    waits = w.does.waits;
    told = w.does.told;
    paging_calls = w.does.paging_calls;
    paging = w.does.paging;
    paging_are = w.does.paging_are;
    file_calls = w.does.file_calls;
    files = w.does.files;
    files_are = w.does.files_are;
    slots_kept = w.does.slots_kept;
    blocks_kept = w.does.blocks_kept;
  };
  each = w.each;
  ends = w.ends;
  fails = w.fails;
  few_reads = w.few_reads;
  few_writes = w.few_writes;
}

pub went_held : (a : Aim) (place : Place) (f : Frame) (s t u v z : StateOf) → MaySeek s → Pins a place f s → Searched (Some f) true s t → TookFrame a 0 t u → Went a 0 u v → z ≡ record v { contents = z.contents } → Went a 0 s z
went_held a place f s t u v z may p h q r e = subst (λ (x : StateOf). Went a 0 s x) (sym e)
    (went_bytes a 0 s v z.contents (went_then a IsFresh 0 0 s u v (sought_then a IsFresh 0 s t u (sought_pinned a place f s t may p h) q) r))

-- ---- what is there then

-- the steps of it: a search, the key's frame, the place, the bytes
pub record Makes (k : Key) (place : Place) (f g : Frame) (s t u v z : StateOf) : Type 0 where
  pub may : MayCopyHeld k f place s
  pub found : Searched (Some f) true s t
  pub gave : CopyGiven place g t u
  pub holds : StateHolds u
  pub put : CopyPut place g u v
  pub left : StateHolds v
  pub bytes : z.contents ≡ changed same_key v.contents (key_of_place place) (v.contents k)
  pub rest : z ≡ record v { contents = z.contents }

module _ (k : Key) (place : Place) (f g : Frame) (s t u v z : StateOf) (m : Makes k place f g s t u v z) where
  made_life : KeyAdded (key_of_place place) s.life z.life
  made_life = subst (λ (x : StateOf). KeyAdded (key_of_place place) s.life x.life) (sym m.rest)
      (added_then (key_of_place place) s.life u.life v.life (added_behind (key_of_place place) s.life t.life u.life (search_left (Some f) true s t m.found).life m.gave.life) m.put.life)

  zeroed_first : v.contents ≡ changed same_key s.contents (key_of_place place) (Some zero_page)
  zeroed_first = ap (λ (x : StateOf). x.contents) m.put.same ∙ m.gave.contents ∙ ap (λ (x : StateOf). changed same_key x.contents (key_of_place place) (Some zero_page)) m.found.same

  made_contents : z.contents ≡ changed same_key s.contents (key_of_place place) (s.contents k)
  made_contents =
      m.bytes ∙ ap (λ (c : Key → Option (List ℕ)). changed same_key c (key_of_place place) (c k)) zeroed_first
      ∙ ap (λ (x : Option (List ℕ)). changed same_key (changed same_key s.contents (key_of_place place) (Some zero_page)) (key_of_place place) x) (changed_else s.contents (key_of_place place) k (Some zero_page) (not_own k place m.may.shared))
      ∙ changed_twice same_key s.contents (key_of_place place) (Some zero_page) (s.contents k)

  made_held : HeldAt k f place u
  made_held = held_given k f g place s t u m.may m.found m.gave

  made_same : z ≡ record (moved_with_call s z) { names = z.names; contents = z.contents }
  made_same =
      m.rest
      ∙ ap (λ (x : StateOf). record x { contents = z.contents }) m.put.same
      ∙ ap (λ (x : StateOf). record (moved_with_call x v) { names = v.names; aside = None; contents = z.contents }) m.gave.same
      ∙ ap (λ (x : StateOf). record (moved_with_call x v) { names = v.names; aside = None; contents = z.contents }) m.found.same
      ∙ sym (ap (λ (x : StateOf). record (moved_with_call s x) { names = x.names; aside = None; contents = z.contents }) m.rest)
      ∙ ap (λ (o : Option Place). record (moved_with_call s z) { names = z.names; aside = o; contents = z.contents }) (sym m.may.aside)

  copy_soiled : IsSoiledFor (key_of_place place) (record_at v.life.frames g.0)
  copy_soiled = soiled_for (key_of_place place) (record_at v.life.frames g.0) (copied_to g place t u v m.left m.gave m.put)
      (record { changed = m.put.flags g.0 ∙ m.gave.soiled.changed; calm = ap is_calm (m.put.quiet g.0) ∙ m.gave.soiled.calm })

  pub made_copied : CopyMapped k place s z
  made_copied = record {
    life = made_life;
    valid = ap (λ (x : StateOf). is_some (x.life.valid place)) m.rest ∙ ap is_some m.put.valid;
    soiled = λ x e. at_place (λ (y : Frame). IsSoiledFor (key_of_place place) (record_at z.life.frames y.0)) (z.life.valid place) g x (ap (λ (y : StateOf). y.life.valid place) m.rest ∙ m.put.valid) e
        (subst (λ (y : StateOf). IsSoiledFor (key_of_place place) (record_at y.life.frames g.0)) (sym m.rest) copy_soiled);
    young = ap (λ (x : StateOf). x.ages place) m.rest ∙ m.put.young;
    names = ap (λ (x : StateOf). x.names) m.rest ∙ m.put.names ∙ ap (λ (n : Place → Option Key). changed same_place n place (Some (key_of_place place))) (m.gave.names ∙ ap (λ (x : StateOf). x.names) m.found.same);
    contents = made_contents;
    framed = ap (λ (x : StateOf). is_framed (x.life.stands k)) m.rest ∙ ap (λ (x : Key → Held). is_framed (x k)) m.put.stands ∙ ap is_framed (stands_held k f place u m.holds made_held);
    read = ap (λ (x : StateOf). x.told.last_failed_read) m.rest ∙ ap (λ (x : Told). x.last_failed_read) m.put.told ∙ m.gave.read ∙ m.found.read;
    same = made_same;
  }

-- there is room for it still
pub room_then : (l m : FrameLife) → LifeKept l m → l.paging_keys < limit_of l.machine → m.paging_keys < limit_of m.machine
room_then l m k h = subst (λ (n : ℕ). n < limit_of m.machine) (sym k.keys) (subst (λ (x : MachineOf). l.paging_keys < limit_of x) (sym k.machine) h)

-- ---- the place's own page can come to be

pub shows_held : (k : Key) (f : Frame) (place : Place) (u : StateOf) → StateHolds u → is_shared k ≡ true → HeldAt k f place u → shows_shared u.life place ≡ true
shows_held k f place u h e at =
    ap (λ (o : Option Frame). unwrap_or (option_map (λ (x : Frame). owner_is is_shared (record_at u.life.frames x.0)) o) false) at.valid
    ∙ ap (λ (o : Option Key). unwrap_or (option_map is_shared o) false) (h.named place f at.valid ∙ at.named)
    ∙ e

pub may_copy : (k : Key) (f : Frame) (place : Place) (s t : StateOf) → StateHolds t → MayCopyHeld k f place s → Searched (Some f) true s t → MayCopy place t
may_copy k f place s t h m p =
    let at = held_then k f place s t m.held p in
    record {
      bound = h.bound place f at.valid;
      dead = ap (λ (x : StateOf). x.contents (key_of_place place)) p.same ∙ m.dead;
      room = room_then s.life t.life (search_left (Some f) true s t p).life m.room;
      shows = shows_held k f place t h m.shared at;
      named = ap is_some at.named;
      aside = ap (λ (x : StateOf). x.aside) p.same ∙ m.aside;
    }

-- ---- A copy comes to be beside the tables, and gets a frame

-- a frame is zeroed first
took_added : (a : Aim) (k : Key) (f : Frame) (s x y z : StateOf) → StateHolds s → s.contents k ≡ None → Readies s x → Made (move.Add k None) x y → a.need.copy ≡ Some k → is_some (s.life.valid a.place) ≡ true → f ≡ front y.life.frames.zeroed → Made (move.Give f k) y z → TookFrame a 0 s z
took_added a k f s x y z h dead r m c v q g = took_ready a IsFresh 0 s x z r (copy_still a k s h c v dead)
    (λ t. piece_of a IsFresh false 0 1 0 t (move.Add k None ∷ move.Give f k ∷ []) x z (does_two (move.Add k None) (move.Give f k) x y z m g) ((c, ap (λ (p : Place → Option Frame). is_some (p a.place)) (readied_ready s x h r).valid ∙ v, (f, refl)), (inr c, tt)) refl refl (omega arith) (omega arith))
    (λ t. q ∙ ap (λ (l : FrameLife). front l.frames.zeroed) m.life)

copy_life : (k : Key) (f : Frame) (s x y z : StateOf) → StateHolds s → Readies s x → Made (move.Add k None) x y → Made (move.Give f k) y z → KeyAdded k s.life z.life
copy_life k f s x y z h r m g =
    let a = subst (λ (l : FrameLife). KeyAdded k x.life l) (sym m.life) (record { machine = refl; line = refl; kind = refl; paging = refl; keys = refl; pids = refl; added = refl }) in
    added_behind k s.life x.life z.life (readied_ready s x h r).life (added_then k x.life y.life z.life a (kept_made (move.Give f k) y z g tt))

pub copy_given : (place : Place) (f : Frame) (s x y z : StateOf) (beside : Option Place) → StateHolds s → StateHolds z → s.contents (key_of_place place) ≡ None → Readies s x → Made (move.Add (key_of_place place) None) x y → y ≡ record (moved x y) { contents = changed same_key x.contents (key_of_place place) (Some zero_page); aside = beside } → y.aside ≡ Some place
    → f ≡ front y.life.frames.zeroed → Made (move.Give f (key_of_place place)) y z → z ≡ record (moved y z) { names = names_after_give y.aside y.names (key_of_place place) } → is_read (record_at z.life.frames f.0).request ≡ false → CopyGiven place f s z
copy_given place f s x y z beside h hz dead r m e aside first g w quiet =
    let k = key_of_place place in
    let ready = readied_ready s x h r in
    let gave = gives k f y y z (ready_now y) g w quiet (λ a n free. went_given a f k y z g n free) in
    record {
      took = λ a p c v. took_added a k f s x y z h dead r m c (ap (λ (q : Place). is_some (s.life.valid q)) p ∙ v) first g;
      life = copy_life k f s x y z h r m g;
      valid = gave.valid ∙ ap (λ (l : FrameLife). l.valid) m.life ∙ ready.valid;
      names = gave.beside place aside refl ∙ ap (λ (u : StateOf). u.names) e ∙ ap (λ (u : StateOf). u.names) ready.rest;
      aside = ap (λ (u : StateOf). u.aside) w ∙ aside;
      contents = ap (λ (u : StateOf). u.contents) w ∙ ap (λ (u : StateOf). u.contents) e ∙ ap (λ (u : StateOf). changed same_key u.contents k (Some zero_page)) ready.rest;
      read = ap (λ (t : Told). t.last_failed_read) g.told ∙ ap (λ (t : Told). t.last_failed_read) m.told ∙ ap (λ (t : Told). t.last_failed_read) ready.told;
      frame = gave.frame;
      soiled = gave.soiled (hz.owner k f gave.frame.stands);
      same =
          gave.keeps.same ∙ ap (λ (u : StateOf). record (moved_with_call u z) { names = z.names; contents = y.contents; aside = y.aside }) e
          ∙ ap (λ (u : StateOf). record (moved_with_call u z) { names = z.names; contents = y.contents; aside = y.aside }) ready.rest
          ∙ (λ i. record (moved_with_call s z) { names = z.names; contents = ap (λ (u : StateOf). u.contents) (sym w) i; aside = ap (λ (u : StateOf). u.aside) (sym w) i });
    }

-- its frame can be given then
pub copy_gives : (place : Place) (s x y : StateOf) → StateHolds s → Readies s x → is_empty x.life.frames.zeroed ≡ false → touches place.pid.0 s.life.kind ≡ true → Made (move.Add (key_of_place place) None) x y → IsLegal (move.Give (front y.life.frames.zeroed) (key_of_place place)) y.life
copy_gives place s x y h r some t m =
    let k = key_of_place place in
    let first = ap (λ (l : FrameLife). is_first (front l.frames.zeroed).0 l.frames.zeroed) m.life ∙ first_there x.life.frames.zeroed some in
    let zero = ap (λ (l : FrameLife). is_zero (l.stands k)) m.life ∙ ap is_zero (changed_here x.life.stands k held.Zero) in
    let touch = ap (λ (l : FrameLife). is_touch l.kind) m.life ∙ ap is_touch (readied_ready s x h r).life.kind ∙ touches_touch place.pid.0 s.life.kind t in
    λ i. first i && zero i && touch i

-- ---- the own page may come to be still

ready_shows : (place : Place) (s x : StateOf) → StateHolds s → StateHolds x → Ready s x → shows_shared s.life place ≡ true → shows_shared x.life place ≡ true
ready_shows place s x h g r e = at (s.life.valid place) refl
  where
    at : (o : Option Frame) → s.life.valid place ≡ o → shows_shared x.life place ≡ true
    at None v = let bad : false ≡ true = sym (ap (λ (o : Option Frame). unwrap_or (option_map (λ f. owner_is is_shared (record_at s.life.frames f.0)) o) false) v) ∙ e in cc
    at (Some f) v =
        let there : x.life.valid place ≡ Some f = ap (λ (p : Place → Option Frame). p place) r.valid ∙ v in
        let owner : (record_at x.life.frames f.0).owner ≡ (record_at s.life.frames f.0).owner =
        g.named place f there ∙ ap (λ (w : StateOf). w.names place) r.rest ∙ sym (h.named place f v) in
        ap (λ (o : Option Frame). unwrap_or (option_map (λ f. owner_is is_shared (record_at x.life.frames f.0)) o) false) there
        ∙ ap (λ (o : Option Key). unwrap_or (option_map is_shared o) false) owner
        ∙ sym (ap (λ (o : Option Frame). unwrap_or (option_map (λ f. owner_is is_shared (record_at s.life.frames f.0)) o) false) v) ∙ e

add_legal : (place : Place) (l : FrameLife) → is_live l (key_of_place place) ≡ false → l.paging_keys < limit_of l.machine → touches place.pid.0 l.kind ≡ true → shows_shared l place ≡ true → IsLegal (move.Add (key_of_place place) None) l
add_legal place l dead room touch shows = grind (arith, dead, room, touch, shows)

pub copy_legal : (place : Place) (s x : StateOf) → StateHolds s → StateHolds x → Readies s x → s.contents (key_of_place place) ≡ None → s.life.paging_keys < limit_of s.life.machine → touches place.pid.0 s.life.kind ≡ true → shows_shared s.life place ≡ true
    → IsLegal (move.Add (key_of_place place) None) x.life
copy_legal place s x h g r dead room touch shows =
    let k = readied_ready s x h r in
    add_legal place x.life
    (g.live (key_of_place place) ∙ ap (λ (w : StateOf). is_some (w.contents (key_of_place place))) k.rest ∙ ap is_some dead)
    (room_then s.life x.life k.life room)
    (ap (touches place.pid.0) k.life.kind ∙ touch)
    (ready_shows place s x h g k shows)

-- ---- A copy becomes valid at its place, where the page that it is a copy of goes

-- ---- the page that was copied goes

in_frame_live : (k : Key) (f : Frame) (s : StateOf) → InQuietFrame k f s → is_live s.life k ≡ true
in_frame_live k f s i = ap (λ (h : Held). not (is_dead h)) i.stands

-- ---- the copy comes

fewer_below : (t : ResidentSet) → 1 ≤ t.max → t.resident ≤ t.max → is_below_max (Some (record t { resident = t.resident - 1 })) ≡ true
fewer_below t m w = grind (arith, m, w)

shows_valid : (l : FrameLife) (p : Place) (o : Option Frame) → unwrap_or (option_map (λ f. owner_is is_shared (record_at l.frames f.0)) o) false ≡ true → l.valid p ≡ o → (f : Frame) × (l.valid p ≡ Some f)
shows_valid l p None e v = cc
shows_valid l p (Some f) e v = (f, v)

below_copied : (place : Place) (s y : StateOf) → HasSet s.life place.pid.0 → shows_shared s.life place ≡ true → Made (move.Unmap place) s y → is_below_max (set_of y.life place.pid.0) ≡ true
below_copied place s y h shows m =
    let f = shows_valid s.life place (s.life.valid place) shows refl in
    ap (λ (x : FrameLife). is_below_max (set_of x place.pid.0)) m.life ∙ ap is_below_max (sized s.life place f.0 h.set f.1 h.found) ∙ fewer_below h.set h.some h.within

pub map_copy : (place : Place) (f : Frame) (s y : StateOf) → StateHolds s → StateHolds y → InQuietFrame (key_of_place place) f y → s.bound place ≡ true → shows_shared s.life place ≡ true → touches place.pid.0 s.life.kind ≡ true → Made (move.Unmap place) s y → IsLegal (move.Map f place) y.life
map_copy place f s y h g i bound shows touch m =
    map_legal (key_of_place place) f place y g i (same_place-self place) (gone_then s y place m)
    (ap (touches place.pid.0) (kept_made (move.Unmap place) s y m tt).kind ∙ touch)
    (below_copied place s y (h.sets place.pid.0 (h.open_process place bound)) shows m)

pub own_may_map : (place : Place) (f : Frame) (y : StateOf) → StateHolds y → InQuietFrame (key_of_place place) f y → MayMap y.life f place
own_may_map place f y g i = λ e. let bad : false ≡ true = sym (own_test is_shared (record_at y.life.frames f.0) (key_of_place place) (g.owner (key_of_place place) f i.stands)) ∙ e in cc

-- ---- the piece

-- the copy of an access is there
copied_by : (a : Aim) (k : Key) (f : Frame) (s : StateOf) → a.need.copy ≡ Some k → InQuietFrame k f s → is_copied a.need s.life ≡ true
copied_by a k f s c i = ap (λ (o : Option Key). unwrap_or (option_map (λ k. is_live s.life k) o) false) c ∙ in_frame_live k f s i

-- and is what becomes valid
copy_shown : (a : Aim) (k : Key) (f : Frame) (s : StateOf) → StateHolds s → a.need.copy ≡ Some k → InQuietFrame k f s → (record_at s.life.frames f.0).owner ≡ Some (key_shown a.need s.life)
copy_shown a k f s h c i =
    h.owner k f i.stands ∙ ap (λ (o : Option Key). Some (unwrap_or o a.need.key)) (sym c)
    ∙ ap (λ (b : Bool). Some (if b then key_written a.need else a.need.key)) (sym (copied_by a k f s c i))

went_put : (a : Aim) (place : Place) (f : Frame) (s y z : StateOf) → StateHolds y → a.place ≡ place → a.need.copy ≡ Some (key_of_place place) → shows_shared s.life place ≡ true → InQuietFrame (key_of_place place) f s → InQuietFrame (key_of_place place) f y → Made (move.Unmap place) s y → Made (move.Map f place) y z → Went a 0 s z
went_put a place f s y z h e c shows i j u m =
    let copied = copied_by a (key_of_place place) f s c i in
    let shown = subst (λ (l : FrameLife). (record_at l.frames f.0).owner ≡ Some (key_shown a.need l)) u.life (copy_shown a (key_of_place place) f y h c j) in
    piece_of a IsFresh false 0 0 0 [] (move.Unmap place ∷ move.Map f place ∷ []) s z (does_two (move.Unmap place) (move.Map f place) s y z u m)
    (ByCopy (sym e) copied shows (f, ap (λ (x : Place). move.Map f x) (sym e)), ((sym e, shown), tt)) refl refl (omega arith) (omega arith)

-- ---- what stays

-- what of the records does not hang on shares
look_unmap : {A : Type 0} (look : Record → A) → ((r : Record) (n : ℕ) → look (record r { shares = n }) ≡ look r) → (l : FrameLife) (p : Place) (g : ℕ) (o : Option Frame) → look (record_at (after_unmap_at o l p).frames g) ≡ look (record_at l.frames g)
look_unmap look same l p g None = refl
look_unmap look same l p g (Some f) =
    let d = with_record l.frames f.0 (unshared (record_at l.frames f.0)) in
    ap look (settled_record (record_at d f.0) d f.0 g) ∙ look_set look l.frames.records f.0 g (unshared (record_at l.frames f.0)) (same (record_at l.frames f.0) _)

put_look : {A : Type 0} (look : Record → A) → ((r : Record) (n : ℕ) → look (record r { shares = n }) ≡ look r) → (place : Place) (f : Frame) (s y z : StateOf) → Made (move.Unmap place) s y → Made (move.Map f place) y z → (g : ℕ) → look (record_at z.life.frames g) ≡ look (record_at s.life.frames g)
put_look look same place f s y z u m g =
    ap (λ (l : FrameLife). look (record_at l.frames g)) m.life ∙ look_set look y.life.frames.records f.0 g (shared (record_at y.life.frames f.0)) (same (record_at y.life.frames f.0) _)
    ∙ ap (λ (l : FrameLife). look (record_at l.frames g)) u.life ∙ look_unmap look same s.life place g (s.life.valid place)

left_here : (o : Option Place) (place : Place) → o ≡ Some place → left_by o place ≡ None
left_here o place e = ap (λ (q : Option Place). left_by q place) e ∙ ap (λ (b : Bool). if b then None else Some place) (same_place-self place)

pub copy_put : (place : Place) (f : Frame) (s y z : StateOf) → StateHolds y → shows_shared s.life place ≡ true → InQuietFrame (key_of_place place) f s → InQuietFrame (key_of_place place) f y → s.aside ≡ Some place → Made (move.Unmap place) s y → y ≡ moved s y → Made (move.Map f place) y z
    → z ≡ record (moved y z) { names = names_after_map y.life.frames y.names f place; aside = left_by y.aside place } → CopyPut place f s z
copy_put place f s y z h shows i j a u r m e =
    let none : left_by y.aside place ≡ None = left_here y.aside place (ap (λ (x : StateOf). x.aside) r ∙ a) in
    let names = ap (λ (x : StateOf). x.names) e in
    record {
      went = λ b p c. went_put b place f s y z h p c shows i j u m;
      life = kept_then s.life y.life z.life (kept_made (move.Unmap place) s y u tt) (kept_made (move.Map f place) y z m tt);
      valid = ap (λ (l : FrameLife). l.valid place) m.life ∙ ap (λ (b : Bool). if b then Some f else y.life.valid place) (same_place-self place);
      young = ap (λ (ages : Place → ℕ). ages place) m.ages ∙ ap (λ (b : Bool). if b then 0 else y.ages place) (same_place-self place);
      stands = ap (λ (l : FrameLife). l.stands) m.life ∙ ap (λ (l : FrameLife). l.stands) u.life ∙ unmapped_stands s.life place (s.life.valid place);
      quiet = put_look (λ (r : Record). r.request) (λ r n. refl) place f s y z u m;
      flags = put_look (λ (r : Record). r.changed) (λ r n. refl) place f s y z u m;
      names = names ∙ ap (λ (o : Option Key). changed same_place y.names place o) (h.owner (key_of_place place) f j.stands) ∙ ap (λ (x : StateOf). changed same_place x.names place (Some (key_of_place place))) r;
      aside = ap (λ (x : StateOf). x.aside) e ∙ none;
      told = m.told ∙ u.told;
      same = moved_on s z z.names None (e ∙ ap (λ (x : StateOf). record (moved x z) { names = names_after_map y.life.frames y.names f place; aside = left_by y.aside place }) r ∙ (λ k. record (moved s z) { names = sym names k; aside = none k }));
    }
