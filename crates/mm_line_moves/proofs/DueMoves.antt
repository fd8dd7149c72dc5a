-- Each move of an access is the one that the tables say is due.
use Rattle.std.proofs.Common.{◌≡◌, true, false, cond, List, [], ◌∷◌, Option, Some, None, refl, sym, ap, ◌∙◌, subst, inl, inr}
use Rattle.std.specs.Prelude.{◌&&◌, ◌||◌, nat_lt, is_some, option_map, unwrap_or}
use Rattle.mm_types.proofs.{both, none_is, parts, some_found}
use Rattle.mm_types.specs.{Frame, Held, Key, Move, Pid, Place, Record, Stored}
use Rattle.mm_types.specs.declared.frames.Held.TheVariants as held
use Rattle.mm_types.specs.declared.moves.Move.TheVariants as move
use Rattle.mm_move_rules.specs.{FrameLife, record_at, is_first, is_empty, is_read, is_write, is_on, is_live, is_zero, is_stored, is_short, is_shared, is_touch, is_thread, is_access, is_zeroer, is_at_max, has_depth, owner_is}
use Rattle.mm_move_rules.specs.{IsLegal, Replays, Through, Walk, after_move, set_of, shows_shared, walked}
use Rattle.mm_move_laws.specs.Sound.{Sound}
use Rattle.mm_move_laws.proofs.{four_parts, keeps, three_parts}
use Rattle.mm_store.specs.{Aim, AccessMove, ByCopy, FromFull, InShortage, IsGiven, IsGivenNext, IsMapped, PageGoes, is_copied, is_framed, is_shortage, key_shown, key_written, wants_frame}
use Rattle.mm_line_moves.specs.{Due, EndsRead, IsDue, TheMove, MakesRoom, Nothing, Seeks, SoughtByUnmap, SoughtByWrite, due, due_at, due_copy, due_map, due_mapped, due_of, due_unmapped, is_unsoiled}
use Rattle.mm_line_moves.proofs.OneEnding.{unmap_valid, unmapped_stands}
use Rattle.mm_line_moves.proofs.DueParts.{below_not_full, cleared_now, copied_is, dead_held, first_part, given_now, is_copied_one, last_of_two, last_part, not_both, not_so, read_now, sought_to_read, sought_to_zero, stolen_to_read}
use Rattle.mm_line_moves.proofs.DueParts.{stolen_to_zero, touch_not_zeroer, used_now, wants_mapped, wants_unmapped, zero_held, zero_lives}
use Rattle.mm_line_moves.proofs.InAccess.{AnyMove, InAccess, unmapped_copied, unmapped_request}

-- ---- what the moves behind tell

-- the key gets the first zeroed frame
given_first : (k : Key) (rest : List Move) (l c : FrameLife) → IsGiven k rest → Replays rest l c → (f : Frame) × (is_first f.0 l.frames.zeroed ≡ true)
given_first k [] l c h r = absurd h
given_first k (m ∷ ms) l c h r =
    let legal = subst (λ (x : Move). IsLegal x l) h.1 r.0 in
    (h.0, first_part _ _ (first_part _ _ legal))

-- the page that is mapped next
record MapsNext (a : Aim) (l : FrameLife) : Type 0 where
  frame : Frame
  stands : l.stands (key_shown a.need l) ≡ held.Frame frame
  quiet : is_read (record_at l.frames frame.0).request ≡ false

module _ (a : Aim) where
  -- a frame that is cleared for a page that is valid nowhere there is given to the key to be had
  cleared_for : (w : Walk) (f : Frame) (rest : List Move) (c : FrameLife) → w.life.valid a.place ≡ None → is_copied a.need w.life ≡ false → IsGivenNext f rest → Through (AccessMove a) w rest → Replays rest w.life c → w.life.stands a.need.key ≡ held.Zero
  cleared_for w f [] c none uncopied h t r = absurd h
  cleared_for w f (move.Give g k ∷ ms) c none uncopied h t r =
      let zero = zero_held (w.life.stands k) (last_part _ _ (first_part _ _ r.0)) in
      elim t.0 [
        | inl p ↦ ap (λ (q : Key). w.life.stands q) (sym p.0) ∙ zero
        | inr p ↦ absurd (not_both (is_copied a.need w.life) (copied_is a.need w.life k p ∙ zero_lives w.life k zero) uncopied)
      ]
  cleared_for w f (move.Add k None ∷ ms) c none uncopied h t r = let bad : false ≡ true = sym (ap is_some none) ∙ t.0.1 in cc
  cleared_for w f (move.Add k (Some b) ∷ ms) c none uncopied h t r = absurd t.0
  cleared_for w f (_ ∷ ms) c none uncopied h t r = absurd h

  map_quiet : (l : FrameLife) (f : Frame) (p : Place) → IsLegal (move.Map f p) l → is_read (record_at l.frames f.0).request ≡ false
  map_quiet l f p legal = not_so _ (last_part _ _ (first_part _ _ (first_part _ _ (first_part _ _ legal))))

  maps_next : (w : Walk) (ms : List Move) (c : FrameLife) → Sound w.life → IsMapped a.place ms → Through (AccessMove a) w ms → Replays ms w.life c → MapsNext a w.life
  maps_next w [] c s h t r = absurd h
  maps_next w (m ∷ ms) c s h t r =
      let is = subst (λ (x : Move). AccessMove a w x ms) h.1 t.0 in
      let legal = subst (λ (x : Move). IsLegal x w.life) h.1 r.0 in
      record {
        frame = h.0;
        stands = s.owned.owned h.0.0 (key_shown a.need w.life) is.1;
        quiet = map_quiet w.life h.0 a.place legal;
      }

  module _ (own : (k : Key) → a.need.copy ≡ Some k → is_shared k ≡ false) (w : Walk) (here : InAccess AnyMove a w.life) where
    unmapped_due : w.life.valid a.place ≡ None → due a w.life ≡ due_unmapped a w.life (w.life.stands a.need.key)
    unmapped_due e = ap (due_at a w.life) e

    mapped_due : (f : Frame) → w.life.valid a.place ≡ Some f → due a w.life ≡ due_of a w.life f a.need.copy
    mapped_due f e = ap (due_at a w.life) e

    makes : (m : Move) → due a w.life ≡ TheMove m → IsDue (due a w.life) a w m
    makes m e = subst (λ (d : Due). IsDue d a w m) (sym e) refl

    lacking : (f : Frame) (k : Key) → w.life.valid a.place ≡ Some f → a.need.copy ≡ Some k → w.life.stands k ≡ held.Dead → due a w.life ≡ due_copy a w.life f k held.Dead
    lacking f k e is dead = mapped_due f e ∙ ap (due_of a w.life f) is ∙ ap (due_copy a w.life f k) dead

    add_due : (k : Key) (rest : List Move) (c : FrameLife) → AccessMove a w (move.Add k None) rest → IsLegal (move.Add k None) w.life → Replays rest (after_move w.life (move.Add k None)) c → IsDue (due a w.life) a w (move.Add k None)
    add_due k rest c h legal r =
        let there = some_found (w.life.valid a.place) h.1 in
        let dead = dead_held (w.life.stands k) (not_so (is_live w.life k) (first_part _ _ (first_part _ _ legal))) in
        let first = given_first k rest (after_move w.life (move.Add k None)) c h.2 r in
        makes (move.Add k None) (lacking there.0 k there.1 h.0 dead ∙ used_now (λ z. move.Add k None) w.life.frames.zeroed w.life.frames.free w.life.frames.standby first.0 first.1)

    clear_due : (f : Frame) (rest : List Move) (c : FrameLife) → AccessMove a w (move.Clear f) rest → IsLegal (move.Clear f) w.life → Through (AccessMove a) (walked w (move.Clear f)) rest → Replays rest (after_move w.life (move.Clear f)) c → IsDue (due a w.life) a w (move.Clear f)
    clear_due f rest c h legal t r = by (w.life.valid a.place) refl
      where
        known : (is_first f.0 w.life.frames.free ≡ true) × ((is_zeroer w.life.kind || (is_touch w.life.kind && is_empty w.life.frames.zeroed)) ≡ true)
        known = parts (is_first f.0 w.life.frames.free) (is_zeroer w.life.kind || (is_touch w.life.kind && is_empty w.life.frames.zeroed)) legal

        first : is_first f.0 w.life.frames.free ≡ true
        first = known.0

        none : is_empty w.life.frames.zeroed ≡ true
        none = last_of_two (is_zeroer w.life.kind) (is_touch w.life.kind) (is_empty w.life.frames.zeroed) (touch_not_zeroer w.life.kind here.touch) known.1

        by : (o : Option Frame) → w.life.valid a.place ≡ o → IsDue (due a w.life) a w (move.Clear f)
        by None e =
            let zero = cleared_for (walked w (move.Clear f)) f rest c e (here.copied e) h.1 t r in
            makes (move.Clear f) (unmapped_due e ∙ ap (due_unmapped a w.life) zero ∙ cleared_now (λ z. move.Give z a.need.key) w.life.frames.zeroed w.life.frames.free w.life.frames.standby f first none)
        by (Some g) e =
            let lacks = wants_mapped a.need a.place w.life g e h.0 in
            makes (move.Clear f) (lacking g lacks.key e lacks.is lacks.dead ∙ cleared_now (λ z. move.Add lacks.key None) w.life.frames.zeroed w.life.frames.free w.life.frames.standby f first none)

    steal_due : (f : Frame) (rest : List Move) → AccessMove a w (move.Steal f) rest → IsLegal (move.Steal f) w.life → IsDue (due a w.life) a w (move.Steal f)
    steal_due f rest h legal = by (w.life.valid a.place) refl
      where
        first : is_first f.0 w.life.frames.standby ≡ true
        first = (four_parts (is_first f.0 w.life.frames.standby) (is_empty w.life.frames.zeroed) (is_empty w.life.frames.free) (is_touch w.life.kind) legal).0

        none : is_empty w.life.frames.zeroed ≡ true
        none = (four_parts (is_first f.0 w.life.frames.standby) (is_empty w.life.frames.zeroed) (is_empty w.life.frames.free) (is_touch w.life.kind) legal).1

        lacks : is_empty w.life.frames.free ≡ true
        lacks = (four_parts (is_first f.0 w.life.frames.standby) (is_empty w.life.frames.zeroed) (is_empty w.life.frames.free) (is_touch w.life.kind) legal).2

        by_held : (at : Held) → is_framed at ≡ false → due_unmapped a w.life at ≡ TheMove (move.Steal f)
        by_held (held.Frame g) e = cc
        by_held held.Zero e = stolen_to_zero (λ z. move.Give z a.need.key) w.life.frames.zeroed w.life.frames.free w.life.frames.standby f first none lacks
        by_held _ e = stolen_to_read a.need.key w.life.frames.zeroed w.life.frames.free w.life.frames.standby f first none lacks

        by : (o : Option Frame) → w.life.valid a.place ≡ o → IsDue (due a w.life) a w (move.Steal f)
        by None e = makes (move.Steal f) (unmapped_due e ∙ by_held (w.life.stands a.need.key) (wants_unmapped a.need a.place w.life e h.0))
        by (Some g) e =
            let copy = wants_mapped a.need a.place w.life g e h.0 in
            makes (move.Steal f) (lacking g copy.key e copy.is copy.dead ∙ stolen_to_zero (λ z. move.Add copy.key None) w.life.frames.zeroed w.life.frames.free w.life.frames.standby f first none lacks)

    give_due : (f : Frame) (k : Key) (rest : List Move) → AccessMove a w (move.Give f k) rest → IsLegal (move.Give f k) w.life → IsDue (due a w.life) a w (move.Give f k)
    give_due f k rest h legal = elim h [
      | inl p ↦
          makes (move.Give f k)
          (unmapped_due p.1 ∙ ap (due_unmapped a w.life) (ap (λ (q : Key). w.life.stands q) (sym p.0) ∙ zero)
          ∙ used_now (λ z. move.Give z a.need.key) w.life.frames.zeroed w.life.frames.free w.life.frames.standby f first
          ∙ ap (λ (q : Key). TheMove (move.Give f q)) (sym p.0))
      | inr p ↦ by p (w.life.valid a.place) refl
    ]
      where
        first : is_first f.0 w.life.frames.zeroed ≡ true
        first = (three_parts (is_first f.0 w.life.frames.zeroed) (is_zero (w.life.stands k)) (is_touch w.life.kind) legal).0

        zero : w.life.stands k ≡ held.Zero
        zero = zero_held (w.life.stands k) (three_parts (is_first f.0 w.life.frames.zeroed) (is_zero (w.life.stands k)) (is_touch w.life.kind) legal).1

        by : a.need.copy ≡ Some k → (o : Option Frame) → w.life.valid a.place ≡ o → IsDue (due a w.life) a w (move.Give f k)
        by p None e = absurd (not_both (is_copied a.need w.life) (copied_is a.need w.life k p ∙ zero_lives w.life k zero) (here.copied e))
        by p (Some g) e = makes (move.Give f k) (mapped_due g e ∙ ap (due_of a w.life g) p ∙ ap (due_copy a w.life g k) zero ∙ given_now k w.life.frames.zeroed f first)

    read_due : (f : Frame) (k : Key) (rest : List Move) → AccessMove a w (move.Read f k) rest → IsLegal (move.Read f k) w.life → IsDue (due a w.life) a w (move.Read f k)
    read_due f k rest h legal =
        makes (move.Read f k)
        (unmapped_due h.1 ∙ by_held (w.life.stands a.need.key) (subst (λ (q : Key). is_stored (w.life.stands q) ≡ true) h.0 stored)
        ∙ ap (λ (q : Key). TheMove (move.Read f q)) (sym h.0))
      where
        stored : is_stored (w.life.stands k) ≡ true
        stored = (three_parts (is_first f.0 w.life.frames.free || (is_empty w.life.frames.free && is_first f.0 w.life.frames.zeroed)) (is_stored (w.life.stands k)) (is_access w.life.kind || (is_thread w.life.kind && has_depth w.life)) legal).1

        first : (is_first f.0 w.life.frames.free || (is_empty w.life.frames.free && is_first f.0 w.life.frames.zeroed)) ≡ true
        first = (three_parts (is_first f.0 w.life.frames.free || (is_empty w.life.frames.free && is_first f.0 w.life.frames.zeroed)) (is_stored (w.life.stands k)) (is_access w.life.kind || (is_thread w.life.kind && has_depth w.life)) legal).0

        by_held : (at : Held) → is_stored at ≡ true → due_unmapped a w.life at ≡ TheMove (move.Read f a.need.key)
        by_held (held.Slot s) e = read_now a.need.key w.life.frames.zeroed w.life.frames.free w.life.frames.standby f first
        by_held (held.Block b) e = read_now a.need.key w.life.frames.zeroed w.life.frames.free w.life.frames.standby f first
        by_held _ e = cc

    reading : (f : Frame) → w.life.valid a.place ≡ None → w.life.stands a.need.key ≡ held.Frame f → is_read (record_at w.life.frames f.0).request ≡ true → due a w.life ≡ EndsRead f
    reading f none stands read = unmapped_due none ∙ ap (due_unmapped a w.life) stands ∙ ap (λ b. cond b (EndsRead f) (due_map a w.life f)) read

    got_due : (f : Frame) (rest : List Move) → AccessMove a w (move.Got f) rest → IsLegal (move.Got f) w.life → IsDue (due a w.life) a w (move.Got f)
    got_due f rest h legal = subst (λ (d : Due). IsDue d a w (move.Got f)) (sym (reading f h.1 (here.sound.owned.owned f.0 a.need.key h.0) (first_part _ _ legal))) (inl refl)

    bad_due : (f : Frame) (rest : List Move) → AccessMove a w (move.Bad f) rest → IsLegal (move.Bad f) w.life → IsDue (due a w.life) a w (move.Bad f)
    bad_due f rest h legal = subst (λ (d : Due). IsDue d a w (move.Bad f)) (sym (reading f h.1 (here.sound.owned.owned f.0 a.need.key h.0) (first_part _ _ legal))) (inr refl)

    -- a page that has a frame, and is not being read, is to be mapped
    placing : (f : Frame) → w.life.valid a.place ≡ None → w.life.stands a.need.key ≡ held.Frame f → is_read (record_at w.life.frames f.0).request ≡ false → due a w.life ≡ due_map a w.life f
    placing f none stands quiet = unmapped_due none ∙ ap (due_unmapped a w.life) stands ∙ ap (λ b. cond b (EndsRead f) (due_map a w.life f)) quiet

    uncopied_shown : (l : FrameLife) → is_copied a.need l ≡ false → key_shown a.need l ≡ a.need.key
    uncopied_shown l e = ap (λ b. cond b (key_written a.need) a.need.key) e

    map_due : (f : Frame) (p : Place) (rest : List Move) → AccessMove a w (move.Map f p) rest → IsLegal (move.Map f p) w.life → IsDue (due a w.life) a w (move.Map f p)
    map_due f p rest h legal =
        let free : w.life.valid p ≡ None = none_is _ (last_part _ _ (first_part _ _ (first_part _ _ legal))) in
        let none : w.life.valid a.place ≡ None = ap w.life.valid (sym h.0) ∙ free in
        let shown = uncopied_shown w.life (here.copied none) in
        let stands = here.sound.owned.owned f.0 a.need.key (h.1 ∙ ap (λ (q : Key). Some q) shown) in
        let below : is_at_max (set_of w.life p.pid.0) ≡ false = below_not_full (set_of w.life p.pid.0) (last_part _ _ legal) in
        let room : is_at_max (set_of w.life a.place.pid.0) ≡ false = ap (λ (q : Place). is_at_max (set_of w.life q.pid.0)) (sym h.0) ∙ below in
        makes (move.Map f p)
        (placing f none stands (map_quiet w.life f p legal) ∙ ap (λ b. cond b MakesRoom (TheMove (move.Map f a.place))) room
        ∙ ap (λ (q : Place). TheMove (move.Map f q)) (sym h.0))

    pub seeking : is_shortage a.need a.place w.life ≡ true → due a w.life ≡ Seeks
    seeking h = by (w.life.valid a.place) refl
      where
        short : is_short w.life ≡ true
        short = first_part (is_short w.life) (wants_frame a.need a.place w.life) h

        wants : wants_frame a.need a.place w.life ≡ true
        wants = last_part (is_short w.life) (wants_frame a.need a.place w.life) h

        by_held : (at : Held) → is_framed at ≡ false → due_unmapped a w.life at ≡ Seeks
        by_held (held.Frame g) e = cc
        by_held held.Zero e = sought_to_zero (λ z. move.Give z a.need.key) w.life.frames.zeroed w.life.frames.free w.life.frames.standby short
        by_held _ e = sought_to_read a.need.key w.life.frames.zeroed w.life.frames.free w.life.frames.standby short

        by : (o : Option Frame) → w.life.valid a.place ≡ o → due a w.life ≡ Seeks
        by None e = unmapped_due e ∙ by_held (w.life.stands a.need.key) (wants_unmapped a.need a.place w.life e wants)
        by (Some g) e =
            let copy = wants_mapped a.need a.place w.life g e wants in
            lacking g copy.key e copy.is copy.dead ∙ sought_to_zero (λ z. move.Add copy.key None) w.life.frames.zeroed w.life.frames.free w.life.frames.standby short

    write_due : (f : Frame) (s : Stored) (rest : List Move) → AccessMove a w (move.Write f s) rest → IsDue (due a w.life) a w (move.Write f s)
    write_due f s rest h = subst (λ (d : Due). IsDue d a w (move.Write f s)) (sym (seeking h.0)) (SoughtByWrite f s refl h.1)

    -- ---- pages that go

    shared_there : (f : Frame) (p : Place) → p ≡ a.place → w.life.valid a.place ≡ Some f → shows_shared w.life p ≡ true → owner_is is_shared (record_at w.life.frames f.0) ≡ true
    shared_there f p e there h =
        sym (ap (λ (o : Option Frame). unwrap_or (option_map (λ (g : Frame). owner_is is_shared (record_at w.life.frames g.0)) o) false) (ap w.life.valid e ∙ there)) ∙ h

    copy_goes : (p : Place) (rest : List Move) (c : FrameLife) → IsLegal (move.Unmap p) w.life → Through (AccessMove a) (walked w (move.Unmap p)) rest → Replays rest (after_move w.life (move.Unmap p)) c
        → p ≡ a.place → is_copied a.need w.life ≡ true → shows_shared w.life p ≡ true → IsMapped a.place rest → IsDue (due a w.life) a w (move.Unmap p)
    copy_goes p rest c legal t r e copied shows next = by (w.life.valid a.place) refl
      where
        by : (o : Option Frame) → w.life.valid a.place ≡ o → IsDue (due a w.life) a w (move.Unmap p)
        by None there = absurd (unmap_valid w.life p legal (ap w.life.valid e ∙ there))
        by (Some f) there =
            let copy = is_copied_one a.need w.life copied in
            let maps = maps_next (walked w (move.Unmap p)) rest c (keeps (move.Unmap p) w.life here.sound legal) next t r in
            let shown : key_shown a.need (after_move w.life (move.Unmap p)) ≡ copy.key =
            ap (λ b. cond b (key_written a.need) a.need.key) (unmapped_copied a.need w.life p ∙ copied) ∙ ap (λ (o : Option Key). unwrap_or o a.need.key) copy.is in
            let stands : w.life.stands copy.key ≡ held.Frame maps.frame =
            sym (unmapped_stands (w.life.valid p) w.life p copy.key) ∙ ap (λ (q : Key). (after_move w.life (move.Unmap p)).stands q) (sym shown) ∙ maps.stands in
            makes (move.Unmap p)
            (mapped_due f there ∙ ap (due_of a w.life f) copy.is ∙ ap (due_copy a w.life f copy.key) stands
            ∙ ap (λ b. cond b (TheMove (move.Unmap a.place)) (due_mapped a w.life f)) (shared_there f p e there shows)
            ∙ ap (λ (q : Place). TheMove (move.Unmap q)) (sym e))

    room_due : (p : Place) (rest : List Move) (c : FrameLife) → IsLegal (move.Unmap p) w.life → Through (AccessMove a) (walked w (move.Unmap p)) rest → Replays rest (after_move w.life (move.Unmap p)) c
        → p.pid ≡ a.place.pid → w.life.valid a.place ≡ None → is_at_max (set_of w.life p.pid.0) ≡ true → IsMapped a.place rest → due a w.life ≡ MakesRoom
    room_due p rest c legal t r q none full next =
        let maps = maps_next (walked w (move.Unmap p)) rest c (keeps (move.Unmap p) w.life here.sound legal) next t r in
        let shown = uncopied_shown (after_move w.life (move.Unmap p)) (unmapped_copied a.need w.life p ∙ here.copied none) in
        let stands : w.life.stands a.need.key ≡ held.Frame maps.frame =
        sym (unmapped_stands (w.life.valid p) w.life p a.need.key) ∙ ap (λ (k : Key). (after_move w.life (move.Unmap p)).stands k) (sym shown) ∙ maps.stands in
        let quiet = sym (unmapped_request (λ (x : Record). is_read x.request) (λ x. refl) w.life p maps.frame.0) ∙ maps.quiet in
        placing maps.frame none stands quiet
        ∙ ap (λ b. cond b MakesRoom (TheMove (move.Map maps.frame a.place))) (ap (λ (x : Pid). is_at_max (set_of w.life x.0)) (sym q) ∙ full)

    goes_due : (p : Place) (rest : List Move) (c : FrameLife) → IsLegal (move.Unmap p) w.life → Through (AccessMove a) (walked w (move.Unmap p)) rest → Replays rest (after_move w.life (move.Unmap p)) c → PageGoes a w p rest → IsDue (due a w.life) a w (move.Unmap p)
    goes_due p rest c legal t r (ByCopy e copied shows next) = copy_goes p rest c legal t r e copied shows next
    goes_due p rest c legal t r (FromFull q none full old next) =
        subst (λ (d : Due). IsDue d a w (move.Unmap p)) (sym (room_due p rest c legal t r q none full next)) (p, refl, q, old)
    goes_due p rest c legal t r (InShortage access short none victim) =
        subst (λ (d : Due). IsDue d a w (move.Unmap p)) (sym (seeking short)) (SoughtByUnmap p refl access none victim)

    -- ---- pages that are written

    soil_due : (f : Frame) (rest : List Move) → AccessMove a w (move.Soil f) rest → IsLegal (move.Soil f) w.life → IsDue (due a w.life) a w (move.Soil f)
    soil_due f rest h legal = makes (move.Soil f) (mapped_due f h.1 ∙ by a.need.copy refl)
      where
        unsoiled : is_unsoiled (record_at w.life.frames f.0) ≡ true
        unsoiled = (three_parts (nat_lt 0 (record_at w.life.frames f.0).shares) (is_unsoiled (record_at w.life.frames f.0)) (is_touch w.life.kind) legal).1

        here_soiled : due_mapped a w.life f ≡ TheMove (move.Soil f)
        here_soiled = ap (λ b. cond b (TheMove (move.Soil f)) Nothing) (both a.writes (is_unsoiled (record_at w.life.frames f.0)) h.0 unsoiled)

        by : (o : Option Key) → a.need.copy ≡ o → due_of a w.life f o ≡ TheMove (move.Soil f)
        by None e = here_soiled
        by (Some k) e =
            let owner : (record_at w.life.frames f.0).owner ≡ Some k = h.2 ∙ ap (λ (o : Option Key). Some (unwrap_or o a.need.key)) e in
            let private : owner_is is_shared (record_at w.life.frames f.0) ≡ false = ap (λ (o : Option Key). unwrap_or (option_map is_shared o) false) owner ∙ own k e in
            ap (due_copy a w.life f k) (here.sound.owned.owned f.0 k owner) ∙ ap (λ b. cond b (TheMove (move.Unmap a.place)) (due_mapped a w.life f)) private ∙ here_soiled

    -- no write of the line's own is in flight
    pub none_ends : (f : Frame) → is_write (record_at w.life.frames f.0).request ≡ true → is_on f.0 a.start.flight ≡ false → ⊥
    none_ends f write off = elim (here.begun f.0 write) [
      | inl on ↦ not_both (is_on f.0 a.start.flight) on off
      | inr bad ↦ bad
    ]

    pub move_due : (m : Move) (rest : List Move) (c : FrameLife) → AccessMove a w m rest → IsLegal m w.life → Through (AccessMove a) (walked w m) rest → Replays rest (after_move w.life m) c → IsDue (due a w.life) a w m
    move_due (move.At n k) rest c h legal t r = absurd h
    move_due (move.Add k None) rest c h legal t r = add_due k rest c h legal r
    move_due (move.Add k (Some b)) rest c h legal t r = absurd h
    move_due (move.Drop k) rest c h legal t r = absurd h
    move_due (move.Clear f) rest c h legal t r = clear_due f rest c h legal t r
    move_due (move.Steal f) rest c h legal t r = steal_due f rest h legal
    move_due (move.Give f k) rest c h legal t r = give_due f k rest h legal
    move_due (move.Read f k) rest c h legal t r = read_due f k rest h legal
    move_due (move.Got f) rest c h legal t r = got_due f rest h legal
    move_due (move.Bad f) rest c h legal t r = bad_due f rest h legal
    move_due (move.Map f p) rest c h legal t r = map_due f p rest h legal
    move_due (move.Unmap p) rest c h legal t r = goes_due p rest c legal t r h
    move_due (move.Soil f) rest c h legal t r = soil_due f rest h legal
    move_due (move.Write f s) rest c h legal t r = write_due f s rest h
    move_due (move.Wrote f) rest c h legal t r = absurd (none_ends f (first_part _ _ legal) h)
    move_due (move.Lost f) rest c h legal t r = absurd (none_ends f (first_part _ _ legal) h)
