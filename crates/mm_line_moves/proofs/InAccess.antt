-- What holds between two moves of an access, and what each move keeps of it.
use Rattle.std.proofs.Common.{◌≡◌, ◌≢◌, ◌⊎◌, ℕ, zero, suc, Bool, true, false, cond, List, [], ◌∷◌, ◌++◌, Option, Some, None, refl, sym, ap, ◌∙◌, inl, inr, slice_index_or, slice_set, arith}
use Rattle.std.specs.Prelude.{not, ◌&&◌, ◌||◌, is_some, option_map, unwrap_or, if◌then◌else◌}
use Rattle.mm_types.specs.{Frame, Held, Key, Move, Place, Record, Request, Stored, Backing}
use Rattle.mm_types.specs.declared.frames.Backing.TheVariants as backing
use Rattle.mm_types.specs.declared.frames.Held.TheVariants as held
use Rattle.mm_types.specs.declared.frames.Request.TheVariants as request
use Rattle.mm_types.specs.declared.moves.Move.TheVariants as move
use Rattle.mm_types.specs.declared.moves.Stored.TheVariants as stored
use Rattle.mm_move_rules.specs.{FrameLife, FrameTable, record_at, blank, given, being_read, being_written, read_done, write_done, write_lost, shared, unshared, soiled, has_request, is_again, is_write, is_on, is_live, is_dead, is_touch}
use Rattle.mm_move_rules.specs.{IsLegal, is_legal_soil, Walk, after_move, after_unmap_at, backing_of, changed, homed, home_at, same_key, same_place, settled_by, with_record, without_slot}
use Rattle.mm_move_rules.proofs.{records_settled, records_taken, same_key-true, stored_live}
use Rattle.mm_move_laws.specs.Sound.{Sound}
use Rattle.mm_move_laws.proofs.{keeps, owner_lives, same_place-self}
use Rattle.mm_world.specs.{Need}
use Rattle.mm_store.specs.{Aim, AccessMove, is_copied}
use Rattle.mm_line_moves.proofs.OneEnding.{unmapped_stands}
use Rattle.mm_line_moves.proofs.DueParts.{first_part, last_part, not_both, zero_held, zero_lives}

-- ---- what was begun

-- which move comes next: any, the end of the write that began, or the map of the copy
pub data Then : Type 0 where
  AnyMove : Then
  EndsWrite : Frame → Then
  MapsCopy : Then

abbrev IsWriting : Then → ℕ → Type 0
IsWriting AnyMove f = ⊥
IsWriting (EndsWrite g) f = f ≡ g.0
IsWriting MapsCopy f = ⊥

-- where no page is valid at the place, no copy has come to be, but for the moment in which it is mapped
abbrev IsUncopied : Then → Aim → FrameLife → Type 0
IsUncopied AnyMove a l = l.valid a.place ≡ None → is_copied a.need l ≡ false
IsUncopied (EndsWrite g) a l = l.valid a.place ≡ None → is_copied a.need l ≡ false
IsUncopied MapsCopy a l = Unit {0}

pub record InAccess (t : Then) (a : Aim) (l : FrameLife) : Type 0 where
  pub sound : Sound l
  pub touch : is_touch l.kind ≡ true
  pub copied : IsUncopied t a l
  -- the writes in flight were so when the line began
  pub begun : (f : ℕ) → is_write (record_at l.frames f).request ≡ true → (is_on f a.start.flight ≡ true) ⊎ IsWriting t f

-- ---- records

-- what is looked at in the records, where one changes
look_at : {A : Type 0} (look : Record → A) (xs : List Record) (f g : ℕ) (r : Record) → look r ≡ look (slice_index_or xs f blank) → look (slice_index_or (slice_set xs f r) g blank) ≡ look (slice_index_or xs g blank)
look_at look [] f g r e = refl
look_at look (x ∷ xs) zero zero r e = e
look_at look (x ∷ xs) zero (suc g) r e = refl
look_at look (x ∷ xs) (suc f) zero r e = refl
look_at look (x ∷ xs) (suc f) (suc g) r e = look_at look xs f g r e

abbrev writing : List Record → ℕ → Bool
writing xs g = is_write (slice_index_or xs g blank).request

-- a frame that is being written then
data WrittenAt (xs : List Record) (f g : ℕ) (r : Record) : Type 0 where
  Here : g ≡ f → is_write r.request ≡ true → WrittenAt xs f g r
  Else : g ≢ f → writing xs g ≡ true → WrittenAt xs f g r

later : (x : Record) (xs : List Record) (f g : ℕ) (r : Record) → WrittenAt xs f g r → WrittenAt (x ∷ xs) (suc f) (suc g) r
later x xs f g r (Here e w) = Here (ap suc e) w
later x xs f g r (Else e w) = Else (λ h. e (omega (arith, h))) w

written_at : (xs : List Record) (f g : ℕ) (r : Record) → writing (slice_set xs f r) g ≡ true → WrittenAt xs f g r
written_at [] f g r e = cc
written_at (x ∷ xs) zero zero r e = Here refl e
written_at (x ∷ xs) zero (suc g) r e = Else (λ h. omega (arith, h)) e
written_at (x ∷ xs) (suc f) zero r e = Else (λ h. omega (arith, h)) e
written_at (x ∷ xs) (suc f) (suc g) r e = later x xs f g r (written_at xs f g r e)

-- a record that is not being written hides no write
unwritten : (xs : List Record) (f g : ℕ) (r : Record) → is_write r.request ≡ false → writing (slice_set xs f r) g ≡ true → (g ≢ f) × (writing xs g ≡ true)
unwritten xs f g r none e = by (written_at xs f g r e)
  where
    by : WrittenAt xs f g r → (g ≢ f) × (writing xs g ≡ true)
    by (Here h w) = absurd (not_both (is_write r.request) w none)
    by (Else h w) = (h, w)

settled_after : (r : Record) (d : FrameTable) (f g : ℕ) → writing (settled_by r d f).records g ≡ writing d.records g
settled_after r d f g = ap (λ (xs : List Record). writing xs g) (records_settled r d f)

-- the frame of a request that ended
ended_at : (here : Bool) (d : FrameTable) (f g : ℕ) (r : Record) → is_write r.request ≡ false
    → writing (if here then settled_by (record_at (with_record d f r) f) (with_record d f r) f else record d { records = slice_set d.records f blank; free = d.free ++ f ∷ [] }).records g ≡ true → (g ≢ f) × (writing d.records g ≡ true)
ended_at true d f g r none e = unwritten d.records f g r none (sym (settled_after (record_at (with_record d f r) f) (with_record d f r) f g) ∙ e)
ended_at false d f g r none e = unwritten d.records f g blank refl e

done_calm : (r : Record) → is_write (write_done r).request ≡ false
done_calm r = by (is_again r.request)
  where
    by : (b : Bool) → is_write (if b then record r { request = request.None; backing = without_slot r.backing } else record r { request = request.None; changed = false }).request ≡ false
    by true = refl
    by false = refl

-- ---- a place that is unmapped

unmapped_part : {A : Type 0} (look : Record → A) → ((r : Record) → look (unshared r) ≡ look r) → (o : Option Frame) (l : FrameLife) (p : Place) (g : ℕ) → look (record_at (after_unmap_at o l p).frames g) ≡ look (record_at l.frames g)
unmapped_part look same None l p g = refl
unmapped_part look same (Some f) l p g =
    let d = with_record l.frames f.0 (unshared (record_at l.frames f.0)) in
    ap (λ (xs : List Record). look (slice_index_or xs g blank)) (records_settled (record_at d f.0) d f.0)
    ∙ look_at look l.frames.records f.0 g (unshared (record_at l.frames f.0)) (same (record_at l.frames f.0))

-- a frame keeps its request
pub unmapped_request : {A : Type 0} (look : Record → A) → ((r : Record) → look (unshared r) ≡ look r) → (l : FrameLife) (p : Place) (g : ℕ) → look (record_at (after_move l (move.Unmap p)).frames g) ≡ look (record_at l.frames g)
unmapped_request look same l p g = unmapped_part look same (l.valid p) l p g

-- ---- the copy

copied_as : (n : Need) (l m : FrameLife) → ((k : Key) → is_live m k ≡ is_live l k) → is_copied n m ≡ is_copied n l
copied_as n l m same = by n.copy
  where
    by : (o : Option Key) → unwrap_or (option_map (λ k. is_live m k) o) false ≡ unwrap_or (option_map (λ k. is_live l k) o) false
    by None = refl
    by (Some k) = same k

pub unmapped_copied : (n : Need) (l : FrameLife) (p : Place) → is_copied n (after_move l (move.Unmap p)) ≡ is_copied n l
unmapped_copied n l p = copied_as n l (after_move l (move.Unmap p)) (λ k. ap (λ (h : Held). not (is_dead h)) (unmapped_stands (l.valid p) l p k))

-- a key that lived stands elsewhere: no copy comes to be
moved_dead : (l : FrameLife) (q : Key) (v : Held) → is_live l q ≡ true → (k : Key) → is_live l k ≡ false → not (is_dead (changed same_key l.stands q v k)) ≡ false
moved_dead l q v live k dead = by (same_key k q) refl
  where
    by : (b : Bool) → same_key k q ≡ b → not (is_dead (if b then v else l.stands k)) ≡ false
    by true e = absurd (not_both (is_live l q) live (sym (ap (λ (x : Key). is_live l x) (same_key-true k q e)) ∙ dead))
    by false e = dead

moved_copied : (n : Need) (l : FrameLife) (q : Key) (v : Held) → is_live l q ≡ true → is_copied n l ≡ false → unwrap_or (option_map (λ k. not (is_dead (changed same_key l.stands q v k))) n.copy) false ≡ false
moved_copied n l q v live none = by n.copy none
  where
    by : (o : Option Key) → unwrap_or (option_map (λ k. is_live l k) o) false ≡ false → unwrap_or (option_map (λ k. not (is_dead (changed same_key l.stands q v k))) o) false ≡ false
    by None e = refl
    by (Some k) e = moved_dead l q v live k e

homed_copied : (n : Need) (l : FrameLife) (s : Sound l) (f : Frame) (o : Option Key) (b : Backing) → (record_at l.frames f.0).owner ≡ o → is_copied n l ≡ false → unwrap_or (option_map (λ k. not (is_dead (homed l o b k))) n.copy) false ≡ false
homed_copied n l s f None b e none = none
homed_copied n l s f (Some q) b e none = moved_copied n l q (home_at b) (owner_lives l s q f.0 e) none

-- ---- a move

kind_unmapped : (o : Option Frame) (l : FrameLife) (p : Place) → (after_unmap_at o l p).kind ≡ l.kind
kind_unmapped None l p = refl
kind_unmapped (Some f) l p = refl

kind_written : (l : FrameLife) (f : Frame) (s : Stored) → (after_move l (move.Write f s)).kind ≡ l.kind
kind_written l f (stored.Slot s) = refl
kind_written l f (stored.Block b) = refl

pub kind_kept : (a : Aim) (w : Walk) (m : Move) (rest : List Move) → AccessMove a w m rest → (after_move w.life m).kind ≡ w.life.kind
kind_kept a w (move.At n k) rest h = absurd h
kind_kept a w (move.Add k None) rest h = refl
kind_kept a w (move.Add k (Some b)) rest h = absurd h
kind_kept a w (move.Drop k) rest h = absurd h
kind_kept a w (move.Unmap p) rest h = kind_unmapped (w.life.valid p) w.life p
kind_kept a w (move.Write f s) rest h = kind_written w.life f s
kind_kept a w _ rest h = refl

module _ (a : Aim) (w : Walk) (rest : List Move) where
  abbrev Begun : Then → FrameLife → Type 0
  Begun t l = (f : ℕ) → is_write (record_at l.frames f).request ≡ true → (is_on f a.start.flight ≡ true) ⊎ IsWriting t f

  kept_by : (t : Then) (m : Move) → Sound w.life → is_touch w.life.kind ≡ true → AccessMove a w m rest → IsLegal m w.life → IsUncopied t a (after_move w.life m) → Begun t (after_move w.life m) → InAccess t a (after_move w.life m)
  kept_by t m s touch h legal u b = record { sound = keeps m w.life s legal; touch = ap is_touch (kind_kept a w m rest h) ∙ touch; copied = u; begun = b }

  module _ (here : InAccess AnyMove a w.life) where
    -- a frame whose record changed is not being written
    begun_but : (f : ℕ) (r : Record) → is_write r.request ≡ false → (g : ℕ) → writing (slice_set w.life.frames.records f r) g ≡ true → (is_on g a.start.flight ≡ true) ⊎ ⊥
    begun_but f r none g e = here.begun g (unwritten w.life.frames.records f g r none e).1

    begun_as : (f : ℕ) (r : Record) → is_write r.request ≡ is_write (record_at w.life.frames f).request → (g : ℕ) → writing (slice_set w.life.frames.records f r) g ≡ true → (is_on g a.start.flight ≡ true) ⊎ ⊥
    begun_as f r same g e = here.begun g (sym (look_at (λ (x : Record). is_write x.request) w.life.frames.records f g r same) ∙ e)

    pub after_add : (k : Key) → AccessMove a w (move.Add k None) rest → IsLegal (move.Add k None) w.life → InAccess AnyMove a (after_move w.life (move.Add k None))
    after_add k h legal =
        kept_by AnyMove (move.Add k None) here.sound here.touch h legal
        (λ none. let bad : false ≡ true = sym (ap is_some none) ∙ h.1 in cc) here.begun

    pub after_clear : (f : Frame) → AccessMove a w (move.Clear f) rest → IsLegal (move.Clear f) w.life → InAccess AnyMove a (after_move w.life (move.Clear f))
    after_clear f h legal = kept_by AnyMove (move.Clear f) here.sound here.touch h legal here.copied here.begun

    pub after_steal : (f : Frame) → AccessMove a w (move.Steal f) rest → IsLegal (move.Steal f) w.life → InAccess AnyMove a (after_move w.life (move.Steal f))
    after_steal f h legal =
        kept_by AnyMove (move.Steal f) here.sound here.touch h legal
        (λ none. homed_copied a.need w.life here.sound f (record_at w.life.frames f.0).owner (record_at w.life.frames f.0).backing refl (here.copied none))
        (begun_but f.0 blank refl)

    pub after_give : (f : Frame) (k : Key) → AccessMove a w (move.Give f k) rest → IsLegal (move.Give f k) w.life → InAccess AnyMove a (after_move w.life (move.Give f k))
    after_give f k h legal =
        let zero = zero_held (w.life.stands k) (last_part _ _ (first_part _ _ legal)) in
        kept_by AnyMove (move.Give f k) here.sound here.touch h legal
        (λ none. moved_copied a.need w.life k (held.Frame f) (zero_lives w.life k zero) (here.copied none))
        (begun_but f.0 (given k) refl)

    pub after_read : (f : Frame) (k : Key) → AccessMove a w (move.Read f k) rest → IsLegal (move.Read f k) w.life → InAccess AnyMove a (after_move w.life (move.Read f k))
    after_read f k h legal =
        kept_by AnyMove (move.Read f k) here.sound here.touch h legal
        (λ none. moved_copied a.need w.life k (held.Frame f) (stored_live (w.life.stands k) (last_part _ _ (first_part _ _ legal))) (here.copied none))
        (λ g e. begun_but f.0 (being_read k (backing_of (w.life.stands k))) refl g (sym (ap (λ (xs : List Record). writing (slice_set xs f.0 (being_read k (backing_of (w.life.stands k)))) g) (records_taken w.life.frames)) ∙ e))

    -- ---- the move that ends a read

    pub after_got : (f : Frame) → AccessMove a w (move.Got f) rest → IsLegal (move.Got f) w.life → InAccess AnyMove a (after_move w.life (move.Got f))
    after_got f h legal =
        let r = record_at w.life.frames f.0 in
        kept_by AnyMove (move.Got f) here.sound here.touch h legal here.copied
        (λ g e. here.begun g (ended_at (is_some r.owner) w.life.frames f.0 g (read_done r) refl e).1)

    pub after_bad : (f : Frame) → AccessMove a w (move.Bad f) rest → IsLegal (move.Bad f) w.life → InAccess AnyMove a (after_move w.life (move.Bad f))
    after_bad f h legal =
        kept_by AnyMove (move.Bad f) here.sound here.touch h legal
        (λ none. homed_copied a.need w.life here.sound f (record_at w.life.frames f.0).owner (record_at w.life.frames f.0).backing refl (here.copied none))
        (begun_but f.0 blank refl)

    pub after_unmap : (p : Place) → is_copied a.need w.life ≡ false → AccessMove a w (move.Unmap p) rest → IsLegal (move.Unmap p) w.life → InAccess AnyMove a (after_move w.life (move.Unmap p))
    after_unmap p none h legal =
        kept_by AnyMove (move.Unmap p) here.sound here.touch h legal
        (λ at. unmapped_copied a.need w.life p ∙ none)
        (λ g e. here.begun g (sym (unmapped_request (λ (r : Record). is_write r.request) (λ r. refl) w.life p g) ∙ e))

    -- its page goes so that its copy can be mapped
    pub before_copy : (p : Place) → AccessMove a w (move.Unmap p) rest → IsLegal (move.Unmap p) w.life → InAccess MapsCopy a (after_move w.life (move.Unmap p))
    before_copy p h legal =
        kept_by MapsCopy (move.Unmap p) here.sound here.touch h legal tt
        (λ g e. here.begun g (sym (unmapped_request (λ (r : Record). is_write r.request) (λ r. refl) w.life p g) ∙ e))

    soiled_write : (r : Record) → is_legal_soil w.life r ≡ true → is_write (soiled r).request ≡ is_write r.request
    soiled_write r h = by r.request refl (last_part _ _ (first_part _ _ h))
      where
        by : (q : Request) → r.request ≡ q → ((not r.changed && not (has_request q)) || (is_write q && not (is_again q))) ≡ true
            → is_write (if has_request q then record r { request = request.WriteAgain } else record r { changed = true; backing = without_slot r.backing }).request ≡ is_write q
        by request.None e u = ap (λ (q : Request). is_write q) e
        by request.Read e u = absurd (no_read r.changed u)
          where
            no_read : (c : Bool) → ((not c && false) || false) ≡ true → ⊥
            no_read true v = cc
            no_read false v = cc
        by request.Write e u = refl
        by request.WriteAgain e u = refl

    pub after_soil : (f : Frame) → AccessMove a w (move.Soil f) rest → IsLegal (move.Soil f) w.life → InAccess AnyMove a (after_move w.life (move.Soil f))
    after_soil f h legal =
        let r = record_at w.life.frames f.0 in
        kept_by AnyMove (move.Soil f) here.sound here.touch h legal here.copied
        (begun_as f.0 (soiled r) (soiled_write r legal))

    written_begun : (f g : ℕ) (r : Record) → writing (slice_set w.life.frames.records f r) g ≡ true → (is_on g a.start.flight ≡ true) ⊎ (g ≡ f)
    written_begun f g r e = by (written_at w.life.frames.records f g r e)
      where
        by : WrittenAt w.life.frames.records f g r → (is_on g a.start.flight ≡ true) ⊎ (g ≡ f)
        by (Here same x) = inr same
        by (Else other x) = elim (here.begun g x) [
          | inl on ↦ inl on
          | inr bad ↦ absurd bad
        ]

    pub after_write : (f : Frame) (s : Stored) → AccessMove a w (move.Write f s) rest → IsLegal (move.Write f s) w.life → InAccess (EndsWrite f) a (after_move w.life (move.Write f s))
    after_write f (stored.Slot s) h legal =
        kept_by (EndsWrite f) (move.Write f (stored.Slot s)) here.sound here.touch h legal here.copied
        (λ g e. written_begun f.0 g (being_written (backing.Slot s) (record_at w.life.frames f.0)) e)
    after_write f (stored.Block b) h legal =
        kept_by (EndsWrite f) (move.Write f (stored.Block b)) here.sound here.touch h legal here.copied
        (λ g e. written_begun f.0 g (being_written (backing.Block b) (record_at w.life.frames f.0)) e)

  -- ---- a place that is mapped, in any case

  module _ (t : Then) (here : InAccess t a w.life) where
    begun_then : (still : (f : ℕ) → IsWriting t f → ⊥) (f g : ℕ) (r : Record) → is_write r.request ≡ is_write (record_at w.life.frames f).request → writing (slice_set w.life.frames.records f r) g ≡ true → (is_on g a.start.flight ≡ true) ⊎ ⊥
    begun_then still f g r same e =
        elim (here.begun g (sym (look_at (λ (x : Record). is_write x.request) w.life.frames.records f g r same) ∙ e)) [
          | inl on ↦ inl on
          | inr x ↦ absurd (still g x)
        ]

    pub after_map : ((f : ℕ) → IsWriting t f → ⊥) → (f : Frame) (p : Place) → AccessMove a w (move.Map f p) rest → IsLegal (move.Map f p) w.life → InAccess AnyMove a (after_move w.life (move.Map f p))
    after_map still f p h legal =
        let r = record_at w.life.frames f.0 in
        kept_by AnyMove (move.Map f p) here.sound here.touch h legal
        (λ none.
        let there : cond (same_place a.place p) (Some f) (w.life.valid a.place) ≡ Some f =
        ap (λ (q : Place). cond (same_place q p) (Some f) (w.life.valid a.place)) (sym h.0) ∙ ap (λ b. cond b (Some f) (w.life.valid a.place)) (same_place-self p) in
        let bad : None ≡ Some f = sym none ∙ there in cc)
        (λ g e. begun_then still f.0 g (shared r) refl e)

  -- ---- the move that ends a write

  module _ (f : Frame) (here : InAccess (EndsWrite f) a w.life) where
    others_begun : (g : ℕ) → (g ≢ f.0) × (writing w.life.frames.records g ≡ true) → (is_on g a.start.flight ≡ true) ⊎ ⊥
    others_begun g x = elim (here.begun g x.1) [
      | inl on ↦ inl on
      | inr same ↦ absurd (x.0 same)
    ]

    pub after_wrote : AccessMove a w (move.Wrote f) rest → IsLegal (move.Wrote f) w.life → InAccess AnyMove a (after_move w.life (move.Wrote f))
    after_wrote h legal =
        let r = record_at w.life.frames f.0 in
        kept_by AnyMove (move.Wrote f) here.sound here.touch h legal here.copied
        (λ g e. others_begun g (ended_at (is_some r.owner) w.life.frames f.0 g (write_done r) (done_calm r) e))

    pub after_lost : AccessMove a w (move.Lost f) rest → IsLegal (move.Lost f) w.life → InAccess AnyMove a (after_move w.life (move.Lost f))
    after_lost h legal =
        let r = record_at w.life.frames f.0 in
        kept_by AnyMove (move.Lost f) here.sound here.touch h legal here.copied
        (λ g e. others_begun g (ended_at (is_some r.owner) w.life.frames f.0 g (write_lost r) refl e))
