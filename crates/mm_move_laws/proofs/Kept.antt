-- `at` keeps what holds, and it holds right after the line of the machine.
use Rattle.std.proofs.Common.{◌≡◌, ◌⊎◌, ℕ, zero, suc, ◌+◌, ◌≤◌, Bool, true, not, List, [], ◌∷◌, ◌++◌, length, Option, Some, None, refl, sym, ap, ◌∙◌, inl, inr, arith, length-append}
use Rattle.std.specs.Prelude.{is_some, nat_lt, replicate, slice_get}
use Rattle.std.proofs.lemmas.Bool.{leb-true, le-ltb}
use Rattle.std.proofs.lemmas.List.{length-replicate}
use Rattle.mm_types.specs.{MachineOf, limit_of, Record, LineKind, Move}
use Rattle.mm_move_rules.specs.{blank, slot_of, FrameLife, life_at, free_table, set_in, unstarted, no_machine, IsLegal, after_move, after_at, Replays}
use Rattle.mm_move_laws.specs.{one_if, Holder, Home, Behind, holding, residents, sight, FramesStand, SlotsHeld}
use Rattle.mm_move_laws.specs.Sound.{Sound}
use Rattle.mm_move_laws.proofs.Tallies.{times-numbers}
use Rattle.mm_move_laws.proofs.Sights.{stand_blank}
use Rattle.mm_move_laws.proofs.PlaceCounts.{shown_process}
use Rattle.mm_move_rules.proofs.Start.{record_at_start}
use Rattle.mm_move_laws.proofs.Parts.{three_parts}
use Rattle.mm_move_laws.proofs.KeyMoves.{keeps_add, keeps_drop, keeps_map, keeps_unmap, keeps_soil, keeps_write_slot, keeps_write_block}
use Rattle.mm_move_laws.proofs.Requests.{keeps_clear, keeps_steal, keeps_give, keeps_read, keeps_got, keeps_bad, keeps_wrote, keeps_lost}
use Rattle.mm_move_laws.proofs.Moved.{along}
use Rattle.mm_types.specs.declared.frames.Held.TheVariants as held
use Rattle.mm_types.specs.declared.moves.LineKind.TheVariants as kind
use Rattle.mm_types.specs.declared.moves.Move.TheVariants as move
use Rattle.mm_types.specs.declared.moves.Stored.TheVariants as stored

-- ---- right after line 1

first_stands : (n : ℕ) → FramesStand (free_table n) []
first_stands n f =
    let e : one_if (nat_lt f (length (replicate n blank))) ≡ one_if (nat_lt f (0 + n)) = ap (λ (k : ℕ). one_if (nat_lt f k)) (let h = length-replicate {A = Record} n blank in omega (arith, h)) in
    let none : one_if (nat_lt f 0) ≡ 0 = ap one_if (le-ltb f 0 (omega arith)) in
    stand_blank (sight (free_table n) [] f) (record_at_start n f) (omega (arith, e, times-numbers n 0 f, none)) refl refl refl

all_free : (n s : ℕ) (b : Bool) → slice_get (replicate n true) s ≡ Some b → b ≡ true
all_free (suc n) (suc s) b e = all_free n s b e
all_free _ _ b e = cc

no_set : (pid : ℕ) → set_in [] pid ≡ None
no_set zero = refl
no_set (suc k) = refl

first_held : (n : ℕ) (h : Holder) → holding (free_table n) (λ k. held.Dead) h ≡ None
first_held n (Home k) = refl
first_held n (Behind f) = ap (λ (r : Record). slot_of r.backing) (record_at_start n f)

pub sound_at : (m : MachineOf) (n : ℕ) (k : LineKind) → Sound (life_at m n k)
sound_at m n k = record {
  standing = first_stands m.frames;
  owned = record {
    owned = λ f k e. let bad : None ≡ Some k = sym (ap (λ (r : Record). r.owner) (record_at_start m.frames f)) ∙ e in cc;
    owner = λ k f e. cc;
  };
  held = record {
    holder = λ s. None;
    found = λ h s e. let bad : None ≡ Some s = sym (first_held m.frames h) ∙ e in cc;
    held = λ s h e. cc;
    taken = λ s b e. sym (ap not (all_free m.slots s b e));
    past = λ s e. refl;
  };
  shown = record {
    places = [];
    once = λ p. refl;
    shares = λ f. sym (ap (λ (r : Record). r.shares) (record_at_start m.frames f));
    resident = λ pid. sym (ap residents (no_set pid));
    fits = λ p f k e w. cc;
    below = λ pid s e. let bad : None ≡ Some s = sym (no_set pid) ∙ e in cc;
  };
  paged = record { keys = []; once = λ k. refl; long = refl };
  homed = record {
    home = λ k. refl;
    backing = λ f k e. let bad : None ≡ Some k = sym (ap (λ (r : Record). r.owner) (record_at_start m.frames f)) ∙ e in cc;
  };
  limited = omega arith;
  few = λ a b. omega arith;
  framed = length-replicate m.frames blank;
  slotted = length-replicate m.slots true;
}

pub sound_unstarted : Sound unstarted
sound_unstarted = sound_at no_machine 0 kind.Call

-- ---- a paging file that grows

more_free : (free : List Bool) (n s : ℕ) (b : Bool) → slice_get (free ++ replicate n true) s ≡ Some b → (slice_get free s ≡ Some b) ⊎ ((slice_get free s ≡ None) × (b ≡ true))
more_free [] n s b e = inr (refl, all_free n s b e)
more_free (x ∷ free) n zero b e = inl e
more_free (x ∷ free) n (suc s) b e = more_free free n s b e

past_more : (free : List Bool) (n s : ℕ) → slice_get (free ++ replicate n true) s ≡ None → slice_get free s ≡ None
past_more (x ∷ free) n (suc s) e = past_more free n s e
past_more _ n _ e = cc

slots_grown : (free : List Bool) (n : ℕ) (held_by : Holder → Option ℕ) → SlotsHeld free held_by → SlotsHeld (free ++ replicate n true) held_by
slots_grown free n held_by s = record {
  holder = s.holder;
  found = s.found;
  held = s.held;
  taken = λ t b e. elim (more_free free n t b e) [
    | inl h ↦ s.taken t b h
    | inr h ↦ ap is_some (s.past t h.0) ∙ sym (ap not h.1)
  ];
  past = λ t e. s.past t (past_more free n t e);
}

-- ---- `at`

module _ (l : FrameLife) (s : Sound l) where
  starts : (n : ℕ) (k : LineKind) → length l.flight ≤ l.machine.depth → Sound (after_at l n k)
  starts n (kind.Machine frames slots depth blocks) h = sound_at (record { frames = frames; slots = slots; depth = depth; blocks = blocks }) n (kind.Machine frames slots depth blocks)
  starts n (kind.Process pid min max) h = assumption (shown_process l.valid l.frames l.sets (record { min = min; max = max; resident = 0 }) refl s.shown)
  starts n (kind.Grow count) h =
      let limited : l.paging_keys ≤ limit_of (record l.machine { slots = l.machine.slots + count }) = let e = s.limited in omega (arith, e) in
      let slotted : length (l.free_slots ++ replicate count true) ≡ l.machine.slots + count = let e = s.slotted in omega (arith, e, length-append l.free_slots (replicate count true), length-replicate {A = Bool} count true) in
      assumption (slots_grown l.free_slots count (holding l.frames l.stands) s.held, limited, slotted)
  starts n kd h = assumption

  pub at_depth : (n : ℕ) (k : LineKind) → IsLegal (move.At n k) l → length l.flight ≤ l.machine.depth
  at_depth n k h = leb-true (length l.flight) l.machine.depth (three_parts _ _ _ h).1

  pub keeps_at : (n : ℕ) (k : LineKind) → IsLegal (move.At n k) l → Sound (after_move l (move.At n k))
  keeps_at n k h = starts n k (at_depth n k h)

-- ---- each legal move keeps what holds, so that it holds of each state that a replay reaches

pub keeps : (x : Move) (l : FrameLife) → Sound l → IsLegal x l → Sound (after_move l x)
keeps (move.At n k) l s h = keeps_at l s n k h
keeps (move.Add k b) l s h = keeps_add l s k b h
keeps (move.Drop k) l s h = keeps_drop l s k h
keeps (move.Clear f) l s h = keeps_clear l s f h
keeps (move.Steal f) l s h = keeps_steal l s f h
keeps (move.Give f k) l s h = keeps_give l s f k h
keeps (move.Read f k) l s h = keeps_read l s f k h
keeps (move.Got f) l s h = keeps_got l s f h
keeps (move.Bad f) l s h = keeps_bad l s f h
keeps (move.Map f place) l s h = keeps_map l s f place h
keeps (move.Unmap place) l s h = keeps_unmap l s place h
keeps (move.Soil f) l s h = keeps_soil l s f h
keeps (move.Write f (stored.Slot t)) l s h = keeps_write_slot l s f t h
keeps (move.Write f (stored.Block b)) l s h = keeps_write_block l s f b h
keeps (move.Wrote f) l s h = keeps_wrote l s f h
keeps (move.Lost f) l s h = keeps_lost l s f h

pub kept_along : (xs : List Move) (l m : FrameLife) → Sound l → Replays xs l m → Sound m
kept_along xs l m s r = along Sound keeps xs l m s r

pub replay_sound : (xs : List Move) (l : FrameLife) → Replays xs unstarted l → Sound l
replay_sound xs l r = kept_along xs unstarted l sound_unstarted r
