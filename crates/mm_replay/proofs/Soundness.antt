-- What a state that was reached by legal moves has, as its next move needs it.
use Rattle.std.proofs.Common.{◌≡◌, ℕ, ◌<◌, ◌≤◌, Bool, true, false, length, Some, sym, ap, ◌∙◌, subst, inl, inr, arith, refl}
use Rattle.std.specs.Prelude.{◌||◌, ◌&&◌, is_some, slice_get, Result, Ok, Err, OnOk, OnErr}
use Rattle.std.proofs.lemmas.Bool.{and_parts, or_cases, not-true}
use Rattle.mm_types.specs.{Move, Stored}
use Rattle.mm_types.specs.declared.moves.Stored.TheVariants as stored
use Rattle.mm_types.proofs.{or_left}
use Rattle.mm_move_rules.specs.{FrameTable, record_at, is_first, is_empty, has_request, FrameLife, IsLegal, is_legal_write, after_move}
use Rattle.mm_move_laws.specs.{one_if, times, ReachedByMoves}
use Rattle.mm_move_laws.proofs.{reached_by, kept_inside, owner_passes, times_on}
use Rattle.mm_move_laws.proofs.Facts.{Facts}
use Rattle.mm_replay.specs.{IsEmptyFrame, SoundReplay}
use Rattle.mm_replay.specs.Sound.{Listed}
use Rattle.mm_replay.proofs.Placing.{idle_quiet, on_there}

asked : (b : Bool) (n : ℕ) → 1 ≤ n → n ≡ one_if b → b ≡ true
asked true n h e = refl
asked false n h e = absurd (omega arith)

pub sound_of : (l : FrameLife) → Facts l → SoundReplay l
sound_of l a = record {
  sized = a.framed;
  owned = record { there = a.owned; back = a.owner };
  shared = a.shares;
  requested = λ k f e. asked (has_request (record_at l.frames f).request) (times f l.flight) (times_on f l.flight (on_there f k l.flight e)) (a.standing f).flight;
}

-- after a move that was made, or was not
pub reached_made : {T E : Type 0} (r : Result T E) (l l' : FrameLife) (m : Move) → ∥ ReachedByMoves l ∥₁ → IsLegal m l → OnOk r (l' ≡ after_move l m) → OnErr r (l' ≡ l) → ∥ ReachedByMoves l' ∥₁
reached_made (Ok t) l l' m was h made same = reached_by l l' m h made was
reached_made (Err e) l l' m was h made same = subst (λ (x : FrameLife). ∥ ReachedByMoves x ∥₁) (sym same) was

low_owned : (d : FrameTable) (f : ℕ) → is_some (record_at d f).owner ≡ true → f < length d.records
low_owned d f e = kept_inside d f (or_left (is_some (record_at d f).owner) (has_request (record_at d f).request) e)

-- the frame is there, and has no request
pub record Ready (l : FrameLife) (f : ℕ) : Type 0 where
  pub low : f < length l.frames.records
  pub quiet : has_request (record_at l.frames f).request ≡ false

pub ready_low : (l : FrameLife) → SoundReplay l → (f : ℕ) → Ready l f → f < l.machine.frames
ready_low l s f r = subst (λ (n : ℕ). f < n) s.sized r.low

pub ready_quiet : (l : FrameLife) → SoundReplay l → (f : ℕ) → Ready l f → (k : ℕ) → slice_get l.flight k ≡ Some f → ⊥
ready_quiet l s f r k e = let bad : true ≡ false = sym (s.requested k f e) ∙ r.quiet in cc

module _ (l : FrameLife) (listed : Listed l.frames) where
  read_empty : (f : ℕ) → (is_first f l.frames.free || (is_empty l.frames.free && is_first f l.frames.zeroed)) ≡ true → IsEmptyFrame l.frames f
  read_empty f e = elim (or_cases (is_first f l.frames.free) (is_empty l.frames.free && is_first f l.frames.zeroed) e) [
    | inl h ↦ listed.free f h
    | inr h ↦ listed.zeroed f (and_parts (is_empty l.frames.free) (is_first f l.frames.zeroed) h).1
  ]

  -- a request may begin
  pub read_ready : (f : ℕ) → (is_first f l.frames.free || (is_empty l.frames.free && is_first f l.frames.zeroed)) ≡ true → Ready l f
  read_ready f e = let empty = read_empty f e in record { low = empty.low; quiet = empty.quiet }

  pub write_ready : (f : ℕ) (to : Stored) → is_legal_write l f (record_at l.frames f) to ≡ true → Ready l f
  write_ready f (stored.Slot a) h =
      let a = and_parts _ _ h in
      let b = and_parts _ _ a.0 in
      let c = and_parts _ _ b.0 in
      record {
        low = low_owned l.frames f (ap is_some (owner_passes l.paging (record_at l.frames f) c.1).is);
        quiet = idle_quiet (record_at l.frames f) (listed.modified f c.0);
      }
  write_ready f (stored.Block b) h =
      let a = and_parts _ _ h in
      let b = and_parts _ _ a.0 in
      let c = and_parts _ _ b.0 in
      let d = and_parts _ _ c.0 in
      record {
        low = low_owned l.frames f d.1;
        quiet = not-true (has_request (record_at l.frames f).request) c.1;
      }
