-- What is known of a state that was reached, in facts that have one proof each.
use Rattle.std.proofs.Common.{◌≡◌, ◌≢◌, ℕ, ◌<◌, ◌≤◌, true, false, Some, sym, ap, ◌∙◌, subst, length}
use Rattle.std.specs.Prelude.{slice_get}
use Rattle.std.proofs.Math.Logic.{∥∥₁_elim, ∥∥₁_map}
use Rattle.std.proofs.Props.{props}
use Rattle.mm_types.specs.{limit_of, Frame, Key, Pid, Place, Vpn, Move}
use Rattle.mm_types.specs.declared.numbers.Key.TheVariants.{Private}
use Rattle.mm_types.specs.declared.frames.Held.TheVariants as held
use Rattle.mm_move_rules.specs.{ResidentSet, record_at, slot_of, is_on, blank, FrameLife, set_of, same_key, is_shared, is_live, IsLegal, is_access, is_call}
use Rattle.mm_move_rules.specs.{fits_place, after_move, slot_at}
use Rattle.mm_move_laws.specs.{ReachedByMoves, FramesStand, IsStandby, IsModified, Home, Behind, is_home_for, is_backing_for, block_held}
use Rattle.mm_move_laws.specs.Sound.{Sound}
use Rattle.mm_move_laws.proofs.Blocks.{Apart}
use Rattle.mm_move_laws.proofs.Deduced.{reached_sound, reached_next, share_most, blocks_apart, slot_there, slot_taken, some_keys, behind_one, behind_no_home, zeroed_bare, free_bare, standby_is, modified_is, place_shares, frame_there}
use Rattle.mm_move_laws.proofs.Owners.{same_key-self}
use Rattle.mm_move_laws.proofs.FileKeys.{private_paged}
use Rattle.mm_move_laws.proofs.SetSizes.{private_share}

pub record Facts (l : FrameLife) : Type 0 where
  pub standing : FramesStand l.frames l.flight
  -- a frame has a key exactly where the key stands in it
  pub owned : (f : ℕ) (k : Key) → (record_at l.frames f).owner ≡ Some k → l.stands k ≡ held.Frame (record { 0 = f })
  pub owner : (k : Key) (f : Frame) → l.stands k ≡ held.Frame f → (record_at l.frames f.0).owner ≡ Some k
  pub there : (k : Key) (f : Frame) → l.stands k ≡ held.Frame f → f.0 < l.machine.frames
  pub shares : (p : Place) (f : Frame) → l.valid p ≡ Some f → 1 ≤ (record_at l.frames f.0).shares
  pub fits : (p : Place) (f : Frame) (k : Key) → l.valid p ≡ Some f → (record_at l.frames f.0).owner ≡ Some k → fits_place p k ≡ true
  -- no slot has two holders, and no block two keys
  pub slot_apart : (f g s : ℕ) → slot_of (record_at l.frames f).backing ≡ Some s → slot_of (record_at l.frames g).backing ≡ Some s → f ≡ g
  pub home_apart : (f : ℕ) (k : Key) (s : ℕ) → slot_of (record_at l.frames f).backing ≡ Some s → slot_at (l.stands k) ≢ Some s
  pub block_apart : (j k : Key) (b : ℕ) → block_held l j ≡ Some b → block_held l k ≡ Some b → same_key j k ≡ true
  pub slot_low : (f s : ℕ) → slot_of (record_at l.frames f).backing ≡ Some s → s < l.machine.slots
  pub home_low : (k : Key) (s : ℕ) → slot_at (l.stands k) ≡ Some s → s < l.machine.slots
  pub backed : (f s : ℕ) → slot_of (record_at l.frames f).backing ≡ Some s → slice_get l.free_slots s ≡ Some false
  pub homed : (k : Key) (s : ℕ) → slot_at (l.stands k) ≡ Some s → slice_get l.free_slots s ≡ Some false
  -- a file page is on a block that is there, and that a key was added with
  pub block_low : (k : Key) (b : ℕ) → block_held l k ≡ Some b → b < l.machine.blocks
  pub block_added : (k : Key) (b : ℕ) → block_held l k ≡ Some b → l.added b ≡ true
  pub home : (k : Key) → is_home_for (l.paging k) (l.stands k) ≡ true
  pub backing : (f : ℕ) (k : Key) → (record_at l.frames f).owner ≡ Some k → is_backing_for (l.paging k) (record_at l.frames f).backing ≡ true
  -- a zeroed or free frame has nothing
  pub zeroed : (f : ℕ) → is_on f l.frames.zeroed ≡ true → record_at l.frames f ≡ blank
  pub free : (f : ℕ) → is_on f l.frames.free ≡ true → record_at l.frames f ≡ blank
  -- a frame on standby or modified is at rest
  pub standby : (f : ℕ) → is_on f l.frames.standby ≡ true → IsStandby (record_at l.frames f)
  pub modified : (f : ℕ) → is_on f l.frames.modified ≡ true → IsModified (record_at l.frames f)
  pub framed : length l.frames.records ≡ l.machine.frames
  pub slotted : length l.free_slots ≡ l.machine.slots
  -- the frame of a private key is valid at one place at most
  pub single : (f : ℕ) (p : Pid) (v : Vpn) → (record_at l.frames f).owner ≡ Some (Private p v) → (record_at l.frames f).shares ≤ 1
  pub most : ((pid : ℕ) (set : ResidentSet) → set_of l pid ≡ Some set → set.max ≤ 65536) → (f : ℕ) → (record_at l.frames f).shares ≤ 4194304
  -- a page-file key is counted, and there are no more than the limit
  pub keyed : (k : Key) → l.paging k ≡ true → 1 ≤ l.paging_keys
  pub limited : l.paging_keys ≤ limit_of l.machine
  -- a private page is a page-file key
  pub paged : (k : Key) → is_shared k ≡ false → is_live l k ≡ true → l.paging k ≡ true
  -- outside of plain accesses and calls at most depth requests are in flight
  pub few : is_access l.kind ≡ false → is_call l.kind ≡ false → length l.flight ≤ l.machine.depth

facts_of_reached : (l : FrameLife) → ReachedByMoves l → Facts l
facts_of_reached l h =
    let s : Sound l = reached_sound l h in
    let a : Apart l = blocks_apart l h in
    record {
      standing = s.standing;
      owned = s.owned.owned;
      owner = s.owned.owner;
      there = frame_there l s;
      shares = place_shares l s;
      fits = s.shown.fits;
      slot_apart = λ f g t x y. behind_one l s t f g x y;
      home_apart = λ f k t x. behind_no_home l s t f k x;
      block_apart = λ j k b x y. ap (λ (q : Key). same_key j q) (sym (a.one j k b x y)) ∙ same_key-self j;
      slot_low = λ f t e. slot_there l s t (Behind f) e;
      home_low = λ k t e. slot_there l s t (Home k) e;
      backed = λ f t e. slot_taken l s t (Behind f) e;
      homed = λ k t e. slot_taken l s t (Home k) e;
      block_low = λ k b e. (a.there k b e).there;
      block_added = λ k b e. (a.there k b e).added;
      home = s.homed.home;
      backing = s.homed.backing;
      zeroed = zeroed_bare l s;
      free = free_bare l s;
      standby = standby_is l s;
      modified = modified_is l s;
      framed = s.framed;
      slotted = s.slotted;
      single = private_share l s;
      most = share_most l h;
      keyed = some_keys l s;
      limited = s.limited;
      paged = private_paged l h;
      few = s.few;
    }

pub facts_of : (l : FrameLife) → ∥ ReachedByMoves l ∥₁ → Facts l
facts_of l r = ∥∥₁_elim r ((hlevel props)) (facts_of_reached l)

-- one more legal move
pub reached_by : (l m : FrameLife) (x : Move) → IsLegal x l → m ≡ after_move l x → ∥ ReachedByMoves l ∥₁ → ∥ ReachedByMoves m ∥₁
reached_by l m x legal e r = ∥∥₁_map r (λ was. subst ReachedByMoves (sym e) (reached_next x l was legal))
