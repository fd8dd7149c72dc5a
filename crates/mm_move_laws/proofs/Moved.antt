-- What each move keeps a list of moves keeps; and what the moves keep that go by where a key stands, or by what a place is valid for.

use Rattle.std.proofs.Common.{◌≡◌, Option, None, Some, refl, subst, sym, List, [], ◌∷◌}
use Rattle.mm_types.specs.{Frame, Key, Place, Held, Move}
use Rattle.mm_types.specs.declared.frames.Held.TheVariants as held
use Rattle.mm_move_rules.specs.{FrameLife, after_unmap_at, dropped_at, unlisted, after_move, IsLegal, Replays}

pub dropped_as : (h : Held) (l : FrameLife) (k : Key) → dropped_at h l k ≡ record (unlisted l k) { frames = (dropped_at h l k).frames; free_slots = (dropped_at h l k).free_slots }
dropped_as (held.Frame f) l k = refl
dropped_as _ l k = refl

pub unmapped_as : (o : Option Frame) (l : FrameLife) (p : Place) → after_unmap_at o l p ≡ record l { frames = (after_unmap_at o l p).frames; valid = (after_unmap_at o l p).valid; sets = (after_unmap_at o l p).sets }
unmapped_as None l p = refl
unmapped_as (Some f) l p = refl

-- what holds of a state, and of each state that a legal move leads to, holds along a list of moves
pub along : (P : FrameLife → Type 0) → ((x : Move) (l : FrameLife) → P l → IsLegal x l → P (after_move l x)) → (xs : List Move) (l m : FrameLife) → P l → Replays xs l m → P m
along P step [] l m p e = subst P (sym e) p
along P step (x ∷ xs) l m p r = along P step xs (after_move l x) m (step x l p r.0) r.1
