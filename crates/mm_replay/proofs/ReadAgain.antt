-- What is spelled is read as the same again.
use Rattle.std.proofs.Common.{◌≡◌, ℕ, ◌^◌, ◌<◌, Bool, true, cond, [], ◌∷◌, ◌++◌, Option, Some, None, refl, ap, arith}
use Rattle.std.proofs.lemmas.Bool.{lt-ltb}
use Rattle.mm_types.specs.{Text, decimal, Pid, Frame, Block, Key, Place, LineKind, Stored, Move}
use Rattle.mm_types.specs.declared.numbers.Key.TheVariants.{Private, Shared}
use Rattle.mm_types.specs.declared.moves.LineKind.TheVariants as kind
use Rattle.mm_types.specs.declared.moves.Stored.TheVariants as stored
use Rattle.mm_types.specs.declared.moves.Move.TheVariants as move
use Rattle.mm_move_rules.specs.{place_onto, key_onto, kind_onto, stored_onto, home_onto, move_onto, IsKey, IsPlace, IsKind, IsStored, IsBlock, IsMove}
use Rattle.mm_replay.specs.{pid, read_pid, read_place, read_key, read_kind, home_behind, stored_behind, read_text}
use Rattle.mm_replay.proofs.Numbers.{ends_number, read_number-decimal}

abbrev pub small_or : Bool → ℕ → Text → Option (Pid × Text)
small_or b n text = cond b (Some (pid n, text)) None

read_pid-decimal : (n : ℕ) (behind : Text) → n < 2 ^ 8 → ends_number behind ≡ true → read_pid (decimal n ++ behind) ≡ Some (pid n, behind)
read_pid-decimal n behind low ends =
    let wide : n < 2 ^ 32 = omega arith in
    rw (read_number-decimal n behind wide ends) (ap (λ b. small_or b n behind) (lt-ltb n 256 low))

pub read_place-onto : (p : Place) (b : Text) → IsPlace p → ends_number b ≡ true → read_place (place_onto p b) ≡ Some (p, b)
read_place-onto p b h e = rw (read_pid-decimal p.pid.0 (46 ∷ (decimal p.vpn.0 ++ b)) h.0 refl, read_number-decimal p.vpn.0 b h.1 e)

pub read_key-onto : (k : Key) (b : Text) → IsKey k → ends_number b ≡ true → read_key (key_onto k b) ≡ Some (k, b)
read_key-onto (Private p v) b h e = rw (read_pid-decimal p.0 (46 ∷ (decimal v.0 ++ b)) h.0 refl, read_number-decimal v.0 b h.1 e)
read_key-onto (Shared a i) b h e = rw (read_number-decimal a.0 (46 ∷ (decimal i ++ b)) h.0 refl, read_number-decimal i b h.1 e)

-- the same with anything after that does not begin with a digit
read_kind-onto : (k : LineKind) (b : Text) → IsKind k → ends_number b ≡ true → read_kind (kind_onto k b) ≡ Some (k, b)
read_kind-onto (kind.Machine frames slots depth blocks) b h e =
    rw (
      read_number-decimal frames (32 ∷ (decimal slots ++ (32 ∷ (decimal depth ++ (32 ∷ (decimal blocks ++ b)))))) h.0 refl,
      read_number-decimal slots (32 ∷ (decimal depth ++ (32 ∷ (decimal blocks ++ b)))) h.1 refl,
      read_number-decimal depth (32 ∷ (decimal blocks ++ b)) h.2 refl,
      read_number-decimal blocks b h.3 e,
    )
read_kind-onto (kind.Process p min max) b h e =
    rw (
      read_pid-decimal p.0 (32 ∷ (decimal min ++ (32 ∷ (decimal max ++ b)))) h.0 refl,
      read_number-decimal min (32 ∷ (decimal max ++ b)) h.1 refl,
      read_number-decimal max b h.2 e,
    )
read_kind-onto (kind.Unbind p) b h e = rw (read_pid-decimal p.0 b h e)
read_kind-onto (kind.Access p) b h e = rw (read_pid-decimal p.0 b h e)
read_kind-onto (kind.Thread p) b h e = rw (read_pid-decimal p.0 b h e)
read_kind-onto (kind.Trim p) b h e = rw (read_pid-decimal p.0 b h e)
read_kind-onto kind.Writer b h e = refl
read_kind-onto kind.Zeroer b h e = refl
read_kind-onto kind.Io b h e = refl
read_kind-onto kind.Call b h e = refl
read_kind-onto (kind.Grow n) b h e = rw (read_number-decimal n b h e)

home-onto : (k : Key) (home : Option Block) (b : Text) → IsBlock home → ends_number b ≡ true → home_behind k (home_onto home b) ≡ Some (move.Add k home, b)
home-onto k None b h e = refl
home-onto k (Some n) b h e = rw (read_number-decimal n.0 b h e)

home-ends : (home : Option Block) (b : Text) → ends_number (home_onto home b) ≡ true
home-ends None b = refl
home-ends (Some n) b = refl

stored-onto : (f : Frame) (s : Stored) (b : Text) → IsStored s → ends_number b ≡ true → stored_behind f (stored_onto s b) ≡ Some (move.Write f s, b)
stored-onto f (stored.Slot s) b h e = rw (read_number-decimal s.0 b h e)
stored-onto f (stored.Block n) b h e = rw (read_number-decimal n.0 b h e)

stored-ends : (s : Stored) (b : Text) → ends_number (stored_onto s b) ≡ true
stored-ends (stored.Slot s) b = refl
stored-ends (stored.Block n) b = refl

pub read_text-onto : (m : Move) (b : Text) → IsMove m → ends_number b ≡ true → read_text (move_onto m b) ≡ Some (m, b)
read_text-onto (move.At n k) b h e = rw (read_number-decimal n (32 ∷ kind_onto k b) h.0 refl, read_kind-onto k b h.1 e)
read_text-onto (move.Add k home) b h e = rw (read_key-onto k (home_onto home b) h.0 (home-ends home b), home-onto k home b h.1 e)
read_text-onto (move.Drop k) b h e = rw (read_key-onto k b h e)
read_text-onto (move.Clear f) b h e = rw (read_number-decimal f.0 b h e)
read_text-onto (move.Steal f) b h e = rw (read_number-decimal f.0 b h e)
read_text-onto (move.Give f k) b h e = rw (read_number-decimal f.0 (32 ∷ key_onto k b) h.0 refl, read_key-onto k b h.1 e)
read_text-onto (move.Read f k) b h e = rw (read_number-decimal f.0 (32 ∷ key_onto k b) h.0 refl, read_key-onto k b h.1 e)
read_text-onto (move.Got f) b h e = rw (read_number-decimal f.0 b h e)
read_text-onto (move.Bad f) b h e = rw (read_number-decimal f.0 b h e)
read_text-onto (move.Map f p) b h e = rw (read_number-decimal f.0 (32 ∷ place_onto p b) h.0 refl, read_place-onto p b h.1 e)
read_text-onto (move.Unmap p) b h e = rw (read_place-onto p b h e)
read_text-onto (move.Soil f) b h e = rw (read_number-decimal f.0 b h e)
read_text-onto (move.Write f s) b h e = rw (read_number-decimal f.0 (stored_onto s b) h.0 (stored-ends s b), stored-onto f s b h.1 e)
read_text-onto (move.Wrote f) b h e = rw (read_number-decimal f.0 b h e)
read_text-onto (move.Lost f) b h e = rw (read_number-decimal f.0 b h e)

-- what was read, and what stands after it
abbrev pub value_of : {A : Type 0} → Option (A × Text) → Option A
value_of None = None
value_of (Some p) = Some p.0

abbrev pub rest_of : {A : Type 0} → Option (A × Text) → Text
rest_of None = []
rest_of (Some p) = p.1
