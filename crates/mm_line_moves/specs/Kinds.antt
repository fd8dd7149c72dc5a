-- What each line is to the life of the frames, and what an access line is about.
-- Profile, "Logs of moves".
use Rattle.std.specs.Prelude.{ℕ, ◌+◌, Bool, true, false, is_some, if◌then◌else◌, Option, Some, None, option_map, option_and_then}
use Rattle.mm_types.specs.{Answer, Event, LineKind, Key, Pid, Place, page_of}
use Rattle.mm_types.specs.declared.answers.Answer.TheVariants as answer
use Rattle.mm_types.specs.declared.events.Event.TheVariants as line
use Rattle.mm_types.specs.declared.moves.LineKind.TheVariants as kind
use Rattle.mm_types.specs.declared.numbers.Key.TheVariants as key
use Rattle.mm_move_rules.specs.{FrameLife}
use Rattle.mm_world.specs.{WorldOf, KeptOf, process_of, area_at, committed_at, content_of, key_of, Attempt, ReadOf, WriteOf, Execute, address_in}
use Rattle.mm_world.specs.{attempt_in, kept_by, need_at}
use Rattle.mm_store.specs.{place_at, Aim}

abbrev pub made_process : Answer → ℕ → ℕ → LineKind
made_process (answer.NewProcess pid) min max = kind.Process pid min max
made_process _ min max = kind.Call

abbrev pub kind_of_growth : Answer → ℕ → LineKind
kind_of_growth (answer.Limit n) count = kind.Grow count
kind_of_growth _ count = kind.Call

abbrev pub kept_kind : Option KeptOf → LineKind
kept_kind None = kind.Call
kept_kind (Some k) = kind.Thread (record { 0 = k.pid })

abbrev pub is_write_attempt : Attempt → Bool
is_write_attempt (ReadOf len) = false
is_write_attempt (WriteOf bytes) = true
is_write_attempt Execute = false

module _ {B : Type 0} where
  abbrev pub lives : WorldOf B → Pid → Bool
  lives w pid = is_some (process_of w pid.0)

  -- the key of the place's committed row
  abbrev pub row_key : WorldOf B → Place → Option Key
  row_key w place =
      option_and_then
      (λ p. option_map (λ c. key_of place.pid.0 place.vpn.0 c.home)
      (committed_at w p.regions place.vpn.0))
      (process_of w place.pid.0)

  -- the block of a live file key
  abbrev pub file_block_of : WorldOf B → Key → Option ℕ
  file_block_of w (key.Private pid page) = None
  file_block_of w (key.Shared area index) =
      if is_some (content_of w (key.Shared area index))
      then option_map (λ first. first + index) (area_at w area.0).file_block
      else None

  abbrev pub if_lives : WorldOf B → Pid → LineKind → LineKind
  if_lives w pid k = if lives w pid then k else kind.Call

  -- by the world before the line, and its answer
  abbrev pub kind_of_line : WorldOf B → Event → Answer → LineKind
  kind_of_line w (line.Process min max) a = made_process a min max
  kind_of_line w (line.Exit pid) a = if_lives w pid (kind.Unbind pid)
  kind_of_line w (line.Free pid addr size type) a = if_lives w pid (kind.Unbind pid)
  kind_of_line w (line.Unmap pid addr) a = if_lives w pid (kind.Unbind pid)
  kind_of_line w (line.Read pid addr len) a = if_lives w pid (kind.Access pid)
  kind_of_line w (line.Write pid addr bytes) a = if_lives w pid (kind.Access pid)
  kind_of_line w (line.Exec pid addr) a = if_lives w pid (kind.Access pid)
  kind_of_line w (line.Begin tid pid what) a = if is_some (kept_by w tid.0) then kind.Call else
      if_lives w pid (kind.Thread pid)
  kind_of_line w (line.Resume tid) a = kept_kind (kept_by w tid.0)
  kind_of_line w (line.Trim pid n) a = if_lives w pid (kind.Trim pid)
  kind_of_line w (line.Writer n) a = kind.Writer
  kind_of_line w (line.Zeroer n) a = kind.Zeroer
  kind_of_line w (line.Io i) a = kind.Io
  kind_of_line w (line.Grow n) a = kind_of_growth a n
  kind_of_line w _ a = kind.Call

  -- ---- what an access line is about, where the access is permitted

  abbrev pub aim_at : WorldOf B → FrameLife → Pid → ℕ → Attempt → Option Aim
  aim_at w l pid addr what =
      option_map (λ n. record {
        place = place_at pid (page_of addr);
        need = n;
        writes = is_write_attempt what;
        start = l;
      }) (need_at w pid.0 addr what)

  abbrev pub aim_kept : WorldOf B → FrameLife → Option KeptOf → Option Aim
  aim_kept w l None = None
  aim_kept w l (Some k) = aim_at w l (record {
    0 = k.pid;
  }) (address_in k.access) (attempt_in k.access)

  abbrev pub aim_of : WorldOf B → FrameLife → Event → Option Aim
  aim_of w l (line.Read pid addr len) = aim_at w l pid addr (ReadOf len)
  aim_of w l (line.Write pid addr bytes) = aim_at w l pid addr (WriteOf bytes)
  aim_of w l (line.Exec pid addr) = aim_at w l pid addr Execute
  aim_of w l (line.Begin tid pid what) = if is_some (kept_by w tid.0) then None else
      aim_at w l pid (address_in what) (attempt_in what)
  aim_of w l (line.Resume tid) = aim_kept w l (kept_by w tid.0)
  aim_of w l _ = None
