-- What the words of a line have to be, one after another.
-- Profile, "Script".
use Rattle.std.specs.Prelude.{ℕ, Bool, nat_le, ◌&&◌, ◌==◌, if◌then◌else◌, List, Option, Some, None, option_map, option_and_then, bytes_eq, codes}
use Rattle.mm_types.specs.{Text, Pid, Tid, Device, Direction}
use Rattle.mm_types.specs.declared.devices.Device.TheVariants as device
use Rattle.mm_types.specs.declared.devices.Direction.TheVariants as direction
use Rattle.mm_text.specs.{number_of, bytes_of_pairs, name_of}
use Rattle.mm_script.specs.declared.keywords.Keyword.{Keyword}
use Rattle.mm_script.specs.declared.keywords.Keyword.TheVariants as keyword

-- the kinds of words
pub data Kind : Type 0 where
  Number : (least most : ℕ) → Kind  -- a number in a range
  AnyNumber : Kind  -- a number below 2 ^ 32
  PidNumber : Kind
  TidNumber : Kind
  FlagNumber : Kind  -- 0 or 1
  ByteWord : Kind  -- 1 to 64 bytes
  NameWord : Kind
  NameOrDash : Kind
  DeviceWord : Kind  -- paging or file
  DirectionWord : Kind  -- read or write

-- what a word of a kind stands for
abbrev pub Value : Kind → Type 0
Value (Number least most) = ℕ
Value AnyNumber = ℕ
Value PidNumber = Pid
Value TidNumber = Tid
Value FlagNumber = Bool
Value ByteWord = List ℕ
Value NameWord = Text
Value NameOrDash = Option Text
Value DeviceWord = Device
Value DirectionWord = Direction

abbrev pub within : ℕ → ℕ → ℕ → Option ℕ
within least most n = if nat_le least n && nat_le n most then Some n else None

-- a number in a range
unfoldable pub number_in : ℕ → ℕ → Text → Option ℕ
number_in least most word = option_and_then (within least most) (number_of word)

abbrev pub pid_from : ℕ → Pid
pid_from n = record { 0 = n }

abbrev pub tid_from : ℕ → Tid
tid_from n = record { 0 = n }

abbrev pub flag_from : ℕ → Bool
flag_from n = n == 1

abbrev pub name_or_dash : Text → Option (Option Text)
name_or_dash word = if bytes_eq word (codes "-") then Some None else
    option_map (λ n. Some n) (name_of word)

abbrev pub device_of : Text → Option Device
device_of word = if bytes_eq word (codes "paging") then Some device.Paging else
    if bytes_eq word (codes "file") then Some device.File else None

abbrev pub direction_of : Text → Option Direction
direction_of word = if bytes_eq word (codes "read") then Some direction.Read else
    if bytes_eq word (codes "write") then Some direction.Write else None

-- what a word stands for as one of a kind; none where it does not have the kind's form and range
unfoldable pub read : (k : Kind) → Text → Option (Value k)
read (Number least most) word = number_in least most word
read AnyNumber word = number_of word
read PidNumber word = option_map pid_from (number_in 0 255 word)
read TidNumber word = option_map tid_from (number_in 0 255 word)
read FlagNumber word = option_map flag_from (number_in 0 1 word)
read ByteWord word = bytes_of_pairs word
read NameWord word = name_of word
read NameOrDash word = name_or_dash word
read DeviceWord word = device_of word
read DirectionWord word = direction_of word

-- the words after a keyword: what stands after `read` differs from what stands after `write`
pub data Shape : Type 0 where
  End : Shape
  Then : Kind → Shape → Shape
  ReadOrWrite : (if_read if_write : Shape) → Shape

abbrev pub shape_of : Keyword → Shape
shape_of keyword.Machine =
    Then (Number 6 262144) (Then (Number 0 262144) (Then (Number 1 64) (Then (Number 0 65536) End)))
shape_of keyword.Process = Then (Number 0 65536) (Then (Number 1 65536) End)
shape_of keyword.Exit = Then PidNumber End
shape_of keyword.File = Then NameWord (Then (Number 1 65536) (Then (Number 0 255) End))
shape_of keyword.Alloc =
    Then PidNumber (Then AnyNumber (Then AnyNumber (Then AnyNumber (Then AnyNumber End))))
shape_of keyword.Free = Then PidNumber (Then AnyNumber (Then AnyNumber (Then AnyNumber End)))
shape_of keyword.Protect = Then PidNumber (Then AnyNumber (Then AnyNumber (Then AnyNumber End)))
shape_of keyword.Query = Then PidNumber (Then AnyNumber End)
shape_of keyword.Create = Then PidNumber (Then AnyNumber (Then AnyNumber (Then NameOrDash End)))
shape_of keyword.CreateFile = Then PidNumber (Then NameWord (Then AnyNumber (Then NameOrDash End)))
shape_of keyword.Open = Then PidNumber (Then NameWord End)
shape_of keyword.Close = Then PidNumber (Then (Number 0 0xFFFFFFFF) End)
shape_of keyword.Map =
    Then PidNumber
    (Then (Number 0 0xFFFFFFFF)
    (Then AnyNumber (Then AnyNumber (Then AnyNumber (Then AnyNumber End)))))
shape_of keyword.Unmap = Then PidNumber (Then AnyNumber End)
shape_of keyword.Flush = Then PidNumber (Then AnyNumber (Then AnyNumber End))
shape_of keyword.Read = Then PidNumber (Then AnyNumber (Then (Number 1 64) End))
shape_of keyword.Write = Then PidNumber (Then AnyNumber (Then ByteWord End))
shape_of keyword.Exec = Then PidNumber (Then AnyNumber End)
shape_of keyword.Begin =
    Then TidNumber
    (Then PidNumber
    (ReadOrWrite (Then AnyNumber (Then (Number 1 64) End)) (Then AnyNumber (Then ByteWord End))))
shape_of keyword.Resume = Then TidNumber End
shape_of keyword.Io = Then (Number 1 64) End
shape_of keyword.Trim = Then PidNumber (Then (Number 0 1000000) End)
shape_of keyword.Age = Then PidNumber End
shape_of keyword.Writer = Then (Number 0 1000000) End
shape_of keyword.Zeroer = Then (Number 0 1000000) End
shape_of keyword.Fail =
    Then DeviceWord (Then DirectionWord (Then (Number 1 1000000) (Then (Number 1 1000000) End)))
shape_of keyword.Charge = End
shape_of keyword.Counts = End
shape_of keyword.Grow = Then (Number 1 262144) End
shape_of keyword.Watch =
    Then PidNumber (Then FlagNumber (Then AnyNumber (Then AnyNumber (Then (Number 1 16) End))))
shape_of keyword.ResetWatch = Then PidNumber (Then AnyNumber (Then AnyNumber End))
shape_of keyword.Stack = Then TidNumber (Then PidNumber (Then AnyNumber (Then AnyNumber End)))
shape_of keyword.Probe = Then TidNumber (Then AnyNumber End)
