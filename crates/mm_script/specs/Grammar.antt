-- The grammar: which lines stand for which event, with one rule for each form of a line.
-- Profile, "Script".
use Rattle.std.specs.Prelude.{◌≡◌, ℕ, ◌+◌, ◌*◌, ◌%◌, Bool, true, false, nat_le, if◌then◌else◌, List, [], ◌∷◌, ◌++◌, length, codes, ◌⊎◌, IsTrue}
use Rattle.mm_types.specs.{Text, spaced, Pid, Tid, Device, Direction, Event, page_size}
use Rattle.mm_types.specs.declared.devices.Device.TheVariants as device
use Rattle.mm_types.specs.declared.devices.Direction.TheVariants as direction
use Rattle.mm_types.specs.declared.events.AccessSpec.TheVariants as spec
use Rattle.mm_types.specs.declared.events.Event.TheVariants as line
use Rattle.mm_script.specs.Field.{Field, Exactly, Decimal, Hex, Bytes, Named, NamedOrDash, EachSpells}

-- the line that tells the machine, which comes first and never again
abbrev pub is_machine : Event → Bool
is_machine (line.Machine machine) = true
is_machine _ = false

-- the most lines of a script
abbrev pub most_lines : ℕ
most_lines = 1000000

abbrev pub pid_field : Pid → Field
pid_field pid = Decimal 0 255 pid.0

abbrev pub tid_field : Tid → Field
tid_field tid = Decimal 0 255 tid.0

-- a handle: any number below 2 ^ 32
abbrev pub handle_field : ℕ → Field
handle_field handle = Decimal 0 0xFFFFFFFF handle

-- 0 or 1
abbrev pub flag_field : Bool → Field
flag_field flag = Decimal 0 1 (if flag then 1 else 0)

abbrev pub device_field : Device → Field
device_field device.Paging = Exactly (codes "paging")
device_field device.File = Exactly (codes "file")

abbrev pub direction_field : Direction → Field
direction_field direction.Read = Exactly (codes "read")
direction_field direction.Write = Exactly (codes "write")

-- the fields of a line, the keyword first: one rule for each form
abbrev pub fields_of : Event → List Field
fields_of (line.Machine m) = Exactly (codes "machine") ∷ Decimal 6 262144 m.frames ∷
    Decimal 0 262144 m.slots ∷ Decimal 1 64 m.depth ∷ Decimal 0 65536 m.blocks ∷ []
fields_of (line.Process min max) = Exactly (codes "process") ∷ Decimal 0 65536 min ∷
    Decimal 1 65536 max ∷ []
fields_of (line.Exit pid) = Exactly (codes "exit") ∷ pid_field pid ∷ []
fields_of (line.File name pages byte) = Exactly (codes "file") ∷ Named name ∷
    Decimal 1 65536 pages ∷ Decimal 0 255 byte ∷ []
fields_of (line.Alloc pid addr size kind prot) = Exactly (codes "alloc") ∷ pid_field pid ∷
    Hex addr ∷ Hex size ∷ Hex kind ∷ Hex prot ∷ []
fields_of (line.Free pid addr size kind) = Exactly (codes "free") ∷ pid_field pid ∷ Hex addr ∷
    Hex size ∷ Hex kind ∷ []
fields_of (line.Protect pid addr size prot) = Exactly (codes "protect") ∷ pid_field pid ∷ Hex addr ∷
    Hex size ∷ Hex prot ∷ []
fields_of (line.Query pid addr) = Exactly (codes "query") ∷ pid_field pid ∷ Hex addr ∷ []
fields_of (line.Create pid size flags name) = Exactly (codes "create") ∷ pid_field pid ∷ Hex size ∷
    Hex flags ∷ NamedOrDash name ∷ []
fields_of (line.CreateFile pid file flags name) = Exactly (codes "createfile") ∷ pid_field pid ∷
    Named file ∷ Hex flags ∷ NamedOrDash name ∷ []
fields_of (line.Open pid name) = Exactly (codes "open") ∷ pid_field pid ∷ Named name ∷ []
fields_of (line.Close pid handle) = Exactly (codes "close") ∷ pid_field pid ∷ handle_field handle ∷
    []
fields_of (line.Map pid handle access offset len addr) = Exactly (codes "map") ∷ pid_field pid ∷
    handle_field handle ∷ Hex access ∷ Hex offset ∷ Hex len ∷ Hex addr ∷ []
fields_of (line.Unmap pid addr) = Exactly (codes "unmap") ∷ pid_field pid ∷ Hex addr ∷ []
fields_of (line.Flush pid addr size) = Exactly (codes "flush") ∷ pid_field pid ∷ Hex addr ∷
    Hex size ∷ []
fields_of (line.Read pid addr len) = Exactly (codes "read") ∷ pid_field pid ∷ Hex addr ∷
    Decimal 1 64 len ∷ []
fields_of (line.Write pid addr bytes) = Exactly (codes "write") ∷ pid_field pid ∷ Hex addr ∷
    Bytes bytes ∷ []
fields_of (line.Exec pid addr) = Exactly (codes "exec") ∷ pid_field pid ∷ Hex addr ∷ []
fields_of (line.Begin tid pid (spec.Read addr len)) = Exactly (codes "begin") ∷ tid_field tid ∷
    pid_field pid ∷ Exactly (codes "read") ∷ Hex addr ∷ Decimal 1 64 len ∷ []
fields_of (line.Begin tid pid (spec.Write addr bytes)) = Exactly (codes "begin") ∷ tid_field tid ∷
    pid_field pid ∷ Exactly (codes "write") ∷ Hex addr ∷ Bytes bytes ∷ []
fields_of (line.Resume tid) = Exactly (codes "resume") ∷ tid_field tid ∷ []
fields_of (line.Io i) = Exactly (codes "io") ∷ Decimal 1 64 i ∷ []
fields_of (line.Trim pid n) = Exactly (codes "trim") ∷ pid_field pid ∷ Decimal 0 1000000 n ∷ []
fields_of (line.Age pid) = Exactly (codes "age") ∷ pid_field pid ∷ []
fields_of (line.Writer n) = Exactly (codes "writer") ∷ Decimal 0 1000000 n ∷ []
fields_of (line.Zeroer n) = Exactly (codes "zeroer") ∷ Decimal 0 1000000 n ∷ []
fields_of (line.Fail device direction k n) = Exactly (codes "fail") ∷ device_field device ∷
    direction_field direction ∷ Decimal 1 1000000 k ∷ Decimal 1 1000000 n ∷ []
fields_of line.Charge = Exactly (codes "charge") ∷ []
fields_of line.Counts = Exactly (codes "counts") ∷ []
fields_of (line.Grow n) = Exactly (codes "grow") ∷ Decimal 1 262144 n ∷ []
fields_of (line.Watch pid flag addr size count) = Exactly (codes "watch") ∷ pid_field pid ∷
    flag_field flag ∷ Hex addr ∷ Hex size ∷ Decimal 1 16 count ∷ []
fields_of (line.ResetWatch pid addr size) = Exactly (codes "resetwatch") ∷ pid_field pid ∷
    Hex addr ∷ Hex size ∷ []
fields_of (line.Stack tid pid reserve commit) = Exactly (codes "stack") ∷ tid_field tid ∷
    pid_field pid ∷ Hex reserve ∷ Hex commit ∷ []
fields_of (line.Probe tid addr) = Exactly (codes "probe") ∷ tid_field tid ∷ Hex addr ∷ []

-- bytes from an address on that lie inside one page
abbrev pub lies_in_page : ℕ → ℕ → Bool
lies_in_page addr len = nat_le (addr % page_size + len) page_size

-- what an event's fields have to meet together
abbrev pub are_joined : Event → Bool
are_joined (line.Machine m) = nat_le (2 * m.depth + 4) m.frames
are_joined (line.Process min max) = nat_le min max
are_joined (line.Read pid addr len) = lies_in_page addr len
are_joined (line.Write pid addr bytes) = lies_in_page addr (length bytes)
are_joined (line.Begin tid pid (spec.Read addr len)) = lies_in_page addr len
are_joined (line.Begin tid pid (spec.Write addr bytes)) = lies_in_page addr (length bytes)
are_joined _ = true

-- The text is these words with one space between each and the next. A carriage return may stand at
-- its end.
abbrev pub IsText : Text → List Text → Type 0
IsText text [] = ⊥
IsText text (w ∷ ws) = (text ≡ spaced w ws) ⊎ (text ≡ spaced w ws ++ 0x0D ∷ [])

-- The text, without its line feed, is a line for the event.
pub record IsLine (text : Text) (event : Event) : Type 0 where
  pub words : List Text
  pub whole : IsText text words
  pub spelled : EachSpells words (fields_of event)
  pub joined : IsTrue (are_joined event)
