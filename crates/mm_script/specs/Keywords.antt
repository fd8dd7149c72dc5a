-- The first words of lines.
-- Profile, "Script".
use Rattle.std.specs.Prelude.{List, [], ◌∷◌, Option, Some, None, bytes_eq, if◌then◌else◌, codes}
use Rattle.mm_types.specs.{Text}
use Rattle.mm_script.specs.declared.keywords.Keyword.{Keyword}
use Rattle.mm_script.specs.declared.keywords.Keyword.TheVariants as keyword

abbrev pub text_of : Keyword → Text
text_of keyword.Machine = codes "machine"
text_of keyword.Process = codes "process"
text_of keyword.Exit = codes "exit"
text_of keyword.File = codes "file"
text_of keyword.Alloc = codes "alloc"
text_of keyword.Free = codes "free"
text_of keyword.Protect = codes "protect"
text_of keyword.Query = codes "query"
text_of keyword.Create = codes "create"
text_of keyword.CreateFile = codes "createfile"
text_of keyword.Open = codes "open"
text_of keyword.Close = codes "close"
text_of keyword.Map = codes "map"
text_of keyword.Unmap = codes "unmap"
text_of keyword.Flush = codes "flush"
text_of keyword.Read = codes "read"
text_of keyword.Write = codes "write"
text_of keyword.Exec = codes "exec"
text_of keyword.Begin = codes "begin"
text_of keyword.Resume = codes "resume"
text_of keyword.Io = codes "io"
text_of keyword.Trim = codes "trim"
text_of keyword.Age = codes "age"
text_of keyword.Writer = codes "writer"
text_of keyword.Zeroer = codes "zeroer"
text_of keyword.Fail = codes "fail"
text_of keyword.Charge = codes "charge"
text_of keyword.Counts = codes "counts"
text_of keyword.Grow = codes "grow"
text_of keyword.Watch = codes "watch"
text_of keyword.ResetWatch = codes "resetwatch"
text_of keyword.Stack = codes "stack"
text_of keyword.Probe = codes "probe"

-- the first of some keywords that is the word
abbrev pub keyword_among : List Keyword → Text → Option Keyword
keyword_among [] word = None
keyword_among (k ∷ ks) word = if bytes_eq word (text_of k) then Some k else keyword_among ks word

abbrev pub keywords : List Keyword
keywords = keyword.Machine ∷ keyword.Process ∷ keyword.Exit ∷ keyword.File ∷ keyword.Alloc ∷
    keyword.Free ∷ keyword.Protect ∷ keyword.Query ∷ keyword.Create ∷ keyword.CreateFile ∷
    keyword.Open ∷ keyword.Close ∷ keyword.Map ∷ keyword.Unmap ∷ keyword.Flush ∷ keyword.Read ∷
    keyword.Write ∷ keyword.Exec ∷ keyword.Begin ∷ keyword.Resume ∷ keyword.Io ∷ keyword.Trim ∷
    keyword.Age ∷ keyword.Writer ∷ keyword.Zeroer ∷ keyword.Fail ∷ keyword.Charge ∷ keyword.Counts ∷
    keyword.Grow ∷ keyword.Watch ∷ keyword.ResetWatch ∷ keyword.Stack ∷ keyword.Probe ∷ []

-- the keyword that a word is
unfoldable pub keyword_of : Text → Option Keyword
keyword_of word = keyword_among keywords word
