-- A file that is read whole.
-- Profile, "What a log shows".
use Rattle.std.specs.Prelude.{◌≡◌, ◌≢◌, ◌⊎◌, ◌≤◌, ℕ, Bool, true, false, List, Option, Some, None}
use Rattle.std.specs.Prelude.{Result, Err, IfSome, OnOk}
use Rattle.mm_types.specs.{Text, Took, IsEnd, Rose}
use Rattle.mm_io.specs.declared.Source.{Ghosts as SourceGhosts}
use Rattle.mm_log_walk.specs.Lines.{lines_of}
use Rattle.mm_log_walk.specs.declared.files.FileFault.{FileFault}
use Rattle.mm_log_walk.specs.declared.files.FileFault.TheVariants as fault

-- these bytes were taken, and none is left
pub record IsRead (left left' : Option Text) (bytes : Text) : Type 0 where
  pub took : Took left left' bytes
  pub end : IsEnd left'

-- these bytes were taken so far, and there may be more
abbrev pub ReadsOn : Option Text → Option Text → Text → Bool → Type 0
ReadsOn left left' bytes true = Took left left' bytes
ReadsOn left left' bytes false = IsRead left left' bytes

-- the file is there, and where its bytes are told these are its lines
abbrev pub HasLines : Option (Option Text) → Option (List Text) → Type 0
HasLines left None = ⊥
HasLines None (Some lines) = ⊥
HasLines (Some left) (Some lines) = (text : Text) → left ≡ Some text → lines ≡ lines_of text

-- and these are its bytes
abbrev pub HasBytes : Option (Option Text) → Option Text → Type 0
HasBytes left None = ⊥
HasBytes None (Some bytes) = ⊥
HasBytes (Some left) (Some bytes) = (text : Text) → left ≡ Some text → bytes ≡ text

-- A file's count of faults never falls; it rose where a read failed, and is as it was where all of
-- the file was read.
pub record CountsFileFaults {A : Type 0} (before now : ℕ) (result : Result A FileFault) :
    Type 0 where
  pub later : before ≤ now
  pub failed : result ≡ Err fault.Failed → Rose before now
  pub same : OnOk result (now ≡ before)

-- ---- a file that may be named; none is one that could not be opened

-- the count of faults of a file, if there is one
abbrev pub file_faults : {F : Type 0} → (F → ℕ) → Option F → ℕ
file_faults faults None = 0
file_faults faults (Some f) = faults f

-- One that is named was opened and read to its end, and none of its reads failed.
pub record FileWasRead {F : Type 0} (f : SourceGhosts F) (named : Bool) (old new : Option F) :
    Type 0 where
  pub untouched : named ≡ false → new ≡ old
  pub opened : named ≡ true → old ≢ None
  pub end : named ≡ true → IfSome new (λ file. IsEnd (f.left file))
  pub same : file_faults f.faults new ≡ file_faults f.faults old

-- It is named, and could not be opened, or a read of it failed.
pub record FileFailed {F : Type 0} (f : SourceGhosts F) (named : Bool) (old new : Option F) :
    Type 0 where
  pub is_named : named ≡ true
  pub why : (old ≡ None) ⊎ Rose (file_faults f.faults old) (file_faults f.faults new)

-- What became of it, by what is answered.
pub record ReadsNamed {F A : Type 0} (f : SourceGhosts F) (named : Bool) (old new : Option F)
    (result : Result A FileFault) : Type 0 where
  pub later : file_faults f.faults old ≤ file_faults f.faults new
  pub read : OnOk result (FileWasRead f named old new)
  pub failed : result ≡ Err fault.Failed → FileFailed f named old new
  pub refused : result ≡ Err fault.NoMemory → (named ≡ true) × (old ≢ None)
