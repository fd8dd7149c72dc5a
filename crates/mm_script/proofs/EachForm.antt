-- Each form of a line: its values are those of one event, and each event is of one form.
use Rattle.std.proofs.Common.{◌≡◌, ℕ, ◌⊎◌, List, ◌∷◌, refl, inl, inr}
use Rattle.mm_types.specs.{Pid, Tid, Event}
use Rattle.mm_types.specs.declared.events.AccessSpec.TheVariants as spec
use Rattle.mm_types.specs.declared.events.Event.TheVariants as line
use Rattle.mm_text.specs.{is_letter}
use Rattle.mm_script.specs.{Keyword, Exactly, fields_of, text_of, shape_of, make_of}
use Rattle.mm_script.specs.declared.keywords.Keyword.TheVariants as keyword
use Rattle.mm_script.proofs.Joined.{IsPlain}
use Rattle.mm_script.proofs.Plain.{plain_all}
use Rattle.mm_script.proofs.Shapes.{Values, made_of, fields_for}

begin_made : (tid : Tid) (pid : Pid) (vs : (ℕ × (ℕ × Unit {0})) ⊎ (ℕ × (List ℕ × Unit {0}))) → fields_of (made_of (shape_of keyword.Begin) (make_of keyword.Begin) (tid, (pid, vs))) ≡ Exactly (text_of keyword.Begin) ∷ fields_for (shape_of keyword.Begin) (tid, (pid, vs))
begin_made tid pid (inl vs) = refl
begin_made tid pid (inr vs) = refl

-- the fields of the event that is made after a keyword
pub fields_made : (k : Keyword) (vs : Values (shape_of k)) → fields_of (made_of (shape_of k) (make_of k) vs) ≡ Exactly (text_of k) ∷ fields_for (shape_of k) vs
fields_made keyword.Begin vs = begin_made vs.0 vs.1.0 vs.1.1
fields_made k vs = refl

-- the keyword of an event, and the values after it
pub record IsOfForm (e : Event) : Type 0 where
  pub keyword : Keyword
  pub values : Values (shape_of keyword)
  pub made : made_of (shape_of keyword) (make_of keyword) values ≡ e

pub form_of : (e : Event) → IsOfForm e
form_of (line.Machine m) = record { keyword = keyword.Machine; values = (m.frames, (m.slots, (m.depth, (m.blocks, tt)))); made = refl }
form_of (line.Process min max) = record { keyword = keyword.Process; values = (min, (max, tt)); made = refl }
form_of (line.Exit pid) = record { keyword = keyword.Exit; values = (pid, tt); made = refl }
form_of (line.File name pages byte) = record { keyword = keyword.File; values = (name, (pages, (byte, tt))); made = refl }
form_of (line.Alloc pid addr size kind prot) = record { keyword = keyword.Alloc; values = (pid, (addr, (size, (kind, (prot, tt))))); made = refl }
form_of (line.Free pid addr size kind) = record { keyword = keyword.Free; values = (pid, (addr, (size, (kind, tt)))); made = refl }
form_of (line.Protect pid addr size prot) = record { keyword = keyword.Protect; values = (pid, (addr, (size, (prot, tt)))); made = refl }
form_of (line.Query pid addr) = record { keyword = keyword.Query; values = (pid, (addr, tt)); made = refl }
form_of (line.Create pid size flags name) = record { keyword = keyword.Create; values = (pid, (size, (flags, (name, tt)))); made = refl }
form_of (line.CreateFile pid file flags name) = record { keyword = keyword.CreateFile; values = (pid, (file, (flags, (name, tt)))); made = refl }
form_of (line.Open pid name) = record { keyword = keyword.Open; values = (pid, (name, tt)); made = refl }
form_of (line.Close pid handle) = record { keyword = keyword.Close; values = (pid, (handle, tt)); made = refl }
form_of (line.Map pid handle access offset len addr) = record { keyword = keyword.Map; values = (pid, (handle, (access, (offset, (len, (addr, tt)))))); made = refl }
form_of (line.Unmap pid addr) = record { keyword = keyword.Unmap; values = (pid, (addr, tt)); made = refl }
form_of (line.Flush pid addr size) = record { keyword = keyword.Flush; values = (pid, (addr, (size, tt))); made = refl }
form_of (line.Read pid addr len) = record { keyword = keyword.Read; values = (pid, (addr, (len, tt))); made = refl }
form_of (line.Write pid addr bytes) = record { keyword = keyword.Write; values = (pid, (addr, (bytes, tt))); made = refl }
form_of (line.Exec pid addr) = record { keyword = keyword.Exec; values = (pid, (addr, tt)); made = refl }
form_of (line.Begin tid pid (spec.Read addr len)) = record { keyword = keyword.Begin; values = (tid, (pid, inl (addr, (len, tt)))); made = refl }
form_of (line.Begin tid pid (spec.Write addr bytes)) = record { keyword = keyword.Begin; values = (tid, (pid, inr (addr, (bytes, tt)))); made = refl }
form_of (line.Resume tid) = record { keyword = keyword.Resume; values = (tid, tt); made = refl }
form_of (line.Io i) = record { keyword = keyword.Io; values = (i, tt); made = refl }
form_of (line.Trim pid n) = record { keyword = keyword.Trim; values = (pid, (n, tt)); made = refl }
form_of (line.Age pid) = record { keyword = keyword.Age; values = (pid, tt); made = refl }
form_of (line.Writer n) = record { keyword = keyword.Writer; values = (n, tt); made = refl }
form_of (line.Zeroer n) = record { keyword = keyword.Zeroer; values = (n, tt); made = refl }
form_of (line.Fail device direction k n) = record { keyword = keyword.Fail; values = (device, (direction, (k, (n, tt)))); made = refl }
form_of line.Charge = record { keyword = keyword.Charge; values = tt; made = refl }
form_of line.Counts = record { keyword = keyword.Counts; values = tt; made = refl }
form_of (line.Grow n) = record { keyword = keyword.Grow; values = (n, tt); made = refl }
form_of (line.Watch pid flag addr size count) = record { keyword = keyword.Watch; values = (pid, (flag, (addr, (size, (count, tt))))); made = refl }
form_of (line.ResetWatch pid addr size) = record { keyword = keyword.ResetWatch; values = (pid, (addr, (size, tt))); made = refl }
form_of (line.Stack tid pid reserve commit) = record { keyword = keyword.Stack; values = (tid, (pid, (reserve, (commit, tt)))); made = refl }
form_of (line.Probe tid addr) = record { keyword = keyword.Probe; values = (tid, (addr, tt)); made = refl }

pub plain_keyword : (k : Keyword) → IsPlain (text_of k)
plain_keyword keyword.Machine = plain_all is_letter refl refl (text_of keyword.Machine) refl
plain_keyword k = plain_all is_letter refl refl (text_of k) refl
