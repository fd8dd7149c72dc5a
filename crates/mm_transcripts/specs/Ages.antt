-- Ages of the pages of working sets.
-- Profile, "Paging, as far as answers show it".
use Rattle.std.specs.Prelude.{ℕ, ◌+◌, Bool, ◌==◌, min, is_some, if◌then◌else◌, Option, Some, None}
use Rattle.std.specs.Prelude.{option_map}
use Rattle.mm_types.specs.{Pid, Tid, Place, Move}
use Rattle.mm_types.specs.declared.moves.Move.TheVariants as move
use Rattle.mm_move_rules.specs.{same_place}

pub record AgesOf : Type 0 where
  -- the age of each valid page
  pub age : Place → Option ℕ
  -- the page of the access that a thread keeps: of the last that was begun and waits
  pub kept : Tid → Option Place

abbrev pub no_ages_known : AgesOf
no_ages_known = record { age = λ _. None; kept = λ _. None }

-- a function changed at one place, at one thread
abbrev pub at_place : {A : Type 0} → Place → A → (Place → A) → Place → A
at_place p x f q = if same_place p q then x else f q

abbrev pub at_thread : {A : Type 0} → Tid → A → (Tid → A) → Tid → A
at_thread t x f u = if t.0 == u.0 then x else f u

-- ---- what gives a page its age

-- it has age 0 when it is mapped
abbrev pub age_begun : Place → AgesOf → AgesOf
age_begun p v = record v { age = at_place p (Some 0) v.age }

abbrev pub age_ended : Place → AgesOf → AgesOf
age_ended p v = record v { age = at_place p None v.age }

-- and when an access there was answered `ok`
abbrev pub touched : Place → AgesOf → AgesOf
touched p v = if is_some (v.age p) then age_begun p v else v

-- `age` adds one to each valid page of the process, up to 7
abbrev pub one_older : ℕ → ℕ
one_older n = min 7 (n + 1)

abbrev pub older_of : Pid → (Place → Option ℕ) → Place → Option ℕ
older_of pid f p = if p.pid.0 == pid.0 then option_map one_older (f p) else f p

abbrev pub process_aged : Pid → AgesOf → AgesOf
process_aged pid v = record v { age = older_of pid v.age }

-- a thread keeps an access to this page
abbrev pub keeping : Tid → Place → AgesOf → AgesOf
keeping t p v = record v { kept = at_thread t (Some p) v.kept }

-- ---- moves

abbrev pub ages_after_move : Move → AgesOf → AgesOf
ages_after_move (move.Map f p) v = age_begun p v
ages_after_move (move.Unmap p) v = age_ended p v
ages_after_move _ v = v
