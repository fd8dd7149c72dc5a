-- Which threads may have a stack.
-- Profile, "Threads".
use Rattle.std.specs.Prelude.{◌≡◌, ◌≤◌, ◌==◌, ℕ, Bool, Option, Some, None}
use Rattle.mm_world.specs.{Numbered, StackOf, is_stack_at, numbered, threads}

-- no thread from this number on has a stack
pub record StandBelow (end : ℕ) (stacks : Numbered StackOf) : Type 0 where
  pub within : end ≤ threads
  pub none : (tid : ℕ) → end ≤ tid → numbered stacks tid ≡ None

-- a stack of the process: the one whose region begins at the address, where one is given, else any
abbrev pub is_stack_of : ℕ → Option ℕ → StackOf → Bool
is_stack_of pid None = λ s. s.pid == pid
is_stack_of pid (Some addr) = is_stack_at pid addr
