-- The outputs of the generator: PCG32 (XSH RR 64/32), stream 54.
-- Profile, "A run".
use Rattle.std.specs.Prelude.{ℕ, ◌+◌}
use Rattle.rand_pcg.specs.Lcg.{Lcg, advance, started, increment_of}
use Rattle.rand_pcg.specs.Pcg.{multiplier_64, pcg32}

-- output i, counted from 0, of a generator
unfoldable pub outputs : Lcg → ℕ → ℕ
outputs g i = (pcg32 (advance 64 multiplier_64 i g)).0

abbrev pub stream : ℕ
stream = 54

-- a new generator of this seed
abbrev pub seeded : ℕ → Lcg
seeded seed = started 64 multiplier_64 seed (increment_of 64 stream)

-- the outputs from output n on
abbrev pub outputs_from : ℕ → (ℕ → ℕ) → ℕ → ℕ
outputs_from n words i = words (n + i)
