-- The table is held against the definition at each of the 16 digits, by computing.
use Rattle.std.proofs.Common.{◌≡◌, ℕ, ◌<◌, List, get_or, true, refl}
use Rattle.std.specs.Prelude.{◌==◌}
use Rattle.std.proofs.lemmas.Bool.{agree_below, agree_below_at, eqb-true}
use Rattle.mm_types.specs.{glyph}
use Rattle.mm_run.specs.declared.answers.TheConstants.{GLYPHS}
use Rattle.mm_run.proofs.answers.digit_at.Goals as goal

glyph_at : (table : List ℕ) (d : ℕ) → agree_below (λ k. get_or table k 0 == glyph k) (λ _. true) 16 ≡ true → d < 16 → get_or table d 0 ≡ glyph d
glyph_at table d same low = eqb-true (get_or table d 0) (glyph d) (agree_below_at (λ k. get_or table k 0 == glyph k) (λ _. true) 16 d same low)

pub returns : goal.returns
returns c = glyph_at GLYPHS c.args.digit refl c.requires
