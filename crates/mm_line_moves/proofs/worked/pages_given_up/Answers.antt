use Rattle.std.proofs.Common.{◌≡◌, ◌<◌, ℕ, zero, suc, false, refl, arith}
use Rattle.mm_types.specs.declared.moves.Move.TheVariants as move
use Rattle.mm_move_rules.specs.{after_move, FrameLife, is_live, place, private}
use Rattle.mm_line_moves.specs.{shared, life_after, section_log}
use Rattle.mm_line_moves.proofs.worked.pages_given_up.Goals as goal

below_one : (P : ℕ → Type 0) → P 0 → (i : ℕ) → i < 1 → P i
below_one P p zero h = p
below_one P p (suc i) h = absurd (omega (arith, h))

-- the first key of the section is gone, behind a page and before all
abbrev first_gone : FrameLife → FrameLife
first_gone l = after_move l (move.Drop (shared 0 0))

gone_behind : (i : ℕ) → i < 1 → is_live (first_gone (after_move (after_move (life_after 8 section_log) (move.Unmap (place 1 16))) (move.Drop (private 1 16)))) (shared 0 i) ≡ false
gone_behind = below_one (λ i. is_live (first_gone (after_move (after_move (life_after 8 section_log) (move.Unmap (place 1 16))) (move.Drop (private 1 16)))) (shared 0 i) ≡ false) refl

gone_before : (i : ℕ) → i < 1 → is_live (first_gone (life_after 8 section_log)) (shared 0 i) ≡ false
gone_before = below_one (λ i. is_live (first_gone (life_after 8 section_log)) (shared 0 i) ≡ false) refl

pub returns-clause-viewed : goal.returns-clause-viewed
returns-clause-viewed = λ c. record {
  all = (refl, (refl, (refl, (refl, (refl, tt)))));
  order = (omega arith, omega arith, (omega arith, omega arith, (omega arith, omega arith, (omega arith, omega arith, (omega arith, omega arith, tt)))));
  lowest = (tt, (refl, ((λ i h. absurd (omega (arith, h))), (gone_behind, (tt, tt)))));
}

pub returns-clause-held : goal.returns-clause-held
returns-clause-held = λ c. record {
  all = (refl, (refl, (refl, (refl, (refl, tt)))));
  order = (omega arith, omega arith, (omega arith, omega arith, (omega arith, omega arith, (omega arith, omega arith, (omega arith, omega arith, tt)))));
  lowest = ((λ i h. absurd (omega (arith, h))), (gone_before, (tt, (refl, (tt, tt)))));
}

pub returns-clause-late : goal.returns-clause-late
returns-clause-late = λ c t. absurd (omega (arith, t.order.2.2.0))

pub returns-clause-early : goal.returns-clause-early
returns-clause-early = λ c t. absurd (omega (arith, t.order.2.2.0))

pub returns-clause-key_first : goal.returns-clause-key_first
returns-clause-key_first = λ c t. let bad = t.0 in cc
