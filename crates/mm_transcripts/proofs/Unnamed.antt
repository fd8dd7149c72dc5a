-- Lines that begin as reads and writes do, with answers that begin as `ok` does: nothing stands
-- behind them.
use Rattle.std.proofs.Common.{◌≡◌, ℕ, Bool, true, false, cond, List, [], ◌∷◌, ◌++◌, length, Option, Some, None, Result, Ok, Err, refl, sym, ap, ◌∙◌, inl, inr}
use Rattle.std.specs.Prelude.{nat_le, codes}
use Rattle.std.proofs.lemmas.Bool.{eqb-true}
use Rattle.mm_types.specs.{Text, Event, spaced}
use Rattle.mm_types.proofs.{append_nil}
use Rattle.mm_types.specs.declared.events.Event.TheVariants as line
use Rattle.mm_script.specs.{Exactly, EachSpells, IsText, IsLine, LineFault, parse}
use Rattle.mm_script.specs.Field.{Field}
use Rattle.mm_script.proofs.{parse_ok}
use Rattle.mm_transcripts.specs.{begins_plainly, is_plain_answer, event_remark, remark_by, remark_text}

-- ---- the first byte of a line is that of its keyword

front : (w : Text) (ws : List Text) (more : Text) (k : ℕ) (ks : Text) → w ≡ k ∷ ks
    → begins_plainly (spaced w ws ++ more) ≡ begins_plainly (k ∷ [])
front w [] more k ks e = ap (λ (t : Text). begins_plainly (t ++ more)) e
front w (v ∷ vs) more k ks e = ap (λ (t : Text). begins_plainly ((t ++ 0x20 ∷ spaced v vs) ++ more)) e

front_alone : (w : Text) (ws : List Text) (k : ℕ) (ks : Text) → w ≡ k ∷ ks
    → begins_plainly (spaced w ws) ≡ begins_plainly (k ∷ [])
front_alone w [] k ks e = ap begins_plainly e
front_alone w (v ∷ vs) k ks e = ap (λ (t : Text). begins_plainly (t ++ 0x20 ∷ spaced v vs)) e

begins : (text : Text) (words : List Text) (k : ℕ) (ks : Text) (fs : List Field) → IsText text words
    → EachSpells words (Exactly (k ∷ ks) ∷ fs) → begins_plainly text ≡ begins_plainly (k ∷ [])
begins text [] k ks fs is each = absurd each
begins text (w ∷ ws) k ks fs (inl is) each = ap begins_plainly is ∙ front_alone w ws k ks each.0
begins text (w ∷ ws) k ks fs (inr is) each =
    ap begins_plainly is ∙ front w ws (0x0D ∷ []) k ks each.0

-- ---- what such a line and such an answer say

no_other : (text : Text) → begins_plainly text ≡ true → begins_plainly text ≡ false → ⊥
no_other text e f = let bad : false ≡ true = sym f ∙ e in cc

module _ (text cs : Text) (plain : begins_plainly text ≡ true) where
  abbrev said : Option Text
  said = Some (0x6F ∷ cs)

  of_event : (e : Event) → IsLine text e → event_remark e said ≡ []
  of_event (line.Alloc pid addr size kind prot) h =
      absurd (no_other text plain (begins text h.words 0x61 (codes "lloc") _ h.whole h.spelled))
  of_event (line.Free pid addr size kind) h =
      absurd (no_other text plain (begins text h.words 0x66 (codes "ree") _ h.whole h.spelled))
  of_event (line.Protect pid addr size prot) h =
      absurd (no_other text plain (begins text h.words 0x70 (codes "rotect") _ h.whole h.spelled))
  of_event (line.Query pid addr) h =
      absurd (no_other text plain (begins text h.words 0x71 (codes "uery") _ h.whole h.spelled))
  of_event (line.Create pid size flags name) h =
      absurd (no_other text plain (begins text h.words 0x63 (codes "reate") _ h.whole h.spelled))
  of_event (line.CreateFile pid file flags name) h =
      absurd (no_other text plain (begins text h.words 0x63 (codes "reatefile") _ h.whole h.spelled))
  of_event (line.Map pid handle access offset len addr) h =
      absurd (no_other text plain (begins text h.words 0x6D (codes "ap") _ h.whole h.spelled))
  of_event e h = refl

  of_result : (r : Result Event LineFault) → parse text ≡ r → remark_by r said ≡ []
  of_result (Ok e) is = of_event e (parse_ok text e is)
  of_result (Err f) is = refl

  either : (b : Bool) → cond b (remark_by (parse text) said) [] ≡ []
  either true = of_result (parse text) refl
  either false = refl

  nothing : remark_text text said ≡ []
  unfolding remark_text
  nothing = either (nat_le (length text) 256)

pub unnamed_remark : (before line : Text) (answer : Option Text) → begins_plainly line ≡ true
    → is_plain_answer answer ≡ true → before ≡ before ++ remark_text line answer
unnamed_remark before line None plain said = let bad : false ≡ true = said in cc
unnamed_remark before line (Some []) plain said = let bad : false ≡ true = said in cc
unnamed_remark before line (Some (c ∷ cs)) plain said =
    sym (ap (λ (k : ℕ). before ++ remark_text line (Some (k ∷ cs))) (eqb-true c 0x6F said)
    ∙ ap (λ t. before ++ t) (nothing line cs plain) ∙ append_nil before)

pub ruleset unnamed = (unnamed_remark)
