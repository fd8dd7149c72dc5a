-- The parts of a move's condition make up the condition; the first of them that fails.
use Rattle.std.proofs.Common.{◌≡◌, ℕ, zero, suc, ◌+◌, ◌<◌, ◌≤◌, Bool, true, false, ◌&&◌, cond, List, [], ◌∷◌, ◌++◌, length, drop, get_or, Option, Some, None, refl, sym, ap, ◌∙◌, arith}
use Rattle.std.specs.Prelude.{is_none, is_some, option_map, unwrap_or}
use Rattle.std.proofs.lemmas.Bool.{false≢true}
use Rattle.std.proofs.lemmas.Option.{none-some, same_Some}
use Rattle.std.proofs.lemmas.List.{drop_more, drop_all}
use Rattle.mm_types.specs.{Frame, Move}
use Rattle.mm_types.specs.declared.moves.LineKind.TheVariants as kind
use Rattle.mm_types.specs.declared.moves.Stored.TheVariants as stored
use Rattle.mm_types.specs.declared.moves.Move.TheVariants as move
use Rattle.mm_move_rules.specs.{FrameLife, record_at, is_legal, may_unmap}
use Rattle.mm_sentences.specs.{part_holds, parts_of, first_failing, refusal, is_tested, are_tested, all_hold, Part}
use Rattle.mm_sentences.specs.declared.parts.Part.TheVariants as part

-- ---- the condition is its parts

valid_and : (o : Option Frame) (g : Frame → Bool) → unwrap_or (option_map g o) false ≡ (is_some o && unwrap_or (option_map g o) false)
valid_and None g = refl
valid_and (Some f) g = refl

of2 : (a b : Bool) → (a && b) ≡ (a && (b && true))
of2 true true = refl
of2 true false = refl
of2 false b = refl

of3 : (a b c : Bool) → ((a && b) && c) ≡ (a && (b && (c && true)))
of3 true b c = of2 b c
of3 false b c = refl

of4 : (a b c d : Bool) → (((a && b) && c) && d) ≡ (a && (b && (c && (d && true))))
of4 true b c d = of3 b c d
of4 false b c d = refl

of5 : (a b c d e : Bool) → ((((a && b) && c) && d) && e) ≡ (a && (b && (c && (d && (e && true)))))
of5 true b c d e = of4 b c d e
of5 false b c d e = refl

-- two of each line, and two or three of its kind
of2_and_2 : (a b c d : Bool) → ((a && b) && (c && d)) ≡ (a && (b && (c && (d && true))))
of2_and_2 true true c d = of2 c d
of2_and_2 true false c d = refl
of2_and_2 false b c d = refl

of2_and_3 : (a b c d e : Bool) → ((a && b) && ((c && d) && e)) ≡ (a && (b && (c && (d && (e && true)))))
of2_and_3 true true c d e = of3 c d e
of2_and_3 true false c d e = refl
of2_and_3 false b c d e = refl

module _ (l : FrameLife) (p q : Part) where
  by2 : (part_holds l p && part_holds l q) ≡ all_hold l (p ∷ q ∷ [])
  by2 = of2 (part_holds l p) (part_holds l q)

  by3 : (r : Part) → ((part_holds l p && part_holds l q) && part_holds l r) ≡ all_hold l (p ∷ q ∷ r ∷ [])
  by3 r = of3 (part_holds l p) (part_holds l q) (part_holds l r)

  by4 : (r s : Part) → (((part_holds l p && part_holds l q) && part_holds l r) && part_holds l s) ≡ all_hold l (p ∷ q ∷ r ∷ s ∷ [])
  by4 r s = of4 (part_holds l p) (part_holds l q) (part_holds l r) (part_holds l s)

  by5 : (r s t : Part) → ((((part_holds l p && part_holds l q) && part_holds l r) && part_holds l s) && part_holds l t) ≡ all_hold l (p ∷ q ∷ r ∷ s ∷ t ∷ [])
  by5 r s t = of5 (part_holds l p) (part_holds l q) (part_holds l r) (part_holds l s) (part_holds l t)

  by2_and_2 : (r s : Part) → ((part_holds l p && part_holds l q) && (part_holds l r && part_holds l s)) ≡ all_hold l (p ∷ q ∷ r ∷ s ∷ [])
  by2_and_2 r s = of2_and_2 (part_holds l p) (part_holds l q) (part_holds l r) (part_holds l s)

  by2_and_3 : (r s t : Part) → ((part_holds l p && part_holds l q) && ((part_holds l r && part_holds l s) && part_holds l t)) ≡ all_hold l (p ∷ q ∷ r ∷ s ∷ t ∷ [])
  by2_and_3 r s t = of2_and_3 (part_holds l p) (part_holds l q) (part_holds l r) (part_holds l s) (part_holds l t)

pub condition : (l : FrameLife) (m : Move) → is_legal l m ≡ all_hold l (parts_of m)
condition l (move.At n (kind.Machine frames slots depth blocks)) =
    by2_and_2 l (part.NextLine n) part.InDepth part.FirstLine (part.MachineRange (kind.Machine frames slots depth blocks))
condition l (move.At n (kind.Process pid min max)) = by2_and_3 l (part.NextLine n) part.InDepth part.Started (part.NextProcess pid) (part.FewProcesses pid)
condition l (move.At n (kind.Grow c)) = by2_and_3 l (part.NextLine n) part.InDepth part.Started (part.SomeSlots c) (part.FewSlots c)
condition l (move.At n (kind.Unbind pid)) = by3 l (part.NextLine n) part.InDepth part.Started
condition l (move.At n (kind.Access pid)) = by3 l (part.NextLine n) part.InDepth part.Started
condition l (move.At n (kind.Thread pid)) = by3 l (part.NextLine n) part.InDepth part.Started
condition l (move.At n (kind.Trim pid)) = by3 l (part.NextLine n) part.InDepth part.Started
condition l (move.At n kind.Writer) = by3 l (part.NextLine n) part.InDepth part.Started
condition l (move.At n kind.Zeroer) = by3 l (part.NextLine n) part.InDepth part.Started
condition l (move.At n kind.Io) = by3 l (part.NextLine n) part.InDepth part.Started
condition l (move.At n kind.Call) = by3 l (part.NextLine n) part.InDepth part.Started
condition l (move.Add k None) = by3 l (part.NotLive k) part.Commit (part.CallOrCopy k)
condition l (move.Add k (Some b)) = by5 l part.Call (part.OfSection k) (part.NotLive k) (part.BlockThere b) (part.BlockNew b)
condition l (move.Drop k) = by3 l part.CallOrUnbind (part.OfPagingFile k) (part.Unmapped k)
condition l (move.Clear f) = by2 l (part.FirstFree f) part.Zeroes
condition l (move.Steal f) = by4 l (part.FirstStandby f) part.ZeroedEmpty part.FreeEmpty part.Access
condition l (move.Give f k) = by3 l (part.FirstZeroed f) (part.DemandZero k) part.Access
condition l (move.Read f k) = by3 l (part.FirstToRead f) (part.OnDevice k) part.AccessReads
condition l (move.Got f) = by2 l (part.BeingRead f) part.IoOrAccess
condition l (move.Bad f) = by2 l (part.BeingRead f) part.IoOrAccess
condition l (move.Map f p) = by5 l (part.FitsPlace f p) (part.NotBeingRead f) (part.NotValid p) (part.AccessOf p.pid) (part.BelowMax p.pid)
condition l (move.Unmap p) = valid_and (l.valid p) (λ f. may_unmap l p (record_at l.frames f.0)) ∙ by2 l (part.Valid p) (part.MayEnd p)
condition l (move.Soil f) = by3 l (part.Active f) (part.Clean f) part.Access
condition l (move.Write f (stored.Slot s)) = by4 l (part.OnModified f) (part.HoldsPaging f) (part.LowestSlot s) part.WritesSlot
condition l (move.Write f (stored.Block b)) = by5 l (part.Changed f) (part.Owned f) (part.Quiet f) (part.OfBlock f b) (part.WritesBlock f)
condition l (move.Wrote f) = by2 l (part.BeingWritten f) part.IoAccessOrCall
condition l (move.Lost f) = by2 l (part.BeingWritten f) part.IoAccessOrCall

-- ---- no part fails exactly where all hold

none_then : (a b : Bool) (p : Part) (o : Option Part) → is_none o ≡ b → is_none (cond a o (Some p)) ≡ (a && b)
none_then true b p o e = e
none_then false b p o e = refl

pub none_fails : (l : FrameLife) (ps : List Part) → is_none (first_failing l ps) ≡ all_hold l ps
none_fails l [] = refl
none_fails l (p ∷ ps) = none_then (part_holds l p) (all_hold l ps) p (first_failing l ps) (none_fails l ps)

pub legal_exactly : (l : FrameLife) (m : Move) → is_none (refusal l m) ≡ is_legal l m
legal_exactly l m = none_fails l (parts_of m) ∙ sym (condition l m)

is_none-None : {A : Type 0} (o : Option A) → is_none o ≡ true → None ≡ o
is_none-None None e = refl
is_none-None (Some x) e = absurd (false≢true e)

pub refused_none : (l : FrameLife) (m : Move) → is_legal l m ≡ true → None ≡ refusal l m
refused_none l m e = is_none-None (refusal l m) (legal_exactly l m ∙ e)

pub fails_whole : (l : FrameLife) (m : Move) (ps : List Part) (last : Part) → is_legal l m ≡ false → parts_of m ≡ ps ++ last ∷ [] → all_hold l (ps ++ last ∷ []) ≡ false
fails_whole l m ps last e q = ap (all_hold l) (sym q) ∙ sym (condition l m) ∙ e

pub told_by : (l : FrameLife) (m : Move) (ps : List Part) (last p : Part) → parts_of m ≡ ps ++ last ∷ [] → first_failing l (ps ++ last ∷ []) ≡ Some p → Some p ≡ refusal l m
told_by l m ps last p q e = sym (ap (first_failing l) q ∙ e)

-- ---- one part after another

tested_part : (a b : Bool) → (a && b) ≡ true → a ≡ true
tested_part true b e = refl
tested_part false b e = e

tested_more : (a b : Bool) → (a && b) ≡ true → b ≡ true
tested_more true b e = e
tested_more false b e = absurd (false≢true e)

pub tested_at : (ps : List Part) (at : ℕ) (d : Part) → are_tested ps ≡ true → at < length ps → is_tested (get_or ps at d) ≡ true
tested_at [] at d e low = absurd (omega arith)
tested_at (p ∷ ps) zero d e low = tested_part (is_tested p) (are_tested ps) e
tested_at (p ∷ ps) (suc at) d e low = tested_at ps at d (tested_more (is_tested p) (are_tested ps) e) (omega (arith, low))

some_hold : (a b : Bool) → a ≡ true → (a && b) ≡ b
some_hold true b e = refl
some_hold false b e = absurd (false≢true e)

alone_false : (b : Bool) → (b && true) ≡ false → b ≡ false
alone_false true e = e
alone_false false e = refl

pass : (a : Bool) (p : Part) (o : Option Part) → a ≡ true → cond a o (Some p) ≡ o
pass true p o e = refl
pass false p o e = absurd (false≢true e)

stop : (a : Bool) (p : Part) (o : Option Part) → a ≡ false → cond a o (Some p) ≡ Some p
stop true p o e = absurd (false≢true (sym e))
stop false p o e = refl

module _ (l : FrameLife) (ps : List Part) (last d : Part) (at : ℕ) (within : at < length ps) where
  pub part_passed : part_holds l (get_or ps at d) ≡ true
      → first_failing l (drop at ps ++ last ∷ []) ≡ first_failing l (drop (at + 1) ps ++ last ∷ [])
  part_passed e = ap (λ xs. first_failing l (xs ++ last ∷ [])) (drop_more ps at d within)
      ∙ pass (part_holds l (get_or ps at d)) (get_or ps at d) (first_failing l (drop (at + 1) ps ++ last ∷ [])) e

  pub part_stops : part_holds l (get_or ps at d) ≡ false
      → first_failing l (drop at ps ++ last ∷ []) ≡ Some (get_or ps at d)
  part_stops e = ap (λ xs. first_failing l (xs ++ last ∷ [])) (drop_more ps at d within)
      ∙ stop (part_holds l (get_or ps at d)) (get_or ps at d) (first_failing l (drop (at + 1) ps ++ last ∷ [])) e

  pub all_passed : part_holds l (get_or ps at d) ≡ true
      → all_hold l (drop at ps ++ last ∷ []) ≡ all_hold l (drop (at + 1) ps ++ last ∷ [])
  all_passed e = ap (λ xs. all_hold l (xs ++ last ∷ [])) (drop_more ps at d within)
      ∙ some_hold (part_holds l (get_or ps at d)) (all_hold l (drop (at + 1) ps ++ last ∷ [])) e

pub last_fails : (l : FrameLife) (ps : List Part) (last : Part) (at : ℕ) → length ps ≤ at → all_hold l (drop at ps ++ last ∷ []) ≡ false
    → first_failing l (drop at ps ++ last ∷ []) ≡ Some last
last_fails l ps last at over e =
    ap (λ xs. first_failing l (xs ++ last ∷ [])) (drop_all at ps over)
    ∙ stop (part_holds l last) last None (alone_false (part_holds l last) (ap (λ xs. all_hold l (xs ++ last ∷ [])) (sym (drop_all at ps over)) ∙ e))

-- the part that is told fails
told_fails : (b : Bool) (q p : Part) (o : Option Part) (P : Part → Bool) → P q ≡ b → (o ≡ Some p → P p ≡ false) → cond b o (Some q) ≡ Some p → P p ≡ false
told_fails true q p o P same later e = later e
told_fails false q p o P same later e = ap P (sym (same_Some q p e)) ∙ same

first_fails : (l : FrameLife) (ps : List Part) (p : Part) → first_failing l ps ≡ Some p → part_holds l p ≡ false
first_fails l [] p e = absurd (none-some p e)
first_fails l (q ∷ ps) p e = told_fails (part_holds l q) q p (first_failing l ps) (part_holds l) refl (first_fails l ps p) e

pub refusal_fails : (l : FrameLife) (m : Move) (p : Part) → refusal l m ≡ Some p → part_holds l p ≡ false
refusal_fails l m p e = first_fails l (parts_of m) p e

pub ruleset parted = (condition, refusal_fails)

pub ruleset exact = (legal_exactly)

pub ruleset legally = (refused_none, fails_whole, told_by, tested_at, part_passed, part_stops, all_passed, last_fails)
