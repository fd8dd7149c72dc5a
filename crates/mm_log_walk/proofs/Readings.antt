-- One text, read twice, where a script and its answers stand beside it.
use Rattle.std.proofs.Common.{◌≡◌, ◌⊎◌, ℕ, ◌+◌, ◌≤◌, Bool, true, false, List, [], ◌∷◌, ◌++◌, length, Option, Some, None, refl, sym, ap, ◌∙◌, subst, inl, inr, arith, append_assoc, length-append}
use Rattle.std.specs.Prelude.{if◌then◌else◌}
use Rattle.mm_types.specs.{Text, Took, Move, LineKind}
use Rattle.mm_types.proofs.{append_nil}
use Rattle.mm_types.specs.declared.moves.Move.TheVariants as move
use Rattle.mm_move_rules.specs.{spelled_moves, AreMoves, FrameLife, unstarted, after_move, Replays}
use Rattle.mm_move_rules.proofs.{replays_then, replays_one}
use Rattle.mm_replay.proofs.{one_move}
use Rattle.mm_log_check.specs.{IsStuck, StuckBefore, SpellsMove, SpellsBefore, Lines, Stops}
use Rattle.mm_log_check.proofs.{Ended, in_front, no_more, one_reading, taken_told, end_told}
use Rattle.mm_log_check.specs.declared.endings.Ending.TheVariants as ending
use Rattle.mm_log_walk.specs.{Beside, fits, AreFit, ClosesAt, Said, Why, close_words, closing_text, closing_status, HasTold, HasBegun, Answers}
use Rattle.mm_log_walk.specs.{IsBroken, EndsSaying, ToldInPart, IsWhole, IsCutLog, IsMisfitAt, SaysExactly, Closing, is_broken, misfit_closing, surplus}
use Rattle.mm_log_walk.specs.{whole_closing, fits_script, Misfits, Sought, sought_status, sought_words}
use Rattle.mm_log_walk.specs.declared.closings.Closing.TheVariants as closing

-- a log that is read to where it ends has every legal beginning
prefix_reading : (ms ns : List Move) (a b : Text) (l p q : FrameLife) → AreMoves ms → AreMoves ns → Replays ms l p → Replays ns l q → Ended p a
    → spelled_moves ms ++ a ≡ spelled_moves ns ++ b → (rest : List Move) × (ms ≡ ns ++ rest)
prefix_reading ms [] a b l p q i j r s u e = (ms, refl)
prefix_reading [] (n ∷ ns) a b l p q i j r s u e =
    let here : Ended l a = subst (λ (k : FrameLife). Ended k a) r u in
    absurd (no_more l a n ns b here j.0 s.0 e)
prefix_reading (m ∷ ms) (n ∷ ns) a b l p q i j r s u e =
    let one = one_move m n (spelled_moves ms ++ a) (spelled_moves ns ++ b) i.0 j.0 (sym (in_front m ms a) ∙ e ∙ in_front n ns b) in
    let s' : Replays ns (after_move l m) q = subst (λ (x : Move). Replays ns (after_move l x) q) (sym one.0) s.1 in
    let h = prefix_reading ms ns a b (after_move l m) p q i.1 j.1 r.1 s' u one.1 in
    (h.0, ap (λ (x : Move). x ∷ ms) one.0 ∙ ap (λ (xs : List Move). n ∷ xs) h.1)

fit_at : (side : Beside) (ns : List Move) (m : Move) (rest : List Move) → AreFit side ((ns ++ m ∷ []) ++ rest) → fits side m ≡ true
fit_at side [] m rest a = a.0
fit_at side (x ∷ xs) m rest a = fit_at side xs m rest a.1

-- what does not fit is no part of what fits
no_misfit : (side : Beside) (ms ns : List Move) (m : Move) (rest : List Move) → AreFit side ms → fits side m ≡ false → ms ≡ (ns ++ m ∷ []) ++ rest → ⊥
no_misfit side ms ns m rest a bad e =
    let good : fits side m ≡ true = fit_at side ns m rest (subst (AreFit side) e a) in
    cc

-- two first moves that do not fit are one
two_misfits : (side : Beside) (ms ns : List Move) (m n : Move) (a b : Text) → AreMoves (ms ++ m ∷ []) → AreMoves (ns ++ n ∷ []) → AreFit side ms → AreFit side ns → fits side m ≡ false → fits side n ≡ false
    → spelled_moves (ms ++ m ∷ []) ++ a ≡ spelled_moves (ns ++ n ∷ []) ++ b → (ms ≡ ns) × (m ≡ n)
two_misfits side [] [] m n a b i j f g x y e = (refl, (one_move m n a b i.0 j.0 (sym (in_front m [] a) ∙ e ∙ in_front n [] b)).0)
two_misfits side [] (k ∷ ns) m n a b i j f g x y e =
    let same : m ≡ k = (one_move m k a (spelled_moves (ns ++ n ∷ []) ++ b) i.0 j.0 (sym (in_front m [] a) ∙ e ∙ in_front k (ns ++ n ∷ []) b)).0 in
    let bad : fits side k ≡ false = subst (λ (z : Move). fits side z ≡ false) same x in
    let good : fits side k ≡ true = g.0 in
    cc
two_misfits side (k ∷ ms) [] m n a b i j f g x y e =
    let same : n ≡ k = sym (one_move k n (spelled_moves (ms ++ m ∷ []) ++ a) b i.0 j.0 (sym (in_front k (ms ++ m ∷ []) a) ∙ e ∙ in_front n [] b)).0 in
    let bad : fits side k ≡ false = subst (λ (z : Move). fits side z ≡ false) same y in
    let good : fits side k ≡ true = f.0 in
    cc
two_misfits side (k ∷ ms) (h ∷ ns) m n a b i j f g x y e =
    let one = one_move k h (spelled_moves (ms ++ m ∷ []) ++ a) (spelled_moves (ns ++ n ∷ []) ++ b) i.0 j.0 (sym (in_front k (ms ++ m ∷ []) a) ∙ e ∙ in_front h (ns ++ n ∷ []) b) in
    let more = two_misfits side ms ns m n a b i.1 j.1 f.1 g.1 x y one.1 in
    (ap (λ (z : Move). z ∷ ms) one.0 ∙ ap (λ (zs : List Move). h ∷ zs) more.0, more.1)

-- what fits is read in front of a line that does not
prefix_misfit : (side : Beside) (ms ns : List Move) (m : Move) (a b : Text) → AreMoves (ms ++ m ∷ []) → AreMoves ns → AreFit side ns → fits side m ≡ false → spelled_moves (ms ++ m ∷ []) ++ a ≡ spelled_moves ns ++ b
    → (rest : List Move) × (ms ≡ ns ++ rest)
prefix_misfit side ms [] m a b i j f x e = (ms, refl)
prefix_misfit side [] (n ∷ ns) m a b i j f x e =
    let same : m ≡ n = (one_move m n a (spelled_moves ns ++ b) i.0 j.0 (sym (in_front m [] a) ∙ e ∙ in_front n ns b)).0 in
    let bad : fits side n ≡ false = subst (λ (z : Move). fits side z ≡ false) same x in
    let good : fits side n ≡ true = f.0 in
    absurd (let bad' : true ≡ false = sym good ∙ bad in cc)
prefix_misfit side (k ∷ ms) (n ∷ ns) m a b i j f x e =
    let one = one_move k n (spelled_moves (ms ++ m ∷ []) ++ a) (spelled_moves ns ++ b) i.0 j.0 (sym (in_front k (ms ++ m ∷ []) a) ∙ e ∙ in_front n ns b) in
    let h = prefix_misfit side ms ns m a b i.1 j.1 f.1 x one.1 in
    (h.0, ap (λ (z : Move). z ∷ ms) one.0 ∙ ap (λ (zs : List Move). n ∷ zs) h.1)

-- where all is told, the text is the lines, and what is behind them
lines_told : (left left' : Option Text) (held : Text) (ms : List Move) (total : ℕ) (text : Text) → Lines left left' held ms total → left ≡ Some text
    → (more : Text) × ((left' ≡ Some more) × (text ≡ spelled_moves ms ++ (held ++ more)) × (total ≤ length text))
lines_told left left' held ms total text r told =
    let t = taken_told text left' r.taken (subst (λ (o : Option Text). Took o left' r.taken) told r.took) in
    (t.0, (t.1.0, t.1.1 ∙ ap (λ xs. xs ++ t.0) r.whole ∙ append_assoc (spelled_moves ms) held t.0, omega (arith, r.total_is, ap length t.1.1, length-append r.taken t.0)))

-- bytes begin with the line of one move
same_spelled : (a b : Text) (o p : Option Move) → a ≡ b → SpellsMove o a → SpellsMove p b → o ≡ p
same_spelled a b None None e s t = refl
same_spelled a b None (Some n) e s t = absurd (s n t.1.0 t.0 (e ∙ t.1.1))
same_spelled a b (Some m) None e s t = absurd (t m s.1.0 s.0 (sym e ∙ s.1.1))
same_spelled a b (Some m) (Some n) e s t = ap Some (one_move m n s.1.0 t.1.0 s.0 t.0 (sym s.1.1 ∙ e ∙ t.1.1)).0

-- the moves go on so
abbrev Behind : List Move → List Move → Type 0
Behind ms moves = (rest : List Move) × (moves ≡ ms ++ rest)

-- a read failed behind some of these moves
abbrev Failed : Closing → List Move → List Move → Type 0
Failed c ms moves = (c ≡ closing.Ended ending.ReadFault) × Behind ms moves

module _ (side : Beside) (left left' : Option Text) (ms : List Move) (l : FrameLife) (replays : Replays ms unstarted l) (fit : AreFit side ms) where
  module _ (held : Text) (total : ℕ) (lines : Lines left left' held ms total) where
    -- they are the first moves of the log
    in_whole : (moves : List Move) → IsWhole side left moves → Behind ms moves
    in_whole moves w =
        let t = lines_told left left' held ms total w.text lines w.told in
        prefix_reading moves ms [] (held ++ t.0) unstarted w.life l w.spelled.in_range lines.in_range w.replays replays (inl refl)
        (append_nil (spelled_moves moves) ∙ sym w.spelled.text ∙ t.1.1)

    in_cut : (moves : List Move) → IsCutLog side left moves → Behind ms moves
    in_cut moves w =
        let t = lines_told left left' held ms total w.text lines w.told in
        prefix_reading moves ms w.rest (held ++ t.0) unstarted w.life l w.in_range lines.in_range w.replays replays (inr w.stuck) (sym w.whole ∙ t.1.1)

    in_misfit : (moves : List Move) (n : ℕ) → IsMisfitAt side left moves n → Behind ms moves
    in_misfit moves n w =
        let t = lines_told left left' held ms total w.text lines w.told in
        prefix_misfit side moves ms (move.At n w.kind) w.rest (held ++ t.0) w.in_range lines.in_range fit w.misfit (sym w.whole ∙ t.1.1)

  -- ---- the log is whole

  yes_whole : Stops left left' ms l ending.Yes → (moves : List Move) (w : IsWhole side left moves) → (ms ≡ moves) × (l ≡ w.life)
  yes_whole stop moves w =
      let t = lines_told left left' stop.held ms stop.total w.text stop.lines w.told in
      let end : t.0 ≡ [] = end_told left' t.0 t.1.0 stop.ends.1 in
      let same : spelled_moves moves ++ [] ≡ spelled_moves ms ++ [] =
      append_nil (spelled_moves moves) ∙ sym w.spelled.text ∙ t.1.1 ∙ ap (λ xs. spelled_moves ms ++ (xs ++ t.0)) stop.ends.0 ∙ ap (λ xs. spelled_moves ms ++ xs) end in
      let one : ms ≡ moves = sym (one_reading moves ms [] [] unstarted w.life l w.spelled.in_range stop.lines.in_range w.replays replays (inl refl) (inl refl) same).0 in
      (one, replays_one ms unstarted l w.life replays (subst (λ (zs : List Move). Replays zs unstarted w.life) (sym one) w.replays))

  yes_cut : Stops left left' ms l ending.Yes → (moves : List Move) → IsCutLog side left moves → ⊥
  yes_cut stop moves w =
      let t = lines_told left left' stop.held ms stop.total w.text stop.lines w.told in
      let end : t.0 ≡ [] = end_told left' t.0 t.1.0 stop.ends.1 in
      let same : spelled_moves moves ++ w.rest ≡ spelled_moves ms ++ [] =
      sym w.whole ∙ t.1.1 ∙ ap (λ xs. spelled_moves ms ++ (xs ++ t.0)) stop.ends.0 ∙ ap (λ xs. spelled_moves ms ++ xs) end in
      let one = one_reading moves ms w.rest [] unstarted w.life l w.in_range stop.lines.in_range w.replays replays (inr w.stuck) (inl refl) same in
      absurd (omega (arith, w.stuck.some, ap length one.1))

  yes_misfit : Stops left left' ms l ending.Yes → (moves : List Move) (n : ℕ) → IsMisfitAt side left moves n → ⊥
  yes_misfit stop moves n w =
      let m = move.At n w.kind in
      let t = lines_told left left' stop.held ms stop.total w.text stop.lines w.told in
      let end : t.0 ≡ [] = end_told left' t.0 t.1.0 stop.ends.1 in
      let same : spelled_moves ms ++ [] ≡ spelled_moves (moves ++ m ∷ []) ++ w.rest =
      sym (ap (λ xs. spelled_moves ms ++ xs) end) ∙ sym (ap (λ xs. spelled_moves ms ++ (xs ++ t.0)) stop.ends.0) ∙ sym t.1.1 ∙ w.whole in
      let h = prefix_reading ms (moves ++ m ∷ []) [] w.rest unstarted l w.life stop.lines.in_range w.in_range replays w.replays (inl refl) same in
      no_misfit side ms moves m h.0 fit w.misfit h.1

  -- ---- a line is no legal move

  no_whole : (n : ℕ) (o : Option Move) → Stops left left' ms l (ending.No n o) → (moves : List Move) → IsWhole side left moves → ⊥
  no_whole n o stop moves w =
      let t = lines_told left left' stop.held ms stop.total w.text stop.lines w.told in
      let stuck : IsStuck l (stop.held ++ t.0) = subst (λ (o : Option Text). StuckBefore o l stop.held) t.1.0 stop.ends.1 in
      let same : spelled_moves moves ++ [] ≡ spelled_moves ms ++ (stop.held ++ t.0) = append_nil (spelled_moves moves) ∙ sym w.spelled.text ∙ t.1.1 in
      let one = one_reading moves ms [] (stop.held ++ t.0) unstarted w.life l w.spelled.in_range stop.lines.in_range w.replays replays (inl refl) (inr stuck) same in
      absurd (omega (arith, stuck.some, ap length one.1))

  no_cut : (n : ℕ) (o : Option Move) → Stops left left' ms l (ending.No n o) → (moves : List Move) (w : IsCutLog side left moves)
      → (closing.Ended (ending.No n o) ≡ closing.Ended (ending.No (length moves + 1) w.refused)) × (ms ≡ moves) × (l ≡ w.life)
  no_cut n o stop moves w =
      let t = lines_told left left' stop.held ms stop.total w.text stop.lines w.told in
      let stuck : IsStuck l (stop.held ++ t.0) = subst (λ (o : Option Text). StuckBefore o l stop.held) t.1.0 stop.ends.1 in
      let same : spelled_moves moves ++ w.rest ≡ spelled_moves ms ++ (stop.held ++ t.0) = sym w.whole ∙ t.1.1 in
      let one = one_reading moves ms w.rest (stop.held ++ t.0) unstarted w.life l w.in_range stop.lines.in_range w.replays replays (inr w.stuck) (inr stuck) same in
      let spelled : SpellsMove o (stop.held ++ t.0) = subst (λ (x : Option Text). SpellsBefore x o stop.held) t.1.0 stop.ends.3 in
      let move : o ≡ w.refused = same_spelled (stop.held ++ t.0) w.rest o w.refused (sym one.1) spelled w.spelled in
      let line : n ≡ length moves + 1 = stop.ends.0 ∙ ap (λ (zs : List Move). length zs + 1) (sym one.0) in (
        ap (λ (k : ℕ). closing.Ended (ending.No k o)) line ∙ ap (λ (x : Option Move). closing.Ended (ending.No (length moves + 1) x)) move,
        sym one.0,
        replays_one ms unstarted l w.life replays (subst (λ (zs : List Move). Replays zs unstarted w.life) one.0 w.replays),
      )

  no_misfit_at : (n : ℕ) (o : Option Move) → Stops left left' ms l (ending.No n o) → (moves : List Move) (k : ℕ) → IsMisfitAt side left moves k → ⊥
  no_misfit_at n o stop moves k w =
      let m = move.At k w.kind in
      let t = lines_told left left' stop.held ms stop.total w.text stop.lines w.told in
      let stuck : IsStuck l (stop.held ++ t.0) = subst (λ (o : Option Text). StuckBefore o l stop.held) t.1.0 stop.ends.1 in
      let h = prefix_reading ms (moves ++ m ∷ []) (stop.held ++ t.0) w.rest unstarted l w.life stop.lines.in_range w.in_range replays w.replays (inr stuck) (sym t.1.1 ∙ w.whole) in
      no_misfit side ms moves m h.0 fit w.misfit h.1

  -- ---- a line does not fit

  misfit_whole : (c : Closing) → Misfits left left' side ms l c → (moves : List Move) → IsWhole side left moves → ⊥
  misfit_whole c bad moves w =
      let m = move.At bad.line bad.kind in
      let t = lines_told left left' bad.held (ms ++ m ∷ []) bad.total w.text bad.lines w.told in
      let same : spelled_moves moves ++ [] ≡ spelled_moves (ms ++ m ∷ []) ++ (bad.held ++ t.0) = append_nil (spelled_moves moves) ∙ sym w.spelled.text ∙ t.1.1 in
      let h = prefix_reading moves (ms ++ m ∷ []) [] (bad.held ++ t.0) unstarted w.life (after_move l m) w.spelled.in_range bad.lines.in_range w.replays (replays_then ms (m ∷ []) unstarted l (after_move l m) replays (bad.legal, refl)) (inl refl) same in
      no_misfit side moves ms m h.0 w.fit bad.misfit h.1

  misfit_cut : (c : Closing) → Misfits left left' side ms l c → (moves : List Move) → IsCutLog side left moves → ⊥
  misfit_cut c bad moves w =
      let m = move.At bad.line bad.kind in
      let t = lines_told left left' bad.held (ms ++ m ∷ []) bad.total w.text bad.lines w.told in
      let same : spelled_moves moves ++ w.rest ≡ spelled_moves (ms ++ m ∷ []) ++ (bad.held ++ t.0) = sym w.whole ∙ t.1.1 in
      let h = prefix_reading moves (ms ++ m ∷ []) w.rest (bad.held ++ t.0) unstarted w.life (after_move l m) w.in_range bad.lines.in_range w.replays (replays_then ms (m ∷ []) unstarted l (after_move l m) replays (bad.legal, refl)) (inr w.stuck) same in
      no_misfit side moves ms m h.0 w.fit bad.misfit h.1

  misfit_here : (c : Closing) → Misfits left left' side ms l c → (moves : List Move) (n : ℕ) (w : IsMisfitAt side left moves n) → (c ≡ misfit_closing side n w.kind) × (ms ≡ moves)
  misfit_here c bad moves n w =
      let m = move.At n w.kind in
      let b = move.At bad.line bad.kind in
      let t = lines_told left left' bad.held (ms ++ b ∷ []) bad.total w.text bad.lines w.told in
      let two = two_misfits side ms moves b m (bad.held ++ t.0) w.rest bad.lines.in_range w.in_range fit w.fit bad.misfit w.misfit (sym t.1.1 ∙ w.whole) in
      let line : bad.line ≡ n = cc in
      let kind : bad.kind ≡ w.kind = cc in
      (bad.close ∙ ap (λ (k : ℕ). misfit_closing side k bad.kind) line ∙ ap (λ (k : LineKind). misfit_closing side n k) kind, two.0)

  -- ---- how such logs close

  whole_at : (c : Closing) → is_broken c ≡ false → ClosesAt c left left' side ms l → (moves : List Move) (w : IsWhole side left moves)
      → ((c ≡ whole_closing (surplus side.answers w.life.line)) × (ms ≡ moves) × (l ≡ w.life)) ⊎ Failed c ms moves
  whole_at (closing.Ended ending.Yes) f at moves w =
      let same = yes_whole at.stop moves w in
      inl (at.close ∙ ap (λ (k : FrameLife). whole_closing (surplus side.answers k.line)) same.1, same.0, same.1)
  whole_at (closing.Surplus n) f at moves w =
      let same = yes_whole at.stop moves w in
      inl (at.close ∙ ap (λ (k : FrameLife). whole_closing (surplus side.answers k.line)) same.1, same.0, same.1)
  whole_at (closing.Ended (ending.No n o)) f stop moves w = absurd (no_whole n o stop moves w)
  whole_at (closing.Ended ending.TooLong) f stop moves w =
      let t = lines_told left left' stop.held ms stop.total w.text stop.lines w.told in
      absurd (omega (arith, stop.ends, t.1.2, w.few))
  whole_at (closing.Ended ending.ReadFault) f stop moves w = inr (refl, in_whole stop.held stop.total stop.lines moves w)
  whole_at (closing.Ended ending.NoMemory) f stop moves w = absurd (let bad : true ≡ false = f in cc)
  whole_at closing.OutFault f at moves w = absurd at
  whole_at (closing.Misfit n) f bad moves w = absurd (misfit_whole (closing.Misfit n) bad moves w)
  whole_at (closing.Answer n) f bad moves w = absurd (misfit_whole (closing.Answer n) bad moves w)

  cut_at : (c : Closing) → is_broken c ≡ false → ClosesAt c left left' side ms l → (moves : List Move) (w : IsCutLog side left moves)
      → ((c ≡ closing.Ended (ending.No (length moves + 1) w.refused)) × (ms ≡ moves) × (l ≡ w.life)) ⊎ Failed c ms moves
  cut_at (closing.Ended ending.Yes) f at moves w = absurd (yes_cut at.stop moves w)
  cut_at (closing.Surplus n) f at moves w = absurd (yes_cut at.stop moves w)
  cut_at (closing.Ended (ending.No n o)) f stop moves w = inl (no_cut n o stop moves w)
  cut_at (closing.Ended ending.TooLong) f stop moves w =
      let t = lines_told left left' stop.held ms stop.total w.text stop.lines w.told in
      absurd (omega (arith, stop.ends, t.1.2, w.few))
  cut_at (closing.Ended ending.ReadFault) f stop moves w = inr (refl, in_cut stop.held stop.total stop.lines moves w)
  cut_at (closing.Ended ending.NoMemory) f stop moves w = absurd (let bad : true ≡ false = f in cc)
  cut_at closing.OutFault f at moves w = absurd at
  cut_at (closing.Misfit n) f bad moves w = absurd (misfit_cut (closing.Misfit n) bad moves w)
  cut_at (closing.Answer n) f bad moves w = absurd (misfit_cut (closing.Answer n) bad moves w)

  misfit_at : (c : Closing) → is_broken c ≡ false → ClosesAt c left left' side ms l → (moves : List Move) (n : ℕ) (w : IsMisfitAt side left moves n)
      → ((c ≡ misfit_closing side n w.kind) × (ms ≡ moves)) ⊎ Failed c ms moves
  misfit_at (closing.Ended ending.Yes) f at moves n w = absurd (yes_misfit at.stop moves n w)
  misfit_at (closing.Surplus k) f at moves n w = absurd (yes_misfit at.stop moves n w)
  misfit_at (closing.Ended (ending.No k o)) f stop moves n w = absurd (no_misfit_at k o stop moves n w)
  misfit_at (closing.Ended ending.TooLong) f stop moves n w =
      let t = lines_told left left' stop.held ms stop.total w.text stop.lines w.told in
      absurd (omega (arith, stop.ends, t.1.2, w.few))
  misfit_at (closing.Ended ending.ReadFault) f stop moves n w = inr (refl, in_misfit stop.held stop.total stop.lines moves n w)
  misfit_at (closing.Ended ending.NoMemory) f stop moves n w = absurd (let bad : true ≡ false = f in cc)
  misfit_at closing.OutFault f at moves n w = absurd at
  misfit_at (closing.Misfit k) f bad moves n w = inl (misfit_here (closing.Misfit k) bad moves n w)
  misfit_at (closing.Answer k) f bad moves n w = inl (misfit_here (closing.Answer k) bad moves n w)

-- ---- what is written

no_claim : (text front : Text) → true ≡ false → front ≡ text
no_claim text front e = absurd (let bad : true ≡ false = e in cc)

-- a misfit is told without the state, and ends no log well
misfit_told : (sought : Sought) (said : Said) (why : Why) (l : FrameLife) (ms : List Move) (side : Beside) (n : ℕ) (k : LineKind) → closing_text sought said why l ms (misfit_closing side n k) ≡ said false ms ++ close_words sought why unstarted (misfit_closing side n k)
misfit_told sought said why l ms side n k = by (fits_script side.script n k)
  where
    by : (x : Bool) → closing_text sought said why l ms (if x then closing.Answer n else closing.Misfit n) ≡ said false ms ++ close_words sought why unstarted (if x then closing.Answer n else closing.Misfit n)
    by true = refl
    by false = refl

misfit_six : (sought : Sought) (l : FrameLife) (n : ℕ) (x : Bool) → closing_status sought l (if x then closing.Answer n else closing.Misfit n) ≡ 6
misfit_six sought l n true = refl
misfit_six sought l n false = refl

module _ (side : Beside) (sought : Sought) (said : Said) (why : Why) (left left' took took' : Option Text) (result : ℕ) where
  -- the log was told to such an end
  says_at : (t : HasTold left left' took took' side sought said why result) → (c : Closing) (moves : List Move) (status : ℕ) (text : Text) → t.closing ≡ c → closing_status sought t.life c ≡ status
      → closing_text sought said why t.life t.moves c ≡ text → EndsSaying took took' result status text
  says_at t c moves status text e s x =
      subst (λ (z : Text). EndsSaying took took' result status z) x
      (subst (λ (k : ℕ). EndsSaying took took' result k (closing_text sought said why t.life t.moves c)) s
      (subst (λ (d : Closing). EndsSaying took took' result (closing_status sought t.life d) (closing_text sought said why t.life t.moves d)) e t.says))

  -- a read failed before
  says_part : (t : HasTold left left' took took' side sought said why result) → (moves : List Move) → Failed t.closing t.moves moves → ToldInPart said moves took took' result
  says_part t moves failed = record {
    front = t.moves;
    behind = failed.1.0;
    whole = failed.1.1;
    says = says_at t (closing.Ended ending.ReadFault) moves 4 (said false t.moves) failed.0 refl (append_nil (said false t.moves));
  }

  -- it was broken off before
  says_begun : IsBroken result → (h : HasBegun left left' took took' side said) → (moves : List Move) → Behind h.moves moves → (whole : Bool) (status : ℕ) (words : Text) → EndsSaying took took' result status (said whole moves ++ words)
  says_begun broken h moves behind whole status words =
      let all = h.begins whole behind.0 in
      inr (
        broken,
        record {
          front = h.front;
          rest = all.behind ++ words;
          whole = ap (λ (ms : List Move). said whole ms ++ words) behind.1 ∙ ap (λ xs. xs ++ words) all.is_front ∙ append_assoc h.front all.behind words;
          written = h.written;
          all = no_claim _ _;
        },
      )

  told_exactly : HasTold left left' took took' side sought said why result → SaysExactly side sought said why left took took' result
  told_exactly t = record {
    whole = λ moves w none. elim (whole_at side left left' t.moves t.life t.replays t.fit t.closing t.fine t.at moves w) [
      | inl h ↦ inl (says_at t (closing.Ended ending.Yes) moves (sought_status sought w.life) (said true moves ++ sought_words sought w.life) (h.0 ∙ ap whole_closing none) (ap (λ (k : FrameLife). sought_status sought k) h.2)
          (ap (λ (ms : List Move). said true ms ++ sought_words sought t.life) h.1 ∙ ap (λ (k : FrameLife). said true moves ++ sought_words sought k) h.2))
      | inr h ↦ inr (says_part t moves h)
    ];
    too_many = λ moves n w many. elim (whole_at side left left' t.moves t.life t.replays t.fit t.closing t.fine t.at moves w) [
      | inl h ↦ inl (says_at t (closing.Surplus n) moves 6 _ (h.0 ∙ ap whole_closing many) refl (ap (λ (ms : List Move). said false ms ++ close_words sought why unstarted (closing.Surplus n)) h.1))
      | inr h ↦ inr (says_part t moves h)
    ];
    cut = λ moves w. elim (cut_at side left left' t.moves t.life t.replays t.fit t.closing t.fine t.at moves w) [
      | inl h ↦ inl (says_at t (closing.Ended (ending.No (length moves + 1) w.refused)) moves 3 _ h.0 refl
          (ap (λ (ms : List Move). closing_text sought said why t.life ms (closing.Ended (ending.No (length moves + 1) w.refused))) h.1
          ∙ ap (λ (k : FrameLife). closing_text sought said why k moves (closing.Ended (ending.No (length moves + 1) w.refused))) h.2))
      | inr h ↦ inr (says_part t moves h)
    ];
    misfit = λ moves n w. elim (misfit_at side left left' t.moves t.life t.replays t.fit t.closing t.fine t.at moves n w) [
      | inl h ↦ inl (says_at t (misfit_closing side n w.kind) moves 6 _ h.0 (misfit_six sought t.life n (fits_script side.script n w.kind))
          (misfit_told sought said why t.life t.moves side n w.kind ∙ ap (λ (ms : List Move). said false ms ++ close_words sought why unstarted (misfit_closing side n w.kind)) h.1))
      | inr h ↦ inr (says_part t moves h)
    ];
  }

  begun_exactly : IsBroken result → HasBegun left left' took took' side said → SaysExactly side sought said why left took took' result
  begun_exactly broken h = record {
    whole = λ moves w none. inl (says_begun broken h moves (in_whole side left left' h.moves h.life h.replays h.fit h.held h.total h.lines moves w) true (sought_status sought w.life) (sought_words sought w.life));
    too_many = λ moves n w many. inl (says_begun broken h moves (in_whole side left left' h.moves h.life h.replays h.fit h.held h.total h.lines moves w) false 6 _);
    cut = λ moves w. inl (says_begun broken h moves (in_cut side left left' h.moves h.life h.replays h.fit h.held h.total h.lines moves w) false 3 _);
    misfit = λ moves n w. inl (says_begun broken h moves (in_misfit side left left' h.moves h.life h.replays h.fit h.held h.total h.lines moves n w) false 6 _);
  }

  pub says_exactly : Answers left left' took took' side sought said why result → SaysExactly side sought said why left took took' result
  says_exactly (inl t) = told_exactly t
  says_exactly (inr h) = begun_exactly h.0 h.1
