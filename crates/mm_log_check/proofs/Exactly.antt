-- The bytes of a log have one reading.
use Rattle.std.proofs.Common.{◌≡◌, ◌⊎◌, ℕ, ◌+◌, ◌≤◌, true, List, [], ◌∷◌, ◌++◌, length, Option, Some, None, refl, sym, ap, ◌∙◌, subst, inl, inr, arith, append_assoc, length-append}
use Rattle.mm_types.specs.{Text, Took, IsEnd, Appended, Move}
use Rattle.mm_types.proofs.{append_nil}
use Rattle.mm_move_rules.specs.{move_onto, spelling_of_move, spelled_moves, IsMove, AreMoves, IsSpelled, FrameLife, unstarted, is_legal, after_move}
use Rattle.mm_move_rules.specs.{Replays, CountsOfLog, counts_of_log}
use Rattle.mm_move_rules.proofs.{replays_one}
use Rattle.mm_replay.proofs.{move_onto-is, one_move}
use Rattle.mm_log_check.specs.{yes_text, verdict_text, log_status_of, most_log_bytes, IsStuck, StuckBefore, Came, Shows, LogCheckRan, IsFaultStatus, SaysYes, SaysNo}
use Rattle.mm_log_check.specs.{Asked, Ending}
use Rattle.mm_log_check.specs.declared.endings.Ending.TheVariants as ending

-- nothing is left, or what is left is stuck
abbrev pub Ended : FrameLife → Text → Type 0
Ended l rest = (rest ≡ []) ⊎ IsStuck l rest

pub in_front : (m : Move) (ms : List Move) (b : Text) → spelled_moves (m ∷ ms) ++ b ≡ move_onto m (10 ∷ (spelled_moves ms ++ b))
in_front m ms b =
    append_assoc (spelling_of_move m) (spelled_moves ms) b
    ∙ ap (λ t. t ++ (spelled_moves ms ++ b)) (move_onto-is m (10 ∷ []))
    ∙ append_assoc _ (10 ∷ []) (spelled_moves ms ++ b)
    ∙ sym (move_onto-is m (10 ∷ (spelled_moves ms ++ b)))

-- what is left does not begin with a legal line
pub no_more : (l : FrameLife) (rest : Text) (m : Move) (ms : List Move) (b : Text) → Ended l rest → IsMove m → is_legal l m ≡ true → rest ≡ spelled_moves (m ∷ ms) ++ b → ⊥
no_more l rest m ms b (inl none) k h e =
    let long : length rest ≡ length (move_onto m (10 ∷ (spelled_moves ms ++ b))) = ap length (e ∙ in_front m ms b) in
    omega (arith, long, ap length none, ap length (move_onto-is m (10 ∷ (spelled_moves ms ++ b))), length-append (move_onto m []) (10 ∷ (spelled_moves ms ++ b)))
no_more l rest m ms b (inr stuck) k h e = let bad = stuck.illegal m (spelled_moves ms ++ b) k (e ∙ in_front m ms b) in cc

-- one text, read twice
pub one_reading : (ms ns : List Move) (a b : Text) (l p q : FrameLife) → AreMoves ms → AreMoves ns → Replays ms l p → Replays ns l q → Ended p a → Ended q b
    → spelled_moves ms ++ a ≡ spelled_moves ns ++ b → (ms ≡ ns) × (a ≡ b)
one_reading [] [] a b l p q i j r s u v e = (refl, e)
one_reading [] (n ∷ ns) a b l p q i j r s u v e =
    let here : Ended l a = subst (λ (k : FrameLife). Ended k a) r u in
    absurd (no_more l a n ns b here j.0 s.0 e)
one_reading (m ∷ ms) [] a b l p q i j r s u v e =
    let here : Ended l b = subst (λ (k : FrameLife). Ended k b) s v in
    absurd (no_more l b m ms a here i.0 r.0 (sym e))
one_reading (m ∷ ms) (n ∷ ns) a b l p q i j r s u v e =
    let one = one_move m n (spelled_moves ms ++ a) (spelled_moves ns ++ b) i.0 j.0 (sym (in_front m ms a) ∙ e ∙ in_front n ns b) in
    let s' : Replays ns (after_move l m) q = subst (λ (x : Move). Replays ns (after_move l x) q) (sym one.0) s.1 in
    let h = one_reading ms ns a b (after_move l m) p q i.1 j.1 r.1 s' u v one.1 in
    (ap (λ (x : Move). x ∷ ms) one.0 ∙ ap (λ (xs : List Move). n ∷ xs) h.0, h.1)

-- where all is told, the bytes taken are a front of the text
pub taken_told : (text : Text) (left' : Option Text) (taken : Text) → Took (Some text) left' taken → (more : Text) × ((left' ≡ Some more) × (text ≡ taken ++ more))
taken_told text None taken t = absurd t
taken_told text (Some more) taken t = (more, (refl, t))

pub end_told : (left' : Option Text) (more : Text) → left' ≡ Some more → IsEnd left' → more ≡ []
end_told None more e h = cc
end_told (Some b) more e h = let same : b ≡ more = cc in sym same ∙ h

module _ (a : Asked) (text : Text) (moves : List Move) (l : FrameLife) (left left' took took' : Option Text) (status : ℕ) (told : left ≡ Some text) (few : length text ≤ most_log_bytes) (whole : IsSpelled moves text) (replays : Replays moves unstarted l) where
  -- the run came to `yes`
  from_yes : (life : FrameLife) (c : CountsOfLog) → Came left left' ending.Yes life c → (c ≡ counts_of_log moves) × (life ≡ l)
  from_yes life c came =
      let r = came.replayed in
      let t = taken_told text left' r.taken (subst (λ (o : Option Text). Took o left' r.taken) told r.took) in
      let end : t.0 ≡ [] = end_told left' t.0 t.1.0 came.ends.1 in
      let same : spelled_moves moves ++ [] ≡ spelled_moves came.moves ++ [] =
      append_nil (spelled_moves moves) ∙ sym whole.text ∙ t.1.1 ∙ ap (λ xs. r.taken ++ xs) end ∙ append_nil r.taken ∙ r.whole ∙ ap (λ xs. spelled_moves came.moves ++ xs) came.ends.0 in
      let one = one_reading moves came.moves [] [] unstarted l life whole.in_range r.in_range replays r.replays (inl refl) (inl refl) same in (
        came.counts refl ∙ ap counts_of_log (sym one.0),
        replays_one came.moves unstarted life l r.replays (subst (λ (ms : List Move). Replays ms unstarted l) one.0 replays),
      )

  -- it did not come to `no`
  not_no : (life : FrameLife) (c : CountsOfLog) (line : ℕ) (o : Option Move) → Came left left' (ending.No line o) life c → ⊥
  not_no life c line o came =
      let r = came.replayed in
      let t = taken_told text left' r.taken (subst (λ (o : Option Text). Took o left' r.taken) told r.took) in
      let stuck : IsStuck life (came.held ++ t.0) = subst (λ (o : Option Text). StuckBefore o life came.held) t.1.0 came.ends.1 in
      let same : spelled_moves moves ++ [] ≡ spelled_moves came.moves ++ (came.held ++ t.0) =
      append_nil (spelled_moves moves) ∙ sym whole.text ∙ t.1.1 ∙ ap (λ xs. xs ++ t.0) r.whole ∙ append_assoc (spelled_moves came.moves) came.held t.0 in
      let one = one_reading moves came.moves [] (came.held ++ t.0) unstarted l life whole.in_range r.in_range replays r.replays (inl refl) (inr stuck) same in
      omega (arith, stuck.some, ap length one.1)

  not_long : (life : FrameLife) (c : CountsOfLog) → Came left left' ending.TooLong life c → ⊥
  not_long life c came =
      let r = came.replayed in
      let t = taken_told text left' r.taken (subst (λ (o : Option Text). Took o left' r.taken) told r.took) in
      omega (arith, came.ends, r.total_is, ap length t.1.1, length-append r.taken t.0, few)

  by_ending : (e : Ending) (life : FrameLife) (c : CountsOfLog) → Came left left' e life c → Shows took took' (verdict_text a e c life) (log_status_of e) status → SaysYes a moves l took took' status ⊎ IsFaultStatus status
  by_ending ending.Yes life c came (inl h) =
      let f = from_yes life c came in
      inl (record { zero = h.0; text = subst (λ (t : Text). Appended took took' t) (ap (λ (d : CountsOfLog). yes_text a d life) f.0 ∙ ap (λ (k : FrameLife). yes_text a (counts_of_log moves) k) f.1) h.1 })
  by_ending ending.Yes life c came (inr h) = inr (inr (inr h.0))
  by_ending (ending.No line o) life c came s = absurd (not_no life c line o came)
  by_ending ending.TooLong life c came s = absurd (not_long life c came)
  by_ending ending.ReadFault life c came (inl h) = inr (inr (inl h.0))
  by_ending ending.ReadFault life c came (inr h) = inr (inr (inr h.0))
  by_ending ending.NoMemory life c came (inl h) = inr (inl h.0)
  by_ending ending.NoMemory life c came (inr h) = inr (inr (inr h.0))

pub says_yes : (a : Asked) (text : Text) (moves : List Move) (l : FrameLife) (left left' took took' : Option Text) (status : ℕ) → left ≡ Some text → length text ≤ most_log_bytes → IsSpelled moves text → Replays moves unstarted l
    → LogCheckRan a left left' took took' status → SaysYes a moves l took took' status ⊎ IsFaultStatus status
says_yes a text moves l left left' took took' status told few whole replays ran =
    by_ending a text moves l left left' took took' status told few whole replays ran.ending ran.life ran.counts ran.came ran.shows

module _ (a : Asked) (text rest : Text) (moves : List Move) (l : FrameLife) (left left' took took' : Option Text) (status : ℕ) (told : left ≡ Some text) (few : length text ≤ most_log_bytes) (in_range : AreMoves moves) (whole : text ≡ spelled_moves moves ++ rest) (replays : Replays moves unstarted l) (stuck : IsStuck l rest) where
  same_line : (life : FrameLife) (c : CountsOfLog) (line : ℕ) (o : Option Move) → Came left left' (ending.No line o) life c → line ≡ length moves + 1
  same_line life c line o came =
      let r = came.replayed in
      let t = taken_told text left' r.taken (subst (λ (o : Option Text). Took o left' r.taken) told r.took) in
      let other : IsStuck life (came.held ++ t.0) = subst (λ (o : Option Text). StuckBefore o life came.held) t.1.0 came.ends.1 in
      let same : spelled_moves moves ++ rest ≡ spelled_moves came.moves ++ (came.held ++ t.0) =
      sym whole ∙ t.1.1 ∙ ap (λ xs. xs ++ t.0) r.whole ∙ append_assoc (spelled_moves came.moves) came.held t.0 in
      let one = one_reading moves came.moves rest (came.held ++ t.0) unstarted l life in_range r.in_range replays r.replays (inr stuck) (inr other) same in
      came.ends.0 ∙ ap (λ (ms : List Move). length ms + 1) (sym one.0)

  not_yes : (life : FrameLife) (c : CountsOfLog) → Came left left' ending.Yes life c → ⊥
  not_yes life c came =
      let r = came.replayed in
      let t = taken_told text left' r.taken (subst (λ (o : Option Text). Took o left' r.taken) told r.took) in
      let end : t.0 ≡ [] = end_told left' t.0 t.1.0 came.ends.1 in
      let same : spelled_moves moves ++ rest ≡ spelled_moves came.moves ++ [] =
      sym whole ∙ t.1.1 ∙ ap (λ xs. r.taken ++ xs) end ∙ append_nil r.taken ∙ r.whole ∙ ap (λ xs. spelled_moves came.moves ++ xs) came.ends.0 in
      let one = one_reading moves came.moves rest [] unstarted l life in_range r.in_range replays r.replays (inr stuck) (inl refl) same in
      omega (arith, stuck.some, ap length one.1)

  not_too_long : (life : FrameLife) (c : CountsOfLog) → Came left left' ending.TooLong life c → ⊥
  not_too_long life c came =
      let r = came.replayed in
      let t = taken_told text left' r.taken (subst (λ (o : Option Text). Took o left' r.taken) told r.took) in
      omega (arith, came.ends, r.total_is, ap length t.1.1, length-append r.taken t.0, few)

  no_by_ending : (e : Ending) (life : FrameLife) (c : CountsOfLog) → Came left left' e life c → Shows took took' (verdict_text a e c life) (log_status_of e) status → SaysNo (length moves + 1) took took' status ⊎ IsFaultStatus status
  no_by_ending ending.Yes life c came s = absurd (not_yes life c came)
  no_by_ending (ending.No line o) life c came (inl h) =
      inl (record { three = h.0; text = subst (λ (k : ℕ). Appended took took' (verdict_text a (ending.No k o) c life)) (same_line life c line o came) h.1 })
  no_by_ending (ending.No line o) life c came (inr h) = inr (inr (inr h.0))
  no_by_ending ending.TooLong life c came s = absurd (not_too_long life c came)
  no_by_ending ending.ReadFault life c came (inl h) = inr (inr (inl h.0))
  no_by_ending ending.ReadFault life c came (inr h) = inr (inr (inr h.0))
  no_by_ending ending.NoMemory life c came (inl h) = inr (inl h.0)
  no_by_ending ending.NoMemory life c came (inr h) = inr (inr (inr h.0))

pub says_no : (a : Asked) (text rest : Text) (moves : List Move) (l : FrameLife) (left left' took took' : Option Text) (status : ℕ) → left ≡ Some text → length text ≤ most_log_bytes → AreMoves moves → text ≡ spelled_moves moves ++ rest → Replays moves unstarted l → IsStuck l rest
    → LogCheckRan a left left' took took' status → SaysNo (length moves + 1) took took' status ⊎ IsFaultStatus status
says_no a text rest moves l left left' took took' status told few in_range whole replays stuck ran =
    no_by_ending a text rest moves l left left' took took' status told few in_range whole replays stuck ran.ending ran.life ran.counts ran.came ran.shows

pub ruleset exactly = (says_yes, says_no)
