-- Bytes in front of which no legal move stands.
use Rattle.std.proofs.Common.{◌≡◌, ℕ, suc, ◌≤◌, ◌<◌, false, ◌∷◌, ◌++◌, length, take, drop, Option, Some, None, sym, ap, ◌∙◌, arith, append_assoc, length-append}
use Rattle.mm_types.specs.{Text, IsEnd, Move}
use Rattle.mm_move_rules.specs.{move_text, IsMove, FrameLife, is_legal}
use Rattle.mm_replay.proofs.{NoFeed, move_onto-is, move_no_feed, move_short, one_line, no_line}
use Rattle.mm_io.specs.{FitsLine, HasLine, IsLong}
use Rattle.mm_log_check.specs.{IsStuck, StuckBefore, SpellsMove, SpellsBefore, IsSpelling}

more_than : (xs ys : Text) → length xs ≤ length (xs ++ ys)
more_than xs ys = omega (arith, length-append xs ys)

module _ (l : FrameLife) (held : Text) where
  -- the first line is no legal move
  line_with : (line rest more : Text) → held ≡ line ++ 10 ∷ rest → NoFeed line → ((m : Move) → IsMove m → move_text m ≡ line → is_legal l m ≡ false) → IsStuck l (held ++ more)
  line_with line rest more whole first bad = record {
    some = omega (arith, more_than held more, ap length whole, length-append line (10 ∷ rest));
    illegal = λ m b h e.
        let lines : move_text m ++ 10 ∷ b ≡ line ++ 10 ∷ (rest ++ more) =
        sym (move_onto-is m (10 ∷ b)) ∙ sym e ∙ ap (λ t. t ++ more) whole ∙ append_assoc line (10 ∷ rest) more in
        bad m h (one_line (move_text m) line b (rest ++ more) (move_no_feed m) first lines).0;
  }

  pub stuck_line : (left : Option Text) (n : ℕ) → HasLine held n → ((m : Move) → IsMove m → move_text m ≡ take n held → is_legal l m ≡ false) → StuckBefore left l held
  stuck_line None n h bad = tt
  stuck_line (Some more) n h bad = line_with (take n held) (drop (suc n) held) more h.feed.whole h.feed.first bad

  -- and it is this move's, or no move's
  spells_with : (line rest more : Text) → held ≡ line ++ 10 ∷ rest → NoFeed line → (o : Option Move) → IsSpelling o line → SpellsMove o (held ++ more)
  spells_with line rest more whole first (Some m) s = (
    s.0,
    (
      rest ++ more,
      ap (λ t. t ++ more) whole ∙ append_assoc line (10 ∷ rest) more ∙ ap (λ t. t ++ 10 ∷ (rest ++ more)) (sym s.1) ∙ sym (move_onto-is m (10 ∷ (rest ++ more))),
    ),
  )
  spells_with line rest more whole first None s = λ m b h e.
      let lines : move_text m ++ 10 ∷ b ≡ line ++ 10 ∷ (rest ++ more) =
      sym (move_onto-is m (10 ∷ b)) ∙ sym e ∙ ap (λ t. t ++ more) whole ∙ append_assoc line (10 ∷ rest) more in
      s m h (one_line (move_text m) line b (rest ++ more) (move_no_feed m) first lines).0

  pub spells_line : (left : Option Text) (n : ℕ) → HasLine held n → (o : Option Move) → IsSpelling o (take n held) → SpellsBefore left o held
  spells_line None n h o s = tt
  spells_line (Some more) n h o s = spells_with (take n held) (drop (suc n) held) more h.feed.whole h.feed.first o s

  -- the first line is too long
  long_with : (front behind more : Text) → held ≡ front ++ behind → length front ≡ 257 → NoFeed front → IsStuck l (held ++ more)
  long_with front behind more whole many no_feed = record {
    some = omega (arith, more_than held more, ap length whole, length-append front behind);
    illegal = λ m b h e.
        let lines : move_text m ++ 10 ∷ b ≡ front ++ (behind ++ more) = sym (move_onto-is m (10 ∷ b)) ∙ sym e ∙ ap (λ t. t ++ more) whole ∙ append_assoc front behind more in
        absurd (no_line (move_text m) front b (behind ++ more) no_feed (omega (arith, move_short m)) lines);
  }

  pub stuck_long : (left : Option Text) → IsLong held → StuckBefore left l held
  stuck_long None h = tt
  stuck_long (Some more) h = long_with h.front h.more more h.whole h.many h.no_feed

  pub spells_long : (left : Option Text) → IsLong held → SpellsBefore left None held
  spells_long None h = tt
  spells_long (Some more) h = λ m b k e.
      let lines : move_text m ++ 10 ∷ b ≡ h.front ++ (h.more ++ more) = sym (move_onto-is m (10 ∷ b)) ∙ sym e ∙ ap (λ t. t ++ more) h.whole ∙ append_assoc h.front h.more more in
      absurd (no_line (move_text m) h.front b (h.more ++ more) h.no_feed (omega (arith, move_short m, h.many)) lines)

  -- the last line has no line feed
  pub stuck_end : (left : Option Text) → 0 < length held → FitsLine held → IsEnd left → StuckBefore left l held
  stuck_end None some h end = tt
  stuck_end (Some more) some h end = record {
    some = omega (arith, more_than held more);
    illegal = λ m b k e.
        let lines : move_text m ++ 10 ∷ b ≡ held ++ more = sym (move_onto-is m (10 ∷ b)) ∙ sym e in
        let none : length more ≡ 0 = ap length end in
        absurd (no_line (move_text m) held b more h.no_feed (omega (arith, ap length lines, length-append (move_text m) (10 ∷ b), length-append held more, none)) lines);
  }

  pub spells_end : (left : Option Text) → FitsLine held → IsEnd left → SpellsBefore left None held
  spells_end None h end = tt
  spells_end (Some more) h end = λ m b k e.
      let lines : move_text m ++ 10 ∷ b ≡ held ++ more = sym (move_onto-is m (10 ∷ b)) ∙ sym e in
      let none : length more ≡ 0 = ap length end in
      absurd (no_line (move_text m) held b more h.no_feed (omega (arith, ap length lines, length-append (move_text m) (10 ∷ b), length-append held more, none)) lines)
