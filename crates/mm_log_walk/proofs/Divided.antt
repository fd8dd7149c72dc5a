-- Bytes that are divided into lines, one after another.
use Rattle.std.proofs.Common.{◌≡◌, ◌≢◌, ℕ, ◌+◌, ◌-◌, ◌≤◌, ◌<◌, Bool, true, false, cond, List, [], ◌∷◌, ◌++◌, length, map, take, drop, get_or, refl, sym, ap, ◌∙◌, arith, append_assoc}
use Rattle.std.specs.Prelude.{◌==◌, ◌&&◌, nat_le, slice_range}
use Rattle.std.proofs.lemmas.List.{drop_more, drop_all, length-take-le, length-drop, map-append, take-take}
use Rattle.std.proofs.lemmas.List.Edits.{between_more, between_none}
use Rattle.std.proofs.lemmas.Bool.{eq-eqb, le-leb, ne_eqb}
use Rattle.mm_types.specs.{Text}
use Rattle.mm_types.proofs.{append_nil}
use Rattle.mm_script.specs.{without_return}
use Rattle.mm_log_walk.specs.{Extent, extent_text, lines_from, lines_of}

abbrev pick : Bool → List Text → List Text → List Text
pick b ended longer = cond b ended longer

module _ (bytes : Text) (start at : ℕ) (order : start ≤ at) (within : at < length bytes) where
  pub line_longer : get_or bytes at 0 ≢ 10 → lines_from (slice_range bytes start at) (drop at bytes) ≡ lines_from (slice_range bytes start (at + 1)) (drop (at + 1) bytes)
  line_longer other =
      let line : Text = slice_range bytes start at in
      let rest : Text = drop (at + 1) bytes in
      ap (λ r. lines_from line r) (drop_more bytes at 0 within)
      ∙ ap (λ b. pick b (without_return line ∷ lines_from [] rest) (lines_from (line ++ get_or bytes at 0 ∷ []) rest)) (ne_eqb (get_or bytes at 0) 10 other)
      ∙ ap (λ t. lines_from t rest) (sym (between_more bytes start at 0 order within))

  pub line_ended : get_or bytes at 0 ≡ 10 → lines_from (slice_range bytes start at) (drop at bytes) ≡ without_return (slice_range bytes start at) ∷ lines_from (slice_range bytes (at + 1) (at + 1)) (drop (at + 1) bytes)
  line_ended same =
      let line : Text = slice_range bytes start at in
      let rest : Text = drop (at + 1) bytes in
      ap (λ r. lines_from line r) (drop_more bytes at 0 within)
      ∙ ap (λ b. pick b (without_return line ∷ lines_from [] rest) (lines_from (line ++ get_or bytes at 0 ∷ []) rest)) (eq-eqb (get_or bytes at 0) 10 same)
      ∙ ap (λ t. without_return line ∷ lines_from t rest) (sym (between_none bytes (at + 1)))

-- the lines so far, and those to come
pub more_longer : (done : List Text) (bytes : Text) (start at : ℕ) → start ≤ at → at < length bytes → get_or bytes at 0 ≢ 10
    → done ++ lines_from (slice_range bytes start at) (drop at bytes) ≡ lines_of bytes → done ++ lines_from (slice_range bytes start (at + 1)) (drop (at + 1) bytes) ≡ lines_of bytes
more_longer done bytes start at order within other e = ap (λ xs. done ++ xs) (sym (line_longer bytes start at order within other)) ∙ e

pub more_ended : (done done' : List Text) (bytes : Text) (start at : ℕ) → start ≤ at → at < length bytes → get_or bytes at 0 ≡ 10 → done' ≡ done ++ without_return (slice_range bytes start at) ∷ []
    → done ++ lines_from (slice_range bytes start at) (drop at bytes) ≡ lines_of bytes → done' ++ lines_from (slice_range bytes (at + 1) (at + 1)) (drop (at + 1) bytes) ≡ lines_of bytes
more_ended done done' bytes start at order within same more e =
    let rest = lines_from (slice_range bytes (at + 1) (at + 1)) (drop (at + 1) bytes) in
    ap (λ xs. xs ++ rest) more ∙ append_assoc done (without_return (slice_range bytes start at) ∷ []) rest
    ∙ ap (λ xs. done ++ xs) (sym (line_ended bytes start at order within same)) ∙ e

pub all_divided : (done : List Text) (bytes : Text) (start at : ℕ) → length bytes ≤ at → done ++ lines_from (slice_range bytes start at) (drop at bytes) ≡ lines_of bytes → done ≡ lines_of bytes
all_divided done bytes start at over e =
    sym (append_nil done) ∙ ap (λ r. done ++ lines_from (slice_range bytes start at) r) (sym (drop_all at bytes over)) ∙ e

pub ruleset divided = (more_longer, more_ended, all_divided)

-- ---- where a line stands

-- what is left of a line is in front of it
in_front : (line : Text) → take (length (without_return line)) line ≡ without_return line
unfolding without_return
in_front [] = refl
in_front (c ∷ []) = one (c == 0x0D)
  where
    one : (b : Bool) → take (length (cond b [] (c ∷ []))) (c ∷ []) ≡ cond b [] (c ∷ [])
    one true = refl
    one false = refl
in_front (c ∷ d ∷ cs) = ap (λ t. c ∷ t) (in_front (d ∷ cs))

pub place_is : (bytes : Text) (from end count : ℕ) → from ≤ end → end ≤ length bytes
    → count ≡ length (without_return (slice_range bytes from end))
    → count ≤ length (slice_range bytes from end)
    → extent_text bytes (record { from = from; to = from + count }) ≡ without_return (slice_range bytes from end)
place_is bytes from end count order within same few =
    let line : Text = slice_range bytes from end in
    let size : length line ≡ end - from = length-take-le (end - from) (drop from bytes) (omega (arith, length-drop from bytes)) in
    let low : from ≤ from + count = omega arith in
    let high : from + count ≤ length bytes = omega (arith, few, size) in
    let part : take (from + count - from) (drop from bytes) ≡ take count line =
    ap (λ (k : ℕ). take k (drop from bytes)) (omega arith)
    ∙ sym (take-take count (end - from) (drop from bytes) (omega (arith, few, size))) in
    ap (λ b. cond (b && nat_le (from + count) (length bytes)) (slice_range bytes from (from + count)) []) (le-leb from (from + count) low)
    ∙ ap (λ b. cond b (slice_range bytes from (from + count)) []) (le-leb (from + count) (length bytes) high)
    ∙ part ∙ ap (λ (k : ℕ). take k line) same ∙ in_front line

pub line_more : (bytes : Text) (old new : List Extent) (x : Extent) (line : Text) → new ≡ old ++ x ∷ []
    → extent_text bytes x ≡ line → map (extent_text bytes) new ≡ map (extent_text bytes) old ++ line ∷ []
line_more bytes old new x line is same =
    ap (map (extent_text bytes)) is ∙ map-append (extent_text bytes) old (x ∷ [])
    ∙ ap (λ (t : Text). map (extent_text bytes) old ++ t ∷ []) same

pub ruleset places = (place_is, line_more)
