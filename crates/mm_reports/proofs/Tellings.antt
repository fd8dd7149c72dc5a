-- What was written, and what is still to come.
use Rattle.std.proofs.Common.{◌≡◌, ℕ, Bool, true, false, List, [], ◌∷◌, ◌++◌, Option, refl, sym, ap, ◌∙◌, append_assoc}
use Rattle.std.specs.Prelude.{◌==◌, if◌then◌else◌, flat_map}
use Rattle.std.proofs.lemmas.Grind.{flat_map-append}
use Rattle.mm_types.specs.{Text, Move}
use Rattle.mm_types.proofs.{append_nil}
use Rattle.mm_types.specs.declared.moves.Move.TheVariants as move
use Rattle.mm_move_rules.specs.{FrameLife, after_move}
use Rattle.mm_csv.specs.{head_left}
use Rattle.mm_reports.specs.{line_ended_by, ended_line, ends_of_lines, said_of_line, counts_head_in, counts_row_in, line_rows, charge_after, charge_then, Charge}
use Rattle.mm_reports.specs.{Style}

-- two texts were written, in front of those that come
joined : (text text1 text2 a b c d : Text) → text1 ≡ text ++ a → text2 ≡ text1 ++ b → d ≡ b ++ c → text2 ++ c ≡ text ++ (a ++ d)
joined text text1 text2 a b c d e1 e2 e3 =
    ap (λ xs. xs ++ c) (e2 ∙ ap (λ xs. xs ++ b) e1) ∙ append_assoc (text ++ a) b c ∙ append_assoc text a (b ++ c) ∙ ap (λ xs. text ++ (a ++ xs)) (sym e3)

-- the rows of lines, in a style and with the charge that was told
module _ (s : Style) (script answers : Option (List Text)) where
  rows_before : (charge : Option Charge) (xs ys : List FrameLife) → line_rows s script answers charge (xs ++ ys)
      ≡ line_rows s script answers charge xs ++ line_rows s script answers (charge_then script answers charge xs) ys
  rows_before charge [] ys = refl
  rows_before charge (x ∷ xs) ys =
      let told : Option Charge = charge_after script answers charge x.line in
      ap (λ t. counts_row_in s told x ++ t) (rows_before told xs ys)
      ∙ sym (append_assoc (counts_row_in s told x) (line_rows s script answers told xs) (line_rows s script answers (charge_then script answers told xs) ys))

  -- the line that ends, if any does, has one row
  pub rows_ended : (charge : Option Charge) (l : FrameLife)
      → line_rows s script answers charge (ended_line l) ≡ flat_map (counts_row_in s (charge_then script answers charge (ended_line l))) (ended_line l)
  rows_ended charge l = pick (l.line == 0)
    where
      pick : (b : Bool) → line_rows s script answers charge (if b then [] else l ∷ [])
          ≡ flat_map (counts_row_in s (charge_then script answers charge (if b then [] else l ∷ []))) (if b then [] else l ∷ [])
      pick true = refl
      pick false = refl

  rows_ended_by : (charge : Option Charge) (l : FrameLife) (m : Move)
      → line_rows s script answers charge (line_ended_by l m) ≡ flat_map (counts_row_in s (charge_then script answers charge (line_ended_by l m))) (line_ended_by l m)
  rows_ended_by charge l (move.At n k) = rows_ended charge l
  rows_ended_by charge l (move.Add k b) = refl
  rows_ended_by charge l (move.Drop k) = refl
  rows_ended_by charge l (move.Clear f) = refl
  rows_ended_by charge l (move.Steal f) = refl
  rows_ended_by charge l (move.Give f k) = refl
  rows_ended_by charge l (move.Read f k) = refl
  rows_ended_by charge l (move.Got f) = refl
  rows_ended_by charge l (move.Bad f) = refl
  rows_ended_by charge l (move.Map f p) = refl
  rows_ended_by charge l (move.Unmap p) = refl
  rows_ended_by charge l (move.Soil f) = refl
  rows_ended_by charge l (move.Write f x) = refl
  rows_ended_by charge l (move.Wrote f) = refl
  rows_ended_by charge l (move.Lost f) = refl

  -- one more move was taken
  pub counts_taken : (begun begun' : Bool) (charge charge' : Option Charge) (text text1 text2 : Text) (l : FrameLife) (m : Move)
      → text1 ≡ text ++ head_left begun (counts_head_in s) → begun' ≡ true → charge' ≡ charge_then script answers charge (line_ended_by l m)
      → text2 ≡ text1 ++ flat_map (counts_row_in s charge') (line_ended_by l m) → (whole : Bool) (ms : List Move)
      → text2 ++ (head_left begun' (counts_head_in s) ++ line_rows s script answers charge' (ends_of_lines whole (after_move l m) ms))
      ≡ text ++ (head_left begun (counts_head_in s) ++ line_rows s script answers charge (ends_of_lines whole l (m ∷ ms)))
  counts_taken begun begun' charge charge' text text1 text2 l m e1 is told e2 whole ms =
      let xs : List FrameLife = line_ended_by l m in
      let ys : List FrameLife = ends_of_lines whole (after_move l m) ms in
      let now : Option Charge = charge_then script answers charge xs in
      let rows : Text = line_rows s script answers charge xs in
      let e3 : text2 ≡ text1 ++ rows = e2 ∙ ap (λ (k : Option Charge). text1 ++ flat_map (counts_row_in s k) xs) told ∙ ap (λ t. text1 ++ t) (sym (rows_ended_by charge l m)) in
      ap (λ b. text2 ++ (head_left b (counts_head_in s) ++ line_rows s script answers charge' ys)) is
      ∙ ap (λ (k : Option Charge). text2 ++ line_rows s script answers k ys) told
      ∙ joined text text1 text2 (head_left begun (counts_head_in s)) rows (line_rows s script answers now ys) (line_rows s script answers charge (xs ++ ys)) e1 e3 (rows_before charge xs ys)

-- of a line that is sought
module _ (line : ℕ) (say : FrameLife → Text) where
  said_more : (xs ys : List FrameLife) → said_of_line line say (xs ++ ys) ≡ said_of_line line say xs ++ said_of_line line say ys
  said_more xs ys = flat_map-append _ xs ys

  pub said_taken : (text text1 : Text) (l : FrameLife) (m : Move) → text1 ≡ text ++ said_of_line line say (line_ended_by l m) → (whole : Bool) (ms : List Move)
      → text1 ++ said_of_line line say (ends_of_lines whole (after_move l m) ms) ≡ text ++ said_of_line line say (ends_of_lines whole l (m ∷ ms))
  said_taken text text1 l m e whole ms =
      let xs : List FrameLife = line_ended_by l m in
      let ys : List FrameLife = ends_of_lines whole (after_move l m) ms in
      ap (λ t. t ++ said_of_line line say ys) e ∙ append_assoc text (said_of_line line say xs) (said_of_line line say ys) ∙ ap (λ t. text ++ t) (sym (said_more xs ys))
