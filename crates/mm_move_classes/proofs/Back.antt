-- Two logs with the same data are the same.
use Rattle.std.proofs.Common.{◌≡◌, ◌⊎◌, ℕ, ◌+◌, ◌*◌, ◌/◌, ◌%◌, Bool, true, false, cond, List, [], ◌∷◌, ◌++◌, length, Option, Some, None, refl, sym, ap, ◌∙◌, inl, inr, subst, arith}
use Rattle.std.specs.Prelude.{◌==◌, nat_le, option_map}
use Rattle.std.specs.Cmp.{unsigned_Decides}
use Rattle.std.proofs.lemmas.Bool.{and_parts}
use Rattle.mm_types.specs.{Text, Area, Frame, Key, Pid, Place, Vpn, LineKind, Move, Stored}
use Rattle.mm_types.specs.declared.numbers.Key.TheVariants.{Private, Shared}
use Rattle.mm_types.specs.declared.moves.LineKind.TheVariants as kind
use Rattle.mm_types.specs.declared.moves.Move.TheVariants as move
use Rattle.mm_types.specs.declared.moves.Stored.TheVariants as stored
use Rattle.mm_move_rules.specs.{FrameLife, unstarted, counts_of, IsLegal, is_touch, after_move, IsMove, AreMoves, Replays}
use Rattle.mm_move_classes.specs.{MarksOf, no_marks, marks_after, class_of, next_of, code_of, numbers_text, key_numbers, stored_number, kind_numbers}
use Rattle.mm_move_classes.specs.{kind_code, move_numbers, head_text, move_data, mark_data, is_marked, mark_before, last_mark, data_from, log_data, IsLog}
use Rattle.mm_move_classes.specs.{MoveWord, Add, Drop, Clear, Steal, Give, Read, Got, Bad, Map, Unmap, Soil, Write, Wrote, Lost, word_of, word_of_move, Class}
use Rattle.mm_move_classes.specs.declared.classes.Class.TheVariants as class
use Rattle.mm_move_classes.proofs.Again.{heads, cancel, small_move, numbers_again}
use Rattle.mm_move_classes.proofs.Codes.{codes_tell}
use Rattle.mm_move_classes.proofs.Fits.{word_fits}

-- ---- a move by its word and its numbers

abbrev key_of : ℕ → ℕ → Key
key_of a b = cond (a % 2 == 0) (Private (record { 0 = a / 2 }) (record { 0 = b })) (Shared (record { 0 = a / 2 }) b)

abbrev stored_of : ℕ → Stored
stored_of a = cond (a % 2 == 0) (stored.Slot (record { 0 = a / 2 })) (stored.Block (record { 0 = a / 2 }))

abbrev frame : ℕ → Frame
frame f = record { 0 = f }

abbrev place : ℕ → ℕ → Place
place p v = record { pid = record { 0 = p }; vpn = record { 0 = v } }

move_of : MoveWord → List ℕ → Option Move
move_of Add (a ∷ b ∷ []) = Some (move.Add (key_of a b) None)
move_of Add (a ∷ b ∷ c ∷ []) = Some (move.Add (key_of a b) (Some (record { 0 = c })))
move_of Drop (a ∷ b ∷ []) = Some (move.Drop (key_of a b))
move_of Clear (f ∷ []) = Some (move.Clear (frame f))
move_of Steal (f ∷ []) = Some (move.Steal (frame f))
move_of Give (f ∷ a ∷ b ∷ []) = Some (move.Give (frame f) (key_of a b))
move_of Read (f ∷ a ∷ b ∷ []) = Some (move.Read (frame f) (key_of a b))
move_of Got (f ∷ []) = Some (move.Got (frame f))
move_of Bad (f ∷ []) = Some (move.Bad (frame f))
move_of Map (f ∷ p ∷ v ∷ []) = Some (move.Map (frame f) (place p v))
move_of Unmap (p ∷ v ∷ []) = Some (move.Unmap (place p v))
move_of Soil (f ∷ []) = Some (move.Soil (frame f))
move_of Write (f ∷ s ∷ []) = Some (move.Write (frame f) (stored_of s))
move_of Wrote (f ∷ []) = Some (move.Wrote (frame f))
move_of Lost (f ∷ []) = Some (move.Lost (frame f))
move_of w ns = None

even : (n : ℕ) → ((2 * n) % 2 == 0) ≡ true
even n = (unsigned_Decides ((2 * n) % 2) 0).1 (omega arith)

odd : (n : ℕ) → ((2 * n + 1) % 2 == 0) ≡ false
odd n = no ((2 * n + 1) % 2) (omega arith)
  where
    no : (m : ℕ) → m ≡ 1 → (m == 0) ≡ false
    no m e = ap (λ (k : ℕ). k == 0) e

half : (n : ℕ) → (2 * n) / 2 ≡ n
half n = omega arith

half_odd : (n : ℕ) → (2 * n + 1) / 2 ≡ n
half_odd n = omega arith

private_by : (p : Pid) (v : Vpn) → key_of (2 * p.0) v.0 ≡ Private p v
private_by p v =
    ap (λ (c : Bool). cond c (Private (record { 0 = (2 * p.0) / 2 }) v) (Shared (record { 0 = (2 * p.0) / 2 }) v.0)) (even p.0)
    ∙ ap (λ (n : ℕ). Private (record { 0 = n }) v) (half p.0)

shared_by : (a : Area) (i : ℕ) → key_of (2 * a.0 + 1) i ≡ Shared a i
shared_by a i =
    ap (λ (c : Bool). cond c (Private (record { 0 = (2 * a.0 + 1) / 2 }) (record { 0 = i })) (Shared (record { 0 = (2 * a.0 + 1) / 2 }) i)) (odd a.0)
    ∙ ap (λ (n : ℕ). Shared (record { 0 = n }) i) (half_odd a.0)

stored_by : (x : Stored) → stored_of (stored_number x) ≡ x
stored_by (stored.Slot n) =
    ap (λ (c : Bool). cond c (stored.Slot (record { 0 = (2 * n.0) / 2 })) (stored.Block (record { 0 = (2 * n.0) / 2 }))) (even n.0)
    ∙ ap (λ (m : ℕ). stored.Slot (record { 0 = m })) (half n.0)
stored_by (stored.Block n) =
    ap (λ (c : Bool). cond c (stored.Slot (record { 0 = (2 * n.0 + 1) / 2 })) (stored.Block (record { 0 = (2 * n.0 + 1) / 2 }))) (odd n.0)
    ∙ ap (λ (m : ℕ). stored.Block (record { 0 = m })) (half_odd n.0)

-- its word, where it is no `at`
abbrev word : Move → MoveWord
word (move.Drop k) = Drop
word (move.Clear f) = Clear
word (move.Steal f) = Steal
word (move.Give f k) = Give
word (move.Read f k) = Read
word (move.Got f) = Got
word (move.Bad f) = Bad
word (move.Map f p) = Map
word (move.Unmap p) = Unmap
word (move.Soil f) = Soil
word (move.Write f s) = Write
word (move.Wrote f) = Wrote
word (move.Lost f) = Lost
word _ = Add

one_word : (a b : MoveWord) → Some a ≡ Some b → a ≡ b
one_word a b e = cc

spelled : (m : Move) (w : MoveWord) → word_of_move m ≡ Some w → Some (word m) ≡ Some w
spelled (move.At n k) w e = cc
spelled _ w e = e

back : (m : Move) (w : MoveWord) → word_of_move m ≡ Some w → move_of (word m) (move_numbers m) ≡ Some m
unfolding move_of
back (move.At n k) w e = cc
back (move.Add (Private p v) None) w e = ap (λ (k : Key). Some (move.Add k None)) (private_by p v)
back (move.Add (Private p v) (Some b)) w e = ap (λ (k : Key). Some (move.Add k (Some b))) (private_by p v)
back (move.Add (Shared a i) None) w e = ap (λ (k : Key). Some (move.Add k None)) (shared_by a i)
back (move.Add (Shared a i) (Some b)) w e = ap (λ (k : Key). Some (move.Add k (Some b))) (shared_by a i)
back (move.Drop (Private p v)) w e = ap (λ (k : Key). Some (move.Drop k)) (private_by p v)
back (move.Drop (Shared a i)) w e = ap (λ (k : Key). Some (move.Drop k)) (shared_by a i)
back (move.Give f (Private p v)) w e = ap (λ (k : Key). Some (move.Give f k)) (private_by p v)
back (move.Give f (Shared a i)) w e = ap (λ (k : Key). Some (move.Give f k)) (shared_by a i)
back (move.Read f (Private p v)) w e = ap (λ (k : Key). Some (move.Read f k)) (private_by p v)
back (move.Read f (Shared a i)) w e = ap (λ (k : Key). Some (move.Read f k)) (shared_by a i)
back (move.Write f s) w e = ap (λ (x : Stored). Some (move.Write f x)) (stored_by s)
back m w e = refl

again : (w : MoveWord) (m : Move) → word_of_move m ≡ Some w → move_of w (move_numbers m) ≡ Some m
again w m e = subst (λ (v : MoveWord). move_of v (move_numbers m) ≡ Some m) (one_word (word m) w (spelled m w e)) (back m w e)

pub move_again : (w : MoveWord) (x y : Move) → word_of_move x ≡ Some w → word_of_move y ≡ Some w → move_numbers x ≡ move_numbers y → x ≡ y
move_again w x y p q e =
    let h : Some x ≡ Some y = sym (again w x p) ∙ ap (λ (ns : List ℕ). move_of w ns) e ∙ again w y q in cc

-- ---- a class tells how many numbers follow

abbrev size_by : MoveWord → ℕ
size_by Add = 2
size_by Drop = 2
size_by Give = 3
size_by Read = 3
size_by Map = 3
size_by Unmap = 2
size_by Write = 2
size_by x = 1

abbrev size_of : Class → ℕ
size_of class.FilePageAdded = 3
size_of c = size_by (word_of c)

size_key : (k : Key) (ms : List ℕ) → length (key_numbers k ++ ms) ≡ 2 + length ms
size_key (Private p v) ms = omega arith
size_key (Shared a i) ms = omega arith

abbrev is_add : MoveWord → Bool
is_add Add = true
is_add _ = false

size_word : (c : Class) (w : MoveWord) → word_of c ≡ w → is_add w ≡ false → size_of c ≡ size_by w
size_word class.FilePageAdded w e n = let bad : true ≡ false = ap is_add e ∙ n in cc
size_word _ w e n = ap size_by e

same_word : (c : Class) (o : Option Class) (w : MoveWord) → o ≡ Some c → option_map word_of o ≡ Some w → word_of c ≡ w
same_word c o w e h = let g : Some (word_of c) ≡ Some w = sym (ap (λ (x : Option Class). option_map word_of x) e) ∙ h in cc

module _ (l : FrameLife) (v : MarksOf) (before : Option Move) (after : Option Move) (c : Class) where
  added : (t : Bool) → Some (cond t class.CopyOnWriteFault class.DemandZeroAdded) ≡ Some c → 2 ≡ size_of c
  added true e = let h : class.CopyOnWriteFault ≡ c = cc in ap size_of h
  added false e = let h : class.DemandZeroAdded ≡ c = cc in ap size_of h

  added_block : Some class.FilePageAdded ≡ Some c → 3 ≡ size_of c
  added_block e = let h : class.FilePageAdded ≡ c = cc in ap size_of h

  by_word : (m : Move) (w : MoveWord) → class_of l v before m after ≡ Some c → word_of_move m ≡ Some w → is_add w ≡ false → size_of c ≡ size_by w
  by_word m w e h n = size_word c w (same_word c (class_of l v before m after) w e (word_fits l v before m after ∙ h)) n

  sized : (m : Move) → class_of l v before m after ≡ Some c → length (move_numbers m) ≡ size_of c
  sized (move.At n k) e = cc
  sized (move.Add k None) e = let s = size_key k [] in s ∙ added (is_touch l.kind) e
  sized (move.Add k (Some b)) e = let s = size_key k (b.0 ∷ []) in s ∙ added_block e
  sized (move.Drop (Private p q)) e = sym (by_word (move.Drop (Private p q)) Drop e refl refl)
  sized (move.Give f (Private p q)) e = sym (by_word (move.Give f (Private p q)) Give e refl refl)
  sized (move.Read f (Private p q)) e = sym (by_word (move.Read f (Private p q)) Read e refl refl)
  sized m e = sym (by_word m (word m) e refl refl)

-- ---- kinds of lines

machine_of : List ℕ → Option LineKind
machine_of (f ∷ s ∷ d ∷ b ∷ []) = Some (kind.Machine f s d b)
machine_of _ = None

process_of : List ℕ → Option LineKind
process_of (p ∷ a ∷ b ∷ []) = Some (kind.Process (record { 0 = p }) a b)
process_of _ = None

one_of : (ℕ → LineKind) → List ℕ → Option LineKind
one_of make (n ∷ []) = Some (make n)
one_of make _ = None

kind_of : ℕ → List ℕ → Option LineKind
kind_of c ns =
    cond (c == 0x4D) (machine_of ns)
    (cond (c == 0x50) (process_of ns)
    (cond (c == 0x75) (one_of (λ n. kind.Unbind (record { 0 = n })) ns)
    (cond (c == 0x61) (one_of (λ n. kind.Access (record { 0 = n })) ns)
    (cond (c == 0x74) (one_of (λ n. kind.Thread (record { 0 = n })) ns)
    (cond (c == 0x72) (one_of (λ n. kind.Trim (record { 0 = n })) ns)
    (cond (c == 0x77) (Some kind.Writer)
    (cond (c == 0x7A) (Some kind.Zeroer)
    (cond (c == 0x69) (Some kind.Io)
    (cond (c == 0x63) (Some kind.Call)
    (one_of (λ n. kind.Grow n) ns))))))))))

kind_back : (k : LineKind) → kind_of (kind_code k) (kind_numbers k) ≡ Some k
unfolding kind_of machine_of process_of one_of
kind_back (kind.Machine f s d b) = refl
kind_back k = refl

kind_size : ℕ → ℕ
kind_size c =
    cond (c == 0x4D) 4 (cond (c == 0x50) 3 (cond (c == 0x77) 0 (cond (c == 0x7A) 0 (cond (c == 0x69) 0 (cond (c == 0x63) 0 1)))))

kind_sized : (k : LineKind) → length (kind_numbers k) ≡ kind_size (kind_code k)
unfolding kind_size
kind_sized (kind.Machine f s d b) = refl
kind_sized k = refl

kind_again : (j k : LineKind) → kind_code j ≡ kind_code k → kind_numbers j ≡ kind_numbers k → j ≡ k
kind_again j k c n =
    let h : Some j ≡ Some k = sym (kind_back j) ∙ ap (λ (x : ℕ). kind_of x (kind_numbers j)) c ∙ ap (λ (ns : List ℕ). kind_of (kind_code k) ns) n ∙ kind_back k in cc

-- ---- one move

record Line (m : Move) : Type 0 where
  number : ℕ
  of_kind : LineKind
  is : m ≡ move.At number of_kind

record Classed (l : FrameLife) (v : MarksOf) (before : Option Move) (m : Move) (after : Option Move) : Type 0 where
  its : Class
  its_word : MoveWord
  is : class_of l v before m after ≡ Some its
  word_is : word_of_move m ≡ Some its_word
  of_class : word_of its ≡ its_word
  no_mark : mark_before l m ≡ []
  head : head_text (Some its) m ≡ code_of its ∷ []

-- a move begins a line, or has a class
module _ (l : FrameLife) (v : MarksOf) (before : Option Move) (after : Option Move) where
  classed_as : (m : Move) (w : MoveWord) → word_of_move m ≡ Some w → mark_before l m ≡ [] → ((c : Class) → head_text (Some c) m ≡ code_of c ∷ [])
      → (o : Option Class) → class_of l v before m after ≡ o → option_map word_of o ≡ Some w → Classed l v before m after
  classed_as m w e n h None i f = cc
  classed_as m w e n h (Some c) i f = record { its = c; its_word = w; is = i; word_is = e; of_class = same_word c (Some c) w refl f; no_mark = n; head = h c }

  classed : (m : Move) (w : MoveWord) → word_of_move m ≡ Some w → mark_before l m ≡ [] → ((c : Class) → head_text (Some c) m ≡ code_of c ∷ []) → Line m ⊎ Classed l v before m after
  classed m w e n h = inr (classed_as m w e n h (class_of l v before m after) refl (word_fits l v before m after ∙ e))

  begins : (m : Move) → Line m ⊎ Classed l v before m after
  begins (move.At n k) = inl (record { number = n; of_kind = k; is = refl })
  begins (move.Add k b) = classed (move.Add k b) Add refl refl (λ c. refl)
  begins (move.Drop k) = classed (move.Drop k) Drop refl refl (λ c. refl)
  begins (move.Clear f) = classed (move.Clear f) Clear refl refl (λ c. refl)
  begins (move.Steal f) = classed (move.Steal f) Steal refl refl (λ c. refl)
  begins (move.Give f k) = classed (move.Give f k) Give refl refl (λ c. refl)
  begins (move.Read f k) = classed (move.Read f k) Read refl refl (λ c. refl)
  begins (move.Got f) = classed (move.Got f) Got refl refl (λ c. refl)
  begins (move.Bad f) = classed (move.Bad f) Bad refl refl (λ c. refl)
  begins (move.Map f p) = classed (move.Map f p) Map refl refl (λ c. refl)
  begins (move.Unmap p) = classed (move.Unmap p) Unmap refl refl (λ c. refl)
  begins (move.Soil f) = classed (move.Soil f) Soil refl refl (λ c. refl)
  begins (move.Write f s) = classed (move.Write f s) Write refl refl (λ c. refl)
  begins (move.Wrote f) = classed (move.Wrote f) Wrote refl refl (λ c. refl)
  begins (move.Lost f) = classed (move.Lost f) Lost refl refl (λ c. refl)

  -- the data of a move and what follows
  abbrev front : Move → Text → Text
  front m rest = mark_before l m ++ (move_data (class_of l v before m after) m ++ rest)

  front_classed : (m : Move) (rest : Text) (c : Classed l v before m after) → front m rest ≡ code_of c.its ∷ (numbers_text (move_numbers m) ++ rest)
  front_classed m rest c =
      ap (λ (t : Text). t ++ (move_data (class_of l v before m after) m ++ rest)) c.no_mark
      ∙ ap (λ (o : Option Class). move_data o m ++ rest) c.is
      ∙ ap (λ (t : Text). (t ++ numbers_text (move_numbers m)) ++ rest) c.head

  abbrev line_text : LineKind → Text → Text
  line_text k rest = 10 ∷ kind_code k ∷ (numbers_text (kind_numbers k) ++ rest)

  abbrev marking : Text
  marking = cond (is_marked l.line) (mark_data (counts_of l)) []

  front_line : (m : Move) (rest : Text) (n : Line m) → front m rest ≡ marking ++ line_text n.of_kind rest
  front_line m rest n = ap (λ (x : Move). front x rest) n.is

-- a mark after its `=`
abbrev mark_tail : FrameLife → Text
mark_tail l =
    let c = counts_of l in
    numbers_text (c.zeroed ∷ c.free ∷ c.standby ∷ c.modified ∷ c.active ∷ c.transition ∷ c.free_slots ∷ c.requests ∷ [])

-- no class has the code of a mark or a line feed
no_mark_code : (c : Class) → (code_of c == 0x3D) ≡ false
no_mark_code class.Deleted = refl
no_mark_code _ = refl

no_line_code : (c : Class) → (code_of c == 10) ≡ false
no_line_code class.Deleted = refl
no_line_code _ = refl

apart : (a b : ℕ) → (a == b) ≡ false → a ≡ b → ⊥
apart a b unequal e = let bad : true ≡ false = sym ((unsigned_Decides a b).1 e) ∙ unequal in cc

class_or_line : (c : Class) (b : Bool) (mark x y : Text) → code_of c ∷ x ≡ cond b (0x3D ∷ mark) [] ++ (10 ∷ y) → ⊥
class_or_line c true mark x y e = apart (code_of c) 0x3D (no_mark_code c) (heads (code_of c) 0x3D x (mark ++ (10 ∷ y)) e).0
class_or_line c false mark x y e = apart (code_of c) 10 (no_line_code c) (heads (code_of c) 10 x y e).0

pub record Stepped (x y : Move) (rx ry : Text) : Type 0 where
  pub moves : x ≡ y
  pub rest : rx ≡ ry

line_numbers : (l : FrameLife) (n m : ℕ) (j k : LineKind) → IsLegal (move.At n j) l → IsLegal (move.At m k) l → n ≡ m
line_numbers l n m j k p q =
    let a = (unsigned_Decides n (l.line + 1)).0 (and_parts _ _ (and_parts _ _ p).0).0 in
    let b = (unsigned_Decides m (l.line + 1)).0 (and_parts _ _ (and_parts _ _ q).0).0 in
    omega (arith, a, b)

module _ (l : FrameLife) (v : MarksOf) (before : Option Move) where
  lines : (n m : ℕ) (j k : LineKind) (rx ry : Text) → IsMove (move.At n j) → IsMove (move.At m k) → IsLegal (move.At n j) l → IsLegal (move.At m k) l
      → marking l v before None ++ line_text l v before None j rx ≡ marking l v before None ++ line_text l v before None k ry → Stepped (move.At n j) (move.At m k) rx ry
  lines n m j k rx ry p q g h e =
      let a = heads 10 10 _ _ (cancel (marking l v before None) (line_text l v before None j rx) (line_text l v before None k ry) e) in
      let b = heads (kind_code j) (kind_code k) (numbers_text (kind_numbers j) ++ rx) (numbers_text (kind_numbers k) ++ ry) a.1 in
      let c = numbers_again (kind_numbers j) (kind_numbers k) rx ry (small_move (move.At n j) p) (small_move (move.At m k) q)
      (kind_sized j ∙ ap kind_size b.0 ∙ sym (kind_sized k)) b.1 in
      record {
        moves = ap (λ (x : ℕ). move.At x j) (line_numbers l n m j k g h) ∙ ap (λ (x : LineKind). move.At m x) (kind_again j k b.0 c.numbers);
        rest = c.rest;
      }

  both_lines : (x y : Move) (rx ry : Text) → IsMove x → IsMove y → IsLegal x l → IsLegal y l → (a : Line x) (b : Line y)
      → marking l v before None ++ line_text l v before None a.of_kind rx ≡ marking l v before None ++ line_text l v before None b.of_kind ry → Stepped x y rx ry
  both_lines x y rx ry p q g h a b e =
      let p' = subst (λ (z : Move). IsMove z) a.is p in
      let q' = subst (λ (z : Move). IsMove z) b.is q in
      let g' = subst (λ (z : Move). IsLegal z l) a.is g in
      let h' = subst (λ (z : Move). IsLegal z l) b.is h in
      let s = lines a.number b.number a.of_kind b.of_kind rx ry p' q' g' h' e in
      record { moves = a.is ∙ s.moves ∙ sym b.is; rest = s.rest }

  both_classed : (x y : Move) (ax ay : Option Move) (rx ry : Text) → IsMove x → IsMove y → (a : Classed l v before x ax) (b : Classed l v before y ay)
      → code_of a.its ∷ (numbers_text (move_numbers x) ++ rx) ≡ code_of b.its ∷ (numbers_text (move_numbers y) ++ ry) → Stepped x y rx ry
  both_classed x y ax ay rx ry p q a b e =
      let h = heads (code_of a.its) (code_of b.its) (numbers_text (move_numbers x) ++ rx) (numbers_text (move_numbers y) ++ ry) e in
      let c = codes_tell a.its b.its h.0 in
      let s = numbers_again (move_numbers x) (move_numbers y) rx ry (small_move x p) (small_move y q)
      (sized l v before ax a.its x a.is ∙ ap size_of c ∙ sym (sized l v before ay b.its y b.is)) h.1 in
      let w : b.its_word ≡ a.its_word = sym b.of_class ∙ sym (ap word_of c) ∙ a.of_class in
      record { moves = move_again a.its_word x y a.word_is (b.word_is ∙ ap (λ (u : MoveWord). Some u) w) s.numbers; rest = s.rest }

  pub one_step : (x y : Move) (ax ay : Option Move) (rx ry : Text) → IsMove x → IsMove y → IsLegal x l → IsLegal y l
      → front l v before ax x rx ≡ front l v before ay y ry → Stepped x y rx ry
  one_step x y ax ay rx ry p q g h e = step_by (begins l v before ax x) (begins l v before ay y)
    where
      step_by : Line x ⊎ Classed l v before x ax → Line y ⊎ Classed l v before y ay → Stepped x y rx ry
      step_by (inl a) (inl b) = both_lines x y rx ry p q g h a b (sym (front_line l v before ax x rx a) ∙ e ∙ front_line l v before ay y ry b)
      step_by (inr a) (inr b) = both_classed x y ax ay rx ry p q a b (sym (front_classed l v before ax x rx a) ∙ e ∙ front_classed l v before ay y ry b)
      step_by (inr a) (inl b) = absurd (class_or_line a.its (is_marked l.line) (mark_tail l) (numbers_text (move_numbers x) ++ rx) (kind_code b.of_kind ∷ (numbers_text (kind_numbers b.of_kind) ++ ry))
          (sym (front_classed l v before ax x rx a) ∙ e ∙ front_line l v before ay y ry b))
      step_by (inl a) (inr b) = absurd (class_or_line b.its (is_marked l.line) (mark_tail l) (numbers_text (move_numbers y) ++ ry) (kind_code a.of_kind ∷ (numbers_text (kind_numbers a.of_kind) ++ rx))
          (sym (front_classed l v before ay y ry b) ∙ sym e ∙ front_line l v before ax x rx a))

  -- ---- the end

  end_or_line : (b m : Bool) (mark y : Text) (k : ℕ) → (m ≡ true → b ≡ true) → cond b (0x3D ∷ mark) [] ++ 10 ∷ [] ≡ cond m (0x3D ∷ mark) [] ++ (10 ∷ k ∷ y) → ⊥
  end_or_line true true mark y k h e =
      let t = heads 10 10 [] (k ∷ y) (cancel (0x3D ∷ mark) (10 ∷ []) (10 ∷ k ∷ y) e) in
      let bad : [] ≡ k ∷ y = t.1 in cc
  end_or_line true false mark y k h e = apart 0x3D 10 refl (heads 0x3D 10 (mark ++ 10 ∷ []) (k ∷ y) e).0
  end_or_line false true mark y k h e = let bad : false ≡ true = h refl in cc
  end_or_line false false mark y k h e = let t = heads 10 10 [] (k ∷ y) e in let bad : [] ≡ k ∷ y = t.1 in cc

  end_or_class : (c : Class) (b : Bool) (mark x : Text) → cond b (0x3D ∷ mark) [] ++ 10 ∷ [] ≡ code_of c ∷ x → ⊥
  end_or_class c true mark x e = apart (code_of c) 0x3D (no_mark_code c) (sym (heads 0x3D (code_of c) (mark ++ 10 ∷ []) x e).0)
  end_or_class c false mark x e = apart (code_of c) 10 (no_line_code c) (sym (heads 10 (code_of c) [] x e).0)

  pub no_end : (y : Move) (ay : Option Move) (ry : Text) → last_mark l ++ 10 ∷ [] ≡ front l v before ay y ry → ⊥
  no_end y ay ry e = end_by (begins l v before ay y)
    where
      end_by : Line y ⊎ Classed l v before y ay → ⊥
      end_by (inl b) =
          end_or_line (nat_le 1 l.line) (is_marked l.line) (mark_tail l) (numbers_text (kind_numbers b.of_kind) ++ ry) (kind_code b.of_kind)
          (λ m. (and_parts (nat_le 1 l.line) (l.line % 64 == 0) m).0) (e ∙ front_line l v before ay y ry b)
      end_by (inr b) = end_or_class b.its (nat_le 1 l.line) (mark_tail l) (numbers_text (move_numbers y) ++ ry) (e ∙ front_classed l v before ay y ry b)

pub back_from : (l : FrameLife) (v : MarksOf) (before : Option Move) (a b : List Move) (m n : FrameLife) → AreMoves a → AreMoves b → Replays a l m → Replays b l n
    → data_from l v before a ≡ data_from l v before b → a ≡ b
back_from l v before [] [] m n p q r s e = refl
back_from l v before [] (y ∷ ys) m n p q r s e = absurd (no_end l v before y (next_of ys) (data_from (after_move l y) (marks_after v y) (Some y) ys) e)
back_from l v before (x ∷ xs) [] m n p q r s e = absurd (no_end l v before x (next_of xs) (data_from (after_move l x) (marks_after v x) (Some x) xs) (sym e))
back_from l v before (x ∷ xs) (y ∷ ys) m n p q r s e =
    let rx = data_from (after_move l x) (marks_after v x) (Some x) xs in
    let ry = data_from (after_move l y) (marks_after v y) (Some y) ys in
    let t = one_step l v before x y (next_of xs) (next_of ys) rx ry p.0 q.0 r.0 s.0 e in
    let s' : Replays ys (after_move l x) n = subst (λ (z : Move). Replays ys (after_move l z) n) (sym t.moves) s.1 in
    let e' : data_from (after_move l x) (marks_after v x) (Some x) xs ≡ data_from (after_move l x) (marks_after v x) (Some x) ys =
    t.rest ∙ ap (λ (z : Move). data_from (after_move l z) (marks_after v z) (Some z) ys) (sym t.moves) in
    let more = back_from (after_move l x) (marks_after v x) (Some x) xs ys m n p.1 q.1 r.1 s' e' in
    ap (λ (z : Move). z ∷ xs) t.moves ∙ ap (λ (zs : List Move). y ∷ zs) more

pub data_back : (a b : List Move) → IsLog a → IsLog b → log_data a ≡ log_data b → a ≡ b
data_back a b p q e = back_from unstarted no_marks None a b p.end q.end p.in_range q.in_range p.replays q.replays e
