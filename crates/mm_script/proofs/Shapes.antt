-- What a word of a kind stands for, and the field that it spells.
use Rattle.std.proofs.Common.{◌≡◌, ℕ, zero, suc, ◌≤◌, ◌⊎◌, List, [], ◌∷◌, Bool, true, false, cond, ◌&&◌, Option, Some, None, refl, sym, ap, ◌∙◌, subst, inl, inr, arith}
use Rattle.std.specs.Prelude.{nat_le, option_and_then, option_map, bytes_eq, codes, if◌then◌else◌}
use Rattle.std.specs.List.{list_all}
use Rattle.std.proofs.lemmas.Bool.{leb-true, le-leb, and_parts, and_from, cond-true}
use Rattle.std.proofs.lemmas.Option.{cond_some, same_Some}
use Rattle.std.proofs.lemmas.Slice.Eq.{bytes_eq-Decides}
use Rattle.mm_types.specs.{Text, Pid, Tid, Device, Direction}
use Rattle.mm_types.specs.declared.devices.Device.TheVariants as device
use Rattle.mm_types.specs.declared.devices.Direction.TheVariants as direction
use Rattle.mm_text.specs.{number_of, name_of, is_letter}
use Rattle.mm_script.specs.{Exactly, Decimal, Hex, Bytes, Named, NamedOrDash, Spells, EachSpells, pid_field, tid_field, flag_field, device_field}
use Rattle.mm_script.specs.{direction_field, Kind, Number, AnyNumber, PidNumber, TidNumber, FlagNumber, ByteWord, NameWord, NameOrDash, DeviceWord}
use Rattle.mm_script.specs.{DirectionWord, Value, within, number_in, pid_from, tid_from, flag_from, name_or_dash, device_of, direction_of, read, End}
use Rattle.mm_script.specs.{Then, ReadOrWrite, MakesFromValues}
use Rattle.mm_script.specs.Field.{Field}
use Rattle.mm_script.specs.Shape.{Shape}
use Rattle.mm_script.proofs.Joined.{IsPlain, ArePlain}
use Rattle.mm_script.proofs.Plain.{plain_all, plain_number, plain_bytes, plain_name}

-- the field of a value
abbrev pub field_for : (k : Kind) → Value k → Field
field_for (Number least most) n = Decimal least most n
field_for AnyNumber n = Hex n
field_for PidNumber pid = pid_field pid
field_for TidNumber tid = tid_field tid
field_for FlagNumber flag = flag_field flag
field_for ByteWord bytes = Bytes bytes
field_for NameWord name = Named name
field_for NameOrDash name = NamedOrDash name
field_for DeviceWord device = device_field device
field_for DirectionWord direction = direction_field direction

-- the values of a shape's words
abbrev pub Values : Shape → Type 0
Values End = Unit {0}
Values (Then k s) = Value k × Values s
Values (ReadOrWrite s t) = Values s ⊎ Values t

abbrev pub made_of : {A : Type 0} (s : Shape) → MakesFromValues s A → Values s → A
made_of End make vs = make
made_of (Then k s) make vs = made_of s (make vs.0) vs.1
made_of (ReadOrWrite s t) make (inl vs) = made_of s make.0 vs
made_of (ReadOrWrite s t) make (inr vs) = made_of t make.1 vs

abbrev pub fields_for : (s : Shape) → Values s → List Field
fields_for End vs = []
fields_for (Then k s) vs = field_for k vs.0 ∷ fields_for s vs.1
fields_for (ReadOrWrite s t) (inl vs) = Exactly (codes "read") ∷ fields_for s vs
fields_for (ReadOrWrite s t) (inr vs) = Exactly (codes "write") ∷ fields_for t vs

within_is : (least most n x : ℕ) → within least most n ≡ Some x → (n ≡ x) × (least ≤ x) × (x ≤ most)
within_is least most n x h =
    let t = cond_some (nat_le least n && nat_le n most) n x h in
    let p = and_parts (nat_le least n) (nat_le n most) t.0 in
    (t.1, subst (λ k. least ≤ k) t.1 (leb-true least n p.0), subst (λ k. k ≤ most) t.1 (leb-true n most p.1))

pub within_again : (least most n : ℕ) → least ≤ n → n ≤ most → within least most n ≡ Some n
within_again least most n a b = cond-true (nat_le least n && nat_le n most) (Some n) None (and_from (nat_le least n) (nat_le n most) (le-leb least n a) (le-leb n most b))

number_in_some : (least most x : ℕ) (o : Option ℕ) → option_and_then (within least most) o ≡ Some x → (o ≡ Some x) × (least ≤ x) × (x ≤ most)
number_in_some least most x None h = cc
number_in_some least most x (Some n) h = let p = within_is least most n x h in (ap (λ k. Some k) p.0, p.1, p.2)

pub number_in_is : (least most : ℕ) (w : Text) (x : ℕ) → number_in least most w ≡ Some x → (number_of w ≡ Some x) × (least ≤ x) × (x ≤ most)
unfolding number_in
number_in_is least most w x h = number_in_some least most x (number_of w) h

pub number_in_again : (least most : ℕ) (w : Text) (x : ℕ) → (number_of w ≡ Some x) × (least ≤ x) × (x ≤ most) → number_in least most w ≡ Some x
unfolding number_in
number_in_again least most w x h = ap (option_and_then (within least most)) h.0 ∙ within_again least most x h.1 h.2

map_some : {A B : Type 0} (f : A → B) (o : Option A) (y : B) → option_map f o ≡ Some y → (x : A) × (o ≡ Some x) × (f x ≡ y)
map_some f None y h = cc
map_some f (Some x) y h = (x, refl, same_Some (f x) y h)

-- 0 or 1 is the number of its flag
flag_number : (n : ℕ) → n ≤ 1 → n ≡ (if flag_from n then 1 else 0)
flag_number zero h = refl
flag_number (suc zero) h = refl
flag_number (suc (suc n)) h = absurd (omega arith)

flag_again : (b : Bool) → flag_from (if b then 1 else 0) ≡ b
flag_again true = refl
flag_again false = refl

-- a word that is one of two
two_words : {A : Type 0} (a b : Text) (x y z : A) (word : Text) → cond (bytes_eq word a) (Some x) (cond (bytes_eq word b) (Some y) None) ≡ Some z → ((word ≡ a) × (x ≡ z)) ⊎ ((word ≡ b) × (y ≡ z))
two_words a b x y z word h = elim (bytes_eq word a) as (λ t. bytes_eq word a ≡ t → cond t (Some x) (cond (bytes_eq word b) (Some y) None) ≡ Some z → ((word ≡ a) × (x ≡ z)) ⊎ ((word ≡ b) × (y ≡ z))) [
  | true ↦ λ e f. inl ((bytes_eq-Decides word a).0 e, same_Some x z f)
  | false ↦ λ e f. let p = cond_some (bytes_eq word b) y z f in inr ((bytes_eq-Decides word b).0 p.0, p.1)
] refl h

dash_is : (word : Text) (name : Option Text) → name_or_dash word ≡ Some name → Spells word (NamedOrDash name)
dash_is word name h = elim (bytes_eq word (codes "-")) as (λ t. bytes_eq word (codes "-") ≡ t → cond t (Some None) (option_map (λ n. Some n) (name_of word)) ≡ Some name → Spells word (NamedOrDash name)) [
  | true ↦ λ e f. subst (λ (o : Option Text). Spells word (NamedOrDash o)) (same_Some None name f) ((bytes_eq-Decides word (codes "-")).0 e)
  | false ↦ λ e f. let p = map_some (λ (n : Text). Some n) (name_of word) name f in subst (λ (o : Option Text). Spells word (NamedOrDash o)) p.2 p.1
] refl h

-- no name is a dash
named_again : (word name : Text) → name_of word ≡ Some name → name_or_dash word ≡ Some (Some name)
named_again word name h = elim (bytes_eq word (codes "-")) as (λ t. bytes_eq word (codes "-") ≡ t → cond t (Some None) (option_map (λ n. Some n) (name_of word)) ≡ Some (Some name)) [
  | true ↦ λ e. let bad : None ≡ Some name = ap name_of (sym ((bytes_eq-Decides word (codes "-")).0 e)) ∙ h in cc
  | false ↦ λ e. ap (option_map (λ n. Some n)) h
] refl

-- what a word is read as is what it spells
pub spells_read : (k : Kind) (x : Value k) (w : Text) → read k w ≡ Some x → Spells w (field_for k x)
unfolding read
spells_read (Number least most) x w h = number_in_is least most w x h
spells_read AnyNumber x w h = h
spells_read PidNumber x w h =
    let p = map_some pid_from (number_in 0 255 w) x h in
    subst (λ (pid : Pid). Spells w (pid_field pid)) p.2 (number_in_is 0 255 w p.0 p.1)
spells_read TidNumber x w h =
    let p = map_some tid_from (number_in 0 255 w) x h in
    subst (λ (tid : Tid). Spells w (tid_field tid)) p.2 (number_in_is 0 255 w p.0 p.1)
spells_read FlagNumber x w h =
    let p = map_some flag_from (number_in 0 1 w) x h in
    let q = number_in_is 0 1 w p.0 p.1 in
    let e : p.0 ≡ (if x then 1 else 0) = flag_number p.0 q.2 ∙ ap (λ (b : Bool). if b then 1 else 0) p.2 in
    subst (λ (n : ℕ). Spells w (Decimal 0 1 n)) e q
spells_read ByteWord x w h = h
spells_read NameWord x w h = h
spells_read NameOrDash x w h = dash_is w x h
spells_read DeviceWord x w h = elim (two_words (codes "paging") (codes "file") device.Paging device.File x w h) [
  | inl p ↦ subst (λ (d : Device). Spells w (device_field d)) p.1 p.0
  | inr p ↦ subst (λ (d : Device). Spells w (device_field d)) p.1 p.0
]
spells_read DirectionWord x w h = elim (two_words (codes "read") (codes "write") direction.Read direction.Write x w h) [
  | inl p ↦ subst (λ (d : Direction). Spells w (direction_field d)) p.1 p.0
  | inr p ↦ subst (λ (d : Direction). Spells w (direction_field d)) p.1 p.0
]

-- what a word spells is what it is read as
pub read_spells : (k : Kind) (x : Value k) (w : Text) → Spells w (field_for k x) → read k w ≡ Some x
unfolding read
read_spells (Number least most) x w h = number_in_again least most w x h
read_spells AnyNumber x w h = h
read_spells PidNumber x w h = ap (option_map pid_from) (number_in_again 0 255 w x.0 h)
read_spells TidNumber x w h = ap (option_map tid_from) (number_in_again 0 255 w x.0 h)
read_spells FlagNumber x w h = ap (option_map flag_from) (number_in_again 0 1 w (if x then 1 else 0) h) ∙ ap (λ (b : Bool). Some b) (flag_again x)
read_spells ByteWord x w h = h
read_spells NameWord x w h = h
read_spells NameOrDash None w h = ap name_or_dash h
read_spells NameOrDash (Some name) w h = named_again w name h
read_spells DeviceWord device.Paging w h = ap device_of h
read_spells DeviceWord device.File w h = ap device_of h
read_spells DirectionWord direction.Read w h = ap direction_of h
read_spells DirectionWord direction.Write w h = ap direction_of h

letters : (t w : Text) → list_all is_letter t ≡ true → w ≡ t → IsPlain w
letters t w h e = subst IsPlain (sym e) (plain_all is_letter refl refl t h)

pub plain_word : (k : Kind) (x : Value k) (w : Text) → Spells w (field_for k x) → IsPlain w
plain_word (Number least most) x w h = plain_number w x h.0
plain_word AnyNumber x w h = plain_number w x h
plain_word PidNumber x w h = plain_number w x.0 h.0
plain_word TidNumber x w h = plain_number w x.0 h.0
plain_word FlagNumber x w h = plain_number w (if x then 1 else 0) h.0
plain_word ByteWord x w h = plain_bytes w x h
plain_word NameWord x w h = plain_name w x h
plain_word NameOrDash None w h = subst IsPlain (sym h) (refl, tt)
plain_word NameOrDash (Some name) w h = plain_name w name h
plain_word DeviceWord device.Paging w h = letters (codes "paging") w refl h
plain_word DeviceWord device.File w h = letters (codes "file") w refl h
plain_word DirectionWord direction.Read w h = letters (codes "read") w refl h
plain_word DirectionWord direction.Write w h = letters (codes "write") w refl h

pub plain_words : (s : Shape) (vs : Values s) (ws : List Text) → EachSpells ws (fields_for s vs) → ArePlain ws
plain_words s vs [] h = tt
plain_words End vs (w ∷ ws) h = absurd h
plain_words (Then k s) vs (w ∷ ws) h = (plain_word k vs.0 w h.0, plain_words s vs.1 ws h.1)
plain_words (ReadOrWrite s t) (inl vs) (w ∷ ws) h = (letters (codes "read") w refl h.0, plain_words s vs ws h.1)
plain_words (ReadOrWrite s t) (inr vs) (w ∷ ws) h = (letters (codes "write") w refl h.0, plain_words t vs ws h.1)
