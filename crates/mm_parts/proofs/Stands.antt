-- What a change of one key's word, or of one frame's record, makes of where keys stand, and of what places name.
use Rattle.std.proofs.Common.{◌≡◌, ◌≢◌, ◌⊎◌, ℕ, Bool, true, false, cond, List, Option, Some, None, refl, sym, ap, ◌∙◌, subst, inl, inr, ◌<◌, arith}
use Rattle.std.proofs.Common.{length, get_or-set_same, get_or-set_other}
use Rattle.std.specs.Prelude.{not, if◌then◌else◌, option_map, is_some, slice_set, slice_index_or}
use Rattle.std.proofs.lemmas.Bool.{and_parts, not-true}
use Rattle.mm_types.specs.{Frame, Key, Place, Held, Pid, Vpn, Record}
use Rattle.mm_types.specs.declared.numbers.Key.TheVariants.{Private, Shared}
use Rattle.mm_move_rules.specs.{ResidentSet, FrameTable, record_at, FrameLife, changed, same_key, same_place, key_of_place, is_shared, blank, is_read}
use Rattle.mm_move_rules.specs.{with_record, settled}
use Rattle.mm_move_laws.proofs.Owners.{key_or_not}
use Rattle.mm_move_laws.proofs.PlaceCounts.{place_or_not, same_place-true}
use Rattle.mm_pfn_database.specs.{has_block}
use Rattle.mm_page_tables.specs.{Entry, Aside, WordsOf, place_from, is_aside, aside_or, own_word, key_entry, is_valid_entry, valid_frame, with_own}
use Rattle.mm_page_tables.specs.{with_entry, keeps_places}
use Rattle.mm_parts.specs.{Owners, has_owner, held_by, owned_by, stands_of, valid_of, is_of_paging_file, LineOf, is_aside_entry, named_by, names_of}
use Rattle.mm_parts.specs.{names_given, owners, paging_of, life_of, WordsKept, AreWaits}
use Rattle.mm_types.proofs.Cells.{same_or_not}
use Rattle.mm_move_laws.specs.{Fit}
use Rattle.mm_move_laws.proofs.Sound.{no_owner, orphan_unshared}
use Rattle.mm_requests.specs.{FlightOf}
use Rattle.mm_move_laws.proofs.Facts.{Facts}
use Rattle.mm_move_rules.proofs.Records.{records_settled}
use Rattle.mm_types.specs.declared.frames.Held.TheVariants as held
use Rattle.mm_page_tables.specs.declared.layout.Entry.TheVariants as entry

-- ---- one key's word

-- a function goes into both branches
pub at_if : {A B : Type 0} (f : A → B) (b : Bool) (x y : A) → f (if b then x else y) ≡ (if b then f x else f y)
at_if f true x y = refl
at_if f false x y = refl

pub if_either : {A : Type 0} (b : Bool) (x y e : A) → (if b then x else y) ≡ e → (x ≡ e) ⊎ (y ≡ e)
if_either true x y e h = inl h
if_either false x y e h = inr h

-- two things that hang on a test of two places, or of two keys
pub by_place : {A : Type 0} (q p : Place) (F G : Bool → A) → (q ≡ p → F true ≡ G true) → (q ≢ p → same_place q p ≡ false → F false ≡ G false) → F (same_place q p) ≡ G (same_place q p)
by_place q p F G here there = elim (place_or_not q p) [ inl s ↦ ap F s.1 ∙ here s.0 ∙ sym (ap G s.1) | inr n ↦ ap F n.1 ∙ there n.0 n.1 ∙ sym (ap G n.1) ]

pub by_key : {A : Type 0} (q k : Key) (F G : Bool → A) → (q ≡ k → F true ≡ G true) → (q ≢ k → F false ≡ G false) → F (same_key q k) ≡ G (same_key q k)
by_key q k F G here there = elim (key_or_not q k) [ inl s ↦ ap F s.1 ∙ here s.0 ∙ sym (ap G s.1) | inr n ↦ ap F n.1 ∙ there n.0 ∙ sym (ap G n.1) ]

-- the key beside the tables is that of the place
pub record Beside (a : Option Aside) (pl : Place) : Type 0 where
  pub aside : Aside
  pub is : a ≡ Some aside
  pub on : is_aside a pl ≡ true
  pub place : pl ≡ aside.place
  pub says : (e : Entry) → aside_or a pl e ≡ aside.entry

pub beside_or_not : (a : Option Aside) (pl : Place) → (is_aside a pl ≡ false) ⊎ Beside a pl
beside_or_not None pl = inl refl
beside_or_not (Some a) pl = elim (same_place pl a.place) as (λ b. same_place pl a.place ≡ b → (same_place pl a.place ≡ false) ⊎ Beside (Some a) pl) [
  | true ↦ λ h. inr (record { aside = a; is = refl; on = h; place = same_place-true pl a.place h; says = λ e. ap (λ b. cond b a.entry e) h })
  | false ↦ λ h. inl h
] refl

-- what holds of the words whichever entry of a private key was changed
pub own_cases : (w : WordsOf) (pl : Place) (e : Entry) (P : WordsOf → Type 0) → (is_aside w.aside pl ≡ false → P (with_own false w pl e)) → (Beside w.aside pl → P (with_own true w pl e)) → P (with_own (is_aside w.aside pl) w pl e)
own_cases w pl e P there here = elim (beside_or_not w.aside pl) [
  | inl off ↦ subst (λ (b : Bool). P (with_own b w pl e)) (sym off) (there off)
  | inr x ↦ subst (λ (b : Bool). P (with_own b w pl e)) (sym x.on) (here x)
]

pub own_set : (a : Option Aside) (at : Place → Entry) (pl q : Place) (e : Entry) → is_aside a pl ≡ true
    → aside_or (Some (record { place = pl; entry = e })) q (at q) ≡ (if same_place q pl then e else aside_or a q (at q))
own_set None at pl q e h = cc
own_set (Some a) at pl q e h = by_place q pl (λ b. cond b e (at q)) (λ b. cond b e (aside_or (Some a) q (at q))) (λ s. refl)
    (λ n off. sym (ap (λ (p : Place). cond (same_place q p) a.entry (at q)) (sym (same_place-true pl a.place h)) ∙ ap (λ b. cond b a.entry (at q)) off))

pub own_unset : (a : Option Aside) (at : Place → Entry) (pl q : Place) (e : Entry) → is_aside a pl ≡ false
    → aside_or a q (changed same_place at pl e q) ≡ (if same_place q pl then e else aside_or a q (at q))
own_unset None at pl q e h = refl
own_unset (Some a) at pl q e h = by_place q pl (λ b. cond (same_place q a.place) a.entry (cond b e (at q))) (λ b. cond b e (aside_or (Some a) q (at q)))
    (λ s. ap (λ (p : Place). cond (same_place p a.place) a.entry e) s ∙ ap (λ b. cond b a.entry e) h) (λ n off. refl)

pub own_by : (b : Bool) (w : WordsOf) (pl q : Place) (e : Entry) → is_aside w.aside pl ≡ b → own_word (with_own b w pl e) q ≡ (if same_place q pl then e else own_word w q)
own_by true w pl q e h = own_set w.aside w.at pl q e h
own_by false w pl q e h = own_unset w.aside w.at pl q e h

pub proto_by : (b : Bool) (w : WordsOf) (pl : Place) (e : Entry) (a i : ℕ) → (with_own b w pl e).proto a i ≡ w.proto a i
proto_by true w pl e a i = refl
proto_by false w pl e a i = refl

pub word_set : (w : WordsOf) (k : Key) (e : Entry) (q : Key) → key_entry (with_entry w k e) q ≡ changed same_key (key_entry w) k e q
word_set w (Private p v) e (Private q u) = own_by (is_aside w.aside (place_from p v)) w (place_from p v) (place_from q u) e refl
word_set w (Private p v) e (Shared a i) = proto_by (is_aside w.aside (place_from p v)) w (place_from p v) e a.0 i
word_set w (Shared b j) e (Private q u) = refl
word_set w (Shared b j) e (Shared a i) = refl

-- all but the entries stays
pub left_set : (w : WordsOf) (k : Key) (e : Entry) → with_entry w k e ≡ record w { aside = (with_entry w k e).aside; at = (with_entry w k e).at; proto = (with_entry w k e).proto }
left_set w (Private p v) e = own_cases w (place_from p v) e (λ x. x ≡ record w { aside = x.aside; at = x.at; proto = x.proto }) (λ off. refl) (λ x. refl)
left_set w (Shared a i) e = refl

pub sets_set : (w : WordsOf) (k : Key) (e : Entry) → (with_entry w k e).sets ≡ w.sets
sets_set w k e = ap (λ (x : WordsOf). x.sets) (left_set w k e)

pub not_valid : (e : Entry) → is_valid_entry e ≡ false → valid_frame e ≡ None
not_valid (entry.Valid f n) h = cc
not_valid _ h = refl

pub in_table : (a : Option Aside) (pl : Place) (e : Entry) → is_aside a pl ≡ false → aside_or a pl e ≡ e
in_table None pl e h = refl
in_table (Some a) pl e h = ap (λ b. cond b a.entry e) h

pub valid_set : (w : WordsOf) (k : Key) (e : Entry) → keeps_places w k e ≡ true → (q : Place) → valid_of (with_entry w k e) q ≡ valid_of w q
valid_set w (Private p v) e h q =
    let both = and_parts (not (is_valid_entry e)) (not (is_valid_entry (own_word w (place_from p v)))) h in
    own_cases w (place_from p v) e (λ x. valid_of x q ≡ valid_of w q)
    (λ off. by_place q (place_from p v) (λ b. valid_frame (cond b e (w.at q))) (λ _. valid_frame (w.at q))
    (λ s. not_valid e (not-true (is_valid_entry e) both.0)
    ∙ sym (ap (λ (x : Place). valid_frame (w.at x)) s ∙ not_valid (w.at (place_from p v)) (sym (ap is_valid_entry (in_table w.aside (place_from p v) (w.at (place_from p v)) off)) ∙ not-true (is_valid_entry (own_word w (place_from p v))) both.1))) (λ n out. refl))
    (λ x. refl)
valid_set w (Shared a i) e h q = refl

-- where the keys stand then
pub stands_set : (o : Owners) (w : WordsOf) (k : Key) (e : Entry) (q : Key) → stands_of o (with_entry w k e) q ≡ changed same_key (stands_of o w) k (held_by (owned_by o k) e) q
stands_set o w k e q = ap (held_by (owned_by o q)) (word_set w k e q)
    ∙ by_key q k (λ b. held_by (owned_by o q) (cond b e (key_entry w q))) (λ b. cond b (held_by (owned_by o k) e) (stands_of o w q)) (λ s. ap (λ (j : Key). held_by (owned_by o j) e) s) (λ n. refl)

-- ---- one frame's owner

-- a valid entry of a private key stands at its place, since none beside the tables is valid
pub at_place : (w : WordsOf) (pl : Place) (f : Frame) (n : ℕ) → ((x : Aside) → w.aside ≡ Some x → is_aside_entry x.entry ≡ true) → own_word w pl ≡ entry.Valid f n → valid_of w pl ≡ Some f
at_place w pl f n beside e = elim (beside_or_not w.aside pl) [
  | inl off ↦ ap valid_frame (sym (in_table w.aside pl (w.at pl) off) ∙ e)
  | inr x ↦ let bad : true ≡ false = sym (beside x.aside x.is) ∙ ap is_aside_entry (sym (x.says (w.at pl)) ∙ e) in cc
]

pub held_same : (x y : Frame → Bool) (e : Entry) → ((g : Frame) (n : ℕ) → e ≡ entry.Valid g n → x g ≡ y g) → held_by x e ≡ held_by y e
held_same x y (entry.Valid g n) h = ap (λ b. if b then held.Frame g else held.Dead) (h g n refl)
held_same x y _ h = refl

-- the owners of all frames that are valid somewhere stay
pub stands_owner : (o p : Owners) (w : WordsOf) → ((x : Aside) → w.aside ≡ Some x → is_aside_entry x.entry ≡ true)
    → ((pl : Place) (f : Frame) → valid_of w pl ≡ Some f → p f.0 ≡ o f.0) → (q : Key) → stands_of p w q ≡ stands_of o w q
stands_owner o p w beside same (Private q u) = held_same (owned_by p (Private q u)) (owned_by o (Private q u)) (own_word w (place_from q u))
    (λ g n e. ap (λ x. has_owner x (Private q u)) (same (place_from q u) g (at_place w (place_from q u) g n beside e)))
stands_owner o p w beside same (Shared a i) = held_same (λ _. true) (λ _. true) (w.proto a.0 i) (λ g n e. refl)

-- ---- page-file keys

pub paging_at : (d d' : FrameTable) (h : Held) → ((f : Frame) → h ≡ held.Frame f → has_block (record_at d' f.0).backing ≡ has_block (record_at d f.0).backing) → is_of_paging_file d' h ≡ is_of_paging_file d h
paging_at d d' (held.Frame f) same = ap not (same f refl)
paging_at d d' _ same = refl

-- ---- two states of a replay are the same part by part

pub same_life : (n : LineOf) (d : FrameTable) (free : List Bool) (flight : List ℕ) (s s' : List ResidentSet) (a a' : Key → Held) (b b' : Key → Bool) (v v' : Place → Option Frame) (added : ℕ → Bool)
    → s ≡ s' → ((k : Key) → a k ≡ a' k) → ((k : Key) → b k ≡ b' k) → ((p : Place) → v p ≡ v' p)
    → ◌≡◌ {A = FrameLife}
    (record { machine = n.machine; line = n.line; kind = n.kind; sets = s; frames = d; free_slots = free; stands = a; paging = b; paging_keys = n.paging_keys; added = added; valid = v; flight = flight })
    (record { machine = n.machine; line = n.line; kind = n.kind; sets = s'; frames = d; free_slots = free; stands = a'; paging = b'; paging_keys = n.paging_keys; added = added; valid = v'; flight = flight })
same_life n d free flight s s' a a' b b' v v' added p q r t =
    λ i. record { machine = n.machine; line = n.line; kind = n.kind; sets = p i; frames = d; free_slots = free; stands = λ k. q k i; paging = λ k. r k i; paging_keys = n.paging_keys; added = added; valid = λ x. t x i; flight = flight }

-- ---- which key each place names, after the frames' owners changed

named_same : (o p : Owners) (place : Place) (e : Entry) → ((f : Frame) (n : ℕ) → e ≡ entry.Valid f n → p f.0 ≡ o f.0) → named_by p place e ≡ named_by o place e
named_same o p place (entry.Valid f n) h = h f n refl
named_same o p place _ h = refl

pub names_owner : (o p : Owners) (w : WordsOf) → ((place : Place) (f : Frame) → valid_of w place ≡ Some f → p f.0 ≡ o f.0) → (place : Place) → names_of p w place ≡ names_of o w place
names_owner o p w same place = named_same o p place (w.at place) (λ f n e. same place f (ap valid_frame e))

-- ---- and after one key's word changed

-- an entry of a private page that had a frame before
abbrev pub is_used : Entry → Bool
is_used (entry.Paged s) = true
is_used (entry.Transition f) = true
is_used _ = false

used_names : (o : Owners) (place : Place) (e : Entry) → is_used e ≡ true → named_by o place e ≡ Some (key_of_place place)
used_names o place (entry.Paged s) h = refl
used_names o place _ h = cc

-- the entry of a place in the table changes
pub names_at : (o : Owners) (w : WordsOf) (place : Place) (e : Entry) (n : Option Key) → named_by o place e ≡ n → (q : Place)
    → named_by o q (changed same_place w.at place e q) ≡ changed same_place (names_of o w) place n q
names_at o w place e n is q = at_if (named_by o q) (same_place q place) e (w.at q)
    ∙ by_place q place (λ b. cond b (named_by o q e) (names_of o w q)) (λ b. cond b n (names_of o w q)) (λ s. ap (λ (p : Place). named_by o p e) s ∙ is) (λ m off. refl)

pub same_there : (names : Place → Option Key) (place q : Place) (n : Option Key) → names place ≡ n → changed same_place names place n q ≡ names q
same_there names place q n e = by_place q place (λ b. cond b n (names q)) (λ _. names q) (λ s. sym e ∙ ap names (sym s)) (λ m off. refl)

-- a page that had a frame before has another entry of that kind: its place names it still
pub names_still : (o : Owners) (w : WordsOf) (k : Key) (e : Entry) → is_used e ≡ true → is_used (key_entry w k) ≡ true → (q : Place) → names_of o (with_entry w k e) q ≡ names_of o w q
names_still o w (Shared a i) e now was q = refl
names_still o w (Private p v) e now was q = own_cases w (place_from p v) e (λ x. names_of o x q ≡ names_of o w q)
    (λ off.
    let here = used_names o (place_from p v) (w.at (place_from p v)) (sym (ap is_used (in_table w.aside (place_from p v) (w.at (place_from p v)) off)) ∙ was) in
    names_at o w (place_from p v) e (Some (Private p v)) (used_names o (place_from p v) e now) q ∙ same_there (names_of o w) (place_from p v) q (Some (Private p v)) here)
    (λ x. refl)

-- a page comes to have a frame
pub names_used : (o : Owners) (w : WordsOf) (p : Pid) (v : Vpn) (e : Entry) → is_used e ≡ true → (q : Place)
    → names_of o (with_entry w (Private p v) e) q ≡ names_given (option_map (λ x. x.place) w.aside) (names_of o w) (place_from p v) q
names_used o w p v e used q = by w.aside refl
  where
    in_place : names_of o (record w { at = changed same_place w.at (place_from p v) e }) q ≡ changed same_place (names_of o w) (place_from p v) (Some (Private p v)) q
    in_place = names_at o w (place_from p v) e (Some (Private p v)) (used_names o (place_from p v) e used) q

    at : (b : Bool) → names_of o (with_own b w (place_from p v) e) q ≡ (if b then names_of o w else changed same_place (names_of o w) (place_from p v) (Some (Private p v))) q
    at true = refl
    at false = in_place

    by : (a : Option Aside) → w.aside ≡ a → names_of o (with_own (is_aside w.aside (place_from p v)) w (place_from p v) e) q ≡ names_given (option_map (λ x. x.place) a) (names_of o w) (place_from p v) q
    by None h = ap (λ (a : Option Aside). names_of o (with_own (is_aside a (place_from p v)) w (place_from p v) e) q) h ∙ in_place
    by (Some a) h = ap (λ (x : Option Aside). names_of o (with_own (is_aside x (place_from p v)) w (place_from p v) e) q) h ∙ at (same_place (place_from p v) a.place)

-- a page is no more, whose entry was in the table
pub names_gone : (o : Owners) (w : WordsOf) (p : Pid) (v : Vpn) (e : Entry) → is_aside w.aside (place_from p v) ≡ false → named_by o (place_from p v) e ≡ None → (q : Place)
    → names_of o (with_entry w (Private p v) e) q ≡ changed same_place (names_of o w) (place_from p v) None q
names_gone o w p v e h none q = ap (λ b. names_of o (with_own b w (place_from p v) e) q) h ∙ names_at o w (place_from p v) e None none q

-- a page comes to be, whose place named none
pub names_none : (o : Owners) (w : WordsOf) (k : Key) (e : Entry) → ((p : Pid) (v : Vpn) → k ≡ Private p v → (names_of o w (place_from p v) ≡ None) × (named_by o (place_from p v) e ≡ None)) → (q : Place) → names_of o (with_entry w k e) q ≡ names_of o w q
names_none o w (Shared a i) e h q = refl
names_none o w (Private p v) e h q = own_cases w (place_from p v) e (λ x. names_of o x q ≡ names_of o w q)
    (λ off. let two = h p v refl in names_at o w (place_from p v) e None two.1 q ∙ same_there (names_of o w) (place_from p v) q None two.0) (λ x. refl)

-- a page moves, and its place names it still where it is a private one
pub names_moved : (o : Owners) (w : WordsOf) (k : Key) (e : Entry) → (is_shared k ≡ false → (is_used e ≡ true) × (is_used (key_entry w k) ≡ true)) → (q : Place) → names_of o (with_entry w k e) q ≡ names_of o w q
names_moved o w (Shared a i) e h q = refl
names_moved o w (Private p v) e h q = let two = h refl in names_still o w (Private p v) e two.0 two.1 q

-- ---- one frame's record changes, and no word: where keys stand, what places name, what threads wait for

-- one frame has this record now, and the others are as before
pub record Rewrites (d d' : FrameTable) (f : ℕ) (r : Record) : Type 0 where
  pub elsewhere : (g : ℕ) → g ≢ f → record_at d' g ≡ record_at d g
  pub here : record_at d' f ≡ r

pub rewrites_by : (d d' : FrameTable) (f : ℕ) (r : Record) → f < length d.records → d'.records ≡ slice_set d.records f r → Rewrites d d' f r
rewrites_by d d' f r low e = record {
  elsewhere = λ g m. ap (λ (xs : List Record). slice_index_or xs g blank) e ∙ get_or-set_other d.records f g r blank m;
  here = ap (λ (xs : List Record). slice_index_or xs f blank) e ∙ get_or-set_same d.records f r blank low;
}

pub rewrites_none : (d d' : FrameTable) (f : ℕ) → d'.records ≡ d.records → Rewrites d d' f (record_at d f)
rewrites_none d d' f e = record {
  elsewhere = λ g m. ap (λ (xs : List Record). slice_index_or xs g blank) e;
  here = ap (λ (xs : List Record). slice_index_or xs f blank) e;
}

-- a frame that settles has the record that it was given
pub settled_records : (d : FrameTable) (f : ℕ) (r : Record) → (settled (with_record d f r) f).records ≡ slice_set d.records f r
settled_records d f r = records_settled (record_at (with_record d f r) f) (with_record d f r) f

-- a part of each record stays
pub stays : {X : Type 0} (part : Record → X) (d d' : FrameTable) (f : ℕ) (r : Record) → Rewrites d d' f r → part r ≡ part (record_at d f) → (g : ℕ) → part (record_at d' g) ≡ part (record_at d g)
stays part d d' f r w same g = elim (same_or_not g f) [
  | inl e ↦ ap (λ (x : ℕ). part (record_at d' x)) e ∙ ap part w.here ∙ same ∙ sym (ap (λ (x : ℕ). part (record_at d x)) e)
  | inr n ↦ ap part (w.elsewhere g n)
]

module _ (d d' : FrameTable) (f : ℕ) (r : Record) (w : WordsOf) (change : Rewrites d d' f r) (owner : r.owner ≡ (record_at d f).owner) where
  pub same_owners : owners d' ≡ owners d
  same_owners = λ i g. stays (λ (x : Record). x.owner) d d' f r change owner g i

  pub stands_frame : (k : Key) → stands_of (owners d') w k ≡ stands_of (owners d) w k
  stands_frame k = ap (λ o. stands_of o w k) same_owners

  pub paging_frame : has_block r.backing ≡ has_block (record_at d f).backing → (k : Key) → paging_of d' (stands_of (owners d') w) k ≡ paging_of d (stands_of (owners d) w) k
  paging_frame blocks k = ap (is_of_paging_file d') (stands_frame k) ∙ paging_at d d' (stands_of (owners d) w k) (λ g e. stays (λ (x : Record). has_block x.backing) d d' f r change blocks g.0)

  pub words_frame : r.shares ≡ (record_at d f).shares → WordsKept d w → WordsKept d' w
  words_frame shares kept =
      let same : (g : ℕ) → (record_at d' g).shares ≡ (record_at d g).shares = stays (λ (x : Record). x.shares) d d' f r change shares in
      record {
        transition = λ k g e. same g.0 ∙ kept.transition k g e;
        valid_shared = λ a i g n e. let h = kept.valid_shared a i g n e in let s = same g.0 in (omega (arith, h.0, s), h.1);
        no_file = kept.no_file;
        no_proto = kept.no_proto;
        beside = kept.beside;
        beside_bound = kept.beside_bound;
        beside_other = kept.beside_other;
      }

-- a read that is waited for goes on
pub waits_frame : (d d' : FrameTable) (f : ℕ) (r : Record) (q : FlightOf) → Rewrites d d' f r → (is_read (record_at d f).request ≡ true → is_read r.request ≡ true) → AreWaits d q → AreWaits d' q
waits_frame d d' f r q change goes_on waits t g e =
    let was = waits t g e in (
      was.0,
      (elim (same_or_not g.0 f) as (λ _. is_read (record_at d' g.0).request ≡ true) [
        | inl s ↦ ap (λ (x : ℕ). is_read (record_at d' x).request) s ∙ ap (λ (x : Record). is_read x.request) change.here ∙ goes_on (ap (λ (x : ℕ). is_read (record_at d x).request) (sym s) ∙ was.1)
        | inr n ↦ ap (λ (x : Record). is_read x.request) (change.elsewhere g.0 n) ∙ was.1
      ]),
    )

-- ---- the owner and the shares stay, and, where there is an owner, whether the frame is backed by a block

pub record Quiet (d : FrameTable) (f : ℕ) (r : Record) : Type 0 where
  pub owner : r.owner ≡ (record_at d f).owner
  pub shares : r.shares ≡ (record_at d f).shares
  pub blocks : (k : Key) → (record_at d f).owner ≡ Some k → has_block r.backing ≡ has_block (record_at d f).backing

pub life_quiet : (n : LineOf) (d d' : FrameTable) (free free' : List Bool) (w : WordsOf) (flight flight' : List ℕ) (f : ℕ) (r : Record) → Facts (life_of n d free w flight) → Rewrites d d' f r → Quiet d f r
    → life_of n d' free' w flight' ≡ record (life_of n d free w flight) { frames = d'; free_slots = free'; flight = flight' }
life_quiet n d d' free free' w flight flight' f r facts change quiet =
    same_life n d' free' flight' w.sets w.sets _ _ _ _ (valid_of w) (valid_of w) (λ b. slice_index_or n.added b false)
    refl
    (stands_frame d d' f r w change quiet.owner)
    (λ q. ap (is_of_paging_file d') (stands_frame d d' f r w change quiet.owner q) ∙ paging_at d d' (stands_of (owners d) w q) (λ g e. elim (same_or_not g.0 f) [
      | inl s ↦ ap (λ (x : ℕ). has_block (record_at d' x).backing) s ∙ ap (λ (x : Record). has_block x.backing) change.here
          ∙ quiet.blocks q (ap (λ (x : ℕ). (record_at d x).owner) (sym s) ∙ facts.owner q g e)
          ∙ sym (ap (λ (x : ℕ). has_block (record_at d x).backing) s)
      | inr m ↦ ap (λ (x : Record). has_block x.backing) (change.elsewhere g.0 m)
    ]))
    (λ p. refl)

-- a frame that has no owner has nothing then
pub quiet_by : (d : FrameTable) (f : ℕ) (new : Record) → Fit (record_at d f) → new.owner ≡ (record_at d f).owner → new.shares ≡ (record_at d f).shares → has_block new.backing ≡ has_block (record_at d f).backing
    → Quiet d f (if is_some (record_at d f).owner then new else blank)
quiet_by d f new fit o s h = elim (is_some (record_at d f).owner) as (λ b. is_some (record_at d f).owner ≡ b → Quiet d f (if b then new else blank)) [
  | true ↦ λ e. record { owner = o; shares = s; blocks = λ k x. h }
  | false ↦ λ e.
      let none = no_owner (record_at d f) e in
      record { owner = sym none; shares = sym (orphan_unshared (record_at d f) fit none); blocks = λ k x. let bad : Some k ≡ None = sym x ∙ none in cc }
] refl
