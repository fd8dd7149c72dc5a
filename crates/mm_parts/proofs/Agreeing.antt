-- What the parts keep makes entries, slots, requests and working sets agree.
use Rattle.std.proofs.Common.{◌≡◌, ◌⊎◌, ℕ, ◌+◌, ◌≤◌, true, false, List, [], ◌∷◌, Option, Some, None, refl, sym, ap, ◌∙◌, inl, inr, arith, length, length-append}
use Rattle.std.specs.Prelude.{is_some, option_map, unwrap_or}
use Rattle.std.proofs.Math.Logic.{∥∥₁_elim, ∥∥₁_map}
use Rattle.std.proofs.Props.{props}
use Rattle.mm_types.specs.{Area, Frame, Key, Place}
use Rattle.mm_types.specs.declared.numbers.Key.TheVariants.{Private, Shared}
use Rattle.mm_types.specs.declared.frames.Held.TheVariants as held
use Rattle.mm_move_rules.specs.{ResidentSet, record_at, FrameLife, key_of_place, is_shared, set_in, owner_is}
use Rattle.mm_move_laws.specs.{ReachedByMoves}
use Rattle.mm_move_laws.proofs.{reached_sound, slot_free, slot_has, slot_one, slot_there, places_counted, same_place-true}
use Rattle.mm_page_tables.specs.{Entry, Aside, key_entry, place_from, is_valid_entry}
use Rattle.mm_page_tables.specs.declared.layout.Entry.TheVariants as entry
use Rattle.mm_parts.specs.{JoinedParts, owners, owned_by, held_by, life_in, requests, is_aside_entry, EntriesAgree, SlotsAgree, RequestsAgree}
use Rattle.mm_parts.specs.{SetsAgree, InFrame, IsValidFor, EntrySays, PartsKept}
use Rattle.mm_parts.proofs.Keeping.{known}
use Rattle.mm_parts.proofs.Stands.{at_place, beside_or_not, in_table}
use Rattle.mm_parts.proofs.Reading.{in_frame, beside_word, beside_shared}
use Rattle.mm_parts.proofs.Keeping.{valid_owned}
use Rattle.mm_parts.proofs.LineSteps.{valid_is}

pub slots_agree : (l : FrameLife) → ∥ ReachedByMoves l ∥₁ → SlotsAgree l
slots_agree l r = record {
  free = λ s h e g. ∥∥₁_elim r (hlevel props) (λ x. slot_free l (reached_sound l x) s h e g);
  held = λ s e. ∥∥₁_map r (λ x. slot_has l (reached_sound l x) s e);
  one = λ s g h a b. ∥∥₁_elim r (hlevel props) (λ x. slot_one l (reached_sound l x) s g h a b);
  there = λ s h e. ∥∥₁_elim r (hlevel props) (λ x. let sound = reached_sound l x in let low = slot_there l sound s h e in let size = sound.slotted in omega (arith, low, size));
}

-- ---- entries

module _ (t : JoinedParts) (kept : PartsKept t) where
  -- a valid place has a shared page, or its own
  valid_own : (p : Place) (f : Frame) → (life_in t).valid p ≡ Some f → (owner_is is_shared (record_at t.table f.0) ≡ true) ⊎ InFrame (life_in t) (key_of_place p) f
  valid_own p f v = at (record_at t.table f.0).owner refl
    where
      at : (o : Option Key) → (record_at t.table f.0).owner ≡ o → (owner_is is_shared (record_at t.table f.0) ≡ true) ⊎ InFrame (life_in t) (key_of_place p) f
      at None e = let bad : false ≡ true = sym (ap is_some e) ∙ valid_owned t kept p f v in cc
      at (Some (Shared a i)) e = inl (rw e refl)
      at (Some (Private q u)) e =
          let same : place_from q u ≡ p = same_place-true (place_from q u) p ((known t kept).fits p f (Private q u) v e) in
          inr (record {
            stands = ap (λ (x : Place). (life_in t).stands (key_of_place x)) (sym same) ∙ (known t kept).owned f.0 (Private q u) e;
            owner = e ∙ ap (λ (x : Place). Some (key_of_place x)) same;
          })

  pub valid_for : (p : Place) (f : Frame) → (life_in t).valid p ≡ Some f → IsValidFor (life_in t) p f
  valid_for p f v = record { valid = v; shared = (known t kept).shares p f v; page = valid_own p f v }

  pub in_its_frame : (k : Key) (f : Frame) → (life_in t).stands k ≡ held.Frame f → InFrame (life_in t) k f
  in_its_frame k f stands = record { stands = stands; owner = (known t kept).owner k f stands }

  pub says_by : (k : Key) (e : Entry) → key_entry t.words k ≡ e → EntrySays (life_in t) k e
  says_by (Private p v) (entry.InFile b) h = elim (beside_or_not t.words.aside (place_from p v)) [
    | inl off ↦ kept.words.no_file (place_from p v) b (sym (in_table t.words.aside (place_from p v) (t.words.at (place_from p v)) off) ∙ h)
    | inr x ↦ let bad : true ≡ false = sym (kept.words.beside x.aside x.is) ∙ ap is_aside_entry (sym (x.says (t.words.at (place_from p v))) ∙ h) in cc
  ]
  says_by (Shared a i) (entry.InFile b) h = ap (held_by (owned_by (owners t.table) (Shared a i))) h
  says_by k (entry.Transition f) h = (in_its_frame k f (ap (held_by (owned_by (owners t.table) k)) h), kept.words.transition k f h)
  says_by (Private p v) (entry.Valid f n) h = valid_for (place_from p v) f (at_place t.words (place_from p v) f n kept.words.beside h)
  says_by (Shared a i) (entry.Valid f n) h = (in_its_frame (Shared a i) f (ap (held_by (λ _. true)) h), (kept.words.valid_shared a i f n h).0)
  says_by (Private p v) (entry.Proto a i) h = ap (held_by (owned_by (owners t.table) (Private p v))) h
  says_by (Shared a i) (entry.Proto b j) h = kept.words.no_proto a.0 i b j h
  says_by k _ h = ap (held_by (owned_by (owners t.table) k)) h

  -- the prototype word of a shared page that is valid somewhere
  prototype_by : (p : Place) (f : Frame) (a : Area) (i : ℕ) → (life_in t).valid p ≡ Some f → (record_at t.table f.0).owner ≡ Some (Shared a i) → t.words.proto a.0 i ≡ entry.Valid f 0
  prototype_by p f a i v e = elim (in_frame (λ _. true) (t.words.proto a.0 i) f ((known t kept).owned f.0 (Shared a i) e)) [
    | inl rests ↦ (let some = (known t kept).shares p f v in let none = kept.words.transition (Shared a i) f rests in absurd (omega (arith, some, none)))
    | inr x ↦ x.1 ∙ ap (entry.Valid f) (kept.words.valid_shared a i f x.0 x.1).1
  ]

  -- the place of the key beside the tables is not valid for its own page
  beside_other : (x : Aside) → t.words.aside ≡ Some x → (f : Frame) → (life_in t).valid x.place ≡ Some f → owner_is is_shared (record_at t.table f.0) ≡ true
  beside_other x e f v = by (record_at t.table f.0).owner refl
    where
      by : (o : Option Key) → (record_at t.table f.0).owner ≡ o → owner_is is_shared (record_at t.table f.0) ≡ true
      by None g = let bad : false ≡ true = sym (ap is_some g) ∙ valid_owned t kept x.place f v in cc
      by (Some k) g = ap (λ o. unwrap_or (option_map is_shared o) false) g ∙ beside_shared t kept x e f v k g

  pub entries_agree : EntriesAgree (life_in t) t.words
  entries_agree = record {
    says = λ k. says_by k (key_entry t.words k) refl;
    valid = λ p. refl;
    page = valid_for;
    prototype = prototype_by;
    shares = ∥∥₁_map kept.reached (λ x. places_counted (life_in t) (reached_sound (life_in t) x));
    beside = λ x e. record {
      bound = kept.words.beside_bound x e;
      entry = kept.words.beside x e;
      says = says_by (key_of_place x.place) x.entry (beside_word t x e);
      other = beside_other x e;
      named = kept.words.beside_other x e;
    };
  }

-- ---- requests and working sets

one_more : (flight : List ℕ) (own : Option Frame) (n : ℕ) → length flight ≤ n → length (requests flight own) ≤ n + 1
one_more flight None n h = let e = length-append flight [] in omega (arith, h, e)
one_more flight (Some f) n h = let e = length-append flight (f.0 ∷ []) in omega (arith, h, e)

pub requests_agree : (t : JoinedParts) → PartsKept t → length t.flight.frames ≤ t.flight.depth → RequestsAgree (life_in t) t.flight.frames t.own
requests_agree t kept few =
    let depth = kept.depth in
    let low : length t.flight.frames ≤ t.line.machine.depth = omega (arith, few, depth) in
    record {
      one_list = refl;
      once = λ f. ((known t kept).standing f).flight;
      few = low;
      most = one_more t.flight.frames t.own t.line.machine.depth low;
      own_line = kept.within.requesting;
    }

pub sets_agree : (t : JoinedParts) → PartsKept t → ((p : Place) → is_some (t.ages p) ≡ is_valid_entry (t.words.at p)) → ((p : Place) (age : ℕ) → t.ages p ≡ Some age → age ≤ 7)
    → ((pid : ℕ) (s : ResidentSet) → set_in t.words.sets pid ≡ Some s → s.resident ≤ s.max) → SetsAgree (life_in t) t.ages
sets_agree t kept aged young within = record {
  aged = λ p. aged p ∙ valid_is (t.words.at p);
  young = young;
  counted = ∥∥₁_map kept.reached (λ x. places_counted (life_in t) (reached_sound (life_in t) x));
  within = within;
}
