-- What the parts keep over one call, and a valid place and its frame.
use Rattle.std.proofs.Common.{◌≡◌, ℕ, Bool, true, List, Option, sym, ap, ◌∙◌, subst, ◌≢◌, false, Some, refl, arith}
use Rattle.std.specs.Prelude.{is_some, Result, Ok, Err, OnOk, OnErr}
use Rattle.mm_types.specs.{Frame, Move, Record, Place}
use Rattle.mm_move_rules.specs.{FrameTable, IsLegal, after_move, record_at, is_read}
use Rattle.mm_requests.specs.{FlightOf, Waiting}
use Rattle.mm_parts.specs.{JoinedParts, PartsOf, names_of, life_of, life_in, shown_of, requests, requests_in, is_own_line, PartsKept, AreWaits}
use Rattle.mm_parts.specs.{parts_after, valid_of}
use Rattle.mm_move_laws.proofs.Facts.{facts_of, reached_by, Facts}
use Rattle.mm_parts.proofs.Stands.{Rewrites, Quiet, life_quiet, same_owners, words_frame}
use Rattle.std.proofs.lemmas.Bool.{lt-ltb}
use Rattle.mm_types.proofs.Booleans.{not_true}
use Rattle.mm_page_tables.specs.{Entry, is_valid_entry, is_there, valid_frame, bare, WordsOf}
use Rattle.mm_page_tables.specs.declared.layout.Entry.TheVariants as entry

-- what the parts are after a call: they keep what they keep, and show this
pub record Step (u : JoinedParts) (s : PartsOf) : Type 0 where
  pub kept : PartsKept u
  pub shown : shown_of u ≡ s

pub step_to : (u v : JoinedParts) (s : PartsOf) → v ≡ u → Step u s → Step v s
step_to u v s e step = record { kept = subst PartsKept (sym e) step.kept; shown = ap shown_of e ∙ step.shown }

pub words_step : (t : JoinedParts) {w w' : WordsOf} {ages ages' : Place → Option ℕ} {s : PartsOf} → Step (record t { words = w; ages = ages }) s → w' ≡ w → ages' ≡ ages → Step (record t { words = w'; ages = ages' }) s
words_step t step words ages = step_to _ _ _ (λ i. record t { words = words i; ages = ages i }) step

pub waits_shown : (u : JoinedParts) (s : PartsOf) {ws ws' : List Waiting} → Step u (record s { waits = ws }) → ws ≡ ws' → Step u (record s { waits = ws' })
waits_shown u s step e = record { kept = step.kept; shown = step.shown ∙ ap (λ (x : List Waiting). record s { waits = x }) e }

pub known : (t : JoinedParts) → PartsKept t → Facts (life_in t)
known t kept = facts_of (life_in t) kept.reached

-- a frame's record changes with no word: the owner and the shares stay
module _ (t : JoinedParts) (kept : PartsKept t) (x : Move) (legal : IsLegal x (life_in t)) (d' : FrameTable) (bytes' : List (Option (List ℕ))) (free' : List Bool) (flight' : FlightOf) (own' : Option Frame)
    (f : ℕ) (r : Record) (change : Rewrites t.table d' f r) (quiet : Quiet t.table f r)
    (moves : record (life_in t) { frames = d'; free_slots = free'; flight = requests flight'.frames own' } ≡ after_move (life_in t) x)
    (waits : AreWaits d' flight') (depth : flight'.depth ≡ t.flight.depth) (own : is_some own' ≡ true → is_own_line t.line.kind ≡ true) where
  quiet_life : life_of t.line d' free' t.words (requests flight'.frames own') ≡ after_move (life_in t) x
  quiet_life = life_quiet t.line t.table d' t.free free' t.words (requests_in t) (requests flight'.frames own') f r (known t kept) change quiet ∙ moves

  pub quiet_step : Step (record t { table = d'; bytes = bytes'; free = free'; flight = flight'; own = own' })
      (record (parts_after (shown_of t) x) { bytes = bytes'; waits = flight'.waits; own = own' })
  quiet_step = record {
    kept = assumption (reached_by (life_in t) _ x legal quiet_life kept.reached, words_frame t.table d' f r t.words change quiet.owner quiet.shares kept.words, depth ∙ kept.depth);
    shown = λ i. record (shown_of t) { life = quiet_life i; bytes = bytes'; waits = flight'.waits; own = own'; names = λ p. names_of (same_owners t.table d' f r t.words change quiet.owner i) t.words p };
  }

-- ---- a valid place and its frame

pub valid_there : (e : Entry) → is_some (valid_frame e) ≡ true → is_there e ≡ true
valid_there entry.Empty h = cc
valid_there _ h = refl

frame_of_bare : (e : Entry) → valid_frame (bare e) ≡ valid_frame e
frame_of_bare (entry.Paged s) = refl
frame_of_bare _ = refl

-- the entry as it is told
pub frame_told : (t : JoinedParts) (place : Place) (e : Entry) → bare e ≡ t.words.at place → valid_of t.words place ≡ valid_frame e
frame_told t place e told = ap valid_frame (sym told) ∙ frame_of_bare e

pub valid_told : (t : JoinedParts) (place : Place) (f : Frame) (n : ℕ) (e : Entry) → bare e ≡ t.words.at place → e ≡ entry.Valid f n → valid_of t.words place ≡ Some f
valid_told t place f n e told is = frame_told t place e told ∙ ap valid_frame is

some_valid : (e : Entry) → is_some (valid_frame e) ≡ true → ((f : Frame) (n : ℕ) → e ≢ entry.Valid f n) → ⊥
some_valid (entry.Valid f n) h never = never f n refl
some_valid _ h never = cc

pub not_valid_told : (t : JoinedParts) (place : Place) (e : Entry) → bare e ≡ t.words.at place → is_some (valid_of t.words place) ≡ true → ((f : Frame) (n : ℕ) → e ≢ entry.Valid f n) → ⊥
not_valid_told t place e told h never = some_valid e (sym (ap is_some (frame_told t place e told)) ∙ h) never

pub valid_owned : (t : JoinedParts) → PartsKept t → (place : Place) (f : Frame) → valid_of t.words place ≡ Some f → is_some (record_at t.table f.0).owner ≡ true
valid_owned t kept place f v = let some = (known t kept).shares place f v in ((known t kept).standing f.0).fit.shown (lt-ltb 0 (record_at t.table f.0).shares (omega (arith, some)))

pub valid_calm : (t : JoinedParts) → PartsKept t → (place : Place) (f : Frame) → valid_of t.words place ≡ Some f → is_read (record_at t.table f.0).request ≡ false
valid_calm t kept place f v = not_true (is_read (record_at t.table f.0).request) (λ e.
    let some = (known t kept).shares place f v in
    let none = (((known t kept).standing f.0).fit.reading e).0 in omega (arith, some, none))

pub valid_entry : (e : Entry) (f : Frame) → valid_frame e ≡ Some f → is_valid_entry e ≡ true
valid_entry (entry.Valid g n) f h = refl
valid_entry _ f h = cc

-- ---- a call that may be refused memory: what the parts are after it

-- what is kept, whether it is refused or not
pub kept_by : {A E : Type 0} (r : Result A E) (t u v : JoinedParts) (s : PartsOf) → PartsKept t → Step u s → OnOk r (v ≡ u) → OnErr r (v ≡ t) → PartsKept v
kept_by (Ok x) t u v s kept step ok err = subst PartsKept (sym ok) step.kept
kept_by (Err e) t u v s kept step ok err = subst PartsKept (sym err) kept

-- after words that a step gives, or that are as before where it is refused
pub record Done {A E : Type 0} (r : Result A E) (t v : JoinedParts) (s : PartsOf) : Type 0 where
  pub kept : PartsKept v
  pub ok : OnOk r (shown_of v ≡ s)
  pub err : OnErr r (shown_of v ≡ shown_of t)

pub words_done : {A E : Type 0} (r : Result A E) (t : JoinedParts) {w w' : WordsOf} {ages' : Place → Option ℕ} {s : PartsOf} → PartsKept t → Step (record t { words = w }) s → OnOk r (w' ≡ w) → OnErr r (w' ≡ t.words) → ages' ≡ t.ages
    → Done r t (record t { words = w'; ages = ages' }) s
words_done (Ok x) t kept step ok err ages = let now = step_to _ _ _ (λ i. record t { words = ok i; ages = ages i }) step in record { kept = now.kept; ok = now.shown; err = tt }
words_done (Err e) t kept step ok err ages = record { kept = subst PartsKept (λ i. record t { words = sym err i; ages = sym ages i }) kept; ok = tt; err = λ i. shown_of (record t { words = err i; ages = ages i }) }
