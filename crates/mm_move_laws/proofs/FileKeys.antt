-- The first line, and keys of files, which stay.
use Rattle.std.proofs.Common.{◌≡◌, ◌≢◌, ◌⊎◌, ℕ, ◌+◌, ◌≤◌, Bool, true, false, not, List, [], ◌∷◌, length, Option, Some, None, refl, sym, ap, ◌∙◌, inl, inr, arith, subst}
use Rattle.std.specs.Prelude.{◌==◌, ◌&&◌, nat_le}
use Rattle.std.proofs.lemmas.Bool.{and_parts, and_from, eqb-true, le-ltb, not-true}
use Rattle.mm_types.specs.{Key, Backing, Held, LineKind, Move}
use Rattle.mm_move_rules.specs.{record_at, FrameLife, unstarted, same_key, changed, is_dead, is_live, is_shared, is_legal, IsLegal, is_legal_kind}
use Rattle.mm_move_rules.specs.{is_valid_machine, after_move, after_at, homed, home_at, Replays, unlisted}
use Rattle.mm_move_laws.specs.{is_first_line, is_file_key, ReachedByMoves}
use Rattle.mm_move_laws.proofs.Moved.{dropped_as, unmapped_as, along}
use Rattle.mm_move_laws.proofs.Owners.{key_or_not, changed_here, changed_else}
use Rattle.mm_move_laws.proofs.KeyMoves.{dead_is}
use Rattle.mm_types.proofs.Booleans.{and_false}
use Rattle.mm_move_rules.proofs.Held.{home_lives, zero_live, stored_live}
use Rattle.mm_move_laws.proofs.Parts.{three_parts, five_parts}
use Rattle.mm_move_laws.specs.Sound.{Sound}
use Rattle.mm_move_laws.proofs.Kept.{keeps, sound_unstarted}
use Rattle.mm_types.specs.declared.frames.Held.TheVariants as held
use Rattle.mm_types.specs.declared.moves.LineKind.TheVariants as kind
use Rattle.mm_types.specs.declared.moves.Stored.TheVariants as stored
use Rattle.mm_types.specs.declared.moves.Move.TheVariants as move

-- ---- the first line

first : (b m : Bool) → ((b && true) && (true && m)) ≡ (b && m)
first true m = refl
first false m = refl

pub only_machine : (x : Move) → is_legal unstarted x ≡ is_first_line x
only_machine (move.At n (kind.Machine frames slots depth blocks)) = first (n == 1) (is_valid_machine (record { frames = frames; slots = slots; depth = depth; blocks = blocks }))
only_machine (move.At n _) = and_false ((n == 1) && true)
only_machine (move.Add k (Some b)) = ap (λ x. ((true && (is_shared k)) && true) && x && true) (le-ltb b.0 0 (omega arith)) ∙ (ap (λ x. x && true) (and_false ((true && (is_shared k)) && true)))
only_machine (move.Write f (stored.Slot t)) = refl
only_machine _ = refl

-- ---- lines

at_line : (l : FrameLife) (n : ℕ) (k : LineKind) → (after_at l n k).line ≡ n
at_line l n (kind.Machine frames slots depth blocks) = refl
at_line l n _ = refl

pub line_rises : (x : Move) (l : FrameLife) → IsLegal x l → l.line ≤ (after_move l x).line
line_rises (move.At n k) l h = omega (arith, eqb-true n (l.line + 1) (three_parts _ _ _ h).0, at_line l n k)
line_rises (move.Drop k) l h = let e = ap (λ (m : FrameLife). m.line) (dropped_as (l.stands k) l k) in omega (arith, e)
line_rises (move.Unmap place) l h = let e = ap (λ (m : FrameLife). m.line) (unmapped_as (l.valid place) l place) in omega (arith, e)
line_rises (move.Add k None) l h = omega arith
line_rises (move.Write f (stored.Slot t)) l h = omega arith
line_rises _ l h = omega arith

line_along : (xs : List Move) (l m : FrameLife) → Replays xs l m → l.line ≤ m.line
line_along xs l m r = along (λ k. l.line ≤ k.line) (λ x k low h. let up = line_rises x k h in omega (arith, low, up)) xs l m (omega arith) r

first_line : (x : Move) → is_first_line x ≡ true → (after_move unstarted x).line ≡ 1
first_line (move.At n (kind.Machine frames slots depth blocks)) e = eqb-true n 1 (and_parts (n == 1) (is_valid_machine (record { frames = frames; slots = slots; depth = depth; blocks = blocks })) e).0
first_line _ e = cc

-- a state that some move has reached is in a line
pub in_line : (xs : List Move) (l : FrameLife) → Replays xs unstarted l → (l ≡ unstarted) ⊎ (1 ≤ l.line)
in_line [] l e = inl e
in_line (x ∷ xs) l r =
    inr (omega (arith, first_line x (sym (only_machine x) ∙ r.0), line_along xs (after_move unstarted x) l r.1))

-- ---- keys of files

-- a live key that is no page-file key
record IsFile (alive : Bool) (paging : Bool) : Type 0 where
  living : alive ≡ true
  no_paging : paging ≡ false

file_from : (alive paging : Bool) → alive ≡ true → paging ≡ false → (alive && not paging) ≡ true
file_from alive paging a p = and_from alive (not paging) a (ap not p)

-- one key stands elsewhere, and lives there or is not this one
still_lives : (stands : Key → Held) (j k : Key) (v : Held) → not (is_dead (stands k)) ≡ true → not (is_dead v) ≡ true → not (is_dead (changed same_key stands j v k)) ≡ true
still_lives stands j k v a b = elim (key_or_not k j) [
  | inl e ↦ ap (λ (x : Key). not (is_dead (changed same_key stands j v x))) e.0 ∙ (ap (λ (h : Held). not (is_dead h)) (changed_here stands j v) ∙ b)
  | inr e ↦ ap (λ (h : Held). not (is_dead h)) (changed_else stands j k v e.0) ∙ a
]

homed_lives : (l : FrameLife) (o : Option Key) (b : Backing) (k : Key) → is_live l k ≡ true → not (is_dead (homed l o b k)) ≡ true
homed_lives l None b k a = a
homed_lives l (Some j) b k a = still_lives l.stands j k (home_at b) a (ap not (home_lives b))

at_same : (l : FrameLife) (n : ℕ) (kd : LineKind) (k : Key) → 1 ≤ l.line → is_legal_kind l kd ≡ true → is_file_key (after_at l n kd) k ≡ is_file_key l k
at_same l n (kind.Machine frames slots depth blocks) k on h =
    let p = and_parts (l.line == 0) (is_valid_machine (record { frames = frames; slots = slots; depth = depth; blocks = blocks })) h in
    let e = eqb-true l.line 0 p.0 in absurd (omega (arith, on, e))
at_same l n _ k on h = refl

module _ (l : FrameLife) (k : Key) (on : 1 ≤ l.line) (file : is_file_key l k ≡ true) where
  it : IsFile (is_live l k) (l.paging k)
  it = let p = and_parts (is_live l k) (not (l.paging k)) file in record { living = p.0; no_paging = not-true (l.paging k) p.1 }

  other_than_dead : (j : Key) → not (is_live l j) ≡ true → k ≢ j
  other_than_dead j dead e =
      let a : not (is_dead (l.stands j)) ≡ true = ap (λ (x : Key). not (is_dead (l.stands x))) (sym e) ∙ it.living in
      let bad : false ≡ true = sym (ap not (dead_is (l.stands j) dead)) ∙ a in cc

  moved : (j : Key) (v : Held) → not (is_dead v) ≡ true → not (is_dead (changed same_key l.stands j v k)) && not (l.paging k) ≡ true
  moved j v b = file_from (not (is_dead (changed same_key l.stands j v k))) (l.paging k) (still_lives l.stands j k v it.living b) it.no_paging

  pub file_step : (x : Move) → IsLegal x l → is_file_key (after_move l x) k ≡ true
  file_step (move.At n kd) h = at_same l n kd k on (and_parts ((n == l.line + 1) && nat_le (length l.flight) l.machine.depth) (is_legal_kind l kd) h).1 ∙ file
  file_step (move.Add j None) h =
      let n = other_than_dead j (three_parts _ _ _ h).0 in
      file_from (not (is_dead (changed same_key l.stands j held.Zero k))) (changed same_key l.paging j true k) (still_lives l.stands j k held.Zero it.living refl) (changed_else l.paging j k true n ∙ it.no_paging)
  file_step (move.Add j (Some b)) h = moved j (held.Block b) refl
  file_step (move.Drop j) h =
      let n : k ≢ j = λ e. let bad : true ≡ false = sym ((three_parts _ _ _ h).1) ∙ (ap l.paging (sym e) ∙ it.no_paging) in cc in
      ap (λ (m : FrameLife). is_file_key m k) (dropped_as (l.stands j) l j)
      ∙ file_from (not (is_dead (changed same_key l.stands j held.Dead k))) (changed same_key l.paging j false k) (ap (λ (v : Held). not (is_dead v)) (changed_else l.stands j k held.Dead n) ∙ it.living) (changed_else l.paging j k false n ∙ it.no_paging)
  file_step (move.Steal f) h =
      file_from (not (is_dead (homed l (record_at l.frames f.0).owner (record_at l.frames f.0).backing k))) (l.paging k) (homed_lives l (record_at l.frames f.0).owner (record_at l.frames f.0).backing k it.living) it.no_paging
  file_step (move.Give f j) h = moved j (held.Frame f) refl
  file_step (move.Read f j) h = moved j (held.Frame f) refl
  file_step (move.Write f (stored.Slot t)) h = file
  file_step (move.Bad f) h =
      file_from (not (is_dead (homed l (record_at l.frames f.0).owner (record_at l.frames f.0).backing k))) (l.paging k) (homed_lives l (record_at l.frames f.0).owner (record_at l.frames f.0).backing k it.living) it.no_paging
  file_step (move.Unmap place) h = ap (λ (m : FrameLife). is_file_key m k) (unmapped_as (l.valid place) l place) ∙ file
  file_step _ h = file

pub file_along : (xs : List Move) (l m : FrameLife) (k : Key) → 1 ≤ l.line → Replays xs l m → is_file_key l k ≡ true → is_file_key m k ≡ true
file_along xs l m k on r file =
    (along (λ n. (1 ≤ n.line) × (is_file_key n k ≡ true)) (λ x n p h. (let low = p.0 in let up = line_rises x n h in omega (arith, low, up), file_step n k p.0 p.1 x h)) xs l m (on, file) r).1

-- ---- a live private key is a page-file key, in each state that a replay reaches

abbrev pub ArePaged : FrameLife → Type 0
ArePaged l = (k : Key) → is_shared k ≡ false → is_live l k ≡ true → l.paging k ≡ true

-- one key stands elsewhere, which was live
moved_paged : (l : FrameLife) (j : Key) (v : Held) → is_live l j ≡ true → ArePaged l → (k : Key) → is_shared k ≡ false → not (is_dead (changed same_key l.stands j v k)) ≡ true → l.paging k ≡ true
moved_paged l j v live paged k own now = elim (key_or_not k j) [
  | inl e ↦ paged k own (ap (is_live l) e.0 ∙ live)
  | inr e ↦ paged k own (sym (ap (λ h. not (is_dead h)) (changed_else l.stands j k v e.0)) ∙ now)
]

sent_home : (l : FrameLife) (o : Option Key) (b : Backing) → ((j : Key) → o ≡ Some j → is_live l j ≡ true) → ArePaged l → (k : Key) → is_shared k ≡ false → not (is_dead (homed l o b k)) ≡ true → l.paging k ≡ true
sent_home l None b live paged k own now = paged k own now
sent_home l (Some j) b live paged k own now = moved_paged l j (home_at b) (live j refl) paged k own now

owner_live : (l : FrameLife) → Sound l → (f : ℕ) (j : Key) → (record_at l.frames f).owner ≡ Some j → is_live l j ≡ true
owner_live l s f j e = ap (λ h. not (is_dead h)) (s.owned.owned f j e)

at_paged : (l : FrameLife) (n : ℕ) (kd : LineKind) → ArePaged l → ArePaged (after_at l n kd)
at_paged l n (kind.Machine frames slots depth blocks) paged k own live = cc
at_paged l n _ paged k own live = paged k own live

unlisted_paged : (l : FrameLife) (j : Key) → ArePaged l → ArePaged (unlisted l j)
unlisted_paged l j paged k own live = elim (key_or_not k j) [
  | inl e ↦
      let now : is_live (unlisted l j) k ≡ false = ap (λ (x : Key). not (is_dead (changed same_key l.stands j held.Dead x))) e.0 ∙ ap (λ h. not (is_dead h)) (changed_here l.stands j held.Dead) in
      let bad : true ≡ false = sym live ∙ now in cc
  | inr e ↦ changed_else l.paging j k false e.0 ∙ paged k own (sym (ap (λ h. not (is_dead h)) (changed_else l.stands j k held.Dead e.0)) ∙ live)
]

module _ (l : FrameLife) (s : Sound l) (paged : ArePaged l) where
  private_step : (x : Move) → IsLegal x l → ArePaged (after_move l x)
  private_step (move.At n kd) h = at_paged l n kd paged
  private_step (move.Add j None) h = λ k own live. elim (key_or_not k j) as (λ _. changed same_key l.paging j true k ≡ true) [
    | inl e ↦ ap (changed same_key l.paging j true) e.0 ∙ changed_here l.paging j true
    | inr e ↦ changed_else l.paging j k true e.0 ∙ paged k own (sym (ap (λ v. not (is_dead v)) (changed_else l.stands j k held.Zero e.0)) ∙ live)
  ]
  private_step (move.Add j (Some b)) h = λ k own live.
      elim (key_or_not k j) as (λ _. l.paging k ≡ true) [
        | inl e ↦ let bad : false ≡ true = sym own ∙ ap is_shared e.0 ∙ ((five_parts _ _ _ _ _ h).1) in cc
        | inr e ↦ paged k own (sym (ap (λ v. not (is_dead v)) (changed_else l.stands j k (held.Block b) e.0)) ∙ live)
      ]
  private_step (move.Drop j) h = subst ArePaged (sym (dropped_as (l.stands j) l j)) (unlisted_paged l j paged)
  private_step (move.Steal f) h = sent_home l (record_at l.frames f.0).owner (record_at l.frames f.0).backing (owner_live l s f.0) paged
  private_step (move.Give f j) h =
      moved_paged l j (held.Frame f) (zero_live (l.stands j) ((three_parts _ _ _ h).1)) paged
  private_step (move.Read f j) h =
      moved_paged l j (held.Frame f) (stored_live (l.stands j) ((three_parts _ _ _ h).1)) paged
  private_step (move.Bad f) h = sent_home l (record_at l.frames f.0).owner (record_at l.frames f.0).backing (owner_live l s f.0) paged
  private_step (move.Unmap place) h = subst ArePaged (sym (unmapped_as (l.valid place) l place)) paged
  private_step (move.Write f (stored.Slot t)) h = paged
  private_step _ h = paged

pub private_paged : (l : FrameLife) → ReachedByMoves l → ArePaged l
private_paged l r = (along (λ m. Sound m × ArePaged m) (λ x m p h. (keeps x m p.0 h, private_step m p.0 p.1 x h)) r.moves unstarted l (sound_unstarted, λ k own live. cc) r.replays).1
