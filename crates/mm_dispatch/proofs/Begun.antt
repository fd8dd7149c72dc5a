-- A call's piece of moves: told in other words, or none, and behind a line's `at`.
use Rattle.std.proofs.Common.{List, [], Bool, true, false, refl, ◌≡◌, ℕ, ◌∷◌, ◌++◌, sym, ap, ◌∙◌, subst}
use Rattle.mm_types.specs.{Move, LineKind}
use Rattle.mm_move_rules.specs.{Replays, after_move, Log, Grew, AreMoves, spelled_moves, waits_through, ages_through}
use Rattle.mm_move_rules.proofs.{grew_nothing, grew_then, replays_then, spelled-append, moves-append}
use Rattle.mm_devices.proofs.{keeps_same}
use Rattle.mm_store.specs.{StoreOf, Passes, PassesIn, told_of, told_through, OneMove, Notes, NotesIn}
use Rattle.mm_store.specs.Behind.{Behind}
use Rattle.mm_store.proofs.{Joins, passes_then}
use Rattle.mm_line_moves.specs.{Traffic, with_line}
use Rattle.mm_dispatch.specs.{LineWent}
use Rattle.mm_types.specs.declared.moves.Move.TheVariants as move

-- what holds of the moves may be told in other words
pub passes_with : (P Q : Behind → List Move → Behind → Type 0) (s z : StoreOf) (b c : Behind) (p : Passes P s z b c) → Q b p.moves c → Passes Q s z b c
passes_with P Q s z b c p that = record {
  moves = p.moves;
  in_range = p.in_range;
  grew = p.grew;
  replays = p.replays;
  that = that;
  report = p.report;
  paging_calls = p.paging_calls;
  paging = p.paging;
  paging_are = p.paging_are;
  file_calls = p.file_calls;
  files = p.files;
  files_are = p.files_are;
  slots_kept = p.slots_kept;
  blocks_kept = p.blocks_kept;
}

pub passes_as : (u : Bool) (P Q : Behind → List Move → Behind → Type 0) (s z : StoreOf) (b c : Behind) → ((ms : List Move) → Replays ms b.life c.life → P b ms c → Q b ms c) → PassesIn u P s z b c → PassesIn u Q s z b c
passes_as true P Q s z b c h p = p
passes_as false P Q s z b c h p = passes_with P Q s z b c p (h p.moves p.replays p.that)

-- no move, and the store is as before
pub passes_still : (u : Bool) (Q : Behind → List Move → Behind → Type 0) (s : StoreOf) (b : Behind) → Q b [] b → PassesIn u Q s s b b
passes_still true Q s b q = refl
passes_still false Q s b q = record {
  moves = [];
  in_range = tt;
  grew = grew_nothing b.log;
  replays = refl;
  that = q;
  report = refl;
  paging_calls = [];
  paging = refl;
  paging_are = refl;
  file_calls = [];
  files = refl;
  files_are = refl;
  slots_kept = keeps_same [] b.slots b.slots refl;
  blocks_kept = keeps_same [] s.file_blocks s.file_blocks refl;
}

-- of a store that pages
pub paged : (u : Bool) (P : Behind → List Move → Behind → Type 0) (s z : StoreOf) (b c : Behind) → u ≡ false → PassesIn u P s z b c → Passes P s z b c
paged true P s z b c e p = cc
paged false P s z b c e p = p

pub noted : (u : Bool) (P : Behind → List Move → Behind → Type 0) (b c : Behind) → u ≡ false → NotesIn u P b c → Notes P b c
noted true P b c e p = cc
noted false P b c e p = p

-- what stands behind a store once the line has begun, with what its log is then
abbrev pub begun_with : ℕ → LineKind → Log → Behind → Behind
begun_with n k log b = record (with_line (move.At n k) b) { log = log }

-- moves of which that holds, behind an `at`
pub record Opens (n : ℕ) (k : LineKind) (P : Behind → List Move → Behind → Type 0) (b : Behind) (moves : List Move) (c : Behind) : Type 0 where
  pub rest : List Move
  pub is : moves ≡ move.At n k ∷ rest
  pub log : Log
  pub that : P (begun_with n k log b) rest c

module _ (n : ℕ) (k : LineKind) where
  abbrev at : Move
  at = move.At n k

  life_begun : (xs : List Move) (b y : Behind) → Replays xs b.life y.life → xs ≡ at ∷ [] → y.life ≡ after_move b.life at
  life_begun xs b y r e = (subst (λ (t : List Move). Replays t b.life y.life) e r).1

  behind_begun : (xs : List Move) (b y : Behind) → Replays xs b.life y.life → OneMove at b xs y → y ≡ begun_with n k y.log b
  behind_begun xs b y r p =
      let life = life_begun xs b y r p.one in
      let ages : y.ages ≡ b.ages = p.moved.ages ∙ ap (λ t. ages_through t b.ages) p.one in
      let waits : y.waits ≡ b.waits = p.moved.waits ∙ ap (λ t. waits_through t b.waits) p.one in
      λ i. record { log = y.log; life = life i; ages = ages i; waits = waits i; slots = p.slots i }

  module _ (P : Behind → List Move → Behind → Type 0) where
    opens_then : Joins (OneMove at) P (Opens n k P)
    opens_then = record {
      join = λ b y c xs ys r p q. record {
        rest = ys;
        is = ap (λ t. t ++ ys) p.one;
        log = y.log;
        that = subst (λ (x : Behind). P x ys c) (behind_begun xs b y r p) q;
      };
    }

    -- a piece that opens so is a line's
    line_from : (beside : Bool) (s z : StoreOf) (b c : Behind) (Q : List Move → Type 0) → ((log : Log) (ms : List Move) → P (begun_with n k log b) ms c → Q ms) → (moves : List Move) → AreMoves moves → Grew b.log c.log (spelled_moves moves) → Replays moves b.life c.life
        → (beside ≡ false → told_of z.report ≡ told_through b.life moves (told_of s.report)) → (beside ≡ false → Traffic b.life moves s.paging_device z.paging_device s.file_device z.file_device b.slots c.slots s.file_blocks z.file_blocks) → Opens n k P b moves c → LineWent beside at Q s z b c
    line_from beside s z b c Q to moves in_range grew replays told traffic o = record {
      moves = o.rest;
      in_range = subst AreMoves o.is in_range;
      grew = subst (λ (t : List Move). Grew b.log c.log (spelled_moves t)) o.is grew;
      replays = subst (λ (t : List Move). Replays t b.life c.life) o.is replays;
      that = to o.log o.rest o.that;
      told = λ plain. told plain ∙ ap (λ t. told_through b.life t (told_of s.report)) o.is;
      traffic = λ plain. subst (λ (t : List Move). Traffic b.life t s.paging_device z.paging_device s.file_device z.file_device b.slots c.slots s.file_blocks z.file_blocks) o.is (traffic plain);
    }

    pub went_from : (s z : StoreOf) (b c : Behind) (Q : List Move → Type 0) → ((log : Log) (ms : List Move) → P (begun_with n k log b) ms c → Q ms) → Passes (Opens n k P) s z b c → LineWent false at Q s z b c
    went_from s z b c Q to p =
        line_from false s z b c Q to p.moves p.in_range p.grew p.replays (λ plain. p.report)
        (λ plain. record { paging_calls = p.paging_calls; paging_served = p.paging; paging_are = p.paging_are; file_calls = p.file_calls; files_served = p.files; files_are = p.files_are; slots_kept = p.slots_kept; blocks_kept = p.blocks_kept }) p.that

    -- a line begins, and a call makes moves of which that holds
    pub went_then : (u : Bool) (s m z : StoreOf) (b y c : Behind) (Q : List Move → Type 0) → u ≡ false → ((log : Log) (ms : List Move) → P (begun_with n k log b) ms c → Q ms) → PassesIn u (OneMove at) s m b y → PassesIn u P m z y c → LineWent false at Q s z b c
    went_then u s m z b y c Q e to p q =
        went_from s z b c Q to (paged u (Opens n k P) s z b c e (passes_then u (OneMove at) P (Opens n k P) s m z b y c opens_then p q))

    -- such moves of a line of which nothing is told of devices
    pub noted_from : (s z : StoreOf) (b c : Behind) (Q : List Move → Type 0) → ((log : Log) (ms : List Move) → P (begun_with n k log b) ms c → Q ms) → Notes (Opens n k P) b c → LineWent true at Q s z b c
    noted_from s z b c Q to p = line_from true s z b c Q to p.moves p.in_range p.grew p.replays (λ bad. cc) (λ bad. cc) p.that

    notes_both : (s m : StoreOf) (b y c : Behind) → Passes (OneMove at) s m b y → Notes P y c → Notes (Opens n k P) b c
    notes_both s m b y c p q = record {
      moves = p.moves ++ q.moves;
      in_range = moves-append p.moves q.moves p.in_range q.in_range;
      grew = subst (λ xs. Grew b.log c.log xs) (sym (spelled-append p.moves q.moves)) (grew_then b.log y.log c.log _ _ p.grew q.grew);
      replays = replays_then p.moves q.moves b.life y.life c.life p.replays q.replays;
      that = opens_then.join b y c p.moves q.moves p.replays p.that q.that;
    }

    -- a line begins, and a call that asks devices for what is no move makes such moves
    pub noted_then : (u : Bool) (s m z : StoreOf) (b y c : Behind) (Q : List Move → Type 0) → u ≡ false → ((log : Log) (ms : List Move) → P (begun_with n k log b) ms c → Q ms) → PassesIn u (OneMove at) s m b y → NotesIn u P y c → LineWent true at Q s z b c
    noted_then u s m z b y c Q e to p q =
        noted_from s z b c Q to (notes_both s m b y c (paged u (OneMove at) s m b y e p) (noted u P y c e q))

  -- an `at` alone
  alone : (s z : StoreOf) (b c : Behind) → Passes (OneMove at) s z b c → Passes (Opens n k (λ x ms y. (ms ≡ []) × (y ≡ x))) s z b c
  alone s z b c p =
      passes_with (OneMove at) (Opens n k (λ x ms y. (ms ≡ []) × (y ≡ x))) s z b c p
      (record { rest = []; is = p.that.one; log = c.log; that = (refl, behind_begun p.moves b c p.replays p.that) })

  pub went_alone : (u : Bool) (s z : StoreOf) (b c : Behind) (Q : List Move → Type 0) → u ≡ false → ((log : Log) → c ≡ begun_with n k log b → Q []) → PassesIn u (OneMove at) s z b c → LineWent false at Q s z b c
  went_alone u s z b c Q e to p =
      went_from (λ x ms y. (ms ≡ []) × (y ≡ x)) s z b c Q (λ log ms h. subst Q (sym h.0) (to log h.1)) (alone s z b c (paged u (OneMove at) s z b c e p))
