-- A line has one log: each of its moves is determined by the world, what stands behind the store, the
-- answer, and how devices answered. Profile, "Which frame moves, and when".
use Rattle.std.specs.Prelude.{◌≡◌, ◌<◌, ◌^◌, ℕ, Bool, true, false, is_some, List, [], ◌∷◌, length, Option, Some, None}
use Rattle.mm_types.specs.{Answer, Event, Move, Key, Place}
use Rattle.mm_types.specs.declared.events.Event.TheVariants as line
use Rattle.mm_types.specs.declared.moves.Move.TheVariants as move
use Rattle.mm_move_rules.specs.{Ages, FrameLife, is_live, is_valid, Replays}
use Rattle.mm_move_laws.specs.Sound.{Sound}
use Rattle.mm_world.specs.{Page, ProcessOf, content_of, process_of, Spaces}
use Rattle.mm_world.specs.World.{World}
use Rattle.mm_world.specs.Report.{Report}
use Rattle.mm_store.specs.Behind.{Behind}
use Rattle.mm_line_moves.specs.Kinds.{kind_of_line}
use Rattle.mm_line_moves.specs.Lines.{Does, Agrees}

-- ---- what devices answered

-- how a device call ended, where the move tells it
abbrev pub outcome_of : Move → Option Bool
outcome_of (move.Got f) = Some true
outcome_of (move.Bad f) = Some false
outcome_of (move.Wrote f) = Some true
outcome_of (move.Lost f) = Some false
outcome_of _ = None

abbrev pub with_known_outcome : Option Bool → List Bool → List Bool
with_known_outcome None bs = bs
with_known_outcome (Some b) bs = b ∷ bs

abbrev pub outcomes : List Move → List Bool
outcomes [] = []
outcomes (m ∷ ms) = with_known_outcome (outcome_of m) (outcomes ms)

-- as far as both were asked, calls ended alike, one after another
abbrev pub AnswerAlike : List Bool → List Bool → Type 0
AnswerAlike [] bs = Unit {0}
AnswerAlike (a ∷ firsts) [] = Unit {0}
AnswerAlike (a ∷ firsts) (b ∷ bs) = (a ≡ b) × AnswerAlike firsts bs

-- ---- two runs of a line

-- what a line did, from what stood behind the store once its `at` was noted
pub record Did (w : World) (e : Event) (a : Answer) (v : World) (b : Behind) (moves : List Move)
    (c : Behind) : Type 0 where
  pub report : Report
  pub began : b.life.kind ≡ kind_of_line w e a
  pub does : Does w e a v report b moves c
  pub agrees : Agrees v report c
  pub replays : Replays moves b.life c.life

-- What holds of each world and each state that lines reach: regions are laid out, handles have 32
-- bits, page-file keys live, the state is one that legal moves keep sound, and the keys that live in
-- it are the world's.
pub record StandsAlways (w : World) (l : FrameLife) : Type 0 where
  pub spaces : Spaces w
  pub few : (pid : ℕ) (p : ProcessOf Page) → process_of w pid ≡ Some p → length p.handles < 2 ^ 32
  pub live : (k : Key) → l.paging k ≡ true → is_live l k ≡ true
  pub sound : Sound l
  pub keys : (k : Key) → is_live l k ≡ is_some (content_of w k)

-- before an access, and before a line that takes pages away
abbrev pub StandsBefore : Event → World → FrameLife → Type 0
StandsBefore (line.Read pid addr len) w l = StandsAlways w l
StandsBefore (line.Write pid addr bytes) w l = StandsAlways w l
StandsBefore (line.Exec pid addr) w l = StandsAlways w l
StandsBefore (line.Begin tid pid what) w l = StandsAlways w l
StandsBefore (line.Resume tid) w l = StandsAlways w l
StandsBefore (line.Exit pid) w l = StandsAlways w l
StandsBefore (line.Free pid addr size type) w l = StandsAlways w l
StandsBefore (line.Unmap pid addr) w l = StandsAlways w l
StandsBefore (line.Close pid handle) w l = StandsAlways w l
StandsBefore _ w l = Unit {0}

-- each page that is valid is as old in both
abbrev pub AgedAlike : FrameLife → Ages → Ages → Type 0
AgedAlike l x y = (p : Place) → is_valid l p ≡ true → y p ≡ x p

-- two stores behind which frames live alike and valid pages are as old, whatever threads wait for
-- and slots hold
pub record StandsAlike (b o : Behind) : Type 0 where
  pub life : o.life ≡ b.life
  pub ages : AgedAlike b.life b.ages o.ages

-- two runs of an access or of a `flush`, over devices that answered alike
abbrev pub AnsweredAlike : Event → List Move → List Move → Type 0
AnsweredAlike (line.Read pid addr len) xs ys = AnswerAlike (outcomes xs) (outcomes ys)
AnsweredAlike (line.Write pid addr bytes) xs ys = AnswerAlike (outcomes xs) (outcomes ys)
AnsweredAlike (line.Exec pid addr) xs ys = AnswerAlike (outcomes xs) (outcomes ys)
AnsweredAlike (line.Begin tid pid what) xs ys = AnswerAlike (outcomes xs) (outcomes ys)
AnsweredAlike (line.Resume tid) xs ys = AnswerAlike (outcomes xs) (outcomes ys)
AnsweredAlike (line.Flush pid addr size) xs ys = AnswerAlike (outcomes xs) (outcomes ys)
AnsweredAlike _ xs ys = Unit {0}
