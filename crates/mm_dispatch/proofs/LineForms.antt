-- A line's piece of the log: its `at`, and an access behind it, or none.
use Rattle.std.proofs.Common.{◌≡◌, ℕ, List, [], ◌∷◌, ◌++◌, Bool, true, false, Option, Some, None, refl, sym, ap, ◌∙◌, subst, cond, option_map, is_some, arith, inl}
use Rattle.std.specs.Prelude.{◌==◌, ◌&&◌, ◌||◌}
use Rattle.std.proofs.lemmas.List.{append-nil}
use Rattle.mm_types.specs.{Answer, Why, Event, Held, Move, Pid, Place, page_of}
use Rattle.mm_types.proofs.{or_right, some_found}
use Rattle.mm_move_rules.specs.{FrameLife, after_move, Replays, Starved, Waiting, Idle, Walk, walked_all, waits_through, ages_through, Through}
use Rattle.mm_move_rules.specs.{walked}
use Rattle.mm_world.specs.World.{World}
use Rattle.mm_world.specs.{Attempt, Need, BeingRead, need_at, Tables, read_failed}
use Rattle.mm_world.specs.Report.{Report}
use Rattle.mm_store.specs.{StoreOf, place_at, PassesIn, Aim, AccessMoves, Forgets, wait_begun, walk_from, OneMove, NoMove}
use Rattle.mm_move_rules.specs.{same_place}
use Rattle.mm_move_rules.specs.{changed}
use Rattle.mm_store.specs.{AccessMove, ReadFails, Ghosts as PageStoreGhosts}
use Rattle.mm_store.specs.Behind.{Behind}
use Rattle.mm_store.proofs.{Joins, passes_then}
use Rattle.mm_line_moves.specs.{aim_at, aim_of, is_write_attempt, kind_of_line, Accesses, AccessesBy, Does, ages_of_line, waits_of_line, awaited, is_access_served}
use Rattle.mm_line_moves.specs.{is_failed, is_pending_read, place_had, with_line, asks_beside}
use Rattle.mm_line_moves.proofs.{moves_from}
use Rattle.mm_dispatch.specs.{Answered, MadeBy, WaitsBy, Lined, AnswersLine, DecidedOver, MarkedOver, PassesOver, world_over, keeps_keys, EachMove}
use Rattle.mm_dispatch.specs.{LineWent, TellsLine}
use Rattle.mm_dispatch.proofs.Begun.{passes_as, passes_with}
use Rattle.mm_dispatch.proofs.AccessForms.{answered_at_once, answers_some, never_pending, twice}
use Rattle.mm_dispatch.proofs.Begun.{Opens, paged, went_from}
use Rattle.mm_types.specs.declared.answers.Answer.TheVariants as answer
use Rattle.mm_types.specs.declared.answers.Why.TheVariants as why
use Rattle.mm_types.specs.declared.frames.Held.TheVariants as held
use Rattle.mm_types.specs.declared.moves.Move.TheVariants as move
use Rattle.mm_store.specs.declared.outcomes.Start.TheVariants as start

-- ---- a line has begun

module _ (m : Move) (b y : Behind) (xs : List Move) (r : Replays xs b.life y.life) (p : OneMove m b xs y) where
  begun_life : y.life ≡ after_move b.life m
  begun_life = (subst (λ t. Replays t b.life y.life) p.one r).1

  begun_ages : y.ages ≡ ages_through (m ∷ []) b.ages
  begun_ages = p.moved.ages ∙ ap (λ t. ages_through t b.ages) p.one

  begun_waits : y.waits ≡ waits_through (m ∷ []) b.waits
  begun_waits = p.moved.waits ∙ ap (λ t. waits_through t b.waits) p.one

-- where its walk begins
walk-begun : (m : Move) (b y : Behind) → y.life ≡ after_move b.life m → y.ages ≡ b.ages → walk_from y ≡ walk_from (with_line m b)
walk-begun m b y l a = λ i. record { life = l i; ages = a i; tried = [] }

-- the aim of an access and the place that it had, however the frames stood
place-start : (place : Place) (writes : Bool) (l m : FrameLife) (o : Option Need) (r : Answer) (f : Place → ℕ)
    → place_had (option_map (λ (n : Need). let a : Aim = record { place = place; need = n; writes = writes; start = l } in a) o) r f
    ≡ place_had (option_map (λ (n : Need). let a : Aim = record { place = place; need = n; writes = writes; start = m } in a) o) r f
place-start place writes l m None r f = refl
place-start place writes l m (Some n) r f = refl

aim-start : (place : Place) (writes : Bool) (l m : FrameLife) (o : Option Need) (a : Aim)
    → option_map (λ (n : Need). let a : Aim = record { place = place; need = n; writes = writes; start = l } in a) o ≡ Some a
    → option_map (λ (n : Need). let a : Aim = record { place = place; need = n; writes = writes; start = m } in a) o ≡ Some (record a { start = m })
aim-start place writes l m None a e = cc
aim-start place writes l m (Some n) a e =
    let first : Aim = record { place = place; need = n; writes = writes; start = l } in
    let same : first ≡ a = cc in
    ap (λ (a : Aim). Some (record a { start = m })) same

no_moves : (a : Aim) (b : Behind) → AccessMoves a b []
no_moves a b = record { each = tt; one_read = omega arith; few_writes = omega arith }

-- no read failed in it
not_read : (plain failed read : Bool) → failed ≡ false → (plain && failed && read) ≡ false
not_read false failed read e = refl
not_read true failed read e = ap (λ (b : Bool). b && read) e

never_read : (plain failed read : Bool) → (plain ≡ true → ⊥) → (plain && failed && read) ≡ false
never_read false failed read never = refl
never_read true failed read never = absurd (never refl)

-- ---- a line that accesses a page

-- what the definitions say of a line by its access, which fails or, of a thread, does not
pub record IsAccess (plain : Bool) (w : World) (e : Event) (r : Answer) (v : World) (after : Report) (pid : Pid) (addr : ℕ) (what : Attempt) : Type 0 where
  pub aim : (l : FrameLife) → aim_of w l e ≡ aim_at w l pid addr what
  pub does : (b : Behind) (ms : List Move) (c : Behind) → AccessesBy plain (aim_of w b.life e) r after b ms c → Does w e r v after b ms c
  pub ages : (b : Behind) (ms : List Move) → ages_of_line w e r b ms ≡ place_had (aim_of w b.life e) r (ages_through ms b.ages)

-- what the line's thread waits for after it, where the access is permitted
pub record Waited (w : World) (e : Event) (r : Answer) (tid : ℕ) : Type 0 where
  pub some : (a : Aim) (b : Behind) (f : ℕ → Waiting) (l : FrameLife) → aim_of w b.life e ≡ Some a → waits_of_line w e r b f l ≡ changed ◌==◌ f tid (cond (is_pending_read r) (awaited (Some a) l) Idle)

module _ (plain : Bool) (w : World) (e : Event) (n : ℕ) (r : Answer) (v : World) (after : Report) (pid : Pid) (addr : ℕ) (what : Attempt) (form : IsAccess plain w e r v after pid addr what) where
  module _ (b y c : Behind) (xs ys : List Move) (rep : Replays xs b.life y.life) (p : OneMove (move.At n (kind_of_line w e r)) b xs y) where
    abbrev m : Move
    m = move.At n (kind_of_line w e r)

    -- an access behind the `at`
    lined : (a : Aim) → aim_at w y.life pid addr what ≡ Some a → Accesses plain a r after y ys c
        → c.ages ≡ place_had (Some a) r (ages_through ys y.ages) → c.waits ≡ waits_of_line w e r b (waits_through ys b.waits) c.life
        → Lined w e n r v after b (xs ++ ys) c
    lined a is came ages waits =
        let life : y.life ≡ after_move b.life m = begun_life m b y xs rep p in
        let old : y.ages ≡ b.ages = begun_ages m b y xs rep p in
        let aim : aim_of w (with_line m b).life e ≡ Some a = form.aim (after_move b.life m) ∙ ap (λ (l : FrameLife). aim_at w l pid addr what) (sym life) ∙ is in
        let accesses : Accesses plain a r after (with_line m b) ys c = record {
          made = moves_from a m b y ys life old came.made;
          read = came.read;
          still = came.still;
          answers = came.answers;
          at_once = came.at_once;
          served = came.served;
          held_up = came.held_up;
          awaited = came.awaited;
          short = came.short;
          starved = λ x f none. subst (λ (u : Walk). Starved (c.life.valid a.place) (walked_all u ys)) (walk-begun m b y life old) (came.starved x f none);
        } in
        record {
          moves = ys;
          begins = ap (λ t. t ++ ys) p.one;
          does = form.does (with_line m b) ys c (subst (λ (o : Option Aim). AccessesBy plain o r after (with_line m b) ys c) (sym aim) accesses);
          ages =
              ages
              ∙ ap (λ (o : Option Aim). place_had o r (ages_through ys y.ages)) (sym is)
              ∙ place-start (place_at pid (page_of addr)) (is_write_attempt what) y.life b.life (need_at w pid.0 addr what) r (ages_through ys y.ages)
              ∙ ap (λ (f : Place → ℕ). place_had (aim_at w b.life pid addr what) r (ages_through ys f)) old
              ∙ ap (λ (o : Option Aim). place_had o r (ages_through ys b.ages)) (sym (form.aim b.life))
              ∙ sym (form.ages b ys);
          waits = waits;
        }

    -- a plain access
    lined_plain : {Ready : Type 0} → plain ≡ true → ((f : ℕ → Waiting) (l : FrameLife) → waits_of_line w e r b f l ≡ f) → Answered (aim_at w y.life pid addr what) Ready r after y ys c → Lined w e n r v after b (xs ++ ys) c
    lined_plain always waits q =
        lined q.aimed q.is (record {
          made = q.answers.made;
          read = subst (λ (f : Bool). ReadFails (f && is_failed r && read_failed q.aimed.need after) ys) (sym always) q.answers.read;
          still = λ never. let bad : true ≡ false = sym always ∙ never in cc;
          answers = answers_some r q.answers.answers;
          at_once = λ x. answered_at_once r q.answers.answers;
          served = q.answers.served;
          held_up = λ why e. absurd (never_pending r why q.answers.answers e);
          awaited = λ pends. let bad : true ≡ false = sym pends ∙ q.answers.settled in cc;
          short = λ x. q.answers.short;
          starved = λ x. q.answers.starved;
        }) q.answers.ages
        (q.answers.waits ∙ ap (waits_through ys) (begun_waits m b y xs rep p) ∙ sym (waits (waits_through ys b.waits) c.life))

    module _ (tid : ℕ) (waited : Waited w e r tid) where
      -- what the definitions say of its waits, by the aim that the access had
      waits_are : (a : Aim) (f : ℕ → Waiting) (l : FrameLife) → aim_at w y.life pid addr what ≡ Some a → waits_of_line w e r b f l ≡ changed ◌==◌ f tid (cond (is_pending_read r) (awaited (Some a) l) Idle)
      waits_are a f l is =
          waited.some (record a { start = b.life }) b f l
          (form.aim b.life ∙ aim-start (place_at pid (page_of addr)) (is_write_attempt what) y.life b.life (need_at w pid.0 addr what) a is)

      -- an access of a thread that was made
      lined_made : (plain ≡ true → ⊥) → MadeBy (aim_at w y.life pid addr what) tid r y ys c → Lined w e n r v after b (xs ++ ys) c
      lined_made never q =
          lined q.aimed q.is (record {
            made = q.made;
            read = subst (λ (f : Bool). ReadFails f ys) (sym (not_read plain (is_failed r) (read_failed q.aimed.need after) q.fine)) q.read;
            still = λ thread fails. let bad : true ≡ false = sym fails ∙ q.fine in cc;
            answers = answers_some r q.answers;
            at_once = λ x. absurd (never x);
            served = q.served;
            held_up = λ why e. absurd (never_pending r why q.answers e);
            awaited = λ pends. let bad : true ≡ false = sym pends ∙ q.settled in cc;
            short = λ x. absurd (never x);
            starved = λ x. absurd (never x);
          }) q.ages
          (q.waits
          ∙ ap (λ (f : ℕ → Waiting). changed ◌==◌ (waits_through ys f) tid Idle) (begun_waits m b y xs rep p)
          ∙ (λ i. changed ◌==◌ (waits_through ys b.waits) tid (cond (sym q.settled i) (awaited (Some q.aimed) c.life) Idle))
          ∙ sym (waits_are q.aimed (waits_through ys b.waits) c.life q.is))

      -- one whose read failed while it waited: it makes no move, and its wait is forgotten
      lined_failed : (plain ≡ true → ⊥) → is_failed r ≡ true → is_access_served r ≡ false → is_pending_read r ≡ false → (a : Aim) → aim_at w y.life pid addr what ≡ Some a → Forgets tid y ys c → Lined w e n r v after b (xs ++ ys) c
      lined_failed never failed lost settled a is q =
          let ages : c.ages ≡ y.ages = ap (λ (x : Behind). x.ages) q.same in
          let waits : c.waits ≡ changed ◌==◌ y.waits tid Idle = ap (λ (x : Behind). x.waits) q.same in
          let answers : (is_access_served r || is_failed r) ≡ true = or_right (is_access_served r) (is_failed r) failed in
          lined a is (record {
            made = subst (λ t. AccessMoves a y t) (sym q.none) (no_moves a y);
            read = subst (λ t. ReadFails (plain && is_failed r && read_failed a.need after) t) (sym q.none) (never_read plain (is_failed r) (read_failed a.need after) never);
            still = λ thread fails. q.none;
            answers = answers_some r answers;
            at_once = λ x. absurd (never x);
            served = λ had. let bad : true ≡ false = sym had ∙ lost in cc;
            held_up = λ why e. absurd (never_pending r why answers e);
            awaited = λ pends. let bad : true ≡ false = sym pends ∙ settled in cc;
            short = λ x. absurd (never x);
            starved = λ x. absurd (never x);
          })
          (ages ∙ ap (λ t. ages_through t y.ages) (sym q.none) ∙ (λ i. λ x. cond (sym lost i) (changed same_place (ages_through ys y.ages) a.place 0 x) (ages_through ys y.ages x)))
          (waits
          ∙ ap (λ (f : ℕ → Waiting). changed ◌==◌ f tid Idle) (begun_waits m b y xs rep p ∙ ap (λ t. waits_through t b.waits) (sym q.none))
          ∙ (λ i. changed ◌==◌ (waits_through ys b.waits) tid (cond (sym settled i) (awaited (Some a) c.life) Idle))
          ∙ sym (waits_are a (waits_through ys b.waits) c.life is))

-- what a thread that has to wait waits for
begun-awaits : (y : Why) (a : Aim) (l : FrameLife) (h : Held) → wait_begun (start.Pending y) h ≡ cond (is_pending_read (answer.Pending y)) (awaited (Some a) (record l { stands = λ _. h })) Idle
begun-awaits why.Read a l (held.Frame f) = refl
begun-awaits why.Read a l _ = refl
begun-awaits _ a l h = refl

pends_alike : (x y : Why) → answer.Pending x ≡ answer.Pending y → start.Pending x ≡ start.Pending y
pends_alike x y e =
    let same : x ≡ y = cc in
    ap (λ (w : Why). start.Pending w) same

reads : (x : Why) → is_pending_read (answer.Pending x) ≡ true → x ≡ why.Read
reads why.Read e = refl
reads why.Full e = cc
reads why.Frame e = cc

module _ (w : World) (e : Event) (n : ℕ) (why : Why) (v : World) (after : Report) (pid : Pid) (addr : ℕ) (what : Attempt) (form : IsAccess false w e (answer.Pending why) v after pid addr what) (tid : ℕ) (waited : Waited w e (answer.Pending why) tid) where
  -- an access of a thread that has to wait
  lined_waits : (b y c : Behind) (xs ys : List Move) → Replays xs b.life y.life → OneMove (move.At n (kind_of_line w e (answer.Pending why))) b xs y → WaitsBy (aim_at w y.life pid addr what) tid why after y ys c → Lined w e n (answer.Pending why) v after b (xs ++ ys) c
  lined_waits b y c xs ys rep p q =
      lined false w e n (answer.Pending why) v after pid addr what form b y c xs ys rep p q.aimed q.is (record {
        made = q.starts.made;
        read = q.starts.read;
        still = λ thread fails. cc;
        answers = refl;
        at_once = λ plain. cc;
        served = λ had. cc;
        held_up = λ x e. q.starts.held_up x (pends_alike why x e);
        awaited = λ pends. q.awaited (reads why pends);
        short = λ plain. cc;
        starved = λ plain. cc;
      }) q.starts.ages
      (q.starts.waits
      ∙ ap (λ (f : ℕ → Waiting). changed ◌==◌ (waits_through ys f) tid (wait_begun (start.Pending why) (c.life.stands q.aimed.need.key))) (begun_waits (move.At n (kind_of_line w e (answer.Pending why))) b y xs rep p)
      ∙ ap (λ (x : Waiting). changed ◌==◌ (waits_through ys b.waits) tid x) (begun-awaits why q.aimed c.life (c.life.stands q.aimed.need.key))
      ∙ sym (waits_are false w e n (answer.Pending why) v after pid addr what form b y c xs ys rep p tid waited q.aimed (waits_through ys b.waits) c.life q.is))

-- ---- a line that accesses none: it is refused, its process does not live, or its thread is busy or keeps nothing

module _ (plain : Bool) (w : World) (e : Event) (n : ℕ) (r : Answer) (v : World) (after : Report) (does : (b : Behind) (c : Behind) → AccessesBy plain (aim_of w b.life e) r after b [] c → Does w e r v after b [] c) (ages : (b : Behind) → ages_of_line w e r b [] ≡ place_had (aim_of w b.life e) r b.ages) (needless : (l : FrameLife) → aim_of w l e ≡ None) where
  lined_none : (b c : Behind) (xs : List Move) → xs ≡ move.At n (kind_of_line w e r) ∷ [] → c.ages ≡ b.ages → c.waits ≡ waits_of_line w e r b b.waits c.life → Lined w e n r v after b xs c
  lined_none b c xs one same waits =
      record {
        moves = [];
        begins = one;
        does =
            let m = move.At n (kind_of_line w e r) in
            does (with_line m b) c (subst (λ (o : Option Aim). AccessesBy plain o r after (with_line m b) [] c) (sym (needless (with_line m b).life)) refl);
        ages = same ∙ ap (λ (o : Option Aim). place_had o r b.ages) (sym (needless b.life)) ∙ sym (ages b);
        waits = waits;
      }

-- ---- pieces behind pieces

pub still_joins : (m : Move) → Joins (OneMove m) NoMove (OneMove m)
still_joins m = record {
  join = λ b c d xs ys rep p q.
      let one : xs ++ ys ≡ xs = ap (λ t. xs ++ t) q.none ∙ append-nil xs in
      subst (λ t. OneMove m b t d) (sym one) (subst (λ (x : Behind). OneMove m b xs x) (sym q.same) p);
}

-- an access of a thread was made, and the wait that it ended is forgotten
pub made_joins : (aim : Option Aim) (tid : ℕ) (r : Answer) → Joins (MadeBy aim tid r) (Forgets tid) (MadeBy aim tid r)
made_joins aim tid r = record {
  join = λ b c d xs ys rep p q.
      let one : xs ++ ys ≡ xs = ap (λ t. xs ++ t) q.none ∙ append-nil xs in
      let later : MadeBy aim tid r b xs (record c { waits = changed ◌==◌ c.waits tid Idle }) = record {
        aimed = p.aimed;
        is = p.is;
        made = p.made;
        read = p.read;
        fine = p.fine;
        answers = p.answers;
        served = p.served;
        ages = p.ages;
        waits = ap (λ (f : ℕ → Waiting). changed ◌==◌ f tid Idle) p.waits ∙ twice ◌==◌ (waits_through xs b.waits) tid Idle Idle;
        settled = p.settled;
      } in
      subst (λ t. MadeBy aim tid r b t d) (sym one) (subst (λ (x : Behind). MadeBy aim tid r b xs x) (sym q.same) later);
}

module _ (u : Bool) (w : World) (e : Event) (n : ℕ) (v : World) (s m z : StoreOf) (b y c : Behind) where
  abbrev begins : Answer → Type 0
  begins r = PassesIn u (OneMove (move.At n (kind_of_line w e r))) s m b y

  -- the `at` of a line, and a plain access
  pub plain_line : (r : Answer) (pid : Pid) (addr : ℕ) (what : Attempt) → IsAccess true w e r v z.report pid addr what → ((b : Behind) (f : ℕ → Waiting) (l : FrameLife) → waits_of_line w e r b f l ≡ f) → (Ready : Type 0) → begins r
      → PassesIn u (Answered (aim_at w y.life pid addr what) Ready r z.report) m z y c → PassesIn u (Lined w e n r v z.report) s z b c
  plain_line r pid addr what form waits Ready p q =
      passes_then u (OneMove (move.At n (kind_of_line w e r))) (λ x ms d. Answered (aim_at w x.life pid addr what) Ready r z.report x ms d) (Lined w e n r v z.report) s m z b y c
      (record { join = λ b y c xs ys rep p q. lined_plain true w e n r v z.report pid addr what form b y c xs ys rep p refl (waits b) q })
      p (passes_as u _ (λ x ms d. Answered (aim_at w x.life pid addr what) Ready r z.report x ms d) m z y c (λ ms rep a. a) q)

  -- and an access of a thread that was made
  pub made_line : (r : Answer) (pid : Pid) (addr : ℕ) (what : Attempt) (tid : ℕ) → IsAccess false w e r v z.report pid addr what → Waited w e r tid → begins r
      → PassesIn u (MadeBy (aim_at w y.life pid addr what) tid r) m z y c → PassesIn u (Lined w e n r v z.report) s z b c
  made_line r pid addr what tid form waited p q =
      passes_then u (OneMove (move.At n (kind_of_line w e r))) (λ x ms d. MadeBy (aim_at w x.life pid addr what) tid r x ms d) (Lined w e n r v z.report) s m z b y c
      (record { join = λ b y c xs ys rep p q. lined_made false w e n r v z.report pid addr what form b y c xs ys rep p tid waited (λ bad. cc) q })
      p (passes_as u _ (λ x ms d. MadeBy (aim_at w x.life pid addr what) tid r x ms d) m z y c (λ ms rep a. a) q)

  -- and one that has to wait
  pub waits_line : (why : Why) (pid : Pid) (addr : ℕ) (what : Attempt) (tid : ℕ) → IsAccess false w e (answer.Pending why) v z.report pid addr what → Waited w e (answer.Pending why) tid → begins (answer.Pending why)
      → PassesIn u (WaitsBy (aim_at w y.life pid addr what) tid why z.report) m z y c → PassesIn u (Lined w e n (answer.Pending why) v z.report) s z b c
  waits_line why pid addr what tid form waited p q =
      passes_then u (OneMove (move.At n (kind_of_line w e (answer.Pending why)))) (λ x ms d. WaitsBy (aim_at w x.life pid addr what) tid why z.report x ms d) (Lined w e n (answer.Pending why) v z.report) s m z b y c
      (record { join = λ b y c xs ys rep p q. lined_waits w e n why v z.report pid addr what form tid waited b y c xs ys rep p q })
      p (passes_as u _ (λ x ms d. WaitsBy (aim_at w x.life pid addr what) tid why z.report x ms d) m z y c (λ ms rep a. a) q)

  -- and one whose read failed while it waited
  pub failed_line : (r : Answer) (pid : Pid) (addr : ℕ) (what : Attempt) (tid : ℕ) → IsAccess false w e r v z.report pid addr what → Waited w e r tid → is_failed r ≡ true → is_access_served r ≡ false → is_pending_read r ≡ false → ((l : FrameLife) → is_some (aim_at w l pid addr what) ≡ true) → begins r
      → PassesIn u (Forgets tid) m z y c → PassesIn u (Lined w e n r v z.report) s z b c
  failed_line r pid addr what tid form waited failed lost settled permitted p q =
      passes_then u (OneMove (move.At n (kind_of_line w e r))) (Forgets tid) (Lined w e n r v z.report) s m z b y c
      (record {
        join = λ b y c xs ys rep p q.
            let o = some_found (aim_at w y.life pid addr what) (permitted y.life) in
            lined_failed false w e n r v z.report pid addr what form b y c xs ys rep p tid waited (λ bad. cc) failed lost settled o.0 o.1 q;
      }) p q

  -- and no access, but a wait that is forgotten
  pub idle_line : (r : Answer) (tid : ℕ) → ((b : Behind) (c : Behind) → AccessesBy false (aim_of w b.life e) r z.report b [] c → Does w e r v z.report b [] c) → ((b : Behind) → ages_of_line w e r b [] ≡ place_had (aim_of w b.life e) r b.ages)
      → ((l : FrameLife) → aim_of w l e ≡ None) → ((b : Behind) (f : ℕ → Waiting) (l : FrameLife) → waits_of_line w e r b f l ≡ changed ◌==◌ f tid Idle) → begins r → PassesIn u (Forgets tid) m z y c → PassesIn u (Lined w e n r v z.report) s z b c
  idle_line r tid does ages needless waits p q =
      passes_then u (OneMove (move.At n (kind_of_line w e r))) (Forgets tid) (Lined w e n r v z.report) s m z b y c
      (record {
        join = λ b y c xs ys rep p q.
            let x : Move = move.At n (kind_of_line w e r) in
            lined_none false w e n r v z.report does ages needless b c (xs ++ ys) ((λ i. p.one i ++ q.none i))
            (ap (λ (x : Behind). x.ages) q.same ∙ begun_ages x b y xs rep p)
            (ap (λ (x : Behind). x.waits) q.same ∙ ap (λ (f : ℕ → Waiting). changed ◌==◌ f tid Idle) (begun_waits x b y xs rep p) ∙ sym (waits b b.waits c.life));
      }) p q

-- a line of its `at` alone
pub none_line : (u plain : Bool) (w : World) (e : Event) (n : ℕ) (r : Answer) (v : World) (s z : StoreOf) (b c : Behind) → ((b : Behind) (c : Behind) → AccessesBy plain (aim_of w b.life e) r z.report b [] c → Does w e r v z.report b [] c)
    → ((b : Behind) → ages_of_line w e r b [] ≡ place_had (aim_of w b.life e) r b.ages) → ((l : FrameLife) → aim_of w l e ≡ None) → ((b : Behind) (f : ℕ → Waiting) (l : FrameLife) → waits_of_line w e r b f l ≡ f)
    → PassesIn u (OneMove (move.At n (kind_of_line w e r))) s z b c → PassesIn u (Lined w e n r v z.report) s z b c
none_line u plain w e n r v s z b c does ages needless waits p =
    passes_as u (OneMove (move.At n (kind_of_line w e r))) (Lined w e n r v z.report) s z b c
    (λ ms rep p.
    lined_none plain w e n r v z.report does ages needless b c ms p.one (begun_ages (move.At n (kind_of_line w e r)) b c ms rep p)
    (begun_waits (move.At n (kind_of_line w e r)) b c ms rep p ∙ sym (waits b b.waits c.life))) p

-- an access that made no move behind the `at`
pub begun_still : (u : Bool) (x : Move) (P : Behind → List Move → Behind → Type 0) (s m z : StoreOf) (b y c : Behind) → ((b : Behind) (ms : List Move) (c : Behind) → P b ms c → NoMove b ms c) → PassesIn u (OneMove x) s m b y → PassesIn u P m z y c → PassesIn u (OneMove x) s z b c
begun_still u x P s m z b y c still p q =
    passes_then u (OneMove x) NoMove (OneMove x) s m z b y c (still_joins x) p (passes_as u P NoMove m z y c (λ ms rep a. still y ms c a) q)

-- ---- such a piece is what is noted of a line: no key goes in an access

through_keeps : (a : Aim) (w : Walk) (ms : List Move) → Through (AccessMove a) w ms → EachMove keeps_keys ms
through_keeps a w [] h = tt
through_keeps a w (move.At n k ∷ ms) h = absurd h.0
through_keeps a w (move.Add k None ∷ ms) h = (refl, through_keeps a (walked w (move.Add k None)) ms h.1)
through_keeps a w (move.Add k (Some b) ∷ ms) h = absurd h.0
through_keeps a w (move.Drop k ∷ ms) h = absurd h.0
through_keeps a w (m ∷ ms) h = (refl, through_keeps a (walked w m) ms h.1)

access_keeps : (plain : Bool) (o : Option Aim) (r : Answer) (after : Report) (b : Behind) (ms : List Move) (c : Behind) → AccessesBy plain o r after b ms c → EachMove keeps_keys ms
access_keeps plain None r after b ms c h = subst (EachMove keeps_keys) (sym h) tt
access_keeps plain (Some a) r after b ms c h = through_keeps a (walk_from b) ms h.made.each

-- a line whose moves are those of an access, if any
marked_lined : (plain : Bool) (w : World) (e : Event) (n : ℕ) (a : Answer) (v : World) (u : Bool) (s z : StoreOf) (b c : Behind) → ((x : Behind) (ms : List Move) → Does w e a v z.report x ms c → AccessesBy plain (aim_of w x.life e) a z.report x ms c) → PassesIn u (Lined w e n a v z.report) s z b c → u ≡ false
    → LineWent false (move.At n (kind_of_line w e a)) (λ ms. TellsLine n (kind_of_line w e a) e w a v z.report b ms c) s z b c
marked_lined plain w e n a v u s z b c accesses p paging =
    let q = paged u (Lined w e n a v z.report) s z b c paging p in
    let is = q.that.begins in
    let begun = with_line (move.At n (kind_of_line w e a)) b in
    let tells = λ (ms : List Move). TellsLine n (kind_of_line w e a) e w a v z.report b ms c in
    went_from n (kind_of_line w e a) (λ x ms y. tells ms) s z b c tells (λ log ms h. h)
    (passes_with (Lined w e n a v z.report) (Opens n (kind_of_line w e a) (λ x ms y. tells ms)) s z b c q (record {
      rest = q.that.moves;
      is = is;
      log = c.log;
      that = record {
        one_way = inl (access_keeps plain (aim_of w begun.life e) a z.report begun q.that.moves c (accesses begun q.that.moves q.that.does));
        does = q.that.does;
        ages = q.that.ages;
        waits = q.that.waits;
      };
    }))

-- such a line over a store, told of the line that it is
module _ {G : Type 0} (p : PageStoreGhosts G) where
  pub access_marked : (plain : Bool) (e f : Event) → f ≡ e → asks_beside e ≡ false → (n : ℕ) (t : Tables) (x : G) (a : Answer) (after : Tables) (y : G)
      → ((d : Behind) (ms : List Move) → Does (world_over p t x) e a (world_over p after y) (p.store y).report d ms (p.behind y) → AccessesBy plain (aim_of (world_over p t x) d.life e) a (p.store y).report d ms (p.behind y))
      → PassesOver p (Lined (world_over p t x) e n a (world_over p after y) (p.store y).report) x y → MarkedOver p f n t x a after y
  access_marked plain e f is bare n t x a after y accesses passes =
      let kind = kind_of_line (world_over p t x) e a in
      let tells = λ (ms : List Move). TellsLine n kind e (world_over p t x) a (world_over p after y) (p.store y).report (p.behind x) ms (p.behind y) in
      subst (λ (l : Event). MarkedOver p l n t x a after y) (sym is)
      (λ paging.
      subst (λ (b : Bool). LineWent b (move.At n kind) tells (p.store x) (p.store y) (p.behind x) (p.behind y)) (sym bare)
      (marked_lined plain (world_over p t x) e n a (world_over p after y) p.unpaged (p.store x) (p.store y) (p.behind x) (p.behind y) accesses passes paging))

  -- and decided
  pub access_answers : (plain : Bool) (e f : Event) → f ≡ e → asks_beside e ≡ false → (n : ℕ) (t : Tables) (x : G) (a : Answer) (after : Tables) (y : G)
      → ((d : Behind) (ms : List Move) → Does (world_over p t x) e a (world_over p after y) (p.store y).report d ms (p.behind y) → AccessesBy plain (aim_of (world_over p t x) d.life e) a (p.store y).report d ms (p.behind y))
      → DecidedOver p e n t x a after y → PassesOver p (Lined (world_over p t x) e n a (world_over p after y) (p.store y).report) x y → AnswersLine p f n t x a after y
  access_answers plain e f is bare n t x a after y accesses decided passes =
      record {
        decided = subst (λ (l : Event). DecidedOver p l n t x a after y) (sym is) decided;
        marked = access_marked plain e f is bare n t x a after y accesses passes;
      }
