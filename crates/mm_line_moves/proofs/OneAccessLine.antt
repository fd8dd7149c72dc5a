-- A line of an access has one log: what its form, its answer and the world before it say of the access.
use Rattle.std.proofs.Common.{◌≡◌, ◌≤◌, ℕ, ◌+◌, ◌-◌, Bool, true, false, cond, List, [], ◌∷◌, Option, Some, None, refl, sym, ap, ◌∙◌, subst, inl, arith}
use Rattle.std.specs.Prelude.{◌&&◌, ◌||◌, ◌==◌, is_some, option_map, option_and_then, unwrap_or}
use Rattle.mm_types.specs.{Answer, Key, Kind, LineKind, Move, Pid, Why, page_of}
use Rattle.mm_types.specs.declared.answers.Answer.TheVariants as answer
use Rattle.mm_types.specs.declared.codes.Raise.TheVariants as raise
use Rattle.mm_types.specs.declared.moves.LineKind.TheVariants as kind
use Rattle.mm_types.specs.declared.views.Kind.TheVariants as view_kind
use Rattle.mm_move_rules.specs.{FrameLife, Replays, Starved, Through, Walk, is_access, is_live, is_on, is_shared, is_thread, is_touch, is_write, record_at, walked, walked_all}
use Rattle.mm_move_rules.proofs.{write_has}
use Rattle.mm_move_laws.specs.{one_if, times}
use Rattle.mm_move_laws.specs.Sound.{Sound}
use Rattle.mm_world.specs.{Attempt, Committed, Found, Home, InSection, KeptOf, Need, Own, Page, ProcessOf, ReadOf, RegionOf, RowOf, WriteOf, Execute, address_in, attempt_in, committed_at, committed_in, content_of, copies, home_in, is_permitted}
use Rattle.mm_world.specs.{need_at, need_of, own_page, private_key, process_of, read_failed, region_with, row_at}
use Rattle.mm_world.specs.World.{World}
use Rattle.mm_world.specs.Report.{Report}
use Rattle.mm_store.specs.Behind.{Behind}
use Rattle.mm_store.specs.{Aim, AccessMove, IsHeldUp, IsServed, is_copied, is_shortage, place_at, walk_from}
use Rattle.mm_line_moves.specs.{Accesses, AccessesBy, AnswerAlike, StandsAlways, aim_at, aim_kept, if_lives, is_access_pending, is_access_served, is_failed, is_write_attempt, kept_kind, outcomes}
use Rattle.mm_line_moves.proofs.DueParts.{access_touches, thread_touches}
use Rattle.mm_line_moves.proofs.InAccess.{AnyMove, InAccess, kind_kept}
use Rattle.mm_line_moves.proofs.OneAccess.{IsAim, IsOver, OverServed, OverStarved, OverWaiting, one_list}

-- ---- the world before the line

abbrev made : Found (RegionOf Page) → RowOf Page → Home Page → Committed Page
made r row home = record { region = r; row = row; home = home }

-- a row whose bytes stand in a section has none of its own
unowned : (w : World) (regions : List (RegionOf Page)) (page : ℕ) (c : Committed Page) (area index : ℕ) → committed_at w regions page ≡ Some c → c.home ≡ InSection area index → own_page regions page ≡ None
unowned w regions page c area index e h = by_region (region_with regions page) e
  where
    by_own : (r : Found (RegionOf Page)) (row : RowOf Page) (i : ℕ) (k : Kind) (own : Option Page) → option_map (made r row) (home_in w i k own) ≡ Some c → own ≡ None
    by_own r row i k None f = refl
    by_own r row i view_kind.Private (Some b) f =
        let same : made r row (Own b) ≡ c = cc in
        let bad : Own b ≡ InSection area index = ap (λ (x : Committed Page). x.home) same ∙ h in cc
    by_own r row i (view_kind.View v) (Some b) f =
        let same : made r row (Own b) ≡ c = cc in
        let bad : Own b ≡ InSection area index = ap (λ (x : Committed Page). x.home) same ∙ h in cc

    by_row : (r : Found (RegionOf Page)) (o : Option (RowOf Page)) → committed_in w r (page - r.thing.base) o ≡ Some c → option_and_then (λ (row : RowOf Page). row.own) o ≡ None
    by_row r None f = refl
    by_row r (Some row) f = by_own r row (page - r.thing.base) r.thing.kind row.own f

    by_region : (o : Option (Found (RegionOf Page))) → option_and_then (λ (r : Found (RegionOf Page)). committed_in w r (page - r.thing.base) (row_at r.thing page)) o ≡ Some c
        → option_and_then (λ (r : Found (RegionOf Page)). option_and_then (λ (row : RowOf Page). row.own) (row_at r.thing page)) o ≡ None
    by_region None f = refl
    by_region (Some r) f = by_row r (row_at r.thing page) f

-- a copy that an access needs is a private page that a write makes, and there is none yet
record CopyNeeded (w : World) (what : Attempt) (k : Key) : Type 0 where
  own : is_shared k ≡ false
  writes : is_write_attempt what ≡ true
  dead : content_of w k ≡ None

record IsNeeded (w : World) (pid : ℕ) (what : Attempt) (n : Need) : Type 0 where
  lives : is_some (process_of w pid) ≡ true
  copy : (k : Key) → n.copy ≡ Some k → CopyNeeded w what k

copy_needed : (w : World) (pid : ℕ) (p : ProcessOf Page) (page : ℕ) (c : Committed Page) (what : Attempt) (k : Key) → process_of w pid ≡ Some p → committed_at w p.regions page ≡ Some c → (need_of pid page c what).copy ≡ Some k → CopyNeeded w what k
copy_needed w pid p page c what k found there e = by what c.home refl e
  where
    by_mark : (bytes : List ℕ) (area index : ℕ) → c.home ≡ InSection area index → (m : Bool) → cond m (Some (private_key pid page)) None ≡ Some k → CopyNeeded w (WriteOf bytes) k
    by_mark bytes area index h false f = cc
    by_mark bytes area index h true f =
        let same : private_key pid page ≡ k = cc in
        subst (CopyNeeded w (WriteOf bytes)) same
        (record {
          own = refl;
          writes = refl;
          dead = ap (λ (o : Option (ProcessOf Page)). option_and_then (λ (q : ProcessOf Page). own_page q.regions page) o) found ∙ unowned w p.regions page c area index there h;
        })

    by : (what : Attempt) (home : Home Page) → c.home ≡ home → cond (copies c what home) (Some (private_key pid page)) None ≡ Some k → CopyNeeded w what k
    by (WriteOf bytes) (InSection area index) h f = by_mark bytes area index h c.row.marked f
    by (WriteOf bytes) (Own own) h f = cc
    by (ReadOf len) home h f = cc
    by Execute home h f = cc

needed : (w : World) (pid addr : ℕ) (what : Attempt) (n : Need) → need_at w pid addr what ≡ Some n → IsNeeded w pid what n
needed w pid addr what n e = by_process (process_of w pid) refl e
  where
    by_permit : (p : ProcessOf Page) → process_of w pid ≡ Some p → (c : Committed Page) → committed_at w p.regions (page_of addr) ≡ Some c → (b : Bool) → cond b (Some (need_of pid (page_of addr) c what)) None ≡ Some n → IsNeeded w pid what n
    by_permit p found c there false f = cc
    by_permit p found c there true f =
        let same : need_of pid (page_of addr) c what ≡ n = cc in
        subst (IsNeeded w pid what) same (record { lives = ap is_some found; copy = λ k g. copy_needed w pid p (page_of addr) c what k found there g })

    by_row : (p : ProcessOf Page) → process_of w pid ≡ Some p → (o : Option (Committed Page)) → committed_at w p.regions (page_of addr) ≡ o → option_and_then (λ (c : Committed Page). cond (is_permitted what c) (Some (need_of pid (page_of addr) c what)) None) o ≡ Some n → IsNeeded w pid what n
    by_row p found None there f = cc
    by_row p found (Some c) there f = by_permit p found c there (is_permitted what c) f

    by_process : (o : Option (ProcessOf Page)) → process_of w pid ≡ o
        → option_and_then (λ (p : ProcessOf Page). option_and_then (λ (c : Committed Page). cond (is_permitted what c) (Some (need_of pid (page_of addr) c what)) None) (committed_at w p.regions (page_of addr))) o ≡ Some n → IsNeeded w pid what n
    by_process None found f = cc
    by_process (Some p) found f = by_row p found (committed_at w p.regions (page_of addr)) refl f

-- what is known of an access that is permitted
record Aimed (w : World) (l : FrameLife) (pid : ℕ) (a : Aim) : Type 0 where
  is : IsAim a
  start : a.start ≡ l
  lives : is_some (process_of w pid) ≡ true
  dead : (k : Key) → a.need.copy ≡ Some k → content_of w k ≡ None

aimed : (w : World) (l : FrameLife) (pid : Pid) (addr : ℕ) (what : Attempt) (a : Aim) → aim_at w l pid addr what ≡ Some a → Aimed w l pid.0 a
aimed w l pid addr what a e = by (need_at w pid.0 addr what) refl e
  where
    about : Need → Aim
    about n = record { place = place_at pid (page_of addr); need = n; writes = is_write_attempt what; start = l }

    by : (o : Option Need) → need_at w pid.0 addr what ≡ o → option_map about o ≡ Some a → Aimed w l pid.0 a
    by None f g = cc
    by (Some n) f g =
        let h = needed w pid.0 addr what n f in
        let same : about n ≡ a = cc in
        subst (Aimed w l pid.0) same
        (record {
          is = record { own = λ k x. (h.copy k x).own; writes = λ k x. (h.copy k x).writes };
          start = refl;
          lives = h.lives;
          dead = λ k x. (h.copy k x).dead;
        })

-- ---- the state before the line

on_times : (f : ℕ) (xs : List ℕ) → 1 ≤ times f xs → is_on f xs ≡ true
on_times f [] h = absurd (omega (arith, h))
on_times f (x ∷ xs) h = by (x == f) (on_times f xs) h
  where
    by : (b : Bool) → (1 ≤ times f xs → is_on f xs ≡ true) → 1 ≤ one_if b + times f xs → (b || is_on f xs) ≡ true
    by true more g = refl
    by false more g = more (omega (arith, g))

-- a write in flight is a request
in_flight : (l : FrameLife) → Sound l → (f : ℕ) → is_write (record_at l.frames f).request ≡ true → is_on f l.flight ≡ true
in_flight l s f h =
    let once : times f l.flight ≡ one_if true = (s.standing f).flight ∙ ap one_if (write_has (record_at l.frames f).request h) in
    on_times f l.flight (omega (arith, once))

uncopied : (n : Need) (l : FrameLife) → ((k : Key) → n.copy ≡ Some k → is_live l k ≡ false) → is_copied n l ≡ false
uncopied n l dead = by n.copy refl
  where
    by : (o : Option Key) → n.copy ≡ o → unwrap_or (option_map (λ k. is_live l k) o) false ≡ false
    by None e = refl
    by (Some k) e = dead k e

-- ---- the state behind the moves

walked_to : (xs : List Move) (w : Walk) (c : FrameLife) → Replays xs w.life c → (walked_all w xs).life ≡ c
walked_to [] w c r = sym r
walked_to (x ∷ xs) w c r = walked_to xs (walked w x) c r.1

kind_through : (a : Aim) (xs : List Move) (w : Walk) → Through (AccessMove a) w xs → (walked_all w xs).life.kind ≡ w.life.kind
kind_through a [] w t = refl
kind_through a (x ∷ xs) w t = kind_through a xs (walked w x) t.1 ∙ kind_kept a w x xs t.0

-- the line is of the access's kind
abbrev IsKindOf : Bool → LineKind → Type 0
IsKindOf true k = is_access k ≡ true
IsKindOf false k = is_thread k ≡ true

touches_by : (plain : Bool) (k : LineKind) → IsKindOf plain k → is_touch k ≡ true
touches_by true k h = access_touches k h
touches_by false k h = thread_touches k h

abbrev fails : Bool → Aim → Answer → Report → Bool
fails plain a r after = plain && is_failed r && read_failed a.need after

module _ (a : Aim) (after : Report) (b c : Behind) (xs : List Move) where
  over_by : (plain : Bool) (r : Answer) → IsKindOf plain b.life.kind → (plain ≡ false → is_failed r ≡ true → ⊥) → Accesses plain a r after b xs c → Replays xs b.life c.life → fails plain a r after ≡ false → IsOver a (walked_all (walk_from b) xs)
  over_by plain r k live p replays e = by plain r refl refl
    where
      life : (walked_all (walk_from b) xs).life ≡ c.life
      life = walked_to xs (walk_from b) c.life replays

      served : IsServed a c.life → IsOver a (walked_all (walk_from b) xs)
      served s = OverServed (subst (IsServed a) (sym life) s)

      failed : plain ≡ true → is_failed r ≡ true → IsOver a (walked_all (walk_from b) xs)
      failed f g =
          let none : read_failed a.need after ≡ false = sym (ap (λ t. t && is_failed r && read_failed a.need after) f ∙ ap (λ t. true && t && read_failed a.need after) g) ∙ e in
          OverStarved (subst (λ (l : FrameLife). is_shortage a.need a.place l ≡ true) (sym life) (p.short f g none))
          (subst (λ (l : FrameLife). Starved (l.valid a.place) (walked_all (walk_from b) xs)) (sym life) (p.starved f g none))

      waits : plain ≡ false → (why : Why) → r ≡ answer.Pending why → IsOver a (walked_all (walk_from b) xs)
      waits f why g =
          OverWaiting (ap is_thread (kind_through a xs (walk_from b) p.made.each) ∙ subst (λ (t : Bool). IsKindOf t b.life.kind) f k) why
          (subst (λ (l : FrameLife). IsHeldUp why a l) (sym life) (p.held_up why g))

      by : (t : Bool) (q : Answer) → plain ≡ t → r ≡ q → IsOver a (walked_all (walk_from b) xs)
      by t answer.Ok f g = served (p.served (ap is_access_served g))
      by t (answer.Bytes bytes) f g = served (p.served (ap is_access_served g))
      by true (answer.Raised raise.InPageError) f g = failed f (ap is_failed g)
      by false (answer.Raised raise.InPageError) f g = absurd (live f (ap is_failed g))
      by true (answer.Pending why) f g = let bad : true ≡ false = sym (ap is_access_pending g) ∙ p.at_once f in cc
      by false (answer.Pending why) f g = waits f why g
      by t _ f g = let bad : false ≡ true = sym (ap (λ (x : Answer). is_access_served x || is_failed x || is_access_pending x) g) ∙ p.answers in cc

-- ---- two runs

-- the same life and ages of frames, with what else stands behind another store
abbrev pub beside : Behind → Behind → Behind
beside b o = record b { log = o.log; waits = o.waits; slots = o.slots }

module _ (w : World) (r : Answer) (b o c d : Behind) (xs ys : List Move) (s : StandsAlways w b.life) where
  one_access : (plain : Bool) (pid : ℕ) (a : Aim) (x y : Report) → Aimed w b.life pid a → IsKindOf plain b.life.kind → (plain ≡ false → is_failed r ≡ true → ⊥) → Accesses plain a r x b xs c → Accesses plain a r y (beside b o) ys d → Replays xs b.life c.life → Replays ys b.life d.life → AnswerAlike (outcomes xs) (outcomes ys) → ys ≡ xs
  one_access plain pid a x y h k live p q m n alike =
      let here : InAccess AnyMove a b.life =
      record {
        sound = s.sound;
        touch = touches_by plain b.life.kind k;
        copied = λ none. uncopied a.need b.life (λ key e. s.keys key ∙ ap is_some (h.dead key e));
        begun = λ f e. inl (ap (λ (l : FrameLife). is_on f l.flight) h.start ∙ in_flight b.life s.sound f e);
      } in
      one_list a h.is xs ys AnyMove (walk_from b) (fails plain a r x) (fails plain a r y) c.life d.life here tt tt
      (record { each = p.made.each; replays = m; fails = p.read; over = λ e. over_by a x b c xs plain r k live p m e })
      (record { each = q.made.each; replays = n; fails = q.read; over = λ e. over_by a y (beside b o) d ys plain r k live q n e })
      alike

  -- a thread whose read failed makes no move
  any_access : (plain : Bool) (pid : ℕ) (a : Aim) (x y : Report) → Aimed w b.life pid a → IsKindOf plain b.life.kind → Accesses plain a r x b xs c → Accesses plain a r y (beside b o) ys d → Replays xs b.life c.life → Replays ys b.life d.life → AnswerAlike (outcomes xs) (outcomes ys) → ys ≡ xs
  any_access plain pid a x y h k p q m n alike = by plain refl (is_failed r) refl
    where
      by : (t : Bool) → plain ≡ t → (f : Bool) → is_failed r ≡ f → ys ≡ xs
      by false e true f = q.still e f ∙ sym (p.still e f)
      by true e f g = one_access plain pid a x y h k (λ u. let bad : true ≡ false = sym e ∙ u in cc) p q m n alike
      by false e false g = one_access plain pid a x y h k (λ u v. let bad : false ≡ true = sym g ∙ v in cc) p q m n alike

  by_aim : (plain : Bool) (pid : ℕ) (aim : Option Aim) (x y : Report) → ((a : Aim) → aim ≡ Some a → Aimed w b.life pid a × IsKindOf plain b.life.kind) → AccessesBy plain aim r x b xs c → AccessesBy plain aim r y (beside b o) ys d → Replays xs b.life c.life → Replays ys b.life d.life → AnswerAlike (outcomes xs) (outcomes ys) → ys ≡ xs
  by_aim plain pid None x y h p q m n alike = q ∙ sym p
  by_aim plain pid (Some a) x y h p q m n alike = let known = h a refl in any_access plain pid a x y known.0 known.1 p q m n alike

  kind_if : (pid : Pid) (k : LineKind) → is_some (process_of w pid.0) ≡ true → if_lives w pid k ≡ k
  kind_if pid k e = ap (λ t. cond t k kind.Call) e

  pub plain_line : (pid : Pid) (addr : ℕ) (what : Attempt) (x y : Report) → b.life.kind ≡ if_lives w pid (kind.Access pid) → AccessesBy true (aim_at w b.life pid addr what) r x b xs c → AccessesBy true (aim_at w b.life pid addr what) r y (beside b o) ys d → Replays xs b.life c.life → Replays ys b.life d.life → AnswerAlike (outcomes xs) (outcomes ys) → ys ≡ xs
  plain_line pid addr what x y k p q m n alike =
      by_aim true pid.0 (aim_at w b.life pid addr what) x y
      (λ a e. let h = aimed w b.life pid addr what a e in (h, ap is_access (k ∙ kind_if pid (kind.Access pid) h.lives))) p q m n alike

  pub begun_line : (tid : ℕ) (pid : Pid) (addr : ℕ) (what : Attempt) (x y : Report) (t : Bool) → b.life.kind ≡ cond t kind.Call (if_lives w pid (kind.Thread pid)) → AccessesBy false (cond t None (aim_at w b.life pid addr what)) r x b xs c → AccessesBy false (cond t None (aim_at w b.life pid addr what)) r y (beside b o) ys d
      → Replays xs b.life c.life → Replays ys b.life d.life → AnswerAlike (outcomes xs) (outcomes ys) → ys ≡ xs
  begun_line tid pid addr what x y true k p q m n alike = q ∙ sym p
  begun_line tid pid addr what x y false k p q m n alike =
      by_aim false pid.0 (aim_at w b.life pid addr what) x y
      (λ a e. let h = aimed w b.life pid addr what a e in (h, ap is_thread (k ∙ kind_if pid (kind.Thread pid) h.lives))) p q m n alike

  pub resumed_line : (kept : Option KeptOf) (x y : Report) → b.life.kind ≡ kept_kind kept → AccessesBy false (aim_kept w b.life kept) r x b xs c → AccessesBy false (aim_kept w b.life kept) r y (beside b o) ys d → Replays xs b.life c.life → Replays ys b.life d.life → AnswerAlike (outcomes xs) (outcomes ys) → ys ≡ xs
  resumed_line None x y k p q m n alike = q ∙ sym p
  resumed_line (Some kept) x y k p q m n alike =
      by_aim false kept.pid (aim_kept w b.life (Some kept)) x y
      (λ a e. (aimed w b.life (record { 0 = kept.pid }) (address_in kept.access) (attempt_in kept.access) a e, ap is_thread k)) p q m n alike
