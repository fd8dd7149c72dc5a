-- What lines tell of written pages is what the flags of watched regions are.
use Rattle.std.proofs.Common.{◌≡◌, ◌≢◌, ℕ, zero, suc, ◌+◌, ◌<◌, ◌≤◌, Bool, true, false, cond, Option, Some, None, List, [], ◌∷◌, length, refl, sym, ap, ◌∙◌, arith, inl, inr}
use Rattle.std.specs.Prelude.{◌==◌, ◌&&◌, not, map, take, filter, slice_index_or, slice_set, unwrap_or, is_some}
use Rattle.std.specs.List.{range_with_len}
use Rattle.std.proofs.lemmas.Bool.{cond_both, eq-eqb, eqb-true}
use Rattle.std.proofs.lemmas.Bool.Decides.{eqb_tells}
use Rattle.std.proofs.lemmas.List.{get_or-set_same, get_or-set_other, get_or-map, length-map, length-set}
use Rattle.mm_types.specs.{Answer, AccessSpec, Event, Place, Range, address_of}
use Rattle.mm_types.specs.declared.answers.Answer.TheVariants as answer
use Rattle.mm_types.specs.declared.events.AccessSpec.TheVariants as spec
use Rattle.mm_types.specs.declared.events.Event.TheVariants as line
use Rattle.mm_world.specs.{KeptOf, kept_by, flag_of, is_flagged, FlagTold, Begun, Told, GivesFlagged, access_writes, kept_writes, line_begins}
use Rattle.mm_world.specs.{line_clears, line_wrote, written_after, ends_none, page_written, write_of, writes_of, unless_in, writes_after}
use Rattle.mm_world.specs.World.{World}
use Rattle.mm_run.specs.{WriteMarks, keeps_after, write_marks_after}

-- ---- the write that a thread keeps

module _ (pid page : ℕ) where
  abbrev pub writes_to : Option Place → Bool
  writes_to None = false
  writes_to (Some p) = (p.pid.0 == pid) && (p.vpn.0 == page)

  written_access : (by : ℕ) (what : AccessSpec) → access_writes pid page by what ≡ writes_to (page_written by what)
  written_access by (spec.Read addr len) = refl
  written_access by (spec.Write addr bytes) = refl

  pub kept_access : (k : Option KeptOf) → kept_writes pid page k ≡ writes_to (write_of k)
  kept_access None = refl
  kept_access (Some k) = written_access k.pid k.access

  left_or : (by : ℕ) (p : Place) (t : Bool) (u : Bool) → (p.pid.0 == by) ≡ t → (by == pid) ≡ u → writes_to (cond t None (Some p)) ≡ cond u false (writes_to (Some p))
  left_or by p true true e f = refl
  left_or by p true false e f =
      let same = eqb-true p.pid.0 by e in
      let other : (p.pid.0 == pid) ≡ false = ap (λ (n : ℕ). n == pid) same ∙ f in
      sym (ap (λ (b : Bool). b && (p.vpn.0 == page)) other)
  left_or by p false true e f =
      let same = eqb-true by pid f in
      let other : (p.pid.0 == pid) ≡ false = ap (λ (n : ℕ). p.pid.0 == n) (sym same) ∙ e in
      ap (λ (b : Bool). b && (p.vpn.0 == page)) other
  left_or by p false false e f = refl

  left_by : (by : ℕ) (o : Option Place) → writes_to (unless_in by o) ≡ cond (by == pid) false (writes_to o)
  left_by by None = cond_both (by == pid) false false (λ b. false ≡ b) (λ e. refl) (λ e. refl)
  left_by by (Some p) = left_or by p (p.pid.0 == by) (by == pid) refl refl

  -- what a line does to what one thread keeps
  abbrev keeps_at : List (Option Place) → ℕ → Bool
  keeps_at writes thread = writes_to (slice_index_or writes thread None)

  put_one : (writes : List (Option Place)) (tid thread : ℕ) (x : Option Place) (t : Bool) → thread < length writes → (tid == thread) ≡ t → keeps_at (slice_set writes tid x) thread ≡ cond t (writes_to x) (keeps_at writes thread)
  put_one writes tid thread x true inside e =
      let same = eqb-true tid thread e in
      ap writes_to
      (ap (λ (n : ℕ). slice_index_or (slice_set writes n x) thread None) same ∙ get_or-set_same writes thread x None inside)
  put_one writes tid thread x false inside e =
      let other : thread ≢ tid = λ same. (let bad : true ≡ false = sym (eq-eqb tid thread (sym same)) ∙ e in cc) in
      ap writes_to (get_or-set_other writes tid thread x None other)

  ended_one : (writes : List (Option Place)) (tid thread : ℕ) (n : Bool) (was : Bool) → thread < length writes → was ≡ keeps_at writes thread → cond ((tid == thread) && not n) false was ≡ keeps_at (cond n writes (slice_set writes tid None)) thread
  ended_one writes tid thread true was inside same = by_and (tid == thread)
    where
      by_and : (t : Bool) → cond (t && false) false was ≡ keeps_at writes thread
      by_and true = same
      by_and false = same
  ended_one writes tid thread false was inside same =
      by_and (tid == thread) ∙ sym (put_one writes tid thread None (tid == thread) inside refl)
    where
      by_and : (t : Bool) → cond (t && true) false was ≡ cond t false (keeps_at writes thread)
      by_and true = refl
      by_and false = same

  map_index : (f : Option Place → Option Place) (writes : List (Option Place)) (i : ℕ) → i < length writes → slice_index_or (map f writes) i None ≡ f (slice_index_or writes i None)
  map_index f writes i inside = get_or-map f writes i None None inside

  pub keeps_stays : (writes : List (Option Place)) (thread : ℕ) (was : Bool) (e : Event) (a : Answer) → thread < length writes → was ≡ keeps_at writes thread → keeps_after pid page thread was e a ≡ keeps_at (writes_after writes e a) thread
  keeps_stays writes thread was (line.Begin tid by what) (answer.Pending why) inside same =
      by_thread (tid.0 == thread) refl
    where
      by_thread : (t : Bool) → (tid.0 == thread) ≡ t → cond t (access_writes pid page by.0 what) was ≡ keeps_at (slice_set writes tid.0 (page_written by.0 what)) thread
      by_thread true e = written_access by.0 what ∙ sym (put_one writes tid.0 thread (page_written by.0 what) true inside e)
      by_thread false e = same ∙ sym (put_one writes tid.0 thread (page_written by.0 what) false inside e)
  keeps_stays writes thread was (line.Resume tid) a inside same = ended_one writes tid.0 thread (ends_none a) was inside same
  keeps_stays writes thread was (line.Exit by) answer.Ok inside same =
      ap (λ (x : Bool). cond (by.0 == pid) false x) same
      ∙ sym (ap writes_to (map_index (unless_in by.0) writes thread inside) ∙ left_by by.0 (slice_index_or writes thread None))
  keeps_stays writes thread was e a inside same = same

pub as_many : (writes : List (Option Place)) (e : Event) (a : Answer) → length (writes_after writes e a) ≡ length writes
as_many writes (line.Begin tid by what) (answer.Pending why) = length-set writes tid.0 (page_written by.0 what)
as_many writes (line.Resume tid) a = cond_both (ends_none a) writes (slice_set writes tid.0 None) (λ xs. length xs ≡ length writes) (λ e. refl) (λ e. length-set writes tid.0 None)
as_many writes (line.Exit by) answer.Ok = length-map writes (unless_in by.0)
as_many writes e a = refl

-- ---- one line

-- a `resume` that was answered `ok` went on with an access
abbrev pub WentOn : World → Event → Answer → Type 0
WentOn w (line.Resume tid) answer.Ok = tid.0 < length (writes_of w)
WentOn w _ _ = Unit {0}

-- what lines tell of each page, and what stands of it
pub record Agrees (m : ℕ → ℕ → WriteMarks) (w : World) : Type 0 where
  pub keeps : (pid page thread : ℕ) → thread < length (writes_of w) → (m pid page).keeps thread ≡ writes_to pid page (slice_index_or (writes_of w) thread None)
  pub written : (pid page : ℕ) (b : Bool) → flag_of w pid page ≡ Some b → b ≡ (m pid page).written

kept_in : (w : World) (tid : ℕ) → tid < length (writes_of w) → write_of (kept_by w tid) ≡ slice_index_or (writes_of w) tid None
kept_in w tid inside = at w.kept tid
  where
    at : (ks : List (Option KeptOf)) (i : ℕ) → write_of (slice_index_or ks i None) ≡ slice_index_or (map write_of ks) i None
    at [] zero = refl
    at [] (suc i) = refl
    at (k ∷ ks) zero = refl
    at (k ∷ ks) (suc i) = at ks i

module _ (m : ℕ → ℕ → WriteMarks) (w v : World) (e : Event) (a : Answer) (agrees : Agrees m w) (kept : writes_of v ≡ writes_after (writes_of w) e a) (on : WentOn w e a) where
  module _ (pid page : ℕ) where
    abbrev keeps_now : ℕ → Bool
    keeps_now tid = kept_writes pid page (kept_by w tid)

    same_write : (e : Event) (a : Answer) → WentOn w e a → line_wrote pid page (m pid page).keeps e a ≡ line_wrote pid page keeps_now e a
    same_write (line.Write by addr bytes) answer.Ok on = refl
    same_write (line.Begin tid by what) answer.Ok on = refl
    same_write (line.Resume tid) answer.Ok on =
        agrees.keeps pid page tid.0 on ∙ sym (ap (writes_to pid page) (kept_in w tid.0 on)) ∙ sym (kept_access pid page (kept_by w tid.0))
    same_write e a on = refl

    told_so : (b : Bool) → FlagTold w e a pid page b → b ≡ written_after pid page (m pid page).keeps (m pid page).written e a
    told_so b (Begun begins unwritten) =
        unwritten ∙ sym (ap (λ (t : Bool). cond t false (cond (line_clears pid page e a) false (cond (line_wrote pid page (m pid page).keeps e a) true (m pid page).written))) begins)
    told_so b (Told was flag begins is) =
        is
        ∙ ap (λ (x : Bool). cond (line_begins pid page e a) false (cond (line_clears pid page e a) false (cond x true was))) (sym (same_write e a on))
        ∙ ap (λ (x : Bool). cond (line_begins pid page e a) false (cond (line_clears pid page e a) false (cond (line_wrote pid page (m pid page).keeps e a) true x))) (agrees.written pid page was flag)

  pub agrees_on : ((pid page : ℕ) (b : Bool) → flag_of v pid page ≡ Some b → FlagTold w e a pid page b) → Agrees (λ pid page. write_marks_after pid page (m pid page) (record { event = e; answer = a })) v
  agrees_on told = record {
    keeps = λ pid page thread inside.
        let many : length (writes_of v) ≡ length (writes_of w) = ap length kept ∙ as_many (writes_of w) e a in
        let within : thread < length (writes_of w) = omega (arith, many, inside) in
        keeps_stays pid page (writes_of w) thread ((m pid page).keeps thread) e a within (agrees.keeps pid page thread within)
        ∙ sym (ap (λ (ps : List (Option Place)). writes_to pid page (slice_index_or ps thread None)) kept);
    written = λ pid page b flag. told_so pid page b (told pid page b flag);
  }

-- ---- what a watched range gives

filter_same : (f g : ℕ → Bool) (first n : ℕ) → ((i : ℕ) → first ≤ i → i < first + n → f i ≡ g i) → filter f (range_with_len first n) ≡ filter g (range_with_len first n)
filter_same f g first zero same = refl
filter_same f g first (suc n) same =
    let rest = filter_same f g (first + 1) n (λ i low high. same i (omega arith) (omega arith)) in
    ap (λ (b : Bool). cond b (first ∷ filter f (range_with_len (first + 1) n)) (filter f (range_with_len (first + 1) n))) (same first (omega arith) (omega arith))
    ∙ ap (λ (xs : List ℕ). cond (g first) (first ∷ xs) xs) rest

flagged_so : (o : Option Bool) (was : Bool) → is_some o ≡ true → ((b : Bool) → o ≡ Some b → b ≡ was) → unwrap_or o false ≡ was
flagged_so None was some same = cc
flagged_so (Some b) was some same = same b refl

pub gives : (m : ℕ → ℕ → WriteMarks) (w : World) → Agrees m w → (pid : ℕ) (range : Range) (count : ℕ) (pages : List ℕ) → GivesFlagged w pid range count pages
    → pages ≡ map address_of (take count (filter (λ page. (m pid page).written) (range_with_len range.first range.count)))
gives m w agrees pid range count pages g =
    g.given
    ∙ ap (λ (ps : List ℕ). map address_of (take count ps))
    (filter_same (is_flagged w pid) (λ page. (m pid page).written) range.first range.count (λ page low high. flagged_so (flag_of w pid page) (m pid page).written (g.flagged page low high) (agrees.written pid page)))
