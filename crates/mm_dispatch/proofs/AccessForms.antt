-- An access, plain or of a thread, by the moves that its calls of the store passed.
use Rattle.std.proofs.Common.{◌≡◌, ℕ, ◌+◌, List, [], ◌∷◌, ◌++◌, Bool, true, false, Option, Some, None, refl, sym, ap, ◌∙◌, cond, arith, ◌≤◌, subst, option_map, unwrap_or, is_some}
use Rattle.std.specs.Prelude.{count_by, ◌==◌, ◌&&◌, ◌||◌, IsTrue, Result, Ok, Err}
use Rattle.std.proofs.lemmas.List.Sums.{sum_by-append}
use Rattle.mm_types.specs.{LineKind, Move, Stored, Place, Frame, Answer, Why, PageFault, Key, Pid, page_of}
use Rattle.mm_types.proofs.{or_left}
use Rattle.mm_move_rules.specs.{FrameLife, record_at, is_write as is_write_request, IsLegal, is_thread, is_access, is_io, is_call, after_move}
use Rattle.mm_move_rules.specs.{after_unmap_at, after_write_to, Replays, Waiting, Idle, ended_by, waits_after, Walk, walked, walked_all, Through}
use Rattle.mm_move_rules.specs.{waits_through, ages_through, tried_after, is_read_move, is_wrote_move, takes_frame}
use Rattle.mm_store.specs.{Aim, AccessMove, ReadyMoves, key_written, ByCopy, FromFull, InShortage, walk_from, StoreOf, place_at, PassesIn}
use Rattle.mm_move_rules.specs.{same_place}
use Rattle.mm_move_rules.specs.{changed}
use Rattle.mm_store.specs.{AccessEnds, IsSoiledFor, Had, Failed, ReadFails, is_read_fault, Touches, Copies, PageGoes}
use Rattle.mm_store.specs.Behind.{Behind}
use Rattle.mm_world.specs.{WorldOf, Attempt, Need, same_key, need_at, read_failed}
use Rattle.mm_world.specs.Report.{Report}
use Rattle.mm_store.specs.Reports.{Ends}
use Rattle.mm_store.proofs.{Joins, passes_then, waits_then, ages_then, accesses_then, fails_then}
use Rattle.mm_line_moves.specs.{aim_at, is_write_attempt, is_access_pending, is_access_served, is_failed, is_pending_read}
use Rattle.mm_line_moves.proofs.{ready_moves}
use Rattle.mm_dispatch.specs.{AnswersAccess, Answered}
use Rattle.mm_dispatch.proofs.Begun.{passes_as}
use Rattle.mm_types.specs.declared.moves.LineKind.TheVariants as kind
use Rattle.mm_types.specs.declared.moves.Move.TheVariants as move
use Rattle.mm_types.specs.declared.moves.Stored.TheVariants as stored
use Rattle.mm_types.specs.declared.answers.Answer.TheVariants as answer
use Rattle.mm_types.specs.declared.codes.Raise.TheVariants as raise
use Rattle.mm_types.specs.declared.faults.PageFault.TheVariants as fault

-- ---- counts

pub count-then : (p : Move → Bool) (xs ys : List Move) → count_by p (xs ++ ys) ≡ count_by p xs + count_by p ys
count-then p xs ys = sum_by-append (λ m. cond (p m) 1 0) xs ys

count-first : (p : Move → Bool) (m : Move) (ms : List Move) → count_by p (m ∷ ms) ≡ count_by p (m ∷ []) + count_by p ms
count-first p m ms = count-then p (m ∷ []) ms

-- ---- the walk behind moves

pub walked_life : (ms : List Move) (w : Walk) (m : FrameLife) → Replays ms w.life m → (walked_all w ms).life ≡ m
walked_life [] w m r = sym r
walked_life (x ∷ ms) w m r = walked_life ms (walked w x) m r.1

pub walked_ages : (ms : List Move) (w : Walk) → (walked_all w ms).ages ≡ ages_through ms w.ages
walked_ages [] w = refl
walked_ages (x ∷ ms) w = walked_ages ms (walked w x)

-- ---- at a place that is ready

module _ (a : Aim) where
  pub ready-reads : (ms : List Move) (b : Behind) → ReadyMoves a ms b → count_by is_read_move ms ≡ 0
  ready-reads [] b h = refl
  ready-reads (m ∷ []) b h = ap (λ (x : Move). count_by is_read_move (x ∷ [])) h.1
  ready-reads (m ∷ n ∷ ms) b h = absurd h

  pub ready-wrote : (ms : List Move) (b : Behind) → ReadyMoves a ms b → count_by is_wrote_move ms ≡ 0
  ready-wrote [] b h = refl
  ready-wrote (m ∷ []) b h = ap (λ (x : Move). count_by is_wrote_move (x ∷ [])) h.1
  ready-wrote (m ∷ n ∷ ms) b h = absurd h

  pub ready-ages : (ms : List Move) (b : Behind) (f : Place → ℕ) → ReadyMoves a ms b → ages_through ms f ≡ f
  ready-ages [] b f h = refl
  ready-ages (m ∷ []) b f h = ap (λ (x : Move). ages_through (x ∷ []) f) h.1
  ready-ages (m ∷ n ∷ ms) b f h = absurd h

-- ---- functions changed twice

once : {V : Type 0} (b : Bool) (v w x : V) → cond b v (cond b w x) ≡ cond b v x
once true v w x = refl
once false v w x = refl

pub twice : {K V : Type 0} (same : K → K → Bool) (f : K → V) (k : K) (v w : V) → changed same (changed same f k w) k v ≡ changed same f k v
twice same f k v w = λ i. λ q. once (same q k) v w (f q) i

past-end : (b : Bool) (f : ℕ) (ok : Bool) (w : Waiting) → ended_by f ok (cond b Idle w) ≡ cond b Idle (ended_by f ok w)
past-end true f ok w = refl
past-end false f ok w = refl

idle_after : (m : Move) (f : ℕ → Waiting) (tid : ℕ) → waits_after m (changed ◌==◌ f tid Idle) ≡ changed ◌==◌ (waits_after m f) tid Idle
idle_after (move.Got g) f tid = λ i. λ t. past-end (t == tid) g.0 true (f t) i
idle_after (move.Bad g) f tid = λ i. λ t. past-end (t == tid) g.0 false (f t) i
idle_after _ f tid = refl

-- a thread that waits for nothing does so through all moves
pub idle_through : (ms : List Move) (f : ℕ → Waiting) (tid : ℕ) → waits_through ms (changed ◌==◌ f tid Idle) ≡ changed ◌==◌ (waits_through ms f) tid Idle
idle_through [] f tid = refl
idle_through (m ∷ ms) f tid = ap (waits_through ms) (idle_after m f tid) ∙ idle_through ms (waits_after m f) tid

-- ---- in a line of a thread

never_ends : (b : Bool) (k : LineKind) → is_thread k ≡ true → IsTrue (b && (is_io k || is_access k || is_call k)) → ⊥
never_ends true (kind.Thread p) e h = cc
never_ends false (kind.Thread p) e h = cc
never_ends b _ e h = cc

kind-unmap : (o : Option Frame) (l : FrameLife) (p : Place) → (after_unmap_at o l p).kind ≡ l.kind
kind-unmap None l p = refl
kind-unmap (Some f) l p = refl

kind-write : (l : FrameLife) (f : ℕ) (s : Stored) → (after_write_to l f s).kind ≡ l.kind
kind-write l f (stored.Slot s) = refl
kind-write l f (stored.Block b) = refl

kind-after : (a : Aim) (w : Walk) (m : Move) (rest : List Move) → AccessMove a w m rest → (after_move w.life m).kind ≡ w.life.kind
kind-after a w (move.At n k) rest h = absurd h
kind-after a w (move.Add k None) rest h = refl
kind-after a w (move.Add k (Some b)) rest h = absurd h
kind-after a w (move.Drop k) rest h = absurd h
kind-after a w (move.Unmap p) rest h = kind-unmap (w.life.valid p) w.life p
kind-after a w (move.Write f s) rest h = kind-write w.life f.0 s
kind-after a w _ rest h = refl

thread-after : (a : Aim) (w : Walk) (m : Move) (rest : List Move) → is_thread w.life.kind ≡ true → AccessMove a w m rest → is_thread (walked w m).life.kind ≡ true
thread-after a w m rest th h = ap is_thread (kind-after a w m rest h) ∙ th

goes-start : (a : Aim) (l : FrameLife) (w : Walk) (p : Place) (ms : List Move) → PageGoes a w p ms → PageGoes (record a { start = l }) w p ms
goes-start a l w p ms (ByCopy x c shows next) = ByCopy x c shows next
goes-start a l w p ms (FromFull x none full old next) = FromFull x none full old next
goes-start a l w p ms (InShortage x s n v) = InShortage x s n v

-- a move that reads no page is one of the access however the frames stood when its line began
start-move : (a : Aim) (l : FrameLife) (w : Walk) (m : Move) (rest : List Move) → is_thread w.life.kind ≡ true → IsLegal m w.life → is_read_move m ≡ false → AccessMove a w m rest → AccessMove (record a { start = l }) w m rest
start-move a l w (move.At n k) rest th legal e h = absurd h
start-move a l w (move.Add k None) rest th legal e h = h
start-move a l w (move.Add k (Some b)) rest th legal e h = absurd h
start-move a l w (move.Drop k) rest th legal e h = absurd h
start-move a l w (move.Read f k) rest th legal e h = cc
start-move a l w (move.Unmap p) rest th legal e h = goes-start a l w p rest h
start-move a l w (move.Wrote f) rest th legal e h = absurd (never_ends (is_write_request (record_at w.life.frames f.0).request) w.life.kind th legal)
start-move a l w (move.Lost f) rest th legal e h = absurd (never_ends (is_write_request (record_at w.life.frames f.0).request) w.life.kind th legal)
start-move a l w _ rest th legal e h = h

pub record None_read (m : Move) (ms : List Move) : Type 0 where
  pub first : is_read_move m ≡ false
  pub rest : count_by is_read_move ms ≡ 0

none-read : (m : Move) (ms : List Move) → count_by is_read_move (m ∷ ms) ≡ 0 → None_read m ms
none-read m ms e = by_test (is_read_move m) refl
  where
    by_test : (b : Bool) → is_read_move m ≡ b → None_read m ms
    by_test false is = record { first = is; rest = let n : 0 + cond (is_read_move m) 1 0 + count_by is_read_move ms ≡ 0 = sym (count-first is_read_move m ms) ∙ e in omega (arith, n) }
    by_test true is = let n : 0 + cond true 1 0 + count_by is_read_move ms ≡ 0 = ap (λ b. 0 + cond b 1 0 + count_by is_read_move ms) (sym is) ∙ sym (count-first is_read_move m ms) ∙ e in absurd (omega (arith, n))

pub restarted : (a : Aim) (l : FrameLife) (ms : List Move) (w : Walk) (m : FrameLife) → is_thread w.life.kind ≡ true → count_by is_read_move ms ≡ 0 → Replays ms w.life m → Through (AccessMove a) w ms → Through (AccessMove (record a { start = l })) w ms
restarted a l [] w m th none r h = tt
restarted a l (x ∷ ms) w m th none r h =
    let n = none-read x ms none in
    (start-move a l w x ms th r.0 n.first h.0, restarted a l ms (walked w x) m (thread-after a w x ms th h.0) n.rest r.1 h.1)

tried-after : (a : Aim) (w : Walk) (m : Move) (rest : List Move) → is_thread w.life.kind ≡ true → IsLegal m w.life → w.tried ≡ [] → tried_after m w.tried ≡ []
tried-after a w (move.At n k) rest th legal e = refl
tried-after a w (move.Give f k) rest th legal e = refl
tried-after a w (move.Read f k) rest th legal e = refl
tried-after a w (move.Lost f) rest th legal e = absurd (never_ends (is_write_request (record_at w.life.frames f.0).request) w.life.kind th legal)
tried-after a w _ rest th legal e = e

none-tried : (a : Aim) (ms : List Move) (w : Walk) (m : FrameLife) → is_thread w.life.kind ≡ true → w.tried ≡ [] → Replays ms w.life m → Through (AccessMove a) w ms → (walked_all w ms).tried ≡ []
none-tried a [] w m th e r h = e
none-tried a (x ∷ ms) w m th e r h = none-tried a ms (walked w x) m (thread-after a w x ms th h.0) (tried-after a w x ms th r.0 e) r.1 h.1

-- no write of a page fails in it, so a second piece walks on as if it were the first
pub thread-walk : (a : Aim) (xs : List Move) (b c : Behind) → is_thread b.life.kind ≡ true → Replays xs b.life c.life → Through (AccessMove a) (walk_from b) xs → c.ages ≡ ages_through xs b.ages → walked_all (walk_from b) xs ≡ walk_from c
thread-walk a xs b c th r h ages =
    let life : (walked_all (walk_from b) xs).life ≡ c.life = walked_life xs (walk_from b) c.life r in
    let old : (walked_all (walk_from b) xs).ages ≡ c.ages = walked_ages xs (walk_from b) ∙ sym ages in
    let tried : (walked_all (walk_from b) xs).tried ≡ [] = none-tried a xs (walk_from b) c.life th refl r h in
    λ i. record { life = life i; ages = old i; tried = tried i }

pub kind-through : (a : Aim) (ms : List Move) (w : Walk) (m : FrameLife) → Replays ms w.life m → Through (AccessMove a) w ms → m.kind ≡ w.life.kind
kind-through a [] w m r h = ap (λ (l : FrameLife). l.kind) r
kind-through a (x ∷ ms) w m r h = kind-through a ms (walked w x) m r.1 h.1 ∙ kind-after a w x ms h.0

-- ---- what an access is about

pub aim-needs : {B : Type 0} (w : WorldOf B) (l : FrameLife) (pid : Pid) (addr : ℕ) (what : Attempt) (n : Need) → need_at w pid.0 addr what ≡ Some n → aim_at w l pid addr what ≡ Some (record { place = place_at pid (page_of addr); need = n; writes = is_write_attempt what; start = l })
aim-needs w l pid addr what n e =
    ap (option_map (λ (n : Need). let a : Aim = record { place = place_at pid (page_of addr); need = n; writes = is_write_attempt what; start = l } in a)) e

pub aim-needless : {B : Type 0} (w : WorldOf B) (l : FrameLife) (pid : Pid) (addr : ℕ) (what : Attempt) → need_at w pid.0 addr what ≡ None → aim_at w l pid addr what ≡ None
aim-needless w l pid addr what e =
    ap (option_map (λ (n : Need). let a : Aim = record { place = place_at pid (page_of addr); need = n; writes = is_write_attempt what; start = l } in a)) e

-- ---- how an access is answered by how its call of the store ended

-- an answer that gives the access its bytes
pub record Gives (r : Answer) : Type 0 where
  pub had : is_access_served r ≡ true
  pub fine : is_failed r ≡ false
  pub settled : is_pending_read r ≡ false

pub gives_bytes : (bytes : List ℕ) → Gives (answer.Bytes bytes)
gives_bytes bytes = record { had = refl; fine = refl; settled = refl }

pub gives_ok : Gives answer.Ok
gives_ok = record { had = refl; fine = refl; settled = refl }

no_frame : (n : Need) (after : Report) {T : Type 0} (why : PageFault) → Ends {T = T} n after (Err why) → read_failed n after ≡ false → why ≡ fault.NoFrame
no_frame n after fault.NoFrame e none = refl
no_frame n after fault.Read e none =
    let bad : true ≡ false = sym (e.read refl) ∙ none in cc

-- an access that was answered does not wait
pub answered_at_once : (r : Answer) → (is_access_served r || is_failed r) ≡ true → is_access_pending r ≡ false
answered_at_once (answer.Pending w) e = cc
answered_at_once r e = refl

-- of an access that does not fail, and is answered, the bytes are there
or_both : (a b c : Bool) → (a || b) ≡ true → (a || b || c) ≡ true
or_both a b c e = grind (arith, e)

pub answers_some : (r : Answer) → (is_access_served r || is_failed r) ≡ true → (is_access_served r || is_failed r || is_access_pending r) ≡ true
answers_some r e = or_both (is_access_served r) (is_failed r) (is_access_pending r) e

pub never_pending : (r : Answer) (w : Why) → (is_access_served r || is_failed r) ≡ true → r ≡ answer.Pending w → ⊥
never_pending r w e is = let bad : true ≡ false = ap is_access_pending (sym is) ∙ answered_at_once r e in cc

why_failed : (n : Need) (after : Report) {T : Type 0} (why : PageFault) → Ends {T = T} n after (Err why) → read_failed n after ≡ is_read_fault why
why_failed n after fault.NoFrame e = (e.no_frame refl).0
why_failed n after fault.Read e = e.read refl

module _ (a : Aim) (after : Report) (b : Behind) (ms : List Move) (c : Behind) where
  answers_had : (r : Answer) → Gives r → Had a b ms c → AnswersAccess a r after b ms c
  answers_had r g h = record {
    made = h.made;
    read = subst (λ (f : Bool). ReadFails (f && read_failed a.need after) ms) (sym g.fine) h.read;
    answers = or_left (is_access_served r) (is_failed r) g.had;
    served = λ e. h.served;
    short = λ e n. let bad : true ≡ false = sym e ∙ g.fine in cc;
    starved = λ e n. let bad : true ≡ false = sym e ∙ g.fine in cc;
    ages = h.ages ∙ (λ i. λ p. cond (sym g.had i) (changed same_place (ages_through ms b.ages) a.place 0 p) (ages_through ms b.ages p));
    waits = h.waits;
    settled = g.settled;
  }

  answers_lost : {T : Type 0} (why : PageFault) → Ends {T = T} a.need after (Err why) → Failed a why b ms c → AnswersAccess a (answer.Raised raise.InPageError) after b ms c
  answers_lost why e h = record {
    made = h.made;
    read = subst (λ (f : Bool). ReadFails f ms) (sym (why_failed a.need after why e)) h.read;
    answers = refl;
    served = λ bad. cc;
    short = λ f none. h.short (no_frame a.need after why e none);
    starved = λ f none. h.starved (no_frame a.need after why e none);
    ages = h.ages;
    waits = h.waits;
    settled = refl;
  }

-- what the moves of an access tell of it, whether bytes were reached where they are or copied
pub record Tells {T : Type 0} (a : Aim) (Ready : Type 0) (result : Result T PageFault) (Moved : Behind → List Move → Behind → Type 0) : Type 0 where
  pub ends : (b : Behind) (ms : List Move) (c : Behind) → Moved b ms c → AccessEnds a result b ms c
  pub calm : (b : Behind) (ms : List Move) (c : Behind) → Moved b ms c → Ready → count_by is_read_move ms ≡ 0

pub touches_tell : {T : Type 0} (a : Aim) (Ready : Type 0) (result : Result T PageFault) → Tells a Ready result (Touches a Ready result)
touches_tell a Ready result = record { ends = λ b ms c t. t.ends; calm = λ b ms c t ready. ready-reads a ms b (t.calm ready) }

pub copies_tell : {T : Type 0} (a : Aim) (Ready : Type 0) (result : Result T PageFault) → Tells a Ready result (Copies a Ready result)
copies_tell a Ready result = record { ends = λ b ms c t. t.ends; calm = λ b ms c t. t.calm }

module _ {T : Type 0} (u : Bool) (aim : Option Aim) (a : Aim) (is : aim ≡ Some a) (Ready : Type 0) (result : Result T PageFault) (Moved : Behind → List Move → Behind → Type 0) (tells : Tells a Ready result Moved) (s z : StoreOf) (b c : Behind) where
  pub answered_had : (x : T) (r : Answer) → result ≡ Ok x → Gives r → PassesIn u Moved s z b c → PassesIn u (Answered aim Ready r z.report) s z b c
  answered_had x r e g p =
      passes_as u Moved (Answered aim Ready r z.report) s z b c
      (λ ms rep t. record {
        aimed = a;
        is = is;
        answers = answers_had a z.report b ms c r g (subst (λ (o : Result T PageFault). AccessEnds a o b ms c) e (tells.ends b ms c t));
        calm = tells.calm b ms c t;
      }) p

  pub answered_lost : (why : PageFault) → result ≡ Err why → Ends a.need z.report result → PassesIn u Moved s z b c → PassesIn u (Answered aim Ready (answer.Raised raise.InPageError) z.report) s z b c
  answered_lost why e ends p =
      passes_as u Moved (Answered aim Ready (answer.Raised raise.InPageError) z.report) s z b c
      (λ ms rep t. record {
        aimed = a;
        is = is;
        answers = answers_lost a z.report b ms c why (subst (λ (o : Result T PageFault). Ends a.need z.report o) e ends) (subst (λ (o : Result T PageFault). AccessEnds a o b ms c) e (tells.ends b ms c t));
        calm = tells.calm b ms c t;
      }) p

-- an access told with another value
module _ {S T : Type 0} (u : Bool) (a : Aim) (Ready : Type 0) (first : Result S PageFault) (result : Result T PageFault) (s z : StoreOf) (b c : Behind) where
  alike_ok : (x : S) (y : T) → first ≡ Ok x → result ≡ Ok y → (ms : List Move) → AccessEnds a first b ms c → AccessEnds a result b ms c
  alike_ok x y e f ms h = subst (λ (o : Result T PageFault). AccessEnds a o b ms c) (sym f) (subst (λ (o : Result S PageFault). AccessEnds a o b ms c) e h)

  alike_err : (why : PageFault) → first ≡ Err why → result ≡ Err why → (ms : List Move) → AccessEnds a first b ms c → AccessEnds a result b ms c
  alike_err why e f ms h = subst (λ (o : Result T PageFault). AccessEnds a o b ms c) (sym f) (subst (λ (o : Result S PageFault). AccessEnds a o b ms c) e h)

  pub touched_ok : (x : S) (y : T) → first ≡ Ok x → result ≡ Ok y → PassesIn u (Touches a Ready first) s z b c → PassesIn u (Touches a Ready result) s z b c
  touched_ok x y e f p = passes_as u (Touches a Ready first) (Touches a Ready result) s z b c (λ ms rep t. record { ends = alike_ok x y e f ms t.ends; calm = t.calm }) p

  pub touched_err : (why : PageFault) → first ≡ Err why → result ≡ Err why → PassesIn u (Touches a Ready first) s z b c → PassesIn u (Touches a Ready result) s z b c
  touched_err why e f p = passes_as u (Touches a Ready first) (Touches a Ready result) s z b c (λ ms rep t. record { ends = alike_err why e f ms t.ends; calm = t.calm }) p

  pub copied_err : (why : PageFault) → first ≡ Err why → result ≡ Err why → PassesIn u (Copies a Ready first) s z b c → PassesIn u (Copies a Ready result) s z b c
  copied_err why e f p = passes_as u (Copies a Ready first) (Copies a Ready result) s z b c (λ ms rep t. record { ends = alike_err why e f ms t.ends; calm = t.calm }) p

-- ---- a write to a copy: the copy, and then the write, which is ready

module _ (a own : Aim) (place : own.place ≡ a.place) (writes : a.writes ≡ true) (wrote : own.writes ≡ true) (page : key_written own.need ≡ key_written a.need) (Was Ready : Type 0) (ready : Ready) where
  had_then : (b c d : Behind) (xs ys : List Move) → Replays xs b.life c.life → Had a b xs c → Had own c ys d → (Ready → ReadyMoves own ys c) → Had a b (xs ++ ys) d
  had_then b c d xs ys r p q calm =
      let still : ReadyMoves own ys c = calm ready in
      let reads : count_by is_read_move ys ≡ 0 = ready-reads own ys c still in
      let written : count_by is_wrote_move ys ≡ 0 = ready-wrote own ys c still in
      let one : count_by is_read_move xs ≤ 1 = p.made.one_read in
      let few : count_by is_wrote_move xs ≤ count_by takes_frame xs = p.made.few_writes in
      let all_reads = count-then is_read_move xs ys in
      let all_wrote = count-then is_wrote_move xs ys in
      let all_takes = count-then takes_frame xs ys in
      record {
        made = record {
          each = accesses_then a xs ys (walk_from b) p.made.each (ready_moves own a ys c (walked_all (walk_from b) xs) (sym place) writes page (walked_life xs (walk_from b) c.life r) still);
          one_read = omega (arith, all_reads, reads, one);
          few_writes = omega (arith, all_wrote, all_takes, written, few);
        };
        read = fails_then false xs ys p.read q.read;
        waits = q.waits ∙ ap (waits_through ys) p.waits ∙ sym (waits_then xs ys b.waits);
        served = record {
          valid = ap (λ (x : Place). is_some (d.life.valid x)) (sym place) ∙ q.served.valid;
          soiled = λ w f e. subst (λ (k : Key). IsSoiledFor k (record_at d.life.frames f.0)) page (q.served.soiled wrote f (ap d.life.valid place ∙ e));
        };
        ages =
            q.ages
            ∙ (λ i. changed same_place (ready-ages own ys c c.ages still i) (place i) 0)
            ∙ ap (λ (f : Place → ℕ). changed same_place f a.place 0) p.ages
            ∙ twice same_place (ages_through xs b.ages) a.place 0 0
            ∙ ap (λ (f : Place → ℕ). changed same_place f a.place 0) (sym (ready-ages own ys c (ages_through xs b.ages) still) ∙ sym (ages_then xs ys b.ages));
      }

  copies_write : {S T V : Type 0} (x : S) (y : T) (v : V) → Joins (Copies {T = S} a Was (Ok x)) (Touches {T = T} own Ready (Ok y)) (Copies {T = V} a Was (Ok v))
  copies_write x y v = record {
    join = λ b c d xs ys r p q. record {
      ends = had_then b c d xs ys r p.ends q.ends q.calm;
      calm = λ was.
          let reads : count_by is_read_move ys ≡ 0 = ready-reads own ys c (q.calm ready) in
          let first : count_by is_read_move xs ≡ 0 = p.calm was in
          let all = count-then is_read_move xs ys in
          omega (arith, all, reads, first);
    };
  }

  pub copied_then : {S T V : Type 0} (u : Bool) (first : Result S PageFault) (second : Result T PageFault) (result : Result V PageFault) (x : S) (y : T) (v : V) → first ≡ Ok x → second ≡ Ok y → result ≡ Ok v → (s m z : StoreOf) (b c d : Behind) → PassesIn u (Copies a Was first) s m b c → PassesIn u (Touches own Ready second) m z c d → PassesIn u (Copies a Was result) s z b d
  copied_then {S = S} {T = T} {V = V} u first second result x y v e f g s m z b c d p q =
      subst (λ (o : Result V PageFault). PassesIn u (Copies a Was o) s z b d) (sym g)
      (passes_then u (Copies a Was (Ok x)) (Touches own Ready (Ok y)) (Copies a Was (Ok v)) s m z b c d (copies_write x y v)
      (subst (λ (o : Result S PageFault). PassesIn u (Copies a Was o) s m b c) e p)
      (subst (λ (o : Result T PageFault). PassesIn u (Touches own Ready o) m z c d) f q))
