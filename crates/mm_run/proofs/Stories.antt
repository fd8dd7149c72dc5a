-- Lines decided one after another.
use Rattle.std.specs.Prelude.{Result}
use Rattle.std.proofs.Common.{◌≡◌, ℕ, suc, ◌+◌, Bool, List, [], ◌∷◌, ◌++◌, length, Option, Some, None, refl, sym, ap, ◌∙◌, subst, inl, inr, arith, append_assoc, length-append, add-zero}
use Rattle.std.proofs.lemmas.List.{map-append}
use Rattle.std.proofs.lemmas.List.Concat.{flat_map-append}
use Rattle.mm_types.specs.{Appended, Text, spelling, spelled, Answer, Event}
use Rattle.mm_types.proofs.{append_nil, took_then, appended_none, appended_then}
use Rattle.mm_io.specs.{with_line_feed, text_of_lines, Filled}
use Rattle.mm_io.proofs.{filled_none}
use Rattle.mm_run.specs.{Ending, Outset, Stage, NotBegun, Running, Follows, with_flush, log_of, replay_of, DecidedLine, IsNextLine, AreAnswered}
use Rattle.mm_run.specs.{HoldMovesOf, last_stage, texts_of, answers_in, IsFrontWithin, most_kept, ClosesRun, Left, IsLogLeft, TakesMemory, KeepsAnswers, WentOn}
use Rattle.mm_run.specs.{CameToEnd, Comes, SettlesRun, StandsAt, Outside, RunStand, outside, stand}
use Rattle.mm_run.specs.declared.endings.Ending.TheVariants as ending
use Rattle.mm_dispatch.specs.{Scene}
use Rattle.mm_move_rules.specs.{Log, IsFrontOf, LogGrew, Grew, Flushed, spelled_moves}
use Rattle.mm_move_rules.proofs.{front_of_then, gave_nothing, gave_then}

-- ---- the lists of lines

pub last-append : (old : Stage) (xs ys : List DecidedLine) → last_stage old (xs ++ ys) ≡ last_stage (last_stage old xs) ys
last-append old [] ys = refl
last-append old (x ∷ xs) ys = last-append x.after xs ys

pub answered_then : (n : ℕ) (old : Stage) (xs ys : List DecidedLine) → AreAnswered n old xs → AreAnswered (n + length xs) (last_stage old xs) ys → AreAnswered n old (xs ++ ys)
answered_then n old [] ys u v = subst (λ (m : ℕ). AreAnswered m old ys) (add-zero n) v
answered_then n old (x ∷ xs) ys u v =
    let next : n + suc (length xs) ≡ suc n + length xs = omega arith in
    (u.0, u.1, answered_then (suc n) x.after xs ys u.2 (subst (λ (m : ℕ). AreAnswered m (last_stage x.after xs) ys) next v))

-- ---- nothing changes between two lines

pub follows_here : (s : Stage) → Follows s s
follows_here (NotBegun o) = record { same = refl; later = omega arith; gave = gave_nothing o.log }
follows_here (Running s) = record { same = refl; later = omega arith; gave = gave_nothing s.behind.log }

flush_twice : (p q : Option (List ℕ)) (j k : ℕ) (s : Stage) → with_flush p j (with_flush q k s) ≡ with_flush p j s
flush_twice p q j k (NotBegun o) = refl
flush_twice p q j k (Running s) = refl

pub follows_then : (a b c : Stage) → Follows a b → Follows b c → Follows a c
follows_then a b c u v = record {
  same = v.same ∙ ap (λ (s : Stage). with_flush (log_of c).given (log_of c).faults s) u.same
      ∙ flush_twice (log_of c).given (log_of b).given (log_of c).faults (log_of b).faults a;
  later = let i = u.later in let j = v.later in omega arith;
  gave = gave_then (log_of a) (log_of b) (log_of c) u.gave v.gave;
}

life_with : (g : Option (List ℕ)) (k : ℕ) (s : Stage) → replay_of (with_flush g k s) ≡ replay_of s
life_with g k (NotBegun o) = refl
life_with g k (Running s) = refl

bytes_with : (g : Option (List ℕ)) (k : ℕ) (s : Stage) → (log_of (with_flush g k s)).bytes ≡ (log_of s).bytes
bytes_with g k (NotBegun o) = refl
bytes_with g k (Running s) = refl

failed_with : (g : Option (List ℕ)) (k : ℕ) (s : Stage) → (log_of (with_flush g k s)).failed ≡ (log_of s).failed
failed_with g k (NotBegun o) = refl
failed_with g k (Running s) = refl

pub life_follows : (a b : Stage) → Follows a b → replay_of b ≡ replay_of a
life_follows a b h = ap replay_of h.same ∙ life_with (log_of b).given (log_of b).faults a

pub bytes_follow : (a b : Stage) → Follows a b → (log_of b).bytes ≡ (log_of a).bytes
bytes_follow a b h = ap (λ (s : Stage). (log_of s).bytes) h.same ∙ bytes_with (log_of b).given (log_of b).faults a

pub failed_follows : (a b : Stage) → Follows a b → (log_of b).failed ≡ (log_of a).failed
failed_follows a b h = ap (λ (s : Stage). (log_of s).failed) h.same ∙ failed_with (log_of b).given (log_of b).faults a

next_from : (n : ℕ) (a b : Stage) (l : DecidedLine) → Follows a b → IsNextLine n b l → IsNextLine n a l
next_from n a b l h u = record { follows = follows_then a b l.before h u.follows; says = u.says; decided = u.decided }

answered_from : (n : ℕ) (a b : Stage) (ys : List DecidedLine) → Follows a b → AreAnswered n b ys → AreAnswered n a ys
answered_from n a b [] h u = tt
answered_from n a b (y ∷ ys) h u = (next_from n a b y h u.0, u.1, u.2)

last_from : (a b : Stage) (ys : List DecidedLine) → Follows a b → Follows (last_stage a ys) (last_stage b ys)
last_from a b [] h = h
last_from a b (y ∷ ys) h = follows_here (last_stage y.after ys)

takes_with : (g : Option (List ℕ)) (k : ℕ) (s : Stage) (event : Event) → TakesMemory (with_flush g k s) event → TakesMemory s event
takes_with g k (NotBegun o) event h = h
takes_with g k (Running s) event h = h

takes_from : (a b : Stage) (event : Event) → Follows a b → TakesMemory b event → TakesMemory a event
takes_from a b event h t = takes_with (log_of b).given (log_of b).faults a event (subst (λ (s : Stage). TakesMemory s event) h.same t)

closes_from : (e : Ending) (n : ℕ) (front : Text) (a b end : Stage) → Follows a b → ClosesRun e n front b end → ClosesRun e n front a end
closes_from ending.NoMemory n front a b end h c = record {
  line = c.line;
  event = c.event;
  whole = c.whole;
  says = c.says;
  broken = elim c.broken [
    | inl m ↦ inl (m.0, follows_then a b end h m.1)
    | inr m ↦ inr (takes_from a b c.event h m.0, record { before = m.1.before; follows = follows_then a b m.1.before h m.1.follows; breaks = m.1.breaks })
  ];
}
closes_from ending.MovesFault n front a b end h (inl c) = inl (follows_then a b end h c)
closes_from ending.MovesFault n front a b end h (inr c) =
    inr (record { line = c.line; whole = c.whole; muted = record { next = next_from n a b c.line h c.muted.next; failed = c.muted.failed }; after = c.after })
closes_from x n front a b end h c = follows_then a b end h c

-- the second lines begin at a number that is equal, and at a stage that follows
answered_at : (n m : ℕ) (old mid : Stage) (xs ys : List DecidedLine) → AreAnswered n old xs → m ≡ n + length xs → Follows (last_stage old xs) mid → AreAnswered m mid ys → AreAnswered n old (xs ++ ys)
answered_at n m old mid xs ys u p q v =
    answered_then n old xs ys u (subst (λ (k : ℕ). AreAnswered k (last_stage old xs) ys) p (answered_from m (last_stage old xs) mid ys q v))

last_at : (old mid : Stage) (xs ys : List DecidedLine) → Follows (last_stage old xs) mid → Follows (last_stage old (xs ++ ys)) (last_stage mid ys)
last_at old mid xs ys q =
    subst (λ (s : Stage). Follows s (last_stage mid ys)) (sym (last-append old xs ys)) (last_from (last_stage old xs) mid ys q)

pub spelled_lines : (xs ys : List DecidedLine) → spelled (answers_in (xs ++ ys)) ≡ spelled (answers_in xs) ++ spelled (answers_in ys)
spelled_lines xs ys = ap spelled (map-append (λ (l : DecidedLine). l.answer) xs ys) ∙ flat_map-append spelling (answers_in xs) (answers_in ys)

-- ---- the bytes that hold the moves of lines

pub held_by_more : (ls : List DecidedLine) (bytes more : Option Text) → IsFrontOf bytes more → HoldMovesOf ls bytes → HoldMovesOf ls more
held_by_more [] bytes more f h = tt
held_by_more (l ∷ ls) bytes more f h = (front_of_then (log_of l.after).bytes bytes more h.0 f, held_by_more ls bytes more f h.1)

pub held_both : (xs ys : List DecidedLine) (bytes : Option Text) → HoldMovesOf xs bytes → HoldMovesOf ys bytes → HoldMovesOf (xs ++ ys) bytes
held_both [] ys bytes g h = h
held_both (x ∷ xs) ys bytes g h = (g.0, held_both xs ys bytes g.1 h)

-- the bytes of a log and those that were given on have grown
pub record LogGrows (a b : Stage) : Type 0 where
  pub bytes : IsFrontOf (log_of a).bytes (log_of b).bytes
  pub given : IsFrontOf (log_of a).given (log_of b).given

front_same : (a : Option Text) → IsFrontOf a a
front_same a = ([], appended_none a)

pub grows_here : (s : Stage) → LogGrows s s
grows_here s = record { bytes = front_same (log_of s).bytes; given = front_same (log_of s).given }

pub grows_then : (a b c : Stage) → LogGrows a b → LogGrows b c → LogGrows a c
grows_then a b c u v = record {
  bytes = front_of_then (log_of a).bytes (log_of b).bytes (log_of c).bytes u.bytes v.bytes;
  given = front_of_then (log_of a).given (log_of b).given (log_of c).given u.given v.given;
}

pub grows_follows : (a b : Stage) → Follows a b → LogGrows a b
grows_follows a b h = record {
  bytes = subst (λ (t : Option Text). IsFrontOf (log_of a).bytes t) (sym (bytes_follow a b h)) (front_same (log_of a).bytes);
  given = h.gave.grows;
}

front_told : (a b : Option (List ℕ)) (text : List ℕ) (p q : Bool) → LogGrew a b text p q → IsFrontOf a b
front_told None None text p q t = ([], tt)
front_told None (Some b) text p q t = absurd t
front_told (Some a) None text p q t = absurd t
front_told (Some a) (Some b) text p q t = (t.front, t.written)

pub grows_grew : (a b : Stage) (text : List ℕ) → Grew (log_of a) (log_of b) text → LogGrows a b
grows_grew a b text g = record {
  bytes = front_told (log_of a).bytes (log_of b).bytes text (log_of a).failed (log_of b).failed g.told;
  given = g.gave.grows;
}

pub grows_next : (n : ℕ) (w : Stage) (l : DecidedLine) → IsNextLine n w l → LogGrows w l.after
grows_next n w l h = grows_then w l.before l.after (grows_follows w l.before h.follows) (grows_grew l.before l.after (spelled_moves l.moves) h.decided.notes.grew)

-- the lines that are kept stay so
pub kept_on : (ks : List DecidedLine) (text : Text) (a b : Stage) → LogGrows a b → KeepsAnswers ks text a → KeepsAnswers ks text b
kept_on ks text a b g k = record { text_is = k.text_is; noted = held_by_more ks (log_of a).bytes (log_of b).bytes g.bytes k.noted }

-- one line more is kept
pub kept_more : (ks : List DecidedLine) (text text' : Text) (a : Stage) (l : DecidedLine) → LogGrows a l.after → text' ≡ text ++ spelling l.answer → KeepsAnswers ks text a → KeepsAnswers (ks ++ l ∷ []) text' l.after
kept_more ks text text' a l g e k = record {
  text_is = e ∙ ap (λ t. t ++ spelling l.answer) k.text_is ∙ ap (λ t. spelled (answers_in ks) ++ t) (sym (append_nil (spelling l.answer))) ∙ sym (spelled_lines ks (l ∷ []));
  noted = held_both ks (l ∷ []) (log_of l.after).bytes (held_by_more ks (log_of a).bytes (log_of l.after).bytes g.bytes k.noted) (front_same (log_of l.after).bytes, tt);
}

-- ---- which lines are told

-- some are told and others kept, and then more
split_then : (ks ls ms told still told' still' : List DecidedLine) → ks ++ ls ≡ told ++ still → still ++ ms ≡ told' ++ still' → ks ++ (ls ++ ms) ≡ (told ++ told') ++ still'
split_then ks ls ms told still told' still' e f =
    sym (append_assoc ks ls ms) ∙ ap (λ xs. xs ++ ms) e ∙ append_assoc told still ms ∙ ap (λ xs. told ++ xs) f ∙ sym (append_assoc told told' still')

whole_more : (xs ys : List DecidedLine) (written : Text) → written ≡ spelled (answers_in ys) → spelled (answers_in xs) ++ written ≡ spelled (answers_in (xs ++ ys))
whole_more xs ys written e = ap (λ t. spelled (answers_in xs) ++ t) e ∙ sym (spelled_lines xs ys)

front_more : (xs ys : List DecidedLine) (written : Text) → IsFrontWithin most_kept written (spelled (answers_in ys)) → IsFrontWithin most_kept (spelled (answers_in xs) ++ written) (spelled (answers_in (xs ++ ys)))
front_more xs ys written f = record {
  back = f.back;
  whole = spelled_lines xs ys ∙ ap (λ t. spelled (answers_in xs) ++ t) f.whole ∙ sym (append_assoc (spelled (answers_in xs)) written f.back);
  few = f.few;
}

stands_more : (e : Ending) (xs ys still : List DecidedLine) (written : Text) → StandsAt e ys still written → StandsAt e (xs ++ ys) still (spelled (answers_in xs) ++ written)
stands_more ending.OutFault xs ys still written s = (s.0, front_more xs ys written s.1)
stands_more e xs ys still written s = whole_more xs ys written s

-- the text of some lines, and then of others
chain : (x t u y z : Text) (ls ks : List DecidedLine) → x ++ t ≡ text_of_lines (texts_of ls) ++ y → y ++ u ≡ text_of_lines (texts_of ks) ++ z → x ++ (t ++ u) ≡ text_of_lines (texts_of (ls ++ ks)) ++ z
chain x t u y z ls ks e f =
    sym (append_assoc x t u) ∙ ap (λ xs. xs ++ u) e ∙ append_assoc (text_of_lines (texts_of ls)) y u ∙ ap (λ xs. text_of_lines (texts_of ls) ++ xs) f
    ∙ sym (append_assoc (text_of_lines (texts_of ls)) (text_of_lines (texts_of ks)) z)
    ∙ ap (λ xs. xs ++ z) (sym (ap text_of_lines (map-append (λ (l : DecidedLine). l.text) ls ks) ∙ flat_map-append with_line_feed (texts_of ls) (texts_of ks)))

module _ (a b c : Outside) (x y z : RunStand) where
  pub went_then : WentOn a b x y → WentOn b c y z → WentOn a c x z
  went_then went after kept k =
      let g = went kept k in
      let h = after g.still g.keeps in
      record {
        lines = g.lines ++ h.lines;
        taken = g.taken ++ h.taken;
        read = took_then a.left b.left c.left _ _ g.read h.read;
        whole = chain x.held g.taken h.taken y.held z.held g.lines h.lines g.whole h.whole;
        answered = answered_at x.n y.n x.stage y.stage g.lines h.lines g.answered g.count g.stage h.answered;
        stage = follows_then (last_stage x.stage (g.lines ++ h.lines)) (last_stage y.stage h.lines) z.stage (last_at x.stage y.stage g.lines h.lines g.stage) h.stage;
        count = let i = g.count in let j = h.count in omega (arith, length-append g.lines h.lines);
        told = g.told ++ h.told;
        still = h.still;
        split = split_then kept g.lines h.lines g.told g.still h.told h.still g.split h.split;
        wrote = subst (λ xs. Appended a.took c.took xs) (sym (spelled_lines g.told h.told)) (appended_then a.took b.took c.took _ _ g.wrote h.wrote);
        gave = held_both g.told h.told (log_of z.stage).given (held_by_more g.told (log_of y.stage).given (log_of z.stage).given h.grows g.gave) h.gave;
        keeps = h.keeps;
        grows = front_of_then (log_of x.stage).given (log_of y.stage).given (log_of z.stage).given g.grows h.grows;
      }

module _ (a b c : Outside) (x y : RunStand) (end : Stage) where
  pub went_came : (e : Ending) → WentOn a b x y → CameToEnd b c y e end → CameToEnd a c x e end
  went_came e went came kept k =
      let g = went kept k in
      let h = came g.still g.keeps in
      let d = h.decided in
      let i : x.n + length (g.lines ++ d.lines) ≡ y.n + length d.lines = let j = g.count in omega (arith, length-append g.lines d.lines) in
      record {
        decided = record {
          lines = g.lines ++ d.lines;
          taken = g.taken ++ d.taken;
          front = d.front;
          more = d.more;
          read = took_then a.left b.left c.left _ _ g.read d.read;
          whole = chain x.held g.taken d.taken y.held (d.front ++ d.more) g.lines d.lines g.whole d.whole;
          answered = answered_at x.n y.n x.stage y.stage g.lines d.lines g.answered g.count g.stage d.answered;
          limit = let l = d.limit in omega arith;
          settled = subst (λ (k : ℕ). SettlesRun k d.front d.more c.left e) (sym i) d.settled;
          few = d.few;
          closes = subst (λ (k : ℕ). ClosesRun e k d.front (last_stage x.stage (g.lines ++ d.lines)) end) (sym i)
              (closes_from e (y.n + length d.lines) d.front (last_stage x.stage (g.lines ++ d.lines)) (last_stage y.stage d.lines) end (last_at x.stage y.stage g.lines d.lines g.stage) d.closes);
        };
        told = g.told ++ h.told;
        still = h.still;
        split = split_then kept g.lines d.lines g.told g.still h.told h.still g.split h.split;
        written = spelled (answers_in g.told) ++ h.written;
        wrote = appended_then a.took b.took c.took _ _ g.wrote h.wrote;
        stands = stands_more e g.told h.told h.still h.written h.stands;
        gave = held_both g.told h.told (log_of end).given (held_by_more g.told (log_of y.stage).given (log_of end).given h.grows g.gave) h.gave;
        keeps = h.keeps;
        grows = front_of_then (log_of x.stage).given (log_of y.stage).given (log_of end).given g.grows h.grows;
      }

-- ---- nothing is decided

-- bytes were read, and no line was decided
pub went_filled : (a b t : Option Text) (kept x y : Text) (n : ℕ) (w : Stage) → Filled a b x y → WentOn (outside a t kept) (outside b t kept) (stand x n w) (stand y n w)
went_filled a b t kept x y n w f ks k = record {
  lines = [];
  taken = f.taken;
  read = f.took;
  whole = sym f.behind;
  answered = tt;
  stage = follows_here w;
  count = sym (add-zero n);
  told = [];
  still = ks;
  split = append_nil ks;
  wrote = appended_none t;
  gave = tt;
  keeps = k;
  grows = (follows_here w).gave.grows;
}

pub went_none : (a : Outside) (x y : RunStand) → y ≡ x → WentOn a a x y
went_none a x y e = subst (λ (z : RunStand). WentOn a a x z) (sym e) (went_filled a.left a.left a.took a.kept x.held x.held x.n x.stage (filled_none a.left x.held))

pub log_left_at : (log : Log) (x : Left) → log.bytes ≡ x.moves → log.given ≡ x.gave → log.faults ≡ x.moves_faults → IsLogLeft log x
log_left_at log x b g f = record {
  bytes_are = b;
  gave_more = subst (λ (t : Option Text). IsFrontOf log.given t) g (gave_nothing log).grows;
  faults_are = omega (arith, f);
}

-- nothing was decided, and nothing was noted
pub comes_here : (a b : Outside) (x : RunStand) (e : Ending) (o : Outset) (left : Left) → o.log.bytes ≡ left.moves → o.log.given ≡ left.gave → o.log.faults ≡ left.moves_faults
    → CameToEnd a b x e (NotBegun o) → Comes a b x e left
comes_here a b x e o left q g f h = record { end = NotBegun o; came = h; leaves = log_left_at o.log left q g f }

-- a world whose log was flushed
pub scene_follows : {T E : Type 0} (s z : Scene) (r : Result T E) → z.world ≡ s.world → z.report ≡ s.report → z.paging ≡ s.paging → z.files ≡ s.files → z.blocks ≡ s.blocks
    → z.behind ≡ record (s.behind) { log = z.behind.log } → Flushed s.behind.log z.behind.log r → Follows (Running s) (Running z)
scene_follows s z r w p f g b h l =
    let log : z.behind ≡ record (s.behind) { log = record (s.behind.log) { given = z.behind.log.given; faults = z.behind.log.faults } } =
    h ∙ ap (λ (k : Log). record (s.behind) { log = k }) l.stays in
    record {
      same = λ i. Running (record { world = w i; report = p i; paging = f i; files = g i; blocks = b i; behind = log i });
      later = l.later;
      gave = l.gave;
    }
