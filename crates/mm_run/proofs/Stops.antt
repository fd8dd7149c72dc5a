-- What a run comes to, at one line.
use Rattle.std.proofs.Common.{◌≡◌, ◌⊎◌, ℕ, List, suc, ◌+◌, ◌<◌, ◌≤◌, [], ◌∷◌, ◌++◌, length, take, drop, Option, refl, sym, ap, ◌∙◌, subst, inl, inr, arith, append_assoc, length-append, add-zero, add-one, length-drop}
use Rattle.std.proofs.lemmas.List.{length-take}
use Rattle.std.specs.Prelude.{Ok, Err, true}
use Rattle.mm_types.specs.{Appended, IsEnd, Text, spelling, Event}
use Rattle.mm_move_rules.specs.{spelled_moves}
use Rattle.mm_types.proofs.{append_nil, took_none, appended_none}
use Rattle.mm_io.specs.{FitsLine, with_line_feed, text_of_lines, HasLine, IsLong, Filled}
use Rattle.mm_io.proofs.{filled_none}
use Rattle.mm_dispatch.specs.{Scene}
use Rattle.mm_script.specs.{is_machine}
use Rattle.mm_run.specs.{Stage, Running, HasNoted, Follows, log_of, Ending, reading_of, BreaksLine, DecidedLine, HoldMovesOf, IsNextLine, TornText}
use Rattle.mm_run.specs.{ClosesRun, BreaksOff, TakesMemory, KeepsAnswers, IsMisplaced, WentOn, CameToEnd, SettlesRun, StandsAt, InputEndsAt, most_kept, outside}
use Rattle.mm_run.specs.{stand}
use Rattle.mm_run.specs.declared.endings.Ending.TheVariants as ending
use Rattle.mm_script.specs.{IsLine as IsLineFor}
use Rattle.mm_run.proofs.Stories.{LogGrows, follows_here, grows_here, grows_follows, grows_grew, grows_next, kept_more, kept_on}

-- No line more is decided, and none is told.
pub came_here : (a b t : Option Text) (kept x y : Text) (n : ℕ) (w end : Stage) (e : Ending) (front more : Text)
    → Filled a b x y → y ≡ front ++ more → n ≤ 1000000 → SettlesRun n front more b e → length more < 4096 → ((still : List DecidedLine) → StandsAt e [] still []) → ClosesRun e n front w end → LogGrows w end
    → CameToEnd (outside a t kept) (outside b t kept) (stand x n w) e end
came_here a b t kept x y n w end e front more f q l s few stands closes grows ks k = record {
  decided = record {
    lines = [];
    taken = f.taken;
    front = front;
    more = more;
    read = f.took;
    whole = sym f.behind ∙ q;
    answered = tt;
    limit = omega arith;
    settled = subst (λ (k : ℕ). SettlesRun k front more b e) (sym (add-zero n)) s;
    few = few;
    closes = subst (λ (k : ℕ). ClosesRun e k front w end) (sym (add-zero n)) closes;
  };
  told = [];
  still = ks;
  split = append_nil ks;
  written = [];
  wrote = appended_none t;
  stands = stands ks;
  gave = tt;
  keeps = kept_on ks kept w end grows k;
  grows = grows.given;
}

-- the line in front
module _ (held : Text) (len n : ℕ) (h : HasLine held len) (small : n < 1000000) (behind : length held < len + 1 + 4096) where
  pub is_line : FitsLine (take len held)
  is_line = record { no_feed = h.feed.first; short = let s = h.short in omega (arith, length-take len held) }

  split : held ≡ with_line_feed (take len held) ++ drop (len + 1) held
  split = h.feed.whole ∙ sym (append_assoc (take len held) (10 ∷ []) (drop (suc len) held)) ∙ ap (λ k. with_line_feed (take len held) ++ drop k held) (sym (add-one len))

  pub few : length (drop (len + 1) held) < 4096
  few = let w = h.feed.within in omega (arith, length-drop (len + 1) held)

  width : length (with_line_feed (take len held)) ≤ 257
  width = let s = h.short in omega (arith, length-take len held, length-append (take len held) (10 ∷ []))

  pub came_bad : (a t : Option Text) (kept : Text) (w : Stage) (column : ℕ) → reading_of n (take len held) ≡ Err column → ((e : Event) → IsLineFor (take len held) e → IsMisplaced n e)
      → CameToEnd (outside a t kept) (outside a t kept) (stand held n w) (ending.Script (n + 1) column) w
  came_bad a t kept w column p r =
      came_here a a t kept held held n w w _ (with_line_feed (take len held)) _ (filled_none a held) split (omega arith)
      (refl, small, inl (record { line = take len held; is_line = is_line; whole = refl; place = p; refused = r })) few (λ ks. refl) (follows_here w) (grows_here w)

  pub came_memory : (a t : Option Text) (kept : Text) (w end : Stage) (event : Event) → reading_of n (take len held) ≡ Ok event → IsLineFor (take len held) event
      → ((is_machine event ≡ true) × Follows w end) ⊎ (TakesMemory w event × BreaksOff event w end) → LogGrows w end → CameToEnd (outside a t kept) (outside a t kept) (stand held n w) ending.NoMemory end
  came_memory a t kept w end event says grammar broken grows =
      came_here a a t kept held held n w end _ (with_line_feed (take len held)) _ (filled_none a held) split (omega arith) width few (λ ks. refl)
      (record { line = take len held; event = event; whole = refl; says = record { is_line = is_line; says = says; grammar = grammar }; broken = broken }) grows

  pub came_broken : (a t : Option Text) (kept : Text) (s z : Scene) (event : Event) → reading_of n (take len held) ≡ Ok event → IsLineFor (take len held) event → TakesMemory (Running s) event → BreaksLine s event z
      → CameToEnd (outside a t kept) (outside a t kept) (stand held n (Running s)) ending.NoMemory (Running z)
  came_broken a t kept s z event says grammar takes b =
      let p = b.broken refl in
      came_memory a t kept (Running s) (Running z) event says grammar (inr (takes, record { before = Running s; follows = follows_here (Running s); breaks = b }))
      (grows_grew (Running s) (Running z) (spelled_moves p.piece) p.grew)

  pub came_setup : (a t : Option Text) (kept : Text) (w : Stage) (event : Event) → n ≡ 0 → reading_of 0 (take len held) ≡ Ok event → is_machine event ≡ true
      → CameToEnd (outside a t kept) (outside a t kept) (stand held n w) ending.SetupFault w
  came_setup a t kept w event first p m =
      came_here a a t kept held held n w w _ (with_line_feed (take len held)) _ (filled_none a held) split (omega arith)
      (record { first = first; line = take len held; event = event; whole = refl; says = p; machine = m }) few (λ ks. refl) (follows_here w) (grows_here w)

  whole_line : held ++ [] ≡ text_of_lines (take len held ∷ []) ++ drop (len + 1) held
  whole_line = append_nil held ∙ split ∙ ap (λ xs. xs ++ drop (len + 1) held) (sym (append_nil (with_line_feed (take len held))))

  module _ (a t : Option Text) (kept : Text) (w : Stage) (l : DecidedLine) (same : l.text ≡ take len held) (next : IsNextLine n w l) where
    whole_text : held ++ [] ≡ text_of_lines (l.text ∷ []) ++ drop (len + 1) held
    whole_text = whole_line ∙ ap (λ (x : Text). text_of_lines (x ∷ []) ++ drop (len + 1) held) (sym same)

    went_line : (kept' : Text) → HasNoted l.after → kept' ≡ kept ++ spelling l.answer → WentOn (outside a t kept) (outside a t kept') (stand held n w) (stand (drop (len + 1) held) (n + 1) l.after)
    went_line kept' noted u ks k = record {
      lines = l ∷ [];
      taken = [];
      read = took_none a;
      whole = whole_text;
      answered = (next, noted, tt);
      stage = follows_here l.after;
      count = omega arith;
      told = [];
      still = ks ++ l ∷ [];
      split = refl;
      wrote = appended_none t;
      gave = tt;
      keeps = kept_more ks kept kept' w l (grows_next n w l next) u k;
      grows = (grows_next n w l next).given;
    }

    pub went_to : (kept' held' : Text) → held' ≡ drop (len + 1) held → HasNoted l.after → kept' ≡ kept ++ spelling l.answer → WentOn (outside a t kept) (outside a t kept') (stand held n w) (stand held' (n + 1) l.after)
    went_to kept' held' h noted u =
        subst (λ (xs : Text). WentOn (outside a t kept) (outside a t kept') (stand held n w) (stand xs (n + 1) l.after)) (sym h) (went_line kept' noted u)

    -- its moves were not all written
    pub came_muted : (log_of l.after).failed ≡ true → CameToEnd (outside a t kept) (outside a t kept) (stand held n w) ending.MovesFault l.after
    came_muted failed =
        came_here a a t kept held held n w l.after _ (with_line_feed (take len held)) _ (filled_none a held) split (omega arith) width few (λ ks. refl)
        (inr (record { line = l; whole = ap with_line_feed (sym same); muted = record { next = next; failed = failed }; after = refl })) (grows_next n w l next)

-- ---- between two lines

module _ (a t : Option Text) (held : Text) (n : ℕ) (w z : Stage) (h : Follows w z) (l : n ≤ 1000000) (few : length held < 4096) where
  -- the moves could not be given on
  pub came_held_back : (kept : Text) → CameToEnd (outside a t kept) (outside a t kept) (stand held n w) ending.MovesFault z
  came_held_back kept =
      came_here a a t kept held held n w z ending.MovesFault [] held (filled_none a held) refl l (omega arith) few (λ ks. refl) (inl h) (grows_follows w z h)

  module _ (kept kept' : Text) (none : kept' ≡ []) (all : (log_of z).given ≡ (log_of w).bytes) where
    gave_kept : (ks : List DecidedLine) → KeepsAnswers ks kept w → HoldMovesOf ks (log_of z).given
    gave_kept ks k = subst (λ (b : Option Text). HoldMovesOf ks b) (sym all) k.noted

    none_kept : KeepsAnswers [] kept' z
    none_kept = record { text_is = none; noted = tt }

    -- they were, and then the answers
    pub went_told : (t' : Option Text) → Appended t t' kept → WentOn (outside a t kept) (outside a t' kept') (stand held n w) (stand held n z)
    went_told t' u ks k = record {
      lines = [];
      taken = [];
      read = took_none a;
      whole = append_nil held;
      answered = tt;
      stage = h;
      count = sym (add-zero n);
      told = ks;
      still = [];
      split = refl;
      wrote = subst (λ (xs : Text). Appended t t' xs) k.text_is u;
      gave = gave_kept ks k;
      keeps = none_kept;
      grows = h.gave.grows;
    }

    -- they were, and the answers could not all be written
    pub came_torn : length kept ≤ most_kept → (t' : Option Text) → TornText t t' kept → CameToEnd (outside a t kept) (outside a t' kept') (stand held n w) ending.OutFault z
    came_torn short t' u ks k = record {
      decided = record {
        lines = [];
        taken = [];
        front = [];
        more = held;
        read = took_none a;
        whole = append_nil held;
        answered = tt;
        limit = omega arith;
        settled = refl;
        few = few;
        closes = h;
      };
      told = ks;
      still = [];
      split = refl;
      written = u.front;
      wrote = u.wrote;
      stands = (
        refl,
        record {
          back = u.back;
          whole = sym k.text_is ∙ u.whole;
          few = (let all = ap length u.whole in omega (arith, all, short, length-append u.front u.back));
        },
      );
      gave = gave_kept ks k;
      keeps = none_kept;
      grows = h.gave.grows;
    }

-- the input's end
module _ (a b t : Option Text) (kept x y : Text) (n : ℕ) (w : Stage) (f : Filled a b x y) where
  empty : (xs : Text) → length xs ≡ 0 → xs ≡ []
  empty [] e = refl
  empty (x ∷ xs) e = absurd (omega arith)

  pub came_end : (e : Ending) → n < 1000000 → FitsLine y → IsEnd b → InputEndsAt n (length y) e → CameToEnd (outside a t kept) (outside b t kept) (stand x n w) e w
  came_end e small l end s = elim s [
    | inl d ↦ subst (λ (k : Ending). CameToEnd (outside a t kept) (outside b t kept) (stand x n w) k w) (sym d.2)
        (came_here a b t kept x y n w w ending.Done [] [] f (empty y d.1) (omega arith) (d.0, refl, refl, end) (omega arith) (λ ks. refl) (follows_here w) (grows_here w))
    | inr o ↦ subst (λ (k : Ending). CameToEnd (outside a t kept) (outside b t kept) (stand x n w) k w) (sym o.1)
        (came_here a b t kept x y n w w (ending.Script (n + 1) (length y + 1)) y [] f (sym (append_nil y)) (omega arith)
        (refl, small, inr (record { is_line = l; last = refl; at_end = end; some = o.0; place = refl })) (omega arith) (λ ks. refl) (follows_here w) (grows_here w))
  ]

  pub came_long : n < 1000000 → IsLong y → length y < 257 + 4096 → CameToEnd (outside a t kept) (outside b t kept) (stand x n w) (ending.TooLong (n + 1)) w
  came_long small l few =
      let m = l.many in
      came_here a b t kept x y n w w _ l.front l.more f l.whole (omega arith) (refl, inl (l.many, l.no_feed)) (omega (arith, ap length l.whole, length-append l.front l.more)) (λ ks. refl) (follows_here w) (grows_here w)

  pub came_read : n ≤ 1000000 → FitsLine y → CameToEnd (outside a t kept) (outside b t kept) (stand x n w) ending.ReadFault w
  came_read small l = came_here a b t kept x y n w w _ y [] f (sym (append_nil y)) small (l, refl) (omega arith) (λ ks. refl) (follows_here w) (grows_here w)

  pub came_done : n ≡ 1000000 → y ≡ [] → IsEnd b → CameToEnd (outside a t kept) (outside b t kept) (stand x n w) ending.Done w
  came_done full e end = came_here a b t kept x y n w w ending.Done [] [] f e (omega arith) (omega arith, refl, refl, end) (omega arith) (λ ks. refl) (follows_here w) (grows_here w)

  pub came_line : n ≡ 1000000 → 0 < length y → length y < 1 + 4096 → CameToEnd (outside a t kept) (outside b t kept) (stand x n w) (ending.TooLong (n + 1)) w
  came_line full some few = go y refl some few
    where
      go : (ys : Text) → y ≡ ys → 0 < length ys → length ys < 1 + 4096 → CameToEnd (outside a t kept) (outside b t kept) (stand x n w) (ending.TooLong (n + 1)) w
      go [] e s l = absurd (omega arith)
      go (z ∷ zs) e s l = came_here a b t kept x y n w w _ (z ∷ []) zs f e (omega arith) (refl, inr (full, refl)) (omega arith) (λ ks. refl) (follows_here w) (grows_here w)

pub line_of_none : (xs : Text) → xs ≡ [] → FitsLine xs
line_of_none xs e = subst FitsLine (sym e) (record { no_feed = tt; short = omega arith })
