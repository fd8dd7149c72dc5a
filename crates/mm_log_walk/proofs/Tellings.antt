-- A log that is told, move by move.
use Rattle.std.proofs.Common.{◌≡◌, ℕ, ◌<◌, Bool, true, false, List, [], ◌∷◌, ◌++◌, Option, Some, None, refl, sym, ap, ◌∙◌, subst, append_assoc, arith, inl, inr}
use Rattle.std.specs.Prelude.{if◌then◌else◌}
use Rattle.mm_types.specs.{Text, Appended, Move}
use Rattle.mm_types.proofs.{append_nil, appended_none, appended_then, took_none}
use Rattle.mm_io.specs.{Wrote}
use Rattle.mm_move_rules.specs.{FrameLife, unstarted, after_move, IsLegal}
use Rattle.mm_move_rules.proofs.{replays_then}
use Rattle.mm_log_check.specs.{most_log_bytes, IsReadyToRead, Lines, ReadsMoves, Stops, LogReader, Ending}
use Rattle.mm_log_check.specs.Reading.{Reading}
use Rattle.mm_log_check.specs.declared.endings.Ending.TheVariants as ending
use Rattle.mm_log_walk.specs.{fits, AreFit, Beside, IsMisfit, RestOf, Poured, Tells, Closes, ClosesAt, BeginsAll, HaltsTelling, HasBegun, Said, Why}
use Rattle.mm_log_walk.specs.{ends_well, close_words, said_from_first, closing_text, closing_status, HasTold, Closing, IsBroken, EndsSaying, is_broken, surplus}
use Rattle.mm_log_walk.specs.{whole_closing, end_closing, fits_script, Misfits, Sought}
use Rattle.mm_log_walk.specs.declared.closings.Closing.TheVariants as closing

pub fit_more : (b : Beside) (ms : List Move) (m : Move) → AreFit b ms → fits b m ≡ true → AreFit b (ms ++ m ∷ [])
fit_more b [] m a e = (e, tt)
fit_more b (x ∷ xs) m a e = (a.0, fit_more b xs m a.1 e)

-- nothing was read
pub tells_none : (left took : Option Text) (b : Beside) (r : LogReader) (rest : RestOf) (l : FrameLife) (kept : Text) → Reading left left r [] → l ≡ unstarted → kept ≡ []
    → Tells left left took took b r rest rest l kept
tells_none left took b r rest l kept reading e none = record {
  moves = [];
  reading = reading;
  replays = e;
  fit = tt;
  written = [];
  appended = appended_none took;
  told = λ whole ms. ap (λ xs. xs ++ rest whole l ms) none ∙ ap (λ (k : FrameLife). rest whole k ms) e;
}

-- the next move was read, told and made, and some of what is kept was written
pub tells_more : (left mid left' took now took' : Option Text) (b : Beside) (r r' : LogReader) (rest rest1 : RestOf) (l : FrameLife) (text1 : Text) (m : Move) (rest2 : RestOf) (l' : FrameLife) (text2 text3 : Text)
    → (s : Tells left mid took now b r rest rest1 l text1) → ReadsMoves left left' r' s.moves l m → fits b m ≡ true → l' ≡ after_move l m
    → ((whole : Bool) (ms : List Move) → text2 ++ rest2 whole l' ms ≡ text1 ++ rest1 whole l (m ∷ ms)) → Poured now took' text2 text3
    → Tells left left' took took' b r' rest rest2 l' text3
tells_more left mid left' took now took' b r r' rest rest1 l text1 m rest2 l' text2 text3 s n fit after step p = record {
  moves = s.moves ++ m ∷ [];
  reading = n.reading;
  replays = replays_then s.moves (m ∷ []) unstarted l l' s.replays (n.legal, after);
  fit = fit_more b s.moves m s.fit fit;
  written = s.written ++ p.written;
  appended = appended_then took now took' s.written p.written s.appended p.appended;
  told = λ whole ms.
      let rest' : Text = rest2 whole l' ms in
      ap (λ xs. xs ++ rest') (append_assoc s.written p.written text3 ∙ ap (λ xs. s.written ++ xs) (sym p.whole))
      ∙ append_assoc s.written text2 rest'
      ∙ ap (λ xs. s.written ++ xs) (step whole ms)
      ∙ sym (append_assoc s.written text1 (rest1 whole l (m ∷ ms)))
      ∙ s.told whole (m ∷ ms)
      ∙ ap (λ (xs : List Move). rest whole unstarted xs) (sym (append_assoc s.moves (m ∷ []) ms));
}

-- in front of what is said of each log that begins with these moves
begins_all : (rest rest' : RestOf) (moves : List Move) (l : FrameLife) (front kept : Text) → ((whole : Bool) (ms : List Move) → (front ++ kept) ++ rest' whole l ms ≡ rest whole unstarted (moves ++ ms))
    → (whole : Bool) (more : List Move) → BeginsAll (said_from_first rest) moves front whole more
begins_all rest rest' moves l front kept told whole more = record { behind = kept ++ rest' whole l more; is_front = sym (told whole more) ∙ append_assoc front kept (rest' whole l more) }

-- memory was refused for the next move's line
begun_stop : (left mid left' took took' : Option Text) (b : Beside) (r : LogReader) (rest rest' : RestOf) (l : FrameLife) (kept : Text) (e : Ending)
    → (s : Tells left mid took took' b r rest rest' l kept) → Stops left left' s.moves l e → HasBegun left left' took took' b (said_from_first rest)
begun_stop left mid left' took took' b r rest rest' l kept e s stop = record {
  moves = s.moves;
  life = l;
  held = stop.held;
  total = stop.total;
  lines = stop.lines;
  replays = s.replays;
  fit = s.fit;
  front = s.written;
  written = s.appended;
  begins = begins_all rest rest' s.moves l s.written kept s.told;
}

closes_at : (left mid left' took took' : Option Text) (b : Beside) (r : LogReader) (rest rest' : RestOf) (l : FrameLife) (kept : Text) (c : Closing)
    → (s : Tells left mid took took' b r rest rest' l kept) → ClosesAt c left left' b s.moves l → Closes left left' took took' b rest c rest' l kept
closes_at left mid left' took took' b r rest rest' l kept c s at =
    record { moves = s.moves; replays = s.replays; fit = s.fit; written = s.written; appended = s.appended; told = s.told; at = at }

-- the log is whole
halts_whole : (left mid left' took took' : Option Text) (b : Beside) (r : LogReader) (rest rest' : RestOf) (l : FrameLife) (kept : Text) (o : Option ℕ)
    → (s : Tells left mid took took' b r rest rest' l kept) → Stops left left' s.moves l ending.Yes → surplus b.answers l.line ≡ o
    → HaltsTelling (is_broken (whole_closing o)) left left' took took' b rest (whole_closing o) rest' l kept
halts_whole left mid left' took took' b r rest rest' l kept None s stop e =
    closes_at left mid left' took took' b r rest rest' l kept (closing.Ended ending.Yes) s (record { stop = stop; close = ap whole_closing (sym e) })
halts_whole left mid left' took took' b r rest rest' l kept (Some n) s stop e =
    closes_at left mid left' took took' b r rest rest' l kept (closing.Surplus n) s (record { stop = stop; close = ap whole_closing (sym e) })

-- there is no next move
pub halts_stop : (left mid left' took took' : Option Text) (b : Beside) (r : LogReader) (rest rest' : RestOf) (l : FrameLife) (kept : Text) (e : Ending)
    → (s : Tells left mid took took' b r rest rest' l kept) → Stops left left' s.moves l e
    → HaltsTelling (is_broken (end_closing b.answers l.line e)) left left' took took' b rest (end_closing b.answers l.line e) rest' l kept
halts_stop left mid left' took took' b r rest rest' l kept ending.Yes s stop =
    halts_whole left mid left' took took' b r rest rest' l kept (surplus b.answers l.line) s stop refl
halts_stop left mid left' took took' b r rest rest' l kept (ending.No n m) s stop = closes_at left mid left' took took' b r rest rest' l kept (closing.Ended (ending.No n m)) s stop
halts_stop left mid left' took took' b r rest rest' l kept ending.TooLong s stop = closes_at left mid left' took took' b r rest rest' l kept (closing.Ended ending.TooLong) s stop
halts_stop left mid left' took took' b r rest rest' l kept ending.ReadFault s stop = closes_at left mid left' took took' b r rest rest' l kept (closing.Ended ending.ReadFault) s stop
halts_stop left mid left' took took' b r rest rest' l kept ending.NoMemory s stop = begun_stop left mid left' took took' b r rest rest' l kept ending.NoMemory s stop

-- the next move does not fit
halts_misfit : (left mid left' took took' : Option Text) (b : Beside) (r : LogReader) (rest rest' : RestOf) (l : FrameLife) (kept : Text) (x : Bool) (n : ℕ) (c : Closing)
    → (s : Tells left mid took took' b r rest rest' l kept) → Misfits left left' b s.moves l c → c ≡ (if x then closing.Answer n else closing.Misfit n)
    → HaltsTelling (is_broken c) left left' took took' b rest c rest' l kept
halts_misfit left mid left' took took' b r rest rest' l kept true n c s bad e =
    subst (λ (z : Closing). HaltsTelling (is_broken z) left left' took took' b rest z rest' l kept) (sym e)
    (closes_at left mid left' took took' b r rest rest' l kept (closing.Answer n) s (subst (λ (z : Closing). Misfits left left' b s.moves l z) e bad))
halts_misfit left mid left' took took' b r rest rest' l kept false n c s bad e =
    subst (λ (z : Closing). HaltsTelling (is_broken z) left left' took took' b rest z rest' l kept) (sym e)
    (closes_at left mid left' took took' b r rest rest' l kept (closing.Misfit n) s (subst (λ (z : Closing). Misfits left left' b s.moves l z) e bad))

pub misfit_halts : (left mid left' took took' : Option Text) (b : Beside) (r r' : LogReader) (rest rest' : RestOf) (l : FrameLife) (kept : Text) (m : Move) (c : Closing)
    → (s : Tells left mid took took' b r rest rest' l kept) → ReadsMoves left left' r' s.moves l m → IsMisfit b m c → HaltsTelling (is_broken c) left left' took took' b rest c rest' l kept
misfit_halts left mid left' took took' b r r' rest rest' l kept m c s reads bad =
    halts_misfit left mid left' took took' b r rest rest' l kept (fits_script b.script bad.line bad.kind) bad.line c s (record {
      line = bad.line;
      kind = bad.kind;
      held = r'.held;
      total = r'.bytes;
      lines = subst (λ (x : Move). Lines left left' r'.held (s.moves ++ x ∷ []) r'.bytes) bad.move reads.reading.lines;
      legal = subst (λ (x : Move). IsLegal x l) bad.move reads.legal;
      misfit = subst (λ (x : Move). fits b x ≡ false) bad.move bad.misfit;
      close = bad.close;
    }) bad.close

-- memory was refused for a move that was read and fits
pub begun_take : (left mid left' took took' : Option Text) (b : Beside) (r r' : LogReader) (rest rest1 : RestOf) (l : FrameLife) (text1 : Text) (m : Move)
    → (s : Tells left mid took took' b r rest rest1 l text1) → ReadsMoves left left' r' s.moves l m → fits b m ≡ true → HasBegun left left' took took' b (said_from_first rest)
begun_take left mid left' took took' b r r' rest rest1 l text1 m s n fit = record {
  moves = s.moves ++ m ∷ [];
  life = after_move l m;
  held = r'.held;
  total = r'.bytes;
  lines = n.reading.lines;
  replays = replays_then s.moves (m ∷ []) unstarted l (after_move l m) s.replays (n.legal, refl);
  fit = fit_more b s.moves m s.fit fit;
  front = s.written;
  written = s.appended;
  begins = λ whole more. record {
    behind = text1 ++ rest1 whole l (m ∷ more);
    is_front = ap (λ (xs : List Move). rest whole unstarted xs) (append_assoc s.moves (m ∷ []) more)
        ∙ sym (s.told whole (m ∷ more)) ∙ append_assoc s.written text1 (rest1 whole l (m ∷ more));
  };
}

-- a write failed behind a move that was told
pub begun_pour : (left mid left' took now took' : Option Text) (b : Beside) (r r' : LogReader) (rest rest1 : RestOf) (l : FrameLife) (text1 : Text) (m : Move) (rest2 : RestOf) (l' : FrameLife) (text2 : Text)
    → (s : Tells left mid took now b r rest rest1 l text1) → ReadsMoves left left' r' s.moves l m → fits b m ≡ true
    → ((whole : Bool) (ms : List Move) → text2 ++ rest2 whole l' ms ≡ text1 ++ rest1 whole l (m ∷ ms)) → Wrote now took' text2 true → HasBegun left left' took took' b (said_from_first rest)
begun_pour left mid left' took now took' b r r' rest rest1 l text1 m rest2 l' text2 s n fit step w = record {
  moves = s.moves ++ m ∷ [];
  life = after_move l m;
  held = r'.held;
  total = r'.bytes;
  lines = n.reading.lines;
  replays = replays_then s.moves (m ∷ []) unstarted l (after_move l m) s.replays (n.legal, refl);
  fit = fit_more b s.moves m s.fit fit;
  front = s.written ++ w.front;
  written = appended_then took now took' s.written w.front s.appended w.written;
  begins = λ whole more.
      let rest' : Text = rest2 whole l' more in
      record {
        behind = w.rest ++ rest';
        is_front = ap (λ (xs : List Move). rest whole unstarted xs) (append_assoc s.moves (m ∷ []) more)
            ∙ sym (s.told whole (m ∷ more)) ∙ append_assoc s.written text1 (rest1 whole l (m ∷ more))
            ∙ ap (λ xs. s.written ++ xs) (sym (step whole more) ∙ ap (λ xs. xs ++ rest') w.whole ∙ append_assoc w.front w.rest rest')
            ∙ sym (append_assoc s.written w.front (w.rest ++ rest'));
      };
}

-- ---- what is written at the end

no_claim : (text front : Text) → true ≡ false → front ≡ text
no_claim text front e = absurd (let bad : true ≡ false = e in cc)

module _ (left left' took now : Option Text) (b : Beside) (rest : RestOf) (sought : Sought) (why : Why) (c : Closing) (rest' : RestOf) (l : FrameLife) (kept : Text) (s : Closes left left' took now b rest c rest' l kept) (fine : is_broken c ≡ false) where
  -- what is left to say, and where the log or what stands beside it is bad
  abbrev pub closed : Text
  closed = (kept ++ rest' (ends_well c) l []) ++ close_words sought why l c

  whole_text : s.written ++ closed ≡ closing_text sought (said_from_first rest) why l s.moves c
  whole_text =
      let ended : Text = rest' (ends_well c) l [] in
      let words : Text = close_words sought why l c in
      sym (append_assoc s.written (kept ++ ended) words)
      ∙ ap (λ xs. xs ++ words) (sym (append_assoc s.written kept ended) ∙ s.told (ends_well c) [] ∙ ap (λ (ms : List Move). rest (ends_well c) unstarted ms) (append_nil s.moves))

  told_with : (took' : Option Text) (status : ℕ) → EndsSaying took took' status (closing_status sought l c) (closing_text sought (said_from_first rest) why l s.moves c) → HasTold left left' took took' b sought (said_from_first rest) why status
  told_with took' status says = record { closing = c; fine = fine; moves = s.moves; life = l; replays = s.replays; fit = s.fit; at = s.at; says = says }

  -- all of it was written
  pub told_all : (took' : Option Text) (text : Text) → text ≡ closed → Wrote now took' text false → HasTold left left' took took' b sought (said_from_first rest) why (closing_status sought l c)
  told_all took' text end w =
      let last : Appended now took' text = subst (λ (x : Text). Appended now took' x) (w.all refl) w.written in
      told_with took' (closing_status sought l c)
      (inl (refl, subst (λ (x : Text). Appended took took' x) (ap (λ xs. s.written ++ xs) end ∙ whole_text) (appended_then took now took' s.written text s.appended last)))

  -- a write failed
  pub told_cut : (took' : Option Text) (text : Text) → text ≡ closed → Wrote now took' text true → HasTold left left' took took' b sought (said_from_first rest) why 5
  told_cut took' text end w =
      told_with took' 5 (inr (
        inr refl,
        record {
          front = s.written ++ w.front;
          rest = w.rest;
          whole = sym whole_text ∙ ap (λ xs. s.written ++ xs) (sym end ∙ w.whole) ∙ sym (append_assoc s.written w.front w.rest);
          written = appended_then took now took' s.written w.front s.appended w.written;
          all = no_claim _ _;
        },
      ))

  -- memory was refused for it
  pub told_none : HasTold left left' took now b sought (said_from_first rest) why 1
  told_none =
      told_with now 1 (inr (inl refl, record { front = s.written; rest = closed; whole = sym whole_text; written = s.appended; all = no_claim _ _ }))

-- a walk that was broken off ends with 1 or 5
pub broken_status : (sought : Sought) (l : FrameLife) (c : Closing) → is_broken c ≡ true → IsBroken (closing_status sought l c)
broken_status sought l (closing.Ended ending.NoMemory) e = inl refl
broken_status sought l closing.OutFault e = inr refl
broken_status sought l (closing.Ended ending.Yes) e = absurd (let bad : false ≡ true = e in cc)
broken_status sought l (closing.Ended (ending.No n m)) e = absurd (let bad : false ≡ true = e in cc)
broken_status sought l (closing.Ended ending.TooLong) e = absurd (let bad : false ≡ true = e in cc)
broken_status sought l (closing.Ended ending.ReadFault) e = absurd (let bad : false ≡ true = e in cc)
broken_status sought l (closing.Misfit n) e = absurd (let bad : false ≡ true = e in cc)
broken_status sought l (closing.Answer n) e = absurd (let bad : false ≡ true = e in cc)
broken_status sought l (closing.Surplus n) e = absurd (let bad : false ≡ true = e in cc)

-- nothing was read, and nothing written
pub begun_none : (left took : Option Text) (b : Beside) (said : Said) → HasBegun left left took took b said
begun_none left took b said = record {
  moves = [];
  life = unstarted;
  held = [];
  total = 0;
  lines = record { taken = []; took = took_none left; whole = refl; in_range = tt; total_is = refl };
  replays = refl;
  fit = tt;
  front = [];
  written = appended_none took;
  begins = λ whole more. record { behind = said whole more; is_front = refl };
}

-- so many lines have more bytes than a log may have
pub closes_full : (left left' took took' : Option Text) (b : Beside) (r : LogReader) (rest rest' : RestOf) (l : FrameLife) (kept : Text)
    → IsReadyToRead r → most_log_bytes < r.lines → Closes left left' took took' b rest (closing.Ended ending.TooLong) rest' l kept
closes_full left left' took took' b r rest rest' l kept ready many = absurd (omega (arith, ready.few, ready.lines, many))

-- nothing of a text was written, or all
pub poured_none : (took : Option Text) (text : Text) → Poured took took text text
poured_none took text = record { written = []; appended = appended_none took; whole = refl }

pub poured_all : (took took' : Option Text) (text kept : Text) → kept ≡ [] → Wrote took took' text false → Poured took took' text kept
poured_all took took' text kept none w = record {
  written = text;
  appended = subst (λ (x : Text). Appended took took' x) (w.all refl) w.written;
  whole = sym (append_nil text) ∙ ap (λ xs. text ++ xs) (sym none);
}

pub ruleset tellings = (tells_none)

pub ruleset poured = (poured_none, poured_all)
