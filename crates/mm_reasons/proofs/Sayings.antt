-- Lines of events, one piece after another.
use Rattle.std.proofs.Common.{◌≡◌, ◌≢◌, ◌⊎◌, inl, inr, ℕ, ◌==◌, Bool, true, false, if◌then◌else◌, List, [], ◌∷◌, ◌++◌, Option, Result, Ok, Err, MatchResult, IfErr, OnOk, sym, refl, ap, subst, ◌∙◌, append_assoc}
use Rattle.std.specs.List.{AllByRecursion}
use Rattle.mm_types.specs.{Text, Took, IsEnd, Appended, Event}
use Rattle.mm_types.proofs.{append_nil, appended_none, appended_then, took_none, took_then}
use Rattle.mm_io.specs.{Wrote}
use Rattle.mm_script.specs.{printed, IsWellFormed}
use Rattle.mm_names.specs.{Ending, NamesOf, may_stand, meant, placed_line, spelled_events}
use Rattle.mm_names.specs.declared.meanings.Meaning.{Meaning}
use Rattle.mm_names.specs.declared.meanings.Meaning.TheVariants as meaning
use Rattle.mm_names.specs.declared.endings.Ending.TheVariants as ending
use Rattle.mm_reasons.specs.{HaltsTalk, HaltsAmid, heard_before, heard_of, HearingOf, hearing_after, Hears, KeepsByte, Listens, ListensOut, SaidAll, SaidBy, SaidFront}
use Rattle.mm_reasons.specs.{SaidTorn, said_by_line, said_of, StopsTalk, StopsBy, Talked, to_come, line_without_mark}
use Rattle.mm_reasons.proofs.Hearing.{to_come_ended, to_come_fed, to_come_first, to_come_kept, to_come_long, to_come_none, unheard}

pub spelled_append : (xs ys : List Event) → spelled_events (xs ++ ys) ≡ spelled_events xs ++ spelled_events ys
spelled_append [] ys = refl
spelled_append (x ∷ xs) ys =
    ap (λ zs. printed x ++ 10 ∷ zs) (spelled_append xs ys)
    ∙ sym (append_assoc (printed x) (10 ∷ spelled_events xs) (spelled_events ys))

pub formed_append : (xs ys : List Event) → AllByRecursion IsWellFormed xs → AllByRecursion IsWellFormed ys
    → AllByRecursion IsWellFormed (xs ++ ys)
formed_append [] ys f g = g
formed_append (x ∷ xs) ys f g = (f.0, formed_append xs ys f.1 g)

-- ---- the events of a line

pub said_none : (a : Option Text) → SaidAll a a []
said_none a = record { formed = tt; written = appended_none a }

pub said_event : (a b : Option Text) (line : Text) (e : Event) → IsWellFormed e → line ≡ printed e ++ 10 ∷ []
    → Wrote a b line false → SaidAll a b (e ∷ [])
said_event a b line e f is w = record {
  formed = (f, tt);
  written = subst (λ (x : Text). Appended a b x) (w.all refl ∙ is) w.written;
}

pub front_none : (a : Option Text) (all : List Event) → SaidFront a a all
front_none a all = record { events = []; behind = all; front = refl; formed = tt; written = appended_none a }

pub front_all : (a b : Option Text) (all : List Event) → SaidAll a b all → SaidFront a b all
front_all a b all s = record {
  events = all;
  behind = [];
  front = append_nil all;
  formed = s.formed;
  written = s.written;
}

pub torn_all : (a b : Option Text) (all : List Event) → SaidAll a b all → SaidTorn a b all
torn_all a b all s = record { front = spelled_events all; behind = []; whole = append_nil (spelled_events all); written = s.written }

pub torn_event : (a b : Option Text) (line : Text) (e : Event) → line ≡ printed e ++ 10 ∷ []
    → Wrote a b line true → SaidTorn a b (e ∷ [])
torn_event a b line e is w = record {
  front = w.front;
  behind = w.rest;
  whole = sym w.whole ∙ is;
  written = w.written;
}

-- an event that may stand, or may not
pub says_placed : {A : Type 0} (r : Result A Ending) (a b : Option Text) (begun : Bool) (e : Event) → may_stand begun e ≡ true
    → MatchResult r (λ _. SaidAll a b (e ∷ [])) (λ d. HaltsAmid d a b (e ∷ []))
    → MatchResult r (λ _. SaidAll a b (said_of (placed_line begun (meaning.Says e)))) (λ d. HaltsAmid d a b (said_of (placed_line begun (meaning.Says e))))
says_placed r a b begun e is s =
    subst (λ (t : Bool). MatchResult r (λ _. SaidAll a b (said_of (if t then meaning.Says e else meaning.Wrong)))
    (λ d. HaltsAmid d a b (said_of (if t then meaning.Says e else meaning.Wrong)))) (sym is) s

pub none_placed : (a : Option Text) (begun : Bool) (e : Event) → may_stand begun e ≡ false → SaidAll a a (said_of (placed_line begun (meaning.Says e)))
none_placed a begun e is =
    subst (λ (t : Bool). SaidAll a a (said_of (if t then meaning.Says e else meaning.Wrong))) (sym is) (said_none a)

-- a line's meaning is that of the names so far
pub same_said : (h : HearingOf) (line : Text) (names : NamesOf) (begun : Bool) (m : Meaning) → names ≡ h.names → begun ≡ h.begun
    → m ≡ meant names line → said_of (placed_line begun m) ≡ said_by_line h line
same_said h line names begun m p q r =
    ap (λ (n : Meaning). said_of (placed_line begun n)) (r ∙ ap (λ (ns : NamesOf). meant ns line) p)
    ∙ ap (λ (b : Bool). said_of (placed_line b (meant h.names line))) q

pub heard_meant : {A : Type 0} (r : Result A Ending) (h h' : HearingOf) (line : Text) (names : NamesOf) (m : Meaning) → names ≡ h.names
    → m ≡ meant names line → OnOk r (h' ≡ hearing_after h m) → OnOk r (h' ≡ hearing_after h (meant h.names line))
heard_meant r h h' line names m p q s =
    subst (λ (n : Meaning). OnOk r (h' ≡ hearing_after h n)) (q ∙ ap (λ (ns : NamesOf). meant ns line) p) s

-- a line that was said, and then told of
pub said_explained : {A : Type 0} (r : Result A Ending) (a b : Option Text) (all all' : List Event) → all ≡ all' → SaidAll a b all
    → IfErr r (λ e. (x y : Option Text) (es : List Event) → SaidAll x y es → HaltsAmid e x y es)
    → MatchResult r (λ _. SaidAll a b all') (λ e. HaltsAmid e a b all')
said_explained (Ok x) a b all all' is s t = subst (λ (es : List Event). SaidAll a b es) is s
said_explained (Err e) a b all all' is s t = t a b all' (subst (λ (es : List Event). SaidAll a b es) is s)

-- ---- more behind, and more before

pub front_more : (a b : Option Text) (all more : List Event) → SaidFront a b all → SaidFront a b (all ++ more)
front_more a b all more s = record {
  events = s.events;
  behind = s.behind ++ more;
  front = sym (append_assoc s.events s.behind more) ∙ ap (λ (es : List Event). es ++ more) s.front;
  formed = s.formed;
  written = s.written;
}

pub torn_more : (a b : Option Text) (all more : List Event) → SaidTorn a b all → SaidTorn a b (all ++ more)
torn_more a b all more s = record {
  front = s.front;
  behind = s.behind ++ spelled_events more;
  whole = sym (append_assoc s.front s.behind (spelled_events more)) ∙ ap (λ (t : Text). t ++ spelled_events more) s.whole
      ∙ sym (spelled_append all more);
  written = s.written;
}

pub halts_more : (e : Ending) (a b : Option Text) (all more : List Event) → HaltsAmid e a b all → HaltsAmid e a b (all ++ more)
halts_more ending.NoMemory a b all more s = front_more a b all more s
halts_more ending.OutFault a b all more s = torn_more a b all more s
halts_more ending.Written a b all more s = s
halts_more ending.Usage a b all more s = s
halts_more ending.Refused a b all more s = s
halts_more ending.ReadFault a b all more s = s
halts_more ending.TooLong a b all more s = s

pub all_then : (a b c : Option Text) (xs ys : List Event) → SaidAll a b xs → SaidAll b c ys → SaidAll a c (xs ++ ys)
all_then a b c xs ys s t = record {
  formed = formed_append xs ys s.formed t.formed;
  written = subst (λ (x : Text). Appended a c x) (sym (spelled_append xs ys)) (appended_then a b c _ _ s.written t.written);
}

front_then : (a b c : Option Text) (xs all : List Event) → SaidAll a b xs → SaidFront b c all → SaidFront a c (xs ++ all)
front_then a b c xs all s t =
    let both : SaidAll a c (xs ++ t.events) = all_then a b c xs t.events s (record { formed = t.formed; written = t.written }) in
    record {
      events = xs ++ t.events;
      behind = t.behind;
      front = append_assoc xs t.events t.behind ∙ ap (λ (es : List Event). xs ++ es) t.front;
      formed = both.formed;
      written = both.written;
    }

torn_then : (a b c : Option Text) (xs all : List Event) → SaidAll a b xs → SaidTorn b c all → SaidTorn a c (xs ++ all)
torn_then a b c xs all s t = record {
  front = spelled_events xs ++ t.front;
  behind = t.behind;
  whole = append_assoc (spelled_events xs) t.front t.behind ∙ ap (λ (x : Text). spelled_events xs ++ x) t.whole ∙ sym (spelled_append xs all);
  written = appended_then a b c _ _ s.written t.written;
}

halts_behind : (e : Ending) (a b c : Option Text) (xs all : List Event) → SaidAll a b xs → HaltsAmid e b c all
    → HaltsAmid e a c (xs ++ all)
halts_behind ending.NoMemory a b c xs all s t = front_then a b c xs all s t
halts_behind ending.OutFault a b c xs all s t = torn_then a b c xs all s t
halts_behind ending.Written a b c xs all s t = t
halts_behind ending.Usage a b c xs all s t = t
halts_behind ending.Refused a b c xs all s t = t
halts_behind ending.ReadFault a b c xs all s t = t
halts_behind ending.TooLong a b c xs all s t = t

-- ---- bytes that are heard

-- what was said of them
said_so : {h h' : HearingOf} {line line' bytes : Text} {a b : Option Text} (s : Hears h line h' line' bytes a b) → SaidAll a b s.events
said_so s = record { formed = s.formed; written = s.written }

pub hears_none : (h : HearingOf) (line : Text) (a : Option Text) → h.leaves_out ≡ true → Hears h line h line [] a a
hears_none h line a leaves = record {
  events = [];
  formed = tt;
  written = appended_none a;
  comes = λ rest. refl;
  leaves = leaves;
}

pub hears_kept : (h : HearingOf) (line line' : Text) (byte : ℕ) (a : Option Text) → (byte == 10) ≡ false → KeepsByte line line' byte
    → h.leaves_out ≡ true → Hears h line h line' (byte ∷ []) a a
hears_kept h line line' byte a e (inl is) leaves = record {
  events = [];
  formed = tt;
  written = appended_none a;
  comes = λ rest. to_come_kept h line rest byte e ∙ ap (λ (l : Text). to_come h l rest) (sym is);
  leaves = leaves;
}
hears_kept h line line' byte a e (inr is) leaves = record {
  events = [];
  formed = tt;
  written = appended_none a;
  comes = λ rest. to_come_long h line rest byte e is.1 ∙ ap (λ (l : Text). to_come h l rest) (sym is.0);
  leaves = leaves;
}

pub hears_line : (h h' : HearingOf) (line whole line' : Text) (a b : Option Text) → whole ≡ line_without_mark h line → line' ≡ []
    → SaidAll a b (said_by_line h whole) → h' ≡ hearing_after h (meant h.names whole) → h.leaves_out ≡ true
    → Hears h line h' line' (10 ∷ []) a b
hears_line h h' line whole line' a b is empty s after leaves = record {
  events = said_by_line h whole;
  formed = s.formed;
  written = s.written;
  comes = λ rest. to_come_ended h line rest
      ∙ ap (λ (w : Text). said_by_line h w ++ to_come (hearing_after h (meant h.names w)) [] rest) (sym is)
      ∙ ap (λ (k : HearingOf). said_by_line h whole ++ to_come k [] rest) (sym after)
      ∙ ap (λ (l : Text). said_by_line h whole ++ to_come h' l rest) (sym empty);
  leaves = ap (λ (k : HearingOf). k.leaves_out) after ∙ leaves;
}

pub halts_in_line : (e : Ending) (h : HearingOf) (line whole : Text) (a b : Option Text) → whole ≡ line_without_mark h line
    → HaltsAmid e a b (said_by_line h whole) → HaltsTalk e h line (10 ∷ []) a b
halts_in_line e h line whole a b is s = λ rest.
    let next : List Event = to_come (hearing_after h (meant h.names (line_without_mark h line))) [] rest in
    subst (λ (es : List Event). HaltsAmid e a b es) (sym (to_come_ended h line rest))
    (halts_more e a b (said_by_line h (line_without_mark h line)) next
    (subst (λ (w : Text). HaltsAmid e a b (said_by_line h w)) is s))

pub hears_then : {h h' h'' : HearingOf} {line line' line'' xs ys : Text} {a b c : Option Text} → Hears h line h' line' xs a b
    → Hears h' line' h'' line'' ys b c → Hears h line h'' line'' (xs ++ ys) a c
hears_then {h = h} {h' = h'} {h'' = h''} {line = line} {line' = line'} {line'' = line''} {xs = xs} {ys = ys} {a = a} {b = b} {c = c} s t =
    let both : SaidAll a c (s.events ++ t.events) = all_then a b c s.events t.events (said_so s) (said_so t) in
    record {
      events = s.events ++ t.events;
      formed = both.formed;
      written = both.written;
      comes = λ rest. ap (λ (x : Text). to_come h line x) (append_assoc xs ys rest) ∙ s.comes (ys ++ rest)
          ∙ ap (λ (es : List Event). s.events ++ es) (t.comes rest)
          ∙ sym (append_assoc s.events t.events (to_come h'' line'' rest));
      leaves = t.leaves;
    }

pub halts_then : {h h' : HearingOf} {line line' xs : Text} {a b : Option Text} (e : Ending) (ys : Text) (c : Option Text)
    → Hears h line h' line' xs a b → HaltsTalk e h' line' ys b c → HaltsTalk e h line (xs ++ ys) a c
halts_then {h = h} {h' = h'} {line = line} {line' = line'} {xs = xs} {a = a} {b = b} e ys c s t = λ rest.
    subst (λ (es : List Event). HaltsAmid e a c es)
    (sym (ap (λ (x : Text). to_come h line x) (append_assoc xs ys rest) ∙ s.comes (ys ++ rest)))
    (halts_behind e a b c s.events (to_come h' line' (ys ++ rest)) (said_so s) (t rest))

-- more bytes come behind
pub halts_before : (e : Ending) (h : HearingOf) (line xs ys all : Text) (a b : Option Text) → xs ++ ys ≡ all
    → HaltsTalk e h line xs a b → HaltsTalk e h line all a b
halts_before e h line xs ys all a b is s = λ rest.
    subst (λ (es : List Event). HaltsAmid e a b es)
    (ap (λ (x : Text). to_come h line x) (sym (append_assoc xs ys rest) ∙ ap (λ (x : Text). x ++ rest) is)) (s (ys ++ rest))

-- ---- a source that is heard

pub listens_none : (left : Option Text) (h : HearingOf) (line : Text) (a : Option Text) → h.leaves_out ≡ true
    → Listens left left h line h line a a
listens_none left h line a leaves = record { text = []; was = took_none left; hears = hears_none h line a leaves }

pub listens_then : {left mid : Option Text} {h h' h'' : HearingOf} {line line' line'' : Text} {a b c : Option Text} (left' : Option Text) (bytes : Text)
    → Listens left mid h line h' line' a b → Took mid left' bytes → Hears h' line' h'' line'' bytes b c
    → Listens left left' h line h'' line'' a c
listens_then {left = left} {mid = mid} left' bytes s took t = record {
  text = s.text ++ bytes;
  was = took_then left mid left' s.text bytes s.was took;
  hears = hears_then s.hears t;
}

-- no byte was read
pub listens_on : {left mid : Option Text} {h h' : HearingOf} {line line' : Text} {a b : Option Text} (left' : Option Text)
    → Listens left mid h line h' line' a b → left' ≡ mid → Listens left left' h line h' line' a b
listens_on {left = left} {mid = mid} {h = h} {h' = h'} {line = line} {line' = line'} {a = a} {b = b} left' s same =
    subst (λ (x : Option Text). Listens left x h line h' line' a b) (sym same) s

heard_all : {h h' : HearingOf} {line line' text : Text} {a b : Option Text} → Hears h line h' line' text a b → SaidAll a b (to_come h line text)
heard_all {h = h} {h' = h'} {line = line} {line' = line'} {text = text} {a = a} {b = b} s =
    subst (λ (es : List Event). SaidAll a b es)
    (sym (ap (λ (x : Text). to_come h line x) (sym (append_nil text)) ∙ s.comes []
    ∙ ap (λ (es : List Event). s.events ++ es) (to_come_none h' line') ∙ append_nil s.events))
    (said_so s)

pub stops_reading : {left mid : Option Text} {h h' : HearingOf} {line line' : Text} {a b : Option Text} → Listens left mid h line h' line' a b
    → StopsTalk ending.ReadFault left mid h line a b
stops_reading s = record { text = s.text; was = s.was; by = heard_all s.hears }

pub stops_long : {left mid : Option Text} {h h' : HearingOf} {line line' : Text} {a b : Option Text} → Listens left mid h line h' line' a b
    → StopsTalk ending.TooLong left mid h line a b
stops_long s = record { text = s.text; was = s.was; by = heard_all s.hears }

stops_by : (e : Ending) (h : HearingOf) (line text : Text) (a b : Option Text) → HaltsTalk e h line text a b → StopsBy e h line text a b
stops_by ending.NoMemory h line text a b s = s
stops_by ending.OutFault h line text a b s = s
stops_by ending.Written h line text a b s = s []
stops_by ending.Usage h line text a b s = s []
stops_by ending.Refused h line text a b s = s []
stops_by ending.ReadFault h line text a b s = absurd (s [])
stops_by ending.TooLong h line text a b s = absurd (s [])

pub stops_then : {left mid : Option Text} {h h' : HearingOf} {line line' : Text} {a b : Option Text} (e : Ending) (left' : Option Text) (bytes : Text) (c : Option Text)
    → Listens left mid h line h' line' a b → Took mid left' bytes → HaltsTalk e h' line' bytes b c
    → StopsTalk e left left' h line a c
stops_then {left = left} {mid = mid} {h = h} {h' = h'} {line = line} {line' = line'} {a = a} {b = b} e left' bytes c s took t = record {
  text = s.text ++ bytes;
  was = took_then left mid left' s.text bytes s.was took;
  by = stops_by e h line (s.text ++ bytes) a c (halts_then e bytes c s.hears t);
}

-- ---- the whole talk

-- what was heard at the start
heard_first : (e : Ending) (text : Text) (a b : Option Text) → StopsBy e unheard [] text a b → SaidBy e a b text
heard_first ending.NoMemory text a b s = subst (λ (es : List Event). SaidFront a b es) (to_come_fed text) (s (10 ∷ []))
heard_first ending.OutFault text a b s = subst (λ (es : List Event). SaidTorn a b es) (to_come_fed text) (s (10 ∷ []))
heard_first ending.ReadFault text a b s = subst (λ (es : List Event). SaidAll a b es) (to_come_first text) s
heard_first ending.TooLong text a b s = subst (λ (es : List Event). SaidAll a b es) (to_come_first text) s
heard_first ending.Written text a b s = absurd s
heard_first ending.Usage text a b s = absurd s
heard_first ending.Refused text a b s = absurd s

ends_early : (e : Ending) (h : HearingOf) (line text : Text) (a b left : Option Text) → StopsBy e h line text a b → e ≡ ending.Written → IsEnd left
ends_early ending.NoMemory h line text a b left s is = cc
ends_early ending.OutFault h line text a b left s is = cc
ends_early ending.ReadFault h line text a b left s is = cc
ends_early ending.TooLong h line text a b left s is = cc
ends_early ending.Written h line text a b left s is = absurd s
ends_early ending.Usage h line text a b left s is = absurd s
ends_early ending.Refused h line text a b left s is = absurd s

pub talked_stops : (e : Ending) (left left' a b : Option Text) → StopsTalk e left left' unheard [] a b → Talked e left left' a b
talked_stops e left left' a b s = record {
  text = s.text;
  was = s.was;
  at_end = ends_early e unheard [] s.text a b left' s.by;
  said = heard_first e s.text a b s.by;
}

pub talked_out : {h h' : HearingOf} {line line' : Text} (left left' a b c : Option Text) → ListensOut left left' unheard [] h line a b
    → Hears h line h' line' (10 ∷ []) b c → Talked ending.Written left left' a c
talked_out left left' a b c s t = record {
  text = s.listens.text;
  was = s.listens.was;
  at_end = λ is. s.at_end;
  said = subst (λ (es : List Event). SaidAll a c es) (to_come_fed s.listens.text) (heard_all (hears_then s.listens.hears t));
}

halted_said : (e : Ending) (text : Text) (a b : Option Text) → HaltsTalk e unheard [] (text ++ 10 ∷ []) a b → SaidBy e a b text
halted_said ending.NoMemory text a b s =
    subst (λ (es : List Event). SaidFront a b es) (ap (λ (t : Text). to_come unheard [] t) (append_nil (text ++ 10 ∷ [])) ∙ to_come_fed text) (s [])
halted_said ending.OutFault text a b s =
    subst (λ (es : List Event). SaidTorn a b es) (ap (λ (t : Text). to_come unheard [] t) (append_nil (text ++ 10 ∷ [])) ∙ to_come_fed text) (s [])
halted_said ending.ReadFault text a b s = absurd (s [])
halted_said ending.TooLong text a b s = absurd (s [])
halted_said ending.Written text a b s = absurd (s [])
halted_said ending.Usage text a b s = absurd (s [])
halted_said ending.Refused text a b s = absurd (s [])

pub talked_halts : {h : HearingOf} {line : Text} (e : Ending) (left left' a b c : Option Text) → ListensOut left left' unheard [] h line a b
    → HaltsTalk e h line (10 ∷ []) b c → Talked e left left' a c
talked_halts e left left' a b c s t = record {
  text = s.listens.text;
  was = s.listens.was;
  at_end = λ is. s.at_end;
  said = halted_said e s.listens.text a c (halts_then e (10 ∷ []) c s.listens.hears t);
}

-- the same of a start that is equal
pub hear_out : {h h' : HearingOf} {line line' : Text} (k : HearingOf) (l : Text) (left left' a b c : Option Text) → k ≡ unheard → l ≡ []
    → ListensOut left left' k l h line a b → Hears h line h' line' (10 ∷ []) b c → Talked ending.Written left left' a c
hear_out {h = h} {line = line} k l left left' a b c p q s t =
    talked_out left left' a b c
    (subst (λ (j : HearingOf). ListensOut left left' j [] h line a b) p (subst (λ (m : Text). ListensOut left left' k m h line a b) q s)) t

pub hear_halts : {h : HearingOf} {line : Text} (e : Ending) (k : HearingOf) (l : Text) (left left' a b c : Option Text) → k ≡ unheard → l ≡ []
    → ListensOut left left' k l h line a b → HaltsTalk e h line (10 ∷ []) b c → Talked e left left' a c
hear_halts {h = h} {line = line} e k l left left' a b c p q s t =
    talked_halts e left left' a b c
    (subst (λ (j : HearingOf). ListensOut left left' j [] h line a b) p (subst (λ (m : Text). ListensOut left left' k m h line a b) q s)) t

pub hear_stops : (e : Ending) (k : HearingOf) (l : Text) (left left' a b : Option Text) → k ≡ unheard → l ≡ []
    → StopsTalk e left left' k l a b → Talked e left left' a b
hear_stops e k l left left' a b p q s =
    talked_stops e left left' a b
    (subst (λ (j : HearingOf). StopsTalk e left left' j [] a b) p (subst (λ (m : Text). StopsTalk e left left' k m a b) q s))

-- a tail call that takes the last line feed
pub hear_last : {A : Type 0} (r : Result A Ending) (h h' : HearingOf) (line line' : Text) (k : HearingOf) (l : Text) (left left' a b c : Option Text) → k ≡ unheard → l ≡ []
    → ListensOut left left' k l h line a b → MatchResult r (λ _. Hears h line h' line' (10 ∷ []) b c) (λ e. HaltsTalk e h line (10 ∷ []) b c)
    → MatchResult r (λ _. Talked ending.Written left left' a c) (λ e. Talked e left left' a c)
hear_last (Ok x) h h' line line' k l left left' a b c p q s t = hear_out k l left left' a b c p q s t
hear_last (Err e) h h' line line' k l left left' a b c p q s t = hear_halts e k l left left' a b c p q s t

pub talked_none : (left took : Option Text) → Talked ending.NoMemory left left took took
talked_none left took = record {
  text = [];
  was = took_none left;
  at_end = λ is. cc;
  said = front_none took (heard_of []);
}

pub ruleset sayings = (said_none, said_event, front_none, front_all, torn_all, torn_event, says_placed, none_placed)
