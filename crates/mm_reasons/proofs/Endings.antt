-- How a run ends whose file was read.
use Rattle.std.proofs.Common.{◌≡◌, ◌⊎◌, inl, inr, ℕ, ◌≤◌, ◌<◌, true, false, List, [], Option, Some, None, sym, refl, ap, subst, ◌∙◌}
use Rattle.mm_types.specs.{Text, Appended, Rose, Event}
use Rattle.mm_types.proofs.{appended_none}
use Rattle.mm_io.specs.{Wrote}
use Rattle.mm_names.specs.{Ending, script_in, ScriptOf, is_whole, ScriptEnds, WasReadWhole, IsWritten, IsRefusedFile}
use Rattle.mm_script.specs.{most_lines}
use Rattle.mm_names.specs.{IsTooLong, IsTorn, CameTo, names_status, spelled_script}
use Rattle.mm_names.specs.declared.endings.Ending.TheVariants as ending
use Rattle.mm_names.proofs.{opens}
use Rattle.mm_reasons.specs.{Form, Talked, NamesRan, RanTalk, RanAs}
use Rattle.mm_reasons.specs.declared.forms.Form.TheVariants as form
use Rattle.mm_reasons.proofs.Sayings.{talked_none}

-- a script is not both whole and not
pub never_both : {A : Type 0} (s : ScriptOf) → is_whole s ≡ true → is_whole s ≡ false → A
never_both s h g = let bad : true ≡ false = sym h ∙ g in cc

pub written_as : (left left' a b : Option Text) (text : Text) (s : ScriptOf) (o : Option (List Event)) → script_in text ≡ o
    → WasReadWhole left left' text → ScriptEnds o s → is_whole s ≡ true → s.lines ≤ most_lines → Wrote a b s.text false
    → IsWritten left left' a b
written_as left left' a b text s None is read ends h few w = never_both s h ends
written_as left left' a b text s (Some es) is read ends h few w = record {
  text = text;
  was_read = read;
  events = es;
  script = is;
  opens = opens text es is;
  formed = ends.1.formed;
  few = subst (λ (n : ℕ). n ≤ most_lines) ends.1.lines few;
  written = subst (λ (t : Text). Appended a b t) (w.all refl ∙ ends.1.text) w.written;
}

pub written : (left left' a b : Option Text) (text : Text) (s : ScriptOf) → WasReadWhole left left' text
    → ScriptEnds (script_in text) s → is_whole s ≡ true → s.lines ≤ most_lines → Wrote a b s.text false
    → IsWritten left left' a b
written left left' a b text s read ends h few w =
    written_as left left' a b text s (script_in text) refl read ends h few w

pub refused_as : (left left' a : Option Text) (text : Text) (s : ScriptOf) (o : Option (List Event)) → script_in text ≡ o
    → WasReadWhole left left' text → ScriptEnds o s → is_whole s ≡ false → IsRefusedFile left left' a a
refused_as left left' a text s None is read ends h = record { text = text; was_read = read; none = is; nothing = refl }
refused_as left left' a text s (Some es) is read ends h = never_both s ends.0 h

pub refused : (left left' a : Option Text) (text : Text) (s : ScriptOf) → WasReadWhole left left' text
    → ScriptEnds (script_in text) s → is_whole s ≡ false → IsRefusedFile left left' a a
refused left left' a text s read ends h = refused_as left left' a text s (script_in text) refl read ends h

pub many_as : (left left' a : Option Text) (text : Text) (s : ScriptOf) (o : Option (List Event)) → script_in text ≡ o
    → WasReadWhole left left' text → ScriptEnds o s → is_whole s ≡ true → most_lines < s.lines
    → IsTooLong left left' × (a ≡ a)
many_as left left' a text s None is read ends h many = never_both s h ends
many_as left left' a text s (Some es) is read ends h many = (
  inr (record {
    text = text;
    was_read = read;
    events = es;
    script = is;
    many = subst (λ (n : ℕ). most_lines < n) ends.1.lines many;
  }),
  refl,
)

pub many : (left left' a : Option Text) (text : Text) (s : ScriptOf) → WasReadWhole left left' text
    → ScriptEnds (script_in text) s → is_whole s ≡ true → most_lines < s.lines
    → IsTooLong left left' × (a ≡ a)
many left left' a text s read ends h more = many_as left left' a text s (script_in text) refl read ends h more

torn_as : (left left' a b : Option Text) (text : Text) (s : ScriptOf) (o : Option (List Event)) → script_in text ≡ o
    → WasReadWhole left left' text → ScriptEnds o s → is_whole s ≡ true → Wrote a b s.text true → IsTorn left left' a b
torn_as left left' a b text s None is read ends h w = never_both s h ends
torn_as left left' a b text s (Some es) is read ends h w = record {
  text = text;
  was_read = read;
  front = w.front;
  behind = w.rest;
  whole = sym w.whole ∙ ends.1.text ∙ ap spelled_script (sym is);
  written = w.written;
}

pub torn : (left left' a b : Option Text) (text : Text) (s : ScriptOf) → WasReadWhole left left' text
    → ScriptEnds (script_in text) s → is_whole s ≡ true → Wrote a b s.text true → CameTo ending.OutFault left left' a b
torn left left' a b text s read ends h w = inl (torn_as left left' a b text s (script_in text) refl read ends h w)

pub torn_none : (left left' a : Option Text) (text : Text) → WasReadWhole left left' text → CameTo ending.OutFault left left' a a
torn_none left left' a text read = inl (record {
  text = text;
  was_read = read;
  front = [];
  behind = spelled_script (script_in text);
  whole = refl;
  written = appended_none a;
})

pub told : (r e : Ending) (left left' a : Option Text) (x y : ℕ) (text : Text) → WasReadWhole left left' text
    → (r ≡ e) ⊎ ((r ≡ ending.OutFault) × Rose x y) → CameTo e left left' a a → CameTo r left left' a a
told r e left left' a x y text read (inl h) came = subst (λ (z : Ending). CameTo z left left' a a) (sym h) came
told r e left left' a x y text read (inr h) came =
    subst (λ (z : Ending). CameTo z left left' a a) (sym h.0) (torn_none left left' a text read)

-- a file that is too long is told of, or that could not be written
pub told_long : (r : Ending) (left left' a : Option Text) (x y : ℕ) → (r ≡ ending.TooLong) ⊎ ((r ≡ ending.OutFault) × Rose x y)
    → CameTo ending.TooLong left left' a a → CameTo r left left' a a
told_long r left left' a x y (inl h) came = subst (λ (z : Ending). CameTo z left left' a a) (sym h) came
told_long r left left' a x y (inr h) came = subst (λ (z : Ending). CameTo z left left' a a) (sym h.0) (inr came)

pub ran : (e : Ending) (left left' a b : Option Text) (status : ℕ) → status ≡ names_status e → CameTo e left left' a b
    → NamesRan left left' a b status
ran e left left' a b status is came = record { ending = e; status_is = is; came = came }

pub ran_talk : (e : Ending) (left left' a b : Option Text) (status : ℕ) → status ≡ names_status e → Talked e left left' a b
    → RanTalk left left' a b status
ran_talk e left left' a b status is talked = record { ending = e; status_is = is; talked = talked }

-- memory was refused before anything was read or written
pub out_of_memory : (o : Option Form) (left took : Option Text) → RanAs o left left took took 1
out_of_memory None left took = (refl, refl, inr refl)
out_of_memory (Some form.Script) left took = record { ending = ending.NoMemory; status_is = refl; came = refl }
out_of_memory (Some form.Lines) left took = record { ending = ending.NoMemory; status_is = refl; came = refl }
out_of_memory (Some form.Talk) left took = record { ending = ending.NoMemory; status_is = refl; talked = talked_none left took }

pub ruleset endings = (written, refused, many, torn, torn_none, told, ran, ran_talk)
