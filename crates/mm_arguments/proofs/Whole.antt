-- Which words the whole command takes, and what its parse has of them.
use Rattle.std.proofs.Common.{◌≡◌, ◌≢◌, ◌∙◌, ap, ap₂, sym, refl, ℕ, ◌≤◌, Bool, cond, false, true, None, Some, Option, is_some, List, ◌∷◌, ◌++◌, [], append_assoc, length, map, max, subst, arith}
use Rattle.std.specs.Prelude.{◌||◌, ◌&&◌, ◌==◌, find, not, option_map}
use Rattle.std.specs.List.{fold, list_all, list_any}
use Rattle.std.proofs.lemmas.List.{append-nil}
use Rattle.std.specs.Option.{option_map_or}
use Rattle.std.specs.Str.{bytes_eq}
use Rattle.std.proofs.lemmas.Bool.{and_right, eqb-false, eqb-true, false_from_ne_true, or_parts}
use Rattle.mm_types.proofs.{or_false}
use Rattle.std.proofs.lemmas.Slice.Eq.{bytes_eq-Decides}
use Rattle.clap.specs.Words.{App, Row, Rule, Shape, Text, fault_of, is_simple_and_free, subcommand_of}
use Rattle.clap.specs.Walk.{Walk, answers_to, finished, idle, is_multiple, nothing_held, rows_after, settled, stop_after, subcommand_met, walk}
use Rattle.clap.specs.Simple.{built, built_leaf, entered, inherited, is_ready, is_ready_leaf, is_simple_leaf, label_of, marked_built, names_of, new_shape, rows_at, with_leaf_noted}
use Rattle.clap.specs.Kinds.{Kinds, or_else}
use Rattle.clap.specs.Faults.{built_fault, check_fault, defaults_fault, entered_fault, has_free_rules, settle_fault}
use Rattle.clap.proofs.OnLiterals.{clap_on_literals}
use Rattle.clap.proofs.WalkLemmas.{find-map}
use Rattle.mm_arguments.specs.{Form, AreForms, IsNamed, NoneHas, is_dashed, form_rules, form_shape, top_shape, values_of, values_rule, with_form}
use Rattle.mm_arguments.specs.{words_app}
use Rattle.mm_arguments.proofs.Walks.{first_fault, no_stop_fault, stops}
use Rattle.mm_arguments.proofs.Taken.{Takes, bare_reads, bare_shape, bare_takes, built_shape, leaf, no_kinds, some_kind, the_rule, valued_reads, valued_takes}

-- ---- one form

-- the subcommand of a form, built
abbrev pub built_form : Form → Shape
built_form f = built_shape f.name.now (form_rules f)

abbrev rules_by : Form → ℕ → Bool → List Rule
rules_by f most b = cond b [] (values_rule f.least most ∷ [])

abbrev form_by : Form → ℕ → Bool → Shape
form_by f most b = built_shape f.name.now (rules_by f most b)

max_is : (a b : ℕ) → b ≤ a → max a b ≡ a
max_is a b low = omega (arith, low)

form_is : (f : Form) (b : Bool) → f.least ≤ f.most → (f.most == 0) ≡ b → built_form f ≡ form_by f f.most b
form_is f b low p = ap₂ (form_by f) (max_is f.most f.least low) p

some_of : (n : ℕ) → (n == 0) ≡ false → 1 ≤ n
some_of n e = let other = eqb-false n 0 e in omega (arith, other)

form_reads : (f : Form) (ws : List Text) → f.least ≤ f.most → list_any is_dashed ws ≡ false → leaf (built_form f) ws ≡ [] → Takes (built_form f) f.least f.most ws
form_reads f ws low d none = go (f.most == 0) refl
  where
    by : (b : Bool) → (f.most == 0) ≡ b → leaf (form_by f f.most b) ws ≡ []
    by b p = subst (λ (s : Shape). leaf s ws ≡ []) (form_is f b low p) none

    back : (b : Bool) → (f.most == 0) ≡ b → Takes (form_by f f.most b) f.least f.most ws → Takes (built_form f) f.least f.most ws
    back b p h = subst (λ (s : Shape). Takes s f.least f.most ws) (sym (form_is f b low p)) h

    go : (b : Bool) → (f.most == 0) ≡ b → Takes (built_form f) f.least f.most ws
    go true p =
        let h = bare_reads f.name.now ws d (by true p) in
        back true p (record { least_is = omega (arith, low, eqb-true f.most 0 p, h.least_is); most_is = omega (arith, eqb-true f.most 0 p, h.most_is); values = h.values })
    go false p = back false p (valued_reads f.name.now f.least f.most ws (some_of f.most p) low d (by false p))

form_takes : (f : Form) (ws : List Text) → f.least ≤ length ws → length ws ≤ f.most → list_any is_dashed ws ≡ false → leaf (built_form f) ws ≡ []
form_takes f ws least most d = go (f.most == 0) refl
  where
    low : f.least ≤ f.most
    low = omega (arith, least, most)

    none : (vs : List Text) → length vs ≤ 0 → leaf (bare_shape f.name.now) vs ≡ []
    none [] few = bare_takes f.name.now
    none (v ∷ vs) few = absurd (omega (arith, few))

    go : (b : Bool) → (f.most == 0) ≡ b → leaf (built_form f) ws ≡ []
    go true p = ap (λ (s : Shape). leaf s ws) (form_is f true low p) ∙ none ws (omega (arith, most, eqb-true f.most 0 p))
    go false p = ap (λ (s : Shape). leaf s ws) (form_is f false low p) ∙ valued_takes f.name.now f.least f.most ws (some_of f.most p) least most d

-- ---- all forms

-- the form with this name
abbrev pub form_named : Text → List Form → Option Form
form_named w = find (λ f. bytes_eq f.name.now w)

-- the top of the command, built
abbrev top_noted : Shape
top_noted = with_leaf_noted (marked_built (record top_shape { is_leaf = false }))

abbrev top_built : Shape
top_built = (built (record { top = record top_shape { is_leaf = false }; subs = [] })).top

abbrev with_subs : List Shape → App
with_subs ss = record { top = top_built; subs = ss }

abbrev whole : List Form → App
whole forms = with_subs (map built_form forms)

maps : (fs : List Form) → map built_leaf (map (inherited top_noted) (map form_shape fs)) ≡ map built_form fs
maps [] = refl
maps (f ∷ fs) = ap (λ (ss : List Shape). built_form f ∷ ss) (maps fs)

built_is : (f : Form) (fs : List Form) → built (words_app (f ∷ fs)) ≡ whole (f ∷ fs)
built_is f fs = ap with_subs (maps (f ∷ fs))

-- ---- finding a form by its name

shape_found : (w : Text) (fs : List Form) → find (λ s. answers_to w (label_of s)) (map built_form fs) ≡ option_map built_form (form_named w fs)
shape_found w fs = sym (find-map (λ s. answers_to w (label_of s)) built_form fs) ∙ (λ i. option_map built_form (find (λ f. or_false (bytes_eq f.name.now w) i) fs))

name_of_label : (o : Option Form) → option_map (λ (s : Text × List Text). s.0) (option_map label_of (option_map built_form o)) ≡ option_map (λ f. f.name.now) o
name_of_label None = refl
name_of_label (Some f) = refl

met_is : (w : Text) (fs : List Form) → subcommand_met (names_of (whole fs)) idle w ≡ option_map (λ f. f.name.now) (form_named w fs)
met_is w fs =
    ap (option_map (λ (s : Text × List Text). s.0)) (sym (find-map (answers_to w) label_of (map built_form fs)) ∙ ap (option_map label_of) (shape_found w fs))
    ∙ name_of_label (form_named w fs)

-- the form that is found has the name, and what is told of each form that may come first
found_has : (R : List Form → Type 0) (P : Form → Type 0) → ((f : Form) (fs : List Form) → R (f ∷ fs) → P f × R fs) → (w : Text) (fs : List Form) (g : Form) → R fs → form_named w fs ≡ Some g → P g × (g.name.now ≡ w)
found_has R P part w [] g r e = cc
found_has R P part w (f ∷ fs) g r e = go (bytes_eq f.name.now w) (found_has R P part w fs g (part f fs r).1) refl e
  where
    go : (b : Bool) → (form_named w fs ≡ Some g → P g × (g.name.now ≡ w)) → bytes_eq f.name.now w ≡ b → cond b (Some f) (form_named w fs) ≡ Some g → P g × (g.name.now ≡ w)
    go true more p q =
        let same : f ≡ g = cc in
        subst (λ (h : Form). P h × (h.name.now ≡ w)) same ((part f fs r).0, (bytes_eq-Decides f.name.now w).0 p)
    go false more p q = more q

named_is : (w : Text) (fs : List Form) (g : Form) → form_named w fs ≡ Some g → g.name.now ≡ w
named_is w fs g e = (found_has (λ _. Unit {0}) (λ _. Unit {0}) (λ f fs r. (tt, tt)) w fs g tt e).1

pub has_range : (w : Text) (fs : List Form) (g : Form) → AreForms fs → form_named w fs ≡ Some g → g.least ≤ g.most
has_range w fs g are e = (found_has AreForms (λ f. f.least ≤ f.most) (λ f fs r. (r.0, r.2)) w fs g are e).0

pub apart_from : (name w : Text) (fs : List Form) (g : Form) → NoneHas name fs → form_named w fs ≡ Some g → name ≢ g.name.now
apart_from name w fs g none e = (found_has (NoneHas name) (λ f. name ≢ f.name.now) (λ f fs r. r) w fs g none e).0

pub first_found : (f : Form) (fs : List Form) → form_named f.name.now (f ∷ fs) ≡ Some f
first_found f fs = ap (λ (b : Bool). cond b (Some f) (form_named f.name.now fs)) ((bytes_eq-Decides f.name.now f.name.now).1 refl)

pub later_found : (f : Form) (fs : List Form) (g : Form) → f.name.now ≢ g.name.now → form_named g.name.now fs ≡ Some g → form_named g.name.now (f ∷ fs) ≡ Some g
later_found f fs g apart e = ap (λ (b : Bool). cond b (Some f) (form_named g.name.now fs)) (false_from_ne_true (bytes_eq f.name.now g.name.now) (λ p. apart ((bytes_eq-Decides f.name.now g.name.now).0 p))) ∙ e

-- ---- the whole parse

-- What the words are, and what the parse entered.
pub record Read (forms : List Form) (words : List Text) (met : Option (Text × List Row)) : Type 0 where
  pub form : Form
  pub found : form_named form.name.now forms ≡ Some form
  pub values : List Text
  pub rows : List Row
  pub words_are : words ≡ form.name.now ∷ values
  pub least : form.least ≤ length values
  pub most : length values ≤ form.most
  pub met_is : met ≡ Some (form.name.now, rows)
  pub values_are : values_of rows ≡ values

module _ (forms : List Form) where
  abbrev app : App
  app = whole forms

  abbrev app_fault : List Text → Kinds
  app_fault ws = built_fault app nothing_held ws

  abbrev app_entered : List Text → Option (Text × List Row)
  app_entered ws = entered app (stop_after top_built.rules (names_of app) ws)

  -- the top's level by its walk and the faults on the way
  abbrev top_by : Walk → Kinds → Kinds
  top_by end turns =
      or_else turns (or_else (entered_fault app end.stopped) (or_else (settle_fault top_built.rules top_built.args_override_self end.held)
      (or_else (defaults_fault (settled top_built.rules end.held).rows top_built.rules) (check_fault top_built (finished top_built.rules end.held) (is_some (entered app end.stopped))))))

  -- by the subcommand that the first word names
  abbrev shape_fault : List Text → Option Shape → Kinds
  shape_fault ws o = or_else (option_map_or (λ s. leaf s ws) o []) (check_fault top_built [] (is_some (option_map (λ s. rows_at s ws) o)))

  module _ (w : Text) (ws : List Text) (met : subcommand_met (names_of app) idle w ≡ Some w) where
    fault_is : app_fault (w ∷ ws) ≡ shape_fault ws (find (λ s. answers_to w (label_of s)) app.subs)
    unfolding clap_on_literals
    fault_is = ap₂ top_by (stops (names_of app) w w nothing_held met top_built.rules ws) (no_stop_fault (names_of app) w w nothing_held met top_built ws refl)

    rows_are : app_entered (w ∷ ws) ≡ option_map (λ s. rows_at s ws) (find (λ s. answers_to w (label_of s)) app.subs)
    rows_are = ap (λ (x : Walk). entered app x.stopped) (stops (names_of app) w w nothing_held met top_built.rules ws)

  module _ (f : Form) (ws : List Text) (found : form_named f.name.now forms ≡ Some f) where
    shape_is : find (λ s. answers_to f.name.now (label_of s)) app.subs ≡ Some (built_form f)
    shape_is = shape_found f.name.now forms ∙ ap (option_map built_form) found

    is_met : subcommand_met (names_of app) idle f.name.now ≡ Some f.name.now
    is_met = met_is f.name.now forms ∙ ap (option_map (λ (g : Form). g.name.now)) found

    fault_at : app_fault (f.name.now ∷ ws) ≡ or_else (leaf (built_form f) ws) []
    fault_at = fault_is f.name.now ws is_met ∙ ap (shape_fault ws) shape_is

    rows_at_form : app_entered (f.name.now ∷ ws) ≡ Some (f.name.now, rows_after (built_form f).rules [] ws)
    rows_at_form = rows_are f.name.now ws is_met ∙ ap (option_map (λ s. rows_at s ws)) shape_is

  starts_empty : app_fault [] ≡ [] → ⊥
  unfolding clap_on_literals
  starts_empty none = some_kind _ _ none

  other_first : (w : Text) (ws : List Text) → is_dashed w ≡ false → form_named w forms ≡ None → app_fault (w ∷ ws) ≡ [] → ⊥
  other_first w ws d other none =
      let met : subcommand_met (names_of app) idle w ≡ None = met_is w forms ∙ ap (option_map (λ (g : Form). g.name.now)) other in
      let turns = first_fault (names_of app) idle 1 w nothing_held d met (λ c. refl) top_built ws in
      some_kind _ _ (sym (ap (top_by (walk top_built.rules (names_of app) nothing_held (w ∷ ws))) turns) ∙ none)

  -- the command takes no other words than the forms have
  all_read : AreForms forms → (ws : List Text) → list_any is_dashed ws ≡ false → app_fault ws ≡ [] → Read forms ws (app_entered ws)
  all_read are [] d none = absurd (starts_empty none)
  all_read are (w ∷ ws) d none = go (form_named w forms) refl
    where
      plain : (is_dashed w ≡ false) × (list_any is_dashed ws ≡ false)
      plain = or_parts (is_dashed w) (list_any is_dashed ws) d

      at_form : (f : Form) → form_named f.name.now forms ≡ Some f → app_fault (f.name.now ∷ ws) ≡ [] → Read forms (f.name.now ∷ ws) (app_entered (f.name.now ∷ ws))
      at_form f found free =
          let taken = form_reads f ws (has_range f.name.now forms f are found) plain.1 (no_kinds (leaf (built_form f) ws) (sym (fault_at f ws found) ∙ free)) in
          record {
            form = f;
            found = found;
            values = ws;
            rows = rows_after (built_form f).rules [] ws;
            words_are = refl;
            least = taken.least_is;
            most = taken.most_is;
            met_is = rows_at_form f ws found;
            values_are = taken.values;
          }

      go : (o : Option Form) → form_named w forms ≡ o → Read forms (w ∷ ws) (app_entered (w ∷ ws))
      go None p = absurd (other_first w ws plain.0 p none)
      go (Some f) p =
          let is : f.name.now ≡ w = named_is w forms f p in
          subst (λ (v : Text). Read forms (v ∷ ws) (app_entered (v ∷ ws))) is
          (at_form f (subst (λ (v : Text). form_named v forms ≡ Some f) (sym is) p) (subst (λ (v : Text). app_fault (v ∷ ws) ≡ []) (sym is) none))

-- the same, of the command as it was given to clap
pub reads : (f : Form) (fs : List Form) → AreForms (f ∷ fs) → (ws : List Text) → list_any is_dashed ws ≡ false → fault_of (words_app (f ∷ fs)) ws ≡ []
    → Read (f ∷ fs) ws (subcommand_of (words_app (f ∷ fs)) ws)
reads f fs are ws d none =
    subst (Read (f ∷ fs) ws) (sym (ap (λ (a : App). entered a (stop_after a.top.rules (names_of a) ws)) (built_is f fs)))
    (all_read (f ∷ fs) are ws d (sym (ap (λ (a : App). built_fault a nothing_held ws) (built_is f fs)) ∙ none))

pub takes : (f : Form) (fs : List Form) (g : Form) (ws values : List Text) → form_named g.name.now (f ∷ fs) ≡ Some g → IsNamed g ws values → fault_of (words_app (f ∷ fs)) ws ≡ []
takes f fs g ws values found h =
    let plain = or_parts (is_dashed g.name.now) (list_any is_dashed values) (sym (ap (list_any is_dashed) h.words_are) ∙ h.plain) in
    ap (fault_of (words_app (f ∷ fs))) h.words_are
    ∙ (ap (λ (a : App). built_fault a nothing_held (g.name.now ∷ values)) (built_is f fs)
    ∙ (fault_at (f ∷ fs) g values found ∙ ap (λ (ks : Kinds). or_else ks []) (form_takes g values h.least h.most plain.1)))

-- ---- the command is built form by form

abbrev grown : List Shape → App
grown ss = record { top = record top_shape { is_leaf = false }; subs = ss }

forms_added : (ss : List Shape) (fs : List Form) → fold with_form (grown ss) fs ≡ grown (ss ++ map form_shape fs)
forms_added ss [] = ap grown (sym (append-nil ss))
forms_added ss (f ∷ fs) = forms_added (ss ++ form_shape f ∷ []) fs ∙ ap grown (append_assoc ss (form_shape f ∷ []) (map form_shape fs))

pub all_added : (fs : List Form) → fold with_form (words_app []) fs ≡ words_app fs
all_added [] = refl
all_added (f ∷ fs) = forms_added (form_shape f ∷ []) fs

-- ---- the command is one of which clap's clauses tell all

form_ok : (f : Form) (b : Bool) → (is_simple_leaf (record (new_shape f.name.now) { rules = rules_by f (max f.most f.least) b }) ≡ true)
    × (is_ready_leaf (form_by f (max f.most f.least) b) ≡ true) × (has_free_rules (form_by f (max f.most f.least) b) ≡ true)
form_ok f true = (refl, refl, refl)
form_ok f false = (refl, ap (λ (b : Bool). not (b || false)) (and_right (is_multiple (the_rule f.least (max f.most f.least))) false refl), refl)

all_simple : (fs : List Form) → list_all is_simple_leaf (map form_shape fs) ≡ true
all_simple [] = refl
all_simple (f ∷ fs) = ap₂ (λ (a b : Bool). a && b) (form_ok f (f.most == 0)).0 (all_simple fs)

all_ready : (fs : List Form) → list_all is_ready_leaf (map built_form fs) ≡ true
all_ready [] = refl
all_ready (f ∷ fs) = ap₂ (λ (a b : Bool). a && b) (form_ok f (f.most == 0)).1 (all_ready fs)

all_free : (fs : List Form) → list_all has_free_rules (map built_form fs) ≡ true
all_free [] = refl
all_free (f ∷ fs) = ap₂ (λ (a b : Bool). a && b) (form_ok f (f.most == 0)).2 (all_free fs)

-- by its parts
abbrev simple_by : Bool → App → Bool
simple_by b a = (b && (is_ready a.top && list_all is_ready_leaf a.subs)) && (has_free_rules a.top && list_all has_free_rules a.subs)

pub simple : (f : Form) (fs : List Form) → is_simple_and_free (words_app (f ∷ fs)) ≡ true
simple f fs =
    ap₂ simple_by (all_simple (f ∷ fs)) (built_is f fs) ∙ ap₂ (λ (a b : Bool). a && b) (all_ready (f ∷ fs)) (all_free (f ∷ fs))
