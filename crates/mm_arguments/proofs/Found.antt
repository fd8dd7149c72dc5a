-- From the matches to what the words say.
use Rattle.std.proofs.Common.{◌≡◌, ◌≢◌, ◌∙◌, ap, ap₂, sym, refl, subst, Bool, cond, false, true, Option, None, Some, List, ◌∷◌, [], length, codes, inl, inr, arith}
use Rattle.std.proofs.lemmas.Bool.{and_parts}
use Rattle.std.specs.Prelude.{Box, ◌⊎◌, MatchOption, option_map, unwrap_or}
use Rattle.std.specs.Box.{box_value}
use Rattle.std.specs.List.{list_any}
use Rattle.std.specs.Str.{bytes_eq}
use Rattle.clap.specs.Words.{App, HasKind, Kinds, Row, Text, app_of, fault_of, found_of, HasMatchesOf, built, is_simple, is_simple_and_free, kind_of, matched_of, raw_values, rows_of, subcommand_name_of, subcommand_of, subcommand_rows, subcommand_rows_of}
use Rattle.clap.specs.declared.builder.Command.{Command}
use Rattle.clap.specs.declared.error.Error.{Error}
use Rattle.clap.specs.declared.error.ErrorKind.TheVariants.{OutOfMemory}
use Rattle.clap.specs.declared.parser.matches.ArgMatches.{ArgMatches}
use Rattle.clap.specs.declared.parser.matches.ArgMatches.TheViews.{out-ArgMatches, out-SubCommand}
use Rattle.clap.specs.declared.parser.matches.SubCommand.{SubCommand}
use Rattle.clap.specs.Faults.{is_free_app}
use Rattle.clap.proofs.WalkLemmas.{raw_values-rows}
use Rattle.mm_arguments.specs.{Form, Said, AreForms, IsNamed, Says, SaysNone, is_dashed, texts, GivesWords, values_of, words_app}
use Rattle.mm_arguments.proofs.Whole.{Read, apart_from, first_found, form_named, later_found, reads, simple, takes}

-- an error that is not for memory is a fault of the words
pub refused : (a : App) (ws : List Text) (e : Error) (c : Command) → app_of c ≡ a → is_simple_and_free a ≡ true → (is_simple_and_free (app_of c) ≡ true → HasKind (fault_of (app_of c) ws) e)
    → (kind_of e ≡ OutOfMemory → ⊥) → fault_of a ws ≡ [] → ⊥
refused a ws e c same simple kinds other free =
    go (subst (λ (ks : Kinds). HasKind ks e) free (subst (λ (x : App). HasKind (fault_of x ws) e) same (kinds (ap is_simple_and_free same ∙ simple))))
  where
    go : (kind_of e ≡ OutOfMemory) ⊎ ⊥ → ⊥
    go (inl p) = other p
    go (inr q) = q

module _ {Z : Type 0} where
  name_in : (o : Option (Box SubCommand Z)) → option_map (λ b. (out-SubCommand (box_value b)).name.now) o ≡ option_map (λ (p : Text × List Row). p.0) (subcommand_rows o)
  name_in None = refl
  name_in (Some b) = refl

pub name_of_rows : (m : ArgMatches) → subcommand_name_of m ≡ option_map (λ (p : Text × List Row). p.0) (subcommand_rows_of m)
name_of_rows m = name_in (out-ArgMatches m).subcommand

-- ---- what the matches have

abbrev first_of : Option (Text × List Row) → Option Text
first_of = option_map (λ (p : Text × List Row). p.0)

abbrev second_of : Option (Text × List Row) → Option (List Row)
second_of = option_map (λ (p : Text × List Row). p.1)

pair_is : (o : Option (Text × List Row)) (n : Text) (r : List Row) → Some n ≡ option_map (λ (p : Text × List Row). p.0) o → Some r ≡ option_map (λ (p : Text × List Row). p.1) o → o ≡ Some (n, r)
pair_is None n r e f = cc
pair_is (Some p) n r e f =
    let first : p.0 ≡ n = cc in
    let second : p.1 ≡ r = cc in
    ap₂ (λ (x : Text) (y : List Row). Some (x, y)) first second

pub gives : (m v : ArgMatches) (said : Said) → Some said.name.now ≡ subcommand_name_of m → Some (rows_of (found_of v)) ≡ option_map (λ (p : Text × List Row). p.1) (subcommand_rows_of m)
    → (o : Option (List Text)) → o ≡ option_map raw_values (matched_of (found_of v) (codes "values")) → unwrap_or o [] ≡ texts said.values.items → GivesWords (subcommand_rows_of m) said
gives m v said name rows o values are = record {
  rows = rows_of (found_of v);
  met_is = pair_is (subcommand_rows_of m) said.name.now (rows_of (found_of v)) (name ∙ name_of_rows m) rows;
  values = ap (λ (x : Option (List Text)). unwrap_or x []) (sym (values ∙ raw_values-rows (found_of v) (codes "values"))) ∙ are;
}

-- ---- what the words say

says_found : (fs : List Form) (g : Form) (words : List Text) (said : Said) → form_named g.name.now fs ≡ Some g → said.name.now ≡ g.name.now → IsNamed g words (texts said.values.items) → Says fs words said
says_found [] g words said e name h = cc
says_found (f ∷ fs) g words said e name h = go (bytes_eq f.name.now g.name.now) (λ q. says_found fs g words said q name h) e
  where
    go : (b : Bool) → (form_named g.name.now fs ≡ Some g → Says fs words said) → cond b (Some f) (form_named g.name.now fs) ≡ Some g → Says (f ∷ fs) words said
    go true more q =
        let same : g ≡ f = cc in
        inl (subst (λ (x : Form). (said.name.now ≡ x.name.now) × IsNamed x words (texts said.values.items)) same (name, h))
    go false more q = inr (more q)

pub says : (fs : List Form) (words : List Text) (met : Option (Text × List Row)) (said : Said) → list_any is_dashed words ≡ false → Read fs words met → GivesWords met said → Says fs words said
says fs words met said plain read given =
    let names : Some read.form.name.now ≡ Some said.name.now = sym (ap first_of read.met_is) ∙ ap first_of given.met_is in
    let lists : Some read.rows ≡ Some given.rows = sym (ap second_of read.met_is) ∙ ap second_of given.met_is in
    let name : said.name.now ≡ read.form.name.now = cc in
    let rows : read.rows ≡ given.rows = cc in
    let values : read.values ≡ texts said.values.items = sym read.values_are ∙ ap values_of rows ∙ given.values in
    says_found fs read.form words said read.found name
    (subst (IsNamed read.form words) values (record { words_are = read.words_are; least = read.least; most = read.most; plain = plain }))

-- a parse that entered nothing read no form
pub entered_some : (fs : List Form) (words : List Text) (met : Option (Text × List Row)) → Read fs words met → met ≡ None → ⊥
entered_some fs words met read none =
    let bad : Some read.form.name.now ≡ None = sym (ap first_of read.met_is) ∙ ap first_of none in
    cc

none_of : (fs : List Form) (words : List Text) → AreForms fs → ((g : Form) (values : List Text) → form_named g.name.now fs ≡ Some g → IsNamed g words values → ⊥) → SaysNone fs words
none_of [] words are none = tt
none_of (f ∷ fs) words are none = (
  λ values h. none f values (first_found f fs) h,
  none_of fs words are.2 (λ g values e h. none g values (later_found f fs g (apart_from f.name.now g.name.now fs g are.1 e) e) h),
)

-- words that the command does not take say nothing
pub says_none : (f : Form) (fs : List Form) (words : List Text) → AreForms (f ∷ fs) → (fault_of (words_app (f ∷ fs)) words ≡ [] → ⊥) → SaysNone (f ∷ fs) words
says_none f fs words are refuses = none_of (f ∷ fs) words are (λ g values e h. refuses (takes f fs g words values e h))

-- nor do words of which one begins with `-`
pub dashed_none : (fs : List Form) (words : List Text) → list_any is_dashed words ≡ true → SaysNone fs words
dashed_none [] words dashed = tt
dashed_none (f ∷ fs) words dashed = (λ values h. let bad : true ≡ false = sym dashed ∙ h.plain in cc, dashed_none fs words dashed)

pub said_from : (fs : List Form) (words : List Text) (met : Option (Text × List Row)) → list_any is_dashed words ≡ false → Read fs words met → (r : Option Said)
    → MatchOption r (met ≡ None) (GivesWords met) → MatchOption r (SaysNone fs words) (Says fs words)
said_from fs words met plain read None none = absurd (entered_some fs words met read none)
said_from fs words met plain read (Some said) given = says fs words met said plain read given

-- what a parse that succeeded has
pub accepted : (a : App) (ws : List Text) (c : Command) (m : ArgMatches) → app_of c ≡ a → is_simple_and_free a ≡ true → (is_simple_and_free (app_of c) ≡ true → fault_of (app_of c) ws ≡ []) → HasMatchesOf (app_of c) ws m
    → (fault_of a ws ≡ []) × (subcommand_rows_of m ≡ subcommand_of a ws)
accepted a ws c m same simple free has = (
  subst (λ (x : App). fault_of x ws ≡ []) same (free (ap is_simple_and_free same ∙ simple)),
  (subst (λ (x : App). HasMatchesOf x ws m) same has (and_parts (is_simple a) (is_free_app (built a)) simple).0).1,
)

-- ---- the same, of a list that is not empty

pub none_empty : (fs : List Form) (words : List Text) → length fs ≡ 0 → SaysNone fs words
none_empty [] words none = tt
none_empty (f ∷ fs) words none = absurd (omega (arith, none))

pub simple_some : (fs : List Form) → fs ≢ [] → is_simple_and_free (words_app fs) ≡ true
simple_some [] some = absurd (some refl)
simple_some (f ∷ fs) some = simple f fs

pub reads_some : (fs : List Form) → fs ≢ [] → AreForms fs → (ws : List Text) → list_any is_dashed ws ≡ false → fault_of (words_app fs) ws ≡ [] → Read fs ws (subcommand_of (words_app fs) ws)
reads_some [] some = absurd (some refl)
reads_some (f ∷ fs) some = reads f fs

pub says_none_some : (fs : List Form) → fs ≢ [] → (words : List Text) → AreForms fs → (fault_of (words_app fs) words ≡ [] → ⊥) → SaysNone fs words
says_none_some [] some = absurd (some refl)
says_none_some (f ∷ fs) some = says_none f fs
