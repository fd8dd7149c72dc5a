-- How clap walks over words that do not begin with `-`.
use Rattle.std.proofs.Common.{◌≡◌, ◌∙◌, ap, ap₂, sym, refl, ℕ, Bool, cond, false, true, not, Option, None, Some, List, ◌∷◌, ◌++◌, [], codes, append_assoc}
use Rattle.std.proofs.lemmas.Bool.{and_right}
use Rattle.std.proofs.lemmas.List.{append-nil}
use Rattle.std.specs.List.{fold}
use Rattle.std.specs.Option.{option_map_or}
use Rattle.std.specs.Str.{bytes_eq}
use Rattle.clap.specs.Words.{Rule, Shape, Text}
use Rattle.clap.specs.Lexer.{long_of, short_of}
use Rattle.clap.specs.Walk.{Held, Names, Step, Waiting, Walk, after_step, arg_by_index, idle, long_or_other, plain_word, short_or_plain, subcommand_met, subcommand_or_other, to_positional, trailing, value, walk, walk_from, walked, word_met}
use Rattle.clap.specs.Kinds.{Kinds, or_else}
use Rattle.clap.specs.Faults.{bundle_fault, flag_word_fault, other_fault, step_fault, turn_fault, walk_fault, word_fault}
use Rattle.clap.specs.declared.error.ErrorKind.TheVariants.{DisplayHelp, InvalidSubcommand}
use Rattle.clap.proofs.FaultLemmas.{stopped_fault}
use Rattle.mm_arguments.specs.{is_dashed}

not_long : (w : Text) → is_dashed w ≡ false → long_of w ≡ None
not_long [] e = refl
not_long (x ∷ xs) e = rw e refl

not_short : (w : Text) → is_dashed w ≡ false → short_of w ≡ None
not_short [] e = refl
not_short (x ∷ xs) e = rw e refl

not_two_dashes : (w : Text) → is_dashed w ≡ false → bytes_eq w (45 ∷ 45 ∷ []) ≡ false
not_two_dashes [] e = refl
not_two_dashes (x ∷ xs) e = rw e refl

-- between two words
abbrev pub at : Waiting → Held → ℕ → Walk
at waiting h p = record { held = h; waiting = waiting; position = p; is_trailing = false; stopped = None }

-- a word that does not begin with `-`, names no subcommand, and is for no option
module _ (names : Names) (waiting : Waiting) (p : ℕ) (w : Text) (h : Held) (plain : is_dashed w ≡ false) (met : subcommand_met names waiting w ≡ None)
    (takes : (c : List Rule) → plain_word c waiting w h ≡ (h, value)) where
  is_value : (c : List Rule) → word_met c names false waiting p w h ≡ (h, value)
  is_value c =
      ap (λ (o : Option Text). subcommand_or_other c o waiting p w h) met
      ∙ (ap (λ (b : Bool). cond b (h, trailing p) (long_or_other c waiting w (long_of w) h)) (not_two_dashes w plain)
      ∙ (ap (λ (o : Option (Text × Option Text)). long_or_other c waiting w o h) (not_long w plain) ∙ (ap (λ (o : Option Text). short_or_plain c waiting w o h) (not_short w plain) ∙ takes c)))

  no_fault : (s : Shape) → word_fault s names false waiting w h ≡ []
  no_fault s =
      ap (λ (o : Option Text). other_fault s o w h) met
      ∙ (ap (λ (b : Bool). cond b [] (flag_word_fault s.rules s.args_override_self (long_of w) w h)) (not_two_dashes w plain)
      ∙ (ap (λ (o : Option (Text × Option Text)). flag_word_fault s.rules s.args_override_self o w h) (not_long w plain)
      ∙ ap (λ (o : Option Text). option_map_or (λ flags. bundle_fault s.rules s.args_override_self flags h) o []) (not_short w plain)))

  -- it goes to the positional of its place
  pub placed : (c : List Rule) → walked c names (at waiting h p) w ≡ to_positional c (arg_by_index c p) w (at waiting h p) h
  unfolding walked
  placed c = ap (λ (m : Held × Step). after_step c w (at waiting h p) m.0 m.1) (is_value c)

  turn : (s : Shape) → turn_fault s names (at waiting h p) w ≡ step_fault s p h value
  turn s = ap₂ (λ (k : Kinds) (m : Held × Step). or_else k (step_fault s p m.0 m.1)) (no_fault s) (is_value s.rules)

  pub first_fault : (s : Shape) (rest : List Text) → walk_fault s names (at waiting h p) (w ∷ rest)
      ≡ or_else (step_fault s p h value) (walk_fault s names (to_positional s.rules (arg_by_index s.rules p) w (at waiting h p) h) rest)
  unfolding walk_fault
  first_fault s rest = ap₂ (λ (k : Kinds) (x : Walk). or_else k (walk_fault s names x rest)) (turn s) (placed s.rules)

abbrev pub stopped_at : Walk → Text → List Text → Walk
stopped_at w n acc = record w { stopped = Some (n, acc) }

-- a walk that has met a subcommand only collects the words after it
runs_on : (c : List Rule) (names : Names) (w : Walk) (n : Text) (acc ws : List Text) → fold (walked c names) (stopped_at w n acc) ws ≡ stopped_at w n (acc ++ ws)
unfolding walked
runs_on c names w n acc [] = ap (stopped_at w n) (sym (append-nil acc))
runs_on c names w n acc (x ∷ ws) = runs_on c names w n (acc ++ x ∷ []) ws ∙ ap (stopped_at w n) (append_assoc acc (x ∷ []) ws)

-- a first word that names a subcommand
module _ (names : Names) (w n : Text) (h : Held) (met : subcommand_met names idle w ≡ Some n) where
  pub stops : (c : List Rule) (ws : List Text) → walk c names h (w ∷ ws) ≡ stopped_at (walk_from h) n ws
  unfolding walked
  stops c ws =
      ap (λ (o : Option Text). fold (walked c names) (after_step c w (walk_from h) (subcommand_or_other c o idle 1 w h).0 (subcommand_or_other c o idle 1 w h).1) ws) met
      ∙ runs_on c names (walk_from h) n [] ws

  pub no_stop_fault : (s : Shape) (ws : List Text) → s.disable_help_subcommand ≡ true → walk_fault s names (walk_from h) (w ∷ ws) ≡ []
  unfolding walk_fault walked
  no_stop_fault s ws e =
      ap (λ (o : Option Text). or_else (or_else (other_fault s o w h) (step_fault s 1 (subcommand_or_other s.rules o idle 1 w h).0 (subcommand_or_other s.rules o idle 1 w h).1))
      (walk_fault s names (after_step s.rules w (walk_from h) (subcommand_or_other s.rules o idle 1 w h).0 (subcommand_or_other s.rules o idle 1 w h).1) ws)) met
      ∙ ap₂ (λ (b : Bool) (k : Kinds). or_else (or_else (cond b (DisplayHelp ∷ InvalidSubcommand ∷ []) []) []) k)
      (and_right (bytes_eq n (codes "help")) (not s.disable_help_subcommand) (ap not e)) (stopped_fault s names (walk_from h) (n, []) ws)
