-- Answers that lines can have, and answers that they cannot, by computing.
use Rattle.std.proofs.Common.{◌≡◌, Bool, true, false, refl, sym, ap, subst}
use Rattle.std.specs.Prelude.{◌&&◌, ◌||◌, bytes_eq, codes}
use Rattle.std.proofs.lemmas.Slice.Eq.{bytes_eq-Decides}
use Rattle.mm_types.specs.{Text}
use Rattle.mm_log_walk.specs.{all_can, can_answer, fits_form, fitting_answers, is_done, is_left, is_refused, is_thread_word, other_answers, ten}

pub these_fit : all_can fitting_answers ≡ ten true
these_fit = refl

pub these_do_not : all_can other_answers ≡ ten false
these_do_not = refl

pub ruleset worked = (these_fit, these_do_not)

-- ---- reads and writes that are done

first_then : (a b c : Bool) → a ≡ true → (a || b || c) ≡ true
first_then a b c e = ap (λ (x : Bool). x || b || c) e

of_read : (answer : Text) → fits_form (codes "ok *") answer ≡ true → can_answer (codes "read") answer ≡ true
of_read answer e =
    let read : Text = codes "read" in
    first_then (is_done read answer) (is_refused read answer) (is_left read answer)
    (first_then (fits_form (codes "ok *") answer) (is_thread_word read && fits_form (codes "ok *") answer)
    (bytes_eq read (codes "watch") && fits_form (codes "ok #") answer) e)

of_write : can_answer (codes "write") (codes "ok") ≡ true
of_write = refl

pub read_done : (word answer : Text) → bytes_eq word (codes "read") ≡ true
    → fits_form (codes "ok *") answer ≡ true → can_answer word answer ≡ true
read_done word answer e fit =
    let is : word ≡ codes "read" = (bytes_eq-Decides word (codes "read")).0 e in
    subst (λ (w : Text). can_answer w answer ≡ true) (sym is) (of_read answer fit)

pub write_done : (word answer : Text) → bytes_eq word (codes "write") ≡ true
    → bytes_eq answer (codes "ok") ≡ true → can_answer word answer ≡ true
write_done word answer e f =
    let is : word ≡ codes "write" = (bytes_eq-Decides word (codes "write")).0 e in
    let ok : answer ≡ codes "ok" = (bytes_eq-Decides answer (codes "ok")).0 f in
    subst (λ (w : Text). can_answer w answer ≡ true) (sym is)
    (subst (λ (a : Text). can_answer (codes "write") a ≡ true) (sym ok) of_write)

pub ruleset plainly = (read_done, write_done)
