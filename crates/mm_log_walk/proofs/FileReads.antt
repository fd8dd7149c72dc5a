-- A file that is read piece by piece.
use Rattle.std.proofs.Common.{◌≡◌, ℕ, ◌<◌, Bool, true, false, [], ◌++◌, length, take, Option, Some, None, refl, sym, ap, ◌∙◌, subst, arith}
use Rattle.std.specs.Prelude.{nat_lt}
use Rattle.std.proofs.lemmas.Bool.{ltb-false}
use Rattle.mm_types.specs.{Text, Took, IsEnd}
use Rattle.mm_types.proofs.{took_then, append_nil}
use Rattle.mm_io.specs.{ReadsFront}
use Rattle.mm_log_walk.specs.{IsRead, ReadsOn}

end_after : (a b : Option Text) → IsEnd a → Took a b [] → IsEnd b
end_after None None e t = tt
end_after None (Some b) e t = absurd t
end_after (Some a) None e t = absurd t
end_after (Some a) (Some b) e t = sym t ∙ e

took_end : (left a b : Option Text) (bytes : Text) → Took left a bytes → IsEnd a → Took a b [] → IsRead left b bytes
took_end left a b bytes t e n = record { took = subst (λ (xs : Text). Took left b xs) (append_nil bytes) (took_then left a b bytes [] t n); end = end_after a b e n }

reads_by : (more : Bool) (left a b : Option Text) (bytes bytes' buf : Text) (n : ℕ) → nat_lt 0 n ≡ more → (more ≡ false → n ≡ 0) → Took left a bytes → ReadsFront a b buf n → 0 < length buf
    → bytes' ≡ bytes ++ take n buf → ReadsOn left b bytes' more
reads_by true left a b bytes bytes' buf n is none_of t r some e = subst (λ (xs : Text). Took left b xs) (sym e) (took_then left a b bytes (take n buf) t r.bytes)
reads_by false left a b bytes bytes' buf n is none_of t r some e =
    let none : n ≡ 0 = none_of refl in
    let front : take n buf ≡ [] = ap (λ (k : ℕ). take k buf) none in
    subst (λ (xs : Text). IsRead left b xs) (sym (e ∙ ap (λ xs. bytes ++ xs) front ∙ append_nil bytes))
    (took_end left a b bytes t (r.end some none) (subst (λ (xs : Text). Took a b xs) front r.bytes))

no_more : (n : ℕ) → nat_lt 0 n ≡ false → n ≡ 0
no_more n e = omega (arith, ltb-false 0 n e)

pub reads_on : (left a b : Option Text) (bytes bytes' buf : Text) (n : ℕ) → Took left a bytes → ReadsFront a b buf n → 0 < length buf → bytes' ≡ bytes ++ take n buf → ReadsOn left b bytes' (nat_lt 0 n)
reads_on left a b bytes bytes' buf n t r some e = reads_by (nat_lt 0 n) left a b bytes bytes' buf n refl (no_more n) t r some e

pub ruleset file_reads = (reads_on)
