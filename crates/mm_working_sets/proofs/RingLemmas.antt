-- The ring of groups: a group's age, an age's group, and what a new round makes of them.
use Rattle.std.proofs.Common.{◌≡◌, ◌≢◌, ℕ, ◌+◌, ◌-◌, ◌<◌, ◌≤◌, ◌⊎◌, cond, eqb, ltb, ap, ◌∙◌, inl, inr, arith}
use Rattle.std.proofs.lemmas.Bool.{cases_lt, cases_eq, le-leb, lt-leb, lt-ltb, le-ltb, eq-eqb, ne_eqb}
use Rattle.mm_working_sets.specs.{older, turned, next_newest}

-- ---- the three kinds of groups

module _ (newest n : ℕ) where
  -- one that had its turn in this round of the ring
  turned_recent : n ≤ newest → turned newest n ≡ newest - n
  turned_recent h = ap (λ b. cond b (newest - n) (cond (ltb n 7) (newest + 7 - n) n)) (le-leb n newest h)

  -- one that had it in the last one
  turned_before : newest < n → n < 7 → turned newest n ≡ newest + 7 - n
  turned_before h l =
      ap (λ b. cond b (newest - n) (cond (ltb n 7) (newest + 7 - n) n)) (lt-leb n newest h)
      ∙ ap (λ b. cond b (newest + 7 - n) n) (lt-ltb n 7 l)

  -- one that takes no turns
  turned_last : newest < 7 → 7 ≤ n → turned newest n ≡ n
  turned_last h l =
      ap (λ b. cond b (newest - n) (cond (ltb n 7) (newest + 7 - n) n)) (lt-leb n newest (omega arith))
      ∙ ap (λ b. cond b (newest + 7 - n) n) (le-ltb n 7 l)

  kinds : (n ≤ newest) ⊎ (((newest < n) × (n < 7)) ⊎ (7 ≤ n))
  kinds = elim (cases_lt newest n) [
    | inl above ↦ elim (cases_lt n 7) [ inl low ↦ inr (inl (above, low)) | inr high ↦ inr (inr high) ]
    | inr below ↦ inl below
  ]

pub turned_newest : (newest : ℕ) → turned newest newest ≡ 0
turned_newest newest = turned_recent newest newest (omega arith) ∙ omega arith

module _ (newest : ℕ) (turning : newest < 7) where
  -- the group of the age of a group is that group
  pub turned_back : (n : ℕ) → turned newest (turned newest n) ≡ n
  turned_back n = elim (kinds newest n) [
    | inl recent ↦ ap (turned newest) (turned_recent newest n recent) ∙ turned_recent newest (newest - n) (omega arith) ∙ omega (arith, recent)
    | inr others ↦ elim others [
      | inl before ↦
          ap (turned newest) (turned_before newest n before.0 before.1)
          ∙ turned_before newest (newest + 7 - n) (omega (arith, before.1)) (omega (arith, before.0)) ∙ omega (arith, before.0, before.1)
      | inr last ↦ ap (turned newest) (turned_last newest n turning last) ∙ turned_last newest n turning last
    ]
  ]

  pub next_turns : next_newest newest < 7
  next_turns = elim (cases_eq newest 6) [
    | inl last ↦ omega (arith, ap (λ b. cond b 0 (newest + 1)) (eq-eqb newest 6 last))
    | inr other ↦ omega (arith, other, turning, ap (λ b. cond b 0 (newest + 1)) (ne_eqb newest 6 other))
  ]

  -- one round later: the group whose turn comes has joined the last one, and each age is one more
  module _ (next n : ℕ) (turns : next < 7) (known : n ≤ 7) (after : (next ≡ newest + 1) ⊎ ((newest ≡ 6) × (next ≡ 0))) where
    joined : n ≡ next → turned next (cond (eqb n next) 7 n) ≡ older (turned newest n)
    joined same =
        let was : turned newest n ≡ 6 = elim after [
          | inl step ↦ turned_before newest n (omega (arith, same, step)) (omega (arith, same, turns)) ∙ omega (arith, same, step)
          | inr wrap ↦ turned_recent newest n (omega (arith, same, wrap.1)) ∙ omega (arith, same, wrap.0, wrap.1)
        ] in
        ap (λ b. turned next (cond b 7 n)) (eq-eqb n next same) ∙ turned_last next 7 turns (omega arith) ∙ omega (arith, was)

    kept : n ≢ next → turned next n ≡ older (turned newest n)
    kept other = elim (kinds newest n) [
      | inl recent ↦ elim after [
        | inl step ↦ turned_recent next n (omega (arith, recent, step)) ∙ omega (arith, turned_recent newest n recent, recent, step, turning)
        | inr wrap ↦
            turned_before next n (omega (arith, other, wrap.1)) (omega (arith, recent, wrap.0))
            ∙ omega (arith, turned_recent newest n recent, recent, other, wrap.0, wrap.1)
      ]
      | inr others ↦ elim others [
        | inl before ↦ elim after [
          | inl step ↦
              turned_before next n (omega (arith, before.0, other, step)) before.1
              ∙ omega (arith, turned_before newest n before.0 before.1, before.0, before.1, other, step)
          | inr wrap ↦ absurd (omega (arith, before.0, before.1, wrap.0))
        ]
        | inr last ↦ turned_last next n turns last ∙ omega (arith, turned_last newest n turning last, last, known)
      ]
    ]

    older_at : turned next (cond (eqb n next) 7 n) ≡ older (turned newest n)
    older_at = elim (cases_eq n next) [
      | inl same ↦ joined same
      | inr other ↦ ap (λ b. turned next (cond b 7 n)) (ne_eqb n next other) ∙ kept other
    ]

  pub turned_older : (n : ℕ) → n ≤ 7 → turned (next_newest newest) (cond (eqb n (next_newest newest)) 7 n) ≡ older (turned newest n)
  turned_older n known = older_at (next_newest newest) n next_turns known (elim (cases_eq newest 6) [
    | inl last ↦ inr (last, ap (λ b. cond b 0 (newest + 1)) (eq-eqb newest 6 last))
    | inr other ↦ inl (ap (λ b. cond b 0 (newest + 1)) (ne_eqb newest 6 other))
  ])
