-- Moves change the record of one frame, and where that frame stands.
use Rattle.std.proofs.Common.{◌≡◌, ◌≢◌, ℕ, ◌+◌, ◌<◌, ◌≤◌, true, false, not, List, [], ◌∷◌, ◌++◌, length, refl, sym, ap, ◌∙◌, subst, inl, inr, arith, get_or-set_same, get_or-set_other, length-set, cond}
use Rattle.std.specs.Prelude.{◌&&◌, nat_lt, is_some, slice_set, ◌==◌, ◌||◌}
use Rattle.std.proofs.lemmas.Bool.{lt-ltb, and_parts, or_left, or_cases, not-true, eqb-true}
use Rattle.mm_types.proofs.Cells.{same_or_not}
use Rattle.mm_types.proofs.Booleans.{one_at_most}
use Rattle.mm_types.specs.{Key, Record, Backing}
use Rattle.mm_move_rules.specs.{FrameTable, blank, record_at, has_request, is_idle, is_first, rest, without, with_record, off_lists, to_free, settled}
use Rattle.mm_move_rules.specs.{settled_by, given, after_clear, after_give, is_empty, being_read, after_steal, after_read}
use Rattle.mm_move_laws.specs.{one_if, times, Fit, sight, Stand, FramesStand, is_kept, is_backed}
use Rattle.mm_move_laws.proofs.Tallies.{times-push_same, times-push_other, times-without_same, times-without_other, times-rest_same, times-rest_other}
use Rattle.mm_move_laws.proofs.Sights.{fit_given, same_sight, is_inside, on_fresh, stand_owned, stand_blank, other-record, other-off, other-free, other-settled, own-record, own-free, own-settled, fit_being_read, kept_inside, kept_not_fresh, on_standby, three_fail}
use Rattle.mm_move_rules.proofs.Records.{records_settled}

-- this frame has this record now, and all others are seen as before
pub record Changes (d d' : FrameTable) (q q' : List ℕ) (f : ℕ) (r : Record) : Type 0 where
  pub elsewhere : (g : ℕ) → g ≢ f → sight d' q' g ≡ sight d q g
  pub here : record_at d' f ≡ r
  pub stand : Stand (sight d' q' f)
  pub size : length d'.records ≡ length d.records

pub stands_kept : (d d' : FrameTable) (q q' : List ℕ) (f : ℕ) (r : Record) → Changes d d' q q' f r → FramesStand d q → FramesStand d' q'
stands_kept d d' q q' f r c s = λ g. elim (same_or_not g f) [
  | inl e ↦ subst (λ (k : ℕ). Stand (sight d' q' k)) (sym e) c.stand
  | inr n ↦ subst Stand (sym (c.elsewhere g n)) (s g)
]

-- the requests change for one frame alone
pub record Flights (q q' : List ℕ) (f n : ℕ) : Type 0 where
  pub others : (g : ℕ) → g ≢ f → times g q' ≡ times g q
  pub own : times f q' ≡ n

pub flights_same : (q : List ℕ) (f : ℕ) → Flights q q f (times f q)
flights_same q f = record { others = λ g n. refl; own = refl }

pub flights_begun : (q : List ℕ) (f : ℕ) → Flights q (q ++ f ∷ []) f (times f q + 1)
flights_begun q f = record { others = λ g n. times-push_other f g q n; own = times-push_same f q }

pub flights_ended : (q : List ℕ) (f : ℕ) → Flights q (without f q) f 0
flights_ended q f = record { others = λ g n. times-without_other f g q n; own = times-without_same f q }

pub other_flight : (d : FrameTable) (q q' : List ℕ) (f n g : ℕ) → Flights q q' f n → g ≢ f → sight d q' g ≡ sight d q g
other_flight d q q' f n g h k = same_sight refl refl refl refl refl refl (h.others g k)

-- ---- general changes

module _ (d : FrameTable) (q q' : List ℕ) (f n : ℕ) (r : Record) (flights : Flights q q' f n) (low : f < length d.records) where
  settled_is : settled (with_record d f r) f ≡ settled_by r (with_record d f r) f
  settled_is = ap (λ (k : Record). settled_by k (with_record d f r) f) (get_or-set_same d.records f r blank low)

  inside_same : (s : Record) → one_if (nat_lt f (length (slice_set d.records f s))) ≡ one_if (nat_lt f (length d.records))
  inside_same s = ap (λ (k : ℕ). one_if (nat_lt f k)) (length-set d.records f s)

  -- the frame was on no list, has an owner, and settles
  pub changes_settled : is_some r.owner ≡ true → Fit r → times f d.zeroed + times f d.free ≡ 0 → times f d.standby ≡ 0 → times f d.modified ≡ 0 → n ≡ one_if (has_request r.request) → Changes d (settled (with_record d f r) f) q q' f r
  changes_settled o fit z a b k = record {
    elsewhere = λ g m. ap (λ (t : FrameTable). sight t q' g) settled_is ∙ other-settled (with_record d f r) q' f g m r ∙ other-record d q' f g m r ∙ other_flight d q q' f n g flights m;
    here = ap (λ (t : FrameTable). record_at t f) settled_is ∙ ap (λ (rs : List Record). record_at (record d { records = rs }) f) (records_settled r (with_record d f r) f) ∙ get_or-set_same d.records f r blank low;
    stand =
        let seen = ap (λ (t : FrameTable). sight t q' f) settled_is ∙ own-settled (with_record d f r) q' f r ∙ same_sight (get_or-set_same d.records f r blank low) (inside_same r) refl refl refl refl flights.own in
        subst Stand (sym seen) (stand_owned _ o fit z (omega (arith, a)) (omega (arith, b)) k);
    size = ap (λ (t : FrameTable). length t.records) settled_is ∙ ap (λ (rs : List Record). length rs) (records_settled r (with_record d f r) f) ∙ length-set d.records f r;
  }

  -- the frame has an owner, and is not idle
  pub changes_busy : is_some r.owner ≡ true → Fit r → is_idle r ≡ false → times f d.zeroed + times f d.free ≡ 0 → n ≡ one_if (has_request r.request) → Changes d (with_record (off_lists d f) f r) q q' f r
  changes_busy o fit busy z k = record {
    elsewhere = λ g m. other-record (off_lists d f) q' f g m r ∙ other-off d q' f g m ∙ other_flight d q q' f n g flights m;
    here = get_or-set_same d.records f r blank low;
    stand =
        let seen = own-record (off_lists d f) q' f r low ∙ same_sight refl refl refl refl (times-without_same f d.standby) (times-without_same f d.modified) flights.own in
        subst Stand (sym seen) (stand_owned _ o fit z (sym (ap (λ i. one_if (i && not r.changed)) busy)) (sym (ap (λ i. one_if (i && r.changed)) busy)) k);
    size = length-set d.records f r;
  }

  -- the same, and it was on no list
  pub changes_written : is_some r.owner ≡ true → Fit r → is_idle r ≡ false → times f d.zeroed + times f d.free ≡ 0 → times f d.standby ≡ 0 → times f d.modified ≡ 0 → n ≡ one_if (has_request r.request) → Changes d (with_record d f r) q q' f r
  changes_written o fit busy z a b k = record {
    elsewhere = λ g m. other-record d q' f g m r ∙ other_flight d q q' f n g flights m;
    here = get_or-set_same d.records f r blank low;
    stand =
        let seen = own-record d q' f r low ∙ same_sight refl refl refl refl refl refl flights.own in
        subst Stand (sym seen) (stand_owned _ o fit z (a ∙ sym (ap (λ i. one_if (i && not r.changed)) busy)) (b ∙ sym (ap (λ i. one_if (i && r.changed)) busy)) k);
    size = length-set d.records f r;
  }

-- a frame that is on no list goes to free
pub changes_freed : (d : FrameTable) (q q' : List ℕ) (f : ℕ) → Flights q q' f 0 → f < length d.records → times f d.zeroed + times f d.free ≡ 0 → times f d.standby ≡ 0 → times f d.modified ≡ 0 → Changes d (to_free d f) q q' f blank
changes_freed d q q' f flights low z a b = record {
  elsewhere = λ g m. other-free d q' f g m ∙ other_flight d q q' f 0 g flights m;
  here = get_or-set_same d.records f blank blank low;
  stand =
      subst Stand (sym (own-free d q' f low)) (stand_blank _ refl (omega (arith, z, ap one_if (lt-ltb f (length d.records) low))) a b flights.own);
  size = length-set d.records f blank;
}

-- ---- zeroed and free frames

module _ (d : FrameTable) (q : List ℕ) (f : ℕ) (stands : FramesStand d q) where
  -- a frame that is the first of free, or of zeroed
  first_fresh : 1 ≤ times f d.zeroed + times f d.free → (record_at d f ≡ blank) × (times f d.zeroed + times f d.free ≡ one_if (nat_lt f (length d.records)))
  first_fresh h = on_fresh (sight d q f) (stands f) h

  off_there : record_at d f ≡ blank → (times f d.standby ≡ 0) × ((times f d.modified ≡ 0) × (times f q ≡ 0))
  off_there e =
      let s = stands f in (
        s.standby ∙ ap (λ (r : Record). one_if (is_some r.owner && (is_idle r && not r.changed))) e,
        (s.modified ∙ ap (λ (r : Record). one_if (is_some r.owner && (is_idle r && r.changed))) e, s.flight ∙ ap (λ (r : Record). one_if (has_request r.request)) e),
      )

  pub first_zeroed : is_first f d.zeroed ≡ true → record_at d f ≡ blank
  first_zeroed h = (first_fresh (let e = times-rest_same f d.zeroed h in omega (arith, e))).0

  pub changes_clear : is_first f d.free ≡ true → Changes d (after_clear d f) q q f (record_at d f)
  changes_clear h =
      let more = times-rest_same f d.free h in
      let fresh = first_fresh (omega (arith, more)) in
      let off = off_there fresh.0 in
      record {
        elsewhere = λ g n. same_sight refl refl (times-push_other f g d.zeroed n) (times-rest_other f g d.free n h) refl refl refl;
        here = refl;
        stand = stand_blank _ fresh.0 (let a = fresh.1 in let b = times-push_same f d.zeroed in omega (arith, a, more, b)) off.0 off.1.0 off.1.1;
        size = refl;
      }

  pub changes_give : (k : Key) → is_first f d.zeroed ≡ true → Changes d (after_give d f k) q q f (given k)
  changes_give k h =
      let more = times-rest_same f d.zeroed h in
      let fresh = first_fresh (omega (arith, more)) in
      let off = off_there fresh.0 in
      let e = fresh.1 in
      let low = is_inside d f (omega (arith, e, more)) in
      record {
        elsewhere = λ g n. same_sight (get_or-set_other d.records f g (given k) blank n) (ap (λ (m : ℕ). one_if (nat_lt g m)) (length-set d.records f (given k))) (times-rest_other f g d.zeroed n h) refl refl (times-push_other f g d.modified n) refl;
        here = get_or-set_same d.records f (given k) blank low;
        stand =
            let own : sight (after_give d f k) q f ≡ record { what = given k; inside = one_if (nat_lt f (length d.records)); zeroed = times f (rest d.zeroed); free = times f d.free; standby = times f d.standby; modified = times f d.modified + 1; flight = times f q }
            = same_sight (get_or-set_same d.records f (given k) blank low) (ap (λ (m : ℕ). one_if (nat_lt f m)) (length-set d.records f (given k))) refl refl refl (times-push_same f d.modified) refl in
            let most = one_at_most (nat_lt f (length d.records)) in
            subst Stand (sym own) (stand_owned _ refl (fit_given k) (omega (arith, e, more, most)) off.0 (omega (arith, off.1.0)) off.1.1);
        size = length-set d.records f (given k);
      }

-- ---- frames that are taken from standby, from free or from zeroed

-- what is known of an idle frame
pub record Idle (r : Record) : Type 0 where
  pub owned : is_some r.owner ≡ true
  pub kept : is_kept r ≡ true
  pub unshared : r.shares ≡ 0
  pub quiet : has_request r.request ≡ false

pub idle_is : (r : Record) → is_some r.owner ≡ true → is_idle r ≡ true → Idle r
idle_is r o i =
    let h = and_parts (r.shares == 0) (not (has_request r.request)) i in
    record { owned = o; kept = or_left (is_some r.owner) (has_request r.request) o; unshared = eqb-true r.shares 0 h.0; quiet = not-true (has_request r.request) h.1 }

module _ (d : FrameTable) (q : List ℕ) (f : ℕ) (stands : FramesStand d q) where
  pub record Standby : Type 0 where
    pub idle : Idle (record_at d f)
    pub clean : (record_at d f).changed ≡ false

  pub first_standby : is_first f d.standby ≡ true → Standby
  first_standby h =
      let on = on_standby (sight d q f) (stands f) (omega (arith, times-rest_same f d.standby h)) in
      record { idle = idle_is (record_at d f) on.0 on.1.0; clean = not-true (record_at d f).changed on.1.1 }

  pub changes_steal : is_first f d.standby ≡ true → Changes d (after_steal d f) q q f blank
  changes_steal h =
      let s = stands f in
      let more = times-rest_same f d.standby h in
      let known = first_standby h in
      let fresh = kept_not_fresh (sight d q f) s known.idle.kept in
      let a = s.standby in
      let most = one_at_most (is_some (record_at d f).owner && (is_idle (record_at d f) && not (record_at d f).changed)) in
      let modified : times f d.modified ≡ 0 = s.modified ∙ three_fail (is_some (record_at d f).owner) (is_idle (record_at d f)) (record_at d f).changed known.clean in
      let flight : times f q ≡ 0 = s.flight ∙ ap one_if known.idle.quiet in
      let flights : Flights q q f 0 = record { others = λ g n. refl; own = flight } in
      let c = changes_freed (record d { standby = rest d.standby }) q q f flights (kept_inside d f known.idle.kept) fresh (omega (arith, more, a, most)) modified in
      record {
        elsewhere = λ g n. c.elsewhere g n ∙ same_sight refl refl refl refl (times-rest_other f g d.standby n h) refl refl;
        here = c.here;
        stand = c.stand;
        size = c.size;
      }

  -- the frame that a read is made into
  reads : (d1 : FrameTable) (k : Key) (home : Backing) → is_backed home ≡ true → record_at d f ≡ blank → f < length d.records
      → (d1.records ≡ d.records) → times f d1.zeroed + times f d1.free ≡ 0 → times f d1.standby ≡ 0 → times f d1.modified ≡ 0
      → ((g : ℕ) → g ≢ f → sight d1 q g ≡ sight d q g)
      → Changes d (with_record d1 f (being_read k home)) q (q ++ f ∷ []) f (being_read k home)
  reads d1 k home backed bare low records z a b others =
      let c = changes_written d1 q (q ++ f ∷ []) f (times f q + 1) (being_read k home) (flights_begun q f) (subst (λ (rs : List Record). f < length rs) (sym records) low)
      refl (fit_being_read k home backed) refl z a b (omega (arith, (stands f).flight ∙ ap (λ (r : Record). one_if (has_request r.request)) bare)) in
      record {
        elsewhere = λ g n. c.elsewhere g n ∙ others g n;
        here = c.here;
        stand = c.stand;
        size = c.size ∙ ap (λ (rs : List Record). length rs) records;
      }

  pub record Fresh : Type 0 where
    pub bare : record_at d f ≡ blank
    pub low : f < length d.records

  pub fresh_is : 1 ≤ times f d.zeroed + times f d.free → Fresh
  fresh_is h =
      let k = on_fresh (sight d q f) (stands f) h in
      record { bare = k.0; low = is_inside d f (omega (arith, k.1, h)) }

  pub fresh_read : (is_first f d.free || (is_empty d.free && is_first f d.zeroed)) ≡ true → Fresh
  fresh_read h = elim (or_cases (is_first f d.free) (is_empty d.free && is_first f d.zeroed) h) [
    | inl e ↦ (let m = times-rest_same f d.free e in fresh_is (omega (arith, m)))
    | inr e ↦ (let m = times-rest_same f d.zeroed (and_parts (is_empty d.free) (is_first f d.zeroed) e).1 in fresh_is (omega (arith, m)))
  ]

  pub changes_read : (k : Key) (home : Backing) → is_backed home ≡ true → (is_first f d.free || (is_empty d.free && is_first f d.zeroed)) ≡ true → Changes d (after_read d f k home) q (q ++ f ∷ []) f (being_read k home)
  changes_read k home backed h =
      let known = fresh_read h in
      let s = stands f in
      let a : times f d.standby ≡ 0 = s.standby ∙ ap (λ (r : Record). one_if (is_some r.owner && (is_idle r && not r.changed))) known.bare in
      let b : times f d.modified ≡ 0 = s.modified ∙ ap (λ (r : Record). one_if (is_some r.owner && (is_idle r && r.changed))) known.bare in
      let e : times f d.zeroed + times f d.free ≡ one_if (nat_lt f (length d.records)) = s.fresh ∙ ap (λ (r : Record). cond (is_kept r) 0 (one_if (nat_lt f (length d.records)))) known.bare in
      let most = one_at_most (nat_lt f (length d.records)) in
      elim (or_cases (is_first f d.free) (is_empty d.free && is_first f d.zeroed) h) [
        | inl first ↦
            let m = times-rest_same f d.free first in
            let c = reads (record d { free = rest d.free }) k home backed known.bare known.low refl (omega (arith, m, e, most)) a b (λ g n. same_sight refl refl refl (times-rest_other f g d.free n first) refl refl refl) in
            subst (λ (t : FrameTable). Changes d (with_record t f (being_read k home)) q (q ++ f ∷ []) f (being_read k home)) (sym (ap (λ t. cond t (record d { zeroed = rest d.zeroed }) (record d { free = rest d.free })) (not_empty d.free first))) c
        | inr both ↦
            let p = and_parts (is_empty d.free) (is_first f d.zeroed) both in
            let m = times-rest_same f d.zeroed p.1 in
            let c = reads (record d { zeroed = rest d.zeroed }) k home backed known.bare known.low refl (omega (arith, m, e, most)) a b (λ g n. same_sight refl refl (times-rest_other f g d.zeroed n p.1) refl refl refl refl) in
            subst (λ (t : FrameTable). Changes d (with_record t f (being_read k home)) q (q ++ f ∷ []) f (being_read k home)) (sym (ap (λ t. cond t (record d { zeroed = rest d.zeroed }) (record d { free = rest d.free })) p.0)) c
      ]
    where
      not_empty : (xs : List ℕ) → is_first f xs ≡ true → is_empty xs ≡ false
      not_empty [] h = cc
      not_empty (x ∷ xs) h = refl
