-- What is true of each record by itself.
use Rattle.std.proofs.Common.{◌≡◌, true, false, cond, None, refl, rules, ◌≢◌, ℕ, ◌+◌, ◌<◌, ◌≤◌, Bool, not, List, [], ◌∷◌, ◌++◌, length, Option, sym, ap, ◌∙◌, subst, inl, inr, arith, get_or-set_same, get_or-set_other, length-set}
use Rattle.std.specs.Prelude.{is_some, ◌&&◌, nat_lt}
use Rattle.std.proofs.lemmas.Bool.{or_right, ltb-true, or_left, cases_lt}
use Rattle.mm_types.specs.{Key, Record, Backing}
use Rattle.mm_types.proofs.Booleans.{one_only_if}
use Rattle.mm_move_rules.specs.{blank, has_request, is_read, is_write, is_again, slot_of, without_slot, given, being_read, shared, unshared, disowned}
use Rattle.mm_move_rules.specs.{being_written, read_done, write_done, write_lost, FrameTable, record_at, is_idle, with_record, off_lists, to_free}
use Rattle.mm_move_rules.specs.{settled_by}
use Rattle.mm_move_laws.specs.{block_of, is_backed, Fit, one_if, times, is_kept, Sight, sight, Stand}
use Rattle.mm_move_rules.proofs.Requests.{write_has, calm}
use Rattle.std.proofs.lemmas.List.{get_or_past}
use Rattle.mm_move_laws.proofs.Tallies.{times-push_same, times-push_other, times-without_other}
use Rattle.mm_types.specs.declared.frames.Backing.TheVariants as backing
use Rattle.mm_types.specs.declared.frames.Request.TheVariants as request

pub fit_blank : Fit blank
fit_blank = search rules

pub fit_given : (k : Key) → Fit (given k)
fit_given k = search rules

pub fit_being_read : (k : Key) (b : Backing) → is_backed b ≡ true → Fit (being_read k b)
fit_being_read k b e = search (rules, e)

pub fit_shared : (r : Record) → Fit r → is_some r.owner ≡ true → is_read r.request ≡ false → Fit (shared r)
fit_shared r f o n = search (rules, f.dirty, f.writing, f.clean, o)

pub fit_unshared : (r : Record) → Fit r → is_some r.owner ≡ true → is_read r.request ≡ false → Fit (unshared r)
fit_unshared r f o n = search (rules, f.dirty, f.writing, f.clean, o)

pub fit_disowned : (r : Record) → Fit r → r.shares ≡ 0 → has_request r.request ≡ true → block_of r.backing ≡ None → Fit (disowned r)
fit_disowned r f z q b = search (rules, f.reading, f.writing, f.clean, or_right, q, b)

pub slot_without : (b : Backing) → slot_of (without_slot b) ≡ None
slot_without backing.None = refl
slot_without _ = refl

-- changed without a request
pub fit_dirtied : (r : Record) → Fit r → is_some r.owner ≡ true → has_request r.request ≡ false → Fit (record r { changed = true; backing = without_slot r.backing })
fit_dirtied r f o n = search (rules, o, n, calm, write_has, slot_without r.backing)

-- changed while it is being written
pub fit_again : (r : Record) → Fit r → is_some r.owner ≡ true → is_write r.request ≡ true → Fit (record r { request = request.WriteAgain })
fit_again r f o w = search (rules, o, f.writing, w)

pub fit_being_written : (home : Backing) (r : Record) → Fit r → is_some r.owner ≡ true → r.changed ≡ true → is_backed home ≡ true → Fit (being_written home r)
fit_being_written home r f o c b = search (rules, f.shown, c, b)

pub fit_read_done : (r : Record) → Fit r → is_some r.owner ≡ true → is_read r.request ≡ true → Fit (read_done r)
fit_read_done r f o q = search (rules, o, f.reading, f.clean, q)

pub fit_write_done : (r : Record) → Fit r → is_some r.owner ≡ true → is_write r.request ≡ true → Fit (write_done r)
fit_write_done r f o w = elim (is_again r.request) as (λ b. Fit (cond b (record r { request = request.None; backing = without_slot r.backing }) (record r { request = request.None; changed = false }))) [
  | true ↦ search (rules, o, f.writing, w, slot_without r.backing)
  | false ↦ search (rules, o, f.writing, w)
]

pub fit_write_lost : (r : Record) → Fit r → is_some r.owner ≡ true → is_write r.request ≡ true → Fit (write_lost r)
fit_write_lost r f o w = search (rules, o, f.writing, w, slot_without r.backing)

-- ---- what is seen of one frame: its record, and how often it stands on each list. What changes of lists and records do to it

pub same_sight : {w w' : Record} {i i' z z' u u' s s' m m' q q' : ℕ} → w ≡ w' → i ≡ i' → z ≡ z' → u ≡ u' → s ≡ s' → m ≡ m' → q ≡ q' →
    ◌≡◌ {A = Sight} (record { what = w; inside = i; zeroed = z; free = u; standby = s; modified = m; flight = q }) (record { what = w'; inside = i'; zeroed = z'; free = u'; standby = s'; modified = m'; flight = q' })
same_sight a b c d e f g = λ i. record { what = a i; inside = b i; zeroed = c i; free = d i; standby = e i; modified = f i; flight = g i }

-- ---- frames inside

pub kept_inside : (d : FrameTable) (f : ℕ) → is_kept (record_at d f) ≡ true → f < length d.records
kept_inside d f e = elim (cases_lt f (length d.records)) [
  | inl h ↦ h
  | inr h ↦ let past : record_at d f ≡ blank = get_or_past d.records f blank h in let bad : false ≡ true = sym (ap is_kept past) ∙ e in cc
]

pub is_inside : (d : FrameTable) (f : ℕ) → 1 ≤ one_if (nat_lt f (length d.records)) → f < length d.records
is_inside d f h = ltb-true f (length d.records) (one_only_if (nat_lt f (length d.records)) h)

-- ---- what is known of a frame by the list that it is on

three : (a b c : Bool) → 1 ≤ one_if (a && (b && c)) → (a ≡ true) × ((b ≡ true) × (c ≡ true))
three true true true h = (refl, (refl, refl))
three true true false h = absurd (omega arith)
three true false c h = absurd (omega arith)
three false b c h = absurd (omega arith)

pub on_modified : (s : Sight) → Stand s → 1 ≤ s.modified → (is_some s.what.owner ≡ true) × ((is_idle s.what ≡ true) × (s.what.changed ≡ true))
on_modified s h l = three (is_some s.what.owner) (is_idle s.what) s.what.changed (let e = h.modified in omega (arith, l, e))

pub on_standby : (s : Sight) → Stand s → 1 ≤ s.standby → (is_some s.what.owner ≡ true) × ((is_idle s.what ≡ true) × (not s.what.changed ≡ true))
on_standby s h l = three (is_some s.what.owner) (is_idle s.what) (not s.what.changed) (let e = h.standby in omega (arith, l, e))

fresh_only : (k : Bool) (z i : ℕ) → 1 ≤ z → z ≡ cond k 0 i → (k ≡ false) × (z ≡ i)
fresh_only true z i l e = absurd (omega arith)
fresh_only false z i l e = (refl, e)

pub on_fresh : (s : Sight) → Stand s → 1 ≤ s.zeroed + s.free → (s.what ≡ blank) × (s.zeroed + s.free ≡ s.inside)
on_fresh s h l = let k = fresh_only (is_kept s.what) (s.zeroed + s.free) s.inside l h.fresh in (h.fit.bare k.0, k.1)

pub kept_not_fresh : (s : Sight) → Stand s → is_kept s.what ≡ true → s.zeroed + s.free ≡ 0
kept_not_fresh s h k = h.fresh ∙ ap (λ b. cond b 0 s.inside) k

pub three_fail : (a b c : Bool) → c ≡ false → one_if (a && (b && c)) ≡ 0
three_fail true true c e = ap one_if e
three_fail _ _ c e = cc

none_if : (a b c : Bool) → b ≡ false → one_if (a && (b && c)) ≡ 0
none_if true true c e = cc
none_if _ _ c e = cc

pub busy_off : (s : Sight) → Stand s → is_idle s.what ≡ false → (s.standby ≡ 0) × (s.modified ≡ 0)
busy_off s h n = (h.standby ∙ none_if (is_some s.what.owner) (is_idle s.what) (not s.what.changed) n, h.modified ∙ none_if (is_some s.what.owner) (is_idle s.what) s.what.changed n)

-- ---- what stands after a move

-- a frame with an owner
pub stand_owned : (s : Sight) → is_some s.what.owner ≡ true → Fit s.what → s.zeroed + s.free ≡ 0 → s.standby ≡ one_if (is_idle s.what && not s.what.changed) → s.modified ≡ one_if (is_idle s.what && s.what.changed) → s.flight ≡ one_if (has_request s.what.request) → Stand s
stand_owned s o f z a b q = record {
  fresh = z ∙ sym (ap (λ k. cond k 0 s.inside) (or_left (is_some s.what.owner) (has_request s.what.request) o));
  standby = a ∙ sym (ap (λ k. one_if (k && (is_idle s.what && not s.what.changed))) o);
  modified = b ∙ sym (ap (λ k. one_if (k && (is_idle s.what && s.what.changed))) o);
  flight = q;
  fit = f;
}

-- a frame without one that waits for its request
pub stand_orphan : (s : Sight) → s.what.owner ≡ None → has_request s.what.request ≡ true → Fit s.what → s.zeroed + s.free ≡ 0 → s.standby ≡ 0 → s.modified ≡ 0 → s.flight ≡ 1 → Stand s
stand_orphan s o q f z a b c = record {
  fresh = z ∙ sym (ap (λ k. cond k 0 s.inside) (or_right (is_some s.what.owner) (has_request s.what.request) q));
  standby = a ∙ sym (ap (λ (k : Option _). one_if (is_some k && (is_idle s.what && not s.what.changed))) o);
  modified = b ∙ sym (ap (λ (k : Option _). one_if (is_some k && (is_idle s.what && s.what.changed))) o);
  flight = c ∙ sym (ap one_if q);
  fit = f;
}

-- a frame that is zeroed or free
pub stand_blank : (s : Sight) → s.what ≡ blank → s.zeroed + s.free ≡ s.inside → s.standby ≡ 0 → s.modified ≡ 0 → s.flight ≡ 0 → Stand s
stand_blank s w e a b c = record {
  fresh = e ∙ sym (ap (λ r. cond (is_kept r) 0 s.inside) w);
  standby = a ∙ sym (ap (λ (r : Record). one_if (is_some r.owner && (is_idle r && not r.changed))) w);
  modified = b ∙ sym (ap (λ (r : Record). one_if (is_some r.owner && (is_idle r && r.changed))) w);
  flight = c ∙ sym (ap (λ (r : Record). one_if (has_request r.request)) w);
  fit = subst Fit (sym w) fit_blank;
}

-- ---- changes of a table, seen from another frame

module _ (d : FrameTable) (q : List ℕ) (f g : ℕ) (n : g ≢ f) where
  pub other-record : (r : Record) → sight (with_record d f r) q g ≡ sight d q g
  other-record r = same_sight (get_or-set_other d.records f g r blank n) (ap (λ (k : ℕ). one_if (nat_lt g k)) (length-set d.records f r)) refl refl refl refl refl

  pub other-off : sight (off_lists d f) q g ≡ sight d q g
  other-off = same_sight refl refl refl refl (times-without_other f g d.standby n) (times-without_other f g d.modified n) refl

  pub other-free : sight (to_free d f) q g ≡ sight d q g
  other-free = same_sight (get_or-set_other d.records f g blank blank n) (ap (λ (k : ℕ). one_if (nat_lt g k)) (length-set d.records f blank)) refl (times-push_other f g d.free n) refl refl refl

  pub other-settled : (r : Record) → sight (settled_by r d f) q g ≡ sight d q g
  other-settled r = at (is_idle r) r.changed
    where
      at : (i c : Bool) → sight (cond i (cond c (record d { modified = d.modified ++ f ∷ [] }) (record d { standby = d.standby ++ f ∷ [] })) d) q g ≡ sight d q g
      at true true = same_sight refl refl refl refl refl (times-push_other f g d.modified n) refl
      at true false = same_sight refl refl refl refl (times-push_other f g d.standby n) refl refl
      at false c = refl

-- ---- and from the frame itself

module _ (d : FrameTable) (q : List ℕ) (f : ℕ) where
  pub own-record : (r : Record) → f < length d.records → sight (with_record d f r) q f ≡ record (sight d q f) { what = r }
  own-record r low = same_sight (get_or-set_same d.records f r blank low) (ap (λ (k : ℕ). one_if (nat_lt f k)) (length-set d.records f r)) refl refl refl refl refl

  pub own-free : f < length d.records → sight (to_free d f) q f ≡ record (sight d q f) { what = blank; free = times f d.free + 1 }
  own-free low = same_sight (get_or-set_same d.records f blank blank low) (ap (λ (k : ℕ). one_if (nat_lt f k)) (length-set d.records f blank)) refl (times-push_same f d.free) refl refl refl

  pub own-settled : (r : Record) → sight (settled_by r d f) q f ≡ record (sight d q f) { standby = times f d.standby + one_if (is_idle r && not r.changed); modified = times f d.modified + one_if (is_idle r && r.changed) }
  own-settled r = at (is_idle r) r.changed
    where
      at : (i c : Bool) → sight (cond i (cond c (record d { modified = d.modified ++ f ∷ [] }) (record d { standby = d.standby ++ f ∷ [] })) d) q f ≡ record (sight d q f) { standby = times f d.standby + one_if (i && not c); modified = times f d.modified + one_if (i && c) }
      at true true = same_sight refl refl refl refl (omega arith) (times-push_same f d.modified) refl
      at true false = same_sight refl refl refl refl (times-push_same f d.standby) (omega arith) refl
      at false c = same_sight refl refl refl refl (omega arith) (omega arith) refl
