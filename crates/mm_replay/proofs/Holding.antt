-- Tables as functions: what is changed at one key.
use Rattle.std.proofs.Common.{◌≡◌, ℕ, Bool, true, false, cond, Option, Some, None, refl, sym, ap, ◌∙◌, subst}
use Rattle.std.specs.Prelude.{◌&&◌, ◌==◌, is_some}
use Rattle.std.proofs.lemmas.Bool.{eqb-true, and_parts}
use Rattle.mm_types.specs.{Frame, Key, Place, Pid, Vpn, Area, Held}
use Rattle.mm_types.specs.declared.numbers.Key.TheVariants.{Private, Shared}
use Rattle.mm_move_rules.specs.{changed, same_key, same_place, is_dead}
use Rattle.mm_replay.specs.{Alive, Writes, Keeps, found_pair, alive_at, Written, Stays, held_of, alive_paging, no_keys, no_paging, no_places}
use Rattle.mm_replay.specs.declared.pairs.Pairs.{Pairs}
use Rattle.mm_move_laws.proofs.{same_key-true}
use Rattle.mm_replay.proofs.Outcomes.{kept_at}

-- ---- two tables of keys as one

module _ (pages indices : Pairs Alive) where
  private_changes : (new : Pairs Alive) (p : Pid) (v : Vpn) (x : Option Alive) → Writes (found_pair pages) (found_pair new) p.0 v.0 x →
      (q : Key) → alive_at new indices q ≡ changed same_key (alive_at pages indices) (Private p v) x q
  unfolding alive_at
  private_changes new p v x h (Private q w) = h q.0 w.0
  private_changes new p v x h (Shared a i) = refl

  pub private_written : (new : Pairs Alive) (k : Key) (p : Pid) (v : Vpn) (n : ℕ) (x : Option Alive) → k ≡ Private p v → n ≡ p.0 → Writes (found_pair pages) (found_pair new) n v.0 x → Written (alive_at pages indices) (alive_at new indices) k x
  private_written new k p v n x e is h =
      let there : Writes (found_pair pages) (found_pair new) p.0 v.0 x = subst (λ (m : ℕ). Writes (found_pair pages) (found_pair new) m v.0 x) is h in
      λ q. private_changes new p v x there q ∙ sym (ap (λ (r : Key). changed same_key (alive_at pages indices) r x q) e)

  shared_changes : (new : Pairs Alive) (a : Area) (i : ℕ) (x : Option Alive) → Writes (found_pair indices) (found_pair new) a.0 i x →
      (q : Key) → alive_at pages new q ≡ changed same_key (alive_at pages indices) (Shared a i) x q
  unfolding alive_at
  shared_changes new a i x h (Private q w) = refl
  shared_changes new a i x h (Shared b j) = h b.0 j

  pub shared_written : (new : Pairs Alive) (k : Key) (a : Area) (i : ℕ) (x : Option Alive) → k ≡ Shared a i → Writes (found_pair indices) (found_pair new) a.0 i x → Written (alive_at pages indices) (alive_at pages new) k x
  shared_written new k a i x e h = λ q. shared_changes new a i x h q ∙ sym (ap (λ (r : Key). changed same_key (alive_at pages indices) r x q) e)

  pub private_kept : (new : Pairs Alive) → Keeps (found_pair pages) (found_pair new) → Stays (alive_at pages indices) (alive_at new indices)
  unfolding alive_at
  private_kept new h (Private p v) = h p.0 v.0
  private_kept new h (Shared a i) = refl

  pub shared_kept : (new : Pairs Alive) → Keeps (found_pair indices) (found_pair new) → Stays (alive_at pages indices) (alive_at pages new)
  unfolding alive_at
  shared_kept new h (Private p v) = refl
  shared_kept new h (Shared a i) = h a.0 i

  pub private_is : (k : Key) (p : Pid) (v : Vpn) (n : ℕ) → k ≡ Private p v → n ≡ p.0 → alive_at pages indices k ≡ found_pair pages n v.0
  unfolding alive_at
  private_is k p v n e is = ap (alive_at pages indices) e ∙ ap (λ (m : ℕ). found_pair pages m v.0) (sym is)

  pub shared_is : (k : Key) (a : Area) (i : ℕ) → k ≡ Shared a i → alive_at pages indices k ≡ found_pair indices a.0 i
  unfolding alive_at
  shared_is k a i e = ap (alive_at pages indices) e

  none_alive : ((a b : ℕ) → found_pair pages a b ≡ None) → ((a b : ℕ) → found_pair indices a b ≡ None) → (q : Key) → alive_at pages indices q ≡ None
  unfolding alive_at
  none_alive f g (Private p v) = f p.0 v.0
  none_alive f g (Shared a i) = g a.0 i

  pub stands_none : ((a b : ℕ) → found_pair pages a b ≡ None) → ((a b : ℕ) → found_pair indices a b ≡ None) → ◌≡◌ {A = Key → Held} (λ q. held_of (alive_at pages indices q)) no_keys
  stands_none f g = λ i. λ (q : Key). (ap held_of (none_alive f g q)) i

  pub paging_none : ((a b : ℕ) → found_pair pages a b ≡ None) → ((a b : ℕ) → found_pair indices a b ≡ None) → ◌≡◌ {A = Key → Bool} (λ q. alive_paging (alive_at pages indices q)) no_paging
  paging_none f g = λ i. λ (q : Key). (ap alive_paging (none_alive f g q)) i

-- ---- what is known of keys, as two functions

held_cond : (b : Bool) (x y : Option Alive) → held_of (cond b x y) ≡ cond b (held_of x) (held_of y)
held_cond true x y = refl
held_cond false x y = refl

paging_cond : (b : Bool) (x y : Option Alive) → alive_paging (cond b x y) ≡ cond b (alive_paging x) (alive_paging y)
paging_cond true x y = refl
paging_cond false x y = refl

module _ (old new : Key → Option Alive) where
  pub stands_written : (k : Key) (x : Option Alive) → Written old new k x → ◌≡◌ {A = Key → Held} (λ q. held_of (new q)) (changed same_key (λ q. held_of (old q)) k (held_of x))
  stands_written k x h = λ i. λ (q : Key). (ap held_of (h q) ∙ held_cond (same_key q k) x (old q)) i

  pub paging_written : (k : Key) (x : Option Alive) → Written old new k x → ◌≡◌ {A = Key → Bool} (λ q. alive_paging (new q)) (changed same_key (λ q. alive_paging (old q)) k (alive_paging x))
  paging_written k x h = λ i. λ (q : Key). (ap alive_paging (h q) ∙ paging_cond (same_key q k) x (old q)) i

  pub stands_same : Stays old new → ◌≡◌ {A = Key → Held} (λ q. held_of (new q)) (λ q. held_of (old q))
  stands_same h = λ i. λ (q : Key). (ap held_of (h q)) i

  pub paging_same : Stays old new → ◌≡◌ {A = Key → Bool} (λ q. alive_paging (new q)) (λ q. alive_paging (old q))
  paging_same h = λ i. λ (q : Key). (ap alive_paging (h q)) i

-- a key that is not dead is known
pub known : (o : Option Alive) → is_dead (held_of o) ≡ false → is_some o ≡ true
known None e = cc
known (Some a) e = refl

-- ---- a key's flag stays

-- set to what it was
pub paging_kept : (f g : Key → Bool) (k : Key) (b : Bool) → g ≡ changed same_key f k b → b ≡ f k → g ≡ f
paging_kept f g k b e v =
    let same : changed same_key f k b ≡ f = λ i. λ (q : Key). kept_at (same_key q k) b (f q) (λ t. v ∙ ap f (sym (same_key-true q k t))) i in
    e ∙ same

-- ---- places

module _ (old new : ℕ → ℕ → Option Frame) where
  at_pid : (p : Place) (n : ℕ) (x : Option Frame) → n ≡ p.pid.0 → Writes old new n p.vpn.0 x → Writes old new p.pid.0 p.vpn.0 x
  at_pid p n x is h = subst (λ (m : ℕ). Writes old new m p.vpn.0 x) is h

  pub frames_written : (p : Place) (n : ℕ) (x : Option Frame) → n ≡ p.pid.0 → Writes old new n p.vpn.0 x → ◌≡◌ {A = Place → Option Frame} (λ q. new q.pid.0 q.vpn.0) (changed same_place (λ q. old q.pid.0 q.vpn.0) p x)
  frames_written p n x is h = λ i. λ (q : Place). (at_pid p n x is h q.pid.0 q.vpn.0) i

  pub frames_same : Keeps old new → ◌≡◌ {A = Place → Option Frame} (λ q. new q.pid.0 q.vpn.0) (λ q. old q.pid.0 q.vpn.0)
  frames_same h = λ i. λ (q : Place). (h q.pid.0 q.vpn.0) i

  -- taken away where none was
  pub frames_kept : (p : Place) (n : ℕ) → Writes old new n p.vpn.0 None → old n p.vpn.0 ≡ None → ◌≡◌ {A = Place → Option Frame} (λ q. new q.pid.0 q.vpn.0) (λ q. old q.pid.0 q.vpn.0)
  frames_kept p n h none = frames_same (λ c d. h c d ∙ kept_at ((c == n) && (d == p.vpn.0)) None (old c d) (λ t.
      let both = and_parts (c == n) (d == p.vpn.0) t in
      let first : c ≡ n = eqb-true c n both.0 in
      let second : d ≡ p.vpn.0 = eqb-true d p.vpn.0 both.1 in
      sym (ap (λ (m : ℕ). old m d) first ∙ ap (old n) second ∙ none)))

pub frames_none : (f : ℕ → ℕ → Option Frame) → ((a b : ℕ) → f a b ≡ None) → ◌≡◌ {A = Place → Option Frame} (λ q. f q.pid.0 q.vpn.0) no_places
frames_none f h = λ i. λ (q : Place). (h q.pid.0 q.vpn.0) i

pub ruleset keeping = (paging_kept)
