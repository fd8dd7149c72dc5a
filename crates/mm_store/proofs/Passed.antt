-- What two calls of a store did, one after another.
use Rattle.std.proofs.Common.{◌+◌, ◌≡◌, ℕ, ◌≤◌, ◌<◌, List, [], ◌∷◌, ◌++◌, Bool, true, false, Option, Some, None, refl, sym, ap, ◌∙◌, subst, append_assoc, arith, ◌^◌}
use Rattle.mm_types.specs.{Direction, Backing, Move, Place}
use Rattle.mm_types.specs.declared.moves.Move.TheVariants as move
use Rattle.mm_types.specs.declared.numbers.Key.TheVariants as key
use Rattle.mm_devices.specs.{DeviceCall, KeepsOthers}
use Rattle.mm_move_rules.specs.{FrameLife, after_move, Grew, Replays, Waiting, waits_after, ages_after, waits_through, ages_through}
use Rattle.mm_move_rules.proofs.{replays_then, spelled-append, moves-append, grew_then, grew_nothing}
use Rattle.mm_store.specs.{StoreOf, told_of, told_after, told_through, call_of, calls_of, in_slot, in_block, Turn, MakesFrom, MakesStack, is_turn}
use Rattle.mm_store.specs.{AllTurn, with_some, number_made, numbers_made, Climbs, rank_gone, ranks_gone, Rises, LowestFirst, IsInOrder, Turned}
use Rattle.mm_store.specs.{ByMoves, Turns, Passes, PassesIn}
use Rattle.mm_store.specs.Behind.{Behind}
use Rattle.mm_store.specs.Leaving.{Leaving}
use Rattle.mm_store.specs.Told.{Told}
use Rattle.mm_store.specs.Housekeeping.{Ends}
use Rattle.mm_devices.proofs.{all_served_then, map-logged, keeps_same, keeps_then}

-- ---- moves, one list behind another

pub waits_then : (xs ys : List Move) (w : ℕ → Waiting) → waits_through (xs ++ ys) w ≡ waits_through ys (waits_through xs w)
waits_then [] ys w = refl
waits_then (x ∷ xs) ys w = waits_then xs ys (waits_after x w)

pub ages_then : (xs ys : List Move) (a : Place → ℕ) → ages_through (xs ++ ys) a ≡ ages_through ys (ages_through xs a)
ages_then [] ys a = refl
ages_then (x ∷ xs) ys a = ages_then xs ys (ages_after x a)

pub told_then : (xs ys : List Move) (l m : FrameLife) (r : Told) → Replays xs l m → told_through l (xs ++ ys) r ≡ told_through m ys (told_through l xs r)
told_then [] ys l m r e = ap (λ (k : FrameLife). told_through k ys r) (sym e)
told_then (x ∷ xs) ys l m r h = told_then xs ys (after_move l x) m (told_after l x r) h.1

module _ (on : Direction → Bool → Backing → List DeviceCall) where
  calls_then : (xs ys : List Move) (l m : FrameLife) → Replays xs l m → calls_of on l (xs ++ ys) ≡ calls_of on l xs ++ calls_of on m ys
  calls_then [] ys l m e = ap (λ (k : FrameLife). calls_of on k ys) (sym e)
  calls_then (x ∷ xs) ys l m h =
      ap (λ t. call_of on l x ++ t) (calls_then xs ys (after_move l x) m h.1) ∙ sym (append_assoc (call_of on l x) (calls_of on (after_move l x) xs) (calls_of on m ys))

-- ---- what is told of them, one piece behind another

-- two pieces of which these hold are one of which that holds
pub record Joins (P Q R : Behind → List Move → Behind → Type 0) : Type 0 where
  pub join : (b c d : Behind) (xs ys : List Move) → Replays xs b.life c.life → P b xs c → Q c ys d → R b (xs ++ ys) d

pub passes_then : (u : Bool) (P Q R : Behind → List Move → Behind → Type 0) (s y z : StoreOf) (b c d : Behind) → Joins P Q R → PassesIn u P s y b c → PassesIn u Q y z c d → PassesIn u R s z b d
passes_then true P Q R s y z b c d j p q = q ∙ p
passes_then false P Q R s y z b c d j p q = record {
  moves = p.moves ++ q.moves;
  in_range = moves-append p.moves q.moves p.in_range q.in_range;
  grew = subst (λ xs. Grew b.log d.log xs) (sym (spelled-append p.moves q.moves)) (grew_then b.log c.log d.log _ _ p.grew q.grew);
  replays = replays_then p.moves q.moves b.life c.life d.life p.replays q.replays;
  that = j.join b c d p.moves q.moves p.replays p.that q.that;
  report = q.report ∙ ap (told_through c.life q.moves) p.report ∙ sym (told_then p.moves q.moves b.life c.life (told_of s.report) p.replays);
  paging_calls = p.paging_calls ++ q.paging_calls;
  paging = all_served_then p.paging_calls q.paging_calls _ _ _ p.paging q.paging;
  paging_are = map-logged p.paging_calls q.paging_calls ∙ (λ i. p.paging_are i ++ q.paging_are i) ∙ sym (calls_then in_slot p.moves q.moves b.life c.life p.replays);
  file_calls = p.file_calls ++ q.file_calls;
  files = all_served_then p.file_calls q.file_calls _ _ _ p.files q.files;
  files_are = map-logged p.file_calls q.file_calls ∙ (λ i. p.files_are i ++ q.files_are i) ∙ sym (calls_then in_block p.moves q.moves b.life c.life p.replays);
  slots_kept = subst (λ cs. KeepsOthers cs b.slots d.slots) (sym (calls_then in_slot p.moves q.moves b.life c.life p.replays)) (keeps_then _ _ b.slots c.slots d.slots p.slots_kept q.slots_kept);
  blocks_kept = subst (λ cs. KeepsOthers cs s.file_blocks z.file_blocks) (sym (calls_then in_block p.moves q.moves b.life c.life p.replays)) (keeps_then _ _ s.file_blocks y.file_blocks z.file_blocks p.blocks_kept q.blocks_kept);
}

-- ---- more places, in a wider range

is_turn_more : (held more : Leaving) (from to low high : ℕ) → ((p : Place) → held.places p ≡ true → more.places p ≡ true) → (m : Move) → is_turn (Ends held from to) m ≡ true → is_turn (Ends more low high) m ≡ true
is_turn_more held more from to low high h (move.Drop (key.Private pid vpn)) e = h (record { pid = pid; vpn = vpn }) e
is_turn_more held more from to low high h (move.Unmap p) e = h p e
is_turn_more held more from to low high h _ e = e

all_turn_more : (held more : Leaving) (from to low high : ℕ) → ((p : Place) → held.places p ≡ true → more.places p ≡ true) → (ms : List Move) → AllTurn (Ends held from to) ms → AllTurn (Ends more low high) ms
all_turn_more held more from to low high h [] a = tt
all_turn_more held more from to low high h (m ∷ ms) a = (is_turn_more held more from to low high h m a.0, all_turn_more held more from to low high h ms a.1)

-- ---- moves of such calls, one list behind another

pub all_turn_then : (t : Turn) (xs ys : List Move) → AllTurn t xs → AllTurn t ys → AllTurn t (xs ++ ys)
all_turn_then t [] ys p q = q
all_turn_then t (x ∷ xs) ys p q = (p.0, all_turn_then t xs ys p.1 q)

pub moved_then : (b c d : Behind) (xs ys : List Move) → ByMoves b xs c → ByMoves c ys d → ByMoves b (xs ++ ys) d
moved_then b c d xs ys p q = record {
  waits = q.waits ∙ ap (waits_through ys) p.waits ∙ sym (waits_then xs ys b.waits);
  ages = q.ages ∙ ap (ages_through ys) p.ages ∙ sym (ages_then xs ys b.ages);
}

with-some-then : (o : Option ℕ) (ps qs : List ℕ) → with_some o (ps ++ qs) ≡ with_some o ps ++ qs
with-some-then None ps qs = refl
with-some-then (Some p) ps qs = refl

pub made_then : (xs ys : List Move) → numbers_made (xs ++ ys) ≡ numbers_made xs ++ numbers_made ys
made_then [] ys = refl
made_then (x ∷ xs) ys = ap (with_some (number_made x)) (made_then xs ys) ∙ with-some-then (number_made x) (numbers_made xs) (numbers_made ys)

pub gone_then : (rank : ℕ → ℕ) (xs ys : List Move) → ranks_gone rank (xs ++ ys) ≡ ranks_gone rank xs ++ ranks_gone rank ys
gone_then rank [] ys = refl
gone_then rank (x ∷ xs) ys =
    ap (with_some (rank_gone rank x)) (gone_then rank xs ys)
    ∙ with-some-then (rank_gone rank x) (ranks_gone rank xs) (ranks_gone rank ys)

pub climbs_wider : (from low to high : ℕ) (ns : List ℕ) → low ≤ from → to ≤ high → Climbs from to ns → Climbs low high ns
climbs_wider from low to high [] l h c = tt
climbs_wider from low to high (n ∷ ns) l h c = (omega (arith, l, c.0), omega (arith, h, c.1), climbs_wider (n + 1) (n + 1) to high ns (omega arith) h c.2)

pub climbs_then : (from mid to : ℕ) (ns js : List ℕ) → from ≤ mid → mid ≤ to → Climbs from mid ns → Climbs mid to js → Climbs from to (ns ++ js)
climbs_then from mid to [] js l h p q = climbs_wider mid from to to js l (omega arith) q
climbs_then from mid to (n ∷ ns) js l h p q = (p.0, omega (arith, h, p.1), climbs_then (n + 1) mid to ns js (omega (arith, p.1)) h p.2 q)

pub rises_wider : (from low to high : ℕ) (ps : List ℕ) → low ≤ from → to ≤ high → Rises from to ps → Rises low high ps
rises_wider from low to high [] l h r = tt
rises_wider from low to high (p ∷ ps) l h r = (omega (arith, l, r.0), omega (arith, h, r.1), rises_wider p p to high ps (omega arith) h r.2)

-- the last rank of one list may be the first of the next
rises_join : (from mid low to : ℕ) (ps qs : List ℕ) → from ≤ low → mid ≤ low + 1 → mid ≤ to → Rises from mid ps → Rises low to qs → Rises from to (ps ++ qs)
rises_join from mid low to [] qs l m h p q = rises_wider low from to to qs l (omega arith) q
rises_join from mid low to (x ∷ ps) qs l m h p q = (p.0, omega (arith, h, p.1), rises_join x mid low to ps qs (omega (arith, m, p.1)) m h p.2 q)

pub lowest_then : (xs ys : List Move) (l m : FrameLife) → Replays xs l m → LowestFirst l xs → LowestFirst m ys → LowestFirst l (xs ++ ys)
lowest_then [] ys l m r p q = subst (λ (k : FrameLife). LowestFirst k ys) r q
lowest_then (x ∷ xs) ys l m r p q = (p.0, lowest_then xs ys (after_move l x) m r.1 p.1 q)

-- ---- calls that make pages, calls that end them

-- moves of a turn, where their orders join
pub turned_then : (s t u : Turn) → ((xs : List Move) → AllTurn s xs → AllTurn u xs) → ((ys : List Move) → AllTurn t ys → AllTurn u ys) → ((xs ys : List Move) → IsInOrder s xs → IsInOrder t ys → IsInOrder u (xs ++ ys)) → (l m : FrameLife) (xs ys : List Move) → Replays xs l m → Turned s l xs → Turned t m ys → Turned u l (xs ++ ys)
turned_then s t u first second order l m xs ys r p q = record {
  all = all_turn_then u xs ys (first xs p.all) (second ys q.all);
  order = order xs ys p.order q.order;
  lowest = lowest_then xs ys l m r p.lowest q.lowest;
}

-- two calls of a turn
turns_join : (s t u : Turn) → ((l m : FrameLife) (xs ys : List Move) → Replays xs l m → Turned s l xs → Turned t m ys → Turned u l (xs ++ ys)) → Joins (Turns s) (Turns t) (Turns u)
turns_join s t u h = record {
  join = λ b c d xs ys r p q. record {
    turned = h b.life c.life xs ys r p.turned q.turned;
    moved = moved_then b c d xs ys p.moved q.moved;
    slots = q.slots ∙ p.slots;
  };
}

all_adds : (from to low high : ℕ) (xs : List Move) → AllTurn (MakesFrom from to) xs → AllTurn (MakesFrom low high) xs
all_adds from to low high [] a = tt
all_adds from to low high (x ∷ xs) a = (a.0, all_adds from to low high xs a.1)

all_of_stack : (guard from to : ℕ) (xs : List Move) → AllTurn (MakesFrom from to) xs → AllTurn (MakesStack guard) xs
all_of_stack guard from to [] a = tt
all_of_stack guard from to (x ∷ xs) a = (a.0, all_of_stack guard from to xs a.1)

all_ends : (held : Leaving) (from to low high : ℕ) (xs : List Move) → AllTurn (Ends held from to) xs → AllTurn (Ends held low high) xs
all_ends held from to low high xs a = all_turn_more held held from to low high (λ p e. e) xs a

pub made_behind : (from mid to : ℕ) → from ≤ mid → mid ≤ to → (l m : FrameLife) (xs ys : List Move) → Replays xs l m → Turned (MakesFrom from mid) l xs → Turned (MakesFrom mid to) m ys → Turned (MakesFrom from to) l (xs ++ ys)
made_behind from mid to l h =
    turned_then (MakesFrom from mid) (MakesFrom mid to) (MakesFrom from to) (all_adds from mid from to) (all_adds mid to from to)
    (λ xs ys v w. subst (Climbs from to) (sym (made_then xs ys)) (climbs_then from mid to (numbers_made xs) (numbers_made ys) l h v w))

-- pages come to be in both calls, of any store: those of the first stand before those of the second
pub makes_then : (u : Bool) (from mid to : ℕ) (s y z : StoreOf) (b c d : Behind) → from ≤ mid → mid ≤ to → PassesIn u (Turns (MakesFrom from mid)) s y b c → PassesIn u (Turns (MakesFrom mid to)) y z c d → PassesIn u (Turns (MakesFrom from to)) s z b d
makes_then u from mid to s y z b c d l h p q =
    passes_then u (Turns (MakesFrom from mid)) (Turns (MakesFrom mid to)) (Turns (MakesFrom from to)) s y z b c d
    (turns_join (MakesFrom from mid) (MakesFrom mid to) (MakesFrom from to) (made_behind from mid to l h)) p q

-- the pages of a new stack above its guard page, and then that
pub stack_then : (u : Bool) (guard : ℕ) (s y z : StoreOf) (b c d : Behind) → PassesIn u (Turns (MakesFrom (guard + 1) (2 ^ 32))) s y b c → PassesIn u (Turns (MakesFrom guard (guard + 1))) y z c d → PassesIn u (Turns (MakesStack guard)) s z b d
stack_then u guard s y z b c d p q =
    passes_then u (Turns (MakesFrom (guard + 1) (2 ^ 32))) (Turns (MakesFrom guard (guard + 1))) (Turns (MakesStack guard)) s y z b c d
    (turns_join (MakesFrom (guard + 1) (2 ^ 32)) (MakesFrom guard (guard + 1)) (MakesStack guard)
    (turned_then (MakesFrom (guard + 1) (2 ^ 32)) (MakesFrom guard (guard + 1)) (MakesStack guard) (all_of_stack guard (guard + 1) (2 ^ 32)) (all_of_stack guard guard (guard + 1))
    (λ xs ys v w. record { pages = numbers_made xs; last = numbers_made ys; whole = made_then xs ys; above = v; below = w }))) p q

-- pages go in both calls
ends_join : (u : Bool) (held : Leaving) (from mid low to : ℕ) (s y z : StoreOf) (b c d : Behind) → from ≤ low → mid ≤ low + 1 → mid ≤ to → PassesIn u (Turns (Ends held from mid)) s y b c → PassesIn u (Turns (Ends held low to)) y z c d → PassesIn u (Turns (Ends held from to)) s z b d
ends_join u held from mid low to s y z b c d l m h p q =
    passes_then u (Turns (Ends held from mid)) (Turns (Ends held low to)) (Turns (Ends held from to)) s y z b c d
    (turns_join (Ends held from mid) (Ends held low to) (Ends held from to)
    (turned_then (Ends held from mid) (Ends held low to) (Ends held from to) (all_ends held from mid from to) (all_ends held low to from to)
    (λ xs ys v w. subst (Rises from to) (sym (gone_then held.rank xs ys)) (rises_join from mid low to (ranks_gone held.rank xs) (ranks_gone held.rank ys) l m h v w)))) p q

pub ends_then : (u : Bool) (held : Leaving) (from mid to : ℕ) (s y z : StoreOf) (b c d : Behind) → from ≤ mid → mid ≤ to → PassesIn u (Turns (Ends held from mid)) s y b c → PassesIn u (Turns (Ends held mid to)) y z c d → PassesIn u (Turns (Ends held from to)) s z b d
ends_then u held from mid to s y z b c d l h = ends_join u held from mid mid to s y z b c d l (omega arith) h

-- the last rank of one call is the first of the next
pub ends_meet : (u : Bool) (held : Leaving) (from rank to : ℕ) (s y z : StoreOf) (b c d : Behind)
    → from ≤ rank → rank < to → PassesIn u (Turns (Ends held from (rank + 1))) s y b c
    → PassesIn u (Turns (Ends held rank to)) y z c d → PassesIn u (Turns (Ends held from to)) s z b d
ends_meet u held from rank to s y z b c d l h = ends_join u held from (rank + 1) rank to s y z b c d l (omega arith) (omega (arith, h))

-- what is told of the moves, told otherwise
turned_as : (u : Bool) (t v : Turn) (s z : StoreOf) (b c : Behind) → ((ms : List Move) → Turned t b.life ms → Turned v b.life ms) → PassesIn u (Turns t) s z b c → PassesIn u (Turns v) s z b c
turned_as true t v s z b c h p = p
turned_as false t v s z b c h p = record {
  moves = p.moves;
  in_range = p.in_range;
  grew = p.grew;
  replays = p.replays;
  that = record { turned = h p.moves p.that.turned; moved = p.that.moved; slots = p.that.slots };
  report = p.report;
  paging_calls = p.paging_calls;
  paging = p.paging;
  paging_are = p.paging_are;
  file_calls = p.file_calls;
  files = p.files;
  files_are = p.files_are;
  slots_kept = p.slots_kept;
  blocks_kept = p.blocks_kept;
}

-- in a wider range
pub made_wider : (k : FrameLife) (from to low high : ℕ) → low ≤ from → to ≤ high → (ms : List Move) → Turned (MakesFrom from to) k ms → Turned (MakesFrom low high) k ms
made_wider k from to low high l h ms t = record { all = all_adds from to low high ms t.all; order = climbs_wider from low to high (numbers_made ms) l h t.order; lowest = t.lowest }

pub makes_wider : (u : Bool) (from to low high : ℕ) (s z : StoreOf) (b c : Behind) → low ≤ from → to ≤ high → PassesIn u (Turns (MakesFrom from to)) s z b c → PassesIn u (Turns (MakesFrom low high)) s z b c
makes_wider u from to low high s z b c l h p =
    turned_as u (MakesFrom from to) (MakesFrom low high) s z b c
    (made_wider b.life from to low high l h) p

-- ---- calls that make no move

pub turned_none : (t : Turn) (l : FrameLife) → Turned t l []
turned_none (MakesStack guard) l = record { all = tt; order = record { pages = []; last = []; whole = refl; above = tt; below = tt }; lowest = tt }
turned_none _ l = record { all = tt; order = tt; lowest = tt }

-- where pages come to be and none has a number, none does
pub none_made : (l : FrameLife) (ms : List Move) → Turned (MakesFrom 0 0) l ms → ms ≡ []
none_made l [] t = refl
none_made l (move.Add k b ∷ ms) t = absurd (omega (arith, t.order.1))
none_made l (_ ∷ ms) t = let bad = t.all.0 in cc

pub any_turn : (u : Bool) (t : Turn) (s z : StoreOf) (b c : Behind) → PassesIn u (Turns (MakesFrom 0 0)) s z b c → PassesIn u (Turns t) s z b c
any_turn u t s z b c p = turned_as u (MakesFrom 0 0) t s z b c (λ ms h. subst (Turned t b.life) (sym (none_made b.life ms h)) (turned_none t b.life)) p

-- two calls that make none
pub idle_then : (u : Bool) (turn : Turn) (s y z : StoreOf) (b c d : Behind) → ((turn : Turn) → PassesIn u (Turns turn) s y b c) → ((turn : Turn) → PassesIn u (Turns turn) y z c d) → PassesIn u (Turns turn) s z b d
idle_then u turn s y z b c d p q =
    any_turn u turn s z b d (makes_then u 0 0 0 s y z b c d (omega arith) (omega arith) (p (MakesFrom 0 0)) (q (MakesFrom 0 0)))

pub idle_before : (u : Bool) (t : Turn) (s y z : StoreOf) (b c d : Behind) → ((turn : Turn) → PassesIn u (Turns turn) s y b c) → PassesIn u (Turns t) y z c d → PassesIn u (Turns t) s z b d
idle_before u t s y z b c d p q =
    passes_then u (Turns (MakesFrom 0 0)) (Turns t) (Turns t) s y z b c d
    (record {
      join = λ b c d xs ys r v w.
          let none = none_made b.life xs v.turned in
          let same : c.life ≡ b.life = subst (λ (zs : List Move). Replays zs b.life c.life) none r in
          record {
            turned = subst (λ (zs : List Move). Turned t b.life (zs ++ ys)) (sym none) (subst (λ (l : FrameLife). Turned t l ys) same w.turned);
            moved = moved_then b c d xs ys v.moved w.moved;
            slots = w.slots ∙ v.slots;
          };
    }) (p (MakesFrom 0 0)) q

-- no call
pub turns_nothing : (u : Bool) (t : Turn) (s z : StoreOf) (b c : Behind) → c ≡ b → told_of z.report ≡ told_of s.report → z.paging_device ≡ s.paging_device → z.file_device ≡ s.file_device → z.file_blocks ≡ s.file_blocks → PassesIn u (Turns t) s z b c
turns_nothing true t s z b c e r p f k = e
turns_nothing false t s z b c e r p f k =
    subst (λ (x : Behind). Passes (Turns t) s z b x) (sym e) (record {
      moves = [];
      in_range = tt;
      grew = grew_nothing b.log;
      replays = refl;
      that = record { turned = turned_none t b.life; moved = record { waits = refl; ages = refl }; slots = refl };
      report = r;
      paging_calls = [];
      paging = p;
      paging_are = refl;
      file_calls = [];
      files = f;
      files_are = refl;
      slots_kept = keeps_same [] b.slots b.slots refl;
      blocks_kept = keeps_same [] s.file_blocks z.file_blocks k;
    })

-- the same store
pub turns_same : (u : Bool) (t : Turn) (s : StoreOf) (b : Behind) → PassesIn u (Turns t) s s b b
turns_same u t s b = turns_nothing u t s s b b refl refl refl refl refl

-- in a wider range
pub ends_wider : (u : Bool) (held : Leaving) (from to low high : ℕ) (s z : StoreOf) (b c : Behind)
    → low ≤ from → to ≤ high
    → PassesIn u (Turns (Ends held from to)) s z b c → PassesIn u (Turns (Ends held low high)) s z b c
ends_wider u held from to low high s z b c l e p =
    turned_as u (Ends held from to) (Ends held low high) s z b c
    (λ ms t. record {
      all = all_ends held from to low high ms t.all;
      order = rises_wider from low to high (ranks_gone held.rank ms) l e t.order;
      lowest = t.lowest;
    }) p
