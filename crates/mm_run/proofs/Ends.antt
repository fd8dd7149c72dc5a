-- How a run ends.
use Rattle.std.proofs.Common.{◌≡◌, ◌≢◌, ◌≤◌, ◌⊎◌, ℕ, true, false, List, [], Option, refl, sym, ap, ◌∙◌, subst, inl, inr, arith}
use Rattle.mm_types.specs.{Rose, Text, spelled}
use Rattle.mm_io.proofs.{filled_none}
use Rattle.mm_run.specs.{Ending, Stage, DecidedLine, answers_in, status_of, is_over, IsFault, IsAccounted, CameToEnd, FaultCounts, IsBlamed}
use Rattle.mm_run.specs.{InputEndsAt, StandsAt, outside, stand}
use Rattle.mm_run.specs.declared.endings.Ending.TheVariants as ending
use Rattle.mm_run.proofs.Stories.{follows_here, grows_here}
use Rattle.mm_run.proofs.Stops.{came_here}

pub came_usage : (a t : Option Text) (kept : Text) (w : Stage) → CameToEnd (outside a t kept) (outside a t kept) (stand [] 0 w) ending.Usage w
came_usage a t kept w = came_here a a t kept [] [] 0 w w ending.Usage [] [] (filled_none a []) refl (omega arith) (refl, refl, refl) (omega arith) (λ ks. refl) (follows_here w) (grows_here w)

-- what stands is what was told, unless a sink has failed
pub stands_whole : (e : Ending) (told still : List DecidedLine) (written : Text) → is_over e ≡ false → StandsAt e told still written → written ≡ spelled (answers_in told)
stands_whole ending.OutFault told still written q s = cc
stands_whole ending.MovesFault told still written q s = cc
stands_whole e told still written q s = s

pub out_stands : (e : Ending) → is_over e ≡ false → e ≢ ending.OutFault
out_stands e q same = let bad : true ≡ false = ap is_over (sym same) ∙ q in cc

pub moves_stand : (e : Ending) → is_over e ≡ false → e ≢ ending.MovesFault
moves_stand e q same = let bad : true ≡ false = ap is_over (sym same) ∙ q in cc

-- ---- the counts of faults

module _ (opening : Type 0) (c d : FaultCounts) where
  same_later : d ≡ c → (c.out ≤ d.out) × (c.moves ≤ d.moves)
  same_later e = (let o = ap (λ (k : FaultCounts). k.out) e in omega (arith, o), let m = ap (λ (k : FaultCounts). k.moves) e in omega (arith, m))

  pub blamed_source : (e : Ending) → status_of e ≡ 4 → IsBlamed e opening c d → Rose c.source d.source
  blamed_source ending.ReadFault q b = b.0
  blamed_source e q b = absurd (omega arith)

  pub blamed_out : (e : Ending) → status_of e ≡ 5 → IsBlamed e opening c d → Rose c.out d.out
  blamed_out ending.OutFault q b = b.0
  blamed_out e q b = absurd (omega arith)

  pub blamed_moves : (e : Ending) → status_of e ≡ 6 → IsBlamed e opening c d → Rose c.moves d.moves
  blamed_moves ending.MovesFault q b = b.0
  blamed_moves e q b = absurd (omega arith)

  pub blamed_opening : (e : Ending) → status_of e ≡ 7 → IsBlamed e opening c d → opening
  blamed_opening ending.SetupFault q b = b.0
  blamed_opening e q b = absurd (omega arith)

  -- memory was refused
  pub blamed_memory : (e : Ending) → status_of e ≡ 1 → IsBlamed e opening c d → (c.moves ≤ d.moves) × (d ≡ record c { moves = d.moves })
  blamed_memory ending.NoMemory q b = b
  blamed_memory e q b = absurd (omega arith)

  -- the status blames nothing
  pub blamed_none : (e : Ending) → (IsFault (status_of e) → ⊥) → IsBlamed e opening c d → d ≡ c
  blamed_none ending.NoMemory q b = absurd (q (inl refl))
  blamed_none ending.ReadFault q b = absurd (q (inr (inl refl)))
  blamed_none ending.OutFault q b = absurd (q (inr (inr (inl refl))))
  blamed_none ending.MovesFault q b = absurd (q (inr (inr (inr (inl refl)))))
  blamed_none ending.SetupFault q b = absurd (q (inr (inr (inr (inr refl)))))
  blamed_none e q b = b

  -- no count fell
  pub blamed_later : (e : Ending) → is_over e ≡ false → IsBlamed e opening c d → (c.out ≤ d.out) × (c.moves ≤ d.moves)
  blamed_later ending.NoMemory q b = (let e = ap (λ (k : FaultCounts). k.out) b.1 in omega (arith, e), b.0)
  blamed_later ending.ReadFault q b = cc
  blamed_later ending.OutFault q b = cc
  blamed_later ending.MovesFault q b = cc
  blamed_later ending.SetupFault q b = same_later b.1
  blamed_later e q b = same_later b

  -- nor did that of the source or of the sink of answers rise
  pub blamed_beside_moves : (e : Ending) → is_over e ≡ false → IsBlamed e opening c d → (d.source ≡ c.source) × (d.out ≡ c.out)
  blamed_beside_moves ending.NoMemory q b = (ap (λ (k : FaultCounts). k.source) b.1, ap (λ (k : FaultCounts). k.out) b.1)
  blamed_beside_moves ending.ReadFault q b = cc
  blamed_beside_moves ending.OutFault q b = cc
  blamed_beside_moves ending.MovesFault q b = cc
  blamed_beside_moves ending.SetupFault q b = (ap (λ (k : FaultCounts). k.source) b.1, ap (λ (k : FaultCounts). k.out) b.1)
  blamed_beside_moves e q b = (ap (λ (k : FaultCounts). k.source) b, ap (λ (k : FaultCounts). k.out) b)

  -- where one is to blame, no other count is another
  read_only : (e : Ending) → status_of e ≡ 4 → IsBlamed e opening c d → d ≡ record c { source = d.source }
  read_only ending.ReadFault q b = b.1
  read_only e q b = absurd (omega arith)

  out_only : (e : Ending) → status_of e ≡ 5 → IsBlamed e opening c d → d.source ≡ c.source
  out_only ending.OutFault q b = ap (λ (k : FaultCounts). k.source) b.1
  out_only e q b = absurd (omega arith)

  moves_only : (e : Ending) → status_of e ≡ 6 → IsBlamed e opening c d → d ≡ record c { moves = d.moves }
  moves_only ending.MovesFault q b = b.1
  moves_only e q b = absurd (omega arith)

  setup_only : (e : Ending) → status_of e ≡ 7 → IsBlamed e opening c d → d ≡ c
  setup_only ending.SetupFault q b = b.1
  setup_only e q b = absurd (omega arith)

pub accounted : (e : Ending) (opening : Type 0) (c d : FaultCounts) (status : ℕ) → status ≡ status_of e → IsBlamed e opening c d → IsAccounted status opening c d
accounted e opening c d status q b = record {
  read_fault = λ s. blamed_source opening c d e (sym q ∙ s) b;
  out_fault = λ s. blamed_out opening c d e (sym q ∙ s) b;
  moves_fault = λ s. blamed_moves opening c d e (sym q ∙ s) b;
  setup_fault = λ s. blamed_opening opening c d e (sym q ∙ s) b;
  read_alone = λ s. read_only opening c d e (sym q ∙ s) b;
  out_alone = λ s. out_only opening c d e (sym q ∙ s) b;
  moves_alone = λ s. moves_only opening c d e (sym q ∙ s) b;
  setup_alone = λ s. setup_only opening c d e (sym q ∙ s) b;
  no_memory = λ s. blamed_memory opening c d e (sym q ∙ s) b;
  no_fault = λ calm. blamed_none opening c d e (λ f. calm (subst IsFault (sym q) f)) b;
}

-- nothing failed behind it
pub accounted_behind : (e : Ending) (opening : Type 0) (c m d : FaultCounts) (status : ℕ) → d ≡ m → status ≡ status_of e → IsBlamed e opening c m → IsAccounted status opening c d
accounted_behind e opening c m d status same q b = subst (λ (k : FaultCounts). IsAccounted status opening c k) (sym same) (accounted e opening c m status q b)

pub accounted_out : (opening : Type 0) (c d : FaultCounts) (status : ℕ) → status ≡ 5 → Rose c.out d.out → d.source ≡ c.source → IsAccounted status opening c d
accounted_out opening c d status q rose same = record {
  read_fault = λ s. absurd (omega (arith, q, s));
  out_fault = λ s. rose;
  moves_fault = λ s. absurd (omega (arith, q, s));
  setup_fault = λ s. absurd (omega (arith, q, s));
  read_alone = λ s. absurd (omega (arith, q, s));
  out_alone = λ s. same;
  moves_alone = λ s. absurd (omega (arith, q, s));
  setup_alone = λ s. absurd (omega (arith, q, s));
  no_memory = λ s. absurd (omega (arith, q, s));
  no_fault = λ calm. absurd (calm (inr (inr (inl q))));
}

pub accounted_moves : (opening : Type 0) (c d : FaultCounts) (status : ℕ) → status ≡ 6 → Rose c.moves d.moves → d ≡ record c { moves = d.moves } → IsAccounted status opening c d
accounted_moves opening c d status q rose alone = record {
  read_fault = λ s. absurd (omega (arith, q, s));
  out_fault = λ s. absurd (omega (arith, q, s));
  moves_fault = λ s. rose;
  setup_fault = λ s. absurd (omega (arith, q, s));
  read_alone = λ s. absurd (omega (arith, q, s));
  out_alone = λ s. absurd (omega (arith, q, s));
  moves_alone = λ s. alone;
  setup_alone = λ s. absurd (omega (arith, q, s));
  no_memory = λ s. absurd (omega (arith, q, s));
  no_fault = λ calm. absurd (calm (inr (inr (inr (inl q)))));
}

-- memory was refused, before anything else
pub accounted_memory : (opening : Type 0) (c : FaultCounts) (status : ℕ) → status ≡ 1 → IsAccounted status opening c c
accounted_memory opening c status q = accounted ending.NoMemory opening c c status q (omega arith, refl)

-- the input's end is no fault
pub blamed_end : (n len : ℕ) (e : Ending) (opening : Type 0) (c d : FaultCounts) → InputEndsAt n len e → d ≡ c → IsBlamed e opening c d
blamed_end n len e opening c d (inl done) q = subst (λ (f : Ending). IsBlamed f opening c d) (sym done.2) q
blamed_end n len e opening c d (inr cut) q = subst (λ (f : Ending). IsBlamed f opening c d) (sym cut.1) q

-- a device was not opened
pub blamed_open : (e : Ending) (opening : Type 0) (c : FaultCounts) → (e ≡ ending.NoMemory) ⊎ (e ≡ ending.SetupFault) → (e ≡ ending.SetupFault → opening) → IsBlamed e opening c c
blamed_open e opening c (inl memory) h = subst (λ (f : Ending). IsBlamed f opening c c) (sym memory) (omega arith, refl)
blamed_open e opening c (inr setup) h = subst (λ (f : Ending). IsBlamed f opening c c) (sym setup) (h setup, refl)

-- nothing is to be blamed on a device that was opened
pub blamed_beside : (e : Ending) (opening : Type 0) (c d : FaultCounts) → IsBlamed e ⊥ c d → IsBlamed e opening c d
blamed_beside ending.SetupFault opening c d b = absurd b.0
blamed_beside e opening c d b = b
