-- Moves: what their conditions say, what one leaves, and the end of a read or of a write.
use Rattle.std.proofs.Common.{◌≡◌, ℕ, ◌+◌, length, true, false, List, [], ◌∷◌, refl, sym, subst, Option, ap, ◌∙◌, ◌<◌, Bool, ◌++◌, Some, None, arith, map}
use Rattle.std.specs.Prelude.{◌==◌, ◌&&◌, ◌||◌, nat_le, nat_lt, Result, Ok, Err, OnOk, OnErr, is_some, IsSome, slice_set}
use Rattle.std.proofs.lemmas.Bool.{and_parts, and_from}
use Rattle.mm_types.specs.{Frame, LineKind, Move, Key, Backing, Record}
use Rattle.mm_types.specs.declared.moves.LineKind.TheVariants as kind
use Rattle.mm_types.specs.declared.moves.Move.TheVariants as move
use Rattle.mm_move_rules.specs.{is_first, is_empty, FrameLife, IsLegal, is_zeroer, is_touch, Log, Grew, IsMove, spelling_of_move, after_move, FrameBytes}
use Rattle.mm_move_rules.specs.{BlockBytes, zero_page, contents_of, BytesLocated, spelled_moves, waits_after, ages_after, record_at, has_request, is_read}
use Rattle.mm_move_rules.specs.{is_write, is_io, is_access, is_call, home_at, frame_page, bytes_at}
use Rattle.mm_parts.specs.{IsPlainLine, front, waits_of, PartsOf, end_of_read, write_end}
use Rattle.mm_move_laws.specs.{ReachedByMoves, block_of}
use Rattle.mm_ram.specs.Ram as frames
use Rattle.mm_ram.specs.{with_page}
use Rattle.mm_frame_laws.specs.{Carries, slots_grown, slots_written, blocks_written}
use Rattle.mm_frame_laws.proofs.{carries_clear, carries_got, carries_bad, carries_wrote, carries_lost, asked_low, home_bytes}
use Rattle.mm_types.proofs.{append_nil}
use Rattle.mm_devices.specs.{DeviceOf, KeepsOthers}
use Rattle.mm_devices.proofs.{keeps_same, keeps_written}
use Rattle.mm_store.specs.{none_told, told_after, paging_traffic, file_traffic, with_write, in_slot, in_block}
use Rattle.mm_store.specs.Told.{Told}
use Rattle.mm_state_calls.specs.{StateOf, Made, GrowBegins, Calls, DeviceCalled, backing_of_frame, written_if}
use Rattle.mm_state.specs.{joined_state, filled_if, read_told}
use Rattle.mm_types.specs.declared.devices.Direction.TheVariants as way
use Rattle.mm_types.specs.declared.frames.Backing.TheVariants as backing
use Rattle.mm_move_laws.proofs.{read_has, write_has, facts_of}
use Rattle.mm_requests.specs.{ended, Waiting as Wait}
use Rattle.mm_move_rules.proofs.{write_not_read}
use Rattle.mm_parts.proofs.{waits_ended}

-- ---- what the conditions of moves say

pub plain_grown : (k : LineKind) → IsPlainLine k → slots_grown k ≡ 0
plain_grown (kind.Grow n) h = absurd h
plain_grown _ h = refl

pub legal_at : (l : FrameLife) (x y : Move) → y ≡ x → IsLegal x l → IsLegal y l
legal_at l x y e h = subst (λ (m : Move). IsLegal m l) (sym e) h

pub noted_at : (a b : Log) (x y : Move) → y ≡ x → Grew a b (spelling_of_move y) → Grew a b (spelling_of_move x)
noted_at a b x y e g = subst (λ (m : Move). Grew a b (spelling_of_move m)) e g

pub ranged_at : (x y : Move) → y ≡ x → IsMove y → IsMove x
ranged_at x y e h = subst IsMove e h

some_first : (f : ℕ) (xs : List ℕ) → is_first f xs ≡ true → is_empty xs ≡ false
some_first f [] h = cc
some_first f (x ∷ xs) h = refl

pub some_free : (l : FrameLife) → IsLegal (move.Clear (front l.frames.free)) l → is_empty l.frames.free ≡ false
some_free l legal =
    some_first (front l.frames.free).0 l.frames.free (and_parts (is_first (front l.frames.free).0 l.frames.free) (is_zeroer l.kind || (is_touch l.kind && is_empty l.frames.zeroed)) legal).0

pub some_standby : (l : FrameLife) → IsLegal (move.Steal (front l.frames.standby)) l → is_empty l.frames.standby ≡ false
some_standby l legal =
    let f = (front l.frames.standby).0 in
    let a = is_first f l.frames.standby in
    let b = is_empty l.frames.zeroed in
    let c = is_empty l.frames.free in
    some_first f l.frames.standby (and_parts a b (and_parts (a && b) c (and_parts (a && b && c) (is_touch l.kind) legal).0).0).0

pub call_legal : (l : FrameLife) (line n : ℕ) → IsLegal (move.At line (kind.Grow n)) l → IsLegal (move.At line kind.Call) l
call_legal l line n legal =
    let front = (line == l.line + 1) && nat_le (length l.flight) l.machine.depth in
    let begun = nat_lt 0 l.line in
    let p = and_parts front (begun && nat_le 1 n && nat_le (l.machine.slots + n) 262144) legal in
    let q = and_parts begun (nat_le 1 n) (and_parts (begun && nat_le 1 n) (nat_le (l.machine.slots + n) 262144) p.1).0 in
    and_from front begun p.0 q.0

pub zero_pages : frames.zero_page ≡ zero_page
unfolding frames.zero_page
zero_pages = refl

-- a cleared frame, as the frames have it
pub clear_carries : (l : FrameLife) → ∥ ReachedByMoves l ∥₁ → (ram : FrameBytes) (slots blocks : BlockBytes) → BytesLocated l ram slots blocks → (f : Frame) → IsLegal (move.Clear f) l
    → Carries (after_move l (move.Clear f)) (with_page ram f.0 frames.zero_page) slots blocks (contents_of l ram slots blocks)
clear_carries l reached ram slots blocks kept f legal =
    subst (λ (z : List ℕ). Carries (after_move l (move.Clear f)) (with_page ram f.0 z) slots blocks (contents_of l ram slots blocks)) (sym zero_pages) (carries_clear l reached ram slots blocks kept f legal)

-- ---- one move: made, noted, counted, and what it leaves

pub grew_one : (a b : Log) (x : Move) → Grew a b (spelling_of_move x) → Grew a b (spelled_moves (x ∷ []))
grew_one a b x g = subst (λ xs. Grew a b xs) (sym (append_nil (spelling_of_move x))) g

pub made_by : (x : Move) (s z : StateOf) → IsLegal x s.life → IsMove x → Grew s.log z.log (spelling_of_move x) → z.life ≡ after_move s.life x → z.ages ≡ ages_after x s.ages → z.waits ≡ waits_after x s.waits
    → z.told ≡ told_after s.life x s.told → Calls x s z → KeepsOthers (paging_traffic s.life (x ∷ [])) s.slots z.slots → KeepsOthers (file_traffic s.life (x ∷ [])) s.blocks z.blocks → Made x s z
made_by x s z legal range grew life ages waits told calls slots blocks = assumption (grew_one s.log z.log x grew)

-- a line that grows, or tries to
pub begins_by : (x : Move) (s z : StateOf) → IsLegal x s.life → IsMove x → Grew s.log z.log (spelling_of_move x) → z.life ≡ after_move s.life x → z.ages ≡ ages_after x s.ages → z.waits ≡ waits_after x s.waits
    → z.told ≡ none_told → GrowBegins x s z
begins_by x s z legal range grew life ages waits told = assumption (grew_one s.log z.log x grew)

-- a move that calls no device
pub made_quiet : (x : Move) (s z : StateOf) → IsLegal x s.life → IsMove x → Grew s.log z.log (spelling_of_move x) → z.life ≡ after_move s.life x → z.ages ≡ ages_after x s.ages → z.waits ≡ waits_after x s.waits
    → z.told ≡ told_after s.life x s.told → Calls x s z → z.slots ≡ s.slots → z.blocks ≡ s.blocks → Made x s z
made_quiet x s z legal range grew life ages waits told calls slots blocks =
    made_by x s z legal range grew life ages waits told calls (keeps_same _ s.slots z.slots slots) (keeps_same _ s.blocks z.blocks blocks)

-- the parts show this, and the keys have these contents
abbrev pub moved_on : StateOf → PartsOf → (Key → Option (List ℕ)) → StateOf
moved_on z w contents = record z {
  contents = contents;
  is_open = w.is_open;
  bound = w.bound;
  areas = w.areas;
  names = w.names;
  aside = w.aside;
  own = w.own;
}

-- the bytes of keys in parts that show this
pub carried : (v w : PartsOf) (slots blocks : BlockBytes) (contents : Key → Option (List ℕ)) → v ≡ w → Carries w.life w.bytes slots blocks contents → Carries v.life v.bytes slots blocks contents
carried v w slots blocks contents e c = subst (λ (x : PartsOf). Carries x.life x.bytes slots blocks contents) (sym e) c

pub carried_on : (v w : PartsOf) (slots blocks slots2 blocks2 : BlockBytes) (contents : Key → Option (List ℕ)) → v ≡ w → slots ≡ slots2 → blocks ≡ blocks2 → Carries w.life w.bytes slots2 blocks2 contents
    → Carries v.life v.bytes slots blocks contents
carried_on v w slots blocks slots2 blocks2 contents e se be c =
    subst (λ (x : BlockBytes). Carries v.life v.bytes x blocks contents) (sym se)
    (subst (λ (x : BlockBytes). Carries v.life v.bytes slots2 x contents) (sym be) (carried v w slots2 blocks2 contents e c))

-- the paging device may show something else, and the devices may have been called
pub rest_called : (v w : PartsOf) (log : Log) (told : Told) (now paging files : DeviceOf) (slots blocks slots2 blocks2 : BlockBytes) (contents : Key → Option (List ℕ)) → v ≡ w → now ≡ paging → slots ≡ slots2 → blocks ≡ blocks2
    → Carries w.life w.bytes slots2 blocks2 contents
    → joined_state v log told now files slots blocks ≡ record (moved_on (joined_state v log told now files slots blocks) w contents) { paging = paging; slots = slots2; blocks = blocks2 }
rest_called v w log told now paging files slots blocks slots2 blocks2 contents e pe se be c =
    let ce = (carried_on v w slots blocks slots2 blocks2 contents e se be c).bytes in
    λ i. record (moved_on (joined_state v log told now files slots blocks) (e i) (ce i)) { paging = pe i; slots = se i; blocks = be i }

-- ---- a move that calls no device, by what the parts show after it

pub located_moved : (v w : PartsOf) (slots blocks : BlockBytes) (contents : Key → Option (List ℕ)) → v ≡ w → Carries w.life w.bytes slots blocks contents → BytesLocated v.life v.bytes slots blocks
located_moved v w slots blocks contents e c = (carried v w slots blocks contents e c).located

pub rest_of : (v w : PartsOf) (log : Log) (told : Told) (paging files : DeviceOf) (slots blocks : BlockBytes) (contents : Key → Option (List ℕ)) → v ≡ w → Carries w.life w.bytes slots blocks contents
    → joined_state v log told paging files slots blocks ≡ moved_on (joined_state v log told paging files slots blocks) w contents
rest_of v w log told paging files slots blocks contents e c = rest_called v w log told paging paging files slots blocks slots blocks contents e refl refl refl c

pub made_moved : (x : Move) (u v w : PartsOf) (log log2 : Log) (told told2 : Told) (paging files : DeviceOf) (slots blocks : BlockBytes) → v ≡ w → IsLegal x u.life → IsMove x → Grew log log2 (spelling_of_move x)
    → w.life ≡ after_move u.life x → w.ages ≡ ages_after x u.ages → waits_of w.waits ≡ waits_after x (waits_of u.waits) → told2 ≡ told_after u.life x told
    → Calls x (joined_state u log told paging files slots blocks) (joined_state v log2 told2 paging files slots blocks) → Made x (joined_state u log told paging files slots blocks) (joined_state v log2 told2 paging files slots blocks)
made_moved x u v w log log2 told told2 paging files slots blocks e legal range grew life ages waits tells calls =
    made_quiet x _ _ legal range grew (ap (λ (y : PartsOf). y.life) e ∙ life) (ap (λ (y : PartsOf). y.ages) e ∙ ages) (ap (λ (y : PartsOf). waits_of y.waits) e ∙ waits) tells calls refl refl

-- ---- calls that are no move

pub shown_on : (v w : PartsOf) (log : Log) (told : Told) (paging files : DeviceOf) (slots blocks : BlockBytes) → v ≡ w → joined_state v log told paging files slots blocks ≡ joined_state w log told paging files slots blocks
shown_on v w log told paging files slots blocks e = ap (λ (x : PartsOf). joined_state x log told paging files slots blocks) e

pub located_on : (v w : PartsOf) (slots blocks : BlockBytes) → v ≡ w → BytesLocated w.life w.bytes slots blocks → BytesLocated v.life v.bytes slots blocks
located_on v w slots blocks e kept = subst (λ (x : PartsOf). BytesLocated x.life x.bytes slots blocks) (sym e) kept

-- a call that may be refused memory
pub located_or : {A E : Type 0} (r : Result A E) (v w u : PartsOf) (slots blocks : BlockBytes) → OnOk r (v ≡ w) → OnErr r (v ≡ u) → BytesLocated w.life w.bytes slots blocks → BytesLocated u.life u.bytes slots blocks
    → BytesLocated v.life v.bytes slots blocks
located_or (Ok x) v w u slots blocks ok err new old = located_on v w slots blocks ok new
located_or (Err x) v w u slots blocks ok err new old = located_on v u slots blocks err old

-- the bytes of one frame changed, and what keys have is told apart
pub rest_page : (v w : PartsOf) (log : Log) (told : Told) (paging files : DeviceOf) (slots blocks : BlockBytes) → v ≡ w
    → joined_state v log told paging files slots blocks ≡ record (joined_state w log told paging files slots blocks) { contents = contents_of v.life v.bytes slots blocks }
rest_page v w log told paging files slots blocks e = λ i. record (joined_state v log told paging files slots blocks) {
  life = (e i).life;
  ages = (e i).ages;
  waits = waits_of (e i).waits;
  is_open = (e i).is_open;
  bound = (e i).bound;
  areas = (e i).areas;
  names = (e i).names;
  aside = (e i).aside;
  own = (e i).own;
}

-- a machine at rest
pub shows_start : (v w : PartsOf) (log : Log) (told none : Told) (paging files : DeviceOf) (slots blocks : BlockBytes) (contents : Key → Option (List ℕ)) → v ≡ w → told ≡ none → contents_of v.life v.bytes slots blocks ≡ contents
    → joined_state v log told paging files slots blocks ≡ record (joined_state w log none paging files slots blocks) { contents = contents }
shows_start v w log told none paging files slots blocks contents e te ce = λ i. record (joined_state (e i) log (te i) paging files slots blocks) { contents = ce i }

-- ---- the end of a read or of a write, well or not: bytes, what is told, and which device is called

-- a request is one of the machine's frames
asked_frame : (l : FrameLife) → ∥ ReachedByMoves l ∥₁ → (f : Frame) → has_request (record_at l.frames f.0).request ≡ true → f.0 < l.machine.frames
asked_frame l reached f asked =
    let low = asked_low l.frames f.0 asked in
    let size = (facts_of l reached).framed in
    omega (arith, low, size)

-- ---- reads

pub is_reading : (l : FrameLife) (f : Frame) → IsLegal (move.Got f) l → is_read (record_at l.frames f.0).request ≡ true
is_reading l f legal = (and_parts (is_read (record_at l.frames f.0).request) (is_io l.kind || is_access l.kind) legal).0

pub read_low : (l : FrameLife) → ∥ ReachedByMoves l ∥₁ → (f : Frame) → IsLegal (move.Got f) l → f.0 < l.machine.frames
read_low l reached f legal = asked_frame l reached f (read_has (record_at l.frames f.0).request (is_reading l f legal))

there_is : (o : Option (List ℕ)) → IsSome o → (page : List ℕ) × (o ≡ Some page)
there_is None s = let bad : false ≡ true = s in cc
there_is (Some page) s = (page, refl)

pub read_carries : (ok : Bool) (l : FrameLife) → ∥ ReachedByMoves l ∥₁ → (ram : FrameBytes) (slots blocks : BlockBytes) → BytesLocated l ram slots blocks → (f : Frame) (home : Backing) → home ≡ (record_at l.frames f.0).backing → IsLegal (move.Got f) l
    → IsSome (bytes_at [] slots blocks (home_at home))
    → Carries (after_move l (end_of_read ok f)) (filled_if ok f.0 (bytes_at [] slots blocks (home_at home)) ram) slots blocks (contents_of l ram slots blocks)
read_carries true l reached ram slots blocks kept f home is legal there =
    let p = there_is (bytes_at [] slots blocks (home_at home)) there in
    subst (λ (o : Option (List ℕ)). Carries (after_move l (move.Got f)) (slice_set ram f.0 o) slots blocks (contents_of l ram slots blocks)) (sym p.1)
    (carries_got l reached ram slots blocks kept f p.0 legal (home_bytes [] ram slots blocks (record_at l.frames f.0).backing ∙ ap (λ (b : Backing). bytes_at [] slots blocks (home_at b)) (sym is) ∙ p.1))
read_carries false l reached ram slots blocks kept f home is legal there = carries_bad l reached ram slots blocks kept f legal

pub read_waits : (ok : Bool) (f : Frame) (ws : List Wait) → waits_of (map (ended f.0 ok) ws) ≡ waits_after (end_of_read ok f) (waits_of ws)
read_waits true f ws = λ i. λ t. waits_ended ws f.0 t true i
read_waits false f ws = λ i. λ t. waits_ended ws f.0 t false i

-- the end of a read, made and noted: the frame was backed there, and that device was called
pub made_by_read : (ok : Bool) (f : Frame) (s z : StateOf) (r : Record) → r ≡ record_at s.life.frames f.0 → IsLegal (move.Got f) s.life → IsMove (end_of_read ok f) → Grew s.log z.log (spelling_of_move (end_of_read ok f))
    → z.life ≡ after_move s.life (end_of_read ok f) → z.ages ≡ s.ages → z.waits ≡ waits_after (end_of_read ok f) s.waits → z.told ≡ read_told ok r.backing r.owner s.told
    → DeviceCalled way.Read r.backing ok s z → z.slots ≡ s.slots → z.blocks ≡ s.blocks → Made (end_of_read ok f) s z
made_by_read true f s z r is legal range grew life ages waits told calls slots blocks =
    made_quiet (move.Got f) s z legal range grew life ages waits (told ∙ ap (λ (x : Record). read_told true x.backing x.owner s.told) is) (subst (λ (x : Record). DeviceCalled way.Read x.backing true s z) is calls) slots blocks
made_by_read false f s z r is legal range grew life ages waits told calls slots blocks =
    made_quiet (move.Bad f) s z legal range grew life ages waits (told ∙ ap (λ (x : Record). read_told false x.backing x.owner s.told) is) (subst (λ (x : Record). DeviceCalled way.Read x.backing false s z) is calls) slots blocks

-- ---- writes

pub is_writing : (l : FrameLife) (f : Frame) → IsLegal (move.Wrote f) l → is_write (record_at l.frames f.0).request ≡ true
is_writing l f legal = (and_parts (is_write (record_at l.frames f.0).request) (is_io l.kind || is_access l.kind || is_call l.kind) legal).0

pub write_low : (l : FrameLife) → ∥ ReachedByMoves l ∥₁ → (f : Frame) → IsLegal (move.Wrote f) l → f.0 < l.machine.frames
write_low l reached f legal = asked_frame l reached f (write_has (record_at l.frames f.0).request (is_writing l f legal))

pub write_legal : (ok : Bool) (l : FrameLife) (f : Frame) → IsLegal (move.Wrote f) l → IsLegal (write_end ok f) l
write_legal true l f legal = legal
write_legal false l f legal = legal

-- what the devices have is what they had, or with the page written where the frame is backed
pub write_carries : (ok : Bool) (l : FrameLife) → ∥ ReachedByMoves l ∥₁ → (ram : FrameBytes) (slots blocks : BlockBytes) → BytesLocated l ram slots blocks → (f : Frame) (page : List ℕ) → IsLegal (move.Wrote f) l
    → frame_page ram f.0 ≡ Some page → (home : Backing) → home ≡ (record_at l.frames f.0).backing
    → (slots2 blocks2 : BlockBytes) → slots2 ≡ written_if ok (slots_written home page) slots → blocks2 ≡ written_if ok (blocks_written home page) blocks
    → Carries (after_move l (write_end ok f)) ram slots2 blocks2 (contents_of l ram slots blocks)
write_carries ok l reached ram slots blocks kept f page legal there home is slots2 blocks2 se be =
    let m = after_move l (write_end ok f) in
    let had = contents_of l ram slots blocks in
    subst (λ (x : BlockBytes). Carries m ram x blocks2 had) (sym (se ∙ ap (λ (b : Backing). written_if ok (slots_written b page) slots) is))
    (subst (λ (x : BlockBytes). Carries m ram (written_if ok (slots_written (record_at l.frames f.0).backing page) slots) x had) (sym (be ∙ ap (λ (b : Backing). written_if ok (blocks_written b page) blocks) is))
    (by ok))
  where
    by : (c : Bool) → Carries (after_move l (write_end c f)) ram (written_if c (slots_written (record_at l.frames f.0).backing page) slots) (written_if c (blocks_written (record_at l.frames f.0).backing page) blocks) (contents_of l ram slots blocks)
    by true = carries_wrote l reached ram slots blocks kept f page legal there
    by false = carries_lost l reached ram slots blocks kept f legal

-- a write changes the slot or the block that it is made to, and no other
write_keeps_slots : (ok : Bool) (b : Backing) (page : List ℕ) (slots slots2 : BlockBytes) → slots2 ≡ written_if ok (slots_written b page) slots → KeepsOthers (in_slot way.Write ok b ++ []) slots slots2
write_keeps_slots true (backing.Slot s) page slots slots2 e = subst (λ (x : BlockBytes). KeepsOthers (in_slot way.Write true (backing.Slot s) ++ []) slots x) (sym e) (keeps_written s.0 slots page)
write_keeps_slots _ _ page slots slots2 e = keeps_same _ slots slots2 e

write_keeps_blocks : (ok : Bool) (b : Backing) (page : List ℕ) (blocks blocks2 : BlockBytes) → blocks2 ≡ written_if ok (blocks_written b page) blocks → KeepsOthers (in_block way.Write ok b ++ []) blocks blocks2
write_keeps_blocks true (backing.Block b) page blocks blocks2 e = subst (λ (x : BlockBytes). KeepsOthers (in_block way.Write true (backing.Block b) ++ []) blocks x) (sym e) (keeps_written b.0 blocks page)
write_keeps_blocks _ _ page blocks blocks2 e = keeps_same _ blocks blocks2 e

-- the end of a write, made and noted: the page went where the frame was backed
pub made_by_write : (ok : Bool) (f : Frame) (page : List ℕ) (s z : StateOf) (home : Backing) → home ≡ backing_of_frame s f → IsLegal (move.Wrote f) s.life → IsMove (write_end ok f) → Grew s.log z.log (spelling_of_move (write_end ok f))
    → z.life ≡ after_move s.life (write_end ok f) → z.ages ≡ s.ages → z.waits ≡ s.waits → z.told ≡ with_write ok home s.told → DeviceCalled way.Write home ok s z
    → z.slots ≡ written_if ok (slots_written home page) s.slots → z.blocks ≡ written_if ok (blocks_written home page) s.blocks → Made (write_end ok f) s z
made_by_write ok f page s z home is legal range grew life ages waits told calls slots blocks =
    by ok range grew life (told ∙ ap (λ (b : Backing). with_write ok b s.told) is) (subst (λ (b : Backing). DeviceCalled way.Write b ok s z) is calls)
    (write_keeps_slots ok at page s.slots z.slots (slots ∙ ap (λ (b : Backing). written_if ok (slots_written b page) s.slots) is))
    (write_keeps_blocks ok at page s.blocks z.blocks (blocks ∙ ap (λ (b : Backing). written_if ok (blocks_written b page) s.blocks) is))
  where
    at : Backing
    at = backing_of_frame s f

    by : (c : Bool) → IsMove (write_end c f) → Grew s.log z.log (spelling_of_move (write_end c f)) → z.life ≡ after_move s.life (write_end c f) → z.told ≡ with_write c at s.told → DeviceCalled way.Write at c s z
        → KeepsOthers (in_slot way.Write c at ++ []) s.slots z.slots → KeepsOthers (in_block way.Write c at ++ []) s.blocks z.blocks → Made (write_end c f) s z
    by true range grew life told calls slots blocks = made_by (move.Wrote f) s z legal range grew life ages waits told calls slots blocks
    by false range grew life told calls slots blocks = made_by (move.Lost f) s z legal range grew life ages waits told calls slots blocks

pub write_calm : (l : FrameLife) (f : Frame) → IsLegal (move.Wrote f) l → is_read (record_at l.frames f.0).request ≡ false
write_calm l f legal = write_not_read (record_at l.frames f.0).request (is_writing l f legal)

pub same_page : (a b : List ℕ) → Some a ≡ Some b → a ≡ b
same_page a b e = cc

-- a frame without an owner is on no block
pub no_block : (l : FrameLife) → ∥ ReachedByMoves l ∥₁ → (f : Frame) → (record_at l.frames f.0).owner ≡ None → (ok : Bool) (page : List ℕ) (blocks : BlockBytes)
    → written_if ok (blocks_written (record_at l.frames f.0).backing page) blocks ≡ blocks
no_block l reached f none ok page blocks = by (record_at l.frames f.0).backing refl ok
  where
    by : (b : Backing) → (record_at l.frames f.0).backing ≡ b → (c : Bool) → written_if c (blocks_written b page) blocks ≡ blocks
    by backing.None e true = refl
    by backing.None e false = refl
    by (backing.Slot s) e true = refl
    by (backing.Slot s) e false = refl
    by (backing.Block c) e true = let bad : Some c.0 ≡ None = sym (ap block_of e) ∙ ((facts_of l reached).standing f.0).fit.ownerless (ap is_some none) in cc
    by (backing.Block c) e false = refl
