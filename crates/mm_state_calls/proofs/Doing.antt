-- Moves of the joined state, one list behind another.
use Rattle.std.proofs.Common.{◌≡◌, ℕ, ◌+◌, Bool, true, false, List, [], ◌∷◌, ◌++◌, refl, sym, ap, ◌∙◌, subst, append_assoc, cond}
use Rattle.std.proofs.lemmas.List.Sums.{sum_by-append}
use Rattle.std.specs.Prelude.{count_by}
use Rattle.mm_types.specs.{Direction, Backing, Move, Place}
use Rattle.mm_types.specs.declared.devices.Direction.TheVariants as way
use Rattle.mm_types.specs.declared.frames.Backing.TheVariants as backing
use Rattle.mm_types.specs.declared.moves.Move.TheVariants as move
use Rattle.mm_devices.specs.{DeviceCall, is_next_named, Call, KeepsOthers}
use Rattle.mm_devices.proofs.{all_served_then, all_served_one, map-logged, keeps_same, keeps_then}
use Rattle.mm_move_rules.specs.{FrameLife, after_move, Grew, Replays, Walk, walked, walked_all, waits_through, ages_through}
use Rattle.mm_move_rules.proofs.{replays_then, spelled-append, moves-append, grew_then, grew_nothing}
use Rattle.mm_store.specs.{told_through, call_of, calls_of, in_slot, in_block, paging_traffic, file_traffic}
use Rattle.mm_store.proofs.{waits_then, ages_then, told_then}
use Rattle.mm_state_calls.specs.{StateOf, CalledFor, backing_of_frame, Made, DoesMoves, walk_of}
use Rattle.mm_types.proofs.{append_nil}

-- ---- moves, one list behind another

module _ (on : Direction → Bool → Backing → List DeviceCall) where
  pub calls_then : (xs ys : List Move) (l m : FrameLife) → Replays xs l m → calls_of on l (xs ++ ys) ≡ calls_of on l xs ++ calls_of on m ys
  calls_then [] ys l m e = ap (λ (k : FrameLife). calls_of on k ys) (sym e)
  calls_then (x ∷ xs) ys l m h =
      ap (λ t. call_of on l x ++ t) (calls_then xs ys (after_move l x) m h.1) ∙ sym (append_assoc (call_of on l x) (calls_of on (after_move l x) xs) (calls_of on m ys))

pub count-append : {A : Type 0} (t : A → Bool) (xs ys : List A) → count_by t (xs ++ ys) ≡ count_by t xs + count_by t ys
count-append t xs ys = sum_by-append (λ x. cond (t x) 1 0) xs ys

pub does_nothing : (s : StateOf) → DoesMoves [] s s
does_nothing s = record {
  in_range = tt;
  grew = grew_nothing s.log;
  replays = refl;
  ages = refl;
  waits = refl;
  told = refl;
  paging_calls = [];
  paging = refl;
  paging_are = refl;
  file_calls = [];
  files = refl;
  files_are = refl;
  slots_kept = keeps_same [] s.slots s.slots refl;
  blocks_kept = keeps_same [] s.blocks s.blocks refl;
}

pub does_then : (xs ys : List Move) (s y z : StateOf) → DoesMoves xs s y → DoesMoves ys y z → DoesMoves (xs ++ ys) s z
does_then xs ys s y z p q = record {
  in_range = moves-append xs ys p.in_range q.in_range;
  grew = subst (λ ms. Grew s.log z.log ms) (sym (spelled-append xs ys)) (grew_then s.log y.log z.log _ _ p.grew q.grew);
  replays = replays_then xs ys s.life y.life z.life p.replays q.replays;
  ages = q.ages ∙ ap (ages_through ys) p.ages ∙ sym (ages_then xs ys s.ages);
  waits = q.waits ∙ ap (waits_through ys) p.waits ∙ sym (waits_then xs ys s.waits);
  told = q.told ∙ ap (told_through y.life ys) p.told ∙ sym (told_then xs ys s.life y.life s.told p.replays);
  paging_calls = p.paging_calls ++ q.paging_calls;
  paging = all_served_then p.paging_calls q.paging_calls _ _ _ p.paging q.paging;
  paging_are = map-logged p.paging_calls q.paging_calls ∙ (λ i. p.paging_are i ++ q.paging_are i) ∙ sym (calls_then in_slot xs ys s.life y.life p.replays);
  file_calls = p.file_calls ++ q.file_calls;
  files = all_served_then p.file_calls q.file_calls _ _ _ p.files q.files;
  files_are = map-logged p.file_calls q.file_calls ∙ (λ i. p.files_are i ++ q.files_are i) ∙ sym (calls_then in_block xs ys s.life y.life p.replays);
  slots_kept = subst (λ cs. KeepsOthers cs s.slots z.slots) (sym (calls_then in_slot xs ys s.life y.life p.replays)) (keeps_then _ _ s.slots y.slots z.slots p.slots_kept q.slots_kept);
  blocks_kept = subst (λ cs. KeepsOthers cs s.blocks z.blocks) (sym (calls_then in_block xs ys s.life y.life p.replays)) (keeps_then _ _ s.blocks y.blocks z.blocks p.blocks_kept q.blocks_kept);
}

-- ---- one move

does_quiet : (x : Move) (s z : StateOf) → Made x s z → z.paging ≡ s.paging → z.files ≡ s.files → paging_traffic s.life (x ∷ []) ≡ [] → file_traffic s.life (x ∷ []) ≡ [] → DoesMoves (x ∷ []) s z
does_quiet x s z m p f e g = record {
  in_range = m.in_range;
  grew = m.grew;
  replays = (m.legal, m.life);
  ages = m.ages;
  waits = m.waits;
  told = m.told;
  paging_calls = [];
  paging = p;
  paging_are = sym e;
  file_calls = [];
  files = f;
  files_are = sym g;
  slots_kept = m.slots_kept;
  blocks_kept = m.blocks_kept;
}

abbrev one_call : Direction → ℕ → Bool → Bool → Call
one_call w b ok n = record { way = w; block = b; succeeded = ok; named = n }

does_called : (w : Direction) (ok : Bool) (x : Move) (b : Backing) (s z : StateOf) → Made x s z → CalledFor w b ok s.paging s.files z.paging z.files
    → paging_traffic s.life (x ∷ []) ≡ in_slot w ok b → file_traffic s.life (x ∷ []) ≡ in_block w ok b → DoesMoves (x ∷ []) s z
does_called w ok x backing.None s z m c e g = does_quiet x s z m c.0 c.1 e g
does_called w ok x (backing.Slot t) s z m c e g = record {
  in_range = m.in_range;
  grew = m.grew;
  replays = (m.legal, m.life);
  ages = m.ages;
  waits = m.waits;
  told = m.told;
  paging_calls = one_call w t.0 ok (is_next_named w s.paging.named) ∷ [];
  paging = all_served_one _ s.paging z.paging c.0;
  paging_are = sym e;
  file_calls = [];
  files = c.1;
  files_are = sym g;
  slots_kept = m.slots_kept;
  blocks_kept = m.blocks_kept;
}
does_called w ok x (backing.Block t) s z m c e g = record {
  in_range = m.in_range;
  grew = m.grew;
  replays = (m.legal, m.life);
  ages = m.ages;
  waits = m.waits;
  told = m.told;
  paging_calls = [];
  paging = c.1;
  paging_are = sym e;
  file_calls = one_call w t.0 ok (is_next_named w s.files.named) ∷ [];
  files = all_served_one _ s.files z.files c.0;
  files_are = sym g;
  slots_kept = m.slots_kept;
  blocks_kept = m.blocks_kept;
}

pub does_one : (x : Move) (s z : StateOf) → Made x s z → DoesMoves (x ∷ []) s z
does_one (move.At n k) s z m = does_quiet _ s z m m.calls.0 m.calls.1 refl refl
does_one (move.Add k b) s z m = does_quiet _ s z m m.calls.0 m.calls.1 refl refl
does_one (move.Drop k) s z m = does_quiet _ s z m m.calls.0 m.calls.1 refl refl
does_one (move.Clear f) s z m = does_quiet _ s z m m.calls.0 m.calls.1 refl refl
does_one (move.Steal f) s z m = does_quiet _ s z m m.calls.0 m.calls.1 refl refl
does_one (move.Give f k) s z m = does_quiet _ s z m m.calls.0 m.calls.1 refl refl
does_one (move.Read f k) s z m = does_quiet _ s z m m.calls.0 m.calls.1 refl refl
does_one (move.Got f) s z m = does_called way.Read true _ (backing_of_frame s f) s z m m.calls (append_nil _) (append_nil _)
does_one (move.Bad f) s z m = does_called way.Read false _ (backing_of_frame s f) s z m m.calls (append_nil _) (append_nil _)
does_one (move.Map f p) s z m = does_quiet _ s z m m.calls.0 m.calls.1 refl refl
does_one (move.Unmap p) s z m = does_quiet _ s z m m.calls.0 m.calls.1 refl refl
does_one (move.Soil f) s z m = does_quiet _ s z m m.calls.0 m.calls.1 refl refl
does_one (move.Write f b) s z m = does_quiet _ s z m m.calls.0 m.calls.1 refl refl
does_one (move.Wrote f) s z m = does_called way.Write true _ (backing_of_frame s f) s z m m.calls (append_nil _) (append_nil _)
does_one (move.Lost f) s z m = does_called way.Write false _ (backing_of_frame s f) s z m m.calls (append_nil _) (append_nil _)

pub does_two : (x y : Move) (s t z : StateOf) → Made x s t → Made y t z → DoesMoves (x ∷ y ∷ []) s z
does_two x y s t z p q = does_then (x ∷ []) (y ∷ []) s t z (does_one x s t p) (does_one y t z q)

-- ---- pieces

pub walked_is : (ms : List Move) (w : Walk) (m : FrameLife) → Replays ms w.life m → walked_all w ms ≡ record { life = m; ages = ages_through ms w.ages; tried = (walked_all w ms).tried }
walked_is [] w m e = ap (λ (l : FrameLife). record { life = l; ages = w.ages; tried = w.tried }) (sym e)
walked_is (x ∷ xs) w m h = walked_is xs (walked w x) m h.1

-- where a walk through the moves has come to
pub walked_here : (ms : List Move) (s z : StateOf) → DoesMoves ms s z → walked_all (walk_of s) ms ≡ record { life = z.life; ages = z.ages; tried = (walked_all (walk_of s) ms).tried }
walked_here ms s z d = walked_is ms (walk_of s) z.life d.replays
    ∙ ap (λ (g : Place → ℕ). record { life = z.life; ages = g; tried = (walked_all (walk_of s) ms).tried }) (sym d.ages)
