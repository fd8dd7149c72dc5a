-- The moves of an access in a line of several calls: begun by one and ended by another.
use Rattle.std.proofs.Common.{◌≡◌, Some, List, [], ◌∷◌, true, sym, ap, ◌∙◌, subst}
use Rattle.mm_types.specs.{Move, Key}
use Rattle.mm_move_rules.specs.{record_at, FrameLife, Walk, Through}
use Rattle.mm_store.specs.Behind.{Behind}
use Rattle.mm_store.specs.{Aim, AccessMove, ReadyMoves, key_written}

-- an access at a place that is ready goes on as part of any access there that writes
pub ready_moves : (a whole : Aim) (ms : List Move) (b : Behind) (w : Walk) → whole.place ≡ a.place → whole.writes ≡ true → key_written a.need ≡ key_written whole.need → w.life ≡ b.life → ReadyMoves a ms b → Through (AccessMove whole) w ms
ready_moves a whole [] b w e wr page l h = tt
ready_moves a whole (m ∷ []) b w e wr page l h =
    (subst (λ (x : Move). AccessMove whole w x []) (sym h.1) (wr, ap (λ (x : FrameLife). x.valid whole.place) l ∙ ap b.life.valid e ∙ h.3, ap (λ (x : FrameLife). (record_at x.frames h.0.0).owner) l ∙ h.4 ∙ ap (λ (k : Key). Some k) page), tt)
ready_moves a whole (m ∷ n ∷ ms) b w e wr page l h = absurd h
