use Rattle.std.proofs.Common.{ℕ, length, List, sym, ap, ◌∙◌}
use Rattle.mm_ram.specs.{bytes_from}
use Rattle.mm_parts.specs.PartsShown as parts_of
use Rattle.mm_parts.specs.{owners}
use Rattle.mm_state.proofs.{located_on, pick, valid_names, valid_calm, own_bytes}
use Rattle.mm_state.proofs.calls.StateStateCalls.read.Goals as goal

pub invariant_of-self-clause-located : goal.invariant_of-self-clause-located
invariant_of-self-clause-located g c = let s = c.args.self.now in located_on _ _ _ _ c.read.ensures.made s.located

pub returns-clause-bytes : goal.returns-clause-bytes
returns-clause-bytes g c =
    let s = c.args.self.now in
    let u = parts_of.shown_parts s.parts in
    let at = pick (u.life.valid c.args.place) c.requires.valid in
    λ k named.
    let owner = sym (valid_names (owners u.life.frames) (parts_of.parts_words s.parts) c.args.place at.0 at.1) ∙ named in
    c.read.ensures.bytes at.0 at.1
    ∙ ap (λ (page : List ℕ). bytes_from page c.args.off (length c.args.out.now)) (own_bytes u.life s.parts.kept.reached u.bytes (g.P.Inject.blocks s.paging) (g.F.Inject.blocks s.files) s.located at.0 k owner
    (valid_calm u.life s.parts.kept.reached u.bytes (g.P.Inject.blocks s.paging) (g.F.Inject.blocks s.files) s.located c.args.place at.0 at.1))
