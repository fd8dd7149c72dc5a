use Rattle.std.proofs.Common.{◌≡◌, ℕ, ◌%◌, List, [], ◌∷◌, ap, ◌∙◌}
use Rattle.rand_pcg.specs.Lcg.{Lcg, next}
use Rattle.rand_pcg.specs.Pcg.{multiplier_64}
use Rattle.mm_types.specs.declared.events.Event.TheVariants as line
use Rattle.mm_generate.specs.{outputs, address_drawn}
use Rattle.mm_generate.proofs.{outputs_after, two_steps}
use Rattle.mm_generate.proofs.events.write.Goals as goal

pub returns-clause-drawn : goal.returns-clause-drawn
returns-clause-drawn c =
    let g = c.args.words.now in
    let byte : c.draw-byte.result ≡ outputs g 1 % 256 =
    c.draw-byte.ensures.drawn
    ∙ ap (λ (h : Lcg). outputs h 0 % 256) c.address-address.ensures.after
    ∙ ap (λ (w : ℕ). w % 256) (outputs_after 1 g 0) in
    ap (λ (a : ℕ). line.Write (record { 0 = c.args.pid }) a c.one_byte.result) c.address-address.ensures.drawn
    ∙ ap (λ (bytes : List ℕ). line.Write (record { 0 = c.args.pid }) (address_drawn (outputs g 0) c.args.pages) bytes)
    (c.one_byte.ensures ∙ ap (λ (b : ℕ). b ∷ []) byte)

pub returns-clause-after : goal.returns-clause-after
returns-clause-after c =
    c.draw-byte.ensures.after ∙ ap (next 64 multiplier_64) c.address-address.ensures.after ∙ two_steps c.args.words.now
