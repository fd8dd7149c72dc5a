use Rattle.std.proofs.Common.{◌≡◌, ℕ, List, Some, ap, ◌∙◌, refl, sym, arith}
use Rattle.std.specs.Prelude.{slice_set}
use Rattle.std.specs.Vec.{with_item}
use Rattle.std.specs.FinMap as finite
use Rattle.mm_types.proofs.{table_insert}
use Rattle.mm_page_tables.specs.{words_in}
use Rattle.mm_page_tables.proofs.{at_index, open_of_word, word_within, words_are}
use Rattle.mm_page_tables.proofs.AreaLemmas.{within, no_word}
use Rattle.mm_page_tables.proofs.protos.Protos.set.Goals as goal

pub index_mut-requires : goal.index_mut-requires
index_mut-requires c = omega (arith, within words_in c.self.inside.areas.items c.args.self.now c.args.a.0 c.self.view_is (open_of_word c.args.self.now c.args.a.0 c.args.i c.requires), c.self.inside.areas.ok)

pub index_mut-requires-in-Some : goal.index_mut-requires-in-Some
index_mut-requires-in-Some c =
    let range = within words_in c.self.inside.areas.items c.args.self.now c.args.a.0 c.self.view_is (open_of_word c.args.self.now c.args.a.0 c.args.i c.requires) in
    let is : finite.get c.args.self.now c.args.a.0 ≡ Some c.in-Some.words.items = at_index words_in c.self.inside.areas.items c.args.self.now c.args.a.0 c.index_mut.result.now c.self.view_is range c.index_mut.ensures.value ∙ ap words_in c.in-Some.is in
    omega (arith, word_within c.args.self.now c.args.a.0 c.args.i c.in-Some.words.items is c.requires, c.in-Some.words.ok)

pub unreachable-requires : goal.unreachable-requires
unreachable-requires c =
    let range = within words_in c.self.inside.areas.items c.args.self.now c.args.a.0 c.self.view_is (open_of_word c.args.self.now c.args.a.0 c.args.i c.requires) in
    no_word c.args.self.now c.args.a.0 c.args.i (at_index words_in c.self.inside.areas.items c.args.self.now c.args.a.0 c.index_mut.result.now c.self.view_is range c.index_mut.ensures.value ∙ ap words_in c.in-None.is) c.requires

pub returns : goal.returns
returns c =
    let range = within words_in c.self.inside.areas.items c.args.self.now c.args.a.0 c.self.view_is (open_of_word c.args.self.now c.args.a.0 c.args.i c.requires) in
    let is : finite.get c.args.self.now c.args.a.0 ≡ Some c.in-Some.words.items = at_index words_in c.self.inside.areas.items c.args.self.now c.args.a.0 c.index_mut.result.now c.self.view_is range c.index_mut.ensures.value ∙ ap words_in c.in-Some.is in
    let new : List ℕ = slice_set c.in-Some.words.items c.args.i c.args.word in
    table_insert words_in c.self.inside.areas.items c.args.a.0 (Some (with_item c.in-Some.words c.args.i c.args.word)) range new refl
    ∙ ap (λ m. finite.insert m c.args.a.0 new) c.self.view_is
    ∙ ap (λ (ws : List ℕ). finite.insert c.args.self.now c.args.a.0 (slice_set ws c.args.i c.args.word)) (sym (words_are c.args.self.now c.args.a.0 c.in-Some.words.items is))
