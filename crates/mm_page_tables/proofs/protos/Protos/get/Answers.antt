use Rattle.std.proofs.Common.{◌≡◌, Some, ap, ◌∙◌, refl, arith}
use Rattle.std.specs.FinMap as finite
use Rattle.std.proofs.lemmas.Option.{slice_get_read}
use Rattle.mm_page_tables.specs.{words_in}
use Rattle.mm_page_tables.proofs.{at_index, open_of_word, word_within}
use Rattle.mm_page_tables.proofs.AreaLemmas.{within, word_is, no_word}
use Rattle.mm_page_tables.proofs.protos.Protos.get.Goals as goal

pub index-requires : goal.index-requires
index-requires c = omega (arith, within words_in c.self.inside.areas.items c.args.self.now c.args.a.0 c.self.view_is (open_of_word c.args.self.now c.args.a.0 c.args.i c.requires), c.self.inside.areas.ok)

pub index-requires-in-Some : goal.index-requires-in-Some
index-requires-in-Some c =
    let range = within words_in c.self.inside.areas.items c.args.self.now c.args.a.0 c.self.view_is (open_of_word c.args.self.now c.args.a.0 c.args.i c.requires) in
    let is : finite.get c.args.self.now c.args.a.0 ≡ Some c.in-Some.words.items = at_index words_in c.self.inside.areas.items c.args.self.now c.args.a.0 c.index.result.now c.self.view_is range c.index.ensures ∙ ap words_in c.in-Some.is in
    omega (arith, word_within c.args.self.now c.args.a.0 c.args.i c.in-Some.words.items is c.requires, c.in-Some.words.ok)

pub unreachable-requires : goal.unreachable-requires
unreachable-requires c =
    let range = within words_in c.self.inside.areas.items c.args.self.now c.args.a.0 c.self.view_is (open_of_word c.args.self.now c.args.a.0 c.args.i c.requires) in
    no_word c.args.self.now c.args.a.0 c.args.i (at_index words_in c.self.inside.areas.items c.args.self.now c.args.a.0 c.index.result.now c.self.view_is range c.index.ensures ∙ ap words_in c.in-None.is) c.requires

pub returns : goal.returns
returns c =
    let range = within words_in c.self.inside.areas.items c.args.self.now c.args.a.0 c.self.view_is (open_of_word c.args.self.now c.args.a.0 c.args.i c.requires) in
    let is : finite.get c.args.self.now c.args.a.0 ≡ Some c.in-Some.words.items = at_index words_in c.self.inside.areas.items c.args.self.now c.args.a.0 c.index.result.now c.self.view_is range c.index.ensures ∙ ap words_in c.in-Some.is in
    word_is c.args.self.now c.args.a.0 c.args.i c.in-Some.words.items is
    ∙ slice_get_read c.in-Some.words.items _ c.args.i c.index-in-Some.result.now refl (word_within c.args.self.now c.args.a.0 c.args.i c.in-Some.words.items is c.requires) c.index-in-Some.ensures
