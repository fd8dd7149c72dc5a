use Rattle.std.proofs.Common.{◌≡◌, ◌<◌, ℕ, List, Option, Some, None, length, set, arith, sym, ap, ◌∙◌, subst, get_or, get_or-set_same}
use Rattle.std.proofs.lemmas.List.{get_or_read}
use Rattle.mm_ram.specs.{Contents, page_at, zero_page, ArePlaces, backed, has_bytes, shown}
use Rattle.mm_ram.specs.declared.contents.Contents.TheVariants as contains
use Rattle.mm_ram.proofs.{contents_at, as_long, filled_at, empty_at, places_backed, shown_backed}
use Rattle.mm_ram.proofs.ram.fill_place.Goals as goal

-- the contents that were read are the frame's
contents_read : (places : List (Option (List ℕ))) (contents : List Contents) → ArePlaces places contents → (i : ℕ) → i < length places → (k : Contents) → k ≡ get_or contents i k → k ≡ contents_at contents i
contents_read places contents kept i low k e = get_or_read contents i k (omega (arith, low, as_long places contents kept.filled)) e contains.Unwritten

pub write-requires : goal.write-requires
write-requires c =
    let places = c.args.cells.now.slots in
    let contents = c.args.contents.now.items in
    let is = contents_read places contents c.requires.kept c.args.i c.requires.low c.index-was.result.now c.index-was.ensures in
    (c.requires.at, c.requires.low, empty_at places contents c.requires.kept.filled c.args.i (ap has_bytes (sym is) ∙ sym c.has_bytes.ensures ∙ c.if-not-has_bytes.true))

pub returns-then-not-has_bytes-clause-kept : goal.returns-then-not-has_bytes-clause-kept
unfolding zero_page
returns-then-not-has_bytes-clause-kept c =
    let places = c.args.cells.now.slots in
    let contents = c.args.contents.now.items in
    let i = c.args.i in
    let is = contents_read places contents c.requires.kept i c.requires.low c.index-was.result.now c.index-was.ensures in
    subst (λ (q : List (Option (List ℕ))). ArePlaces q (set contents i c.backed.result)) (sym c.write.ensures.1)
    (subst (λ (k : Contents). ArePlaces (set places i (Some zero_page)) (set contents i k)) (sym (c.backed.ensures ∙ ap backed is)) (places_backed places contents c.requires.kept i c.requires.low))

pub returns-then-not-has_bytes-clause-same : goal.returns-then-not-has_bytes-clause-same
unfolding zero_page
returns-then-not-has_bytes-clause-same c =
    let places = c.args.cells.now.slots in
    let contents = c.args.contents.now.items in
    let i = c.args.i in
    let is = contents_read places contents c.requires.kept i c.requires.low c.index-was.result.now c.index-was.ensures in
    ap (λ (q : List (Option (List ℕ))). shown (set contents i c.backed.result) q) c.write.ensures.1
    ∙ ap (λ (k : Contents). shown (set contents i k) (set places i (Some zero_page))) (c.backed.ensures ∙ ap backed is)
    ∙ shown_backed places contents c.requires.kept i (ap has_bytes (sym is) ∙ sym c.has_bytes.ensures ∙ c.if-not-has_bytes.true)

pub returns-then-not-has_bytes-clause-there : goal.returns-then-not-has_bytes-clause-there
unfolding zero_page
returns-then-not-has_bytes-clause-there c =
    (zero_page, ap (λ (q : List (Option (List ℕ))). page_at q c.args.i) c.write.ensures.1 ∙ get_or-set_same c.args.cells.now.slots c.args.i (Some zero_page) None c.requires.low)

pub returns-else-not-has_bytes-clause-there : goal.returns-else-not-has_bytes-clause-there
returns-else-not-has_bytes-clause-there c =
    let places = c.args.cells.now.slots in
    let contents = c.args.contents.now.items in
    let is = contents_read places contents c.requires.kept c.args.i c.requires.low c.index-was.result.now c.index-was.ensures in
    filled_at places contents c.requires.kept.filled c.args.i (ap has_bytes (sym is) ∙ sym c.has_bytes.ensures ∙ c.if-not-has_bytes.false)
