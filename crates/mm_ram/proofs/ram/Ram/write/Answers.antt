use Rattle.std.proofs.Common.{◌≡◌, ◌≤◌, ◌+◌, ℕ, List, length, set, Option, Some, None, arith, sym, ap, ◌∙◌, get_or-set_same, set-set}
use Rattle.std.specs.Prelude.{unwrap_or, []}
use Rattle.mm_ram.specs.{Contents, page_at, overwritten, zero_page}
use Rattle.mm_ram.specs.declared.contents.Contents.TheVariants as contains
use Rattle.mm_types.specs.{page_size}
use Rattle.mm_ram.proofs.{contents_at, seen, frame_low, contents_low, some_low, contents_read, own_filled, own_is, zeros_are, zeros_long, seen_filled}
use Rattle.mm_ram.proofs.{seen_rewritten, ram_put, ram_rewritten, length-over}
use Rattle.mm_ram.proofs.ram.Ram.write.Goals as goal

-- a page that is written within it is as long as before
over_long : (page bytes : List ℕ) (off : ℕ) (new : List ℕ) → new ≡ overwritten page off bytes → length page ≡ page_size → off + length bytes ≤ page_size → length new ≡ page_size
over_long page bytes off new e whole inside = ap length e ∙ length-over page bytes off (omega (arith, whole, inside)) ∙ whole

pub index-requires : goal.index-requires
index-requires c =
    let s = seen c.self.invariant c.self.view_is in
    omega (arith, contents_low s c.args.f.0 (some_low s c.args.f.0 c.requires.written), c.self.inside.contents.ok.0)

pub get_mut-requires : goal.get_mut-requires
get_mut-requires c =
    let s = seen c.self.invariant c.self.view_is in
    let is = sym (contents_read s c.args.f.0 (some_low s c.args.f.0 c.requires.written) c.index.result.now c.index.ensures) ∙ c.in-Bytes.is in
    (sym c.self.invariant.at, own_filled s c.args.f.0 is)

pub invariant_of-self : goal.invariant_of-self
invariant_of-self c =
    let page = c.get_mut.result.now in
    let there = c.get_mut.ensures.value in
    ram_rewritten c.self.invariant c.args.f.0 c.put_bytes.new.page page
    (over_long page c.args.bytes.now c.args.off c.put_bytes.new.page c.put_bytes.ensures (c.self.invariant.kept.whole c.args.f.0 page there) c.requires.inside)
    there

pub returns-in-Bytes : goal.returns-in-Bytes
returns-in-Bytes c =
    let s = seen c.self.invariant c.self.view_is in
    let is = sym (contents_read s c.args.f.0 (some_low s c.args.f.0 c.requires.written) c.index.result.now c.index.ensures) ∙ c.in-Bytes.is in
    let same = own_is s c.args.f.0 is c.get_mut.result.now c.get_mut.ensures.value in
    seen_rewritten s c.args.f.0 is c.put_bytes.new.page
    ∙ ap (λ (page : List ℕ). set c.args.self.now c.args.f.0 (Some page)) (c.put_bytes.ensures ∙ ap (λ (page : List ℕ). overwritten page c.args.off c.args.bytes.now) (sym same))

pub put_page-requires : goal.put_page-requires
put_page-requires c =
    let s = seen c.self.invariant c.self.view_is in
    record {
      at = sym c.self.invariant.at;
      there = frame_low s c.args.f.0 (some_low s c.args.f.0 c.requires.written);
      filled = c.self.invariant.kept.filled;
    }

pub get_mut-requires-in_default : goal.get_mut-requires-in_default
unfolding zero_page
get_mut-requires-in_default c =
    let s = seen c.self.invariant c.self.view_is in
    let there = frame_low s c.args.f.0 (some_low s c.args.f.0 c.requires.written) in
    let e = c.put_page.ensures in
    (sym (e.at ∙ c.self.invariant.at), (zero_page, ap (λ (q : List (Option (List ℕ))). page_at q c.args.f.0) e.slots ∙ get_or-set_same c.self.inside.cells.slots c.args.f.0 (Some zero_page) None there))

pub invariant_of-self-in_default : goal.invariant_of-self-in_default
unfolding zero_page
invariant_of-self-in_default c =
    let s = seen c.self.invariant c.self.view_is in
    let there = frame_low s c.args.f.0 (some_low s c.args.f.0 c.requires.written) in
    let e = c.put_page.ensures in
    let n = c.put_page.new in
    let r = ram_put c.self.invariant c.args.f.0 zero_page there zeros_long n.cells.at n.cells.slots n.contents.items e.at e.slots e.contents in
    let page = c.get_mut-in_default.result.now in
    let is = c.get_mut-in_default.ensures.value in
    ram_rewritten r c.args.f.0 c.put_bytes-in_default.new.page page
    (over_long page c.args.bytes.now c.args.off c.put_bytes-in_default.new.page c.put_bytes-in_default.ensures (r.kept.whole c.args.f.0 page is) c.requires.inside)
    is

pub returns-in_default : goal.returns-in_default
unfolding zero_page
returns-in_default c =
    let ram = c.args.self.now in
    let f = c.args.f.0 in
    let s = seen c.self.invariant c.self.view_is in
    let low = some_low s f c.requires.written in
    let read = contents_read s f low c.index.result.now c.index.ensures in
    let zeros = zeros_are s f c.requires.written (λ b. c.in_default.not-Bytes (read ∙ b)) in
    let e = c.put_page.ensures in
    let n = c.put_page.new in
    let r = ram_put c.self.invariant f zero_page (frame_low s f low) zeros_long n.cells.at n.cells.slots n.contents.items e.at e.slots e.contents in
    let t = seen r (seen_filled s f zero_page n.cells.slots n.contents.items e.slots e.contents) in
    let own = ap (λ (q : List Contents). contents_at q f) e.contents ∙ get_or-set_same c.self.inside.contents.items f contains.Bytes contains.Unwritten (contents_low s f low) in
    let same = sym (own_is t f own c.get_mut-in_default.result.now c.get_mut-in_default.ensures.value) ∙ ap (λ (o : Option (List ℕ)). unwrap_or o []) (get_or-set_same ram f (Some zero_page) None low) ∙ sym zeros in
    seen_rewritten t f own c.put_bytes-in_default.new.page
    ∙ set-set ram f (Some zero_page) (Some c.put_bytes-in_default.new.page)
    ∙ ap (λ (page : List ℕ). set ram f (Some page)) (c.put_bytes-in_default.ensures ∙ ap (λ (page : List ℕ). overwritten page c.args.off c.args.bytes.now) same)
