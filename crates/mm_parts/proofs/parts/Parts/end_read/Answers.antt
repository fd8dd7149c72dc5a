use Rattle.std.proofs.Common.{◌≡◌, Bool, Option, true, false, refl, sym, ap, ◌∙◌, subst}
use Rattle.mm_types.specs.declared.moves.Move.TheVariants as move
use Rattle.mm_types.specs.{Backing, Key}
use Rattle.mm_move_rules.specs.{record_at, IsLegal, freed}
use Rattle.mm_pfn_database.specs.{FramesOf}
use Rattle.mm_page_tables.specs.Shown as tables
use Rattle.mm_parts.specs.{JoinedParts, life_in, own_is, joined_parts, end_of_read, flight_ended, words_sent, CanSend}
use Rattle.mm_parts.proofs.{Step, step_to, held_by_request, read_frees, reading_busy, send_can, table_read, read_table, read_left, read_shows}
use Rattle.mm_parts.proofs.{read_over_by}
use Rattle.mm_parts.proofs.parts.Parts.end_read.Goals as goal
use Rattle.mm_parts.proofs.parts.Parts.end_read.Goals.{After-end_request, After-send_home}

pub give_back-requires : goal.give_back-requires
give_back-requires c = λ t e. read_frees (joined_parts c.args.self.now) c.args.self.now.kept c.args.f t (sym c.end_read-ended.ensures.slot ∙ e)

pub end_request-requires : goal.end_request-requires
end_request-requires c = (held_by_request (joined_parts c.args.self.now) c.args.self.now.kept c.args.f.0 (reading_busy (joined_parts c.args.self.now) c.args.f _ c.requires.legal)).once

pub send_home-requires : goal.send_home-requires
send_home-requires c =
    let s = c.args.self.now in
    let bad : IsLegal (move.Bad c.args.f) (life_in (joined_parts s)) = subst (λ (b : Bool). IsLegal (end_of_read b c.args.f) (life_in (joined_parts s))) c.if-not-ok.true c.requires.legal in
    subst (λ (o : Option Key). CanSend (joined_parts s).words o c.end_read-ended.result.home) (sym c.end_read-ended.ensures.owner)
    (subst (λ (b : Backing). CanSend (joined_parts s).words (record_at s.frames.table c.args.f.0).owner b) (sym c.end_read-ended.ensures.home) (send_can (joined_parts s) s.kept c.args.f bad c.words_hold.ensures.there _ refl))

-- what the parts are before the page is sent home
abbrev parts : After-end_request → JoinedParts
parts c = record (joined_parts c.args.self.now) {
  table = c.end_read-ended.new.self.table;
  bytes = c.end_read-ended.new.self.bytes;
  free = c.give_back.new.slots.free;
  flight = c.end_request.new.flight;
  own = c.end_request.new.own;
}

ended : (c : After-end_request) (b : Bool) → c.args.ok ≡ b → parts c ≡ read_left b (joined_parts c.args.self.now) c.args.f
ended c b ok =
    let s = c.args.self.now in
    let f = c.args.f in
    let table = ap (λ (v : FramesOf). v.table) c.end_read-ended.ensures.ended ∙ read_table s.frames f.0 c.args.ok ∙ ap (λ b. table_read b s.frames.table f.0) ok in
    let bytes = c.end_read-ended.ensures.bytes in
    let free = c.give_back.ensures ∙ ap (freed s.slots.free) c.end_read-ended.ensures.slot in
    let flight = c.end_request.ensures.flight ∙ ap (flight_ended (own_is s.own f.0) s.flight f.0) ok in
    λ i. record (joined_parts s) { table = table i; bytes = bytes i; free = free i; flight = flight i; own = c.end_request.ensures.own i }

sent : (c : After-send_home) (t : JoinedParts) → t ≡ read_left false (joined_parts c.args.self.now) c.args.f → c.args.ok ≡ false
    → Step (record t { words = tables.words c.send_home.new.words; ages = tables.place_ages c.send_home.new.words }) (read_shows c.args.ok (joined_parts c.args.self.now) c.args.f)
sent c t e ok =
    let s = c.args.self.now in
    let words = c.send_home.ensures.words ∙ (λ i. words_sent (c.end_read-ended.ensures.owner i) (c.end_read-ended.ensures.home i) (joined_parts s).words) in
    step_to _ _ _ (λ i. record (e i) { words = words i; ages = c.send_home.ensures.ages i }) (read_over_by (joined_parts s) s.kept c.args.f c.args.ok false ok c.requires.legal)

stayed : (c : After-end_request) → c.args.ok ≡ true → Step (parts c) (read_shows c.args.ok (joined_parts c.args.self.now) c.args.f)
stayed c ok = step_to _ _ _ (ended c true ok) (read_over_by (joined_parts c.args.self.now) c.args.self.now.kept c.args.f c.args.ok true ok c.requires.legal)

pub invariant_of-self : goal.invariant_of-self
invariant_of-self c =
    let at = goal.at.invariant_of-self c in
    record { kept = (sent at.After-send_home _ (ended at.After-end_request false c.if-not-ok.true) c.if-not-ok.true).kept }

pub returns-then-not-ok : goal.returns-then-not-ok
returns-then-not-ok c =
    let at = goal.at.returns-then-not-ok c in
    record { made = (sent at.After-send_home _ (ended at.After-end_request false c.if-not-ok.true) c.if-not-ok.true).shown }

pub invariant_of-self-else-not-ok : goal.invariant_of-self-else-not-ok
invariant_of-self-else-not-ok c = record { kept = (stayed (goal.at.invariant_of-self-else-not-ok c).After-end_request c.if-not-ok.false).kept }

pub returns-else-not-ok : goal.returns-else-not-ok
returns-else-not-ok c = record { made = (stayed (goal.at.returns-else-not-ok c).After-end_request c.if-not-ok.false).shown }
