-- The events of a generated script: a machine first, and then other lines alone.
use Rattle.std.proofs.Common.{◌≡◌, ℕ, zero, suc, ◌+◌, ◌%◌, ◌-◌, ◌<◌, ◌≤◌, ◌^◌, Bool, true, false, List, [], ◌∷◌, ◌++◌, length, take, drop, length-drop, Some, None, codes, refl, sym, ap, subst, arith, get_or, ◌∙◌}
use Rattle.std.specs.Prelude.{if◌then◌else◌, IsTrue, nat_le, ◌==◌}
use Rattle.std.specs.List.{AllByRecursion}
use Rattle.std.proofs.lemmas.Nat.{mod_below}
use Rattle.std.proofs.lemmas.Bool.{le-leb}
use Rattle.std.proofs.lemmas.List.{take_rest}
use Rattle.mm_types.specs.{MachineOf, Event}
use Rattle.mm_types.specs.declared.events.Event.TheVariants as line
use Rattle.mm_script.specs.{IsInRange, fields_of, are_joined}
use Rattle.mm_generate.specs.{outputs, seeded, outputs_from, Drawn, drawn, drawn_events, drawn_of_kind, write_drawn, read_drawn, address_drawn, script_of}
use Rattle.mm_script.specs.{is_machine}
use Rattle.mm_run.specs.{IsLaterEvent, AreLater}

later_of : (e : Event) → AllByRecursion IsInRange (fields_of e) → IsTrue (are_joined e) → is_machine e ≡ false → IsLaterEvent e
later_of e fields joined later = record { well_formed = record { fields = fields; joined = joined }; later = later }

-- ---- the fixed ones

process_later : IsLaterEvent (line.Process 8 48)
process_later = later_of (line.Process 8 48) (tt, ((omega arith, omega arith), ((omega arith, omega arith), tt))) refl refl

map_later : (pid handle access : ℕ) → pid ≤ 255 → handle ≤ 0xFFFFFFFF → access < 2 ^ 32 → IsLaterEvent (line.Map (record { 0 = pid }) handle access 0x0 0x0 0x0)
map_later pid handle access p h a = later_of (line.Map (record { 0 = pid }) handle access 0x0 0x0 0x0) (tt, ((omega arith, p), ((omega arith, h), (a, (omega arith, (omega arith, (omega arith, tt))))))) refl refl

-- ---- the drawn ones

address_low : (word pages : ℕ) → 0 < pages → pages ≤ 160 → address_drawn word pages < 2 ^ 32
address_low word pages some few = omega (arith, mod_below word pages some)

address_whole : (addr : ℕ) → nat_le (addr % 4096 + 1) 4096 ≡ true
address_whole addr = le-leb (addr % 4096 + 1) 4096 (let low = mod_below addr 4096 (omega arith) in omega (arith, low))

write_later : (pid pages page byte : ℕ) → pid ≤ 255 → 0 < pages → pages ≤ 160 → IsLaterEvent (write_drawn pid pages page byte)
write_later pid pages page byte p some few =
    later_of (write_drawn pid pages page byte)
    (tt, ((omega arith, p), (address_low page pages some few, (((omega arith), (omega arith), (mod_below byte 256 (omega arith), tt)), tt))))
    (address_whole (address_drawn page pages)) refl

read_later : (pid pages page : ℕ) → pid ≤ 255 → 0 < pages → pages ≤ 160 → IsLaterEvent (read_drawn pid pages page)
read_later pid pages page p some few =
    later_of (read_drawn pid pages page)
    (tt, ((omega arith, p), (address_low page pages some few, ((omega arith, omega arith), tt))))
    (address_whole (address_drawn page pages)) refl

trim_later : (word : ℕ) → IsLaterEvent (line.Trim (record { 0 = 1 + word % 2 }) 8)
trim_later word =
    later_of (line.Trim (record { 0 = 1 + word % 2 }) 8) (tt, ((omega arith, (let low = mod_below word 2 (omega arith) in omega (arith, low))), ((omega arith, omega arith), tt))) refl refl

writer_later : IsLaterEvent (line.Writer 4)
writer_later = later_of (line.Writer 4) (tt, ((omega arith, omega arith), tt)) refl refl

io_later : IsLaterEvent (line.Io 1)
io_later = later_of (line.Io 1) (tt, ((omega arith, omega arith), tt)) refl refl

later_if : (b : Bool) (x y : Drawn) → IsLaterEvent x.event → IsLaterEvent y.event → IsLaterEvent (if b then x else y).event
later_if true x y p q = p
later_if false x y p q = q

of_kind_later : (kind : ℕ) (words : ℕ → ℕ) → IsLaterEvent (drawn_of_kind kind words).event
of_kind_later kind words =
    later_if (nat_le kind 1) _ _ (write_later 1 160 (words 1) (words 2) (omega arith) (omega arith) (omega arith))
    (later_if (kind == 2) _ _ (read_later 1 160 (words 1) (omega arith) (omega arith) (omega arith))
    (later_if (kind == 3) _ _ (write_later 2 64 (words 1) (words 2) (omega arith) (omega arith) (omega arith))
    (later_if (kind == 4) _ _ (read_later 2 64 (words 1) (omega arith) (omega arith) (omega arith))
    (later_if (kind == 5) _ _ (trim_later (words 1))
    (later_if (kind == 6) _ _ writer_later io_later)))))

all_drawn_later : (n : ℕ) (words : ℕ → ℕ) → AreLater (drawn_events n words)
unfolding drawn_events
all_drawn_later zero words = tt
all_drawn_later (suc n) words = (of_kind_later (words 0 % 8) words, all_drawn_later n (outputs_from (drawn words).taken words))

also : {A B : Type 0} → A → B → A × B
also first rest = (first, rest)

are_later : (seed count : ℕ) → AreLater (drop 1 (script_of seed count))
are_later seed count =
    also process_later
    (also process_later
    (also (later_of _ (tt, (refl, ((omega arith, omega arith), ((omega arith, omega arith), tt)))) refl refl)
    (also (later_of _ (tt, ((omega arith, omega arith), (omega arith, (omega arith, (omega arith, (omega arith, tt)))))) refl refl)
    (also (later_of _ (tt, ((omega arith, omega arith), (omega arith, (omega arith, (refl, tt))))) refl refl)
    (also (later_of _ (tt, ((omega arith, omega arith), (refl, tt))) refl refl)
    (also (map_later 1 4 0x2 (omega arith) (omega arith) (omega arith))
    (also (map_later 2 4 0x2 (omega arith) (omega arith) (omega arith))
    (also (later_of _ (tt, ((omega arith, omega arith), (refl, (omega arith, (tt, tt))))) refl refl)
    (also (map_later 2 8 0x1 (omega arith) (omega arith) (omega arith)) (all_drawn_later count (outputs (seeded seed))))))))))))

drawn_many : (n : ℕ) (words : ℕ → ℕ) → length (drawn_events n words) ≡ n
unfolding drawn_events
drawn_many zero words = refl
drawn_many (suc n) words = ap suc (drawn_many n (outputs_from (drawn words).taken words))

-- ---- the list of a script

module _ (seed count : ℕ) (events : List Event) (are : events ≡ script_of seed count) where
  rest_is : take (length events - 1) (drop 1 events) ≡ drop 1 (script_of seed count)
  rest_is = take_rest events 1 ∙ ap (drop 1) are

  pub slice_later : AreLater (take (length events - 1) (drop 1 events))
  slice_later = subst AreLater (sym rest_is) (are_later seed count)

  pub slice_few : count ≤ 100000 → length (take (length events - 1) (drop 1 events)) < 1000000
  slice_few few = let many = drawn_many count (outputs (seeded seed)) in omega (arith, ap length rest_is, many)

  -- the first event, and the others
  pub script_whole : (first : Event) → first ≡ get_or events 0 first → first ∷ take (length events - 1) (drop 1 events) ≡ script_of seed count
  script_whole first at = λ i. (at ∙ ap (λ xs. get_or xs 0 first) are) i ∷ rest_is i
