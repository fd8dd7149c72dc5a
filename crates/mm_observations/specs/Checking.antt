-- Which rows of observations are good.
-- web/README.md, "Packed observations".
use Rattle.std.specs.Prelude.{ℕ, ◌+◌, ◌-◌, ◌%◌, Bool, not, ◌&&◌, ◌||◌, nat_le, ◌==◌}
use Rattle.std.specs.Prelude.{if◌then◌else◌, Option, Some, None}
use Rattle.mm_types.specs.{Text, QueryInfo}
use Rattle.mm_observations.specs.RunLines.{is_made}
use Rattle.mm_observations.specs.Rows.{parse_row}
use Rattle.mm_observations.specs.declared.run_lines.RunLines.{RunLines}
use Rattle.mm_observations.specs.declared.rows.Row.{Row}
use Rattle.mm_observations.specs.declared.rows.Seen.{Seen}
use Rattle.mm_observations.specs.declared.rows.Seen.TheVariants as seen

-- from no access to execute and write copy
abbrev pub is_plain_protection : ℕ → Bool
is_plain_protection n =
    (n == 0x01) || (n == 0x02) || (n == 0x04) || (n == 0x08) || (n == 0x10) || (n == 0x20)
    || (n == 0x40) || (n == 0x80)

-- with a guard, 0x100, or without
abbrev pub is_protection : ℕ → Bool
is_protection n = is_plain_protection n || (nat_le 0x100 n && is_plain_protection (n - 0x100))

-- whole pages of the user's
abbrev pub is_within_user : QueryInfo → Bool
is_within_user r =
    (r.base % 4096 == 0) && (r.size % 4096 == 0) && not (r.size == 0) && nat_le 0x10000 r.base
    && nat_le (r.base + r.size) 0x7FFF0000

-- as `query` answers a free stretch
abbrev pub is_free_region : QueryInfo → Bool
is_free_region r =
    (r.state == 0x10000) && (r.kind == 0) && (r.prot == 1) && (r.alloc_base == 0)
    && (r.alloc_prot == 0)

-- private or mapped, with a base and a protection of its own from when it was allocated
abbrev pub is_allocated : QueryInfo → Bool
is_allocated r =
    ((r.kind == 0x20000) || (r.kind == 0x40000)) && (r.alloc_base % 4096 == 0)
    && nat_le 0x10000 r.alloc_base && nat_le r.alloc_base r.base && is_protection r.alloc_prot

abbrev pub is_reserved_region : QueryInfo → Bool
is_reserved_region r = (r.state == 0x2000) && (r.prot == 0) && is_allocated r

abbrev pub is_committed_region : QueryInfo → Bool
is_committed_region r = (r.state == 0x1000) && is_protection r.prot && is_allocated r

abbrev pub is_region : QueryInfo → Bool
is_region r = is_within_user r
    && (is_free_region r || is_reserved_region r || is_committed_region r)

-- it can have been seen after this line
abbrev pub is_good_seen : RunLines → ℕ → Seen → Bool
is_good_seen run line (seen.Charge charged limit) = nat_le charged limit
is_good_seen run line (seen.Region pid r) = is_made run pid line && is_region r

-- behind a row of the line `before`
abbrev pub is_good_row : RunLines → ℕ → Row → Bool
is_good_row run before row =
    nat_le 1 row.line && nat_le before row.line && nat_le row.line run.count
    && is_good_seen run row.line row.seen

abbrev pub if_good : RunLines → ℕ → Option Row → Option Row
if_good run before None = None
if_good run before (Some row) = if is_good_row run before row then Some row else None

-- the row that a text is, where it is good behind a row of the line `before`
abbrev pub good_row : RunLines → ℕ → Text → Option Row
good_row run before text = if_good run before (parse_row text)
