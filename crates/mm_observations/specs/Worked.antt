-- A worked run, and observations of it: those of web/README.md, and some that are not good.
use Rattle.std.specs.Prelude.{ℕ, List, [], ◌∷◌, ◌++◌, codes, flat_map, map, Result, Err}
use Rattle.mm_types.specs.{Text}
use Rattle.mm_observations.specs.RunLines.{run_lines}
use Rattle.mm_observations.specs.Packed.{packed}

abbrev pub ended_lines : List Text → Text
ended_lines lines = flat_map (λ line. line ++ 10 ∷ []) lines

-- three lines, of which the second makes process 1
abbrev pub packed_beside : Text → Result Text ℕ
packed_beside bytes =
    packed (run_lines
    (codes "machine 64 64 4 0" ∷ codes "process 8 16" ∷ codes "alloc 1 0 0x2000 0x3000 0x4" ∷ [])
    (codes "ok 118" ∷ codes "ok 1" ∷ codes "ok 0x00010000" ∷ [])) bytes

-- the charge and a region after the third line; and once more, with a view behind it, and all free
abbrev pub worked_rows : Text
worked_rows = ended_lines (
    codes "3 charge 2 118" ∷
    codes "3 region 1 0x10000 0x2000 0x1000 0x20000 0x4 0x10000 0x4" ∷ [])

abbrev pub worked_data : Text
worked_data = ended_lines ([] ∷ codes "BqAuBc@_@A?CC" ∷ [])

abbrev pub more_rows : Text
more_rows = ended_lines (
    codes "2 region 1 0x10000 0x7FFE0000 0x10000 0 1 0 0" ∷
    (codes "2 charge 0 118" ++ 13 ∷ []) ∷
    codes "3 region 1 0x20000 65536 0x2000 0x40000 0 0x10000 0x2" ∷
    codes "3 region 1 0x10000 0x1000 0x1000 0x20000 0x104 0x10000 0x104" ∷ [])

abbrev pub more_data : Text
more_data = ended_lines (
    [] ∷ codes "Af@_@_~~Nq?uB" ∷ codes "@R@~{~^OOAc@~@@?cGcG" ∷ [])

-- a first row that is good, and one that is not
abbrev pub packed_second : Text → Result Text ℕ
packed_second row = packed_beside (ended_lines (codes "2 charge 0 118" ∷ []) ++ row)

abbrev pub bad_rows : List Text
bad_rows =
    codes "3 charge 1 118" ∷
    ended_lines (codes "1 charge 1 118" ∷ []) ∷
    ended_lines (codes "4 charge 1 118" ∷ []) ∷
    ended_lines (codes "3 charge 119 118" ∷ []) ∷
    ended_lines (codes "3 charge 1" ∷ []) ∷
    ended_lines (codes "3  charge 1 118" ∷ []) ∷
    ended_lines (codes "3 region 2 0x10000 0x2000 0x10000 0 1 0 0" ∷ []) ∷
    ended_lines (codes "3 region 1 0x10001 0x2000 0x10000 0 1 0 0" ∷ []) ∷
    ended_lines (codes "3 region 1 0xF000 0x2000 0x10000 0 1 0 0" ∷ []) ∷
    ended_lines (codes "3 region 1 0x7FFEF000 0x2000 0x10000 0 1 0 0" ∷ []) ∷
    ended_lines (codes "3 region 1 0x10000 0 0x10000 0 1 0 0" ∷ []) ∷
    ended_lines (codes "3 region 1 0x10000 0x2000 0x4000 0 1 0 0" ∷ []) ∷
    ended_lines (codes "3 region 1 0x10000 0x2000 0x1000 0x20000 0 0x10000 0x4" ∷ []) ∷
    ended_lines (codes "3 region 1 0x10000 0x2000 0x2000 0x20000 0x4 0x10000 0x4" ∷ []) ∷
    ended_lines (codes "3 region 1 0x10000 0x2000 0x1000 0x20000 0x4 0x20000 0x4" ∷ []) ∷
    ended_lines (codes "3 region 1 0x10000 0x2000 0x1000 0x60000 0x4 0x10000 0x4" ∷ []) ∷
    ended_lines ([] ∷ []) ∷ []

-- each as the second row
abbrev pub second_refused : List (Result Text ℕ)
second_refused = map (λ row. Err 2) bad_rows
