-- The transcripts of two worked logs, as the reference in Python writes them.
use Rattle.std.specs.Prelude.{List, [], ◌∷◌, ◌++◌, codes, flat_map}
use Rattle.mm_types.specs.{Text}

abbrev pub rows_text : List Text → Text
rows_text lines = flat_map (λ line. line ++ 10 ∷ []) lines

-- a page rewritten while its write is in flight
abbrev pub rewritten_rows : Text
rewritten_rows =
    rows_text (
    codes "1  machine 8 8 1 0" ∷
    codes "2  process 1 0 8" ∷
    codes "3  call" ∷
    codes "     page p1.16 comes to be, demand-zero: no frame yet" ∷
    codes "4  access 1" ∷
    codes "     free frame 0 is zeroed on demand" ∷
    codes "     demand-zero fault: p1.16 gets zeroed frame 0" ∷
    codes "     p1.16 is valid at 1.16: frame 0 is active" ∷
    codes "5  trim 1" ∷
    codes "     1.16 is trimmed from the working set of process 1: frame 0; it goes to the modified list"
    ∷
    codes "6  writer" ∷
    codes "     modified page writer writes p1.16: frame 0 to slot 0" ∷
    codes "7  call" ∷
    codes "8  access 1" ∷
    codes "     soft fault: p1.16 is found in transition (being written), frame 0, and valid at 1.16"
    ∷
    codes "     first write to p1.16 while it is being written: frame 0 will stay changed" ∷
    codes "9  call" ∷
    codes "10  trim 1" ∷
    codes "     1.16 is trimmed from the working set of process 1: frame 0 is being written still" ∷
    codes "11  io" ∷
    codes "     write-out of p1.16 is complete, but it was changed meanwhile: frame 0 stays changed; it goes to the modified list"
    ∷
    codes "12  call" ∷
    codes "13  access 1" ∷
    codes "     soft fault: p1.16 is found on the modified list, frame 0, and valid at 1.16" ∷
    [])

-- the smallest working set: its only page goes for the next
abbrev pub smallest_set_rows : Text
smallest_set_rows =
    rows_text (
    codes "1  machine 6 0 1 0" ∷
    codes "2  process 1 0 1" ∷
    codes "3  call" ∷
    codes "     pages p1.16 to p1.17 come to be, demand-zero: no frame yet" ∷
    codes "4  access 1" ∷
    codes "     free frame 0 is zeroed on demand" ∷
    codes "     demand-zero fault: p1.16 gets zeroed frame 0" ∷
    codes "     p1.16 is valid at 1.16: frame 0 is active" ∷
    codes "5  access 1" ∷
    codes "     free frame 1 is zeroed on demand" ∷
    codes "     demand-zero fault: p1.17 gets zeroed frame 1" ∷
    codes "     1.16 is replaced: the working set of process 1 is full: frame 0; it goes to the modified list"
    ∷
    codes "     p1.17 is valid at 1.17: frame 1 is active" ∷
    [])
