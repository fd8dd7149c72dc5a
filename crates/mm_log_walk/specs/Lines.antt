-- The lines of a file.
-- Profile, "What a log shows".
use Rattle.std.specs.Prelude.{◌==◌, ◌&&◌, nat_le, if◌then◌else◌, List, [], ◌∷◌, ◌++◌, length}
use Rattle.std.specs.Prelude.{slice_range}
use Rattle.mm_types.specs.{Text}
use Rattle.mm_script.specs.{without_return}
use Rattle.mm_log_walk.specs.declared.lines.Extent.{Extent}

-- the lines of some bytes, each without its line feed and one carriage return before it, where
-- these bytes of the first were read; what stands after the last line feed is no line
abbrev pub lines_from : Text → Text → List Text
lines_from line [] = []
lines_from line (c ∷ cs) =
    if c == 10 then without_return line ∷ lines_from [] cs else lines_from (line ++ c ∷ []) cs

abbrev pub lines_of : Text → List Text
lines_of bytes = lines_from [] bytes

-- the bytes of a file that stand at a place in it
abbrev pub extent_text : Text → Extent → Text
extent_text bytes x =
    if nat_le x.from x.to && nat_le x.to (length bytes) then slice_range bytes x.from x.to else []
