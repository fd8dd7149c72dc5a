-- A move in words: the sentence of its class, with its names filled in.
use Rattle.std.specs.Prelude.{Bool, ◌==◌, bytes_eq, if◌then◌else◌, [], ◌∷◌, ◌++◌, codes, Option}
use Rattle.std.specs.Prelude.{Some, None}
use Rattle.mm_types.specs.{Text, decimal, Block, Frame, Key, Place, Slot, Held}
use Rattle.mm_types.specs.declared.frames.Held.TheVariants as held
use Rattle.mm_move_rules.specs.{FrameLife}
use Rattle.mm_move_classes.specs.{sentence_of, Class}
use Rattle.mm_sentences.specs.declared.facts.Facts.{Facts}
use Rattle.mm_sentences.specs.declared.states.FrameState.{FrameState}
use Rattle.mm_sentences.specs.declared.states.FrameState.TheVariants as state
use Rattle.mm_sentences.specs.States.{state_of, state_text}
use Rattle.mm_sentences.specs.Words.{key_text, place_text}

-- ---- what stands for a name

-- {k}
abbrev pub page_text : Option Key → Text
page_text None = codes "-"
page_text (Some k) = key_text k

-- {f}
abbrev pub frame_text : Option Frame → Text
frame_text None = []
frame_text (Some f) = decimal f.0

-- {p}
abbrev pub at_text : Bool → Option Place → Text
at_text addressed None = []
at_text addressed (Some place) = place_text addressed place

-- {i}
abbrev pub process_text : Option Place → Text
process_text None = []
process_text (Some place) = decimal place.pid.0

-- {b}
abbrev pub block_text : Option Block → Text
block_text None = []
block_text (Some b) = decimal b.0

-- {home}
abbrev pub home_text : Held → Text
home_text (held.Slot s) = codes "slot " ++ decimal s.0
home_text (held.Block b) = codes "block " ++ decimal b.0
home_text (held.Frame f) = codes "zeros"
home_text held.Zero = codes "zeros"
home_text held.Dead = codes "zeros"

-- {unslot}: the slot that a changed page gives up
abbrev pub unslot_text : Option Slot → Text
unslot_text None = []
unslot_text (Some s) = codes "; its slot " ++ (decimal s.0 ++ codes " is free")

abbrev pub freed_slot : Option Slot → Text
freed_slot None = []
freed_slot (Some s) = codes "; slot " ++ (decimal s.0 ++ codes " is free")

-- {freed}: the frame, or else the slot, that a deleted page gives up
abbrev pub freed_text : Option Frame → Option Slot → Text
freed_text None s = freed_slot s
freed_text (Some f) s = codes "; frame " ++ (decimal f.0 ++ codes " is free")

abbrev pub stays_text : Option Place → Text
stays_text None = []
stays_text (Some place) = codes " stays active"

abbrev pub list_text : FrameState → Text
list_text s = codes "; it goes to the " ++ (state_text s ++ codes " list")

-- what becomes of a frame whose page left a place, or was written
abbrev pub becomes_text : Option Place → FrameState → Text
becomes_text place state.Active = stays_text place
becomes_text place state.BeingRead = []
becomes_text place state.BeingWritten = codes " is being written still"
becomes_text place state.Zeroed = []
becomes_text place state.Free = list_text state.Free
becomes_text place state.Standby = list_text state.Standby
becomes_text place state.Modified = list_text state.Modified

-- {goes}, by the state after the move
abbrev pub goes_text : FrameLife → Option Place → Option Frame → Text
goes_text after place None = []
goes_text after place (Some f) = becomes_text place (state_of after f.0)

abbrev pub value_text : Bool → Facts → FrameLife → Text → Text
value_text addressed x after name =
    if bytes_eq name (codes "k") then page_text x.key
    else if bytes_eq name (codes "f") then frame_text x.frame
    else if bytes_eq name (codes "p") then at_text addressed x.place
    else if bytes_eq name (codes "i") then process_text x.place
    else if bytes_eq name (codes "goes") then goes_text after x.place x.frame
    else if bytes_eq name (codes "home") then home_text x.home
    else if bytes_eq name (codes "b") then block_text x.block
    else if bytes_eq name (codes "freed") then freed_text x.frame x.slot
    else if bytes_eq name (codes "unslot") then unslot_text x.slot
    else []

-- ---- a sentence

-- The text from a place on, where `piece` stands between the last brace and that place. What stands
-- before an opening brace or the end stays; what stands before a closing one is a name.
abbrev pub filled_in : (Text → Text) → Text → Text → Text
filled_in value piece [] = piece
filled_in value piece (c ∷ cs) =
    let behind = filled_in value [] cs in
    let longer = filled_in value (piece ++ c ∷ []) cs in
    if c == 0x7B then piece ++ behind else if c == 0x7D then value piece ++ behind else longer

-- with addresses behind places, or without; `after` is the state after the move
abbrev pub sentence_text : Bool → Class → Facts → FrameLife → Text
sentence_text addressed class x after =
    filled_in (value_text addressed x after) [] (sentence_of class)
