-- Whether a frame is read alike by a reader of owned values and by one of borrowed values.
use Rattle.std.specs.Prelude.{Bool, false, ◌&&◌, ◌||◌, length, nat_lt}
use Rattle.std.specs.List.{list_any}
use Rattle.trace_values.specs.Raw.{texts_front}
use Rattle.trace_values.specs.Values.{Value, texts}
use Rattle.trace_wire.specs.Runs.{Item, EventItem}
use Rattle.dial9_trace_format.specs.DecodedFrames.{owned_item, same_item}

-- a map of texts of which a pair is no pair of texts
abbrev pub value_lacks_texts : Value → Bool
value_lacks_texts (texts ps) = nat_lt (length (texts_front ps)) (length ps)
value_lacks_texts v = false

-- an event with such a value
abbrev pub lacks_texts : Item → Bool
lacks_texts (EventItem id time values) = list_any value_lacks_texts values
lacks_texts shown = false

-- what the reader of owned values read is what the other one read; and that is also what `to_owned` makes of it, where
-- the maps of texts hold nothing else
abbrev pub read_alike : Item → Item → Bool
read_alike owned borrowed = same_item owned borrowed
    && (same_item owned (owned_item borrowed) || lacks_texts borrowed)
