-- What stands before a place of a trace.
use Rattle.std.specs.Prelude.{◌≡◌, ℕ, List, length}
use Rattle.std.specs.FinMap as map
use Rattle.std.specs.Ordering.{nat_cmp}
use Rattle.trace_values.specs.Values.{owned_reader}
use Rattle.trace_wire.specs.Registries.{entries_of}
use Rattle.trace_wire.specs.Runs.{Item}
use Rattle.trace_wire.specs.Schemas.{WireType}
use Rattle.dial9_trace_format.specs.Decoding.{DecoderState, DecodesAll}

-- a decoder gives so many frames up to this place, and has these schemas then
pub record ReadsTo (place : ℕ) (types : map.FinMap nat_cmp WireType) (old new : DecoderState) (frames : ℕ)
    : Type 0 where
  pub shown : List Item
  pub all : DecodesAll owned_reader old new shown
  pub many : frames ≡ length shown
  pub stands : new.position ≡ place
  pub schemas : entries_of (map.entries types) ≡ entries_of (map.entries new.grammar.wire_types)
