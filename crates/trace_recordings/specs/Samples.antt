-- The sample types of scripts.
use Rattle.std.specs.Prelude.{ℕ, Bool, List, [], ◌∷◌, ◌==◌, ◌&&◌, Vec}
use Rattle.std.specs.List.{list_any}
use Rattle.std.specs.declared.alloc.Global.{Global}
use Rattle.trace_values.specs.Sending.{telling_list}
use Rattle.trace_values.specs.Values.{Value}
use Rattle.trace_wire.specs.Schemas.{Entry, same_entry}
use Rattle.trace_writer.specs.declared.encoder.call.Reply.{Reply}
use Rattle.trace_writer.specs.State.{EncoderView}
use Rattle.trace_writer.specs.parts.encoder.Calls.{Does}
use Rattle.trace_writer.specs.Calls.{write_type}
use Rattle.trace_samples.specs.EventEntries as entries

-- the slot and the schema of each sample type
abbrev pub sample_types : List (ℕ × Entry)
sample_types = (5, entries.fast_slot_entry) ∷ (0, entries.poll_entry) ∷ (7, entries.texts_entry)
    ∷ (0, entries.stacks_entry) ∷ (9, entries.annotated_entry) ∷ (255, entries.last_slot_entry)
    ∷ (256, entries.other_entry) ∷ (1000, entries.dynamic_entry) ∷ (0, entries.poll_again_entry)
    ∷ (0, entries.poll_annotated_entry) ∷ (5, entries.other_entry) ∷ (256, entries.also_entry)
    ∷ (0, entries.nameless_entry) ∷ (0, entries.borrowed_entry) ∷ (1, entries.numbers_entry)
    ∷ (0, entries.options_entry) ∷ (0, entries.wide_entry) ∷ []

-- a type has this slot and this schema
abbrev pub is_of : ℕ → Entry → ℕ × Entry → Bool
is_of slot entry t = (slot == t.0) && same_entry entry t.1

-- a sample type has them
abbrev pub is_sample : ℕ → Entry → Bool
is_sample slot entry = list_any (is_of slot entry) sample_types

-- an encoder over a list of bytes gives this answer where an event of the slot and the schema is written
abbrev pub WritesEvent :
    ℕ → Entry → (time : ℕ) → List Value → EncoderView (Vec ℕ Global) → EncoderView (Vec ℕ Global) → Reply → Type 0
WritesEvent slot entry time values old new reply =
    Does (λ v. telling_list v.items) old (write_type slot entry time values) reply new
