-- For private contracts: fields that were converted, one after another.
use Rattle.std.specs.Prelude.{◌≡◌, ℕ, List, map}
use Rattle.std.specs.Borrow.{Bor}
use Rattle.trace_values.specs.Sending.{Account}
use Rattle.trace_values.specs.Values.{Value}
use Rattle.trace_wire.specs.Schemas.{Field}
use Rattle.trace_writer.specs.State.{EncoderView}
use Rattle.dial9_trace_format.specs.ShownEvents.{ShownEvent}
use Rattle.trace_converter.specs.Rules.{AreKept, old_values}
use Rattle.trace_converter.specs.Conversions.{ConvertsValues}

-- a name of a field, and the new one
abbrev pub Names : Type 0
Names = Bor (List ℕ) × Bor (List ℕ)

-- the fields of these names were converted: the fields of the new schema, and the new values
pub record HasConverted {W : Type 0} (told : W → Account) (e : ShownEvent) (names : List Names) (old : EncoderView W)
    (fields : List Field) (values : List Value) (new : EncoderView W) : Type 0 where
  pub kept : List (Field × Value)
  pub are_kept : AreKept e names kept
  pub fields_are : fields ≡ map (λ x. x.0) kept
  pub converted : ConvertsValues told e.pools (old_values kept) old values new
