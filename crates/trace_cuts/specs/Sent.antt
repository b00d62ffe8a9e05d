-- What a cut that was refused has sent.
use Rattle.std.specs.Prelude.{◌≡◌, ℕ, List}
use Rattle.trace_values.specs.Sending.{Account}
use Rattle.trace_values.specs.Encoding.{SendFails}
use Rattle.trace_cuts.specs.declared.range.TimeRange.{TimeRange}
use Rattle.trace_cuts.specs.declared.cut.Cut.{Cut}
use Rattle.trace_cuts.specs.declared.cut.CutError.{CutError}
use Rattle.trace_cuts.specs.declared.cut.CutError.TheVariants.{OutOfMemory, Writer}
use Rattle.trace_cuts.specs.Cuts.{IsCut}

-- A growth was refused, and the writer is as it was. Or the writer failed once, after a front of the cut.
abbrev pub FailsToCut : {W : Type 0} → (W → Account) → TimeRange → List ℕ → W → W → CutError → Type 0
FailsToCut told r bytes old new OutOfMemory = new ≡ old
FailsToCut told r bytes old new (Writer kind) =
    (cut : Cut) × IsCut r bytes cut × SendFails (told old) (told new) cut.bytes.items kind
