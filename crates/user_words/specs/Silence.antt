-- A writer that tells nothing.
use Rattle.std.specs.Prelude.{None, false}
use Rattle.dial9_trace_format.specs.Words.{Account}

abbrev pub nothing_told : Account
nothing_told = record { bytes = None; faults = None; waiting = None; lends = false }
