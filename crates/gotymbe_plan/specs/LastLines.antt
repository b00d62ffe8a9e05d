-- The last line of a dump.
use Rattle.std.specs.Prelude.{ℕ, List, []}
use Rattle.dial9_trace_format.specs.declared.decoder.error.DecodeErrorKind.{DecodeErrorKind}
use Rattle.dial9_trace_format.specs.declared.decoder.error.DecodeErrorKind.TheVariants as causes
use Rattle.trace_lines.specs.Lines.{line, whole_line, no_header_line, stopped_line, conflict_line}
use Rattle.gotymbe_plan.specs.declared.ending.Ending.{Ending}
use Rattle.gotymbe_plan.specs.declared.ending.Ending.TheVariants.{Whole, Stopped, Unfinished}

-- where reading stops: by no header, after a schema that conflicts, or after the last frame
abbrev pub stop_line : DecodeErrorKind → ℕ → ℕ → List ℕ
stop_line causes.NoHeader place position = line no_header_line
stop_line (causes.Conflict id) place position = line (conflict_line place id.0)
stop_line cause place position = line (stopped_line position)

-- the last line of an input whose frames have so many bytes; none where reading or writing failed
abbrev pub last_line : Ending → ℕ → List ℕ
last_line Whole position = line whole_line
last_line (Stopped stop) position = stop_line stop.cause stop.place position
last_line (Unfinished place) position = line (stopped_line place)
last_line ending position = []
