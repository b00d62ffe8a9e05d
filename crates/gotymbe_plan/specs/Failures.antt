-- How reading ended where a library did not take what was read.
use Rattle.std.specs.Prelude.{Option, unwrap_or}
use Rattle.std.specs.declared.io.ErrorKind.{ErrorKind}
use Rattle.std.specs.declared.io.ErrorKind.TheVariants as errors
use Rattle.trace_fronts.specs.declared.salvaging.SalvageError.{SalvageError}
use Rattle.trace_fronts.specs.declared.salvaging.SalvageError.TheVariants as salvage
use Rattle.trace_json.specs.declared.growing.LineError.{LineError}
use Rattle.trace_json.specs.declared.growing.LineError.TheVariants as json
use Rattle.trace_lines.specs.declared.sent_lines.LineFault.{LineFault}
use Rattle.trace_lines.specs.declared.sent_lines.LineFault.TheVariants as lines
use Rattle.trace_stats.specs.declared.trace.StatsError.{StatsError}
use Rattle.trace_stats.specs.declared.trace.StatsError.TheVariants as stats
use Rattle.gotymbe_plan.specs.declared.ending.Ending.{Ending}
use Rattle.gotymbe_plan.specs.declared.ending.Ending.TheVariants.{OutOfMemory, Unwritten, TooMuch}

-- where a trace was not saved
abbrev pub salvage_ending : SalvageError → Ending
salvage_ending salvage.OutOfMemory = OutOfMemory
salvage_ending (salvage.Writer kind) = Unwritten kind

-- where an event was not counted
abbrev pub stats_ending : StatsError → Ending
stats_ending stats.OutOfMemory = OutOfMemory
stats_ending stats.Full = TooMuch

-- where a line of JSON was not held or not sent
abbrev pub json_ending : LineError → Ending
json_ending json.OutOfMemory = OutOfMemory
json_ending (json.Writer kind) = Unwritten kind

-- where a line of a dump was not, by the error of the writer; without an error it took no more bytes
abbrev pub line_ending : LineFault → Option ErrorKind → Ending
line_ending lines.OutOfMemory written = OutOfMemory
line_ending lines.Unsent written = Unwritten (unwrap_or written errors.WriteZero)
