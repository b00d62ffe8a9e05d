-- What a recording shows.
use Rattle.std.specs.Prelude.{◌≡◌, ◌≢◌, ◌⊎◌, ◌↔◌, ℕ, List, [], Option, Some, None, Ok, String}
use Rattle.std.specs.declared.alloc.Global.{Global}
use Rattle.hex.specs.Hex.{decode_of}
use Rattle.std.specs.Borrow.{Bor}
use Rattle.std.specs.List.{AllByRecursion}
use Rattle.trace_lines.specs.Dumps.{IsDumpAs}
use Rattle.trace_lines.specs.declared.dump.DumpForm.{DumpForm}
use Rattle.trace_lines.specs.declared.dump.DumpForm.TheVariants.{Frames, Events}
use Rattle.trace_lines.specs.declared.dump.Reader.TheVariants.{Borrowed}
use Rattle.trace_recordings.specs.declared.findings.Findings.{Findings}
use Rattle.trace_recordings.specs.declared.findings.PartFinding.{PartFinding}
use Rattle.trace_recordings.specs.declared.findings.PartFinding.TheVariants.{Absent, LeftOut, Compared}
use Rattle.trace_recordings.specs.declared.player.PlayError.{PlayError}
use Rattle.trace_recordings.specs.declared.recording.Calls.{Calls}
use Rattle.trace_recordings.specs.declared.recording.Readings.{Readings}
use Rattle.trace_recordings.specs.declared.recording.Recording.{Recording}
use Rattle.trace_recordings.specs.declared.script.call.ScriptCall.{ScriptCall}
use Rattle.trace_recordings.specs.Comparisons.{ended}
use Rattle.trace_recordings.specs.Pieces.{AreGivenAlike, AreGivenApart, piece_sizes}
use Rattle.trace_recordings.specs.Playing.{IsPlayed, IsOfScript}
use Rattle.trace_recordings.specs.Refusals.{RefusesScript, FirstMissing}
use Rattle.trace_recordings.specs.Scripts.{IsScript}
use Rattle.trace_recordings.specs.Sinks.{IsSinkText}

-- the trace has a dump, and no difference is told exactly where the recorded lines are that dump
abbrev pub ShowsDump : DumpForm → List ℕ → List ℕ → PartFinding → Type 0
ShowsDump form trace lines Absent = ⊥
ShowsDump form trace lines (LeftOut name) = ⊥
ShowsDump form trace lines (Compared differences) = (status : ℕ) × (text : List ℕ) × IsDumpAs form trace status text
    × ((differences.items ≡ []) ↔ (ended lines ≡ text))

-- the script was played, and no difference is told exactly where the trace and the recorded replies are what its
-- calls make
pub record ShowsPlayed (trace : List ℕ) (calls : Calls) (differences : List (String Global)) : Type 0 where
  pub bytes : List ℕ
  pub replies : List ℕ
  pub played : IsPlayed calls.script.now bytes replies
  pub none_told : (differences ≡ []) ↔ ((trace ≡ bytes) × (ended calls.replies.now ≡ replies))

-- the script was not played, by an error of its own, and that is told
abbrev pub ShowsRefused : Calls → List (String Global) → Type 0
ShowsRefused calls differences =
    (error : PlayError) × IsOfScript error × RefusesScript calls.script.now error × (differences ≢ [])

-- a script was compared; or it is read whole and has a call that the library has not, of which the first has this
-- name
abbrev pub ShowsCalls : List ℕ → Calls → PartFinding → Type 0
ShowsCalls trace calls Absent = ⊥
ShowsCalls trace calls (LeftOut name) =
    (script : List ScriptCall) × IsScript script calls.script.now × (line : ℕ) × FirstMissing script line name.now
ShowsCalls trace calls (Compared differences) =
    ShowsPlayed trace calls differences.items ⊎ ShowsRefused calls differences.items

-- the same of a recording, which may have no script
abbrev pub ShowsScript : List ℕ → Option Calls → PartFinding → Type 0
ShowsScript trace None outcome = outcome ≡ Absent
ShowsScript trace (Some calls) outcome = ShowsCalls trace calls outcome

-- what is shown of the trace, where the digits of the recorded bytes can be read
abbrev pub WhereRead : Recording → (List ℕ → Type 0) → Type 0
WhereRead r shown = (trace : List ℕ) → decode_of r.bytes.now ≡ Ok trace → shown trace

-- the digits of the recorded bytes cannot be read
abbrev pub IsUnread : Recording → Type 0
IsUnread r = WhereRead r (λ trace. ⊥)

-- the same of the dump with resolved events, where its lines were recorded
abbrev pub ShowsResolved : List ℕ → Option Readings → PartFinding → Type 0
ShowsResolved trace None outcome = outcome ≡ Absent
ShowsResolved trace (Some readings) outcome = ShowsDump Events trace readings.resolved.now outcome

-- the lines of the borrowed reader's dump: those that were recorded as its own, or those of the dump where none were
abbrev pub borrowed_lines : Option (Bor (List ℕ)) → List ℕ → List ℕ
borrowed_lines None dump = dump
borrowed_lines (Some lines) dump = lines.now

-- the same of the dump of the borrowed reader
abbrev pub ShowsBorrowed : List ℕ → List ℕ → Option Readings → PartFinding → Type 0
ShowsBorrowed trace dump None outcome = outcome ≡ Absent
ShowsBorrowed trace dump (Some readings) outcome =
    ShowsDump (Frames Borrowed) trace (borrowed_lines readings.borrowed dump) outcome

-- no difference is told exactly where the recorded lines are what a sink is given of the trace
abbrev pub ShowsSinkLines : List ℕ → List ℕ → PartFinding → Type 0
ShowsSinkLines trace lines Absent = ⊥
ShowsSinkLines trace lines (LeftOut name) = ⊥
ShowsSinkLines trace lines (Compared differences) =
    (text : List ℕ) × IsSinkText trace text × ((differences.items ≡ []) ↔ (ended lines ≡ text))

-- the same, where its lines were recorded
abbrev pub ShowsSink : List ℕ → Option Readings → PartFinding → Type 0
ShowsSink trace None outcome = outcome ≡ Absent
ShowsSink trace (Some readings) outcome = ShowsSinkLines trace readings.sink.now outcome

-- Where no difference is told, the trace gives the same in pieces of each size as whole; where one is, not so in
-- pieces of some size.
abbrev pub ShowsPieces : List ℕ → PartFinding → Type 0
ShowsPieces trace Absent = ⊥
ShowsPieces trace (LeftOut name) = ⊥
ShowsPieces trace (Compared differences) =
    (differences.items ≡ [] → AllByRecursion (AreGivenAlike trace) piece_sizes)
    × (differences.items ≢ [] → (size : ℕ) × AreGivenApart trace size)

-- a difference is told
abbrev pub TellsOne : PartFinding → Type 0
TellsOne Absent = ⊥
TellsOne (LeftOut name) = ⊥
TellsOne (Compared differences) = differences.items ≢ []

-- nothing is compared, and a difference is told of the dump
pub record ShowsUnread (f : Findings) : Type 0 where
  pub script : f.script ≡ Absent
  pub dump : TellsOne f.dump
  pub borrowed : f.borrowed ≡ Absent
  pub resolved : f.resolved ≡ Absent
  pub sink : f.sink ≡ Absent
  pub pieces : f.pieces ≡ Absent
