-- How recordings stand in a file.
use Rattle.std.specs.Prelude.{◌≡◌, ◌≢◌, ℕ, List, [], ◌++◌, Option, Some, None, codes}
use Rattle.std.specs.Borrow.{Bor}
use Rattle.std.specs.List.{AllByRecursion, flat_map}
use Rattle.trace_recordings.specs.declared.recording.Recording.{Recording}
use Rattle.trace_recordings.specs.declared.recording.Calls.{Calls}
use Rattle.trace_recordings.specs.declared.recording.Readings.{Readings}
use Rattle.trace_recordings.specs.Scripts.{lines_of}

-- the script, the bytes and the replies
abbrev pub calls_text : Calls → List ℕ → List ℕ
calls_text calls bytes = calls.script.now ++ codes "\n# bytes\n" ++ bytes ++ codes "\n# replies\n"
    ++ calls.replies.now

-- the lines of a recording between its name and its dump
abbrev pub making_text : Option Calls → List ℕ → List ℕ
making_text None bytes = codes "\n# bytes\n" ++ bytes
making_text (Some calls) bytes = codes "\n# script\n" ++ calls_text calls bytes

-- the lines of the borrowed reader, where they are others
abbrev pub borrowed_text : Option (Bor (List ℕ)) → List ℕ
borrowed_text None = []
borrowed_text (Some lines) = codes "\n# borrowed\n" ++ lines.now

-- the lines of the other readings
abbrev pub readings_text : Option Readings → List ℕ
readings_text None = []
readings_text (Some r) =
    borrowed_text r.borrowed ++ (codes "\n# resolve\n" ++ (r.resolved.now ++ (codes "\n# sink\n" ++ r.sink.now)))

-- the lines of a recording up to the one that ends it
unfoldable pub recording_lines : Recording → List ℕ
recording_lines r =
    codes "== " ++ r.name.now ++ making_text r.calls r.bytes.now ++ codes "\n# dump\n" ++ r.dump.now ++ readings_text
    r.readings

-- a recording
abbrev pub recording_text : Recording → List ℕ
recording_text r = recording_lines r ++ codes "\n# end\n"

-- no line of the text is empty
abbrev pub HasNoEmptyLine : List ℕ → Type 0
HasNoEmptyLine text = AllByRecursion (λ line. line ≢ []) (lines_of text)

-- a file has these recordings, after its head, which ends with the first empty line
abbrev pub IsFile : List Recording → List ℕ → Type 0
IsFile recordings file =
    (head : List ℕ) × HasNoEmptyLine head × (file ≡ head ++ (codes "\n\n" ++ flat_map recording_text recordings))
