-- What the program that replays is asked for, and what it answers.
use Rattle.std.specs.Prelude.{◌≡◌, ◌≢◌, ◌≤◌, ◌↔◌, ℕ, Bool, if◌then◌else◌, List, [], ◌∷◌, Result, Ok, Err, String}
use Rattle.std.specs.Prelude.{codes, string_bytes}
use Rattle.std.specs.declared.alloc.Global.{Global}
use Rattle.trace_recordings.specs.declared.player.Played.{Played}
use Rattle.trace_recordings.specs.declared.player.PlayError.{PlayError}
use Rattle.trace_recordings.specs.declared.program.Answer.{Answer}
use Rattle.trace_recordings.specs.declared.program.ReplayTask.{ReplayTask}
use Rattle.trace_recordings.specs.declared.program.ReplayTask.TheVariants.{ReplaySets, PlayInput, Usage}
use Rattle.trace_recordings.specs.Playing.{IsOfScript}

-- no word asks for the sets, the one word `-` for a script from standard input, and all else for the usage
abbrev pub AsksToReplay : List (String Global) → ReplayTask → Type 0
AsksToReplay words ReplaySets = words ≡ []
AsksToReplay words PlayInput = (word : String Global) × (words ≡ word ∷ []) × (string_bytes word ≡ codes "-")
AsksToReplay words Usage = (words ≢ []) × ((word : String Global) → words ≡ word ∷ [] → string_bytes word ≢ codes "-")

-- once a set differs, the status says so
abbrev pub status_with : ℕ → Bool → ℕ
status_with status differs = if differs then 1 else status

-- a script that was played ends with status 0, its trace and its replies; one that was not has no trace, and ends
-- with status 2 where the error is the script's, and with 1 where it is not
abbrev pub Answers : Result Played PlayError → Answer → Type 0
Answers (Ok played) answer =
    (answer.status ≡ 0) × (answer.output.items ≡ played.bytes.items)
    × (string_bytes answer.error_output ≡ string_bytes played.replies)
Answers (Err error) answer =
    (answer.output.items ≡ []) × ((answer.status ≡ 2) ↔ IsOfScript error)
    × ((answer.status ≡ 1) ↔ (IsOfScript error → ⊥))
    × (answer.status ≤ 2)
