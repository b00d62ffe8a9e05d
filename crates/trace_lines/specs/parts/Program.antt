-- For private contracts: what the program that dumps is asked for, and what it does.
use Rattle.std.specs.Prelude.{◌≡◌, ◌≢◌, ◌⊎◌, ℕ, Bool, true, false, ◌==◌, if◌then◌else◌, List, [], ◌∷◌, Option, Some}
use Rattle.std.specs.Prelude.{Result, Ok, Err, String, Vec, codes, string_bytes}
use Rattle.std.specs.IoError.{error_kind}
use Rattle.std.specs.declared.alloc.Global.{Global}
use Rattle.std.specs.declared.io.Error.{Error}
use Rattle.std.specs.declared.io.ErrorKind.TheVariants.{InvalidData}
use Rattle.trace_values.specs.Sending.{Account}
use Rattle.trace_lines.specs.Dumps.{failed_status, BeginsDump, PrintsUpToFault}
use Rattle.trace_lines.specs.declared.program.Task.{Task}
use Rattle.trace_lines.specs.declared.program.Task.TheVariants.{Dump, Resolve, Usage, Fail}

-- what the words after the program's name ask for: none for the dump, the one word `--resolve` for that of events,
-- resolved, and all else for the usage
abbrev pub WordsAskFor : List (String Global) → Task → Type 0
WordsAskFor words Dump = words ≡ []
WordsAskFor words Resolve = (word : String Global) × (words ≡ word ∷ []) × (string_bytes word ≡ codes "--resolve")
WordsAskFor words Usage =
    (words ≢ []) × ((word : String Global) → words ≡ word ∷ [] → string_bytes word ≢ codes "--resolve")
WordsAskFor words Fail = ⊥

-- the same where they may not be had: a word that is not UTF-8 asks for the usage
abbrev pub AsksFor : Result (Vec (String Global) Global) Error → Task → Type 0
AsksFor (Ok words) task = WordsAskFor words.items task
AsksFor (Err error) Usage = error_kind error ≡ InvalidData
AsksFor (Err error) Fail = error_kind error ≢ InvalidData
AsksFor (Err error) task = ⊥

-- whether events are to be resolved
abbrev pub resolves : Task → Bool
resolves Resolve = true
resolves task = false

-- nothing was written, or a front of the dump of all that the reader has left, where it tells that; and then one
-- fault came, or none
abbrev pub DumpsFront : Bool → Option (List ℕ) → Account → Account → Type 0
DumpsFront resolve remaining old new = (bytes : List ℕ) → remaining ≡ Some bytes →
    PrintsUpToFault (λ written. (written ≡ []) ⊎ BeginsDump resolve bytes written) old new

-- what is told beside the dump: how to call the program, that it failed, or nothing
abbrev pub message_for : Task → ℕ → List ℕ
message_for Usage status = codes "usage: tracedump [--resolve]\n"
message_for Resolve status = if status == failed_status then codes "tracedump: failed\n" else []
message_for Dump status = if status == failed_status then codes "tracedump: failed\n" else []
message_for Fail status = if status == failed_status then codes "tracedump: failed\n" else []
