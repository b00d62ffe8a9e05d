-- What the words of a call ask for.
use Rattle.std.specs.Prelude.{◌≡◌, ◌≢◌, ◌⊎◌, ◌<◌, ◌^◌, ℕ, IsSome, Bool, true, false, List, [], Option, Some, None}
use Rattle.std.specs.Prelude.{option_map, unwrap_or, map, codes, IsSomeAnd, Any}
use Rattle.std.specs.Str.Parse.{IsNumeral, digits_value, without_leading_plus}
use Rattle.clap.specs.Words.{found_of, first_value}
use Rattle.clap.specs.Matches.{one_text, matched_of, raw_values}
use Rattle.clap.specs.declared.parser.matches.ArgMatches.{ArgMatches}
use Rattle.clap.specs.declared.error.kind.ErrorKind.{ErrorKind}
use Rattle.clap.specs.declared.error.kind.ErrorKind.TheVariants.{DisplayHelp, DisplayVersion, OutOfMemory}
use Rattle.gotymbe_words.specs.declared.asked.Asked.{Asked}
use Rattle.gotymbe_words.specs.declared.asked.Form.{Form}
use Rattle.gotymbe_words.specs.declared.asked.Form.TheVariants as forms
use Rattle.gotymbe_words.specs.declared.asked.Task.{Task}
use Rattle.gotymbe_words.specs.declared.asked.Task.TheVariants.{Check, Dump, Json, Csv, Salvage, Join, Stats}
use Rattle.gotymbe_words.specs.declared.asked.Task.TheVariants.{Fold, Cut, Follow, Page, Chrome}

-- the name of each task
abbrev pub task_name : Task → List ℕ
task_name Check = codes "check"
task_name Dump = codes "dump"
task_name Json = codes "json"
task_name Csv = codes "csv"
task_name Salvage = codes "salvage"
task_name Join = codes "join"
task_name Stats = codes "stats"
task_name Fold = codes "fold"
task_name Cut = codes "cut"
task_name Follow = codes "follow"
task_name Page = codes "page"
task_name Chrome = codes "chrome"

-- the task of this name, or none has it
abbrev pub IsTaskNamed : List ℕ → Option Task → Type 0
IsTaskNamed name (Some task) = task_name task ≡ name
IsTaskNamed name None = (task : Task) → task_name task ≢ name

-- all values of an id, as text
abbrev pub values_of : ArgMatches → List ℕ → List (List ℕ)
values_of given id = unwrap_or (option_map raw_values (matched_of (found_of given) id)) []

-- whether a flag was used
abbrev pub IsFlag : ArgMatches → List ℕ → Bool → Type 0
IsFlag given id flag = (one_text (found_of given) id ≡ Some (codes "true") → flag ≡ true)
    × (one_text (found_of given) id ≡ Some (codes "false") → flag ≡ false)
    × (one_text (found_of given) id ≡ None → flag ≡ false)

-- the decimal number that is given, if one is
pub record IsNumberOf (given : ArgMatches) (id : List ℕ) (number : Option ℕ) : Type 0 where
  pub none : one_text (found_of given) id ≡ None → number ≡ None
  pub some : (t : List ℕ) → one_text (found_of given) id ≡ Some t → IsNumeral 10 (without_leading_plus t)
      → digits_value 10 (without_leading_plus t) < 2 ^ 64 → number ≡ Some (digits_value 10 (without_leading_plus t))

-- the status of each reason why no matches are there
abbrev pub status_by : ErrorKind → ℕ
status_by DisplayHelp = 0
status_by DisplayVersion = 0
status_by OutOfMemory = 4
status_by kind = 64

-- what a call asks for, by the ids of what was given
pub record IsAsked (task : Task) (given : ArgMatches) (asked : Asked) : Type 0 where
  pub task_is : asked.task ≡ task
  pub files : map (λ s. s.now) asked.files.items ≡ values_of given (codes "file")
  pub events : map (λ s. s.now) asked.events.items ≡ values_of given (codes "event")
  pub output : option_map (λ s. s.now) asked.output ≡ first_value (found_of given) (codes "output")
  pub force : IsFlag given (codes "force") asked.force
  pub from : option_map (λ s. s.now) asked.from ≡ first_value (found_of given) (codes "from")
  pub to : option_map (λ s. s.now) asked.to ≡ first_value (found_of given) (codes "to")
  pub limit : IsNumberOf given (codes "limit") asked.limit
  pub field : option_map (λ s. s.now) asked.field ≡ first_value (found_of given) (codes "field")
  pub resolve : IsFlag given (codes "resolve") asked.resolve
  pub merge : IsFlag given (codes "merge") asked.merge
  pub resync : IsFlag given (codes "resync") asked.resync
  pub idle : IsNumberOf given (codes "idle") asked.idle
  pub quiet : IsFlag given (codes "quiet") asked.quiet
  pub title : option_map (λ s. s.now) asked.title ≡ first_value (found_of given) (codes "title")

-- the name of what is written is empty, or that of a file that is read
abbrev pub HasEmptyName : Asked → Type 0
HasEmptyName asked = IsSomeAnd asked.output (λ s. s.now ≡ []) ⊎ Any (λ s. s.now ≡ []) asked.files.items

-- a time, a name or a number of events is said
abbrev pub Selects : Asked → Type 0
Selects asked = IsSome asked.from ⊎ (IsSome asked.to ⊎ (IsSome asked.limit ⊎ (asked.events.items ≢ [])))

-- The form of the lines of a file: JSON where that is asked for. Of a dump they are those of its frames, unless some
-- events alone are asked for or all are resolved.
pub record HasForm (asked : Asked) (form : Option Form) : Type 0 where
  pub json : asked.task ≡ Json → form ≡ Some forms.Json
  pub selected : asked.task ≢ Json → Selects asked → form ≡ Some forms.Resolved
  pub resolved : asked.task ≢ Json → ¬ Selects asked → asked.resolve ≡ true → form ≡ Some forms.Dump
  pub frames : asked.task ≢ Json → ¬ Selects asked → asked.resolve ≡ false → form ≡ None

-- the form of the lines of the events of several files in one order
abbrev pub merged_form : Task → Form
merged_form Json = forms.Json
merged_form task = forms.Resolved
