-- The JSON that the text of a trace is.
use Rattle.std.specs.Prelude.{◌≡◌, ◌<◌, ◌≤◌, ◌^◌, ℕ, zero, suc, List, [], ◌∷◌, ◌++◌, true, codes, map as list_map}
use Rattle.std.specs.Prelude.{Some}
use Rattle.std.specs.Fmt.{decimal}
use Rattle.std.specs.List.{AllByRecursion}
use Rattle.json.specs.Json.{Json, boolean, number, string, document, max_depth}
use Rattle.json.specs.Print.{IsNumber}
use Rattle.json.specs.Tree.{depth}
use Rattle.trace_json.specs.EventJson.{list_json, object_json}
use Rattle.trace_json.specs.Lines.{json_text, line_feed}
use Rattle.trace_chrome.specs.Times.{micros_text, time_text}
use Rattle.trace_chrome.specs.Frames.{Frame, frames_json}
use Rattle.trace_chrome.specs.Entries.{Told, Entry, names, begins, ends, is_cut, takes, happens, counts, count_name}
use Rattle.trace_chrome.specs.Entries.{entries_text, head_text, tail_text}

-- members of an object: each a name and a value
abbrev pub Members : Type 0
Members = List (List ℕ × Json)

-- the members with which an entry begins
abbrev pub start_members : List ℕ → ℕ → ℕ → ℕ → Members → Members
start_members phase track from at more =
    (codes "ph", string phase) ∷ (codes "pid", number (codes "1")) ∷ (codes "tid", number (decimal track))
    ∷ (codes "ts", number (time_text from at)) ∷ more

-- the number of a frame, where there is one
abbrev pub stack_members : ℕ → Members → Members
stack_members zero more = more
stack_members (suc n) more = (codes "sf", number (decimal (suc n))) ∷ more

-- what is told of an event that is this JSON
abbrev pub told_members : Told → Json → Members
told_members told event = stack_members told.frame ((codes "args", event) ∷ [])

-- a name alone
abbrev pub name_json : List ℕ → Json
name_json name = object_json ((codes "name", string name) ∷ [])

-- the members of an entry, whose event is this JSON where it has one
abbrev pub entry_members : ℕ → Entry → Json → Members
entry_members from (names track at name) event =
    start_members (codes "M") track from at
    ((codes "name", string (codes "thread_name")) ∷ (codes "args", name_json name) ∷ [])
entry_members from (begins track at name told) event =
    start_members (codes "B") track from at ((codes "name", string name) ∷ told_members told event)
entry_members from (ends track at told) event = start_members (codes "E") track from at (told_members told event)
entry_members from (is_cut track at) event =
    start_members (codes "E") track from at
    ((codes "args", object_json ((codes "open", boolean true) ∷ [])) ∷ [])
entry_members from (takes track at n name told) event =
    start_members (codes "X") track from at
    ((codes "dur", number (micros_text n)) ∷ (codes "name", string name) ∷ told_members told event)
entry_members from (happens track at name told) event =
    start_members (codes "i") track from at ((codes "name", string name) ∷ told_members told event)
entry_members from (counts at c shown) event =
    start_members (codes "C") c.track from at
    ((codes "name", string (count_name c)) ∷ (codes "id", number (decimal c.track))
    ∷ (codes "args", object_json ((c.field, number shown) ∷ [])) ∷ [])

-- the JSON of an entry and that of its event
abbrev pub entry_json : ℕ → Entry × Json → Json
entry_json from p = object_json (entry_members from p.0 p.1)

-- the first entry, which names the whole
abbrev pub head_members : List ℕ → Members
head_members name =
    (codes "ph", string (codes "M")) ∷ (codes "pid", number (codes "1"))
    ∷ (codes "name", string (codes "process_name")) ∷ (codes "args", name_json name) ∷ []

abbrev pub head_json : List ℕ → Json
head_json name = object_json (head_members name)

-- the whole: its entries, and what stands after them
abbrev pub whole_json : List ℕ → ℕ → List (Entry × Json) → List Frame → Json
whole_json name from es frames =
    object_json ((codes "traceEvents", list_json (head_json name ∷ list_map (entry_json from) es))
    ∷ (codes "displayTimeUnit", string (codes "ns"))
    ∷ (codes "otherData", object_json ((codes "start_ns", string (decimal from)) ∷ []))
    ∷ (codes "stackFrames", frames_json frames) ∷ [])

-- ---- what is read back

-- a number of 64 bits
abbrev pub IsSmall : ℕ → Type 0
IsSmall n = n < 2 ^ 64

-- what is told of an event is the text of this JSON, which is read back as that
pub record IsTold (told : Told) (event : Json) : Type 0 where
  pub small : IsSmall told.frame
  pub text : told.json ≡ json_text event
  pub reads_back : document told.json ≡ Some event

-- the numbers of an entry are of 64 bits, and its event, where it has one, is this JSON
abbrev pub IsEntryOf : Entry → Json → Type 0
IsEntryOf (names track at name) event = IsSmall track × IsSmall at
IsEntryOf (begins track at name told) event = IsSmall track × IsSmall at × IsTold told event
IsEntryOf (ends track at told) event = IsSmall track × IsSmall at × IsTold told event
IsEntryOf (is_cut track at) event = IsSmall track × IsSmall at
IsEntryOf (takes track at n name told) event = IsSmall track × IsSmall at × IsSmall n × IsTold told event
IsEntryOf (happens track at name told) event = IsSmall track × IsSmall at × IsTold told event
IsEntryOf (counts at c shown) event = IsSmall c.track × IsSmall at × IsNumber shown

-- bytes are a text that is read back as this JSON, and a line feed
abbrev pub ReadsBackAs : List ℕ → Json → Type 0
ReadsBackAs bytes j = (text : List ℕ) × (bytes ≡ text ++ line_feed ∷ []) × (document text ≡ Some j)

-- The text from the head over entries to the tail is read back as the JSON of these, where it nests no deeper than
-- readers go.
abbrev pub TextReadsBack : Type 0
TextReadsBack =
    (name : List ℕ) (from : ℕ) (es : List (Entry × Json)) (frames : List Frame) → IsSmall from →
    AllByRecursion (λ p. IsEntryOf p.0 p.1) es → AllByRecursion (λ f. IsSmall f.0) frames →
    depth (whole_json name from es frames) ≤ max_depth →
    ReadsBackAs (head_text name ++ (entries_text from (list_map (λ p. p.0) es) ++ tail_text from frames))
    (whole_json name from es frames)
