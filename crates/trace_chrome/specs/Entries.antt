-- The entries of a trace in Chrome's format.
use Rattle.std.specs.Prelude.{◌≡◌, ℕ, zero, suc, List, [], ◌∷◌, ◌++◌, codes, OnOk, Result}
use Rattle.std.specs.List.{flat_map}
use Rattle.std.specs.Fmt.{decimal}
use Rattle.json.specs.Print.{print}
use Rattle.json.specs.Token as token
use Rattle.trace_json.specs.Lines.{json_text}
use Rattle.trace_chrome.specs.Times.{micros_text, time_text}
use Rattle.trace_chrome.specs.Frames.{Frame, frames_json}

-- a counter: the number of its track, and the names of its schema and its field
pub record Counter : Type 0 where
  pub track : ℕ
  pub schema : List ℕ
  pub field : List ℕ

-- what an entry tells of its event: the number of the frame of its stack, 0 where it has none, and its JSON
pub record Told : Type 0 where
  pub frame : ℕ
  pub json : List ℕ

-- an entry: the number of its track, its time, its name, and what is told of its event
pub data Entry : Type 0 where
  -- the track has a name
  names : ℕ → ℕ → List ℕ → Entry
  -- a slice begins
  begins : ℕ → ℕ → List ℕ → Told → Entry
  -- the innermost open slice ends
  ends : ℕ → ℕ → Told → Entry
  -- it ends, and no event says so
  is_cut : ℕ → ℕ → Entry
  -- a slice of so many nanoseconds
  takes : ℕ → ℕ → ℕ → List ℕ → Told → Entry
  -- something happens
  happens : ℕ → ℕ → List ℕ → Told → Entry
  -- at a time a counter shows a number
  counts : ℕ → Counter → List ℕ → Entry

-- a text in quotes
abbrev pub quoted : List ℕ → List ℕ
quoted s = print (token.string s ∷ [])

-- how an entry begins: its phase, its track and its time after a first one
abbrev pub start_text : List ℕ → ℕ → ℕ → ℕ → List ℕ
start_text phase track from at =
    codes ",\n{\"ph\":\"" ++ (phase ++ (codes "\",\"pid\":1,\"tid\":" ++ (decimal track ++ (codes ",\"ts\":"
    ++ time_text from at))))

-- its name
abbrev pub name_text : List ℕ → List ℕ
name_text name = codes ",\"name\":" ++ quoted name

-- the number of a frame, where there is one
abbrev pub frame_text : ℕ → List ℕ
frame_text zero = []
frame_text (suc n) = codes ",\"sf\":" ++ decimal (suc n)

-- what is told of its event, and the end
abbrev pub args_text : Told → List ℕ
args_text told = frame_text told.frame ++ (codes ",\"args\":" ++ (told.json ++ codes "}"))

-- what names a track
abbrev pub naming_text : List ℕ → List ℕ
naming_text name = codes ",\"name\":\"thread_name\",\"args\":{\"name\":" ++ (quoted name ++ codes "}}")

-- the name of a counter
abbrev pub count_name : Counter → List ℕ
count_name c = c.schema ++ (codes "." ++ c.field)

-- what parts it from those of its name on other tracks
abbrev pub count_id_text : ℕ → List ℕ
count_id_text track = codes ",\"id\":" ++ (decimal track ++ codes ",\"args\":{")

-- a name of a member
abbrev pub key_text : List ℕ → List ℕ
key_text name = quoted name ++ codes ":"

-- this, what it shows under the name of its field, and the end
abbrev pub count_args_text : Counter → List ℕ → List ℕ
count_args_text c shown = count_id_text c.track ++ (key_text c.field ++ (shown ++ codes "}}"))

-- the text of an entry, whose time is told after a first one
abbrev pub entry_text : ℕ → Entry → List ℕ
entry_text from (names track at name) = start_text (codes "M") track from at ++ naming_text name
entry_text from (begins track at name told) =
    start_text (codes "B") track from at ++ (name_text name ++ args_text told)
entry_text from (ends track at told) = start_text (codes "E") track from at ++ args_text told
entry_text from (is_cut track at) = start_text (codes "E") track from at ++ codes ",\"args\":{\"open\":true}}"
entry_text from (takes track at n name told) =
    start_text (codes "X") track from at
    ++ (codes ",\"dur\":" ++ (micros_text n ++ (name_text name ++ args_text told)))
entry_text from (happens track at name told) =
    start_text (codes "i") track from at ++ (name_text name ++ args_text told)
entry_text from (counts at c shown) =
    start_text (codes "C") c.track from at ++ (name_text (count_name c) ++ count_args_text c shown)

-- the texts of entries
abbrev pub entries_text : ℕ → List Entry → List ℕ
entries_text from es = flat_map (entry_text from) es

-- what stands before the entries: the first one, which names the whole
abbrev pub head_text : List ℕ → List ℕ
head_text name =
    codes "{\"traceEvents\":[\n{\"ph\":\"M\",\"pid\":1,\"name\":\"process_name\",\"args\":{\"name\":"
    ++ (quoted name ++ codes "}}")

-- the end of the list of entries, and the time of the first event
abbrev pub end_text : ℕ → List ℕ
end_text start =
    codes "\n],\"displayTimeUnit\":\"ns\",\"otherData\":{\"start_ns\":\"" ++ (decimal start ++ codes "\"}")

-- what stands after them: this, the JSON of frames, and a line feed
abbrev pub tail_text_by : ℕ → List ℕ → List ℕ
tail_text_by start frames = end_text start ++ (codes ",\"stackFrames\":" ++ (frames ++ codes "}\n"))

-- the same with the frames of stacks
abbrev pub tail_text : ℕ → List Frame → List ℕ
tail_text start frames = tail_text_by start (json_text (frames_json frames))

-- this text was appended; or a growth was refused
abbrev pub Appends : {A E : Type 0} → List ℕ → List ℕ → List ℕ → Result A E → Type 0
Appends text old new result = OnOk result (new ≡ old ++ text)
