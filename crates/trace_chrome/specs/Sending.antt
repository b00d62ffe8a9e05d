-- What is sent of a trace, as its events come.
use Rattle.std.specs.Prelude.{◌≡◌, ◌<◌, ⊤, ℕ, List, [], ◌∷◌, ◌++◌, Option, None, Some, length, map, max}
use Rattle.std.specs.List.{All, AllByRecursion}
use Rattle.json.specs.Json.{Json}
use Rattle.dial9_trace_format.specs.ShownEvents.{ShownEvent}
use Rattle.trace_values.specs.Sending.{Account, TookOnly}
use Rattle.trace_values.specs.Encoding.{SendFails}
use Rattle.trace_json.specs.EventJson.{IsEventJson}
use Rattle.trace_json.specs.Laws.{IsOfRun}
use Rattle.trace_json.specs.Lines.{IsLineOf, line_feed}
use Rattle.trace_chrome.specs.Counters.{Sum, AreCounts, sums_of}
use Rattle.trace_chrome.specs.Entries.{Entry, head_text, entries_text, tail_text}
use Rattle.trace_chrome.specs.Frames.{Frame}
use Rattle.trace_chrome.specs.Labels.{end_time}
use Rattle.trace_chrome.specs.Laws.{TakenEvent, entries_over, tracks_over}
use Rattle.trace_chrome.specs.Slices.{closings}
use Rattle.trace_chrome.specs.Steps.{Takes, first_by, frame_of, frames_after, track_number, tracks_after}
use Rattle.trace_chrome.specs.Tracks.{Track}
use Rattle.trace_chrome.specs.Trees.{IsSmall, IsEntryOf, ReadsBackAs, whole_json}
use Rattle.trace_chrome.specs.declared.trace.ChromeTrace.{ChromeTrace}
use Rattle.trace_chrome.specs.declared.sending.ChromeText.{ChromeText}
use Rattle.trace_chrome.specs.declared.sending.ChromeError.{ChromeError}
use Rattle.trace_chrome.specs.declared.sending.ChromeError.TheVariants.{OutOfMemory, Writer}

-- no event was taken
pub record IsNewTrace (trace : ChromeTrace) : Type 0 where
  pub start : trace.start ≡ None
  pub last : trace.last ≡ 0
  pub tracks : trace.tracks.items ≡ []
  pub frames : trace.frames.all.keys ≡ []
  pub sums : trace.sums.items ≡ []

-- a text begins with its head, which is held
pub record BeginsText (name : List ℕ) (text : ChromeText) : Type 0 where
  pub trace : IsNewTrace text.trace
  pub held : text.held.items ≡ head_text name

-- of these bytes all were sent but the last ones, which are held
pub record SendsFront (before after : Account) (bytes held : List ℕ) : Type 0 where
  pub sent : List ℕ
  pub took : TookOnly before after sent []
  pub all : bytes ≡ sent ++ held

-- an event was taken, and of what was held and its entries a front was sent
pub record SendsEvent (e : ShownEvent) (old new : ChromeText) (before after : Account) : Type 0 where
  pub bytes : List ℕ
  pub takes : Takes e old.trace new.trace old.held.items bytes
  pub sends : SendsFront before after bytes new.held.items

-- so many bytes of entries are sent at once
abbrev pub enough : ℕ
enough = 65536

-- less is held than is sent at once
abbrev pub HoldsLittle : ChromeText → Type 0
HoldsLittle text = length text.held.items < enough

-- what was held was sent
pub record SendsHeld (old new : ChromeText) (before after : Account) : Type 0 where
  pub trace : new.trace ≡ old.trace
  pub held : new.held.items ≡ []
  pub took : TookOnly before after old.held.items []

-- as many tracks and frames as 64 bits can number
pub record IsNumbered (trace : ChromeTrace) : Type 0 where
  pub tracks : IsSmall (length trace.tracks.items)
  pub frames : IsSmall (length trace.frames.all.keys)

-- what stands after the entries of the events: the ends of the slices that are open, and the tail
abbrev pub ending_text : ChromeTrace → List ℕ
ending_text trace =
    let from = first_by trace.start 0 in
    entries_text from (closings trace.last trace.tracks.items) ++ tail_text from trace.frames.all.keys

-- ---- refusals

-- What is held was not sent: the writer failed once, after a front of it and not all.
abbrev pub HeldFails : {W : Type 0} → (W → Account) → ChromeText → W → W → ChromeError → Type 0
HeldFails told text old new OutOfMemory = ⊥
HeldFails told text old new (Writer kind) = SendFails (told old) (told new) text.held.items kind

-- An event was not sent. A growth was refused, and the writer is as it was. Or the event was taken, and the writer
-- failed once, after a front of what was held and its entries, and not all.
abbrev pub EventFails : {W : Type 0} → (W → Account) → ShownEvent → ChromeText → W → W → ChromeError → Type 0
EventFails told e text old new OutOfMemory = new ≡ old
EventFails told e text old new (Writer kind) =
    (trace : ChromeTrace) × (bytes : List ℕ) × Takes e text.trace trace text.held.items bytes
    × SendFails (told old) (told new) bytes kind

-- The end was not sent. A growth was refused, and the writer is as it was. Or the writer failed once, after a front of
-- what was held and what stands after the entries, and not all.
abbrev pub EndFails : {W : Type 0} → (W → Account) → ChromeText → W → W → ChromeError → Type 0
EndFails told text old new OutOfMemory = new ≡ old
EndFails told text old new (Writer kind) =
    SendFails (told old) (told new) (text.held.items ++ ending_text text.trace) kind

-- ---- a whole run

-- one step: an event is taken, or what is held is sent
abbrev pub SendsStep : Option ShownEvent → ChromeText → ChromeText → Account → Account → Type 0
SendsStep (Some e) old new before after = SendsEvent e old new before after
SendsStep None old new before after = SendsHeld old new before after

-- steps, one after another
abbrev pub SendsAll : List (Option ShownEvent) → ChromeText → ChromeText → Account → Account → Type 0
SendsAll [] old new before after = (new ≡ old) × (after ≡ before)
SendsAll (step ∷ steps) old new before after =
    (mid : ChromeText) × (between : Account)
    × SendsStep step old mid before between × SendsAll steps mid new between after

-- the events of steps
abbrev pub events_taken : List (Option ShownEvent) → List ShownEvent
events_taken [] = []
events_taken (Some e ∷ steps) = e ∷ events_taken steps
events_taken (None ∷ steps) = events_taken steps

-- the time of the first of events, 0 where there is none
abbrev pub first_time : List ShownEvent → ℕ
first_time [] = 0
first_time (e ∷ es) = e.time

-- the greatest of a time and of those when events end
abbrev pub last_time : ℕ → List ShownEvent → ℕ
last_time n [] = n
last_time n (e ∷ es) = last_time (max n (end_time e)) es

-- the frames after events
abbrev pub frames_over : List ShownEvent → List Frame → List Frame
frames_over [] fs = fs
frames_over (e ∷ es) fs = frames_over es (frames_after e fs)

-- Events were taken, the first of them after such tracks, frames and sums. What is told of each is its JSON, as it
-- stands in its line, and the number of the frame of its stack. Its counters show the sums of all events so far.
abbrev pub AreTaken : List TakenEvent → List Track → List Frame → List Sum → Type 0
AreTaken [] ts fs sums = ⊤
AreTaken (x ∷ xs) ts fs sums =
    IsLineOf (IsEventJson x.event) (x.told.json ++ line_feed ∷ []) × (x.told.frame ≡ frame_of x.event fs)
    × AreCounts x.event (track_number x.event ts) x.event.time sums x.counts
    × AreTaken xs (tracks_after x.event ts) (frames_after x.event fs)
    (sums_of x.event (track_number x.event ts) sums)

-- the entries of events, and the ends of the slices that are open after them
abbrev pub all_entries : List TakenEvent → List Entry
all_entries xs = entries_over xs [] ++ closings (last_time 0 (map (λ x. x.event) xs)) (tracks_over xs [])

-- the text of events, from the head to the tail
abbrev pub whole_text : List ℕ → List TakenEvent → List ℕ
whole_text name xs =
    let es = map (λ x. x.event) xs in
    let from = first_time es in
    head_text name ++ (entries_text from (all_entries xs) ++ tail_text from (frames_over es []))

-- The text of these events was sent, and nothing else.
pub record SendsText (name : List ℕ) (es : List ShownEvent) (before after : Account) : Type 0 where
  pub taken : List TakenEvent
  pub events : map (λ x. x.event) taken ≡ es
  pub told : AreTaken taken [] [] []
  pub sent : TookOnly before after (whole_text name taken) []

-- From its beginning over any steps to its end a text is sent whole, with each event once and in its place.
abbrev pub TextIsSent : Type 0
TextIsSent =
    (name : List ℕ) (steps : List (Option ShownEvent)) (first last : ChromeText) (before between after : Account) →
    BeginsText name first → SendsAll steps first last before between →
    TookOnly between after (last.held.items ++ ending_text last.trace) [] →
    SendsText name (events_taken steps) before after

-- The text of events is read back as the JSON of all entries, each with the JSON of its event.
pub record TextIsReadBack (name : List ℕ) (xs : List TakenEvent) : Type 0 where
  pub entries : List (Entry × Json)
  pub are : map (λ p. p.0) entries ≡ all_entries xs
  pub events : AllByRecursion (λ p. IsEntryOf p.0 p.1) entries
  pub reads_back : ReadsBackAs (whole_text name xs)
      (whole_json name (first_time (map (λ x. x.event) xs)) entries (frames_over (map (λ x. x.event) xs) []))

-- Where the events are of runs, the text that is sent is read back so.
abbrev pub SentReadsBack : Type 0
SentReadsBack =
    (name : List ℕ) (steps : List (Option ShownEvent)) (first last : ChromeText) (before between after : Account) →
    BeginsText name first → SendsAll steps first last before between →
    TookOnly between after (last.held.items ++ ending_text last.trace) [] → IsNumbered last.trace →
    All IsOfRun (events_taken steps) →
    (sent : SendsText name (events_taken steps) before after) × TextIsReadBack name sent.taken
