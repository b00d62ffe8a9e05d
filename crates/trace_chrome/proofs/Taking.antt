-- An event that was taken, by its parts.
use Rattle.std.proofs.Common.{◌≡◌, ℕ, List, [], ◌∷◌, ◌++◌, replicate, Some, max, Result, Ok, Err, OnOk}
use Rattle.std.proofs.Common.{sym, ap, ◌∙◌, append_assoc, append-nil}
use Rattle.std.specs.List.{flat_map}
use Rattle.std.proofs.lemmas.Grind.{flat_map-append}
use Rattle.dial9_trace_format.specs.ShownEvents.{ShownEvent}
use Rattle.trace_json.specs.EventJson.{IsEventJson}
use Rattle.trace_json.specs.Lines.{IsLineOf, line_feed}
use Rattle.trace_chrome.specs.Counters.{sums_of}
use Rattle.trace_chrome.specs.Labels.{what_of, track_name, event_name, end_time}
use Rattle.trace_chrome.specs.Slices.{What, begins, takes}
use Rattle.trace_chrome.specs.Tracks.{Track, with_track, track_at}
use Rattle.trace_chrome.specs.Entries.{Entry, entry_text, entries_text}
use Rattle.trace_chrome.specs.Entries as entries
use Rattle.trace_chrome.specs.Slices.{naming, own_by, tracks_by}
use Rattle.trace_chrome.specs.Steps.{track_number, frame_of, frames_after, first_by, Takes}
use Rattle.trace_chrome.specs.parts.Counts.{CountsAll}
use Rattle.trace_chrome.specs.declared.trace.ChromeTrace.{ChromeTrace}

-- texts of entries, one after another
pub entries_appended :
    (from : ℕ) (es fs : List Entry) (before : List ℕ) {mid : List ℕ} (after : List ℕ) →
    mid ≡ before ++ entries_text from es → after ≡ mid ++ entries_text from fs →
    after ≡ before ++ entries_text from (es ++ fs)
entries_appended from es fs before after first e =
    let f = entry_text from in
    e ∙ ap (λ (x : List ℕ). x ++ flat_map f fs) first ∙ append_assoc before (flat_map f es) (flat_map f fs)
    ∙ ap (λ (x : List ℕ). before ++ x) (sym (flat_map-append f es fs))

-- what was made of the tracks and of the bytes so that the event's own track stands there
pub record Placed (e : ShownEvent) (from : ℕ) (old ts : List Track) (before mid : List ℕ) : Type 0 where
  pub tracks : ts ≡ with_track (track_name e) old
  pub text : mid ≡ before ++ entries_text from (naming (track_name e) e.time old)

-- the JSON of an event, the number of the frame of its stack and the frames, and the times
pub record Known (e : ShownEvent) (old new : ChromeTrace) (told : entries.Told) : Type 0 where
  pub json_is : IsLineOf (IsEventJson e) (told.json ++ line_feed ∷ [])
  pub frame : told.frame ≡ frame_of e old.frames.all.keys
  pub frames : new.frames.all.keys ≡ frames_after e old.frames.all.keys
  pub start : new.start ≡ Some (first_by old.start e.time)
  pub last : new.last ≡ max old.last (end_time e)

-- its own entries were appended, and the tracks are what they are after it
pub record Own
    (e : ShownEvent) (from k : ℕ) (ts new : List Track) (told : entries.Told) (mid after : List ℕ)
    : Type 0 where
  pub tracks : new ≡ tracks_by (what_of e) k ts
  pub text : after ≡ mid ++ entries_text from (own_by (what_of e) k (track_at ts k) e.time (event_name e) told)

abbrev told_as : ℕ → List ℕ → entries.Told
told_as frame json = record { frame = frame; json = json }

-- an event was taken where its track was found, its own entries and those of its counters appended
pub event_taken :
    {E : Type 0} (r : Result (Unit {0}) E) {e : ShownEvent} {old new : ChromeTrace} (before after : List ℕ)
    {mid own : List ℕ} {told : entries.Told} {ts : List Track} →
    Known e old new told → Placed e (first_by old.start e.time) old.tracks.items ts before mid →
    Own e (first_by old.start e.time) (track_number e old.tracks.items) ts new.tracks.items told mid own →
    OnOk r (new.sums.items ≡ sums_of e (track_number e old.tracks.items) old.sums.items) →
    OnOk r (CountsAll e (track_number e old.tracks.items) e.time (first_by old.start e.time) old.sums.items own after) →
    OnOk r (Takes e old new before after)
event_taken (Ok u) {e} {old} {new} before after {mid} {own} {told} {ts} t p o sums counts =
    let k = track_number e old.tracks.items in
    let from = first_by old.start e.time in
    let seen = told_as (frame_of e old.frames.all.keys) told.json in
    let named = naming (track_name e) e.time old.tracks.items in
    let owns = λ (x : List Track) (y : entries.Told). own_by (what_of e) k (track_at x k) e.time (event_name e) y in
    let placed = with_track (track_name e) old.tracks.items in
    let own_text : own ≡ mid ++ entries_text from (owns placed seen) =
    o.text ∙ ap (λ (x : List Track). mid ++ entries_text from (owns x told)) p.tracks
    ∙ ap (λ (n : ℕ). mid ++ entries_text from (owns placed (told_as n told.json))) t.frame in
    record {
      json = told.json;
      json_is = t.json_is;
      counts = counts.entries;
      counts_are = counts.are_so;
      start = t.start;
      last = t.last;
      tracks = o.tracks ∙ ap (tracks_by (what_of e) k) p.tracks;
      frames = t.frames;
      sums = sums;
      text = entries_appended from (named ++ owns placed seen) counts.entries before after
          (entries_appended from named (owns placed seen) before own p.text own_text) counts.text;
    }
event_taken (Err x) before after t p o sums counts = tt

-- the text of one entry
one_entry :
    (from : ℕ) (x : Entry) (old : List ℕ) {new : List ℕ} → new ≡ old ++ entry_text from x →
    new ≡ old ++ entries_text from (x ∷ [])
one_entry from x old e = e ∙ ap (λ (t : List ℕ). old ++ t) (sym (append-nil (entry_text from x)))

-- the entries of an end that ends others inside it
pub end_after :
    {E : Type 0} (r : Result (Unit {0}) E) (from n : ℕ) (x y : Entry) {es : List Entry} (old : List ℕ) {mid : List ℕ}
    (new : List ℕ) → replicate n x ++ y ∷ [] ≡ es → mid ≡ old ++ entries_text from (replicate n x) →
    OnOk r (new ≡ mid ++ entry_text from y) → OnOk r (new ≡ old ++ entries_text from es)
end_after (Ok u) from n x y {es} old {mid} new is first e =
    entries_appended from (replicate n x) (y ∷ []) old new first (one_entry from y mid e)
    ∙ ap (λ (l : List Entry). old ++ entries_text from l) is
end_after (Err z) from n x y old new is first e = tt

-- the entry of an event on its track, by what the event is
pub own_entry :
    {E : Type 0} (r : Result (Unit {0}) E) (from : ℕ) (x : Entry) (es : List Entry) (old new : List ℕ) →
    x ∷ [] ≡ es → OnOk r (new ≡ old ++ entry_text from x) → OnOk r (new ≡ old ++ entries_text from es)
own_entry (Ok u) from x es old new is e =
    one_entry from x old e ∙ ap (λ (l : List Entry). old ++ entries_text from l) is
own_entry (Err y) from x es old new is e = tt

-- that of a slice that begins
pub begun_entry :
    {w : What} {name text : List ℕ} (group : List ℕ) (k : ℕ) (t : Track) (at : ℕ) (told : entries.Told) →
    begins group ≡ w → text ≡ name → entries.begins k at text told ∷ [] ≡ own_by w k t at name told
begun_entry {w} {name} group k t at told is same =
    ap (λ (x : List ℕ). entries.begins k at x told ∷ []) same ∙ ap (λ (x : What). own_by x k t at name told) is

-- that of a slice with a length
pub long_entry :
    {w : What} {name text : List ℕ} (n k : ℕ) (t : Track) (at : ℕ) (told : entries.Told) → takes n ≡ w →
    text ≡ name → entries.takes k at n text told ∷ [] ≡ own_by w k t at name told
long_entry {w} {name} n k t at told is same =
    ap (λ (x : List ℕ). entries.takes k at n x told ∷ []) same ∙ ap (λ (x : What). own_by x k t at name told) is
