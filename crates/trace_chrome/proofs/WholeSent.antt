-- The text of a trace is sent whole.
use Rattle.std.proofs.Common.{◌≡◌, ℕ, List, [], ◌∷◌, ◌++◌, Option, Some, None, map}
use Rattle.std.proofs.Common.{refl, sym, ap, subst, ◌∙◌, append_assoc, append-nil}
use Rattle.std.proofs.lemmas.Grind.{flat_map-append}
use Rattle.dial9_trace_format.specs.ShownEvents.{ShownEvent}
use Rattle.trace_values.specs.Sending.{Account, TookOnly}
use Rattle.trace_values.proofs.TwoStepsOfWriter.{TookOnly-join, TookOnly-none}
use Rattle.trace_chrome.specs.Counters.{Sum, sums_of}
use Rattle.trace_chrome.specs.Entries.{Told, Entry, entry_text, entries_text, head_text, tail_text}
use Rattle.trace_chrome.specs.Frames.{Frame}
use Rattle.trace_chrome.specs.Laws.{TakenEvent, entries_over, tracks_over}
use Rattle.trace_chrome.specs.Slices.{closings}
use Rattle.trace_chrome.specs.Steps.{first_by, frame_of, frames_after, track_number, entries_of, tracks_after}
use Rattle.trace_chrome.specs.Tracks.{Track}
use Rattle.trace_chrome.specs.Sending.{SendsEvent, SendsHeld}
use Rattle.trace_chrome.specs.Sending.{ending_text, SendsAll, events_taken, first_time}
use Rattle.trace_chrome.specs.Sending.{last_time, frames_over, AreTaken, BeginsText, SendsText, TextIsSent}
use Rattle.trace_chrome.specs.declared.trace.ChromeTrace.{ChromeTrace}
use Rattle.trace_chrome.specs.declared.sending.ChromeText.{ChromeText}

-- ---- steps

-- the events that were taken
abbrev pub events : List TakenEvent → List ShownEvent
events xs = map (λ x. x.event) xs

-- the first time, where a trace may have one already
abbrev from_of : ChromeTrace → List TakenEvent → ℕ
from_of t xs = first_by t.start (first_time (events xs))

-- the text of the entries of events from a trace on
abbrev text_over : ChromeTrace → List TakenEvent → List ℕ
text_over t xs = entries_text (from_of t xs) (entries_over xs t.tracks.items)

-- events were taken after a trace
abbrev AreTakenAfter : ChromeTrace → List TakenEvent → Type 0
AreTakenAfter t xs = AreTaken xs t.tracks.items t.frames.all.keys t.sums.items

-- what came of steps
record Came (steps : List (Option ShownEvent)) (a c : ChromeText) (x y : Account) : Type 0 where
  taken : List TakenEvent
  are : events taken ≡ events_taken steps
  told : AreTakenAfter a.trace taken
  sent : List ℕ
  took : TookOnly x y sent []
  bytes : a.held.items ++ text_over a.trace taken ≡ sent ++ c.held.items
  start : first_by c.trace.start 0 ≡ from_of a.trace taken
  last : c.trace.last ≡ last_time a.trace.last (events taken)
  tracks : c.trace.tracks.items ≡ tracks_over taken a.trace.tracks.items
  frames : c.trace.frames.all.keys ≡ frames_over (events taken) a.trace.frames.all.keys

nothing_came : (a : ChromeText) (x : Account) → Came [] a a x x
nothing_came a x = record {
  taken = [];
  are = refl;
  told = tt;
  sent = [];
  took = TookOnly-none x;
  bytes = append-nil a.held.items;
  start = refl;
  last = refl;
  tracks = refl;
  frames = refl;
}

-- what was held was sent, and steps came after that
held_came :
    (steps : List (Option ShownEvent)) (a b c : ChromeText) (x y z : Account) → SendsHeld a b x y →
    Came steps b c y z → Came (None ∷ steps) a c x z
held_came steps a b c x y z s i =
    let held = a.held.items in
    let later : text_over a.trace i.taken ≡ i.sent ++ c.held.items =
    ap (λ (t : ChromeTrace). text_over t i.taken) (sym s.trace)
    ∙ ap (λ (l : List ℕ). l ++ text_over b.trace i.taken) (sym s.held) ∙ i.bytes in
    record {
      taken = i.taken;
      are = i.are;
      told = subst (λ (t : ChromeTrace). AreTakenAfter t i.taken) s.trace i.told;
      sent = held ++ i.sent;
      took = TookOnly-join x y z held i.sent [] [] s.took i.took;
      bytes = ap (λ (l : List ℕ). held ++ l) later ∙ sym (append_assoc held i.sent c.held.items);
      start = i.start ∙ ap (λ (t : ChromeTrace). from_of t i.taken) s.trace;
      last = i.last ∙ ap (λ (t : ChromeTrace). last_time t.last (events i.taken)) s.trace;
      tracks = i.tracks ∙ ap (λ (t : ChromeTrace). tracks_over i.taken t.tracks.items) s.trace;
      frames = i.frames ∙ ap (λ (t : ChromeTrace). frames_over (events i.taken) t.frames.all.keys) s.trace;
    }

-- the bytes of an event and those after it
regrouped :
    (from : ℕ) (es fs : List Entry) (held sent kept more last : List ℕ) →
    held ++ entries_text from es ≡ sent ++ kept → kept ++ entries_text from fs ≡ more ++ last →
    held ++ entries_text from (es ++ fs) ≡ (sent ++ more) ++ last
regrouped from es fs held sent kept more last first later =
    let f = entry_text from in
    let rest = entries_text from fs in
    ap (λ (l : List ℕ). held ++ l) (flat_map-append f es fs) ∙ sym (append_assoc held (entries_text from es) rest)
    ∙ ap (λ (l : List ℕ). l ++ rest) first ∙ append_assoc sent kept rest
    ∙ ap (λ (l : List ℕ). sent ++ l) later ∙ sym (append_assoc sent more last)

-- events were taken after the same tracks, frames and sums
after_moves :
    (xs : List TakenEvent) {ts ts' : List Track} {fs fs' : List Frame} {sums sums' : List Sum} → ts ≡ ts' → fs ≡ fs' →
    sums ≡ sums' → AreTaken xs ts fs sums → AreTaken xs ts' fs' sums'
after_moves xs {ts} {ts'} {fs} {fs'} {sums} {sums'} same_tracks same_frames same_sums told =
    subst (λ (l : List Track). AreTaken xs l fs' sums') same_tracks
    (subst (λ (l : List Frame). AreTaken xs ts l sums') same_frames
    (subst (λ (l : List Sum). AreTaken xs ts fs l) same_sums told))

-- an event was taken, and steps came after it
event_came :
    (e : ShownEvent) (steps : List (Option ShownEvent)) (a b c : ChromeText) (x y z : Account) →
    SendsEvent e a b x y → Came steps b c y z → Came (Some e ∷ steps) a c x z
event_came e steps a b c x y z s i =
    let t = s.takes in
    let ts = a.trace.tracks.items in
    let fs = a.trace.frames.all.keys in
    let sums = a.trace.sums.items in
    let from = first_by a.trace.start e.time in
    let seen : Told = record { frame = frame_of e fs; json = t.json } in
    let own = entries_of seen e ts ++ t.counts in
    let es = events i.taken in
    let begun : from_of b.trace i.taken ≡ from =
    ap (λ (o : Option ℕ). first_by o (first_time es)) t.start in
    let more = entries_over i.taken (tracks_after e ts) in
    let told : AreTaken i.taken (tracks_after e ts) (frames_after e fs) (sums_of e (track_number e ts) sums) =
    after_moves i.taken t.tracks t.frames t.sums i.told in
    let later : b.held.items ++ entries_text from more ≡ i.sent ++ c.held.items =
    ap (λ (l : List Track). b.held.items ++ entries_text from (entries_over i.taken l)) (sym t.tracks)
    ∙ ap (λ (n : ℕ). b.held.items ++ entries_text n (entries_over i.taken b.trace.tracks.items)) (sym begun)
    ∙ i.bytes in
    record {
      taken = record { event = e; told = seen; counts = t.counts } ∷ i.taken;
      are = ap (λ (l : List ShownEvent). e ∷ l) i.are;
      told = (t.json_is, refl, t.counts_are, told);
      sent = s.sends.sent ++ i.sent;
      took = TookOnly-join x y z s.sends.sent i.sent [] [] s.sends.took i.took;
      bytes = regrouped from own more a.held.items s.sends.sent b.held.items i.sent
          c.held.items (sym t.text ∙ s.sends.all) later;
      start = i.start ∙ begun;
      last = i.last ∙ ap (λ (n : ℕ). last_time n es) t.last;
      tracks = i.tracks ∙ ap (λ (l : List Track). tracks_over i.taken l) t.tracks;
      frames = i.frames ∙ ap (λ (l : List Frame). frames_over es l) t.frames;
    }

all_came :
    (steps : List (Option ShownEvent)) (a c : ChromeText) (x z : Account) → SendsAll steps a c x z → Came steps a c x z
all_came [] a c x z h =
    subst (λ (d : ChromeText). Came [] a d x z) (sym h.0)
    (subst (λ (y : Account). Came [] a a x y) (sym h.1) (nothing_came a x))
all_came (Some e ∷ steps) a c x z h =
    event_came e steps a h.0 c x h.1 z h.2 (all_came steps h.0 c h.1 z h.3)
all_came (None ∷ steps) a c x z h = held_came steps a h.0 c x h.1 z h.2 (all_came steps h.0 c h.1 z h.3)

-- ---- the whole

-- what stands after the entries, by its parts
abbrev ending_by : ℕ → ℕ → List Track → List Frame → List ℕ
ending_by from n ts fs = entries_text from (closings n ts) ++ tail_text from fs

ending_is :
    (trace : ChromeTrace) (from n : ℕ) (ts : List Track) (fs : List Frame) → first_by trace.start 0 ≡ from →
    trace.last ≡ n → trace.tracks.items ≡ ts → trace.frames.all.keys ≡ fs → ending_text trace ≡ ending_by from n ts fs
ending_is trace from n ts fs a b c d =
    ap (λ (m : ℕ). ending_by m trace.last trace.tracks.items trace.frames.all.keys) a
    ∙ ap (λ (m : ℕ). ending_by from m trace.tracks.items trace.frames.all.keys) b
    ∙ ap (λ (l : List Track). ending_by from n l trace.frames.all.keys) c
    ∙ ap (λ (l : List Frame). ending_by from n ts l) d

-- the head and the entries, of which a front was sent, and what stands after them
joined :
    (from : ℕ) (es fs : List Entry) (head tail sent kept ending : List ℕ) →
    head ++ entries_text from es ≡ sent ++ kept → ending ≡ entries_text from fs ++ tail →
    sent ++ (kept ++ ending) ≡ head ++ (entries_text from (es ++ fs) ++ tail)
joined from es fs head tail sent kept ending front is =
    let f = entry_text from in
    let first = entries_text from es in
    let last = entries_text from fs in
    sym (append_assoc sent kept ending) ∙ ap (λ (l : List ℕ). l ++ ending) (sym front)
    ∙ append_assoc head first ending ∙ ap (λ (l : List ℕ). head ++ (first ++ l)) is
    ∙ ap (λ (l : List ℕ). head ++ l)
    (sym (append_assoc first last tail) ∙ ap (λ (l : List ℕ). l ++ tail) (sym (flat_map-append f es fs)))

-- what was sent of a whole run, and the tracks and frames after it
pub record Whole (name : List ℕ) (steps : List (Option ShownEvent)) (c : ChromeText) (x z : Account) : Type 0 where
  pub text : SendsText name (events_taken steps) x z
  pub tracks : c.trace.tracks.items ≡ tracks_over text.taken []
  pub frames : c.trace.frames.all.keys ≡ frames_over (events text.taken) []

-- from its beginning over any steps to its end a text is sent whole
pub whole_sent :
    (name : List ℕ) (steps : List (Option ShownEvent)) (a c : ChromeText) (x y z : Account) → BeginsText name a →
    SendsAll steps a c x y → TookOnly y z (c.held.items ++ ending_text c.trace) [] → Whole name steps c x z
whole_sent name steps a c x y z begins all end =
    let i = all_came steps a c x y all in
    let new = begins.trace in
    let es = events i.taken in
    let from = first_time es in
    let entries = entries_over i.taken [] in
    let begun : from_of a.trace i.taken ≡ from = ap (λ (o : Option ℕ). first_by o from) new.start in
    let front : head_text name ++ entries_text from entries ≡ i.sent ++ c.held.items =
    ap (λ (l : List ℕ). l ++ entries_text from entries) (sym begins.held)
    ∙ ap (λ (l : List Track). a.held.items ++ entries_text from (entries_over i.taken l)) (sym new.tracks)
    ∙ ap (λ (n : ℕ). a.held.items ++ entries_text n (entries_over i.taken a.trace.tracks.items)) (sym begun)
    ∙ i.bytes in
    let tracks = i.tracks ∙ ap (λ (l : List Track). tracks_over i.taken l) new.tracks in
    let frames = i.frames ∙ ap (λ (l : List Frame). frames_over es l) new.frames in
    let ends = ending_is c.trace from (last_time 0 es) (tracks_over i.taken []) (frames_over es []) (i.start ∙ begun)
    (i.last ∙ ap (λ (n : ℕ). last_time n es) new.last) tracks frames in
    record {
      text = record {
        taken = i.taken;
        events = i.are;
        told = after_moves i.taken new.tracks new.frames new.sums i.told;
        sent = subst (λ (l : List ℕ). TookOnly x z l [])
            (joined from entries (closings (last_time 0 es) (tracks_over i.taken [])) (head_text name)
            (tail_text from (frames_over es [])) i.sent c.held.items (ending_text c.trace) front ends)
            (TookOnly-join x y z i.sent (c.held.items ++ ending_text c.trace) [] [] i.took end);
      };
      tracks = tracks;
      frames = frames;
    }

pub text_is_sent : TextIsSent
text_is_sent name steps a c x y z begins all end = (whole_sent name steps a c x y z begins all end).text
