-- What is sent of the events of runs is read back.
use Rattle.std.proofs.Common.{◌≡◌, ◌<◌, ◌≤◌, ℕ, zero, suc, ◌+◌, ◌^◌, ℤ, pos, negsuc, Bool, true, false, List}
use Rattle.std.proofs.Common.{[], ◌∷◌, ◌++◌, length, drop, replicate, map as list_map, Option, Some, None, option_map}
use Rattle.std.proofs.Common.{from_bits, if◌then◌else◌, slice_get, codes, decimal, refl, sym, ap, subst, ◌∙◌, arith}
use Rattle.std.proofs.Common.{append-nil, ◌+ℤ◌, true≢false}
use Rattle.std.specs.Prelude.{⊤}
use Rattle.std.specs.Bool.{MatchBool}
use Rattle.std.specs.Float.{float_is_finite}
use Rattle.std.specs.Float.Ieee.{binary64}
use Rattle.std.specs.Fmt.{signed_decimal}
use Rattle.std.specs.Int.{w64, saturate_signed}
use Rattle.std.specs.List.{All, AllByRecursion}
use Rattle.std.proofs.lemmas.List.{map-append, append_cancel_right}
use Rattle.std.proofs.lemmas.List.Elements.{All-head, All-tail}
use lib.Signed.{mag}
use Rattle.json.specs.Json.{Json, null, number, string, document, max_depth}
use Rattle.json.specs.Print.{IsNumber, print_from}
use Rattle.json.specs.Tree.{depth, items_depth, members_depth, HasNumbers, MembersHaveNumbers}
use Rattle.json.proofs.Numbered.{document-HasNumbers}
use Rattle.json.proofs.Printed.Decimals.{IsNumber-signed_decimal}
use Rattle.json.proofs.Printed.Floats.{IsNumber-plain}
use Rattle.trace_values.specs.Sending.{Account, TookOnly}
use Rattle.trace_values.specs.Values.{Value}
use Rattle.trace_values.specs.Values as values
use Rattle.trace_wire.specs.Runs.{Pools}
use Rattle.dial9_trace_format.specs.ShownEvents.{ShownEvent, names_of}
use Rattle.trace_roles.specs.declared.units.CounterKind.{CounterKind}
use Rattle.trace_roles.specs.declared.units.CounterKind.TheVariants as kinds
use Rattle.trace_json.specs.EventJson.{items_of, members_of, object_json, IsNumeralOf, IsValueJson, AreFieldsJson}
use Rattle.trace_json.specs.EventJson.{IsEventJson, special_text}
use Rattle.trace_json.specs.Laws.{IsOfRun}
use Rattle.trace_json.specs.Lines.{IsLineOf, json_text, line_feed}
use Rattle.trace_json.proofs.Shallow.{IsSpelled, spelled_depth, event_spelled}
use Rattle.trace_chrome.specs.Counters.{Reading, shows, adds, nothing, is_number, shown, step_up, whole_of, added}
use Rattle.trace_chrome.specs.Counters.{reading_by, reading_in, reading_of, kind_at, Sum, total_of, counter_at}
use Rattle.trace_chrome.specs.Counters.{IsShownBy, count_entries, sums_of, sums_of_first, AreCountsOfFirst}
use Rattle.trace_chrome.specs.Counters.{sum_at, number_of, with_counter}
use Rattle.trace_chrome.specs.Entries.{Counter, Told, Entry, names, begins, ends, is_cut, takes, happens, counts}
use Rattle.trace_chrome.specs.Entries.{entries_text, head_text, tail_text}
use Rattle.trace_chrome.specs.Frames.{Frame, parent_members, frame_json, frame_members, frames_json}
use Rattle.trace_chrome.specs.Labels.{what_of, track_name, event_name}
use Rattle.trace_chrome.specs.Laws.{TakenEvent, entries_over, tracks_over}
use Rattle.trace_chrome.specs.Sending.{first_time, last_time, frames_over, AreTaken}
use Rattle.trace_chrome.specs.Sending.{TextIsReadBack}
use Rattle.trace_chrome.specs.Sending.{SentReadsBack}
use Rattle.trace_chrome.specs.Slices.{What, naming_by, ends_by, own_by, closings_from, closings}
use Rattle.trace_chrome.specs.Slices as slices
use Rattle.trace_chrome.specs.Steps.{frames_after, track_number, entries_of, tracks_after}
use Rattle.trace_chrome.specs.Tracks.{Track, track_at, place_of, with_track, inside_of}
use Rattle.trace_chrome.specs.Trees.{Members, stack_members, entry_json, whole_json, IsSmall, IsTold}
use Rattle.trace_chrome.specs.Trees.{IsEntryOf, ReadsBackAs}
use Rattle.trace_chrome.specs.declared.sending.ChromeText.{ChromeText}
use Rattle.trace_chrome.proofs.Numbering.{track_small, frame_small, frames_small, IsShortWhat, what_short}
use Rattle.trace_chrome.proofs.Numbering.{last_small, first_small}
use Rattle.trace_chrome.proofs.WholeSent.{events, Whole, whole_sent}
use Rattle.trace_chrome.proofs.Wholes.{text_reads_back}

-- ---- what counters show

-- a value has a JSON whose numbers are such as JSON has
abbrev HasJson : Pools → Value → Type 0
HasJson p v = (j : Json) × IsValueJson p v j × HasNumbers j

fields_have :
    (p : Pools) (labels : List (List ℕ)) (vs : List Value) (ms : Members) → AreFieldsJson p labels vs ms →
    MembersHaveNumbers (members_of ms) → AllByRecursion (HasJson p) vs
fields_have p labels [] ms is h = tt
fields_have p labels (v ∷ vs) ms is h =
    let all = subst (λ (l : Members). MembersHaveNumbers (members_of l)) is.2 h in
    ((is.0, is.3, all.0), fields_have p (drop 1 labels) vs is.1 is.4 all.1)

event_has : (e : ShownEvent) (j : Json) → IsEventJson e j → HasNumbers j → AllByRecursion (HasJson e.pools) e.values
event_has e j is h =
    let all = subst HasNumbers is.2 h in
    let fields = subst HasNumbers is.1.2 all.1.1.0 in
    fields_have e.pools (names_of e.entry.fields) e.values is.1.0 is.1.1 fields

-- what is shown of a value is a number
abbrev AreNumbers : Pools → Reading → Type 0
AreNumbers p (shows v) = (j : Json) → IsValueJson p v j → IsNumber (json_text j)
AreNumbers p (adds z) = ⊤
AreNumbers p nothing = ⊤

number_text : (s : List ℕ) → json_text (number s) ≡ s
unfolding print_from
number_text s = append-nil s

shows_number : (s : List ℕ) (j : Json) → j ≡ number s → IsNumber s → IsNumber (json_text j)
shows_number s j is h = subst IsNumber (sym (ap json_text is ∙ number_text s)) h

float_number :
    (b : Bool) (n : ℕ) (s : List ℕ) (j : Json) →
    MatchBool b ((t : List ℕ) × IsNumeralOf n t × (j ≡ number t)) (j ≡ string s) → b ≡ true → IsNumber (json_text j)
float_number true n s j h e = shows_number h.0 j h.2 (IsNumber-plain h.0 h.1.0)
float_number false n s j h e = absurd (true≢false (sym e))

float_by :
    (b : Bool) (p : Pools) (n : ℕ) → float_is_finite (from_bits binary64 n) ≡ b →
    AreNumbers p (if b then shows (values.float n) else nothing)
float_by true p n e = λ j is. float_number (float_is_finite (from_bits binary64 n)) n (special_text n) j is e
float_by false p n e = tt

shown_are : (p : Pools) (v : Value) → HasJson p v → AreNumbers p (shown v)
shown_are p (values.number n) h = λ j is. shows_number (decimal n) j is (subst HasNumbers h.1 h.2)
shown_are p (values.integer z) h = λ j is. shows_number (signed_decimal z) j is (subst HasNumbers h.1 h.2)
shown_are p (values.float n) h = float_by (float_is_finite (from_bits binary64 n)) p n refl
shown_are p v h = tt

added_are : (p : Pools) (o : Option ℤ) → AreNumbers p (added o)
added_are p (Some z) = tt
added_are p None = tt

by_kind : (p : Pools) (kind : CounterKind) (v : Value) → HasJson p v → AreNumbers p (reading_by kind v)
by_kind p kinds.Gauge v h = shown_are p v h
by_kind p kinds.Counter v h = added_are p (option_map step_up (whole_of v))
by_kind p kinds.UpDownCounter v h = added_are p (whole_of v)

value_in :
    (p : Pools) (kind : Option CounterKind) (vs : List Value) (i : ℕ) → AllByRecursion (HasJson p) vs →
    AreNumbers p (reading_in kind (slice_get vs i))
value_in p (Some kind) [] i h = tt
value_in p (Some kind) (v ∷ vs) zero h = by_kind p kind v h.0
value_in p (Some kind) (v ∷ vs) (suc i) h = value_in p (Some kind) vs i h.1
value_in p None vs i h = tt

-- what is shown is a number
abbrev IsShownNumber : Option (List ℕ) → Type 0
IsShownNumber (Some text) = IsNumber text
IsShownNumber None = ⊤

saturated : (z : ℤ) → mag (saturate_signed w64 z) < 2 ^ 63
saturated (pos n) = omega arith
saturated (negsuc n) = omega arith

total_small : (c : Counter) (z : ℤ) (sums : List Sum) → mag (total_of c z sums) < 2 ^ 63
total_small c z sums = saturated ((sum_at (with_counter c sums) (number_of c sums)).total +ℤ z)

shown_by :
    (p : Pools) (r : Reading) (c : Counter) (sums : List Sum) (o : Option (List ℕ)) → AreNumbers p r →
    IsShownBy p r c sums o → IsShownNumber o
shown_by p (shows v) c sums o fits is =
    subst IsShownNumber (sym is.2) (subst IsNumber (sym is.1.2) (fits is.1.0 is.1.1))
shown_by p (adds z) c sums o fits is =
    subst IsShownNumber (sym is) (IsNumber-signed_decimal (total_of c z sums) (total_small c z sums))
shown_by p nothing c sums o fits is = subst IsShownNumber (sym is) tt

-- ---- the entries of an event, whose JSON is this

module _ (event : Json) where
  abbrev Fit : List Entry → Type 0
  Fit es = AllByRecursion (λ e. IsEntryOf e event) es

  joined : (es fs : List Entry) → Fit es → Fit fs → Fit (es ++ fs)
  joined [] fs h k = k
  joined (e ∷ es) fs h k = (h.0, joined es fs h.1 k)

  naming_fits : (o : Option ℕ) (k at : ℕ) (name : List ℕ) → IsSmall k → IsSmall at → Fit (naming_by o k at name)
  naming_fits (Some i) k at name h l = tt
  naming_fits None k at name h l = ((h, l), tt)

  cuts_fit : (n k at : ℕ) → IsSmall k → IsSmall at → Fit (replicate n (is_cut k at))
  cuts_fit zero k at h l = tt
  cuts_fit (suc n) k at h l = ((h, l), cuts_fit n k at h l)

  ends_fit :
      (o : Option ℕ) (k at : ℕ) (group : List ℕ) (told : Told) → IsSmall k → IsSmall at → IsTold told event →
      Fit (ends_by o k at group told)
  ends_fit (Some n) k at group told h l t =
      joined (replicate n (is_cut k at)) (ends k at told ∷ []) (cuts_fit n k at h l) ((h, l, t), tt)
  ends_fit None k at group told h l t = ((h, l, t), tt)

  own_fits :
      (w : What) (k : ℕ) (t : Track) (at : ℕ) (name : List ℕ) (told : Told) → IsShortWhat w →
      IsSmall k × IsSmall at → IsTold told event → Fit (own_by w k t at name told)
  own_fits (slices.begins group) k t at name told s h i = ((h.0, h.1, i), tt)
  own_fits (slices.ends group) k t at name told s h i = ends_fit (inside_of group t.slices) k at group told h.0 h.1 i
  own_fits (slices.takes n) k t at name told s h i = ((h.0, h.1, s, i), tt)
  own_fits slices.happens k t at name told s h i = ((h.0, h.1, i), tt)

  count_fits :
      (at : ℕ) (c : Counter) (o : Option (List ℕ)) → IsSmall c.track → IsSmall at → IsShownNumber o →
      Fit (count_entries at c o)
  count_fits at c (Some text) h l n = ((h, l, n), tt)
  count_fits at c None h l n = tt

  counts_fit :
      (e : ShownEvent) (track : ℕ) (sums : List Sum) (n : ℕ) (es : List Entry) → IsSmall track → IsSmall e.time →
      AllByRecursion (HasJson e.pools) e.values → AreCountsOfFirst e track e.time sums n es → Fit es
  counts_fit e track sums zero es h l have are = subst Fit (sym are) tt
  counts_fit e track sums (suc n) es h l have are =
      let c = counter_at e track n in
      let number = shown_by e.pools (reading_of e n) c (sums_of_first e track sums n) are.1
      (value_in e.pools (kind_at e.entry n) e.values n have) are.3 in
      subst Fit (sym are.4)
      (joined are.0 (count_entries e.time c are.1) (counts_fit e track sums n are.0 h l have are.2)
      (count_fits e.time c are.1 h l number))

  closings_fit :
      (at k : ℕ) (ts : List Track) → IsSmall at → IsSmall (k + length ts) → Fit (closings_from at k ts)
  closings_fit at k [] h few = tt
  closings_fit at k (t ∷ ts) h few =
      let here : IsSmall k = omega (arith, few) in
      let later : IsSmall (k + 1 + length ts) = omega (arith, few) in
      joined (replicate (length t.slices) (is_cut k at)) (closings_from at (k + 1) ts)
      (cuts_fit (length t.slices) k at here h) (closings_fit at (k + 1) ts h later)

  -- entries, each with that JSON
  abbrev paired : List Entry → List (Entry × Json)
  paired es = list_map (λ e. (e, event)) es

  firsts : (es : List Entry) → list_map (λ p. p.0) (paired es) ≡ es
  firsts [] = refl
  firsts (e ∷ es) = ap (λ (l : List Entry). e ∷ l) (firsts es)

  pairs_fit : (es : List Entry) → Fit es → AllByRecursion (λ p. IsEntryOf p.0 p.1) (paired es)
  pairs_fit [] h = tt
  pairs_fit (e ∷ es) h = (h.0, pairs_fit es h.1)

  pairs_shallow : (es : List Entry) → depth event ≤ 69 → AllByRecursion (λ p. depth p.1 ≤ 69) (paired es)
  pairs_shallow [] le = tt
  pairs_shallow (e ∷ es) le = (le, pairs_shallow es le)

-- ---- the entries of events

-- entries, each with the JSON of its event
pub record Pairs (es : List Entry) : Type 0 where
  pub pairs : List (Entry × Json)
  pub are : list_map (λ p. p.0) pairs ≡ es
  pub events : AllByRecursion (λ p. IsEntryOf p.0 p.1) pairs
  pub shallow : AllByRecursion (λ p. depth p.1 ≤ 69) pairs

-- of one event
pairs_of : (event : Json) (es : List Entry) → Fit event es → depth event ≤ 69 → Pairs es
pairs_of event es h le = record {
  pairs = paired event es;
  are = firsts event es;
  events = pairs_fit event es h;
  shallow = pairs_shallow event es le;
}

all_joined : {A : Type 0} (P : A → Type 0) (xs ys : List A) → AllByRecursion P xs → AllByRecursion P ys →
    AllByRecursion P (xs ++ ys)
all_joined P [] ys h k = k
all_joined P (x ∷ xs) ys h k = (h.0, all_joined P xs ys h.1 k)

pairs_joined : (es fs : List Entry) → Pairs es → Pairs fs → Pairs (es ++ fs)
pairs_joined es fs a b = record {
  pairs = a.pairs ++ b.pairs;
  are = map-append (λ (p : Entry × Json). p.0) a.pairs b.pairs
      ∙ ap (λ (l : List Entry). l ++ list_map (λ p. p.0) b.pairs) a.are ∙ ap (λ (l : List Entry). es ++ l) b.are;
  events = all_joined (λ (p : Entry × Json). IsEntryOf p.0 p.1) a.pairs b.pairs a.events b.events;
  shallow = all_joined (λ (p : Entry × Json). depth p.1 ≤ 69) a.pairs b.pairs a.shallow b.shallow;
}

-- what is told of an event that is spelled in its bytes
told_is :
    (e : ShownEvent) (told : Told) (line : IsLineOf (IsEventJson e) (told.json ++ line_feed ∷ [])) → IsSpelled e →
    IsSmall told.frame → IsTold told line.json
told_is e told line s small =
    let text : told.json ≡ json_text line.json = append_cancel_right told.json _ (line_feed ∷ []) line.text in
    let deep = spelled_depth e s line.json line.is_so in
    let shallow : depth line.json ≤ max_depth = omega (arith, deep) in
    record {
      small = small;
      text = text;
      reads_back = ap document text ∙ line.reads_back shallow;
    }

event_pairs :
    (x : TakenEvent) (ts : List Track) (sums : List Sum) → IsSmall (track_number x.event ts) →
    (line : IsLineOf (IsEventJson x.event) (x.told.json ++ line_feed ∷ [])) → IsSpelled x.event →
    IsSmall x.told.frame →
    AreCountsOfFirst x.event (track_number x.event ts) x.event.time sums (length x.event.values) x.counts →
    Pairs (entries_of x.told x.event ts ++ x.counts)
event_pairs x ts sums small line s frame are =
    let e = x.event in
    let k = track_number e ts in
    let event = line.json in
    let told = told_is e x.told line s frame in
    let track = track_at (with_track (track_name e) ts) k in
    let have = event_has e event line.is_so (document-HasNumbers x.told.json event told.reads_back) in
    let first = naming_by (place_of (track_name e) ts) k e.time (track_name e) in
    let mine = own_by (what_of e) k track e.time (event_name e) x.told in
    pairs_of event (entries_of x.told e ts ++ x.counts)
    (joined event (first ++ mine) x.counts
    (joined event first mine (naming_fits event (place_of (track_name e) ts) k e.time (track_name e) small s.time)
    (own_fits event (what_of e) k track e.time (event_name e) x.told (what_short e) (small, s.time) told))
    (counts_fit event e k sums (length e.values) x.counts small s.time have are))
    (spelled_depth e s event line.is_so)

all_pairs :
    (xs : List TakenEvent) (ts : List Track) (fs : List Frame) (sums : List Sum) → AreTaken xs ts fs sums →
    AllByRecursion (λ x. IsSpelled x.event) xs → IsSmall (length (tracks_over xs ts)) →
    IsSmall (length (frames_over (events xs) fs)) → Pairs (entries_over xs ts)
all_pairs [] ts fs sums told s tracks frames = record { pairs = []; are = refl; events = tt; shallow = tt }
all_pairs (x ∷ xs) ts fs sums told s tracks frames =
    let e = x.event in
    let k = track_number e ts in
    let frame : IsSmall x.told.frame = subst IsSmall (sym told.1) (frame_small e (events xs) fs frames) in
    pairs_joined (entries_of x.told e ts ++ x.counts) (entries_over xs (tracks_after e ts))
    (event_pairs x ts sums (track_small x xs ts tracks) told.0 s.0 frame told.2)
    (all_pairs xs (tracks_after e ts) (frames_after e fs) (sums_of e k sums) told.3 s.1 tracks frames)

-- ---- how deep the whole nests

told_depth :
    (n : ℕ) (event : Json) → depth event ≤ 69 →
    members_depth (members_of (stack_members n ((codes "args", event) ∷ []))) ≤ 69
told_depth zero event le = omega (arith, le)
told_depth (suc n) event le = omega (arith, le)

entry_depth : (from : ℕ) (e : Entry) (event : Json) → depth event ≤ 69 → depth (entry_json from (e, event)) ≤ 70
entry_depth from (names track at name) event le = omega arith
entry_depth from (begins track at name told) event le = omega (arith, told_depth told.frame event le)
entry_depth from (ends track at told) event le = omega (arith, told_depth told.frame event le)
entry_depth from (is_cut track at) event le = omega arith
entry_depth from (takes track at n name told) event le = omega (arith, told_depth told.frame event le)
entry_depth from (happens track at name told) event le = omega (arith, told_depth told.frame event le)
entry_depth from (counts at c shown) event le = omega arith

entries_depth :
    (from : ℕ) (ps : List (Entry × Json)) → AllByRecursion (λ p. depth p.1 ≤ 69) ps →
    items_depth (items_of (list_map (entry_json from) ps)) ≤ 70
entries_depth from [] h = omega arith
entries_depth from (p ∷ ps) h = omega (arith, entry_depth from p.0 p.1 h.0, entries_depth from ps h.1)

parent_depth : (n : ℕ) → members_depth (members_of (parent_members n)) ≤ 0
parent_depth zero = omega arith
parent_depth (suc n) = omega arith

frame_depth : (f : Frame) → depth (frame_json f) ≤ 1
frame_depth f = omega (arith, parent_depth f.0)

frames_depth : (k : ℕ) (fs : List Frame) → members_depth (members_of (frame_members k fs)) ≤ 1
frames_depth k [] = omega arith
frames_depth k (f ∷ fs) = omega (arith, frame_depth f, frames_depth (k + 1) fs)

whole_depth :
    (name : List ℕ) (from : ℕ) (ps : List (Entry × Json)) (fs : List Frame) →
    AllByRecursion (λ p. depth p.1 ≤ 69) ps → depth (whole_json name from ps fs) ≤ max_depth
whole_depth name from ps fs h = omega (arith, entries_depth from ps h, frames_depth 1 fs)

-- ---- the whole

spelled_all : (xs : List TakenEvent) → All IsOfRun (events xs) → AllByRecursion (λ x. IsSpelled x.event) xs
spelled_all [] h = tt
spelled_all (x ∷ xs) h = (
  event_spelled x.event (All-head IsOfRun x.event (events xs) h),
  spelled_all xs (All-tail IsOfRun x.event (events xs) h),
)

times_all : (xs : List TakenEvent) → AllByRecursion (λ x. IsSpelled x.event) xs →
    AllByRecursion (λ e. IsSmall e.time) (events xs)
times_all [] h = tt
times_all (x ∷ xs) h = (h.0.time, times_all xs h.1)

read_back :
    (name : List ℕ) (xs : List TakenEvent) → AreTaken xs [] [] [] → All IsOfRun (events xs) →
    IsSmall (length (tracks_over xs [])) → IsSmall (length (frames_over (events xs) [])) → TextIsReadBack name xs
read_back name xs told runs tracks frames =
    let spelled = spelled_all xs runs in
    let times = times_all xs spelled in
    let es = events xs in
    let from = first_time es in
    let last : IsSmall (last_time 0 es) = last_small 0 es (omega arith) times in
    let fs = frames_over es [] in
    let closes = closings (last_time 0 es) (tracks_over xs []) in
    let few : IsSmall (0 + length (tracks_over xs [])) = omega (arith, tracks) in
    let p = pairs_joined (entries_over xs []) closes (all_pairs xs [] [] [] told spelled tracks frames)
    (pairs_of null closes (closings_fit null (last_time 0 es) 0 (tracks_over xs []) last few) (omega arith)) in
    record {
      entries = p.pairs;
      are = p.are;
      events = p.events;
      reads_back = subst (λ (l : List Entry). ReadsBackAs (head_text name
          ++ (entries_text from l ++ tail_text from fs)) (whole_json name from p.pairs fs)) p.are
          (text_reads_back name from p.pairs fs (first_small es times) p.events (frames_small es [] frames tt)
          (whole_depth name from p.pairs fs p.shallow));
    }

pub sent_reads_back : SentReadsBack
sent_reads_back name steps a c x y z start all end numbered runs =
    let w = whole_sent name steps a c x y z start all end in
    let text = w.text in (
      text,
      read_back name text.taken text.told (subst (All IsOfRun) (sym text.events) runs)
          (subst (λ (l : List Track). IsSmall (length l)) w.tracks numbered.tracks)
          (subst (λ (l : List Frame). IsSmall (length l)) w.frames numbered.frames),
    )
