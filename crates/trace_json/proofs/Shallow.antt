-- How deep the JSON of a value nests, and so that of an event.
use Rattle.std.proofs.Common.{◌≡◌, ◌<◌, ◌≤◌, ℕ, ◌+◌, ◌*◌, ◌^◌, Bool, true, false, List, [], ◌∷◌, Option, Some, None}
use Rattle.std.proofs.Common.{map as list_map, sym, ap, subst, arith, inl, inr, drop, if◌then◌else◌}
use Rattle.std.specs.List.{All, Contains}
use Rattle.std.specs.FinMap as finmap
use Rattle.std.specs.Str.{is_utf8}
use Rattle.std.specs.Bool.{MatchBool}
use Rattle.std.specs.Float.{float_is_finite}
use Rattle.std.specs.Float.Ieee.{binary64}
use Rattle.std.specs.Prelude.{from_bits}
use Rattle.std.specs.Option.{unwrap_or}
use Rattle.json.specs.Json.{Json, string, number, null}
use Rattle.json.specs.Tree.{depth, items_depth, members_depth}
use Rattle.trace_values.specs.declared.types.field_type.FieldType.{FieldType}
use Rattle.trace_values.specs.FieldTypes.{is_optional}
use Rattle.trace_values.specs.Values.{Value, Kind, Items, Pairs, IsValue, AreItems, ArePairs, IsField, IsFieldBy}
use Rattle.trace_values.specs.Values.{AreFields}
use Rattle.trace_values.specs.Values as values
use Rattle.std.proofs.lemmas.List.Elements.{All-append, All-cons, All-nil, All-weaker, All-contains}
use Rattle.std.proofs.lemmas.List.Elements.{All-contains_itself}
use Rattle.trace_wire.specs.Schemas.{WireType, types_of}
use Rattle.trace_wire.specs.WireTypes.{entry_of}
use Rattle.trace_wire.specs.Frames.{Grammar, Frame, IsFrame}
use Rattle.trace_wire.specs.Frames as frames
use Rattle.trace_wire.specs.Runs.{Pools, IsRun, stepped, pooled}
use Rattle.dial9_trace_format.specs.ShownEvents.{ShownEvent}
use Rattle.dial9_trace_format.specs.Sinks.{events_of, event_of, event_by}
use Rattle.trace_json.specs.EventJson.{items_of, members_of, list_json, object_json, bytes_json}
use Rattle.trace_json.specs.EventJson.{text_pair_json, address_json, pooled_text_json, pooled_stack_json}
use Rattle.trace_json.specs.EventJson.{special_text, IsNumeralOf, IsFloatJson, IsValueJson, AreItemsJson}
use Rattle.trace_json.specs.EventJson.{ArePairsJson, AreFieldsJson, IsEventJson, event_json}
use Rattle.trace_json.specs.Laws.{IsShallow, RunIsShallow, IsOfRun, RunHasEvents}

along : (j i : Json) (n : ℕ) → j ≡ i → depth i ≤ n → depth j ≤ n
along j i n same le = subst (λ (x : Json). depth x ≤ n) (sym same) le

-- ---- what holds no values

text_by : (b : Bool) (s : List ℕ) → depth (if b then string s else bytes_json s) ≤ 1
text_by true s = omega arith
text_by false s = omega arith

text_pair_depth : (p : List ℕ × List ℕ) → depth (text_pair_json p) ≤ 2
text_pair_depth p = omega (arith, text_by (is_utf8 p.0) p.0, text_by (is_utf8 p.1) p.1)

texts_depth : (ps : List (List ℕ × List ℕ)) → items_depth (items_of (list_map text_pair_json ps)) ≤ 2
texts_depth [] = omega arith
texts_depth (p ∷ ps) = omega (arith, text_pair_depth p, texts_depth ps)

addresses_depth : (xs : List ℕ) → items_depth (items_of (list_map address_json xs)) ≤ 0
addresses_depth [] = omega arith
addresses_depth (x ∷ xs) = omega (arith, addresses_depth xs)

pooled_text_depth : (id : ℕ) (o : Option (List ℕ)) → depth (pooled_text_json id o) ≤ 1
pooled_text_depth id (Some s) = omega arith
pooled_text_depth id None = omega arith

pooled_stack_depth : (id : ℕ) (o : Option (List ℕ)) → depth (pooled_stack_json id o) ≤ 1
pooled_stack_depth id (Some xs) = omega (arith, addresses_depth xs)
pooled_stack_depth id None = omega arith

float_by :
    (b : Bool) (n : ℕ) (s : List ℕ) (j : Json) →
    MatchBool b ((t : List ℕ) × IsNumeralOf n t × (j ≡ number t)) (j ≡ string s) → depth j ≤ 0
float_by true n s j h = along j (number h.0) 0 h.2 (omega arith)
float_by false n s j h = along j (string s) 0 h (omega arith)

float_depth : (n : ℕ) (j : Json) → IsFloatJson n j → depth j ≤ 0
float_depth n j h = float_by (float_is_finite (from_bits binary64 n)) n (special_text n) j h

flat : (d : ℕ) (j i : Json) → d ≤ 32 → j ≡ i → depth i ≤ 3 → depth j + 2 * d ≤ 67
flat d j i low same le = let h : depth j ≤ 3 = along j i 3 same le in omega arith

-- ---- values, by the depth at which they stand

mutual
  value_depth :
      (p : Pools) (k : Kind) (t : FieldType) (d : ℕ) (b : List ℕ) (v : Value) (j : Json) → IsValue k t d b v →
      IsValueJson p v j → depth j + 2 * d ≤ 67
  value_depth p k t d b (values.integer z) j h is = flat d j _ h.0 is (omega arith)
  value_depth p k t d b (values.float n) j h is =
      let low : d ≤ 32 = h.0 in let le : depth j ≤ 0 = float_depth n j is in omega arith
  value_depth p k t d b (values.boolean x) j h is = flat d j _ h.0 is (omega arith)
  value_depth p k t d b (values.text s) j h is = flat d j _ h.0 is (omega arith)
  value_depth p k t d b (values.bytes s) j h is = flat d j _ h.0 is (omega arith)
  value_depth p k t d b (values.pooled_stack id) j h is =
      flat d j _ h.0 is (omega (arith, pooled_stack_depth id (finmap.get p.stacks id)))
  value_depth p k t d b (values.pooled_text id) j h is =
      flat d j _ h.0 is (omega (arith, pooled_text_depth id (finmap.get p.strings id)))
  value_depth p k t d b (values.stack xs) j h is = flat d j _ h.0 is (omega (arith, addresses_depth xs))
  value_depth p k t d b (values.number n) j h is = flat d j _ h.0 is (omega arith)
  value_depth p k t d b (values.texts ps) j h is = flat d j _ h.0 is (omega (arith, texts_depth ps))
  value_depth p k t d b (values.list vs) j h is =
      let low : d ≤ 32 = h.0 in
      let inside : items_depth (items_of is.0) + 2 * (d + 1) ≤ 67 =
      items_in p k (d + 1) h.3 vs is.0 (omega arith) h.5 is.1 in
      let le : depth (list_json is.0) + 2 * d ≤ 67 = omega arith in
      subst (λ (x : Json). depth x + 2 * d ≤ 67) (sym is.2) le
  value_depth p k t d b (values.map ps) j h is =
      let low : d ≤ 32 = h.0 in
      let inside : items_depth (items_of is.0) + 2 * (d + 1) ≤ 68 =
      pairs_in p k (d + 1) h.3 ps is.0 (omega arith) h.5 is.1 in
      let le : depth (list_json is.0) + 2 * d ≤ 67 = omega arith in
      subst (λ (x : Json). depth x + 2 * d ≤ 67) (sym is.2) le
  value_depth p k t d b values.absent j h is = flat d j _ h.0 is (omega arith)

  items_in :
      (p : Pools) (k : Kind) (d : ℕ) (b : List ℕ) (vs : Items) (js : List Json) → d ≤ 33 → AreItems k d b vs →
      AreItemsJson p vs js → items_depth (items_of js) + 2 * d ≤ 67
  items_in p k d b values.no_items js low h is =
      let none : items_depth (items_of []) + 2 * d ≤ 67 = omega arith in
      subst (λ (l : List Json). items_depth (items_of l) + 2 * d ≤ 67) (sym is) none
  items_in p k d b (values.item v vs) js low h is =
      let one : depth is.0 + 2 * d ≤ 67 = value_depth p k h.3.0 d h.3.1 v is.0 h.3.3 is.3 in
      let others : items_depth (items_of is.1) + 2 * d ≤ 67 = items_in p k d h.1 vs is.1 low h.4 is.4 in
      let all : items_depth (items_of (is.0 ∷ is.1)) + 2 * d ≤ 67 = omega arith in
      subst (λ (l : List Json). items_depth (items_of l) + 2 * d ≤ 67) (sym is.2) all

  pairs_in :
      (p : Pools) (k : Kind) (d : ℕ) (b : List ℕ) (ps : Pairs) (js : List Json) → d ≤ 33 → ArePairs k d b ps →
      ArePairsJson p ps js → items_depth (items_of js) + 2 * d ≤ 68
  pairs_in p k d b values.no_pairs js low h is =
      let none : items_depth (items_of []) + 2 * d ≤ 68 = omega arith in
      subst (λ (l : List Json). items_depth (items_of l) + 2 * d ≤ 68) (sym is) none
  pairs_in p k d b (values.pair x y ps) js low h is =
      let both = is.3 in
      let key : depth both.0 + 2 * d ≤ 67 = value_depth p k h.4.0 d h.4.1 x both.0 h.4.3 both.2 in
      let value : depth both.1 + 2 * d ≤ 67 = value_depth p k h.5.0 d h.5.1 y both.1 h.5.3 both.3 in
      let others : items_depth (items_of is.1) + 2 * d ≤ 68 = pairs_in p k d h.2 ps is.1 low h.6 is.4 in
      let one : depth (list_json (both.0 ∷ both.1 ∷ [])) + 2 * d ≤ 68 = omega arith in
      let here : depth is.0 + 2 * d ≤ 68 = subst (λ (i : Json). depth i + 2 * d ≤ 68) (sym both.4) one in
      let all : items_depth (items_of (is.0 ∷ is.1)) + 2 * d ≤ 68 = omega arith in
      subst (λ (l : List Json). items_depth (items_of l) + 2 * d ≤ 68) (sym is.2) all

-- ---- fields and events

field_by :
    (b : Bool) (p : Pools) (k : Kind) (t : FieldType) (s : List ℕ) (v : Value) (j : Json) → IsFieldBy b k t s v →
    IsValueJson p v j → depth j ≤ 67
field_by false p k t s v j h is = omega (arith, value_depth p k t 0 s v j h is)
field_by true p k t s v j (inl none) is =
    let null_is : j ≡ null = subst (λ (u : Value). IsValueJson p u j) none.1 is in along j null 67 null_is
    (omega arith)
field_by true p k t s v j (inr some) is = omega (arith, value_depth p k t 0 some.1 v j some.5 is)

fields_depth :
    (p : Pools) (k : Kind) (names : List (List ℕ)) (ts : List FieldType) (b : List ℕ) (vs : List Value)
    (ms : List (List ℕ × Json)) →
    AreFields k ts b vs → AreFieldsJson p names vs ms → members_depth (members_of ms) ≤ 67
fields_depth p k names [] b [] ms h is =
    subst (λ (l : List (List ℕ × Json)). members_depth (members_of l) ≤ 67) (sym is) (omega arith)
fields_depth p k names (t ∷ ts) b [] ms h is = absurd h
fields_depth p k names [] b (v ∷ vs) ms h is = absurd h
fields_depth p k names (t ∷ ts) b (v ∷ vs) ms h is =
    let one : depth is.0 ≤ 67 = field_by (is_optional t) p k t h.0 v is.0 h.3 is.3 in
    let others : members_depth (members_of is.1) ≤ 67 = fields_depth p k (drop 1 names) ts h.1 vs is.1 h.4 is.4 in
    subst (λ (l : List (List ℕ × Json)). members_depth (members_of l) ≤ 67) (sym is.2) (omega arith)

event_depth :
    (name : List ℕ) (time : ℕ) (fields : Json) → depth fields ≤ 68 → depth (event_json name time fields) ≤ 69
event_depth name time fields le = omega arith

-- an event of a run: its values are fields as they are spelled, and its time has 64 bits
pub record IsSpelled (e : ShownEvent) : Type 0 where
  pub kind : Kind
  pub types : List FieldType
  pub bytes : List ℕ
  pub fields : AreFields kind types bytes e.values
  pub time : e.time < 2 ^ 64

-- what JSON such an event is nests so deep
pub spelled_depth : (e : ShownEvent) → IsSpelled e → (j : Json) → IsEventJson e j → depth j ≤ 69
spelled_depth e s j is =
    let ms = is.1.0 in
    let inside : members_depth (members_of ms) ≤ 67 = fields_depth e.pools s.kind _ s.types s.bytes e.values ms
    s.fields is.1.1 in
    let object : depth (object_json ms) ≤ 68 = omega arith in
    along j (event_json e.name e.time is.0) 69 is.2
    (event_depth e.name e.time is.0 (along is.0 (object_json ms) 68 is.1.2 object))

spelled_shallow : (e : ShownEvent) → IsSpelled e → IsShallow e
spelled_shallow e s j is = omega (arith, spelled_depth e s j is)

-- ---- runs

event_here :
    (k : Kind) (g : Grammar) (p : Pools) (bytes : List ℕ) (f : Frame) → IsFrame k g bytes f →
    All IsSpelled (event_of g p f)
event_here k g p bytes (frames.Event id time vs) h =
    let w = h.0 in
    let e : ShownEvent = record {
      id = id;
      name = w.shape.name;
      time = time;
      values = vs;
      entry = entry_of w;
      pools = p;
    } in
    let s : IsSpelled e = record {
      kind = k;
      types = types_of w.shape.fields;
      bytes = h.2.spelled;
      fields = h.2.values_are;
      time = h.2.time_fits;
    } in
    subst (λ (o : Option WireType). All IsSpelled (event_by o p id time vs)) (sym h.1)
    (All-cons IsSpelled e [] s (All-nil IsSpelled))
event_here k g p bytes f h = All-nil IsSpelled

run_spelled :
    (kinds : List Kind) (g : Grammar) (bytes : List ℕ) (fs : List Frame) (last : Grammar) (p : Pools) →
    IsRun kinds g bytes fs last → All IsSpelled (events_of g p fs)
run_spelled [] g bytes [] last p h = All-nil IsSpelled
run_spelled (k ∷ ks) g bytes [] last p h = absurd h
run_spelled [] g bytes (f ∷ fs) last p h = absurd h
run_spelled (k ∷ ks) g bytes (f ∷ fs) last p h =
    let next : stepped g f ≡ h.2 = ap (λ (o : Option Grammar). unwrap_or o g) h.5 in
    All-append IsSpelled (event_of g p f) (events_of (stepped g f) (pooled p f) fs) (event_here k g p h.0 f h.4)
    (subst (λ (n : Grammar). All IsSpelled (events_of n (pooled p f) fs)) (sym next)
    (run_spelled ks h.2 h.1 fs last (pooled p f) h.6))

-- values of a run are of few levels
pub run_is_shallow : RunIsShallow
run_is_shallow kinds g bytes fs last p h =
    All-weaker IsSpelled IsShallow spelled_shallow (events_of g p fs) (run_spelled kinds g bytes fs last p h)

-- an event of a run is spelled in its bytes
pub event_spelled : (e : ShownEvent) → IsOfRun e → IsSpelled e
event_spelled e i =
    All-contains IsSpelled (events_of i.grammar i.pools i.frames) e
    (run_spelled i.kinds i.grammar i.bytes i.frames i.last i.pools i.run) i.among

-- the events of a run are of it
pub run_has_events : RunHasEvents
run_has_events kinds g bytes fs last p h =
    All-weaker (Contains (events_of g p fs)) IsOfRun
    (λ e among. record {
      kinds = kinds;
      grammar = g;
      bytes = bytes;
      frames = fs;
      last = last;
      pools = p;
      run = h;
      among = among;
    }) (events_of g p fs) (All-contains_itself (events_of g p fs))
