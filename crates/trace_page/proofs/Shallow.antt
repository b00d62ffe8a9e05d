-- How deep the data of a page nests.
use Rattle.std.proofs.Common.{◌≡◌, ◌≤◌, ◌-◌, ℕ, zero, suc, ◌+◌, Bool, true, false, List, [], ◌∷◌, ◌++◌, Option}
use Rattle.std.proofs.Common.{Some, None}
use Rattle.std.proofs.Common.{map as list_map, sym, subst, arith, inl, inr, nat_le, ℤ, slice_get, length}
use Rattle.std.proofs.Common.{if◌then◌else◌}
use Rattle.std.specs.List.{All, AllZip}
use Rattle.std.specs.FinMap as finmap
use Rattle.std.specs.Bool.{MatchBool}
use Rattle.std.specs.Float.{float_is_finite}
use Rattle.std.specs.Float.Ieee.{binary64}
use Rattle.std.specs.Fmt.{decimal, signed_decimal}
use Rattle.std.specs.Prelude.{from_bits, codes, unsigned_abs}
use Rattle.std.proofs.lemmas.List.Elements.{All-head, All-tail}
use Rattle.json.specs.Json.{Json, null, string, number}
use Rattle.json.specs.Tree.{depth, items_depth, members_depth}
use Rattle.trace_values.specs.AddressTexts.{address_text}
use Rattle.trace_values.specs.FieldTypes.{is_optional, tag}
use Rattle.trace_values.specs.Values.{Value, Kind, Items, Pairs, IsValue, AreItems, ArePairs, IsFieldBy, AreFields}
use Rattle.trace_values.specs.Values as values
use Rattle.trace_values.specs.declared.types.field_type.FieldType.{FieldType}
use Rattle.trace_wire.specs.Runs.{Pools}
use Rattle.trace_wire.specs.Schemas.{Field, Entry}
use Rattle.trace_json.specs.EventJson.{items_of, members_of, list_json, object_json, IsNumeralOf}
use Rattle.trace_json.specs.Laws.{IsOfRun}
use Rattle.trace_json.proofs.Shallow.{event_spelled}
use Rattle.trace_page.specs.Counting.{PageEvent}
use Rattle.trace_roles.specs.Roles.{of_schema, note_of, field_with_role, track_of}
use Rattle.trace_page.specs.Files.{PageFile, events_of, clocks_of, clock_json, zero_json}
use Rattle.trace_page.specs.PageSchemas.{text_or_null, index_or_null, roles_json, field_json, field_at, first_fields}
use Rattle.trace_page.specs.PageSchemas.{schema_json, unit_at, counter_at}
use Rattle.trace_page.specs.PageValues.{is_exact, exact_json, natural_json, integer_json, negative_json}
use Rattle.trace_page.specs.PageValues.{time_json, index_json, kind_tag}
use Rattle.trace_page.specs.PageValues.{special_name, IsFloat, Tables, IsIndexOf, IsPooled, ArePairTexts, IsPageValue}
use Rattle.trace_page.specs.PageValues.{ArePageItems, ArePagePairs, ArePageValues}
use Rattle.trace_page.specs.Pages.{AreEventValues, times_of, start_of, IsStack, columns_json, IsPageJson}
use Rattle.trace_page.specs.Pages.{PageReadsBack}
use Rattle.trace_page.specs.declared.clocks.FileClock.{FileClock}
use Rattle.trace_page.specs.declared.schemas.PageSchema.{PageSchema}

along : (j i : Json) (n : ℕ) → j ≡ i → depth i ≤ n → depth j ≤ n
along j i n same le = subst (λ (x : Json). depth x ≤ n) (sym same) le

all_along : (js is : List Json) (n : ℕ) → js ≡ is → items_depth (items_of is) ≤ n → items_depth (items_of js) ≤ n
all_along js is n same le = subst (λ (l : List Json). items_depth (items_of l) ≤ n) (sym same) le

-- ---- lists

joined : (js is : List Json) (n : ℕ) → items_depth (items_of js) ≤ n → items_depth (items_of is) ≤ n →
    items_depth (items_of (js ++ is)) ≤ n
joined [] is n a b = b
joined (j ∷ js) is n a b = omega (arith, joined js is n (omega arith) b)

mapped : {A : Type 0} (f : A → Json) (n : ℕ) → ((x : A) → depth (f x) ≤ n) → (xs : List A) →
    items_depth (items_of (list_map f xs)) ≤ n
mapped f n each [] = omega arith
mapped f n each (x ∷ xs) = omega (arith, each x, mapped f n each xs)

-- ---- what holds no values

exact_by : (b : Bool) (digits : List ℕ) → depth (exact_json b digits) ≤ 0
exact_by true digits = omega arith
exact_by false digits = omega arith

natural_depth : (n : ℕ) → depth (natural_json n) ≤ 0
natural_depth n = exact_by (is_exact n) (decimal n)

integer_depth : (z : ℤ) → depth (integer_json z) ≤ 0
integer_depth z = exact_by (is_exact (unsigned_abs z)) (signed_decimal z)

negative_depth : (n : ℕ) → depth (negative_json n) ≤ 0
negative_depth n = exact_by (is_exact n) (codes "-" ++ decimal n)

time_by : (b : Bool) (j i : Json) → depth j ≤ 0 → depth i ≤ 0 → depth (if b then j else i) ≤ 0
time_by true j i low other = low
time_by false j i low other = other

time_depth : (start time : ℕ) → depth (time_json start time) ≤ 0
time_depth start time =
    time_by (nat_le start time) (natural_json (time - start)) (negative_json (start - time))
    (natural_depth (time - start)) (negative_depth (start - time))

float_by :
    (b : Bool) (n : ℕ) (s : List ℕ) (j : Json) →
    MatchBool b ((t : List ℕ) × IsNumeralOf n t × (j ≡ number t)) (j ≡ string s) → depth j ≤ 0
float_by true n s j h = along j (number h.0) 0 h.2 (omega arith)
float_by false n s j h = along j (string s) 0 h (omega arith)

float_depth : (n : ℕ) (j : Json) → IsFloat n j → depth j ≤ 0
float_depth n j h = float_by (float_is_finite (from_bits binary64 n)) n (special_name n) j h

index_depth : (xs : List (List ℕ)) (x : List ℕ) (j : Json) → IsIndexOf xs x j → depth j ≤ 0
index_depth xs x j h = along j (index_json h.0) 0 h.2 (omega arith)

pooled_depth : (xs : List (List ℕ)) (id : ℕ) (o : Option (List ℕ)) (j : Json) → IsPooled xs id o j → depth j ≤ 1
pooled_depth xs id (Some x) j h = omega (arith, index_depth xs x j h)
pooled_depth xs id None j h = along j _ 1 h (omega arith)

texts_depth : (strings : List (List ℕ)) (ps : List (List ℕ × List ℕ)) (js : List Json) → ArePairTexts strings ps js →
    items_depth (items_of js) ≤ 0
texts_depth strings [] js h = all_along js [] 0 h (omega arith)
texts_depth strings (p ∷ ps) js h =
    all_along js (h.0 ∷ h.1 ∷ h.2) 0 h.3
    (omega (arith, index_depth strings _ h.0 h.4, index_depth strings _ h.1 h.5, texts_depth strings ps h.2 h.6))

-- ---- values, by the depth at which they stand

flat : (d : ℕ) (j : Json) → d ≤ 32 → depth j ≤ 1 → depth j + d ≤ 33
flat d j low le = omega arith

same : (d : ℕ) (j i : Json) → d ≤ 32 → j ≡ i → depth i ≤ 1 → depth j + d ≤ 33
same d j i low is le = flat d j low (along j i 1 is le)

mutual
  value_depth :
      (t : Tables) (p : Pools) (k : Kind) (ty : FieldType) (d : ℕ) (b : List ℕ) (v : Value) (j : Json) →
      IsValue k ty d b v → IsPageValue t p v j → depth j + d ≤ 33
  value_depth t p k ty d b (values.integer z) j h is =
      same d j (integer_json z) h.0 is (omega (arith, integer_depth z))
  value_depth t p k ty d b (values.float n) j h is = flat d j h.0 (omega (arith, float_depth n j is))
  value_depth t p k ty d b (values.boolean x) j h is = same d j _ h.0 is (omega arith)
  value_depth t p k ty d b (values.text s) j h is = flat d j h.0 (omega (arith, index_depth t.strings _ j is))
  value_depth t p k ty d b (values.bytes s) j h is = flat d j h.0 (omega (arith, index_depth t.strings _ j is))
  value_depth t p k ty d b (values.pooled_stack id) j h is =
      flat d j h.0 (pooled_depth t.stacks id (finmap.get p.stacks id) j is)
  value_depth t p k ty d b (values.pooled_text id) j h is =
      flat d j h.0 (pooled_depth t.strings id (finmap.get p.strings id) j is)
  value_depth t p k ty d b (values.stack xs) j h is = flat d j h.0 (omega (arith, index_depth t.stacks _ j is))
  value_depth t p k ty d b (values.number n) j h is =
      same d j (natural_json n) h.0 is (omega (arith, natural_depth n))
  value_depth t p k ty d b (values.texts ps) j h is =
      same d j (list_json is.0) h.0 is.2 (omega (arith, texts_depth t.strings ps is.0 is.1))
  value_depth t p k ty d b (values.list vs) j h is =
      let low : d ≤ 32 = h.0 in
      let inside : items_depth (items_of is.0) + (d + 1) ≤ 33 =
      items_in t p k (d + 1) h.3 vs is.0 (omega arith) h.5 is.1 in
      let le : depth (list_json is.0) + d ≤ 33 = omega arith in
      subst (λ (x : Json). depth x + d ≤ 33) (sym is.2) le
  value_depth t p k ty d b (values.map ps) j h is =
      let low : d ≤ 32 = h.0 in
      let inside : items_depth (items_of is.0) + (d + 1) ≤ 33 =
      pairs_in t p k (d + 1) h.3 ps is.0 (omega arith) h.5 is.1 in
      let le : depth (list_json is.0) + d ≤ 33 = omega arith in
      subst (λ (x : Json). depth x + d ≤ 33) (sym is.2) le
  value_depth t p k ty d b values.absent j h is = same d j _ h.0 is (omega arith)

  items_in :
      (t : Tables) (p : Pools) (k : Kind) (d : ℕ) (b : List ℕ) (vs : Items) (js : List Json) → d ≤ 33 →
      AreItems k d b vs → ArePageItems t p vs js → items_depth (items_of js) + d ≤ 33
  items_in t p k d b values.no_items js low h is =
      let none : items_depth (items_of []) + d ≤ 33 = omega arith in
      subst (λ (l : List Json). items_depth (items_of l) + d ≤ 33) (sym is) none
  items_in t p k d b (values.item v vs) js low h is =
      let one : depth is.0 + d ≤ 33 = value_depth t p k h.3.0 d h.3.1 v is.0 h.3.3 is.3 in
      let others : items_depth (items_of is.1) + d ≤ 33 = items_in t p k d h.1 vs is.1 low h.4 is.4 in
      let all : items_depth (items_of (index_json (kind_tag v) ∷ is.0 ∷ is.1)) + d ≤ 33 = omega arith in
      subst (λ (l : List Json). items_depth (items_of l) + d ≤ 33) (sym is.2) all

  pairs_in :
      (t : Tables) (p : Pools) (k : Kind) (d : ℕ) (b : List ℕ) (ps : Pairs) (js : List Json) → d ≤ 33 →
      ArePairs k d b ps → ArePagePairs t p ps js → items_depth (items_of js) + d ≤ 33
  pairs_in t p k d b values.no_pairs js low h is =
      let none : items_depth (items_of []) + d ≤ 33 = omega arith in
      subst (λ (l : List Json). items_depth (items_of l) + d ≤ 33) (sym is) none
  pairs_in t p k d b (values.pair x y ps) js low h is =
      let key : depth is.0 + d ≤ 33 = value_depth t p k h.4.0 d h.4.1 x is.0 h.4.3 is.4 in
      let value : depth is.1 + d ≤ 33 = value_depth t p k h.5.0 d h.5.1 y is.1 h.5.3 is.5 in
      let others : items_depth (items_of is.2) + d ≤ 33 = pairs_in t p k d h.2 ps is.2 low h.6 is.6 in
      let all :
      items_depth (items_of (index_json (kind_tag x) ∷ is.0 ∷ index_json (kind_tag y) ∷ is.1 ∷ is.2)) + d ≤ 33 =
      omega arith in
      subst (λ (l : List Json). items_depth (items_of l) + d ≤ 33) (sym is.3) all

-- ---- the values of events

field_by :
    (o : Bool) (t : Tables) (p : Pools) (k : Kind) (ty : FieldType) (b : List ℕ) (v : Value) (j : Json) →
    IsFieldBy o k ty b v → IsPageValue t p v j → depth j ≤ 33
field_by false t p k ty b v j h is = omega (arith, value_depth t p k ty 0 b v j h is)
field_by true t p k ty b v j (inl none) is =
    along j null 33 (subst (λ (u : Value). IsPageValue t p u j) none.1 is) (omega arith)
field_by true t p k ty b v j (inr some) is = omega (arith, value_depth t p k ty 0 some.1 v j some.5 is)

own_depth :
    (t : Tables) (p : Pools) (k : Kind) (tys : List FieldType) (b : List ℕ) (vs : List Value) (js : List Json) →
    AreFields k tys b vs → ArePageValues t p vs js → items_depth (items_of js) ≤ 33
own_depth t p k [] b [] [] h is = omega arith
own_depth t p k (ty ∷ tys) b (v ∷ vs) (j ∷ js) h is =
    omega (arith, field_by (is_optional ty) t p k ty h.0 v j h.3 is.0, own_depth t p k tys h.1 vs js h.4 is.1)
own_depth t p k tys b [] (j ∷ js) h is = absurd is
own_depth t p k tys b (v ∷ vs) [] h is = absurd is
own_depth t p k (ty ∷ tys) b [] [] h is = absurd h
own_depth t p k [] b (v ∷ vs) (j ∷ js) h is = absurd h

values_depth : (t : Tables) (es : List PageEvent) (js : List Json) → All (λ e. IsOfRun e.shown) es →
    AreEventValues t es js → items_depth (items_of js) ≤ 33
values_depth t [] js runs is = all_along js [] 33 is (omega arith)
values_depth t (e ∷ es) js runs is =
    let OfRun : PageEvent → Type 0 = λ e. IsOfRun e.shown in
    let s = event_spelled e.shown (All-head OfRun e es runs) in
    all_along js (is.0 ++ is.1) 33 is.2
    (joined is.0 is.1 33 (own_depth t e.shown.pools s.kind s.types s.bytes e.shown.values is.0 s.fields is.3)
    (values_depth t es is.1 (All-tail OfRun e es runs) is.4))

-- ---- stacks, schemas and clocks

indexes_depth : (strings xs : List (List ℕ)) (js : List Json) → AllZip (IsIndexOf strings) xs js →
    items_depth (items_of js) ≤ 0
indexes_depth strings [] [] h = omega arith
indexes_depth strings (x ∷ xs) (j ∷ js) h =
    omega (arith, index_depth strings x j h.0, indexes_depth strings xs js h.1)
indexes_depth strings [] (j ∷ js) h = absurd h
indexes_depth strings (x ∷ xs) [] h = absurd h

stacks_depth : (strings stacks : List (List ℕ)) (js : List Json) → AllZip (IsStack strings) stacks js →
    items_depth (items_of js) ≤ 1
stacks_depth strings [] [] h = omega arith
stacks_depth strings (xs ∷ stacks) (j ∷ js) h =
    let one : depth j ≤ 1 =
    along j (list_json h.0.0) 1 h.0.2 (omega (arith, indexes_depth strings (list_map address_text xs) h.0.0 h.0.1)) in
    omega (arith, one, stacks_depth strings stacks js h.1)
stacks_depth strings [] (j ∷ js) h = absurd h
stacks_depth strings (xs ∷ stacks) [] h = absurd h

text_depth : (o : Option (List ℕ)) → depth (text_or_null o) ≤ 0
text_depth (Some s) = omega arith
text_depth None = omega arith

role_depth : (o : Option ℕ) → depth (index_or_null o) ≤ 0
role_depth (Some i) = omega arith
role_depth None = omega arith

roles_by :
    (track duration name : Option ℕ) (begin end : Option (List ℕ)) →
    depth (object_json ((codes "tid", index_or_null track) ∷ (codes "duration", index_or_null duration)
    ∷ (codes "name", index_or_null name) ∷ (codes "begin", text_or_null begin) ∷ (codes "end", text_or_null end) ∷ []))
    ≤ 1
roles_by track duration name begin end =
    omega (arith, role_depth track, role_depth duration, role_depth name, text_depth begin, text_depth end)

roles_depth : (e : Entry) → depth (roles_json e) ≤ 1
roles_depth e =
    roles_by (track_of e) (field_with_role e (codes "duration")) (field_with_role e (codes "name"))
    (note_of e of_schema (codes "begin")) (note_of e of_schema (codes "end"))

field_by_parts :
    (name digits : List ℕ) (unit counter : Option (List ℕ)) →
    depth (object_json ((codes "name", string name) ∷ (codes "type", number digits)
    ∷ (codes "unit", text_or_null unit) ∷ (codes "counter", text_or_null counter) ∷ [])) ≤ 1
field_by_parts name digits unit counter = omega (arith, text_depth unit, text_depth counter)

field_depth : (e : Entry) (i : ℕ) (f : Field) → depth (field_json e i f) ≤ 1
field_depth e i f = field_by_parts f.name (decimal (tag f.field_type)) (unit_at e i) (counter_at e i)

at_depth : (e : Entry) (i : ℕ) (o : Option Field) → items_depth (items_of (field_at e i o)) ≤ 1
at_depth e i (Some f) = omega (arith, field_depth e i f)
at_depth e i None = omega arith

fields_depth : (e : Entry) (n : ℕ) → items_depth (items_of (first_fields e n)) ≤ 1
fields_depth e zero = omega arith
fields_depth e (suc n) =
    joined (first_fields e n) (field_at e n (slice_get e.fields n)) 1 (fields_depth e n)
    (at_depth e n (slice_get e.fields n))

schema_by :
    (name : List ℕ) (bytes roles : Json) (fields : List Json) → depth bytes ≤ 0 → depth roles ≤ 1 →
    items_depth (items_of fields) ≤ 1 →
    depth (object_json ((codes "name", string name) ∷ (codes "bytes", bytes) ∷ (codes "roles", roles)
    ∷ (codes "fields", list_json fields) ∷ [])) ≤ 3
schema_by name bytes roles fields a b c = omega (arith, a, b, c)

schema_depth : (s : PageSchema) → depth (schema_json s) ≤ 3
schema_depth s =
    let count = length s.entry.fields in
    schema_by s.entry.name (natural_json s.bytes) (roles_json s.entry) (first_fields s.entry count)
    (natural_depth s.bytes) (roles_depth s.entry) (fields_depth s.entry count)

zero_depth : (o : Option ℤ) → depth (zero_json o) ≤ 0
zero_depth (Some z) = omega arith
zero_depth None = omega arith

clock_depth : (c : FileClock) → depth (clock_json c) ≤ 1
clock_depth c = omega (arith, zero_depth c.zero)

-- ---- the whole

columns_depth :
    (values times places : List Json) → items_depth (items_of values) ≤ 33 → items_depth (items_of times) ≤ 0 →
    items_depth (items_of places) ≤ 0 →
    depth (object_json ((codes "values", list_json values) ∷ (codes "time", list_json times)
    ∷ (codes "schema", list_json places) ∷ [])) ≤ 35
columns_depth values times places a b c = omega (arith, a, b, c)

-- the members of a page after its columns, by the lists that are in them
abbrev rest_of : List Json → List Json → List Json → List Json → List ℕ → Json → List ℕ → List (List ℕ × Json)
rest_of stacks strings schemas clocks start end name =
    (codes "stacks", list_json stacks) ∷ (codes "strings", list_json strings) ∷ (codes "schemas", list_json schemas)
    ∷ (codes "clocks", list_json clocks) ∷ (codes "start", string start) ∷ (codes "end", end)
    ∷ (codes "name", string name) ∷ []

-- so deep nests what is in them
record AreShallow (stacks strings schemas clocks : List Json) (end : Json) : Type 0 where
  stacks_are : items_depth (items_of stacks) ≤ 1
  strings_are : items_depth (items_of strings) ≤ 0
  schemas_are : items_depth (items_of schemas) ≤ 3
  clocks_are : items_depth (items_of clocks) ≤ 1
  end_is : depth end ≤ 0

rest_depth :
    (stacks strings schemas clocks : List Json) (start : List ℕ) (end : Json) (name : List ℕ) →
    AreShallow stacks strings schemas clocks end →
    members_depth (members_of (rest_of stacks strings schemas clocks start end name)) ≤ 4
rest_depth stacks strings schemas clocks start end name h =
    omega (arith, h.stacks_are, h.strings_are, h.schemas_are, h.clocks_are, h.end_is)

whole_depth :
    (digits : List ℕ) (columns : Json) (rest : List (List ℕ × Json)) → depth columns ≤ 35 →
    members_depth (members_of rest) ≤ 4 →
    depth (object_json ((codes "format", number digits) ∷ (codes "events", columns) ∷ rest)) ≤ 128
whole_depth digits columns rest a b = omega (arith, a, b)

page_depth :
    (files : List PageFile) (name : List ℕ) (end : Option (List ℕ)) (j : Json) →
    All (λ e. IsOfRun e.shown) (events_of files) → IsPageJson files name end j → depth j ≤ 128
page_depth files name end j runs is =
    let times = times_of (events_of files) in
    let timed = list_map (time_json (start_of times)) times in
    let placed = list_map index_json is.places in
    let strings = list_map string is.tables.strings in
    let schemas = list_map schema_json is.schemas in
    let clocks = list_map clock_json (clocks_of 0 files) in
    let columns = columns_depth is.values timed placed
    (values_depth is.tables (events_of files) is.values runs is.values_are)
    (mapped (time_json (start_of times)) 0 (time_depth (start_of times)) times)
    (mapped index_json 0 (λ i. omega arith) is.places) in
    let rest = rest_depth is.stacks strings schemas clocks (decimal (start_of times)) (text_or_null end) name
    (record {
      stacks_are = stacks_depth is.tables.strings is.tables.stacks is.stacks is.stacks_are;
      strings_are = mapped string 0 (λ s. omega arith) is.tables.strings;
      schemas_are = mapped schema_json 3 schema_depth is.schemas;
      clocks_are = mapped clock_json 1 clock_depth (clocks_of 0 files);
      end_is = text_depth end;
    }) in
    along j _ 128 is.is (whole_depth (decimal 1) (columns_json is.values times is.places)
    (rest_of is.stacks strings schemas clocks (decimal (start_of times)) (text_or_null end) name) columns rest)

-- and so its text is read back
pub page_reads_back : PageReadsBack
page_reads_back files name end text runs page =
    page.reads_back (page_depth files name end page.json runs page.is_page)
