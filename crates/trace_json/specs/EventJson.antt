-- What JSON an event is.
use Rattle.std.specs.Prelude.{◌≡◌, ℕ, ◌==◌, if◌then◌else◌, List, [], ◌∷◌, ◌++◌, drop, get_or}
use Rattle.std.specs.Prelude.{map as list_map, Option, Some, None, codes, from_bits}
use Rattle.std.specs.Borrow.{Bor}
use Rattle.std.specs.Bool.{MatchBool}
use Rattle.std.specs.FinMap as finmap
use Rattle.std.specs.Float.{float_is_finite}
use Rattle.std.specs.Float.Ieee.{binary64}
use Rattle.std.specs.Float.Parse.{parse_float}
use Rattle.std.specs.Fmt.{decimal, signed_decimal}
use Rattle.std.specs.Str.{is_utf8}
use Rattle.hex.specs.Hex.{encode_lower}
use Rattle.json.specs.Json.{Json, null, boolean, number, string, array, object, Items, no_items, item}
use Rattle.json.specs.Json.{Members, no_members, member}
use Rattle.ryu.specs.Plain.{IsPlainNumber}
use Rattle.trace_values.specs.AddressTexts.{address_text}
use Rattle.trace_values.specs.Values.{Value}
use Rattle.trace_values.specs.Values as values
use Rattle.trace_wire.specs.Runs.{Pools}
use Rattle.dial9_trace_format.specs.ShownEvents.{ShownEvent, names_of}

-- ---- lists and objects

-- values as the items of a list
abbrev pub items_of : List Json → Items
items_of [] = no_items
items_of (j ∷ js) = item j (items_of js)

-- names and values as the members of an object
abbrev pub members_of : List (List ℕ × Json) → Members
members_of [] = no_members
members_of (m ∷ ms) = member m.0 m.1 (members_of ms)

-- a list of these
abbrev pub list_json : List Json → Json
list_json js = array (items_of js)

-- an object of these members, each a name and a value, in order
abbrev pub object_json : List (List ℕ × Json) → Json
object_json ms = object (members_of ms)

-- ---- parts of values

-- bytes: an object whose member `hex` has two hexadecimal digits for each
abbrev pub bytes_json : List ℕ → Json
bytes_json s = object_json ((codes "hex", string (encode_lower s)) ∷ [])

-- a key or a value of a map of texts: a string, or as bytes are where it is not UTF-8
abbrev pub text_json : List ℕ → Json
text_json s = if is_utf8 s then string s else bytes_json s

-- a key and a value: a list of both
abbrev pub pair_json : Json → Json → Json
pair_json key value = list_json (key ∷ value ∷ [])

abbrev pub text_pair_json : List ℕ × List ℕ → Json
text_pair_json p = pair_json (text_json p.0) (text_json p.1)

-- a map of texts: a list of its pairs
abbrev pub texts_json : List (List ℕ × List ℕ) → Json
texts_json ps = list_json (list_map text_pair_json ps)

-- an address
abbrev pub address_json : ℕ → Json
address_json a = string (address_text a)

-- a stack: a list of the texts of its addresses
abbrev pub stack_json : List ℕ → Json
stack_json xs = list_json (list_map address_json xs)

-- an id under which the pool holds nothing: an object of it
abbrev pub id_json : List ℕ → ℕ → Json
id_json name id = object_json ((name, number (decimal id)) ∷ [])

-- what the pool of texts, or of stacks, holds under an id
abbrev pub pooled_text_json : ℕ → Option (List ℕ) → Json
pooled_text_json id (Some s) = string s
pooled_text_json id None = id_json (codes "unresolved_text") id

abbrev pub pooled_stack_json : ℕ → Option (List ℕ) → Json
pooled_stack_json id (Some xs) = stack_json xs
pooled_stack_json id None = id_json (codes "unresolved_stack") id

-- ---- floats

-- the bits of both infinities
abbrev pub infinity_bits : ℕ
infinity_bits = 0x7ff0_0000_0000_0000

abbrev pub minus_infinity_bits : ℕ
minus_infinity_bits = 0xfff0_0000_0000_0000

-- the text of a float that is infinite or no number; the latter has its bits, as addresses are told
abbrev pub special_text : ℕ → List ℕ
special_text n =
    if n == infinity_bits then codes "Infinity"
    else if n == minus_infinity_bits then codes "-Infinity" else codes "NaN:" ++ address_text n

-- a numeral with a point or an exponent that is read back as the float of these bits
abbrev pub IsNumeralOf : ℕ → List ℕ → Type 0
IsNumeralOf n s = IsPlainNumber s × (parse_float binary64 s ≡ Some (from_bits binary64 n))

-- a float, by its bits: a numeral where it is finite, else its text
abbrev pub IsFloatJson : ℕ → Json → Type 0
IsFloatJson n j =
    MatchBool (float_is_finite (from_bits binary64 n)) ((s : List ℕ) × IsNumeralOf n s × (j ≡ number s))
    (j ≡ string (special_text n))

-- ---- values

-- a list of two of which these things are so
abbrev pub IsPairOf : (Json → Type 0) → (Json → Type 0) → Json → Type 0
IsPairOf is_key is_value j =
    (key : Json) × (value : Json) × is_key key × is_value value × (j ≡ pair_json key value)

-- what a value is, with what the pools hold in place of ids; lists and maps are lists, of items and of pairs
abbrev mutual
  pub IsValueJson : Pools → Value → Json → Type 0
  IsValueJson p (values.integer z) j = j ≡ number (signed_decimal z)
  IsValueJson p (values.float n) j = IsFloatJson n j
  IsValueJson p (values.boolean b) j = j ≡ boolean b
  IsValueJson p (values.text s) j = j ≡ string s
  IsValueJson p (values.bytes s) j = j ≡ bytes_json s
  IsValueJson p (values.pooled_stack id) j = j ≡ pooled_stack_json id (finmap.get p.stacks id)
  IsValueJson p (values.pooled_text id) j = j ≡ pooled_text_json id (finmap.get p.strings id)
  IsValueJson p (values.stack xs) j = j ≡ stack_json xs
  IsValueJson p (values.number n) j = j ≡ number (decimal n)
  IsValueJson p (values.texts ps) j = j ≡ texts_json ps
  IsValueJson p (values.list vs) j = (js : List Json) × AreItemsJson p vs js × (j ≡ list_json js)
  IsValueJson p (values.map ps) j = (js : List Json) × ArePairsJson p ps js × (j ≡ list_json js)
  IsValueJson p values.absent j = j ≡ null

  pub AreItemsJson : Pools → values.Items → List Json → Type 0
  AreItemsJson p values.no_items js = js ≡ []
  AreItemsJson p (values.item v vs) js =
      (j : Json) × (rest : List Json) × (js ≡ j ∷ rest) × IsValueJson p v j × AreItemsJson p vs rest

  pub ArePairsJson : Pools → values.Pairs → List Json → Type 0
  ArePairsJson p values.no_pairs js = js ≡ []
  ArePairsJson p (values.pair x y ps) js =
      (j : Json) × (rest : List Json) × (js ≡ j ∷ rest)
      × IsPairOf (λ key. IsValueJson p x key) (λ value. IsValueJson p y value) j × ArePairsJson p ps rest

-- ---- events

-- values as members: each under the name of the same index, and where there is none under the empty one
abbrev pub AreFieldsJson : Pools → List (List ℕ) → List Value → List (List ℕ × Json) → Type 0
AreFieldsJson p names [] ms = ms ≡ []
AreFieldsJson p names (v ∷ vs) ms =
    (j : Json) × (rest : List (List ℕ × Json)) × (ms ≡ (get_or names 0 [], j) ∷ rest) × IsValueJson p v j
    × AreFieldsJson p (drop 1 names) vs rest

-- the fields of an event: an object
abbrev pub IsFieldsJson : ShownEvent → Json → Type 0
IsFieldsJson e j =
    (fields : List (List ℕ × Json)) × AreFieldsJson e.pools (names_of e.entry.fields) e.values fields
    × (j ≡ object_json fields)

-- a name, a time in nanoseconds, and fields
abbrev pub event_members : List ℕ → ℕ → Json → List (List ℕ × Json)
event_members name time fields =
    (codes "event", string name) ∷ (codes "timestamp_ns", number (decimal time)) ∷ (codes "fields", fields) ∷ []

-- an object of these
abbrev pub event_json : List ℕ → ℕ → Json → Json
event_json name time fields = object_json (event_members name time fields)

-- an event
abbrev pub IsEventJson : ShownEvent → Json → Type 0
IsEventJson e j = (fields : Json) × IsFieldsJson e fields × (j ≡ event_json e.name e.time fields)

-- the name of a file, where one is told
abbrev pub file_members : Option (Bor (List ℕ)) → List (List ℕ × Json)
file_members None = []
file_members (Some name) = (codes "file", string name.now) ∷ []

-- an event, the name of its file before its other members where one is told
abbrev pub IsFiledJson : Option (Bor (List ℕ)) → ShownEvent → Json → Type 0
IsFiledJson file e j =
    (fields : Json) × IsFieldsJson e fields
    × (j ≡ object_json (file_members file ++ event_members e.name e.time fields))
