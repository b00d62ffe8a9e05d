-- What JSON a value of an event is in the data of a page.
use Rattle.std.specs.Prelude.{◌≡◌, ℕ, ℤ, ◌-◌, Bool, List, [], ◌∷◌, ◌++◌, ◌==◌, if◌then◌else◌, Option, Some}
use Rattle.std.specs.Prelude.{None, codes, from_bits, nat_le, slice_get, unsigned_abs}
use Rattle.std.specs.Bool.{MatchBool}
use Rattle.std.specs.FinMap as finmap
use Rattle.std.specs.Float.{float_is_finite}
use Rattle.std.specs.Float.Ieee.{binary64}
use Rattle.std.specs.Fmt.{decimal, signed_decimal}
use Rattle.std.specs.List.{AllZip}
use Rattle.std.specs.Str.{is_utf8}
use Rattle.hex.specs.Hex.{encode_lower}
use Rattle.json.specs.Json.{Json, null, boolean, number, string}
use Rattle.trace_values.specs.Values.{Value}
use Rattle.trace_values.specs.Values as values
use Rattle.trace_wire.specs.Runs.{Pools}
use Rattle.trace_json.specs.EventJson.{list_json, object_json, infinity_bits, minus_infinity_bits, IsNumeralOf}

-- ---- numbers

-- the greatest whole number up to which a double has each
abbrev pub most_exact : ℕ
most_exact = 9007199254740991

-- whether a double has each whole number up to this one
abbrev pub is_exact : ℕ → Bool
is_exact n = nat_le n most_exact

-- the digits of a whole number: a number where a double has it, else a string
abbrev pub exact_json : Bool → List ℕ → Json
exact_json fits digits = if fits then number digits else string digits

-- a whole number from 0 on, of either sign, and below 0 by so much
abbrev pub natural_json : ℕ → Json
natural_json n = exact_json (is_exact n) (decimal n)

abbrev pub integer_json : ℤ → Json
integer_json z = exact_json (is_exact (unsigned_abs z)) (signed_decimal z)

abbrev pub negative_json : ℕ → Json
negative_json n = exact_json (is_exact n) (codes "-" ++ decimal n)

-- a time less the time of the first event
abbrev pub time_json : ℕ → ℕ → Json
time_json start time = if nat_le start time then natural_json (time - start) else negative_json (start - time)

-- an index
abbrev pub index_json : ℕ → Json
index_json i = number (decimal i)

-- the name of a float that is infinite or no number, by its bits
abbrev pub special_name : ℕ → List ℕ
special_name n =
    if n == infinity_bits then codes "Infinity"
    else if n == minus_infinity_bits then codes "-Infinity" else codes "NaN"

-- a float, by its bits: a numeral that is read back as it where it is finite, else its name
abbrev pub IsFloat : ℕ → Json → Type 0
IsFloat n j =
    MatchBool (float_is_finite (from_bits binary64 n)) ((s : List ℕ) × IsNumeralOf n s × (j ≡ number s))
    (j ≡ string (special_name n))

-- ---- texts and stacks, by their indexes

-- the texts and the stacks that values name
pub record Tables : Type 0 where
  pub strings : List (List ℕ)
  pub stacks : List (List ℕ)

-- an index at which the list has this
abbrev pub IsIndexOf : List (List ℕ) → List ℕ → Json → Type 0
IsIndexOf xs x j = (i : ℕ) × (slice_get xs i ≡ Some x) × (j ≡ index_json i)

-- an id under which a pool holds nothing
abbrev pub unknown_json : ℕ → Json
unknown_json id = object_json ((codes "unknown", number (decimal id)) ∷ [])

-- what a pool holds under an id, or the id
abbrev pub IsPooled : List (List ℕ) → ℕ → Option (List ℕ) → Json → Type 0
IsPooled xs id (Some x) j = IsIndexOf xs x j
IsPooled xs id None j = j ≡ unknown_json id

-- a key or a value of a map of texts: itself, or its digits where it is not UTF-8
abbrev pub text_or_digits : List ℕ → List ℕ
text_or_digits s = if is_utf8 s then s else encode_lower s

-- keys and values, one after another
abbrev pub ArePairTexts : List (List ℕ) → List (List ℕ × List ℕ) → List Json → Type 0
ArePairTexts strings [] js = js ≡ []
ArePairTexts strings (p ∷ ps) js =
    (key : Json) × (value : Json) × (rest : List Json) × (js ≡ key ∷ value ∷ rest)
    × IsIndexOf strings (text_or_digits p.0) key × IsIndexOf strings (text_or_digits p.1) value
    × ArePairTexts strings ps rest

-- a map of texts: a list of them
abbrev pub AreTexts : List (List ℕ) → List (List ℕ × List ℕ) → Json → Type 0
AreTexts strings ps j = (js : List Json) × ArePairTexts strings ps js × (j ≡ list_json js)

-- ---- values

-- the tag of the field type that has values of its kind alone, with what a pool holds in place of an id
abbrev pub kind_tag : Value → ℕ
kind_tag (values.integer z) = 1
kind_tag (values.float n) = 2
kind_tag (values.boolean b) = 3
kind_tag (values.text s) = 4
kind_tag (values.bytes s) = 5
kind_tag (values.pooled_stack id) = 8
kind_tag (values.pooled_text id) = 4
kind_tag (values.stack xs) = 8
kind_tag (values.number n) = 9
kind_tag (values.texts ps) = 10
kind_tag (values.list vs) = 14
kind_tag (values.map ps) = 15
kind_tag values.absent = 0

-- what a value is; an item, a key and a value of a map stand after the tags of their kinds
abbrev mutual
  pub IsPageValue : Tables → Pools → Value → Json → Type 0
  IsPageValue t p (values.integer z) j = j ≡ integer_json z
  IsPageValue t p (values.float n) j = IsFloat n j
  IsPageValue t p (values.boolean b) j = j ≡ boolean b
  IsPageValue t p (values.text s) j = IsIndexOf t.strings s j
  IsPageValue t p (values.bytes s) j = IsIndexOf t.strings (encode_lower s) j
  IsPageValue t p (values.pooled_stack id) j = IsPooled t.stacks id (finmap.get p.stacks id) j
  IsPageValue t p (values.pooled_text id) j = IsPooled t.strings id (finmap.get p.strings id) j
  IsPageValue t p (values.stack xs) j = IsIndexOf t.stacks xs j
  IsPageValue t p (values.number n) j = j ≡ natural_json n
  IsPageValue t p (values.texts ps) j = AreTexts t.strings ps j
  IsPageValue t p (values.list vs) j = (js : List Json) × ArePageItems t p vs js × (j ≡ list_json js)
  IsPageValue t p (values.map ps) j = (js : List Json) × ArePagePairs t p ps js × (j ≡ list_json js)
  IsPageValue t p values.absent j = j ≡ null

  pub ArePageItems : Tables → Pools → values.Items → List Json → Type 0
  ArePageItems t p values.no_items js = js ≡ []
  ArePageItems t p (values.item v vs) js =
      (j : Json) × (rest : List Json) × (js ≡ index_json (kind_tag v) ∷ j ∷ rest) × IsPageValue t p v j
      × ArePageItems t p vs rest

  pub ArePagePairs : Tables → Pools → values.Pairs → List Json → Type 0
  ArePagePairs t p values.no_pairs js = js ≡ []
  ArePagePairs t p (values.pair x y ps) js =
      (i : Json) × (j : Json) × (rest : List Json)
      × (js ≡ index_json (kind_tag x) ∷ i ∷ index_json (kind_tag y) ∷ j ∷ rest) × IsPageValue t p x i
      × IsPageValue t p y j × ArePagePairs t p ps rest

-- the values of an event, in the order of its fields
abbrev pub ArePageValues : Tables → Pools → List Value → List Json → Type 0
ArePageValues t p vs js = AllZip (IsPageValue t p) vs js
