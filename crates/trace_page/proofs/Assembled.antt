-- The parts of a page make the whole.
use Rattle.std.proofs.Common.{◌≡◌, ℕ, List, [], ◌∷◌, ◌++◌, Option, map as list_map, sym, ap, ◌∙◌}
use Rattle.std.proofs.Common.{append_assoc}
use Rattle.std.specs.Fmt.{decimal}
use Rattle.std.specs.List.{flat_map}
use Rattle.std.specs.Prelude.{codes}
use Rattle.json.specs.Json.{Json, number, string}
use Rattle.json.specs.Token.{Token, begin_object, key, begin_array}
use Rattle.json.specs.Token as token
use Rattle.json.specs.Tree.{json_tokens}
use Rattle.trace_json.specs.EventJson.{list_json, object_json}
use Rattle.trace_json.specs.parts.Put.{member_tokens}
use Rattle.trace_page.specs.Files.{clock_json}
use Rattle.trace_page.specs.Holding.{head_tokens}
use Rattle.trace_page.specs.PageSchemas.{text_or_null, schema_json}
use Rattle.trace_page.specs.PageValues.{Tables}
use Rattle.trace_page.specs.Pages.{columns_json, start_of}
use Rattle.trace_page.specs.declared.clocks.FileClock.{FileClock}
use Rattle.trace_page.specs.declared.schemas.PageSchema.{PageSchema}
use Rattle.trace_page.specs.parts.Assembling.{columns_end, lists_tokens, last_tokens}
use Rattle.trace_page.proofs.Chains.{list_tokens}

-- what is said of a page, by its parts
pub record Parts : Type 0 where
  pub tables : Tables
  pub values : List Json
  pub times : List ℕ
  pub places : List ℕ
  pub schemas : List PageSchema
  pub stacks : List Json
  pub clocks : List FileClock
  pub name : List ℕ
  pub end : Option (List ℕ)

-- the whole
abbrev pub whole : Parts → Json
whole p =
    object_json
    ((codes "format", number (decimal 1)) ∷ (codes "events", columns_json p.values p.times p.places)
    ∷ (codes "stacks", list_json p.stacks) ∷ (codes "strings", list_json (list_map string p.tables.strings))
    ∷ (codes "schemas", list_json (list_map schema_json p.schemas))
    ∷ (codes "clocks", list_json (list_map clock_json p.clocks))
    ∷ (codes "start", string (decimal (start_of p.times))) ∷ (codes "end", text_or_null p.end)
    ∷ (codes "name", string p.name) ∷ [])

-- what was written of it, one after another
pub record Written (p : Parts) (all : List Token) : Type 0 where
  pub one : List Token
  pub two : List Token
  pub three : List Token
  pub four : List Token
  pub five : List Token
  pub values : one ≡ head_tokens ++ flat_map json_tokens p.values
  pub columns : two ≡ one ++ columns_end p.times p.places
  pub lists : three ≡ two ++ lists_tokens p.tables p.stacks
  pub schemas : four ≡ three ++ member_tokens (codes "schemas", list_json (list_map schema_json p.schemas))
  pub clocks : five ≡ four ++ member_tokens (codes "clocks", list_json (list_map clock_json p.clocks))
  pub last : all ≡ five ++ last_tokens (start_of p.times) p.name p.end

-- the columns, and what comes after them
columns_then : (values : List Json) (times places : List ℕ) (rest : List Token) →
    json_tokens (columns_json values times places) ++ rest
    ≡ begin_object ∷ key (codes "values") ∷ begin_array
    ∷ (flat_map json_tokens values ++ (columns_end times places ++ rest))
columns_then values times places rest = rw (list_tokens values) (simp append_assoc)

six_parts : (a b c d e f g : List Token) →
    (((((a ++ b) ++ c) ++ d) ++ e) ++ f) ++ g ≡ a ++ (b ++ (c ++ (d ++ (e ++ (f ++ g)))))
six_parts a b c d e f g = simp append_assoc

-- what stands after the columns
abbrev rest_of : Parts → List Token
rest_of p =
    member_tokens (codes "schemas", list_json (list_map schema_json p.schemas))
    ++ (member_tokens (codes "clocks", list_json (list_map clock_json p.clocks))
    ++ last_tokens (start_of p.times) p.name p.end)

parts_of : (p : Parts) → json_tokens (whole p)
    ≡ head_tokens ++ (flat_map json_tokens p.values
    ++ (columns_end p.times p.places ++ (lists_tokens p.tables p.stacks ++ rest_of p)))
parts_of p =
    let stacks = member_tokens (codes "stacks", list_json p.stacks) in
    let strings = member_tokens (codes "strings", list_json (list_map string p.tables.strings)) in
    ap (λ (t : List Token). begin_object ∷ key (codes "format") ∷ token.number (decimal 1) ∷ key (codes "events") ∷ t)
    (columns_then p.values p.times p.places (stacks ++ (strings ++ rest_of p)))
    ∙ ap (λ (t : List Token). head_tokens ++ (flat_map json_tokens p.values ++ (columns_end p.times p.places ++ t)))
    (sym (append_assoc stacks strings (rest_of p)))

pub whole_written : (p : Parts) (all : List Token) → Written p all → all ≡ json_tokens (whole p)
whole_written p all w =
    rw (w.last, w.clocks, w.schemas, w.lists, w.columns, w.values)
    (six_parts head_tokens (flat_map json_tokens p.values) (columns_end p.times p.places)
    (lists_tokens p.tables p.stacks) (member_tokens (codes "schemas", list_json (list_map schema_json p.schemas)))
    (member_tokens (codes "clocks", list_json (list_map clock_json p.clocks)))
    (last_tokens (start_of p.times) p.name p.end)
    ∙ sym (parts_of p))
