-- What JSON the data of a page is, and its text.
use Rattle.std.specs.Prelude.{◌≡◌, ◌≤◌, ℕ, List, [], ◌∷◌, ◌++◌, Option, Some, codes, get_or, map as list_map}
use Rattle.std.specs.Fmt.{decimal}
use Rattle.std.specs.List.{All, AllZip}
use Rattle.json.specs.Json.{Json, number, string, document, max_depth}
use Rattle.json.specs.Tree.{depth}
use Rattle.trace_values.specs.AddressTexts.{address_text}
use Rattle.trace_json.specs.EventJson.{list_json, object_json}
use Rattle.trace_json.specs.Laws.{IsOfRun}
use Rattle.trace_json.specs.Lines.{json_text}
use Rattle.trace_page.specs.Counting.{PageEvent, AreCounted}
use Rattle.trace_page.specs.Escaping.{escaped}
use Rattle.trace_page.specs.Files.{PageFile, events_of, clocks_of, clock_json}
use Rattle.trace_page.specs.PageValues.{Tables, IsIndexOf, ArePageValues, index_json, time_json}
use Rattle.trace_page.specs.PageSchemas.{schema_json, text_or_null}
use Rattle.trace_page.specs.declared.schemas.PageSchema.{PageSchema}

-- ---- columns

-- the values of events, those of the first and then those of the others
abbrev pub AreEventValues : Tables → List PageEvent → List Json → Type 0
AreEventValues t [] js = js ≡ []
AreEventValues t (e ∷ es) js =
    (own : List Json) × (rest : List Json) × (js ≡ own ++ rest) × ArePageValues t e.shown.pools e.shown.values own
    × AreEventValues t es rest

abbrev pub times_of : List PageEvent → List ℕ
times_of es = list_map (λ e. e.shown.time) es

-- the time of the first event, 0 where there is none
abbrev pub start_of : List ℕ → ℕ
start_of times = get_or times 0 0

-- ---- the whole

-- a stack: the indexes of the texts of its addresses
abbrev pub IsStack : List (List ℕ) → List ℕ → Json → Type 0
IsStack strings addresses j =
    (js : List Json) × AllZip (IsIndexOf strings) (list_map address_text addresses) js × (j ≡ list_json js)

-- the columns of the events
abbrev pub columns_json : List Json → List ℕ → List ℕ → Json
columns_json values times places =
    object_json
    ((codes "values", list_json values) ∷ (codes "time", list_json (list_map (time_json (start_of times)) times))
    ∷ (codes "schema", list_json (list_map index_json places)) ∷ [])

-- The data of a page of the events of these files, under a name, with why reading ended.
pub record IsPageJson (files : List PageFile) (name : List ℕ) (end : Option (List ℕ)) (j : Json) : Type 0 where
  pub tables : Tables
  pub values : List Json
  pub places : List ℕ
  pub schemas : List PageSchema
  pub stacks : List Json
  pub values_are : AreEventValues tables (events_of files) values
  pub schemas_are : AreCounted [] (events_of files) places schemas
  pub stacks_are : AllZip (IsStack tables.strings) tables.stacks stacks
  pub is : j ≡ object_json
      ((codes "format", number (decimal 1)) ∷ (codes "events", columns_json values (times_of (events_of files)) places)
      ∷ (codes "stacks", list_json stacks) ∷ (codes "strings", list_json (list_map string tables.strings))
      ∷ (codes "schemas", list_json (list_map schema_json schemas))
      ∷ (codes "clocks", list_json (list_map clock_json (clocks_of 0 files)))
      ∷ (codes "start", string (decimal (start_of (times_of (events_of files))))) ∷ (codes "end", text_or_null end)
      ∷ (codes "name", string name) ∷ [])

-- The text of that data. Once it is escaped it is read back as the data, where this nests no deeper than readers go.
pub record IsPageText (files : List PageFile) (name : List ℕ) (end : Option (List ℕ)) (text : List ℕ) : Type 0 where
  pub json : Json
  pub is_page : IsPageJson files name end json
  pub is : text ≡ json_text json
  pub reads_back : depth json ≤ max_depth → document (escaped text) ≡ Some json

-- where all events are of runs, it is read back as the data
abbrev pub PageReadsBack : Type 0
PageReadsBack =
    (files : List PageFile) (name : List ℕ) (end : Option (List ℕ)) (text : List ℕ) →
    All (λ e. IsOfRun e.shown) (events_of files) → (page : IsPageText files name end text) →
    document (escaped text) ≡ Some page.json
