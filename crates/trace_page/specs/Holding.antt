-- What a `PageData` stands on.
use Rattle.std.specs.Prelude.{◌≡◌, ℕ, true, false, List, [], ◌∷◌, ◌++◌, String, Vec, codes, length, string_bytes}
use Rattle.std.specs.Prelude.{map as list_map}
use Rattle.std.specs.Fmt.{decimal}
use Rattle.std.specs.List.{flat_map}
use Rattle.std.specs.declared.alloc.Global.{Global}
use Rattle.indexmap.specs.IndexSet.{IndexSet}
use Rattle.json.specs.Json.{Json}
use Rattle.json.specs.Token.{Token, begin_object, key, begin_array}
use Rattle.json.specs.Token as token
use Rattle.json.specs.Tree.{json_tokens}
use Rattle.trace_page.specs.Counting.{PageEvent, AreCounted}
use Rattle.trace_page.specs.Files.{PageFile, events_of, clocks_of}
use Rattle.trace_page.specs.PageValues.{Tables}
use Rattle.trace_page.specs.Pages.{AreEventValues, times_of}
use Rattle.trace_page.specs.declared.data.PageData.{PageData}
use Rattle.trace_page.specs.declared.names.Names.{Names}

-- the texts of a set, in its order
abbrev pub texts_in : {S : Type 0} → IndexSet (String Global) S → List (List ℕ)
texts_in s = list_map string_bytes s.keys

-- the lists of a set, in its order
abbrev pub lists_in : {S : Type 0} → IndexSet (Vec ℕ Global) S → List (List ℕ)
lists_in s = list_map (λ v. v.items) s.keys

-- the texts and the stacks of names
abbrev pub tables_of : Names → Tables
tables_of n = record { strings = texts_in n.strings; stacks = lists_in n.stacks }

-- what stands before the values of the events
abbrev pub head_tokens : List Token
head_tokens =
    begin_object ∷ key (codes "format") ∷ token.number (decimal 1) ∷ key (codes "events") ∷ begin_object
    ∷ key (codes "values") ∷ begin_array ∷ []

-- The data stands on these events, in their order: it has written their values, has their times, and has counted
-- their schemas. No growth was refused.
pub record HoldsEvents (d : PageData) (events : List PageEvent) : Type 0 where
  pub whole : d.is_whole ≡ true
  pub values : List Json
  pub values_are : AreEventValues (tables_of d.names) events values
  pub written : d.text.tokens ≡ head_tokens ++ flat_map json_tokens values
  pub times : d.times.items ≡ times_of events
  pub schemas : AreCounted [] events d.places.items d.schemas.items

-- The data stands on the events of these files, and on the rest, which are of a file that has not ended yet. It has the
-- clocks of the files.
pub record Holds (d : PageData) (files : List PageFile) (rest : List PageEvent) : Type 0 where
  pub shown : HoldsEvents d (events_of files ++ rest)
  pub clocks : d.clocks.items ≡ clocks_of 0 files
  pub ended : d.ended ≡ length (events_of files)

-- a growth was refused, and the data holds no events any more
abbrev pub IsSpoiled : PageData → Type 0
IsSpoiled d = d.is_whole ≡ false
