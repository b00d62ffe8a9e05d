-- The data of a page once one event more was told, and its text at the end.
use Rattle.std.proofs.Common.{◌≡◌, ℕ, ℤ, true, List, [], ◌∷◌, ◌++◌, Option, map as list_map, length, refl}
use Rattle.std.proofs.Common.{sym, ap, subst, ◌∙◌, append_assoc, append-nil, string_bytes, String, Vec, Global}
use Rattle.std.proofs.Common.{◌+◌, arith, Result, OnOk}
use Rattle.std.proofs.lemmas.Result.{on_ok_weaker}
use Rattle.std.proofs.lemmas.Grind.{flat_map-append}
use Rattle.std.proofs.lemmas.List.{map_push, length-map}
use Rattle.std.specs.List.{AllZip, flat_map}
use Rattle.json.specs.Json.{Json, string}
use Rattle.json.specs.Lex.{tokens}
use Rattle.json.specs.Print.{print}
use Rattle.json.specs.Token.{Token, key}
use Rattle.json.specs.Tree.{json_tokens}
use Rattle.std.specs.Prelude.{codes}
use Rattle.trace_json.specs.EventJson.{list_json}
use Rattle.trace_json.specs.Put.{Stands}
use Rattle.trace_json.specs.Lines.{json_text}
use Rattle.trace_page.specs.Counting.{PageEvent, IsCountedAt, AreCounted}
use Rattle.trace_page.specs.Files.{PageFile, events_of, clocks_of}
use Rattle.trace_page.specs.Holding.{HoldsEvents, Holds, head_tokens, tables_of}
use Rattle.trace_page.specs.PageValues.{Tables, ArePageValues}
use Rattle.trace_page.specs.Pages.{AreEventValues, IsPageText, IsStack, times_of}
use Rattle.trace_page.specs.declared.clocks.FileClock.{FileClock}
use Rattle.trace_page.specs.declared.data.PageData.{PageData}
use Rattle.trace_page.specs.declared.names.Names.{Names}
use Rattle.trace_page.specs.parts.Writing.{Grows, IsListOf}
use Rattle.trace_page.specs.parts.Assembling.{StandLists}
use Rattle.trace_page.proofs.Chains.{chained}
use Rattle.trace_page.proofs.Assembled.{Parts, Written, whole, whole_written}
use Rattle.trace_page.proofs.Counted.{counted_more}
use Rattle.trace_page.proofs.EscapedText.{escaped_document}
use Rattle.trace_page.proofs.Files.{clocks_more, events_ended}
use Rattle.trace_page.proofs.Growing.{events_grow}

-- ---- one event more

events_more : (t : Tables) (es : List PageEvent) (e : PageEvent) (js own : List Json) → AreEventValues t es js →
    ArePageValues t e.shown.pools e.shown.values own → AreEventValues t (es ++ e ∷ []) (js ++ own)
events_more t [] e js own none are =
    (own, [], ap (λ (l : List Json). l ++ own) none ∙ sym (append-nil own), are, refl)
events_more t (d ∷ ds) e js own all are = (
  all.0,
  all.1 ++ own,
  ap (λ (l : List Json). l ++ own) all.2 ∙ append_assoc all.0 all.1 own,
  all.3,
  events_more t ds e all.1 own all.4 are,
)

-- an event was told
pub record IsTold (e : PageEvent) (old new : PageData) : Type 0 where
  pub own : List Json
  pub place : ℕ
  pub whole : new.is_whole ≡ true
  pub grown : Grows (tables_of old.names) (tables_of new.names)
  pub are : ArePageValues (tables_of new.names) e.shown.pools e.shown.values own
  pub tokens : new.text.tokens ≡ old.text.tokens ++ flat_map json_tokens own
  pub times : new.times.items ≡ old.times.items ++ e.shown.time ∷ []
  pub places : new.places.items ≡ old.places.items ++ place ∷ []
  pub schemas : IsCountedAt old.schemas.items e.shown.entry e.bytes place new.schemas.items
  pub clocks : new.clocks ≡ old.clocks
  pub ended : new.ended ≡ old.ended

-- the data then stands on the events before and on that one
events_held : (events : List PageEvent) (e : PageEvent) (old new : PageData) → IsTold e old new →
    HoldsEvents old events → HoldsEvents new (events ++ e ∷ [])
events_held events e old new i h = record {
  whole = i.whole;
  values = h.values ++ i.own;
  values_are = events_more (tables_of new.names) events e h.values i.own
      (events_grow (tables_of old.names) (tables_of new.names) i.grown events h.values h.values_are) i.are;
  written = i.tokens ∙ ap (λ (t : List Token). t ++ flat_map json_tokens i.own) h.written
      ∙ append_assoc head_tokens (flat_map json_tokens h.values) (flat_map json_tokens i.own)
      ∙ ap (λ (t : List Token). head_tokens ++ t) (sym (flat_map-append json_tokens h.values i.own));
  times = i.times ∙ ap (λ (l : List ℕ). l ++ e.shown.time ∷ []) h.times
      ∙ sym (map_push (λ (d : PageEvent). d.shown.time) events e);
  schemas = subst (λ (l : List ℕ). AreCounted [] (events ++ e ∷ []) l new.schemas.items) (sym i.places)
      (counted_more [] old.schemas.items new.schemas.items events old.places.items e i.place h.schemas i.schemas);
}

-- and so it stands on the files before and on the rest with that one
pub held_more : (files : List PageFile) (rest : List PageEvent) (e : PageEvent) (old new : PageData) →
    IsTold e old new → Holds old files rest → Holds new files (rest ++ e ∷ [])
held_more files rest e old new i h = record {
  shown = subst (HoldsEvents new) (append_assoc (events_of files) rest (e ∷ []))
      (events_held (events_of files ++ rest) e old new i h.shown);
  clocks = ap (λ (v : Vec FileClock Global). v.items) i.clocks ∙ h.clocks;
  ended = i.ended ∙ h.ended;
}

-- ---- a file's end

-- a file was ended whose clock has this zero
pub record IsEnded (zero : Option ℤ) (old new : PageData) : Type 0 where
  pub whole : new.is_whole ≡ true
  pub names : new.names ≡ old.names
  pub tokens : new.text.tokens ≡ old.text.tokens
  pub times : new.times.items ≡ old.times.items
  pub places : new.places.items ≡ old.places.items
  pub schemas : new.schemas.items ≡ old.schemas.items
  pub clocks : new.clocks.items ≡ old.clocks.items ++ record { first = old.ended; zero = zero } ∷ []
  pub ended : new.ended ≡ length old.times.items

-- the data stands on the same events
same_events : (zero : Option ℤ) (events : List PageEvent) (old new : PageData) → IsEnded zero old new →
    HoldsEvents old events → HoldsEvents new events
same_events zero events old new i h = record {
  whole = i.whole;
  values = h.values;
  values_are = subst (λ (n : Names). AreEventValues (tables_of n) events h.values) (sym i.names) h.values_are;
  written = i.tokens ∙ h.written;
  times = i.times ∙ h.times;
  schemas = subst (λ (l : List ℕ). AreCounted [] events l new.schemas.items) (sym i.places)
      (subst (AreCounted [] events old.places.items) (sym i.schemas) h.schemas);
}

-- it then stands on the files before, and on one of the events after them
pub file_ended : (zero : Option ℤ) (files : List PageFile) (rest : List PageEvent) (old new : PageData) →
    IsEnded zero old new → Holds old files rest →
    Holds new (files ++ record { events = rest; zero = zero } ∷ []) []
file_ended zero files rest old new i h =
    let f : PageFile = record { events = rest; zero = zero } in
    let all : events_of files ++ rest ≡ events_of (files ++ f ∷ []) = sym (events_ended files f) in
    let before : old.ended ≡ 0 + length (events_of files) = omega (arith, h.ended) in
    record {
      shown = same_events zero _ old new i
          (subst (HoldsEvents old) (all ∙ sym (append-nil (events_of (files ++ f ∷ [])))) h.shown);
      clocks = i.clocks
          ∙ ap (λ (l : List FileClock). l ++ record { first = old.ended; zero = zero } ∷ []) h.clocks
          ∙ ap (λ (n : ℕ). clocks_of 0 files ++ record { first = n; zero = zero } ∷ []) before
          ∙ sym (clocks_more 0 files f);
      ended = i.ended ∙ ap length h.shown.times ∙ length-map (events_of files ++ rest) (λ e. e.shown.time)
          ∙ ap length all;
    }

-- ---- the text

-- the list that texts are, each read from its owner
pub texts_twice : (ks : List (String Global)) →
    list_map (λ s. string (string_bytes s)) ks ≡ list_map string (list_map string_bytes ks)
texts_twice [] = refl
texts_twice (k ∷ ks) = ap (λ (l : List Json). string (string_bytes k) ∷ l) (texts_twice ks)

-- the JSON of a list of them
abbrev texts_json : List (String Global) → Json
texts_json ks = list_json (list_map (λ s. string (string_bytes s)) ks)

-- the lists that values name were written
pub lists_put :
    {E : Type 0} (r : Result (Unit {0}) E) (keys : List (String Global)) (vectors : List (Vec ℕ Global))
    (old : List Token) {one two three : List Token} (new : List Token) {ks : List (String Global)}
    {vs : List (Vec ℕ Global)} → one ≡ old ++ key (codes "stacks") ∷ [] →
    Stands (IsListOf (AllZip (IsStack (list_map string_bytes keys)) (list_map (λ v. v.items) vs))) one two →
    three ≡ two ++ key (codes "strings") ∷ [] →
    OnOk r (new ≡ three ++ json_tokens (texts_json ks)) → (ks ≡ keys) × (vs ≡ vectors) →
    OnOk r (StandLists (record { strings = list_map string_bytes keys; stacks = list_map (λ v. v.items) vectors }) old
    new)
lists_put r keys vectors old {one} {two} {three} new {ks} {vs} a s b e same =
    let texts : List (String Global) → List Token = λ l. json_tokens (texts_json l) in
    let stacks = s.is_so.0 in
    on_ok_weaker r
    (λ (p : new ≡ old ++ (key (codes "stacks") ∷ (json_tokens s.json ++ key (codes "strings") ∷ texts ks))). record {
      stacks = stacks;
      are = subst (λ (l : List (Vec ℕ Global)).
          AllZip (IsStack (list_map string_bytes keys)) (list_map (λ v. v.items) l) stacks) same.1 s.is_so.1;
      tokens = p
          ∙ ap (λ (j : Json). old ++ key (codes "stacks") ∷ (json_tokens j ++ key (codes "strings") ∷ texts ks))
          s.is_so.2
          ∙ ap (λ (l : List (String Global)). old ++ key (codes "stacks")
          ∷ (json_tokens (list_json stacks) ++ key (codes "strings") ∷ texts l)) same.0
          ∙ ap (λ (l : List Json). old ++ key (codes "stacks")
          ∷ (json_tokens (list_json stacks) ++ key (codes "strings") ∷ json_tokens (list_json l))) (texts_twice keys);
    })
    (chained r old ((key (codes "stacks") ∷ []) ∷ json_tokens s.json ∷ (key (codes "strings") ∷ []) ∷ []) (texts ks)
    three new (one, a, (two, s.tokens, (three, b, refl))) e)

-- what was written of a page of these files
pub record IsFinished (files : List PageFile) (p : Parts) (text : List ℕ) : Type 0 where
  pub all : List Token
  pub values_are : AreEventValues p.tables (events_of files) p.values
  pub times : p.times ≡ times_of (events_of files)
  pub schemas_are : AreCounted [] (events_of files) p.places p.schemas
  pub stacks_are : AllZip (IsStack p.tables.strings) p.tables.stacks p.stacks
  pub clocks : p.clocks ≡ clocks_of 0 files
  pub written : Written p all
  pub printed : text ≡ print all
  pub back : tokens (print all) ≡ all

-- its text is that of their page
pub page_text : (files : List PageFile) (p : Parts) (text : List ℕ) → IsFinished files p text →
    IsPageText files p.name p.end text
page_text files p text f =
    let same = whole_written p f.all f.written in
    let lexed : tokens (print (json_tokens (whole p))) ≡ json_tokens (whole p) =
    subst (λ (t : List Token). tokens (print t) ≡ t) same f.back in
    let text_is : text ≡ json_text (whole p) = f.printed ∙ ap print same in
    record {
      json = whole p;
      is_page = record {
        tables = p.tables;
        values = p.values;
        places = p.places;
        schemas = p.schemas;
        stacks = p.stacks;
        values_are = f.values_are;
        schemas_are = f.schemas_are;
        stacks_are = f.stacks_are;
        is = ap (λ (l : List ℕ). whole (record p { times = l })) f.times
            ∙ ap (λ (l : List FileClock). whole (record p { times = times_of (events_of files); clocks = l })) f.clocks;
      };
      is = text_is;
      reads_back = λ shallow. rw text_is (escaped_document (whole p) lexed shallow);
    }
