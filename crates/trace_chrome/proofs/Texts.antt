-- Entries as text, and as JSON.
use Rattle.std.proofs.Common.{◌≡◌, ℕ, zero, suc, ◌<◌, ◌^◌, Bool, true, false, List, [], ◌∷◌, ◌++◌, codes, decimal}
use Rattle.std.proofs.Common.{refl, sym, ap, ◌∙◌}
use Rattle.std.proofs.Common.{append_assoc, append-nil, arith}
use Rattle.json.specs.Json.{Json, boolean, number, string, object}
use Rattle.json.specs.Print.{quoted as between_quotes, print_from, escape_byte, IsNumber}
use Rattle.json.specs.Token.{Token, end_object}
use Rattle.json.specs.Tree.{json_tokens, members_tokens, HasNumbers, MembersHaveNumbers}
use Rattle.json.specs.Word.{after_number}
use Rattle.json.proofs.Numbered.{document-HasNumbers}
use Rattle.json.proofs.Printed.Decimals.{IsNumber-decimal}
use Rattle.json.proofs.Printed.Tokens.{print_from-append}
use Rattle.trace_json.specs.EventJson.{members_of, object_json}
use Rattle.trace_json.specs.Lines.{json_text}
use Rattle.trace_chrome.specs.Times.{micros_text, time_text}
use Rattle.trace_chrome.specs.Entries.{Told, Counter, Entry, names, begins, ends, is_cut, takes, happens, counts}
use Rattle.trace_chrome.specs.Entries.{quoted, key_text, start_text, name_text, frame_text, args_text, naming_text}
use Rattle.trace_chrome.specs.Entries.{count_name}
use Rattle.trace_chrome.specs.Entries.{count_args_text, entry_text, head_text}
use Rattle.trace_chrome.specs.Trees.{Members, start_members, stack_members, told_members, name_json, entry_json}
use Rattle.trace_chrome.specs.Trees.{head_json, IsSmall, IsTold, IsEntryOf}
use Rattle.trace_chrome.proofs.Numerals.{IsNumber-micros, IsNumber-time}

-- the text of members after a value
abbrev more_text : Members → List ℕ
more_text ms = print_from true (members_tokens (members_of ms))

closing : (b : Bool) → print_from b (end_object ∷ []) ≡ codes "}"
unfolding print_from
closing true = refl
closing false = refl

-- the text of JSON, and a closing brace
pub event_text : (t : List ℕ) (event : Json) → t ≡ json_text event →
    t ++ codes "}" ≡ print_from false (json_tokens event ++ end_object ∷ [])
event_text t event is =
    ap (λ (l : List ℕ). l ++ codes "}") is ∙ ap (λ (l : List ℕ). json_text event ++ l) (sym (closing _))
    ∙ sym (print_from-append false (json_tokens event) (end_object ∷ []))

told_by :
    (n : ℕ) (t : List ℕ) (event : Json) → t ≡ json_text event →
    frame_text n ++ (codes ",\"args\":" ++ (t ++ codes "}")) ≡ more_text (stack_members n ((codes "args", event) ∷ []))
unfolding print_from escape_byte
told_by zero t event is = ap (λ (l : List ℕ). codes ",\"args\":" ++ l) (event_text t event is)
told_by (suc n) t event is =
    ap (λ (l : List ℕ). codes ",\"sf\":" ++ (decimal (suc n) ++ (codes ",\"args\":" ++ l))) (event_text t event is)

told_text : (told : Told) (event : Json) → IsTold told event → args_text told ≡ more_text (told_members told event)
told_text told event h = told_by told.frame told.json event h.text

module _ (phase : List ℕ) (track from at : ℕ) (more : Members) where
  abbrev after_track : List ℕ
  after_track = codes ",\"ts\":" ++ time_text from at

  abbrev rest_text : List ℕ → List ℕ
  rest_text rest = decimal track ++ (codes ",\"ts\":" ++ (time_text from at ++ rest))

  -- how an entry begins, and its other members after that
  started :
      (rest : List ℕ) → between_quotes phase ≡ 34 ∷ (phase ++ 34 ∷ []) → rest ≡ more_text more →
      start_text phase track from at ++ rest
      ≡ 44 ∷ 10 ∷ json_text (object_json (start_members phase track from at more))
  unfolding print_from escape_byte
  started rest plain is =
      let before = codes "\",\"pid\":1,\"tid\":" in
      let members = codes ",\"pid\":1,\"tid\":" ++ rest_text (more_text more) in
      ap (λ (l : List ℕ). codes ",\n{\"ph\":\"" ++ l)
      (append_assoc phase (before ++ (decimal track ++ after_track)) rest
      ∙ ap (λ (l : List ℕ). phase ++ (before ++ l)) (append_assoc (decimal track) after_track rest)
      ∙ ap (λ (l : List ℕ). phase ++ (before ++ rest_text l)) is
      ∙ sym (append_assoc phase (34 ∷ []) members))
      ∙ ap (λ (l : List ℕ). codes ",\n{\"ph\":" ++ (l ++ members)) (sym plain)

quoted_is : (s : List ℕ) → quoted s ≡ between_quotes s
unfolding print_from
quoted_is s = append-nil (between_quotes s)

naming_is : (name : List ℕ) →
    naming_text name ≡ more_text ((codes "name", string (codes "thread_name")) ∷ (codes "args", name_json name) ∷ [])
unfolding print_from escape_byte
naming_is name =
    ap (λ (l : List ℕ). codes ",\"name\":\"thread_name\",\"args\":{\"name\":" ++ (l ++ codes "}}")) (quoted_is name)

cut_is :
    codes ",\"args\":{\"open\":true}}"
    ≡ more_text ((codes "args", object_json ((codes "open", boolean true) ∷ [])) ∷ [])
unfolding print_from escape_byte
cut_is = refl

named : (name : List ℕ) (ms : Members) (rest : List ℕ) → rest ≡ more_text ms →
    name_text name ++ rest ≡ more_text ((codes "name", string name) ∷ ms)
unfolding print_from escape_byte
named name ms rest is =
    ap (λ (l : List ℕ). (codes ",\"name\":" ++ l) ++ rest) (quoted_is name)
    ∙ ap (λ (l : List ℕ). (codes ",\"name\":" ++ between_quotes name) ++ l) is

lasted : (n : ℕ) (ms : Members) (rest : List ℕ) → rest ≡ more_text ms →
    codes ",\"dur\":" ++ (micros_text n ++ rest) ≡ more_text ((codes "dur", number (micros_text n)) ∷ ms)
unfolding print_from escape_byte
lasted n ms rest is = ap (λ (l : List ℕ). codes ",\"dur\":" ++ (micros_text n ++ l)) is

abbrev count_members : Counter → List ℕ → Members
count_members c shown =
    (codes "id", number (decimal c.track)) ∷ (codes "args", object_json ((c.field, number shown) ∷ [])) ∷ []

count_is : (c : Counter) (shown : List ℕ) → count_args_text c shown ≡ more_text (count_members c shown)
unfolding print_from escape_byte
count_is c shown =
    let id = codes ",\"id\":" in
    let args = codes ",\"args\":{" in
    let end = shown ++ codes "}}" in
    ap (λ (l : List ℕ). id ++ l) (append_assoc (decimal c.track) args (key_text c.field ++ end))
    ∙ ap (λ (l : List ℕ). id ++ (decimal c.track ++ (args ++ ((l ++ codes ":") ++ end)))) (quoted_is c.field)

-- the members after those with which an entry begins
abbrev more_members : Entry → Json → Members
more_members (names track at name) event =
    (codes "name", string (codes "thread_name")) ∷ (codes "args", name_json name) ∷ []
more_members (begins track at name told) event = (codes "name", string name) ∷ told_members told event
more_members (ends track at told) event = told_members told event
more_members (is_cut track at) event = (codes "args", object_json ((codes "open", boolean true) ∷ [])) ∷ []
more_members (takes track at n name told) event =
    (codes "dur", number (micros_text n)) ∷ (codes "name", string name) ∷ told_members told event
more_members (happens track at name told) event = (codes "name", string name) ∷ told_members told event
more_members (counts at c shown) event = (codes "name", string (count_name c)) ∷ count_members c shown

-- the text of an entry is a comma, a line feed and that of its JSON
pub entry_is :
    (from : ℕ) (e : Entry) (event : Json) → IsEntryOf e event →
    entry_text from e ≡ 44 ∷ 10 ∷ json_text (entry_json from (e, event))
unfolding escape_byte
entry_is from (names track at name) event h =
    started (codes "M") track from at (more_members (names track at name) event) (naming_text name) refl
    (naming_is name)
entry_is from (begins track at name told) event h =
    started (codes "B") track from at (more_members (begins track at name told) event)
    (name_text name ++ args_text told) refl
    (named name (told_members told event) (args_text told) (told_text told event h.2))
entry_is from (ends track at told) event h =
    started (codes "E") track from at (told_members told event) (args_text told) refl (told_text told event h.2)
entry_is from (is_cut track at) event h =
    started (codes "E") track from at (more_members (is_cut track at) event) (codes ",\"args\":{\"open\":true}}") refl
    cut_is
entry_is from (takes track at n name told) event h =
    let named_told = named name (told_members told event) (args_text told) (told_text told event h.3) in
    started (codes "X") track from at (more_members (takes track at n name told) event)
    (codes ",\"dur\":" ++ (micros_text n ++ (name_text name ++ args_text told))) refl
    (lasted n ((codes "name", string name) ∷ told_members told event) (name_text name ++ args_text told) named_told)
entry_is from (happens track at name told) event h =
    started (codes "i") track from at (more_members (happens track at name told) event)
    (name_text name ++ args_text told) refl
    (named name (told_members told event) (args_text told) (told_text told event h.2))
entry_is from (counts at c shown) event h =
    started (codes "C") c.track from at (more_members (counts at c shown) event)
    (name_text (count_name c) ++ count_args_text c shown) refl
    (named (count_name c) (count_members c shown) (count_args_text c shown) (count_is c shown))

-- the first entry
pub head_is : (name : List ℕ) → head_text name ≡ codes "{\"traceEvents\":[" ++ 10 ∷ json_text (head_json name)
unfolding print_from escape_byte
head_is name =
    let lit = codes "{\"traceEvents\":[\n{\"ph\":\"M\",\"pid\":1,\"name\":\"process_name\",\"args\":{\"name\":" in
    ap (λ (l : List ℕ). lit ++ (l ++ codes "}}")) (quoted_is name)

-- ---- numbers

one : IsNumber (codes "1")
unfolding after_number
one = refl

abbrev Have : Members → Type 0
Have ms = MembersHaveNumbers (members_of ms)

told_numbers :
    (n : ℕ) (event : Json) → n < 2 ^ 64 → HasNumbers event → Have (stack_members n ((codes "args", event) ∷ []))
told_numbers zero event h k = (k, tt)
told_numbers (suc n) event h k = (IsNumber-decimal (suc n) h, (k, tt))

told_have : (told : Told) (event : Json) → IsTold told event → Have (told_members told event)
told_have told event h = told_numbers told.frame event h.small (document-HasNumbers told.json event h.reads_back)

started_have :
    (phase : List ℕ) (track from at : ℕ) (more : Members) → IsSmall track → IsSmall from → IsSmall at → Have more →
    HasNumbers (object_json (start_members phase track from at more))
started_have phase track from at more h k l m =
    (tt, (one, (IsNumber-decimal track h, (IsNumber-time from at k l, m))))

-- the numbers of an entry are such as JSON has
pub entry_has :
    (from : ℕ) (e : Entry) (event : Json) → IsSmall from → IsEntryOf e event → HasNumbers (entry_json from (e, event))
entry_has from (names track at name) event k h =
    started_have (codes "M") track from at (more_members (names track at name) event) h.0 k h.1 (tt, ((tt, tt), tt))
entry_has from (begins track at name told) event k h =
    started_have (codes "B") track from at (more_members (begins track at name told) event)
    h.0 k h.1 (tt, told_have told event h.2)
entry_has from (ends track at told) event k h =
    started_have (codes "E") track from at (more_members (ends track at told) event)
    h.0 k h.1 (told_have told event h.2)
entry_has from (is_cut track at) event k h =
    started_have (codes "E") track from at (more_members (is_cut track at) event) h.0 k h.1 ((tt, tt), tt)
entry_has from (takes track at n name told) event k h =
    started_have (codes "X") track from at (more_members (takes track at n name told) event) h.0 k h.1
    (IsNumber-micros n h.2, (tt, told_have told event h.3))
entry_has from (happens track at name told) event k h =
    started_have (codes "i") track from at (more_members (happens track at name told) event)
    h.0 k h.1 (tt, told_have told event h.2)
entry_has from (counts at c shown) event k h =
    started_have (codes "C") c.track from at (more_members (counts at c shown) event) h.0 k h.1
    (tt, (IsNumber-decimal c.track h.0, ((h.2, tt), tt)))

-- and so are those of the first one
pub head_has : (name : List ℕ) → HasNumbers (head_json name)
head_has name = (tt, (one, (tt, ((tt, tt), tt))))
