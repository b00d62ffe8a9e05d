-- The text of a trace is read back.
use Rattle.std.proofs.Common.{◌≡◌, ℕ, zero, suc, ◌+◌, ◌<◌, ◌≤◌, ◌^◌, Bool, true, false, List, [], ◌∷◌, ◌++◌, codes}
use Rattle.std.proofs.Common.{decimal, inr}
use Rattle.std.proofs.Common.{map as list_map, Some, option_and_then, refl, sym, ap, ◌∙◌, subst, arith, append_assoc}
use Rattle.std.proofs.Common.{append-nil}
use Rattle.std.specs.Char.{digit_value}
use Rattle.std.specs.List.{flat_map, AllByRecursion}
use Rattle.std.specs.Str.Parse.{AllDigits}
use Rattle.std.proofs.lemmas.Fmt.{decimal_is_IsNumeral}
use Rattle.json.specs.Json.{Json, Members, value, if_last, max_depth}
use Rattle.json.specs.Print.{print_from, escape, escape_byte, ArePrintable}
use Rattle.json.specs.Spaced.{AreGaps, print_spaced}
use Rattle.json.specs.Token.{Token, begin_object, end_object, begin_array, end_array, key, string as string_token}
use Rattle.json.specs.Tree.{json_tokens, items_tokens, depth, HasNumbers, ItemsHaveNumbers, MembersHaveNumbers}
use Rattle.json.proofs.Printed.Decimals.{IsNumber-decimal}
use Rattle.json.proofs.Printed.Strings.{escape_byte_plain}
use Rattle.json.proofs.Printed.Tokens.{tokens-print_spaced}
use Rattle.json.proofs.Printed.Trees.{value-json_tokens, ArePrintable-json_tokens}
use Rattle.trace_json.specs.EventJson.{items_of, members_of}
use Rattle.trace_json.specs.Lines.{json_text, line_feed}
use Rattle.trace_chrome.specs.Frames.{Frame, parent_members, frame_members, frames_json}
use Rattle.trace_chrome.specs.Entries.{Entry, entries_text, head_text, tail_text}
use Rattle.trace_chrome.specs.Trees.{entry_members, entry_json, head_members, head_json, whole_json, IsSmall, IsEntryOf}
use Rattle.trace_chrome.specs.Trees.{ReadsBackAs}
use Rattle.trace_chrome.specs.Trees.{TextReadsBack}
use Rattle.trace_chrome.proofs.Spacing.{Spaced, plain, on_line, tokens_in, after, print_spaced-plain}
use Rattle.trace_chrome.proofs.Spacing.{print_spaced-append}
use Rattle.trace_chrome.proofs.Spacing.{after-json, tokens_in-plain, tokens_in-on_line, tokens_in-append, AreGaps-plain}
use Rattle.trace_chrome.proofs.Spacing.{AreGaps-on_line, AreGaps-append, first_on_line, lines, objects_on_lines}
use Rattle.trace_chrome.proofs.Spacing.{gaps_of_lines, tokens_of_lines}
use Rattle.trace_chrome.proofs.Texts.{event_text, entry_is, head_is, entry_has, head_has}

regrouped : (a b c d e : List ℕ) → (a ++ b) ++ (c ++ (d ++ e)) ≡ (a ++ (b ++ (c ++ d))) ++ e
regrouped a b c d e = simp append_assoc

digit_range : (d : ℕ) → digit_value d < 10 → (48 ≤ d) × (d ≤ 57)
digit_range d h = grind arith

escape-digits : (ds : List ℕ) → AllDigits 10 ds → escape ds ≡ ds
escape-digits [] h = refl
escape-digits (d ∷ ds) h =
    let range = digit_range d h.0 in
    ap (λ (l : List ℕ). l ++ escape ds) (escape_byte_plain d (λ e. omega arith) (λ e. omega arith) (omega arith))
    ∙ ap (λ (l : List ℕ). d ∷ l) (escape-digits ds h.1)

-- ---- frames

parents_have : (n : ℕ) → n < 2 ^ 64 → MembersHaveNumbers (members_of (parent_members n))
parents_have zero h = tt
parents_have (suc n) h = (IsNumber-decimal (suc n) h, tt)

frames_have :
    (k : ℕ) (fs : List Frame) → AllByRecursion (λ f. IsSmall f.0) fs →
    MembersHaveNumbers (members_of (frame_members k fs))
frames_have k [] h = tt
frames_have k (f ∷ fs) h = ((tt, parents_have f.0 h.0), frames_have (k + 1) fs h.1)

-- ---- entries

entries_have :
    (from : ℕ) (es : List (Entry × Json)) → IsSmall from → AllByRecursion (λ p. IsEntryOf p.0 p.1) es →
    ItemsHaveNumbers (items_of (list_map (entry_json from) es))
entries_have from [] k h = tt
entries_have from (p ∷ es) k h = (entry_has from p.0 p.1 k h.0, entries_have from es k h.1)

entries_are :
    (from : ℕ) (es : List (Entry × Json)) → AllByRecursion (λ p. IsEntryOf p.0 p.1) es →
    entries_text from (list_map (λ p. p.0) es) ≡ flat_map (λ p. 44 ∷ 10 ∷ json_text (entry_json from p)) es
entries_are from [] h = refl
entries_are from (p ∷ es) h =
    ap (λ (l : List ℕ). l ++ entries_text from (list_map (λ p. p.0) es)) (entry_is from p.0 p.1 h.0)
    ∙ ap (λ (l : List ℕ). (44 ∷ 10 ∷ json_text (entry_json from p)) ++ l) (entries_are from es h.1)

items_are :
    (from : ℕ) (es : List (Entry × Json)) →
    items_tokens (items_of (list_map (entry_json from) es))
    ≡ flat_map (λ p. json_tokens (entry_json from p)) es ++ end_array ∷ []
items_are from [] = refl
items_are from (p ∷ es) =
    ap (λ (l : List Token). json_tokens (entry_json from p) ++ l) (items_are from es)
    ∙ sym (append_assoc (json_tokens (entry_json from p)) _ (end_array ∷ []))

module _ (name : List ℕ) (from : ℕ) (es : List (Entry × Json)) (frames : List Frame) where
  abbrev members_for : Entry × Json → Members
  members_for p = members_of (entry_members from p.0 p.1)

  -- what stands after the entries
  abbrev last_tokens : List Token
  last_tokens =
      key (codes "displayTimeUnit") ∷ string_token (codes "ns") ∷ key (codes "otherData") ∷ begin_object
      ∷ key (codes "start_ns") ∷ string_token (decimal from) ∷ end_object ∷ key (codes "stackFrames")
      ∷ (json_tokens (frames_json frames) ++ end_object ∷ [])

  abbrev last_spaced : Spaced
  last_spaced = (10 ∷ [], end_array) ∷ plain last_tokens

  abbrev head_spaced : Spaced
  head_spaced = on_line (json_tokens (head_json name))

  abbrev after_head : Spaced
  after_head = lines members_for es ++ last_spaced

  abbrev all_spaced : Spaced
  all_spaced =
      ([], begin_object) ∷ ([], key (codes "traceEvents")) ∷ ([], begin_array) ∷ (head_spaced ++ after_head)

  abbrev whole : Json
  whole = whole_json name from es frames

  -- ---- the tokens

  tokens_are : tokens_in all_spaced ≡ json_tokens whole
  tokens_are =
      let es_tokens = flat_map (λ p. json_tokens (entry_json from p)) es in
      let front = begin_object ∷ key (codes "traceEvents") ∷ begin_array ∷ [] in
      let last : tokens_in last_spaced ≡ end_array ∷ last_tokens =
      ap (λ (l : List Token). end_array ∷ l) (tokens_in-plain last_tokens) in
      let middle : tokens_in after_head ≡ es_tokens ++ (end_array ∷ last_tokens) =
      tokens_in-append (lines members_for es) last_spaced
      ∙ ap (λ (l : List Token). l ++ tokens_in last_spaced) (tokens_of_lines members_for es)
      ∙ ap (λ (l : List Token). es_tokens ++ l) last in
      let head = json_tokens (head_json name) in
      ap (λ (l : List Token). front ++ l)
      (tokens_in-append head_spaced after_head
      ∙ ap (λ (l : List Token). l ++ tokens_in after_head) (tokens_in-on_line head)
      ∙ ap (λ (l : List Token). head ++ l) middle
      ∙ ap (λ (l : List Token). head ++ l) (sym (append_assoc es_tokens (end_array ∷ []) last_tokens))
      ∙ sym (append_assoc head (es_tokens ++ end_array ∷ []) last_tokens)
      ∙ ap (λ (l : List Token). (head ++ l) ++ last_tokens) (sym (items_are from es)))

  -- ---- the text

  abbrev last_text : List ℕ
  last_text = print_spaced true last_spaced

  quoted_start : IsSmall from → escape (decimal from) ≡ decimal from
  quoted_start h = escape-digits (decimal from) (decimal_is_IsNumeral from h).0.1

  abbrev frames_text : List ℕ
  frames_text = json_text (frames_json frames)

  last_is :
      IsSmall from →
      last_text
      ≡ codes "\n],\"displayTimeUnit\":\"ns\",\"otherData\":{\"start_ns\":\"" ++ (decimal from
      ++ (codes "\"},\"stackFrames\":" ++ (frames_text ++ codes "}")))
  unfolding print_spaced print_from escape_byte
  last_is h =
      let lit = codes "\n],\"displayTimeUnit\":\"ns\",\"otherData\":{\"start_ns\":\"" in
      let end = print_from false (json_tokens (frames_json frames) ++ end_object ∷ []) in
      ap (λ (l : List ℕ). 10 ∷ 93 ∷ l) (print_spaced-plain true last_tokens)
      ∙ ap (λ (l : List ℕ). lit ++ ((l ++ 34 ∷ []) ++ (codes "},\"stackFrames\":" ++ end))) (quoted_start h)
      ∙ ap (λ (l : List ℕ). lit ++ l) (append_assoc (decimal from) (34 ∷ []) (codes "},\"stackFrames\":" ++ end))
      ∙ ap (λ (l : List ℕ). lit ++ (decimal from ++ (codes "\"},\"stackFrames\":" ++ l)))
      (sym (event_text frames_text (frames_json frames) refl))

  tail_is : IsSmall from → tail_text from frames ≡ last_text ++ line_feed ∷ []
  tail_is h =
      let lit = codes "\n],\"displayTimeUnit\":\"ns\",\"otherData\":{\"start_ns\":\"" in
      let more = codes "\"},\"stackFrames\":" ++ (frames_text ++ codes "}") in
      let rest = codes ",\"stackFrames\":" ++ (frames_text ++ codes "}\n") in
      ap (λ (l : List ℕ). lit ++ l) (append_assoc (decimal from) (codes "\"}") rest)
      ∙ sym (ap (λ (l : List ℕ). l ++ line_feed ∷ []) (last_is h)
      ∙ ap (λ (l : List ℕ). lit ++ l) (append_assoc (decimal from) more (line_feed ∷ []))
      ∙ ap (λ (l : List ℕ). lit ++ (decimal from ++ (codes "\"},\"stackFrames\":" ++ l)))
      (append_assoc frames_text (codes "}") (line_feed ∷ [])))

  abbrev entries_lines : List ℕ
  entries_lines = flat_map (λ p. 44 ∷ 10 ∷ json_text (entry_json from p)) es

  spaced_is :
      print_spaced false all_spaced
      ≡ codes "{\"traceEvents\":[" ++ ((10 ∷ json_text (head_json name)) ++ (entries_lines ++ last_text))
  unfolding print_spaced escape_byte
  spaced_is =
      let lit = codes "{\"traceEvents\":[" in
      ap (λ (l : List ℕ). lit ++ l)
      (print_spaced-append false head_spaced after_head
      ∙ ap (λ (l : List ℕ). l ++ print_spaced (after false (tokens_in head_spaced)) after_head)
      (first_on_line (members_of (head_members name)))
      ∙ ap (λ (b : Bool). (10 ∷ json_text (head_json name)) ++ print_spaced b after_head)
      (ap (after false) (tokens_in-on_line (json_tokens (head_json name))) ∙ after-json false (head_json name))
      ∙ ap (λ (l : List ℕ). (10 ∷ json_text (head_json name)) ++ l) (objects_on_lines members_for es last_spaced))

  text_is :
      IsSmall from → AllByRecursion (λ p. IsEntryOf p.0 p.1) es →
      head_text name ++ (entries_text from (list_map (λ p. p.0) es) ++ tail_text from frames)
      ≡ print_spaced false all_spaced ++ line_feed ∷ []
  text_is h k =
      let head = 10 ∷ json_text (head_json name) in
      let lit = codes "{\"traceEvents\":[" in
      ap (λ (l : List ℕ). l ++ (entries_text from (list_map (λ p. p.0) es) ++ tail_text from frames)) (head_is name)
      ∙ ap (λ (l : List ℕ). (lit ++ head) ++ (l ++ tail_text from frames)) (entries_are from es k)
      ∙ ap (λ (l : List ℕ). (lit ++ head) ++ (entries_lines ++ l)) (tail_is h)
      ∙ regrouped lit head entries_lines last_text (line_feed ∷ [])
      ∙ ap (λ (l : List ℕ). l ++ line_feed ∷ []) (sym spaced_is)

  -- ---- reading back

  gaps : AreGaps all_spaced
  gaps = (
    tt,
    (
      tt,
      (
        tt,
        AreGaps-append head_spaced after_head (AreGaps-on_line (json_tokens (head_json name)))
            (AreGaps-append (lines members_for es) last_spaced (gaps_of_lines members_for es)
            ((inr refl, tt), AreGaps-plain last_tokens)),
      ),
    ),
  )

  numbers :
      IsSmall from → AllByRecursion (λ p. IsEntryOf p.0 p.1) es → AllByRecursion (λ f. IsSmall f.0) frames →
      HasNumbers whole
  numbers h k small =
      ((head_has name, entries_have from es h k), (tt, ((tt, tt), (frames_have 1 frames small, tt))))

  pub reads_back :
      IsSmall from → AllByRecursion (λ p. IsEntryOf p.0 p.1) es → AllByRecursion (λ f. IsSmall f.0) frames →
      depth whole ≤ max_depth →
      ReadsBackAs (head_text name ++ (entries_text from (list_map (λ p. p.0) es) ++ tail_text from frames)) whole
  reads_back h k small shallow =
      let printable : ArePrintable (tokens_in all_spaced) =
      subst ArePrintable (sym tokens_are) (ArePrintable-json_tokens whole (numbers h k small)) in (
        print_spaced false all_spaced,
        text_is h k,
        ap (option_and_then (λ p. if_last p.0 p.1))
            (ap (value max_depth)
            (tokens-print_spaced all_spaced gaps printable ∙ tokens_are ∙ sym (append-nil (json_tokens whole)))
            ∙ value-json_tokens whole max_depth [] shallow),
      )

pub text_reads_back : TextReadsBack
text_reads_back name from es frames h k small shallow = reads_back name from es frames h k small shallow
