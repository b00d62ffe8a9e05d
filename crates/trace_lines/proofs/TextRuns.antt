-- A text that is appended run by run.
use Rattle.std.proofs.Common.{◌≡◌, ◌++◌, ◌∙◌, ℕ, List, take, drop, codes, refl, sym, ap, append_assoc}
use Rattle.std.specs.List.{flat_map}
use Rattle.std.proofs.lemmas.List.{take-append-drop}
use Rattle.std.proofs.lemmas.Grind.{flat_map-append}
use Rattle.trace_values.specs.Values.{text}
use Rattle.trace_lines.specs.Lines.{quoted, quoted_byte, value_text}

-- what is left of a text before these bytes: they as they stand between quotes, and the last quote
abbrev pub text_left : List ℕ → List ℕ
text_left bytes = flat_map quoted_byte bytes ++ codes "\""

-- a text begins with its kind and the first quote
pub text_begins : (s : List ℕ) → value_text (text s) ≡ codes "String:\"" ++ text_left s
unfolding quoted
text_begins s = refl

-- a run, and what is left after it
pub run_and_rest :
    (bytes : List ℕ) (n : ℕ) {front others : List ℕ} → front ≡ take n bytes → others ≡ drop n bytes
    → text_left bytes ≡ flat_map quoted_byte front ++ text_left others
run_and_rest bytes n {front} {others} first rest =
    let q = flat_map quoted_byte in
    let parts : bytes ≡ front ++ others =
    sym (ap (λ (t : List ℕ). t ++ others) first ∙ ap (λ (t : List ℕ). take n bytes ++ t) rest
    ∙ take-append-drop n bytes) in
    ap text_left parts ∙ ap (λ (t : List ℕ). t ++ codes "\"") (flat_map-append quoted_byte front others)
    ∙ append_assoc (q front) (q others) (codes "\"")
