-- The values of the parts of an event whose fields may all be absent.
use Rattle.std.specs.Prelude.{List, [], ◌∷◌, string_bytes}
use Rattle.trace_values.specs.TraceFields.{string_pairs, value_of_option}
use Rattle.trace_values.specs.Values.{Value, boolean, bytes, float, integer, number, pooled_stack, pooled_text, stack}
use Rattle.trace_values.specs.Values.{text, texts}
use Rattle.trace_samples.specs.declared.events.options.OptionalNumbers.{OptionalNumbers}
use Rattle.trace_samples.specs.declared.events.options.OptionalTexts.{OptionalTexts}

-- the values of numbers and a truth value, one for each field
abbrev pub optional_numbers : OptionalNumbers → List Value
optional_numbers e =
    value_of_option number e.byte ∷ value_of_option number e.short ∷ value_of_option number e.word ∷ value_of_option
    number e.long
    ∷ value_of_option integer e.signed ∷ value_of_option (λ x. float x.0) e.real ∷ value_of_option boolean e.flag ∷ []

-- those of texts, bytes, stacks and ids
abbrev pub optional_texts : OptionalTexts → List Value
optional_texts e = value_of_option (λ s. text (string_bytes s)) e.text ∷ value_of_option (λ v. bytes v.items) e.blob
    ∷ value_of_option (λ x. stack x.0.items) e.frames ∷ value_of_option (λ x. pooled_text x.0) e.label
    ∷ value_of_option (λ x. pooled_stack x.0) e.stack ∷ value_of_option (λ v. texts (string_pairs v.items)) e.pairs
    ∷ []
