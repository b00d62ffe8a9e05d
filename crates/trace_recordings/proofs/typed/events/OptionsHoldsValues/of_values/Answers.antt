use Rattle.std.proofs.Common.{◌≡◌, ◌++◌, ◌∙◌, ap, take, drop, rules, List}
use Rattle.trace_values.specs.Values.{Value}
use Rattle.trace_values.specs.ValueViews.{views}
use Rattle.trace_values.specs.declared.types.field_value.FieldValue.{FieldValue}
use Rattle.trace_samples.specs.OptionalFields.{optional_texts}
use Rattle.trace_recordings.proofs.EventValues.{views_parts}
use Rattle.trace_recordings.proofs.typed.events.OptionsHoldsValues.of_values.Goals as goal

pub returns-clause-values : goal.returns-clause-values
returns-clause-values c =
    let xs = c.args.values.now in
    let front : c.in_ok-first.first.now ≡ take 7 xs = search rules in
    let back : c.in_ok-first.last.now ≡ drop 7 xs = search rules in
    ap (λ (vs : List Value). vs ++ optional_texts c.in_ok-texts.texts) c.in_ok-numbers.ensures
    ∙ ap (λ (vs : List Value). views c.in_ok-first.first.now ++ vs) c.in_ok-texts.ensures
    ∙ ap (λ (ys : List FieldValue). views ys ++ views c.in_ok-first.last.now) front
    ∙ ap (λ (ys : List FieldValue). views (take 7 xs) ++ views ys) back
    ∙ views_parts xs 7
