use Rattle.std.proofs.Common.{◌≡◌, List, ℕ, ◌++◌, Some, codes, ap, append_assoc, ◌∙◌}
use Rattle.std.proofs.lemmas.Str.Pattern.{split_text_parts}
use Rattle.trace_recordings.specs.Recordings.{borrowed_text}
use Rattle.trace_recordings.proofs.recording.dump_of.Goals as goal

-- the parts of a text, from those of its front and of its rest
parts :
    {text front rest : List ℕ} (first more mark middle seam last : List ℕ) → text ≡ front ++ (mark ++ rest) →
    rest ≡ middle ++ (seam ++ last) → front ≡ first ++ more →
    text ≡ first ++ (more ++ (mark ++ (middle ++ (seam ++ last))))
parts {rest = rest} first more mark middle seam last whole after_mark before =
    whole ∙ ap (λ (f : List ℕ). f ++ (mark ++ rest)) before ∙ append_assoc first more (mark ++ rest)
    ∙ ap (λ (r : List ℕ). first ++ (more ++ (mark ++ r))) after_mark

pub returns-in_ok-resolved-in-Some : goal.returns-in_ok-resolved-in-Some
returns-in_ok-resolved-in-Some c =
    let dump = c.in-Some in
    let resolved = c.in_ok-resolved-in-Some in
    let borrowed = c.borrowed_of in
    let whole =
    split_text_parts (codes "\n# resolve\n") c.args.lines.now (Some (dump.front, dump.rest)) dump.ensures.cases in
    let after_mark = split_text_parts (codes "\n# sink\n") dump.rest.now (Some (resolved.resolved, resolved.sink))
    resolved.ensures.cases in
    parts borrowed.result.0.now (borrowed_text borrowed.result.1) (codes "\n# resolve\n") resolved.resolved.now
    (codes "\n# sink\n") resolved.sink.now whole after_mark borrowed.ensures
