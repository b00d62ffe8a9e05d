use Rattle.std.proofs.Common.{Some, codes}
use Rattle.std.proofs.lemmas.Str.Pattern.{split_text_parts}
use Rattle.trace_recordings.proofs.recording.borrowed_of.Goals as goal

pub returns-in-Some : goal.returns-in-Some
returns-in-Some c =
    split_text_parts (codes "\n# borrowed\n") c.args.lines.now (Some (c.in-Some.dump, c.in-Some.borrowed))
    c.in-Some.ensures.cases
