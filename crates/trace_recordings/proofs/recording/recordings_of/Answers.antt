use Rattle.std.proofs.Common.{◌≡◌, List, ℕ, ◌++◌, Vec, Result, Ok, Err, IfOk, codes, ap, ◌∙◌}
use Rattle.std.proofs.lemmas.Str.Pattern.{split_text_parts}
use Rattle.std.specs.List.{flat_map}
use Rattle.std.specs.declared.alloc.Global.{Global}
use Rattle.trace_recordings.specs.declared.recording.Recording.{Recording}
use Rattle.trace_recordings.specs.declared.recording.RecordingError.{RecordingError}
use Rattle.trace_recordings.specs.Recordings.{HasNoEmptyLine, recording_text, IsFile}
use Rattle.trace_recordings.proofs.FileHeads.{first_empty}
use Rattle.trace_recordings.proofs.recording.recordings_of.Goals as goal

-- the recordings after a head are those of the file
after_head :
    (head rest file : List ℕ) (r : Result (Vec Recording Global) RecordingError) → HasNoEmptyLine head →
    file ≡ head ++ (codes "\n\n" ++ rest) → IfOk r (λ v. rest ≡ flat_map recording_text v.items) →
    IfOk r (λ v. IsFile v.items file)
after_head head rest file (Ok v) none parts read =
    (head, none, parts ∙ ap (λ (t : List ℕ). head ++ (codes "\n\n" ++ t)) read)
after_head head rest file (Err e) none parts read = tt

pub returns : goal.returns
returns c =
    let parts = split_text_parts (codes "\n\n") c.args.file.now c.split_once.result c.split_once.ensures.cases in
    let none = first_empty c.args.file.now c.split_once.result c.split_once.ensures.cases in
    after_head _ _ _ _ ((rw c.in_ok-head.ensures.ok_part at none) (c.begins_empty.ensures c.if-begins_empty.false))
    (rw c.in_ok-head.ensures.ok_part at parts) c.recordings_in.ensures
