-- What a recording shows, from what playing its script answered.
use Rattle.std.proofs.Common.{◌≡◌, ◌≢◌, ◌⊎◌, ◌↔◌, ℕ, List, [], String, inl, inr}
use Rattle.std.specs.declared.alloc.Global.{Global}
use Rattle.trace_recordings.specs.declared.player.PlayError.{PlayError}
use Rattle.trace_recordings.specs.declared.recording.Calls.{Calls}
use Rattle.trace_recordings.specs.Comparisons.{ended}
use Rattle.trace_recordings.specs.Findings.{ShowsPlayed, ShowsRefused}
use Rattle.trace_recordings.specs.Playing.{IsPlayed, IsOfScript}
use Rattle.trace_recordings.specs.Refusals.{RefusesScript}

pub shows_played :
    (trace : List ℕ) (calls : Calls) (differences : List (String Global)) (bytes replies : List ℕ) →
    IsPlayed calls.script.now bytes replies →
    (differences ≡ []) ↔ ((trace ≡ bytes) × (ended calls.replies.now ≡ replies)) → ShowsPlayed trace calls differences
    ⊎ ShowsRefused calls differences
shows_played trace calls differences bytes replies p n =
    inl (record { bytes = bytes; replies = replies; played = p; none_told = n })

pub shows_refused :
    (trace : List ℕ) (calls : Calls) (differences : List (String Global)) (error : PlayError) → IsOfScript error →
    RefusesScript calls.script.now error → differences ≢ [] → ShowsPlayed trace calls differences
    ⊎ ShowsRefused calls differences
shows_refused trace calls differences error s r n = inr (error, s, r, n)
