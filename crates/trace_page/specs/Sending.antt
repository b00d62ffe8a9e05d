-- What a refused call has sent of a page.
use Rattle.std.specs.Prelude.{ℕ, ◌<◌, List, [], length, take}
use Rattle.trace_values.specs.Sending.{Account, TookOnly}
use Rattle.trace_values.specs.Encoding.{SendFails}
use Rattle.trace_page.specs.declared.sending.PageError.{PageError}
use Rattle.trace_page.specs.declared.sending.PageError.TheVariants.{OutOfMemory, Writer}

-- A page was not sent whole, but a front of it that is not all. A growth was refused after that, or the writer failed
-- once.
abbrev pub PageFails : Account → Account → List ℕ → PageError → Type 0
PageFails old new page OutOfMemory =
    (accepted : ℕ) × (accepted < length page) × TookOnly old new (take accepted page) []
PageFails old new page (Writer kind) = SendFails old new page kind
