-- How a writer takes bytes and fails.
use Rattle.std.specs.Prelude.{ℕ, min}
use Rattle.trace_samples.specs.declared.manner.Manner.{Manner}
use Rattle.trace_samples.specs.declared.manner.Failing.{Failing}
use Rattle.trace_samples.specs.declared.manner.Failing.TheVariants.{Never, Once, Always}
use Rattle.trace_samples.specs.declared.manner.Fault.{Fault}
use Rattle.trace_samples.specs.declared.manner.Fault.TheVariants.{Zero}

-- the fault that comes next: a writer that never fails by its manner answers 0 where its room ends
abbrev pub next_fault : Failing → Fault
next_fault Never = Zero
next_fault (Once fault) = fault
next_fault (Always fault) = fault

-- how it fails after a fault: what fails once fails no more
abbrev pub spent : Failing → Failing
spent Never = Never
spent (Once fault) = Never
spent (Always fault) = Always fault

-- how many bytes the array holds
abbrev pub room : ℕ
room = 1024

-- after how many bytes no byte is accepted: at the place where it fails, or where its room ends
abbrev pub end_by : Failing → ℕ → ℕ
end_by Never place = room
end_by (Once fault) place = min place room
end_by (Always fault) place = min place room

abbrev pub end_of : Manner → ℕ
end_of manner = end_by manner.failing manner.place
