-- The status of a dump is not that of a failure.
use Rattle.std.proofs.Common.{◌≡◌, ℕ, ◌<◌, List, arith, inl, inr}
use Rattle.trace_values.specs.Values.{Kind}
use Rattle.trace_wire.specs.Frames.{Grammar}
use Rattle.trace_wire.specs.Runs.{Ending, Whole, Stopped, Conflict}
use Rattle.trace_lines.specs.declared.dump.DumpForm.{DumpForm}
use Rattle.trace_lines.specs.Dumps.{failed_status, IsEnd, IsDumpAs}

end_status :
    (k : Kind) (size : ℕ) (last : Grammar) (rest : List ℕ) (end : Ending) (status : ℕ) (text : List ℕ) →
    IsEnd k size last rest end status text → status < failed_status
end_status k size last rest Whole status text e = let s : status ≡ 0 = e.0 in omega arith
end_status k size last rest Stopped status text e = let s : status ≡ 2 = e.0 in omega arith
end_status k size last rest Conflict status text e = let s : status ≡ 3 = e.4 in omega arith

-- the status of a dump is not that of a failure
pub dump_status :
    (form : DumpForm) (input : List ℕ) (status : ℕ) (text : List ℕ) → IsDumpAs form input status text →
    status < failed_status
dump_status form input status text (inl n) = let s : status ≡ 1 = n.status_is in omega arith
dump_status form input status text (inr d) = end_status _ _ _ _ _ status _ d.following.ends
