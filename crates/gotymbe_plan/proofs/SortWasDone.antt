-- What holds of a sort that was done.
use Rattle.std.proofs.Common.{Result, Ok, Err, OnOk}

-- what follows from what holds on success holds then too
pub on_ok-follows : {A E P Q : Type 0} → (r : Result A E) → (P → Q) → OnOk r P → OnOk r Q
on_ok-follows (Ok a) follows holds = follows holds
on_ok-follows (Err e) follows holds = holds
