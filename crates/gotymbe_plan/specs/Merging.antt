-- The order in which the events of several files are shown.
use Rattle.std.specs.Prelude.{◌≡◌, ℕ, ◌≤◌, ◌<◌}
use Rattle.gotymbe_plan.specs.declared.merging.Turn.{Turn}

-- the turn of an event of a file is at its time, unless the one before it is later: then at that one's
pub record IsTurnAfter (file before time : ℕ) (turn : Turn) : Type 0 where
  pub file_is : turn.file ≡ file
  pub sorted : before ≤ time → turn.time ≡ time
  pub back : time < before → turn.time ≡ before
