-- What becomes of a file that is read while it grows.
use Rattle.std.specs.Prelude.{◌≡◌, ◌≢◌, ◌⊎◌, ℕ, ◌/◌, ◌<◌, ◌≤◌, Option, Some, None, List, [], ◌++◌, codes}
use Rattle.gotymbe_plan.specs.Endings.{start_text}
use Rattle.gotymbe_plan.specs.declared.following.Seen.{Seen}
use Rattle.gotymbe_plan.specs.declared.following.Change.{Change}
use Rattle.gotymbe_plan.specs.declared.following.Change.TheVariants.{Nothing, Grew, Shrank, Replaced, Gone}

-- the same file, whatever it holds
abbrev pub IsSameFile : Seen → Seen → Type 0
IsSameFile a b = (a.device ≡ b.device) × (a.node ≡ b.node)

-- what stands under the name of a file of which so many bytes were read
abbrev pub HasCome : Seen → ℕ → Option Seen → Change → Type 0
HasCome known read None Gone = Unit {0}
HasCome known read (Some now) Replaced = (now.device ≢ known.device) ⊎ (now.node ≢ known.node)
HasCome known read (Some now) Shrank = IsSameFile now known × (now.length < read)
HasCome known read (Some now) Grew = IsSameFile now known × (read < now.length)
HasCome known read (Some now) Nothing = IsSameFile now known × (now.length ≡ read)
HasCome known read now change = ⊥

-- a file is read anew where it shrank, and where another one stands under its name
abbrev pub IsAnew : Change → Type 0
IsAnew Shrank = Unit {0}
IsAnew Replaced = Unit {0}
IsAnew change = ⊥

-- the line that tells so, of the program and the file; else none
abbrev pub anew_line : List ℕ → Change → List ℕ
anew_line name Shrank = start_text name ++ codes "shrank, and is read anew\n"
anew_line name Replaced = start_text name ++ codes "was replaced, and is read anew\n"
anew_line name change = []

-- so many seconds are over, where any are said
abbrev pub HasRested : ℕ → Option ℕ → Type 0
HasRested resting_ms (Some seconds) = seconds ≤ resting_ms / 1000
HasRested resting_ms None = ⊥
