-- Bytes that a call puts into the room that its caller has.
use Rattle.std.specs.Prelude.{◌≡◌, ◌⊎◌, ℕ, ◌<◌, ◌≤◌, List, ◌++◌, length, drop}
use Rattle.trace_door.specs.Codes.{short_code}

-- the bytes stand at the front of the room, and the rest of it is as it was
abbrev pub IsFilled : List ℕ → List ℕ → List ℕ → Type 0
IsFilled bytes old new = (length bytes ≤ length old) × (new ≡ bytes ++ drop (length bytes) old)

-- the room is too short for the bytes, and as it was
abbrev pub IsShort : List ℕ → List ℕ → List ℕ → Type 0
IsShort bytes old new = (length old < length bytes) × (new ≡ old)

-- the bytes went into the room, which one number tells, or it is too short, which another does; so many bytes are
-- written or needed
abbrev pub Fills : List ℕ → List ℕ → List ℕ → (needed told code : ℕ) → Type 0
Fills bytes old new needed told code = (needed ≡ length bytes)
    × (((code ≡ told) × IsFilled bytes old new) ⊎ ((code ≡ short_code) × IsShort bytes old new))
