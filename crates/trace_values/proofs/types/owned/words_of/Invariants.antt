use Rattle.std.proofs.Common.{◌≡◌, ◌≤◌, length, map, take}
use Rattle.std.specs.Int.{w64, from_le_bytes}
use Rattle.std.specs.Vec.{vec_len, vec_capacity}
use Rattle.trace_values.proofs.types.owned.words_of.Given as goal

-- the numbers of the first chunks, and room for those of the others
abbrev pub invariant-words : goal.invariant-words
invariant-words l = (l.words.items ≡ map (from_le_bytes w64) (take l.chunk-index l.chunks))
    × (vec_len l.words ≡ l.chunk-index) × (length l.chunks ≤ vec_capacity l.words)
