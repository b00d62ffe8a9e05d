-- What is to be thought of a call of which a growth was refused.
use Rattle.std.specs.Prelude.{◌≡◌, ℕ, ◌<◌, ◌+◌, ◌-◌, ◌^◌, min, Bool, true, false}
use Rattle.hostile.specs.declared.refused.verdict.Seen.{Seen}
use Rattle.hostile.specs.declared.refused.verdict.Verdict.{Verdict}
use Rattle.hostile.specs.declared.refused.verdict.Verdict.TheVariants.{Untouched, Told, Absorbed, Wrong}
use Rattle.hostile.specs.declared.refused.verdict.Answer.TheVariants as answers
use Rattle.hostile.specs.declared.refused.verdict.Counts.{Counts}
use Rattle.hostile.specs.declared.refused.verdict.Need.{Need}
use Rattle.hostile.specs.declared.refused.verdict.Need.TheVariants as needs

-- no growth was refused, the answer is the same, and all before and after it is right
abbrev pub IsUntouched : Seen → Type 0
IsUntouched seen = (seen.refused ≡ false) × (seen.answer ≡ answers.Same) × (seen.right ≡ true)

-- a growth was refused, that was told, and all before and after it is right
abbrev pub IsTold : Seen → Type 0
IsTold seen = (seen.refused ≡ true) × (seen.answer ≡ answers.Memory) × (seen.right ≡ true)

-- a growth was refused, the answer is the same, and all before and after it is right
abbrev pub IsAbsorbed : Seen → Type 0
IsAbsorbed seen = (seen.refused ≡ true) × (seen.answer ≡ answers.Same) × (seen.right ≡ true)

-- which verdict it is
abbrev pub is_told : Verdict → Bool
is_told Untouched = false
is_told Told = true
is_told Absorbed = false
is_told Wrong = false

abbrev pub is_absorbed : Verdict → Bool
is_absorbed Untouched = false
is_absorbed Told = false
is_absorbed Absorbed = true
is_absorbed Wrong = false

abbrev pub is_wrong : Verdict → Bool
is_wrong Untouched = false
is_wrong Told = false
is_wrong Absorbed = false
is_wrong Wrong = true

-- one more where it is so, up to the greatest number of 64 bits
abbrev pub one_more_if : Bool → ℕ → ℕ
one_more_if true n = min (n + 1) (2 ^ 64 - 1)
one_more_if false n = n

-- nothing was counted
abbrev pub HasNone : Counts → Type 0
HasNone counts = (counts.tried ≡ 0) × (counts.told ≡ 0) × (counts.absorbed ≡ 0) × (counts.wrong ≡ 0)

-- Nothing was wrong. Where growths are refused, calls that need memory told at least one refusal; calls that ask for
-- room to spare absorbed at least one, and told none; calls that take none met none.
abbrev pub IsRight : Bool → Need → Counts → Type 0
IsRight refuses needs.Memory counts = (counts.wrong ≡ 0) × (refuses ≡ true → 0 < counts.told)
IsRight refuses needs.Spare counts =
    (counts.wrong ≡ 0) × (counts.told ≡ 0) × (refuses ≡ true → 0 < counts.absorbed)
IsRight refuses needs.Nothing counts = (counts.wrong ≡ 0) × (counts.told ≡ 0) × (counts.absorbed ≡ 0)
