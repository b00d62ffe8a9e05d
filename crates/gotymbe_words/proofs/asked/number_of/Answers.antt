use Rattle.std.proofs.Common.{ℕ, List, Result}
use Rattle.std.specs.Str.Parse.{ParsesUnsigned, ExplainsUnsignedError, HasUnsignedDigitsIfOk}
use Rattle.std.specs.declared.num.ParseIntError.{ParseIntError}
use Rattle.gotymbe_words.proofs.NumeralIsRead.{numeral_read}
use Rattle.gotymbe_words.proofs.asked.number_of.Goals as goal

-- what reading a number gives
abbrev Reads : List ℕ → Result ℕ ParseIntError → Type 0
Reads bs r = ParsesUnsigned 64 10 bs r × ExplainsUnsignedError 10 bs r × HasUnsignedDigitsIfOk bs r

parses : (bs : List ℕ) (r : Result ℕ ParseIntError) → Reads bs r → ParsesUnsigned 64 10 bs r
parses bs r read = read.0

pub returns : goal.returns
returns c = record {
  none = c.get_one.ensures.none;
  some = λ t is numeral fits.
      numeral_read Reads parses t c.get_one.result (c.get_one.ensures.value t is) numeral fits;
}
