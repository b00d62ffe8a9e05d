-- Lines of JSON that are held before they are sent, and sent as they grow.
use Rattle.std.specs.Prelude.{◌≡◌, ℕ, List, [], ◌∷◌, ◌++◌}
use Rattle.std.specs.declared.io.ErrorKind.{ErrorKind}
use Rattle.json.specs.Json.{Json}
use Rattle.json.specs.Print.{print}
use Rattle.json.specs.Token.{Token}
use Rattle.trace_values.specs.Sending.{Account, TookOnly}
use Rattle.trace_values.specs.Encoding.{SendFails}
use Rattle.trace_json.specs.Lines.{json_text, line_feed}
use Rattle.trace_json.specs.declared.sending.JsonLines.{JsonLines}
use Rattle.trace_json.specs.declared.growing.LineError.{LineError}
use Rattle.trace_json.specs.declared.growing.LineError.TheVariants.{OutOfMemory, Writer}

-- of these bytes a front was sent, without a fault, and the others are held
pub record SendsPart (before after : Account) (bytes held : List ℕ) : Type 0 where
  pub sent : List ℕ
  pub took : TookOnly before after sent []
  pub all : bytes ≡ sent ++ held

-- The text of JSON of which something is so came after what is held, and a line feed after it. Of all that a front was
-- sent.
pub record SendsLine (is : Json → Type 0) (before after : Account) (old new : JsonLines) : Type 0 where
  pub json : Json
  pub is_so : is json
  pub sends : SendsPart before after (old.held.items ++ (json_text json ++ line_feed ∷ [])) new.held.items

-- a front of what is held, and of the text of tokens and a line feed after it, was sent, and these faults came
pub record StopsWithin (before after : Account) (held : List ℕ) (faults : List ErrorKind) : Type 0 where
  pub tokens : List Token
  pub sent : List ℕ
  pub others : List ℕ
  pub took : TookOnly before after sent faults
  pub all : held ++ (print tokens ++ line_feed ∷ []) ≡ sent ++ others

-- what is held was not sent: the writer failed once, after a front of it and not all
abbrev pub HeldFails : Account → Account → JsonLines → LineError → Type 0
HeldFails before after lines OutOfMemory = ⊥
HeldFails before after lines (Writer kind) = SendFails before after lines.held.items kind

-- A line was not held. A growth was refused, and no fault came. Or the writer failed, and nothing was tried after that.
abbrev pub LineFails : Account → Account → JsonLines → LineError → Type 0
LineFails before after lines OutOfMemory = StopsWithin before after lines.held.items []
LineFails before after lines (Writer kind) = StopsWithin before after lines.held.items (kind ∷ [])
