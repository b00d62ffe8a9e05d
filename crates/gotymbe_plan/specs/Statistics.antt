-- The lines that tell what events add up to.
use Rattle.std.specs.Prelude.{ℕ, ◌==◌, ◌&&◌, cond, if◌then◌else◌, List, [], ◌++◌, codes, None, Some, unwrap_or}
use Rattle.std.specs.List.{flat_map, enumerate_from, zip}
use Rattle.std.specs.Fmt.{decimal}
use Rattle.trace_wire.specs.Schemas.{Field}
use Rattle.trace_lines.specs.Lines.{quoted, sixteen_digits}
use Rattle.trace_stats.specs.declared.float.FloatSummary.{FloatSummary}
use Rattle.trace_stats.specs.declared.summary.Summary.{Summary}
use Rattle.trace_stats.specs.declared.field.FieldStats.{FieldStats}
use Rattle.trace_stats.specs.declared.schema.SchemaStats.{SchemaStats}
use Rattle.trace_stats.specs.declared.trace.TraceStats.{TraceStats}

-- the least number of a summary, or 0 of none
abbrev pub least_of : Summary → ℕ
least_of s = unwrap_or (cond (s.count == 0) None (Some s.least)) 0

-- the greatest
abbrev pub greatest_of : Summary → ℕ
greatest_of s = unwrap_or (cond (s.count == 0) None (Some s.greatest)) 0

-- how many there are of a number of binary digits, where there are any
abbrev pub digit_text : ℕ × ℕ → List ℕ
digit_text p = if p.1 == 0 then [] else codes " " ++ decimal p.0 ++ codes ":" ++ decimal p.1

abbrev pub digits_text : Summary → List ℕ
digits_text s = codes " digits" ++ flat_map digit_text (enumerate_from 0 s.by_digits)

unfoldable pub numbers_text : Summary → List ℕ
numbers_text s = codes " count=" ++ decimal s.count ++ codes " least=" ++ decimal (least_of s)
    ++ codes " greatest=" ++ decimal (greatest_of s) ++ codes " sum=" ++ decimal s.sum

-- what was counted, and of which field
unfoldable pub head_text : List ℕ → List ℕ → List ℕ
head_text kind name = kind ++ codes " " ++ quoted name

unfoldable pub summary_line : List ℕ → List ℕ → Summary → List ℕ
summary_line kind name s = head_text kind name ++ numbers_text s ++ digits_text s ++ codes "\n"

-- the line of a summary, where anything was counted
unfoldable pub summary_lines : List ℕ → List ℕ → Summary → List ℕ
summary_lines kind name s = if s.count == 0 then [] else summary_line kind name s

-- a float, by its bits, as in dumps
unfoldable pub float_text : ℕ → List ℕ
float_text n = codes "0x" ++ sixteen_digits n

-- the least and the greatest of floats, where there are any that are numbers
unfoldable pub bounds_text : FloatSummary → List ℕ
bounds_text s = if s.count == 0 then []
    else codes " least=" ++ float_text s.least ++ codes " greatest=" ++ float_text s.greatest

-- a number after what it is
unfoldable pub named_number : List ℕ → ℕ → List ℕ
named_number name n = name ++ decimal n

unfoldable pub floats_text : FloatSummary → List ℕ
floats_text s = named_number (codes " count=") s.count ++ bounds_text s
    ++ named_number (codes " not_numbers=") s.not_numbers

unfoldable pub float_line : List ℕ → FloatSummary → List ℕ
float_line name s = head_text (codes "floats") name ++ floats_text s ++ codes "\n"

-- the line of floats, where any were counted
unfoldable pub float_lines : List ℕ → FloatSummary → List ℕ
float_lines name s = if s.count == 0 && s.not_numbers == 0 then [] else float_line name s

-- the lines of a field: its numbers from 0 on, how far others lie below 0, its floats, and how long texts, bytes and
-- stacks are
unfoldable pub field_lines : List ℕ → FieldStats → List ℕ
field_lines name f = summary_lines (codes "numbers") name f.naturals
    ++ summary_lines (codes "negatives") name f.negatives ++ float_lines name f.floats
    ++ summary_lines (codes "lengths") name f.lengths

-- how many events there are, their bytes, and their first and last time
unfoldable pub counts_text : SchemaStats → List ℕ
counts_text s = codes " events=" ++ decimal s.bytes.count ++ codes " bytes=" ++ decimal s.bytes.sum
    ++ codes " first=" ++ decimal (least_of s.times) ++ codes " last=" ++ decimal (greatest_of s.times)

unfoldable pub schema_line : SchemaStats → List ℕ
schema_line s = codes "schema " ++ quoted s.schema.name ++ counts_text s ++ codes "\n"

abbrev pub pair_lines : Field × FieldStats → List ℕ
pair_lines p = field_lines p.0.name p.1

-- the line of a schema, and those of its fields
unfoldable pub schema_lines : SchemaStats → List ℕ
schema_lines s = schema_line s ++ flat_map pair_lines (zip s.schema.fields s.fields.items)

-- the lines of each schema
abbrev pub stats_lines : TraceStats → List ℕ
stats_lines t = flat_map schema_lines t.schemas.items
