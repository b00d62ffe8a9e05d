-- Schemas of one name with the same fields.
use Rattle.std.specs.Prelude.{Bool, []}
use Rattle.trace_wire.specs.Schemas.{Entry, same_entry}

-- a schema without its annotations
abbrev pub bare : Entry → Entry
bare e = record { name = e.name; fields = e.fields; annotations = [] }

-- the same name and the same fields
abbrev pub is_same_schema : Entry → Entry → Bool
is_same_schema a b = same_entry (bare a) (bare b)
