-- The texts that create tables.
use Rattle.std.specs.Prelude.{ℕ, List, ◌++◌, length, map, get_or, codes}
use Rattle.std.specs.List.{flat_map, range_with_len}
use Rattle.trace_values.specs.FieldTypes.{inner}
use Rattle.trace_values.specs.declared.types.field_type.FieldType.{FieldType}
use Rattle.trace_values.specs.declared.types.field_type.FieldType.TheVariants as types
use Rattle.trace_wire.specs.Schemas.{Field}
use Rattle.trace_csv.specs.Columns.{column_name}

-- the type in SQL of a plain type
abbrev pub plain_type_name : FieldType → List ℕ
plain_type_name types.I64 = codes "BIGINT"
plain_type_name types.F64 = codes "DOUBLE"
plain_type_name types.Bool = codes "BOOLEAN"
plain_type_name types.Varint = codes "UBIGINT"
plain_type_name types.U8 = codes "UBIGINT"
plain_type_name types.U16 = codes "UBIGINT"
plain_type_name types.U32 = codes "UBIGINT"
plain_type_name t = codes "VARCHAR"

abbrev pub type_name : FieldType → List ℕ
type_name t = plain_type_name (inner t)

-- the column of the field at a place
abbrev pub column_text : List Field → ℕ → List ℕ
column_text fields place =
    codes ",\n  \"" ++ column_name fields place ++ codes "\" "
    ++ type_name (get_or (map (λ f. f.field_type) fields) place types.I64)

-- how the text begins: with the column of the times
abbrev pub table_head : List ℕ → List ℕ
table_head name = codes "CREATE TABLE \"" ++ name ++ codes "\" (\n  \"timestamp_ns\" UBIGINT"

-- how the text ends
abbrev pub table_end : List ℕ
table_end = codes "\n);\n"

-- the text that creates the table of a schema with these fields
abbrev pub create_text : List ℕ → List Field → List ℕ
create_text name fields =
    table_head name ++ flat_map (column_text fields) (range_with_len 0 (length fields)) ++ table_end
