-- The schemas of the sample event types.
use Rattle.std.specs.Prelude.{ℕ, List, [], ◌∷◌, codes}
use Rattle.trace_values.specs.declared.types.field_type.FieldType.{FieldType}
use Rattle.trace_values.specs.declared.types.field_type.FieldType.TheVariants as types
use Rattle.trace_wire.specs.Limits.{greatest_u16}
use Rattle.trace_wire.specs.Schemas.{Field, Annotation, Entry}
use Rattle.trace_writer.specs.Calls.{bare_schema}

-- a field of this name and type
abbrev pub field : List ℕ → FieldType → Field
field name field_type = record { name = name; field_type = field_type }

-- a key and a value for the field of this index
abbrev pub annotation : ℕ → List ℕ → List ℕ → Annotation
annotation index key value = record { index = index; key = key; value = value }

-- ---- the schemas of the types

abbrev pub fast_slot_entry : Entry
fast_slot_entry = bare_schema (codes "FastSlot") []

abbrev pub other_entry : Entry
other_entry = bare_schema (codes "Other") []

abbrev pub last_slot_entry : Entry
last_slot_entry = bare_schema (codes "LastSlot") (field (codes "number") types.U16 ∷ [])

abbrev pub annotated_entry : Entry
annotated_entry = record {
  name = codes "Annotated";
  fields = field (codes "load") types.U8 ∷ [];
  annotations = annotation 0 (codes "unit") (codes "ns")
      ∷ annotation greatest_u16 (codes "") (codes "") ∷ [];
}

abbrev pub also_entry : Entry
also_entry = bare_schema (codes "Also") (field (codes "amount") types.I64 ∷ [])

abbrev pub nameless_entry : Entry
nameless_entry = bare_schema (codes "") (field (codes "") types.Bool ∷ [])

abbrev pub poll_entry : Entry
poll_entry = bare_schema (codes "Poll") (field (codes "worker") types.Varint ∷ field (codes "cpu") types.OptionalU32
    ∷ field (codes "label") types.PooledString ∷ [])

abbrev pub poll_again_entry : Entry
poll_again_entry = bare_schema (codes "Poll") (field (codes "worker") types.Varint ∷ field (codes "core") types.U8
    ∷ [])

abbrev pub poll_annotated_entry : Entry
poll_annotated_entry = record poll_entry { annotations = annotation 1 (codes "unit") (codes "index") ∷ [] }

abbrev pub texts_entry : Entry
texts_entry = bare_schema (codes "Texts") (field (codes "text") types.String ∷ field (codes "blob") types.Bytes
    ∷ field (codes "pairs") types.StringMap ∷ [])

abbrev pub borrowed_entry : Entry
borrowed_entry = bare_schema (codes "Borrowed") (field (codes "path") types.String ∷ field (codes "body") types.Bytes
    ∷ field (codes "note") types.OptionalString ∷ field (codes "rest") types.OptionalBytes ∷ [])

abbrev pub stacks_entry : Entry
stacks_entry =
    bare_schema (codes "Stacks")
    (field (codes "frames") types.StackFrames ∷ field (codes "stack") types.PooledStackFrames ∷ [])

abbrev pub dynamic_entry : Entry
dynamic_entry =
    bare_schema (codes "Dynamic")
    (field (codes "items") types.DynamicList ∷ field (codes "table") types.DynamicMap ∷ [])

abbrev pub numbers_entry : Entry
numbers_entry =
    bare_schema (codes "Numbers")
    (field (codes "byte") types.U8 ∷ field (codes "short") types.U16 ∷ field (codes "word") types.U32
    ∷ field (codes "long") types.Varint ∷ field (codes "signed") types.I64 ∷ field (codes "real") types.F64
    ∷ field (codes "flag") types.Bool ∷ [])

abbrev pub options_entry : Entry
options_entry = bare_schema (codes "Options") (field (codes "byte") types.OptionalU8
    ∷ field (codes "short") types.OptionalU16 ∷ field (codes "word") types.OptionalU32
    ∷ field (codes "long") types.OptionalVarint ∷ field (codes "signed") types.OptionalI64 ∷ field (codes "real")
    types.OptionalF64
    ∷ field (codes "flag") types.OptionalBool ∷ field (codes "text") types.OptionalString ∷ field (codes "blob")
    types.OptionalBytes
    ∷ field (codes "frames") types.OptionalStackFrames ∷ field (codes "label") types.OptionalPooledString
    ∷ field (codes "stack") types.OptionalPooledStackFrames
    ∷ field (codes "pairs") types.OptionalStringMap ∷ [])

abbrev pub wide_entry : Entry
wide_entry =
    bare_schema (codes "Wide")
    (field (codes "v0") types.Varint ∷ field (codes "v1") types.Varint ∷ field (codes "v2") types.Varint
    ∷ field (codes "v3") types.Varint ∷ field (codes "v4") types.Varint ∷ field (codes "v5") types.Varint
    ∷ field (codes "v6") types.Varint ∷ field (codes "v7") types.Varint ∷ field (codes "v8") types.Varint
    ∷ field (codes "v9") types.Varint ∷ field (codes "v10") types.Varint ∷ field (codes "v11") types.Varint
    ∷ field (codes "v12") types.Varint ∷ field (codes "v13") types.Varint ∷ field (codes "v14") types.Varint
    ∷ field (codes "v15") types.Varint ∷ field (codes "v16") types.Varint ∷ field (codes "v17") types.Varint
    ∷ field (codes "v18") types.Varint ∷ field (codes "v19") types.Varint ∷ [])
