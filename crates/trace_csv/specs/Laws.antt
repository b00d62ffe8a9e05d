-- Rows that are written are read back.
use Rattle.std.specs.Prelude.{◌≡◌, ℕ, List, [], ◌∷◌}
use Rattle.std.specs.List.{flat_map}
use Rattle.csv.specs.Reading.{default_config, records}
use Rattle.csv.specs.Writing.{default_writer, row_text}
use Rattle.trace_wire.specs.Schemas.{Field}
use Rattle.dial9_trace_format.specs.ShownEvents.{ShownEvent}
use Rattle.trace_csv.specs.Cells.{AreEventCells}
use Rattle.trace_csv.specs.Columns.{column_names}

-- the rows of events, in order
abbrev pub AreRowsOf : List ShownEvent → List (List (List ℕ)) → Type 0
AreRowsOf [] rows = rows ≡ []
AreRowsOf (e ∷ es) rows =
    (cells : List (List ℕ)) × (rest : List (List (List ℕ))) × (rows ≡ cells ∷ rest) × AreEventCells e cells
    × AreRowsOf es rest

-- the text of rows, as the kit's writer writes each by its defaults
abbrev pub rows_text : List (List (List ℕ)) → List ℕ
rows_text rows = flat_map (row_text default_writer) rows

-- a table has the names of columns in its first row, and then the rows of events: a reader finds these, and no others
abbrev pub RowsAreReadBack : Type 0
RowsAreReadBack =
    (fields : List Field) (events : List ShownEvent) (rows : List (List (List ℕ))) → AreRowsOf events rows →
    records default_config (rows_text (column_names fields ∷ rows)) ≡ column_names fields ∷ rows
