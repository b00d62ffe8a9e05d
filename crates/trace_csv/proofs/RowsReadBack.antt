-- Rows that are written are read back.
use Rattle.std.proofs.Common.{◌≡◌, ◌≤◌, ◌+◌, ℕ, zero, suc, List, [], ◌∷◌, ◌++◌, length, refl, sym, ap, subst, ◌∙◌}
use Rattle.std.proofs.Common.{arith, length-append, if◌then◌else◌}
use Rattle.csv.proofs.RoundTrip.{read-write}
use Rattle.csv.specs.Machine.{next_record}
use Rattle.csv.specs.Reading.{default_config, records_from}
use Rattle.csv.specs.Writing.{default_writer, is_blank, read_back, row_body, row_text}
use Rattle.csv.specs.declared.parser.State.TheVariants as states
use Rattle.dial9_trace_format.specs.ShownEvents.{ShownEvent}
use Rattle.trace_csv.specs.Laws.{AreRowsOf, rows_text}

-- rows with a cell each are read back as they are
abbrev AreReadBack : List (List (List ℕ)) → Type 0
AreReadBack [] = Unit {0}
AreReadBack (row ∷ rows) = (read_back row ≡ row) × AreReadBack rows

-- those of events are
rows_have_cells : (es : List ShownEvent) (rows : List (List (List ℕ))) → AreRowsOf es rows → AreReadBack rows
rows_have_cells [] rows none = subst AreReadBack (sym none) tt
rows_have_cells (e ∷ es) rows h =
    let here : read_back h.0 ≡ h.0 = subst (λ (r : List (List ℕ)). read_back r ≡ r) (sym h.3.2) refl in
    subst AreReadBack (sym h.2) (here, rows_have_cells es h.1 h.4)

-- the end of nothing
none_left : (n : ℕ) → records_from default_config n states.StartRecord [] ≡ []
unfolding records_from next_record
none_left zero = refl
none_left (suc n) = refl

-- with as many reads as rows, or more, all are read
read_all :
    (n : ℕ) (rows : List (List (List ℕ))) → AreReadBack rows → length rows ≤ n →
    records_from default_config n states.StartRecord (rows_text rows) ≡ rows
unfolding records_from
read_all n [] back le = none_left n
read_all zero (row ∷ rows) back le = absurd (omega arith)
read_all (suc n) (row ∷ rows) back le =
    rw (read-write row (rows_text rows))
    (ap (λ (r : List (List ℕ)). r ∷ records_from default_config n states.StartRecord (rows_text rows)) back.0
    ∙ ap (λ (rs : List (List (List ℕ))). row ∷ rs) (read_all n rows back.1 (omega arith)))

-- each row ends in a byte
row_is_long : (row : List (List ℕ)) → 1 ≤ length (row_text default_writer row)
row_is_long row =
    let mark : List ℕ = if is_blank default_writer row then 34 ∷ 34 ∷ [] else [] in
    omega (arith, length-append (row_body default_writer row) (mark ++ 10 ∷ []), length-append mark (10 ∷ []))

-- there are no more rows than bytes
no_more_rows : (rows : List (List (List ℕ))) → length rows ≤ length (rows_text rows)
no_more_rows [] = omega arith
no_more_rows (row ∷ rows) =
    omega (
      arith,
      length-append (row_text default_writer row) (rows_text rows),
      row_is_long row,
      no_more_rows rows,
    )

-- the text of a table is read back
pub table_read_back :
    (names : List (List ℕ)) (es : List ShownEvent) (rows : List (List (List ℕ))) → read_back names ≡ names →
    AreRowsOf es rows →
    records_from default_config (length (rows_text (names ∷ rows)) + 1) states.StartRecord (rows_text (names ∷ rows))
    ≡ names ∷ rows
table_read_back names es rows back are =
    read_all (length (rows_text (names ∷ rows)) + 1) (names ∷ rows) (back, rows_have_cells es rows are)
    (omega (arith, no_more_rows (names ∷ rows)))
