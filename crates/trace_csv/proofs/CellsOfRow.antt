-- Cells that are appended to a row.
use Rattle.std.proofs.Common.{◌≡◌, ℕ, Bool, true, false, List, [], ◌∷◌, ◌++◌, length, take, get_or, ◌+◌, ◌<◌, ◌≤◌}
use Rattle.std.proofs.Common.{refl, sym, ap, subst}
use Rattle.std.proofs.lemmas.List.{append-nil}
use Rattle.std.specs.Fmt.{decimal}
use Rattle.std.proofs.Common.{◌∙◌, Result, Ok, Err, OnOk, map as list_map}
use Rattle.std.specs.Prelude.{Option, Some, from_bits}
use Rattle.std.specs.Bool.{MatchBool}
use Rattle.std.specs.FinMap as finmap
use Rattle.std.specs.Float.{float_is_finite}
use Rattle.std.specs.Float.Ieee.{Float, binary64}
use Rattle.std.proofs.lemmas.List.{take_all}
use Rattle.csv.specs.Records.{Row, fields_of, partial_of}
use Rattle.json.specs.Print.{print_from}
use Rattle.json.specs.Json.{Json, number, string, null}
use Rattle.trace_json.specs.Lines.{json_text}
use Rattle.trace_json.specs.EventJson.{IsFloatJson, IsNumeralOf, pooled_text_json, special_text}
use Rattle.trace_json.proofs.OneMore.{seen_more}
use Rattle.trace_values.specs.Values.{Value}
use Rattle.trace_values.specs.Values as values
use Rattle.trace_wire.specs.Runs.{Pools}
use Rattle.trace_csv.specs.Cells.{IsCellOf, AreCellsOf}
use Rattle.trace_csv.specs.parts.Cells.{EndsIn, PushesCell}

-- what a push of a field tells
pub record Pushed {E : Type 0} (r : Result (Unit {0}) E) (old new : Row) (field : List ℕ) : Type 0 where
  pub fields : OnOk r (fields_of new ≡ fields_of old ++ (partial_of old ++ field) ∷ [])
  pub partial : OnOk r (partial_of new ≡ [])

-- a cell was pushed onto a row that ended in no part of one
pub cell_pushed :
    {E : Type 0} (r : Result (Unit {0}) E) (is : List ℕ → Type 0) {old new : Row} (cell : List ℕ) {field : List ℕ} →
    Pushed r old new field → partial_of old ≡ [] → field ≡ cell → is cell → PushesCell is old new r
cell_pushed (Err e) is cell p whole same so = p.partial
cell_pushed (Ok u) is {old} cell {field} p whole same so = record {
  cell = cell;
  is_so = so;
  cells = p.fields ∙ ap (λ (c : List ℕ). fields_of old ++ c ∷ []) (ap (λ (f : List ℕ). f ++ field) whole ∙ same);
  whole = p.partial;
}

-- the cell of a value that is another
cell_as : (p : Pools) (v w : Value) (cell : List ℕ) → v ≡ w → IsCellOf p w cell → IsCellOf p v cell
cell_as p v w cell is so = subst (λ (u : Value). IsCellOf p u cell) (sym is) so

-- the cell of a text
pub text_cell : (p : Pools) (v : Value) (s : List ℕ) → v ≡ values.text s → IsCellOf p v s
text_cell p v s is = cell_as p v (values.text s) s is (string s, refl, refl)

-- the cell of a text in the pool
pub pooled_cell :
    (p : Pools) (v : Value) (id : ℕ) (s : List ℕ) → v ≡ values.pooled_text id → finmap.get p.strings id ≡ Some s →
    IsCellOf p v s
pooled_cell p v id s is found =
    cell_as p v (values.pooled_text id) s is (string s, sym (ap (pooled_text_json id) found), refl)

number_text : (s : List ℕ) → json_text (number s) ≡ s
unfolding print_from
number_text s = append-nil s

-- the cell of a number from 0 on, as it was pushed
pub natural_pushed :
    {E : Type 0} (p : Pools) (v : Value) (n : ℕ) (r : Result (Unit {0}) E) (old new : Row) → v ≡ values.number n →
    PushesCell (λ cell. cell ≡ decimal n) old new r → PushesCell (IsCellOf p v) old new r
natural_pushed p v n (Err e) old new is h = h
natural_pushed p v n (Ok u) old new is h = record {
  cell = h.cell;
  is_so = cell_as p v (values.number n) h.cell is
      (number (decimal n), refl, h.is_so ∙ sym (number_text (decimal n)));
  cells = h.cells;
  whole = h.whole;
}

-- the cell of an absent value
pub absent_cell : (p : Pools) (v : Value) → v ≡ values.absent → IsCellOf p v []
absent_cell p v is = cell_as p v values.absent [] is (null, refl, refl)

by_test : (b c : Bool) (P Q : Type 0) → b ≡ c → MatchBool c P Q → MatchBool b P Q
by_test b c P Q same h = subst (λ (x : Bool). MatchBool x P Q) (sym same) h

-- the cell of a float that is infinite or no number
pub special_cell :
    (p : Pools) (v : Value) (n : ℕ) (x : Float) (b : Bool) → v ≡ values.float n → x ≡ from_bits binary64 n →
    b ≡ float_is_finite x → b ≡ false → IsCellOf p v (special_text n)
special_cell p v n x b is bits test other =
    let special : IsFloatJson n (string (special_text n)) =
    by_test (float_is_finite (from_bits binary64 n)) false
    ((t : List ℕ) × IsNumeralOf n t × (string (special_text n) ≡ number t))
    (string (special_text n) ≡ string (special_text n)) (ap float_is_finite (sym bits) ∙ sym test ∙ other) refl in
    cell_as p v (values.float n) (special_text n) is (string (special_text n), special, refl)

-- ---- the cells of an event

-- a row of a time and the cells of values
pub record HasCells (p : Pools) (time : List ℕ) (vs : List Value) (row : Row) : Type 0 where
  pub cells : List (List ℕ)
  pub are : AreCellsOf p vs cells
  pub row_is : fields_of row ≡ time ∷ cells
  pub whole : partial_of row ≡ []

-- the time alone
pub first_cell :
    (p : Pools) (time : List ℕ) {empty row : Row} → fields_of empty ≡ [] →
    EndsIn (λ cell. cell ≡ time) empty row → HasCells p time [] row
first_cell p time none e = record {
  cells = [];
  are = refl;
  row_is = e.cells ∙ ap (λ (l : List (List ℕ)). l ++ e.cell ∷ []) none ∙ ap (λ (c : List ℕ). c ∷ []) e.is_so;
  whole = e.whole;
}

cells_more :
    (p : Pools) (vs : List Value) (v : Value) (cs : List (List ℕ)) (c : List ℕ) → AreCellsOf p vs cs →
    IsCellOf p v c → AreCellsOf p (vs ++ v ∷ []) (cs ++ c ∷ [])
cells_more p [] v cs c none is = (c, [], ap (λ (l : List (List ℕ)). l ++ c ∷ []) none, is, refl)
cells_more p (u ∷ us) v cs c all is =
    (all.0, all.1 ++ c ∷ [], ap (λ (l : List (List ℕ)). l ++ c ∷ []) all.2, all.3, cells_more p us v all.1 c all.4 is)

-- the cells so far, and the next one
pub next_cell :
    {A : Type 0} (p : Pools) (time : List ℕ) (seen : A → Value) (xs : List A) (i : ℕ) {x : A} {old new : Row} →
    i < length xs → x ≡ get_or xs i x → HasCells p time (list_map seen (take i xs)) old →
    EndsIn (IsCellOf p (seen x)) old new → HasCells p time (list_map seen (take (i + 1) xs)) new
next_cell p time seen xs i {x} lt is h e = record {
  cells = h.cells ++ e.cell ∷ [];
  are = subst (λ (vs : List Value). AreCellsOf p vs (h.cells ++ e.cell ∷ [])) (sym (seen_more seen xs i x lt is))
      (cells_more p (list_map seen (take i xs)) (seen x) h.cells e.cell h.are e.is_so);
  row_is = e.cells ∙ ap (λ (l : List (List ℕ)). l ++ e.cell ∷ []) h.row_is;
  whole = e.whole;
}

-- all of them
pub all_cells :
    {A : Type 0} (p : Pools) (time : List ℕ) (seen : A → Value) (xs : List A) (i : ℕ) (row : Row) → length xs ≤ i →
    HasCells p time (list_map seen (take i xs)) row → HasCells p time (list_map seen xs) row
all_cells {A} p time seen xs i row le h =
    subst (λ (l : List A). HasCells p time (list_map seen l) row) (take_all i xs le) h
