use Rattle.std.proofs.Common.{◌≡◌, ℕ, List, refl, rules}
use Rattle.std.specs.Fmt.{decimal}
use Rattle.trace_csv.proofs.CellsOfRow.{Pushed, cell_pushed}
use Rattle.trace_csv.proofs.cells.push_natural.Goals as goal

pub returns : goal.returns
returns c =
    let text : c.as_bytes.result.now ≡ decimal c.args.number = search rules in
    let pushed : Pushed c.push_field.result c.args.row.now c.push_field.new.self c.as_bytes.result.now =
    record { fields = c.push_field.ensures.fields; partial = c.push_field.ensures.partial } in
    cell_pushed c.push_field.result (λ (cell : List ℕ). cell ≡ decimal c.args.number)
    (decimal c.args.number) pushed c.requires text refl
