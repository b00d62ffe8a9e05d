use Rattle.std.proofs.Common.{◌≡◌, ◌++◌}
use Rattle.std.specs.List.{flat_map}
use Rattle.json.specs.Tree.{json_tokens}
use Rattle.trace_page.specs.PageSchemas.{first_fields}
use Rattle.trace_page.proofs.schemas.put_each_field.Given as goal

abbrev pub invariant-fields : goal.invariant-fields
invariant-fields l = record {
  tokens : l.out.tokens ≡ l.initial.out.tokens ++ flat_map json_tokens (first_fields l.entry l.place);
  before : l.out.before ≡ l.initial.out.before;
}
