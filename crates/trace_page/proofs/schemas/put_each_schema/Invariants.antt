use Rattle.std.proofs.Common.{◌≡◌, ◌++◌, take}
use Rattle.std.specs.List.{flat_map}
use Rattle.json.specs.Tree.{json_tokens}
use Rattle.trace_page.specs.PageSchemas.{schema_json}
use Rattle.trace_page.proofs.schemas.put_each_schema.Given as goal

abbrev pub invariant-schemas : goal.invariant-schemas
invariant-schemas l = record {
  tokens : l.out.tokens
      ≡ l.initial.out.tokens ++ flat_map (λ s. json_tokens (schema_json s)) (take l.schema-index l.schemas);
  before : l.out.before ≡ l.initial.out.before;
}
