use Rattle.std.proofs.Common.{◌≡◌, ◌∙◌, ℕ, List, [], ◌∷◌, ◌++◌, ap, rules}
use Rattle.json.specs.Token.{end_object}
use Rattle.trace_wire.specs.Schemas.{Field}
use Rattle.json.specs.Tree.{json_tokens}
use Rattle.trace_json.proofs.Tokens.{enclosed}
use Rattle.trace_csv.specs.Manifests.{names_json}
use Rattle.trace_csv.specs.parts.Manifests.{manifest_tokens}
use Rattle.trace_csv.proofs.manifest.put_table.Goals as goal

pub returns-clause-tokens : goal.returns-clause-tokens
returns-clause-tokens c =
    let schema = c.args.schema.now in
    let name : c.name.result.now ≡ schema.name = search rules in
    let fields : c.fields.result.now ≡ schema.fields = search rules in
    enclosed c.end_object.result c.args.out.now.tokens _
    (manifest_tokens c.args.table.now schema.name c.args.rows) (json_tokens (names_json schema.fields))
    (end_object ∷ [])
    (c.in_ok-put_head.ensures.tokens
    ∙ ap (λ (n : List ℕ). c.args.out.now.tokens ++ manifest_tokens c.args.table.now n c.args.rows) name)
    (c.in_ok-put_names.ensures.tokens
    ∙ ap (λ (l : List Field). c.put_head.new.out.tokens ++ json_tokens (names_json l)) fields)
    c.end_object.ensures.ok
