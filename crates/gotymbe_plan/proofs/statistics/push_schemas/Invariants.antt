use Rattle.std.proofs.Common.{◌≡◌, ◌++◌, take, string_bytes}
use Rattle.std.specs.List.{flat_map}
use Rattle.gotymbe_plan.specs.Statistics.{schema_lines}
use Rattle.gotymbe_plan.proofs.statistics.push_schemas.Given as goal

abbrev pub invariant-loop-schema : goal.invariant-loop-schema
invariant-loop-schema l =
    string_bytes l.out ≡ string_bytes l.initial.out ++ flat_map schema_lines (take l.schema-index l.schemas)
