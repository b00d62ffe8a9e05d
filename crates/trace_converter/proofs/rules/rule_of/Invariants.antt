use Rattle.std.proofs.Common.{◌≡◌, drop}
use Rattle.trace_converter.specs.Rules.{rule_for}
use Rattle.trace_converter.proofs.rules.rule_of.Given as goal

abbrev pub invariant-loop-rule : goal.invariant-loop-rule
invariant-loop-rule l = record {
  same : rule_for l.rules l.name ≡ rule_for (drop l.rule-index l.rules) l.name;
}
