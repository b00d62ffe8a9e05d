use Rattle.std.proofs.Common.{◌≡◌, ◌++◌, take}
use Rattle.std.specs.List.{flat_map}
use Rattle.json.specs.Tree.{json_tokens}
use Rattle.trace_json.specs.EventJson.{address_json}
use Rattle.trace_json.proofs.leaves.put_addresses.Given as goal

abbrev pub invariant-loop-address : goal.invariant-loop-address
invariant-loop-address l = record {
  tokens : l.out.tokens
      ≡ l.initial.out.tokens ++ flat_map (λ a. json_tokens (address_json a)) (take l.address-index l.addresses);
  before : l.out.before ≡ l.initial.out.before;
}
