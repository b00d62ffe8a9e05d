use Rattle.std.proofs.Common.{◌≡◌, ◌+◌, ◌≤◌, refl, rules}
use Rattle.trace_stats.specs.Summaries.{most_counted}
use Rattle.trace_stats.proofs.FloatAddedToSummary.{number_more, numbers_full}
use Rattle.trace_stats.proofs.float.FloatSummary.add_number.Goals as goal

pub returns-in_default-clause-full : goal.returns-in_default-clause-full
returns-in_default-clause-full c xs s =
    let many : most_counted ≤ c.args.self.now.count = search rules in
    numbers_full xs _ many s

pub returns-clause-added : goal.returns-clause-added
returns-clause-added c xs s =
    let count : c.in-Some.count ≡ c.args.self.now.count + 1 = search rules in
    number_more xs c.args.bits c.args.self.now _
    (record {
      is = c.requires;
      count = count;
      least = c.least_with-least.ensures.least;
      greatest = c.greatest_with-greatest.ensures.greatest;
      others = refl;
    }) s
