use Rattle.std.proofs.Common.{◌≡◌, ◌+◌, ◌<◌, ◌%◌, ◌^◌, ap, ℕ, length, set, rules, ◌∙◌}
use Rattle.std.proofs.Math.Nat.{mod-eq_of_lt}
use Rattle.trace_stats.specs.Summaries.{binary_digits}
use Rattle.trace_stats.proofs.Counting.{least_with, greatest_with, one_number_more, sum_fits, of_digits_fits}
use Rattle.trace_stats.proofs.summary.Summary.add.Goals as goal

pub returns-clause-added : goal.returns-clause-added
returns-clause-added c xs s =
    let old = c.args.self.now in
    let n = c.args.number in
    let d = binary_digits n in
    let count : c.in-Some.count ≡ old.count + 1 = search rules in
    let room : old.count + 1 < 18446744073709551616 = search rules in
    let fits : old.greatest < 18446744073709551616 = search rules in
    let fits_n : n < 18446744073709551616 = search rules in
    let lt : d < length old.by_digits = search rules in
    let from : c.from.result ≡ n = search rules in
    one_number_more n _ s count (least_with n old _ fits_n c.min-self.ensures)
    (greatest_with n old _ c.max-self.ensures)
    (ap (λ (k : ℕ). (old.sum + k) % 2 ^ 128) from ∙ mod-eq_of_lt (sum_fits xs n old s fits fits_n room)) lt
    (ap (λ (k : ℕ). set old.by_digits d k) (mod-eq_of_lt (of_digits_fits xs n old s room)))
