use Rattle.std.proofs.Common.{refl, length, ◌≡◌, ◌≤◌, arith, rules}
use Rattle.trace_recordings.proofs.EventValues.{number_more, no_number_more}
use Rattle.trace_recordings.proofs.typed.events.wide_of.Goals as goal

pub returns-clause-numbers : goal.returns-clause-numbers
returns-clause-numbers c =
    let xs = c.args.numbers.now in
    let count : length xs ≡ 20 = search rules in
    let enough : 20 ≤ length xs = omega (arith, count) in
    let all : length xs ≤ 20 = omega (arith, count) in
    number_more xs 20 enough 0 refl _ (
    number_more xs 20 enough 1 refl _ (
    number_more xs 20 enough 2 refl _ (
    number_more xs 20 enough 3 refl _ (
    number_more xs 20 enough 4 refl _ (
    number_more xs 20 enough 5 refl _ (
    number_more xs 20 enough 6 refl _ (
    number_more xs 20 enough 7 refl _ (
    number_more xs 20 enough 8 refl _ (
    number_more xs 20 enough 9 refl _ (
    number_more xs 20 enough 10 refl _ (
    number_more xs 20 enough 11 refl _ (
    number_more xs 20 enough 12 refl _ (
    number_more xs 20 enough 13 refl _ (
    number_more xs 20 enough 14 refl _ (
    number_more xs 20 enough 15 refl _ (
    number_more xs 20 enough 16 refl _ (
    number_more xs 20 enough 17 refl _ (
    number_more xs 20 enough 18 refl _ (
    number_more xs 20 enough 19 refl _ (
    no_number_more xs 20 all))))))))))))))))))))
