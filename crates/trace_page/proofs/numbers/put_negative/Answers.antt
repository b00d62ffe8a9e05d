use Rattle.std.proofs.Common.{◌≡◌, ◌∷◌, ◌≤◌, rules, sym, subst, ◌∙◌, arith}
use Rattle.std.proofs.lemmas.Bool.{leb-true}
use Rattle.std.specs.Fmt.{decimal}
use Rattle.json.specs.Print.{IsNumber}
use Rattle.trace_page.specs.PageValues.{most_exact}
use Rattle.trace_page.proofs.Numerals.{is_numeral}
use Rattle.trace_page.proofs.numbers.put_negative.Goals as goal

pub number-requires : goal.number-requires
number-requires c =
    let n = c.args.number in
    let text : c.as_str.result.now ≡ 45 ∷ decimal n = search rules in
    let small : n ≤ most_exact = leb-true n most_exact (sym c.is_exact.ensures ∙ c.if-is_exact.true) in
    subst IsNumber (sym text) (is_numeral n (omega (arith, small)))
