use Rattle.std.proofs.Common.{Bool, ◌&&◌, ap₂, ◌∙◌}
use Rattle.trace_values.proofs.SameEnds.{ends_alike}
use Rattle.trace_values.proofs.types.same_bytes.same_ends.Goals as goal

pub returns-in-Some-Some-Some-Some : goal.returns-in-Some-Some-Some-Some
returns-in-Some-Some-Some-Some g c =
    let ends = c.in-Some-Some-Some-Some in
    ap₂ (λ (x y : Bool). x && y) c.eq.ensures c.eq-in-Some-Some-Some-Some.ensures
    ∙ ends_alike _ c.args.a.now c.args.b.now c.requires.same c.requires.most ends.ensures.cases.same
    ends.ensures'.cases.same ends.ensures''.cases.1.same ends.ensures'''.cases.1.same
