use Rattle.std.proofs.Common.{◌≡◌, ℕ, ◌≢◌, List, ◌++◌, Bor, MatchOption, IfSome, Option, Some, None}
use Rattle.std.proofs.lemmas.Slice.Eq.{strip_prefix_is}
use Rattle.std.proofs.lemmas.Bool.Decides.{Decides-eqb}
use Rattle.trace_recordings.proofs.script.parts.after_mark.Goals as goal

-- the part of the answer that is about a mark that stands there
found :
    (mark line : List ℕ) (r : Option (Bor (List ℕ))) →
    MatchOption r ((rest : List ℕ) → line ≢ mark ++ rest) (λ x. line ≡ mark ++ x.now) →
    IfSome r (λ x. line ≡ mark ++ x.now)
found mark line None h = tt
found mark line (Some x) h = h

pub returns-clause-found : goal.returns-clause-found
returns-clause-found c =
    found _ _ _
    (strip_prefix_is Decides-eqb c.args.line.now c.args.mark.now c.strip_prefix.result c.strip_prefix.ensures.cases)
