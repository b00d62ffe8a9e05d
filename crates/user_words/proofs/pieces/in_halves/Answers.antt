use Rattle.std.proofs.Common.{ap}
use Rattle.std.proofs.lemmas.Result.{err_from_is_err_and}
use Rattle.dial9_trace_format.specs.Words.{Fed}
use Rattle.user_words.proofs.TwoPiecesAsWhole.{as_whole, refuses_first, refuses_second}
use Rattle.user_words.proofs.pieces.in_halves.Goals as goal

pub returns-in_err-front-clause-refused : goal.returns-in_err-front-clause-refused
returns-in_err-front-clause-refused c =
    let p = err_from_is_err_and c.from_residual.result c.from_residual.ensures.1 in
    rw (p.1, p.2)
    (refuses_first (ap (λ (f : Fed). f.state) c.new-decoder.ensures) c.in_err-front.ensures.feeds)

pub returns-in_err-others-clause-refused : goal.returns-in_err-others-clause-refused
returns-in_err-others-clause-refused c =
    let p = err_from_is_err_and c.from_residual-in_err-others.result c.from_residual-in_err-others.ensures.1 in
    rw (p.1, p.2)
    (refuses_second (ap (λ (f : Fed). f.state) c.new-decoder.ensures) c.in_ok-front.ensures.feeds
    c.in_err-others.ensures.feeds)

pub returns-clause-frames : goal.returns-clause-frames
returns-clause-frames c =
    as_whole c.any_pieces.ensures.run (ap (λ (f : Fed). f.state) c.new-decoder.ensures) c.in_ok-front.ensures.feeds
    c.in_ok-others.ensures.feeds
