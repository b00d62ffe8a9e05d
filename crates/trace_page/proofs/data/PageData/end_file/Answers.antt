use Rattle.std.proofs.Common.{refl, rules}
use Rattle.trace_page.proofs.Told.{file_ended}
use Rattle.trace_page.proofs.data.PageData.end_file.Goals as goal

pub returns-clause-ended : goal.returns-clause-ended
returns-clause-ended c = λ files rest holds.
    file_ended c.args.zero files rest c.args.self.now _ (record {
      whole = refl;
      names = refl;
      tokens = refl;
      times = refl;
      places = refl;
      schemas = refl;
      clocks = search rules;
      ended = search rules;
    })
    holds
