use Rattle.trace_converter.proofs.SentByConversion.{RunLaws, run_is_written}
use Rattle.trace_converter.proofs.laws.run_is_written.Goals as goal

pub returns : goal.returns
returns g c =
    let laws : RunLaws = record {
      nothing = c.accounts_join.ensures.nothing;
      joined = c.accounts_join.ensures.joined;
      none = c.reading_joins.ensures.nothing;
      reads = c.reading_joins.ensures.joins;
      goes_on = c.reading_joins.ensures.goes_on;
      items_join = c.decoding.ensures.items;
      text = c.calls_show.ensures.text;
      stack = c.calls_show.ensures.stack;
      event = c.calls_show.ensures.event;
      new_event = c.calls_show.ensures.new_event;
    } in
    run_is_written g.W.TraceWrite.told laws
