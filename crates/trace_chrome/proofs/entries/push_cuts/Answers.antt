use Rattle.trace_chrome.specs.Entries.{entry_text, is_cut}
use Rattle.trace_chrome.proofs.Appending.{one_more}
use Rattle.trace_chrome.proofs.entries.push_cuts.Goals as goal

pub cuts-preserved : goal.cuts-preserved
cuts-preserved c = record {
  text = one_more (entry_text c.args.spot.from) c.cuts.counter (is_cut c.args.spot.track c.args.spot.at)
      c.args.out.now.items c.cuts.invariant.text c.in_ok-push_cut.ensures;
}
