use Rattle.std.proofs.Common.{◌≡◌, ◌∙◌, ◌++◌, ℕ, get_or, replicate, ap, rules}
use Rattle.trace_chrome.specs.Entries.{entries_text, is_cut}
use Rattle.trace_chrome.proofs.Closings.{track_closed}
use Rattle.trace_chrome.proofs.trace.push_closings.Goals as goal

pub tracks-preserved : goal.tracks-preserved
tracks-preserved c =
    let ts = c.args.tracks.now in
    let i = c.tracks.track in
    let t = c.index-tracks-track.result in
    let is : t ≡ get_or ts i t = search rules in
    let cuts = λ (n : ℕ). c.tracks.out.items ++ entries_text c.args.from (replicate n (is_cut i c.args.at)) in
    record {
      text = track_closed c.args.from c.args.at ts i c.args.out.now.items t c.tracks-test.true is
          c.tracks.invariant.text (c.in_ok-push_cuts.ensures ∙ ap cuts c.depth-count.ensures);
    }
