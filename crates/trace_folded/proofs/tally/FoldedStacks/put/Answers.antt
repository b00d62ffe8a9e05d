use Rattle.std.proofs.Common.{string_bytes}
use Rattle.std.proofs.lemmas.Map.Text.{btree_map_updates_text}
use Rattle.trace_folded.proofs.OneTextMore.{sets_count, puts_no_other}
use Rattle.trace_folded.proofs.tally.FoldedStacks.put.Goals as goal

pub returns-clause-put : goal.returns-clause-put
returns-clause-put c =
    let sets = btree_map_updates_text (string_bytes c.args.text) c.args.self.now.counts c.insert.new.self _
    c.in_ok-insert.ensures.updates in
    sets_count c.args.self.now.counts c.insert.new.self (string_bytes c.args.text) c.args.count sets

pub returns-clause-others : goal.returns-clause-others
returns-clause-others c =
    let sets = btree_map_updates_text (string_bytes c.args.text) c.args.self.now.counts c.insert.new.self _
    c.in_ok-insert.ensures.updates in
    puts_no_other c.args.self.now.counts c.insert.new.self (string_bytes c.args.text) c.args.count sets
