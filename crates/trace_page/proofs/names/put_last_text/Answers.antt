use Rattle.std.proofs.Common.{string_bytes}
use Rattle.std.specs.Cmp.Lexicographic.{bytes_decides}
use Rattle.trace_page.proofs.Named.{stands_named, inserted}
use Rattle.trace_page.proofs.names.put_last_text.Goals as goal
use Rattle.trace_page.proofs.names.put_last_text.Goals.{in-Ok, in-Err}

pub returns-clause-index : goal.returns-clause-index
returns-clause-index c = elim c.match-insert_full.branch [
  | in-Ok w ↦ rw w.result-is
      (let s = w.in-Ok.ensures.stored in
      stands_named string_bytes c.insert_full.new.self.keys w.in-Ok.put.0 s.0 (string_bytes c.args.text) s.1
      ((bytes_decides (string_bytes c.args.text) (string_bytes s.0)).0 s.2))
  | in-Err w ↦ rw w.result-is tt
]

pub returns-clause-grown : goal.returns-clause-grown
returns-clause-grown c = elim c.match-insert_full.branch [
  | in-Ok w ↦ rw w.result-is
      (inserted string_bytes c.args.strings.now.keys c.insert_full.new.self.keys c.args.text _ w.in-Ok.ensures.keys)
  | in-Err w ↦ rw w.result-is tt
]
