use Rattle.std.proofs.Common.{ℕ, Vec, Global}
use Rattle.std.specs.Cmp.Lexicographic.{bytes_decides}
use Rattle.trace_page.proofs.Named.{stands_named, inserted}
use Rattle.trace_page.proofs.names.put_last_stack.Goals as goal
use Rattle.trace_page.proofs.names.put_last_stack.Goals.{in-Ok, in-Err}

pub returns-clause-index : goal.returns-clause-index
returns-clause-index c = elim c.match-insert_full.branch [
  | in-Ok w ↦ rw w.result-is
      (let s = w.in-Ok.ensures.stored in
      stands_named (λ (v : Vec ℕ Global). v.items) c.insert_full.new.self.keys w.in-Ok.put.0 s.0 c.args.stack.items s.1
      ((bytes_decides c.args.stack.items s.0.items).0 s.2))
  | in-Err w ↦ rw w.result-is tt
]

pub returns-clause-grown : goal.returns-clause-grown
returns-clause-grown c = elim c.match-insert_full.branch [
  | in-Ok w ↦ rw w.result-is
      (inserted (λ (v : Vec ℕ Global). v.items) c.args.stacks.now.keys c.insert_full.new.self.keys c.args.stack _
      w.in-Ok.ensures.keys)
  | in-Err w ↦ rw w.result-is tt
]
