use Rattle.trace_lines.proofs.program.task_of.Goals as goal

pub returns-in-Ok : goal.returns-in-Ok
returns-in-Ok c = rw c.in-Ok.is (rw c.deref.ensures.value at c.task_of_words.ensures)
