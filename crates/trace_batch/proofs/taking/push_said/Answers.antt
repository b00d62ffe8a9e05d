use Rattle.trace_batch.proofs.taking.push_said.Goals as goal

pub returns-in-StringPool : goal.returns-in-StringPool
returns-in-StringPool c = rw c.in-StringPool.is (rw c.deref.ensures.value at c.push_text_records.ensures)

pub returns-in-StackPool : goal.returns-in-StackPool
returns-in-StackPool c = rw c.in-StackPool.is (rw c.deref-in-StackPool.ensures.value at c.push_stack_records.ensures)
