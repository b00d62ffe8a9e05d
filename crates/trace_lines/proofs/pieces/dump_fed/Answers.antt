use Rattle.std.proofs.Common.{arith}
use Rattle.trace_lines.proofs.DumpSoFar.{all_dumped, dumped_unsettled, read_dumped, reads_within}
use Rattle.trace_lines.proofs.DumpSoFar.{status_known}
use Rattle.trace_lines.proofs.pieces.dump_fed.Goals as goal

pub returns-in-Ok-settle-clause-lines : goal.returns-in-Ok-settle-clause-lines
returns-in-Ok-settle-clause-lines g c fine = all_dumped c.in-Ok.status c.in-Ok.ensures c.in-Ok-settle.ensures.took

pub returns-in-Ok-settle-clause-read : goal.returns-in-Ok-settle-clause-read
returns-in-Ok-settle-clause-read g c fine = read_dumped c.in-Ok.status c.in-Ok.ensures c.in-Ok-settle.ensures.took

pub returns-in-Ok-settle-clause-front_read : goal.returns-in-Ok-settle-clause-front_read
returns-in-Ok-settle-clause-front_read g c failed =
    let less = status_known c.in-Ok.status c.in-Ok.ensures in absurd (omega (arith, failed, less))

pub returns-in-Ok-settle-clause-known : goal.returns-in-Ok-settle-clause-known
returns-in-Ok-settle-clause-known g c = let less = status_known c.in-Ok.status c.in-Ok.ensures in omega (arith, less)

pub returns-in-Ok-settle-clause-front : goal.returns-in-Ok-settle-clause-front
returns-in-Ok-settle-clause-front g c failed =
    let less = status_known c.in-Ok.status c.in-Ok.ensures in absurd (omega (arith, failed, less))

pub returns-in-Err-settle-clause-front : goal.returns-in-Err-settle-clause-front
returns-in-Err-settle-clause-front g c failed =
    (dumped_unsettled c.in-Ok.status c.in-Ok.ensures
    (record { took = c.in-Err-settle.ensures.took; holds = c.in-Err-settle.ensures.settles })).0

pub returns-in-Err-settle-clause-front_read : goal.returns-in-Err-settle-clause-front_read
returns-in-Err-settle-clause-front_read g c failed =
    (dumped_unsettled c.in-Ok.status c.in-Ok.ensures
    (record { took = c.in-Err-settle.ensures.took; holds = c.in-Err-settle.ensures.settles })).1

pub returns-in-Err-clause-front : goal.returns-in-Err-clause-front
returns-in-Err-clause-front g c failed = c.in-Err.ensures.0

pub returns-in-Err-clause-front_read : goal.returns-in-Err-clause-front_read
returns-in-Err-clause-front_read g c failed = c.in-Err.ensures.1

pub returns-in-Ok-settle-clause-within : goal.returns-in-Ok-settle-clause-within
returns-in-Ok-settle-clause-within g c fine = reads_within c.in-Ok.status c.in-Ok.ensures
