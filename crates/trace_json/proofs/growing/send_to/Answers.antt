use Rattle.trace_json.proofs.SentText.{bytes_unsent}
use Rattle.trace_json.proofs.growing.send_to.Goals as goal

pub returns-in-Err : goal.returns-in-Err
returns-in-Err g c = bytes_unsent c.in-Err.fault.accepted c.args.bytes.now c.in-Err.ensures.fault
