use Rattle.std.proofs.Common.{◌≡◌, map, None, ap}
use Rattle.dial9_trace_format.specs.DecodedFrames.{item_of}
use Rattle.dial9_trace_format.specs.Decoding.{DecoderState}
use Rattle.trace_recordings.proofs.ScriptTurns.{resumption_answers}
use Rattle.trace_recordings.proofs.player.encoder_after.Goals as goal

pub returns-in-Ok-clause-answers : goal.returns-in-Ok-clause-answers
returns-in-Ok-clause-answers c =
    let works : c.in-Some.decoder.failure ≡ None = ap (λ (d : DecoderState). d.failure) c.in-Some.ensures.found.1 in
    resumption_answers c.args.trace.now c.in-Some.decoder c.decode_all.new.self (map item_of c.in-Ok.field-0.items)
    c.into_encoder.result c.in-Some.ensures.found (c.in-Ok.ensures.all works) c.into_encoder.ensures.resumed
    c.into_encoder.ensures.failed c.into_encoder.ensures.refused
