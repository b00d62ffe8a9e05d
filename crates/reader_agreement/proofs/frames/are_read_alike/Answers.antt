use Rattle.std.proofs.Common.{Bool, List, refl, map}
use Rattle.std.specs.Cmp.Lexicographic.{pointwise}
use Rattle.dial9_trace_format.specs.DecodedFrames.{item_of, ref_item_of}
use Rattle.dial9_trace_format.specs.declared.decoder.decoded_frame.DecodedFrame.{DecodedFrame}
use Rattle.dial9_trace_format.specs.declared.decoder.decoded_frame_ref.DecodedFrameRef.{DecodedFrameRef}
use Rattle.reader_agreement.specs.ReadAlike.{read_alike}
use Rattle.reader_agreement.proofs.frames.are_read_alike.Goals as goal

abbrev all_frames : List DecodedFrame → List DecodedFrameRef → Bool
all_frames xs ys = pointwise read_alike (map item_of xs) (map ref_item_of ys)

abbrev one_frame : DecodedFrame → DecodedFrameRef → Bool
one_frame x y = read_alike (item_of x) (ref_item_of y)

pub loop-i-init : goal.loop-i-init
loop-i-init c = refl
