use Rattle.dns_spec.proofs.Streams.StreamFrames.{framed_whole}
use Rattle.dns_spec.proofs.stream.stream_is_its_frames_and_the_rest.Goals as goal

pub returns : goal.returns
returns c = framed_whole
