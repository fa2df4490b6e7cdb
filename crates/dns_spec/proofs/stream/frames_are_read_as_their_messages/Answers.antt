use Rattle.dns_spec.proofs.Streams.StreamFrames.{frames_again}
use Rattle.dns_spec.proofs.stream.frames_are_read_as_their_messages.Goals as goal

pub returns : goal.returns
returns c = frames_again
