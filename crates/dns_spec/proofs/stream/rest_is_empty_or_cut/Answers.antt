use Rattle.dns_spec.proofs.Streams.StreamFrames.{rest_cut}
use Rattle.dns_spec.proofs.stream.rest_is_empty_or_cut.Goals as goal

pub returns : goal.returns
returns c = rest_cut
