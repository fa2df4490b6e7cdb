use Rattle.dns_spec.proofs.CommandLines.{one_socket}
use Rattle.dns_spec.proofs.commands.words_ask_for_one_socket.Goals as goal

pub returns : goal.returns
returns c = one_socket
