-- What a run over lines keeps of its input, and the replies that it gives.
use Rattle.std.specs.Prelude.{Option}
use Rattle.dns_spec.specs.Names.{Octets}
use Rattle.dns_tools.specs.Exchanges.{Kept, reply_within}
use Rattle.dns_tools.specs.declared.once.Exchange.{Exchange}

abbrev pub kept_of : Exchange → Kept
kept_of e = record { line = e.line; passes = e.are_all_messages }

abbrev pub reply_of : Exchange → Octets → Option Octets
reply_of e = reply_within e.limit e.zone.now
