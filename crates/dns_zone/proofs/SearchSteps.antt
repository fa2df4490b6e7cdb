-- A rule set that several functions use.
use Rattle.dns_zone.proofs.Common.{IsWireForm-wire, labels_of_spelled}

pub ruleset wire_steps = (IsWireForm-wire, labels_of_spelled)
