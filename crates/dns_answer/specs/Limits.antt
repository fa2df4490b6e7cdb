-- The limits of replies in octets.
use Rattle.std.specs.Prelude.{ℕ}
use Rattle.dns_spec.specs.Query.{most_over_udp, most_over_tcp}
use Rattle.dns_answer.specs.declared.reply.Limit.{Limit}
use Rattle.dns_answer.specs.declared.reply.Limit.TheVariants.{Udp, Tcp}

-- RFC 1035 4.2.1 and 4.2.2
abbrev pub limit_of : Limit → ℕ
limit_of Udp = most_over_udp
limit_of Tcp = most_over_tcp
