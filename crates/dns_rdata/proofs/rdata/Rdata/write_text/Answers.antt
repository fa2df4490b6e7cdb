use Rattle.dns_rdata.proofs.Common.{ap, ◌++◌, data_text, Writes-same, Writes-held}
use Rattle.dns_rdata.proofs.rdata.Rdata.write_text.Goals as goal

pub returns : goal.returns
returns g c =
    Writes-same (ap (λ t. t ++ data_text c.args.rtype.0 c.args.octets.now) c.new-text.ensures)
    (Writes-held _ _ c.in_ok-put_text.ensures.ok c.in_ok-put_text.ensures.counted c.finish.ensures)
