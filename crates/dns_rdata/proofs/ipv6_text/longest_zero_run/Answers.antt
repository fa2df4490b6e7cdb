use Rattle.dns_rdata.proofs.Common.{◌∙◌, ap, prefix_len, ◌==◌}
use Rattle.dns_rdata.proofs.Ipv6TextLemmas.{LongestSoFar-first, LongestSoFar-longer, LongestSoFar-other}
use Rattle.dns_rdata.proofs.ipv6_text.longest_zero_run.Goals as goal
use Rattle.dns_rdata.proofs.ipv6_text.longest_zero_run.Goals.{then-run-longest, else-run-longest}
use Rattle.dns_spec.proofs.Common.{take_rest}

pub indices-init : goal.indices-init
indices-init c = LongestSoFar-first _ _ c.zero_run-longest.ensures

pub indices-preserved : goal.indices-preserved
indices-preserved c =
    let run = c.zero_run-run.ensures
    ∙ ap (prefix_len (λ n. n == 0)) (take_rest c.args.groups.now c.indices.start) in
    elim c.if-run-longest.branch [
      | then-run-longest w ↦ rw (w.index-is, w.longest-is) (LongestSoFar-longer
          _ _ _ _ _ c.indices.invariant c.indices-test.true run w.if-run-longest.true)
      | else-run-longest w ↦ rw (w.index-is, w.longest-is) (LongestSoFar-other
          _ _ _ _ _ c.indices.invariant c.indices-test.true run w.if-run-longest.false)
    ]
