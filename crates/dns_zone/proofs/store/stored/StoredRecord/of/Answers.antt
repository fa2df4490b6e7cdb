use Rattle.dns_zone.proofs.Common.{rules, subst, ◌∙◌, Small}
use Rattle.dns_zone.proofs.KnownRecords.{small_labels, small_octets}
use Rattle.dns_zone.proofs.Entries.{laid_in_turn, entry_kept, entry_is}
use Rattle.dns_zone.proofs.store.stored.StoredRecord.of.Goals as goal

pub invariant_of-result : goal.invariant_of-result
invariant_of-result c =
    entry_kept _ _ _ _ (laid_in_turn _ _ _ _ _ c.in_ok-of.ensures
    c.octets-owner.ensures.value c.octets-data.ensures.value c.octets-owner.ensures.is_name)
    _ _ c.read.invariant
    (small_labels _ (subst Small c.octets-owner.ensures.value
    (small_octets c.octets-owner.result.now (λ k. search rules))))
    (subst Small c.octets-data.ensures.value
    (small_octets c.octets-data.result.now (λ k. search rules)))

pub returns : goal.returns
returns c =
    entry_is _ _ _ _ (laid_in_turn _ _ _ _ _ c.in_ok-of.ensures
    c.octets-owner.ensures.value c.octets-data.ensures.value c.octets-owner.ensures.is_name)
    c.read.inside.ttl c.read.inside.rtype.0
    ∙ c.read.view_is
