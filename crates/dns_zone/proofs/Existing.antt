-- The names that exist in a built zone.
use Rattle.dns_zone.proofs.Common.{◌≡◌, ◌<◌, Bool, true, false, ◌&&◌, not, ◌==◌, List, [], ◌∷◌, map, length, refl, sym, ap, ap₂, ◌∙◌, arith, and_parts, false≢true, lt-ltb, length-map, to_ascii_lowercase, Octets, DomainName, folded, same, at_or_below, type_soa, ResourceRecord, ZoneContents, at, owns, is_owner, exists, IsReadRecord, folded_folded, AllByRecursion, Among, each_weaker, filter_among, recursion_from_All, checks_of_origin, passes_check, each_among, IsNode, IsBuilt, inl, inr, outside}
use Rattle.dns_zone.proofs.NameOrder.{same-from}
use Rattle.dns_zone.proofs.NameTree.{itself-under}
use Rattle.dns_spec.proofs.General.Tests.{any_weaker}

-- the case of a name does not matter
pub under-lower : (n a b : DomainName) → folded a ≡ folded b → length a ≡ length b
    → at_or_below n a ≡ at_or_below n b
under-lower n a b e l = grind (arith, ap₂)

pub exists-lower : (z : ZoneContents) (a b : DomainName) → folded a ≡ folded b → length a ≡ length b
    → exists z a ≡ exists z b
exists-lower z a b e l = grind (arith, ap₂, under-lower)

-- the origin owns an SOA, so it exists
pub origin-soa : (z : ZoneContents) → IsBuilt z → owns z z.origin type_soa ≡ true
origin-soa z kept = grind (arith, checks_of_origin, same-from, false≢true)

pub origin-node : (z : ZoneContents) → IsBuilt z → IsNode z z.origin
origin-node z kept = record {
  built = kept;
  lower = kept.low;
  stands =
      any_weaker (λ (r : ResourceRecord). same r.owner z.origin && r.rtype == type_soa)
      (λ (r : ResourceRecord). at_or_below r.owner z.origin) z.records
      (λ r h. itself-under r.owner z.origin
      (and_parts (same r.owner z.origin) (r.rtype == type_soa) h).0) (origin-soa z kept);
}

-- all records of a built zone are at or below its origin
pub all-inside : (z : ZoneContents) → IsBuilt z
    → AllByRecursion (λ (r : ResourceRecord). at_or_below r.owner z.origin ≡ true) z.records
all-inside z kept =
    each_among (λ (r : ResourceRecord). at_or_below r.owner z.origin ≡ true) z.records (λ r m.
    let lows =
    each_weaker IsReadRecord (λ (s : ResourceRecord). folded s.owner ≡ s.owner) z.records
    (λ s h. h.lower_owner) (recursion_from_All IsReadRecord z.records kept.each) in
    let fine : (is_owner z r.owner && not (at_or_below r.owner z.origin)) ≡ false =
    passes_check z kept.low lows kept.passes r m outside (search (inl, inr) depth 16) in
    let own : Among r (at z r.owner) = grind (arith, filter_among, same-from) in
    let owner : is_owner z r.owner ≡ true = lt-ltb 0 _ (some_length r (at z r.owner) own) in
    inside (at_or_below r.owner z.origin)
    (sym (ap (λ b. b && not (at_or_below r.owner z.origin)) owner) ∙ fine))
  where
    some_length : (r : ResourceRecord) (rs : List ResourceRecord) → Among r rs → 0 < length rs
    some_length r [] m = absurd m
    some_length r (s ∷ rs) m = omega arith

    inside : (b : Bool) → not b ≡ false → b ≡ true
    inside true e = refl
    inside false e = absurd (false≢true (sym e))

-- a child by its label, whose case does not matter
pub child-exists : (z : ZoneContents) (l : Octets) (n : DomainName) → folded n ≡ n
    → exists z (map to_ascii_lowercase l ∷ n) ≡ exists z (l ∷ n)
child-exists z l n low =
    ap (λ (m : DomainName). exists z (map to_ascii_lowercase l ∷ m)) (sym low)
    ∙ exists-lower z (folded (l ∷ n)) (l ∷ n) (folded_folded (l ∷ n))
    (length-map (l ∷ n) (map to_ascii_lowercase))
