-- The elements of a part of a list that pass a test, if none after the part passes.
use Rattle.dns_zone.proofs.Common.{Bool, DomainName, List, ResourceRecord, [], ap, append-nil, arith, at_or_below, drop, filter, filter-append, length, span, sym, take, take-append-le, true, under, ℕ, ◌++◌, ◌∙◌, ◌≡◌, ◌≤◌}
use Rattle.dns_zone.proofs.AtName.{is_at}
use Rattle.dns_zone.proofs.ChildRows.{is_under}
use Rattle.dns_zone.proofs.NameTree.{itself-under, under-trans}
use Rattle.dns_zone.proofs.Spans.{drop_span}
use Rattle.dns_spec.proofs.General.Filters.{filter_within}

module _ {X : Type 0} (p : X → Bool) (xs : List X) (a b : ℕ) (h : a ≤ b)
    (e : filter p (drop b xs) ≡ []) where
  pub passing : filter p (span xs a b) ≡ filter p (drop a xs)
  passing =
      sym (ap (filter p) (drop_span a b xs h)
      ∙ filter-append p (span xs a b) (drop b xs)
      ∙ ap (λ ys. filter p (span xs a b) ++ ys) e
      ∙ append-nil (filter p (span xs a b)))

  pub widened : (k : ℕ) → k ≤ length (span xs a b)
      → take k (span xs a b) ≡ filter p (span xs a b) → take k (drop a xs) ≡ filter p (drop a xs)
  widened k l q =
      ap (take k) (drop_span a b xs h) ∙ take-append-le k (span xs a b) (drop b xs) l ∙ q ∙ passing

-- if no record is at or below n, none is at or below a name m that is itself at or below n
pub none_under : (m n : DomainName) (xs : List ResourceRecord) → at_or_below m n ≡ true
    → under n xs ≡ [] → under m xs ≡ []
none_under m n xs h e = grind (arith, filter_within, is_under, under-trans)

pub none_at : (m : DomainName) (xs : List ResourceRecord) → under m xs ≡ []
    → filter (is_at m) xs ≡ []
none_at m xs e =
    sym (filter_within (is_under m) (is_at m) xs (λ r s. itself-under r.owner m s))
    ∙ ap (filter (is_at m)) e
