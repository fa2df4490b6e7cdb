use Rattle.dns_zone.proofs.Common.{arith, ◌≡◌, ℕ, ◌++◌, map, Check, checks, failed_from, sym, ap, ◌∙◌, DomainName, Octets, folded, same, octets_equal, IsOwner, names_equal-decides, octets_equal-decides, same_tests, name_key}
use Rattle.std.proofs.Common.{OnOk, Result}
use Rattle.dns_spec.specs.Checks.{is_origin, below_cut}
use Rattle.dns_zone.proofs.CheckedNames.{key_equal}
use Rattle.dns_zone.proofs.ReportedNames.{more_reported}
use Rattle.dns_zone.proofs.TopmostCut.{below_topmost}
use Rattle.dns_zone.proofs.checks.report.Goals as goal

-- names in lower case are equal if and only if their keys are
same_keys : (n m : DomainName) (key other : Octets) → folded n ≡ n → folded m ≡ m
    → key ≡ name_key n → other ≡ name_key m → octets_equal key other ≡ same n m
same_keys n m key other p q e f =
    same_tests _ _
    (λ h. (names_equal-decides (folded n) (folded m)).1
    (ap folded (key_equal n m p q (sym e ∙ (octets_equal-decides key other).0 h ∙ f))))
    (λ h. (octets_equal-decides key other).1 (e
    ∙ ap name_key (sym p ∙ (names_equal-decides (folded n) (folded m)).0 h ∙ q) ∙ sym f))

pub invariant_of-owner : goal.invariant_of-owner
invariant_of-owner c =
    let n = c.name-name.result in
    let owner : IsOwner c.args.context.now n c.own-own.result.now = grind arith in
    let key : c.args.one.now.key.now ≡ name_key n = grind arith in
    let cut : c.if-one-gt0.owner ≡ below_cut c.args.context.now n = grind (arith, below_topmost) in
    let origin : c.eq.result ≡ is_origin c.args.context.now n = grind (arith, same_keys) in
    (owner, key, cut, origin)

from_ok : {A E P Q : Type 0} (result : Result A E) → (P → Q) → OnOk result P → OnOk result Q
from_ok result f h = grind arith

pub returns : goal.returns
returns c =
    let z = c.args.context.now in
    let k = c.owner_number.result in
    let old = c.args.found.now.items in
    let failed =
    c.judged.ensures
    ∙ ap (λ (m : DomainName). map (λ (d : ℕ × Check). d.1 z m) checks) c.name-name.ensures in
    from_ok c.add_failed.result
    (λ e. more_reported z k _ (c.owner_number.ensures z c.requires.within) old
    c.add_failed.new.found.items (e ∙ ap (λ bs. old ++ failed_from k 1 bs) failed))
    c.add_failed.ensures
