use Rattle.dns_zone.proofs.Common.{◌≡◌, sym, ◌∙◌, subst, DomainName, ZoneContents, names_equal-decides, owner_of, IsChecked, CheckedName}
use Rattle.dns_spec.proofs.General.Elements.{each_get}
use Rattle.dns_zone.proofs.checks.context.CheckContext.soon_found.Goals as goal

named : (x y : ZoneContents) (m : DomainName) (d : CheckedName) → x ≡ y → owner_of y d ≡ m
    → IsChecked x (owner_of x d) d → IsChecked y m d
named x y m d e f h =
    subst (λ n. IsChecked y n d) f (subst (λ z. IsChecked z (owner_of z d) d) e h)

pub returns-then-eq : goal.returns-then-eq
returns-then-eq c =
    named _ _ _ _ c.self.view_is
    (sym c.name.ensures ∙ (names_equal-decides _ _).0 (sym c.eq.ensures ∙ c.if-eq.true))
    (each_get (λ d. IsChecked _ (owner_of _ d) d) c.self.inside.names.now _ _
    c.self.invariant.names_are.each c.if-index-self.true)
