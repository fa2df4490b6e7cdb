use Rattle.dns_zone.proofs.Common.{◌≡◌, ℕ, Bool, true, false, cond, List, length, sym, ap₂, ◌∙◌, subst, Octets, DomainName, ResourceRecord, ZoneContents, is_cut, name_key, ComesNext, IsTopmost, is_covered}
use Rattle.dns_zone.proofs.TopmostCut.{covered, uncovered}
use Rattle.dns_zone.proofs.names.cut_of.Goals as goal

module _ (z : ZoneContents) (o n : DomainName) (k : ℕ) (origin last key : Octets)
    (own : List ResourceRecord) (h : ComesNext z o n k origin last key own) where
  keys : is_covered k (name_key o) (name_key n) ≡ is_covered k last key
  keys = ap₂ (λ (x y : Octets). is_covered k x y) (sym h.last_key) (sym h.key_is)

  pub kept : is_covered k last key ≡ true → IsTopmost z n k
  kept e = covered z o n h.last_lower h.owner.lower k h.topmost h.upto h.cuts (keys ∙ e)

  pub begun : (b : Bool) → is_covered k last key ≡ false → b ≡ is_cut z n
      → IsTopmost z n (cond b (length key) 0)
  begun b e f =
      subst (IsTopmost z n)
      (ap₂ (λ (c : Bool) (x : Octets). cond c (length x) 0) (sym f) (sym h.key_is))
      (uncovered z o n h.last_lower h.owner.lower k h.topmost h.upto h.cuts (keys ∙ e))

pub returns-then-is_covered : goal.returns-then-is_covered
returns-then-is_covered c = λ z o n h.
    kept z o n _ _ _ _ _ h (sym c.is_covered.ensures ∙ c.if-is_covered.true)

pub returns-then-is_cut : goal.returns-then-is_cut
returns-then-is_cut c = λ z o n h.
    begun z o n _ _ _ _ _ h true (sym c.is_covered.ensures ∙ c.if-is_covered.false)
    (sym c.if-is_cut.true ∙ c.is_cut.ensures z n h.origin_lower h.owner.lower h.origin_key h.key_is
    h.owner.own_is)

pub returns-else-is_cut : goal.returns-else-is_cut
returns-else-is_cut c = λ z o n h.
    begun z o n _ _ _ _ _ h false (sym c.is_covered.ensures ∙ c.if-is_covered.false)
    (sym c.if-is_cut.false ∙ c.is_cut.ensures z n h.origin_lower h.owner.lower h.origin_key h.key_is
    h.owner.own_is)
