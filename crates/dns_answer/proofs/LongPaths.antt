-- The path down to a name that is several labels below the node where it begins.
use Rattle.dns_answer.proofs.Common.{◌≡◌, ℕ, zero, suc, Bool, true, ◌+◌, ◌-◌, ◌≤◌, ◌<◌, [], ◌∷◌, length, drop, length-drop, Option, None, reverse, refl, sym, ap, ◌∙◌, subst, arith, Octets, DomainName, at_or_below, suffixes, ZoneContents, find, is_cut, ZoneNode, Sought, IsBelow, node_of, labels_below, IsApex, IsStart, and_parts, IsThere, IsMissing, IsBelowCut, same-is, same-from, itself-under, under-trans, exists-lower, above_under, under_same, no_cut-at_origin}
use Rattle.dns_spec.proofs.Common.{leb-true}
use Rattle.dns_answer.proofs.PathSteps.{cut-further, missing-further}

-- the cut of a suffix of a name is the cut of the name; if a suffix does not exist, the name does
-- not exist either, and has the same closest encloser
pub cut-whole : (z : ZoneContents) (k : ℕ) (n : DomainName) (node : ZoneNode)
    → IsBelowCut z (drop k n) node → IsBelowCut z n node
cut-whole z zero n node h = h
cut-whole z (suc k) [] node h = h
cut-whole z (suc k) (l ∷ n) node h = cut-further z l n node (cut-whole z k n node h)

pub missing-whole : (z : ZoneContents)
    (start : ZoneNode) (ends : Bool) (k : ℕ) (n : DomainName) (node : Option ZoneNode)
    → IsMissing z start ends (drop k n) node → IsMissing z start ends n node
missing-whole z start ends zero n node h = h
missing-whole z start ends (suc k) [] node h = h
missing-whole z start ends (suc k) (l ∷ n) node h =
    missing-further z start ends l n node (missing-whole z start ends k n node h)

-- n without its first k labels is still at or below a, if it has at least as many labels as a
pub under-drop : (k : ℕ) (n a : DomainName)
    → at_or_below n a ≡ true → length a + k ≤ length n → at_or_below (drop k n) a ≡ true
under-drop zero n a h len = h
under-drop (suc k) [] a h len = absurd (omega (arith, len))
under-drop (suc k) (l ∷ n) a h len =
    let longer : length a ≤ length n = omega (arith, len) in
    under-drop k n a
    (above_under l n a (length n - length a) h (omega (arith, longer))) (omega (arith, len))

-- a path may begin at the apex
pub start_at_apex : (z : ZoneContents) (ends : Bool) (apex : ZoneNode) → IsApex z apex
    → IsStart z ends apex
start_at_apex z ends apex top = subst (IsStart z ends) (sym top.node) (record {
  zone = refl;
  exists = top.exists;
  inside = itself-under z.origin z.origin (same-from z.origin z.origin refl);
  uncut = λ e. no_cut-at_origin z z.origin (omega arith);
})

-- where a path begins
module _ (z : ZoneContents) (start : ZoneNode) (ends : Bool) (s : Sought)
    (at : IsStart z ends start) (below : IsBelow s start.name) where
  pub start-deep : s.depth ≤ labels_below z s.name
  start-deep =
      let longer = leb-true (length z.origin) (length start.name) (and_parts _ _ at.inside).0 in
      omega (arith, below.labels, longer)

  pub there-above : IsThere z start ends (drop s.depth s.name) None
  there-above =
      let n = drop s.depth s.name in
      let len : length n ≡ length start.name =
      omega (arith, length-drop s.depth s.name, below.labels) in
      let under = under-drop s.depth s.name start.name below.below (omega (arith, below.labels)) in
      let alike = same-is n start.name (under_same n start.name under len) in
      record {
        no_cut = λ e. ap (λ f. find (is_cut z) (reverse (suffixes f))) alike ∙ at.uncut e;
        stands = exists-lower z n start.name alike len ∙ at.exists.stands;
        at_name = ap (λ y. node_of y start.name) at.zone
            ∙ ap (node_of z) (sym (alike ∙ at.exists.lower));
      }

  -- the names on the path are at or below the origin
  pub under-origin : (k : ℕ) → k ≤ s.depth → at_or_below (drop k s.name) z.origin ≡ true
  under-origin k few =
      under-trans (drop k s.name) start.name z.origin
      (under-drop k s.name start.name below.below (omega (arith, below.labels, few))) at.inside

-- the label before the last b labels
pub label-before : (n labels : DomainName) (l : Octets) (b : ℕ) → labels ≡ n
    → 0 < b → drop (b - 1) labels ≡ l ∷ drop (b - 1 + 1) labels → drop (b - 1) n ≡ l ∷ drop b n
label-before n labels l b e some h = grind arith
