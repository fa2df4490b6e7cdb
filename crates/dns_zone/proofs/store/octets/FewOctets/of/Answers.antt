use Rattle.dns_zone.proofs.Common.{◌≡◌, ◌+◌, ◌++◌, length, take, ap, sym, ◌∙◌, length-append, append_assoc, take-append_seam, Octets}
use Rattle.dns_zone.proofs.store.octets.FewOctets.of.Goals as goal

in_front : (xs ys zs : Octets) → take (length xs + length ys) (xs ++ (ys ++ zs)) ≡ xs ++ ys
in_front xs ys zs =
    ap (take (length xs + length ys)) (sym (append_assoc xs ys zs))
    ∙ ap (λ k. take k ((xs ++ ys) ++ zs)) (sym (length-append xs ys))
    ∙ take-append_seam (xs ++ ys) zs

pub returns : goal.returns
returns c = rw (c.copy_from_slice.ensures.after, c.copy_from_slice-2.ensures.after) (in_front _ _ _)
