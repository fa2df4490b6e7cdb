-- A reply in its frame.
use Rattle.dns_spec.proofs.Common.{◌/◌, ◌%◌, ap₂, drop, drop_all, take_at, frame, ◌≡◌, ◌+◌, ◌∷◌, ◌++◌, length, take, sym, ap, ◌∙◌, arith, append_assoc, length-append, Octets, octets16}

-- a reply and its length, in the front of a buffer
pub frame_written : (r length_of front copied rest : Octets) → length_of
    ≡ length r / 256 % 256 ∷ length r % 256 ∷ drop 2 front → length front ≡ 2 → copied ≡ r
    → take (length r + 2) (length_of ++ (copied ++ rest)) ≡ frame r
frame_written r length_of front copied rest laid two same =
    let head = laid ∙ ap (λ d. length r / 256 % 256 ∷ length r % 256 ∷ d)
    (drop_all 2 front (omega (arith, two))) in
    ap₂ (λ x y. take (length r + 2) (x ++ (y ++ rest))) head same
    ∙ ap (take (length r + 2)) (sym (append_assoc (octets16 (length r)) r rest))
    ∙ take_at (frame r) rest (length r + 2) (omega (arith, length-append (octets16 (length r)) r))
