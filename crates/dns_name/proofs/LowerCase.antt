-- The table of octets in lower case agrees with the definitions.
use Rattle.dns_name.proofs.Common.{◌≡◌, ℕ, ◌<◌, ◌==◌, true, if◌then◌else◌, refl, eqb-true, to_ascii_lowercase, is_mark, slice_index_or}
use Rattle.dns_spec.proofs.Common.{agree_below_at}
use Rattle.dns_name.specs.declared.plain.TheConstants.{IN_LOWER_CASE}

pub in_table : (o : ℕ) → o < 256
    → slice_index_or IN_LOWER_CASE o 0 ≡ (if is_mark o then 0 else to_ascii_lowercase o)
in_table o h =
    eqb-true _ _ (agree_below_at (λ x. slice_index_or IN_LOWER_CASE x 0
    == (if is_mark x then 0 else to_ascii_lowercase x)) (λ x. true) 256 o refl h)
