-- The first octets of a label as a number.
use Rattle.std.specs.Prelude.{◌≡◌, ℕ, zero, suc, ◌+◌, ◌*◌, ◌<◌, ◌^◌, [], ◌∷◌, drop, get_or}
use Rattle.dns_spec.specs.Names.{Octets}
use Rattle.dns_zone.specs.declared.tree.label_key.LabelKey.{LabelKey}

-- The first n octets of a label as a big-endian number, padded with 0 at the end.
unfoldable pub key_of : ℕ → Octets → ℕ
key_of zero label = 0
key_of (suc n) [] = 0
key_of (suc n) (o ∷ label) = o * 256 ^ n + key_of n label

-- the first eight octets as a number
pub record IsEight (key : ℕ) (label : Octets) : Type 0 where
  pub value : key ≡ key_of 8 label
  pub low : (i : ℕ) → get_or label i 0 < 256

-- the first sixteen octets, as two numbers
pub record IsKey (key : LabelKey) (label : Octets) : Type 0 where
  pub front : IsEight key.front label
  pub next : IsEight key.next (drop 8 label)
