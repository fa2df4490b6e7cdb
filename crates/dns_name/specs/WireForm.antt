-- Which octets are the wire form of a name, and which labels they contain.
use Rattle.std.specs.Prelude.{◌≡◌, ℕ, zero, suc, [], ◌∷◌, length, take, drop, IsTrue}
use Rattle.dns_spec.specs.Names.{Octets, DomainName, wire, is_name}

-- the labels in the octets xs, at most `most` of them
abbrev pub labels_up_to : ℕ → Octets → DomainName
labels_up_to zero xs = []
labels_up_to (suc most) [] = []
labels_up_to (suc most) (zero ∷ xs) = []
labels_up_to (suc most) (suc k ∷ xs) = take (suc k) xs ∷ labels_up_to most (drop (suc k) xs)

-- the labels in the octets, up to the root's length 0
unfoldable pub labels_of : Octets → DomainName
labels_of xs = labels_up_to (length xs) xs

-- xs is the wire form of the labels that it contains, and they are a valid name
pub record IsWireForm (xs : Octets) : Type 0 where
  pub wire_is : wire (labels_of xs) ≡ xs
  pub is_name : IsTrue (is_name (labels_of xs))
