-- Domain names: their wire form, when two names are the same, when one is at or below another, and
-- their canonical order.
--
-- An octet is a number below 256, but the type `Octets` does not include this bound: definitions
-- and laws that need it state it.
use Rattle.std.specs.Prelude.{ℕ, zero, suc, ◌-◌, Bool, true, false, ◌&&◌, List, [], ◌∷◌, ◌++◌, map, reverse, length, take, drop, nat_lt, nat_le, ◌==◌, if◌then◌else◌, Option, None, Some}
use Rattle.std.specs.Option.{option_map, option_and_then}
use Rattle.std.specs.List.{list_all}
use Rattle.std.specs.Cmp.Lexicographic.{pointwise, slice_cmp}
use Rattle.std.specs.Ordering.{nat_cmp}
use Rattle.std.specs.declared.cmp.Ordering.{Ordering}
use Rattle.std.specs.Char.{to_ascii_lowercase}

-- a list of octets
abbrev pub Octets : Type 0
Octets = List ℕ

-- RFC 1034 3.1: a domain name is the list of its labels, the label nearest to the root last. The
-- root is the empty list.
abbrev pub DomainName : Type 0
DomainName = List Octets

-- RFC 1035 3.1: the wire form: each label after its length, then the root's length 0
abbrev pub wire : DomainName → Octets
wire [] = 0 ∷ []
wire (l ∷ n) = length l ∷ (l ++ wire n)

-- RFC 1035 2.3.4: a label has 1 to 63 octets
abbrev pub is_label : Octets → Bool
is_label l = nat_lt 0 (length l) && nat_le (length l) 63

-- RFC 1035 2.3.4: a name has at most 255 octets on the wire
abbrev pub is_name : DomainName → Bool
is_name n = list_all is_label n && nat_le (length (wire n)) 255

-- RFC 1035 2.3.3, RFC 4343 section 3: the name with its ASCII letters in lower case; names are
-- compared without regard to case
abbrev pub folded : DomainName → DomainName
folded n = map (map to_ascii_lowercase) n

-- equality, octet by octet, of two lists of octets and of two names
abbrev pub octets_equal : Octets → Octets → Bool
octets_equal = pointwise ◌==◌

abbrev pub names_equal : DomainName → DomainName → Bool
names_equal = pointwise octets_equal

-- RFC 1035 2.3.3: the same name in any case, such as `WWW.Example.` and `www.example.`
abbrev pub same : DomainName → DomainName → Bool
same n m = names_equal (folded n) (folded m)

-- the last k labels of n
abbrev pub last_labels : ℕ → DomainName → DomainName
last_labels k n = drop (length n - k) n

-- RFC 1034 3.1: n is a or a name below a: n ends with the labels of a, in any case
abbrev pub at_or_below : DomainName → DomainName → Bool
at_or_below n a = nat_le (length a) (length n) && same (last_labels (length a) n) a

-- n is below a: n is at or below a and has more labels
abbrev pub below : DomainName → DomainName → Bool
below n a = nat_lt (length a) (length n) && at_or_below n a

-- n and the names above it up to the root, longest first: `b.a.` gives `b.a.`, `a.`, `.`
abbrev pub suffixes : DomainName → List DomainName
suffixes [] = [] ∷ []
suffixes (l ∷ n) = (l ∷ n) ∷ suffixes n

-- RFC 4034 6.1: the canonical order. Labels are compared from the right, each as octets in lower
-- case. A label comes before any longer label that begins with it, and a name before all names
-- below it.
abbrev pub label_order : Octets → Octets → Ordering
label_order = slice_cmp nat_cmp

abbrev pub name_order : DomainName → DomainName → Ordering
name_order n m = slice_cmp label_order (reverse (folded n)) (reverse (folded m))

-- puts a label in front of the name in a pair of a name and something else
abbrev pub with_label : {X : Type 0} → Octets → DomainName × X → DomainName × X
with_label l (n, after) = (l ∷ n, after)

-- RFC 1035 3.1: the labels in wire form at the beginning of the octets, if they are fewer than k,
-- and the octets after their final 0. Labels may be longer than 63 octets here.
unfoldable pub labels_from : ℕ → Octets → Option (DomainName × Octets)
labels_from zero os = None
labels_from (suc k) [] = None
labels_from (suc k) (zero ∷ os) = Some ([], os)
labels_from (suc k) (suc i ∷ os) =
    elim (nat_le (suc i) (length os)) [
      | true ↦ option_map (with_label (take (suc i) os)) (labels_from k (drop (suc i) os))
      | false ↦ None
    ]

-- The valid name whose wire form begins the octets, and the octets after it. A name has at most
-- 127 labels, since each label takes at least two octets.
abbrev pub name_of : Octets → Option (DomainName × Octets)
name_of os = option_and_then (λ r. if is_name r.0 then Some r else None) (labels_from 128 os)
