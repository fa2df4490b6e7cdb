-- The names of a zone as rows of numbers, and invariants of the rows.
use Rattle.std.specs.Prelude.{◌≡◌, ℕ, ◌+◌, ◌-◌, ◌<◌, ◌≤◌, true, List, [], ◌∷◌, map, length, take, drop, get_or}
use Rattle.std.specs.List.{AllByRecursion, filter, list_any}
use Rattle.std.specs.Char.{to_ascii_lowercase}
use Rattle.dns_spec.specs.Names.{Octets, DomainName, wire, is_name, folded, same, at_or_below, label_order}
use Rattle.dns_spec.specs.Records.{ResourceRecord}
use Rattle.dns_name.specs.WireForm.{labels_of}
use Rattle.dns_zone.specs.LabelKey.{IsKey}
use Rattle.dns_zone.specs.declared.tree.row.Row.{Row}
use Rattle.dns_spec.specs.Lists.{Among, Rises}

-- the elements from index a to before index b
abbrev pub span : {X : Type 0} → List X → ℕ → ℕ → List X
span xs a b = take (b - a) (drop a xs)

abbrev pub owners : List ResourceRecord → List DomainName
owners = map (λ (r : ResourceRecord). r.owner)

-- The wire form of a row's name: a suffix of the owner of the first record at or below the name.
unfoldable pub row_octets : List ResourceRecord → Row → Octets
row_octets rs row = drop row.offset (wire (get_or (owners rs) row.first []))

unfoldable pub row_name : List ResourceRecord → Row → DomainName
row_name rs row = labels_of (row_octets rs row)

-- the first label of a name
abbrev pub first_of : DomainName → Octets
first_of [] = []
first_of (l ∷ n) = l

abbrev pub row_label : List ResourceRecord → Row → Octets
row_label rs row = first_of (row_name rs row)

-- the records at or below a name
abbrev pub under : DomainName → List ResourceRecord → List ResourceRecord
under n rs = filter (λ (r : ResourceRecord). at_or_below r.owner n) rs

-- the row of a name in lower case: which records are at or below it, and which are its own
pub record IsRow (rs : List ResourceRecord) (row : Row) (n : DomainName) : Type 0 where
  pub octets : row_octets rs row ≡ wire n
  pub is_name : is_name n ≡ true
  pub lower : folded n ≡ n
  pub some : row.first < length rs
  pub more : row.first < row.end
  pub offset : row.offset ≤ length (wire (get_or (owners rs) row.first []))
  pub first_own : row.first ≤ row.own_end
  pub own_end : row.own_end ≤ row.end
  pub end_fits : row.end ≤ length rs
  pub below : span rs row.first row.end ≡ under n rs
  pub label_octets : row.label_octets ≡ length (first_of n)
  pub key : IsKey row.key (map to_ascii_lowercase (first_of n))
  pub own : span rs row.first row.own_end ≡ filter (λ (r : ResourceRecord). same r.owner n) rs

-- the row of a name one label below n
pub record IsChild (rs : List ResourceRecord) (n : DomainName) (row : Row) : Type 0 where
  pub label : Octets
  pub is_row : IsRow rs row (label ∷ n)

-- the rows of all existing names one label below n, ordered by label
pub record AreChildren (rs : List ResourceRecord) (n : DomainName) (children : List Row) : Type 0 where
  pub each : AllByRecursion (IsChild rs n) children
  pub rising : Rises label_order (map (row_label rs) children)
  pub all : (l : Octets) → list_any (λ (r : ResourceRecord). at_or_below r.owner (l ∷ n)) rs ≡ true
      → Among (map to_ascii_lowercase l) (map (row_label rs) children)
  pub few : length children ≤ length rs

abbrev pub no_row : Row
no_row = record { first = 0; own_end = 0; end = 0; offset = 0; label_octets = 0; key = record { front = 0; next = 0 } }

abbrev pub row_at : List Row → ℕ → Row
row_at rows k = get_or rows k no_row

-- the children of row k are the rows from bound k to before bound k + 1
abbrev pub children_at : List Row → List ℕ → ℕ → List Row
children_at rows bounds k = span rows (get_or bounds k 0) (get_or bounds (k + 1) 0)

-- rows for the origin and all existing names below it, level by level
pub record IsTree (o : DomainName) (rs : List ResourceRecord) (rows : List Row)
    (bounds : List ℕ) : Type 0 where
  pub some : 0 < length rows
  pub origin : IsRow rs (row_at rows 0) o
  pub count : length bounds ≡ length rows + 1
  pub each : (k : ℕ) → k < length rows → IsRow rs (row_at rows k) (row_name rs (row_at rows k))
  pub rise : (k : ℕ) → k < length rows → get_or bounds k 0 ≤ get_or bounds (k + 1) 0
  pub within : (k : ℕ) → k < length rows → get_or bounds (k + 1) 0 ≤ length rows
  pub children : (k : ℕ) → k < length rows
      → AreChildren rs (row_name rs (row_at rows k)) (children_at rows bounds k)
