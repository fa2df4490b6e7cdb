-- Sort keys of records: their order, and what is known of them.
use Rattle.std.specs.Prelude.{◌≡◌, ℕ, ◌+◌, ◌-◌, ◌^◌, ◌<◌, ◌≤◌, ◌==◌, ◌&&◌, Bool, List, [], All, length, take, drop, get_or, map}
use Rattle.std.specs.Ordering.{ordering_then, nat_cmp}
use Rattle.std.specs.declared.cmp.Ordering.{Ordering}
use Rattle.std.specs.declared.cmp.Ordering.TheVariants.{Less, Equal, Greater}
use Rattle.std.specs.Cmp.Lexicographic.{slice_cmp}
use Rattle.dns_spec.specs.Names.{Octets}
use Rattle.dns_spec.specs.Records.{ResourceRecord, data_order, record_order, records_equal, distinct, sort_by}
use Rattle.dns_zone.specs.KeyForm.{name_key}
use Rattle.dns_zone.specs.LabelKey.{IsEight}
use Rattle.dns_zone.specs.OwnerKeysForm.{key_in}
use Rattle.dns_zone.specs.declared.order.sort_key.SortKey.{SortKey}

-- stands for a record that does not exist
abbrev pub no_record : ResourceRecord
no_record = record { owner = []; ttl = 0; rtype = 0; rdata = [] }

-- the record of a sort key, or `first` if there is none
abbrev pub placed : List ResourceRecord → ResourceRecord → SortKey → ResourceRecord
placed rs first p = get_or rs p.at first

-- the key of the owner of a sort key's record
abbrev pub sorted_key : Octets → List ResourceRecord → ResourceRecord → SortKey → Octets
sorted_key keys rs first p = key_in keys p.start (placed rs first p).owner

-- the order of records of one owner
abbrev pub own_order : ResourceRecord → ResourceRecord → Ordering
own_order r s =
    ordering_then (nat_cmp r.rtype s.rtype) (ordering_then (data_order r s) (nat_cmp r.ttl s.ttl))

-- the order of sort keys: by their numbers, then by the keys of the owners, then by `own_order`
abbrev pub sort_key_order : Octets → List ResourceRecord → ResourceRecord → SortKey → SortKey → Ordering
sort_key_order keys rs first p q =
    ordering_then (nat_cmp p.front q.front) (ordering_then (nat_cmp p.next q.next)
    (ordering_then (slice_cmp nat_cmp (sorted_key keys rs first p) (sorted_key keys rs first q))
    (own_order (placed rs first p) (placed rs first q))))

-- the sort keys have the same numbers, and equal records
abbrev pub same_sort_key : List ResourceRecord → ResourceRecord → SortKey → SortKey → Bool
same_sort_key rs first p q = p.front == q.front
    && (p.next == q.next && records_equal (placed rs first p) (placed rs first q))

-- stands for a sort key that does not exist
abbrev pub no_sort_key : SortKey
no_sort_key = record { front = 0; next = 0; at = 0; start = 0 }

-- each of the first n sort keys is less than the next
abbrev pub RiseUpTo : (SortKey → SortKey → Ordering) → List SortKey → ℕ → Type 0
RiseUpTo cmp ps n = (k : ℕ) → k + 1 < n
    → cmp (get_or ps k no_sort_key) (get_or ps (k + 1) no_sort_key) ≡ Less

-- The numbers of a key: its first sixteen octets after the origin's key. If it does not begin with
-- the origin's key, the least or the greatest numbers.
pub record AreFronts (origin key : Octets) (front next : ℕ) : Type 0 where
  pub less : slice_cmp nat_cmp (take (length origin) key) origin ≡ Less
      → (front ≡ 0) × (next ≡ 0)
  pub equal : slice_cmp nat_cmp (take (length origin) key) origin ≡ Equal
      → IsEight front (drop (length origin) key) × IsEight next (drop 8 (drop (length origin) key))
  pub greater : slice_cmp nat_cmp (take (length origin) key) origin ≡ Greater
      → (front ≡ 2 ^ 64 - 1) × (next ≡ 2 ^ 64 - 1)
  pub front_fits : front < 2 ^ 64
  pub next_fits : next < 2 ^ 64

-- a sort key of a record, with the key of its owner and the numbers of this key
pub record IsSortKey (origin keys : Octets) (rs : List ResourceRecord) (p : SortKey) : Type 0 where
  pub inside : p.at < length rs
  pub key : (r : ResourceRecord) → sorted_key keys rs r p ≡ name_key (placed rs r p).owner
  pub fronts : (r : ResourceRecord)
      → AreFronts origin (name_key (placed rs r p).owner) p.front p.next

-- the sort keys of all records, in the order of the records
pub record AreSortKeys (origin keys : Octets) (rs : List ResourceRecord)
    (ps : List SortKey) : Type 0 where
  pub count : length ps ≡ length rs
  pub each : All (IsSortKey origin keys rs) ps
  pub at : (i : ℕ) (d : SortKey) → i < length ps → (get_or ps i d).at ≡ i

-- no two sort keys are of one record
abbrev pub AreApart : List SortKey → Type 0
AreApart ps = (i j : ℕ) (d : SortKey) → i < length ps → j < length ps
    → (get_or ps i d).at ≡ (get_or ps j d).at → i ≡ j

-- the sort keys of the records in canonical order, without duplicates
pub record AreSorted (keys : Octets) (rs : List ResourceRecord) (ps : List SortKey) : Type 0 where
  pub inside : All (λ (p : SortKey). p.at < length rs) ps
  pub apart : AreApart ps
  pub fewer : length ps ≤ length rs
  pub key : All (λ p. sorted_key keys rs no_record p ≡ name_key (placed rs no_record p).owner) ps
  pub whole : map (placed rs no_record) ps ≡ sort_by record_order (distinct records_equal rs)
