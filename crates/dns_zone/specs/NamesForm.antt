-- The list of names of a zone to be checked, and an invariant of each.
use Rattle.std.specs.Prelude.{◌≡◌, ℕ, ◌<◌, ◌≤◌, ◌==◌, ◌&&◌, not, ◌⊎◌, nat_lt, Bool, true, false, List, [], ◌∷◌, map, length, take}
use Rattle.std.specs.List.{AllByRecursion, starts_with}
use Rattle.std.specs.Ordering.{is_gt, nat_cmp}
use Rattle.std.specs.Cmp.Lexicographic.{slice_cmp}
use Rattle.dns_spec.specs.Names.{Octets, DomainName, folded, at_or_below, name_order}
use Rattle.dns_spec.specs.Records.{ResourceRecord, ZoneContents}
use Rattle.dns_spec.specs.Tree.{is_cut}
use Rattle.dns_spec.specs.Checks.{checked_names}
use Rattle.dns_zone.specs.TreeForm.{span}
use Rattle.dns_zone.specs.KeyForm.{name_key}
use Rattle.dns_zone.specs.OwnerForm.{IsOwner}
use Rattle.dns_zone.specs.ReportedForm.{owners_once}
use Rattle.dns_zone.specs.declared.names.CheckedName.{CheckedName}
use Rattle.dns_spec.specs.Lists.{Among}

-- the records of a checked name, and the name: their owner, or the origin if there are no records
abbrev pub own_in : List ResourceRecord → CheckedName → List ResourceRecord
own_in rs c = span rs c.first c.end

abbrev pub first_owner : DomainName → List ResourceRecord → DomainName
first_owner n [] = n
first_owner n (r ∷ rs) = r.owner

abbrev pub owner_of : ZoneContents → CheckedName → DomainName
owner_of z c = first_owner z.origin (own_in z.records c)

-- n is at or below a cut whose key has k octets
pub record IsCutAbove (z : ZoneContents) (n : DomainName) (k : ℕ) : Type 0 where
  pub cut : DomainName
  pub lower : folded cut ≡ cut
  pub is_cut : is_cut z cut ≡ true
  pub above : at_or_below n cut ≡ true
  pub octets : k ≡ length (name_key cut)

-- The key of the topmost cut that a name is at or below has k octets: no other such cut has a
-- shorter key. k is 0 if there is no such cut.
pub record IsTopmost (z : ZoneContents) (n : DomainName) (k : ℕ) : Type 0 where
  pub some : 0 < k → IsCutAbove z n k
  pub least : (c : DomainName) → folded c ≡ c → is_cut z c ≡ true → at_or_below n c ≡ true
      → (0 < k) × (k ≤ length (name_key c))

-- `key` begins with the first k octets of `last`, and k is not 0
abbrev pub is_covered : ℕ → Octets → Octets → Bool
is_covered k last key = nat_lt 0 k && starts_with ◌==◌ key (take k last)

-- the checked name is not after the name with this key
abbrev pub is_upto : Octets → CheckedName → Bool
is_upto key c = not (is_gt (slice_cmp nat_cmp c.key.now key))

-- an invariant of a checked name
pub record IsChecked (z : ZoneContents) (n : DomainName) (c : CheckedName) : Type 0 where
  pub owner : IsOwner z n (own_in z.records c)
  pub rising : c.first ≤ c.end
  pub within : c.end ≤ length z.records
  pub key : c.key.now ≡ name_key n
  pub topmost : IsTopmost z n c.cut

-- all checked names, in canonical order
pub record AreChecked (z : ZoneContents) (names : List CheckedName) : Type 0 where
  pub each : AllByRecursion (λ c. IsChecked z (owner_of z c) c) names
  pub all : map (owner_of z) names ≡ checked_names z

-- the checked names that own records, in canonical order
pub record AreOwners (z : ZoneContents) (names : List CheckedName) : Type 0 where
  pub each : AllByRecursion (λ c. IsChecked z (owner_of z c) c) names
  pub all : map (owner_of z) names ≡ owners_once z.records

-- A name o is not after an owner n with the records `own`. `last` and `key` are the keys of o and
-- n, and `cut` is the length of the key of the topmost cut of o. Each cut that n is at or below is
-- either n itself or not after o.
pub record ComesNext (z : ZoneContents) (o n : DomainName) (cut : ℕ)
    (origin last key : Octets) (own : List ResourceRecord) : Type 0 where
  pub origin_key : origin ≡ name_key z.origin
  pub origin_lower : folded z.origin ≡ z.origin
  pub last_key : last ≡ name_key o
  pub last_lower : folded o ≡ o
  pub topmost : IsTopmost z o cut
  pub key_is : key ≡ name_key n
  pub owner : IsOwner z n own
  pub upto : is_gt (name_order o n) ≡ false
  pub cuts : (c : DomainName) → folded c ≡ c → is_cut z c ≡ true → at_or_below n c ≡ true
      → (c ≡ n) ⊎ (is_gt (name_order c o) ≡ false)

-- c is the last checked name that is not after n
pub record IsLastUpto (z : ZoneContents) (n : DomainName) (c : CheckedName) : Type 0 where
  pub checked : IsChecked z (owner_of z c) c
  pub upto : is_gt (name_order (owner_of z c) n) ≡ false
  pub last : (m : DomainName) → Among m (checked_names z) → is_gt (name_order m n) ≡ false
      → is_gt (name_order m (owner_of z c)) ≡ false

-- an invariant of a zone under check
pub record IsCheckContext (z : ZoneContents) (key : Octets) (names : List CheckedName) : Type 0 where
  pub key_is : key ≡ name_key z.origin
  pub lower : folded z.origin ≡ z.origin
  pub names_are : AreChecked z names
