-- The owner and the data of a record in its octets, one after the other.
use Rattle.dns_zone.proofs.Common.{◌≡◌, ℕ, true, All, ◌++◌, length, take, drop, refl, ap, ◌∙◌, arith, length-append, take-append_seam, drop-append_seam, Octets, DomainName, wire, is_name, ResourceRecord, Small, labels_of_spelled, IsWireForm-wire, IsKept, owner_in, data_in, IsEntry}

-- zs is the octets of a record: `own`, the wire form of the owner n, followed by the data d
pub record IsLaid (n : DomainName) (d own zs : Octets) : Type 0 where
  pub whole : zs ≡ own ++ d
  pub spelled : own ≡ wire n
  pub is_name : is_name n ≡ true

pub laid_in_turn : (n : DomainName) (d own others zs : Octets) → zs ≡ own ++ others → own ≡ wire n
    → others ≡ d → is_name n ≡ true → IsLaid n d own zs
laid_in_turn n d own others zs h e f ok = grind arith

module _ (n : DomainName) (d own zs : Octets) (laid : IsLaid n d own zs) where
  owner_octets : take (length own) zs ≡ wire n
  owner_octets = ap (take (length own)) laid.whole ∙ take-append_seam own d ∙ laid.spelled

  pub owner_is : owner_in (length own) zs ≡ n
  owner_is = labels_of_spelled (take (length own) zs) n owner_octets laid.is_name

  pub data_is : data_in (length own) zs ≡ d
  data_is = ap (drop (length own)) laid.whole ∙ drop-append_seam own d

  pub entry_kept : (ttl t : ℕ) → IsKept n ttl t d → All Small n → Small d
      → IsEntry (length own) zs ttl t
  entry_kept ttl t kept small small_data =
      grind (arith, length-append, IsWireForm-wire, owner_octets, is_name, owner_is, data_is)

  pub entry_is : (ttl t : ℕ) → ◌≡◌ {A = ResourceRecord} (record
      { owner = owner_in (length own) zs; ttl = ttl; rtype = t; rdata = data_in (length own) zs })
      (record { owner = n; ttl = ttl; rtype = t; rdata = d })
  entry_is ttl t = rw (owner_is, data_is) refl
