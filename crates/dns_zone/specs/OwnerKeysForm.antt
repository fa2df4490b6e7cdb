-- The keys of the owners of records, in one shared list of octets.
use Rattle.std.specs.Prelude.{◌≡◌, ℕ, ◌-◌, ◌<◌, List, length, take, drop, get_or}
use Rattle.dns_spec.specs.Names.{Octets, DomainName, wire}
use Rattle.dns_spec.specs.Records.{ResourceRecord}
use Rattle.dns_zone.specs.KeyForm.{name_key}

-- the octets of `keys` from `start` on, as many as the key of n has: one fewer than its wire form
abbrev pub key_in : Octets → ℕ → DomainName → Octets
key_in keys start n = take (length (wire n) - 1) (drop start keys)

-- the key of each record's owner begins at the record's start
pub record AreKeyed (keys : Octets) (rs : List ResourceRecord) (starts : List ℕ) : Type 0 where
  pub count : length starts ≡ length rs
  pub each : (i : ℕ) (r : ResourceRecord) (s : ℕ) → i < length rs
      → key_in keys (get_or starts i s) (get_or rs i r).owner ≡ name_key (get_or rs i r).owner
