use Rattle.dns_zone.proofs.Common.{◌≡◌, ℕ, ◌+◌, ◌*◌, ◌<◌, ◌≤◌, All, length, take, get_or, IsReadRecord, name_key, key_in, AreFronts, IsSortKey, SortKey}
use Rattle.dns_zone.proofs.order.owner_keys.keys_of.Given as goal

-- the keys so far, and the last of them, with its numbers
abbrev pub invariant-records : goal.invariant-records
invariant-records l = record {
  key : l.key ≡ name_key l.last;
  last : key_in l.keys.items l.sort_key.start l.last ≡ name_key l.last;
  fronts : AreFronts (name_key l.origin) (name_key l.last) l.sort_key.front l.sort_key.next;
  origin : key_in l.keys.items 0 l.origin ≡ name_key l.origin;
  count : length l.sort_keys.items ≡ l.each-index;
  at : (i : ℕ) (d : SortKey) → i < length l.sort_keys.items → (get_or l.sort_keys.items i d).at ≡ i;
  each : All (IsSortKey (name_key l.origin) l.keys.items l.records) l.sort_keys.items;
  few : length l.keys.items ≤ 255 * (l.each-index + 1);
  read : All IsReadRecord (take l.each-index l.records);
}
