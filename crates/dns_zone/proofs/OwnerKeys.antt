-- The keys of owners, in one shared list of octets.
use Rattle.dns_zone.proofs.Common.{◌≡◌, ℕ, ◌+◌, sym, ◌∙◌, get_or-drop, ◌-◌, ◌<◌, List, ◌∷◌, ◌++◌, length, drop, get_or, ap, arith, length-take, length-drop, subst, cases_lt, Octets, DomainName, wire, ResourceRecord, take-append-le, drop-append-le, drop-append_seam, take-length, name_key, key_in, AreKeyed}
use Rattle.dns_zone.proofs.KeyOrder.{key_length}

-- the key of a name stays where it is when octets are added after it
module _ (keys more : Octets) (n : DomainName) where
  key_octets : length (wire n) - 1 ≡ length (name_key n)
  key_octets = omega (arith, key_length n)

  pub key_stays : (s : ℕ) → key_in keys s n ≡ name_key n → key_in (keys ++ more) s n ≡ name_key n
  key_stays s e =
      grind (arith, cases_lt, key_octets, length-take, length-drop, drop-append-le, take-append-le)

  pub key_added : key_in (keys ++ name_key n) (length keys) n ≡ name_key n
  key_added = grind (arith, drop-append_seam, key_octets, take-length)

-- the first of the records from index k on
first_at : (rs : List ResourceRecord) (k : ℕ) (r d : ResourceRecord) (ts : List ResourceRecord)
    → drop k rs ≡ r ∷ ts → get_or rs k d ≡ r
first_at rs k r d ts e =
    let at : k + 0 ≡ k = omega arith in
    sym (get_or-drop k rs 0 d ∙ ap (λ i. get_or rs i d) at) ∙ ap (λ ys. get_or ys 0 d) e

pub first_keyed : (keys : Octets) (rs : List ResourceRecord) (xs : List ℕ) → AreKeyed keys rs xs
    → (k s : ℕ) (r : ResourceRecord) (ts : List ResourceRecord) → k < length rs → drop k rs ≡ r ∷ ts
    → key_in keys (get_or xs k s) r.owner ≡ name_key r.owner
first_keyed keys rs xs h k s r ts l e =
    subst (λ (o : ResourceRecord). key_in keys (get_or xs k s) o.owner ≡ name_key o.owner)
    (first_at rs k r r ts e) (h.each k r s l)
