-- Which name is at a place of a message. A place is the index of an octet, counted from 0.
use Rattle.std.specs.Prelude.{◌≡◌, ℕ, ◌+◌, ◌-◌, ◌*◌, ◌<◌, ◌≤◌, [], ◌∷◌, length, take, drop, slice_get, Some, IsTrue}
use Rattle.dns_spec.specs.Names.{Octets, DomainName, is_name}

-- RFC 1035 4.1.4: the place to which a pointer of these two octets points; the first octet is at
-- least 192
abbrev pub pointer_place : ℕ → ℕ → ℕ
pointer_place o o' = (o - 192) * 256 + o'

-- RFC 1035 4.1.4: in the octets b, a run of labels began at place s. From place i on the run spells
-- n, and its own octets end before place e. An octet 0 ends the run. An octet k from 1 to 63 is
-- followed by a label of k octets. An octet of at least 192 and the next octet are a pointer to
-- another run, which spells the rest of n. That run begins after the header and before the current
-- run. Other octets spell no name.
pub data RunAt (b : Octets) : ℕ → ℕ → DomainName → ℕ → Type 0 where
  ends : {s : ℕ} (i : ℕ) → slice_get b i ≡ Some 0 → RunAt b s i [] (i + 1)
  goes_on : {s : ℕ} (i k : ℕ) (l : Octets) (n : DomainName) (e : ℕ)
      → slice_get b i ≡ Some k → 0 < k → k < 64 → i + 1 + k ≤ length b → l ≡ take k (drop (i + 1) b)
      → RunAt b s (i + 1 + k) n e → RunAt b s i (l ∷ n) e
  jumps : {s : ℕ} (i o o' p : ℕ) (n : DomainName) (e : ℕ)
      → slice_get b i ≡ Some o → 192 ≤ o → slice_get b (i + 1) ≡ Some o' → p ≡ pointer_place o o'
      → 12 ≤ p → p < s
      → RunAt b p p n e → RunAt b s i n (i + 2)

-- The name n is spelled at place i, and its own octets end before place e. RFC 1035 2.3.4: the
-- whole name, with the part that pointers lead to, has at most 255 octets.
abbrev pub NameAt : Octets → ℕ → DomainName → ℕ → Type 0
NameAt b i n e = RunAt b i i n e × IsTrue (is_name n)
