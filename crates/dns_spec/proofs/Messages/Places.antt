-- What is at a place of a message is read there: numbers, octets, and names that are written whole
-- or with a pointer.
use Rattle.dns_spec.proofs.Common.{common_steps, pow-le-pow_right, and_parts, leb-true, ltb-true, list_all, Octets, DomainName, wire, is_label, is_name, number_of, RunAt, ends, goes_on, ◌≡◌, ℕ, zero, suc, ◌+◌, ◌*◌, ◌%◌, ◌^◌, ◌<◌, ◌≤◌, true, [], ◌∷◌, ◌++◌, length, take, drop, IsTrue, Some, slice_get, refl, sym, ap, ◌∙◌, subst, arith, append_assoc, append-nil, take_at, drop_at, length-append, pow-suc, mul_comm, mod-mul, byte_at, bytes_high_first, ◌-◌, name_at}
use Rattle.dns_spec.proofs.Messages.NameReading.{name_computed}

pub length-bytes_high_first : (k n : ℕ) → length (bytes_high_first k n) ≡ k
length-bytes_high_first zero n = refl
length-bytes_high_first (suc k) n = ap suc (length-bytes_high_first k n)

-- the octets of a number spell it
byte_on : (k n : ℕ) → byte_at k n * 256 ^ k + n % 256 ^ k ≡ n % 256 ^ suc k
byte_on k n = grind (arith, pow-suc, mul_comm, pow-le-pow_right, mod-mul)

pub number_of-bytes : (k n : ℕ) → number_of (bytes_high_first k n) ≡ n % 256 ^ k
number_of-bytes zero n = omega arith
number_of-bytes (suc k) n = grind (arith, length-bytes_high_first, byte_on, (number_of-bytes k n))

-- The octets x are in b from place i on.
pub record Stands (b : Octets) (i : ℕ) (x : Octets) : Type 0 where
  pub before : Octets
  pub after : Octets
  pub whole : b ≡ before ++ (x ++ after)
  pub place : length before ≡ i

pub stands_front : {b : Octets} {i : ℕ} (x y : Octets) → Stands b i (x ++ y) → Stands b i x
stands_front x y s = grind (arith, append_assoc)

pub stands_rest : {b : Octets} {i : ℕ} (x y : Octets)
    → Stands b i (x ++ y) → Stands b (i + length x) y
stands_rest x y s = record {
  before = s.before ++ x;
  after = s.after;
  whole = cc (append_assoc x y s.after, append_assoc s.before x (y ++ s.after));
  place = length-append s.before x ∙ ap (λ z. z + length x) s.place;
}

-- the part after k octets
pub stands_after : {b : Octets} {i : ℕ} (k : ℕ) (x y : Octets)
    → length x ≡ k → Stands b i (x ++ y) → Stands b (i + k) y
stands_after {b} {i} k x y e s = subst (λ z. Stands b (i + z) y) e (stands_rest x y s)

pub stands_all : (b : Octets) → Stands b 0 b
stands_all b = record { before = []; after = []; whole = sym (append-nil b); place = refl }

-- octets that are in b end within b, and are read from it
pub stands_within : {b : Octets} {i : ℕ} (x : Octets) → Stands b i x → i + length x ≤ length b
stands_within {b} {i} x s = grind (arith, length-append)

pub stands_take : {b : Octets} {i : ℕ} (x : Octets) → Stands b i x → take (length x) (drop i b) ≡ x
stands_take {b} {i} x s = grind (arith, drop_at, take_at)

pub stands_own : {b : Octets} {i : ℕ} (x : Octets)
    → Stands b i x → take (i + length x - i) (drop i b) ≡ x
stands_own {b} {i} x s = ap (λ k. take k (drop i b)) (omega arith) ∙ stands_take x s

get_at : (p q : Octets) (o i : ℕ) → length p ≡ i → slice_get (p ++ o ∷ q) i ≡ Some o
get_at [] q o zero e = refl
get_at [] q o (suc i) e = absurd (omega arith)
get_at (a ∷ p) q o zero e = absurd (omega arith)
get_at (a ∷ p) q o (suc i) e = get_at p q o i (omega arith)

pub stands_get : {b : Octets} {i : ℕ} (o : ℕ) (x : Octets)
    → Stands b i (o ∷ x) → slice_get b i ≡ Some o
stands_get {b} {i} o x s = grind (arith, slice_get, get_at)

-- a number that is in b is read from it
pub number_at : {b : Octets} {i : ℕ} (k v : ℕ)
    → v < 256 ^ k → Stands b i (bytes_high_first k v) → number_of (take k (drop i b)) ≡ v
number_at {b} {i} k v low s =
    grind (arith, common_steps, stands_take, length-bytes_high_first, number_of-bytes)

-- a name that is written whole is read label by label
pub label_parts : (l : Octets) → is_label l ≡ true → (0 < length l) × (length l < 64)
label_parts l h = grind (arith, and_parts, ltb-true, leb-true)

pub run_written : {b : Octets} {s : ℕ} (n : DomainName) {i : ℕ}
    → list_all is_label n ≡ true → Stands b i (wire n) → RunAt b s i n (i + length (wire n))
run_written [] {i} h at = ends i (stands_get 0 [] at)
run_written {b} {s} (l ∷ n) {i} h at =
    let p = and_parts (is_label l) (list_all is_label n) h in
    let q = label_parts l p.0 in
    let tail : Stands b (i + 1) (l ++ wire n) =
    stands_after 1 (length l ∷ []) (l ++ wire n) refl at in
    let front : Stands b (i + 1) l = stands_front l (wire n) tail in
    let end : i + 1 + length l + length (wire n) ≡ i + length (wire (l ∷ n)) =
    omega (arith, length-append l (wire n)) in
    subst (RunAt b s i (l ∷ n)) end
    (goes_on i (length l) l n (i + 1 + length l + length (wire n))
    (stands_get (length l) (l ++ wire n) at) q.0 q.1 (stands_within l front)
    (sym (stands_take l front)) (run_written n p.1 (stands_rest l (wire n) tail)))

pub name_written : {b : Octets} {i : ℕ} (n : DomainName)
    → IsTrue (is_name n) → Stands b i (wire n) → name_at b i ≡ Some (n, i + length (wire n))
name_written {b} {i} n h at = name_computed b i n (i + length (wire n))
    (run_written n (and_parts (list_all is_label n) _ h).0 at, h)
