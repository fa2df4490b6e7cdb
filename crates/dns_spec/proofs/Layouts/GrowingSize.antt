-- The size of a layout never shrinks when a set is added. So stopping at the first set that does
-- not fit gives the greatest number of sets that fit.
use Rattle.dns_spec.proofs.Common.{◌≡◌, ℕ, zero, suc, ◌+◌, ◌≤◌, Bool, true, false, cond, nat_le, List, [], ◌∷◌, ◌++◌, length, take, Option, refl, sym, ap, ◌∙◌, arith, append_assoc, append-nil, le-leb, leb-true, flat_map-append, ResourceRecord, MessageQuestion, Item, Placed, size, kept, fitting, greatest, length-append, record_laid, records_octets, records_by}

records_grow : (ms : List Placed) (p : ℕ) (rs ss : List ResourceRecord)
    → length (records_octets ms p rs) ≤ length (records_octets ms p (rs ++ ss))
unfolding records_by
records_grow ms p [] ss = omega arith
records_grow ms p (r ∷ rs) ss =
    let l = record_laid ms p r in
    let h = records_grow (ms ++ l.names) (p + length l.written) rs ss in
    omega (
      arith,
      h,
      length-append l.written (records_octets (ms ++ l.names) (p + length l.written) rs),
      length-append l.written (records_octets (ms ++ l.names) (p + length l.written) (rs ++ ss)),
    )

pub size_grows : (q : Option MessageQuestion) (is js : List Item) → size q is ≤ size q (is ++ js)
unfolding size
size_grows q is js = grind (arith, flat_map-append, records_grow)

-- if 1 passes the test whenever a later number does, the greatest number that passes is one more
-- than the greatest for the test of the next number
pub greatest-first : (test : ℕ → Bool) (n : ℕ) → ((k : ℕ) → test (suc k) ≡ true → test 1 ≡ true)
    → greatest test (suc n) ≡ cond (test 1) (suc (greatest (λ k. test (suc k)) n)) 0
greatest-first test zero h = refl
greatest-first test (suc n) h = grind (arith, (greatest-first test n h))

module _ (size_of : List Item → ℕ)
    (grows : (is js : List Item) → size_of is ≤ size_of (is ++ js)) (limit : ℕ) where
  fits_before : (is js : List Item)
      → nat_le (size_of (is ++ js)) limit ≡ true → nat_le (size_of is) limit ≡ true
  fits_before is js e = grind (arith, leb-true, le-leb)

  stops : (front is : List Item) → fitting size_of limit front is
      ≡ front ++ take (greatest (λ k. nat_le (size_of (front ++ take k is)) limit) (length is)) is
  stops front [] = sym (append-nil front)
  stops front (i ∷ is) =
      let next = front ++ i ∷ [] in
      let test : ℕ → Bool = λ k. nat_le (size_of (front ++ take k (i ∷ is))) limit in
      let same : (k : ℕ) → next ++ take k is ≡ front ++ i ∷ take k is =
      λ k. append_assoc front (i ∷ []) (take k is) in
      let later : (λ (k : ℕ). nat_le (size_of (next ++ take k is)) limit)
      ≡ (λ (k : ℕ). test (suc k)) = λ j k. nat_le (size_of (same k j)) limit in
      let first : (k : ℕ) → test (suc k) ≡ true → test 1 ≡ true = grind arith in
      go (test 1) (stops next is ∙ (λ j. next ++ take (greatest (later j) (length is)) is))
      ∙ ap (λ n. front ++ take n (i ∷ is)) (sym (greatest-first test (length is) first))
    where
      go : (b : Bool) → fitting size_of limit (front ++ i ∷ []) is ≡ (front ++ i ∷ []) ++ take
          (greatest (λ k. nat_le (size_of (front ++ take (suc k) (i ∷ is))) limit) (length is)) is
          → cond b (fitting size_of limit (front ++ i ∷ []) is) front ≡ front ++ take (cond b (suc
          (greatest (λ k. nat_le (size_of (front ++ take (suc k) (i ∷ is))) limit) (length is))) 0)
          (i ∷ is)
      go true e = grind (arith, append_assoc)
      go false e = sym (append-nil front)

  pub kept_is_fitting : (is : List Item) → kept size_of limit is ≡ fitting size_of limit [] is
  kept_is_fitting is = sym (stops [] is)
