-- What a frame holds after it has taken octets.
use Rattle.dns_spec.proofs.Common.{◌≡◌, ℕ, ◌+◌, ◌-◌, ◌<◌, ◌≤◌, ◌⊎◌, inl, inr, ◌++◌, length, take, drop, ap, sym, ◌∙◌, arith, cases_lt, All, All-append, All-take, subst, take-append-add, take-append-le, length-append, length-take, get_or, get_or_default_zero, take_all, append-nil, take-append-drop, Octets, field16, number_of}
use Rattle.std.proofs.lemmas.Bool.Decides.{nat_tests}
use Rattle.dns_serve.specs.Framing.{FrameState, HasCome, missing_of}

take_append : (n : ℕ) (x y : Octets) → take n (x ++ y) ≡ take n x ++ take (n - length x) y
take_append n x y = go (cases_lt n (length x))
  where
    go : (n < length x) ⊎ (length x ≤ n) → take n (x ++ y) ≡ take n x ++ take (n - length x) y
    go (inl less) = grind (arith, take-append-le, append-nil)
    go (inr more) =
        let count : length x + (n - length x) ≡ n = omega arith in
        ap (λ k. take k (x ++ y)) (sym count) ∙ take-append-add x y (n - length x)
        ∙ ap (λ l. l ++ take (n - length x) y) (sym (take_all n x more))

-- the length that octets begin with is in any prefix of two octets and more
pub length_again : (n : ℕ) (x : Octets) → 2 ≤ n → field16 (take n x) 0 ≡ field16 x 0
length_again n x two = go (cases_lt (length x) 2)
  where
    go : (length x < 2) ⊎ (2 ≤ length x) → field16 (take n x) 0 ≡ field16 x 0
    go (inl less) = ap (λ l. field16 l 0) (take_all n x (omega arith))
    go (inr more) =
        let enough : 2 ≤ length (take n x) = omega (arith, length-take n x) in
        sym (ap (λ l. field16 l 0) (sym (take-append-drop n x))
        ∙ ap number_of (take-append-le 2 (take n x) (drop n x) enough))

pub length_stays : (x y : Octets) → 2 ≤ length x → field16 (x ++ y) 0 ≡ field16 x 0
length_stays x y two = ap number_of (take-append-le 2 x y two)

pub come_more : (f then : FrameState) (x octets piece : Octets) → HasCome f x
    → All (λ o. o < 256) octets → piece ≡ take (missing_of f) octets → then.came ≡ f.came + length piece
    → then.kept ≡ f.kept ++ take (514 - length f.kept) piece
    → HasCome then (x ++ take (missing_of f) octets)
come_more f then x octets piece h low is count holds =
    let few : length piece ≤ missing_of f =
    omega (arith, ap length is, length-take (missing_of f) octets) in
    let room : 514 - length f.kept ≡ 514 - length x =
    omega (arith, ap length h.kept, length-take 514 x) in
    rw (← is) (record {
      came = omega (arith, h.came, count, length-append x piece);
      kept = holds ∙ ap (λ k. f.kept ++ take k piece) room
          ∙ ap (λ k. k ++ take (514 - length x) piece) h.kept ∙ sym (take_append 514 x piece);
      within = λ two. go few (cases_lt (length x) 2) two;
      low = All-append (λ o. o < 256) x piece h.low
          (subst (All (λ o. o < 256)) (sym is) (All-take (λ o. o < 256) _ octets low));
    })
  where
    go : length piece ≤ missing_of f → (length x < 2) ⊎ (2 ≤ length x)
        → 2 ≤ length (x ++ piece) → length (x ++ piece) ≤ 2 + field16 (x ++ piece) 0
    go few (inl less) two = grind (arith, nat_tests, length-append)
    go few (inr more) two =
        let same : field16 f.kept 0 ≡ field16 x 0 =
        ap (λ k. field16 k 0) h.kept ∙ length_again 514 x (omega arith) in
        let stays = length_stays x piece more in
        grind (arith, nat_tests, length-append)

-- the octets of a slice
pub low_octets : (a : Octets) → ((i : ℕ) → get_or a i 0 < 256) → All (λ o. o < 256) a
low_octets a low = λ k d h. subst (λ o. o < 256) (sym (get_or_default_zero a k d h)) (low k)
