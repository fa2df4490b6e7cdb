-- Runs of octets are determined by their first and last octets, and those octets by numbers.
use Rattle.dns_name.proofs.Common.{◌≡◌, ◌==◌, ◌↔◌, IsTrue, ℕ, zero, suc, ◌+◌, ◌-◌, ◌<◌, ◌≤◌, List, [], ◌∷◌, length, take, drop, get_or, refl, sym, ◌∙◌, arith, eqb-true, eq-eqb, le_bytes_2, le_bytes_4, le_bytes_8, length-take-le, length-drop, from_le_bytes, w16, w32, w64}
use Rattle.dns_spec.proofs.General.Fronts.{same_fronts_ends, take_last}

abbrev pub AreLow : List ℕ → Type 0
AreLow xs = (i : ℕ) → get_or xs i 0 < 256

low_front : (k : ℕ) (xs : List ℕ) → AreLow xs → AreLow (take k xs)
low_front zero xs low i = omega arith
low_front (suc k) [] low i = omega arith
low_front (suc k) (x ∷ xs) low zero = low zero
low_front (suc k) (x ∷ xs) low (suc i) = low_front k xs (λ j. low (suc j)) i

pub low_end : (k : ℕ) (xs : List ℕ) → AreLow xs → AreLow (drop k xs)
low_end zero xs low i = low i
low_end (suc k) [] low i = omega arith
low_end (suc k) (x ∷ xs) low i = low_end k xs (λ j. low (suc j)) i

-- the number that f gives for the first k octets determines these octets
abbrev pub Tells : ℕ → (List ℕ → ℕ) → Type 0
Tells k f = (a b : List ℕ) → k ≤ length a
    → k ≤ length b → AreLow a → AreLow b → f (take k a) ≡ f (take k b) → take k a ≡ take k b

pub eight_tell : Tells 8 (from_le_bytes w64)
eight_tell a b long-a long-b low-a low-b e =
    sym (le_bytes_8 (take 8 a) (from_le_bytes w64 (take 8 a))
    (length-take-le 8 a long-a) (low_front 8 a low-a) refl) ∙ le_bytes_8 (take 8 b)
    (from_le_bytes w64 (take 8 a)) (length-take-le 8 b long-b) (low_front 8 b low-b) e

pub four_tell : Tells 4 (from_le_bytes w32)
four_tell a b long-a long-b low-a low-b e =
    sym (le_bytes_4 (take 4 a) (from_le_bytes w32 (take 4 a))
    (length-take-le 4 a long-a) (low_front 4 a low-a) refl) ∙ le_bytes_4 (take 4 b)
    (from_le_bytes w32 (take 4 a)) (length-take-le 4 b long-b) (low_front 4 b low-b) e

pub two_tell : Tells 2 (from_le_bytes w16)
two_tell a b long-a long-b low-a low-b e =
    sym (le_bytes_2 (take 2 a) (from_le_bytes w16 (take 2 a))
    (length-take-le 2 a long-a) (low_front 2 a low-a) refl) ∙ le_bytes_2 (take 2 b)
    (from_le_bytes w16 (take 2 a)) (length-take-le 2 b long-b) (low_front 2 b low-b) e

-- in a run of k to 2k octets, each is among the first k or the last k, so the numbers of these two
-- parts determine the run
pub ends_tell : (k : ℕ) (f : List ℕ → ℕ) → Tells k f → (a b a' b' : List ℕ) {m n m' n' : ℕ}
    → length b ≡ length a → k ≤ length a → length a ≤ k + k → AreLow a → AreLow b
    → a' ≡ drop (length a - k) a → b' ≡ drop (length b - k) b → m ≡ f (take k a) → n ≡ f (take k b)
    → m ≡ n → m' ≡ f (take k a') → n' ≡ f (take k b') → IsTrue (m' == n') ↔ (a ≡ b)
ends_tell k f tell a b a' b' same least most low-a low-b own-a own-b first second
    front third fourth =
    grind (arith, length-drop, low_end, take_last, same_fronts_ends, eqb-true, eq-eqb)
