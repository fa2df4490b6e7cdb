-- The cost of look-ups in sequence, and the room that they leave.
use Rattle.dns_answer.proofs.Common.{ℕ, ◌+◌, ◌≤◌, arith, Walk, HasNodesLeft, Took}

-- an unchanged walk is within any cost
pub Took-none : {s : Walk} {nodes misses : ℕ} → Took s s nodes misses
Took-none = grind arith

pub Took-then : {s s' s'' : Walk} {n m n' m' : ℕ} → Took s s' n m → Took s' s'' n' m'
    → Took s s'' (n + n') (m + m')
Took-then a b = grind arith

pub Took-within : {s s' : Walk} {n m n' m' : ℕ} → n ≤ n' → m ≤ m' → Took s s' n m → Took s s' n' m'
Took-within nodes misses took = grind arith

-- the room left
pub HasNodesLeft-after : {s s' : Walk} {n m k r : ℕ} → Took s s' n m → n + m + k ≤ r → HasNodesLeft s r
    → HasNodesLeft s' k
HasNodesLeft-after took less room = record { visits = omega arith; comparisons = omega arith }
