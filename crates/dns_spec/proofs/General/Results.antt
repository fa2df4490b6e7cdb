-- From one fact about a result to another, if it is a failure.
use Rattle.std.proofs.Common.{OnErr}
use Rattle.dns_spec.proofs.Common.{IfErr, IsErrAnd, Result, arith, ◌≡◌}

-- what always holds, also holds if a call fails
pub OnErr-always : {A E P : Type 0} (result : Result A E) → P → OnErr result P
OnErr-always result h = grind arith

-- a fault that is passed on, and what holds for it
pub fault_handed_on : {A F : Type 0} (result : Result A F) (fault : F) (P : F → Type 0)
    → IsErrAnd result (λ e. e ≡ fault) → P fault → IfErr result P
fault_handed_on result fault P h h1 = grind arith

-- a fault that is replaced by another, and what holds for the other fault
pub fault_turned : {A F : Type 0} (result : Result A F) (R P : F → Type 0)
    → IsErrAnd result R → ((f : F) → R f → P f) → IfErr result P
fault_turned result R P h h1 = grind arith
