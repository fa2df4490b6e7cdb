use Rattle.dns_rdata.proofs.Common.{rules, ℕ, ◌≡◌, ◌<◌, sym, ◌∙◌, arith, text_in_lower_case, numbered_type}
use Rattle.dns_rdata.proofs.TypeDigits.{type_digits}
use Rattle.dns_spec.proofs.Common.{none-some}
use Rattle.dns_rdata.proofs.rtype.RType.read_text.Goals as goal

pub returns-in_err-number : goal.returns-in_err-number
returns-in_err-number c =
    let other : (t : ℕ) → t < 65536 → text_in_lower_case c.args.word.now
    ≡ text_in_lower_case (numbered_type t) → ⊥ = λ t small e.
    none-some _ (sym c.in_err-number.was ∙ (c.read_number.ensures t).1
    (type_digits _ _ t (sym c.in_ok-prefix.ensures.cases.2) small e, omega arith)) in
    rw c.from_residual-in_err-number.ensures (search (rules, other))

pub overflow_cast-result : goal.overflow_cast-result
overflow_cast-result c = let most =
    ((c.read_number.ensures c.in_ok-number.number).0 c.in_ok-number.was).1 in omega (arith, most)
