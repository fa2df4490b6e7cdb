-- Questions or records are read one after another.
use Rattle.dns_wire.proofs.Common.{◌≡◌, ℕ, zero, suc, ◌<◌, List, [], ◌∷◌, ◌++◌, Option, Some, None, option_map, ◌∙◌, arith, append_assoc, append-nil, several}
use Rattle.dns_spec.specs.MessageFaults.{SeveralFault}

-- the fault of the `left` that are read from offset j on is that of all
pub record KeepsFault {A : Type 0} (read : ℕ → Option (A × ℕ)) (Fault : ℕ → ℕ → Type 0)
    (count i left j : ℕ) : Type 0 where
  pub faults : (f : ℕ) → SeveralFault read Fault left j f → SeveralFault read Fault count i f

-- The invariant of reading `count` questions or records in order from offset i on: those in
-- `so_far`, followed by the `left` that are read from offset j on, are all of them.
pub record AreRead {A : Type 0} (read : ℕ → Option (A × ℕ)) (count i : ℕ) (so_far : List A)
    (left j : ℕ) : Type 0 where
  pub same :
      several read count i ≡ option_map (λ r. (so_far ++ r.0, r.1)) (several read left j)

module _ {A : Type 0} {read : ℕ → Option (A × ℕ)} {count i j left : ℕ} {so_far : List A}
    (so : AreRead read count i so_far left j) where
  pub read_none : 0 < left → read j ≡ None → several read count i ≡ None
  unfolding several
  read_none some none = so.same ∙ go left some
    where
      go : (left : ℕ) → 0 < left
          → option_map {U = List A × ℕ} (λ r. (so_far ++ r.0, r.1)) (several read left j) ≡ None
      go zero some = absurd (omega arith)
      go (suc left) some = grind arith

  pub read_more : (rest : ℕ) (x : A) (e : ℕ) → left ≡ suc rest
      → read j ≡ Some (x, e) → AreRead read count i (so_far ++ x ∷ []) rest e
  unfolding several
  read_more rest x e more one = grind (arith, append_assoc)

  pub read_end : left ≡ 0 → several read count i ≡ Some (so_far, j)
  unfolding several
  read_end done = grind (arith, append-nil)

module _ {A : Type 0} {read : ℕ → Option (A × ℕ)} {Fault : ℕ → ℕ → Type 0} {count i j left : ℕ}
    (keeps : KeepsFault read Fault count i left j) where
  pub fault_more : (rest : ℕ) (x : A) (e : ℕ) → left ≡ suc rest → read j ≡ Some (x, e)
      → KeepsFault read Fault count i rest e
  fault_more rest x e more one = record {
    faults = λ f fault. keeps.faults f (rw more (rw one fault));
  }

  pub fault_here : (f : ℕ) → 0 < left → read j ≡ None → Fault j f
      → SeveralFault read Fault count i f
  fault_here f some none fault = keeps.faults f (go left some)
    where
      go : (left : ℕ) → 0 < left → SeveralFault read Fault left j f
      go zero some = absurd (omega arith)
      go (suc left) some = rw none fault
