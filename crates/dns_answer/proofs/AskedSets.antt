-- The outcome for records that are found, by the set asked for.
use Rattle.dns_answer.proofs.Common.{arith, ◌≡◌, ℕ, true, false, cond, ◌&&◌, List, [], ◌∷◌, None, Some, refl, ap, ◌∙◌, DomainName, type_cname, ResourceRecord, ZoneContents, at, of_type, with_owner, RecordSet, set_of, records_at, of_first_type, no_error, answer, item, has_any, asked_records, follows_alias, positive, negative, outcome_by, AllByRecursion, each_typed, ZoneNode, IsSetOf}
use Rattle.dns_answer.proofs.EndingSets.{asked-shown, item-shown}

units : (rs : List ResourceRecord) → AllByRecursion (λ (r : ResourceRecord). Unit {0}) rs
units [] = tt
units (r ∷ rs) = (tt, units rs)

-- the type of a set is the type of its records
set_type : (rs : List ResourceRecord) (t : ℕ) (set : RecordSet) → AllByRecursion
    (λ (r : ResourceRecord). Unit {0} × (r.rtype ≡ t)) rs → Some set ≡ set_of rs → set.rtype ≡ t
set_type [] t set e f = absurd (cc)
set_type (r ∷ rs) t set e f = let is : set.rtype ≡ r.rtype = cc in is ∙ e.0.1

typed : (t : ℕ) (rs : List ResourceRecord) (set : RecordSet)
    → Some set ≡ set_of (of_type t rs) → of_type set.rtype rs ≡ of_type t rs
typed t rs set e = ap (λ u. of_type u rs)
    (set_type (of_type t rs) t set (each_typed t (λ r. Unit {0}) rs (units rs)) e)

lowest : (ts : List ℕ) (rs : List ResourceRecord) (set : RecordSet)
    → Some set ≡ set_of (of_first_type ts rs) → of_type set.rtype rs ≡ of_first_type ts rs
lowest [] rs set e = absurd (cc)
lowest (t ∷ ts) rs set e = typed t rs set e

asked_typed : (t : ℕ) (rs : List ResourceRecord) (set : RecordSet)
    → Some set ≡ set_of (asked_records t rs) → of_type set.rtype rs ≡ asked_records t rs
asked_typed t rs set = grind (arith, lowest, typed)

pub set_of-some : (n : DomainName) (rs : List ResourceRecord) (set : RecordSet)
    → Some set ≡ set_of rs → has_any (with_owner n rs) ≡ true
set_of-some n [] set e = absurd (cc)
set_of-some n (r ∷ rs) set e = refl

pub set_of-none : (n : DomainName) (rs : List ResourceRecord)
    → None ≡ set_of rs → has_any (with_owner n rs) ≡ false
set_of-none n [] e = refl
set_of-none n (r ∷ rs) e = absurd (cc)

-- the outcome for a name that is below no cut, owns the records rs, and is not followed as an alias:
-- the set asked for if there is one, else a negative answer
module _ (z : ZoneContents) (t : ℕ) (n : DomainName) (rs : List ResourceRecord)
    (no_alias : (follows_alias t && has_any (of_type type_cname (with_owner n rs))) ≡ false) where
  outcome_is : outcome_by z t None
      (Some (with_owner n rs)) ≡ cond (has_any (with_owner n (asked_records t rs)))
      (positive (item answer (with_owner n (asked_records t rs)))) (negative z no_error)
  outcome_is = grind (arith, positive, asked-shown)

  pub asked-none : None ≡ set_of (asked_records t rs)
      → outcome_by z t None (Some (with_owner n rs)) ≡ negative z no_error
  asked-none e = outcome_is ∙ ap (λ b. cond b (positive (item answer (with_owner n
      (asked_records t rs)))) (negative z no_error)) (set_of-none n (asked_records t rs) e)

  pub asked-some : (node : ZoneNode) (ttl : ℕ) (set : RecordSet)
      → rs ≡ at node.zone node.name → IsSetOf node set → ttl ≡ set.ttl
      → Some set ≡ set_of (asked_records t rs) → outcome_by z t None (Some (with_owner n rs))
      ≡ positive (record { section = answer; records = records_at n ttl set } ∷ [])
  asked-some node ttl set here k timed e =
      grind (arith, outcome_is, positive, set_of-some, item-shown, asked_typed)
