-- The rest of an answer, by what is found at a name of the chain.
use Rattle.dns_answer.proofs.Common.{◌≡◌, ℕ, zero, suc, ◌+◌, true, false, cond, ◌&&◌, ◌⊎◌, inl, inr, List, [], ◌∷◌, ◌++◌, None, Some, refl, sym, ap, ◌∙◌, arith, add-one, append-nil, append_assoc, and-false, DomainName, type_cname, ResourceRecord, ZoneContents, of_type, cut_of, found, name_error, answer, Item, item, follows_alias, alias_set, next_sought, chain_from, last_of, has_any, Outcome, positive, negative, referral_to, outcome_by, outcome_at, labels_below, ending, names_from, aliases_of, rest_of, chain_rest, leads_on, sum_cons}
use Rattle.dns_answer.specs.Ending.{Rest}

-- the rest of an answer with these sets in front and one more name sought
abbrev pub after_sets : List Item → ℕ → Rest → Rest
after_sets is nodes r = record {
  items = is ++ r.items;
  required = is ++ r.required;
  outcome = r.outcome;
  nodes = nodes + r.nodes;
  misses = 2 + r.misses;
}

-- if no name is sought after s, the chain from s is s alone; otherwise the next name follows
from-last : (z : ZoneContents) (k : ℕ) (sought : List DomainName) (s : DomainName)
    → next_sought z (s ∷ sought) s ≡ None → chain_from z k sought s ≡ s ∷ []
unfolding chain_from
from-last z zero sought s e = refl
from-last z (suc k) sought s e = ap (λ o. s ∷ elim o as
    (λ _. List DomainName) [ None ↦ [] | Some m ↦ chain_from z k (s ∷ sought) m ]) e

from-more : (z : ZoneContents) (k : ℕ) (sought : List DomainName) (s m : DomainName) → next_sought z
    (s ∷ sought) s ≡ Some m → chain_from z (suc k) sought s ≡ s ∷ chain_from z k (s ∷ sought) m
unfolding chain_from
from-more z k sought s m e = ap (λ o. s ∷ elim o as
    (λ _. List DomainName) [ None ↦ [] | Some m ↦ chain_from z k (s ∷ sought) m ]) e

-- a chain is not empty, so its last name does not depend on the default
last-from : (z : ZoneContents) (k : ℕ) (sought : List DomainName) (s m : DomainName)
    → last_of s (chain_from z k sought m) ≡ last_of m (chain_from z k sought m)
unfolding chain_from
last-from z zero sought s m = refl
last-from z (suc k) sought s m = refl

-- no alias is followed at a name at or below a cut
pub no-alias_cut : (z : ZoneContents) (t : ℕ) (s c : DomainName) → cut_of z s ≡ Some c
    → leads_on z t s ≡ false
no-alias_cut z t s c e = rw e (and-false (follows_alias t))

-- records are found
module _ (z : ZoneContents) (s : DomainName) (rs : List ResourceRecord) (e : cut_of z s ≡ None)
    (f : found z s ≡ Some rs) where
  pub alias-found : alias_set z s ≡ of_type type_cname rs
  alias-found = rw (e, f) refl

pub outcome-found : (z : ZoneContents) (t : ℕ) (s : DomainName) (rs : List ResourceRecord)
    → cut_of z s ≡ None → found z s ≡ Some rs → outcome_at z t s ≡ outcome_by z t None (Some rs)
unfolding outcome_at
outcome-found z t s rs e f = rw (e, f) refl

pub outcome-alias : (z : ZoneContents) (t : ℕ) (s : DomainName) (rs : List ResourceRecord) → cut_of
    z s ≡ None → found z s ≡ Some rs → leads_on z t s ≡ true → outcome_at z t s ≡ positive []
outcome-alias z t s rs e f h =
    let here = ap (λ xs. follows_alias t && has_any xs) (sym (alias-found z s rs e f)) ∙ h in
    outcome-found z t s rs e f ∙ rw here refl

module _ (z : ZoneContents) (t k : ℕ) (sought : List DomainName) (s : DomainName) where
  -- the chain ends at s: the outcome there, after its alias if it has one
  abbrev pub ChainEnds : List Item → Outcome → Type 0
  ChainEnds aliases o =
      chain_rest z t k sought s ≡ after_sets aliases (labels_below z s) (ending z o)

  ends : (aliases : List Item) (o : Outcome) → names_from z t k sought s ≡ s ∷ []
      → aliases_of z t (s ∷ []) ≡ aliases → outcome_at z t s ≡ o → ChainEnds aliases o
  unfolding chain_rest
  ends aliases o names shown is = grind (arith, sum_cons, rest_of)

  -- if the type follows no alias or s has none, s alone is sought, and no CNAME set is added
  pub none-shown : leads_on z t s ≡ false → aliases_of z t (s ∷ []) ≡ []
  none-shown e = grind arith

  pub last-name : leads_on z t s ≡ false → names_from z t k sought s ≡ s ∷ []
  last-name e = grind (arith, from-last)

  pub ends-plain : (o : Outcome) → leads_on z t s ≡ false → outcome_at z t s ≡ o → ChainEnds [] o
  ends-plain o none is = ends [] o (last-name none) (none-shown none) is

  -- the name is at or below a cut
  pub ends-cut : (c : DomainName) → cut_of z s ≡ Some c → ChainEnds [] (referral_to z c)
  unfolding outcome_at
  ends-cut c e = ends-plain (referral_to z c) (no-alias_cut z t s c e) (rw e refl)

  -- nothing is found
  pub ends-nothing : cut_of z s ≡ None → found z s ≡ None → ChainEnds [] (negative z name_error)
  unfolding outcome_at
  ends-nothing e f =
      ends-plain (negative z name_error) (rw (e, f) (and-false (follows_alias t))) (rw (e, f) refl)

  -- the alias at s is not followed: no more aliases may be followed, or its target is outside the
  -- zone, was sought before, or is missing
  pub ends-alias : (is : List Item) → follows_alias t ≡ true → item answer (alias_set z s) ≡ is
      → outcome_at z t s ≡ positive [] → (k ≡ 0) ⊎ (next_sought z (s ∷ sought) s ≡ None)
      → ChainEnds is (positive [])
  unfolding chain_from
  ends-alias is follows are outcome none =
      ends is (positive [])
      (ap (λ b. cond b (chain_from z k sought s) (s ∷ [])) follows ∙ alone none)
      (ap (λ b. cond b (item answer (alias_set z s) ++ []) []) follows
      ∙ append-nil (item answer (alias_set z s)) ∙ are) outcome
    where
      alone : (k ≡ 0) ⊎ (next_sought z (s ∷ sought) s ≡ None) → chain_from z k sought s ≡ s ∷ []
      alone (inl e) = ap (λ k. chain_from z k sought s) e
      alone (inr e) = from-last z k sought s e

-- an alias is followed from s to m
pub goes-on : (z : ZoneContents) (t k : ℕ) (sought : List DomainName) (s : DomainName) (k' : ℕ)
    (m : DomainName) (is : List Item) → follows_alias t ≡ true → item answer (alias_set z s) ≡ is
    → next_sought z (s ∷ sought) s ≡ Some m → k ≡ k' + 1 → chain_rest z t k sought s
    ≡ after_sets is (labels_below z s) (chain_rest z t k' (s ∷ sought) m)
unfolding chain_rest
goes-on z t k sought s k' m first follows are e count =
    grind (arith, add-one, from-more, last_of, last-from, sum_cons, rest_of, append_assoc)
