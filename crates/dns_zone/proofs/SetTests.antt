-- Adjacent records, ordered by type, decide the checks of an owner's RRsets.
use Rattle.dns_zone.proofs.Common.{◌≡◌, ℕ, zero, suc, ◌+◌, ◌<◌, ◌≤◌, Bool, true, false, ◌&&◌, ◌||◌, not, cond, nat_lt, eqb, ◌==◌, List, [], ◌∷◌, map, length, drop, refl, sym, ap, ap₂, ◌∙◌, arith, filter, add-one, drop-drop, ltb-false, eqb-true, ne_eqb, eqb-false, eq-eqb, cases_lt, lt-ltb, le-ltb, or_right, or_parts, list_any, ResourceRecord, distinct, zip, begins_with_type, sets_ended, AllByRecursion, each_weaker, each_distinct}
use Rattle.dns_spec.proofs.General.Elements.{each_map}
use Rattle.dns_spec.proofs.General.Filters.{filter_all, filter_again}
use Rattle.dns_spec.proofs.General.Tests.{any_alike, any_either}
use Rattle.dns_spec.proofs.General.Pairs.{Pairs}
use Rattle.dns_spec.proofs.General.Numbers.{other_than}

abbrev TypeUpTo : ResourceRecord → ResourceRecord → Type 0
TypeUpTo r s = r.rtype ≤ s.rtype

-- TTLs
abbrev differ : ResourceRecord → ResourceRecord → Bool
differ r s = r.rtype == s.rtype && not (r.ttl == s.ttl)

eqb_turned : (a b : ℕ) → eqb a b ≡ eqb b a
eqb_turned a b = grind (arith, eqb-true, eq-eqb, ne_eqb, eqb-false)

differ_turned : (r s : ResourceRecord) → differ r s ≡ differ s r
differ_turned r s = ap₂ (λ a b. a && not b) (eqb_turned r.rtype s.rtype) (eqb_turned r.ttl s.ttl)

differ_itself : (r : ResourceRecord) → differ r r ≡ false
differ_itself r = ap₂ (λ a b. a && not b) (eq-eqb r.rtype r.rtype refl) (eq-eqb r.ttl r.ttl refl)

abbrev next_differs : ResourceRecord → List ResourceRecord → Bool
next_differs r [] = false
next_differs r (s ∷ rs) = differ r s

abbrev neighbours_differ : List ResourceRecord → Bool
neighbours_differ [] = false
neighbours_differ (r ∷ rs) = next_differs r rs || neighbours_differ rs

-- if no two adjacent records of one type differ in TTL, no two records of one type do
none_differs : (r s : ResourceRecord) (rs : List ResourceRecord) → TypeUpTo r s → Pairs TypeUpTo (s
    ∷ rs) → neighbours_differ (s ∷ rs) ≡ false → differ r s ≡ false → list_any (differ r) rs ≡ false
none_differs r s [] l h n d = refl
none_differs r s (q ∷ rs) l h n d =
    let parts = or_parts (differ s q) (neighbours_differ (q ∷ rs)) n in
    let next = h.0.0 in
    let here : differ r q ≡ false = grind arith in
    ap₂ ◌||◌ here (none_differs r q rs (omega arith) h.1 parts.1 here)

first_differs : (r : ResourceRecord) (rs : List ResourceRecord) → Pairs TypeUpTo (r ∷ rs)
    → neighbours_differ rs ≡ false → list_any (differ r) rs ≡ next_differs r rs
first_differs r rs h h1 = grind (arith, none_differs)

ttls-walk : (rs : List ResourceRecord)
    → Pairs TypeUpTo rs → list_any (λ r. list_any (differ r) rs) rs ≡ neighbours_differ rs
ttls-walk [] h = refl
ttls-walk (r ∷ rs) h =
    ap₂ ◌||◌ (ap (λ b. b || list_any (differ r) rs) (differ_itself r))
    (any_either (λ s. differ s r) (λ s. list_any (differ s) rs) rs ∙ ap₂ ◌||◌
    (any_alike (λ s. differ s r) (differ r) rs (λ s. differ_turned s r)) (ttls-walk rs h.1))
    ∙ go (list_any (differ r) rs) (neighbours_differ rs) refl refl
  where
    go : (a b : Bool) → list_any (differ r) rs ≡ a
        → neighbours_differ rs ≡ b → (a || (a || b)) ≡ (next_differs r rs || b)
    go true true e f = sym (or_right (next_differs r rs) true refl)
    go false true e f = sym (or_right (next_differs r rs) true refl)
    go true false e f = sym (ap (λ b. b || false) (sym (first_differs r rs h f) ∙ e))
    go false false e f = sym (ap (λ b. b || false) (sym (first_differs r rs h f) ∙ e))

in_pairs : (rs : List ResourceRecord)
    → list_any (λ p. differ p.0 p.1) (zip rs (drop 1 rs)) ≡ neighbours_differ rs
in_pairs [] = refl
in_pairs (r ∷ []) = refl
in_pairs (r ∷ s ∷ rs) = ap (λ b. differ r s || b) (in_pairs (s ∷ rs))

pub ttls-in_pairs : (rs : List ResourceRecord) → Pairs TypeUpTo rs → list_any
    (λ p. differ p.0 p.1) (zip rs (drop 1 rs)) ≡ list_any (λ r. list_any (differ r) rs) rs
ttls-in_pairs rs h = in_pairs rs ∙ sym (ttls-walk rs h)

-- the sizes of RRsets
abbrev of_number : ℕ → List ResourceRecord → List ResourceRecord
of_number t rs = filter (λ (s : ResourceRecord). s.rtype == t) rs

-- some record and the record k + 1 positions after it have the same type
abbrev repeats_after : ℕ → List ResourceRecord → Bool
repeats_after k [] = false
repeats_after k (r ∷ rs) = begins_with_type r.rtype (drop k rs) || repeats_after k rs

abbrev is_large : ℕ → List ResourceRecord → ResourceRecord → Bool
is_large k rs r = nat_lt (suc k) (length (of_number r.rtype rs))

lt_suc : (a b : ℕ) → nat_lt (suc a) (suc b) ≡ nat_lt a b
lt_suc a b = grind (arith, cases_lt, lt-ltb, le-ltb)

no_more : (t : ℕ) (rs : List ResourceRecord)
    → AllByRecursion (λ (s : ResourceRecord). t < s.rtype) rs → of_number t rs ≡ []
no_more t [] e = refl
no_more t (s ∷ rs) e = grind (arith, ne_eqb, (no_more t rs e.1))

none_after : (t k : ℕ) (rs : List ResourceRecord)
    → AllByRecursion (λ (s : ResourceRecord). t < s.rtype) rs
    → begins_with_type t (drop k rs) ≡ false
none_after t zero [] e = refl
none_after t zero (s ∷ rs) e = let first = e.0 in ne_eqb s.rtype t (λ h. absurd (omega arith))
none_after t (suc k) [] e = refl
none_after t (suc k) (s ∷ rs) e = none_after t k rs e.1

above_all : (t : ℕ) (s : ResourceRecord) (rs : List ResourceRecord)
    → t < s.rtype → AllByRecursion (TypeUpTo s) rs
    → AllByRecursion (λ (q : ResourceRecord). t < q.rtype) rs
above_all t s rs l e = grind (arith, each_weaker, TypeUpTo)

-- more than k records have the lowest type t if and only if record k, counted from 0, has it
run_after : (t k : ℕ) (rs : List ResourceRecord)
    → AllByRecursion (λ (s : ResourceRecord). t ≤ s.rtype) rs
    → Pairs TypeUpTo rs → nat_lt k (length (of_number t rs)) ≡ begins_with_type t (drop k rs)
run_after t zero [] e h = refl
run_after t (suc k) [] e h = le-ltb (suc k) 0 (omega arith)
run_after t zero (s ∷ rs) e h = grind (arith, lt-ltb, other_than, eqb-false, no_more, above_all)
run_after t (suc k) (s ∷ rs) e h =
    grind (
      arith,
      lt_suc,
      run_after t k rs e.1 h.1,
      other_than,
      eqb-false,
      above_all,
      no_more,
      le-ltb,
      none_after,
    )

first_run : (k : ℕ) (r : ResourceRecord) (rs : List ResourceRecord)
    → Pairs TypeUpTo (r ∷ rs) → is_large k (r ∷ rs) r ≡ begins_with_type r.rtype (drop k rs)
first_run k r rs h = grind (arith, eq-eqb, lt_suc, run_after)

large-walk : (k : ℕ) (rs : List ResourceRecord)
    → Pairs TypeUpTo rs → list_any (is_large k rs) rs ≡ repeats_after k rs
large-walk k [] h = refl
large-walk k (r ∷ rs) h =
    grind (arith, eqb-true, ltb-false, le-ltb, first_run, any_alike, (large-walk k rs h.1))

abbrev same_type : (ResourceRecord × ResourceRecord) → Bool
same_type p = p.0.rtype == p.1.rtype

no_pairs : (rs : List ResourceRecord) → list_any same_type (zip rs []) ≡ false
no_pairs [] = refl
no_pairs (r ∷ rs) = refl

in_runs : (k : ℕ) (rs : List ResourceRecord)
    → list_any same_type (zip rs (drop (suc k) rs)) ≡ repeats_after k rs
in_runs k [] = refl
in_runs k (r ∷ rs) =
    go (drop k rs) (ap (λ n. drop n rs) (sym (add-one k)) ∙ sym (drop-drop 1 k rs)) (in_runs k rs)
  where
    go : (qs : List ResourceRecord) → drop (suc k) rs ≡ drop 1 qs
        → list_any same_type (zip rs (drop (suc k) rs)) ≡ repeats_after k rs
        → list_any same_type (zip (r ∷ rs) qs) ≡ (begins_with_type r.rtype qs || repeats_after k rs)
    go [] d h = sym (sym h ∙ ap (λ xs. list_any same_type (zip rs xs)) d ∙ no_pairs rs)
    go (q ∷ qs) d h = grind (arith, ap₂, eqb_turned, r, list_any)

pub large-in_runs : (k : ℕ) (rs : List ResourceRecord) → Pairs TypeUpTo rs
    → list_any same_type (zip rs (drop (suc k) rs)) ≡ list_any (is_large k rs) rs
large-in_runs k rs h = in_runs k rs ∙ sym (large-walk k rs h)

-- the number of types
abbrev number_types : List ResourceRecord → ℕ
number_types rs = length (distinct ◌==◌ (map (λ (r : ResourceRecord). r.rtype) rs))

abbrev types : List ResourceRecord → List ℕ
types rs = map (λ (r : ResourceRecord). r.rtype) rs

-- if all types are above t, none is t
kept_above : (t : ℕ) (rs : List ResourceRecord)
    → AllByRecursion (λ (s : ResourceRecord). t < s.rtype) rs
    → filter (λ u. not (eqb t u)) (distinct ◌==◌ (types rs)) ≡ distinct ◌==◌ (types rs)
kept_above t rs e =
    filter_all (λ u. not (eqb t u)) (distinct ◌==◌ (types rs))
    (each_weaker (λ u. t < u) (λ u. not (eqb t u) ≡ true) (distinct ◌==◌ (types rs))
    (λ u l. ap not (ne_eqb t u (λ k. absurd (omega arith)))) (each_distinct (λ u. t < u) ◌==◌ (types rs)
    (each_map (λ u. t < u) (λ (r : ResourceRecord). r.rtype) rs e)))

pub types-walk : (rs : List ResourceRecord) → Pairs TypeUpTo rs → number_types rs ≡ sets_ended rs
types-walk [] h = refl
types-walk (r ∷ []) h = refl
types-walk (r ∷ s ∷ rs) h = go (eqb s.rtype r.rtype) refl (types-walk (s ∷ rs) h.1)
  where
    go : (b : Bool) → eqb s.rtype r.rtype ≡ b → number_types (s ∷ rs) ≡ sets_ended (s ∷ rs)
        → suc (length (filter (λ t. not (eqb r.rtype t)) (distinct ◌==◌ (types (s ∷ rs)))))
        ≡ cond b 0 1 + sets_ended (s ∷ rs)
    go true e n =
        let one = eqb-true s.rtype r.rtype e in
        let itself : eqb r.rtype s.rtype ≡ true = eq-eqb _ _ (sym one) in
        let zs = filter (λ t. not (eqb s.rtype t)) (distinct ◌==◌ (types rs)) in
        let dropped : length (filter (λ t. not (eqb r.rtype t)) (s.rtype ∷ zs)) ≡ length zs =
        ap (λ b. length (cond (not b) (s.rtype ∷ filter (λ t. not (eqb r.rtype t)) zs)
        (filter (λ t. not (eqb r.rtype t)) zs))) itself ∙ ap
        (λ (k : ℕ). length (filter (λ t. not (eqb k t)) zs)) (sym one) ∙ ap length (filter_again
        (λ t. not (eqb s.rtype t)) (distinct ◌==◌ (types rs)))
        in
        omega arith
    go false e n =
        let next = h.0.0 in
        let above : r.rtype < s.rtype =
        other_than r.rtype s.rtype next (eqb-false s.rtype r.rtype e) in
        let kept = kept_above r.rtype (s ∷ rs) (above, above_all r.rtype s rs above h.1.0) in
        omega (arith, ap length kept)

-- there are at most as many RRsets as records
pub sets_upto : (rs : List ResourceRecord) → sets_ended rs ≤ length rs
sets_upto [] = omega arith
sets_upto (r ∷ rs) = grind (arith, (sets_upto rs))
