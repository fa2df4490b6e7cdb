-- The sets that end an answer, by the sets of nodes.
use Rattle.dns_answer.proofs.Common.{◌≡◌, ℕ, Bool, true, false, cond, ◌||◌, List, [], ◌∷◌, map, Option, None, Some, refl, ap, ap₂, ◌∙◌, append-nil, arith, Octets, DomainName, target, type_ns, type_mx, type_srv, ResourceRecord, of_type, with_owner, sort_by, insert_by, data_order, distinct, RecordSet, set_of, records_at, rising_types, of_first_type, of_lowest_type, Section, ◌==◌, filter, filter_map, cons_option, nat_cmp, item, has_target_type, targets_of, asked_records, set_targets}

-- the records of a set with another owner
shown_again : (n owner : DomainName) (ttl : ℕ) (set : RecordSet)
    → with_owner owner (records_at n ttl set) ≡ records_at owner ttl set
shown_again n owner ttl set = go set.rdata
  where
    go : (ds : List Octets) → with_owner owner
        (map (λ (d : Octets). record { owner = n; ttl = ttl; rtype = set.rtype; rdata = d }) ds)
        ≡ map (λ (d : Octets). record { owner = owner; ttl = ttl; rtype = set.rtype; rdata = d }) ds
    go [] = refl
    go (d ∷ ds) =
        ap (λ rs. record { owner = owner; ttl = ttl; rtype = set.rtype; rdata = d } ∷ rs) (go ds)

pub item-shown : (s : Section) (n owner : DomainName) (rs : List ResourceRecord) (set : RecordSet)
    → set_of rs ≡ Some set → records_at n set.ttl set ≡ rs → item s
    (with_owner owner rs) ≡ record { section = s; records = records_at owner set.ttl set } ∷ []
item-shown s n owner rs set h h1 = grind (arith, shown_again)

-- the types whose sets have targets
abbrev pub is_target_type : ℕ → Bool
is_target_type u = u == type_ns || u == type_mx || u == type_srv

pub targets_of_set : (s : Section) (owner : DomainName) (ttl : ℕ) (set : RecordSet) (b : Bool)
    → is_target_type set.rtype ≡ b → targets_of
    (record { section = s; records = records_at owner ttl set } ∷ []) ≡ cond b (set_targets set) []
targets_of_set s owner ttl set b e =
    ap (filter_map of) (append-nil (records_at owner ttl set)) ∙ go b e set.rdata
  where
    of : ResourceRecord → Option DomainName
    of r = cond (has_target_type r) (target r.rtype r.rdata) None

    shown : List Octets → List ResourceRecord
    shown ds =
        map (λ (d : Octets). record { owner = owner; ttl = ttl; rtype = set.rtype; rdata = d }) ds

    go : (b : Bool) → is_target_type set.rtype ≡ b → (ds : List Octets) → filter_map of (shown ds)
        ≡ cond b (filter_map (λ (d : Octets). target set.rtype d) ds) []
    go true e [] = refl
    go false e [] = refl
    go true e (d ∷ ds) =
        ap₂ cons_option (ap (λ b. cond b (target set.rtype d) None) e) (go true e ds)
    go false e (d ∷ ds) = grind (arith, cons_option, target, None, (go false e ds))

-- neither the types nor the order of data depend on the owners

insert_shown : (n : DomainName) (r : ResourceRecord) (rs : List ResourceRecord) → insert_by
    data_order (record r { owner = n }) (with_owner n rs) ≡ with_owner n (insert_by data_order r rs)
insert_shown n r [] = refl
insert_shown n r (s ∷ rs) = grind (arith, (insert_shown n r rs))

sort_shown : (n : DomainName) (rs : List ResourceRecord)
    → sort_by data_order (with_owner n rs) ≡ with_owner n (sort_by data_order rs)
sort_shown n [] = refl
sort_shown n (r ∷ rs) = ap (insert_by data_order (record r { owner = n })) (sort_shown n rs)
    ∙ insert_shown n r (sort_by data_order rs)

filter_shown : (n : DomainName) (t : ℕ) (rs : List ResourceRecord)
    → filter (λ (r : ResourceRecord). r.rtype == t)
    (with_owner n rs) ≡ with_owner n (filter (λ (r : ResourceRecord). r.rtype == t) rs)
filter_shown n t [] = refl
filter_shown n t (r ∷ rs) = grind (arith, (filter_shown n t rs))

pub of_type-shown : (n : DomainName) (t : ℕ) (rs : List ResourceRecord)
    → of_type t (with_owner n rs) ≡ with_owner n (of_type t rs)
of_type-shown n t rs = ap (sort_by data_order) (filter_shown n t rs)
    ∙ sort_shown n (filter (λ (r : ResourceRecord). r.rtype == t) rs)

types_shown : (n : DomainName) (rs : List ResourceRecord) → map
    (λ (r : ResourceRecord). r.rtype) (with_owner n rs) ≡ map (λ (r : ResourceRecord). r.rtype) rs
types_shown n [] = refl
types_shown n (r ∷ rs) = ap (λ ts. r.rtype ∷ ts) (types_shown n rs)

lowest_shown : (n : DomainName) (rs : List ResourceRecord)
    → of_lowest_type (with_owner n rs) ≡ with_owner n (of_lowest_type rs)
lowest_shown n rs =
    ap (λ ts. of_first_type (rising ts) (with_owner n rs)) (types_shown n rs) ∙ go (rising_types rs)
  where
    rising : List ℕ → List ℕ
    rising ts = sort_by nat_cmp (distinct ◌==◌ ts)

    go : (ts : List ℕ) → of_first_type ts (with_owner n rs) ≡ with_owner n (of_first_type ts rs)
    go [] = refl
    go (t ∷ ts) = of_type-shown n t rs

pub asked-shown : (n : DomainName) (t : ℕ) (rs : List ResourceRecord)
    → asked_records t (with_owner n rs) ≡ with_owner n (asked_records t rs)
asked-shown n t rs = grind (arith, lowest_shown, of_type-shown)
