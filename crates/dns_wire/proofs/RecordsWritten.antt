-- Records are written one after another.
use Rattle.dns_wire.proofs.Common.{◌≡◌, ℕ, ◌+◌, ◌*◌, ◌<◌, ◌≤◌, Bool, true, false, List, [], ◌∷◌, ◌++◌, length, take, drop, get_or, refl, sym, ap, ap₂, ◌∙◌, subst, subst₂, arith, add-zero, map, append_assoc, append-nil, length-append, take-append-drop, length-map, get_or-map, take_more, take_all, Octets, DomainName, ResourceRecord, RecordSet, records_at, Placed, Laid, laid_front, record_laid, records_octets, records_by, length-record_tail, shown, records_laid, PartialMessage, HasNames, Writes, WritesAfter, IsLaid, IsLaidAs, Form, form_again, ◌==◌, OnTrue, false≢true, ne_eqb, zero, suc}
use Rattle.dns_wire.proofs.LaidAgain.{laid_again}
use Rattle.dns_wire.proofs.Steps.{writes_as, writes_both, writes_past, both_laid}

pub records_more : (ms : List Placed) (p : ℕ) (r : ResourceRecord) (rs : List ResourceRecord)
    → records_laid
    (r ∷ rs) ms p ≡ laid_front (record_laid ms p r).written (record_laid ms p r).names
    (records_laid rs (ms ++ (record_laid ms p r).names) (p + length (record_laid ms p r).written))
unfolding records_laid
records_more ms p r rs = refl

pub records_none : (ms : List Placed) (p : ℕ)
    → records_laid [] ms p ≡ record { written = []; names = [] }
unfolding records_laid
records_none ms p = refl

pub octets_of_records : (ms : List Placed) (p : ℕ) (rs : List ResourceRecord)
    → (records_laid rs ms p).written ≡ records_octets ms p rs
unfolding records_laid records_by
octets_of_records ms p [] = refl
octets_of_records ms p (r ∷ rs) =
    let l = record_laid ms p r in
    ap (λ z. l.written ++ z) (octets_of_records (ms ++ l.names) (p + length l.written) rs)

-- records followed by others
pub records_split : (rs ss : List ResourceRecord) (ms : List Placed) (p : ℕ)
    → both_laid (records_laid rs) (records_laid ss) ms p ≡ records_laid (rs ++ ss) ms p
records_split [] ss ms p = grind (arith, records_none, ap₂, append-nil, add-zero)
records_split (r ∷ rs) ss ms p =
    let l = record_laid ms p r in
    let again = records_split rs ss (ms ++ l.names) (p + length l.written) in
    grind (arith, records_more, again, append_assoc, length-append)

record_alone : (r : ResourceRecord) (ms : List Placed) (p : ℕ)
    → record_laid ms p r ≡ records_laid (r ∷ []) ms p
record_alone r ms p = grind (arith, ap₂, append-nil, records_none, records_more)

-- a record has at least ten octets after its owner
records_long : (ms : List Placed) (p : ℕ) (rs : List ResourceRecord)
    → 10 * length rs ≤ length (records_laid rs ms p).written
records_long ms p [] = omega arith
records_long ms p (r ∷ rs) =
    let l = record_laid ms p r in
    let again = records_long (ms ++ l.names) (p + length l.written) rs in
    grind (arith, records_more, again, length-append, length-record_tail)

pub set_long : (owner : DomainName) (ttl : ℕ) (set : RecordSet) (ms : List Placed) (p : ℕ)
    → 10 * length set.rdata ≤ length (records_laid (records_at owner ttl set) ms p).written
set_long owner ttl set ms p = grind (arith, records_long, length-map)

-- the first i records of a set, followed by the record with index i, are its first i + 1
record_taken : (owner : DomainName) (ttl : ℕ) (set : RecordSet) (i : ℕ)
    → i < length set.rdata → take i (records_at owner ttl set) ++ shown owner set.rtype ttl
    (get_or set.rdata i []) ∷ [] ≡ take (i + 1) (records_at owner ttl set)
record_taken owner ttl set i inside =
    let show = λ (d : Octets). shown owner set.rtype ttl d in
    let rs = records_at owner ttl set in
    let count : length rs ≡ length set.rdata = length-map set.rdata show in
    sym (take_more rs i (show []) (omega (arith, inside, count))
    ∙ ap (λ x. take i rs ++ x ∷ []) (get_or-map show set.rdata i [] (show []) inside))

pub all_taken : (owner : DomainName) (ttl : ℕ) (set : RecordSet) (i : ℕ)
    → length set.rdata ≤ i → take i (records_at owner ttl set) ≡ records_at owner ttl set
all_taken owner ttl set i over = grind (arith, length-map, take_all)

-- the first name in the layout of records is the owner of the first record
first_name : (rs : List ResourceRecord) (r : ResourceRecord) (i : ℕ) (ms : List Placed) (p : ℕ)
    → (more : List Placed) × ((records_laid (take (suc i) (r ∷ rs)) ms p).names ≡ (r.owner, p) ∷ more)
first_name rs r i ms p = (_, ap (λ (l : Laid). l.names) (records_more ms p r (take i rs)))

owner_first : (owner : DomainName) (ttl : ℕ) (set : RecordSet) (i : ℕ) (ms : List Placed) (p : ℕ)
    → 0 < i → 0 < length set.rdata → (more : List Placed)
    × ((records_laid (take i (records_at owner ttl set)) ms p).names ≡ (owner, p) ∷ more)
owner_first owner ttl set zero ms p some has = absurd (omega (arith, some))
owner_first owner ttl set (suc i) ms p some has = go set.rdata refl
  where
    go : (ds : List Octets) → set.rdata ≡ ds → (more : List Placed)
        × ((records_laid (take (suc i) (records_at owner ttl set)) ms p).names ≡ (owner, p) ∷ more)
    go [] e = absurd (omega (arith, has, ap length e))
    go (d ∷ ds) e =
        let show = λ (d : Octets). shown owner set.rtype ttl d in
        let x = first_name (map show ds) (show d) i ms p in (
          x.0,
          ap (λ ds. (records_laid (take (suc i) (map show ds)) ms p).names) e ∙ x.1,
        )

-- so the form of the owner is known for the other records of a set
owner_again : (head : Octets → ℕ) (d : PartialMessage) (owner : DomainName) (ttl : ℕ) (set : RecordSet)
    (i start : ℕ) (form : Form) → i < length set.rdata → start ≡ length d.octets
    → (0 < i → (ms : List Placed) → HasNames d head ms → IsLaid ms owner form)
    → (ms : List Placed) → HasNames d head ms → IsLaidAs owner (i == 0) (form_again start form)
    (ms ++ (records_laid (take i (records_at owner ttl set)) ms (length d.octets)).names)
owner_again head d owner ttl set zero start form inside is known ms holds =
    λ no. absurd (false≢true (sym no))
owner_again head d owner ttl set (suc i) start form inside is known ms holds = λ _.
    let p = length d.octets in
    let x = owner_first owner ttl set (suc i) ms p (omega arith) (omega (arith, inside)) in
    subst₂ (λ k names. IsLaid (ms ++ names) owner (form_again k form)) (sym is) (sym x.1)
    (laid_again ms x.0 owner p form holds.before (known (omega arith) ms holds))

-- and the form is known after each record that is written
pub form_known : {t : Bool} (head head' : Octets → ℕ) (d d' : PartialMessage) (owner : DomainName)
    (form form' : Form) (i : ℕ) → (i ≡ 0 → d' ≡ d) → head' ≡ head
    → (0 < i → (ms : List Placed) → HasNames d head ms → IsLaid ms owner form)
    → ((i == 0) ≡ true → OnTrue t ((ms : List Placed) → HasNames d' head' ms → IsLaid ms owner form'))
    → ((i == 0) ≡ false → form' ≡ form)
    → t ≡ true → (ms : List Placed) → HasNames d head ms → IsLaid ms owner form'
form_known head head' d d' owner form form' zero begins same known first others put ms holds =
    grind arith
form_known head head' d d' owner form form' (suc i) begins same known first others put ms holds =
    subst (IsLaid ms owner) (sym (others (ne_eqb (suc i) 0 (λ e. omega (arith, e))))) (known (omega arith) ms holds)

-- one more record of a set is written, or does not fit
pub record_more : {head head' head'' : Octets → ℕ} {d d' d'' : PartialMessage} {fits : Bool}
    (owner : DomainName) (ttl : ℕ) (set : RecordSet) (i start : ℕ) (form : Form)
    (given : ResourceRecord) → i < length set.rdata
    → given ≡ shown owner set.rtype ttl (get_or set.rdata i []) → start ≡ length d.octets
    → (0 < i → (ms : List Placed) → HasNames d head ms → IsLaid ms owner form)
    → Writes head head' d d' (records_laid (take i (records_at owner ttl set))) true
    → WritesAfter (IsLaidAs owner (i == 0) (form_again start form)) head' head'' d' d''
    (λ ms p. record_laid ms p given) fits
    → Writes head head'' d d'' (records_laid (take (i + 1) (records_at owner ttl set))) fits
record_more {head} {head'} {head''} {d} {d'} {d''} {fits}
    owner ttl set i start form given inside is begins known so_far next =
    let front = take i (records_at owner ttl set) in
    let last = records_laid (given ∷ []) in
    subst (λ rs. Writes head head'' d d'' (records_laid rs) fits)
    (ap (λ x. front ++ x ∷ []) is ∙ record_taken owner ttl set i inside)
    (writes_as (both_laid (records_laid front) last)
    (records_laid (front ++ given ∷ [])) (records_split front (given ∷ []))
    (writes_both (records_laid front) last
    (λ ms holds _. owner_again head d owner ttl set i start form inside begins known ms holds) refl
    so_far (writes_as (λ ms p. record_laid ms p given) last (record_alone given) next)))

-- if the first i records do not fit, the records do not
pub records_past : {head head' : Octets → ℕ} {d d' : PartialMessage} {t : Bool} (rs : List ResourceRecord)
    (i : ℕ) → t ≡ false → Writes head head' d d' (records_laid (take i rs)) t
    → Writes head head' d d' (records_laid rs) false
records_past rs i is w = writes_past (records_laid (take i rs)) (records_laid rs) is refl
    (λ ms p.
    let l = records_laid (take i rs) ms p in
    let rest = records_laid (drop i rs) (ms ++ l.names) (p + length l.written) in
    let whole : length (l.written ++ rest.written) ≡ length (records_laid rs ms p).written =
    ap (λ (z : Laid). length z.written) (records_split (take i rs) (drop i rs) ms p
    ∙ ap (λ xs. records_laid xs ms p) (take-append-drop i rs)) in
    omega (arith, whole, length-append l.written rest.written)) w
