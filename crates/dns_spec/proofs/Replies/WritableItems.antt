-- The sets of an answer are in the order of their sections, and their records fit a message if the
-- zone's records do.
use Rattle.dns_spec.proofs.Common.{◌≡◌, ℕ, zero, suc, ◌<◌, ◌≤◌, min, append_assoc, append-nil, Bool, true, false, ◌&&◌, cond, nat_le, List, [], ◌∷◌, ◌++◌, map, take, Option, None, Some, All, flat_map, refl, sym, subst, arith, rules, and_from, le-leb, none-some, same_Some, list_all, Octets, DomainName, is_name, same, suffixes, type_ns, type_cname, Field, Part, octets, name, field_front, cut, first_name, target, soa_minimum, ResourceRecord, ZoneContents, at, of_type, rrset, with_owner, cut_of, found, Section, answer, authority, additional, Item, records_of, name_error, no_error, item, follows_alias, alias_set, next_sought, chain_from, chain, last_of, last_sought, alias_items, Outcome, asked_records, negative, positive, has_any, outcome_by, outcome_at, outcome, targets, address_sets, extra, main_items, items, section_rank, sections_in_order, IsWritable, AllByRecursion, recursion_from_All, All-from_recursion}
use Rattle.dns_spec.proofs.DomainNames.NameLaws.{is_name-tail, is_name-folded}
use Rattle.dns_spec.proofs.DataWords.WrittenData.{cut_into}
use Rattle.dns_spec.proofs.General.Elements.{each_append, each_take, each_flat_map, each_reverse_onto}
use Rattle.dns_spec.proofs.General.Filters.{each_filter}
use Rattle.dns_spec.proofs.General.Tests.{found_each}
use Rattle.dns_spec.proofs.General.Sorted.{each_sort}

-- a valid name; the names above it, and the name in lower case, are valid too
abbrev pub Named : DomainName → Type 0
Named n = is_name n ≡ true

each_suffix : (n : DomainName) → Named n → AllByRecursion Named (suffixes n)
each_suffix [] h = (h, tt)
each_suffix (l ∷ n) h = (h, each_suffix n (is_name-tail l n h))

pub named_cut : (z : ZoneContents) (q c : DomainName) → Named q → cut_of z q ≡ Some c → Named c
named_cut z q c h e = grind (arith, found_each, each_reverse_onto, each_suffix, is_name-folded)

-- the names in data are valid
abbrev NamedPart : Part → Type 0
NamedPart (octets o) = Unit {0}
NamedPart (name n) = Named n

named_front : (p : Field) (os rest : Octets) (part : Part)
    → field_front p os ≡ Some (part, rest) → NamedPart part
named_front p os rest part h = grind arith

named_parts : (ps : List Field) (os : Octets) (xs : List Part)
    → cut ps os ≡ Some xs → AllByRecursion NamedPart xs
unfolding cut
named_parts [] [] xs h = subst (AllByRecursion NamedPart) (same_Some [] xs h) tt
named_parts [] (o ∷ os) xs h = absurd (none-some xs h)
named_parts (p ∷ ps) os xs h =
    let c = cut_into p ps os xs h in
    subst (AllByRecursion NamedPart) c.whole
    (named_front p os c.rest c.part c.front, named_parts ps c.rest c.others c.more)

named_first : (xs : List Part) (m : DomainName)
    → AllByRecursion NamedPart xs → first_name xs ≡ Some m → Named m
named_first [] m e h = absurd (none-some m h)
named_first (octets o ∷ xs) m e h = named_first xs m e.1 h
named_first (name n ∷ xs) m e h = subst Named (same_Some n m h) e.0

pub named_target : (t : ℕ) (d : Octets) (m : DomainName) → target t d ≡ Some m → Named m
named_target t d m h = grind (arith, none-some, named_first, named_parts)

-- records that fit a message, such as records taken from a zone of such records
abbrev Writable : List ResourceRecord → Type 0
Writable = AllByRecursion IsWritable

at_writable : (z : ZoneContents) (n : DomainName) → Writable z.records → Writable (at z n)
at_writable z n w = each_filter IsWritable (λ (r : ResourceRecord). same r.owner n) z.records w

of_type_writable : (t : ℕ) (rs : List ResourceRecord) → Writable rs → Writable (of_type t rs)
of_type_writable t rs w = grind (arith, each_sort, each_filter)

with_owner_writable : (n : DomainName) (rs : List ResourceRecord)
    → Named n → Writable rs → Writable (with_owner n rs)
with_owner_writable n [] h w = tt
with_owner_writable n (r ∷ rs) h w = grind (arith, (with_owner_writable n rs h w.1))

-- The names sought are valid.
module _ (z : ZoneContents) where
  next_named : (sought : List DomainName) (s m : DomainName)
      → next_sought z sought s ≡ Some m → Named m
  next_named sought s m e = grind (arith, named_target)

  chain_from_named : (k : ℕ) (sought : List DomainName) (s : DomainName)
      → Named s → AllByRecursion Named (chain_from z k sought s)
  unfolding chain_from
  chain_from_named zero sought s h = (h, tt)
  chain_from_named (suc k) sought s h =
      (h, go (next_sought z (s ∷ sought) s) refl (λ m n. chain_from_named k (s ∷ sought) m n))
    where
      go : (y : Option DomainName) → next_sought z (s ∷ sought) s ≡ y
          → ((m : DomainName) → Named m → AllByRecursion Named (chain_from z k (s ∷ sought) m))
          → AllByRecursion Named (elim y [ None ↦ [] | Some m ↦ chain_from z k (s ∷ sought) m ])
      go None e f = tt
      go (Some m) e f = f m (next_named (s ∷ sought) s m e)

  pub chain_named : (q : DomainName) (t : ℕ) → Named q → AllByRecursion Named (chain z q t)
  unfolding chain
  chain_named q t h = grind (arith, chain_from_named, AllByRecursion)

-- For a zone whose records fit a message.
module _ (z : ZoneContents) (w : Writable z.records) where
  found_writable : (q : DomainName) (rs : List ResourceRecord)
      → Named q → found z q ≡ Some rs → Writable rs
  found_writable q rs h e = grind (arith, with_owner_writable, at_writable, none-some, same_Some)

  alias_set_writable : (s : DomainName) → Named s → Writable (alias_set z s)
  alias_set_writable s h = grind (arith, of_type_writable, found_writable)

  last_named : (s : DomainName) (ms : List DomainName)
      → Named s → AllByRecursion Named ms → Named (last_of s ms)
  last_named s [] h e = h
  last_named s (m ∷ ms) h e = last_named m ms e.0 e.1

-- a set of the section s, whose records fit a message
abbrev Stood : Section → Item → Type 0
Stood s i = (i.section ≡ s) × Writable i.records

item_stood : (s : Section) (rs : List ResourceRecord) → Writable rs
    → AllByRecursion (Stood s) (item s rs)
item_stood s rs h = grind arith

abbrev Negative : ResourceRecord → ResourceRecord
Negative r = record r { ttl = min r.ttl (soa_minimum r.rdata) }

negative_writable : (rs : List ResourceRecord) → Writable rs → Writable (map Negative rs)
negative_writable [] w = tt
negative_writable (r ∷ rs) w = grind (arith, (negative_writable rs w.1))

module _ (z : ZoneContents) (w : Writable z.records) where
  rrset_writable : (n : DomainName) (t : ℕ) → Writable (rrset z n t)
  rrset_writable n t = of_type_writable t (at z n) (at_writable z n w)

  -- the outcome of the last name sought
  record Right (o : Outcome) : Type 0 where
    rcode : o.rcode < 16
    answers : AllByRecursion (Stood answer) o.answers
    authorities : AllByRecursion (Stood authority) o.authorities

  negative_right : (rcode : ℕ) → rcode < 16 → Right (negative z rcode)
  negative_right rcode low = search (rules, item_stood, negative_writable, rrset_writable)

  asked_stood : (t : ℕ) (rs : List ResourceRecord)
      → Writable rs → AllByRecursion (Stood answer) (item answer (asked_records t rs))
  asked_stood t rs v = grind (arith, of_type_writable)

  answer_from_right : (t : ℕ) (rs : List ResourceRecord)
      → Writable rs → Right (outcome_by z t None (Some rs))
  answer_from_right t rs v =
      go (follows_alias t && has_any (of_type type_cname rs)) (has_any (asked_records t rs))
    where
      go : (b c : Bool) → Right (cond b (positive [])
          (cond c (positive (item answer (asked_records t rs))) (negative z no_error)))
      go true c = record { rcode = omega arith; answers = tt; authorities = tt }
      go false true = record { rcode = omega arith; answers = asked_stood t rs v; authorities = tt }
      go false false = negative_right no_error (omega arith)

  outcome_at_right : (t : ℕ) (s : DomainName) → Named s → Right (outcome_at z t s)
  unfolding outcome_at
  outcome_at_right t s h = go (cut_of z s) (found z s) refl refl
    where
      go : (x : Option DomainName) (y : Option (List ResourceRecord))
          → cut_of z s ≡ x → found z s ≡ y → Right (outcome_by z t x y)
      go (Some c) y e f = record {
        rcode = omega arith;
        answers = tt;
        authorities = item_stood authority (with_owner c (rrset z c type_ns)) (with_owner_writable c
            (rrset z c type_ns) (named_cut z s c h e) (rrset_writable c type_ns));
      }
      go None None e f = negative_right name_error (omega arith)
      go None (Some rs) e f = answer_from_right t rs (found_writable z w s rs h f)

  alias_items_stood : (q : DomainName) (t : ℕ) → Named q
      → AllByRecursion (Stood answer) (alias_items z q t)
  alias_items_stood q t h = go (follows_alias t)
    where
      go : (b : Bool) → AllByRecursion
          (Stood answer) (cond b (flat_map (λ s. item answer (alias_set z s)) (chain z q t)) [])
      go true = each_flat_map (Stood answer) Named (λ s. item answer (alias_set z s))
          (chain z q t) (λ s n. item_stood answer (alias_set z s) (alias_set_writable z w s n))
          (chain_named z q t h)
      go false = tt

  outcome_right : (q : DomainName) (t : ℕ) → Named q → Right (outcome z q t)
  unfolding outcome
  outcome_right q t h =
      let s = last_sought z q t in
      let o = outcome_at_right t s (last_named z w q (chain z q t) h (chain_named z q t h)) in
      record {
        rcode = o.rcode;
        answers = grind (arith, each_append, alias_items_stood);
        authorities = o.authorities;
      }

  extra_stood : (earlier : List Item) (ms : List DomainName)
      → AllByRecursion (Stood additional) (extra z earlier ms)
  unfolding extra
  extra_stood earlier [] = tt
  extra_stood earlier (m ∷ ms) =
      grind (arith, rrset_writable, (extra_stood (earlier ++ (address_sets z earlier m)) ms))

-- sets in the order of their sections
abbrev Ordered : List Item → Type 0
Ordered [] = Unit {0}
Ordered (i ∷ is) =
    AllByRecursion (λ (j : Item). section_rank i.section ≤ section_rank j.section) is × Ordered is

ordered_take : (k : ℕ) (is : List Item) → Ordered is → Ordered (take k is)
ordered_take zero is o = tt
ordered_take (suc k) [] o = tt
ordered_take (suc k) (i ∷ is) o = grind (arith, each_take, (ordered_take k is o.1))

abbrev NotBefore : Section → Item → Type 0
NotBefore s j = section_rank s ≤ section_rank j.section

not_before : (s s' : Section) (js : List Item)
    → section_rank s ≤ section_rank s' → AllByRecursion (Stood s') js
    → AllByRecursion (NotBefore s) js
not_before s s' [] h g = tt
not_before s s' (j ∷ js) h g = grind (arith, (not_before s s' js h g.1))

-- sets of one section in front of sets of that section or of later sections are in order
ordered_front : (s : Section) (xs ys : List Item)
    → AllByRecursion (Stood s) xs → AllByRecursion (NotBefore s) ys → Ordered ys
    → Ordered (xs ++ ys)
ordered_front s [] ys e f o = o
ordered_front s (x ∷ xs) ys e f o = (
  subst (λ r. AllByRecursion (NotBefore r) (xs ++ ys)) (sym e.0.0) (each_append
      (NotBefore s) xs ys (not_before s s xs (omega arith) e.1) f),
  ordered_front s xs ys e.1 f o,
)

ordered_one : (s : Section) (is : List Item) → AllByRecursion (Stood s) is → Ordered is
ordered_one s is e = subst Ordered (append-nil is) (ordered_front s is [] e tt tt)

tested : (i : Item) (is : List Item)
    → AllByRecursion (λ (j : Item). section_rank i.section ≤ section_rank j.section) is
    → list_all (λ (j : Item). nat_le (section_rank i.section) (section_rank j.section)) is ≡ true
tested i [] e = refl
tested i (j ∷ js) e = grind (arith, and_from, le-leb, (tested i js e.1))

in_order : (is : List Item) → Ordered is → sections_in_order is ≡ true
in_order [] o = refl
in_order (i ∷ is) o = cc (tested i is o.0, in_order is o.1)

stood_records : (s : Section) (is : List Item)
    → AllByRecursion (Stood s) is → AllByRecursion (λ (i : Item). Writable i.records) is
stood_records s [] e = tt
stood_records s (i ∷ is) e = (e.0.1, stood_records s is e.1)

records_writable : (is : List Item)
    → AllByRecursion (λ (i : Item). Writable i.records) is → Writable (records_of is)
records_writable [] e = tt
records_writable (i ∷ is) e = grind (arith, each_append, (records_writable is e.1))

module _ (z : ZoneContents)
    (w : All IsWritable z.records) (q : DomainName) (t : ℕ) (h : is_name q ≡ true) where
  fits : Writable z.records
  fits = recursion_from_All IsWritable z.records w

  pub outcome_rcode : (outcome z q t).rcode < 16
  outcome_rcode = (outcome_right z fits q t h).rcode

  -- The sets of an answer are in the order of their sections, and their records fit a message.
  items_stood : Ordered (items z q t)
      × AllByRecursion (λ (i : Item). Writable i.records) (items z q t)
  unfolding items
  items_stood =
      let o = outcome z q t in
      let r = outcome_right z fits q t h in
      let more = extra z (main_items o) (targets o) in
      let e = extra_stood z fits (main_items o) (targets o) in
      let later : Ordered (o.authorities ++ more) =
      ordered_front authority o.authorities more r.authorities
      (not_before authority additional more (omega arith) e) (ordered_one additional more e) in
      let all : Ordered (o.answers ++ (o.authorities ++ more)) =
      ordered_front answer o.answers (o.authorities ++ more) r.answers
      (each_append (NotBefore answer) o.authorities more (not_before answer authority o.authorities
      (omega arith) r.authorities) (not_before answer additional more (omega arith) e)) later in
      let W : Item → Type 0 = λ (i : Item). Writable i.records in (
        subst Ordered (sym (append_assoc o.answers o.authorities more)) all,
        each_append W (main_items o) more
            (each_append W o.answers o.authorities (stood_records answer o.answers r.answers)
            (stood_records authority o.authorities r.authorities))
            (stood_records additional more e),
      )

  -- A prefix of the sets is in the order of the sections, and its records fit a message.
  pub items_in_order : (k : ℕ) → sections_in_order (take k (items z q t)) ≡ true
  items_in_order k = grind (arith, in_order, ordered_take, items_stood)

  pub items_writable : (k : ℕ) → All IsWritable (records_of (take k (items z q t)))
  items_writable k =
      All-from_recursion IsWritable (records_of (take k (items z q t)))
      (records_writable (take k (items z q t))
      (each_take (λ (i : Item). Writable i.records) k (items z q t) items_stood.1))
