-- Which RRsets answer a question: the names sought one after another along aliases, the five cases
-- for the last of these names, the additional addresses, and the sets that are required.
use Rattle.std.specs.Prelude.{ℕ, zero, suc, ◌+◌, ◌-◌, ◌*◌, min, sum, Bool, true, false, ◌&&◌, ◌||◌, not, List, [], ◌∷◌, ◌++◌, map, length, ◌==◌, if◌then◌else◌}
use Rattle.std.specs.Prelude.{Option, None, Some}
use Rattle.std.specs.Option.{option_map, option_and_then, is_some, unwrap_or, option_to_list}
use Rattle.std.specs.List.{list_any, filter, filter_map, flat_map}
use Rattle.dns_spec.specs.Names.{DomainName, same, at_or_below}
use Rattle.dns_spec.specs.Data.{type_a, type_ns, type_cname, type_soa, type_mx, type_aaaa, type_srv, qtype_any, target, soa_minimum}
use Rattle.dns_spec.specs.Records.{ResourceRecord, ZoneContents, rrset, of_type, with_owner}
use Rattle.dns_spec.specs.Sets.{of_lowest_type}
use Rattle.dns_spec.specs.Tree.{cut_of, found}
use Rattle.dns_spec.specs.Reading.{no_error, name_error}
use Rattle.dns_spec.specs.Layout.{Section, answer, authority, additional, Item, records_of}

-- an RRset as an item of the section; no item if the RRset has no records
abbrev pub item : Section → List ResourceRecord → List Item
item s [] = []
item s (r ∷ rs) = record { section = s; records = r ∷ rs } ∷ []

-- RFC 1034 4.3.2 step 3a: an alias is followed, unless the question asks for CNAME or for all
-- types
abbrev pub follows_alias : ℕ → Bool
follows_alias t = not (t == type_cname || t == qtype_any)

-- the CNAME set found for a name; empty if the name is at or below a cut
abbrev pub alias_set : ZoneContents → DomainName → List ResourceRecord
alias_set z s =
    if is_some (cut_of z s) then [] else unwrap_or (option_map (of_type type_cname) (found z s)) []

-- the target of the first record
abbrev pub first_target : List ResourceRecord → Option DomainName
first_target [] = None
first_target (r ∷ rs) = target r.rtype r.rdata

-- RFC 1034 4.3.2 step 3a: the name sought after s: the target of the alias at s, if that target is
-- at or below the origin and not yet in `sought`
abbrev pub next_sought : ZoneContents → List DomainName → DomainName → Option DomainName
next_sought z sought s =
    option_and_then
    (λ m. if at_or_below m z.origin && not (list_any (same m) sought) then Some m else None)
    (first_target (alias_set z s))

-- the names sought from s on: s and the targets of at most k aliases; `sought` contains the names
-- sought before s
unfoldable pub chain_from : ZoneContents → ℕ → List DomainName → DomainName → List DomainName
chain_from z zero sought s = s ∷ []
chain_from z (suc k) sought s =
    s ∷ elim (next_sought z (s ∷ sought) s) [ None ↦ [] | Some m ↦ chain_from z k (s ∷ sought) m ]

-- the most aliases that are followed, a limit of this project
abbrev pub most_aliases : ℕ
most_aliases = 16

-- The names sought for a question, the QNAME first.
unfoldable pub chain : ZoneContents → DomainName → ℕ → List DomainName
chain z q t = if follows_alias t then chain_from z most_aliases [] q else q ∷ []

-- the last name of the list, or s if the list is empty
abbrev pub last_of : DomainName → List DomainName → DomainName
last_of s [] = s
last_of s (m ∷ ms) = last_of m ms

-- the last name sought
abbrev pub last_sought : ZoneContents → DomainName → ℕ → DomainName
last_sought z q t = last_of q (chain z q t)

-- the CNAME sets of the names sought; none if aliases are not followed
abbrev pub alias_items : ZoneContents → DomainName → ℕ → List Item
alias_items z q t =
    if follows_alias t then flat_map (λ s. item answer (alias_set z s)) (chain z q t) else []

-- The outcome of a question: the RCODE, the cut if it is a referral, and the sets of the answer and
-- authority sections.
pub record Outcome : Type 0 where
  pub rcode : ℕ
  pub referral : Option DomainName
  pub answers : List Item
  pub authorities : List Item

-- RFC 2308 sections 3 and 5: the SOA of a negative answer, with the lesser of its TTL and its
-- MINIMUM as TTL
abbrev pub negative_soa : ZoneContents → List Item
negative_soa z =
    item authority
    (map (λ (r : ResourceRecord). record r { ttl = min r.ttl (soa_minimum r.rdata) })
    (rrset z z.origin type_soa))

-- The records that a question for type t asks for, of the records rs of a name. RFC 8482 4.1: a
-- question for all types gets one RRset, in this product the one with the lowest type number.
abbrev pub asked_records : ℕ → List ResourceRecord → List ResourceRecord
asked_records t rs = if t == qtype_any then of_lowest_type rs else of_type t rs

-- a referral to the cut, with the NS set of the cut (RFC 1034 4.3.2 step 3b)
abbrev pub referral_to : ZoneContents → DomainName → Outcome
referral_to z c =
    record {
      rcode = no_error;
      referral = Some c;
      answers = [];
      authorities = item authority (with_owner c (rrset z c type_ns));
    }

-- a negative answer, with the SOA (RFC 2308 sections 2 and 3)
abbrev pub negative : ZoneContents → ℕ → Outcome
negative z rcode =
    record { rcode = rcode; referral = None; answers = []; authorities = negative_soa z }

-- an answer with these sets
abbrev pub positive : List Item → Outcome
positive sets = record { rcode = no_error; referral = None; answers = sets; authorities = [] }

-- the list is not empty
abbrev pub has_any : {X : Type 0} → List X → Bool
has_any [] = false
has_any (x ∷ xs) = true

-- RFC 1034 4.3.2 step 3: the outcome for a name, by its cut and the records found for it. Five
-- cases are tried in order: the name is at or below a cut; the name is not found; the name is an
-- alias, at which the chain ends; the name has records of the type asked for; the name has no such
-- records.
abbrev pub outcome_by : ZoneContents → ℕ → Option DomainName → Option (List ResourceRecord)
    → Outcome
outcome_by z t (Some c) found = referral_to z c
outcome_by z t None None = negative z name_error
outcome_by z t None (Some rs) =
    if follows_alias t && has_any (of_type type_cname rs) then positive []
    else if has_any (asked_records t rs) then positive (item answer (asked_records t rs))
    else negative z no_error

-- the outcome for the name s
unfoldable pub outcome_at : ZoneContents → ℕ → DomainName → Outcome
outcome_at z t s = outcome_by z t (cut_of z s) (found z s)

-- The outcome of a question: that of the last name sought (also its RCODE, RFC 2308 section 2.1),
-- with the CNAME sets of the aliases in front of its answer.
unfoldable pub outcome : ZoneContents → DomainName → ℕ → Outcome
outcome z q t =
    let o = outcome_at z t (last_sought z q t) in
    record o { answers = alias_items z q t ++ o.answers }

-- RFC 1035 4.1.1: AA is set, unless the reply is a referral without answers
abbrev pub is_authoritative : Outcome → Bool
is_authoritative o = not (is_some o.referral && length o.answers == 0)

-- RFC 1035 3.3.9 and 3.3.11, RFC 2782: the record is an NS, MX or SRV record, so the addresses of
-- its target are additional data
abbrev pub has_target_type : ResourceRecord → Bool
has_target_type r = r.rtype == type_ns || r.rtype == type_mx || r.rtype == type_srv

-- the targets of the NS, MX and SRV records in the sets
abbrev pub targets_of : List Item → List DomainName
targets_of items =
    filter_map (λ (r : ResourceRecord). if has_target_type r then target r.rtype r.rdata else None)
    (records_of items)

-- RFC 9471 section 2.1: in a referral, the targets of the NS set that are at or below the cut,
-- whose addresses are the glue; and the other targets of that set. Without a referral, both are
-- empty.
abbrev pub targets_inside : Outcome → List DomainName
targets_inside o =
    flat_map (λ c. filter (λ m. at_or_below m c) (targets_of o.authorities))
    (option_to_list o.referral)

abbrev pub targets_outside : Outcome → List DomainName
targets_outside o =
    flat_map (λ c. filter (λ m. not (at_or_below m c)) (targets_of o.authorities))
    (option_to_list o.referral)

-- The targets, in order. In a referral, the targets at or below the cut come first: without their
-- addresses a client can't continue (RFC 1034 4.3.2 step 3b, RFC 9471 section 3.1).
abbrev pub targets : Outcome → List DomainName
targets o = targets_of o.answers ++ targets_inside o ++ targets_outside o

-- one of the sets has owner n and type t
abbrev pub has_set : DomainName → ℕ → List Item → Bool
has_set n t items =
    list_any (λ (r : ResourceRecord). same r.owner n && r.rtype == t) (records_of items)

-- the additional set of name n and type t; no set if `earlier` has it already
abbrev pub address_set : ZoneContents → List Item → DomainName → ℕ → List Item
address_set z earlier n t = if has_set n t earlier then [] else item additional (rrset z n t)

-- the additional A and AAAA sets of name n, except those that `earlier` has
abbrev pub address_sets : ZoneContents → List Item → DomainName → List Item
address_sets z earlier n = address_set z earlier n type_a ++ address_set z earlier n type_aaaa

-- RFC 1034 4.3.2 step 6: the address sets of the targets, except those that are in the reply
-- already. Targets below a cut get addresses too; wildcards are not used.
unfoldable pub extra : ZoneContents → List Item → List DomainName → List Item
extra z earlier [] = []
extra z earlier (m ∷ ms) =
    let sets = address_sets z earlier m in
    sets ++ extra z (earlier ++ sets) ms

-- the sets of the answer and authority sections
abbrev pub main_items : Outcome → List Item
main_items o = o.answers ++ o.authorities

-- All sets for a question, in order: answer, authority, additional.
unfoldable pub items : ZoneContents → DomainName → ℕ → List Item
items z q t =
    let o = outcome z q t in
    main_items o ++ extra z (main_items o) (targets o)

-- The sets without which a reply has to set TC: answer, authority, and the glue of a referral (RFC
-- 2181 section 9, RFC 9471 section 3.1). They are a prefix of `items`: the answer to a referral has
-- only CNAME sets, which give no targets, so the targets at or below the cut come first.
unfoldable pub required_items : ZoneContents → DomainName → ℕ → List Item
required_items z q t =
    let o = outcome z q t in
    main_items o ++ extra z (main_items o) (targets_inside o)

-- the number of nodes on the path to a name: the origin, and one node for each label below it
abbrev pub nodes_to : ZoneContents → DomainName → ℕ
nodes_to z n = 1 + (length n - length z.origin)

-- the targets at or below the origin: only these can have addresses in the zone
abbrev pub targets_in_zone : ZoneContents → List DomainName → List DomainName
targets_in_zone z ms = filter (λ m. at_or_below m z.origin) ms

-- The most nodes that an answer visits: all nodes on the paths to the names of the chain and to
-- the targets at or below the origin.
abbrev pub most_visits : ZoneContents → DomainName → ℕ → ℕ
most_visits z q t =
    sum (map (nodes_to z) (chain z q t))
    + sum (map (nodes_to z) (targets_in_zone z (targets (outcome z q t))))

-- The most names that an answer looks up: the names of the chain, and the targets.
abbrev pub names_looked_up : ZoneContents → DomainName → ℕ → ℕ
names_looked_up z q t = length (chain z q t) + length (targets (outcome z q t))

-- the most label comparisons of one binary search among a node's children: a node has at most
-- 100,000 children, fewer than 2 ^ 17
abbrev pub most_of_a_search : ℕ
most_of_a_search = 17

-- The most label comparisons of an answer that visits `visits` nodes: one binary search for each
-- child that is looked up, found or not. For each name of the chain at most two children are not
-- found, the next label and the wildcard, and for each target at most one.
abbrev pub most_comparisons : ZoneContents → DomainName → ℕ → ℕ → ℕ
most_comparisons z q t visits =
    most_of_a_search
    * (visits + 2 * length (chain z q t) + length (targets (outcome z q t)))
