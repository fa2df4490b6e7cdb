-- Data of a type, written without compression, is read back as data of that type.
use Rattle.dns_spec.proofs.Common.{common_steps, and_parts, leb-true, not-true, eqb-false, false≢true, none-some, same_Some, cond_some, some_pair_parts, length-take-le, Octets, DomainName, wire, is_name, class_in, Field, number, ipv4, ipv6, domain, string, strings, anything, Part, octets, name, are_strings, octets_front, strings_front, field_front, cut, valid, data_at, fields_at, field_at, ◌≡◌, ℕ, suc, ◌+◌, ◌<◌, true, List, [], ◌∷◌, ◌++◌, length, take, Some, refl, sym, ap, ◌∙◌, subst, arith, append-nil, length-append, take-append-drop, add-zero, part_octets, eq-eqb, le-leb, ◌≢◌}
use Rattle.dns_spec.proofs.DomainNames.WireNames.{name_read}
use Rattle.dns_spec.proofs.DataWords.MadeData.{cut-domain, cut-octets}
use Rattle.dns_spec.proofs.Messages.Sections.{fields_more}
use Rattle.dns_spec.proofs.Messages.Places.{Stands, stands_front, stands_rest, stands_within, name_written, stands_own}

-- data that is cut into parts begins with the part of its first field
pub record CutInto (p : Field) (ps : List Field) (os : Octets) (xs : List Part) : Type 0 where
  pub part : Part
  pub rest : Octets
  pub others : List Part
  pub front : field_front p os ≡ Some (part, rest)
  pub more : cut ps rest ≡ Some others
  pub whole : part ∷ others ≡ xs

pub cut_into : (p : Field) (ps : List Field) (os : Octets) (xs : List Part)
    → cut (p ∷ ps) os ≡ Some xs → CutInto p ps os xs
unfolding cut
cut_into p ps os xs h = grind (arith, none-some, same_Some)

-- the part of a domain name
pub name_part : (os rest : Octets) (part : Part) → field_front domain os ≡ Some (part, rest)
    → (n : DomainName) × (name n ≡ part) × (is_name n ≡ true) × (os ≡ wire n ++ rest)
name_part os rest part h = grind (arith, none-some, some_pair_parts, name_read)

pub octets_part : (k : ℕ) (os rest : Octets) (part : Part)
    → octets_front k os ≡ Some (part, rest) → octets (take k os) ≡ part
octets_part k os rest part h = grind (arith, cond_some)

pub front_taken : (k : ℕ) (os : Octets) (part : Part) (rest : Octets)
    → octets_front k os ≡ Some (part, rest) → (os ≡ take k os ++ rest) × (length (take k os) ≡ k)
front_taken k os part rest h = grind (arith, cond_some, take-append-drop, length-take-le, leb-true)

pub all_strings : (os rest : Octets) (part : Part) → strings_front os ≡ Some (part, rest)
    → (0 < length os) × (are_strings 0 os ≡ true) × (octets os ≡ part) × (rest ≡ [])
all_strings os rest part h = grind (arith, cond_some, and_parts, eqb-false, not-true)

-- a part and the octets after it are all the octets
run_whole : (k : ℕ) (os : Octets) (part : Part) (rest : Octets)
    → octets_front k os ≡ Some (part, rest) → os ≡ part_octets part ++ rest
run_whole k os part rest h = grind (arith, front_taken, octets_part)

pub field_whole : (p : Field) (os : Octets) (part : Part) (rest : Octets)
    → field_front p os ≡ Some (part, rest) → os ≡ part_octets part ++ rest
field_whole (number k) os part rest h = run_whole k os part rest h
field_whole ipv4 os part rest h = run_whole 4 os part rest h
field_whole ipv6 os part rest h = run_whole 16 os part rest h
field_whole domain os part rest h = grind (arith, name_part)
field_whole string [] part rest h = absurd (none-some (part, rest) h)
field_whole string (k ∷ os) part rest h = grind (arith, common_steps, front_taken, octets_part)
field_whole strings os part rest h = grind (arith, all_strings, append-nil)
field_whole anything os part rest h = grind (arith, same_Some, append-nil)

-- A field that is read in front of `rest` is also read in front of `other`, if `other` is empty
-- whenever `rest` is.
run_again : (k : ℕ) (os : Octets) (part : Part) (rest other : Octets) → octets_front k os
    ≡ Some (part, rest) → octets_front k (part_octets part ++ other) ≡ Some (part, other)
run_again k os part rest other h = grind (arith, octets_part, front_taken, cut-octets)

pub field_again : (p : Field) (os : Octets) (part : Part) (rest other : Octets)
    → field_front p os ≡ Some (part, rest) → (rest ≡ [] → other ≡ [])
    → field_front p (part_octets part ++ other) ≡ Some (part, other)
field_again (number k) os part rest other h none = run_again k os part rest other h
field_again ipv4 os part rest other h none = run_again 4 os part rest other h
field_again ipv6 os part rest other h none = run_again 16 os part rest other h
field_again domain os part rest other h none = grind (arith, name_part, cut-domain)
field_again string [] part rest other h none = absurd (none-some (part, rest) h)
field_again string (k ∷ os) part rest other h none =
    grind (arith, run_again (suc k) (k ∷ os) (octets (k ∷ take k os)) rest other)
field_again strings os part rest other h none =
    grind (arith, all_strings os rest part h, append-nil os)
field_again anything os part rest other h none = grind (arith, same_Some, append-nil)

-- the part of any field other than a name is a run of octets
pub octets_field : (p : Field) (os rest : Octets) (part : Part)
    → p ≢ domain → field_front p os ≡ Some (part, rest) → octets (part_octets part) ≡ part
octets_field p os rest (octets o) other front = refl
octets_field p os rest (name n) other front =
    grind (arith, octets_part, none-some, all_strings, same_Some)

-- A field is read where it is written, and so are fields one after another.
field_written : {b : Octets} {i : ℕ} (p : Field) (os : Octets) (part : Part) (rest : Octets)
    → field_front p os ≡ Some (part, rest) → Stands b i os → Stands b i (part_octets part)
    → length os ≡ length (part_octets part) + length rest
    → field_at b p i (i + length os) ≡ Some (part_octets part, i + length (part_octets part))
field_written {b} {i} domain os part rest front at here long = grind (arith, name_written)
field_written {b} {i} p os part rest front at here long = search (arith, stands_own)

pub fields_written : {b : Octets} (ps : List Field) (os : Octets) (xs : List Part) (i : ℕ)
    → cut ps os ≡ Some xs → Stands b i os → fields_at b ps i (i + length os) ≡ Some os
unfolding cut fields_at
fields_written [] [] xs i h at = grind (arith, eq-eqb, add-zero)
fields_written [] (o ∷ os) xs i h at = absurd (none-some xs h)
fields_written {b} (p ∷ ps) os xs i h at =
    let c = cut_into p ps os xs h in
    let x = part_octets c.part in
    let whole = field_whole p os c.part c.rest c.front in
    let both : Stands b i (x ++ c.rest) = subst (Stands b i) whole at in
    let long : length os ≡ length x + length c.rest = ap length whole ∙ length-append x c.rest in
    let others = subst (λ e. fields_at b ps (i + length x) e ≡ Some c.rest) (omega (arith, long))
    (fields_written ps c.rest c.others (i + length x) c.more (stands_rest x c.rest both)) in
    fields_more b p ps i (i + length x) (i + length os) x c.rest
    (field_written p os c.part c.rest c.front at (stands_front x c.rest both) long) others
    ∙ ap Some (sym whole)

-- Valid data of class IN, written as it is, is read back.
pub data_written : {b : Octets} {i : ℕ} (t : ℕ) (d : Octets)
    → valid t d ≡ true → Stands b i d → data_at b t class_in i (i + length d) ≡ Some d
data_written {b} {i} t d h at =
    grind (arith, common_steps, stands_within, and_parts, false≢true, fields_written, le-leb)
