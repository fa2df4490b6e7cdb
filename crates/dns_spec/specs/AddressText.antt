-- Addresses in zone files: which address a text spells, and how an address is written.
use Rattle.std.specs.Prelude.{◌≡◌, ℕ, ◌+◌, ◌-◌, ◌*◌, Bool, ◌&&◌, List, [], ◌∷◌, ◌++◌, map, length, take, drop, replicate, max, false, nat_lt, nat_le, ◌==◌, IsTrue, if◌then◌else◌, decimal, fold}
use Rattle.std.specs.Prelude.{Option, None, Some}
use Rattle.std.specs.Option.{option_map, option_and_then}
use Rattle.std.specs.List.{list_all, flat_map, join_with_byte, slice_split, prefix_len, position_or_len}
use Rattle.std.specs.Int.{bytes_high_first}
use Rattle.std.specs.Char.{is_ascii_hexdigit}
use Rattle.std.specs.Str.Parse.{digits_value}
use Rattle.std.specs.Fmt.{digits}
use Rattle.dns_spec.specs.Names.{Octets}

-- RFC 1035 3.4.1: the octets in decimal, separated by dots
abbrev pub ipv4_text : Octets → Octets
ipv4_text d = join_with_byte 46 (map decimal d)

-- RFC 1035 3.4.1: the text spells the address d: four numbers from 0 to 255, without leading zeros
-- (in this product), so that each address has one spelling
pub record SaysIpv4 (text d : Octets) : Type 0 where
  pub four : length d ≡ 4
  pub octets : IsTrue (list_all (λ x. nat_lt x 256) d)
  pub spelled : text ≡ ipv4_text d

-- RFC 4291 2.2: a group is 1 to 4 hex digits of either case
abbrev pub is_group : Octets → Bool
is_group text = nat_lt 0 (length text) && nat_le (length text) 4 && list_all is_ascii_hexdigit text

-- the values of the texts, if all of them are groups
abbrev pub group_values : List Octets → Option (List ℕ)
group_values [] = Some []
group_values (text ∷ texts) =
    if is_group text
    then option_map (λ gs. digits_value 16 text ∷ gs) (group_values texts) else None

-- the values of a text's groups, which are separated by colons; an empty text has no groups
abbrev pub groups_said : Octets → Option (List ℕ)
groups_said [] = Some []
groups_said (c ∷ text) = group_values (slice_split (λ o. o == 58) (c ∷ text))

-- the text before the first `::`, and the text after it
abbrev pub around_gap : Octets → Option (Octets × Octets)
around_gap [] = None
around_gap (c ∷ []) = None
around_gap (c ∷ d ∷ text) =
    if c == 58 && d == 58 then Some ([], text)
    else option_map (λ r. (c ∷ r.0, r.1)) (around_gap (d ∷ text))

-- the groups, if there are eight
abbrev pub eight_groups : List ℕ → Option (List ℕ)
eight_groups gs = if length gs == 8 then Some gs else None

-- eight groups: `front`, at least one zero group in place of `::`, and `back`
abbrev pub filled_groups : List ℕ → List ℕ → Option (List ℕ)
filled_groups front back =
    if nat_lt (length front + length back) 8
    then Some (front ++ replicate (8 - (length front + length back)) 0 ++ back) else None

-- RFC 4291 2.2, forms 1 and 2: eight groups, or fewer with one `::` for the zero groups that are
-- left out. A second `::` is invalid, since it leaves an empty group. Form 3, with an IPv4 address
-- at the end, is not read (in this product).
abbrev pub groups_by : Octets → Option (Octets × Octets) → Option (List ℕ)
groups_by text None = option_and_then eight_groups (groups_said text)
groups_by text (Some r) =
    option_and_then
    (λ front. option_and_then (filled_groups front) (groups_said r.1))
    (groups_said r.0)

unfoldable pub ipv6_groups : Octets → Option (List ℕ)
ipv6_groups text = groups_by text (around_gap text)

-- RFC 3596 2.2: each group is two octets, the high octet first
abbrev pub ipv6_octets : Octets → Option Octets
ipv6_octets text = option_map (flat_map (bytes_high_first 2)) (ipv6_groups text)

-- the text spells the octets of an address
abbrev pub SaysIpv6 : Octets → Octets → Type 0
SaysIpv6 text d = ipv6_octets text ≡ Some d

-- the groups that the octets of an address encode
abbrev pub groups_of : Octets → List ℕ
groups_of [] = []
groups_of (h ∷ []) = []
groups_of (h ∷ l ∷ d) = (256 * h + l) ∷ groups_of d

-- RFC 5952 4.1 and 4.3: groups in lower case, without leading zeros, separated by colons
abbrev pub groups_text : List ℕ → Octets
groups_text gs = join_with_byte 58 (map (digits 16 false) gs)

-- for each index, the length of the run of zero groups that begins there; and the length of the
-- longest such run
abbrev pub zero_runs : List ℕ → List ℕ
zero_runs [] = []
zero_runs (g ∷ gs) = prefix_len (λ n. n == 0) (g ∷ gs) ∷ zero_runs gs

abbrev pub longest_run : List ℕ → ℕ
longest_run gs = fold max 0 (zero_runs gs)

-- the index at which the longest run begins, or the first of the longest runs if there are several
abbrev pub longest_place : List ℕ → ℕ
longest_place gs = position_or_len (λ k. k == longest_run gs) (zero_runs gs)

-- RFC 5952 4.2: `::` replaces the longest run of at least two zero groups, or the first of the
-- longest runs if there are several
abbrev pub ipv6_text : Octets → Octets
ipv6_text d =
    let gs = groups_of d in
    if nat_lt (longest_run gs) 2 then groups_text gs
    else groups_text (take (longest_place gs) gs)
    ++ 58 ∷ 58 ∷ groups_text (drop (longest_place gs + longest_run gs) gs)
