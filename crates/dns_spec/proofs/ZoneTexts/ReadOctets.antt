-- What the words of a text spell are octets below 256, if the origin's octets are.
use Rattle.dns_spec.proofs.Common.{◌≡◌, ℕ, ◌+◌, ◌*◌, ◌<◌, inl, inr, Bool, true, false, cond, ◌&&◌, nat_lt, Option, Some, None, List, [], ◌∷◌, ◌++◌, map, length, refl, sym, subst, arith, flat_map, agree_below_at, and_parts, ltb-true, length-map, none-some, same_Some, MatchOption, MatchBool, option_map, list_all, is_ascii_hexdigit, digit_value, to_ascii_lowercase, bytes_high_first, Octets, DomainName, wire, is_label, folded, SpellsOctet, LabelThen, TextSpells, SpellsName, Part, part_octets, joined, part_folded, SaysIpv6, ipv6_groups, Word, SpellsString, Field, SaysFields, word_fields_of, SaysTyped, hex_octets, SaysUnknown, is_unknown_mark, SaysAsSpelled, Says, parts, AllByRecursion, recursion_from_All}
use Rattle.dns_spec.proofs.DataWords.NumberAgain.{bytes_below}
use Rattle.dns_spec.proofs.DataWords.LoweredData.{joined-parts}
use Rattle.dns_spec.proofs.General.Truths.{follows}
use Rattle.dns_spec.proofs.General.Elements.{each_append, each_front, each_back}

abbrev pub Octet : ℕ → Type 0
Octet o = o < 256

abbrev pub SmallName : DomainName → Type 0
SmallName = AllByRecursion (AllByRecursion Octet)

abbrev pub SmallWord : Word → Type 0
SmallWord w = AllByRecursion Octet w.raw

-- names
octet_small : (text : Octets) (x : ℕ) → SpellsOctet text x → AllByRecursion Octet text → Octet x
octet_small text x h h1 = grind arith

label_small : (text l rest : Octets)
    → LabelThen text l rest → AllByRecursion Octet text
    → AllByRecursion Octet l × AllByRecursion Octet rest
label_small text [] rest h small = (tt, subst (AllByRecursion Octet) h small)
label_small text (x ∷ l) rest (first, others, cut, spelled, h) small =
    let both : AllByRecursion Octet (first ++ others) = subst (AllByRecursion Octet) cut small in
    let after = label_small others l rest h (each_back Octet first others both) in
    ((octet_small first x spelled (each_front Octet first others both), after.0), after.1)

labels_small : (origin : DomainName) (text : Octets) (n : DomainName)
    → SmallName origin → TextSpells origin text n → AllByRecursion Octet text → SmallName n
labels_small origin text [] from h small = tt
labels_small origin text (l ∷ n) from (inl (last, is)) small = grind (arith, label_small)
labels_small origin text (l ∷ n) from (inr (others, first, h)) small =
    let both = label_small text l (46 ∷ others) first small in
    (both.0, labels_small origin others n from h both.1.1)

pub name_small : (origin : DomainName) (text : Octets) (n : DomainName)
    → SmallName origin → AllByRecursion Octet text → SpellsName origin text n → SmallName n
name_small origin text n from small h = grind (arith, inl, inr, labels_small)

label_folded_small : (l : Octets) → AllByRecursion Octet l
    → AllByRecursion Octet (map to_ascii_lowercase l)
label_folded_small [] small = tt
label_folded_small (o ∷ l) small = grind (arith, ltb-true, (label_folded_small l small.1))

pub folded_small : (n : DomainName) → SmallName n → SmallName (folded n)
folded_small [] small = tt
folded_small (l ∷ n) small = (label_folded_small l small.0, folded_small n small.1)

-- data
wire_small : (n : DomainName) → list_all is_label n ≡ true → SmallName n
    → AllByRecursion Octet (wire n)
wire_small [] ok small = let root : 0 < 256 = omega arith in (root, tt)
wire_small (l ∷ n) ok small =
    let rest = wire_small n (and_parts (is_label l) (list_all is_label n) ok).1 small.1 in
    grind (arith, each_append, rest)

string_small : (text s : Octets) → SpellsString text s → AllByRecursion Octet text
    → AllByRecursion Octet s
string_small text [] h small = tt
string_small text (x ∷ s) (first, others, cut, spelled, h) small =
    grind (
      arith,
      string_small others s h (each_back Octet first others (subst (AllByRecursion Octet) cut small)),
    )

tested_small : (d : Octets) → list_all (λ x. nat_lt x 256) d ≡ true → AllByRecursion Octet d
tested_small [] ok = tt
tested_small (o ∷ d) ok = let both = and_parts (nat_lt o 256) (list_all (λ x. nat_lt x 256) d) ok in
    (ltb-true o 256 both.0, tested_small d both.1)

groups_small : (gs : List ℕ) → AllByRecursion Octet (flat_map (bytes_high_first 2) gs)
groups_small [] = tt
groups_small (g ∷ gs) = grind (arith, (groups_small gs))

ipv6_small : (text d : Octets) → SaysIpv6 text d → AllByRecursion Octet d
ipv6_small text d said = go (ipv6_groups text) said
  where
    go : (gs : Option (List ℕ))
        → option_map (flat_map (bytes_high_first 2)) gs ≡ Some d → AllByRecursion Octet d
    go None e = absurd (none-some d e)
    go (Some gs) e = grind (arith, groups_small)

forms_small : (fs : List Field) (origin : DomainName) (ws : List Word) (d : Octets)
    → SmallName origin → AllByRecursion SmallWord ws → SaysFields fs origin ws d
    → AllByRecursion Octet d
forms_small [] origin [] d from small h = subst (AllByRecursion Octet) (sym h) tt
forms_small [] origin (w ∷ ws) d from small h = absurd h
forms_small (f ∷ fs) origin [] d from small h = absurd h
forms_small (f ∷ fs) origin (w ∷ ws) d from small (front, back, is, said, h) =
    grind (
      arith,
      each_append,
      recursion_from_All,
      bytes_below,
      tested_small,
      ipv6_small,
      wire_small,
      name_small,
      string_small,
      (forms_small fs origin ws back from small.1 h),
    )

typed_small : (t : ℕ) (origin : DomainName) (ws : List Word) (d : Octets)
    → SmallName origin → AllByRecursion SmallWord ws → SaysTyped t origin ws d
    → AllByRecursion Octet d
typed_small t origin ws d from small said = go (word_fields_of t (length ws)) said
  where
    go : (forms : Option (List Field))
        → MatchOption forms ⊥ (λ fs. SaysFields fs origin ws d) → AllByRecursion Octet d
    go None none = absurd none
    go (Some fs) h = forms_small fs origin ws d from small h

hex_value_small : (c : ℕ) → Octet c → is_ascii_hexdigit c ≡ true → digit_value c < 16
hex_value_small c small hex = grind (arith, ltb-true, follows, agree_below_at)

hex_small : (text d : Octets) → AllByRecursion Octet text → hex_octets text ≡ Some d
    → AllByRecursion Octet d
unfolding hex_octets
hex_small [] d small e = subst (AllByRecursion Octet) (same_Some [] d e) tt
hex_small (h ∷ []) d small e = absurd (none-some d e)
hex_small (h ∷ l ∷ text) d small e = go (is_ascii_hexdigit h && is_ascii_hexdigit l) refl
    (hex_octets text) refl e (λ y r. hex_small text y small.1.1 r)
  where
    go : (t : Bool) → (is_ascii_hexdigit h && is_ascii_hexdigit l) ≡ t → (x : Option Octets)
        → hex_octets text ≡ x → cond t (option_map (λ y. (16 * digit_value h + digit_value l) ∷ y)
        x) None ≡ Some d → ((y : Octets) → hex_octets text ≡ Some y → AllByRecursion Octet y)
        → AllByRecursion Octet d
    go false q x r e rest = absurd (none-some d e)
    go true q None r e rest = absurd (none-some d e)
    go true q (Some y) r e rest = grind (arith, and_parts, hex_value_small, same_Some)

raws_small : (ws : List Word) → AllByRecursion SmallWord ws
    → AllByRecursion Octet (flat_map (λ (w : Word). w.raw) ws)
raws_small [] small = tt
raws_small (w ∷ ws) small = grind (arith, each_append, (raws_small ws small.1))

unknown_small : (ws : List Word) (d : Octets) → AllByRecursion SmallWord ws → SaysUnknown ws d
    → AllByRecursion Octet d
unknown_small ws d h h1 = grind (arith, hex_small, raws_small)

wire_folded_small : (n : DomainName) → AllByRecursion Octet (wire n)
    → AllByRecursion Octet (wire (folded n))
wire_folded_small [] small = small
wire_folded_small (l ∷ n) small =
    let rest = wire_folded_small n (each_back Octet l (wire n) small.1) in
    grind (arith, length-map, each_append, label_folded_small, each_front, rest)

parts_folded_small : (xs : List Part)
    → AllByRecursion Octet (joined xs) → AllByRecursion Octet (joined (map part_folded xs))
parts_folded_small [] small = tt
parts_folded_small (x ∷ xs) small =
    let rest = parts_folded_small xs (each_back Octet (part_octets x) (joined xs) small) in
    grind (arith, each_append, wire_folded_small, each_front, rest)

spelled_small : (t : ℕ) (origin : DomainName) (ws : List Word) (d : Octets)
    → SmallName origin → AllByRecursion SmallWord ws → SaysAsSpelled t origin ws d
    → AllByRecursion Octet d
spelled_small t origin [] d from small h = typed_small t origin [] d from small h
spelled_small t origin (w ∷ ws) d from small h = go (is_unknown_mark w) h
  where
    go : (marked : Bool) → MatchBool marked (SaysUnknown ws d) (SaysTyped t origin (w ∷ ws) d)
        → AllByRecursion Octet d
    go true said = unknown_small ws d small.1 said
    go false said = typed_small t origin (w ∷ ws) d from small said

pub data_small : (t : ℕ) (origin : DomainName) (ws : List Word) (d : Octets)
    → SmallName origin → AllByRecursion SmallWord ws → Says t ws origin d → AllByRecursion Octet d
data_small t origin ws d from small h =
    let spelled = spelled_small t origin ws h.as_spelled from small h.said in
    let whole = subst (AllByRecursion Octet) (sym (joined-parts t h.as_spelled)) spelled in
    subst (AllByRecursion Octet) h.lower (parts_folded_small (parts t h.as_spelled) whole)
