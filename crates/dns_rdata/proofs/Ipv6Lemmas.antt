-- Groups of an IPv6 address, read from left to right.
use Rattle.dns_rdata.proofs.Common.{◌≡◌, ℕ, ◌+◌, ◌-◌, ◌*◌, ◌^◌, ◌<◌, ◌≤◌, Bool, true, false, ◌&&◌, List, [], ◌∷◌, ◌++◌, length, take, drop, get_or, replicate, nat_lt, nat_le, refl, sym, ◌∙◌, ap, subst, arith, length-append, length-drop, option_map, option_and_then, list_all, slice_split, position_or_len, flat_map, bytes_high_first, OnTrue, is_ascii_hexdigit, digit_value, digits_value, and_from, true≢false, false≢true, eq-eqb, le-leb, lt-leb, ltb-true, ltb-false, le-ltb, leb-false, and_parts, eqb-true, same_Some, none-some, cond_some, option_and_then_some, Octets, Option, Some, None, if◌then◌else◌, position, MatchOption, append_assoc, length-replicate, list_all_more, slice_split_first, digits_value_more, pow-le-pow_right, pow-suc, add-one, is_group, group_values, groups_said, around_gap, filled_groups, eight_groups, groups_by, ipv6_groups, ipv6_octets, SaysIpv6, digit_of, few_groups}
use Rattle.dns_spec.proofs.Common.{none-some, same_Some}
use Rattle.dns_spec.proofs.DataWords.GroupsAgain.{is_colon, with_front}

-- an octet that is a hex digit, and one that is not
digit_is : (c v : ℕ) → Some v ≡ digit_of c → (is_ascii_hexdigit c ≡ true) × (v ≡ digit_value c)
digit_is c v e = grind (arith, same_Some, none-some)

-- the first i octets of a text are hex digits, and `value` is what they spell
pub record GroupSoFar (text : Octets) (i value : ℕ) : Type 0 where
  pub hex : list_all is_ascii_hexdigit (take i text) ≡ true
  pub value_is : value ≡ digits_value 16 (take i text)
  pub bound : value < 16 ^ i

pub GroupSoFar-small : (text : Octets) (i value : ℕ)
    → GroupSoFar text i value → i < length text → length text ≤ 4 → value < 4096
GroupSoFar-small text i value so_far inside short = grind (arith, pow-le-pow_right)

pub GroupSoFar-push : (text : Octets) (i value v : ℕ) → GroupSoFar text i value → i < length text
    → Some v ≡ digit_of (get_or text i 0) → v < 16 → GroupSoFar text (i + 1) (value * 16 + v)
GroupSoFar-push text i value v so_far inside e small =
    let digit = digit_is (get_or text i 0) v e in
    record {
      hex = list_all_more is_ascii_hexdigit text i 0 inside ∙ and_from _ _ so_far.hex digit.0;
      value_is = omega
          (arith, digits_value_more 16 text i inside, digit.1, ap (λ n. n * 16) so_far.value_is);
      bound = let step : 16 ^ (i + 1) ≡ 16 ^ i * 16 =
          rw (add-one i) (pow-suc 16 i) in omega (arith, so_far.bound, step);
    }

-- eight groups one by one
pub eight : (gs : List ℕ) → length gs ≡ 8 → gs ≡ get_or gs 0 0 ∷ get_or gs 1 0 ∷ get_or
    gs 2 0 ∷ get_or gs 3 0 ∷ get_or gs 4 0 ∷ get_or gs 5 0 ∷ get_or gs 6 0 ∷ get_or gs 7 0 ∷ []
eight (a ∷ b ∷ c ∷ d ∷ f ∷ g ∷ h ∷ k ∷ []) e = refl
eight [] e = absurd (omega (arith, e))
eight (a ∷ []) e = absurd (omega (arith, e))
eight (a ∷ b ∷ []) e = absurd (omega (arith, e))
eight (a ∷ b ∷ c ∷ []) e = absurd (omega (arith, e))
eight (a ∷ b ∷ c ∷ d ∷ []) e = absurd (omega (arith, e))
eight (a ∷ b ∷ c ∷ d ∷ f ∷ []) e = absurd (omega (arith, e))
eight (a ∷ b ∷ c ∷ d ∷ f ∷ g ∷ []) e = absurd (omega (arith, e))
eight (a ∷ b ∷ c ∷ d ∷ f ∷ g ∷ h ∷ []) e = absurd (omega (arith, e))
eight (a ∷ b ∷ c ∷ d ∷ f ∷ g ∷ h ∷ k ∷ l ∷ gs) e = absurd (omega (arith, e))

pub eight_octets : (gs a b c d f g h k : List ℕ) → length gs ≡ 8 → a ≡ bytes_high_first 2 (get_or
    gs 0 0) → b ≡ bytes_high_first 2 (get_or gs 1 0) → c ≡ bytes_high_first 2 (get_or gs 2 0)
    → d ≡ bytes_high_first 2 (get_or gs 3 0) → f ≡ bytes_high_first 2 (get_or gs 4 0)
    → g ≡ bytes_high_first 2 (get_or gs 5 0) → h ≡ bytes_high_first 2 (get_or gs 6 0) → k
    ≡ bytes_high_first 2 (get_or gs 7 0) → Some (get_or a 0 0 ∷ get_or a 1 0 ∷ get_or b 0 0 ∷ get_or
    b 1 0 ∷ get_or c 0 0 ∷ get_or c 1 0 ∷ get_or d 0 0 ∷ get_or d 1 0 ∷ get_or f 0 0 ∷ get_or f 1 0
    ∷ get_or g 0 0 ∷ get_or g 1 0 ∷ get_or h 0 0 ∷ get_or h 1 0 ∷ get_or k 0 0 ∷ get_or k 1 0 ∷ [])
    ≡ option_map (flat_map (bytes_high_first 2)) (eight_groups gs)
eight_octets gs a b c d f g h k four ea eb ec ed ef eg eh ek = grind (arith, eight)

-- no gap begins before this index
pub record GapSoFar (text : Octets) (index : ℕ) : Type 0 where
  pub inside : index ≤ length text
  pub whole : around_gap text
      ≡ option_map (with_front (take index text)) (around_gap (drop index text))

pub GapSoFar-end : (text : Octets) (index : ℕ)
    → GapSoFar text index → length text ≤ index + 1 → around_gap text ≡ None
GapSoFar-end text index so_far end = so_far.whole ∙ ap (option_map (with_front (take index text)))
    (short (drop index text) (omega (arith, length-drop index text)))
  where
    short : (t : Octets) → length t ≤ 1 → around_gap t ≡ None
    short [] h = refl
    short (c ∷ []) h = refl
    short (c ∷ d ∷ t) h = absurd (omega (arith, h))

abbrev one_or_more : Octets → Option (List ℕ)
one_or_more text = group_values (slice_split is_colon text)

abbrev group_then : Octets → Option (List ℕ) → Option (List ℕ)
group_then text after =
    if is_group text then option_map (λ gs. digits_value 16 text ∷ gs) after else None

one_or_more-said : (text : Octets) → (length text ≡ 0 → ⊥) → groups_said text ≡ one_or_more text
one_or_more-said text h = grind arith

first_group : (text : Octets) (end : ℕ) → Some end ≡ position is_colon text
    → one_or_more text ≡ group_then (take end text) (one_or_more (drop (end + 1) text))
first_group text end e = grind (arith, same_Some, ltb-true, none-some, slice_split_first)

one_part : (p : ℕ → Bool) (text : Octets)
    → length text ≤ position_or_len p text → slice_split p text ≡ text ∷ []
one_part p [] h = refl
one_part p (x ∷ text) h = grind (arith, (one_part p text))

last_group : (text : Octets)
    → None ≡ position is_colon text → one_or_more text ≡ group_then text (Some [])
last_group text e = grind (arith, none-some, one_part, ltb-false)

-- the groups read so far, followed by those of `rest`, are the groups of the text
pub record GroupsSoFar (text : Octets) (groups : List ℕ) (rest : Octets) : Type 0 where
  pub whole : one_or_more text ≡ option_map (λ gs. groups ++ gs) (one_or_more rest)
  pub few : length groups ≤ 8

abbrev pub Pushes : Octets → List ℕ → List ℕ → Bool → Type 0
Pushes text old new pushed = (pushed ≡ (is_group text && nat_lt (length old) 8))
    × OnTrue pushed (new ≡ old ++ digits_value 16 text ∷ [])

pushed_group : (text : Octets) (old new : List ℕ) → Pushes text old new true
    → (is_group text ≡ true) × (length old < 8) × (new ≡ old ++ digits_value 16 text ∷ [])
pushed_group text old new (fits, value) = grind (arith, and_parts, ltb-true)

joined_groups : (old gs : List ℕ) (v : ℕ) (o : Option (List ℕ)) → option_map
    (λ gs. old ++ gs) (option_map (λ gs. v ∷ gs) o) ≡ option_map (λ gs. (old ++ v ∷ []) ++ gs) o
joined_groups old gs v o = grind (arith, append_assoc)

pub GroupsSoFar-push : (text rest first : Octets) (old new : List ℕ) (end : ℕ)
    → GroupsSoFar text old rest → Some end ≡ position is_colon rest
    → first ≡ take end rest → Pushes first old new true → GroupsSoFar text new (drop (end + 1) rest)
GroupsSoFar-push text rest first old new end so_far e first_is pushes =
    let pushed = pushed_group first old new pushes in
    let is_one : is_group (take end rest) ≡ true = ap is_group (sym first_is) ∙ pushed.0 in
    let after = one_or_more (drop (end + 1) rest) in
    let read : one_or_more rest ≡ option_map (λ gs. digits_value 16 first ∷ gs) after =
    first_group rest end e ∙ rw (sym first_is, pushed.0) refl in
    let P : List ℕ → Type 0 = λ n. one_or_more text ≡ option_map (λ gs. n ++ gs) after in
    record {
      whole = subst P (sym pushed.2) (so_far.whole ∙ ap (option_map (λ gs. old ++ gs)) read
          ∙ joined_groups old [] (digits_value 16 first) after);
      few = omega
          (arith, ap length pushed.2, length-append old (digits_value 16 first ∷ []), pushed.1);
    }

-- if no group is next, or eight groups were read before it, the text does not spell up to eight
-- groups
refused_groups : (text : Octets) (old : List ℕ) (first : Octets) (after : Option (List ℕ))
    → one_or_more text ≡ option_map (λ gs. old ++ gs) (group_then first after) → false ≡ (is_group
    first && nat_lt (length old) 8) → None ≡ option_and_then few_groups (one_or_more text)
refused_groups text old first after whole refused = grind (arith, length-append, lt-leb, ltb-false)

pub refused_before_colon : (text rest first : Octets) (old new : List ℕ) (end : ℕ) → GroupsSoFar
    text old rest → (length text ≡ 0 → ⊥) → Some end ≡ position is_colon rest → first ≡ take
    end rest → Pushes first old new false → None ≡ option_and_then few_groups (groups_said text)
refused_before_colon text rest first old new end so_far more e first_is pushes =
    refused_groups text old first (one_or_more (drop (end + 1) rest))
    (so_far.whole ∙ ap (option_map (λ gs. old ++ gs)) (first_group rest end e
    ∙ ap (λ t. group_then t (one_or_more (drop (end + 1) rest))) (sym first_is))) pushes.0
    ∙ ap (option_and_then few_groups) (sym (one_or_more-said text more))

pub refused_last : (text rest : Octets) (old new : List ℕ)
    → GroupsSoFar text old rest → (length text ≡ 0 → ⊥) → None ≡ position is_colon rest
    → Pushes rest old new false → None ≡ option_and_then few_groups (groups_said text)
refused_last text rest old new so_far more e pushes =
    refused_groups text old rest
    (Some []) (so_far.whole ∙ ap (option_map (λ gs. old ++ gs)) (last_group rest e)) pushes.0
    ∙ ap (option_and_then few_groups) (sym (one_or_more-said text more))

pub all_groups : (text rest : Octets) (old new : List ℕ)
    → GroupsSoFar text old rest → (length text ≡ 0 → ⊥) → None ≡ position is_colon rest
    → Pushes rest old new true → Some new ≡ option_and_then few_groups (groups_said text)
all_groups text rest old new so_far more e pushes =
    let pushed = pushed_group rest old new pushes in
    let last : one_or_more rest ≡ Some (digits_value 16 rest ∷ []) =
    last_group rest e ∙ rw pushed.0 refl in
    let whole : groups_said text ≡ Some new = one_or_more-said text more
    ∙ so_far.whole ∙ ap (option_map (λ gs. old ++ gs)) last ∙ ap (λ k. Some k) (sym pushed.2) in
    let room : nat_le (length new) 8 ≡ true = le-leb _ _ (omega
    (arith, ap length pushed.2, length-append old (digits_value 16 rest ∷ []), pushed.1)) in
    let few : few_groups new ≡ Some new = rw room refl in
    sym (ap (option_and_then few_groups) whole ∙ few)

-- the groups so far are those in front, followed by zero groups; the groups in `back` still fit
-- after them
pub record FilledSoFar (old groups back : List ℕ) : Type 0 where
  pub zeros : groups ≡ old ++ replicate (length groups - length old) 0
  pub grown : length old ≤ length groups
  pub room : length groups + length back ≤ 8

-- `few_groups` refuses more than eight groups
few_none : (o : List ℕ) → None ≡ few_groups o → 8 < length o
few_none o e = grind (arith, none-some, leb-false)

pub all_said : (gs : List ℕ) (o : Option (List ℕ))
    → Some gs ≡ option_and_then few_groups o → o ≡ Some gs
all_said gs o h = grind (arith, none-some, same_Some)

abbrev octets_of : Option (List ℕ) → Option Octets
octets_of = option_map (flat_map (bytes_high_first 2))

by_gap : (word : Octets) (r : Option (Octets × Octets))
    → around_gap word ≡ r → ipv6_octets word ≡ octets_of (groups_by word r)
unfolding ipv6_groups
by_gap word r e = ap (λ g. octets_of (groups_by word g)) e

pub refused_whole : (word : Octets) → around_gap word ≡ None
    → None ≡ option_and_then few_groups (groups_said word) → ipv6_octets word ≡ None
refused_whole word gap e = by_gap word None gap ∙ ap octets_of (not_eight (groups_said word) e)
  where
    not_eight : (o : Option (List ℕ))
        → None ≡ option_and_then few_groups o → option_and_then eight_groups o ≡ None
    not_eight None e = refl
    not_eight (Some gs) e = grind arith

pub whole_word : (word : Octets) (gs : List ℕ) (r : Option Octets)
    → around_gap word ≡ None → Some gs ≡ option_and_then few_groups (groups_said word)
    → r ≡ octets_of (eight_groups gs) → r ≡ ipv6_octets word
whole_word word gs r gap e f =
    f ∙ ap (λ o. octets_of (option_and_then eight_groups o))
    (sym (all_said gs (groups_said word) e)) ∙ sym (by_gap word None gap)

too_long : (front back : List ℕ) → 8 ≤ length front + length back → filled_groups front back ≡ None
too_long front back long = grind arith

pub refused_front : (word front back : Octets) → around_gap word ≡ Some (front, back)
    → None ≡ option_and_then few_groups (groups_said front) → ipv6_octets word ≡ None
refused_front word front back gap e = by_gap word (Some (front, back)) gap
    ∙ ap octets_of (none_filled (groups_said front) e (groups_said back))
  where
    none_filled : (o : Option (List ℕ)) → None ≡ option_and_then few_groups o → (b : Option
        (List ℕ)) → option_and_then (λ f. option_and_then (filled_groups f) b) o ≡ None
    none_filled None e b = refl
    none_filled (Some gs) e None = refl
    none_filled (Some gs) e (Some hs) = too_long gs hs (omega (arith, few_none gs e))

pub refused_back : (word front back : Octets) (gs : List ℕ) → around_gap word ≡ Some (front, back)
    → Some gs ≡ option_and_then few_groups (groups_said front)
    → None ≡ option_and_then few_groups (groups_said back) → ipv6_octets word ≡ None
refused_back word front back gs gap e f =
    by_gap word (Some (front, back)) gap
    ∙ ap (λ o. octets_of
    (option_and_then (λ k. option_and_then (filled_groups k) (groups_said back)) o))
    (all_said gs (groups_said front) e) ∙ ap octets_of (none_filled (groups_said back) f)
  where
    none_filled : (o : Option (List ℕ))
        → None ≡ option_and_then few_groups o → option_and_then (filled_groups gs) o ≡ None
    none_filled None f = refl
    none_filled (Some hs) f = too_long gs hs (omega (arith, few_none hs f))

around : (word front back : Octets) (gs hs : List ℕ) → around_gap word ≡ Some (front, back)
    → Some gs ≡ option_and_then few_groups (groups_said front) → Some hs ≡ option_and_then
    few_groups (groups_said back) → ipv6_octets word ≡ octets_of (filled_groups gs hs)
around word front back gs hs gap e f =
    by_gap word (Some (front, back)) gap
    ∙ ap (λ o. octets_of (option_and_then (λ k. option_and_then
    (filled_groups k) (groups_said back)) o)) (all_said gs (groups_said front) e) ∙ ap
    (λ o. octets_of (option_and_then (filled_groups gs) o)) (all_said hs (groups_said back) f)

-- what `fill` returns
abbrev pub Fills : List ℕ → List ℕ → Bool → List ℕ → Type 0
Fills old back filled new =
    MatchOption (filled_groups old back) (filled ≡ false) (λ gs. (filled ≡ true) × (new ≡ gs))

pub refused_sum : (word front back : Octets) (gs hs new : List ℕ)
    → around_gap word ≡ Some (front, back) → Some gs ≡ option_and_then few_groups
    (groups_said front) → Some hs ≡ option_and_then few_groups (groups_said back)
    → Fills gs hs false new → ipv6_octets word ≡ None
refused_sum word front back gs hs new gap e f fills =
    around word front back gs hs gap e f ∙ ap octets_of (by_cases (filled_groups gs hs) fills)
  where
    by_cases : (o : Option (List ℕ))
        → MatchOption o (false ≡ false) (λ gs. (false ≡ true) × (new ≡ gs)) → o ≡ None
    by_cases None h = refl
    by_cases (Some k) h = absurd (false≢true h.0)

eight_filled : (front back : List ℕ) (filling : ℕ) → filling ≡ 8 - (length front + length back)
    → length front + length back < 8 → length ((front ++ replicate filling 0) ++ back) ≡ 8
eight_filled front back filling count room = grind (arith, length-append, length-replicate)

pub filled_word : (word front back : Octets) (gs hs new : List ℕ) (r : Option Octets)
    → around_gap word ≡ Some (front, back) → Some gs ≡ option_and_then few_groups
    (groups_said front) → Some hs ≡ option_and_then few_groups (groups_said back)
    → Fills gs hs true new → r ≡ octets_of (eight_groups new) → r ≡ ipv6_octets word
filled_word word front back gs hs new r gap e f fills g =
    grind (arith, around, eq-eqb, eight_filled, ltb-true, true≢false)

-- the address that a text spells has 16 octets
pub length-ipv6 : (text d : Octets) → SaysIpv6 text d → length d ≡ 16
unfolding ipv6_groups
length-ipv6 text d h =
    octets_said
    (groups_by text (around_gap text)) h (λ gs e. groups_eight text (around_gap text) gs e)
  where
    octets_said : (o : Option (List ℕ)) → option_map (flat_map (bytes_high_first 2)) o ≡ Some d
        → ((gs : List ℕ) → o ≡ Some gs → length gs ≡ 8) → length d ≡ 16
    octets_said None e long = absurd (none-some d e)
    octets_said (Some gs) e long = cc (eight gs (long gs refl))

    eight_said : (gs hs : List ℕ) → eight_groups gs ≡ Some hs → length hs ≡ 8
    eight_said gs hs e = grind (arith, cond_some, eqb-true)

    filled_said : (front back hs : List ℕ) → filled_groups front back ≡ Some hs → length hs ≡ 8
    filled_said front back hs e = grind (arith, cond_some, eight_filled, ltb-true)

    groups_eight : (text : Octets) (gap : Option (Octets × Octets)) (hs : List ℕ)
        → groups_by text gap ≡ Some hs → length hs ≡ 8
    groups_eight text None hs e = grind (arith, eight_said)
    groups_eight text (Some r) hs e =
        option_and_then_some (λ front. option_and_then (filled_groups front) (groups_said r.1))
        (groups_said r.0) hs e (λ front said f. option_and_then_some
        (filled_groups front) (groups_said r.1) hs f (λ back said. filled_said front back hs))
