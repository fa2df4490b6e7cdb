-- Groups that are written with colons between them are read as those groups again, and their text
-- contains no `::`.
use Rattle.dns_spec.proofs.Common.{◌≡◌, ℕ, zero, suc, ◌/◌, ◌%◌, ◌<◌, ◌≤◌, inl, inr, Bool, true, false, ◌&&◌, ◌==◌, All, Option, None, Some, List, [], ◌∷◌, ◌++◌, map, length, nat_lt, nat_le, refl, sym, ◌∙◌, ap, subst, arith, append_assoc, append-nil, agree_below_at, and_from, lt-ltb, le-leb, cases_lt, option_map, list_all, slice_split, is_ascii_hexdigit, digit_char, digits, Octets, digits_is_IsNumeral, slice_split_none, slice_split_at, is_group, group_values, groups_said, around_gap, groups_text, AllByRecursion}
use Rattle.dns_spec.proofs.DataWords.GroupDigits.{one_digit, two_digits, three_of, four_of}
use Rattle.dns_spec.proofs.DataWords.HexAgain.{hex_digit}

abbrev pub is_colon : ℕ → Bool
is_colon o = o == 58

-- the text of a group is one to four digits
pub record OfDigits (text : Octets) : Type 0 where
  pub first : ℕ
  pub others : List ℕ
  pub spelled : text ≡ map digit_char (first ∷ others)
  pub few : length others ≤ 3
  pub below : AllByRecursion (λ d. d < 16) (first ∷ others)

pub group_digits : (g : ℕ) → g < 65536 → OfDigits (digits 16 false g)
group_digits g small =
    elim (cases_lt g 16) [
      | inl one ↦ record {
        first = g;
        others = [];
        spelled = one_digit g one;
        few = omega arith;
        below = (one, tt);
      }
      | inr more ↦ elim (cases_lt g 256) [
        | inl two ↦ record {
          first = g / 16;
          others = g % 16 ∷ [];
          spelled = two_digits g more two;
          few = omega arith;
          below = (omega arith, (omega arith, tt));
        }
        | inr beyond ↦ elim (cases_lt g 4096) [
          | inl three ↦ record {
            first = g / 16 / 16 % 16;
            others = g / 16 % 16 ∷ g % 16 ∷ [];
            spelled = three_of g beyond three;
            few = omega arith;
            below = (omega arith, (omega arith, (omega arith, tt)));
          }
          | inr four ↦ record {
            first = g / 16 / 16 / 16 % 16;
            others = g / 16 / 16 % 16 ∷ g / 16 % 16 ∷ g % 16 ∷ [];
            spelled = four_of g four small;
            few = omega arith;
            below = (omega arith, (omega arith, (omega arith, (omega arith, tt))));
          }
        ]
      ]
    ]

all_hex : (ds : List ℕ)
    → AllByRecursion (λ d. d < 16) ds → list_all is_ascii_hexdigit (map digit_char ds) ≡ true
all_hex [] below = refl
all_hex (d ∷ ds) below = and_from _ _ (hex_digit d below.0) (all_hex ds below.1)

no_colon : (d : ℕ) → d < 16 → is_colon (digit_char d) ≡ false
no_colon d below = agree_below_at (λ e. is_colon (digit_char e)) (λ e. false) 16 d refl below

no_colons : (ds : List ℕ)
    → AllByRecursion (λ d. d < 16) ds → AllByRecursion (λ o. is_colon o ≡ false) (map digit_char ds)
no_colons [] below = tt
no_colons (d ∷ ds) below = (no_colon d below.0, no_colons ds below.1)

group_length : (ds : List ℕ) → length (map digit_char ds) ≡ length ds
group_length [] = refl
group_length (d ∷ ds) = ap suc (group_length ds)

group_text : (g : ℕ) → g < 65536 → is_group (digits 16 false g) ≡ true
group_text g small =
    let t = group_digits g small in
    let text = map digit_char (t.first ∷ t.others) in
    let long = group_length (t.first ∷ t.others) in
    let some : nat_lt 0 (length text) ≡ true = lt-ltb 0 (length text) (omega (arith, long)) in
    let few : nat_le (length text) 4 ≡ true = le-leb (length text) 4 (omega (arith, long, t.few)) in
    ap is_group t.spelled ∙ and_from (nat_lt 0 (length text) && nat_le (length text) 4) _
    (and_from _ _ some few) (all_hex (t.first ∷ t.others) t.below)

-- the text of a group has no colon
colonless : (g : ℕ) → g < 65536 → AllByRecursion (λ o. is_colon o ≡ false) (digits 16 false g)
colonless g small =
    let t = group_digits g small in
    let P : Octets → Type 0 = AllByRecursion (λ o. is_colon o ≡ false) in
    subst P (sym t.spelled) (no_colons (t.first ∷ t.others) t.below)

all_colonless : (w : Octets) → AllByRecursion (λ o. is_colon o ≡ false) w
    → All (λ o. is_colon o ≡ false) w
all_colonless [] each k d inside = absurd (omega (arith, inside))
all_colonless (o ∷ w) each zero d inside = each.0
all_colonless (o ∷ w) each (suc k) d inside = all_colonless w each.1 k d (omega (arith, inside))

-- groups are below 65,536
abbrev pub Groups : List ℕ → Type 0
Groups = AllByRecursion (λ g. g < 65536)

parts_of : (g : ℕ) (gs : List ℕ)
    → Groups (g ∷ gs) → slice_split is_colon (groups_text (g ∷ gs)) ≡ map (digits 16 false) (g ∷ gs)
parts_of g [] small = grind (arith, slice_split_none, all_colonless, colonless)
parts_of g (h ∷ gs) small =
    grind (arith, slice_split_at, all_colonless, colonless, (parts_of h gs small.1))

values_of : (gs : List ℕ) → Groups gs → group_values (map (digits 16 false) gs) ≡ Some gs
values_of [] small = refl
values_of (g ∷ gs) small = grind (arith, group_text, (values_of gs small.1), digits_is_IsNumeral)

-- the text of groups begins with an octet that is not a colon
record DigitFirst (text : Octets) : Type 0 where
  first : ℕ
  others : Octets
  whole : text ≡ first ∷ others
  is_digit : is_colon first ≡ false

digit_first : (g : ℕ) (gs : List ℕ) → Groups (g ∷ gs) → DigitFirst (groups_text (g ∷ gs))
digit_first g gs small = by_cases gs
  where
    t : OfDigits (digits 16 false g)
    t = group_digits g small.0

    by_cases : (gs : List ℕ) → DigitFirst (groups_text (g ∷ gs))
    by_cases [] = record {
      first = digit_char t.first;
      others = map digit_char t.others;
      whole = t.spelled;
      is_digit = no_colon t.first t.below.0;
    }
    by_cases (h ∷ gs) = record {
      first = digit_char t.first;
      others = map digit_char t.others ++ 58 ∷ groups_text (h ∷ gs);
      whole = ap (λ x. x ++ 58 ∷ groups_text (h ∷ gs)) t.spelled;
      is_digit = no_colon t.first t.below.0;
    }

pub groups_again : (gs : List ℕ) → Groups gs → groups_said (groups_text gs) ≡ Some gs
groups_again [] small = refl
groups_again (g ∷ gs) small = grind (arith, parts_of g gs small, values_of (g ∷ gs) small)

-- the text w in front of what is found around `::`
abbrev pub with_front : Octets → Octets × Octets → Octets × Octets
with_front w r = (w ++ r.0, r.1)

before-before : (v w : Octets) (o : Option (Octets × Octets))
    → option_map (with_front v) (option_map (with_front w) o) ≡ option_map (with_front (v ++ w)) o
before-before v w o = grind (arith, append_assoc)

past_word : (w x : Octets)
    → AllByRecursion (λ o. is_colon o ≡ false) w
    → around_gap (w ++ x) ≡ option_map (with_front w) (around_gap x)
past_word [] x none = grind arith
past_word (c ∷ w) x none = grind (arith, (past_word w x none.1))

past_groups : (g : ℕ) (gs : List ℕ) (x : Octets) → Groups (g ∷ gs) → around_gap
    (groups_text (g ∷ gs) ++ x) ≡ option_map (with_front (groups_text (g ∷ gs))) (around_gap x)
past_groups g [] x small = past_word (digits 16 false g) x (colonless g small.0)
past_groups g (h ∷ gs) x small =
    let w = digits 16 false g in
    let text = groups_text (h ∷ gs) in
    let t = digit_first h gs small.1 in
    let colon : around_gap
    (58 ∷ (text ++ x)) ≡ option_map (with_front (58 ∷ [])) (around_gap (text ++ x)) = grind arith in
    ap around_gap (append_assoc w (58 ∷ text) x)
    ∙ past_word w (58 ∷ (text ++ x)) (colonless g small.0)
    ∙ ap (option_map (with_front w))
    (colon ∙ ap (option_map (with_front (58 ∷ []))) (past_groups h gs x small.1)
    ∙ before-before (58 ∷ []) text (around_gap x)) ∙ before-before w (58 ∷ text) (around_gap x)

pub no_gap : (gs : List ℕ) → Groups gs → around_gap (groups_text gs) ≡ None
no_gap [] small = refl
no_gap (g ∷ gs) small = cc (append-nil (groups_text (g ∷ gs)), past_groups g gs [] small)

pub gap_after : (gs : List ℕ) (rest : Octets)
    → Groups gs → around_gap (groups_text gs ++ 58 ∷ 58 ∷ rest) ≡ Some (groups_text gs, rest)
gap_after [] rest small = refl
gap_after (g ∷ gs) rest small = grind (arith, past_groups, append-nil)
