-- Words spell at most one data of a type.
use Rattle.dns_spec.proofs.Common.{◌≡◌, ℕ, zero, suc, ◌<◌, ◌≤◌, Bool, true, false, nat_le, List, [], ◌∷◌, ◌++◌, length, replicate, Option, Some, None, refl, sym, ◌∙◌, ap, ap₂, arith, decimal, MatchBool, list_all, option_map, AllDigits, pow-le-pow_right, and_parts, and_from, leb-true, ltb-true, none-some, same_Some, subst, decimal_is_IsNumeral, decimal_injective, digit_from_value, Octets, DomainName, wire, Field, TypeRow, type_table, row_of, SaysIpv4, Word, number, ipv4, ipv6, domain, string, SaysNumber, SaysField, SaysFields, word_fields, word_fields_of, SaysTyped, SaysUnknown, SaysAsSpelled, is_unknown_mark, Says, MatchOption, ◌==◌, strings, anything}
use Rattle.dns_spec.proofs.NameTexts.OneName.{name_once, string_once}
use Rattle.dns_spec.proofs.General.Tests.{entry_passes}

-- numbers of at most 32 bits
pub number_once : (k : ℕ) (text d e : Octets)
    → k ≤ 4 → SaysNumber k text d → SaysNumber k text e → d ≡ e
number_once k text d e few (n, small, said, is) (m, small', said', is') =
    grind (arith, pow-le-pow_right, decimal_injective)

-- if a text begins with digits and a dot, these digits and the octets after the dot are determined
digits_end : (ds es rest others : Octets) → AllDigits 10 ds
    → AllDigits 10 es → ds ++ 46 ∷ rest ≡ es ++ 46 ∷ others → (ds ≡ es) × (rest ≡ others)
digits_end [] [] rest others h k e = (refl, cc)
digits_end [] (c ∷ es) rest others h (digit, k) e = grind (arith, digit_from_value)
digits_end (c ∷ ds) [] rest others (digit, h) k e = grind (arith, digit_from_value)
digits_end (c ∷ ds) (b ∷ es) rest others (digit, h) (digit', k) e =
    grind (arith, (digits_end ds es rest others h k (cc (e))))

-- a text begins with at most one number in decimal that a dot follows
pub number_then_dot : (a b : ℕ) (rest others : Octets) → a < 256
    → b < 256 → decimal a ++ 46 ∷ rest ≡ decimal b ++ 46 ∷ others → (a ≡ b) × (rest ≡ others)
number_then_dot a b rest others small small' e =
    let numeral = decimal_is_IsNumeral a (omega (arith, small)) in
    let numeral' = decimal_is_IsNumeral b (omega (arith, small')) in
    let parts = digits_end (decimal a) (decimal b) rest others numeral.0.1 numeral'.0.1 e in
    (decimal_injective a b (omega (arith, small)) (omega (arith, small')) parts.0, parts.1)

-- an address is four numbers
pub record FourNumbers (text d : Octets) : Type 0 where
  pub first : ℕ
  pub second : ℕ
  pub third : ℕ
  pub fourth : ℕ
  pub is : d ≡ first ∷ second ∷ third ∷ fourth ∷ []
  pub first_small : first < 256
  pub second_small : second < 256
  pub third_small : third < 256
  pub fourth_small : fourth < 256
  pub spelled : text
      ≡ decimal first ++ 46 ∷ (decimal second ++ 46 ∷ (decimal third ++ 46 ∷ decimal fourth))

pub four_numbers : (text d : Octets) → SaysIpv4 text d → FourNumbers text d
four_numbers text [] h = absurd (omega (arith, h.four))
four_numbers text (a ∷ []) h = absurd (omega (arith, h.four))
four_numbers text (a ∷ b ∷ []) h = absurd (omega (arith, h.four))
four_numbers text (a ∷ b ∷ c ∷ []) h = absurd (omega (arith, h.four))
four_numbers text (a ∷ b ∷ c ∷ e ∷ []) h = grind (arith, and_parts, ltb-true)
four_numbers text (a ∷ b ∷ c ∷ e ∷ f ∷ d) h = absurd (omega (arith, h.four))

pub ipv4_once : (text d e : Octets) → SaysIpv4 text d → SaysIpv4 text e → d ≡ e
ipv4_once text d e h k =
    let p = four_numbers text d h in
    let q = four_numbers text e k in
    let one = number_then_dot p.first q.first _ _ p.first_small q.first_small
    (sym p.spelled ∙ q.spelled) in
    let two = number_then_dot p.second q.second _ _ p.second_small q.second_small one.1 in
    let three = number_then_dot p.third q.third _ _ p.third_small q.third_small two.1 in
    let small = p.fourth_small in
    let small' = q.fourth_small in
    let four = decimal_injective p.fourth q.fourth
    (omega (arith, small)) (omega (arith, small')) three.1 in cc

-- a field as in the table, in which numbers have at most 32 bits
pub is_narrow : Field → Bool
is_narrow (number k) = nat_le k 4
is_narrow _ = true

pub form_once : (f : Field) (origin : DomainName) (text d e : Octets)
    → is_narrow f ≡ true → SaysField f origin text d → SaysField f origin text e → d ≡ e
unfolding is_narrow
form_once (number k) origin text d e narrow h h' = search (number_once, leb-true)
form_once ipv4 origin text d e narrow h h' = ipv4_once text d e h h'
form_once ipv6 origin text d e narrow h h' = grind (arith, same_Some)
form_once domain origin text d e narrow (n, spelled, is) (m, spelled', is') =
    is ∙ ap wire (name_once origin text n m spelled spelled') ∙ sym is'
form_once string origin text d e narrow h h' = grind (arith, string_once)
form_once strings origin text d e narrow h h' = grind (arith, string_once)
form_once anything origin text d e narrow h h' = absurd h

forms_once : (fs : List Field) (origin : DomainName) (ws : List Word) (d e : Octets)
    → list_all is_narrow fs ≡ true → SaysFields fs origin ws d → SaysFields fs origin ws e → d ≡ e
forms_once [] origin [] d e narrow h k = h ∙ sym k
forms_once [] origin (w ∷ ws) d e narrow h k = absurd h
forms_once (f ∷ fs) origin [] d e narrow h k = absurd h
forms_once
    (f ∷ fs) origin (w ∷ ws) d e narrow (front, back, is, said, h) (front', back', is', said', k) =
    let parts = and_parts (is_narrow f) _ narrow in
    is ∙ ap₂ ◌++◌ (form_once f origin w.raw front front' parts.0 said.said said'.said)
    (forms_once fs origin ws back back' parts.1 h k) ∙ sym is'

all_alike : (p : Field → Bool) (k : ℕ) (f : Field)
    → p f ≡ true → list_all p (replicate k f) ≡ true
all_alike p zero f h = refl
all_alike p (suc k) f h = and_from _ _ h (all_alike p k f h)

narrow_words : (k : ℕ) (fs : List Field)
    → list_all is_narrow fs ≡ true → list_all is_narrow (word_fields k fs) ≡ true
unfolding is_narrow
narrow_words k fs h = grind (arith, all_alike)

-- in the fields that words of data have to spell, numbers have at most 32 bits
pub narrow_fields : (t k : ℕ) (fs : List Field)
    → word_fields_of t k ≡ Some fs → list_all is_narrow fs ≡ true
unfolding is_narrow
narrow_fields t k fs e = by_row (row_of t) refl e
  where
    by_row : (o : Option TypeRow) → row_of t ≡ o
        → option_map (λ (row : TypeRow). word_fields k row.fields) o ≡ Some fs
        → list_all is_narrow fs ≡ true
    by_row None is e = absurd (none-some fs e)
    by_row (Some row) is e = subst (λ fs. list_all is_narrow fs ≡ true) (same_Some _ fs e)
        (narrow_words k row.fields (entry_passes (λ (row : TypeRow). row.number == t)
        (λ (row : TypeRow). list_all is_narrow row.fields) type_table row is refl))

typed_once : (t : ℕ) (origin : DomainName) (ws : List Word) (d e : Octets)
    → SaysTyped t origin ws d → SaysTyped t origin ws e → d ≡ e
typed_once t origin ws d e h k = by_fields (word_fields_of t (length ws)) refl h k
  where
    Typed : Option (List Field) → Octets → Type 0
    Typed o x = MatchOption o ⊥ (λ fs. SaysFields fs origin ws x)

    by_fields : (o : Option (List Field)) → word_fields_of t (length ws) ≡ o → Typed o d
        → Typed o e → d ≡ e
    by_fields None is h k = absurd h
    by_fields (Some fs) is h k = search (forms_once, narrow_fields)

pub unknown_once : (ws : List Word) (d e : Octets) → SaysUnknown ws d → SaysUnknown ws e → d ≡ e
unknown_once ws d e h h1 = grind arith

as_spelled_once : (t : ℕ) (origin : DomainName) (ws : List Word) (d e : Octets)
    → SaysAsSpelled t origin ws d → SaysAsSpelled t origin ws e → d ≡ e
as_spelled_once t origin [] d e h k = typed_once t origin [] d e h k
as_spelled_once t origin (w ∷ ws) d e h k = by_mark (is_unknown_mark w) h k
  where
    Spelled : Bool → Octets → Type 0
    Spelled b x = MatchBool b (SaysUnknown ws x) (SaysTyped t origin (w ∷ ws) x)

    by_mark : (b : Bool) → Spelled b d → Spelled b e → d ≡ e
    by_mark true h k = unknown_once ws d e h k
    by_mark false h k = typed_once t origin (w ∷ ws) d e h k

pub data_once : (t : ℕ) (ws : List Word) (origin : DomainName) (d e : Octets)
    → Says t ws origin d → Says t ws origin e → d ≡ e
data_once t ws origin d e h k = grind (arith, as_spelled_once)
