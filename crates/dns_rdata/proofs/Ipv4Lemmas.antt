-- The numbers of an address are between its dots.
use Rattle.dns_rdata.proofs.Common.{◌≡◌, ◌↔◌, ℕ, [], ◌∷◌, ◌++◌, ◌+◌, ◌/◌, ◌%◌, ◌<◌, ◌≤◌, ◌⊎◌, length, refl, sym, ◌∙◌, ap, subst, arith, decimal, ne_eqb, eqb-false, lt-ltb, ltb-true, leb-true, and_from, and_parts, Octets, SaysIpv4, decimal_digit, decimal_step, decimal_injective, append-nil, Option, Some, None, four_numbers, OctetThen, number_at, none-some}
use Rattle.dns_name.specs.TextForm.{digit_at}

-- a text begins with a digit or does not
digit_or_none : (text : Octets) → (digit_at text ≡ None) ⊎ ((d : ℕ) × (rest : Octets)
    × (text ≡ (48 + d) ∷ rest) × (d < 10) × (digit_at text ≡ Some (d, rest)))
digit_or_none text = grind (arith, and_parts, leb-true)

two_places : (n : ℕ) (rest : Octets) → 10 ≤ n → n < 100
    → decimal n ++ rest ≡ (48 + n / 10) ∷ (48 + n % 10) ∷ rest
two_places n rest from upto = grind (arith, decimal_step, decimal_digit)

three_places : (n : ℕ) (rest : Octets) → 100 ≤ n → n < 1000
    → decimal n ++ rest ≡ (48 + n / 10 / 10) ∷ (48 + n / 10 % 10) ∷ (48 + n % 10) ∷ rest
three_places n rest from upto = grind (arith, decimal_step, decimal_digit)

-- the decimal text of a number is read as that number, provided that no other digit follows
number_of : (n : ℕ) (rest : Octets) → n ≤ 255 → digit_at rest ≡ None
    → number_at (decimal n ++ rest) ≡ Some (n, rest)
unfolding number_at
number_of n rest le none = grind (arith, decimal_digit, two_places, ne_eqb, three_places, lt-ltb)

-- a number, and the text after it
abbrev pub read_as : ℕ → Octets → Option (ℕ × Octets)
read_as n rest = Some (n, rest)

some_pair : {a b : ℕ} {xs ys : Octets} → read_as a xs ≡ read_as b ys → (a ≡ b) × (xs ≡ ys)
some_pair e = grind arith

not_none : {a : ℕ} {xs : Octets} → None ≡ read_as a xs → ⊥
not_none e = cc

-- the text begins with the number n, and `rest` follows
abbrev Begins : Octets → ℕ → Octets → Type 0
Begins text n rest = (text ≡ decimal n ++ rest) × (n ≤ 255)

pub number_read : (text : Octets) (n : ℕ) (rest : Octets) → number_at text ≡ Some (n, rest)
    → Begins text n rest
unfolding number_at
number_read text n rest h =
    grind (arith, digit_or_none, decimal_digit, two_places, ltb-true, three_places, eqb-false)

-- a text that is the decimal text of a number is read as that number
number_alone : (text : Octets) (n : ℕ) → (text ≡ decimal n) × (n ≤ 255)
    → number_at text ≡ read_as n []
number_alone text n said =
    ap number_at (said.0 ∙ sym (append-nil (decimal n))) ∙ number_of n [] said.1 refl

pub none_alone : (text : Octets) → number_at text ≡ None → (n : ℕ) → text ≡ decimal n → n ≤ 255 → ⊥
none_alone text none n is le = not_none (sym none ∙ number_alone text n (is, le))

pub more_than_one : (text : Octets) (m : ℕ) (end : Octets) → number_at text ≡ read_as m end
    → (length end ≡ 0 → ⊥) → (n : ℕ) → text ≡ decimal n → n ≤ 255 → ⊥
more_than_one text m end read refuted n is le = grind (arith, some_pair, number_alone)

pub one_alone : (text : Octets) (m : ℕ) (end : Octets) → number_at text ≡ read_as m end
    → length end ≡ 0 → (n : ℕ) → (Some m ≡ Some n) ↔ ((text ≡ decimal n) × (n ≤ 255))
one_alone text m [] read none n = (
  λ h. (let P : ℕ → Type 0 = λ k. (text ≡ decimal k) × (k ≤ 255) in
      let begins = number_read text m [] read in
      subst P (only h) (begins.0 ∙ append-nil (decimal m), begins.1)),
  λ said. ap (λ k. Some k) (some_pair (sym read ∙ number_alone text n said)).0,
)
  where
    only : Some m ≡ Some n → m ≡ n
    only e = cc
one_alone text m (a ∷ end) read none n = absurd (omega (arith, none))

-- a number before a dot is read as that number
pub number_then : (text rest : Octets) (n : ℕ)
    → OctetThen text n rest → number_at text ≡ Some (n, 46 ∷ rest)
number_then text rest n said = ap number_at said.0 ∙ number_of n (46 ∷ rest) said.1 refl

-- if no number is read, the text does not begin with a number and a dot
pub not_read : (text : Octets) (n : ℕ) (rest : Octets) → number_at text ≡ None
    → OctetThen text n rest → ⊥
not_read text n rest none said = grind (arith, not_none, number_then)

pub other_end : (text : Octets) (m : ℕ) (end : Octets) (n : ℕ) (rest : Octets)
    → number_at text ≡ Some (m, end) → (end ≡ 46 ∷ rest → ⊥) → OctetThen text n rest → ⊥
other_end text m end n rest read refuted said = grind (arith, some_pair, number_then)

-- a text begins with one number and a dot
one_octet : (text : Octets) (m n : ℕ) (rest others : Octets) → OctetThen text m rest
    → OctetThen text n others → (m ≡ n) × (rest ≡ others)
one_octet text m n rest others h k =
    let is = some_pair (sym (number_then text rest m h) ∙ number_then text others n k) in
    (is.0, after_dot is.1)
  where
    after_dot : 46 ∷ rest ≡ 46 ∷ others → rest ≡ others
    after_dot e = cc

-- the four numbers of an address in its text
pub record Ipv4Parts (text d : Octets) : Type 0 where
  pub first : ℕ
  pub second : ℕ
  pub third : ℕ
  pub fourth : ℕ
  pub after_first : Octets
  pub after_second : Octets
  pub is : d ≡ first ∷ second ∷ third ∷ fourth ∷ []
  pub reads_first : OctetThen text first after_first
  pub reads_second : OctetThen after_first second after_second
  pub reads_third : OctetThen after_second third (decimal fourth)
  pub fits : fourth ≤ 255

pub ipv4_parts : (text d : Octets) → SaysIpv4 text d → Ipv4Parts text d
ipv4_parts text d h =
    let p = four_numbers text d h in
    let third : p.third < 256 = p.third_small in
    let fourth : p.fourth < 256 = p.fourth_small in
    let first : p.first < 256 = p.first_small in
    let second : p.second < 256 = p.second_small in
    record {
      first = p.first;
      second = p.second;
      third = p.third;
      fourth = p.fourth;
      after_first = decimal p.second ++ (46 ∷ (decimal p.third ++ (46 ∷ decimal p.fourth)));
      after_second = decimal p.third ++ (46 ∷ decimal p.fourth);
      is = p.is;
      reads_first = (p.spelled, omega (arith, first));
      reads_second = (refl, omega (arith, second));
      reads_third = (refl, omega (arith, third));
      fits = omega (arith, fourth);
    }

pub says_ipv4 : (text d : Octets) → Ipv4Parts text d → SaysIpv4 text d
says_ipv4 text d p = grind (arith, and_from, lt-ltb)

-- the result is the address that the text spells, if it spells one
abbrev pub Ipv4Iff : Octets → Option Octets → Type 0
Ipv4Iff text r = (d : Octets) → (r ≡ Some d) ↔ SaysIpv4 text d

pub Ipv4Iff-none : (text : Octets) (r : Option Octets)
    → r ≡ None → ((d : Octets) → Ipv4Parts text d → ⊥) → Ipv4Iff text r
Ipv4Iff-none text r none refuted = λ d.
    (λ h. absurd (none-some d (sym none ∙ h)), λ h. absurd (refuted d (ipv4_parts text d h)))

pub Ipv4Iff-some : (text d : Octets) (r : Option Octets)
    → r ≡ Some d → Ipv4Parts text d → ((e : Octets) → Ipv4Parts text e → d ≡ e) → Ipv4Iff text r
Ipv4Iff-some text d r some parts alone = λ e. (
  λ h. (let P : Octets → Type 0 =
      SaysIpv4 text in subst P (only (sym some ∙ h)) (says_ipv4 text d parts)),
  λ h. some ∙ ap (λ k. Some k) (alone e (ipv4_parts text e h)),
)
  where
    only : {e : Octets} → Some d ≡ Some e → d ≡ e
    only g = cc

-- what is read agrees with what the text spells, number by number
second_of : (text d : Octets) (a : ℕ) (r : Octets) → OctetThen text a r
    → (p : Ipv4Parts text d) → (a ≡ p.first) × OctetThen r p.second p.after_second
second_of text d a r h p =
    let one = one_octet text a p.first r p.after_first h p.reads_first in
    let P : Octets → Type 0 = λ t. OctetThen t p.second p.after_second in
    (one.0, subst P (sym one.1) p.reads_second)

third_of : (text d : Octets) (a b : ℕ) (r s : Octets) → OctetThen text a r → OctetThen r b s
    → (p : Ipv4Parts text d)
    → (a ≡ p.first) × (b ≡ p.second) × OctetThen s p.third (decimal p.fourth)
third_of text d a b r s h k p =
    let second = second_of text d a r h p in
    let one = one_octet r b p.second s p.after_second k second.1 in
    let P : Octets → Type 0 = λ t. OctetThen t p.third (decimal p.fourth) in
    (second.0, one.0, subst P (sym one.1) p.reads_third)

fourth_of : (text d : Octets) (a b c : ℕ) (r s t : Octets)
    → OctetThen text a r → OctetThen r b s → OctetThen s c t → (p : Ipv4Parts text d)
    → (a ≡ p.first) × (b ≡ p.second) × (c ≡ p.third) × (t ≡ decimal p.fourth)
fourth_of text d a b c r s t h k l p =
    let third = third_of text d a b r s h k p in
    let one = one_octet s c p.third t (decimal p.fourth) l third.2 in
    (third.0, third.1, one.0, one.1)

pub no_first : (text : Octets)
    → ((n : ℕ) (rest : Octets) → OctetThen text n rest → ⊥) → (d : Octets) → Ipv4Parts text d → ⊥
no_first text none d p = none p.first p.after_first p.reads_first

pub no_second : (text : Octets) (a : ℕ) (r : Octets) → OctetThen text a r
    → ((n : ℕ) (rest : Octets) → OctetThen r n rest → ⊥) → (d : Octets) → Ipv4Parts text d → ⊥
no_second text a r h none d p = none p.second p.after_second (second_of text d a r h p).1

pub no_third : (text : Octets) (a b : ℕ) (r s : Octets) → OctetThen text a r → OctetThen r b s
    → ((n : ℕ) (rest : Octets) → OctetThen s n rest → ⊥) → (d : Octets) → Ipv4Parts text d → ⊥
no_third text a b r s h k none d p =
    none p.third (decimal p.fourth) (third_of text d a b r s h k p).2

pub no_fourth : (text : Octets) (a b c : ℕ) (r s t : Octets)
    → OctetThen text a r → OctetThen r b s → OctetThen s c t
    → ((n : ℕ) → (t ≡ decimal n) × (n ≤ 255) → ⊥) → (d : Octets) → Ipv4Parts text d → ⊥
no_fourth text a b c r s t h k l none d p =
    none p.fourth ((fourth_of text d a b c r s t h k l p).3, p.fits)

pub all_four : (text : Octets) (a b c e : ℕ) (r s t : Octets) → OctetThen text a r → OctetThen r b s
    → OctetThen s c t → (t ≡ decimal e) × (e ≤ 255) → Ipv4Iff text (Some (a ∷ b ∷ c ∷ e ∷ []))
all_four text a b c e r s t h k l m =
    Ipv4Iff-some text (a ∷ b ∷ c ∷ e ∷ []) _ refl
    (record {
      first = a;
      second = b;
      third = c;
      fourth = e;
      after_first = r;
      after_second = s;
      is = refl;
      reads_first = h;
      reads_second = k;
      reads_third = subst (OctetThen s c) m.0 l;
      fits = m.1;
    }) alone
  where
    alone : (d : Octets) → Ipv4Parts text d → a ∷ b ∷ c ∷ e ∷ [] ≡ d
    alone d p =
        let same = fourth_of text d a b c r s t h k l p in
        let last = decimal_injective e p.fourth
        (omega (arith, m.1)) (omega (arith, p.fits)) (sym m.0 ∙ same.3) in
        let parts = p.is in
        cc
