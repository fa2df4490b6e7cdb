-- The word that is written for the first field of data spells that field again, for each kind of
-- field.
use Rattle.dns_spec.proofs.Common.{◌≡◌, ℕ, zero, suc, ◌^◌, ◌<◌, ◌≤◌, All, true, Bool, not, Some, List, [], ◌∷◌, ◌++◌, length, take, drop, replicate, refl, sym, ap, subst, arith, take-append-drop, pow-le-pow_right, and_from, and_parts, false≢true, length-take-le, list_all, Octets, DomainName, wire, is_label, is_name, name_of, are_strings, number_of, Word, Field, number, ipv4, ipv6, domain, string, SaysWord, SaysFields, is_unknown_mark, All-take, All-drop, name_front, word_front, field_words, string_count, stands_alone, AllByRecursion, strings}
use Rattle.dns_spec.proofs.DomainNames.SmallOctets.{Small, small_head, small_tail, small_front, small_back, small_test}
use Rattle.dns_spec.proofs.DomainNames.NameLaws.{IsName-is_name, IsLabel-is_label}
use Rattle.dns_spec.proofs.NameTexts.WrittenNames.{name_spelled}
use Rattle.dns_spec.proofs.DataWords.NumberAgain.{number_of-below, number_said}
use Rattle.dns_spec.proofs.DataWords.Ipv6Again.{ipv6_said}
use Rattle.dns_spec.proofs.DataWords.StringAgain.{string_said}
use Rattle.dns_spec.proofs.DataWords.StandingWords.{TakenWhole, Standing, decimal_standing, ipv4_standing, ipv6_standing, name_standing, string_standing}

abbrev pub is_unmarked : List Word → Bool
is_unmarked [] = true
is_unmarked (w ∷ ws) = not (is_unknown_mark w)

-- the word written for a field spells the front of the data, and `back` is left
pub record FormSaid (f : Field) (origin : DomainName) (d back : Octets) : Type 0 where
  pub front : Octets
  pub whole : d ≡ front ++ back
  pub word : SaysWord f origin (word_front f d).0 front
  pub after : (word_front f d).1 ≡ back
  pub standing : Standing (word_front f d).0

-- the words written for fields spell all the data; they do not end early and are read whole, and
-- the first word is not the mark of the generic form
pub record WordsSaid (fs : List Field) (origin : DomainName) (d : Octets) : Type 0 where
  pub said : SaysFields fs origin (field_words fs d) d
  pub alone : list_all stands_alone (field_words fs d) ≡ true
  pub whole : AllByRecursion TakenWhole (field_words fs d)
  pub unmarked : is_unmarked (field_words fs d) ≡ true

pub none_said : (origin : DomainName) → WordsSaid [] origin []
none_said origin = record { said = refl; alone = refl; whole = tt; unmarked = refl }

pub said_step : (f : Field) (fs : List Field) (origin : DomainName) (d back : Octets)
    → FormSaid f origin d back → WordsSaid fs origin back → WordsSaid (f ∷ fs) origin d
said_step f fs origin d back s others = grind (arith, and_from, AllByRecursion, TakenWhole)

-- a word for the first n octets
octets_said : (f : Field) (n : ℕ) (origin : DomainName) (d : Octets)
    → (word_front f d).1 ≡ drop n d → SaysWord f origin (word_front f d).0 (take n d)
    → Standing (word_front f d).0 → FormSaid f origin d (drop n d)
octets_said f n origin d after said standing = record {
  front = take n d;
  whole = sym (take-append-drop n d);
  word = said;
  after = after;
  standing = standing;
}

-- the word written for a number of at most 64 bits
pub number_front_said : (k : ℕ) (origin : DomainName) (d : Octets)
    → k ≤ 8 → k ≤ length d → Small d → FormSaid (number k) origin d (drop k d)
number_front_said k origin d short inside small =
    let x = take k d in
    let long = length-take-le k d inside in
    let small' = All-take (λ o. o < 256) k d small in
    let most : 256 ^ length x ≤ 256 ^ 8 = pow-le-pow_right
    {n = 256} (omega arith) {i = length x} {j = 8} (omega (arith, long, short)) in
    octets_said (number k) k origin d refl
    (record { quotes = refl; said = number_said k x long small' })
    (decimal_standing (number_of x) (omega (arith, most, number_of-below x small')))

pub ipv4_front_said : (origin : DomainName) (d : Octets)
    → 4 ≤ length d → Small d → FormSaid ipv4 origin d (drop 4 d)
ipv4_front_said origin d inside small =
    let four = length-take-le 4 d inside in
    let small' = All-take (λ o. o < 256) 4 d small in
    let octets = small_test (take 4 d) small' in
    octets_said ipv4 4 origin d refl
    (record { quotes = refl; said = record { four = four; octets = octets; spelled = refl } })
    (ipv4_standing (take 4 d) four small')

pub ipv6_front_said : (origin : DomainName) (d : Octets)
    → 16 ≤ length d → Small d → FormSaid ipv6 origin d (drop 16 d)
ipv6_front_said origin d inside small =
    let long = length-take-le 16 d inside in
    let small' = All-take (λ o. o < 256) 16 d small in
    octets_said ipv6 16 origin d refl
    (record { quotes = refl; said = ipv6_said (take 16 d) long small' })
    (ipv6_standing (take 16 d) long small')

labels_small : (n : DomainName) → Small (wire n) → All (All (λ o. o < 256)) n
labels_small [] small k e inside = absurd (omega (arith, inside))
labels_small (l ∷ n) small zero e inside =
    small_front l (wire n) (small_tail (length l) (l ++ wire n) small)
labels_small (l ∷ n) small (suc k) e inside =
    labels_small n (small_back l (wire n) (small_tail (length l) (l ++ wire n) small)) k e
    (omega (arith, inside))

pub small_labels : (n : DomainName) → All (All (λ o. o < 256)) n → AllByRecursion Small n
small_labels [] small = tt
small_labels (l ∷ n) small =
    (small 0 [] (omega arith), small_labels n (λ k e inside. small (suc k) e (omega arith)))

pub some_labels : (n : DomainName) → is_name n ≡ true → AllByRecursion (λ l. 0 < length l) n
some_labels n ok = each n (IsName-is_name n ok).labels
  where
    each : (n : DomainName) → list_all is_label n ≡ true → AllByRecursion (λ l. 0 < length l) n
    each [] all = tt
    each (l ∷ n) all = let parts = and_parts (is_label l) (list_all is_label n) all in
        ((IsLabel-is_label l parts.0).some, each n parts.1)

pub name_front_said : (origin : DomainName) (d : Octets) (n : DomainName) (rest : Octets)
    → name_of d ≡ Some (n, rest)
    → is_name n ≡ true → d ≡ wire n ++ rest → Small d → FormSaid domain origin d rest
name_front_said origin d n rest e ok whole small =
    let labels = labels_small n (small_front (wire n) rest (subst Small whole small)) in
    let said : SaysWord domain origin (name_front (Some (n, rest))).0 (wire n) =
    record { quotes = refl; said = (n, name_spelled origin n labels ok, refl) } in
    record {
      front = wire n;
      whole = whole;
      word = subst (λ r. SaysWord domain origin (name_front r).0 (wire n)) (sym e) said;
      after = ap (λ r. (name_front r).1) e;
      standing = subst (λ r. Standing (name_front r).0)
          (sym e) (name_standing n (small_labels n labels) (some_labels n ok));
    }

pub string_front_said : (origin : DomainName) (k : ℕ) (d : Octets)
    → k ≤ length d → Small (k ∷ d) → FormSaid string origin (k ∷ d) (drop k d)
string_front_said origin k d inside small =
    let long = length-take-le k d inside in
    let said = string_said (take k d) (omega (arith, long, small_head k d small))
    (All-take (λ o. o < 256) k d (small_tail k d small)) in
    record {
      front = k ∷ take k d;
      whole = ap (λ x. k ∷ x) (sym (take-append-drop k d));
      word = grind arith;
      after = refl;
      standing = string_standing (take k d) (All-take (λ o. o < 256) k d (small_tail k d small));
    }

-- the word written for one of the strings of `strings`
strings_front_said : (origin : DomainName) (k : ℕ) (d : Octets)
    → k ≤ length d → Small (k ∷ d) → FormSaid strings origin (k ∷ d) (drop k d)
strings_front_said origin k d inside small =
    let s = string_front_said origin k d inside small in
    record {
      front = s.front;
      whole = s.whole;
      word = record { quotes = refl; said = s.word.said };
      after = s.after;
      standing = s.standing;
    }

-- d begins with the last k octets of a string, and whole strings follow, as many as are counted in
-- d
record StringsAfter (k : ℕ) (d : Octets) : Type 0 where
  inside : k ≤ length d
  others : are_strings 0 (drop k d) ≡ true
  count : string_count k d ≡ string_count 0 (drop k d)

strings_after : (k : ℕ) (d : Octets) → are_strings k d ≡ true → StringsAfter k d
strings_after zero d e = record { inside = omega arith; others = e; count = refl }
strings_after (suc k) [] e = absurd (false≢true e)
strings_after (suc k) (o ∷ d) e = grind (arith, (strings_after k d e))

pub strings_said : (n : ℕ) (origin : DomainName) (d : Octets) → string_count 0 d ≡ n
    → are_strings 0 d ≡ true → Small d → WordsSaid (replicate n strings) origin d
strings_said zero origin [] e ok small = none_said origin
strings_said zero origin (k ∷ d) e ok small = absurd (omega (arith, e))
strings_said (suc n) origin [] e ok small = absurd (omega (arith, e))
strings_said (suc n) origin (k ∷ d) e ok small =
    let s = strings_after k d ok in
    said_step strings (replicate n strings) origin
    (k ∷ d) (drop k d) (strings_front_said origin k d s.inside small)
    (strings_said n origin (drop k d)
    (omega (arith, e, s.count)) s.others (All-drop (λ o. o < 256) k d (small_tail k d small)))
