-- The words that are written for fields do not end early, are read whole, and are not the mark of
-- the generic form.
use Rattle.dns_spec.proofs.Common.{common_steps, ◌≡◌, ℕ, ◌<◌, ◌^◌, Bool, true, false, ◌==◌, List, [], ◌∷◌, ◌++◌, length, refl, sym, ◌∙◌, ap, subst, arith, append_assoc, append-nil, length-append, decimal, rules, and_from, and_right, lt-ltb, if◌then◌else◌, digits, Octets, DomainName, octets_equal, label_text, labels_text, name_text, Word, is_unknown_mark, is_word_octet, is_string_octet, decimal_nonempty, SaysIpv6, ipv6_groups, ipv4_text, groups_text, ipv6_text, plain, quoted, hex_text, is_unbroken, stands_alone, AllByRecursion}
use Rattle.dns_spec.proofs.DomainNames.SmallOctets.{Small, small_head, small_tail}
use Rattle.dns_spec.proofs.NameTexts.WrittenNames.{labels_text_long}
use Rattle.dns_spec.proofs.DataWords.WordRuns.{Runs, runs_bare, name_runs, string_runs}
use Rattle.dns_spec.proofs.DataWords.GroupsAgain.{Groups, group_digits}
use Rattle.dns_spec.proofs.DataWords.Ipv6Again.{groups_of-small, groups_taken, groups_dropped, ipv6_said}
use Rattle.dns_spec.proofs.DataWords.BareWords.{Bare, bare_append, bare_joined, bare_decimal, bare_ipv4, bare_hex, bare_text, labels_unbroken, string_unbroken}

-- the octets that continue a word unescaped
abbrev pub by_itself : Word → ℕ → Bool
by_itself w = if w.is_quoted then is_string_octet else is_word_octet

abbrev pub TakenWhole : Word → Type 0
TakenWhole w = Runs (by_itself w) w.raw

-- a word that does not end early, is read whole, and is not the mark
pub record Standing (w : Word) : Type 0 where
  pub alone : stands_alone w ≡ true
  pub whole : TakenWhole w
  pub unmarked : is_unknown_mark w ≡ false

bare_alone : (x : Octets) → 0 < length x → Bare x → stands_alone (plain x) ≡ true
bare_alone x some bare = and_from _ _ (lt-ltb 0 (length x) some)
    (ap (is_unbroken is_word_octet) (sym (append-nil x)) ∙ bare_text x [] bare refl)

pub bare_standing : (x : Octets) → 0 < length x → Bare x → Standing (plain x)
bare_standing x some bare = grind (arith, bare_alone, runs_bare)

pub decimal_standing : (n : ℕ) → n < 2 ^ 64 → Standing (plain (decimal n))
decimal_standing n small = search (rules, bare_standing, decimal_nonempty, bare_decimal)

ipv4_some : (o : ℕ) (d : Octets) → o < 256 → 0 < length (ipv4_text (o ∷ d))
ipv4_some o d h = grind (arith, decimal_nonempty, length-append)

pub ipv4_standing : (d : Octets) → length d ≡ 4 → Small d → Standing (plain (ipv4_text d))
ipv4_standing [] long small = absurd (omega (arith, long))
ipv4_standing (o ∷ d) long small = search (rules, bare_standing, ipv4_some, small_head, bare_ipv4)

bare_group : (g : ℕ) → g < 65536 → Bare (digits 16 false g)
bare_group g small = let t =
    group_digits g small in subst Bare (sym t.spelled) (bare_hex (t.first ∷ t.others) t.below)

bare_groups : (gs : List ℕ) → Groups gs → Bare (groups_text gs)
bare_groups gs small = bare_joined 58 (digits 16 false) gs refl (each gs small)
  where
    each : (gs : List ℕ) → Groups gs → AllByRecursion (λ g. Bare (digits 16 false g)) gs
    each [] small = tt
    each (g ∷ gs) small = (bare_group g small.0, each gs small.1)

-- a text that spells an address has at least one octet
ipv6_some : (text d : Octets) → SaysIpv6 text d → 0 < length text
unfolding ipv6_groups
ipv6_some text d h = grind (arith, common_steps)

bare_ipv6 : (d : Octets) → Small d → Bare (ipv6_text d)
bare_ipv6 d small =
    grind (arith, groups_of-small, bare_groups, bare_append, groups_taken, groups_dropped)

pub ipv6_standing : (d : Octets) → length d ≡ 16 → Small d → Standing (plain (ipv6_text d))
ipv6_standing d long small = bare_standing
    (ipv6_text d) (ipv6_some (ipv6_text d) d (ipv6_said d long small)) (bare_ipv6 d small)

-- the text ends with a dot, as the text of a name does
record DotLast (text : Octets) : Type 0 where
  front : Octets
  whole : text ≡ front ++ 46 ∷ []

dot_last : (l : Octets) (n : DomainName) → DotLast (labels_text (l ∷ n))
dot_last l [] = record { front = label_text l; whole = append-nil (label_text l ++ 46 ∷ []) }
dot_last l (m ∷ n) =
    let d = dot_last m n in
    record {
      front = (label_text l ++ 46 ∷ []) ++ d.front;
      whole = grind (arith, append_assoc (label_text l ++ 46 ∷ []) d.front (46 ∷ []));
    }

dotted_unmarked : (x front : Octets) → x ≡ front ++ 46 ∷ [] → is_unknown_mark (plain x) ≡ false
dotted_unmarked x front e = ap (λ y. is_unknown_mark (plain y)) e ∙ by_cases front
  where
    longer : (front : Octets) → octets_equal (front ++ 46 ∷ []) [] ≡ false
    longer [] = refl
    longer (c ∷ front) = refl

    by_cases : (front : Octets) → is_unknown_mark (plain (front ++ 46 ∷ [])) ≡ false
    by_cases [] = refl
    by_cases (a ∷ []) = and_right (a == 92) _ refl
    by_cases (a ∷ b ∷ front) = and_right (a == 92) _ (and_right (b == 35) _ (longer front))

pub name_standing : (n : DomainName)
    → AllByRecursion Small n → AllByRecursion (λ l. 0 < length l) n → Standing (plain (name_text n))
name_standing [] small some = record { alone = refl; whole = name_runs [] small; unmarked = refl }
name_standing (l ∷ n) small some = record {
  alone = and_from _ _
      (lt-ltb 0 _ (omega (arith, labels_text_long l n some.0))) (labels_unbroken (l ∷ n) small);
  whole = name_runs (l ∷ n) small;
  unmarked = (let d = dot_last l n in dotted_unmarked (labels_text (l ∷ n)) d.front d.whole);
}

pub string_standing : (s : Octets) → Small s → Standing (quoted s)
string_standing s small = grind (arith, string_unbroken, string_runs)

bare_hex_text : (d : Octets) → Small d → Bare (hex_text d)
bare_hex_text [] small = tt
bare_hex_text (o ∷ d) small = grind (arith, small_head, (bare_hex_text d (small_tail o d small)))

pub hex_alone : (o : ℕ) (d : Octets)
    → Small (o ∷ d) → stands_alone (plain (hex_text (o ∷ d))) ≡ true
hex_alone o d small = bare_alone (hex_text (o ∷ d)) (omega arith) (bare_hex_text (o ∷ d) small)

pub hex_runs : (d : Octets) → Small d → Runs is_word_octet (hex_text d)
hex_runs d small = runs_bare (hex_text d) (bare_hex_text d small)
