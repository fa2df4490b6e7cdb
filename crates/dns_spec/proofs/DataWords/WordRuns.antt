-- All octets that are written for a word or a string are read as one run.
use Rattle.dns_spec.proofs.Common.{◌≡◌, ℕ, ◌+◌, ◌<◌, Bool, true, false, [], ◌∷◌, ◌++◌, length, refl, arith, append_assoc, length-append, rules, agree_below_at, lt-ltb, not-true, eqb-true, is_ascii_digit, flat_map, Octets, DomainName, string_octet_text, is_word_octet, is_string_octet, run_length, is_special, octet_text, label_text, labels_text, name_text, is_printable, AllByRecursion}
use Rattle.dns_spec.proofs.NameTexts.Escapes.{escape-counted}
use Rattle.dns_spec.proofs.DomainNames.SmallOctets.{Small, small_head, small_tail}
use Rattle.dns_spec.proofs.DataWords.BareWords.{Bare}
use Rattle.dns_spec.proofs.General.Truths.{follows}

-- a run continues over all these octets, whatever follows them
abbrev pub Runs : (ℕ → Bool) → Octets → Type 0
Runs p x = (rest : Octets) → run_length p 0 (x ++ rest) ≡ length x + run_length p 0 rest

pub runs_append : (p : ℕ → Bool) (x y : Octets) → Runs p x → Runs p y → Runs p (x ++ y)
runs_append p x y h k rest = grind (arith, append_assoc, length-append)

-- an octet that is not a digit, with a backslash before it
pub runs_escaped : (p : ℕ → Bool) (x : ℕ)
    → is_ascii_digit x ≡ false → is_printable x ≡ true → Runs p (92 ∷ x ∷ [])
unfolding run_length
runs_escaped p x digit printable rest = grind (arith, escape-counted, digit)

digit : (d : ℕ) → d < 10 → is_ascii_digit (48 + d) ≡ true
digit d small = agree_below_at (λ e. is_ascii_digit (48 + e)) (λ e. true) 10 d refl small

-- octets that do not end a word
pub runs_bare : (x : Octets) → Bare x → Runs is_word_octet x
unfolding run_length
runs_bare [] bare = grind arith
runs_bare (o ∷ x) bare = grind (arith, (runs_bare x bare.1))

special_escaped : (x : ℕ) → x < 256 → is_special x ≡ true → Runs is_word_octet (92 ∷ x ∷ [])
special_escaped x small special = search (rules, runs_escaped, not-true, follows, agree_below_at)

octet_runs : (x : ℕ) → x < 256 → Runs is_word_octet (octet_text x)
unfolding octet_text run_length
octet_runs x small = grind (arith, special_escaped, digit, lt-ltb)

label_runs : (l : Octets) → Small l → Runs is_word_octet (label_text l)
label_runs [] small = grind arith
label_runs (x ∷ l) small = runs_append is_word_octet (octet_text x)
    (label_text l) (octet_runs x (small_head x l small)) (label_runs l (small_tail x l small))

labels_runs : (n : DomainName) → AllByRecursion Small n → Runs is_word_octet (labels_text n)
labels_runs [] small = grind arith
labels_runs (l ∷ n) small =
    search (rules, runs_append, label_runs, runs_bare, (labels_runs n small.1))

pub name_runs : (n : DomainName) → AllByRecursion Small n → Runs is_word_octet (name_text n)
name_runs [] small = runs_bare (46 ∷ []) (refl, tt)
name_runs (l ∷ n) small = labels_runs (l ∷ n) small

string_octet_runs : (o : ℕ) → o < 256 → Runs is_string_octet (string_octet_text o)
unfolding run_length
string_octet_runs o small = grind (arith, eqb-true, digit, lt-ltb)

pub string_runs : (s : Octets) → Small s → Runs is_string_octet (flat_map string_octet_text s)
string_runs [] small = grind arith
string_runs (o ∷ s) small =
    runs_append is_string_octet (string_octet_text o) (flat_map string_octet_text s)
    (string_octet_runs o (small_head o s small)) (string_runs s (small_tail o s small))
