-- Reading a string from left to right finds what it spells, and nothing else.
use Rattle.dns_rdata.proofs.Common.{◌≡◌, ◌↔◌, ℕ, ◌<◌, ◌≤◌, true, false, inl, inr, ◌==◌, ◌||◌, if◌then◌else◌, [], ◌∷◌, ◌++◌, length, refl, sym, ◌∙◌, ap, subst, arith, length-append, Some, None, append_assoc, append-nil, cases_Bool, and_parts, not-true, eqb-true, false≢true, list_any, list_all, flat_map, Octets, SpellsString, SpellsStringOctet, string_octet_text, is_plain, octet_at, escape_front, octet_at-OctetThen, OctetThen-octet_at}
use Rattle.dns_spec.proofs.General.Options.{some_parts}
use Rattle.dns_spec.proofs.Common.{none-some}

-- the text is the spelling of an octet of a string, followed by others
abbrev pub StringOctetThen : Octets → ℕ → Octets → Type 0
StringOctetThen text x others =
    (first : Octets) × (text ≡ first ++ others) × SpellsStringOctet first x

spelled_read : (text : Octets) (x : ℕ) (others : Octets)
    → StringOctetThen text x others → octet_at text ≡ Some (x, others)
unfolding octet_at
spelled_read text x others (first, e, inl spelled) = search octet_at-OctetThen
spelled_read text x others (first, e, inr (dot, is_dot)) = grind arith

read_spelled : (text : Octets) (x : ℕ) (others : Octets)
    → octet_at text ≡ Some (x, others) → StringOctetThen text x others
unfolding octet_at
read_spelled [] x others e = cc
read_spelled (a ∷ rest) x others e =
    elim (cases_Bool (a == 46)) [
      | inl dot ↦
          let is_dot = eqb-true a 46 dot in
          let read =
          some_parts (46, rest) (x, others) (ap (λ b. octet_at (b ∷ rest)) (sym is_dot) ∙ e) in
          (a ∷ [], ap (λ r. a ∷ r) read.1, inr (ap (λ b. b ∷ []) is_dot, sym read.0))
      | inr other ↦
          let spelled = OctetThen-octet_at (a ∷ rest) x others other e in
          (spelled.0, spelled.1, inl spelled.2)
    ]

-- The octets `read` were read, and `rest` is the text after them: the text spells exactly these
-- octets, followed by what `rest` spells.
pub record StringSoFar (text read rest : Octets) : Type 0 where
  pub all : (s : Octets) → SpellsString rest s → SpellsString text (read ++ s)
  pub only : (s : Octets)
      → SpellsString text s → (t : Octets) × (s ≡ read ++ t) × SpellsString rest t

pub StringSoFar-none : (text : Octets) → StringSoFar text [] text
StringSoFar-none text = record { all = λ s h. h; only = λ s h. (s, refl, h) }

no_octet : (v : ℕ × Octets) → octet_at [] ≡ Some v → ⊥
unfolding octet_at
no_octet v e = none-some v e

pub StringSoFar-push : (text read rest : Octets) (x : ℕ) (others : Octets) → StringSoFar
    text read rest → octet_at rest ≡ Some (x, others) → StringSoFar text (read ++ x ∷ []) others
StringSoFar-push text read rest x others so_far e = record { all = all; only = only }
  where
    all : (s : Octets) → SpellsString others s → SpellsString text ((read ++ x ∷ []) ++ s)
    all s h = grind (arith, read_spelled, append_assoc)

    after : (t : Octets) → SpellsString rest t → (u : Octets) × (t ≡ x ∷ u) × SpellsString others u
    after [] empty = absurd (no_octet (x, others) (ap octet_at (sym empty) ∙ e))
    after (y ∷ u) (first, more, f, spelled, h) =
        let one = some_parts
        (y, more) (x, others) (sym (spelled_read rest y more (first, f, spelled)) ∙ e) in
        let P : Octets → Type 0 = λ r. SpellsString r u in
        (u, ap (λ k. k ∷ u) one.0, subst P one.1 h)

    only : (s : Octets)
        → SpellsString text s → (t : Octets) × (s ≡ (read ++ x ∷ []) ++ t) × SpellsString others t
    only s h = grind (arith, append_assoc, after)

-- the whole text is read
pub StringSoFar-end : (text read rest : Octets)
    → StringSoFar text read rest → rest ≡ [] → SpellsString text read
StringSoFar-end text read rest so_far empty =
    let P : Octets → Type 0 = SpellsString text in
    subst P (append-nil read) (so_far.all [] empty)

-- and the whole text spells nothing else
pub StringSoFar-only : (text read rest : Octets)
    → StringSoFar text read rest → rest ≡ [] → (s : Octets) → SpellsString text s → s ≡ read
unfolding octet_at
StringSoFar-only text read rest so_far empty s h =
    let after = so_far.only s h in
    after.1 ∙ ap (λ t. read ++ t) (by_cases after.0 after.2) ∙ append-nil read
  where
    by_cases : (t : Octets) → SpellsString rest t → t ≡ []
    by_cases [] spelled = refl
    by_cases (y ∷ t) (first, others, e, spelled, g) = grind arith

pub StringSoFar-iff : (text read rest : Octets)
    → StringSoFar text read rest → rest ≡ [] → (s : Octets) → SpellsString text s ↔ (s ≡ read)
StringSoFar-iff text read rest so_far empty s = grind (arith, StringSoFar-only, StringSoFar-end)

-- nothing is spelled if the text can't continue
pub no_string : (text read rest : Octets) → StringSoFar text read rest
    → (rest ≡ [] → ⊥) → octet_at rest ≡ None → (s : Octets) → SpellsString text s → ⊥
no_string text read rest so_far more none s h =
    let after = so_far.only s h in
    by_cases after.0 after.2
  where
    by_cases : (t : Octets) → SpellsString rest t → ⊥
    by_cases [] empty = more empty
    by_cases (y ∷ t) (first, others, e, spelled, g) =
        none-some (y, others) (sym none ∙ spelled_read rest y others (first, e, spelled))

-- if 255 octets were read and the text goes on, its string has more than 255 octets
pub string_is_long : (text read rest : Octets) → StringSoFar text read rest
    → (rest ≡ [] → ⊥) → length read ≡ 255 → (s : Octets) → SpellsString text s → length s ≤ 255 → ⊥
string_is_long text read rest so_far more full s h short =
    let after = so_far.only s h in
    by_cases after.0 after.2 (omega (arith, ap length after.1, length-append read after.0))
  where
    by_cases : (t : Octets) → SpellsString rest t → length t ≡ 0 → ⊥
    by_cases [] empty none = more empty
    by_cases (y ∷ t) spelled none = omega (arith, none)

-- a spelling has at least one octet
pub octet_at-shorter : (text : Octets) (x : ℕ) (others : Octets)
    → octet_at text ≡ Some (x, others) → length others < length text
octet_at-shorter text x others e = grind (arith, read_spelled, length-append)

-- octets without a backslash are read as they are
plain_read : (text read rest : Octets) → StringSoFar text read rest
    → list_any (λ (o : ℕ). o == 92) rest ≡ false → StringSoFar text (read ++ rest) []
unfolding octet_at
plain_read text read [] so_far none = grind (arith, append-nil)
plain_read text read (a ∷ rest) so_far none = elim (cases_Bool (a == 92)) [
  | inl is ↦ absurd (false≢true (sym none ∙ ap (λ b. b || list_any (λ (o : ℕ). o == 92) rest) is))
  | inr other ↦
      let next = StringSoFar-push text read (a ∷ rest) a rest so_far
      (ap (λ b. if b then escape_front rest else Some (a, rest)) other) in
      let left : list_any (λ (o : ℕ). o == 92) rest ≡ false =
      sym (ap (λ b. b || list_any (λ (o : ℕ). o == 92) rest) other) ∙ none in
      subst (λ r. StringSoFar text r [])
      (append_assoc read (a ∷ []) rest) (plain_read text (read ++ a ∷ []) rest next left)
]

-- a text without a backslash spells only its own octets
pub plain_string : (text : Octets)
    → list_any (λ (o : ℕ). o == 92) text ≡ false → (s : Octets) → SpellsString text s ↔ (s ≡ text)
plain_string text none =
    StringSoFar-iff text text [] (plain_read text [] text (StringSoFar-none text) none) refl

-- plain octets are written as they are
pub plain_text : (s : Octets) → list_all is_plain s ≡ true → flat_map string_octet_text s ≡ s
plain_text [] e = refl
plain_text (o ∷ s) e =
    let rest = plain_text s (and_parts (is_plain o) (list_all is_plain s) e).1 in
    grind (arith, and_parts, not-true, rest)
