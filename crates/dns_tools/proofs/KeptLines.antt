-- What is kept of a line, octet by octet, and which message it decides.
use Rattle.dns_tools.proofs.Common.{◌≡◌, ◌≢◌, ℕ, ◌+◌, ◌<◌, ◌≤◌, ◌==◌, if◌then◌else◌, Bool, true, false, inl, inr, List, [], ◌∷◌, ◌++◌, length, take, drop, get_or, suc, Option, Some, None, refl, sym, ap, ◌∙◌, subst, arith, append_assoc, append-nil, length-append, filter, cases_lt, le-leb, lt-leb, ne_eqb, eq-eqb, eqb-true, false≢true, ◌%◌, take_all, take-append-le, take-append-drop, length-take, length-take-le, drop-cons, filter-append, Consumes, IsAtEnd, Octets, hex_octets, ⊤, ◌-◌, MatchOption, OnTrue, OnFalse, Consumes-trans, begin_line, lines, line_ends, line_message, first_of, kept_line, IsFront, KeepsFirst, ReadsFirst}
use Rattle.dns_tools.proofs.LineDigits.{odd_is_none}

pub ends_append : (x y : Octets) → line_ends (x ++ y) ≡ line_ends x + line_ends y
ends_append x y = grind (arith, filter-append, length-append, filter)

-- an octet that is not an LF
pub ends_one : (o : ℕ) → o ≢ 10 → line_ends (o ∷ []) ≡ 0
ends_one o other = rw (ne_eqb o 10 other) refl

ends_head : (o : ℕ) (x : Octets) → line_ends (o ∷ x) ≡ 0 → (o == 10) ≡ false
ends_head o x e = grind arith

ends_tail : (o : ℕ) (x : Octets) → line_ends (o ∷ x) ≡ 0 → line_ends x ≡ 0
ends_tail o x e = rw (ends_head o x e) at e

-- a line and the lines after it
pub line_then : (front y : Octets) → line_ends front ≡ 0 → lines (front ++ 10 ∷ y) ≡ front ∷ lines y
unfolding lines
line_then [] y e = refl
line_then (o ∷ front) y e = rw (ends_head o front e, line_then front y (ends_tail o front e)) refl

-- a line without an LF at its end
pub line_alone : (o : ℕ) (front : Octets)
    → line_ends (o ∷ front) ≡ 0 → lines (o ∷ front) ≡ (o ∷ front) ∷ []
unfolding lines
line_alone o [] e = rw (ends_head o [] e) refl
line_alone o (p ∷ front) e =
    rw (ends_head o (p ∷ front) e, line_alone p front (ends_tail o (p ∷ front) e)) refl

pub lines_nil : lines [] ≡ []
unfolding lines
lines_nil = refl

-- one more octet of a line is kept, or none more
pub kept_room : (l : Octets) (o : ℕ) → length l < 131071 → l ++ o ∷ [] ≡ kept_line (l ++ o ∷ [])
kept_room l o room =
    sym (take_all 131071 (l ++ o ∷ []) (omega (arith, room, length-append l (o ∷ []))))

pub kept_full : (l : Octets) (o : ℕ) → length l ≡ 131071 → l ≡ kept_line (l ++ o ∷ [])
kept_full l o full =
    sym (take-append-le 131071 l (o ∷ []) (omega (arith, full))
    ∙ take_all 131071 l (omega (arith, full)))

pub keeps_kept : (front k n : Octets) (o : ℕ)
    → k ≡ kept_line front → n ≡ kept_line (k ++ o ∷ []) → n ≡ kept_line (front ++ o ∷ [])
keeps_kept front k n o e keeps =
    keeps ∙ ap (λ l. kept_line (l ++ o ∷ [])) e ∙ elim (cases_lt (length front) 131071) [
      | inl small ↦ ap (λ l. kept_line (l ++ o ∷ [])) (take_all 131071 front (omega (arith, small)))
      | inr large ↦ sym (kept_full (kept_line front) o (length-take-le 131071 front large))
          ∙ sym (take-append-le 131071 front (o ∷ []) large)
    ]

too_long : (x : Octets) → 131070 < length x → line_message x ≡ None
too_long x long = rw (lt-leb (length x) 131070 long) refl

-- what is kept of a line decides its message
pub kept_says : (front : Octets) → hex_octets (kept_line front) ≡ line_message front
kept_says front = elim (cases_lt 131070 (length front)) [
  | inl long ↦
      odd_is_none (kept_line front)
      (ap (λ n. n % 2) (length-take-le 131071 front (omega (arith, long))))
      ∙ sym (too_long front long)
  | inr short ↦ rw (le-leb (length front) 131070 short)
      (ap hex_octets (take_all 131071 front (omega (arith, short))))
]

-- The first line of an input.

first_after : (o : ℕ) (ls : List Octets) → first_of (begin_line o ls) ≡ o ∷ first_of ls
first_after o [] = refl
first_after o (l ∷ ls) = refl

-- without an LF so far, the line goes on
first_line : (front y : Octets)
    → line_ends front ≡ 0 → first_of (lines (front ++ y)) ≡ front ++ first_of (lines y)
unfolding lines
first_line [] y e = refl
first_line (o ∷ front) y e =
    rw (ends_head o front e) (first_after o (lines (front ++ y))
    ∙ ap (λ l. o ∷ l) (first_line front y (ends_tail o front e)))

first_ended : (y : Octets) → first_of (lines (10 ∷ y)) ≡ []
unfolding lines
first_ended y = refl

-- if what follows adds nothing to the line, what is kept decides the message
first_goes_on : (front y l : Octets) → line_ends front ≡ 0 → l ≡ kept_line front
    → first_of (lines y) ≡ [] → hex_octets l ≡ line_message (first_of (lines (front ++ y)))
first_goes_on front y l unended kept over =
    grind (arith, kept_says, line_message, first_line, append-nil)

-- an LF ends the line
pub ended_first : (x octets : Octets) (i : ℕ) (l : Octets)
    → i < length octets → get_or octets i 0 ≡ 10 → line_ends (x ++ take i octets) ≡ 0
    → l ≡ kept_line (x ++ take i octets) → KeepsFirst (x ++ octets) l
ended_first x octets i l here is unended kept = λ y.
    let front = x ++ take i octets in
    let rest : drop i octets ≡ 10 ∷ drop (suc i) octets =
    drop-cons octets i 0 here ∙ ap (λ o. o ∷ drop (suc i) octets) is in
    let whole : (x ++ octets) ++ y ≡ front ++ 10 ∷ (drop (suc i) octets ++ y) =
    ap (λ o. (x ++ o) ++ y) (sym (take-append-drop i octets) ∙ ap (λ d. take i octets ++ d) rest)
    ∙ ap (λ z. z ++ y) (sym (append_assoc x (take i octets) (10 ∷ drop (suc i) octets)))
    ∙ append_assoc front (10 ∷ drop (suc i) octets) y
    in
    first_goes_on front (10 ∷ (drop (suc i) octets ++ y)) l unended kept (first_ended
    (drop (suc i) octets ++ y)) ∙ ap (λ z. line_message (first_of (lines z))) (sym whole)

-- the line is too long
pub overlong_first : (x l : Octets)
    → line_ends x ≡ 0 → l ≡ kept_line x → length l ≡ 131071 → KeepsFirst x l
overlong_first x l unended kept over = λ y.
    let rest = first_of (lines y) in
    let long : 131070 < length x = omega (arith, over, ap length kept, length-take 131071 x) in
    ap hex_octets kept ∙ kept_says x ∙ too_long x long
    ∙ sym (ap line_message (first_line x y unended)
    ∙ too_long (x ++ rest) (omega (arith, long, length-append x rest)))

-- the line is not too long so far
pub not_overlong : (x l : Octets)
    → line_ends x ≡ 0 → l ≡ kept_line x → length l ≢ 131071 → IsFront x l
not_overlong x l unended kept short = record {
  goes_on = record {
    unended = unended;
    short = omega (arith, short, ap length kept, length-take 131071 x);
  };
  kept = kept;
}

-- A source.

-- the source has given octets in which the line goes on, and all of these are kept
pub record Going (a b : Option Octets) (l : Octets) : Type 0 where
  pub given : Octets
  pub read : Consumes a b given
  pub front : IsFront given l

pub going_more : (a b c : Option Octets) (front octets l n : Octets)
    → front ≡ octets → Consumes b c octets
    → ((x : Octets) → IsFront x l → IsFront (x ++ front) n) → Going a b l → Going a c n
going_more a b c front octets l n same more step g = record {
  given = g.given ++ octets;
  read = Consumes-trans a b c g.given octets g.read more;
  front = subst (λ o. IsFront (g.given ++ o) n) same (step g.given g.front);
}

-- the octets that follow the ones that were read
what_comes : (a c : Option Octets) (given : Octets)
    → Consumes a c given → (rest : Octets) × MatchOption a ⊤ (λ all. all ≡ given ++ rest)
what_comes None c given read = ([], tt)
what_comes (Some x) None given read = absurd read
what_comes (Some x) (Some y) given read = (y, read)

pub going_over : (a b c : Option Octets) (front octets l n : Octets)
    → front ≡ octets → Consumes b c octets → length octets ≤ 65536
    → ((x : Octets) → IsFront x l → KeepsFirst (x ++ front) n) → Going a b l → ReadsFirst a c n
going_over a b c front octets l n same more few step g =
    let read = Consumes-trans a b c g.given octets g.read more in
    let comes = what_comes a c (g.given ++ octets) read in
    record {
      input = (g.given ++ octets) ++ comes.0;
      read = record {
        before = g.given;
        piece = octets;
        rest = comes.0;
        input_is = refl;
        is_all = comes.1;
        read = read;
        goes_on = g.front.goes_on;
        at_once = few;
      };
      message_is = subst (λ o. KeepsFirst (g.given ++ o) n) same (step g.given g.front) comes.0;
    }

at_end : (a c : Option Octets) (given : Octets)
    → Consumes a c given → IsAtEnd c → MatchOption a ⊤ (λ all. all ≡ given)
at_end None c given read end = tt
at_end (Some x) None given read end = absurd read
at_end (Some x) (Some y) given read end = read ∙ ap (λ z. given ++ z) end ∙ append-nil given

pub read_ended : (a b c : Option Octets) (count : ℕ) (buf l : Octets)
    → Consumes b c (take count buf) → count ≡ 0 → IsAtEnd c → Going a b l → ReadsFirst a c l
read_ended a b c count buf l more none end g =
    let nothing : Consumes b c [] = subst (λ n. Consumes b c (take n buf)) none more in
    let read = Consumes-trans a b c g.given [] g.read nothing in
    let all : (g.given ++ []) ++ [] ≡ g.given = append-nil (g.given ++ []) ∙ append-nil g.given in
    record {
      input = g.given;
      read = record {
        before = g.given;
        piece = [];
        rest = [];
        input_is = sym all;
        is_all = at_end a c g.given (subst (Consumes a c) (append-nil g.given) read) end;
        read = read;
        goes_on = g.front.goes_on;
        at_once = omega arith;
      };
      message_is = first_goes_on g.given [] l g.front.goes_on.unended g.front.kept (ap
          first_of lines_nil) ∙ ap (λ z. line_message (first_of (lines z))) (append-nil g.given);
    }

-- The code's own steps.

-- the kept front is the whole line
front_length : (x l : Octets) → IsFront x l → length l ≡ length x
front_length x l is =
    ap length (is.kept ∙ take_all 131071 x (omega (arith, is.goes_on.short)))

-- each piece makes the line longer while it goes on
pub longer : (a b : Option Octets) (octets : Octets) (is_over : Bool) (l n : Octets) → 0 < length
    octets → Going a b l → ((x : Octets) → IsFront x l → OnFalse is_over (IsFront (x ++ octets) n))
    → suc (if is_over then 0 else 131071 - length n) ≤ 131071 - length l
longer a b octets true l n some g more =
    omega (arith, front_length g.given l g.front, g.front.goes_on.short)
longer a b octets false l n some g more =
    let now = more g.given g.front in
    omega (
      arith,
      some,
      front_length g.given l g.front,
      front_length (g.given ++ octets) n now,
      now.goes_on.short,
      length-append g.given octets,
    )

pub first_longer : (a b : Option Octets) (l : Octets)
    → Going a b l → suc 0 ≤ 131071 - length l
first_longer a b l g = omega (arith, front_length g.given l g.front, g.front.goes_on.short)

pub more_unended : (x front t : Octets) (o : ℕ)
    → t ≡ front ++ o ∷ [] → o ≢ 10 → line_ends (x ++ front) ≡ 0 → line_ends (x ++ t) ≡ 0
more_unended x front t o grown other e =
    grind (arith, line_ends, append_assoc, ends_append, ends_one)

pub more_kept : (x front t : Octets) (o : ℕ) (k n : Octets) → t ≡ front ++ o ∷ []
    → n ≡ kept_line (k ++ o ∷ []) → k ≡ kept_line (x ++ front) → n ≡ kept_line (x ++ t)
more_kept x front t o k n grown keeps e =
    keeps_kept (x ++ front) k n o e keeps
    ∙ ap kept_line (append_assoc x front (o ∷ []) ∙ ap (λ z. x ++ z) (sym grown))

pub taken_front : (is_over : Bool) (x front octets l : Octets)
    → front ≡ octets → is_over ≡ (length l == 131071) → line_ends (x ++ front) ≡ 0
    → l ≡ kept_line (x ++ front) → OnFalse is_over (IsFront (x ++ octets) l)
taken_front true x front octets l all is unended kept = tt
taken_front false x front octets l all is unended kept =
    subst (λ o. IsFront (x ++ o) l) all (not_overlong (x ++ front) l unended kept
    (λ e. false≢true (is ∙ eq-eqb (length l) 131071 e)))

pub taken_first : (is_over : Bool) (x front octets l : Octets)
    → front ≡ octets → is_over ≡ (length l == 131071) → line_ends (x ++ front) ≡ 0
    → l ≡ kept_line (x ++ front) → OnTrue is_over (KeepsFirst (x ++ octets) l)
taken_first true x front octets l all is unended kept =
    subst (λ o. KeepsFirst (x ++ o) l) all
    (overlong_first (x ++ front) l unended kept (eqb-true (length l) 131071 (sym is)))
taken_first false x front octets l all is unended kept = tt
