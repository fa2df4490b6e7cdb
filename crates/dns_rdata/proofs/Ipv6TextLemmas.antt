-- The text of an IPv6 address, group by group.
use Rattle.dns_rdata.proofs.Common.{◌≡◌, ◌≢◌, ℕ, zero, suc, ◌+◌, ◌*◌, ◌/◌, ◌%◌, ◌<◌, ◌≤◌, max, false, ◌==◌, List, [], ◌∷◌, ◌++◌, length, take, drop, get_or, fold, refl, sym, ◌∙◌, ap, arith, length-append, length-drop, drop-cons, prefix_len, position_or_len, digit_char, digits, ne_eqb, eq-eqb, cases_lt, Octets, append_assoc, take_more, take_all, suc-eq-add-one, groups_text, zero_runs, one_digit, two_digits, three_of, four_of, is_zero, length-zero_runs, run_at}

-- the text with one more group at the end has a colon and the digits of that group at its end
pub groups_text-push : (g x : ℕ) (gs : List ℕ)
    → groups_text (g ∷ gs ++ x ∷ []) ≡ groups_text (g ∷ gs) ++ 58 ∷ digits 16 false x
groups_text-push g x [] = refl
groups_text-push g x (h ∷ gs) = grind (arith, append_assoc, (groups_text-push h x gs))

-- the groups from a index on begin with the one there
pub one_group_at : (gs : List ℕ) (i : ℕ)
    → i < length gs → drop i gs ≡ get_or gs i 0 ∷ drop (i + 1) gs
one_group_at gs i inside = grind (arith, suc-eq-add-one, drop-cons)

pub push_one : (old new : Octets) (r n : ℕ)
    → new ≡ old ++ r ∷ [] → r ≡ digit_char n → n < 16 → new ≡ old ++ digits 16 false n
push_one old new r n e f small = grind (arith, one_digit)

pub push_two : (old mid new : Octets) (r s n : ℕ)
    → mid ≡ old ++ r ∷ [] → new ≡ mid ++ s ∷ [] → r ≡ digit_char (n / 16)
    → s ≡ digit_char (n % 16) → 16 ≤ n → n < 256 → new ≡ old ++ digits 16 false n
push_two old mid new r s n e f g h large small = grind (arith, append_assoc, two_digits)

pub push_split : (old high mid new : Octets) (r s n : ℕ) → high ≡ old ++ digits 16 false (n / 256)
    → mid ≡ high ++ r ∷ [] → new ≡ mid ++ s ∷ [] → r ≡ digit_char (n % 256 / 16)
    → s ≡ digit_char (n % 256 % 16) → (n / 256 ≡ 0 → ⊥) → n < 65536 → new ≡ old ++ digits 16 false n
push_split old high mid new r s n d e f g h large small =
    grind (arith, append_assoc, three_of, one_digit, four_of, two_digits)

-- the first group and i others have been written, with colons between them
pub record GroupsWritten
    (old : Octets) (groups others : List ℕ) (i : ℕ) (text : Octets) : Type 0 where
  pub first : ℕ
  pub is : groups ≡ first ∷ others
  pub written : text ≡ old ++ groups_text (first ∷ take i others)
  pub short : length text ≤ length old + 4 + 5 * i

pub GroupsWritten-push : (old text colon new : Octets) (groups others : List ℕ) (i : ℕ)
    → GroupsWritten old groups others i text → i < length others
    → colon ≡ text ++ 58 ∷ [] → new ≡ colon ++ digits 16 false (get_or others i 0)
    → length new ≤ length colon + 4 → GroupsWritten old groups others (i + 1) new
GroupsWritten-push old text colon new groups others i so_far inside e f short =
    let x = get_or others i 0 in
    let front = groups_text (so_far.first ∷ take i others) in
    record {
      first = so_far.first;
      is = so_far.is;
      written = f ∙ ap (λ c. c ++ digits 16 false x) e ∙ append_assoc text
          (58 ∷ []) (digits 16 false x) ∙ ap (λ t. t ++ 58 ∷ digits 16 false x) so_far.written
          ∙ append_assoc old front (58 ∷ digits 16 false x)
          ∙ ap (λ t. old ++ t) (sym (groups_text-push so_far.first x (take i others)))
          ∙ ap (λ gs. old ++ groups_text (so_far.first ∷ gs)) (sym (take_more others i 0 inside));
      short = omega (arith, short, so_far.short, ap length e, length-append text (58 ∷ []));
    }

pub GroupsWritten-end : (old text : Octets) (groups others : List ℕ) (i : ℕ)
    → GroupsWritten old groups others i text → length others ≤ i → text ≡ old ++ groups_text groups
GroupsWritten-end old text groups others i so_far end = grind (arith, take_all)

-- the first index of a number in a list
first_place : (v : ℕ) (xs : List ℕ) (i : ℕ) → i < length xs → get_or xs i 0 ≡ v
    → ((k : ℕ) → k < i → get_or xs k 0 ≢ v) → position_or_len (λ k. k == v) xs ≡ i
first_place v [] i inside e others = absurd (omega (arith, inside))
first_place v (x ∷ xs) zero inside e others = rw (eq-eqb x v e) refl
first_place v (x ∷ xs) (suc i) inside e others =
    let no : (x == v) ≡ false = ne_eqb x v (others 0 (omega arith)) in
    rw no (omega (
      arith,
      first_place v xs i
          (omega (arith, inside)) e (λ k below. others (suc k) (omega (arith, below))),
    ))

-- the longest of the runs that begin at the first i indices, and the index where it begins
pub record LongestSoFar (gs : List ℕ) (i index longest : ℕ) : Type 0 where
  pub place_is : position_or_len (λ k. k == longest) (zero_runs gs) ≡ index
  pub most : (k : ℕ) → k < i → get_or (zero_runs gs) k 0 ≤ longest
  pub whole : fold max 0 (zero_runs gs) ≡ fold max longest (zero_runs (drop i gs))
  pub inside : index + longest ≤ length gs

run_short : (gs : List ℕ) → prefix_len is_zero gs ≤ length gs
run_short [] = omega arith
run_short (g ∷ gs) = grind (arith, is_zero, (run_short gs))

runs_at : (gs : List ℕ) (i : ℕ) → i < length gs
    → zero_runs (drop i gs) ≡ prefix_len is_zero (drop i gs) ∷ zero_runs (drop (i + 1) gs)
runs_at gs i inside = grind (arith, one_group_at, is_zero)

pub LongestSoFar-first : (gs : List ℕ) (r : ℕ) → r ≡ prefix_len is_zero gs → LongestSoFar gs 1 0 r
LongestSoFar-first [] r e = grind arith
LongestSoFar-first (g ∷ gs) r e = grind (arith, is_zero, first_place, run_short)

most_more : (gs : List ℕ) (i run longest : ℕ) → i < length gs
    → run ≡ prefix_len is_zero (drop i gs) → ((k : ℕ) → k < i → get_or (zero_runs gs) k 0 ≤ longest)
    → run ≤ longest → (k : ℕ) → k < i + 1 → get_or (zero_runs gs) k 0 ≤ longest
most_more gs i run longest inside e most fits k below = grind (arith, cases_lt, run_at)

pub LongestSoFar-longer : (gs : List ℕ) (i index longest run : ℕ)
    → LongestSoFar gs i index longest → i < length gs
    → run ≡ prefix_len is_zero (drop i gs) → longest < run → LongestSoFar gs (i + 1) i run
LongestSoFar-longer gs i index longest run so_far inside e longer =
    let largest : max longest run ≡ run = omega (arith, longer) in
    record {
      place_is = first_place run
          (zero_runs gs) i (omega (arith, inside, length-zero_runs gs)) (run_at gs i inside ∙ sym e)
          (λ k below f. omega (arith, so_far.most k below, f, longer));
      most = most_more gs i run run inside e
          (λ k below. omega (arith, so_far.most k below, longer)) (omega arith);
      whole = grind (arith, runs_at);
      inside = omega (arith, inside, e, run_short (drop i gs), length-drop i gs);
    }

pub LongestSoFar-other : (gs : List ℕ) (i index longest run : ℕ)
    → LongestSoFar gs i index longest → i < length gs
    → run ≡ prefix_len is_zero (drop i gs) → run ≤ longest → LongestSoFar gs (i + 1) index longest
LongestSoFar-other gs i index longest run so_far inside e shorter =
    let largest : max longest run ≡ longest = omega (arith, shorter) in
    record {
      place_is = so_far.place_is;
      most = most_more gs i run longest inside e so_far.most shorter;
      whole = grind (arith, runs_at);
      inside = so_far.inside;
    }
