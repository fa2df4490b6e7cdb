-- Data and records are written part by part.
use Rattle.dns_wire.proofs.Common.{◌≡◌, ◌*◌, ◌+◌, ◌-◌, ◌≤◌, ◌∙◌, ℕ, Bool, true, false, List, [], ◌∷◌, ◌++◌, length, take, drop, refl, sym, ap, ap₂, subst, subst₂, arith, append_assoc, append-nil, length-append, take_at, drop_at, take-append-add, Octets, class_in, Part, octets, name, laid_parts, Placed, Laid, octets16, octets32, data_laid, data_by, Kept, suffix_number, Follows, Holds, Layout, octets_laid, name_laid, parts_laid, tail_laid, PartialMessage, known_offsets, Writes, zero, suc, length-drop, suc-mul, laid_front, nil_from_length, take-append-drop}
use Rattle.dns_wire.proofs.AskedLemmas.{kept_same}
use Rattle.dns_wire.proofs.NameWritten.{holds_octets}
use Rattle.dns_wire.proofs.Steps.{grows_again, writes_as, writes_both, writes_past, both_laid}
use Rattle.dns_spec.proofs.General.Fronts.{take_patched}

abbrev pub part_laid : Part → Layout
part_laid (octets o) = octets_laid o
part_laid (name n) = name_laid n

-- the layout of parts
abbrev pub all_laid : List Part → Layout
all_laid ps ms p = data_laid ms p ps

data_more : (x : Part) (ps : List Part) (ms : List Placed) (p : ℕ)
    → both_laid (part_laid x) (all_laid ps) ms p ≡ data_laid ms p (x ∷ ps)
unfolding data_by
data_more x ps ms p = grind (arith, append-nil)

data_last : (x : Part) (ms : List Placed) (p : ℕ) → part_laid x ms p ≡ data_laid ms p (x ∷ [])
unfolding data_by
data_last x ms p = grind (arith, append-nil, data_more)

-- octets in m runs of k octets
abbrev pub runs : ℕ → ℕ → Octets → List Part
runs k zero d = []
runs k (suc m) d = octets (take k d) ∷ runs k m (drop k d)

-- the runs are laid out as the octets that they are cut from
runs_laid : (k m : ℕ) (d : Octets) → length d ≡ m * k
    → (ms : List Placed) (p : ℕ) → octets_laid d ms p ≡ data_laid ms p (runs k m d)
unfolding data_by
runs_laid k zero d long ms p = grind (arith, nil_from_length)
runs_laid k (suc m) d long ms p =
    let more : length (drop k d) ≡ m * k =
    omega (arith, long, length-drop k d, suc-mul m k) in
    ap (λ x. octets_laid x ms p) (sym (take-append-drop k d))
    ∙ ap (laid_front (take k d) []) (runs_laid k m (drop k d) more ms (p + length (take k d)))

pub writes_runs : {head head' : Octets → ℕ} {d d' : PartialMessage} {fits : Bool} (k m : ℕ) (o : Octets)
    → length o ≡ m * k → Writes head head' d d' (octets_laid o) fits
    → Writes head head' d d' (all_laid (runs k m o)) fits
writes_runs k m o long = grind (arith, runs_laid)

-- the ten octets after an owner
abbrev pub numbers_of : ℕ → ℕ → ℕ → Octets
numbers_of t ttl k = octets16 t ++ octets16 class_in ++ octets32 ttl ++ octets16 k

-- if the data has no compressed names, these octets and the data are laid out as one run
pub plain_laid : (t ttl : ℕ) (o x : Octets)
    → x ≡ numbers_of t ttl (length o) → laid_parts t o ≡ octets o ∷ []
    → (ms : List Placed) (p : ℕ) → octets_laid (x ++ o) ms p ≡ tail_laid t ttl o ms p
plain_laid t ttl o x own whole ms p =
    ap (λ z. octets_laid (z ++ o) ms p) own
    ∙ ap (λ (l : Laid).
    record { written = numbers_of t ttl (length l.written) ++ l.written; names = l.names })
    (data_last (octets o) ms (p + 10) ∙ ap (data_laid ms (p + 10)) (sym whole))

-- the last two of ten octets are overwritten, and the octets after them stay
patched : (b y z w after now : Octets) → length y ≡ 8 → length z ≡ 2 → after ≡ (b ++ (y ++ z)) ++ w
    → now ≡ take (length b + 8) after ++ (octets16 (length after - length b - 10)
    ++ drop (length b + 10) after) → now ≡ b ++ ((y ++ octets16 (length w)) ++ w)
patched b y z w after now eight two is set =
    let split : after ≡ ((b ++ y) ++ z) ++ w = is ∙ ap (λ x. x ++ w) (sym (append_assoc b y z)) in
    let whole : after ≡ (b ++ y) ++ (z ++ w) = split ∙ append_assoc (b ++ y) z w in
    let first : length (b ++ y) ≡ length b + 8 = length-append b y ∙ ap (λ k. length b + k) eight in
    let both : length ((b ++ y) ++ z) ≡ length b + 10 =
    omega (arith, length-append (b ++ y) z, first, two) in
    let front : take (length b + 8) after ≡ b ++ y =
    ap (take (length b + 8)) whole ∙ take_at (b ++ y) (z ++ w) (length b + 8) first in
    let back : drop (length b + 10) after ≡ w =
    ap (drop (length b + 10)) split ∙ drop_at ((b ++ y) ++ z) w (length b + 10) both in
    let long : length after - length b - 10 ≡ length w =
    omega (arith, ap length split, length-append ((b ++ y) ++ z) w, both) in
    let n = octets16 (length w) in
    set ∙ ap₂ (λ x k. x ++ (octets16 k ++ drop (length b + 10) after)) front long
    ∙ ap (λ x. (b ++ y) ++ (n ++ x)) back
    ∙ append_assoc b y (n ++ w) ∙ ap (λ x. b ++ x) (sym (append_assoc y n w))

-- the octets before those ten stay as well
patched_follows : {b after now : Octets} (x : Octets)
    → Follows b after → now ≡ take (length b + 8) after ++ x → Follows b now
patched_follows {b} {after} x f set = grind (arith, take-append-add, append_assoc)

-- offsets that are right for the names in some octets are right for the same names in other octets
holds_again : {head : Octets → ℕ} {ms : List Placed} {b b' : Octets} {ks ks' : List Kept}
    → Holds head ms b ks → Holds head ms b' ks' → Holds head ms b' ks
holds_again here there = grind arith

-- a part that was written, and the parts after it
pub writes_more : {head head' head'' : Octets → ℕ} {d d' d'' : PartialMessage} {t fits : Bool}
    (x : Part) (ps : List Part) → t ≡ true → Writes head head' d d' (part_laid x) t → Writes
    head' head'' d' d'' (all_laid ps) fits → Writes head head'' d d'' (all_laid (x ∷ ps)) fits
writes_more x ps is first next =
    writes_as (both_laid (part_laid x) (all_laid ps))
    (all_laid (x ∷ ps)) (data_more x ps) (writes_both (part_laid x) (all_laid ps) (λ _ _ _. tt) is first next)

pub writes_last : {head head' : Octets → ℕ} {d d' : PartialMessage} {fits : Bool} (x : Part)
    → Writes head head' d d' (part_laid x) fits → Writes head head' d d' (all_laid (x ∷ [])) fits
writes_last x w = writes_as (part_laid x) (all_laid (x ∷ [])) (data_last x) w

-- if the first part does not fit, the parts do not
pub writes_short : {head head' : Octets → ℕ}
    {d d' : PartialMessage} {t fits : Bool} (x : Part) (ps : List Part) → t ≡ false → fits ≡ false
    → Writes head head' d d' (part_laid x) t → Writes head head' d d' (all_laid (x ∷ ps)) fits
writes_short x ps is is_too w = writes_past (part_laid x) (all_laid (x ∷ ps)) is is_too
    (λ ms p. let l =
    part_laid x ms p in omega (
      arith,
      ap (λ (z : Laid). length z.written) (data_more x ps ms p),
      length-append l.written (data_laid (ms ++ l.names) (p + length l.written) ps).written,
    )) w

-- the parts of data
pub writes_parts : {head head' : Octets → ℕ}
    {d d' : PartialMessage} {fits : Bool} {ps : List Part} (t : ℕ) (o : Octets) → laid_parts t o ≡ ps
    → Writes head head' d d' (all_laid ps) fits → Writes head head' d d' (parts_laid t o) fits
writes_parts {head} {head'} {d} {d'} {fits} t o is w = grind arith

-- After the data is written, its length is written into octets that are in no name.
pub tail_written : {head head' : Octets → ℕ} {d d' d'' : PartialMessage} (t ttl : ℕ) (o b : Octets)
    → d.asked_end ≤ length d.octets → Writes head head d d' (octets_laid (numbers_of t ttl 0)) true
    → Writes head head' d' d'' (parts_laid t o) true → b ≡ take (length d.octets + 8) d''.octets
    ++ (octets16 (length d''.octets - length d.octets - 10) ++ drop (length d.octets + 10)
    d''.octets) → Writes head head' d (record d'' { octets = b }) (tail_laid t ttl o) true
tail_written {head} {head'} {d} {d'} {d''} t ttl o now inside first next set =
    let number = suffix_number head in
    let b = d.octets in
    let b'' = d''.octets in
    let rest = octets16 (length b'' - length b - 10) ++ drop (length b + 10) b'' in
    let grown = grows_again first.grows next.grows in
    record {
      grows = record {
        octets = patched_follows rest grown.octets set;
        kept = grown.kept;
        asked = grown.asked;
        limit = grown.limit;
        counts = grown.counts;
      };
      same = next.same;
      written = λ ms holds _.
          let one = first.written ms holds tt in
          let b' = d'.octets in
          let ks' = known_offsets number d' in
          let there : Holds number ms b' ks' = subst₂ (λ m x. Holds number m x ks')
          (append-nil ms) (sym one.written) (one.stands b refl holds) in
          let two = next.written ms there tt in
          let offset : length b' ≡ length b + 10 =
          ap length one.written ∙ length-append b (numbers_of t ttl 0) in
          let l = parts_laid t o ms (length b + 10) in
          let same : parts_laid t o ms (length b') ≡ l = ap (parts_laid t o ms) offset in
          let w = l.written in
          let numbers = numbers_of t ttl (length w) in
          let after : b'' ≡ b' ++ w = two.written ∙ ap (λ (l : Laid). b' ++ l.written) same in
          let laid : now ≡ b ++ (numbers ++ w) =
          patched b (octets16 t ++ octets16 class_in ++ octets32 ttl)
          (octets16 0) w b'' now refl refl (after ∙ ap (λ x. x ++ w) one.written) set in
          let fits = two.exactly.0 refl in
          let long = ap length after ∙ length-append b' w in
          let same_limit = first.grows.limit in
          let front : take d''.asked_end now ≡ take d''.asked_end b'' =
          take_patched d''.asked_end (length b + 8) b'' rest _ set
          (omega (arith, inside, grown.asked)) (omega (arith, long, offset)) in
          let kept : known_offsets number (record d'' { octets = now }) ≡ known_offsets number d'' =
          kept_same number _ _ _ _ _ _ front refl refl in
          record {
            exactly = grind (arith, length-append);
            written = laid;
            stands = λ x long_x known.
                let here : Holds number ms (x ++ numbers) ks' =
                holds_again there (holds_octets numbers known) in
                let all = two.stands
                (x ++ numbers) (omega (arith, long_x, offset, length-append x numbers)) here in
                subst₂
                (λ z k. Holds number (ms ++ l.names) z k) (append_assoc x numbers w) (sym kept)
                (subst (λ (l : Laid). Holds number (ms ++ l.names)
                ((x ++ numbers) ++ l.written) (known_offsets number d'')) same all);
          };
    }
