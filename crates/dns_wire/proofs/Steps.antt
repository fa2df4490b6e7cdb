-- Steps of writing, one after another, write what is laid out one after another.
use Rattle.dns_wire.proofs.Common.{◌≡◌, ℕ, ◌+◌, ◌*◌, ◌<◌, ◌≤◌, Bool, true, false, List, [], ◌++◌, length, take, refl, sym, ap₂, subst, subst₂, arith, append_assoc, append-nil, length-append, false≢true, take-append_seam, Octets, Placed, Kept, suffix_number, Holds, IsAsked, Layout, octets_laid, PartialMessage, partial_of, with_octets, HasNames, Grows, Writes, WritesAfter, IsWellKept, Counts}
use Rattle.dns_wire.proofs.AskedLemmas.{is_asked_more, kept_more}
use Rattle.dns_wire.proofs.NameWritten.{holds_octets}
use Rattle.dns_wire.proofs.SuffixLemmas.{follows_none, follows_again}
use Rattle.dns_spec.specs.Layout.{laid_front}

-- one layout after another
abbrev pub both_laid : Layout → Layout → Layout
both_laid f g ms p =
    let l = f ms p in
    laid_front l.written l.names (g (ms ++ l.names) (p + length l.written))

-- a builder stays well kept with other octets, offsets and counts that satisfy the bounds
pub kept_with : {N size a : ℕ} {b : Octets} {ks : List Kept} {n : Counts} {d : PartialMessage} → IsWellKept N
    size d → length b ≤ d.limit → 2 * length ks ≤ length b → IsAsked b a → 12 ≤ length b → n.answers
    + n.authorities + n.additionals ≤ length b → IsWellKept N size (partial_of d.limit b a ks n)
kept_with s within few asked header fit = grind arith

-- a builder stays well kept with more octets at the end, if they fit the limit
pub kept_longer : {N size : ℕ} {d : PartialMessage} (o : Octets) → IsWellKept N size d
    → length d.octets + length o ≤ d.limit → IsWellKept N size (with_octets d o)
kept_longer {d = d} o s fits =
    omega (arith, length-append d.octets o, is_asked_more o s.asked refl refl)

pub grows_not : (d : PartialMessage) → Grows d d
grows_not d = grind (arith, follows_none)

pub grows_again : {d d' d'' : PartialMessage} → Grows d d' → Grows d' d'' → Grows d d''
grows_again g h = grind (arith, follows_again)

-- a message that has grown is as it was before once the additions are taken back
pub taken_back : {d d' : PartialMessage} {k j : ℕ} → Grows d d' → k ≡ length d.octets
    → j ≡ length d.kept → record d' { octets = take k d'.octets; kept = take j d'.kept } ≡ d
taken_back {d} {d'} {k} {j} g octets kept = grind (arith, ap₂, take-append_seam)

-- octets that fit are written, and no offsets are kept
pub octets_written : {d d' : PartialMessage} (head : Octets → ℕ) (o : Octets)
    → IsAsked d.octets d.asked_end → length d.octets + length o ≤ d.limit
    → d' ≡ with_octets d o → Writes head head d d' (octets_laid o) true
octets_written {d} head o asked fits is =
    subst (λ d'. Writes head head d d' (octets_laid o) true) (sym is) (record {
      grows = record {
        octets = record { more = o; whole = refl };
        kept = follows_none d.kept;
        asked = refl;
        limit = refl;
        counts = refl;
      };
      same = refl;
      written = λ ms holds _.
          let kept = kept_more (suffix_number head) _ _ _ _ _ _ o asked refl refl refl in
          record {
            exactly = (λ yes. omega (arith, fits, length-append d.octets o), λ h. refl);
            written = refl;
            stands = λ x same there. subst₂ (λ m k. Holds (suffix_number head) m (x ++ o) k)
                (sym (append-nil ms)) (sym kept) (holds_octets o there);
          };
    })

pub none_written : (head : Octets → ℕ) (d : PartialMessage) → IsAsked d.octets d.asked_end
    → length d.octets ≤ d.limit → Writes head head d d (octets_laid []) true
none_written head d asked within = grind (arith, octets_written, append-nil)

pub writes_as : {known : List Placed → Type 0} {head head' : Octets → ℕ} {d d' : PartialMessage} {fits : Bool}
    (f g : Layout) → ((ms : List Placed) (p : ℕ) → f ms p ≡ g ms p)
    → WritesAfter known head head' d d' f fits → WritesAfter known head head' d d' g fits
writes_as {known} {head} {d = d} {d'} {fits} f g same w = grind arith

-- a step after one that wrote its layout: together they write both layouts
pub writes_both : {known known' : List Placed → Type 0} {head head' head'' : Octets → ℕ}
    {d d' d'' : PartialMessage} {t fits : Bool} (f g : Layout)
    → ((ms : List Placed) → HasNames d head ms → known ms
    → known' (ms ++ (f ms (length d.octets)).names)) → t ≡ true
    → WritesAfter known head head' d d' f t → WritesAfter known' head' head'' d' d'' g fits
    → WritesAfter known head head'' d d'' (both_laid f g) fits
writes_both {known} {known'} {head} {head'} {head''} {d} {d'} {d''} {t} {fits} f g link is first next =
    grind (arith, length-append, append_assoc)

-- if a part does not fit, the whole does not
pub writes_past : {known : List Placed → Type 0} {head head' : Octets → ℕ} {d d' : PartialMessage}
    {t fits : Bool} (f g : Layout) → t ≡ false → fits ≡ false
    → ((ms : List Placed) (p : ℕ) → length (f ms p).written ≤ length (g ms p).written)
    → WritesAfter known head head' d d' f t → WritesAfter known head head' d d' g fits
writes_past {d = d} {fits = fits} f g is is_too longer w = grind (arith, false≢true, length-append)

pub never_written : (head : Octets → ℕ) (d : PartialMessage) (f : Layout) (k : ℕ) → d.limit < length d.octets
    + k → ((ms : List Placed) (p : ℕ) → k ≤ length (f ms p).written) → Writes head head d d f false
never_written head d f k over long = record {
  grows = grows_not d;
  same = refl;
  written = grind (arith, false≢true, length-append);
}
