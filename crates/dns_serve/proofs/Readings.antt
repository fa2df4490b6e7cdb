-- What several calls of a source give to a frame together.
use Rattle.dns_spec.proofs.Common.{◌≡◌, ℕ, ◌+◌, ◌^◌, ◌<◌, ◌≤◌, ◌⊎◌, inl, inr, All, [], ◌∷◌, ◌++◌, length, drop, take, take_all, Option, None, Some, Keeps, sym, ap, ◌∙◌, arith, subst, recursion_from_All, length-drop, leb-true, cases_lt, Consumes, Consumes-trans, IsAtEnd, Octets, field16, octets16, frame, first_frame, append-nil}
use Rattle.std.proofs.lemmas.Bool.Decides.{nat_tests}
use Rattle.dns_spec.proofs.Streams.StreamFrames.{front_is, cut_frame}
use Rattle.dns_serve.specs.Framing.{FrameState, HasCome, missing_of}
use Rattle.dns_serve.specs.Reads.{GivesMessage, GivesPart, GivesBeginning}
use Rattle.dns_serve.proofs.Framing.{length_again}

-- Octets of the source have come to a frame.
pub record Came (old new : Option Octets) (f : FrameState) : Type 0 where
  pub octets : Octets
  pub consumed : Consumes old new octets
  pub has_come : HasCome f octets

-- how many octets are missing, by the octets that have come
missing_is : (f : FrameState) (x : Octets) → HasCome f x → 2 ≤ length x
    → length x + missing_of f ≡ 2 + field16 x 0
missing_is f x h two =
    let same : field16 f.kept 0 ≡ field16 x 0 =
    ap (λ k. field16 k 0) h.kept ∙ length_again 514 x (omega arith) in
    grind (arith, nat_tests, h.within two)

-- the octets do not begin with a complete frame, because they are fewer than its length says
no_frame : (x : Octets) → length x < 2 + field16 x 0 → first_frame x ≡ None
unfolding first_frame
no_frame x h = grind (arith, leb-true)

-- octets that do not complete a frame do not begin with one
pub part_of_frame : (f : FrameState) (x : Octets) → HasCome f x → 0 < missing_of f
    → first_frame x ≡ None
part_of_frame f x h some = no_frame x (go (cases_lt (length x) 2))
  where
    go : (length x < 2) ⊎ (2 ≤ length x) → length x < 2 + field16 x 0
    go (inl less) = omega arith
    go (inr more) = omega (arith, missing_is f x h more)

two_low : (x : Octets) → All (λ o. o < 256) x → 2 ≤ length x → field16 x 0 < 2 ^ 16
two_low [] low two = absurd (omega (arith, two))
two_low (a ∷ []) low two = absurd (omega (arith, two))
two_low (a ∷ b ∷ x) low two =
    let l = recursion_from_All (λ o. o < 256) (a ∷ b ∷ x) low in
    let ha : a < 256 = l.0 in
    let hb : b < 256 = l.1.0 in
    omega arith

-- octets that complete a frame are that frame
pub whole_frame : (f : FrameState) (x : Octets) → HasCome f x
    → missing_of f ≡ 0 → (frame (drop 2 x) ≡ x) × (length (drop 2 x) < 2 ^ 16)
whole_frame f x h none = go (cases_lt (length x) 2)
  where
    go : (length x < 2) ⊎ (2 ≤ length x) → (frame (drop 2 x) ≡ x) × (length (drop 2 x) < 2 ^ 16)
    go (inl less) = absurd (grind (arith, nat_tests, h.came))
    go (inr more) =
        let count : length (drop 2 x) ≡ field16 x 0 =
        omega (arith, length-drop 2 x, missing_is f x h more, none) in (
          ap (λ k. octets16 k ++ drop 2 x) count ∙ front_is x h.low more,
          subst (λ k. k < 2 ^ 16) (sym count) (two_low x h.low more),
        )

pub came_whole : (a b : Option Octets) (f : FrameState)
    → Came a b f → missing_of f ≡ 0 → GivesMessage a b f
came_whole a b f c none =
    let w = whole_frame f c.octets c.has_come none in
    record {
      message = drop 2 c.octets;
      consumed = subst (Consumes a b) (sym w.0) c.consumed;
      short = w.1;
      has_come = subst (HasCome f) (sym w.0) c.has_come;
    }

pub came_more : (a b d : Option Octets) (f then : FrameState) (piece : Octets) → Came a b f
    → Consumes b d piece → length piece ≤ missing_of f
    → ((x : Octets) → HasCome f x → HasCome then (x ++ take (missing_of f) piece)) → Came a d then
came_more a b d f then piece c consumed few more = record {
  octets = c.octets ++ piece;
  consumed = Consumes-trans a b d c.octets piece c.consumed consumed;
  has_come = subst (λ p. HasCome then (c.octets ++ p))
      (take_all (missing_of f) piece few) (more c.octets c.has_come);
}

-- the source has given no more
nothing_came : (a b d : Option Octets) (f : FrameState) (c : Came a b f)
    → Consumes b d [] → Consumes a d c.octets
nothing_came a b d f c consumed = subst (Consumes a d) (append-nil c.octets)
    (Consumes-trans a b d c.octets [] c.consumed consumed)

pub came_part : (a b d : Option Octets) (f : FrameState) (n : ℕ) (buf : Octets) → Came a b f
    → 0 < missing_of f → 0 < f.came → n ≡ 0 → Consumes b d (take n buf) → IsAtEnd d → GivesPart a d
came_part a b d f n buf c left some zero consumed over =
    let none = part_of_frame f c.octets c.has_come left in
    record {
      part = c.octets;
      consumed = nothing_came a b d f c (subst (λ k. Consumes b d (take k buf)) zero consumed);
      cut = elim (cut_frame c.octets c.has_come.low none)
          [ inl e ↦ absurd (omega (arith, ap length e, c.has_come.came)) | inr cut ↦ cut ];
      no_frame = none;
      over = over;
    }

pub came_beginning : (a b d : Option Octets) (f : FrameState) → Came a b f → 0 < missing_of f
    → Consumes b d [] → GivesBeginning a d
came_beginning a b d f c left consumed = record {
  given = c.octets;
  consumed = nothing_came a b d f c consumed;
  no_frame = part_of_frame f c.octets c.has_come left;
}

pub kept_is_consumed : (a b : Option Octets) → Keeps a b → Consumes a b []
kept_is_consumed None b k = tt
kept_is_consumed (Some x) None k = k
kept_is_consumed (Some x) (Some y) k = sym k
