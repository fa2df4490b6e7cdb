-- A stream is its frames and the rest, and the rest after all frames is empty or a frame that was
-- cut short.
use Rattle.dns_spec.proofs.Common.{common_steps, leb-true, le-leb, leb-false, none-some, cond_some, take_at, drop_at, length-take-le, All-head, All-tail, All-drop, flat_map, Octets, field16, octets16, ◌≡◌, ℕ, zero, suc, ◌+◌, ◌-◌, ◌*◌, ◌^◌, ◌<◌, ◌≤◌, Bool, true, false, cond, nat_le, ◌⊎◌, inl, inr, List, [], ◌∷◌, ◌++◌, length, take, drop, replicate, All, Option, None, Some, refl, sym, ap, ap₂, ◌∙◌, subst, arith, append_assoc, zero-add, length-append, length-drop, take-append-drop, frame, has_frame, first_frame, frames, after_frames, IsCutFrame, recursion_from_All}

-- two octets are the number that they encode, and are read as it
pub two_octets : (a b : ℕ) → a < 256 → b < 256 → octets16 (a * 256 + b) ≡ a ∷ b ∷ []
two_octets a b ha hb = ap₂ (λ x y. x ∷ y ∷ []) (omega arith) (omega arith)

pub front_is : (x : Octets)
    → All (λ o. o < 256) x → 2 ≤ length x → octets16 (field16 x 0) ++ drop 2 x ≡ x
front_is x h h1 = grind (arith, common_steps, recursion_from_All, two_octets)

first_splits : (x m y : Octets)
    → All (λ o. o < 256) x → first_frame x ≡ Some (m, y) → (frame m ++ y ≡ x) × All (λ o. o < 256) y
unfolding first_frame
first_splits x m y low e =
    let n = field16 x 0 in
    let c = cond_some (has_frame x) (take n (drop 2 x), drop n (drop 2 x)) (m, y) e in
    let whole = leb-true (2 + n) (length x) c.0 in
    let two : 2 ≤ length x = omega (arith, whole) in
    let message : take n (drop 2 x) ≡ m = ap (λ r. r.0) c.1 in
    let rest : drop n (drop 2 x) ≡ y = ap (λ r. r.1) c.1 in
    let len : length m ≡ n = grind (arith, length-take-le, length-drop) in (
      ap (λ k. (octets16 k ++ m) ++ y) len ∙ append_assoc (octets16 n) m y
          ∙ ap (λ z. octets16 n ++ z) (ap₂ ◌++◌ (sym message) (sym rest)
          ∙ take-append-drop n (drop 2 x)) ∙ front_is x low two,
      subst (All (λ o. o < 256)) rest
          (All-drop (λ o. o < 256) n (drop 2 x) (All-drop (λ o. o < 256) 2 x low)),
    )

pub framed_whole : (k : ℕ) (x : Octets)
    → All (λ o. o < 256) x → flat_map frame (frames k x) ++ after_frames k x ≡ x
unfolding frames after_frames
framed_whole zero x low = refl
framed_whole (suc k) x low = go (first_frame x) refl (framed_whole k)
  where
    go : (f : Option (Octets × Octets)) → first_frame x ≡ f → ((y : Octets)
        → All (λ o. o < 256) y → flat_map frame (frames k y) ++ after_frames k y ≡ y)
        → flat_map frame (elim f as (λ _. List Octets) [ None ↦ [] | Some r ↦ r.0 ∷ frames k r.1 ])
        ++ (elim f as (λ _. Octets) [ None ↦ x | Some r ↦ after_frames k r.1 ]) ≡ x
    go None e more = refl
    go (Some (m, y)) e more =
        let s = first_splits x m y low e in grind (arith, append_assoc, flat_map)

-- octets that do not begin with a whole frame are empty, or a frame that was cut short
pub length_zeros : (n : ℕ) → length {A = ℕ} (replicate n 0) ≡ n
length_zeros zero = refl
length_zeros (suc n) = ap suc (length_zeros n)

pub cut_frame : (x : Octets) → All (λ o. o < 256) x → first_frame x ≡ None → (x ≡ []) ⊎ IsCutFrame x
unfolding first_frame
cut_frame [] low e = inl refl
cut_frame (a ∷ []) low e =
    let ha : a < 256 = All-head (λ o. o < 256) a [] low in
    inr (record {
      message = replicate (a * 256) 0;
      short = omega (arith, length_zeros (a * 256), ha);
      missing = 0 ∷ replicate (a * 256) 0;
      whole = grind (arith, length_zeros, two_octets);
      some = omega arith;
      cut = omega arith;
    })
cut_frame (a ∷ b ∷ x) low e = go (nat_le (2 + n) (length (a ∷ b ∷ x))) refl e
  where
    n : ℕ
    n = field16 (a ∷ b ∷ x) 0

    go : (t : Bool) → nat_le (2 + n) (length (a ∷ b ∷ x)) ≡ t → ◌≡◌ {A = Option (Octets × Octets)}
        (cond t (Some (take n x, drop n x)) None) None → (a ∷ b ∷ x ≡ []) ⊎ IsCutFrame (a ∷ b ∷ x)
    go true p q = absurd (none-some (take n x, drop n x) (sym q))
    go false p q =
        let l = recursion_from_All (λ o. o < 256) (a ∷ b ∷ x) low in
        let ha : a < 256 = l.0 in
        let hb : b < 256 = l.1.0 in
        let value : n ≡ a * 256 + b = omega arith in
        let short : length (a ∷ b ∷ x) < 2 + n = leb-false (2 + n) (length (a ∷ b ∷ x)) p in
        let zeros : Octets = replicate (n - length x) 0 in
        let len : length (x ++ zeros) ≡ a * 256 + b =
        length-append x zeros ∙ omega (arith, length_zeros (n - length x), short, value) in
        inr (record {
          message = x ++ zeros;
          short = omega (arith, len, ha, hb);
          missing = zeros;
          whole = grind (arith, two_octets);
          some = omega arith;
          cut = omega (arith, length_zeros (n - length x), short);
        })

pub rest_cut : (k : ℕ) (x : Octets) → All (λ o. o < 256) x
    → length (frames k x) < k → (after_frames k x ≡ []) ⊎ IsCutFrame (after_frames k x)
unfolding frames after_frames
rest_cut zero x low h = absurd (omega arith)
rest_cut (suc k) x low h = go (first_frame x) refl h (rest_cut k)
  where
    go : (f : Option (Octets × Octets)) → first_frame x ≡ f → length (elim f as (λ _. List Octets)
        [ None ↦ [] | Some r ↦ r.0 ∷ frames k r.1 ]) < suc k → ((y : Octets) → All (λ o. o < 256) y
        → length (frames k y) < k → (after_frames k y ≡ []) ⊎ IsCutFrame (after_frames k y))
        → ((elim f as (λ _. Octets) [ None ↦ x | Some r ↦ after_frames k r.1 ]) ≡ [])
        ⊎ IsCutFrame (elim f as (λ _. Octets) [ None ↦ x | Some r ↦ after_frames k r.1 ])
    go None e l more = cut_frame x low e
    go (Some (m, y)) e l more = more y (first_splits x m y low e).1 (omega arith)

-- frames of messages are read as these messages
first_again : (m z : Octets) → length m < 2 ^ 16 → first_frame (frame m ++ z) ≡ Some (m, z)
unfolding first_frame
first_again m z h = grind (arith, le-leb, length-append, ap₂, take_at, drop_at)

pub frames_again : (k : ℕ) (ms : List Octets) (x : Octets) → All (λ m. length m < 2 ^ 16) ms
    → frames (length ms + k) (flat_map frame ms ++ x) ≡ ms ++ frames k x
unfolding frames
frames_again k [] x h = ap (λ n. frames n x) (zero-add k)
frames_again k (m ∷ ms) x h =
    let more = flat_map frame ms ++ x in
    let first : first_frame ((frame m ++ flat_map frame ms) ++ x) ≡ Some (m, more) =
    ap first_frame (append_assoc (frame m) (flat_map frame ms) x)
    ∙ first_again m more (All-head (λ m. length m < 2 ^ 16) m ms h) in
    let count : length (m ∷ ms) + k ≡ suc (length ms + k) = omega arith in
    ap (λ n. frames n ((frame m ++ flat_map frame ms) ++ x)) count
    ∙ ap (λ (f : Option (Octets × Octets)). elim f as
    (λ _. List Octets) [ None ↦ [] | Some r ↦ r.0 ∷ frames (length ms + k) r.1 ]) first
    ∙ ap (λ z. m ∷ z) (frames_again k ms x (All-tail (λ m. length m < 2 ^ 16) m ms h))
