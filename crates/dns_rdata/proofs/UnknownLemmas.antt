-- Words of hex digits, read from left to right, each of whole octets.
use Rattle.dns_rdata.proofs.Common.{◌≡◌, ◌<◌, ◌≤◌, ℕ, true, false, List, [], ◌∷◌, ◌++◌, length, sym, ◌∙◌, ap, arith, subst, ◌+◌, drop, get_or, decimal, IsTrue, length-append, list_all, flat_map, option_map, and_parts, eqb-true, decimal_injective, Octets, Some, not, Result, IfErr, IsErrAnd, append_assoc, append-nil, Word, is_hex_word, hex_octets, SaysHex, SaysUnknown, AppendsHex, SaysHexWord, AppendsWord}
use Rattle.dns_rdata.proofs.FormFronts.{item-front}
use Rattle.dns_rdata.proofs.HexLemmas.{joined_octets, hex_octets-append, even_digits}

-- the digits of words, in order
abbrev pub digits_in : List Word → Octets
digits_in ws = flat_map (λ (w : Word). w.raw) ws

joined : (ws : List Word) (w : Word) → IsTrue (is_hex_word w)
    → hex_octets (digits_in (w ∷ ws)) ≡ joined_octets (hex_octets w.raw) (hex_octets (digits_in ws))
joined ws w h = grind (arith, hex_octets-append, eqb-true, and_parts)

-- The words are all of whole octets if and only if those in `rest` are. They spell the octets so
-- far, followed by what `rest` spells.
pub record WordsSoFar (ws rest : List Word) (octets : Octets) : Type 0 where
  pub hex : list_all is_hex_word ws ≡ list_all is_hex_word rest
  pub whole : hex_octets
      (digits_in ws) ≡ option_map (λ d. octets ++ d) (hex_octets (digits_in rest))

pub WordsSoFar-more : (ws rest : List Word) (w : Word) (old new : Octets)
    → WordsSoFar ws (w ∷ rest) old → AppendsWord w old new → WordsSoFar ws rest new
WordsSoFar-more ws rest w old new so_far (d, said, e) =
    grind (arith, joined, joined_octets, append_assoc)

-- the words from the one at an index on
pub WordsSoFar-at : (ws : List Word) (i : ℕ) (w : Word) (octets : Octets) → i < length ws
    → w ≡ get_or ws i w → WordsSoFar ws (drop i ws) octets
    → WordsSoFar ws (w ∷ drop (i + 1) ws) octets
WordsSoFar-at ws i w octets inside is so_far = grind (arith, item-front)

pub WordsSoFar-end : (ws : List Word) (octets : Octets)
    → WordsSoFar ws [] octets → SaysHex ws octets
unfolding hex_octets
WordsSoFar-end ws octets so_far = (so_far.hex, so_far.whole ∙ ap (λ d. Some d) (append-nil octets))

-- if the words spell d, then d is the octets so far, followed by what `rest` spells
pub rest_says : (ws rest : List Word) (octets d : Octets)
    → WordsSoFar ws rest octets → SaysHex ws d → (e : Octets) × SaysHex rest e × (d ≡ octets ++ e)
rest_says ws rest octets d so_far (all, says) = grind arith

-- if the first word spells the number of octets that the others spell, all words spell this data
pub says_unknown : (w : Word) (ws : List Word) (count : ℕ) (octets : Octets)
    → IsTrue (not w.is_quoted) → w.raw ≡ decimal count
    → length octets ≡ count → WordsSoFar ws [] octets → SaysUnknown (w ∷ ws) octets
says_unknown w ws count octets unquoted number long so_far = grind (arith, WordsSoFar-end)

-- the length of the data that the words spell is what the first word spells
pub count_is_length : (w : Word) (count : ℕ) (d : Octets) → w.raw ≡ decimal count
    → w.raw ≡ decimal (length d) → count ≤ 65535 → length d ≤ 65535 → length d ≡ count
count_is_length w count d number says few short = grind (arith, decimal_injective)

-- the words spell only the octets that were read
pub only_octets : (w : Word) (ws : List Word) (octets d : Octets)
    → WordsSoFar ws [] octets → SaysUnknown (w ∷ ws) d → d ≡ octets
unfolding hex_octets
only_octets w ws octets d so_far said = grind (arith, WordsSoFar-end)

-- if there are more octets than the first word states, the words spell no data
pub past_count : (w : Word) (ws rest : List Word) (count : ℕ) (octets d : Octets)
    → WordsSoFar ws rest octets → w.raw ≡ decimal count
    → count < length octets → count ≤ 65535 → SaysUnknown (w ∷ ws) d → length d ≤ 65535 → ⊥
past_count w ws rest count octets d so_far number over few said short =
    let (e, says, split) = rest_says ws rest octets d so_far said.2 in
    omega (
      arith,
      over,
      count_is_length w count d number said.1 few short,
      ap length split,
      length-append octets e,
    )

-- if a word does not spell octets, all words spell no data
pub word_refused : (w : Word) (ws rest : List Word) (octets d : Octets)
    → WordsSoFar ws (w ∷ rest) octets → ((e : Octets) → SaysHexWord w e → ⊥) → SaysHex ws d → ⊥
word_refused w ws rest octets d so_far none said =
    grind (arith, rest_says, joined, and_parts, joined_octets)

-- what holds for an error holds for it when it is passed on
pub same_fault : {X E : Type 0} (r : Result X E) (Q : E → Type 0) (f : E)
    → IsErrAnd r (λ e. e ≡ f) → Q f → IfErr r Q
same_fault r Q f h h1 = grind arith

-- an unquoted word that is not empty, and whose digits were appended, spells what was appended
pub word_appends : (w : Word) (text old new : Octets) → w.is_quoted ≡ false
    → text ≡ w.raw → (length text ≡ 0 → ⊥) → AppendsHex text true old new → AppendsWord w old new
word_appends w text old new unquoted same more (d, says, e) = grind (arith, even_digits)
