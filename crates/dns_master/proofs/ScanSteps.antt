-- The place of a word of an entry, sought token by token.
use Rattle.dns_master.proofs.Common.{◌≡◌, ℕ, zero, suc, ◌+◌, ◌-◌, ◌≤◌, Bool, true, false, ◌&&◌, not, if◌then◌else◌, List, length, drop, refl, ap, ap₂, ◌∙◌, arith, Some, None, Octets, Token, token_front, is_line_end, word_of, cons_option, front-shorter, StepIs}
use Rattle.std.specs.List.{filter_map}
use Rattle.std.specs.Option.{is_some}
use Rattle.dns_spec.specs.ZoneText.{stop_at}
use Rattle.dns_spec.specs.EntryPlaces.{PlacedToken, Ending, Span, is_misplaced, after_token, word_place, empty_place, before_end, stop_octets, read_entry}
use Rattle.dns_spec.specs.AllFaults.{first_place}
use Rattle.dns_master.specs.declared.entry.Step.TheVariants.{Onward}
use Rattle.dns_master.proofs.EntryFacts.{goes_on, stops_wrong, ends_line, stops, same-end, by-one}

-- the place of the word after `left` of the words that were read, or the end of the entry
abbrev spot : ℕ → ℕ → List PlacedToken × Ending → Span
spot total left r =
    first_place (drop left (filter_map word_place r.0)) (empty_place (before_end total r.0 r.1))

no-word : (b : Bool) (p : Token) → (is_line_end p && not b) ≡ true → word_of p ≡ None
no-word b p e = grind arith

module _ (total : ℕ) where
  -- the same, in the entry that the rest of a text continues
  abbrev pub SpotIs : ℕ → Bool → Octets → Span → Type 0
  SpotIs left b text place = (k : ℕ) → length text ≤ k
      → spot total left (read_entry k b (total - length text) text) ≡ place

  -- no token begins the text
  pub spot-stopped : (left : ℕ) (b : Bool) (text : Octets) → token_front text ≡ None
      → SpotIs left b text (empty_place (total - length (stop_octets (stop_at text))))
  spot-stopped zero b text e k few = rw (stops k b (total - length text) text e) refl
  spot-stopped (suc left) b text e k few = rw (stops k b (total - length text) text e) refl

  module _ (b : Bool) (text others : Octets) (p : Token)
      (front : token_front text ≡ Some (p, others)) (short : length text ≤ total) where
    -- the token is a misplaced parenthesis, or ends the entry
    pub spot-wrong : (left : ℕ) → is_misplaced b p ≡ true
        → SpotIs left b text (empty_place (total - length text))
    spot-wrong zero e = by-one text others p front _ (λ k few.
        rw (stops_wrong k b (total - length text) text others p front e) refl)
    spot-wrong (suc left) e = by-one text others p front _ (λ k few.
        rw (stops_wrong k b (total - length text) text others p front e) refl)

    pub spot-ended : (left : ℕ) → is_misplaced b p ≡ false → (is_line_end p && not b) ≡ true
        → SpotIs left b text (empty_place (total - length text))
    spot-ended zero sound e = by-one text others p front _ (λ k few.
        rw (ends_line k b (total - length text) text others p front sound e)
        (rw (no-word b p e) refl))
    spot-ended (suc left) sound e = by-one text others p front _ (λ k few.
        rw (ends_line k b (total - length text) text others p front sound e)
        (rw (no-word b p e) refl))

    -- the entry goes on after the token
    module _ (now : Bool) (step : StepIs b p (Onward now)) where
      abbrev one : PlacedToken
      one = record {
        token = p;
        place = record { begins = total - length text; ends = total - length others };
      }

      abbrev later : ℕ → List PlacedToken × Ending
      later k = read_entry k now (total - length others) others

      here-is : (k : ℕ)
          → read_entry (suc k) b (total - length text) text ≡ after_token one (later k)
      here-is k =
          let passed : total - length text + (length text - length others) ≡ total - length others
          = omega (arith, short, front-shorter text p others front) in
          goes_on k b (total - length text) text others p front step.0 step.1
          ∙ ap₂ (λ n c. after_token (record {
            token = p;
            place = record { begins = total - length text; ends = n };
          }) (read_entry k c n others)) passed step.2

      spot-on : (k left : ℕ) → spot total left (read_entry (suc k) b (total - length text) text)
          ≡ first_place
          (drop left (cons_option (word_place one) (filter_map word_place (later k).0)))
          (empty_place (before_end total (later k).0 (later k).1))
      spot-on k left = ap (spot total left) (here-is k)
          ∙ ap (λ n. first_place (drop left (cons_option (word_place one)
          (filter_map word_place (later k).0))) (empty_place n))
          (same-end total one k now (total - length others) others)

      abbrev at-word : ℕ → ℕ → Bool → Span
      at-word k left is = first_place (drop left (cons_option (if is then Some one.place else None)
          (filter_map word_place (later k).0)))
          (empty_place (before_end total (later k).0 (later k).1))

      -- a token that is not a word
      pub spot-other : (left : ℕ) (place : Span) → is_some (word_of p) ≡ false
          → SpotIs left now others place → SpotIs left b text place
      spot-other left place none h = by-one text others p front _ (λ k few.
          spot-on k left ∙ ap (at-word k left) none ∙ h k few)

      -- the word that is sought
      pub spot-word : is_some (word_of p) ≡ true → SpotIs 0 b text one.place
      spot-word is = by-one text others p front _ (λ k few. spot-on k 0 ∙ ap (at-word k 0) is)

      -- a word before the one that is sought
      pub spot-passed : (left : ℕ) (place : Span) → is_some (word_of p) ≡ true
          → SpotIs left now others place → SpotIs (suc left) b text place
      spot-passed left place is h = by-one text others p front _ (λ k few.
          spot-on k (suc left) ∙ ap (at-word k (suc left)) is ∙ h k few)
