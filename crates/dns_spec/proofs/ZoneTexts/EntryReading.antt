-- Reading an entry token by token, as far as its end or its lexical fault, finds the first of the
-- entries into which all tokens of a text are split.
use Rattle.dns_spec.proofs.Common.{◌≡◌, ℕ, zero, suc, ◌+◌, ◌-◌, ◌<◌, ◌≤◌, Bool, true, false, ◌&&◌, not, List, [], ◌∷◌, ◌++◌, length, map, fold, refl, ap, ◌∙◌, arith, Option, Some, None, Octets, Token, token_front, TokensThen, parentheses, is_line_end, open_after, before_first, cut_entries, take_turns, PlacedToken, Ending, after_line, at_parenthesis, at_stop, is_misplaced, after_token, read_entry}
use Rattle.dns_spec.proofs.ZoneTexts.TextTokens.{front-shorter}
use Rattle.dns_spec.proofs.ZoneTexts.BeginningsMean.{first_of_cut, cut-on, cut-off}

-- an entry that ends with its line end
pub record LineRead (b : Bool) (text : Octets) (ps : List Token) (rest : Octets) : Type 0 where
  pub spelled : TokensThen text ps rest
  pub cuts : (qs : List Token) → cut_entries b (ps ++ qs) ≡ ps ∷ cut_entries false qs
  pub shorter : length rest < length text

-- an entry up to the place at which no token begins
pub record StopRead (b : Bool) (text : Octets) (ps : List Token) (now : Bool)
    (rest : Octets) : Type 0 where
  pub spelled : TokensThen text ps rest
  pub at_end : token_front rest ≡ None
  pub cuts : cut_entries b ps ≡ ps ∷ []
  pub opens : fold open_after b ps ≡ now

-- the first entry of these tokens has a misplaced parenthesis
pub record WrongFirst (b : Bool) (ps : List Token) : Type 0 where
  pub first : List Token
  pub others : List (List Token)
  pub cuts : cut_entries b ps ≡ first ∷ others
  pub turns : take_turns b (parentheses first) ≡ false

-- an entry up to a misplaced parenthesis
pub record WrongRead (b : Bool) (text : Octets) (ps : List Token) : Type 0 where
  pub wrong : Token
  pub rest : Octets
  pub spelled : TokensThen text (ps ++ wrong ∷ []) rest
  pub wrong_first : (qs : List Token) → WrongFirst b (ps ++ wrong ∷ qs)

abbrev pub ReadsWell : Bool → Octets → List Token → Ending → Type 0
ReadsWell b text ps (after_line rest) = LineRead b text ps rest
ReadsWell b text ps (at_parenthesis place) = WrongRead b text ps
ReadsWell b text ps (at_stop now rest) = StopRead b text ps now rest

turns_on : (b : Bool) (p : Token) (ps : List Token)
    → take_turns (open_after b p) (parentheses ps) ≡ false
    → take_turns b (parentheses (p ∷ ps)) ≡ false
turns_on b p ps e = grind arith

turns_off : (b : Bool) (p : Token) (ps : List Token) → is_misplaced b p ≡ true
    → take_turns b (parentheses (p ∷ ps)) ≡ false
turns_off b p ps e = grind arith

no_line_end : (b : Bool) (p : Token) → is_misplaced b p ≡ true → (is_line_end p && not b) ≡ false
no_line_end b p e = grind arith

-- a token after which the entry goes on
module _ (b : Bool) (text others : Octets) (p : Token) (front : token_front text ≡ Some (p, others))
    (within : (is_line_end p && not b) ≡ false) where
  one_more : (ps : List Token) (ending : Ending)
      → ReadsWell (open_after b p) others ps ending → ReadsWell b text (p ∷ ps) ending
  one_more ps (after_line rest) r =
      record {
        spelled = (others, front, r.spelled);
        cuts = λ qs. cut-on b p (ps ++ qs) within ∙ ap (before_first p) (r.cuts qs);
        shorter = let less = front-shorter text p others front in omega arith;
      }
  one_more ps (at_parenthesis place) r =
      record {
        wrong = r.wrong;
        rest = r.rest;
        spelled = (others, front, r.spelled);
        wrong_first = λ qs.
            let w = r.wrong_first qs in
            record {
              first = p ∷ w.first;
              others = w.others;
              cuts = cut-on b p (ps ++ r.wrong ∷ qs) within ∙ ap (before_first p) w.cuts;
              turns = turns_on b p w.first w.turns;
            };
      }
  one_more ps (at_stop now rest) r =
      record {
        spelled = (others, front, r.spelled);
        at_end = r.at_end;
        cuts = cut-on b p ps within ∙ ap (before_first p) r.cuts;
        opens = r.opens;
      }

misplaced_read : (b : Bool) (text others : Octets) (p : Token)
    → token_front text ≡ Some (p, others) → is_misplaced b p ≡ true → WrongRead b text []
misplaced_read b text others p front e =
    record {
      wrong = p;
      rest = others;
      spelled = (others, front, refl);
      wrong_first = λ qs.
          let after = first_of_cut (open_after b p) qs in
          record {
            first = p ∷ after.first;
            others = after.others;
            cuts = cut-on b p qs (no_line_end b p e) ∙ ap (before_first p) after.is;
            turns = turns_off b p after.first e;
          };
    }

line_read : (b : Bool) (text others : Octets) (p : Token) → token_front text ≡ Some (p, others)
    → (is_line_end p && not b) ≡ true → LineRead b text (p ∷ []) others
line_read b text others p front e =
    record {
      spelled = (others, front, refl);
      cuts = λ qs. cut-off b p qs e;
      shorter = front-shorter text p others front;
    }

abbrev pub tokens_of : List PlacedToken → List Token
tokens_of ps = map (λ (p : PlacedToken). p.token) ps

abbrev WellRead : Bool → Octets → List PlacedToken × Ending → Type 0
WellRead b text r = ReadsWell b text (tokens_of r.0) r.1

pub reads_well : (k : ℕ) (b : Bool) (before : ℕ) (text : Octets)
    → length text ≤ k → WellRead b text (read_entry k b before text)
unfolding read_entry
reads_well zero b before [] few = record { spelled = refl; at_end = refl; cuts = refl; opens = refl }
reads_well zero b before (o ∷ text) few = absurd (omega (arith, few))
reads_well (suc k) b before text few =
    go (token_front text) refl (λ now passed others less. reads_well k now passed others less)
  where
    placed : Token → ℕ → PlacedToken
    placed p passed = record { token = p; place = record { begins = before; ends = passed } }

    go : (u : Option (Token × Octets)) → token_front text ≡ u
        → ((now : Bool) (passed : ℕ) (others : Octets) → length others ≤ k
        → WellRead now others (read_entry k now passed others))
        → WellRead b text (elim u as (λ _. List PlacedToken × Ending) [
          | None ↦ ([], at_stop b text)
          | Some r ↦ elim (is_misplaced b r.0) as (λ _. List PlacedToken × Ending) [
            | true ↦ ([], at_parenthesis text)
            | false ↦ elim (is_line_end r.0 && not b) as (λ _. List PlacedToken × Ending) [
              | true ↦ (placed r.0 (before + (length text - length r.1)) ∷ [], after_line r.1)
              | false ↦ after_token (placed r.0 (before + (length text - length r.1)))
                  (read_entry k (open_after b r.0) (before + (length text - length r.1)) r.1)
            ]
          ]
        ])
    go None e later = record { spelled = refl; at_end = e; cuts = refl; opens = refl }
    go (Some r) e later = by_place (is_misplaced b r.0) refl
      where
        by_line : (ends : Bool) → (is_line_end r.0 && not b) ≡ ends
            → WellRead b text (elim ends as (λ _. List PlacedToken × Ending) [
              | true ↦ (placed r.0 (before + (length text - length r.1)) ∷ [], after_line r.1)
              | false ↦ after_token (placed r.0 (before + (length text - length r.1)))
                  (read_entry k (open_after b r.0) (before + (length text - length r.1)) r.1)
            ])
        by_line true h = line_read b text r.1 r.0 e h
        by_line false h = grind (arith, front-shorter, one_more)

        by_place : (wrong : Bool) → is_misplaced b r.0 ≡ wrong
            → WellRead b text (elim wrong as (λ _. List PlacedToken × Ending) [
              | true ↦ ([], at_parenthesis text)
              | false ↦ elim (is_line_end r.0 && not b) as (λ _. List PlacedToken × Ending) [
                | true ↦ (placed r.0 (before + (length text - length r.1)) ∷ [], after_line r.1)
                | false ↦ after_token (placed r.0 (before + (length text - length r.1)))
                    (read_entry k (open_after b r.0) (before + (length text - length r.1)) r.1)
              ]
            ])
        by_place true h = misplaced_read b text r.1 r.0 e h
        by_place false h = by_line (is_line_end r.0 && not b) refl
