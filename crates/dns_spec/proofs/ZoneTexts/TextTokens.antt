-- Every text consists of tokens up to a place where no token begins.
use Rattle.dns_spec.proofs.Common.{◌≡◌, ℕ, zero, suc, ◌<◌, List, [], ◌∷◌, length, refl, sym, subst, arith, Option, Some, None, ⊤, MatchOption, Octets, Token, closed, token_front, TokensThen, length-drop, false, Extent, EntriesOf, with_end, cut_entries, ◌++◌}

-- fewer than n octets follow the token, if there is one
Shorter : ℕ → Option (Token × Octets) → Type 0
Shorter n front = MatchOption front ⊤ (λ r. length r.1 < n)

closed-shorter : (n : ℕ) (raw text : Octets) → length text < n → Shorter n (closed raw text)
unfolding Shorter
closed-shorter n raw text h = grind arith

shorter : (text : Octets) → Shorter (length text) (token_front text)
unfolding Shorter
shorter text = grind (arith, length-drop, closed-shorter)

-- a token has at least one octet
pub front-shorter : (text : Octets) (p : Token) (others : Octets)
    → token_front text ≡ Some (p, others) → length others < length text
unfolding Shorter
front-shorter text p others e = subst (Shorter (length text)) e (shorter text)

-- the tokens of a text
pub record HasTokens (text : Octets) : Type 0 where
  pub tokens : List Token
  pub rest : Octets
  pub spelled : TokensThen text tokens rest
  pub at_end : token_front rest ≡ None

with_front : (text : Octets) (front : Option (Token × Octets)) → front ≡ token_front text
    → ((others : Octets) → length others < length text → HasTokens others) → HasTokens text
with_front text None e more = record { tokens = []; rest = text; spelled = refl; at_end = sym e }
with_front text (Some r) e more =
    let after = more r.1 (front-shorter text r.0 r.1 (sym e)) in
    record {
      tokens = r.0 ∷ after.tokens;
      rest = after.rest;
      spelled = (r.1, sym e, after.spelled);
      at_end = after.at_end;
    }

tokens-within : (n : ℕ) (text : Octets) → length text < n → HasTokens text
tokens-within zero text h = absurd (omega (arith, h))
tokens-within (suc n) text h =
    with_front text
    (token_front text) refl (λ others less. tokens-within n others (omega (arith, less, h)))

pub has_tokens : (text : Octets) → HasTokens text
has_tokens text = tokens-within (suc (length text)) text (omega arith)

-- the entries into which these tokens are split
pub tokens_cut : (extent : Extent) (octets : Octets) (ps : List Token) (rest : Octets)
    → TokensThen octets ps rest → token_front rest ≡ None
    → EntriesOf extent octets (with_end extent rest (cut_entries false ps))
tokens_cut extent octets ps rest spelled at_end = grind arith

-- tokens followed by others
pub tokens_then : (text middle rest : Octets) (ts us : List Token)
    → TokensThen text ts middle → TokensThen middle us rest → TokensThen text (ts ++ us) rest
tokens_then text middle rest [] us h k = subst (λ t. TokensThen t us rest) (sym h) k
tokens_then text middle rest (t ∷ ts) us (others, e, h) k =
    (others, e, tokens_then others middle rest ts us h k)
