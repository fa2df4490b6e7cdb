-- The octets at the front of the buffer are the reply that the definitions state.
use Rattle.dns_answer.proofs.Common.{◌≡◌, ℕ, ◌+◌, Bool, true, false, cond, not, ◌&&◌, nat_lt, nat_le, List, [], ◌∷◌, ◌++◌, length, Option, Some, is_some, refl, ap, ◌∙◌, subst, arith, DomainName, is_name, ZoneContents, Header, MessageQuestion, Item, layout, size, most_aliases, outcome, items, is_authoritative, option_map, IsPartial, quick_number, reply_head, Decision, kept, truncated, answered, keep_longest, reply_of, reply_octets, few_nodes, Walk, code_of, empty_reply, offer, offered, size_with, State, Holds, IsHeaded, Rest, TookRest, chain_rest, Seeks, Followed, Answers, Costs, Verdict}
use Rattle.dns_answer.specs.OfferedReply as spec
use Rattle.dns_answer.proofs.Offering.{Offers-is}
use Rattle.dns_answer.proofs.Offered.{offered-keeps, offered-truncated}
use Rattle.dns_answer.proofs.AnswerItems.{items-are, required-are, required-first, rcode-is}
use Rattle.dns_answer.proofs.AnswerCosts.{authority-is, visits-fit, comparisons-fit}

-- a header, and the question if it is repeated, are the reply of a refusal
pub refusal-put : (z : ZoneContents) (limit : ℕ) (x : Decision) (h : Header)
    (q : Option MessageQuestion) (w : State)
    → Some (layout h q []) ≡ option_map reply_octets (reply_of (keep_longest z limit) z x)
    → IsPartial quick_number q [] w.message → w.message.limit ≡ limit → IsHeaded z limit x w h
refusal-put z limit x h q w is begun room = λ sent laid. record {
  octets = ap (λ o. Some o) (laid.octets q [] begun) ∙ is;
  within = omega (arith, laid.within, room);
}

-- offering sets does not change the question
offered-question : (d : spec.OfferedReply) (is : List Item) → (offered d is).question ≡ d.question
unfolding offered
offered-question d [] = refl
offered-question d (i ∷ is) = offered-question (offer d i) is
    ∙ go d.full (nat_le (size_with d.question (d.kept ++ i ∷ [])) d.limit)
  where
    go : (a b : Bool) → (cond a d (cond b
        (record d { kept = d.kept ++ i ∷ [] }) (record d { full = true }))).question ≡ d.question
    go true b = refl
    go false true = refl
    go false false = refl

module _ (z : ZoneContents) (h : Header) (q : MessageQuestion) where
  abbrev r : Rest
  r = chain_rest z q.qtype most_aliases [] q.qname

  truncates : (limit : ℕ) → truncated z q (keep_longest z limit q)
      ≡ (offered (empty_reply q limit) (chain_rest z q.qtype most_aliases [] q.qname).required).full
  truncates limit =
      ap (λ rs. nat_lt (length (keep_longest z limit q)) (length rs))
      (required-are z q.qname q.qtype)
      ∙ ap (λ js. nat_lt (length (kept (size (Some q)) limit js)) (length r.required))
      (items-are z q.qname q.qtype ∙ required-first z q.qname q.qtype)
      ∙ offered-truncated q limit r.required _

  authoritative : (v : Verdict) (led : Bool) → v.is_referral ≡ is_some r.outcome.referral
      → Followed z q.qtype q.qname v led
      → not (v.is_referral && not led) ≡ is_authoritative (outcome z q.qname q.qtype)
  authoritative v led refers followed = grind (arith, authority-is)

  -- the zone and the question may be replaced by equal ones
  pub answers-found : {s1 s' : Walk} {n : DomainName} {t : ℕ} {w w' : State} {v : Verdict}
      {aa : Bool} {head : Header} (led : Bool) → s1.zone ≡ z → n ≡ q.qname → t ≡ q.qtype
      → Seeks w w' s1 s' t [] n v → Followed s1.zone t n v led → aa ≡ not (v.is_referral && not led)
      → head ≡ reply_head h aa v.is_truncated (code_of v.rcode) → Answers z h q w w' head
  answers-found {w = w} {w' = w'} {v = v} led zone name type seeks followed authority is_head =
      grind (arith, authoritative, rcode-is, Offers-is, items-are, truncates)

  -- The written reply is the reply of an answer.
  pub answer-put : (limit : ℕ) (w w' : State) (head : Header) → Holds w (empty_reply q limit)
      → Answers z h q w w' head → IsHeaded z limit (answered h q) w' head
  answer-put limit w w' head begun stated = λ sent laid.
      let all = items z q.qname q.qtype in
      let d = offered (empty_reply q limit) all in
      let held : Holds w' d = stated.offers.builder (empty_reply q limit) begun in
      record {
        octets =
            ap (λ x. Some x)
            (laid.octets (Some d.question) d.kept held.written
            ∙ ap (λ (x : MessageQuestion). layout head (Some x) d.kept)
            (offered-question (empty_reply q limit) all)
            ∙ ap (λ js. layout head (Some q) js) (offered-keeps q limit all)
            ∙ ap (λ x. layout x (Some q) (keep_longest z limit q)) (stated.header limit begun));
        within = omega (arith, laid.within, stated.offers.limit, begun.limit);
      }

-- The cost of seeking the question's name is no more than an answer may cost.
pub answer-costs : (h : Header) (q : MessageQuestion) (n : DomainName) (t : ℕ) (s s1 s' : Walk)
    → is_name q.qname ≡ true → n ≡ q.qname → t ≡ q.qtype → s.visits ≡ 0 → s.comparisons ≡ 0
    → s1.visits ≡ s.visits + 1 → s1.comparisons ≡ s.comparisons → s1.zone ≡ s.zone
    → TookRest s1 s' (chain_rest s1.zone t most_aliases [] n) → Costs (answered h q) s s'
answer-costs
    h q n t s s1 s' name same_name same_type visits comparisons one_visit same_count zone took =
    let z = s.zone in
    let there : TookRest s1 s' (chain_rest z q.qtype most_aliases [] q.qname) =
    subst (TookRest s1 s')
    (λ i. chain_rest (zone i) (same_type i) most_aliases [] (same_name i)) took in
    let fits = visits-fit z q.qname q.qtype s1 s' _ (omega (arith, visits, one_visit)) there in
    let few = few_nodes z q.qname q.qtype name in
    record {
      zone = there.zone ∙ zone;
      visits = fits;
      visits_a_name = omega (arith, fits, few);
      comparisons =
          comparisons-fit z q.qname q.qtype s1 s' _ (omega (arith, comparisons, same_count)) there;
    }
