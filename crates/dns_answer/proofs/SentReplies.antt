-- What is sent is the reply that the definitions state, by how the datagram was read as a query.
use Rattle.std.specs.Borrow.{Bor}
use Rattle.std.specs.Option.{option_copied}
use Rattle.dns_answer.proofs.Common.{◌≡◌, ◌↔◌, ℕ, ◌<◌, ◌≤◌, Bool, true, false, Option, None, Some, IsTrue, IsNone, IfSome, All, length, take, refl, sym, ap, subst, ◌∙◌, arith, true≢false, All-weaker, option_map, Octets, ResourceRecord, ZoneContents, Header, IsWritable, IsReadRecord, Spells, is_ignored, QueryRead, absent, refused_with, query, query_read, Decision, decide_query, decide, reply_of, keep_longest, Reply, reply_with, reply, reply_octets, reply_message, octets_of, reply_spells, Walk, IsBuilt, State, IsPut, IsHeaded, IsLaidOut, Costs, Responds}

-- the datagrams that get no reply
abbrev is_absent : QueryRead → Bool
is_absent absent = true
is_absent (refused_with h) = false
is_absent (query h q) = false

absent-is : (d : Octets) → is_absent (query_read d) ≡ is_ignored d
unfolding query_read
absent-is d = search arith

module _ (d : Octets) (y : QueryRead) (read : y ≡ query_read d) where
  ignored-by : is_ignored d ≡ is_absent y
  ignored-by = sym (absent-is d) ∙ ap is_absent (sym read)

  -- nothing is sent if and only if the datagram gets no reply
  pub silent : is_absent y ≡ true
      → (let none : Option Octets = None in IsNone none) ↔ IsTrue (is_ignored d)
  silent e = (λ h. ignored-by ∙ e, λ h. refl)

  pub stated : is_absent y ≡ false → (sent : Octets) → IsNone (Some sent) ↔ IsTrue (is_ignored d)
  stated e sent = (λ h. absurd (true≢false h), λ h. sym h ∙ ignored-by ∙ e)

  -- the octets and the decision
  pub octets-by : (z : ZoneContents) (limit : ℕ) → option_map reply_octets
      (reply_of (keep_longest z limit) z (decide_query z y)) ≡ octets_of z d limit
  unfolding octets_of reply reply_with decide
  octets-by z limit = grind (arith, option_map, reply_octets, reply_of, keep_longest, decide_query)

  pub costs-by : (z : ZoneContents) (s s' : Walk)
      → Costs (decide_query z y) s s' → Costs (decide z d) s s'
  unfolding decide
  costs-by z s s' costs = subst (λ x. Costs (decide_query z x) s s') read costs

-- the records of a built zone fit a message
writable : (r : ResourceRecord) → IsReadRecord r → IsWritable r
writable r read = grind arith

-- What is sent spells the message of the reply.
pub spelled : (z : ZoneContents) (d sent : Octets) (limit : ℕ) → IsBuilt z
    → All (λ o. o < 256) d → 271 ≤ limit → limit ≤ 65535 → Some sent ≡ octets_of z d limit
    → IfSome (reply z d limit) (λ r. Spells sent (reply_message r))
unfolding octets_of
spelled z d sent limit built low from upto e = grind (arith, reply_spells, All-weaker, writable)

-- a walk that stays as it was costs nothing
pub nothing-taken : (x : Decision) (s : Walk) → s.visits ≡ 0 → s.comparisons ≡ 0 → Costs x s s
nothing-taken x s visits comparisons = grind arith

module _ (d : Octets) (y : QueryRead) (read : y ≡ query_read d) (s s' : Walk) (limit : ℕ)
    (costs : Costs (decide_query s.zone y) s s') where
  -- the datagram gets no reply
  pub unanswered : is_absent y ≡ true → option_map reply_octets
      (reply_of (keep_longest s.zone limit) s.zone (decide_query s.zone y)) ≡ None
      → Responds s s' d limit None
  unanswered missing none = grind (arith, silent, octets-by, costs-by)

  -- what is written is a reply, which is sent with its header
  pub responded : (w : State) (h : Header) (sent : Octets) → is_absent y ≡ false
      → IsBuilt s.zone → All (λ o. o < 256) d → 512 ≤ limit → limit ≤ 65535
      → IsHeaded s.zone limit (decide_query s.zone y) w h → IsLaidOut w h sent
      → Responds s s' d limit (Some sent)
  responded w h sent owed built low from upto headed laid =
      let reply = headed sent laid in
      let octets = reply.octets ∙ octets-by d y read s.zone limit in
      record {
        absent = stated d y read owed sent;
        octets = octets;
        spells = spelled s.zone d sent limit built low (omega (arith, from)) upto octets;
        fits = reply.within;
        costs = costs-by d y read s.zone s s' costs;
      }

-- a reply within a limit fits in a buffer of as many octets
pub put_room : (borrowed : Option (Bor Octets)) (limit room : ℕ)
    → IfSome (option_copied borrowed) (λ o. length o ≤ limit)
    → room ≡ limit → IfSome borrowed (λ o. length o.now ≤ room)
put_room None limit room h e = tt
put_room (Some o) limit room h e = omega (arith, h, e)

-- What holds of the sent octets holds of the front of `out`, to which they are copied.
pub put_absent : (sent : Option Octets) (len : Option ℕ) (out d : Octets) → IsPut sent len out
    → (IsNone sent ↔ IsTrue (is_ignored d)) → IsNone len ↔ IsTrue (is_ignored d)
put_absent None None out d put h = (λ _. h.0 refl, λ _. refl)
put_absent (Some o) (Some n) out d put h =
    (λ e. absurd (true≢false e), λ e. absurd (true≢false (h.1 e)))
put_absent None (Some n) out d put h = absurd put
put_absent (Some o) None out d put h = absurd put

pub put_octets : (sent : Option Octets) (len : Option ℕ) (out : Octets)
    → IsPut sent len out → option_map (λ n. take n out) len ≡ sent
put_octets None None out put = refl
put_octets (Some o) (Some n) out put = ap (λ x. Some x) put.0
put_octets None (Some n) out put = absurd put
put_octets (Some o) None out put = absurd put

pub put_spells : (r : Option Reply) (sent : Option Octets) (len : Option ℕ) (out : Octets)
    → IsPut sent len out → IfSome sent (λ o. IfSome r (λ x. Spells o (reply_message x)))
    → IfSome len (λ n. IfSome r (λ x. Spells (take n out) (reply_message x)))
put_spells r None None out put h = tt
put_spells r (Some o) (Some n) out put h =
    subst (λ s. IfSome r (λ x. Spells s (reply_message x))) (sym put.0) h
put_spells r None (Some n) out put h = absurd put
put_spells r (Some o) None out put h = absurd put

pub put_fits : (limit : ℕ) (sent : Option Octets) (len : Option ℕ) (out : Octets)
    → IsPut sent len out → IfSome sent (λ o. length o ≤ limit) → IfSome len (λ n. n ≤ limit)
put_fits limit None None out put h = tt
put_fits limit (Some o) (Some n) out put h = omega (arith, h, put.1)
put_fits limit None (Some n) out put h = absurd put
put_fits limit (Some o) None out put h = absurd put
