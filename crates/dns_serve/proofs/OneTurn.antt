-- What a turn does with the received datagram.
use Rattle.dns_spec.proofs.Common.{take_all, length-take, ◌≡◌, ℕ, ◌≤◌, arith, List, [], ◌∷◌, ◌++◌, append_assoc, take, Option, Some, None, true, false, sym, ap, ◌∙◌, subst, is_some, most_over_udp, Octets, ZoneContents}
use Rattle.dns_spec.proofs.Replies.FirstOctets.{first_octets_answer}
use Rattle.std.specs.Borrow.{Bor}
use Rattle.std.specs.Option.{option_copied, option_to_list}
use Rattle.dns_serve.specs.Turns.{Grows, KeepsAll, IsHanded, reply_over_udp, Turn, IsTurn, IsUnsent}

abbrev turn : Option (List Octets)
    → Option (List Octets) → Option (List Octets) → Option (List Octets) → Turn
turn a b c d = record { had = a; has = b; sent = c; has_sent = d }

grows_trans : (a b c : Option (List Octets)) (ds es : List Octets)
    → Grows a b ds → Grows b c es → Grows a c (ds ++ es)
grows_trans a b c ds es h h1 = grind (arith, append_assoc)

-- a datagram was received, and this is the reply to its kept octets
module _ (z y : ZoneContents) (had has : Option (List Octets)) (n : ℕ) (buf : Octets)
    (borrowed : Option (Bor Octets)) (zone_is : y ≡ z) (h : IsHanded had has n buf)
    (r : option_copied borrowed ≡ reply_over_udp y (take n buf)) where
  reply_is : reply_over_udp z h.datagram ≡ option_copied borrowed
  reply_is = first_octets_answer z h.datagram most_over_udp ∙ ap (reply_over_udp z) (sym h.kept)
      ∙ sym (r ∙ ap (λ z. reply_over_udp z (take n buf)) zone_is)

  pub turn_without : (sent sent' : Option (List Octets)) → borrowed ≡ None → KeepsAll sent sent'
      → IsTurn z (turn had has sent sent') false
  turn_without sent sent' none keeps =
      let same = reply_is ∙ ap option_copied none in record {
        datagram = h.datagram;
        received = h.handed;
        answered = subst (λ o. Grows sent sent' (option_to_list o)) (sym same) keeps;
        replied_is = sym (ap is_some same);
      }

  pub turn_with : (has' sent sent' sent'' : Option (List Octets)) (reply : Bor Octets)
      → borrowed ≡ Some reply → KeepsAll sent sent' → KeepsAll has has'
      → Grows sent' sent'' (reply.now ∷ []) → IsTurn z (turn had has' sent sent'') true
  turn_with has' sent sent' sent'' reply some keeps same_has sends =
      let same = reply_is ∙ ap option_copied some in record {
        datagram = h.datagram;
        received = grows_trans had has has' (h.datagram ∷ []) [] h.handed same_has;
        answered = subst (λ o. Grows sent sent'' (option_to_list o)) (sym same)
            (grows_trans sent sent' sent'' [] (reply.now ∷ []) keeps sends);
        replied_is = sym (ap is_some same);
      }

  pub turn_unsent : (has' sent sent'' : Option (List Octets)) (reply : Bor Octets)
      → borrowed ≡ Some reply → KeepsAll has has' → IsUnsent z (turn had has' sent sent'')
  turn_unsent has' sent sent'' reply some same_has = record {
    datagram = h.datagram;
    received = grows_trans had has has' (h.datagram ∷ []) [] h.handed same_has;
    due = ap is_some (reply_is ∙ ap option_copied some);
  }

-- a device whose datagrams are unknown has received what is in the buffer
pub handed_unknown : (n : ℕ) (buf : Octets) → n ≤ most_over_udp → IsHanded None None n buf
handed_unknown n buf h = record {
  datagram = take n buf;
  handed = tt;
  kept = sym (take_all most_over_udp (take n buf) (omega (arith, length-take n buf, h)));
  within = h;
}
