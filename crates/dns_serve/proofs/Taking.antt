-- What a session holds after it has taken octets.
use Rattle.dns_spec.proofs.Common.{◌≡◌, ℕ, ◌+◌, ◌<◌, ◌≤◌, ◌⊎◌, [], ◌∷◌, ◌++◌, length, length-append, arith, take, drop, sym, ap, ◌∙◌, subst, append_assoc, append-nil, flat_map, Octets, ZoneContents, frame, replies, take-append-drop}
use Rattle.dns_spec.specs.Stream.{reply_frame}
use Rattle.dns_serve.specs.Framing.{FrameState, SessionState, HasCome, HasTaken, IsEndOf, TakesMore, missing_of}
use Rattle.dns_serve.specs.Streams.{reply_over_tcp}
use Rattle.dns_serve.proofs.Readings.{part_of_frame, whole_frame}
use Rattle.dns_serve.proofs.Sessions.{nil_has_none, frames_of, replies_of, all_short, reply_of_kept}

-- the first of the octets were taken; the rest follows
pub record Took (z : ZoneContents) (most : ℕ) (s : SessionState) (x sent octets rest : Octets)
    : Type 0 where
  pub taken : Octets
  pub split : octets ≡ taken ++ rest
  pub has_taken : HasTaken z most s (x ++ taken) sent

pub end_of_end : (n : ℕ) (rest octets left : Octets) → IsEndOf rest octets
    → left ≡ drop n rest → IsEndOf left octets
end_of_end n rest octets left e is = record {
  front = e.front ++ take n rest;
  split = e.split ∙ ap (λ r. e.front ++ r) (sym (take-append-drop n rest))
      ∙ sym (append_assoc e.front (take n rest) (drop n rest))
      ∙ ap (λ r. (e.front ++ take n rest) ++ r) (sym is);
}

-- the taken octets of a piece, and those that it leaves
module _ (z : ZoneContents) (most : ℕ) (s : SessionState) (then : FrameState)
    (x sent octets rest left : Octets) (t : Took z most s x sent octets rest) (others : left ≡ drop (missing_of s.frame) rest)
    (more : (y : Octets) → HasCome s.frame y
    → HasCome then (y ++ take (missing_of s.frame) rest)) where
  abbrev pub piece : Octets
  piece = take (missing_of s.frame) rest

  splits : octets ≡ (t.taken ++ piece) ++ left
  splits = t.split
      ∙ ap (λ r. t.taken ++ r) (sym (take-append-drop (missing_of s.frame) rest)
      ∙ ap (λ l. piece ++ l) (sym others))
      ∙ sym (append_assoc t.taken piece left)

  parts : x ++ (t.taken ++ piece)
      ≡ flat_map frame t.has_taken.messages ++ (t.has_taken.part ++ piece)
  parts = sym (append_assoc x t.taken piece) ∙ ap (λ y. y ++ piece) t.has_taken.octets
      ∙ append_assoc (flat_map frame t.has_taken.messages) t.has_taken.part piece

  -- the frame is not complete yet
  pub took_part : (held : ℕ) → 0 < missing_of then → Took z most (record {
    frame = then;
    unsent = s.unsent;
    held = held;
    left = s.left;
  }) x sent octets left
  took_part held some =
      let come = more t.has_taken.part t.has_taken.has_come in record {
        taken = t.taken ++ piece;
        split = splits;
        has_taken = record {
          messages = t.has_taken.messages;
          part = t.has_taken.part ++ piece;
          octets = parts;
          short = t.has_taken.short;
          no_frame = part_of_frame then (t.has_taken.part ++ piece) come some;
          has_come = come;
          replied = t.has_taken.replied;
          count = t.has_taken.count;
        };
      }

  -- the frame is complete, and its message was answered
  pub took_frame : (cleared : FrameState) (message unsent : Octets) (held fewer : ℕ)
      → missing_of then ≡ 0 → HasCome cleared [] → message ≡ drop 2 then.kept
      → unsent ≡ s.unsent ++ reply_frame (reply_over_tcp z message) → fewer + 1 ≡ s.left
      → Took z most (record {
        frame = cleared;
        unsent = unsent;
        held = held;
        left = fewer;
      }) x sent octets left
  took_frame cleared message unsent held fewer none empty is now one =
      let h = t.has_taken in
      let come = more h.part h.has_come in
      let w = whole_frame then (h.part ++ piece) come none in
      let m : Octets = drop 2 (h.part ++ piece) in
      let same : reply_over_tcp z message ≡ reply_over_tcp z m =
      reply_of_kept z then message m (subst (HasCome then) (sym w.0) come) is in
      record {
        taken = t.taken ++ piece;
        split = splits;
        has_taken = record {
          messages = h.messages ++ m ∷ [];
          part = [];
          octets = parts ∙ ap (λ y. flat_map frame h.messages ++ y) (sym w.0)
              ∙ sym (frames_of h.messages m) ∙ sym (append-nil _);
          short = all_short h.messages m h.short w.1;
          no_frame = nil_has_none;
          has_come = empty;
          replied = ap (λ u. sent ++ u) now ∙ sym (append_assoc sent s.unsent _)
              ∙ ap (λ r. r ++ reply_frame (reply_over_tcp z message)) h.replied
              ∙ ap (λ o. replies (reply_over_tcp z) h.messages ++ reply_frame o) same
              ∙ sym (replies_of (reply_over_tcp z) h.messages m);
          count = omega (arith, length-append h.messages (m ∷ []), h.count, one);
        };
      }

pub took_more : (z : ZoneContents) (most : ℕ) (old s : SessionState) (x sent octets rest : Octets)
    → Took z most s x sent octets rest → s.held ≤ 81921
    → s.held + length old.unsent ≡ old.held + length s.unsent
    → (rest ≡ []) ⊎ ((16384 < s.held) ⊎ (s.left ≡ 0)) → TakesMore z most old s x sent octets rest
took_more z most old s x sent octets rest t bound held over = record {
  taken = t.taken;
  split = t.split;
  has_taken = t.has_taken;
  bound = bound;
  held = held;
  over = over;
}
