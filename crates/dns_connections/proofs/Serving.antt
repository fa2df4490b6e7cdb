-- How what a connection has received and sent goes on, and how it ends.
use Rattle.dns_spec.proofs.Common.{◌≡◌, ℕ, ◌+◌, ◌^◌, ◌<◌, ◌==◌, false≢true, inr, drop_all, eqb-true, length-append, [], ◌++◌, length, take, drop, Option, Some, None, refl, sym, ap, ◌∙◌, subst, arith, append_assoc, append-nil, flat_map, flat_map-append, take-append-drop, Octets, ZoneContents, frame, frames, replies, All-nil, drop-append_seam, take-append_seam}
use Rattle.std.specs.Option.{option_map}
use Rattle.std.specs.Coded.{Coded, coded_list, coded_ℕ}
use base.Stored.{Coded-set}
use Rattle.dns_serve.proofs.Sessions.{nil_has_none, frames_by}
use Rattle.std.proofs.Math.Logic.{∥∥₁_elim}
use Rattle.dns_spec.proofs.Streams.StreamFrames.{frames_again}
use Rattle.dns_spec.specs.Stream.{reply_frame}
use Rattle.dns_serve.specs.Framing.{SessionState, HasCome, HasTaken, TakesMore, IsEndOf, IsNew}
use Rattle.dns_serve.specs.Streams.{reply_over_tcp}
use Rattle.dns_connections.specs.Exchanges.{Exchange, IsFresh, IsServing, Serves, WasServed, IsServed}

octets : Coded Octets
octets = coded_list coded_ℕ

module _ (z : ZoneContents) (most : ℕ) where
  pub fresh : (s : SessionState) (pending : Octets) (e : Option Exchange)
      → IsNew most s → pending ≡ [] → IsFresh e → IsServing z most s pending e
  fresh s pending None new none f = tt
  fresh s pending (Some e) new none f = record {
    taken = [];
    split = ap (λ e. e.received) f ∙ sym none;
    has_taken = record {
      messages = [];
      part = [];
      octets = refl;
      short = All-nil (λ m. length m < 2 ^ 16);
      no_frame = nil_has_none;
      has_come = new.frame;
      replied = ap (λ e. e.sent ++ s.unsent) f ∙ new.unsent;
      count = omega (arith, new.left);
    };
    ends = λ o. absurd (false≢true (sym (ap (λ e. e.over) f) ∙ o));
  }

  -- nothing was served on a connection that was not used
  pub unused : (e : Option Exchange) → IsFresh e → IsServed z most e
  unused None f = tt
  unused (Some e) f = record {
    prefix = ap (λ e. e.sent) f
        ∙ sym (ap (λ e. take (length e.sent) (replies (reply_over_tcp z) (frames most e.received))) f);
    all = λ o. absurd (false≢true (sym (ap (λ e. e.over) f) ∙ o));
  }

  pub sent : (s then : SessionState) (pending given : Octets) (e f : Option Exchange) (n : ℕ)
      → then.unsent ≡ drop n s.unsent → then.frame ≡ s.frame → then.left ≡ s.left
      → given ≡ s.unsent → f ≡ option_map (λ e. record {
        received = e.received;
        sent = e.sent ++ take n given;
        over = e.over;
      }) e → IsServing z most s pending e → IsServing z most then pending f
  sent s then pending given None f n unsent same left is on h =
      subst (IsServing z most then pending) (sym on) tt
  sent s then pending given (Some e) f n unsent same left is on h =
      let t = h.has_taken in subst (IsServing z most then pending) (sym on) (record {
        taken = h.taken;
        split = h.split;
        has_taken = record {
          messages = t.messages;
          part = t.part;
          octets = t.octets;
          short = t.short;
          no_frame = t.no_frame;
          has_come = subst (λ g. HasCome g t.part) (sym same) t.has_come;
          replied = ap (λ o. (e.sent ++ take n o) ++ then.unsent) is
              ∙ append_assoc e.sent (take n s.unsent) then.unsent
              ∙ ap (λ o. e.sent ++ (take n s.unsent ++ o)) unsent
              ∙ ap (λ o. e.sent ++ o) (take-append-drop n s.unsent) ∙ t.replied;
          count = ap (λ m. length t.messages + m) left ∙ t.count;
        };
        ends = λ o. ((h.ends o).0, unsent ∙ ap (drop n) (h.ends o).1 ∙ drop_all n [] (omega arith));
      })

  pub received : (s : SessionState) (pending now buf : Octets) (e f : Option Exchange) (n : ℕ)
      → pending ≡ [] → s.unsent ≡ [] → now ≡ take n buf → f ≡ option_map (λ e. record {
        received = e.received ++ take n buf;
        sent = e.sent;
        over = n == 0;
      }) e → IsServing z most s pending e → IsServing z most s now f
  received s pending now buf None f n none done is on h =
      subst (IsServing z most s now) (sym on) tt
  received s pending now buf (Some e) f n none done is on h =
      subst (IsServing z most s now) (sym on) (record {
        taken = h.taken;
        split = ap (λ r. r ++ take n buf) (h.split ∙ ap (λ p. h.taken ++ p) none ∙ append-nil h.taken)
            ∙ ap (λ m. h.taken ++ m) (sym is);
        has_taken = h.has_taken;
        ends = λ o. (is ∙ ap (λ n. take n buf) (eqb-true n 0 o), done);
      })

  pub taken : (y : ZoneContents) (s then : SessionState) (pending given rest now : Octets)
      (e : Option Exchange) → y ≡ z → given ≡ pending → now ≡ rest → 0 < length pending
      → ((most : ℕ) (x sent : Octets) → HasTaken y most s x sent
      → TakesMore y most s then x sent given rest)
      → IsServing z most s pending e → IsServing z most then now e
  taken y s then pending given rest now None same gives is some more h = tt
  taken y s then pending given rest now (Some e) same gives is some more h =
      let m = subst (λ z. (most : ℕ) (x sent : Octets) → HasTaken z most s x sent
      → TakesMore z most s then x sent given rest)
      same more most h.taken e.sent h.has_taken in record {
        taken = h.taken ++ m.taken;
        split = h.split ∙ ap (λ r. h.taken ++ r) (sym gives ∙ m.split)
            ∙ sym (append_assoc h.taken m.taken rest)
            ∙ ap (λ r. (h.taken ++ m.taken) ++ r) (sym is);
        has_taken = m.has_taken;
        ends = λ o. absurd (omega (arith, some, ap length (h.ends o).0));
      }

  -- what a connection has sent, when it is closed
  was_served : (s : SessionState) (pending : Octets) (e : Exchange) → Serves z most s pending e
      → WasServed z most e
  was_served s pending e h =
      let t = h.has_taken in
      let reply = reply_over_tcp z in
      let rest = t.part ++ pending in
      let received_of : e.received ≡ flat_map frame t.messages ++ rest =
      h.split ∙ ap (λ x. x ++ pending) t.octets
      ∙ append_assoc (flat_map frame t.messages) t.part pending in
      let all : frames most e.received ≡ t.messages ++ frames s.left rest =
      ap (λ k. frames k e.received) (sym t.count)
      ∙ ap (frames (length t.messages + s.left)) received_of
      ∙ frames_again s.left t.messages rest t.short in
      let more = replies reply (frames s.left rest) in
      let replied : replies reply (frames most e.received) ≡ e.sent ++ (s.unsent ++ more) =
      ap (replies reply) all
      ∙ flat_map-append (λ m. reply_frame (reply m)) t.messages (frames s.left rest)
      ∙ ap (λ o. o ++ more) (sym t.replied) ∙ append_assoc e.sent s.unsent more in
      let whole : pending ≡ [] → t.messages ≡ frames most e.received = λ none.
      frames_by most t.messages t.part t.short (inr (omega (arith, t.count), t.no_frame))
      ∙ ap (frames most) (sym (received_of ∙ ap (λ r. flat_map frame t.messages ++ r)
      (ap (λ p. t.part ++ p) none ∙ append-nil t.part))) in
      record {
        prefix = sym (ap (take (length e.sent)) replied ∙ take-append_seam e.sent (s.unsent ++ more));
        all = λ o.
            sym (append-nil e.sent) ∙ ap (λ u. e.sent ++ u) (sym (h.ends o).1) ∙ t.replied
            ∙ ap (replies reply) (whole (h.ends o).0);
      }

  pub served : (s : SessionState) (pending : Octets) (e : Option Exchange)
      → ∥ IsServing z most s pending e ∥₁ → IsServed z most e
  served s pending None h = tt
  served s pending (Some e) h = record {
    prefix = ∥∥₁_elim h (Coded-set octets _ _) (λ h. (was_served s pending e h).prefix);
    all = λ c. ∥∥₁_elim h (Coded-set octets _ _) (λ h. (was_served s pending e h).all c);
  }

-- what is left of the octets of a buffer, of which the first t were taken before
pub left_over : (t n : ℕ) (items pending rest : Octets) → pending ≡ drop t items
    → n + length rest ≡ length items → IsEndOf rest pending → drop n items ≡ rest
left_over t n items pending rest is fits e =
    let split : items ≡ (take t items ++ e.front) ++ rest = sym (take-append-drop t items)
    ∙ ap (λ p. take t items ++ p) (sym is ∙ e.split)
    ∙ sym (append_assoc (take t items) e.front rest) in
    let count : n ≡ length (take t items ++ e.front) =
    omega (arith, fits, ap length split, length-append (take t items ++ e.front) rest) in
    ap (λ n. drop n items) count ∙ ap (drop (length (take t items ++ e.front))) split
    ∙ drop-append_seam (take t items ++ e.front) rest
