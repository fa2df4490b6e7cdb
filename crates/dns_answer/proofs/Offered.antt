-- Sets offered one after another: what is kept of them, and when one is missing.
use Rattle.dns_answer.proofs.Common.{◌≡◌, ℕ, ◌+◌, ◌<◌, ◌≤◌, Bool, true, false, cond, nat_le, nat_lt, List, [], ◌∷◌, ◌++◌, length, Some, refl, sym, ap, ◌∙◌, arith, length-append, ltb-true, lt-ltb, MessageQuestion, Item, kept, fitting, size_grows, kept_is_fitting, OfferedReply, empty_reply, size_with, offer, offered}

pub offered-append : (d : OfferedReply) (is js : List Item)
    → offered d (is ++ js) ≡ offered (offered d is) js
unfolding offered
offered-append d [] js = refl
offered-append d (i ∷ is) js = offered-append (offer d i) is js

pub offered-nil : (d : OfferedReply) → offered d [] ≡ d
unfolding offered
offered-nil d = refl

pub offered-one : (d : OfferedReply) (i : Item) → offered d (i ∷ []) ≡ offer d i
unfolding offered
offered-one d i = refl

-- a full reply stays as it is
offer-full : (d : OfferedReply) (i : Item) → d.full ≡ true → offer d i ≡ d
offer-full d i e = rw e refl

pub offered-full : (d : OfferedReply) (is : List Item) → d.full ≡ true → offered d is ≡ d
unfolding offered
offered-full d [] e = refl
offered-full d (i ∷ is) e = ap (λ x. offered x is) (offer-full d i e) ∙ offered-full d is e

-- a reply with room keeps what fits
pub offered-kept : (q : MessageQuestion) (limit : ℕ) (front is : List Item)
    → (offered (record { question = q; limit = limit; kept = front; full = false }) is).kept
    ≡ fitting (size_with q) limit front is
unfolding offered
offered-kept q limit front [] = refl
offered-kept q limit front (i ∷ is) =
    grind (arith, offered-full, (offered-kept q limit (front ++ i ∷ []) is))

pub offered-keeps : (q : MessageQuestion) (limit : ℕ) (is : List Item)
    → (offered (empty_reply q limit) is).kept ≡ kept (size_with q) limit is
offered-keeps q limit is = grind (arith, offered-kept, kept_is_fitting, size_with, size_grows, Some)

-- Sets are missing if and only if the reply is full after they are offered.
abbrev open_reply : MessageQuestion → ℕ → List Item → OfferedReply
open_reply q limit front = record { question = q; limit = limit; kept = front; full = false }

abbrev full_reply : MessageQuestion → ℕ → List Item → OfferedReply
full_reply q limit front = record { question = q; limit = limit; kept = front; full = true }

record Counted (n : ℕ) (d : OfferedReply) (is : List Item) : Type 0 where
  whole : d.full ≡ false → length d.kept ≡ n + length is
  missing : d.full ≡ true → length d.kept < n + length is

counts : (q : MessageQuestion) (limit : ℕ) (front is : List Item)
    → Counted (length front) (offered (open_reply q limit front) is) is
unfolding offered
counts q limit front [] = record { whole = λ e. omega arith; missing = λ e. absurd (cc) }
counts q limit front (i ∷ is) =
    grind (arith, length-append, offered-full, (counts q limit (front ++ i ∷ []) is))

-- a reply that is offered more does not lose sets
longer : (q : MessageQuestion) (limit : ℕ) (front is : List Item) (b : Bool) → length front ≤ length
    (offered (record { question = q; limit = limit; kept = front; full = b }) is).kept
unfolding offered
longer q limit front [] b = omega arith
longer q limit front (i ∷ is) true = longer q limit front is true
longer q limit front (i ∷ is) false = go (nat_le (size_with q (front ++ i ∷ [])) limit)
    (longer q limit (front ++ i ∷ []) is false) (longer q limit front is true)
  where
    go : (b : Bool)
        → length (front ++ i ∷ []) ≤ length (offered (open_reply q limit (front ++ i ∷ [])) is).kept
        → length front ≤ length (offered (full_reply q limit front) is).kept → length front ≤ length
        (offered (cond b (open_reply q limit (front ++ i ∷ [])) (full_reply q limit front)) is).kept
    go true h k = omega (arith, length-append front (i ∷ []))
    go false h k = k

-- The reply lacks one of the sets `first` if and only if it is full after these sets are offered.
truncated_by : (d : OfferedReply) (rest : List Item) (n : ℕ) (first : List Item) → Counted 0 d first
    → (b : Bool) → d.full ≡ b → nat_lt (length (offered d rest).kept) (length first) ≡ d.full
truncated_by d rest n first h b h1 = grind (arith, offered-full, lt-ltb, longer, ltb-true)

pub offered-truncated : (q : MessageQuestion) (limit : ℕ) (first rest : List Item)
    → nat_lt (length (kept (size_with q) limit (first ++ rest)))
    (length first) ≡ (offered (empty_reply q limit) first).full
offered-truncated q limit first rest =
    let d = offered (empty_reply q limit) first in
    ap (λ is. nat_lt (length is) (length first)) (sym (offered-keeps q limit (first ++ rest))
    ∙ ap (λ (x : OfferedReply). x.kept) (offered-append (empty_reply q limit) first rest))
    ∙ truncated_by d rest 0 first (counts q limit [] first) d.full refl
