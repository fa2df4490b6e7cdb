-- Sets that are offered in two steps.
use Rattle.dns_answer.proofs.Common.{◌≡◌, ◌↔◌, ℕ, ◌≤◌, Bool, true, false, cond, nat_le, IsTrue, List, [], ◌∷◌, ◌++◌, Option, refl, sym, ◌∙◌, subst, arith, le-leb, false≢true, Octets, MessageQuestion, Item, size, OnTrue, OnFalse, IsPartial, quick_number, offer, size_with, State, Holds, Offers}
use Rattle.dns_wire.specs.PartialMessage as wire
use Rattle.dns_answer.specs.OfferedReply as spec
use Rattle.dns_answer.proofs.Offered.{offered-append, offered-nil, offered-one, offered-full}

pub Offers-nothing : (w : State) → Offers w w []
Offers-nothing w = record { builder = λ d h. subst (Holds w) (sym (offered-nil d)) h; limit = refl }

pub Offers-then : (w w' w'' : State) (is js : List Item)
    → Offers w w' is → Offers w' w'' js → Offers w w'' (is ++ js)
Offers-then w w' w'' is js a b = grind (arith, offered-append)

pub Offers-is : (w w' : State) (is js : List Item) → is ≡ js → Offers w w' is → Offers w w' js
Offers-is w w' is js e a = subst (Offers w w') e a

-- there is nothing to offer
pub Offers-empty : {w : State} (is : List Item) → is ≡ [] → Offers w w is
Offers-empty {w} is e = subst (Offers w w) (sym e) (Offers-nothing w)

open_offer : (d : spec.OfferedReply) (i : Item)
    → d.full ≡ false → offer d i ≡ cond (nat_le (size_with d.question (d.kept ++ i ∷ [])) d.limit)
    (record d { kept = d.kept ++ i ∷ [] }) (record d { full = true })
open_offer d i e = rw e refl

-- a full reply stays as it is
pub Offers-full : (w : State) (is : List Item) → w.full ≡ true → Offers w w is
Offers-full w is full = grind (arith, offered-full)

-- a set is put
pub Offers-put : (w : State) (message : wire.PartialMessage) (i : Item)
    → w.full ≡ false → message.limit ≡ w.message.limit → ((q : Option MessageQuestion) (items : List Item)
    → IsPartial quick_number q items w.message → (size q (items ++ i ∷ []) ≤ w.message.limit)
    × IsPartial quick_number q (items ++ i ∷ []) message) → Offers w (record w { message = message }) (i ∷ [])
Offers-put w message i unfull same put = grind (arith, offered-one, open_offer, false≢true, le-leb)

-- a set does not fit, and the reply is full
pub Offers-left : (w : State) (i : Item) → w.full ≡ false
    → ((q : Option MessageQuestion) (items : List Item) → IsPartial quick_number q items w.message
    → size q (items ++ i ∷ []) ≤ w.message.limit → ⊥) → Offers w (record w { full = true }) (i ∷ [])
Offers-left w i unfull left = record {
  builder = λ d h. subst (Holds (record w { full = true }))
      (sym (offered-one d i ∙ open_offer d i (sym h.full ∙ unfull)))
      (go d h (nat_le (size_with d.question (d.kept ++ i ∷ [])) d.limit) refl);
  limit = refl;
}
  where
    go : (d : spec.OfferedReply) → Holds w d → (y : Bool) → nat_le
        (size_with d.question (d.kept ++ i ∷ [])) d.limit ≡ y → Holds (record w { full = true })
        (cond y (record d { kept = d.kept ++ i ∷ [] }) (record d { full = true }))
    go d h true f = grind arith
    go d h false f = record { written = h.written; limit = h.limit; full = refl }

-- offering a set that was put on a message
pub page_put : (w : State) (message : wire.PartialMessage) (i : Item) (put : Bool) (numbers : Octets → ℕ)
    → numbers ≡ quick_number → w.full ≡ false → put ≡ true → message.limit ≡ w.message.limit
    → ((q : Option MessageQuestion) (items : List Item) → IsPartial numbers q items w.message → IsTrue
    put ↔ (size q (items ++ i ∷ []) ≤ w.message.limit)) → ((q : Option MessageQuestion) (items : List
    Item) → IsPartial numbers q items w.message → OnTrue put (IsPartial numbers q (items ++ i ∷ []) message))
    → Offers w (record { message = message; full = w.full }) (i ∷ [])
page_put w message i true numbers n unfull e same fits puts =
    Offers-put w message i unfull same (λ q items d.
    let d' = subst (λ k. IsPartial k q items w.message) (sym n) d in
    ((fits q items d').0 refl, subst (λ k. IsPartial k q (items ++ i ∷ []) message) n (puts q items d')))
page_put w message i false numbers n unfull e same fits puts = absurd (false≢true e)

pub page_left : (w : State) (message : wire.PartialMessage) (i : Item) (put : Bool) (numbers : Octets → ℕ)
    → numbers ≡ quick_number
    → w.full ≡ false → put ≡ false → ((q : Option MessageQuestion) (items : List Item)
    → IsPartial numbers q items w.message → IsTrue put ↔ (size q (items ++ i ∷ []) ≤ w.message.limit))
    → OnFalse put (message ≡ w.message) → Offers w (record { message = message; full = true }) (i ∷ [])
page_left w message i true numbers n unfull e fits stays = absurd (false≢true (sym e))
page_left w message i false numbers n unfull e fits stays =
    subst (λ p. Offers w (record { message = p; full = true }) (i ∷ [])) (sym stays)
    (Offers-left w i unfull (λ q items d le. false≢true
    ((fits q items (subst (λ k. IsPartial k q items w.message) (sym n) d)).1 le)))

-- as `page_put`, for a state that is equal to w
pub put_in : (v w : State) (message : wire.PartialMessage) (i : Item) (put : Bool) (numbers : Octets → ℕ)
    → w ≡ v → numbers ≡ quick_number → w.full ≡ false → put ≡ true → message.limit ≡ w.message.limit
    → ((q : Option MessageQuestion) (items : List Item) → IsPartial numbers q items w.message → IsTrue
    put ↔ (size q (items ++ i ∷ []) ≤ w.message.limit)) → ((q : Option MessageQuestion) (items : List
    Item) → IsPartial numbers q items w.message → OnTrue put (IsPartial numbers q (items ++ i ∷ []) message))
    → Offers v (record { message = message; full = w.full }) (i ∷ [])
put_in v w message i put numbers e n unfull is same fits puts =
    subst (λ u. Offers u (record { message = message; full = w.full }) (i ∷ [])) e
    (page_put w message i put numbers n unfull is same fits puts)

pub left_out : (v w : State) (message : wire.PartialMessage) (i : Item) (put : Bool) (numbers : Octets → ℕ)
    → w ≡ v → numbers ≡ quick_number
    → w.full ≡ false → put ≡ false → ((q : Option MessageQuestion) (items : List Item)
    → IsPartial numbers q items w.message → IsTrue put ↔ (size q (items ++ i ∷ []) ≤ w.message.limit))
    → OnFalse put (message ≡ w.message) → Offers v (record { message = message; full = true }) (i ∷ [])
left_out v w message i put numbers e n unfull is fits stays =
    subst (λ u. Offers u (record { message = message; full = true }) (i ∷ [])) e
    (page_left w message i put numbers n unfull is fits stays)
