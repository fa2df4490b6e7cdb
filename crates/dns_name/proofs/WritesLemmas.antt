-- A text that is written piece by piece: what consecutive pieces have appended, and what is still
-- to be written.
use Rattle.dns_name.proofs.Common.{◌≡◌, ℕ, suc, ◌+◌, ◌-◌, ◌<◌, List, [], ◌∷◌, ◌++◌, slice_index_or, Result, ap, ◌∙◌, Option, length, take, drop, sym, subst, arith, append_assoc, length-drop, length-append, take-add, take-append-add, take-suc, take_all, take-append-le, take-append-drop, append-nil, flat_map-append, Bor, Appends, Appends-trans, Counted, Writes, Fills, failures_after, joined, AppendsBeginning, AppendsAllBut}
use Rattle.dns_spec.proofs.Common.{on_ok_weaker, on_err_weaker}

-- the first n octets of a text were written, and then the first m octets of `&text[n..]`
pub Appends-take-add : (a b c : Option (List ℕ)) (text : List ℕ) (n m : ℕ)
    → Appends a b (take n text)
    → Appends b c (take m (take (length text - n) (drop n text))) → Appends a c (take (n + m) text)
Appends-take-add a b c text n m first second =
    grind (arith, length-drop, take_all, take-add, Appends-trans)

-- a prefix of a text is also a prefix of that text followed by another
pub beginning_of_first : (a b : Option (List ℕ)) (xs ys : List ℕ)
    → AppendsBeginning a b xs → AppendsBeginning a b (xs ++ ys)
beginning_of_first a b xs ys (n, h, front) = (
  n,
  omega (arith, h, length-append xs ys),
  subst (Appends a b) (sym (take-append-le n xs ys h)) front,
)

-- a whole text was written, and then a prefix of the next
pub beginning_of_second : (a b c : Option (List ℕ)) (xs ys : List ℕ)
    → Appends a b xs → AppendsBeginning b c ys → AppendsBeginning a c (xs ++ ys)
beginning_of_second a b c xs ys whole (n, h, front) = (
  length xs + n,
  omega (arith, h, length-append xs ys),
  subst (Appends a c)
      (sym (take-append-add xs ys n)) (Appends-trans a b c xs (take n ys) whole front),
)

-- the parts before place i, that part, and the parts after it
joined_at : (parts : List (Bor (List ℕ))) (i : ℕ) (d : Bor (List ℕ)) → i < length parts → joined
    parts ≡ (joined (take i parts) ++ (slice_index_or parts i d).now) ++ joined (drop (suc i) parts)
joined_at parts i d h =
    let part : Bor (List ℕ) = slice_index_or parts i d in
    let front : joined (take (suc i) parts) ≡ joined (take i parts) ++ part.now =
    ap joined (take-suc parts i d h) ∙ flat_map-append (λ (p : Bor (List ℕ)). p.now)
    (take i parts) (part ∷ []) ∙ ap (λ xs. joined (take i parts) ++ xs) (append-nil part.now)
    in
    ap joined (sym (take-append-drop (suc i) parts))
    ∙ flat_map-append (λ (p : Bor (List ℕ)). p.now) (take (suc i) parts) (drop (suc i) parts)
    ∙ ap (λ xs. xs ++ joined (drop (suc i) parts)) front

-- what is written of a text is written of an equal text
pub Writes-same : {W A E : Type 0}
    {contents : W → Option (List ℕ)} {old new : Counted W} {r : Result A E} {xs ys : List ℕ}
    → xs ≡ ys → Writes contents old new r xs → Writes contents old new r ys
Writes-same {contents = contents} {old} {new} {r} e w = subst (Writes contents old new r) e w

-- a text was written, followed by what a call writes
pub Writes-after : {W A E : Type 0}
    {contents : W → Option (List ℕ)} {old mid new : Counted W} {r : Result A E} (xs ys : List ℕ)
    → Appends (contents old.device) (contents mid.device) xs → mid.failures ≡ old.failures
    → Writes contents mid new r ys → Writes contents old new r (xs ++ ys)
Writes-after {contents = contents} {old} {mid} {new} {r} xs ys h same w = record {
  ok = on_ok_weaker r (λ k. Appends-trans
      (contents old.device) (contents mid.device) (contents new.device) xs ys h k) w.ok;
  err = on_err_weaker r (λ k. beginning_of_second
      (contents old.device) (contents mid.device) (contents new.device) xs ys h k) w.err;
  counted = w.counted ∙ ap (λ count. failures_after count r) same;
}

-- all parts before index i were written, and then a prefix of the part with index i
pub beginning_of_parts : (a b c : Option (List ℕ)) (parts : List (Bor (List ℕ)))
    (i : ℕ) (d : Bor (List ℕ)) → i < length parts → Appends a b (joined (take i parts))
    → AppendsBeginning b c (slice_index_or parts i d).now → AppendsBeginning a c (joined parts)
beginning_of_parts a b c parts i d h before begun =
    subst (AppendsBeginning a c) (sym (joined_at parts i d h))
    (beginning_of_first a c _ _ (beginning_of_second a b c _ _ before begun))

-- all of the whole text was appended, except the rest
abbrev pub Written : Option (List ℕ) → Option (List ℕ) → List ℕ → List ℕ → Type 0
Written = AppendsAllBut

-- the next piece was written too
pub Written-more : (old new newer : Option (List ℕ)) (whole rest piece others : List ℕ)
    → Written old new whole rest
    → rest ≡ piece ++ others → Appends new newer piece → Written old newer whole others
Written-more old new newer whole rest piece others so e h =
    grind (arith, Appends-trans, append_assoc)

-- a prefix of the next piece was written
pub Written-begun : (old new newer : Option (List ℕ)) (whole rest piece others : List ℕ)
    → Written old new whole rest
    → rest ≡ piece ++ others → AppendsBeginning new newer piece → AppendsBeginning old newer whole
Written-begun old new newer whole rest piece others so e h =
    subst (AppendsBeginning old newer) (ap (λ xs. so.done ++ xs) (sym e) ∙ so.whole_is)
    (beginning_of_second old new newer so.done
    (piece ++ others) so.appended (beginning_of_first new newer piece others h))

-- the next piece is held too
pub held_more : (old new : Option (List ℕ)) (whole held rest piece others : List ℕ)
    → AppendsAllBut old new whole (held ++ rest)
    → rest ≡ piece ++ others → AppendsAllBut old new whole ((held ++ piece) ++ others)
held_more old new whole held rest piece others so e = grind (arith, append_assoc)

-- what was held was put into a buffer, which now holds less of it
pub held_less : (old new newer : Option (List ℕ)) (whole held less rest : List ℕ)
    → AppendsAllBut old new whole (held ++ rest)
    → AppendsAllBut new newer held less → AppendsAllBut old newer whole (less ++ rest)
held_less old new newer whole held less rest so then = grind (arith, Appends-trans, append_assoc)

-- a prefix of what was held was written
pub held_begun : (old new newer : Option (List ℕ)) (whole held rest : List ℕ) → AppendsAllBut old
    new whole (held ++ rest) → AppendsBeginning new newer held → AppendsBeginning old newer whole
held_begun old new newer whole held rest so begun =
    subst (AppendsBeginning old newer) so.whole_is
    (beginning_of_second old new newer so.done
    (held ++ rest) so.appended (beginning_of_first new newer held rest begun))

-- if more text follows what was put, that text is held as well
pub held_before : (old new : Option (List ℕ)) (whole held more : List ℕ)
    → AppendsAllBut old new whole held → AppendsAllBut old new (whole ++ more) (held ++ more)
held_before old new whole held more so = grind (arith, append_assoc)

-- what is put of a text is put of an equal text
pub Fills-same : {W A E : Type 0}
    {contents : W → Option (List ℕ)} {old new : Counted W} {r : Result A E} {xs ys held : List ℕ}
    → xs ≡ ys → Fills contents old new r xs held → Fills contents old new r ys held
Fills-same {contents = contents} {old} {new} {r} {held = held} e f =
    subst (λ (xs : List ℕ). Fills contents old new r xs held) e f

-- a text was put, and then a call puts what was held of it
pub Fills-after : {W A E : Type 0} {contents : W → Option (List ℕ)}
    {old mid new : Counted W} {r : Result A E} (whole held less : List ℕ)
    → AppendsAllBut (contents old.device) (contents mid.device) whole held → mid.failures
    ≡ old.failures → Fills contents mid new r held less → Fills contents old new r whole less
Fills-after {contents = contents} {old} {mid} {new} {r} whole held less so same f = record {
  ok = on_ok_weaker r (λ then. after then) f.ok;
  err = on_err_weaker r (λ begun. begins begun) f.err;
  counted = f.counted ∙ ap (λ count. failures_after count r) same;
}
  where
    all : AppendsAllBut (contents old.device) (contents mid.device) whole (held ++ [])
    all = subst
        (AppendsAllBut (contents old.device) (contents mid.device) whole) (sym (append-nil held)) so

    after : AppendsAllBut (contents mid.device) (contents new.device) held less
        → AppendsAllBut (contents old.device) (contents new.device) whole less
    after then =
        subst (AppendsAllBut (contents old.device) (contents new.device) whole) (append-nil less)
        (held_less (contents old.device)
        (contents mid.device) (contents new.device) whole held less [] all then)

    begins : AppendsBeginning (contents mid.device) (contents new.device) held
        → AppendsBeginning (contents old.device) (contents new.device) whole
    begins = held_begun
        (contents old.device) (contents mid.device) (contents new.device) whole held [] all

-- a text was put, and then what was held of it is written
pub Writes-held : {W A E : Type 0} {contents : W → Option (List ℕ)}
    {old mid new : Counted W} {r : Result A E} (whole held : List ℕ)
    → AppendsAllBut (contents old.device) (contents mid.device) whole held
    → mid.failures ≡ old.failures → Writes contents mid new r held → Writes contents old new r whole
Writes-held {contents = contents} {old} {mid} {new} {r} whole held so same w =
    Writes-same so.whole_is (Writes-after so.done held so.appended same w)
