-- Words that have a fault spell no data, and have no other fault.
use Rattle.dns_spec.proofs.Common.{◌≡◌, ℕ, suc, ◌+◌, ◌≤◌, inl, inr, Bool, true, false, ◌==◌, nat_le, List, [], ◌∷◌, length, Option, Some, None, refl, sym, ◌∙◌, ap, subst, arith, MatchBool, MatchOption, list_all, and_parts, leb-true, le-leb, eq-eqb, length-append, Octets, DomainName, Field, Word, SaysFields, word_fields_of, SaysTyped, is_unknown_mark, Says, DataFaultIs, FieldsFaultIs, TypedFaultIs, UnknownFaultIs}
use Rattle.std.proofs.lemmas.Bool.Decides.{when_true}
use Rattle.dns_spec.proofs.DataWords.OneData.{is_narrow, form_once, narrow_fields}

-- if words spell fields, there are as many words as fields
pub as_many_words : (fs : List Field) (origin : DomainName) (ws : List Word) (d : Octets)
    → SaysFields fs origin ws d → length fs ≡ length ws
as_many_words [] origin [] d h = refl
as_many_words [] origin (w ∷ ws) d h = absurd h
as_many_words (f ∷ fs) origin [] d h = absurd h
as_many_words (f ∷ fs) origin (w ∷ ws) d h = ap suc (as_many_words fs origin ws h.1 h.4)

-- what follows from two facts that are chosen by the same test, or by the same optional value
pub both_by_test : {P Q R S A : Type 0} (b : Bool) → (b ≡ true → P → R → A) → (b ≡ false → Q → S → A)
    → MatchBool b P Q → MatchBool b R S → A
both_by_test true f g h h' = f refl h h'
both_by_test false f g h h' = g refl h h'

pub both_by_option : {X P Q A : Type 0} {R S : X → Type 0} (o : Option X) → (P → Q → A)
    → ((x : X) → o ≡ Some x → R x → S x → A) → MatchOption o P R → MatchOption o Q S → A
both_by_option None f g h h' = f h h'
both_by_option (Some x) f g h h' = g x refl h h'

fields_not_said : (fs : List Field) (origin : DomainName) (n : ℕ) (ws : List Word) (k : ℕ)
    (d : Octets) → list_all is_narrow fs ≡ true → FieldsFaultIs fs origin n ws k
    → SaysFields fs origin ws d → n + length d ≤ 65535 → ⊥
fields_not_said [] origin n ws k d narrow fault h short = absurd fault
fields_not_said (f ∷ fs) origin n [] k d narrow fault h short = absurd fault
fields_not_said (f ∷ fs) origin n (w ∷ ws) k d narrow (inl fault) h short = fault.0 h.0 h.3
fields_not_said
    (f ∷ fs) origin n (w ∷ ws) k d narrow (inr (x, word, more)) (front, back, is, said, h) short =
    let parts = and_parts (is_narrow f) _ narrow in
    let same = ap length (form_once f origin w.raw x front parts.0 word.said said.said) in
    let long = ap length is ∙ length-append front back in
    fields_not_said fs origin (n + length x) ws k back parts.1
    (when_true _ _ (le-leb (n + length x) 65535 (omega (arith, same, long, short))) more) h
    (omega (arith, same, long, short))

fields_fault_once : (fs : List Field) (origin : DomainName) (n : ℕ) (ws : List Word) (j k : ℕ)
    → list_all is_narrow fs ≡ true → FieldsFaultIs fs origin n ws j
    → FieldsFaultIs fs origin n ws k → j ≡ k
fields_fault_once [] origin n ws j k narrow h h' = absurd h
fields_fault_once (f ∷ fs) origin n [] j k narrow h h' = absurd h
fields_fault_once (f ∷ fs) origin n (w ∷ ws) j k narrow (inl h) h' = grind arith
fields_fault_once (f ∷ fs) origin n (w ∷ ws) j k narrow (inr h) (inl h') = grind arith
fields_fault_once
    (f ∷ fs) origin n (w ∷ ws) j k narrow (inr (x, word, more)) (inr (y, word', more')) =
    let parts = and_parts (is_narrow f) _ narrow in
    let same = form_once f origin w.raw y x parts.0 word'.said word.said in
    both_by_test (nat_le (n + length x) 65535)
    (λ _. fields_fault_once fs origin (n + length x) ws j k parts.1) (λ _ h h'. h ∙ sym h') more
    (subst (λ z. MatchBool (nat_le (n + length z) 65535)
    (FieldsFaultIs fs origin (n + length z) ws k) (k ≡ 5)) same more')

typed_not_said : (t : ℕ) (origin : DomainName) (ws : List Word) (k : ℕ) (d : Octets)
    → TypedFaultIs t origin ws k → SaysTyped t origin ws d → length d ≤ 65535 → ⊥
typed_not_said t origin ws k d fault h short = both_by_option (word_fields_of t (length ws))
    (λ _ h. h)
    (λ fs is fault h. fields_not_said fs origin 0 ws k d (narrow_fields t (length ws) fs is)
    (when_true _ _ (eq-eqb (length fs) (length ws) (as_many_words fs origin ws d h)) fault) h
    (omega (arith, short))) fault h

typed_fault_once : (t : ℕ) (origin : DomainName) (ws : List Word) (j k : ℕ)
    → TypedFaultIs t origin ws j → TypedFaultIs t origin ws k → j ≡ k
typed_fault_once t origin ws j k = both_by_option (word_fields_of t (length ws))
    (λ h h'. h ∙ sym h')
    (λ fs is. both_by_test (length fs == length ws)
    (λ _. fields_fault_once fs origin 0 ws j k (narrow_fields t (length ws) fs is))
    (λ _ h h'. h ∙ sym h'))

unknown_fault_once : (t : ℕ) (ws : List Word) (j k : ℕ)
    → UnknownFaultIs t ws j → UnknownFaultIs t ws k → j ≡ k
unknown_fault_once t ws j k h h' = grind arith

pub no_data_said : (t : ℕ) (ws : List Word) (origin : DomainName) (k : ℕ) (d : Octets)
    → DataFaultIs t ws origin k → Says t ws origin d → ⊥
no_data_said t [] origin k d fault h =
    let short = leb-true _ 65535 (and_parts _ _ h.is_valid).0 in
    typed_not_said t origin [] k h.as_spelled fault h.said short
no_data_said t (w ∷ ws) origin k d fault h = search (arith, typed_not_said, leb-true)

pub fault_once : (t : ℕ) (ws : List Word) (origin : DomainName) (j k : ℕ)
    → DataFaultIs t ws origin j → DataFaultIs t ws origin k → j ≡ k
fault_once t [] origin j k = typed_fault_once t origin [] j k
fault_once t (w ∷ ws) origin j k = both_by_test (is_unknown_mark w)
    (λ _. unknown_fault_once t ws j k) (λ _. typed_fault_once t origin (w ∷ ws) j k)
