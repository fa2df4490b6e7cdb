-- Octets that spell no message have one fault.
use Rattle.dns_spec.proofs.Common.{◌≡◌, ℕ, zero, suc, ◌+◌, ◌<◌, ◌≤◌, Bool, true, false, List, [], ◌∷◌, ◌++◌, length, take, drop, nat_le, slice_get, Option, Some, None, refl, sym, ◌∙◌, ap₂, subst, subst₂, arith, same_Some, MatchOption, MatchBool, Octets, DomainName, Field, number, ipv4, ipv6, domain, string, strings, anything, field16, field_at, several, message_question_at}
use Rattle.dns_spec.specs.NamesInMessages.{pointer_place}
use Rattle.dns_spec.specs.MessageFaults.{step_fault, RunFault, stopped, too_long, labelled, pointed, QuestionFault, FieldFault, FieldsFault, RestFault, RecordFault, SeveralFault, RecordsFault, MessageFault}

-- at a label that fits, or at a valid pointer, no run stops
label_stops : (b : Octets) (s i k f : ℕ) → slice_get b i ≡ Some k → 0 < k → k < 64
    → i + 1 + k ≤ length b → step_fault b s i (slice_get b i) ≡ f → 0 < f → ⊥
label_stops b s i k f at some short within is pos = grind arith

pointer_stops : (b : Octets) (s i o o' p f : ℕ) → slice_get b i ≡ Some o → 192 ≤ o
    → slice_get b (i + 1) ≡ Some o' → p ≡ pointer_place o o' → 12 ≤ p → p < s
    → step_fault b s i (slice_get b i) ≡ f → 0 < f → ⊥
pointer_stops b s i o o' p f at high at' place from before is pos = grind arith

label_again : (b : Octets) (n : DomainName) (s i k j f : ℕ) (l m : Octets) → slice_get b i ≡ Some k
    → slice_get b i ≡ Some j → l ≡ take k (drop (i + 1) b) → m ≡ take j (drop (i + 1) b)
    → (j ≡ k) × (m ≡ l)
label_again b n s i k j f l m at at' is is' = grind (arith, same_Some)

pub run_once : {b : Octets} {n : DomainName} {s i f g : ℕ} → RunFault b n s i f
    → RunFault b n s i g → f ≡ g
run_once (stopped i f e pos) (stopped _ g e' pos') = sym e ∙ e'
run_once {b} {n} {s} (stopped i f e pos) (too_long _ k l at some short within is long) =
    absurd (label_stops b s i k f at some short within e pos)
run_once {b} {n} {s} (stopped i f e pos) (labelled _ k l g at some short within is ok more) =
    absurd (label_stops b s i k f at some short within e pos)
run_once {b} {n} {s} (stopped i f e pos) (pointed _ o o' p g at high at' is from before more) =
    absurd (pointer_stops b s i o o' p f at high at' is from before e pos)
run_once {b} {n} {s} (too_long i k l at some short within is long) (stopped _ g e pos) =
    absurd (label_stops b s i k g at some short within e pos)
run_once (too_long i k l at some short within is long)
    (too_long _ j m at' some' short' within' is' long') = refl
run_once {b} {n} {s} (too_long i k l at some short within is long)
    (labelled _ j m g at' some' short' within' is' ok more) =
    grind arith
run_once (too_long i k l at some short within is long)
    (pointed _ o o' p g at' high at'' is' from before more) =
    absurd (omega (arith, same_Some k o (sym at ∙ at'), short, high))
run_once {b} {n} {s} (labelled i k l f at some short within is ok more) (stopped _ g e pos) =
    absurd (label_stops b s i k g at some short within e pos)
run_once {b} {n} {s} (labelled i k l f at some short within is ok more)
    (too_long _ j m at' some' short' within' is' long) =
    grind arith
run_once {b} {n} {s} (labelled i k l f at some short within is ok more)
    (labelled _ j m g at' some' short' within' is' ok' more') =
    let same = label_again b n s i k j f l m at at' is is' in
    run_once more (subst₂ (λ x y. RunFault b (n ++ x ∷ []) s (i + 1 + y) g) same.1 same.0 more')
run_once (labelled i k l f at some short within is ok more)
    (pointed _ o o' p g at' high at'' is' from before more') =
    absurd (omega (arith, same_Some k o (sym at ∙ at'), short, high))
run_once {b} {n} {s} (pointed i o o' p f at high at' is from before more) (stopped _ g e pos) =
    absurd (pointer_stops b s i o o' p g at high at' is from before e pos)
run_once (pointed i o o' p f at' high at'' is' from before more')
    (too_long _ k l at some short within is long) =
    absurd (omega (arith, same_Some k o (sym at ∙ at'), short, high))
run_once (pointed i o o' p f at' high at'' is' from before more')
    (labelled _ k l g at some short within is ok more) =
    absurd (omega (arith, same_Some k o (sym at ∙ at'), short, high))
run_once {b} {n} {s} (pointed i o o' p f at high at' is from before more)
    (pointed _ v v' q g on high' on' is' from' before' more') =
    let same : q ≡ p = is' ∙ ap₂ pointer_place (same_Some v o (sym on ∙ at))
    (same_Some v' o' (sym on' ∙ at')) ∙ sym is in
    run_once more (subst (λ x. RunFault b n x x g) same more')

-- one fault, by whether an option has a value, or by a test
matched_once : {A : Type 0} (P : ℕ → Type 0) (R : A → ℕ → Type 0) (o : Option A) (f g : ℕ)
    → (P f → P g → f ≡ g) → ((a : A) → R a f → R a g → f ≡ g)
    → MatchOption o (P f) (λ a. R a f) → MatchOption o (P g) (λ a. R a g) → f ≡ g
matched_once P R None f g one other = one
matched_once P R (Some a) f g one other = other a

tested_once : (P R : ℕ → Type 0) (b : Bool) (f g : ℕ) → (P f → P g → f ≡ g)
    → (R f → R g → f ≡ g) → MatchBool b (P f) (R f) → MatchBool b (P g) (R g) → f ≡ g
tested_once P R true f g one other = one
tested_once P R false f g one other = other

same_number : (k f g : ℕ) → f ≡ k → g ≡ k → f ≡ g
same_number k f g e e' = e ∙ sym e'

question_once : (b : Octets) (i f g : ℕ) → QuestionFault b i f → QuestionFault b i g → f ≡ g
question_once b i f g = grind (arith, run_once)

field_once : (b : Octets) (p : Field) (i f g : ℕ) → FieldFault b p i f → FieldFault b p i g
    → f ≡ g
field_once b domain i f g = grind (arith, run_once)
field_once b (number k) i f g = same_number 5 f g
field_once b ipv4 i f g = same_number 5 f g
field_once b ipv6 i f g = same_number 5 f g
field_once b string i f g = same_number 5 f g
field_once b strings i f g = same_number 5 f g
field_once b anything i f g = same_number 5 f g

fields_once : (b : Octets) (ps : List Field) (i e f g : ℕ) → FieldsFault b ps i e f
    → FieldsFault b ps i e g → f ≡ g
fields_once b [] i e f g = same_number 5 f g
fields_once b (p ∷ ps) i e f g =
    matched_once (FieldFault b p i) (λ r f. FieldsFault b ps r.1 e f) (field_at b p i e) f g
    (field_once b p i f g) (λ r. fields_once b ps r.1 e f g)

rest_once : (b : Octets) (j f g : ℕ) → RestFault b j f → RestFault b j g → f ≡ g
rest_once b j f g = grind (arith, fields_once)

record_once : (b : Octets) (i f g : ℕ) → RecordFault b i f → RecordFault b i g → f ≡ g
record_once b i f g = grind (arith, run_once, rest_once)

several_once : {X : Type 0} (read : ℕ → Option (X × ℕ)) (Fault : ℕ → ℕ → Type 0)
    → ((i f g : ℕ) → Fault i f → Fault i g → f ≡ g) → (k i f g : ℕ)
    → SeveralFault read Fault k i f → SeveralFault read Fault k i g → f ≡ g
several_once read Fault one zero i f g = λ none. absurd none
several_once read Fault one (suc k) i f g =
    matched_once (Fault i) (λ r f. SeveralFault read Fault k r.1 f) (read i) f g (one i f g)
    (λ r. several_once read Fault one k r.1 f g)

records_once : (b : Octets) (k : ℕ) (Rest : ℕ → ℕ → Type 0) → ((i f g : ℕ) → Rest f i → Rest g i
    → f ≡ g) → (i f g : ℕ) → RecordsFault b k f (Rest f) i → RecordsFault b k g (Rest g) i → f ≡ g
records_once b k Rest one i f g = grind (arith, several_once, record_once)

pub message_once : (b : Octets) (f g : ℕ) → MessageFault b f → MessageFault b g → f ≡ g
message_once b f g =
    tested_once Within (λ f. f ≡ 1) (nat_le 12 (length b)) f g
    (matched_once (SeveralFault (message_question_at b) (QuestionFault b) (field16 b 4) 12)
    (λ r f. Answers f r.1) (several (message_question_at b) (field16 b 4) 12) f g
    (several_once (message_question_at b) (QuestionFault b) (question_once b) (field16 b 4) 12 f g)
    (λ r. records_once b (field16 b 6) Authorities authorities r.1 f g)) (same_number 1 f g)
  where
    Additionals : ℕ → ℕ → Type 0
    Additionals f = RecordsFault b (field16 b 10) f (λ _. f ≡ 6)

    Authorities : ℕ → ℕ → Type 0
    Authorities f = RecordsFault b (field16 b 8) f (Additionals f)

    Answers : ℕ → ℕ → Type 0
    Answers f = RecordsFault b (field16 b 6) f (Authorities f)

    Within : ℕ → Type 0
    Within f = MatchOption (several (message_question_at b) (field16 b 4) 12)
        (SeveralFault (message_question_at b) (QuestionFault b) (field16 b 4) 12 f)
        (λ r. Answers f r.1)

    additionals : (i f g : ℕ) → Additionals f i → Additionals g i → f ≡ g
    additionals i f g =
        records_once b (field16 b 10) (λ f _. f ≡ 6) (λ _ f g. same_number 6 f g) i f g

    authorities : (i f g : ℕ) → Authorities f i → Authorities g i → f ≡ g
    authorities i f g = records_once b (field16 b 8) Additionals additionals i f g
