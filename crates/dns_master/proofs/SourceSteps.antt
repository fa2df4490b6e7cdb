-- A source's octets, read piece by piece.
use Rattle.dns_master.proofs.Common.{◌≡◌, ℕ, ◌+◌, ◌≤◌, ◌⊎◌, inl, inr, Bool, true, false, List, [], ◌++◌, length, take, nat_lt, length-append, append-nil, append_assoc, refl, sym, ap, ◌∙◌, subst, arith, Option, Some, None, take_all, take_at, Consumes, IsAtEnd, lt-ltb, le-ltb, Octets, DomainName, ResourceRecord, FileFault, Meaning, Means, records, fault_at, after, TextMeans, ReaderMeans, TextAdded, PieceTaken, PieceFaulty, Reader, ReadFault, Result, IfErr, IfErr-weaker, fault_handed_on, AppendsPiece, Decides, IsRead, ReadsFile, OfEntry, OfFile, code_number, fault_of, failures_after_read}
use Rattle.std.proofs.Common.{subst₂}
use Rattle.std.specs.Prelude.{IfOk, IsErrAnd, Ok, Err}
use Rattle.std.proofs.lemmas.Result.{IfOk-weaker}
use Rattle.dns_name.specs.Counted.{Counted}
use Rattle.dns_spec.specs.Meaning.{most_records}
use Rattle.dns_master.proofs.GivenCount.{means-few}
use Rattle.dns_master.proofs.EntriesLoop.{after-append, looked-means}
use Rattle.dns_spec.proofs.General.Fronts.{looked_at}

pub Consumes-more : (old middle new : Option Octets) (text came text' : Octets) → Consumes
    old middle text → Consumes middle new came → text' ≡ text ++ came → Consumes old new text'
Consumes-more None middle new text came text' h k e = tt
Consumes-more (Some xs) None new text came text' h k e = absurd h
Consumes-more (Some xs) (Some ys) None text came text' h k e = absurd k
Consumes-more (Some xs) (Some ys) (Some zs) text came text' h k e = grind (arith, append_assoc)

-- the octets read so far, and what they mean: the records found, followed by what the held octets
-- mean
pub record GivenSoFar (old new : Option Octets) (o : DomainName)
    (r : Reader) (held : Octets) (left : ℕ) (found : List ResourceRecord) : Type 0 where
  pub given : Octets
  pub consumed : Consumes old new given
  pub size : length given + left ≡ 16777216
  pub means : (more : Octets) (goes_on : Bool) (later : Meaning) → ReaderMeans r goes_on
      (held ++ more) later → TextMeans o [] goes_on (given ++ more) (after found later)

module _ (old mid new : Option Octets) (o : DomainName) (r : Reader) (held : Octets)
    (left : ℕ) (found : List ResourceRecord) (so : GivenSoFar old mid o r held left found) where
  -- another piece is read
  pub piece-given : (r' : Reader)
      (held' : Octets) (left' : ℕ) (more : Bool) (found' : List ResourceRecord) → PieceTaken mid
      new r held left r' held' left' more found found' → GivenSoFar old new o r' held' left' found'
  piece-given r' held' left' more found' p =
      record {
        given = so.given ++ p.came;
        consumed = Consumes-more old mid new so.given p.came _ so.consumed p.consumed refl;
        size = omega (arith, length-append so.given p.came, so.size, p.size);
        means = λ rest goes_on later h.
            subst₂ (TextMeans o [] goes_on) (sym (append_assoc so.given p.came rest))
            (after-append found p.added.came later ∙ ap (λ rs. after rs later) (sym p.added.grown))
            (so.means (p.came ++ rest) goes_on (after p.added.came later)
            (subst (λ x. ReaderMeans r goes_on x (after p.added.came later))
            (append_assoc held p.came rest) (p.added.taken rest goes_on later tt h)));
      }

  -- a fault that a piece decides is decided by all octets read so far
  pub fault-given : (fault : FileFault) (line : ℕ)
      → PieceFaulty mid new r held left fault line → Decides old new o (fault_at fault line)
  fault-given fault line p =
      let given : Octets = so.given ++ p.came in
      let size : length given ≡ length so.given + length p.came = length-append so.given p.came in
      record {
        given = given;
        consumed = Consumes-more old mid new so.given p.came given so.consumed p.consumed refl;
        few = omega (arith, size, so.size, p.few);
        decided = inr (λ rest.
            (let seen = looked_at 16777216 given rest (omega (arith, size, so.size, p.few)) in
            let goes_on : Bool = nat_lt 16777216 (length (given ++ rest)) in
            looked-means o (given ++ rest) (given ++ seen.0) goes_on _ (sym seen.1) refl
            (subst (λ x. TextMeans o [] goes_on x (fault_at fault line))
            (sym (append_assoc so.given p.came seen.0))
            (so.means (p.came ++ seen.0) goes_on (fault_at fault line)
            (subst (λ x. ReaderMeans r goes_on x (fault_at fault line))
            (append_assoc held p.came seen.0) (p.is_faulty seen.0 goes_on tt))))));
      }

  -- what the octets read so far mean, if no others follow that are examined
  all-means : (goes_on : Bool) (m : Meaning) → ReaderMeans r goes_on held m
      → TextMeans o [] goes_on so.given (after found m)
  all-means goes_on m h =
      subst (λ x. TextMeans o [] goes_on x (after found m)) (append-nil so.given)
      (so.means [] goes_on m
      (subst (λ x. ReaderMeans r goes_on x m) (sym (append-nil held)) h))

  -- the meaning of the held octets when the source is at its end
  pub end-given : (end : Option Octets) (m : Meaning) → Consumes old end so.given → IsAtEnd end
      → ReaderMeans r false held m → Decides old end o (after found m)
  end-given end m consumed over h =
      let few : length so.given ≤ 16777216 = omega (arith, so.size) in
      record {
        given = so.given;
        consumed = consumed;
        few = omega (arith, few);
        decided = inl (
          over,
          looked-means o so.given so.given false (after found m)
              (sym (take_all 16777216 so.given few)) (sym (le-ltb 16777216 (length so.given) few))
              (all-means false m h),
        );
      }

  -- the meaning of the held octets when the limit is reached, after asking for one more octet
  pub limit-given : {text text' : Octets} (goes_on : Bool) (m : Meaning)
      → left ≡ 0 → AppendsPiece mid new 1 text text' goes_on
      → ReaderMeans r goes_on held m → Decides old new o (after found m)
  limit-given true m full more h =
      let given : Octets = so.given ++ more.came in
      let size : length given ≡ length so.given + length more.came =
      length-append so.given more.came in
      record {
        given = given;
        consumed =
            Consumes-more old mid new so.given more.came given so.consumed more.consumed refl;
        few = omega (arith, size, so.size, more.short);
        decided = inr (λ rest. looked-means o (given ++ rest) so.given true (after found m)
            (sym (ap (take 16777216) (append_assoc so.given more.came rest) ∙ take_at so.given
            (more.came ++ rest) 16777216 (omega (arith, so.size, full))))
            (sym (lt-ltb 16777216 (length (given ++ rest)) (omega (
              arith,
              length-append given rest,
              size,
              more.some refl,
              so.size,
              full,
            )))) (all-means true m h));
      }
  limit-given false m full more h =
      let none = more.over refl in
      end-given new m (subst (Consumes old new) (ap (λ x. so.given ++ x) none.0
      ∙ append-nil so.given) (Consumes-more old mid new so.given more.came _ so.consumed
      more.consumed refl)) none.1 h

-- a decided meaning is the meaning of all that the source gives
is_read : (old new : Option Octets) (o : DomainName) (m : Meaning)
    → Decides old new o m → IsRead old new o m
is_read None new o m d = record { means = tt; decides = d }
is_read (Some x) None o m d = absurd d.consumed
is_read (Some x) (Some y) o m d = record { means = go d.decided; decides = d }
  where
    go : (IsAtEnd (Some y) × Means o d.given m) ⊎ ((more : Octets) → Means o (d.given ++ more) m)
        → Means o x m
    go (inl (over, h)) = subst
        (λ t. Means o t m) (sym (d.consumed ∙ ap (λ t. d.given ++ t) over ∙ append-nil d.given)) h
    go (inr h) = subst (λ t. Means o t m) (sym d.consumed) (h y)

-- records that are decided are at most 100,000
decided_few : (old new : Option Octets) (o : DomainName) (rs : List ResourceRecord)
    → Decides old new o (records rs) → length rs ≤ most_records
decided_few old new o rs d = go d.decided
  where
    go : (IsAtEnd new × Means o d.given (records rs))
        ⊎ ((more : Octets) → Means o (d.given ++ more) (records rs)) → length rs ≤ most_records
    go (inl (over, h)) = means-few o d.given rs h
    go (inr h) = means-few o (d.given ++ []) rs (h [])

no_value : {A E : Type 0} (result : Result A E) (P : E → Type 0) (Q : A → Type 0)
    → IsErrAnd result P → IfOk result Q
no_value (Ok a) P Q is = absurd is
no_value (Err f) P Q is = tt

module _ {R A : Type 0} (remaining : R → Option Octets) (old new : Counted R) (o : DomainName)
    (found : A → List ResourceRecord) (result : Result A ReadFault) where
  -- a read that passes on the fault of a call, provided that the octets read decide this fault
  pub fault_read : (fault : ReadFault) (P : FileFault → ℕ → Type 0)
      → IsErrAnd result (λ f. f ≡ fault) → ((code : FileFault) (line : ℕ) → P code line
      → Decides (remaining old.device) (remaining new.device) o (fault_at code line))
      → OfFile P fault → new.failures ≡ failures_after_read old.failures result
      → ReadsFile remaining old new o found result
  fault_read fault P is decided of counted = record {
    ok = no_value result _ _ is;
    few = no_value result _ _ is;
    err = fault_handed_on result fault _ is (record {
      told = λ source memory. is_read _ _ o (fault_at (fault_of fault.code) fault.line)
          (decided (fault_of fault.code) fault.line (of.told source memory));
      line = of.line;
    });
    counted = counted;
  }

  -- a read that ends by taking the held octets, provided that the octets read decide their meaning
  pub rest_read : (r : Reader) (goes_on : Bool) (held : Octets) (before : List ResourceRecord)
      → ((m : Meaning) → ReaderMeans r goes_on held m
      → Decides (remaining old.device) (remaining new.device) o (after before m))
      → IfOk result (λ a. TextAdded r goes_on held before (found a))
      → IfErr result (OfEntry (λ fault line. ReaderMeans r goes_on held (fault_at fault line)))
      → new.failures ≡ old.failures → ReadsFile remaining old new o found result
  rest_read r goes_on held before decided added fault same = record {
    ok = IfOk-weaker result _ _ (λ a t. is_read _ _ o (records (found a))
        (subst (λ rs. Decides (remaining old.device) (remaining new.device) o (records rs))
        (sym t.grown) (decided (records t.came) t.means))) added;
    few = IfOk-weaker result _ _ (λ a t. decided_few _ _ o (found a)
        (subst (λ rs. Decides (remaining old.device) (remaining new.device) o (records rs))
        (sym t.grown) (decided (records t.came) t.means))) added;
    err = IfErr-weaker result _ _ (λ f h. record {
      told = λ _ memory. is_read _ _ o (fault_at (fault_of f.code) f.line)
          (decided (fault_at (fault_of f.code) f.line) (h.told memory));
      line = grind arith;
    }) fault;
    counted = grind (arith, failures_after_read, code_number);
  }
