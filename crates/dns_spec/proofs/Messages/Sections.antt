-- Questions, records and fields of data that are read one after another.
use Rattle.dns_spec.proofs.Common.{◌≡◌, ℕ, suc, ◌+◌, ◌-◌, ◌≤◌, ◌≢◌, List, [], ◌∷◌, ◌++◌, length, take, drop, Option, Some, option_map, refl, arith, le-leb, Octets, wire, Field, domain, Part, part_octets, field_front, MessageQuestion, MessageRecord, DnsMessage, fields_at, field_at, field16, field32, data_at, several, message_question_at, message_record_at, message_at, eq-eqb, data_fields, name_at, head_of, DomainName}
use Rattle.dns_spec.proofs.General.Options.{and_then_some}

module _ {X : Type 0} (read : ℕ → Option (X × ℕ)) where
  -- one element, and the others after it
  pub several_more : (k i j e : ℕ) (x : X) (xs : List X) → read i ≡ Some (x, j)
      → several read k j ≡ Some (xs, e) → several read (suc k) i ≡ Some (x ∷ xs, e)
  unfolding several
  several_more k i j e x xs one others = grind arith

  -- the elements xs, and the elements ys after them
  pub several_split : (xs ys : List X) (i e : ℕ)
      → several read (length (xs ++ ys)) i ≡ Some (xs ++ ys, e) → (j : ℕ)
      × (several read (length xs) i ≡ Some (xs, j)) × (several read (length ys) j ≡ Some (ys, e))
  unfolding several
  several_split [] ys i e h = (i, refl, h)
  several_split (x ∷ xs) ys i e h =
      let one = and_then_some (λ r. option_map (λ s. (r.0 ∷ s.0, s.1)) (several read
      (length (xs ++ ys)) r.1)) (read i) (x ∷ (xs ++ ys), e) h in
      grind (arith, (several_split xs ys one.0.1 e))

module _ (b : Octets) where
  -- a name, and any other field, which the octets of the data begin with
  pub name_field : (n : DomainName) (i j e : ℕ) → name_at b i ≡ Some (n, j) → j ≤ e
      → field_at b domain i e ≡ Some (wire n, j)
  name_field n i j e at inside = grind (arith, le-leb)

  pub field_own : (p : Field) (i e : ℕ) (os rest : Octets) (part : Part)
      → p ≢ domain → take (e - i) (drop i b) ≡ os → field_front p os ≡ Some (part, rest)
      → field_at b p i e ≡ Some (part_octets part, e - length rest)
  field_own p i e os rest part other own front = grind arith

  -- a field, and the other fields after it
  pub fields_more : (p : Field) (ps : List Field) (i j e : ℕ) (o rest : Octets)
      → field_at b p i e ≡ Some (o, j) → fields_at b ps j e ≡ Some rest
      → fields_at b (p ∷ ps) i e ≡ Some (o ++ rest)
  unfolding fields_at
  fields_more p ps i j e o rest one others = grind arith

  pub data_read : (t c i e : ℕ) (d : Octets) → i ≤ e → e ≤ length b
      → fields_at b (data_fields t c) i e ≡ Some d → data_at b t c i e ≡ Some d
  data_read t c i e d ordered within fields = grind arith

  -- a question, a record, and the message
  pub question_read : (i j : ℕ) (q : MessageQuestion) → name_at b i ≡ Some (q.qname, j)
      → j + 4 ≤ length b → field16 b j ≡ q.qtype → field16 b (j + 2) ≡ q.qclass
      → message_question_at b i ≡ Some (q, j + 4)
  question_read i j q at within qtype qclass = grind (arith, le-leb)

  pub record_read : (i j len : ℕ) (r : MessageRecord) → name_at b i ≡ Some (r.owner, j)
      → j + 10 ≤ length b → field16 b j ≡ r.rtype → field16 b (j + 2) ≡ r.rclass
      → field32 b (j + 4) ≡ r.ttl → field16 b (j + 8) ≡ len
      → data_at b r.rtype r.rclass (j + 10) (j + 10 + len) ≡ Some r.rdata
      → message_record_at b i ≡ Some (r, j + 10 + len)
  record_read i j len r at within rtype rclass ttl long rdata = grind (arith, le-leb)

  pub message_read : (m : DnsMessage) (i j k : ℕ) → 12 ≤ length b → head_of b ≡ m.header
      → several (message_question_at b) (field16 b 4) 12 ≡ Some (m.questions, i)
      → several (message_record_at b) (field16 b 6) i ≡ Some (m.answers, j)
      → several (message_record_at b) (field16 b 8) j ≡ Some (m.authorities, k)
      → several (message_record_at b) (field16 b 10) k ≡ Some (m.additionals, length b)
      → message_at b ≡ Some m
  unfolding message_at
  message_read m i j k header head questions answers authorities additionals =
      grind (arith, le-leb, eq-eqb)
