-- The parts of data whose names are compressed: one name, a number and a name, or two names and
-- five numbers.
use Rattle.dns_wire.proofs.Common.{◌≡◌, suc-mul, ◌*◌, ℕ, ◌-◌, ◌≤◌, true, List, [], ◌∷◌, ◌++◌, length, take, drop, Option, None, Some, refl, sym, ap, ap₂, ◌∙◌, subst, arith, append-nil, length-append, take_at, drop_at, false≢true, none-some, same_Some, Bor, Octets, DomainName, wire, is_name, length-take, length-drop, Field, domain, type_mx, type_soa, Part, octets, name, field_front, cut, fields_of, parts, laid_parts, compresses, valid, cut_into, name_part, octets_part, front_taken, labels_of, IsWireForm, Cuts, IsWirePart, part_for, Name, number, zero, suc, replicate}
use Rattle.dns_rdata.specs.declared.parts.Part as Borrowed
use Rattle.dns_wire.proofs.DataWritten.{runs}
use Rattle.dns_wire.proofs.ValidData.{by_row}

cut_end : (d : Octets) (xs : List Part) → cut [] d ≡ Some xs → (d ≡ []) × (xs ≡ [])
unfolding cut
cut_end d xs h = grind (arith, same_Some, none-some)

-- a name first, and what follows it
first_name : (ps : List Field) (d : Octets) (xs : List Part) → cut (domain ∷ ps) d ≡ Some xs
    → (n : DomainName) × (rest : Octets) × (others : List Part) × (is_name n ≡ true)
    × (d ≡ wire n ++ rest) × (xs ≡ name n ∷ others) × (cut ps rest ≡ Some others)
first_name ps d xs h =
    let c = cut_into domain ps d xs h in
    let n = name_part d c.rest c.part c.front in
    (n.0, c.rest, c.others, n.2, n.3, sym c.whole ∙ ap (λ p. p ∷ c.others) (sym n.1), c.more)

-- a number first
first_number : (k : ℕ) (ps : List Field) (d : Octets) (xs : List Part)
    → cut (number k ∷ ps) d ≡ Some xs → (others : List Part) × (length (take k d) ≡ k)
    × (xs ≡ octets (take k d) ∷ others) × (cut ps (drop k d) ≡ Some others)
first_number k ps d xs h =
    let c = cut_into (number k) ps d xs h in
    let t = front_taken k d c.part c.rest c.front in
    let rest : drop k d ≡ c.rest = ap (drop k) t.0 ∙ drop_at (take k d) c.rest k t.1 in (
      c.others,
      t.1,
      sym c.whole ∙ ap (λ p. p ∷ c.others) (sym (octets_part k d c.rest c.part c.front)),
      ap (cut ps) rest ∙ c.more,
    )

-- numbers to the end
numbers_cut : (k m : ℕ) (d : Octets) (xs : List Part)
    → cut (replicate m (number k)) d ≡ Some xs → (xs ≡ runs k m d) × (length d ≡ m * k)
numbers_cut k zero d xs h = grind (arith, cut_end)
numbers_cut k (suc m) d xs h =
    let (others, long, is, more) = first_number k (replicate m (number k)) d xs h in
    let again = numbers_cut k m (drop k d) others more in (
      is ∙ ap (λ ys. octets (take k d) ∷ ys) again.0,
      omega (arith, long, again.1, length-take k d, length-drop k d, suc-mul m k),
    )

pub one_name_laid : (t : ℕ) (d : Octets) → fields_of t ≡ domain ∷ [] → compresses t ≡ true → valid t
    d ≡ true → (n : DomainName) × (is_name n ≡ true) × (d ≡ wire n) × (laid_parts t d ≡ name n ∷ [])
one_name_laid t d fields shared ok = grind (arith, first_name, cut_end, append-nil)

-- the parts of the data of an MX: a number of two octets and a name
pub exchange_laid : (t : ℕ) (d : Octets)
    → t ≡ type_mx → valid t d ≡ true → (n : DomainName) × (is_name n ≡ true)
    × (2 ≤ length d) × (drop 2 d ≡ wire n) × (laid_parts t d ≡ octets (take 2 d) ∷ name n ∷ [])
exchange_laid t d mx ok = grind (arith, first_number, first_name, cut_end, append-nil, length-take)

authority_cut : (t : ℕ) (d : Octets) → t ≡ type_soa
    → valid t d ≡ true → cut (domain ∷ domain ∷ replicate 5 (number 4)) d ≡ Some (laid_parts t d)
authority_cut t d soa ok = grind arith

-- data of an SOA begins with a name
pub server_some : (t : ℕ) (d : Octets)
    → t ≡ type_soa → valid t d ≡ true → field_front domain d ≡ None → ⊥
server_some t d soa ok e = let c =
    cut_into domain _ d (laid_parts t d) (authority_cut t d soa ok) in none-some _ (sym e ∙ c.front)

-- the parts of the data of an SOA, which is cut into its first name and what follows it
pub record AuthorityLaid (server rest : Octets) (ps : List Part) : Type 0 where
  pub borrowed : IsWireForm server
  pub mailbox : DomainName
  pub is_name : is_name mailbox ≡ true
  pub inside : 20 ≤ length rest
  pub long : length (drop (length rest - 20) rest) ≡ 5 * 4
  pub whole : take (length rest - 20) rest ≡ wire mailbox
  pub parts : ps
      ≡ name (labels_of server) ∷ name mailbox ∷ runs 4 5 (drop (length rest - 20) rest)

pub authority_laid : {r : Option (Borrowed.Part × Bor Octets)}
    {part : Borrowed.Part} {rest server : Bor Octets} (t : ℕ) (d : Octets)
    → t ≡ type_soa → valid t d ≡ true → r ≡ Some (part, rest) → part ≡ Name server
    → Cuts r (field_front domain d) → AuthorityLaid server.now rest.now (laid_parts t d)
authority_laid {r} {part} {rest} {server} t d soa ok some named cuts =
    let five = replicate 5 (number 4) in
    let borrowed = subst (λ x. Cuts x (field_front domain d)) some cuts in
    let c = cut_into domain (domain ∷ five) d (laid_parts t d) (authority_cut t d soa ok) in
    let same = same_Some _ _ (sym c.front
    ∙ subst (λ x. field_front domain d ≡ Some (part_for x, rest.now)) named borrowed.0) in
    let after : c.rest ≡ rest.now = ap (λ (x : Part × Octets). x.1) same in
    let (m, tail, others, ok_m, whole, parts, more) =
    first_name five rest.now c.others (ap (cut (domain ∷ five)) (sym after) ∙ c.more) in
    let (ends, long) = numbers_cut 4 5 tail others more in
    let offset : length rest.now - 20 ≡ length (wire m) =
    omega (arith, ap length whole, length-append (wire m) tail, long) in
    let back : drop (length rest.now - 20) rest.now ≡ tail =
    ap₂ drop offset whole ∙ drop_at (wire m) tail (length (wire m)) refl in
    record {
      borrowed = subst IsWirePart named borrowed.1;
      mailbox = m;
      is_name = ok_m;
      inside = omega (arith, ap length whole, length-append (wire m) tail, long);
      long = ap length back ∙ long;
      whole = ap₂ take offset whole ∙ take_at (wire m) tail (length (wire m)) refl;
      parts = sym c.whole ∙ ap₂ (λ x ys. x ∷ ys)
          (ap (λ (x : Part × Octets). x.0) same) (parts
          ∙ ap (λ ys. name m ∷ ys) (ends ∙ ap (runs 4 5) (sym back)));
    }

-- Of the types whose names are compressed, only MX and SOA have data other than one name.
pub one_left : (t : ℕ)
    → compresses t ≡ true → (t ≡ type_mx → ⊥) → (t ≡ type_soa → ⊥) → fields_of t ≡ domain ∷ []
one_left t = grind (arith, by_row, false≢true)
