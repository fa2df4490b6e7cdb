-- Data that is a name, or numbers followed by a name, has that name as its target.
use Rattle.dns_rdata.proofs.Common.{◌≡◌, ℕ, ◌+◌, ◌≤◌, true, List, [], ◌∷◌, length, take, drop, Option, Some, sym, ap, ◌∙◌, subst, arith, append-nil, length-append, drop_at, drop-drop, none-some, Octets, DomainName, wire, is_name, Field, number, ipv4, ipv6, domain, string, strings, anything, Part, fields_of, cut, valid, first_name, target, cut_into, cut_data, name_part, octets_part, front_taken, before_name}
use Rattle.dns_spec.proofs.General.Options.{map_some}

-- the octets after the first k are a name, and it is the name sought
pub record EndsWithName (k : ℕ) (d : Octets) (sought : Option DomainName) : Type 0 where
  pub inside : k ≤ length d
  pub own : DomainName
  pub is_name : is_name own ≡ true
  pub whole : drop k d ≡ wire own
  pub found : sought ≡ Some own

one_name : (d : Octets) (xs : List Part)
    → cut (domain ∷ []) d ≡ Some xs → EndsWithName 0 d (first_name xs)
unfolding cut
one_name d xs e = grind (arith, cut_into, name_part, none-some, append-nil)

after_number : (j k : ℕ) (fs : List Field) (d : Octets) (xs : List Part)
    → cut (number j ∷ fs) d ≡ Some xs → ((d : Octets) (xs : List Part)
    → cut fs d ≡ Some xs → EndsWithName k d (first_name xs)) → EndsWithName (j + k) d (first_name xs)
after_number j k fs d xs e ends =
    let c = cut_into (number j) fs d xs e in
    let t = front_taken j d c.part c.rest c.front in
    let n = ends c.rest c.others c.more in
    let rest : drop j d ≡ c.rest = ap (drop j) t.0 ∙ drop_at (take j d) c.rest j t.1 in
    record {
      inside = omega (arith, ap length t.0, length-append (take j d) c.rest, t.1, n.inside);
      own = n.own;
      is_name = n.is_name;
      whole = sym (drop-drop k j d) ∙ ap (drop k) rest ∙ n.whole;
      found = ap first_name (sym c.whole) ∙ ap (λ p. first_name (p ∷ c.others))
          (sym (octets_part j d c.rest c.part c.front)) ∙ n.found;
    }

by_fields : (fs : List Field) (k : ℕ) (d : Octets) (xs : List Part)
    → before_name fs ≡ Some k → cut fs d ≡ Some xs → EndsWithName k d (first_name xs)
by_fields (number j ∷ fs) k d xs is e =
    map_some (λ i. j + i) (before_name fs) k is (λ i was sum.
    subst (λ z. EndsWithName z d (first_name xs)) sum
    (after_number j i fs d xs e (λ d xs. by_fields fs i d xs was)))
by_fields (domain ∷ []) k d xs is e = grind (arith, one_name)
by_fields [] k d xs is e = absurd (none-some k is)
by_fields (domain ∷ f ∷ fs) k d xs is e = absurd (none-some k is)
by_fields (ipv4 ∷ fs) k d xs is e = absurd (none-some k is)
by_fields (ipv6 ∷ fs) k d xs is e = absurd (none-some k is)
by_fields (string ∷ fs) k d xs is e = absurd (none-some k is)
by_fields (strings ∷ fs) k d xs is e = absurd (none-some k is)
by_fields (anything ∷ fs) k d xs is e = absurd (none-some k is)

pub ends_with_name : (t k : ℕ) (d : Octets)
    → before_name (fields_of t) ≡ Some k → valid t d ≡ true → EndsWithName k d (target t d)
ends_with_name t k d is ok =
    let c = cut_data t d ok in
    subst (λ xs. EndsWithName k d (first_name xs)) (sym c.parts_are)
    (by_fields (fields_of t) k d c.cut_parts is c.is_cut)
