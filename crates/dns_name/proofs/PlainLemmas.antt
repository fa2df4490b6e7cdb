-- A text without escapes is read from its end: each label's length is put in the place of the dot
-- before the label.
use Rattle.dns_name.proofs.Common.{◌≡◌, ◌≢◌, ℕ, ◌+◌, ◌-◌, ◌<◌, ◌≤◌, ◌==◌, true, false, inl, inr, [], ◌∷◌, ◌++◌, length, take, drop, get_or, map, refl, sym, ◌∙◌, ap, subst, arith, and_from, eqb-false, or_parts, list_all, to_ascii_lowercase, Octets, DomainName, wire, is_label, is_name, folded, append_assoc, take_at, append-nil, length-append, length-wire-append, map-lowercase-wire, is_name-append, is_name-folded, IsName-is_name, and_parts, LabelThen, TextSpells, SpellsName, is_mark}
use Rattle.std.proofs.lemmas.List.{drop_more, drop-set, drop_all, length-set, length-map, map-append}
use Rattle.std.proofs.Math.ListN.{set}
use Rattle.dns_name.proofs.TextLemmas.{LabelThen-nil, no_empty_label}
use Rattle.dns_name.proofs.WireLemmas.{wire-append}
use Rattle.dns_spec.proofs.DomainNames.NameLaws.{is_name-IsName, length-wire-folded}
use Rattle.dns_spec.proofs.DomainNames.WireNames.{wire_some}
use Rattle.dns_name.specs.TextForm.{IsPlain, HasLengths, IsEnded, is_length}

-- after index `place`, the octets `now` are the labels of the text from that index on, in lower
-- case, each after its length, except that the length `count` of the first label is still to be
-- written
pub record LengthsPut (text now : Octets) (place count : ℕ) : Type 0 where
  pub first : Octets
  pub others : DomainName
  pub plain : IsPlain (drop place text) first others
  pub labels : list_all is_label others ≡ true
  pub written : (count ∷ drop (place + 1) now) ++ 0 ∷ [] ≡ wire (folded (first ∷ others))
  pub within : place ≤ length text
  pub size : length now ≡ length text + 1
  pub few : count ≤ length text - place

pub none_put : (text now : Octets) → length now ≡ length text + 1 → LengthsPut text now (length text) 0
none_put text now size = record {
  first = [];
  others = [];
  plain = drop_all (length text) text (omega arith);
  labels = refl;
  written = ap (λ x. (0 ∷ x) ++ 0 ∷ []) (drop_all (length text + 1) now (omega (arith, size)));
  within = omega arith;
  size = size;
  few = omega arith;
}

-- one more octet, which spells itself
plain_octet : (o : ℕ) (text first : Octets) (others : DomainName)
    → is_mark o ≡ false → IsPlain text first others → IsPlain (o ∷ text) (o ∷ first) others
plain_octet o text first [] plain h =
    let parts = or_parts (o == 46) (o == 92) plain in
    (o ∷ [], text, refl, (refl, eqb-false o 46 parts.0, eqb-false o 92 parts.1), h)
plain_octet o text first (l ∷ n) plain (others, h, g) =
    let parts = or_parts (o == 46) (o == 92) plain in (
      others,
      (o ∷ [], text, refl, (refl, eqb-false o 46 parts.0, eqb-false o 92 parts.1), h),
      g,
    )

module _ (text now : Octets) (place count : ℕ)
    (p : LengthsPut text now place count) (on : 0 < place) where
  back : place - 1 + 1 ≡ place
  back = omega arith

  here : drop (place - 1) text ≡ get_or text (place - 1) 0 ∷ drop place text
  here = subst (λ k. drop (place - 1) text ≡ get_or text (place - 1) 0 ∷ drop k text) back
      (drop_more text (place - 1) 0 (omega (arith, p.within)))

  after : (v : ℕ) → drop (place - 1 + 1) (set now place v) ≡ v ∷ drop (place + 1) now
  after v = ap (λ k. drop k (set now place v)) back
      ∙ drop-set now place v (omega (arith, p.within, p.size))

  pub octet_put : (v : ℕ) → is_mark (get_or text (place - 1) 0) ≡ false
      → v ≡ to_ascii_lowercase (get_or text (place - 1) 0)
      → LengthsPut text (set now place v) (place - 1) (count + 1)
  octet_put v plain is_lower =
      let o = get_or text (place - 1) 0 in
      let first_is : count ≡ length (map to_ascii_lowercase p.first) =
      ap (λ x. get_or x 0 0) p.written in
      let rest : drop (place + 1) now ++ 0 ∷ []
      ≡ map to_ascii_lowercase p.first ++ wire (folded p.others) =
      ap (drop 1) p.written in
      let put : LengthsPut text (set now place v) (place - 1) (count + 1) = record {
        first = o ∷ p.first;
        others = p.others;
        plain = subst (λ x. IsPlain x (o ∷ p.first) p.others) (sym here)
            (plain_octet o (drop place text) p.first p.others plain p.plain);
        labels = p.labels;
        written = grind (arith, after, first_is, rest);
        within = omega (arith, p.within);
        size = length-set now place v ∙ p.size;
        few = omega (arith, p.few, p.within);
      } in
      put

  pub dot_put : get_or text (place - 1) 0 ≡ 46 → is_length count ≡ true
      → LengthsPut text (set now place count) (place - 1) 0
  dot_put dot fits =
      let first_is : count ≡ length p.first =
      ap (λ x. get_or x 0 0) p.written ∙ length-map p.first to_ascii_lowercase in
      let put : LengthsPut text (set now place count) (place - 1) 0 = record {
        first = [];
        others = p.first ∷ p.others;
        plain = (drop place text, here ∙ ap (λ o. o ∷ drop place text) dot, p.plain);
        labels = and_from (is_label p.first) _ (ap is_length (sym first_is) ∙ fits) p.labels;
        written = grind (arith, after);
        within = omega (arith, p.within);
        size = length-set now place count ∙ p.size;
        few = omega arith;
      } in
      put

-- what a text without escapes spells: relative to an origin, and with a final dot
plain_relative : (origin : DomainName) (text first : Octets) (others : DomainName)
    → IsPlain text first others → TextSpells origin text ((first ∷ others) ++ origin)
plain_relative origin text first [] h = inl (h, refl)
plain_relative origin text first (l ∷ n) (rest, h, g) =
    inr (rest, h, plain_relative origin rest l n g)

label_on : (text l rest end : Octets) → LabelThen text l rest → LabelThen (text ++ end) l (rest ++ end)
label_on text [] rest end h = ap (λ x. x ++ end) h
label_on text (x ∷ l) rest end (first, others, e, said, h) = (
  first,
  others ++ end,
  ap (λ y. y ++ end) e ∙ append_assoc first others end,
  said,
  label_on others l rest end h,
)

plain_absolute : (origin : DomainName) (text first : Octets) (others : DomainName)
    → IsPlain text first others → TextSpells origin (text ++ 46 ∷ []) (first ∷ others)
plain_absolute origin text first [] h = inr ([], label_on text first [] (46 ∷ []) h, refl)
plain_absolute origin text first (l ∷ n) (rest, h, g) = inr (
  rest ++ 46 ∷ [],
  label_on text first (46 ∷ rest) (46 ∷ []) h,
  plain_absolute origin rest l n g,
)

-- an empty text has no label
plain_some : (first : Octets) (others : DomainName)
    → is_label first ≡ true → IsPlain [] first others → ⊥
plain_some first [] ok h = grind (arith, LabelThen-nil, no_empty_label)
plain_some first (l ∷ n) ok (rest, h, g) = grind (arith, LabelThen-nil, no_empty_label)

-- a word without escapes: `final` is its octets after the lengths of its labels are put and its end
-- is appended
pub record PlainWord (origin : DomainName) (word labels end put final : Octets) : Type 0 where
  pub ended : IsEnded origin word labels end
  pub not_at : word ≢ 64 ∷ []
  pub lengths : HasLengths labels put
  pub size : length put ≡ length labels + 1
  pub fits : length put + length end ≤ 255
  pub final_is : final ≡ put ++ map to_ascii_lowercase end

-- the octets `final` are the wire form of the name that the word spells, in lower case
pub record SpelledPlain (origin : DomainName) (word final : Octets) : Type 0 where
  pub name : DomainName
  pub spells : SpellsName origin word name
  pub wire_is : final ≡ wire (folded name)
  pub is_name : is_name (folded name) ≡ true

module _ (origin : DomainName) (word labels end put final : Octets)
    (p : PlainWord origin word labels end put final) where
  abbrev front : DomainName
  front = p.lengths.first ∷ p.lengths.others

  abbrev name : DomainName
  name = front ++ p.ended.above

  spells_text : TextSpells origin word name
  spells_text = elim p.ended.spelled [
    | inl (is_word, is_root) ↦
        subst (λ x. TextSpells origin x name) (sym is_word)
        (subst (TextSpells origin (labels ++ 46 ∷ []))
        (sym (append-nil front) ∙ ap (λ x. front ++ x) (sym is_root))
        (plain_absolute origin labels p.lengths.first p.lengths.others p.lengths.plain))
    | inr (is_word, is_origin) ↦
        subst (λ x. TextSpells origin x name) (sym is_word)
        (subst (TextSpells origin labels) (ap (λ x. front ++ x) (sym is_origin))
        (plain_relative origin labels p.lengths.first p.lengths.others p.lengths.plain))
  ]

  some_word : word ≢ []
  some_word e = elim p.ended.spelled [
    | inl (is_word, is_root) ↦
        omega (arith, ap length (sym is_word ∙ e), length-append labels (46 ∷ []))
    | inr (is_word, is_origin) ↦
        plain_some p.lengths.first p.lengths.others
        (and_parts (is_label p.lengths.first) _ p.lengths.labels).0
        (subst (λ x. IsPlain x p.lengths.first p.lengths.others) (sym is_word ∙ e) p.lengths.plain)
  ]

  front_octets : put ≡ take (length (wire (folded front)) - 1) (wire (folded front))
  front_octets =
      sym (ap (λ x. take (length x - 1) x) (sym p.lengths.written)
      ∙ take_at put (0 ∷ []) _ (omega (arith, length-append put (0 ∷ []))))

  whole : final ≡ wire (folded name)
  whole =
      p.final_is ∙ ap (λ x. put ++ map to_ascii_lowercase x) p.ended.wire_is
      ∙ ap (λ x. put ++ x) (map-lowercase-wire p.ended.above (IsName-is_name p.ended.above p.ended.is_name).labels)
      ∙ wire-append (folded front) (folded p.ended.above) put front_octets
      ∙ ap wire (sym (map-append (map to_ascii_lowercase) front p.ended.above))

  valid : is_name name ≡ true
  valid =
      let wired = ap length p.lengths.written ∙ length-wire-folded front in
      let fits : length (wire name) ≤ 255 =
      omega (
        arith,
        wired,
        length-append put (0 ∷ []),
        p.size,
        p.fits,
        ap length p.ended.wire_is,
        length-wire-append front p.ended.above,
      ) in
      let own : is_name front ≡ true =
      is_name-IsName front p.lengths.labels
      (omega (arith, fits, length-wire-append front p.ended.above, wire_some p.ended.above)) in
      is_name-append front p.ended.above own p.ended.is_name fits

  pub plain_spelled : SpelledPlain origin word final
  plain_spelled = record {
    name = name;
    spells = record { spelled = inr (inr (p.not_at, some_word, spells_text)); is_name = valid };
    wire_is = whole;
    is_name = is_name-folded name valid;
  }
