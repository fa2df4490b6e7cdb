-- Reading a text from left to right finds what it spells, and nothing else.
use Rattle.dns_name.proofs.Common.{Result, Ok, Err, IfErr, ◌≡◌, ◌≢◌, ℕ, ◌<◌, ◌≤◌, inl, inr, Bool, true, false, ◌&&◌, ◌==◌, [], ◌∷◌, ◌++◌, length, take, drop, Some, None, refl, sym, ◌∙◌, ap, subst, arith, length-append, MatchBool, if◌then◌else◌, is_ascii_digit, IsNotAsciiDigit, list_all, Octets, DomainName, wire, is_label, is_name, SpellsOctet, LabelThen, TextSpells, SpellsName, append_assoc, append-nil, length-take, take_all, take-append-le, true≢false, false≢true, and_parts, and_from, and_left, and_right, lt-leb, eqb-true, eqb-false, eq-eqb, ne_eqb, lt-ltb, le-leb, cases_Bool, IsErr, is_label-head, length-wire-append, IsName-is_name, IsLabel-is_label, octet_at, escape_front, labels_fault, name_fault, is_label_end, ReadsLabel, PushesLabel, HasFault, IsNoLength, Appended, SpellsIff, spelled_as}
use Rattle.dns_spec.proofs.General.Options.{some_parts}
use Rattle.dns_spec.proofs.DomainNames.WireNames.{wire_some}
use Rattle.dns_spec.proofs.NameTexts.Escapes.{escape_spells}
use Rattle.dns_name.proofs.FaultLemmas.{named_fault, valid_over, valid_last, escape_fault, length_fault}
use Rattle.dns_name.specs.NameFault.{fault_code}
use Rattle.dns_name.specs.declared.text.NameFault.{NameFault}
use Rattle.dns_name.specs.declared.text.NameFault.TheVariants.{NameTooLong}

-- the text is the spelling of an octet, followed by others
abbrev pub OctetThen : Octets → ℕ → Octets → Type 0
OctetThen text x others = (first : Octets) × (text ≡ first ++ others) × SpellsOctet first x

no_digit : (a : ℕ) → IsNotAsciiDigit a → is_ascii_digit a ≡ false
no_digit a h = grind (arith, and_left, lt-leb, and_right)

-- a spelling is read, whatever follows it
octet_at-spelled : (first : Octets) (x : ℕ) (others : Octets)
    → SpellsOctet first x → octet_at (first ++ others) ≡ Some (x, others)
unfolding octet_at
octet_at-spelled first x others h =
    grind (arith, ne_eqb, and_from, le-leb, eq-eqb, no_digit, lt-ltb)

pub octet_at-OctetThen : (text : Octets) (x : ℕ) (others : Octets)
    → OctetThen text x others → octet_at text ≡ Some (x, others)
octet_at-OctetThen text x others (first, e, h) = ap octet_at e ∙ octet_at-spelled first x others h

-- an octet that is read is spelled by what was read, provided that the text is not at a label's end
pub OctetThen-octet_at : (text : Octets) (x : ℕ) (others : Octets)
    → is_label_end text ≡ false → octet_at text ≡ Some (x, others) → OctetThen text x others
unfolding octet_at
OctetThen-octet_at [] x others h e = cc
OctetThen-octet_at (a ∷ rest) x others h e =
    elim (cases_Bool (a == 92)) [
      | inl backslash ↦
          let f : escape_front rest ≡ Some (x, others) = rw backslash at e in
          let is_92 : 92 ≡ a = sym (eqb-true a 92 backslash) in
          let spelled = (escape_spells rest x others).0 f in
          (92 ∷ spelled.0, cc (is_92, spelled.1), spelled.2)
      | inr plain ↦
          let f : Some (a, rest) ≡ Some (x, others) = rw plain at e in
          let parts = some_parts (a, rest) (x, others) f in
          (a ∷ [], ap (λ w. a ∷ w) parts.1, (parts.0, eqb-false a 46 h, eqb-false a 92 plain))
    ]

-- a spelling has at least one octet
pub OctetThen-shorter : (text : Octets) (x : ℕ) (others : Octets)
    → OctetThen text x others → length others < length text
OctetThen-shorter text x others (first, e, h) = grind (arith, length-append)

-- one more octet of a label
pub LabelThen-push : (text l : Octets) (rest : Octets) (x : ℕ) (others : Octets)
    → LabelThen text l rest → OctetThen rest x others → LabelThen text (l ++ x ∷ []) others
LabelThen-push text [] rest x others e (first, f, h) = (first, others, e ∙ f, h, refl)
LabelThen-push text (y ∷ l) rest x others (first, after, f, h, g) next =
    (first, after, f, h, LabelThen-push after l rest x others g next)

LabelThen-at : (text l rest text' : Octets)
    → text ≡ text' → LabelThen text l rest → LabelThen text' l rest
LabelThen-at text l rest text' e h =
    let P : Octets → Type 0 = λ t. LabelThen t l rest in subst P e h

-- after a part of a label is read, each label with which the text can begin starts with that part
pub LabelThen-rest : (text l rest l' rest' : Octets) → LabelThen text l rest → LabelThen text
    l' rest' → is_label_end rest' ≡ true → (m : Octets) × (l' ≡ l ++ m) × LabelThen rest m rest'
LabelThen-rest text [] rest l' rest' e h end = (l', refl, LabelThen-at text l' rest' rest e h)
LabelThen-rest text (x ∷ l) rest [] rest' (first, after, f, p, h) e end = grind (arith, true≢false)
LabelThen-rest text
    (x ∷ l) rest (y ∷ l') rest' (first, after, f, p, h) (first', after', f', p', h') end =
    let one : octet_at text ≡ Some (x, after) = octet_at-OctetThen text x after (first, f, p) in
    let two : octet_at text ≡ Some (y, after') =
    octet_at-OctetThen text y after' (first', f', p') in
    let parts = some_parts (x, after) (y, after') (sym one ∙ two) in
    let octets : x ≡ y = parts.0 in
    let texts : after' ≡ after = sym parts.1 in
    let others =
    LabelThen-rest after l rest l' rest' h (LabelThen-at after' l' rest' after texts h') end in
    let m = others.0 in
    (m, ap (λ w. w ∷ l') (sym octets) ∙ ap (λ w. x ∷ w) others.1, others.2)

-- a text begins with only one label
pub LabelThen-unique : (text l rest l' rest' : Octets) → LabelThen text l rest → LabelThen
    text l' rest' → is_label_end rest ≡ true → is_label_end rest' ≡ true → (l' ≡ l) × (rest ≡ rest')
LabelThen-unique text l rest l' rest' h h' end end' =
    by_cases (LabelThen-rest text l rest l' rest' h h' end')
  where
    by_cases : (m : Octets) × (l' ≡ l ++ m) × LabelThen rest m rest' → (l' ≡ l) × (rest ≡ rest')
    by_cases ([], e, f) = (e ∙ append-nil l, f)
    by_cases (x ∷ m, e, (first, after, f, p, g)) = grind arith

-- the empty text spells the empty label, followed by nothing
pub LabelThen-nil : (l rest : Octets) → LabelThen [] l rest → (l ≡ []) × (rest ≡ [])
LabelThen-nil [] rest h = (refl, sym h)
LabelThen-nil (x ∷ l) rest (first, after, e, p, h) = grind (arith, true≢false)

pub no_empty_label : is_label [] ≡ true → ⊥
no_empty_label h = false≢true h

-- the labels `read` are read and `rest` remains: the word spells exactly `read`, followed by what
-- `rest` spells
pub record ReadSoFar
    (origin : DomainName) (word : Octets) (read : DomainName) (rest : Octets) : Type 0 where
  pub all : (n : DomainName) → TextSpells origin rest n → TextSpells origin word (read ++ n)
  pub only : (n : DomainName)
      → TextSpells origin word n → (m : DomainName) × (n ≡ read ++ m) × TextSpells origin rest m

-- a text that begins with a label and a dot spells that label, followed by what the text after the
-- dot spells
spells_after_dot : (origin : DomainName) (rest l others : Octets) (m : DomainName)
    → LabelThen rest l (46 ∷ others)
    → TextSpells origin rest m → (k : DomainName) × (m ≡ l ∷ k) × TextSpells origin others k
spells_after_dot origin rest l others [] h e =
    let ended : 46 ∷ others ≡ [] =
    (LabelThen-nil l (46 ∷ others) (LabelThen-at rest l (46 ∷ others) [] e h)).1 in
    cc
spells_after_dot origin rest l others (k ∷ m) h (inl (g, e)) =
    let ended : [] ≡ 46 ∷ others = (LabelThen-unique rest k [] l (46 ∷ others) g h refl refl).1 in
    cc
spells_after_dot origin rest l others (k ∷ m) h (inr (others', g, e)) =
    let one = LabelThen-unique rest k (46 ∷ others') l (46 ∷ others) g h refl refl in
    let same_text : others' ≡ others = ap (drop 1) one.1 in
    let P : Octets → Type 0 = λ t. TextSpells origin t m in
    (m, ap (λ j. j ∷ m) (sym one.0), subst P same_text e)

pub ReadSoFar-push : (origin : DomainName)
    (word : Octets) (read : DomainName) (rest l others : Octets) → ReadSoFar origin word read rest
    → LabelThen rest l (46 ∷ others) → ReadSoFar origin word (read ++ l ∷ []) others
ReadSoFar-push origin word read rest l others so_far h =
    grind (arith, append_assoc, spells_after_dot)

-- the word spells the name n, and no other
pub record SpellsOnly (origin : DomainName) (word : Octets) (n : DomainName) : Type 0 where
  pub spelled : TextSpells origin word n
  pub only : (m : DomainName) → is_name m ≡ true → TextSpells origin word m → m ≡ n

-- a text that is one label without a dot spells that label, followed by the origin
spells_last : (origin : DomainName) (rest l : Octets) (m : DomainName)
    → LabelThen rest l [] → is_label l ≡ true → TextSpells origin rest m → m ≡ l ∷ origin
spells_last origin rest l [] h is_l e = grind (arith, LabelThen-nil, LabelThen-at, no_empty_label)
spells_last origin rest l (k ∷ m) h is_l (inl (g, e)) = grind (arith, LabelThen-unique)
spells_last origin rest l (k ∷ m) h is_l (inr (others, g, e)) = grind (arith, LabelThen-unique)

-- each label of a name is a label
is_label-inside : (read : DomainName) (l : Octets) (n m : DomainName)
    → m ≡ read ++ l ∷ n → is_name m ≡ true → is_label l ≡ true
is_label-inside read l n m e ok =
    inside read (IsName-is_name (read ++ l ∷ n) (ap is_name (sym e) ∙ ok)).labels
  where
    inside : (read : DomainName) → list_all is_label (read ++ l ∷ n) ≡ true → is_label l ≡ true
    inside [] h = (and_parts (is_label l) _ h).0
    inside (k ∷ read) h = inside read (and_parts (is_label k) _ h).1

-- a word that ends with a label without a dot spells the labels, followed by the origin
pub SpellsOnly-relative : (origin : DomainName)
    (word : Octets) (read : DomainName) (rest l : Octets) → ReadSoFar origin word read rest
    → LabelThen rest l [] → is_label l ≡ true → SpellsOnly origin word ((read ++ l ∷ []) ++ origin)
SpellsOnly-relative origin word read rest l so_far h is_l = grind (arith, append_assoc, spells_last)

-- a word that ends with a dot spells its labels alone
pub SpellsOnly-absolute : (origin : DomainName) (word : Octets) (read : DomainName) (rest : Octets)
    → ReadSoFar origin word read rest → rest ≡ [] → SpellsOnly origin word read
SpellsOnly-absolute origin word read rest so_far e = record { spelled = spelled; only = only }
  where
    spelled : TextSpells origin word read
    spelled = let P : DomainName → Type 0 =
        TextSpells origin word in subst P (append-nil read) (so_far.all [] e)

    no_more : (m k : DomainName)
        → m ≡ read ++ k → is_name m ≡ true → TextSpells origin rest k → m ≡ read
    no_more m [] f ok h = f ∙ append-nil read
    no_more m (l ∷ k) f ok (inl (g, h)) =
        let empty = LabelThen-nil l [] (LabelThen-at rest l [] [] e g) in
        absurd (no_empty_label (ap is_label (sym empty.0) ∙ is_label-inside read l k m f ok))
    no_more m (l ∷ k) f ok (inr (others, g, h)) =
        grind (arith, LabelThen-nil, LabelThen-at, no_empty_label, is_label-inside)

    only : (m : DomainName) → is_name m ≡ true → TextSpells origin word m → m ≡ read
    only m ok g = let after = so_far.only m g in no_more m after.0 after.1 ok after.2

-- if the text that remains begins with no label, the word spells no name
pub nothing_spelled : (origin : DomainName) (word : Octets) (read : DomainName) (rest : Octets)
    → ReadSoFar origin word read rest
    → (rest ≡ [] → ⊥) → ((l after : Octets) → LabelThen rest l after → is_label_end after ≡ true
    → is_label l ≡ true → ⊥) → (n : DomainName) → is_name n ≡ true → TextSpells origin word n → ⊥
nothing_spelled origin word read rest so_far more none n ok h =
    let after = so_far.only n h in
    by_cases after.0 after.1 after.2
  where
    by_cases : (m : DomainName) → n ≡ read ++ m → TextSpells origin rest m → ⊥
    by_cases [] e g = more g
    by_cases (l ∷ m) e (inl (g, f)) = none l [] g refl (is_label-inside read l m n e ok)
    by_cases (l ∷ m) e (inr (others, g, f)) =
        none l (46 ∷ others) g refl (is_label-inside read l m n e ok)

-- one more octet of a label, of which at most 64 are kept
pub ReadsLabel-push : (text octets rest : Octets) (x : ℕ) (others : Octets) → ReadsLabel text octets
    rest → OctetThen rest x others → length octets < 64 → ReadsLabel text (octets ++ x ∷ []) others
ReadsLabel-push text octets rest x others reads next room =
    let l = reads.label in
    let short : length l < 64 = omega (arith, ap length reads.kept, length-take 64 l) in
    let whole : octets ≡ l = reads.kept ∙ take_all 64 l (omega arith) in
    let longer = length-append l (x ∷ []) in
    record {
      label = l ++ x ∷ [];
      spelled = LabelThen-push text l rest x others reads.spelled next;
      kept = ap (λ w. w ++ x ∷ []) whole ∙ sym (take_all 64 (l ++ x ∷ []) (omega arith));
    }

pub ReadsLabel-full : (text octets rest : Octets) (x : ℕ) (others : Octets) → ReadsLabel
    text octets rest → OctetThen rest x others → 64 ≤ length octets → ReadsLabel text octets others
ReadsLabel-full text octets rest x others reads next full =
    let l = reads.label in
    let long : 64 ≤ length l = omega (arith, ap length reads.kept, length-take 64 l) in
    record {
      label = l ++ x ∷ [];
      spelled = LabelThen-push text l rest x others reads.spelled next;
      kept = reads.kept ∙ sym (take-append-le 64 l (x ∷ []) long);
    }

-- if no octet can be read before the label has ended, the text begins with no label
pub no_label_read : (text octets rest : Octets) → ReadsLabel text octets rest
    → is_label_end rest ≡ false → octet_at rest ≡ None → HasFault text 4
no_label_read text octets rest reads goes_on none = record {
  none = λ l end h at_end _. by_cases l end at_end
      (LabelThen-rest text reads.label rest l end reads.spelled h at_end);
  fault_is = escape_fault text reads.label rest reads.spelled goes_on none;
}
  where
    by_cases : (l end : Octets) → is_label_end end ≡ true
        → (m : Octets) × (l ≡ reads.label ++ m) × LabelThen rest m end → ⊥
    by_cases l end at_end ([], e, f) =
        true≢false (sym at_end ∙ ap is_label_end (sym f) ∙ goes_on)
    by_cases l end at_end (x ∷ m, e, (first, after, f, p, g)) =
        let read = octet_at-OctetThen rest x after (first, f, p) in
        cc

-- if the octets that were kept are a valid label, the text begins with that label
pub label_kept : (text octets end : Octets)
    → ReadsLabel text octets end → is_label octets ≡ true → LabelThen text octets end
label_kept text octets end reads is_l =
    let l = reads.label in
    let fits = (IsLabel-is_label octets is_l).fits in
    let short : length l < 64 = omega (arith, ap length reads.kept, length-take 64 l) in
    let whole : octets ≡ l = reads.kept ∙ take_all 64 l (omega arith) in
    let P : Octets → Type 0 = λ k. LabelThen text k end in
    subst P (sym whole) reads.spelled

pub PushesLabel-label : (text octets end l : Octets) (old : DomainName) (fits : Bool)
    (new : DomainName) → ReadsLabel text octets end → is_label_end end ≡ true → is_label octets
    ≡ true → l ≡ octets → Appended old (l ∷ []) fits new → PushesLabel text old fits end new
PushesLabel-label text octets end l old fits new reads at_end is_l e appended =
    grind (arith, label_kept)

-- a label that is spelled is the only one that the text begins with
pub label_alone : (text octets end : Octets) (fault : ℕ) → LabelThen text octets end
    → is_label_end end ≡ true → IsNoLength octets fault → HasFault text fault
label_alone text octets end fault spelled at_end none =
    let other : is_label octets ≡ true → ⊥ = λ is_l. grind (arith, IsLabel-is_label) in
    record {
      none = λ l end' h at_end' is_l. grind (arith, LabelThen-unique, other);
      fault_is = length_fault text octets end fault spelled at_end none;
    }

kept_none : (octets l : Octets) (fault : ℕ)
    → octets ≡ take 64 l → IsNoLength octets fault → IsNoLength l fault
kept_none octets [] fault kept none = grind arith
kept_none octets (x ∷ l) fault kept none = grind (arith, length-take 64 (x ∷ l))

-- the octets that were kept decide the fault
pub label_read_alone : (text octets end kept : Octets) (fault : ℕ)
    → ReadsLabel text octets end → is_label_end end ≡ true → kept ≡ octets
    → IsNoLength kept fault → HasFault text fault
label_read_alone text octets end kept fault reads at_end e none =
    label_alone text reads.label end fault reads.spelled at_end
    (kept_none kept reads.label fault (e ∙ reads.kept) none)

-- while the labels that are read fit, they are in the name
abbrev pub Holds : DomainName → Bool → DomainName → Type 0
Holds read fits name =
    MatchBool fits ((name ≡ read) × (is_name read ≡ true)) (255 < length (wire read))

pub Holds-append : (read : DomainName)
    (fits : Bool) (name labels : DomainName) (more : Bool) (new : DomainName) → Holds read fits name
    → Appended name labels more new → Holds (read ++ labels) (fits && more) new
Holds-append read true name labels true new (e, ok) (f, ok') = grind arith
Holds-append read true name labels false new (e, ok) over = grind arith
Holds-append read false name labels more new over h =
    omega (arith, length-wire-append read labels, wire_some labels)

-- a word is read up to `rest`
pub record Reads (origin : DomainName)
    (word : Octets) (name : DomainName) (fits : Bool) (rest : Octets) : Type 0 where
  pub read : DomainName
  pub so_far : ReadSoFar origin word read rest
  pub fault_is : labels_fault 0 0 word ≡ labels_fault 0 0 rest
  pub holds : Holds read fits name

pub Reads-push : (origin : DomainName) (word : Octets) (name : DomainName) (fits : Bool)
    (rest : Octets) (more : Bool) (end : Octets) (new : DomainName) (dot : ℕ) (others : Octets)
    → Reads origin word name fits rest → PushesLabel rest name more end new
    → end ≡ dot ∷ others → Reads origin word new (fits && more) others
Reads-push origin word name fits rest more end new dot others reads pushes e =
    let is_dot : dot ≡ 46 = eqb-true dot 46 (ap is_label_end (sym e) ∙ pushes.at_end) in
    let P : Octets → Type 0 = LabelThen rest pushes.label in
    let spelled : LabelThen rest pushes.label (46 ∷ others) =
    subst P (e ∙ ap (λ d. d ∷ others) is_dot) pushes.spelled in
    record {
      read = reads.read ++ pushes.label ∷ [];
      so_far = ReadSoFar-push origin word reads.read rest pushes.label others reads.so_far spelled;
      fault_is = reads.fault_is ∙ valid_over rest pushes.label others spelled pushes.is_label;
      holds = Holds-append reads.read fits name
          (pushes.label ∷ []) more new reads.holds pushes.appended;
    }

-- the result is right if it is the name, or an error if the name does not fit
pub SpellsIff-only : {E : Type 0} (origin : DomainName) (word : Octets)
    (n name : DomainName) (fits : Bool) (e : E) (r : Result DomainName E) → SpellsOnly origin word n
    → Holds n fits name → r ≡ (if fits then Ok name else Err e) → SpellsIff origin word r
SpellsIff-only origin word n name fits e r h h1 h2 = grind (arith, IsName-is_name)

pub SpellsIff-absolute : {E : Type 0} (origin : DomainName) (word : Octets) (name : DomainName)
    (fits : Bool) (rest : Octets) (e : E) (r : Result DomainName E) → Reads origin word
    name fits rest → rest ≡ [] → r ≡ (if fits then Ok name else Err e) → SpellsIff origin word r
SpellsIff-absolute origin word name fits rest e r reads empty g =
    SpellsIff-only origin word reads.read name fits e r
    (SpellsOnly-absolute origin word reads.read rest reads.so_far empty) reads.holds g

pub SpellsIff-relative : {E : Type 0} (origin : DomainName) (word : Octets) (name : DomainName)
    (fits : Bool) (rest : Octets) (more : Bool) (end : Octets) (new : DomainName) (more' : Bool)
    (whole : DomainName) (e : E) (r : Result DomainName E) → Reads origin word name fits rest
    → PushesLabel rest name more end new → end ≡ [] → Appended new origin more' whole
    → r ≡ (if (fits && more) && more' then Ok whole else Err e) → SpellsIff origin word r
SpellsIff-relative
    origin word name fits rest more end new more' whole e r reads pushes f appended g =
    let P : Octets → Type 0 = LabelThen rest pushes.label in
    let l = pushes.label in
    let one = Holds-append reads.read fits name (l ∷ []) more new reads.holds pushes.appended in
    SpellsIff-only origin word
    ((reads.read ++ l ∷ []) ++ origin) whole ((fits && more) && more') e r
    (SpellsOnly-relative origin word reads.read rest l reads.so_far
    (subst P f pushes.spelled) pushes.is_label)
    (Holds-append (reads.read ++ l ∷ []) (fits && more) new origin more' whole one appended) g

-- a name whose labels are read without a fault can only be too long
pub absolute_fault : (origin : DomainName) (word : Octets) (name : DomainName) (fits : Bool)
    (rest : Octets) → Reads origin word name fits rest → word ≢ [] → rest ≡ []
    → name_fault word ≡ 3
unfolding labels_fault
absolute_fault origin word name fits rest reads some empty =
    named_fault word some ∙ reads.fault_is ∙ ap (labels_fault 0 0) empty

pub relative_fault : (origin : DomainName) (word : Octets) (name : DomainName) (fits : Bool)
    (rest : Octets) (more : Bool) (end : Octets) (new : DomainName) → Reads origin word name fits
    rest → PushesLabel rest name more end new → word ≢ [] → end ≡ [] → name_fault word ≡ 3
relative_fault origin word name fits rest more end new reads pushes some empty =
    let P : Octets → Type 0 = LabelThen rest pushes.label in
    named_fault word some ∙ reads.fault_is
    ∙ valid_last rest pushes.label (subst P empty pushes.spelled) pushes.is_label

pub too_long : {A : Type 0} (done : A) (fits : Bool) (r : Result A NameFault) (fault : ℕ)
    → r ≡ (if fits then Ok done else Err NameTooLong) → fault ≡ 3
    → IfErr r (λ f. fault_code f ≡ fault)
too_long done fits r fault h is_3 = grind arith

pub SpellsIff-none : {E : Type 0} (origin : DomainName) (word : Octets) (name : DomainName)
    (fits : Bool) (rest : Octets) (r : Result DomainName E) → Reads origin word name fits rest
    → (rest ≡ [] → ⊥) → (fault : ℕ) → HasFault rest fault → IsErr r → SpellsIff origin word r
SpellsIff-none origin word name fits rest r h h1 fault h2 h3 =
    grind (arith, false≢true, nothing_spelled)

LabelThen-shorter : (text l rest : Octets) → LabelThen text l rest → length rest ≤ length text
LabelThen-shorter text [] rest h = omega (arith, ap length h)
LabelThen-shorter text (x ∷ l) rest (first, after, e, p, h) =
    omega (arith, LabelThen-shorter after l rest h, OctetThen-shorter text x after (first, e, p))

pub PushesLabel-shorter : (text : Octets)
    (old : DomainName) (fits : Bool) (end : Octets) (new : DomainName) (dot : ℕ) (others : Octets)
    → PushesLabel text old fits end new → end ≡ dot ∷ others → length others < length text
PushesLabel-shorter text old fits end new dot others pushes e = grind (arith, LabelThen-shorter)

-- only the empty label is at a label's end
LabelThen-at_end : (text l rest : Octets)
    → is_label_end text ≡ true → LabelThen text l rest → l ≡ []
LabelThen-at_end text [] rest e h = refl
LabelThen-at_end text (x ∷ l) rest e (first, after, f, p, h) = grind (arith, true≢false)

dot_spells_none : (origin : DomainName) (word : Octets) (n : DomainName)
    → word ≡ 46 ∷ [] → is_name n ≡ true → TextSpells origin word n → ⊥
dot_spells_none origin word [] e ok h = grind arith
dot_spells_none origin word (l ∷ n) e ok (inl (h, k)) =
    no_empty_label (ap is_label (sym (LabelThen-at_end word l [] (ap is_label_end e) h))
    ∙ is_label-head l n ok)
dot_spells_none origin word (l ∷ n) e ok (inr (others, h, k)) =
    no_empty_label (ap is_label (sym (LabelThen-at_end word l (46 ∷ others) (ap is_label_end e) h))
    ∙ is_label-head l n ok)

-- a dot alone spells only the root
pub dot_spells_root : (origin : DomainName) (word : Octets) (n : DomainName)
    → word ≡ 46 ∷ [] → SpellsName origin word n → n ≡ []
dot_spells_root origin word n f h = grind (arith, dot_spells_none)

-- the result of a call that sets a name in place, depending on whether the name fits
pub spelled_as-fits : {A E : Type 0} (name : DomainName) (fits : Bool)
    (done : A) (fault : E) (r : Result A E) → r ≡ (if fits then Ok done else Err fault)
    → spelled_as r name ≡ (if fits then Ok name else Err fault)
spelled_as-fits name fits done fault r h = grind arith

pub spelled_as-fault : {A E : Type 0} (name : DomainName) (r : Result A E)
    → IsErr r → IsErr (spelled_as r name)
spelled_as-fault name r h = grind (arith, false≢true)
