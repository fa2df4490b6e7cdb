-- What is appended for a word by its form.
use Rattle.dns_rdata.proofs.Common.{◌≡◌, ℕ, ◌<◌, ◌≤◌, ◌^◌, ◌++◌, decimal, refl, sym, ap, ◌∙◌, arith, bytes_high_first, Octets, DomainName, wire, folded, SpellsName, Result, IsTrue, ◌||◌, not, Word, Field, SaysNumber, SaysName, SaysField, SaysWord, may_be_quoted, domain, RdataFault, map-lowercase-wire, IsName-is_name, as_it_is, canonical_octets, Appends, AppendsSaid}

pub number_appended : (k : ℕ) → k ≤ 4 → (n : ℕ) (text before after piece : Octets)
    → text ≡ decimal n → n < 256 ^ k → piece ≡ bytes_high_first k n
    → after ≡ before ++ piece → Appends as_it_is (SaysNumber k text) before after
number_appended k few n text before after piece said small is grown =
    let here : SaysNumber k text piece = (n, small, said, is) in
    record {
      spelled = piece;
      said = here;
      grown = grown;
    }

-- a name is appended in lower case
pub name_appended : (origin : DomainName) (text before after : Octets) (n : DomainName)
    → SpellsName origin text n → after ≡ before ++ wire (folded n)
    → Appends (canonical_octets domain) (SaysName origin text) before after
name_appended origin text before after n spelled grown =
    record {
      spelled = wire n;
      said = (n, spelled, refl);
      grown = grown ∙ ap
          (λ x. before ++ x) (sym (map-lowercase-wire n (IsName-is_name n spelled.is_name).labels));
    }

-- what the text of a word spells by a form is what the word spells, provided that it is unquoted or
-- may be quoted
pub word_said : {A : Type 0} {code : ℕ} (f : Field) (origin : DomainName) (w : Word) (text x y : Octets)
    (r : Result A RdataFault) → w.raw ≡ text → IsTrue (may_be_quoted f || not w.is_quoted)
    → AppendsSaid code (canonical_octets f) (SaysField f origin text) x y r
    → AppendsSaid code (canonical_octets f) (SaysWord f origin w) x y r
word_said f origin w text x y r same quotes said = grind arith
