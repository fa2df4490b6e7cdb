-- A text has at most one meaning.
use Rattle.dns_spec.proofs.Common.{◌≡◌, ℕ, inl, inr, List, [], ◌∷◌, drop, Option, None, refl, sym, ◌∙◌, ap, ap₂, subst, subst₂, arith, codes, rules, some_pair_parts, decimal_injective, Octets, DomainName, folded, SpellsName, Word, Says, ResourceRecord, Token, token_front, TokensThen, Entry, FileFault, EntryMeaning, faulty, gives, Lowest, EntryKind, no_words, directive, owned, unowned, kind_of, directive_word, owner_word, OriginIs, NameIs, OwnerBefore, TtlIs, TypeIs, DataIs, IsRecord, Fields, record_faults, RecordGives, DirectiveGives, KindGives, EntryGives, Meaning, fault_at, after, line_after, EntriesMean, Means}
use Rattle.dns_spec.proofs.NameTexts.OneName.{name_once}
use Rattle.dns_spec.proofs.DataWords.OneData.{data_once}
use Rattle.dns_spec.proofs.DataWords.TypeWords.{one_type}
use Rattle.dns_spec.proofs.General.Options.{by_option}

-- P holds for at most one meaning
abbrev Once : (EntryMeaning → Type 0) → Type 0
Once P = (a b : EntryMeaning) → P a → P b → a ≡ b

lowest_once : (faults : List (FileFault × Type 0)) (P : EntryMeaning → Type 0)
    → Once P → Once (Lowest faults P)
lowest_once [] P once a b h k = once a b h k
lowest_once ((fault, Condition) ∷ higher) P once a b (inl (f, e)) (inl (g, e')) = e ∙ sym e'
lowest_once ((fault, Condition) ∷ higher) P once a b (inl (f, e)) (inr (none, h)) = absurd (none f)
lowest_once ((fault, Condition) ∷ higher) P once a b (inr (none, h)) (inl (g, e)) = absurd (none g)
lowest_once ((fault, Condition) ∷ higher) P once a b (inr (none, h)) (inr (none', k)) =
    lowest_once higher P once a b h k

-- an entry inherits at most one origin, owner and TTL
pub origin_once : (o : DomainName) (earlier : List Entry) (n m : DomainName)
    → OriginIs o earlier n → OriginIs o earlier m → n ≡ m
origin_once o [] n m h k = h ∙ sym k
origin_once o (e ∷ earlier) n m h k =
    by_option (directive_word (codes "$origin") (kind_of e)) n m (origin_once o earlier n m)
    (λ w before before'.
    (let same = origin_once o earlier before.0 before'.0 before.1 before'.1 in
    name_once before'.0 w.raw n m (subst (λ x. SpellsName x w.raw n) same before.2) before'.2))
    h k

name_is_once : (o : DomainName) (earlier : List Entry) (w : Word) (n m : DomainName)
    → NameIs o earlier w n → NameIs o earlier w m → n ≡ m
name_is_once o earlier w n m (unquoted, (x, h, spelled)) (unquoted', (y, k, spelled')) =
    name_once y w.raw n m
    (subst (λ z. SpellsName z w.raw n) (origin_once o earlier x y h k) spelled) spelled'

owner_once : (o : DomainName) (earlier : List Entry) (n m : DomainName)
    → OwnerBefore o earlier n → OwnerBefore o earlier m → n ≡ m
owner_once o [] n m h k = absurd h
owner_once o (e ∷ earlier) n m h k =
    by_option (owner_word (kind_of e)) n m
    (owner_once o earlier n m) (λ w. name_is_once o earlier w n m) h k

ttl_once : (earlier : List Entry) (stated : Option Word) (n m : ℕ)
    → TtlIs earlier stated n → TtlIs earlier stated m → n ≡ m
ttl_once earlier stated n m h k = grind (arith, by_option, decimal_injective)

pub type_once : (ws : List Word) (t u : ℕ) → TypeIs ws t → TypeIs ws u → t ≡ u
type_once [] t u h k = absurd h
type_once (w ∷ ws) t u h k = one_type w.raw t u h.1 k.1

data_is_once : (o : DomainName) (earlier : List Entry) (ws : List Word) (d e : Octets)
    → DataIs o earlier ws d → DataIs o earlier ws e → d ≡ e
data_is_once o earlier ws d e (t, is_t, (n, h, said)) (u, is_u, (m, k, said')) =
    data_once u (drop 1 ws) m d e
    (subst₂ (λ x y. Says x (drop 1 ws) y d)
    (type_once ws t u is_t is_u) (origin_once o earlier n m h k) said) said'

record_once : (o : DomainName) (earlier : List Entry) (Owner : DomainName → Type 0)
    (f : Fields) (r s : ResourceRecord) → ((n m : DomainName) → Owner n → Owner m → n ≡ m)
    → IsRecord o earlier Owner f r → IsRecord o earlier Owner f s → r ≡ s
record_once o earlier Owner f r s one_owner h k =
    let owners =
    h.owner.2 ∙ ap folded (one_owner h.owner.0 k.owner.0 h.owner.1 k.owner.1) ∙ sym k.owner.2 in
    let ttls = ttl_once earlier f.ttl r.ttl s.ttl h.ttl k.ttl in
    let types = type_once f.others r.rtype s.rtype h.rtype k.rtype in
    let rdata = data_is_once o earlier f.others r.rdata s.rdata h.rdata k.rdata in
    λ i. record { owner = owners i; ttl = ttls i; rtype = types i; rdata = rdata i }

-- an entry gives at most one meaning
record_gives_once : (o : DomainName)
    (earlier : List Entry) (code : FileFault) (Owner : DomainName → Type 0) (f : Fields)
    → ((n m : DomainName) → Owner n → Owner m → n ≡ m) → Once (RecordGives o earlier code Owner f)
record_gives_once o earlier code Owner f one_owner =
    lowest_once (record_faults o earlier code Owner f)
    (λ given. (r : ResourceRecord) × IsRecord o earlier Owner f r × (given ≡ gives (r ∷ [])))
    (λ a b h k. h.2 ∙ ap
    (λ r. gives (r ∷ [])) (record_once o earlier Owner f h.0 k.0 one_owner h.1 k.1) ∙ sym k.2)

given : (c : EntryMeaning) → Once (λ answer. answer ≡ c)
given c a b h k = h ∙ sym k

directive_gives_once : (o : DomainName) (earlier : List Entry) (name : Octets) (ws : List Word)
    → Once (DirectiveGives o earlier name ws)
directive_gives_once o earlier name ws a b = grind (arith, given)

kind_gives_once : (o : DomainName) (earlier : List Entry) (s : EntryKind)
    → Once (KindGives o earlier s)
kind_gives_once o earlier no_words = given (gives [])
kind_gives_once o earlier (directive name ws) = directive_gives_once o earlier name ws
kind_gives_once o earlier (owned w ws) = search (rules, record_gives_once, name_is_once)
kind_gives_once o earlier (unowned ws) = search (rules, record_gives_once, owner_once)

pub entry_gives_once : (o : DomainName) (earlier : List Entry) (e : Entry)
    → Once (EntryGives o earlier e)
entry_gives_once o earlier e a b = search (rules, by_option, kind_gives_once, given)

-- the meaning of an entry and the entries after it, by the meaning of the entry
abbrev pub FromHere : DomainName → List Entry → Entry → List Entry → Meaning → EntryMeaning → Type 0
FromHere o earlier e es m answer =
    elim answer [
      | faulty code ↦ m ≡ fault_at code (line_after earlier)
      | gives rs ↦ (later : Meaning) × EntriesMean o (e ∷ earlier) es later × (m ≡ after rs later)
    ]

from_here_once : (o : DomainName)
    (earlier : List Entry) (e : Entry) (es : List Entry) (m n : Meaning) (answer : EntryMeaning)
    → ((x y : Meaning) → EntriesMean o (e ∷ earlier) es x → EntriesMean o (e ∷ earlier) es y
    → x ≡ y) → FromHere o earlier e es m answer → FromHere o earlier e es n answer → m ≡ n
from_here_once o earlier e es m n answer h h1 h2 = grind arith

entries_once : (o : DomainName) (earlier es : List Entry) (m n : Meaning)
    → EntriesMean o earlier es m → EntriesMean o earlier es n → m ≡ n
entries_once o earlier [] m n h k = h ∙ sym k
entries_once o earlier (e ∷ es) m n (a, gives_a, h) (b, gives_b, k) =
    from_here_once o earlier e es m n b (entries_once o (e ∷ earlier) es)
    (subst (FromHere o earlier e es m) (entry_gives_once o earlier e a b gives_a gives_b) h) k

-- at most one list of tokens begins a text and extends to a place where no token begins
pub tokens_once : (text : Octets) (ps qs : List Token) (rest others : Octets)
    → TokensThen text ps rest → TokensThen text qs others
    → token_front rest ≡ None → token_front others ≡ None → (ps ≡ qs) × (rest ≡ others)
tokens_once text [] [] rest others h k end end' = (refl, sym h ∙ k)
tokens_once text [] (q ∷ qs) rest others h (after, e, k) end end' = grind arith
tokens_once text (p ∷ ps) [] rest others (after, e, h) k end end' = grind arith
tokens_once text (p ∷ ps) (q ∷ qs) rest others (x, e, h) (y, f, k) end end' =
    grind (arith, some_pair_parts, ap₂, (tokens_once x ps qs rest others h))

pub meaning_once : (o : DomainName) (text : Octets) (m n : Meaning)
    → Means o text m → Means o text n → m ≡ n
meaning_once o text m n (es, h, is) (fs, k, is') = grind (arith, entries_once, tokens_once)
