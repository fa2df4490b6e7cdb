-- The arguments of a command line: ORIGIN and FILE at its end, and those before them.
use Rattle.dns_tools.proofs.Common.{arith, refl, ◌≡◌, ℕ, ◌<◌, ◌≤◌, List, [], ◌∷◌, ◌++◌, length, length-append, get_or, drop, ap, ap₂, sym, ◌∙◌, Octets, codes, decimal, map, EndWords, ZoneWords, Transport, transport_word, udp, tcp, ServiceAsked, by_lines, by_turns, service_words, limit_words}
use Rattle.std.proofs.lemmas.List.{append_assoc, map-append}

-- the texts of all arguments, from those of the last two
pub last_texts : {A : Type 0} (text : A → Octets) (ws others front : List A) (o f : A)
    → ws ≡ others ++ f ∷ [] → others ≡ front ++ o ∷ []
    → map text ws ≡ map text front ++ text o ∷ text f ∷ []
last_texts text ws others front o f e before =
    ap (map text) (e ∙ ap (λ xs. xs ++ f ∷ []) before ∙ append_assoc front (o ∷ []) (f ∷ []))
    ∙ map-append text front (o ∷ f ∷ [])

pub three_texts : {A : Type 0} (text : A → Octets) (ws : List A) (t a n : A)
    → 3 ≤ length ws → length ws < 4
    → t ≡ get_or ws 0 t → a ≡ get_or ws 1 a → n ≡ get_or ws 2 n
    → map text ws ≡ text t ∷ text a ∷ text n ∷ []
three_texts text (p ∷ q ∷ r ∷ []) t a n low high e0 e1 e2 = rw (e0, e1, e2) refl
three_texts text (p ∷ q ∷ r ∷ x ∷ ws) t a n low high e0 e1 e2 = absurd (omega (arith, high))
three_texts text [] t a n low high e0 e1 e2 = absurd (omega (arith, low))
three_texts text (p ∷ []) t a n low high e0 e1 e2 = absurd (omega (arith, low))
three_texts text (p ∷ q ∷ []) t a n low high e0 e1 e2 = absurd (omega (arith, low))

-- the last two arguments and those before them are determined
pub same_end : {A : Type 0} (f g : List A) (a b c d : A)
    → f ++ a ∷ b ∷ [] ≡ g ++ c ∷ d ∷ [] → (f ≡ g) × (a ≡ c) × (b ≡ d)
same_end [] [] a b c d e =
    (refl, ap (λ xs. get_or xs 0 a) e, ap (λ xs. get_or xs 1 b) e)
same_end [] (y ∷ g) a b c d e =
    absurd (omega (arith, ap length e, length-append g (c ∷ d ∷ [])))
same_end (x ∷ f) [] a b c d e =
    absurd (omega (arith, ap length e, length-append f (a ∷ b ∷ [])))
same_end (x ∷ f) (y ∷ g) a b c d e =
    let rest = same_end f g a b c d (ap (drop 1) e) in
    (ap₂ (λ z zs. z ∷ zs) (ap (λ xs. get_or xs 0 x) e) rest.0, rest.1, rest.2)

pub same_front : (ws f g : List Octets) (y z : ZoneWords) → EndWords ws f y → EndWords ws g z
    → f ≡ g
same_front ws f g y z here there = (same_end f g _ _ _ _ (sym here.words_are ∙ there.words_are)).0

-- the arguments of a service at an address
pub service_parts : (p q r : Octets) (t : Transport) (a : Octets) (n : ℕ)
    → p ∷ q ∷ r ∷ [] ≡ service_words (by_turns t a n)
    → (p ≡ transport_word t) × (q ≡ a) × (r ≡ decimal n)
service_parts p q r udp a n e = grind arith
service_parts p q r tcp a n e = grind arith

first_octet : List Octets → ℕ
first_octet ws = get_or (get_or ws 0 []) 0 0

-- what follows `once`
pub after_once : (a : ServiceAsked) (rest : List Octets) → codes "once" ∷ rest ≡ service_words a
    → (t : Transport) × (rest ≡ limit_words t)
unfolding first_octet
after_once (by_lines udp) rest e = (udp, ap (drop 1) e)
after_once (by_lines tcp) rest e = (tcp, ap (drop 1) e)
after_once (by_turns udp a n) rest e =
    let bad : 111 ≡ 117 = ap first_octet e in absurd (omega (arith, bad))
after_once (by_turns tcp a n) rest e =
    let bad : 111 ≡ 116 = ap first_octet e in absurd (omega (arith, bad))
