-- The arguments of a command line ask for at most one thing: ORIGIN and FILE are the last two
-- arguments, and the arguments before them determine the rest.
use Rattle.dns_spec.proofs.Common.{◌≡◌, ℕ, Bool, List, [], ◌∷◌, ◌++◌, get_or, codes, refl, ap, ap₂, arith, length-append, list_any, decimal_injective, Octets, octets_equal, Options, ZoneWords, AskToCheck, ServiceAsked, AskToServe}
use Rattle.dns_spec.specs.CommandWords.{SocketAsked, AskAtSocket}

word : ℕ → List Octets → Octets
word k ws = get_or ws k []

last_two : (f g : List Octets) (y z : ZoneWords)
    → f ++ y.origin ∷ y.file ∷ [] ≡ g ++ z.origin ∷ z.file ∷ [] → (f ≡ g) × (y ≡ z)
unfolding word
last_two [] [] y z e = (refl, ap (λ ws. record { origin = word 0 ws; file = word 1 ws }) e)
last_two [] (w ∷ g) y z e = grind (arith, length-append g (z.origin ∷ z.file ∷ []))
last_two (v ∷ f) [] y z e = grind (arith, length-append f (y.origin ∷ y.file ∷ []))
last_two (v ∷ f) (w ∷ g) y z e = grind (arith, ap₂, word, (last_two f g y z))

has : Octets → List Octets → Bool
has w = list_any (octets_equal w)

-- the options that the arguments state
said : List Octets → Options
said f = record { is_quiet = has (codes "--quiet") f; is_printing = has (codes "--print") f }

pub one_check : (words : List Octets) (a b : Options) (y z : ZoneWords)
    → AskToCheck words a y → AskToCheck words b z → (a ≡ b) × (y ≡ z)
unfolding said has
one_check words a b y z one other = grind (arith, last_two, said)

pub one_service : (words : List Octets) (s t : ServiceAsked) (y z : ZoneWords)
    → AskToServe words s y → AskToServe words t z → (s ≡ t) × (y ≡ z)
unfolding word
one_service words s t y z one other = grind (arith, decimal_injective)

pub one_socket : (words : List Octets) (a b : SocketAsked) (y z : ZoneWords)
    → AskAtSocket words a y → AskAtSocket words b z → (a ≡ b) × (y ≡ z)
unfolding word
one_socket words a b y z one other = grind (arith, decimal_injective)
