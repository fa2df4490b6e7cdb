-- Options, and what is computed from them.
use Rattle.std.specs.Option.{ok_or}
use Rattle.dns_spec.proofs.Common.{None, Ok, Option, Some, arith, refl, ◌≡◌, is_some, option_and_then, option_map, MatchOption, none-some, same_Some, List, cons_option, ◌++◌}

pub map_some : {X Y P : Type 0} (f : X → Y) (o : Option X) (y : Y)
    → option_map f o ≡ Some y → ((x : X) → o ≡ Some x → f x ≡ y → P) → P
map_some f None y e k = absurd (none-some y e)
map_some f (Some x) y e k = k x refl (same_Some (f x) y e)

-- n and m are equal if they are equal in both cases of an option
pub by_option : {X N : Type 0} {P Q : Type 0} {R S : X → Type 0} (o : Option X) (n m : N) → (P
    → Q → n ≡ m) → ((x : X) → R x → S x → n ≡ m) → MatchOption o P R → MatchOption o Q S → n ≡ m
by_option o n m h h1 h2 h3 = grind arith

pub and_then_some : {A B : Type 0} (f : A → Option B) (o : Option A) (y : B)
    → option_and_then f o ≡ Some y → (x : A) × (o ≡ Some x) × (f x ≡ Some y)
and_then_some f None y e = cc
and_then_some f (Some x) y e = (x, refl, e)

pub is_some-option_map : {A B : Type 0} (f : A → B) (x : Option A)
    → is_some (option_map f x) ≡ is_some x
is_some-option_map f x = grind arith

pub ok_or-some : {A E : Type 0} (x : Option A) (e : E) (a : A) → ok_or x e ≡ Ok a → x ≡ Some a
ok_or-some x e a h = grind arith

pub some_parts : {X Y : Type 0} (v w : X × Y) → Some v ≡ Some w → (v.0 ≡ w.0) × (v.1 ≡ w.1)
some_parts v w e = grind arith

pub cons_option-append : {X : Type 0} (x : Option X) (xs ys : List X)
    → cons_option x (xs ++ ys) ≡ cons_option x xs ++ ys
cons_option-append None xs ys = refl
cons_option-append (Some x) xs ys = refl
