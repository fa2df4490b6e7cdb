-- Sharing allows the size of the layout, and up to 16,384 octets allows no smaller size.
use Rattle.dns_spec.proofs.Common.{sym, is_some, ap, ◌∙◌, ◌≡◌, ℕ, ◌<◌, ◌≤◌, ◌↔◌, Bool, true, false, nat_le, inr, List, Option, refl, arith, leb-true, leb-false, MessageQuestion, reach, Item, shared_place, size, IsLawful, Sharing}
use Rattle.dns_spec.proofs.Layouts.UnboundedSize.{placed, unbounded_size_least}
use Rattle.dns_spec.proofs.Layouts.SharedNames.{shared_is}
use Rattle.dns_spec.proofs.Layouts.SameLayout.{same_size}

shared_lawful : IsLawful shared_place
shared_lawful ms s p e = sym (placed ms s) ∙ ap is_some (shared_is ms s p e).0

pub size_possible : (q : Option MessageQuestion) (items : List Item)
    → Sharing q items (size q items)
unfolding size
size_possible q items = record { find = shared_place; lawful = shared_lawful; whole = refl }

pub size_least : (q : Option MessageQuestion) (items : List Item) (z : ℕ)
    → Sharing q items z → z ≤ reach → size q items ≤ z
size_least q items z s short =
    let least = unbounded_size_least q items z s in
    let same = same_size q items (inr (omega (arith, least, short))) in
    omega (arith, least, same)

pub past_limit : (q : Option MessageQuestion) (items : List Item) (limit : ℕ) → limit ≤ reach
    → (limit < size q items) ↔ ((z : ℕ) → Sharing q items z → limit < z)
past_limit q items limit low = (
  λ past z s. go z s (nat_le z reach) refl past,
  λ all. all (size q items) (size_possible q items),
)
  where
    go : (z : ℕ)
        → Sharing q items z → (t : Bool) → nat_le z reach ≡ t → limit < size q items → limit < z
    go z s true e past =
        let least = size_least q items z s (leb-true z reach e) in omega (arith, least, past)
    go z s false e past = omega (arith, leb-false z reach e, low)
