-- Finding a label among the labels of children, which rise.
use Rattle.dns_zone.proofs.Common.{◌≡◌, ℕ, zero, suc, ◌+◌, ◌-◌, ◌/◌, ◌<◌, ◌≤◌, List, [], ◌∷◌, map, length, get_or, sym, ap, ◌∙◌, add-one, arith, Less, Greater, cases_lt, nat_list_cmp_total, tied_itself, get_or-map, length-map, get_or_default, Octets, label_order, ResourceRecord, Among, Rises, among_contains, row_label, row_at, Row}
use Rattle.dns_zone.specs.declared.tree.counts.Counts.{Counts}
use Rattle.dns_spec.proofs.General.Elements.{each_get}

-- The most children that remain to be searched after k comparisons. A node has at most 100,000
-- children.
abbrev pub room_after : ℕ → ℕ
room_after zero = 131071
room_after (suc k) = room_after k / 2

rises_at : (ls : List Octets) (i j : ℕ) → Rises label_order ls → i < j → j < length ls
    → label_order (get_or ls i []) (get_or ls j []) ≡ Less
rises_at [] i j r h l = absurd (omega arith)
rises_at (x ∷ ls) i zero r h l = absurd (omega arith)
rises_at (x ∷ ls) zero (suc j) r h l = grind (arith, each_get)
rises_at (x ∷ ls) (suc i) (suc j) r h l = rises_at ls i j r.1 (omega arith) (omega arith)

-- an invariant: only the children from `low` to before `high` can have the label
pub record Searching (rs : List ResourceRecord) (children : List Row) (label : Octets)
    (low high turn : ℕ) : Type 0 where
  pub order : low ≤ high
  pub inside : high ≤ length children
  pub room : high ≤ low + room_after turn
  pub before : (k : ℕ) → k < low → label_order (row_label rs (row_at children k)) label ≡ Less
  pub after : (k : ℕ) → high ≤ k → k < length children
      → label_order (row_label rs (row_at children k)) label ≡ Greater

-- the state of a search, in which all comparisons were counted
pub record Sought (rs : List ResourceRecord) (children : List Row) (label : Octets)
    (low high : ℕ) (before now : Counts) : Type 0 where
  pub count : ℕ
  pub searching : Searching rs children label low high count
  pub bound : count ≤ 17
  pub counted : now.comparisons ≡ before.comparisons + count
  pub visits : now.visits ≡ before.visits

half_room : (left turn : ℕ) → left ≤ room_after turn → left / 2 ≤ room_after (turn + 1)
half_room left turn h = grind (arith, add-one)

module _ (rs : List ResourceRecord) (children : List Row) (label : Octets) where
  pub start : length children ≤ 100000 → Searching rs children label 0 (length children) 0
  start h = grind arith

  -- half of the remaining children fit in the room after one more comparison
  pub half : (low high turn : ℕ) → Searching rs children label low high turn
      → (high - low) / 2 ≤ room_after (turn + 1)
  half low high turn s = let r = s.room in half_room (high - low) turn (omega arith)

  -- if a child remains, fewer than 17 comparisons were made
  pub one_more : (low high turn : ℕ) → Searching rs children label low high turn → turn ≤ 17
      → low < high → turn + 1 ≤ 17
  one_more low high turn s h some = grind (arith, cases_lt)

  pub compared : {low high low' high' : ℕ} {before now next : Counts}
      (so_far : Sought rs children label low high before now) → low < high
      → next ≡ record now { comparisons = now.comparisons + 1 }
      → Searching rs children label low' high' (so_far.count + 1)
      → Sought rs children label low' high' before next
  compared so_far some counted left =
      let more = ap (λ (w : Counts). w.comparisons) counted in
      record {
        count = so_far.count + 1;
        searching = left;
        bound = one_more _ _ _ so_far.searching so_far.bound some;
        counted = omega (arith, so_far.counted);
        visits = ap (λ (w : Counts). w.visits) counted ∙ so_far.visits;
      }

  module _ (rising : Rises label_order (map (row_label rs) children)) where
    label_at : (k : ℕ) → k < length children
        → get_or (map (row_label rs) children) k [] ≡ row_label rs (row_at children k)
    label_at k h = get_or-map (row_label rs) children k _ [] h

    between : (i j : ℕ) → i < j → j < length children
        → label_order (row_label rs (row_at children i)) (row_label rs (row_at children j)) ≡ Less
    between i j h l =
        let less = rises_at (map (row_label rs) children) i j rising h in
        grind (arith, less, label_at i, label_at j l, length-map children (row_label rs))

    -- One comparison with the child in the middle halves the room.
    module _ (low high turn : ℕ) (s : Searching rs children label low high turn) (middle : ℕ) where
      pub go_right : label_order (row_label rs (row_at children middle)) label ≡ Less → middle < high
          → high ≤ middle + 1 + room_after (turn + 1)
          → Searching rs children label (middle + 1) high (turn + 1)
      go_right e h room = grind (arith, cases_lt, nat_list_cmp_total, between)

      pub go_left : label_order (row_label rs (row_at children middle)) label ≡ Greater → low ≤ middle
          → middle < high → middle ≤ low + room_after (turn + 1)
          → Searching rs children label low middle (turn + 1)
      go_left e order h room = search (arith, cases_lt, nat_list_cmp_total, between)

    pub none_left : (at turn : ℕ) → Searching rs children label at at turn
        → Among label (map (row_label rs) children) → ⊥
    none_left at turn s m =
        let c = among_contains label (map (row_label rs) children) m in
        let l = c.1 in
        let fits : c.0 < length children = omega (arith, length-map children (row_label rs)) in
        let is : row_label rs (row_at children c.0) ≡ label =
        sym (label_at c.0 fits) ∙ get_or_default (map (row_label rs) children) c.0 [] label c.1 ∙ c.2 in
        let tied = tied_itself nat_list_cmp_total label in
        grind (arith, cases_lt c.0 at, s.before c.0, s.after c.0, fits, is, tied)
