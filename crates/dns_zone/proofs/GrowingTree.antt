-- Adding the rows of a zone, level by level.
use Rattle.dns_zone.proofs.Common.{◌≡◌, ℕ, ◌+◌, ◌-◌, ◌<◌, ◌≤◌, ◌⊎◌, inl, inr, List, [], ◌∷◌, ◌++◌, length, drop, get_or, sym, ap, ◌∙◌, arith, subst, length-append, length-drop, cases_lt, take-append-drop, get_or-take, get_or-drop, get_or_append_left, get_or_push, take_all, DomainName, ResourceRecord, no_row, row_name, row_at, children_at, IsRow, IsChild, AreChildren, IsTree, AddsChildren, Row}
use Rattle.dns_zone.proofs.Spans.{span_front}
use Rattle.dns_zone.proofs.GrowingChildren.{row_is}
use Rattle.dns_spec.proofs.General.Elements.{each_get}

-- the children of the rows before row i have their rows
pub record Growing (o : DomainName) (rs : List ResourceRecord) (rows : List Row) (bounds : List ℕ)
    (i : ℕ) : Type 0 where
  pub origin : IsRow rs (row_at rows 0) o
  pub some : 0 < length rows
  pub upto : i ≤ length rows
  pub count : length bounds ≡ i + 1
  pub last : get_or bounds i 0 ≡ length rows
  pub each : (k : ℕ) → k < length rows → IsRow rs (row_at rows k) (row_name rs (row_at rows k))
  pub rise : (k : ℕ) → k < i → get_or bounds k 0 ≤ get_or bounds (k + 1) 0
  pub within : (k : ℕ) → k < i → get_or bounds (k + 1) 0 ≤ length rows
  pub children : (k : ℕ) → k < i → AreChildren rs (row_name rs (row_at rows k)) (children_at rows bounds k)

pub own_name : (rs : List ResourceRecord) (row : Row) (n : DomainName) → IsRow rs row n
    → IsRow rs row (row_name rs row)
own_name rs row n h = subst (IsRow rs row) (sym (row_is rs row n h)) h

pub begin : (o : DomainName) (rs : List ResourceRecord) (row : Row) → IsRow rs row o
    → Growing o rs (row ∷ []) (1 ∷ []) 0
begin o rs row h = grind (arith, own_name)

module _ (o : DomainName) (rs : List ResourceRecord) (rows : List Row) (bounds : List ℕ) (i : ℕ)
    (g : Growing o rs rows bounds i) where
  module _ (h : i < length rows) (rows' : List Row)
      (a : AddsChildren rs (row_name rs (row_at rows i)) rows rows') where
    abbrev bounds' : List ℕ
    bounds' = bounds ++ length rows' ∷ []

    whole : rows' ≡ rows ++ drop (length rows) rows'
    whole = grind (arith, take-append-drop)

    keep : (k : ℕ) → k < length rows → row_at rows' k ≡ row_at rows k
    keep k l = sym (get_or-take (length rows) rows' k _ l) ∙ ap (λ xs. row_at xs k) a.kept

    bound : (k : ℕ) → k ≤ i → get_or bounds' k 0 ≡ get_or bounds k 0
    bound k l = let c = g.count in get_or_append_left bounds (length rows' ∷ []) 0 k (omega arith)

    last_bound : get_or bounds' (i + 1) 0 ≡ length rows'
    last_bound = get_or_push bounds (length rows') 0 (i + 1) g.count

    now : (k : ℕ) → k < i + 1 → (k < i) ⊎ (k ≡ i)
    now k l = grind (arith, cases_lt)

    each_now : (k : ℕ) → k < length rows' → IsRow rs (row_at rows' k) (row_name rs (row_at rows' k))
    each_now k l = go (cases_lt k (length rows))
      where
        go : (k < length rows) ⊎ (length rows ≤ k)
            → IsRow rs (row_at rows' k) (row_name rs (row_at rows' k))
        go (inl m) = grind (arith, keep k m, g.each k m)
        go (inr m) =
            let n = row_name rs (row_at rows i) in
            let at : length rows + (k - length rows) ≡ k = omega arith in
            let child =
            each_get (IsChild rs n) (drop (length rows) rows') (k - length rows) no_row a.children.each
            (omega (arith, length-drop (length rows) rows')) in
            let there = get_or-drop (length rows) rows' (k - length rows) no_row in
            let row = own_name rs _ (child.label ∷ n) child.is_row in
            grind (arith, at, there, row)

    rise_now : (k : ℕ) → k < i + 1 → get_or bounds' k 0 ≤ get_or bounds' (k + 1) 0
    rise_now k l = grind (arith, now, bound, last_bound)

    within_now : (k : ℕ) → k < i + 1 → get_or bounds' (k + 1) 0 ≤ length rows'
    within_now k l = grind (arith, now, bound, last_bound)

    children_now : (k : ℕ) → k < i + 1
        → AreChildren rs (row_name rs (row_at rows' k)) (children_at rows' bounds' k)
    children_now k l =
        grind (arith, now k l, bound, last_bound, whole, span_front, keep, take_all, length-drop)

    pub advance : Growing o rs rows' bounds' (i + 1)
    advance = record {
      origin = subst (λ (r : Row). IsRow rs r o) (sym (keep 0 g.some)) g.origin;
      some = let b = g.some in let c = a.longer in omega arith;
      upto = let c = a.longer in omega arith;
      count = let c = g.count in omega (arith, length-append bounds (length rows' ∷ []));
      last = last_bound;
      each = each_now;
      rise = rise_now;
      within = within_now;
      children = children_now;
    }

  pub finish : i ≡ length rows → IsTree o rs rows bounds
  finish e = grind arith
