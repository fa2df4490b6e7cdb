use Rattle.dns_zone.proofs.Common.{◌≡◌, ◌+◌, ◌-◌, ◌*◌, ◌/◌, ℕ, ◌<◌, ◌^◌, ◌⊎◌, inl, inr, [], map, length, get_or, drop, subst, sym, ◌∙◌, arith, cases_lt, get_or-map, length-map, to_ascii_lowercase, Octets, drop_of_length-le}
use Rattle.dns_zone.proofs.LabelKeys.{IsPart, label_low, key_end, key_fits, one_octet}
use Rattle.dns_zone.proofs.tree.label_key.eight_of.Goals as goal

module _ (c : goal.After-from) where
  abbrev lower : Octets
  lower = map to_ascii_lowercase c.args.label.now

  abbrev i : ℕ
  i = c.octets.i

  octet : get_or lower i 0 ≡ c.from.result
  octet =
      get_or-map to_ascii_lowercase c.args.label.now i 0 0 (omega arith)
      ∙ sym (c.from.ensures ∙ c.lower_case.ensures)

  inside : i < length lower
  inside = omega (arith, length-map c.args.label.now to_ascii_lowercase)

  fits : c.octets.key + c.from.result * c.octets.worth < 2 ^ 64
  fits =
      subst (λ o. c.octets.key + o * c.octets.worth < 2 ^ 64) octet
      (key_fits lower i c.octets.key c.octets.worth inside (omega arith) c.octets.invariant
      (label_low c.args.label.now (λ k. let h = c.type_inv.label k in omega arith)))

pub overflow_mul-key : goal.overflow_mul-key
overflow_mul-key c = let h = fits c in omega arith

pub overflow_add-key : goal.overflow_add-key
overflow_add-key c = let h = fits c in omega arith

pub octets-preserved : goal.octets-preserved
octets-preserved c =
    let key = c.octets.key in
    let worth = c.octets.worth in
    subst (λ o. IsPart (lower c) (i c + 1) (key + o * worth) (worth / 256))
    (octet c)
    (one_octet (lower c) (i c) key worth (inside c) (omega arith) c.octets.invariant)

pub returns : goal.returns
returns c =
    let l = map to_ascii_lowercase c.args.label.now in
    let count = length-map c.args.label.now to_ascii_lowercase in
    let ended : (8 - c.octets.i ≡ 0) ⊎ (drop c.octets.i l ≡ []) =
    elim (cases_lt (length l) 8) [
      | inl h ↦ inr (drop_of_length-le l (omega arith))
      | inr h ↦ inl (omega arith)
    ] in
    record {
      value =
          grind (arith, key_end);
      low = label_low c.args.label.now (λ k. let h = c.type_inv.label k in omega arith);
    }
