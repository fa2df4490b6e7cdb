use Rattle.dns_zone.proofs.Common.{◌≡◌, inl, inr, [], map, length, drop, subst, sym, ap, ◌∙◌, arith, cases_lt, drop-map, to_ascii_lowercase, IsEight, drop_of_length-le}
use Rattle.dns_zone.proofs.tree.label_key.LabelKey.of.Goals as goal

pub returns : goal.returns
returns c =
    let label = c.args.label.now in
    let rest : drop c.min.result label ≡ drop 8 label = elim (cases_lt (length label) 8) [
      | inl h ↦
          let one : drop c.min.result label ≡ [] =
          drop_of_length-le label {i = c.min.result} (omega arith) in
          let other : drop 8 label ≡ [] = drop_of_length-le label {i = 8} (omega arith) in
          one ∙ sym other
      | inr h ↦ ap (λ k. drop k label) (let e : c.min.result ≡ 8 = omega arith in e)
    ] in
    record {
      front = c.eight_of.ensures;
      next =
          subst (IsEight c.eight_of-2.result)
          (ap (map to_ascii_lowercase) (c.split_at.ensures.back ∙ rest)
          ∙ sym (drop-map to_ascii_lowercase 8 label)) c.eight_of-2.ensures;
    }
