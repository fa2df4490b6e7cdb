use Rattle.dns_name.proofs.Common.{refl, ◌≡◌, ◌+◌, ◌++◌, ◌∙◌, [], length, take, drop, map, ap, sym, arith, take_at, append_assoc, length-append, folded, to_ascii_lowercase, Octets}
use Rattle.std.proofs.lemmas.List.{length-map}
use Rattle.dns_name.proofs.PlainLemmas.{SpelledPlain, plain_spelled}
use Rattle.dns_name.proofs.WireLemmas.{IsWireForm-wire, labels_of_spelled}
use Rattle.dns_name.proofs.name.Name.spell_plain.Goals as goal
use Rattle.dns_name.proofs.name.Name.spell_plain.Goals.{After-self-4-1}

pub invariant_of-self : goal.invariant_of-self
invariant_of-self c = IsWireForm-wire _ [] c.set_root.ensures refl

module _ (c : After-self-4-1) where
  abbrev labels : Octets
  labels = c.ended_labels.result.0.now

  abbrev end : Octets
  end = c.ended_labels.result.1.now

  abbrev put : Octets
  put = c.put_lengths.new.octets

  abbrev final : Octets
  final = take (length labels + 1 + length end) (put ++ c.put_lowered.new.room)

  size : length put ≡ length labels + 1
  size = grind arith

  final_is : final ≡ put ++ map to_ascii_lowercase end
  final_is =
      let low = map to_ascii_lowercase end in
      ap (λ x. take (length labels + 1 + length end) (put ++ x)) c.put_lowered.ensures
      ∙ ap (take (length labels + 1 + length end)) (sym (append_assoc put low (drop (length end) c.split_at_mut-front.result.1.now)))
      ∙ take_at (put ++ low) _ _
      (omega (arith, size, length-append put low, length-map end to_ascii_lowercase))

  plain_word : SpelledPlain c.args.origin.now c.args.word.now final
  plain_word = plain_spelled _ _ labels end put final (record {
    ended = c.ended_labels.ensures;
    not_at = c.requires;
    lengths = grind arith;
    size = size;
    fits = grind arith;
    final_is = final_is;
  })

pub invariant_of-self-2 : goal.invariant_of-self-2
invariant_of-self-2 c = let p = plain_word c in IsWireForm-wire _ (folded p.name) p.wire_is p.is_name

pub returns : goal.returns
returns c =
    let p = plain_word c in (p.name, p.spells, labels_of_spelled _ (folded p.name) p.wire_is p.is_name)
