use Rattle.dns_name.proofs.Common.{sym, ap, ◌∙◌, arith, folded}
use Rattle.dns_spec.proofs.NameTexts.OneName.{name_once}
use Rattle.dns_spec.proofs.DataWords.LoweredData.{folded_folded}
use Rattle.dns_name.specs.TextForm.{SpellsFolded}
use Rattle.dns_name.proofs.name.Name.spell.Goals as goal
use Rattle.dns_name.proofs.name.Name.spell.Goals.{Then-spell_plain}

said : (c : Then-spell_plain)
    → SpellsFolded c.args.origin.now c.args.word.now c.spell_plain.new.self
said c = grind arith

pub returns-then-spell_plain-clause-only : goal.returns-then-spell_plain-clause-only
returns-then-spell_plain-clause-only c = λ n h.
    let s = said c in ap folded (name_once _ _ n s.0 h s.1) ∙ sym s.2

pub returns-then-spell_plain-clause-low : goal.returns-then-spell_plain-clause-low
returns-then-spell_plain-clause-low c =
    let s = said c in ap folded s.2 ∙ folded_folded s.0 ∙ sym s.2

pub returns-then-eq-clause-low : goal.returns-then-eq-clause-low
returns-then-eq-clause-low c = rw c.fold_in_place.ensures (folded_folded c.copy_from.new.self)

pub returns-clause-low : goal.returns-clause-low
returns-clause-low c =
    rw c.fold_in_place-2.ensures (folded_folded c.spell_as_written-spelled.new.self)
