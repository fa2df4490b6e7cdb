use Rattle.dns_name.proofs.Common.{refl, sym, arith}
use Rattle.dns_name.proofs.WrittenLemmas.{special_text, graphic_text, other_text}
use Rattle.dns_name.proofs.written.append_octet.Goals as goal

pub returns-then-is_special-clause-text : goal.returns-then-is_special-clause-text
returns-then-is_special-clause-text c =
    rw (c.append.ensures, special_text _ (sym c.if-is_special.ensures)) refl

pub returns-then-is_ascii_graphic-clause-text : goal.returns-then-is_ascii_graphic-clause-text
returns-then-is_ascii_graphic-clause-text c = grind (arith, graphic_text)

pub returns-else-is_ascii_graphic-clause-text : goal.returns-else-is_ascii_graphic-clause-text
returns-else-is_ascii_graphic-clause-text c = grind (arith, other_text)
