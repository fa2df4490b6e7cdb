-- The text of each part of a line.
use Rattle.std.specs.Prelude.{List, [], ◌++◌, codes, decimal}
use Rattle.std.specs.List.{fold}
use Rattle.dns_spec.specs.Names.{Octets}
use Rattle.dns_spec.specs.NameText.{name_text}
use Rattle.dns_spec.specs.TypeText.{type_text}
use Rattle.dns_spec.specs.AllFaults.{number_text}
use Rattle.dns_spec.specs.WrittenText.{hex_text, data_text}
use Rattle.dns_spec.specs.Report.{two_digits, bare_name_text}
use Rattle.dns_spec.specs.Layout.{octets16}
use Rattle.dns_spec.specs.MessageLines.{class_text, count_text}
use Rattle.dns_wire.specs.Read.{data_type}
use Rattle.dns_tools.specs.declared.line_parts.LinePart.{LinePart}
use Rattle.dns_tools.specs.declared.line_parts.LinePart.TheVariants.{Text, Number, Count, Position, Hex, Code, DottedNumber, Name, BareName, Class, TypeName, Data}

abbrev pub part_text : LinePart → Octets
part_text (Text text) = text.now
part_text (Number number) = decimal number
part_text (Count count) = count_text count
part_text (Position line column) = decimal line ++ codes ":" ++ decimal column
part_text (Hex number) = hex_text (octets16 number)
part_text (Code code) = two_digits code
part_text (DottedNumber number) = number_text number
part_text (Name name) = name_text name
part_text (BareName name) = bare_name_text name.now
part_text (Class class) = class_text class
part_text (TypeName rtype) = type_text rtype.0
part_text (Data r) = data_text (data_type r.now.rtype r.now.rclass) r.now.rdata

-- the texts of parts, one after another
abbrev pub parts_text : List LinePart → Octets
parts_text = fold (λ text part. text ++ part_text part) []
