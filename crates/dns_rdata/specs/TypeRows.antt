-- How the table of the code represents the table of the definitions.
use Rattle.std.specs.Prelude.{ℕ, Bool, ◌==◌, List, map}
use Rattle.dns_spec.specs.Names.{Octets, octets_equal}
use Rattle.dns_spec.specs.TypeText.{text_in_lower_case}
use Rattle.dns_spec.specs.Data as Data
use Rattle.dns_spec.specs.Data.{number, ipv4, ipv6, domain, string, strings, anything}
use Rattle.dns_rdata.specs.declared.table.Field.{Field}
use Rattle.dns_rdata.specs.declared.table.Field.TheVariants.{U16, U32, Ipv4, Ipv6, Domain, String, Strings, Anything}
use Rattle.dns_rdata.specs.declared.table.TypeRow.{TypeRow}

abbrev pub field_of : Field → Data.Field
field_of U16 = number 2
field_of U32 = number 4
field_of Ipv4 = ipv4
field_of Ipv6 = ipv6
field_of Domain = domain
field_of String = string
field_of Strings = strings
field_of Anything = anything

abbrev pub fields_in : List Field → List Data.Field
fields_in = map field_of

abbrev pub row_for : TypeRow → Data.TypeRow
row_for r =
    record {
      number = r.number;
      mnemonic = r.mnemonic.now;
      fields = fields_in r.fields.now;
      compresses = r.compresses;
    }

abbrev pub has_number : ℕ → TypeRow → Bool
has_number t r = r.number == t

abbrev pub has_mnemonic : Octets → TypeRow → Bool
has_mnemonic word r = octets_equal (text_in_lower_case word) (text_in_lower_case r.mnemonic.now)
