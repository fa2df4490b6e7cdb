-- Which data words spell, how data is written, and the faults of words that spell no data, computed
-- from the definitions.
use Rattle.dns_spec.proofs.Common.{DataFaultIs, None, Octets, Says, SaysIpv6, Some, SpellsName, SpellsString, Valid, Word, [], codes, cut, data_text, digits, false, false≢true, hex_octets, inl, ipv6_groups, labels_from, lower_case, name, octet_text, octets, parts, refl, true, type_a, type_aaaa, type_by_mnemonic, type_mx, type_text, type_txt, valid, ◌∷◌, ◌≡◌}
use Rattle.dns_spec.proofs.WorkedExamples.Readings.{found_is, data_in, string_in, name_in}
use Rattle.dns_spec.proofs.WorkedExamples.Zones.{hex, example, under}

-- an unquoted word, a quoted word, and `\#`
abbrev bare : Octets → Word
bare cs = record { raw = cs; is_quoted = false }

abbrev quoted : Octets → Word
quoted cs = record { raw = cs; is_quoted = true }

abbrev mark : Word
mark = bare (codes "\\#")

-- a string with escapes, and a mail exchange
abbrev escaped : Octets
escaped = codes "a\\\"b\\009"

abbrev mail_exchange : Octets
mail_exchange = hex (codes "000a 046d61696c 076578616d706c65 00")

abbrev capital_exchange : Octets
capital_exchange = hex (codes "000a 044d61696c 076578616d706c65 00")

said_rows :
    -- an address in the generic form
    Says type_a (mark ∷ bare (codes "4") ∷ bare (codes "C0000201") ∷ []) example
    (hex (codes "c0000201"))
    -- a string with escapes
    × Says type_txt (quoted escaped ∷ []) example (hex (codes "0461226209"))
    × SpellsString escaped (97 ∷ 34 ∷ 98 ∷ 9 ∷ [])
    -- a mail exchange relative to the origin; its data is in lower case
    × Says type_mx (bare (codes "10") ∷ bare (codes "Mail") ∷ []) example mail_exchange
    × SpellsName example (codes "Mail") (under (codes "Mail"))
unfolding digits cut labels_from hex_octets
said_rows = (
  found_is (data_in _ _ example) _ refl,
  found_is (data_in _ _ example) _ refl,
  found_is (string_in 9 escaped) _ refl,
  found_is (data_in _ _ example) _ refl,
  found_is (name_in example (codes "Mail")) _ refl,
)

data_rows :
    -- `::` replaces the first of two equal runs; capitals are read, but not written
    SaysIpv6 (codes "2001:DB8:0:0:1:0:0:1") (hex (codes "20010db8 00000000 00010000 00000001"))
    × (data_text type_aaaa (hex (codes "20010db8 00000000 00010000 00000001"))
    ≡ codes "2001:db8::1:0:0:1")
    -- a second `::` is not allowed
    × (ipv6_groups (codes "1::2::3") ≡ None)
    -- an address in its own form, and data of two octets in the generic form
    × (data_text type_a (hex (codes "c0000201")) ≡ codes "192.0.2.1")
    × (data_text 65280 (hex (codes "0aff")) ≡ codes "\\# 2 0aff")
    -- a mail exchange, and the same with a capital letter, as a message may contain it
    × (data_text type_mx mail_exchange ≡ codes "10 mail.example.")
    × (parts type_mx mail_exchange
    ≡ octets (hex (codes "000a")) ∷ name (under (codes "mail")) ∷ [])
    × Valid type_mx capital_exchange
    × (lower_case type_mx capital_exchange ≡ mail_exchange)
    -- an address of three octets
    × (valid type_a (hex (codes "c00002")) ≡ false)
    -- types by their mnemonics, and a type without one
    × (type_by_mnemonic (codes "aAaA") ≡ Some 28)
    × (type_text 33 ≡ codes "SRV")
    × (type_text 65 ≡ codes "TYPE65")
unfolding ipv6_groups data_text digits labels_from octet_text cut
data_rows = search []

fault_rows :
    -- the number of words is tested before any word
    DataFaultIs type_mx (bare (codes "010") ∷ []) example 1
    -- a quoted `\#` is not the mark of the generic form, and no address
    × DataFaultIs type_a (quoted (codes "\\#") ∷ []) example 3
    -- a type without a form of its own
    × DataFaultIs 65280 (bare (codes "x") ∷ []) example 6
fault_rows = (refl, inl (λ d h. false≢true h.quotes, refl), refl)
