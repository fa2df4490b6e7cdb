-- Re-exports the names that most proofs use. Declares nothing.
pub use Rattle.dns_spec.proofs.Common.{All, All-cons, All-head, All-nil, All-tail, AllDigits, Appends-nil, Bool, Bor, DomainName, IfErr, IsAsciiDigit, IsErrAnd, IsNotAsciiDigit, IsTrue, List, MatchOption, None, Octets, OnTrue, Option, Part, Field, Result, Says, DataFaultIs, FieldsFaultIs, TypedFaultIs, UnknownFaultIs, field_fault, MatchBool, SaysAsSpelled, SaysField, SaysFields, SaysHex, SaysIpv4, SaysIpv6, SaysNumber, SaysTyped, SaysUnknown, SaysWord, Some, SpellsName, SpellsString, SpellsStringOctet, Valid, Word, [], add-one, and_from, and_parts, anything, ap, append-nil, append_assoc, are_strings, arith, around_gap, bytes_high_first, cases_Bool, cases_lt, common_steps, cond_some, decimal, decimal_injective, decimal_is_IsNumeral, digit_char, digit_from_value, digit_value, digits_value, domain, drop, drop-append_seam, drop-cons, drop-drop, drop_at, eq-eqb, escape_front, eqb-false, eqb-true, false, false_from_ne_true, false≢true, first_decimal, first_name, flat_map, flat_map-append, flat_map-cons, fold, folded, field_words, word_fields, get_or, group_values, groups_said, groups_text, hex_text, if◌then◌else◌, inl, inr, ipv4, ipv6, ipv6_octets, is_ascii_hexdigit, is_group, is_hex_word, is_label, is_name, is_some, join_with_byte, joined, le-leb, le-ltb, leb-false, leb-true, length, length-append, length-drop, length-map, length-replicate, length-take-le, list_all, list_any, lower_case, lt-leb, lt-ltb, ltb-false, ltb-true, map, map-append, max, may_be_quoted, name, name_of, nat_le, nat_lt, ne_eqb, nil_from_length, none-some, not, not-true, number_of, number, numbered_type, octets, octets_equal, octets_front, on_ok_weaker, option_and_then, option_and_then_some, option_map, other_type, part_folded, part_octets, field_front, fields_of, position_or_len, pow-le-pow_right, pow-suc, prefix_len, refl, replicate, row_of, rules, same_Some, slice_index_or, slice_split, string, string_count, string_front, string_octet_text, strings, strings_front, subst, subst₂, suc, sym, take, take-append-drop, take_all, take_at, take_more, target, text_in_lower_case, to_ascii_lowercase, true, true≢false, type_soa, type_table, unknown_words, unwrap_or, valid, wire, word_front, word_text, words_by, zero, zero_runs, ℕ, ◌%◌, ◌&&◌, ◌*◌, ◌++◌, ◌+◌, ◌-◌, ◌/◌, ◌<◌, ◌==◌, ◌^◌, ◌||◌, ◌↔◌, ◌∙◌, ◌∷◌, ◌≡◌, ◌≢◌, ◌≤◌, ◌⊎◌, are_strings_alone, slice_get}
unfoldable pub use Rattle.dns_spec.proofs.Common.{cut, data_text, digits, hex_octets, ipv6_groups}
pub use Rattle.std.specs.Prelude.{SomeIff, position}
pub use Rattle.std.proofs.Math.Numerals.{suc-eq-add-one}
pub use Rattle.std.proofs.lemmas.Fmt.{decimal-digits_value, decimal_digit, decimal_step, length-decimal-le}
pub use Rattle.std.proofs.lemmas.Int.Digits.{digits_more, digits_value_more}
pub use Rattle.std.proofs.lemmas.List.{replicate-append-replicate}
pub use Rattle.std.proofs.lemmas.List.Folds.{list_all_more}
pub use Rattle.std.proofs.lemmas.List.Splits.{slice_split_first}
pub use Rattle.std.proofs.lemmas.Str.Parse.{digit_at, digits_value-take-le, numerals_by_value, tells_digits}
pub use Rattle.byteorder.specs.Endian.{big_number}
pub use Rattle.dns_name.proofs.TextLemmas.{OctetThen-octet_at, octet_at-OctetThen}
pub use Rattle.dns_name.proofs.WireLemmas.{IsWireForm-wire, labels_of_spelled}
pub use Rattle.dns_name.proofs.WritesLemmas.{Fills-same, Writes-held, Writes-same, held_before, held_begun, held_less, held_more}
pub use Rattle.dns_name.specs.Counted.{AppendsAllBut}
unfoldable pub use Rattle.dns_name.specs.TextForm.{octet_at}
pub use Rattle.dns_name.specs.WireForm.{IsWireForm}
unfoldable pub use Rattle.dns_name.specs.WireForm.{labels_of}
pub use Rattle.dns_rdata.specs.AddressForm.{OctetThen, few_groups}
unfoldable pub use Rattle.dns_rdata.specs.AddressForm.{number_at}
pub use Rattle.dns_rdata.specs.HexForm.{AppendsHex, digit_of}
unfoldable pub use Rattle.dns_rdata.specs.HexForm.{hex_front}
pub use Rattle.dns_rdata.specs.NameFront.{HasNoLabels, StandsAfterLabels}
pub use Rattle.dns_rdata.specs.Parts.{AreCut, HasName, IsWirePart, before_name, part_for, borrowed_octets, parts_left, shown_part, with_octets}
pub use Rattle.dns_rdata.specs.TypeRows.{field_of, fields_in, row_for}
pub use Rattle.dns_rdata.specs.UnknownForm.{AppendsWord, SaysHexWord}
pub use Rattle.dns_rdata.specs.WordForms.{Appends, AppendsSaid, as_it_is, is_marked, canonical_octets}
pub use Rattle.dns_rdata.specs.WrittenForm.{has_one_word, is_plain, spaced}
pub use Rattle.dns_rdata.specs.RdataFault.{fault_code}
pub use Rattle.dns_rdata.specs.declared.rdata_fault.RdataFault.{RdataFault}
pub use Rattle.dns_rdata.specs.declared.table.TypeRow.{TypeRow}
pub use Rattle.dns_spec.proofs.DataWords.GroupDigits.{four_of, one_digit, three_of, two_digits}
pub use Rattle.dns_spec.proofs.DataWords.LoweredData.{cut_data, cut_whole, length-lowered, lowered_data}
pub use Rattle.dns_spec.proofs.DataWords.MadeData.{cut-domain, cut-step}
pub use Rattle.dns_spec.proofs.DataWords.OneData.{data_once, four_numbers, number_once}
pub use Rattle.dns_spec.proofs.DataWords.TypeWords.{decimal-lowered}
pub use Rattle.dns_spec.proofs.DataWords.WrittenData.{all_strings, cut_into, front_taken, name_part, octets_part}
pub use Rattle.dns_spec.proofs.DataWords.ZeroRuns.{is_zero, length-zero_runs, run_at}
pub use Rattle.dns_spec.proofs.DomainNames.NameLaws.{IsLabel-is_label, IsName-is_name, is_label-IsLabel, is_name-IsName, map-lowercase-wire}
pub use Rattle.dns_spec.proofs.DomainNames.WireNames.{name_of-wire, name_read, wire_fronts_agree}
pub use Rattle.dns_spec.proofs.Messages.Places.{length-bytes_high_first}
pub use Rattle.dns_spec.proofs.NameTexts.OneName.{name_once}
pub use Rattle.dns_spec.specs.AddressText.{eight_groups, filled_groups, groups_by}
pub use Rattle.dns_spec.specs.DataText.{SaysName}
pub use Rattle.dns_spec.proofs.General.Results.{OnErr-always, fault_handed_on}
