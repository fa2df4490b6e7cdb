-- Re-exports the names that most proofs use.
pub use Rattle.std.proofs.Common.{All, Bool, Equal, Err, Greater, IfErr, IfSome, IsErrAnd, IsTrue, Less, List, None, Ok, OnOk, Option, Ordering, Result, Some, [], add-one, add-zero, add_comm, ap, append-nil, append_assoc, ap₂, arith, codes, cond, decimal, drop, eq-or-lt_of_le, eqb, false, filter, fold, get_or, inl, inr, is_eq, is_gt, is_lt, length, length-append, length-drop, length-set, length-take, lit<, lit≤, map, max, min, mod-eq_of_lt, mod-lt, mul_comm, nat_cmp, nat_eq, nat_le, nat_lt, not, pow-suc, refl, replicate, reverse, rules, set, slice_get, slice_index_or, slice_set, subst, subst₂, suc, suc-mul, sum, sym, take, true, vec_len, zero, zero-add, ℕ, ◌%◌, ◌&&◌, ◌*◌, ◌++◌, ◌+◌, ◌-◌, ◌/◌, ◌<◌, ◌==◌, ◌^◌, ◌||◌, ◌↔◌, ◌∙◌, ◌∷◌, ◌≡◌, ◌≢◌, ◌≤◌, ◌⊎◌}
pub use Rattle.std.specs.Bool.{MatchBool, OnFalse, OnTrue}
pub use Rattle.std.specs.Borrow.{Bor}
pub use Rattle.std.specs.Char.{IsAsciiDigit, IsNotAsciiDigit, digit_char, digit_value, is_ascii_digit, is_ascii_graphic, is_ascii_hexdigit, to_ascii_lowercase}
pub use Rattle.std.specs.Cmp.{IsTotalOrder, nat_cmp_is}
pub use Rattle.std.specs.Cmp.Lexicographic.{lists_ties, pointwise_decides, slice_cmp}
unfoldable pub use Rattle.std.specs.Fmt.{digits}
pub use Rattle.std.specs.Int.{byte_at, bytes_high_first}
pub use Rattle.std.specs.Io.KnownBytes.{Appends, Consumes, IsAtEnd, Keeps}
pub use Rattle.std.specs.List.{AllByRecursion, Contains, cons_option, filter_map, find, flat_map, join_with_byte, list_all, list_any, position_or_len, prefix_len, slice_split, starts_with}
pub use Rattle.std.specs.List.Sorted.{IsNonDecreasingBy, IsPartitionedBy, IsPermutation}
unfoldable pub use Rattle.std.specs.List.Sorted.{IsStrictlySortedBy}
pub use Rattle.std.specs.Option.{is_none, is_some, option_and_then, option_map, option_or, option_to_list, unwrap_or}
pub use Rattle.std.specs.Ordering.{eq_by_cmp, ordering_reverse, ordering_then}
pub use Rattle.std.specs.Prelude.{MatchOption, if◌then◌else◌, ⊤}
pub use Rattle.std.specs.Str.Parse.{AllDigits, digits_value}
pub use Rattle.std.proofs.KnownBytes.{Appends-nil, Appends-trans, Consumes-trans}
pub use Rattle.std.proofs.Math.Arith.{mod-mul}
pub use Rattle.std.proofs.Math.Bool.{and-false, or-false}
pub use Rattle.std.proofs.Math.Nat.{min-eq_left, pow-le-pow_right}
pub use Rattle.std.proofs.Math.Seq.{drop-append_seam, drop-cons, take-add, take-append-add, take-append_seam, take-length, take-suc}
pub use Rattle.std.proofs.lemmas.Bool.{MatchBool-at_true, OnTrue_at, agree_below_at, and_from, and_left, and_parts, and_right, cases_Bool, cases_lt, cases_order, cond-true, cond_both, eq-eqb, eqb-false, eqb-true, false_from_ne_true, false≢true, le-leb, le-ltb, leb-false, leb-true, lt-leb, lt-ltb, ltb-false, ltb-true, ne_eqb, not-true, or_cases, or_left, or_parts, or_right, true≢false}
pub use Rattle.std.proofs.lemmas.Cmp.{lists_total, nat_cmp_total, nat_list_cmp_total, on_total, then_total, tied_itself, upto}
pub use Rattle.std.proofs.lemmas.Fmt.{decimal_injective, decimal_is_IsNumeral, decimal_nonempty, digits_is_IsNumeral, first_decimal, hex_one_digit, hex_two_digits}
pub use Rattle.std.proofs.lemmas.Grind.{common_steps, flat_map-append, get_or_default_zero}
pub use Rattle.std.proofs.lemmas.List.{drop-drop, drop-take, drop_all, drop_at, drop_more, get_or-drop, get_or-map, get_or-set_other, get_or-set_same, get_or-take, get_or_append_left, get_or_default, get_or_push, length-map, length-replicate, length-reverse, length-take-le, map-append, map_push, nil_from_length, replicate_more, reverse-append, reverse-reverse, take-append-drop, take-append-le, take_all, take_at, take_more, take_rest}
pub use Rattle.std.proofs.lemmas.List.Concat.{flat_map-cons}
pub use Rattle.std.proofs.lemmas.List.Elements.{All-append, All-cons, All-contains, All-drop, All-from_recursion, All-head, All-nil, All-tail, All-take, All-weaker, filter-append, filter_map-append, recursion_from_All}
pub use Rattle.std.proofs.lemmas.List.Filters.{length-filter_both}
pub use Rattle.std.proofs.lemmas.List.Folds.{list_all-append, list_any-append}
pub use Rattle.std.proofs.lemmas.List.Prefix.{end_rest}
pub use Rattle.std.proofs.lemmas.List.Sorted.{All-permutation, Contains-permutation, IsPartitionPoint-from_clause, IsPermutation-cons, IsPermutation-filter_both, IsPermutation-middle, IsPermutation-refl, IsPermutation-sym, IsPermutation-trans, length_permutation, sum_by-IsPermutation}
pub use Rattle.std.proofs.lemmas.List.Splits.{slice_split_at, slice_split_none}
pub use Rattle.std.proofs.lemmas.List.Sums.{fails_before_first, length-filter, passes_at_first, prefix_len-le-length}
pub use Rattle.std.proofs.lemmas.Nat.{mul-add-lt, same_from_place}
pub use Rattle.std.proofs.lemmas.Option.{cond_some, none-some, option_and_then_some, same_Some, slice_get-get_or, slice_get_past, slice_get_within, some_pair_parts}
pub use Rattle.std.proofs.lemmas.Result.{IfErr-weaker, err_from_is_err_and, on_err_weaker, on_ok_weaker}
pub use Rattle.std.proofs.lemmas.Str.{digit_value-digit_char}
pub use Rattle.std.proofs.lemmas.Str.Ascii.{lowercase-lowercase}
pub use Rattle.std.proofs.lemmas.Str.Parse.{digit_from_value}
pub use Rattle.dns_spec.specs.AddressText.{SaysIpv4, SaysIpv6, around_gap, group_values, groups_of, groups_said, groups_text, ipv4_text, ipv6_octets, ipv6_text, is_group, longest_place, longest_run, zero_runs}
unfoldable pub use Rattle.dns_spec.specs.AddressText.{ipv6_groups}
pub use Rattle.dns_spec.specs.AllFaults.{AllFaults, EntriesGive, EntryFault, FaultyData, FaultyDirective, FaultyField, FaultyWord, ForData, GivesOwn, HasFault, LookBack, NumberIs, PlaceIs, before_such, before_type, record_words, is_lasting, is_last, line_at, column_at, owner_number, place_after}
pub use Rattle.dns_spec.specs.Answer.{Outcome, address_set, address_sets, alias_items, alias_set, asked_records, first_target, follows_alias, has_any, has_target_type, is_authoritative, item, last_of, last_sought, main_items, most_aliases, most_visits, names_looked_up, negative, negative_soa, next_sought, nodes_to, outcome_by, positive, referral_to, targets, targets_in_zone, targets_inside, targets_of, targets_outside}
unfoldable pub use Rattle.dns_spec.specs.Answer.{chain, chain_from, extra, items, outcome, outcome_at, required_items}
pub use Rattle.dns_spec.specs.Checks.{Check, Fault, Passes, at_or_below_cut, checked_names, checks, count, data_at_cut, fails, fault_order, faults_at, first_is_asterisk, has_target, is_origin, is_owner, lacks_address, large_set, many_sets, most_of_a_set, most_sets, mx_target_alias, ns_target_alias, ns_target_lacks_address, ttls_differ, wildcard_ns}
unfoldable pub use Rattle.dns_spec.specs.Checks.{faults}
pub use Rattle.dns_spec.specs.CommandWords.{AreOptions, AskToCheck, AskToServe, HasTurns, ServiceAsked, ZoneWords, by_lines, by_turns, is_dashed, service_words, tcp, udp}
pub use Rattle.dns_spec.specs.ComputedNames.{RunStep, jump, name_if_short, run_end, run_label, run_pointer, step_of, unlawful}
unfoldable pub use Rattle.dns_spec.specs.ComputedNames.{name_at, run, runs_before}
pub use Rattle.dns_spec.specs.Data.{Field, Part, TypeRow, Valid, anything, are_strings, class_in, compresses, domain, first_name, ipv4, ipv6, joined, laid_parts, lower_case, name, number, number_of, octets, octets_front, other_type, part_folded, part_octets, parts, field_front, fields_of, qtype_any, row_of, soa_minimum, string, string_front, strings, strings_front, target, type_a, type_aaaa, type_cname, type_hinfo, type_mx, type_ns, type_soa, type_srv, type_table, type_txt, valid}
unfoldable pub use Rattle.dns_spec.specs.Data.{cut}
pub use Rattle.dns_spec.specs.DataText.{Says, SaysAsSpelled, SaysField, SaysFields, SaysHex, SaysNumber, SaysString, SaysTyped, SaysUnknown, SaysWord, SpellsString, SpellsStringOctet, Word, are_strings_alone, word_fields, word_fields_of, is_hex_word, is_string_octet, is_unknown_mark, is_word_octet, may_be_quoted}
unfoldable pub use Rattle.dns_spec.specs.DataText.{hex_octets}
pub use Rattle.dns_spec.specs.DataFaults.{DataFaultIs, FieldsFaultIs, TypedFaultIs, UnknownFaultIs, field_fault}
pub use Rattle.dns_spec.specs.EntryPlaces.{Ending, Span, PlacedEntry, PlacedToken, after_line, after_token, at_parenthesis, at_stop, empty_place, end_octets, ending_fault, entries_to_end, fault_place, is_misplaced, next_line, octet_place, placed_entries, placed_entry, stop_octets, text_after, word_place}
unfoldable pub use Rattle.dns_spec.specs.EntryPlaces.{entries_from, read_entry}
pub use Rattle.dns_spec.specs.FileFaults.{FileFault, bad_data, bad_escape, bad_octet, bad_owner, bad_parenthesis, bad_ttl, bad_type, directive_words, fault_code, no_memory, no_owner, no_ttl, other_class, too_long, too_many_records, unended_string, unknown_directive}
pub use Rattle.dns_spec.specs.Laws.{HasRoom, IsAskable, IsSetAt, IsWritable, OctetsMean, section_rank, sections_in_order}
pub use Rattle.dns_spec.specs.Layout.{Item, Laid, Lookup, Placed, Section, additional, answer, asked_octets, asked_placed, authority, data_laid, has_suffix, header_octets, in_section, is_section, laid_front, last_place, message_of, message_record, octets16, octets32, parts_of, place_of, pointer, question_octets, reach, reached, record_by, record_laid, record_tail, records_octets, records_of, reply_header, shared_octets, shared_place, suffix_place}
unfoldable pub use Rattle.dns_spec.specs.Layout.{data_by, layout, octets_by, records_by}
unfoldable pub use Rattle.dns_spec.specs.LayoutSize.{size}
pub use Rattle.dns_spec.specs.Lines.{are_messages, ended_lines, line_answers, line_ends, line_message, message_answer}
unfoldable pub use Rattle.dns_spec.specs.Lines.{lines}
pub use Rattle.dns_spec.specs.Meaning.{DataIs, DirectiveGives, DirectiveSays, EntriesMean, EntryGives, EntryKind, EntryMeaning, Fields, IsNoTtl, IsRecord, KindGives, Lowest, Meaning, Means, NameIs, Nothing, OneWord, OriginIs, OwnerBefore, RecordGives, TtlIs, TtlSays, TypeIs, after, are_too_many, directive, directive_word, fault_at, faulty, fields, gives, is_other_class, is_record, is_zone_type, kind_by_words, kind_of, line_after, most_records, most_ttl, nearest, no_words, owned, owner_word, record_faults, records, ttl_in_force, ttl_word, unowned}
pub use Rattle.dns_spec.specs.MessageLines.{PrintsInput, PrintsMessage, message_text, question_line, section_line}
pub use Rattle.dns_spec.specs.NameText.{LabelThen, SpellsName, SpellsOctet, TextSpells, digits_front, escape_front, escape_left, is_printable, is_special, label_text, labels_text, name_fault, name_text, three_digits, three_digits_value}
unfoldable pub use Rattle.dns_spec.specs.NameText.{labels_fault, octet_text}
pub use Rattle.dns_spec.specs.Names.{DomainName, Octets, at_or_below, below, folded, is_label, is_name, label_order, last_labels, name_of, name_order, names_equal, octets_equal, same, suffixes, wire, with_label}
unfoldable pub use Rattle.dns_spec.specs.Names.{labels_from}
pub use Rattle.dns_spec.specs.Query.{QueryRead, absent, counts_are_one_question, is_ignored, most_over_udp, opcode, query, query_or_error, question_of, refusal_head, refused_with, reply_head}
unfoldable pub use Rattle.dns_spec.specs.Query.{query_read, question_at}
pub use Rattle.dns_spec.specs.NamesInMessages.{NameAt, RunAt, pointer_place}
pub use Rattle.dns_spec.specs.NamesInMessages.RunAt.{ends, goes_on, jumps}
pub use Rattle.dns_spec.specs.Reading.{DnsMessage, Header, MessageQuestion, MessageRecord, NoMessage, Spells, data_at, data_fields, field_at, format_error, from_additionals, from_answers, from_authorities, last_section, message_question_at, message_record_at, name_inside, name_error, no_error, not_implemented, question_after, record_after, record_with, field16, field32, head_of}
unfoldable pub use Rattle.dns_spec.specs.Reading.{fields_at, message_at, several}
pub use Rattle.dns_spec.specs.Records.{HoldSameRecords, ResourceRecord, ZoneContents, at, data_order, distinct, first_serial, insert_by, of_type, ordered_zone, owns, record_order, records_equal, rrset, sort_by, with_owner, zone_of, zone_serial}
pub use Rattle.dns_spec.specs.Reply.{Decision, Reply, answer_with, answered, decide_query, fitting, greatest, header_alone, keep_longest, kept, question_alone, reply_message, reply_octets, reply_of, silence, truncated}
unfoldable pub use Rattle.dns_spec.specs.Reply.{decide, octets_of, reply, reply_with}
pub use Rattle.dns_spec.specs.Report.{Options, Report, Reports, fault_report, passing, report_of_faults, report_of_meaning, zone_report}
pub use Rattle.dns_spec.specs.Sets.{RecordSet, of_first_type, of_lowest_type, records_at, rising_types, set_of}
pub use Rattle.dns_spec.specs.Sharing.{IsLawful, Sharing}
pub use Rattle.dns_spec.specs.Stream.{IsCutFrame, frame, has_frame, replies}
unfoldable pub use Rattle.dns_spec.specs.Stream.{after_frames, first_frame, frames}
pub use Rattle.dns_spec.specs.Tree.{cut_of, exists, found, is_cut}
pub use Rattle.dns_spec.specs.TypeText.{NamesType, numbered_type, text_in_lower_case, type_by_mnemonic, type_text}
unfoldable pub use Rattle.dns_spec.specs.UnboundedLayout.{unbounded_layout, unbounded_size}
pub use Rattle.dns_spec.specs.WrittenText.{field_words, hex_text, hex_words, is_quotable, is_unbroken, name_front, plain, quoted, stands_alone, string_count, string_octet_text, string_word, unknown_words, word_front, word_text, words_by, written_words}
unfoldable pub use Rattle.dns_spec.specs.WrittenText.{data_text}
pub use Rattle.dns_spec.specs.ZonePrinted.{HasZoneType, IsReadRecord, is_soa, printed_records, record_line, soa_first}
unfoldable pub use Rattle.dns_spec.specs.ZonePrinted.{zone_text}
pub use Rattle.dns_spec.specs.ZoneText.{Entries, EntriesOf, Entry, Extent, Token, TokensThen, before_first, beginning, begins_with, blank, closed, closing, comment, cut_entries, ended, entry_words, extent_by, extent_of, in_string, in_token, is_blank, is_cut_short, is_line_end, is_open_at_end, lexical_fault, line_end, line_feed_front, most_octets, open_after, opening, parentheses, parenthesis, quoted_front, quoted_string, stop_at, stop_fault, string_fault, string_length, take_turns, text_over, token_front, unended, unit_left, unquoted_front, whole_text, with_end, word, word_length, word_of}
unfoldable pub use Rattle.dns_spec.specs.ZoneText.{run_length}
