-- Re-exports the names that most proofs use. Declares nothing.
pub use Rattle.dns_spec.proofs.Common.{Appends, Appends-nil, Appends-trans, Bool, Consumes, Consumes-trans, DnsMessage, DomainName, Err, Fault, IfErr, IsAtEnd, IsErrAnd, Keeps, List, MatchOption, Meaning, None, Octets, Ok, OnFalse, OnTrue, Option, Options, PrintsMessage, Report, ResourceRecord, Result, Some, ZoneContents, [], add-one, agree_below_at, ap, append-nil, append_assoc, ap₂, are_messages, arith, cases_Bool, cases_lt, codes, decimal, digit_char, digit_value, distinct, drop, drop-cons, drop_all, ended_lines, eq-eqb, eqb-false, eqb-true, false, false≢true, fault_at, fault_code, fault_report, filter, filter-append, flat_map, flat_map-append, folded, get_or, hex_text, if◌then◌else◌, inl, inr, is_ascii_hexdigit, is_some, le-leb, length, length-append, length-drop, length-take, length-take-le, line_answers, line_ends, line_message, list_all-append, lt-leb, message_answer, name_text, ne_eqb, octets16, option_map, passing, question_line, records, records_equal, refl, report_of_faults, report_of_meaning, rules, section_line, set, subst, suc, sym, take, take-append-add, take-append-drop, take-append-le, take_all, take_more, true, zero, zone_of, zone_report, ℕ, ⊤, ◌%◌, ◌&&◌, ◌*◌, ◌++◌, ◌+◌, ◌-◌, ◌/◌, ◌<◌, ◌==◌, ◌^◌, ◌∙◌, ◌∷◌, ◌≡◌, ◌≢◌, ◌≤◌, ◌⊎◌, length-map, nil_from_length}
unfoldable pub use Rattle.dns_spec.proofs.Common.{faults, hex_octets, lines}
pub use Rattle.std.proofs.Common.{slice_index}
pub use Rattle.std.specs.Prelude.{IsErr, cond, map, reverse}
pub use Rattle.std.proofs.KnownBytes.{Consumes-kept}
pub use Rattle.std.proofs.lemmas.List.{take_more_set}
pub use Rattle.dns_master.specs.Codes.{fault_of}
pub use Rattle.dns_master.specs.SourceForm.{GivesMeaning, IsRead}
pub use Rattle.dns_name.proofs.WritesLemmas.{Writes-held, Writes-same, Written, Written-begun, Written-more, beginning_of_first, beginning_of_second, held_begun, held_less, held_more}
pub use Rattle.dns_name.specs.Counted.{AppendsAllBut, AppendsBeginning, Counted, Writes}
pub use Rattle.dns_serve.proofs.OneTurn.{handed_unknown}
pub use Rattle.dns_serve.specs.Streams.{Session}
pub use Rattle.dns_spec.proofs.PrintedZones.OrderedReport.{ordered_passing}
pub use Rattle.dns_spec.proofs.ZoneChecks.FaultOrder.{folded_folded}
pub use Rattle.dns_spec.specs.Lines.{begin_line}
pub use Rattle.dns_spec.specs.MessageLines.{PrintsOctets, first_of, header_line, message_text}
pub use Rattle.dns_spec.specs.Reading.{NoMessage}
pub use Rattle.dns_spec.specs.Report.{failing, two_digits}
pub use Rattle.dns_tools.specs.Checked.{CheckedAs, ReportedAs, ReportsOn, WrittenAs, options_of}
pub use Rattle.dns_tools.specs.ExchangeForm.{kept_of, reply_of}
pub use Rattle.dns_tools.specs.Exchanges.{Begun, Grows, HasAnsweredEnded, HasAnsweredLines, HasBegunAnswers, IsFresh, IsInput, KeepsUp, Kept, LinesAnswered, Progress}
pub use Rattle.dns_tools.specs.FirstLine.{HasReadFront, IsFront, KeepsFirst, ReadsFirst, kept_line}
pub use Rattle.dns_tools.specs.Load.{LoadedAs, refusal_report}
pub use Rattle.dns_tools.specs.Parts.{part_text, parts_text}
pub use Rattle.dns_tools.specs.Printed.{PrintedAs, fault_line}
pub use Rattle.dns_tools.specs.Stops.{sink_failures_after, source_failures_after}
pub use Rattle.dns_tools.specs.Turns.{TakesTurns}
pub use Rattle.dns_tools.specs.declared.stop.Stop.{Stop}
pub use Rattle.dns_tools.specs.declared.stop.Stop.TheVariants.{Memory, Sink, Source}
pub use Rattle.dns_tools.specs.declared.load.LoadFault.{LoadFault}
pub use Rattle.dns_tools.specs.declared.load.LoadFault.TheVariants.{Refused}
pub use Rattle.dns_tools.specs.declared.load.Refusal.{Refusal}
pub use Rattle.dns_tools.specs.declared.load.Refusal.TheVariants.{File, Zone}
pub use Rattle.dns_wire.specs.WireFault.{UnlessNoMemory}
pub use Rattle.dns_wire.specs.declared.wire_fault.WireFault.{WireFault}
pub use Rattle.dns_wire.specs.declared.wire_fault.WireFault.TheVariants.{BadData, BadPointer, LongName, NoMemory, ReservedLabel, Short, Trailing}
pub use Rattle.hex.proofs.HexLemmas.{length-encode_with}
pub use Rattle.hex.proofs.Pairs.{cons_byte}
pub use Rattle.hex.specs.Hex.{IsBytes, decode_of, encode_lower, hex_digit_value, lower_digits}
unfoldable pub use Rattle.hex.specs.Hex.{decode_pairs, encode_with}
pub use Rattle.hex.specs.declared.error.FromHexError.{FromHexError}
pub use Rattle.dns_spec.proofs.General.Results.{OnErr-always}
pub use Rattle.dns_spec.specs.CommandWords.{AreOptions, EndWords, ServiceAsked, Transport, ZoneWords, by_lines, by_turns, option_words, service_words, tcp, transport_word, udp}
pub use Rattle.dns_tools.specs.Arguments.{limit_words, transport_of}
pub use Rattle.std.specs.Vec.{vec_len}
pub use Rattle.dns_spec.specs.AllFaults.{AllFaults, EntryFault, ListsFaults, entry_report, is_lasting, listing, more_report, most_listed, number_text, position_text, zone_faults}
pub use Rattle.dns_tools.specs.Listed.{IsAt, ListedAs, list_report}
pub use Rattle.clap.specs.Walk.{Text, one_of}
pub use Rattle.clap.specs.Simple.{App, HasMatchesOf, is_simple, matches_of}
pub use Rattle.clap.specs.Takes.{takes}
pub use Rattle.dns_tools.specs.ClapCommands.{check_app, once_app}
pub use Rattle.dns_zone.specs.FaultForm.{faults_in, faults_of, zone_in}
