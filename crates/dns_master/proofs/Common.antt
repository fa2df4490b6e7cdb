-- Re-exports the names that most proofs use. Declares nothing.
pub use Rattle.dns_spec.proofs.Common.{Bool, Consumes, DataIs, DomainName, EntriesMean, Entry, EntryGives, EntryKind, EntryMeaning, Extent, Fields, FileFault, IfErr, IfErr-weaker, IfSome, IsAtEnd, IsNoTtl, IsRecord, IsTrue, KindGives, List, Lowest, MatchOption, Meaning, Means, NameIs, NamesType, None, Nothing, Octets, OneWord, Option, OriginIs, OwnerBefore, RecordGives, ResourceRecord, Result, Says, Some, SpellsName, Token, TokensThen, TtlSays, TypeIs, Word, [], after, and_parts, ap, append-nil, append_assoc, ap₂, are_too_many, arith, bad_data, bad_owner, bad_parenthesis, bad_type, before_first, beginning, closed, codes, cond, cons_option, cut_entries, directive, directive_word, directive_words, drop, drop-drop, drop_all, ended, eq-eqb, eqb-true, escape_left, extent_by, false, false≢true, fault_at, fault_code, faulty, fields, filter, fold, folded, get_or, gives, if◌then◌else◌, in_string, in_token, inl, inr, is_blank, is_cut_short, is_line_end, is_none, is_open_at_end, is_other_class, is_record, is_string_octet, is_word_octet, kind_by_words, kind_of, le-ltb, length, length-append, length-drop, line_after, line_end, line_feed_front, list_all, list_all-append, list_any, lower_case, lt-ltb, ltb-false, nat_eq, nat_le, nat_lt, nearest, no_owner, no_ttl, no_words, none-some, not, open_after, option_or, other_class, owned, owner_word, parentheses, parenthesis, position_or_len, prefix_len, prefix_len-le-length, quoted_string, records, refl, rules, same_Some, slice_index_or, stop_at, stop_fault, subst, suc, sym, take, take-add, take_all, take_at, take_turns, text_in_lower_case, token_front, too_long, too_many_records, true, ttl_in_force, ttl_word, unit_left, unowned, unwrap_or, whole_text, with_end, word_of, zero, ℕ, ◌&&◌, ◌++◌, ◌+◌, ◌-◌, ◌<◌, ◌==◌, ◌||◌, ◌∙◌, ◌∷◌, ◌≡◌, ◌≢◌, ◌≤◌, ◌⊎◌}
unfoldable pub use Rattle.dns_spec.proofs.Common.{cut, run_length}
pub use Rattle.std.specs.Cmp.Lexicographic.{pointwise, same_text}
pub use Rattle.std.specs.List.{position}
pub use Rattle.std.proofs.lemmas.List.{at_drop_more}
pub use Rattle.dns_master.specs.Codes.{ForFault, IsFaultOn, OfEntry, OfFile, code_number, failures_after_read, fault_of}
pub use Rattle.dns_master.specs.EntryForm.{EntryRead, Reads, StepIs, line_ends, token_words}
pub use Rattle.dns_master.specs.PieceForm.{AllGive, FrontFaulty, FrontAdded, FrontTaken, Knows, MayFollow, PieceFaulty, PieceTaken, ReaderMeans, TextAdded}
pub use Rattle.dns_master.specs.RecordForm.{IsKept, LastOwner, SpelledName, SpelledOwner}
pub use Rattle.dns_master.specs.SourceForm.{AppendsPiece, Decides, IsRead, ReadsFile}
pub use Rattle.dns_master.specs.TokenForm.{by_itself, shown_token}
pub use Rattle.dns_master.specs.declared.read_fault.ReadCode.{ReadCode}
pub use Rattle.dns_master.specs.declared.read_fault.ReadCode.TheVariants.{BadData, BadType, DirectiveWords, NoMemory, NoTtl, OtherClass, Parenthesis, TooLong, TooManyRecords}
pub use Rattle.dns_master.specs.declared.read_fault.ReadFault.{ReadFault}
pub use Rattle.dns_master.specs.declared.run.RunKind.{RunKind}
pub use Rattle.dns_master.specs.declared.run.TheConstants.{PLAIN_IN}
pub use Rattle.dns_master.specs.declared.reader.Reader.{Reader}
pub use Rattle.dns_spec.proofs.DataWords.LoweredData.{folded_folded, lowered-twice}
pub use Rattle.dns_spec.proofs.DataWords.TypeWords.{one_type}
pub use Rattle.dns_spec.proofs.NameTexts.Escapes.{counted_escape, escape-counted}
pub use Rattle.dns_spec.proofs.ZoneTexts.Beginnings.{Loose, cut_none, front_kept}
pub use Rattle.dns_spec.proofs.ZoneTexts.BeginningsMean.{beginning_decides}
pub use Rattle.dns_spec.proofs.ZoneTexts.TextTokens.{front-shorter, has_tokens, tokens_cut}
pub use Rattle.dns_spec.specs.Laws.{OctetsMean}
unfoldable pub use Rattle.dns_master.specs.PieceForm.{TextMeans}
pub use Rattle.dns_spec.specs.Meaning.{is_directive}
pub use Rattle.dns_spec.specs.ZoneText.{begins_blank, is_blank_token}
pub use Rattle.dns_spec.proofs.General.Results.{fault_handed_on}
