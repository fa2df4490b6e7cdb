-- Re-exports the names that most proofs use. Declares nothing.
pub use Rattle.dns_spec.proofs.Common.{data_fields, data_at, field_at, message_question_at, message_record_at, All, AllByRecursion, Bool, Bor, DomainName, Header, IfSome, IsAskable, IsWritable, Item, Laid, List, MessageQuestion, NameAt, None, Octets, OnTrue, Option, Part, Field, Placed, RecordSet, ResourceRecord, RunAt, Sharing, Some, Spells, TypeRow, [], add-zero, and_parts, anything, ap, append-nil, append_assoc, ap₂, arith, asked_octets, asked_placed, class_in, compresses, cond, cond_some, data_laid, domain, drop, drop-cons, drop-drop, drop-take, drop_at, ends, eq-eqb, eqb-true, false, false≢true, field16, find, flat_map-append, get_or, get_or-map, get_or-set_other, get_or-set_same, get_or_append_left, get_or_push, goes_on, has_suffix, header_octets, if◌then◌else◌, in_section, inl, inr, is_label, is_name, is_section, is_some, jumps, laid_front, laid_parts, last_place, le-leb, leb-false, leb-true, length, length-append, length-drop, length-map, length-replicate, length-set, length-take, length-take-le, list_all, lt-leb, map, message_of, name, nat_le, ne_eqb, nil_from_length, none-some, octets, octets16, octets32, option_map, option_to_list, other_type, part_octets, parts, field_front, fields_of, place_of, pointer_place, question_octets, record_laid, records_at, records_octets, records_of, refl, replicate, rules, same_Some, sections_in_order, shared_octets, shared_place, slice_get, slice_get-get_or, slice_get_within, slice_set, subst, subst₂, suc, suffix_place, sym, take, take-add, take-append-add, take-append-drop, take-append-le, take-append_seam, take_all, take_at, take_more, true, true≢false, type_mx, type_soa, unwrap_or, valid, wire, zero, ℕ, ◌%◌, ◌&&◌, ◌*◌, ◌++◌, ◌+◌, ◌-◌, ◌/◌, ◌<◌, ◌==◌, ◌^◌, ◌||◌, ◌↔◌, ◌∙◌, ◌∷◌, ◌≡◌, ◌≢◌, ◌≤◌, ◌⊎◌, number, ipv4, ipv6, suc-mul}
unfoldable pub use Rattle.dns_spec.proofs.Common.{cut, data_by, fields_at, layout, several, name_at, octets_by, question_at, records_by, size}
pub use Rattle.std.proofs.Common.{IsFalse, lt_of_not-le}
pub use Rattle.std.specs.List.{refill}
pub use Rattle.std.proofs.lemmas.List.{get_or-replicate}
pub use Rattle.std.proofs.lemmas.Nat.{mod_below}
pub use Rattle.std.proofs.lemmas.Option.{slice_get-map}
pub use Rattle.dns_name.proofs.WireLemmas.{IsWireForm-wire, labels_of_spelled}
pub use Rattle.dns_name.specs.WireForm.{IsWireForm}
unfoldable pub use Rattle.dns_name.specs.WireForm.{labels_of}
pub use Rattle.dns_rdata.proofs.PartLemmas.{more_are_cut}
pub use Rattle.dns_rdata.specs.Parts.{Cuts, IsWirePart, part_for}
pub use Rattle.dns_rdata.specs.TypeRows.{field_of, fields_in}
pub use Rattle.dns_rdata.specs.declared.parts.Part.TheVariants.{Name}
pub use Rattle.dns_spec.proofs.DataWords.WrittenData.{cut_into, field_again, field_whole, front_taken, name_part, octets_part}
pub use Rattle.dns_spec.proofs.DomainNames.NameLaws.{IsName-is_name, is_label-head, is_name-push, is_name-tail, wire-injective}
pub use Rattle.dns_spec.proofs.Layouts.LayoutSize.{length-layout, length-record_tail}
pub use Rattle.dns_spec.proofs.Layouts.LeastSize.{past_limit}
pub use Rattle.dns_spec.proofs.Layouts.SameLayout.{begins_inside}
pub use Rattle.dns_spec.proofs.Layouts.SharedLayout.{layout_spells}
pub use Rattle.dns_spec.proofs.Layouts.SharedNames.{Known, known_more, place_again, place_pushed, shared_alone, shared_is, shared_none, shared_pointed, shared_root, shared_to, shared_whole, suffix_from, suffix_to}
pub use Rattle.dns_spec.proofs.Messages.NameReading.{name_at_computes, name_computed}
pub use Rattle.dns_spec.proofs.Messages.Sections.{data_read, field_own}
pub use Rattle.dns_spec.proofs.Messages.Places.{Stands, label_parts, run_written}
pub use Rattle.dns_wire.specs.Chains.{AreChains, chain_of, entry_at, kept_in, last_with}
pub use Rattle.dns_wire.specs.PartialMessage.{PartialMessage, Grows, HasNames, IsPartial, IsWellKept, Writes, WritesAfter, counts_of, partial_of, item_of, known_offsets, names_so_far, empty_message, with_counted, with_octets, with_set}
pub use Rattle.dns_wire.specs.Kept.{HasAt, HasOffset, IsKept, IsSharedAt, Kept, NoneSpelled, SpelledAt, SpelledFrom, SpellsSuffix}
pub use Rattle.dns_wire.specs.Labels.{LabelAt, NoRunAt, PointerAt}
pub use Rattle.dns_wire.specs.FieldReads.{IsFieldRead}
pub use Rattle.dns_wire.specs.QueryForm.{NameEnds}
pub use Rattle.dns_wire.specs.SuffixNumbers.{with_eights}
unfoldable pub use Rattle.dns_wire.specs.SuffixNumbers.{octets_number, suffix_number}
pub use Rattle.dns_wire.specs.Writing.{AfterLabel, Answers, Follows, Form, Holds, IsAsked, IsForm, IsLaid, IsLaidAs, IsLastOf, Layout, NotAsked, end_octets, form_again, name_before, name_laid, octets_laid, parts_laid, shown, tail_laid}
unfoldable pub use Rattle.dns_wire.specs.Writing.{asked_offsets, front_size, new_offsets, pointed_offset, records_laid}
pub use Rattle.dns_wire.specs.declared.message.Counts.{Counts}
pub use Rattle.dns_wire.specs.declared.message_builder.Section.{Section}
pub use Rattle.dns_wire.specs.declared.suffix_offsets.KeptOffset.{KeptOffset}
