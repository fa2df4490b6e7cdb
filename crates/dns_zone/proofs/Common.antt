-- Re-exports the names that most proofs use. Declares nothing.
pub use Rattle.dns_spec.proofs.Common.{All, All-cons, All-from_recursion, All-head, All-nil, All-weaker, AllByRecursion, Bool, Bor, Check, DomainName, Equal, Fault, Greater, HasZoneType, IfSome, IsNonDecreasingBy, IsPartitionPoint-from_clause, IsPartitionedBy, IsPermutation, IsPermutation-trans, IsReadRecord, IsTotalOrder, Less, List, Means, None, Octets, Option, Ordering, Part, RecordSet, ResourceRecord, Some, Valid, ZoneContents, [], add-one, agree_below_at, and_from, and_parts, and_right, ap, append-nil, append_assoc, ap₂, arith, at, at_or_below, at_or_below_cut, below, cases_lt, cases_order, checked_names, checks, codes, cond, cut_of, data_order, decimal, distinct, drop, drop-append_seam, drop-cons, drop-drop, drop_all, drop_at, drop_more, end_rest, eq-eqb, eqb, eqb-false, eqb-true, exists, false, false_from_ne_true, false≢true, filter, filter-append, find, first_name, first_serial, flat_map, flat_map-append, flat_map-cons, folded, get_or, get_or-drop, get_or-map, get_or-set_other, get_or-set_same, get_or-take, get_or_append_left, get_or_default, get_or_default_zero, get_or_push, if◌then◌else◌, inl, inr, insert_by, is_cut, is_eq, is_gt, is_lt, is_name, is_owner, is_soa, is_some, label_order, large_set, last_labels, le-leb, le-ltb, leb-true, length, length-append, length-drop, length-filter_both, length-map, length-set, length-take, length_permutation, list_all, list_any, list_any-append, lists_ties, lower_case, lt-ltb, ltb-false, ltb-true, many_sets, map, map-append, map_push, min-eq_left, most_octets, most_records, name, name_order, name_text, names_equal, nat_cmp, nat_cmp_is, nat_cmp_total, nat_eq, nat_le, nat_list_cmp_total, nat_lt, ne_eqb, nil_from_length, none-some, not, not-true, octets, octets_equal, of_first_type, of_lowest_type, on_total, option_or, or-false, or_cases, or_left, or_parts, or_right, ordering_reverse, ordering_then, owns, part_folded, parts, prefix_len, prefix_len-le-length, printed_records, record_line, record_order, records, records_at, records_equal, recursion_from_All, refl, reverse, reverse-append, reverse-reverse, rising_types, rrset, rules, same, same_Some, set, set_of, slice_cmp, slice_get, soa_first, sort_by, starts_with, subst, suc, suffixes, sym, take, take-add, take-append-drop, take-append-le, take-append_seam, take-length, take_all, take_at, take_rest, target, tied_itself, to_ascii_lowercase, true, true≢false, ttls_differ, type_cname, type_ns, type_soa, type_text, upto, valid, vec_len, wire, zero, zone_of, zone_serial, ℕ, ◌&&◌, ◌*◌, ◌++◌, ◌+◌, ◌-◌, ◌/◌, ◌<◌, ◌==◌, ◌^◌, ◌||◌, ◌∙◌, ◌∷◌, ◌≡◌, ◌≤◌, ◌⊎◌}
unfoldable pub use Rattle.dns_spec.proofs.Common.{data_text, faults, zone_text}
pub use Rattle.std.proofs.Common.{Global, Vec}
pub use Rattle.std.specs.List.{SwappedAt, zip}
pub use Rattle.std.specs.List.Sorted.{IsSorted}
pub use Rattle.std.proofs.Math.ListN.{drop_of_length-le}
pub use Rattle.std.proofs.Math.Nat.{mul-le-mul_right, one-le-pow}
pub use Rattle.std.proofs.Math.Seq.{get_or-append_seam}
pub use Rattle.std.proofs.lemmas.Cmp.{alike_right, then_total, tied_back}
pub use Rattle.std.proofs.lemmas.Fn.{always_returns_same}
pub use Rattle.std.proofs.lemmas.List.{drop-append-le, drop-map, flat_map_more}
pub use Rattle.std.proofs.lemmas.List.Elements.{All-more, All-push}
pub use Rattle.std.proofs.lemmas.List.Folds.{find-append}
pub use Rattle.std.proofs.lemmas.List.Sorted.{IsPartitionedBy-ltb, ranks_by}
pub use Rattle.std.proofs.lemmas.Str.Ascii.{lowercase_is}
pub use Rattle.dns_master.specs.RecordForm.{IsKept}
pub use Rattle.dns_name.proofs.WireLemmas.{BeginsWithLabel-IsWireForm, IsWireForm-wire, labels_of-zero, labels_of_spelled}
pub use Rattle.dns_name.proofs.WritesLemmas.{Fills-after, Writes-held, Writes-same, held_before, held_begun, held_less, held_more}
pub use Rattle.dns_name.specs.Counted.{AppendsAllBut, AppendsBeginning}
pub use Rattle.dns_name.specs.WireForm.{IsWireForm}
unfoldable pub use Rattle.dns_name.specs.WireForm.{labels_of}
pub use Rattle.dns_spec.proofs.DataWords.LoweredData.{lowered_data}
pub use Rattle.dns_spec.proofs.DomainNames.NameLaws.{IsName-is_name, at_or_below-cons, at_or_below-length-wire, at_or_below-long, at_or_below-short, is_name-tail, length-is_name, names_equal-decides, octets_equal-decides, same-length, same-length-wire}
pub use Rattle.dns_spec.proofs.DomainNames.SmallOctets.{Small, small_back, small_front, small_tail}
pub use Rattle.dns_spec.proofs.PrintedZones.PrintedZone.{printed_moves, zone_means}
pub use Rattle.dns_spec.proofs.Records.RecordOrder.{LowerOwner, all_canonical, one_record, ordered_faults, record_order_total, record_ties, rises_canonical}
pub use Rattle.dns_spec.proofs.Replies.FewItems.{count_few}
pub use Rattle.dns_spec.proofs.Replies.ItemSets.{IsOf, as_set, each_typed, first_ttl, own_records}
pub use Rattle.dns_spec.proofs.ZoneChecks.FaultOrder.{Lower, folded_folded, name_order_total, name_tie, lower_equal}
pub use Rattle.dns_spec.proofs.ZoneChecks.PassedChecks.{checks_of_origin, one_soa, passes_check}
pub use Rattle.dns_spec.specs.Checks.{below_cut, outside}
pub use Rattle.dns_spec.specs.Tree.{closest_encloser, without_first}
pub use Rattle.dns_zone.specs.EntryForm.{IsEntry, data_in, owner_in}
pub use Rattle.dns_zone.specs.KeyForm.{BeginAlike, ended, name_key, raised}
pub use Rattle.dns_zone.specs.OwnerKeysForm.{AreKeyed, key_in}
pub use Rattle.dns_zone.specs.SortKeyForm.{AreApart, AreFronts, AreSortKeys, AreSorted, IsSortKey, no_record, own_order, same_sort_key, sorted_key, sort_key_order, placed}
pub use Rattle.dns_zone.specs.LabelKey.{IsEight, IsKey}
unfoldable pub use Rattle.dns_zone.specs.LabelKey.{key_of}
pub use Rattle.dns_zone.specs.NameEnd.{ending}
pub use Rattle.dns_zone.specs.NamesForm.{AreChecked, AreOwners, ComesNext, IsChecked, IsCutAbove, IsLastUpto, IsCheckContext, IsTopmost, first_owner, is_covered, is_upto, owner_of, own_in}
pub use Rattle.dns_zone.specs.NodeForm.{IsZoneNode, IsZoneTree, child_label, child_rows, node_at}
pub use Rattle.dns_zone.specs.Nodes.{IsNode, IsSetOf, Walk, ZoneNode}
pub use Rattle.dns_zone.specs.OwnerForm.{IsOwner, NameOfZone, is_exchange_alias, is_exchange_type, is_other_type, is_plain_type, is_server_alias, server_lacks_address, number_of}
pub use Rattle.dns_zone.specs.FaultForm.{failed_from, fault_of, faults_in, faults_of, numbered_owner, zone_in}
pub use Rattle.dns_zone.specs.ReportedForm.{begins_with_owner, owners_once}
unfoldable pub use Rattle.dns_zone.specs.ReportedForm.{reported_at}
pub use Rattle.dns_zone.specs.SetForm.{AreOfType, data_of, set_of_type}
pub use Rattle.dns_zone.specs.SetWalks.{begins_with_type, sets_ended}
pub use Rattle.dns_zone.specs.Starts.{AreStarts, BeginsAt}
pub use Rattle.dns_zone.specs.TreeForm.{AreChildren, IsChild, IsRow, IsTree, first_of, children_at, no_row, owners, row_at, row_label, span, under}
unfoldable pub use Rattle.dns_zone.specs.TreeForm.{row_name, row_octets}
pub use Rattle.dns_zone.specs.TreeSteps.{AddsChildren}
pub use Rattle.dns_zone.specs.ZoneForm.{AreOrdered, IsBuilt, IsCanonical, IsFront, is_chosen}
pub use Rattle.dns_zone.specs.declared.build_fault.CheckFault.{CheckFault}
pub use Rattle.dns_zone.specs.declared.names.CheckedName.{CheckedName}
pub use Rattle.dns_zone.specs.declared.order.sort_key.SortKey.{SortKey}
pub use Rattle.dns_zone.specs.declared.tree.lower_case.TheConstants.{LOWER_CASE}
pub use Rattle.dns_zone.specs.declared.tree.row.Row.{Row}
pub use Rattle.dns_zone.specs.declared.tree.zone_tree.Tree.{Tree}
pub use Rattle.dns_spec.proofs.General.Elements.{Among, among_contains, contains_among, each_among, each_at, each_weaker}
pub use Rattle.dns_spec.proofs.General.Filters.{each_filter, filter_among, filter_each, filter_test}
pub use Rattle.dns_spec.proofs.General.Sorted.{Rises, among_distinct, among_sort, apart_distinct, distinct_among, each_distinct, each_sort, length-sort_by, same_risen, sort_among, sort_risen, sort_rises}
pub use Rattle.dns_spec.proofs.General.Results.{OnErr-always}
pub use Rattle.dns_spec.proofs.General.Orderings.{nat_ties}
pub use Rattle.dns_spec.proofs.General.Truths.{same_tests}
pub use Rattle.dns_spec.proofs.DomainNames.WireNames.{wire_some}
pub use Rattle.dns_spec.proofs.General.Tests.{first_rest}
