-- Re-exports the names that most proofs use. Declares nothing.
pub use Rattle.dns_spec.proofs.Common.{All, All-append, All-cons, All-head, All-nil, All-tail, All-weaker, AllByRecursion, Bool, Decision, DomainName, Header, IfSome, IsReadRecord, IsTrue, IsWritable, Item, List, MessageQuestion, None, Octets, OnFalse, OnTrue, Option, Outcome, QueryRead, RecordSet, ResourceRecord, Section, Some, Spells, ZoneContents, [], absent, add-one, additional, address_set, address_sets, alias_items, alias_set, and-false, and_from, and_parts, and_right, answer, answered, ap, append-nil, append_assoc, ap₂, arith, asked_records, at, at_or_below, authority, below, cases_lt, cond, cons_option, cut_of, data_order, decide_query, distinct, drop, eqb-true, exists, false, false_from_ne_true, false≢true, filter, filter-append, filter_map, filter_map-append, find, first_target, fitting, flat_map-append, folded, follows_alias, found, get_or, get_or_default_zero, has_any, has_target_type, inl, inr, insert_by, is_authoritative, is_cut, is_ignored, is_name, is_owner, is_some, item, keep_longest, kept, last_of, last_sought, le-leb, length, length-append, length-drop, length-map, length-reverse, length-take, list_all, list_all-append, list_any, list_any-append, lt-ltb, ltb-true, main_items, map, map-append, min, most_aliases, most_visits, name_error, names_equal, nat_cmp, nat_le, nat_lt, negative, negative_soa, next_sought, no_error, nodes_to, not, not-true, of_first_type, of_lowest_type, of_type, option_map, option_to_list, or-false, or_left, or_parts, or_right, outcome_by, owns, positive, qtype_any, query, records_at, records_of, recursion_from_All, referral_to, refl, refused_with, reply_head, reply_message, reply_octets, reply_of, reverse, reverse-append, rising_types, rrset, rules, same, set_of, soa_minimum, sort_by, subst, subst₂, suc, suffixes, sum, sym, take, take-append-drop, take-suc, take_all, target, targets, targets_in_zone, targets_inside, targets_of, to_ascii_lowercase, true, true≢false, truncated, type_a, type_aaaa, type_cname, type_mx, type_ns, type_soa, type_srv, with_owner, zero, ℕ, ◌&&◌, ◌*◌, ◌++◌, ◌+◌, ◌-◌, ◌<◌, ◌==◌, ◌||◌, ◌↔◌, ◌∙◌, ◌∷◌, ◌≡◌, ◌≤◌, ◌⊎◌}
unfoldable pub use Rattle.dns_spec.proofs.Common.{chain, chain_from, decide, extra, items, layout, octets_of, outcome, outcome_at, query_read, reply, reply_with, required_items, size}
pub use Rattle.std.proofs.Common.{IsNone}
pub use Rattle.std.proofs.Math.Bool.{and-true, or_comm}
pub use Rattle.std.proofs.lemmas.Bool.Decides.{nat_tests}
pub use Rattle.std.proofs.lemmas.Map.Views.{any-filter_same}
pub use Rattle.dns_answer.specs.Chain.{aliases_of, names_from, rest_of}
unfoldable pub use Rattle.dns_answer.specs.Chain.{chain_rest}
pub use Rattle.dns_answer.specs.OfferedReply.{OfferedReply, empty_reply, offer, size_with}
unfoldable pub use Rattle.dns_answer.specs.OfferedReply.{offered}
pub use Rattle.dns_answer.specs.ReplyBuilderForm.{Holds, Offers, State}
pub use Rattle.dns_answer.specs.Ending.{Ends, IsPlain, Rest, Says, TookRest, all_names, asked_item, ending, ending_required, ending_targets, glue_by, inside, misses_by, nodes_by, not_inside, others_by}
pub use Rattle.dns_answer.specs.Replies.{Answers, Costs, IsHeaded, IsLaidOut, IsPut, IsReply, Responds}
pub use Rattle.dns_answer.specs.Seeking.{AreTargets, Completes, Followed, HasNoAlias, IsShown, MaySeek, NextIs, Seeks, aliases_left, leads_on, names_of, unsought}
pub use Rattle.dns_answer.specs.Targets.{Reaches, addresses_of, depth_in, set_targets, side_nodes, side_takes, takes_target, target_at, target_items, target_misses, target_nodes, targets_of_first}
unfoldable pub use Rattle.dns_answer.specs.Targets.{side_items}
pub use Rattle.dns_answer.specs.Walks.{AreRecords, HasNodesLeft, IsApex, IsBelowCut, IsMissing, IsStart, IsThere, Took, ends_at_cuts, labels_below, node_of, node_or}
pub use Rattle.dns_answer.specs.declared.ending.Verdict.{Verdict}
pub use Rattle.dns_name.proofs.WireLemmas.{IsWireForm-wire, labels_of_spelled}
pub use Rattle.dns_spec.proofs.DomainNames.NameLaws.{length-is_name}
pub use Rattle.dns_spec.proofs.Layouts.GrowingSize.{kept_is_fitting, size_grows}
pub use Rattle.dns_spec.proofs.Layouts.LayoutSize.{length-layout}
pub use Rattle.dns_spec.proofs.Replies.FewItems.{few_nodes, item_records, targets_last}
pub use Rattle.dns_spec.proofs.Replies.ItemSets.{each_typed}
pub use Rattle.dns_spec.proofs.Replies.ReplySpelled.{reply_spells}
pub use Rattle.dns_spec.proofs.Replies.RequiredItems.{IsAlias, each_alias_item, each_of_type, target_of}
pub use Rattle.dns_spec.proofs.ZoneChecks.FaultOrder.{folded_folded}
pub use Rattle.dns_spec.proofs.ZoneChecks.PassedChecks.{few_soa, one_soa, passes_check}
pub use Rattle.dns_spec.specs.Answer.{most_comparisons, has_set}
pub use Rattle.dns_spec.specs.Checks.{outside}
pub use Rattle.dns_spec.specs.Reply.{Reply, decide_question}
pub use Rattle.dns_wire.specs.PartialMessage.{IsPartial}
pub use Rattle.dns_wire.specs.QueryForm.{code_of}
pub use Rattle.dns_wire.specs.QuickNumbers.{quick_number}
pub use Rattle.dns_zone.proofs.Existing.{exists-lower}
pub use Rattle.dns_zone.proofs.NameOrder.{same-from, same-is}
pub use Rattle.dns_zone.proofs.NameTree.{below-cons, itself-under, same-under, under-trans}
pub use Rattle.dns_zone.proofs.PathLaws.{above_under, any_weaker, at-folded, cut-above, cut-by_set, cut-here, cut-none, encloser-above, encloser-here, exists-folded, exists-up, no_cut-at_origin, set-owned, under_same}
pub use Rattle.dns_zone.specs.Nodes.{IsSetOf, Walk, ZoneNode}
pub use Rattle.dns_zone.specs.Starts.{IsBelow}
pub use Rattle.dns_zone.specs.ZoneForm.{IsBuilt}
pub use Rattle.dns_zone.specs.declared.tree.sought.Sought.{Sought}
pub use Rattle.dns_spec.proofs.General.Elements.{Among, each_among, each_append, each_flat_map, each_weaker}
pub use Rattle.dns_spec.proofs.General.Filters.{filter_among, filter_each, filter_none, filter_test}
pub use Rattle.dns_spec.proofs.General.Numbers.{sum_cons}
