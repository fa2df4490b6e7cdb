-- Re-exports the names that most proofs use. Declares nothing.
pub use Rattle.dns_spec.proofs.Common.{Appends, Appends-trans, Bool, Bor, DomainName, Equal, Err, IfErr, IsAsciiDigit, IsNotAsciiDigit, IsTrue, LabelThen, List, MatchBool, None, Octets, Ok, Option, Ordering, Result, Some, SpellsName, SpellsOctet, TextSpells, [], and_from, and_left, and_parts, and_right, ap, append-nil, append_assoc, ap₂, arith, at_or_below, cases_Bool, cases_order, drop, drop_at, eq-eqb, escape_front, escape_left, name_fault, eqb-false, eqb-true, false, false≢true, flat_map-append, folded, get_or, if◌then◌else◌, inl, inr, is_ascii_digit, is_ascii_graphic, is_label, is_name, is_special, join_with_byte, label_order, label_text, labels_text, last_labels, le-leb, leb-true, length, length-append, length-drop, length-reverse, length-take, length-take-le, list_all, list_any, lt-leb, lt-ltb, ltb-true, map, min, name_text, names_equal, nat_cmp, nat_le, ne_eqb, nil_from_length, octets_equal, or_parts, ordering_then, position_or_len, refl, reverse, reverse-append, rules, same, slice_cmp, slice_index_or, subst, suc, sym, take, take-add, take-append-add, take-append-drop, take-append-le, take-suc, take_all, take_at, three_digits, three_digits_value, to_ascii_lowercase, true, true≢false, wire, zero, ℕ, ◌&&◌, ◌*◌, ◌++◌, ◌+◌, ◌-◌, ◌<◌, ◌==◌, ◌↔◌, ◌∙◌, ◌∷◌, ◌≡◌, ◌≢◌, ◌≤◌, ◌⊎◌}
unfoldable pub use Rattle.dns_spec.proofs.Common.{labels_fault, octet_text}
pub use Rattle.std.specs.Int.{from_le_bytes, w16, w32, w64}
pub use Rattle.std.specs.Iterator.{YieldsFirst}
pub use Rattle.std.specs.Result.{IsErr}
pub use Rattle.std.proofs.lemmas.Nat.{le_bytes_2, le_bytes_4, le_bytes_8}
pub use Rattle.dns_name.specs.Counted.{AppendsAllBut, AppendsBeginning, Counted, Fills, Writes, failures_after, joined}
pub use Rattle.dns_name.specs.TextForm.{Appended, HasFault, IsNoLength, PushesLabel, ReadsLabel, SpellsIff, digit_at, is_label_end, is_mark, spelled_as}
unfoldable pub use Rattle.dns_name.specs.TextForm.{octet_at}
pub use Rattle.dns_name.specs.WireForm.{IsWireForm, labels_up_to}
unfoldable pub use Rattle.dns_name.specs.WireForm.{labels_of}
pub use Rattle.dns_spec.proofs.DomainNames.NameLaws.{IsLabel-is_label, IsName-is_name, at_or_below-long, at_or_below-short, is_label-head, is_name-append, is_name-folded, is_name-push, is_name-tail, length-is_name, length-wire-append, length-wire-push, map-lowercase-wire, names_equal-decides, octets_equal-decides, same-wire, wire-injective}
pub use Rattle.dns_spec.specs.Report.{bare_name_text}
pub use Rattle.dns_spec.proofs.General.Truths.{same_tests}
