use Rattle.dns_wire.proofs.Common.{true, ◌≡◌, length-append, ◌∙◌, sym, ap, ap₂, subst, arith, length, take, ◌++◌, false≢true, DomainName, List, Octets, Placed, wire, shared_octets, end_octets, new_offsets, HasNames, PartialMessage, partial_of, with_octets, Follows, is_name, suffix_number}
use Rattle.dns_wire.specs.Writing.{shown_form}
use Rattle.dns_wire.proofs.LaidAgain.{laid_cut, names_there, name_put, name_not_put}
use Rattle.dns_wire.proofs.message_builder.MessageBuilder.lay_name.Goals.{After-append_end, After-keep_suffixes}
use Rattle.dns_wire.proofs.message_builder.MessageBuilder.lay_name.Goals as goal
use Rattle.dns_wire.proofs.message_builder.MessageBuilder.lay_name.Given as given

-- a name has been looked up, and its layout is the labels before a suffix, and their end
module _ (g : given.Over) (c : After-append_end g) where
  abbrev end : Octets
  end = c.split_at.result.0.now ++ end_octets c.in-Some.laid.pointer

  laid : (ms : List Placed) (n : DomainName)
      → HasNames c.args.self.now (g.H.SuffixHash.hashes c.args.hash.now) ms
      → c.args.name.now ≡ wire n → is_name n ≡ true → shared_octets ms n ≡ end
  laid ms n holds e ok =
      let form = shown_form c.in-Some.laid in
      laid_cut ms n form (c.in-Some.ensures.shared ms n
      (names_there c.self.view_is c.as_slice-message.ensures.value holds) e ok)
      ∙ ap (λ x. x ++ end_octets form.1) (ap (take form.0) (sym e) ∙ sym c.split_at.ensures.front)

pub returns-then-not-append_end-clause-writes : goal.returns-then-not-append_end-clause-writes
returns-then-not-append_end-clause-writes g c = λ n e ok.
    let c' = (goal.at.returns-then-not-append_end-clause-writes g c).After-append_end in
    let long = length-append c.split_at.result.0.now (end_octets c.in-Some.laid.pointer) in
    name_not_put n (end g c') c.shared_suffix-found.ensures.same
    (λ room. false≢true (sym c.if-not-append_end.true
    ∙ c.append_end.ensures.fits.1 (omega (arith, room, long))))
    c.if-not-append_end.ensures.unchanged (λ ms holds _. laid g c' ms n holds e ok)

module _ (g : given.Over) (c : After-keep_suffixes g) where
  is : partial_of c.self-2.inside.limit c.self-2.inside.octets.items c.self-2.inside.asked_end
      c.self-2.inside.offsets c.self-2.inside.counts ≡ with_octets c.args.self.now
      (c.split_at.result.0.now ++ end_octets c.in-Some.laid.pointer)
  is = c.self-2.view_is ∙ c.if-not-append_end.ensures.put

  offset : c.len-at.result ≡ length c.args.self.now.octets
  offset = c.len-at.ensures.value ∙ ap (λ (d : PartialMessage). length d.octets) c.self.view_is

pub invariant_of-self : goal.invariant_of-self
invariant_of-self g c = grind (arith, length-append)

pub returns-clause-writes : goal.returns-clause-writes
returns-clause-writes g c = λ n e ok.
    let c' = (goal.at.returns-clause-writes g c).After-append_end in
    let c'' = (goal.at.returns-clause-writes g c).After-keep_suffixes in
    let numbers = g.H.SuffixHash.hashes in
    let room = c.append_end.ensures.fits.0 c.if-not-append_end.false in
    let ks = ap (λ (d : PartialMessage). d.kept) (is g c'') in
    name_put n (end g c') ok c.append_end.ensures.asked
    (omega (arith, room, length-append c.split_at.result.0.now (end_octets c.in-Some.laid.pointer)))
    (c.keep_suffixes.ensures.same ∙ c.shared_suffix-found.ensures.same)
    (subst (λ k. Follows k c.keep_suffixes.new.offsets) ks c.keep_suffixes.ensures.more)
    (ap (λ (d : PartialMessage). record d { kept = c.keep_suffixes.new.offsets }) (is g c''))
    (λ ms holds _. (
      laid g c' ms n holds e ok,
      c.keep_suffixes.ensures.kept ms n e ok (sym (c.in-Some.ensures.shared ms n
          (names_there c.self.view_is c.as_slice-message.ensures.value holds) e ok).0)
          ∙ ap₂ (λ x h. x ++ new_offsets (suffix_number h) ms n c.len-at.result)
          ks c.shared_suffix-found.ensures.same
          ∙ ap (λ i. c.args.self.now.kept
          ++ new_offsets (suffix_number (numbers c.args.hash.now)) ms n i) (offset g c''),
    ))
