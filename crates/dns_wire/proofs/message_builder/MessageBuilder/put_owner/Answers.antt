use Rattle.dns_wire.proofs.Common.{◌∙◌, refl, ap, subst, take, inl, inr, zero, List, Some, [], Placed, Form, IsLaid, HasNames, suffix_number, asked_offsets}
use Rattle.dns_wire.proofs.AskedLemmas.{shared_asked}
use Rattle.dns_wire.proofs.LaidAgain.{owner_put, none_kept, form_low, form_kept, laid_there, names_there, anyhow}
use Rattle.dns_wire.specs.Writing.{shown_form}
use Rattle.dns_wire.proofs.message_builder.MessageBuilder.put_owner.Goals.{else-front-gt0-via-then-front-gt0+else-start-le-LAST_OFFSET, else-front-gt0-via-else-front-gt0}
use Rattle.dns_wire.proofs.message_builder.MessageBuilder.put_owner.Goals as goal
use Rattle.dns_wire.proofs.message_builder.MessageBuilder.put_owner.Given as given

pub returns-then-start-le-LAST_OFFSET-clause-writes :
    goal.returns-then-start-le-LAST_OFFSET-clause-writes
returns-then-start-le-LAST_OFFSET-clause-writes g c =
    let n = c.args.owner.now in
    let start = c.args.start in
    let form = shown_form c.args.form.now in
    let put = c.append_end.ensures in
    let again = form_low start form c.if-front-gt0.true c.if-start-le-LAST_OFFSET.true in
    owner_put n (zero, Some start) [] c.octets-name.ensures.is_name put.asked refl
    put.fits put.put put.unchanged (λ ms holds known.
    let laid = known c.if-not-first.true in
    (subst (IsLaid ms n) again laid, none_kept _ ms n start _ form c.requires.start laid))

pub returns-then-not-first-clause-writes : goal.returns-then-not-first-clause-writes
returns-then-not-first-clause-writes g c =
    let n = c.args.owner.now in
    let start = c.args.start in
    let form = shown_form c.args.form.now in
    let name = c.octets-name.ensures in
    let put = c.append_end-then-not-first.ensures in
    let again = form_kept start form (elim c.else-front-gt0.branch [
      | else-front-gt0-via-then-front-gt0+else-start-le-LAST_OFFSET w ↦
          inr w.if-start-le-LAST_OFFSET.false
      | else-front-gt0-via-else-front-gt0 w ↦ inl w.if-front-gt0.false
    ]) in
    owner_put n form c.split_at.result.0.now name.is_name put.asked
    (c.split_at.ensures.front ∙ ap (take form.0) name.value)
    put.fits put.put put.unchanged (λ ms holds known.
    let laid = known c.if-not-first.true in
    (subst (IsLaid ms n) again laid, none_kept _ ms n start _ form c.requires.start laid))

module _ (g : given.Over) (c : goal.After-append_end-2 g) where
  -- the owner is a suffix of the question's name, so it is laid out as a pointer
  laid : (ms : List Placed) → HasNames c.args.self.now (g.H.SuffixHash.hashes c.args.hash.now) ms
      → IsLaid ms c.args.owner.now (zero, Some c.in-Some.offset)
  laid ms holds =
      let name = c.octets-name.ensures in
      let head = suffix_number (g.H.SuffixHash.hashes c.args.hash.now) in
      laid_there c.args.owner.now c.in-Some.offset
      (names_there c.self.view_is c.as_slice.ensures.value holds) name.value name.is_name
      (shared_asked (asked_offsets head c.as_slice.result.now c.self.inside.asked_end)
      c.self.inside.offsets (c.in-Some.ensures.found head))

pub returns-clause-writes : goal.returns-clause-writes
returns-clause-writes g c =
    let n = c.args.owner.now in
    let form : Form = (zero, Some c.in-Some.offset) in
    let put = c.append_end-2.ensures in
    owner_put n form [] c.octets-name.ensures.is_name put.asked refl
    put.fits put.put put.unchanged (λ ms holds _. let so = laid g c ms holds in
    (so, none_kept _ ms n c.args.start _ form c.requires.start so))

pub returns-clause-first : goal.returns-clause-first
returns-clause-first g c = λ _. anyhow c.append_end-2.result (laid g c)
