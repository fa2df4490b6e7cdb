use Rattle.dns_wire.proofs.Common.{rules, ◌*◌, ◌∙◌, ap, ap₂, true, false, ◌+◌, ◌≤◌, sym, subst, arith, refl, length, take, [], OnTrue, records_at, PartialMessage, partial_of, IsPartial, IsWellKept, Writes, with_set, with_counted, shown, octets_laid, records_laid}
use Rattle.dns_wire.specs.Writing.{shown_form}
use Rattle.dns_wire.proofs.PartialLemmas.{put_fits, put_in, least_of}
use Rattle.dns_wire.proofs.Steps.{taken_back, never_written, none_written, writes_as}
use Rattle.dns_wire.proofs.RecordsWritten.{records_none, record_more, form_known, records_past, all_taken, set_long}
use Rattle.dns_wire.proofs.message_builder.MessageBuilder.put_set.Goals as goal
use Rattle.dns_wire.proofs.message_builder.MessageBuilder.put_set.Given as given

module _ (g : given.Over) (c : goal.After-take_back g) where
  -- a record did not fit, so the records of the set do not fit
  tried : Writes (g.H.SuffixHash.hashes c.args.hash.now)
      (g.H.SuffixHash.hashes c.put_record.new.hash) c.args.self.now c.put_record.new.self
      (records_laid (records_at c.args.owner.now c.args.ttl (g.S.SetView.set c.args.set.now))) false
  tried =
      let set = g.S.SetView.set c.args.set.now in
      records_past
      (records_at c.args.owner.now c.args.ttl set) (c.records.i + 1) c.if-not-put_record.true
      (record_more c.args.owner.now c.args.ttl set c.records.i c.len-octets.result (shown_form
      c.records.form) _
      (omega (arith, c.records-test.true, c.len-i-end.ensures.value))
      (ap₂ (λ t d. shown c.args.owner.now t c.args.ttl d) c.rtype-rtype.ensures
      c.rdata-rdata.ensures.value)
      (c.len-octets.ensures.value ∙ ap (λ (d : PartialMessage). length d.octets) c.self.view_is)
      c.records.invariant.known c.records.invariant.writes c.put_record.ensures.writes)

module _ (g : given.Over) (c : goal.After-count_records g) where
  -- all records of the set were written
  done : Writes (g.H.SuffixHash.hashes c.args.hash.now)
      (g.H.SuffixHash.hashes c.records.hash) c.args.self.now c.records.self
      (records_laid (records_at c.args.owner.now c.args.ttl (g.S.SetView.set c.args.set.now))) true
  done = grind (arith, all_taken)

pub records-init : goal.records-init
records-init g c =
    let s = subst (IsWellKept g.row.N g.row.SIZE) c.self.view_is c.self.invariant in
    record {
      writes = writes_as (octets_laid []) (records_laid []) (λ ms p. sym (records_none ms p))
          (none_written (g.H.SuffixHash.hashes c.args.hash.now) c.args.self.now s.asked s.within);
      longer = omega arith;
      begins = λ _. refl;
      form = search rules;
      known = λ some. absurd (omega (arith, some));
    }

pub records-preserved : goal.records-preserved
records-preserved g c =
    let numbers = g.H.SuffixHash.hashes in
    let set = g.S.SetView.set c.args.set.now in
    let done = record_more c.args.owner.now c.args.ttl set c.records.i c.len-octets.result
    (shown_form c.records.form) _
    (omega (arith, c.records-test.true, c.len-i-end.ensures.value))
    (ap₂ (λ t d. shown c.args.owner.now t c.args.ttl d) c.rtype-rtype.ensures
    c.rdata-rdata.ensures.value)
    (c.len-octets.ensures.value ∙ ap (λ (d : PartialMessage). length d.octets) c.self.view_is)
    c.records.invariant.known c.records.invariant.writes c.put_record.ensures.writes in
    let longer = subst (λ t. OnTrue t (length c.records.self.octets + 10 ≤ length
    c.put_record.new.self.octets)) c.if-not-put_record.false c.put_record.ensures.longer in
    let so = c.records.invariant in
    record {
      writes =
          subst (λ t. Writes (numbers c.args.hash.now) (numbers c.put_record.new.hash)
          c.args.self.now c.put_record.new.self (records_laid (take (c.records.i + 1)
          (records_at c.args.owner.now c.args.ttl set))) t) c.if-not-put_record.false
          done;
      longer = omega (arith, longer, so.longer);
      begins = λ none. absurd (omega (arith, none));
      form = c.put_record.ensures.form;
      known = λ _. form_known (numbers c.args.hash.now) (numbers c.records.hash) c.args.self.now
          c.records.self c.args.owner.now (shown_form c.records.form) (shown_form
          c.put_record.new.form) c.records.i
          so.begins so.writes.same so.known c.put_record.ensures.first (λ later. ap shown_form
          (c.put_record.ensures.others later))
          c.if-not-put_record.false;
    }

pub returns-then-self-octets-clause-fits : goal.returns-then-self-octets-clause-fits
returns-then-self-octets-clause-fits g c = λ q items partial.
    let set = g.S.SetView.set c.args.set.now in
    let short = c.if-self-octets.true in
    let within = c.self.invariant.within in
    put_fits q items c.args.section c.args.owner.now c.args.ttl set
    (never_written (g.H.SuffixHash.hashes c.args.hash.now) c.args.self.now
    (records_laid (records_at c.args.owner.now c.args.ttl set)) (10 * length set.rdata)
    (grind arith)
    (set_long c.args.owner.now c.args.ttl set)) partial

pub returns-then-self-octets-clause-least : goal.returns-then-self-octets-clause-least
returns-then-self-octets-clause-least g c = λ q items partial low.
    least_of q _ c.args.self.now.limit false
    (returns-then-self-octets-clause-fits g c q items partial) low

pub returns-then-not-put_record-clause-unchanged : goal.returns-then-not-put_record-clause-unchanged
returns-then-not-put_record-clause-unchanged g c =
    let i = c.self-in-records.inside in
    ap₂ (λ o ks. partial_of i.limit o i.asked_end ks i.counts)
    c.truncate.ensures.items c.take_back.ensures ∙ ap (λ (d : PartialMessage). record d
    { octets = take c.len-octets.result d.octets; kept = take c.len-offsets.result d.kept })
    c.self-in-records.view_is ∙ taken_back (tried g c).grows
    (c.len-octets.ensures.value ∙ ap (λ (d : PartialMessage). length d.octets) c.self.view_is)
    (c.len-offsets.ensures.value ∙ ap (λ (d : PartialMessage). length d.kept) c.self.view_is)

pub invariant_of-self : goal.invariant_of-self
invariant_of-self g c =
    subst (IsWellKept g.row.N g.row.SIZE)
    (c.self.view_is ∙ sym (returns-then-not-put_record-clause-unchanged g c)) c.self.invariant

pub returns-then-not-put_record-clause-fits : goal.returns-then-not-put_record-clause-fits
returns-then-not-put_record-clause-fits g c = λ q items partial. put_fits q items
    c.args.section c.args.owner.now c.args.ttl (g.S.SetView.set c.args.set.now) (tried g c) partial

pub returns-then-not-put_record-clause-least : goal.returns-then-not-put_record-clause-least
returns-then-not-put_record-clause-least g c = λ q items partial low.
    least_of q _ c.args.self.now.limit false
    (returns-then-not-put_record-clause-fits g c q items partial) low

pub returns-clause-fits : goal.returns-clause-fits
returns-clause-fits g c = λ q items partial. put_fits q items
    c.args.section c.args.owner.now c.args.ttl (g.S.SetView.set c.args.set.now) (done g c) partial

pub returns-clause-least : goal.returns-clause-least
returns-clause-least g c = λ q items partial low.
    least_of q _ c.args.self.now.limit true (returns-clause-fits g c q items partial) low

pub returns-clause-put : goal.returns-clause-put
returns-clause-put g c = λ q items partial.
    let set = g.S.SetView.set c.args.set.now in
    let n = c.count_records.new.counts in
    let counts = c.count_records.ensures ∙ ap₂ (λ (d : PartialMessage)
    k. with_counted d.counts c.args.section k) c.self-2.view_is c.len-2.ensures.value in
    subst (λ (d : PartialMessage). IsPartial (g.H.SuffixHash.hashes c.args.hash.now) q
    (with_set items c.args.section c.args.owner.now c.args.ttl set) (record d { counts = n }))
    (sym c.self-2.view_is)
    (put_in q items c.args.section c.args.owner.now c.args.ttl set (done g c) counts partial)
