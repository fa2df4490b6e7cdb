use Rattle.dns_master.proofs.Common.{true, false, ◌≡◌, ◌+◌, ◌∷◌, subst, sym, ap, ◌∙◌, arith, refl, unwrap_or, ended, extent_by, EntryKind, KindGives, faulty, gives, line_after, fault_handed_on, kind_of, kind_by_words, fault_of, token_words, length}
use Rattle.dns_spec.proofs.ZoneTexts.EntryReading.{ReadsWell}
use Rattle.dns_master.specs.EntryForm.{WholeBefore, shown_ending}
use Rattle.dns_master.specs.EarlierForm.{handed}
use Rattle.dns_master.specs.TakeForm.{KindOwn}
use Rattle.dns_master.proofs.EntryFacts.{Facts, reads-facts, reads-well}
use Rattle.dns_master.proofs.TextSteps.{kind-is, entry-means, entry-faulty, ends-faulty, line-more, entry-shorter}
use Rattle.dns_master.proofs.CappedWords.{all-stored, stored-mean}
use Rattle.dns_master.proofs.PieceSteps.{end-faulty, sure-given, taken-known}
use Rattle.dns_master.proofs.reader.Reader.take_entry.Goals as goal
use Rattle.dns_master.proofs.reader.Reader.take_entry.Goals.{After-begins_blank}

module _ (c : After-begins_blank) where
  -- the entry is complete, whatever follows the text
  whole : WholeBefore c.args.goes_on (shown_ending c.in-Ok.ending) c.in-Some.rest.now
  whole = rw c.in-Some.is at c.in_ok-rest.ensures.ok

  well : ReadsWell false c.args.text.now c.in-Ok.ensures.tokens (shown_ending c.in-Ok.ending)
  well = reads-well _ _ _ c.in-Ok.ensures.reads

  facts : Facts false c.args.text.now c.in-Ok.ensures.tokens (shown_ending c.in-Ok.ending)
  facts = reads-facts _ _ _ c.in-Ok.ensures.reads

  -- the kind of the entry, by all its words
  kind : kind_of (ended c.in-Ok.ensures.tokens)
      ≡ kind_by_words c.begins_blank.result (token_words c.in-Ok.ensures.tokens)
  kind = kind-is _ _ _ facts (extent_by true) _ _ c.begins_blank.ensures refl

pub returns-in_err-rest-clause-err : goal.returns-in_err-rest-clause-err
returns-in_err-rest-clause-err c =
    let told = c.in_err-rest.ensures.err in
    let fault = fault_of c.in_err-rest.field-0.0 in
    fault_handed_on c.from_residual.result c.in_err-rest.field-0.0 _ c.from_residual.ensures.1
    (record {
      told = λ some more past may o earlier known line.
          let reported = told.told some in
          rw line (end-faulty c.args.goes_on o earlier c.args.text.now more past fault
          (line_after earlier) may (ends-faulty o earlier (unwrap_or c.args.goes_on true)
          c.args.text.now _ _ fault (reads-well _ _ _ c.in-Ok.ensures.reads)
          (reads-facts _ _ _ c.in-Ok.ensures.reads) reported.0) reported.1);
      source = told.source;
    })

pub returns-in-Err-clause-err : goal.returns-in-Err-clause-err
returns-in-Err-clause-err c =
    let at = (goal.at.returns-in-Err-clause-err c).After-begins_blank in
    let fault = fault_of c.in-Err.blame.code in
    let b = c.begins_blank.result in
    let stored = c.as_slice.ensures.value ∙ c.in-Ok.ensures.stored in
    record {
      told = λ some more past may o earlier known line.
          rw line (entry-faulty more past c.args.text.now _ c.in-Some.rest.now o earlier
          c.args.goes_on _ may (whole at) (well at) (facts at) fault
          (subst (λ (s : EntryKind). KindGives o earlier s (faulty fault))
          (sym (kind at)) (stored-mean o earlier b _ (faulty fault)
          (subst (λ ws. KindGives o earlier (kind_by_words b ws) (faulty fault)) stored
          (c.in-Err.ensures.err some o earlier known.back).given))));
      source = c.in-Err.blame.source;
    }

pub returns-in-Ok-take-clause-ok : goal.returns-in-Ok-take-clause-ok
returns-in-Ok-take-clause-ok c =
    let at = (goal.at.returns-in-Ok-take-clause-ok c).After-begins_blank in
    let e = ended c.in-Ok.ensures.tokens in
    let rs = handed c.in-Ok-take.taken c.take.new.self.last in
    let b = c.begins_blank.result in
    let stored = c.as_slice.ensures.value ∙ c.in-Ok.ensures.stored in
    record {
      taken = λ more past later may h o earlier known line.
          let kept = c.in-Ok-take.ensures.ok o earlier known.back in
          let all = all-stored o earlier b _ rs
          (subst (λ ws. KindGives o earlier (kind_by_words b ws) (gives rs)) stored
          (sure-given o earlier _ rs known.sound kept)) in
          let same = kind at ∙ ap (kind_by_words b) (sym (stored ∙ all)) in
          let own = subst (λ s. KindOwn o earlier s rs) (sym same) kept in
          let next = taken-known o earlier e rs _ known.sound own
          (c.in-Ok-take.ensures.passed o earlier e known.back same) in
          let line_is = ap (λ n. n + c.in-Ok.lines) line
          ∙ ap (λ n. line_after earlier + n) c.in-Ok.ensures.counted
          ∙ sym (line-more c.in-Ok.ensures.tokens earlier) in
          entry-means more past c.args.text.now _ c.in-Some.rest.now o earlier
          c.args.goes_on _ may (whole at) (well at) (facts at) rs later
          (sure-given o earlier _ rs known.sound own) (h o (e ∷ earlier) next line_is);
      shorter = entry-shorter c.args.goes_on c.args.text.now _ _ _ c.requires.some (well at)
          (whole at);
      lines =
          let rest = ap length (whole at).1 in
          omega (arith, c.in-Ok.ensures.bound, rest);
    }
