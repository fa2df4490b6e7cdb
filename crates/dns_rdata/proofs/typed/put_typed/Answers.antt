use Rattle.dns_rdata.proofs.Common.{[], ◌≡◌, ◌≤◌, ◌+◌, ◌∷◌, List, Field, arith, eqb-true, ap, refl, sym, ◌∙◌, length, drop, length-drop, nil_from_length, word_fields, fields_in, field_of, fault_handed_on}
use Rattle.dns_rdata.proofs.FormFronts.{Taken, item-front, none-taken, word-next, word-taken, word-refused, too-long, word-at, long-at, taken_is}
use Rattle.dns_rdata.proofs.TypedData.{typed_said, typed_fault, typed_at_place}
use Rattle.dns_rdata.proofs.typed.put_typed.Goals as goal
use Rattle.dns_rdata.proofs.typed.put_typed.Goals.{After-append_word}

-- the word at hand is paired with its field
module _ (c : After-append_word) where
  abbrev fields : List Field
  fields = word_fields (length c.args.words.now) (fields_in c.in-Some.row.now.fields.now)

  here : Taken fields (field_of c.field_at.result ∷ drop (c.words.index + 1) fields)
      c.args.origin.now c.args.words.now
      (c.index-words-index.result ∷ drop (c.words.index + 1) c.args.words.now) c.words.octets.items
  here = word-next _ _ _ _ _ _ _ _ _ (c.field_at.ensures _ c.words-test.true)
      (item-front _ _ _ c.words-test.true c.index-words-index.is) c.words.invariant.taken

  many : length fields ≡ length c.args.words.now
  many = eqb-true _ _ (sym c.is_word_count.ensures ∙ c.if-not-is_word_count.false)

  index : here.taken ≡ c.words.index
  index = taken_is _ _ _ c.words.index _ _ _ _ here (omega (arith, many, c.words-test.true))

pub returns-in_err-append_word-clause-which : goal.returns-in_err-append_word-clause-which
returns-in_err-append_word-clause-which c =
    let at = (goal.at.returns-in_err-append_word-clause-which c).After-append_word in
    let fault = c.in_err-append_word in
    fault_handed_on c.from_residual.result fault.field-0.0 _ c.from_residual.ensures.1
    (λ other. rw (fault.ensures.which other) (typed_fault c.args.rtype.0 _ _ _ _
    c.requires.not_unknown c.in-Some.ensures refl _
    (sym c.if-not-is_word_count.false ∙ c.is_word_count.ensures)
    (word-refused _ _ _ _ _ _ _ _ (here at) (fault.ensures.fault other))))

pub returns-in_err-append_word-clause-faulty : goal.returns-in_err-append_word-clause-faulty
returns-in_err-append_word-clause-faulty c =
    let at = (goal.at.returns-in_err-append_word-clause-faulty c).After-append_word in
    let fault = c.in_err-append_word in
    fault_handed_on c.from_residual.result fault.field-0.0 _ c.from_residual.ensures.1
    (λ other. typed_at_place c.args.rtype.0 _ _ _ _
    c.requires.not_unknown c.in-Some.ensures refl _ c.words.index
    (sym c.if-not-is_word_count.false ∙ c.is_word_count.ensures) (index at)
    (word-at _ _ _ _ _ _ _ _ (here at) (fault.ensures.fault other)))

pub returns-then-len-gt-MAX_OCTETS-clause-which : goal.returns-then-len-gt-MAX_OCTETS-clause-which
returns-then-len-gt-MAX_OCTETS-clause-which c = λ _.
    let at = (goal.at.returns-then-len-gt-MAX_OCTETS-clause-which c).After-append_word in
    typed_fault c.args.rtype.0 _ _ _ _ c.requires.not_unknown c.in-Some.ensures
    refl _ (sym c.if-not-is_word_count.false ∙ c.is_word_count.ensures)
    (too-long _ _ _ _ _ _ _ _ (here at) _ c.in_ok-append_word.ensures.ok
    (omega (arith, c.len.ensures, c.if-len-gt-MAX_OCTETS.true)))

pub returns-then-len-gt-MAX_OCTETS-clause-faulty :
    goal.returns-then-len-gt-MAX_OCTETS-clause-faulty
returns-then-len-gt-MAX_OCTETS-clause-faulty c = λ _.
    let at = (goal.at.returns-then-len-gt-MAX_OCTETS-clause-faulty c).After-append_word in
    typed_at_place c.args.rtype.0 _ _ _ _ c.requires.not_unknown c.in-Some.ensures
    refl _ c.words.index
    (sym c.if-not-is_word_count.false ∙ c.is_word_count.ensures) (index at)
    (long-at _ _ _ _ _ _ _ _ (here at) _ c.in_ok-append_word.ensures.ok
    (omega (arith, c.len.ensures, c.if-len-gt-MAX_OCTETS.true)))

pub words-init : goal.words-init
words-init c = record {
  taken = rw c.requires.none (none-taken _ _ _);
  bound = omega (arith, ap length c.requires.none);
}

pub words-preserved : goal.words-preserved
words-preserved c =
    let at = (goal.at.words-preserved c).After-append_word in
    let short : length c.append_word.new.octets.items ≤ 65535
    = omega (arith, c.len.ensures, c.if-len-gt-MAX_OCTETS.false) in
    record {
      taken = word-taken _ _ _ _ _ _ _ _ (here at) _ c.in_ok-append_word.ensures.ok short;
      bound = short;
    }

pub returns-clause-ok : goal.returns-clause-ok
returns-clause-ok c =
    let many = eqb-true _ _ (sym c.is_word_count.ensures ∙ c.if-not-is_word_count.false) in
    let fields = word_fields (length c.args.words.now) (fields_in c.in-Some.row.now.fields.now) in
    let t = c.words.invariant.taken in
    let left = nil_from_length (drop c.words.index fields)
    (omega (arith, length-drop c.words.index fields, many, c.words-test.false)) in
    let rest = nil_from_length (drop c.words.index c.args.words.now)
    (omega (arith, length-drop c.words.index c.args.words.now, c.words-test.false)) in
    let all : Taken fields [] c.args.origin.now c.args.words.now [] c.words.octets.items
    = rw left at (rw rest at t) in
    typed_said _ _ _ _ _ c.requires.not_unknown
    c.in-Some.ensures refl _ all c.words.invariant.bound
