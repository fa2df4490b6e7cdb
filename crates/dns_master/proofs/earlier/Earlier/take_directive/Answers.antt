use Rattle.dns_master.proofs.Common.{rules, ◌≡◌, ◌∙◌, ◌∷◌, [], None, refl, ap, ap₂, sym, subst, directive, text_in_lower_case, DirectiveWords}
use Rattle.std.proofs.lemmas.List.{nil_from_length}
use Rattle.dns_master.specs.EarlierForm.{Passes}
use Rattle.dns_master.specs.TakeForm.{Blamed, KindOwn, directive_name}
use Rattle.dns_master.proofs.EarlierSteps.{directive-passed, other_origin, other_default}
use Rattle.dns_master.proofs.TakeSteps.{blamed-by, first-argument, second-argument, one-argument, name-is}
use Rattle.dns_master.proofs.earlier.Earlier.take_directive.Goals as goal
use Rattle.dns_master.proofs.earlier.Earlier.take_directive.Goals.{After-take_argument, else-not-is_origin-via-then-not-is_origin+else-not-is_word, else-not-is_origin-via-else-not-is_origin}

pub returns-then-not-is_word-clause-passed : goal.returns-then-not-is_word-clause-passed
returns-then-not-is_word-clause-passed c = λ o earlier e known is.
    directive-passed o earlier e _ known (text_in_lower_case c.args.name.now) c.args.words.now is
    (other_origin (text_in_lower_case c.args.name.now) c.args.words.now (search rules))
    (other_default (text_in_lower_case c.args.name.now) c.args.words.now (search rules))

pub returns-in_default-clause-passed : goal.returns-in_default-clause-passed
returns-in_default-clause-passed c = λ o earlier e known is.
    let none : c.args.words.now ≡ [] = nil_from_length _ c.in_default.ensures.cases in
    directive-passed o earlier e c.args.self.now known (text_in_lower_case c.args.name.now) []
    (is ∙ ap (directive (text_in_lower_case c.args.name.now)) none) refl refl

-- the first argument was taken
module _ (c : After-take_argument) where
  same : directive (text_in_lower_case c.args.name.now) c.args.words.now
      ≡ directive (directive_name c.is_word-is_origin.result)
      (c.in-Some.first.now ∷ c.in-Some.others.now)
  same = ap₂ directive (name-is _ (text_in_lower_case c.args.name.now) c.is_word-is_origin.ensures
      (λ other. elim c.else-not-is_origin.branch [
        | else-not-is_origin-via-then-not-is_origin+else-not-is_word w ↦ search rules
        | else-not-is_origin-via-else-not-is_origin w ↦ search rules
      ])) c.in-Some.ensures.cases.0

  passed : Passes c.args.self.now (directive (text_in_lower_case c.args.name.now)
      c.args.words.now) c.take_argument.new.self
  passed = subst (λ s. Passes c.args.self.now s c.take_argument.new.self) (sym same)
      (c.take_argument.ensures.passed c.in-Some.others.now)

pub returns-then-not-take_argument-clause-passed : goal.returns-then-not-take_argument-clause-passed
returns-then-not-take_argument-clause-passed c =
    passed (goal.at.returns-then-not-take_argument-clause-passed c).After-take_argument

pub returns-then-not-take_argument-clause-err : goal.returns-then-not-take_argument-clause-err
returns-then-not-take_argument-clause-err c = λ some o earlier known.
    let at = (goal.at.returns-then-not-take_argument-clause-err c).After-take_argument in
    let blame = c.after-then-not-take_argument in
    let faulty = first-argument o earlier c.in-Some.first.now c.in-Some.others.now
    c.is_word-is_origin.result
    (rw c.if-not-take_argument.true at (c.take_argument.ensures.valid o earlier known)) in
    subst (λ s. Blamed o earlier s blame.result) (sym (same at))
    (blamed-by o earlier _ blame.result DirectiveWords None 1 blame.ensures.code
    blame.ensures.number blame.ensures.words faulty.0 refl faulty.1)

pub returns-then-not-is_empty-clause-passed : goal.returns-then-not-is_empty-clause-passed
returns-then-not-is_empty-clause-passed c =
    passed (goal.at.returns-then-not-is_empty-clause-passed c).After-take_argument

pub returns-then-not-is_empty-clause-err : goal.returns-then-not-is_empty-clause-err
returns-then-not-is_empty-clause-err c = λ some o earlier known.
    let at = (goal.at.returns-then-not-is_empty-clause-err c).After-take_argument in
    let blame = c.after-then-not-is_empty in
    let faulty = second-argument o earlier c.in-Some.first.now c.in-Some.others.now
    c.is_word-is_origin.result
    (rw c.if-not-take_argument.false at (c.take_argument.ensures.valid o earlier known))
    (search rules) in
    subst (λ s. Blamed o earlier s blame.result) (sym (same at))
    (blamed-by o earlier _ blame.result DirectiveWords None 2 blame.ensures.code
    blame.ensures.number blame.ensures.words faulty.0 refl faulty.1)

pub returns-clause-passed : goal.returns-clause-passed
returns-clause-passed c = passed (goal.at.returns-clause-passed c).After-take_argument

pub returns-clause-ok : goal.returns-clause-ok
returns-clause-ok c = λ o earlier known.
    let at = (goal.at.returns-clause-ok c).After-take_argument in
    subst (λ s. KindOwn o earlier s []) (sym (same at))
    (one-argument o earlier c.in-Some.first.now c.in-Some.others.now c.args.self.now known
    c.is_word-is_origin.result
    (rw c.if-not-take_argument.false at (c.take_argument.ensures.valid o earlier known))
    (search rules))
