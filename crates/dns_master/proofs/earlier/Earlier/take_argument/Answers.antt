use Rattle.dns_master.proofs.Common.{refl, ap, ◌∙◌, ◌∷◌, Word, SpellsName, directive, subst}
use Rattle.dns_master.specs.TakeForm.{directive_name}
use Rattle.dns_master.proofs.EarlierSteps.{default-passed, origin-passed}
use Rattle.dns_master.proofs.TakeSteps.{argument-says, argument-named}
use Rattle.dns_master.proofs.earlier.Earlier.take_argument.Goals as goal

pub returns-then-not-is_origin-clause-passed : goal.returns-then-not-is_origin-clause-passed
returns-then-not-is_origin-clause-passed c = λ others o earlier e known is.
    default-passed o earlier e c.args.self.now known _ c.args.argument.now others
    (is ∙ ap (λ b. directive (directive_name b) (c.args.argument.now ∷ others))
    c.if-not-is_origin.true)
    (c.read_ttl-ttl.result, refl, c.read_ttl-ttl.ensures.value) refl refl refl refl

pub returns-then-not-is_origin-clause-valid : goal.returns-then-not-is_origin-clause-valid
returns-then-not-is_origin-clause-valid c = λ o earlier known.
    rw (c.if-not-is_origin.true, c.is_some.ensures)
    (argument-says c.args.argument.now c.read_ttl-ttl.result c.read_ttl-ttl.ensures.value)

pub returns-clause-passed : goal.returns-clause-passed
returns-clause-passed c = λ others o earlier e known is.
    origin-passed o earlier e c.args.self.now known _ c.args.argument.now others _
    c.read_text.result (is ∙ ap (λ b. directive (directive_name b) (c.args.argument.now ∷ others))
    c.if-not-is_origin.false)
    (ap (λ (w : Word). w.raw) c.argument.view_is) c.read_text.ensures.name c.in-Ok.is
    refl refl refl refl

pub returns-clause-valid : goal.returns-clause-valid
returns-clause-valid c = λ o earlier known.
    let same = ap (λ (w : Word). w.raw) c.argument.view_is in
    let plain = ap (λ (w : Word). w.is_quoted) c.argument.view_is in
    rw (c.if-not-is_origin.false, plain)
    (argument-named o earlier c.args.argument.now c.args.self.now.origin c.in-Ok.origin
    known.origin_is (subst (λ x. SpellsName c.args.self.now.origin x c.in-Ok.origin) same
    ((c.read_text.ensures.name c.in-Ok.origin).0 c.in-Ok.is)))
