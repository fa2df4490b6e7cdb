use Rattle.dns_master.proofs.Common.{rules, ◌≡◌, true, false, refl, ap, subst, sym, ◌∙◌, [], Some, Fields, is_directive, kind_by_words, LastOwner, SpelledOwner, NameIs, OwnerBefore, owned, unowned, no_owner, bad_owner, IfErr-weaker}
use Rattle.std.proofs.lemmas.Result.{IfOk-weaker}
use Rattle.dns_master.specs.EarlierForm.{handed, owner_of}
use Rattle.dns_master.specs.TakeForm.{KindOwn, Blamed}
use Rattle.dns_master.proofs.EarlierSteps.{kind-unowned, kind-owned, nothing-passed, owned-passed, unowned-passed, stated-by}
use Rattle.dns_master.proofs.TakeSteps.{kind-own, kind-blamed}
use Rattle.dns_master.proofs.earlier.Earlier.take.Goals as goal

pub returns-in_default-clause-passed : goal.returns-in_default-clause-passed
returns-in_default-clause-passed c = λ o earlier e known is.
    let none : c.args.words.now ≡ [] = search rules in
    nothing-passed o earlier e c.args.self.now known
    (is ∙ ap (kind_by_words c.args.is_blank_led) none)

pub returns-then-not-self-clause-passed : goal.returns-then-not-self-clause-passed
returns-then-not-self-clause-passed c = λ o earlier e known is.
    let kind = kind-unowned _ _ c.in-Some.first.now _ c.if-is_blank_led.true
    c.in-Some.ensures.cases.0 in
    let ttl = ap (λ (f : Fields). f.ttl) (c.of-then-not-self.view_is ∙ c.of.ensures) in
    unowned-passed o earlier e (owner_of c.args.self.now) c.args.self.now _ _ known
    c.pass_record.ensures.passed c.args.words.now (is ∙ kind) (sym ttl) refl

pub returns-then-is_blank_led-clause-passed : goal.returns-then-is_blank_led-clause-passed
returns-then-is_blank_led-clause-passed c = λ o earlier e known is.
    let kind = kind-unowned _ _ c.in-Some.first.now _ c.if-is_blank_led.true
    c.in-Some.ensures.cases.0 in
    unowned-passed o earlier e (owner_of c.args.self.now) c.args.self.now _ _ known
    c.take_record.ensures.passed c.args.words.now (is ∙ kind) refl refl

pub returns-then-is_blank_led-clause-ok : goal.returns-then-is_blank_led-clause-ok
returns-then-is_blank_led-clause-ok c =
    let kind = kind-unowned _ _ c.in-Some.first.now _ c.if-is_blank_led.true
    c.in-Some.ensures.cases.0 in
    let k = c.args.self.now in
    let has : k.has_owner ≡ true = search rules in
    let is : owner_of k ≡ Some k.last.owner = rw has refl in
    IfOk-weaker c.take_record.result _ _ (λ taken given o earlier known.
    let last = subst (LastOwner o earlier) is known.owner_is in
    subst (λ s. KindOwn o earlier s (handed taken c.take_record.new.self.last)) (sym kind)
    (kind-own o earlier (unowned c.args.words.now) no_owner (OwnerBefore o earlier) last.0 _
    last.1 last.2 k.low (λ given h. h) _ (given o earlier _ known)
    (λ never. never.unowned last.0 last.1) (λ none. none k.origin known.origin_is)))
    c.take_record.ensures.ok

pub returns-then-is_blank_led-clause-err : goal.returns-then-is_blank_led-clause-err
returns-then-is_blank_led-clause-err c =
    let kind = kind-unowned _ _ c.in-Some.first.now _ c.if-is_blank_led.true
    c.in-Some.ensures.cases.0 in
    let k = c.args.self.now in
    let has : k.has_owner ≡ true = search rules in
    let is : owner_of k ≡ Some k.last.owner = rw has refl in
    IfErr-weaker c.take_record.result _ _ (λ b given some o earlier known.
    let h = given some o earlier _ known in
    let last = subst (LastOwner o earlier) is known.owner_is in
    subst (λ s. Blamed o earlier s b) (sym kind)
    (kind-blamed o earlier (unowned c.args.words.now) no_owner (OwnerBefore o earlier) last.0 _
    last.1 last.2 k.low (λ given h. h) b h.0 h.1 h.2)) c.take_record.ensures.err

pub returns-then-not-self-2-clause-passed : goal.returns-then-not-self-2-clause-passed
returns-then-not-self-2-clause-passed c = λ o earlier e known is.
    let plain : is_directive c.in-Some.first.now ≡ false = search rules in
    let kind = kind-owned _ _ c.in-Some.first.now _ c.if-is_blank_led.false plain
    c.in-Some.ensures.cases.0 in
    let ttl = ap (λ (f : Fields). f.ttl)
    (c.of-then-not-self-2-2.view_is ∙ c.of-then-not-self-2.ensures) in
    owned-passed o earlier e (owner_of c.args.self.now) _ _ _ known
    c.pass_record-then-not-self-2.ensures.passed c.in-Some.first.now c.in-Some.others.now
    (is ∙ kind) (sym ttl)
    (stated-by _ _ _ c.spell_owner-self.result c.spell_owner-self.ensures.spelled
    c.spell_owner-self.ensures.none)

pub returns-clause-passed : goal.returns-clause-passed
returns-clause-passed c = λ o earlier e known is.
    let plain : is_directive c.in-Some.first.now ≡ false = search rules in
    let kind = kind-owned _ _ c.in-Some.first.now _ c.if-is_blank_led.false plain
    c.in-Some.ensures.cases.0 in
    owned-passed o earlier e (owner_of c.args.self.now) _ _ _ known
    c.take_record-2.ensures.passed c.in-Some.first.now c.in-Some.others.now
    (is ∙ kind) refl
    (stated-by _ _ _ c.spell_owner-self.result c.spell_owner-self.ensures.spelled
    c.spell_owner-self.ensures.none)

pub returns-clause-ok : goal.returns-clause-ok
returns-clause-ok c =
    let plain : is_directive c.in-Some.first.now ≡ false = search rules in
    let kind = kind-owned _ _ c.in-Some.first.now _ c.if-is_blank_led.false plain
    c.in-Some.ensures.cases.0 in
    let k = c.args.self.now in
    let w = c.in-Some.first.now in
    let owner : SpelledOwner k.origin w c.spell_owner-self.new.self.owner = search rules in
    IfOk-weaker c.take_record-2.result _ _ (λ taken given o earlier known.
    let named : NameIs o earlier w owner.0 =
    (owner.1.0, (k.origin, known.origin_is, owner.1.1)) in
    subst (λ s. KindOwn o earlier s (handed taken c.take_record-2.new.self.last)) (sym kind)
    (kind-own o earlier (owned w c.in-Some.others.now) bad_owner (NameIs o earlier w) owner.0 _
    named owner.2 c.spell_owner-self.ensures.low (λ given h. h) _ (given o earlier _ known)
    (λ never. never.owned w owner.0 named) (λ none. none k.origin known.origin_is)))
    c.take_record-2.ensures.ok

pub returns-clause-err : goal.returns-clause-err
returns-clause-err c =
    let plain : is_directive c.in-Some.first.now ≡ false = search rules in
    let kind = kind-owned _ _ c.in-Some.first.now _ c.if-is_blank_led.false plain
    c.in-Some.ensures.cases.0 in
    let k = c.args.self.now in
    let w = c.in-Some.first.now in
    let owner : SpelledOwner k.origin w c.spell_owner-self.new.self.owner = search rules in
    IfErr-weaker c.take_record-2.result _ _ (λ b given some o earlier known.
    let h = given some o earlier _ known in
    subst (λ s. Blamed o earlier s b) (sym kind)
    (kind-blamed o earlier (owned w c.in-Some.others.now) bad_owner (NameIs o earlier w) owner.0 _
    (owner.1.0, (k.origin, known.origin_is, owner.1.1)) owner.2 c.spell_owner-self.ensures.low
    (λ given h. h) b h.0 h.1 h.2)) c.take_record-2.ensures.err
