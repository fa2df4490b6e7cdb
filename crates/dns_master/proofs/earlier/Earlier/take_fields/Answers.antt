use Rattle.dns_master.proofs.Common.{rules, ◌≤◌, ◌+◌, sym, ap, ◌∙◌, inl, inr, refl, subst, codes, List, [], ◌∷◌, length, Option, DomainName, Entry, Fields, option_or, nearest, ttl_word, directive_word, ttl_in_force, OriginIs, IsNoTtl, OtherClass, BadType, NoTtl, BadData, TooManyRecords, None, Some, ResourceRecord}
use Rattle.std.proofs.Common.{subst₂}
use Rattle.std.specs.Option.{option_copied}
use Rattle.dns_master.specs.EarlierForm.{SeenTtl, LooksBackTo}
use Rattle.dns_master.specs.declared.earlier.Earlier.{Earlier}
use Rattle.dns_master.specs.TakeForm.{FieldsGive}
use Rattle.dns_master.proofs.TakeSteps.{ttl-valid, in-force, in-force_short, fields-by, WithTtl, class-blamed, type-blamed, no_ttl-blamed, data-blamed, data-detail, count-blamed, record-own, none-own, fields-data_few, said-lowered, too-many, not-too-many}
use Rattle.dns_master.proofs.earlier.Earlier.take_fields.Goals as goal
use Rattle.dns_master.proofs.earlier.Earlier.take_fields.Goals.{After-is_other_class, After-ttl_in_force, After-read_words_in}

-- the TTL that the record states is valid
module _ (c : After-is_other_class) (o : DomainName) (earlier : List Entry)
    (owner : Option DomainName) (known : LooksBackTo o earlier owner c.args.self.now) where
  stated : SeenTtl (option_or (option_copied c.fields.inside.ttl) (nearest ttl_word earlier))
      c.pass_record.new.self.stated_ttl
  stated = c.pass_record.ensures.passed.stated_is _ known.stated_is

  valid : IsNoTtl (option_copied c.fields.inside.ttl) → ⊥
  valid = ttl-valid _ _ _ stated (search rules)

-- what is known after the record was passed
module _ (c : After-ttl_in_force) (o : DomainName) (earlier : List Entry)
    (owner : Option DomainName) (known : LooksBackTo o earlier owner c.args.self.now) where
  now_in_force : SeenTtl
      (ttl_in_force earlier (option_copied c.fields.inside.ttl)) c.ttl_in_force.result
  now_in_force =
      let stated = c.pass_record.ensures.passed.stated_is _ known.stated_is in
      rw c.ttl_in_force.ensures
      (in-force _ _ _ stated (nearest (directive_word (codes "$ttl")) earlier)
      c.pass_record.new.self.default_ttl c.is_some-is_stated.result (search rules)
      (subst (SeenTtl _) (sym c.pass_record.ensures.passed.default_is) known.default_is))

module _ (c : After-read_words_in) (o : DomainName) (earlier : List Entry)
    (owner : Option DomainName) (known : LooksBackTo o earlier owner c.args.self.now) where
  with_ttl : WithTtl o earlier (record {
    ttl = option_copied c.fields.inside.ttl;
    class = option_copied c.fields.inside.class;
    others = c.fields.inside.others.now;
  }) c.in-Some.rtype.0 c.in-Some-ttl_in_force.ttl c.self.inside.0.0
  with_ttl =
      let at = goal.at.After-read_words_in c in
      let same = ap (λ (k : Earlier). k.origin) c.self.view_is
      ∙ c.pass_record.ensures.passed.origin_is in
      record {
        ttl = valid at.After-is_other_class o earlier owner known;
        class = search rules;
        type = c.in-Some.ensures.0;
        in_force = subst (SeenTtl _) c.in-Some-ttl_in_force.is
            (now_in_force at.After-ttl_in_force o earlier owner known);
        origin_is = subst (OriginIs o earlier) (sym same) known.origin_is;
        only = λ n h. known.no_other n h ∙ sym same;
      }

pub returns-then-is_other_class-clause-err : goal.returns-then-is_other_class-clause-err
returns-then-is_other_class-clause-err c = λ some o earlier owner known.
    let at = goal.at.returns-then-is_other_class-clause-err c in
    let fault = c.of-then-is_other_class in
    fields-by o earlier _ _ _ fault.result OtherClass None _
    (c.fields.view_is ∙ c.of-fields.ensures) fault.ensures.code fault.ensures.number
    (class-blamed o earlier _ _ (valid at.After-is_other_class o earlier owner known)
    (search rules))
    (refl, search rules)

pub returns-in_default-type_and_words-clause-err : goal.returns-in_default-type_and_words-clause-err
returns-in_default-type_and_words-clause-err c = λ some o earlier owner known.
    let at = goal.at.returns-in_default-type_and_words-clause-err c in
    let fault = c.of-in_default-type_and_words in
    fields-by o earlier _ _ _ fault.result BadType None _ (c.fields.view_is ∙ c.of-fields.ensures)
    fault.ensures.code fault.ensures.number
    (type-blamed o earlier _ _ (valid at.After-is_other_class o earlier owner known) (search rules)
    c.in_default-type_and_words.ensures) refl

pub returns-in_default-ttl_in_force-clause-err : goal.returns-in_default-ttl_in_force-clause-err
returns-in_default-ttl_in_force-clause-err c = λ some o earlier owner known.
    let at = goal.at.returns-in_default-ttl_in_force-clause-err c in
    let fault = c.of-in_default-ttl_in_force in
    fields-by o earlier _ _ _ fault.result NoTtl None _ (c.fields.view_is ∙ c.of-fields.ensures)
    fault.ensures.code fault.ensures.number
    (no_ttl-blamed o earlier _ _ _ (valid at.After-is_other_class o earlier owner known)
    (search rules) c.in-Some.ensures.0 (subst (SeenTtl _) c.in_default-ttl_in_force.is
    (now_in_force at.After-ttl_in_force o earlier owner known))) refl

pub returns-in-Err-clause-err : goal.returns-in-Err-clause-err
returns-in-Err-clause-err c = λ some o earlier owner known. elim c.data_fault.ensures [
  | inl h ↦ absurd (some h)
  | inr h ↦
      let at = goal.at.returns-in-Err-clause-err c in
      let with = with_ttl at.After-read_words_in o earlier owner known in
      fields-by o earlier _ _ _ c.data_fault.result BadData _ _
      (c.fields.view_is ∙ c.of-fields.ensures) h.code h.number
      (data-blamed o earlier _ _ _ _ _ with
      (rw c.in-Some.ensures.1 at c.in-Err.ensures.fault h.other))
      (data-detail o earlier c.args.self.now.last.owner _ _ _ _ with _ _
      (rw c.in-Some.ensures.1 at c.in-Err.ensures.which h.other)
      (rw c.in-Some.ensures.1 at c.in-Err.ensures.faulty h.other))
]

pub returns-in-Err-clause-few : goal.returns-in-Err-clause-few
returns-in-Err-clause-few c = λ bad. elim c.data_fault.ensures [
  | inl h ↦ absurd (search rules)
  | inr h ↦
      subst (λ (f : Fields). c.read_words_in.new.buffers.words_before_fault ≤ 1 + length f.others)
      (c.fields.view_is ∙ c.of-fields.ensures)
      (fields-data_few c.in-Some.rtype.0 c.fields.inside.others.now
      c.self.inside.0.0 c.read_words_in.new.buffers.words_before_fault
      (rw c.in-Some.ensures.1 at c.in-Err.ensures.faulty h.other))
]

pub returns-then-self-eq0-clause-err : goal.returns-then-self-eq0-clause-err
returns-then-self-eq0-clause-err c = λ some o earlier owner known.
    let at = goal.at.returns-then-self-eq0-clause-err c in
    let fault = c.of-then-self-eq0 in
    fields-by o earlier _ _ _ fault.result TooManyRecords None _
    (c.fields.view_is ∙ c.of-fields.ensures) fault.ensures.code fault.ensures.number
    (count-blamed o earlier _ _ _ _ _ (with_ttl at.After-read_words_in o earlier owner known) _
    (rw c.in-Some.ensures.1 at c.in-Ok.ensures.ok)
    (too-many _ _ _ c.pass_record.ensures.passed.left_is known.left_is (search rules))) refl

pub returns-in_default-ttl-clause-ok : goal.returns-in_default-ttl-clause-ok
returns-in_default-ttl-clause-ok c = λ o earlier owner known.
    let at = goal.at.returns-in_default-ttl-clause-ok c in
    subst (λ f. FieldsGive o earlier c.args.self.now.last.owner f [])
    (c.fields.view_is ∙ c.of-fields.ensures)
    (inr (
      none-own o earlier c.args.self.now.last.owner _ _ _ _
          (with_ttl at.After-read_words_in o earlier owner known) _
          (rw c.in-Some.ensures.1 at c.in-Ok.ensures.ok) (search rules)
          (not-too-many _ _ _ c.pass_record.ensures.passed.left_is known.left_is (search rules)),
      refl,
    ))

pub returns-clause-ok : goal.returns-clause-ok
returns-clause-ok c = λ o earlier owner known.
    let at = goal.at.returns-clause-ok c in
    let name = c.self.inside.0.1.1.1.1.1.0.owner in
    let same = ap (λ (k : Earlier). k.last.owner) c.self.view_is
    ∙ ap (λ (x : ResourceRecord). x.owner) c.pass_record.ensures.last in
    let r : ResourceRecord = record {
      owner = name;
      ttl = c.in-Some-ttl.ttl;
      rtype = c.in-Some.rtype.0;
      rdata = c.replace.new.dest;
    } in
    subst₂ (λ n f. FieldsGive o earlier n f (r ∷ [])) same (c.fields.view_is ∙ c.of-fields.ensures)
    (inl (record-own o earlier name _ _ _ _
    (with_ttl at.After-read_words_in o earlier owner known) _
    (rw c.replace.ensures.after (rw c.in-Some.ensures.1 at c.in-Ok.ensures.ok))
    c.in-Some-ttl.ttl c.in-Some-ttl.is c.self.invariant.low
    (not-too-many _ _ _ c.pass_record.ensures.passed.left_is known.left_is (search rules))))

pub invariant_of-self : goal.invariant_of-self
invariant_of-self c =
    let k = c.pass_record.new.self in
    let short = in-force_short c.is_some-is_stated.result k.default_ttl k.stated_ttl
    c.ttl_in_force.result c.in-Some-ttl.ttl c.ttl_in_force.ensures
    (c.in-Some-ttl_in_force.is ∙ ap (λ x. Some x) c.in-Some-ttl.is) k.default_short
    k.stated_short in
    search (rules, said-lowered, short)
