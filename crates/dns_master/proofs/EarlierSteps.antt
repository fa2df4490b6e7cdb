-- How an entry, faulty or not, changes what is known of the entries so far.
use Rattle.dns_master.proofs.Common.{◌≡◌, ◌-◌, Bool, true, false, cond, List, [], ◌∷◌, length, refl, sym, ap, ◌∙◌, subst, inl, arith, codes, Option, Some, None, same_Some, MatchOption, option_or, Octets, DomainName, folded, SpellsName, Word, Entry, filter, Nothing, EntryKind, no_words, directive, owned, unowned, kind_of, kind_by_words, is_directive, fields, OriginIs, NameIs, OwnerBefore, nearest, directive_word, owner_word, ttl_word, is_record, SpelledName, SpelledOwner, if◌then◌else◌}
use Rattle.std.specs.Prelude.{◌↔◌, Result, Ok, Err}
use Rattle.std.specs.Bool.{OnTrue, OnFalse}
use Rattle.dns_spec.specs.Names.{octets_equal}
use Rattle.dns_master.specs.EarlierForm.{SeenTtl, LooksBack, LooksBackTo, Passed, OriginAfter, StatedOwner, RecordPassed, owner_of}
use Rattle.dns_master.specs.declared.earlier.Earlier.{Earlier}

-- whether an entry of this kind is a record
abbrev counts_as_record : EntryKind → Bool
counts_as_record s =
    elim s [ no_words ↦ false | directive n ws ↦ false | owned w ws ↦ true | unowned ws ↦ true ]

left-after : (b : Bool) (e : Entry) (es : List Entry)
    → 100001 - length (cond b (e ∷ es) es) ≡ cond b (100001 - length es - 1) (100001 - length es)
left-after true e es = omega arith
left-after false e es = refl

ok_name : {E : Type 0} → Result DomainName E → Option DomainName
ok_name (Ok n) = Some n
ok_name (Err x) = None

name_of_ok : {E : Type 0} (n m : DomainName) (r : Result DomainName E)
    → r ≡ Ok n → r ≡ Ok m → n ≡ m
unfolding ok_name
name_of_ok n m r p q = same_Some n m (sym (ap ok_name p) ∙ ap ok_name q)

module _ (o : DomainName) (earlier : List Entry) where
  abbrev OwnerAfter : EntryKind → DomainName → Type 0
  OwnerAfter s n = MatchOption (owner_word s) (OwnerBefore o earlier n) (λ w. NameIs o earlier w n)

  -- what is known after an entry of this kind, if an origin is then in force
  record After (s : EntryKind) (k : Earlier) : Type 0 where
    origin_is : OriginAfter o earlier s k.origin
    no_other : (n : DomainName) → OriginAfter o earlier s n → n ≡ k.origin
    owner_is : MatchOption (owner_of k) (Nothing (OwnerAfter s))
        (λ f. (n : DomainName) × OwnerAfter s n × (f ≡ folded n))
    default_is : SeenTtl (option_or (directive_word (codes "$ttl") s)
        (nearest (directive_word (codes "$ttl")) earlier)) k.default_ttl
    stated_is : SeenTtl (option_or (ttl_word s) (nearest ttl_word earlier)) k.stated_ttl
    left_is : k.records_left
        ≡ cond (counts_as_record s) (100001 - length (filter is_record earlier) - 1)
        (100001 - length (filter is_record earlier))

  after-entry : (e : Entry) (k : Earlier) → After (kind_of e) k → Passed o earlier e k
  after-entry e k h =
      record {
        later = e ∷ earlier;
        back = inl ((λ none. none k.origin h.origin_is), refl);
        known = record {
          origin_is = h.origin_is;
          no_other = h.no_other;
          owner_is = h.owner_is;
          default_is = h.default_is;
          stated_is = h.stated_is;
          left_is = h.left_is ∙ sym (left-after (counts_as_record (kind_of e)) e
              (filter is_record earlier));
        };
      }

  passed : (e : Entry) (s : EntryKind) (k : Earlier) → kind_of e ≡ s → After s k
      → Passed o earlier e k
  passed e s k is h = after-entry e k (subst (λ s. After s k) (sym is) h)

  -- a record, of which `owner` is the owner before it
  module _ (e : Entry) (owner : Option DomainName) (old new : Earlier) (stated : Option Word)
      (known : LooksBackTo o earlier owner old) (p : RecordPassed old stated new) where
    one_less : new.records_left ≡ 100001 - length (filter is_record earlier) - 1
    one_less = p.left_is ∙ ap (λ n. n - 1) known.left_is

    pub owned-passed : (w : Word) (ws : List Word) → kind_of e ≡ owned w ws
        → (fields ws).ttl ≡ stated → StatedOwner old.origin w (owner_of old)
        → Passed o earlier e new
    owned-passed w ws is ttl named =
        passed e (owned w ws) new is (record {
          origin_is = subst (OriginIs o earlier) (sym p.origin_is) known.origin_is;
          no_other = λ n h. known.no_other n h ∙ sym p.origin_is;
          owner_is = subst (λ x. MatchOption x (Nothing (NameIs o earlier w))
              (λ f. (n : DomainName) × NameIs o earlier w n × (f ≡ folded n))) (sym p.owner_is)
              (stated_owner (owner_of old) named);
          default_is = subst (SeenTtl (nearest (directive_word (codes "$ttl")) earlier))
              (sym p.default_is) known.default_is;
          stated_is = subst (λ t. SeenTtl (option_or t (nearest ttl_word earlier)) new.stated_ttl)
              (sym ttl) (p.stated_is (nearest ttl_word earlier) known.stated_is);
          left_is = one_less;
        })
      where
        stated_owner : (owner : Option DomainName) → StatedOwner old.origin w owner
            → MatchOption owner (Nothing (NameIs o earlier w))
            (λ f. (n : DomainName) × NameIs o earlier w n × (f ≡ folded n))
        stated_owner None none = λ n h. none n
            (h.0, subst (λ m. SpellsName m w.raw n) (known.no_other h.1.0 h.1.1) h.1.2)
        stated_owner (Some f) h =
            (h.0, (h.1.0, (old.origin, known.origin_is, h.1.1)), h.2)

    pub unowned-passed : (ws : List Word) → kind_of e ≡ unowned ws → (fields ws).ttl ≡ stated
        → owner_of old ≡ owner → Passed o earlier e new
    unowned-passed ws is ttl same_owner =
        passed e (unowned ws) new is (record {
          origin_is = subst (OriginIs o earlier) (sym p.origin_is) known.origin_is;
          no_other = λ n h. known.no_other n h ∙ sym p.origin_is;
          owner_is = subst (λ x. MatchOption x (Nothing (OwnerBefore o earlier))
              (λ f. (n : DomainName) × OwnerBefore o earlier n × (f ≡ folded n)))
              (sym (p.owner_is ∙ same_owner)) known.owner_is;
          default_is = subst (SeenTtl (nearest (directive_word (codes "$ttl")) earlier))
              (sym p.default_is) known.default_is;
          stated_is = subst (λ t. SeenTtl (option_or t (nearest ttl_word earlier)) new.stated_ttl)
              (sym ttl) (p.stated_is (nearest ttl_word earlier) known.stated_is);
          left_is = one_less;
        })

  module _ (e : Entry) (old : Earlier) (known : LooksBack o earlier old) where
    pub nothing-passed : kind_of e ≡ no_words → Passed o earlier e old
    nothing-passed is =
        passed e no_words old is (record {
          origin_is = known.origin_is;
          no_other = known.no_other;
          owner_is = known.owner_is;
          default_is = known.default_is;
          stated_is = known.stated_is;
          left_is = known.left_is;
        })

    -- a directive that changes nothing that is known
    pub directive-passed : (name : _) (ws : List Word) → kind_of e ≡ directive name ws
        → directive_word (codes "$origin") (directive name ws) ≡ None
        → directive_word (codes "$ttl") (directive name ws) ≡ None → Passed o earlier e old
    directive-passed name ws is no_origin no_ttl =
        passed e (directive name ws) old is (record {
          origin_is = rw no_origin known.origin_is;
          no_other = rw no_origin known.no_other;
          owner_is = known.owner_is;
          default_is = rw no_ttl known.default_is;
          stated_is = known.stated_is;
          left_is = known.left_is;
        })

    -- `$ORIGIN` with a name
    pub origin-passed : {E : Type 0} (new : Earlier) (w : Word) (ws : List Word) (raw : Octets)
        (r : Result DomainName E) → kind_of e ≡ directive (codes "$origin") (w ∷ ws)
        → raw ≡ w.raw → ((n : DomainName) → (r ≡ Ok n) ↔ SpellsName old.origin raw n)
        → r ≡ Ok new.origin → owner_of new ≡ owner_of old → new.default_ttl ≡ old.default_ttl
        → new.stated_ttl ≡ old.stated_ttl → new.records_left ≡ old.records_left
        → Passed o earlier e new
    origin-passed new w ws raw r is same read found same_owner same_default same_stated same_room =
        passed e (directive (codes "$origin") (w ∷ ws)) new is (record {
          origin_is = (
            old.origin,
            known.origin_is,
            subst (λ x. SpellsName old.origin x new.origin) same ((read new.origin).0 found),
          );
          no_other = λ n h. name_of_ok n new.origin r ((read n).1
              (subst (λ m. SpellsName m raw n) (known.no_other h.0 h.1)
              (subst (λ x. SpellsName h.0 x n) (sym same) h.2))) found;
          owner_is = subst (λ x. MatchOption x (Nothing (OwnerBefore o earlier))
              (λ f. (n : DomainName) × OwnerBefore o earlier n × (f ≡ folded n)))
              (sym same_owner) known.owner_is;
          default_is = subst (SeenTtl (nearest (directive_word (codes "$ttl")) earlier))
              (sym same_default) known.default_is;
          stated_is = subst (SeenTtl (nearest ttl_word earlier))
              (sym same_stated) known.stated_is;
          left_is = same_room ∙ known.left_is;
        })

    pub default-passed : (new : Earlier) (w : Word) (ws : List Word)
        → kind_of e ≡ directive (codes "$ttl") (w ∷ ws)
        → SeenTtl (Some w) new.default_ttl → new.origin ≡ old.origin
        → owner_of new ≡ owner_of old → new.stated_ttl ≡ old.stated_ttl
        → new.records_left ≡ old.records_left
        → Passed o earlier e new
    default-passed new w ws is seen same_origin same_owner same_stated same_room =
        passed e (directive (codes "$ttl") (w ∷ ws)) new is (record {
          origin_is = subst (OriginIs o earlier) (sym same_origin) known.origin_is;
          no_other = λ n h. known.no_other n h ∙ sym same_origin;
          owner_is = subst (λ x. MatchOption x (Nothing (OwnerBefore o earlier))
              (λ f. (n : DomainName) × OwnerBefore o earlier n × (f ≡ folded n)))
              (sym same_owner) known.owner_is;
          default_is = seen;
          stated_is = subst (SeenTtl (nearest ttl_word earlier))
              (sym same_stated) known.stated_is;
          left_is = same_room ∙ known.left_is;
        })

-- a directive with another name states neither an origin nor a TTL
pub other_origin : (name : Octets) (ws : List Word)
    → octets_equal name (codes "$origin") ≡ false
    → directive_word (codes "$origin") (directive name ws) ≡ None
other_origin name [] e = refl
other_origin name (w ∷ ws) e = rw e refl

pub other_default : (name : Octets) (ws : List Word)
    → octets_equal name (codes "$ttl") ≡ false
    → directive_word (codes "$ttl") (directive name ws) ≡ None
other_default name [] e = refl
other_default name (w ∷ ws) e = rw e refl

-- the kind of an entry, by whether it begins with a blank, and by its words
pub kind-unowned : (blank : Bool) (ws : List Word) (w : Word) (others : List Word)
    → blank ≡ true → ws ≡ w ∷ others → kind_by_words blank ws ≡ unowned ws
kind-unowned blank ws w others b e = rw e (rw b refl)

pub kind-owned : (blank : Bool) (ws : List Word) (w : Word) (others : List Word) → blank ≡ false
    → is_directive w ≡ false → ws ≡ w ∷ others → kind_by_words blank ws ≡ owned w others
kind-owned blank ws w others b d e = rw e (rw b (rw d refl))

-- the owner that a word states, by whether it was spelled
pub stated-by : (origin : DomainName) (w : Word) (owner : DomainName) (spelled : Bool)
    → OnTrue spelled (SpelledOwner origin w owner)
    → OnFalse spelled (Nothing (SpelledName origin w))
    → StatedOwner origin w (if spelled then Some owner else None)
stated-by origin w owner true h k = h
stated-by origin w owner false h k = k
