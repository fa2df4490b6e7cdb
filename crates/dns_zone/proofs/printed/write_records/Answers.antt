use Rattle.dns_zone.proofs.Common.{sym, ◌≡◌, Bool, List, [], ℕ, filter, flat_map, true, false, ◌++◌, ap, rules, subst, ◌∙◌, flat_map-append, record_line, soa_first, ResourceRecord, AppendsBeginning, OnErr-always, Fills-after, Writes-same, Writes-held, held_before, is_chosen}
use Rattle.dns_zone.proofs.printed.write_records.Goals as goal

-- the lines of either the SOA records or all others
abbrev lines_of : Bool → List ResourceRecord → List ℕ
lines_of is_soa rs = flat_map record_line (filter (is_chosen is_soa) rs)

soa_then : (text : List ℕ) (rs : List ResourceRecord) → text ≡ []
    → (text ++ lines_of true rs) ++ lines_of false rs ≡ flat_map record_line (soa_first rs)
soa_then text rs e =
    ap (λ t. (t ++ lines_of true rs) ++ lines_of false rs) e
    ∙ sym (flat_map-append record_line (filter (is_chosen true) rs) (filter (is_chosen false) rs))

pub returns-in_err-put_chosen-2 : goal.returns-in_err-put_chosen-2
returns-in_err-put_chosen-2 g c =
    let rs = c.args.records.now in
    let first = held_before _ _ _ _ (lines_of false rs) c.in_ok-put_chosen.ensures.ok in
    let both =
    Fills-after _ _ _ first c.in_ok-put_chosen.ensures.counted c.in_err-put_chosen-2.ensures in
    record {
      ok = search rules;
      err = OnErr-always c.from_residual-in_err-put_chosen-2.result
          (subst (AppendsBeginning _ _) (soa_then _ rs c.new-text.ensures) both.err);
      counted = search rules;
    }

pub returns : goal.returns
returns g c =
    let rs = c.args.records.now in
    let first = held_before _ _ _ _ (lines_of false rs) c.in_ok-put_chosen.ensures.ok in
    let both =
    Fills-after _ _ _ first c.in_ok-put_chosen.ensures.counted c.in_ok-put_chosen-2.ensures in
    Writes-same
    (soa_then _ rs c.new-text.ensures) (Writes-held _ _ both.ok both.counted c.finish.ensures)
