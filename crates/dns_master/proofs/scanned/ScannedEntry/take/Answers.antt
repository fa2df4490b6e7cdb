use Rattle.dns_master.proofs.Common.{None, rules, arith, not, ◌≡◌, extent_by, nat_lt, length, ◌≢◌, sym, ap, ◌∙◌, fault_of, NoMemory}
use Rattle.std.specs.Option.{option_map}
use Rattle.dns_spec.specs.EntryPlaces.{ending_fault}
use Rattle.std.proofs.lemmas.Grind.{common_steps}
use Rattle.dns_master.specs.EntryForm.{shown_ending}
use Rattle.dns_master.specs.ListingForm.{PassesEntry, fault_in}
use Rattle.dns_master.proofs.ListingSteps.{stopped-fault, blamed-fault, entry-own, entry-kind}
use Rattle.dns_master.proofs.scanned.ScannedEntry.take.Goals as goal
use Rattle.dns_master.proofs.scanned.ScannedEntry.take.Goals.{After-take-taken, After-ending_fault}

passed : (c : After-take-taken)
    → PassesEntry c.args.earlier.now c.args.self.now c.take-taken.new.self
passed c = λ h o earlier known.
    c.take-taken.ensures.passed o earlier _ known
    (entry-kind c.args.self.now h c.begins_blank.result c.begins_blank.ensures)

fault_is : (c : After-ending_fault) → option_map fault_of c.ending_fault.result
    ≡ ending_fault (extent_by (nat_lt 0 (length c.args.self.now.past.now)))
    (shown_ending c.args.self.now.ending)
fault_is c =
    let more : not c.is_empty.result ≡ nat_lt 0 (length c.args.self.now.past.now) =
    grind (arith, common_steps) in
    rw (← more) c.ending_fault.ensures

pub returns-in-Some-clause-passed : goal.returns-in-Some-clause-passed
returns-in-Some-clause-passed c =
    passed (goal.at.returns-in-Some-clause-passed c).After-take-taken

pub returns-in-Ok-clause-passed : goal.returns-in-Ok-clause-passed
returns-in-Ok-clause-passed c = passed (goal.at.returns-in-Ok-clause-passed c).After-take-taken

pub returns-in-Err-clause-passed : goal.returns-in-Err-clause-passed
returns-in-Err-clause-passed c = passed (goal.at.returns-in-Err-clause-passed c).After-take-taken

pub returns-in-Err-2-clause-passed : goal.returns-in-Err-2-clause-passed
returns-in-Err-2-clause-passed c =
    passed (goal.at.returns-in-Err-2-clause-passed c).After-take-taken

pub returns-in-Some-clause-taken : goal.returns-in-Some-clause-taken
returns-in-Some-clause-taken c = λ o earlier known.
    let at = (goal.at.returns-in-Some-clause-taken c).After-ending_fault in
    stopped-fault c.args.self.now c.requires.scanned o earlier c.fault.result
    (fault_of c.in-Some.code) (sym (fault_is at) ∙ ap (option_map fault_of) c.in-Some.is)
    (c.fault.ensures ∙ ap (fault_in c.args.self.now (fault_of c.in-Some.code) None)
    c.stop_place-place.ensures)

pub returns-in-Ok-clause-taken : goal.returns-in-Ok-clause-taken
returns-in-Ok-clause-taken c = λ o earlier known.
    let at = (goal.at.returns-in-Ok-clause-taken c).After-ending_fault in
    entry-own c.args.self.now c.requires.scanned o earlier c.begins_blank.result
    c.begins_blank.ensures (sym (fault_is at) ∙ ap (option_map fault_of) c.in_default.is) _
    (c.in-Ok.ensures.ok o earlier known)

pub returns-in-Err-2-clause-taken : goal.returns-in-Err-2-clause-taken
returns-in-Err-2-clause-taken c = λ o earlier known.
    let at = (goal.at.returns-in-Err-2-clause-taken c).After-ending_fault in
    let some : c.in-Err-2.blame.code ≢ NoMemory = search rules in
    blamed-fault c.args.self.now c.requires.scanned o earlier c.begins_blank.result
    c.begins_blank.ensures (sym (fault_is at) ∙ ap (option_map fault_of) c.in_default.is)
    c.fault_by.result c.in-Err-2.blame c.fault_by.ensures
    (c.in-Err-2.ensures.err some o earlier known)
