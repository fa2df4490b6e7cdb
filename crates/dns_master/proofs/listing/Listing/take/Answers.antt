use Rattle.dns_master.proofs.Common.{subst, sym}
use Rattle.dns_master.specs.ListingForm.{Judges, placed, shown_fault}
use Rattle.dns_master.proofs.ListingLoop.{own-listed, fault-listed}
use Rattle.dns_master.proofs.listing.Listing.take.Goals as goal

pub returns-in_ok-add_last-in-Gives : goal.returns-in_ok-add_last-in-Gives
returns-in_ok-add_last-in-Gives g c = λ o octets past es before so.
    let k = c.args.self.now.earlier in
    let judged = subst (Judges k (placed c.args.entry.now) c.take.new.earlier.last) c.in-Gives.is
    c.in_ok-is_record.ensures.taken in
    own-listed o octets past k c.take.new.earlier _ es _ before _ _ _ so
    (judged o so.earlier so.known)
    (c.take.ensures.passed c.requires o so.earlier so.known)
    c.in_ok-add_last-in-Gives.ensures

pub returns-in_ok-add-in-Faulty : goal.returns-in_ok-add-in-Faulty
returns-in_ok-add-in-Faulty g c = λ o octets past es before so.
    let k = c.args.self.now.earlier in
    let judged = subst (Judges k (placed c.args.entry.now) c.take.new.earlier.last) c.in-Faulty.is
    c.in_ok-is_record.ensures.taken in
    fault-listed o octets past k c.take.new.earlier _ es _ _ before _
    (shown_fault c.in-Faulty.fault) so c.ends_list.result (judged o so.earlier so.known) (sym c.ends_list.ensures)
    (c.take.ensures.passed c.requires o so.earlier so.known)
    (c.in_ok-add-in-Faulty.ensures so.found so.listed)
