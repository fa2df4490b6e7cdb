use Rattle.dns_master.proofs.Common.{rules, ◌≡◌, ◌<◌, ◌≤◌, ◌++◌, ◌∷◌, [], length, refl}
use Rattle.dns_master.proofs.FaultListSteps.{list_grown, list_full}
use Rattle.dns_master.proofs.listing.FaultList.add.Goals as goal

pub returns-in_ok-push : goal.returns-in_ok-push
returns-in_ok-push c = λ found h.
    let few : length c.args.self.now.faults.items < 1000 = search rules in
    let grown : c.push.new.self.items ≡ c.args.self.now.faults.items ++ c.args.fault ∷ [] =
    search rules in
    list_grown c.args.self.now _ found c.args.fault h few grown refl

pub returns-else-len-lt-MOST_LISTED : goal.returns-else-len-lt-MOST_LISTED
returns-else-len-lt-MOST_LISTED c = λ found h.
    let many : 1000 ≤ length c.args.self.now.faults.items = search rules in
    list_full c.args.self.now _ found c.args.fault h many refl refl
