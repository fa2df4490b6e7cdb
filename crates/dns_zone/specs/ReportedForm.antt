-- The order in which faults are reported.
use Rattle.std.specs.Prelude.{Bool, false, List, [], ◌∷◌, ◌++◌, if◌then◌else◌}
use Rattle.dns_spec.specs.Names.{DomainName, folded, same}
use Rattle.dns_spec.specs.Records.{ResourceRecord, ZoneContents}
use Rattle.dns_spec.specs.Checks.{Fault, faults_at}

-- the first record's owner is the name
abbrev pub begins_with_owner : DomainName → List ResourceRecord → Bool
begins_with_owner n [] = false
begins_with_owner n (r ∷ rs) = same r.owner n

-- the owners of records, each once, if the records of each owner are adjacent
abbrev pub owners_once : List ResourceRecord → List DomainName
owners_once [] = []
owners_once (r ∷ rs) = (if begins_with_owner r.owner rs then [] else folded r.owner ∷ [])
    ++ owners_once rs

-- `faults_at`, as a definition that is unfolded only on request
unfoldable pub reported_at : ZoneContents → DomainName → List Fault
reported_at z n = faults_at z n
