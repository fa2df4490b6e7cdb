-- The number of RRsets of an owner, from one walk over its records ordered by type.
use Rattle.std.specs.Prelude.{ℕ, ◌+◌, Bool, false, List, [], ◌∷◌, ◌==◌, if◌then◌else◌}
use Rattle.dns_spec.specs.Records.{ResourceRecord}

-- the first record is of the type
abbrev pub begins_with_type : ℕ → List ResourceRecord → Bool
begins_with_type t [] = false
begins_with_type t (r ∷ rs) = r.rtype == t

-- the number of records that are the last of their type
abbrev pub sets_ended : List ResourceRecord → ℕ
sets_ended [] = 0
sets_ended (r ∷ rs) = (if begins_with_type r.rtype rs then 0 else 1) + sets_ended rs
