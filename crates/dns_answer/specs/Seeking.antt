-- What seeking a name has offered, and what the header states about it.
use Rattle.std.specs.Prelude.{◌≡◌, ◌⊎◌, ℕ, ◌+◌, ◌*◌, ◌-◌, ◌≤◌, ◌<◌, Bool, true, false, ◌&&◌, not, List, [], ◌∷◌, ◌++◌, length, map, reverse, drop, All, if◌then◌else◌}
use Rattle.std.specs.Prelude.{Option, None, Some}
use Rattle.std.specs.Option.{option_and_then}
use Rattle.std.specs.List.{list_any}
use Rattle.dns_spec.specs.Names.{DomainName, folded, same, at_or_below}
use Rattle.dns_spec.specs.Data.{type_cname}
use Rattle.dns_spec.specs.Sets.{RecordSet, set_of}
use Rattle.dns_spec.specs.Records.{ZoneContents, ResourceRecord, of_type}
use Rattle.dns_spec.specs.Answer.{most_aliases, follows_alias, alias_set, has_any, asked_records}
use Rattle.dns_zone.specs.Nodes.{Walk, ZoneNode}
use Rattle.dns_answer.specs.ReplyBuilderForm.{State}
use Rattle.dns_zone.specs.Starts.{IsBelow}
use Rattle.dns_answer.specs.Walks.{IsApex, HasNodesLeft}
use Rattle.dns_answer.specs.Ending.{Says, TookRest}
use Rattle.dns_answer.specs.Targets.{target_at}
use Rattle.dns_answer.specs.Chain.{chain_rest}
use Rattle.dns_answer.specs.declared.ending.Verdict.{Verdict}
use Rattle.dns_answer.specs.declared.chain.Next.{Next}
use Rattle.dns_answer.specs.declared.chain.Next.TheVariants as nexts
use Rattle.dns_zone.specs.declared.tree.sought.Sought.{Sought}

-- the names that were sought, the last one first
abbrev pub names_of : List Sought → List DomainName
names_of ss = reverse (map (λ (s : Sought). s.name) ss)

-- the number of aliases that may still be followed
abbrev pub aliases_left : List DomainName → ℕ
aliases_left before = most_aliases - length before

-- All names sought but the first are targets in lower case: the names before the last one, and the
-- last one.
pub record AreTargets (earlier : List Sought) (s : Sought) : Type 0 where
  pub last : 0 < length earlier → folded s.name ≡ s.name
  pub others : All (λ (e : Sought). folded e.name ≡ e.name) (drop 1 earlier)

-- A name may be sought after `earlier`. The walk may still visit 129 nodes for each alias that may
-- still be followed, and for each of 129 other names.
pub record MaySeek (s : Walk) (top : ZoneNode) (earlier : List Sought) (n : Sought) : Type 0 where
  pub apex : IsApex s.zone top
  pub below : IsBelow n s.zone.origin
  pub lower : AreTargets earlier n
  pub room : HasNodesLeft s (129 * (aliases_left (names_of earlier) + 129))

-- The rest of an answer from the name n on was offered, and its cost counted. The verdict states
-- how the answer for the last name ends.
pub record Seeks (w w' : State) (s s' : Walk) (t : ℕ) (before : List DomainName) (n : DomainName)
    (v : Verdict) : Type 0 where
  pub says : Says w w' (chain_rest s.zone t (aliases_left before) before n) v
  pub took : TookRest s s' (chain_rest s.zone t (aliases_left before) before n)

-- the name is an alias that is followed
abbrev pub leads_on : ZoneContents → ℕ → DomainName → Bool
leads_on z t n = follows_alias t && has_any (alias_set z n)

-- If the answer is a referral, `led` is whether the name is an alias that is followed.
abbrev pub Followed : ZoneContents → ℕ → DomainName → Verdict → Bool → Type 0
Followed z t s v led = v.is_referral ≡ true → led ≡ leads_on z t s

-- The name is the last one sought. If the answer is a referral, the name is not an alias that is
-- followed.
pub record IsLast (w w' : State) (s s' : Walk) (t : ℕ) (before : List DomainName) (n : DomainName)
    (v : Verdict) : Type 0 where
  pub seeks : Seeks w w' s s' t before n v
  pub own : Followed s.zone t n v false

-- seeking m from here on completes the seeking of n, with all that it offers and costs
abbrev pub Completes : State → State → Walk → Walk → ℕ → List DomainName → List DomainName
    → DomainName → DomainName → Type 0
Completes w w' s s' t before before' n m =
    (last : State) (end : Walk) (v : Verdict) → Seeks w' last s' end t before' m v
    → Seeks w last s end t before n v

-- The name n is an alias of m, and m may be sought next.
pub record LeadsTo (w w' : State) (s s' : Walk) (t : ℕ) (top : ZoneNode) (earlier : List Sought)
    (n m : Sought) : Type 0 where
  pub more : length earlier < most_aliases
  pub may : MaySeek s' top (earlier ++ n ∷ []) m
  pub alias : leads_on s.zone t n.name ≡ true
  pub completes : Completes w w' s s' t (names_of earlier) (names_of (earlier ++ n ∷ [])) n.name
      m.name

-- What the result of seeking the name n states: n is the last name sought, or an alias of m.
abbrev pub SoughtAs : State → State → Walk → Walk → ℕ → ZoneNode → List Sought → Sought → Next
    → Type 0
SoughtAs w w' s s' t top earlier n (nexts.Last v) =
    IsLast w w' s s' t (names_of earlier) n.name v
SoughtAs w w' s s' t top earlier n (nexts.Alias m) = LeadsTo w w' s s' t top earlier n m

-- no alias among the records is followed
abbrev pub HasNoAlias : ℕ → List ResourceRecord → Type 0
HasNoAlias t rs = (follows_alias t ≡ false) ⊎ (None ≡ set_of (of_type type_cname rs))

-- The set of records that an answer contains, and whether it is an alias that is followed; an
-- alias that is followed excludes any other set.
abbrev pub IsShown : ℕ → List ResourceRecord → Option (RecordSet × Bool) → Type 0
IsShown t rs None = HasNoAlias t rs × (None ≡ set_of (asked_records t rs))
IsShown t rs (Some (set, true)) =
    (follows_alias t ≡ true) × (Some set ≡ set_of (of_type type_cname rs))
    × (set.rtype ≡ type_cname)
IsShown t rs (Some (set, false)) =
    HasNoAlias t rs × (Some set ≡ set_of (asked_records t rs))

-- a target, if it is at or below the origin and was not sought yet
abbrev pub unsought : DomainName → List DomainName → Option DomainName → Option DomainName
unsought origin sought o =
    option_and_then
    (λ m. if at_or_below m origin && not (list_any (same m) sought) then Some m else None) o

-- The name to seek after an alias, when the names in `sought` were sought already. For `None`, the
-- reason why no name is sought after the alias.
abbrev pub NextIs : DomainName → RecordSet → List DomainName → Option Sought → Type 0
NextIs origin set sought None =
    (most_aliases < length sought) ⊎ (unsought origin sought (target_at 0 set) ≡ None)
NextIs origin set sought (Some m) =
    (length sought ≤ most_aliases) × (unsought origin sought (target_at 0 set) ≡ Some m.name)
    × IsBelow m origin × (folded m.name ≡ m.name)
