-- Which sets end an answer, after the aliases, and what the header states about it.
use Rattle.std.specs.Prelude.{◌≡◌, ℕ, ◌+◌, Bool, true, false, not, List, [], ◌∷◌, ◌++◌, length}
use Rattle.std.specs.Prelude.{Option, None, Some}
use Rattle.std.specs.Option.{is_some}
use Rattle.std.specs.List.{filter}
use Rattle.dns_spec.specs.Names.{DomainName, at_or_below}
use Rattle.dns_spec.specs.Records.{ZoneContents}
use Rattle.dns_spec.specs.Layout.{Item, answer}
use Rattle.dns_spec.specs.Sets.{RecordSet, records_at}
use Rattle.dns_spec.specs.Answer.{Outcome, positive, main_items, targets_of}
use Rattle.dns_zone.specs.Nodes.{Walk}
use Rattle.dns_wire.specs.QueryForm.{code_of}
use Rattle.dns_answer.specs.OfferedReply as spec
use Rattle.dns_answer.specs.OfferedReply.{offered}
use Rattle.dns_answer.specs.ReplyBuilderForm.{State, Holds, Offers}
use Rattle.dns_answer.specs.Walks.{Took}
use Rattle.dns_answer.specs.Targets.{side_items, side_nodes}
use Rattle.dns_answer.specs.declared.ending.Verdict.{Verdict}

abbrev pub all_names : DomainName → Bool
all_names m = true

abbrev pub inside : DomainName → DomainName → Bool
inside c m = at_or_below m c

abbrev pub not_inside : DomainName → DomainName → Bool
not_inside c m = not (at_or_below m c)

-- the addresses that a referral requires, and all other addresses that are offered
abbrev pub glue_by : ZoneContents → Option DomainName → List DomainName → List Item
glue_by z None ms = []
glue_by z (Some c) ms = side_items z (inside c) [] ms

abbrev pub others_by : ZoneContents → Option DomainName → List DomainName → List Item
others_by z None ms = side_items z all_names [] ms
others_by z (Some c) ms = side_items z (not_inside c) [] ms

-- the targets of an outcome; for a referral, its servers
abbrev pub ending_targets : Outcome → List DomainName
ending_targets o = targets_of (main_items o)

-- the required sets that end an answer, and all sets that end it
abbrev pub ending_required : ZoneContents → Outcome → List Item
ending_required z o = main_items o ++ glue_by z o.referral (ending_targets o)

abbrev pub ending_items : ZoneContents → Outcome → List Item
ending_items z o = ending_required z o ++ others_by z o.referral (ending_targets o)

-- the nodes, and the missing children, on the paths to the targets
abbrev pub nodes_by : ZoneContents → Option DomainName → List DomainName → ℕ
nodes_by z None ms = side_nodes z all_names ms
nodes_by z (Some c) ms = side_nodes z (inside c) ms + side_nodes z (not_inside c) ms

abbrev pub misses_by : Option DomainName → List DomainName → ℕ
misses_by None ms = length (filter all_names ms)
misses_by (Some c) ms = length (filter (inside c) ms) + length (filter (not_inside c) ms)

-- The rest of an answer: its sets, the required ones among them, how it ends, and the most nodes
-- and missing children that it costs.
pub record Rest : Type 0 where
  pub items : List Item
  pub required : List Item
  pub outcome : Outcome
  pub nodes : ℕ
  pub misses : ℕ

-- the rest of an answer when no further name is sought
abbrev pub ending : ZoneContents → Outcome → Rest
ending z o = record {
  items = ending_items z o;
  required = ending_required z o;
  outcome = o;
  nodes = nodes_by z o.referral (ending_targets o);
  misses = misses_by o.referral (ending_targets o);
}

-- The sets of the rest are offered, and the verdict states how the answer ends.
pub record Says (w w' : State) (r : Rest) (v : Verdict) : Type 0 where
  pub offers : Offers w w' r.items
  pub rcode : code_of v.rcode ≡ r.outcome.rcode
  pub referral : v.is_referral ≡ is_some r.outcome.referral
  pub truncated : (d : spec.OfferedReply) → Holds w d → v.is_truncated ≡ (offered d r.required).full

-- The verdict is not a referral, and states whether a set that was offered is missing.
pub record IsPlain (w : State) (code : ℕ) (v : Verdict) : Type 0 where
  pub rcode : code_of v.rcode ≡ code
  pub referral : v.is_referral ≡ false
  pub truncated : v.is_truncated ≡ w.full

abbrev pub Ends : State → State → ZoneContents → Outcome → Verdict → Type 0
Ends w w' z o v = Says w w' (ending z o) v

-- no more was counted than the rest may cost
abbrev pub TookRest : Walk → Walk → Rest → Type 0
TookRest s s' r = Took s s' r.nodes r.misses

abbrev pub TookTargets : Walk → Walk → Outcome → Type 0
TookTargets s s' o = TookRest s s' (ending s.zone o)

-- a set that was asked for, as an answer contains it
abbrev pub asked_item : DomainName → RecordSet → List Item
asked_item n set = record { section = answer; records = records_at n set.ttl set } ∷ []

-- If this set was the last one offered before w, the sets offered from w to w' end an answer with
-- it.
abbrev pub EndsWith : State → State → ZoneContents → RecordSet → Verdict → Type 0
EndsWith w w' z set v =
    (n : DomainName) → (begun : State) → Offers begun w (asked_item n set)
    → Ends begun w' z (positive (asked_item n set)) v

abbrev pub TookWith : Walk → Walk → RecordSet → Type 0
TookWith s s' set = (n : DomainName) → TookTargets s s' (positive (asked_item n set))
