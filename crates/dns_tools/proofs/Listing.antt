-- The list of faults is written as the definitions have it.
use Rattle.dns_tools.proofs.Common.{◌≡◌, ℕ, ◌+◌, ◌<◌, ◌==◌, ◌&&◌, Bool, true, false, List, [], ◌∷◌, ◌++◌, length, take, drop, get_or, ne_eqb, refl, sym, ap, ◌∙◌, arith, codes, flat_map, filter, append_assoc, length-append, drop-cons, add-one, if◌then◌else◌, Octets, DomainName, folded, ResourceRecord, zone_of, Fault, Report, fault_report, two_digits, fault_code, faults, Option, Some, Counted, Appends-nil, Appends, AppendsBeginning, ZoneContents, Result, Ok, IsErrAnd, Stop, Sink, ReportedAs, GivesMeaning, IsRead, records, false≢true, subst, map, cond, vec_len, length-map, AllFaults, EntryFault, ListsFaults, is_lasting, listing, entry_report, more_report, number_text, position_text, zone_faults, most_listed, ListedAs, list_report}
use Rattle.std.proofs.lemmas.List.Folds.{flat_map-map}
use Rattle.dns_spec.specs.Meaning.{Means}
use Rattle.dns_spec.proofs.ZoneTexts.NoFault.{no_fault}
use Rattle.dns_tools.proofs.CheckedZone.{reported_as, report_begun}
use Rattle.dns_tools.proofs.LineParts.{IsLeft}
use Rattle.dns_master.specs.FaultListForm.{IsList, ListsText, ReadsOctets}
use Rattle.dns_master.specs.ListingForm.{shown_fault}
use Rattle.dns_master.specs.declared.scanned.EntryFault as code
use Rattle.dns_master.specs.declared.listing.FaultList.{FaultList}
use Rattle.dns_zone.specs.FaultForm.{fault_of, faults_of, zone_in, faults_in}
use Rattle.dns_zone.specs.declared.build_fault.CheckFault.{CheckFault}
use Rattle.dns_zone.specs.declared.build_fault.CheckFaults.{CheckFaults}

-- the line for a fault of a list
abbrev pub fault_line : Octets → code.EntryFault → Octets
fault_line text fault = entry_report text (shown_fault fault)

-- the line after the last listed fault, if there are more
abbrev pub more_line : FaultList → Octets
more_line list = if list.has_more then codes "more\n" else []

-- the line of the next fault, and the lines after it
pub next_fault : (text : Octets) (list : FaultList) (xs : List code.EntryFault) (i : ℕ)
    (f : code.EntryFault) → xs ≡ list.faults.items → i < length xs
    → flat_map (fault_line text) (drop i list.faults.items) ++ more_line list
    ≡ fault_line text (get_or xs i f)
    ++ (flat_map (fault_line text) (drop (i + 1) list.faults.items) ++ more_line list)
next_fault text list xs i f is less =
    rw (← is, drop-cons xs i f, add-one) (append_assoc (fault_line text (get_or xs i f)) _ _)

-- the lines of a list
pub list_written : (text : Octets) (list : FaultList) (found : List EntryFault) → IsList list found
    → list_report text list ≡ flat_map (entry_report text) (take most_listed found)
    ++ more_report found
list_written text list found is =
    rw (← is.faults, is.more, flat_map-map (entry_report text) shown_fault list.faults.items) refl

-- the report for these faults
abbrev pub report_for : DomainName → Octets → List EntryFault → List ResourceRecord → Report
report_for o text found rs =
    record {
      output = listing o text found rs;
      passes = length (listing o text found rs) == 0;
    }

pub is_list : (o : DomainName) (text : Octets) (found : List EntryFault) (rs : List ResourceRecord)
    → AllFaults (folded o) text found rs → ListsFaults o text (report_for o text found rs)
is_list o text found rs are = (found, (rs, are, refl))

-- nothing is written yet
pub all_left : {V : Type 0} (contents : V → Option Octets) (old : Counted V) (whole : Octets)
    → IsLeft contents old old whole whole
all_left contents old whole = record {
  written = record { done = []; appended = Appends-nil _; whole_is = refl };
  counted = refl;
}

-- the line for a fault of a zone
abbrev pub check_line : CheckFaults → CheckFault → Octets
check_line zone fault = fault_report (fault_of (zone_in zone) fault)

-- the line of the next fault of a zone, and the lines after it
pub next_check : (line : CheckFault → Octets) (items xs : List CheckFault) (i : ℕ) (f : CheckFault)
    → xs ≡ items → i < length xs → flat_map line (drop i items)
    ≡ line (get_or xs i f) ++ flat_map line (drop (i + 1) items)
next_check line items xs i f is less = rw (← is, drop-cons xs i f, add-one) refl

-- no line for a fault of a zone is written yet
pub all_checked : {V : Type 0} (contents : V → Option Octets) (old : Counted V)
    (zone : CheckFaults) → IsLeft contents old old (flat_map fault_report (faults_in zone))
    (flat_map (check_line zone) zone.found.items)
all_checked contents old zone =
    rw (flat_map-map fault_report (fault_of (zone_in zone)) zone.found.items)
    (all_left contents old _)

pub faults_count : (zone : CheckFaults) → vec_len zone.found ≡ length (faults_in zone)
faults_count zone =
    omega (arith, zone.found.ok.0, length-map zone.found.items (fault_of (zone_in zone)))

-- the faults that last
pub lasting_faults : (z : ZoneContents) (fs : List CheckFault)
    → faults_of z (filter (λ (f : CheckFault). is_lasting f.code) fs)
    ≡ filter (λ (g : Fault). is_lasting g.code) (faults_of z fs)
lasting_faults z [] = refl
lasting_faults z (f ∷ fs) = go (is_lasting f.code) (lasting_faults z fs)
  where
    go : (b : Bool) → faults_of z (filter (λ (f : CheckFault). is_lasting f.code) fs)
        ≡ filter (λ (g : Fault). is_lasting g.code) (faults_of z fs)
        → faults_of z (cond b (f ∷ filter (λ (f : CheckFault). is_lasting f.code) fs)
        (filter (λ (f : CheckFault). is_lasting f.code) fs))
        ≡ cond b (fault_of z f ∷ filter (λ (g : Fault). is_lasting g.code) (faults_of z fs))
        (filter (λ (g : Fault). is_lasting g.code) (faults_of z fs))
    go true e = ap (λ gs. fault_of z f ∷ gs) e
    go false e = e

not_empty : {A : Type 0} (xs : List A) → 0 < length xs → (length xs == 0) ≡ false
not_empty xs some = ne_eqb (length xs) 0 (λ e. absurd (omega arith))

more_octets : (a b : Octets) → 0 < length a → 0 < length (a ++ b)
more_octets a b some = rw length-append (omega arith)

ended : (a : Octets) (x : ℕ) → 0 < length (a ++ x ∷ [])
ended a x = rw length-append (omega arith)

-- the lines of faults of a zone are empty if and only if there is none
zone_passes : (found : List Fault)
    → (length (flat_map fault_report found) == 0) ≡ (length found == 0)
zone_passes [] = refl
zone_passes (f ∷ found) = grind (arith, length-append)

-- a list is empty if and only if there is no fault
listing_passes : (o : DomainName) (text : Octets) (found : List EntryFault)
    (rs : List ResourceRecord) → (length (listing o text found rs) == 0)
    ≡ ((length found == 0) && (length (zone_faults found (zone_of o rs)) == 0))
listing_passes o text [] rs = zone_passes (faults (zone_of o rs))
listing_passes o text (f ∷ found) rs =
    rw (not_empty (f ∷ found) (omega arith))
    (not_empty (listing o text (f ∷ found) rs)
    (more_octets _ _ (more_octets _ _ (more_octets (entry_report text f) _
    (ended (position_text text f.place.begins ++ codes "-" ++ position_text text f.place.ends
    ++ codes " R" ++ two_digits (fault_code f.fault) ++ number_text f.number) 10)))))

none_listed : (items : List code.EntryFault) (found : List EntryFault)
    → map shown_fault items ≡ take most_listed found → (length items == 0) ≡ (length found == 0)
none_listed [] [] e = refl
none_listed (x ∷ items) [] e = absurd (cc)
none_listed [] (f ∷ found) e = absurd (cc)
none_listed (x ∷ items) (f ∷ found) e = grind arith

-- beside no fault of the file, all faults of the zone are listed; else those that last
pub all_listed : (found : List EntryFault) (z : ZoneContents) (list : FaultList)
    → IsList list found → (length list.faults.items == 0) ≡ true → faults z ≡ zone_faults found z
all_listed [] z list is e = refl
all_listed (f ∷ found) z list is e =
    absurd (false≢true (sym (not_empty (f ∷ found) (omega arith))
    ∙ sym (none_listed list.faults.items (f ∷ found) is.faults) ∙ e))

pub lasting_listed : (found : List EntryFault) (z : ZoneContents) (list : FaultList)
    → IsList list found → (length list.faults.items == 0) ≡ false
    → filter (λ (g : Fault). is_lasting g.code) (faults z) ≡ zone_faults found z
lasting_listed [] z list is e =
    absurd (false≢true (sym e ∙ none_listed list.faults.items [] is.faults))
lasting_listed (f ∷ found) z list is e = refl

-- the list of a file's faults, and those of its zone that are listed
pub record IsFileList (o : DomainName) (text : Octets) (list : FaultList)
    (zone : List Fault) : Type 0 where
  pub found : List EntryFault
  pub given : List ResourceRecord
  pub are : AllFaults (folded o) text found given
  pub is : IsList list found
  pub zone_is : zone ≡ zone_faults found (zone_of o given)

pub file_list : (o o' : DomainName) (text : Octets) (list : FaultList)
    (before after : List ResourceRecord) (all zone : List Fault) → o' ≡ folded o → before ≡ []
    → ListsText o' text list before after → all ≡ faults (zone_of o after)
    → ((found : List EntryFault) (z : ZoneContents) → IsList list found → all ≡ faults z
    → zone ≡ zone_faults found z) → IsFileList o text list zone
file_list o o' text list before after all zone name none lists are listed = record {
  found = lists.found;
  given = lists.given;
  are = subst (λ n. AllFaults n text lists.found lists.given) name lists.are;
  is = lists.listed;
  zone_is = listed lists.found (zone_of o lists.given) lists.listed
      (are ∙ ap (λ (rs : List ResourceRecord). faults (zone_of o rs))
      (lists.grown ∙ ap (λ rs. rs ++ lists.given) none));
}

file_text : {o : DomainName} {text : Octets} {list : FaultList} {zone : List Fault}
    (l : IsFileList o text list zone) → list_report text list ++ flat_map fault_report zone
    ≡ listing o text l.found l.given
file_text {text = text} {list} l = rw (l.zone_is, list_written text list l.found l.is) refl

-- a prefix of the list of a file was written
pub file_begun : (old new : Option Octets) {o : DomainName} {text : Octets} {list : FaultList}
    {zone : List Fault} (result : Result Bool Stop) → IsFileList o text list zone
    → IsErrAnd result (λ stop. stop ≡ Sink)
    → AppendsBeginning old new (list_report text list ++ flat_map fault_report zone)
    → ReportedAs (ListsFaults o text) result old new
file_begun old new {o} {text} result l failed begun =
    report_begun (ListsFaults o text) (report_for o text l.found l.given) result old new failed
    (is_list o text l.found l.given l.are)
    (subst (λ t. AppendsBeginning old new t) (file_text l) begun)

-- the list of a file was written
pub file_listed : (old new : Option Octets) {o : DomainName} {text : Octets} {list : FaultList}
    {zone : List Fault} (passes : Bool) → IsFileList o text list zone
    → passes ≡ ((length list.faults.items == 0) && (length zone == 0))
    → Appends old new (list_report text list ++ flat_map fault_report zone)
    → ReportedAs (ListsFaults o text) (Ok passes) old new
file_listed old new {o} {text} {list} passes l is written = (
  report_for o text l.found l.given,
  is_list o text l.found l.given l.are,
  (
    listing_passes o text l.found l.given
        ∙ sym (is ∙ cc (none_listed list.faults.items l.found l.is.faults, l.zone_is)),
    subst (λ t. Appends old new t) (file_text l) written,
  ),
)

-- what holds of the list of the octets that were read
pub octets_listed : (known left : Option Octets) (o : DomainName) (text : Octets)
    (result : Result Bool Stop) (old new : Option Octets) → ReadsOctets known left text
    → ReportedAs (ListsFaults o text) result old new → ListedAs known left o result old new
octets_listed known left o text result old new read =
    reported_as (ListsFaults o text)
    (λ report. (text : Octets) × ReadsOctets known left text × ListsFaults o text report)
    result old new (λ report lists. (text, read, lists))

-- records that were read are those of a text without a faulty entry
pub none_faulty : {known left : Option Octets} (o : DomainName) {o' : DomainName} (text : Octets)
    {rs : List ResourceRecord} → known ≡ Some text → o' ≡ folded o
    → IsRead known left o' (records rs) → AllFaults (folded o) text [] rs
none_faulty o {o'} text {rs} is name read =
    no_fault (folded o) text rs
    (subst (λ n. Means n text (records rs)) name
    (subst (λ k. GivesMeaning k o' (records rs)) is read.means))

-- whether a zone has no fault
pub zone_empty : (found items : List Fault) (n : ℕ) (passes : Bool) → items ≡ found
    → n ≡ length items → passes ≡ (n == 0) → (length (flat_map fault_report found) == 0) ≡ passes
zone_empty found items n passes are count is = cc (zone_passes found)

-- whether two lists are empty
pub first_empty : (n m : ℕ) {a b r : Bool} → a ≡ (n == 0) → a ≡ true → b ≡ (m == 0) → r ≡ b
    → r ≡ ((n == 0) && (m == 0))
first_empty n m e is e' r = rw (r, e', ← e, is) refl

pub first_full : (n m : ℕ) {a r : Bool} → a ≡ (n == 0) → a ≡ false → r ≡ a
    → r ≡ ((n == 0) && (m == 0))
first_full n m e is r = rw (r, ← e, is) refl
