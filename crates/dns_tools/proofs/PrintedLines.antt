-- What was printed for a message, a fault or a line is what a run must print.
use Rattle.dns_tools.proofs.Common.{◌≡◌, ◌≢◌, ℕ, ◌≤◌, Bool, false, Option, Some, None, Result, Ok, Err, codes, refl, sym, subst, arith, inr, Octets, Report, IfErr, NoMessage, PrintsOctets, PrintsMessage, UnlessNoMemory, WireFault, Short, ReservedLabel, BadPointer, LongName, BadData, Trailing, NoMemory, Stop, Memory, Source, Sink, source_failures_after, sink_failures_after, ReportedAs, hex_octets, HasReadFront, ReadsFirst, PrintedAs, fault_line}
use Rattle.dns_spec.specs.MessageFaults.{MessageFault}
use Rattle.dns_wire.specs.WireFault.{fault_code}
use Rattle.dns_tools.proofs.CheckedZone.{reported_as}

-- what is printed for octets that are not a message, by their fault
abbrev pub IsFaultReport : WireFault → Report → Type 0
IsFaultReport fault report =
    (fault ≢ NoMemory)
    × (report ≡ record { output = fault_line (fault_code fault); passes = false })

code_within : (fault : WireFault)
    → fault ≢ NoMemory → (1 ≤ fault_code fault) × (fault_code fault ≤ 6)
code_within Short h = (omega arith, omega arith)
code_within ReservedLabel h = (omega arith, omega arith)
code_within BadPointer h = (omega arith, omega arith)
code_within LongName h = (omega arith, omega arith)
code_within BadData h = (omega arith, omega arith)
code_within Trailing h = (omega arith, omega arith)
code_within NoMemory h = absurd (h refl)

fault_prints : (b : Octets) (fault : WireFault) → UnlessNoMemory fault (NoMessage b)
    → UnlessNoMemory fault (MessageFault b (fault_code fault))
    → (report : Report) → IsFaultReport fault report → PrintsOctets b report
fault_prints b fault none first report (other, is) =
    let within = code_within fault other in
    inr (none other, (fault_code fault, first other, within.0, within.1, is))

pub fault_reported : (b : Octets) (fault : WireFault)
    (result : Result Bool Stop) (old new : Option Octets) → UnlessNoMemory fault (NoMessage b)
    → UnlessNoMemory fault (MessageFault b (fault_code fault))
    → ReportedAs (IsFaultReport fault) result old new → ReportedAs (PrintsOctets b) result old new
fault_reported b fault result old new none first =
    reported_as (IsFaultReport fault) (PrintsOctets b) result old new
    (fault_prints b fault none first)

-- a line that is a message
pub line_reported : (m : Option Octets)
    (b : Octets) (result : Result Bool Stop) (old new : Option Octets) → m ≡ Some b
    → ReportedAs (PrintsOctets b) result old new → ReportedAs (PrintsMessage m) result old new
line_reported m b result old new e =
    reported_as (PrintsOctets b) (PrintsMessage m) result old new
    (λ report is. subst (λ m. PrintsMessage m report) (sym e) is)

-- a line that is not a message
pub bad_hex : (m : Option Octets)
    → m ≡ None → PrintsMessage m (record { output = codes "bad hex\n"; passes = false })
bad_hex m e = grind (arith, PrintsMessage, codes)

-- A run.

pub kept_source : (n m : ℕ) (result : Result Bool Stop)
    → m ≡ n → IfErr result (λ stop. stop ≢ Source) → m ≡ source_failures_after n result
kept_source n m (Ok passes) e h = e
kept_source n m (Err Memory) e h = e
kept_source n m (Err Source) e h = absurd (h refl)
kept_source n m (Err Sink) e h = e

pub handed_sink : (n : ℕ) (stop : Stop)
    → stop ≢ Sink → n ≡ sink_failures_after {A = Bool} n (Err stop)
handed_sink n Memory h = refl
handed_sink n Source h = refl
handed_sink n Sink h = absurd (h refl)

pub handed_printed : (a b x : Option Octets) (stop : Stop)
    → stop ≢ Sink → (stop ≡ Source → HasReadFront a b)
    → PrintedAs (record { unread = a; left = b; held = x; holds = x }) (Err stop)
handed_printed a b x Memory h front = refl
handed_printed a b x Source h front = (front refl, refl)
handed_printed a b x Sink h front = absurd (h refl)

pub line_printed : (a b x y : Option Octets) (l : Octets) (result : Result Bool Stop) → ReadsFirst
    a b l → IfErr result (λ stop. stop ≢ Source) → ReportedAs (PrintsMessage (hex_octets l))
    result x y → PrintedAs (record { unread = a; left = b; held = x; holds = y }) result
line_printed a b x y l (Ok passes) r h w = grind (arith, ReportedAs, PrintsMessage)
line_printed a b x y l (Err Sink) r h w = grind (arith, ReportedAs, PrintsMessage)
line_printed a b x y l (Err Memory) r h w = w
line_printed a b x y l (Err Source) r h w = absurd (h refl)
