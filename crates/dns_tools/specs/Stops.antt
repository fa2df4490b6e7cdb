-- Which device caused a run to stop, by the counts of failures.
use Rattle.std.specs.Prelude.{ℕ, ◌+◌, Result, Err}
use Rattle.dns_tools.specs.declared.stop.Stop.{Stop}
use Rattle.dns_tools.specs.declared.stop.Stop.TheVariants.{Source, Sink}

-- the source's failure count after a run: one more if and only if the run stopped because reading
-- failed
abbrev pub source_failures_after : {A : Type 0} → ℕ → Result A Stop → ℕ
source_failures_after count (Err Source) = count + 1
source_failures_after count result = count

-- the sink's failure count after a run: one more if and only if the run stopped because writing
-- failed
abbrev pub sink_failures_after : {A : Type 0} → ℕ → Result A Stop → ℕ
sink_failures_after count (Err Sink) = count + 1
sink_failures_after count result = count
