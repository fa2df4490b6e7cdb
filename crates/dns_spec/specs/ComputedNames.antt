-- How the name at a place of a message is computed. This file may be skipped: NamesInMessages
-- defines which name is there, and a law states that `name_at` gives that name.
use Rattle.std.specs.Prelude.{ℕ, zero, suc, ◌+◌, ◌&&◌, true, false, [], length, take, drop, nat_lt, nat_le, ◌==◌, slice_get, if◌then◌else◌}
use Rattle.std.specs.Prelude.{Option, None, Some}
use Rattle.std.specs.Option.{option_map, option_and_then}
use Rattle.dns_spec.specs.Names.{Octets, DomainName, is_name, with_label}
use Rattle.dns_spec.specs.NamesInMessages.{pointer_place}

-- RFC 1035 4.1.4: what is at a place in a run of labels: the end of the run, a label of k octets, a
-- pointer to place p, or octets that are not allowed.
pub data RunStep : Type 0 where
  run_end : RunStep
  run_label : ℕ → RunStep
  run_pointer : ℕ → RunStep
  unlawful : RunStep

abbrev pub pointer_step : ℕ → Option ℕ → RunStep
pointer_step o None = unlawful
pointer_step o (Some o') = run_pointer (pointer_place o o')

abbrev pub step_of : Octets → ℕ → Option ℕ → RunStep
step_of b i None = unlawful
step_of b i (Some o) =
    if o == 0 then run_end
    else if nat_lt o 64 then (if nat_le (i + 1 + o) (length b) then run_label o else unlawful)
    else if nat_lt o 192 then unlawful
    else pointer_step o (slice_get b (i + 1))

-- a name, and the place after its own octets
abbrev pub SpelledName : Type 0
SpelledName = DomainName × ℕ

-- What a pointer at place i to place p spells, in a run that began at place s: what the run that
-- begins at p spells. Place p has to be after the header and before s. `earlier` gives what the
-- runs that begin before s spell.
abbrev pub jump : (ℕ → Option SpelledName) → ℕ → ℕ → ℕ → Option SpelledName
jump earlier s i p =
    elim (nat_le 12 p && nat_lt p s) [
      | true ↦ option_map (λ r. (r.0, i + 2)) (earlier p)
      | false ↦ None
    ]

-- What a run that began at place s spells from place i on, in at most r steps. Each step takes at
-- least one octet, so r = `length b` steps always suffice.
unfoldable pub run : (ℕ → Option SpelledName) → Octets → ℕ → ℕ → ℕ → Option SpelledName
run earlier b s zero i = None
run earlier b s (suc r) i =
    elim (step_of b i (slice_get b i)) [
      | run_end ↦ Some ([], i + 1)
      | run_label k ↦ option_map (with_label (take k (drop (i + 1) b)))
          (run earlier b s r (i + 1 + k))
      | run_pointer p ↦ jump earlier s i p
      | unlawful ↦ None
    ]

-- what the run that begins at place p spells, if p is before place k
unfoldable pub runs_before : Octets → ℕ → ℕ → Option SpelledName
runs_before b zero p = None
runs_before b (suc k) p = run (runs_before b k) b p (length b) p

abbrev pub name_if_short : SpelledName → Option SpelledName
name_if_short (n, e) = if is_name n then Some (n, e) else None

-- the name spelled at place i, and the place after it
unfoldable pub name_at : Octets → ℕ → Option SpelledName
name_at b i = option_and_then name_if_short (runs_before b (suc i) i)
