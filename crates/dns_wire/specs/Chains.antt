-- How the kept offsets are linked into chains, so that the offsets of one chain are found without
-- looking at those of other chains.
use Rattle.std.specs.Prelude.{◌≡◌, ℕ, zero, suc, ◌<◌, ◌/◌, ◌%◌, List, length, get_or, ◌==◌, if◌then◌else◌}
use Rattle.dns_wire.specs.declared.suffix_offsets.KeptOffset.{KeptOffset}
use Rattle.dns_wire.specs.Kept.{Kept}

abbrev pub kept_in : KeptOffset → Kept
kept_in e = record { offset = e.offset; number = e.number }

-- the chain of the suffixes with this number
abbrev pub chain_of : ℕ → ℕ
chain_of number = number / 2 % 128

-- the entry with k entries before it
abbrev pub entry_at : List KeptOffset → ℕ → KeptOffset
entry_at es k = get_or es k (record { offset = 0; number = 0; next = 0 })

-- the last of the first k entries that is in chain h, counted from 1; 0 if there is none
abbrev pub last_with : ℕ → List KeptOffset → ℕ → ℕ
last_with h es zero = 0
last_with h es (suc k) =
    if chain_of (entry_at es k).number == h then suc k else last_with h es k

-- The head of each chain is its last entry, and each entry's `next` is the previous entry of its
-- chain. Each offset is within the reach of a pointer.
pub record AreChains (heads : List ℕ) (es : List KeptOffset) : Type 0 where
  pub all : length heads ≡ 128
  pub newest : (h : ℕ) → h < 128 → get_or heads h 0 ≡ last_with h es (length es)
  pub linked : (k : ℕ) → k < length es → ((entry_at es k).offset < 16384)
      × ((entry_at es k).next ≡ last_with (chain_of (entry_at es k).number) es k)
