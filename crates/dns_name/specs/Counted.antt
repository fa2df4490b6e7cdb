-- A device with the number of its failed calls, and what a call and a whole text do to it.
use Rattle.std.specs.Prelude.{◌≡◌, ℕ, ◌+◌, ◌≤◌, List, ◌++◌, length, take, Result, OnOk, OnErr, is_ok, if◌then◌else◌, Option}
use Rattle.std.specs.Borrow.{Bor}
use Rattle.std.specs.List.{flat_map}
use Rattle.std.specs.Io.KnownBytes.{Appends}

-- a reader or a writer, and how many of its calls have failed
pub record Counted (T : Type 0) : Type 0 where
  pub device : T
  pub failures : ℕ

-- the count after a call: one more if and only if the call failed
abbrev pub failures_after : {A E : Type 0} → ℕ → Result A E → ℕ
failures_after count outcome = if is_ok outcome then count else count + 1

-- the borrowed texts, joined in order
abbrev pub joined : List (Bor (List ℕ)) → List ℕ
joined = flat_map (λ part. part.now)

-- the device's bytes, if they are known, grew by a prefix of the text, which may be empty or the
-- whole text
abbrev pub AppendsBeginning : Option (List ℕ) → Option (List ℕ) → List ℕ → Type 0
AppendsBeginning old new text = (n : ℕ) × (n ≤ length text) × Appends old new (take n text)

-- The effect of a call that writes a text to a counted device; `contents` gives the octets of the
-- device, if they are known. Either the call returns Ok, and the whole text was written. Or it
-- returns an error, a prefix of the text was written, and one more failure is counted.
pub record Writes {W A E : Type 0} (contents : W → Option (List ℕ)) (old new : Counted W)
    (result : Result A E) (text : List ℕ) : Type 0 where
  pub ok : OnOk result (Appends (contents old.device) (contents new.device) text)
  pub err : OnErr result (AppendsBeginning (contents old.device) (contents new.device) text)
  pub counted : new.failures ≡ failures_after old.failures result

-- the device's bytes, if they are known, grew by a whole text except its end `held`, which is still
-- in a buffer
pub record AppendsAllBut (old new : Option (List ℕ)) (whole held : List ℕ) : Type 0 where
  pub done : List ℕ
  pub appended : Appends old new done
  pub whole_is : done ++ held ≡ whole

-- The effect of a call that adds a text to a buffer, which is written when it is full. `whole` is
-- the text held before, followed by the added text. Either the call returns Ok, and all of `whole`
-- was written except its end `held`. Or it returns an error, a prefix of `whole` was written, and
-- one more failure is counted.
pub record Fills {W A E : Type 0} (contents : W → Option (List ℕ)) (old new : Counted W)
    (result : Result A E) (whole held : List ℕ) : Type 0 where
  pub ok : OnOk result (AppendsAllBut (contents old.device) (contents new.device) whole held)
  pub err : OnErr result (AppendsBeginning (contents old.device) (contents new.device) whole)
  pub counted : new.failures ≡ failures_after old.failures result
