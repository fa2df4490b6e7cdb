-- `name_at` gives the names that the relation `NameAt` relates, and at most one name is at a place.
use Rattle.dns_spec.proofs.Common.{◌≡◌, ℕ, zero, suc, ◌+◌, ◌-◌, ◌<◌, ◌≤◌, ◌↔◌, inl, inr, [], ◌∷◌, length, take, drop, Option, None, Some, slice_get, option_map, option_and_then, refl, sym, ap, ◌∙◌, subst, subst₂, arith, lt-ltb, le-ltb, le-leb, ne_eqb, rules, cases_lt, lt-leb, cond-true, none-some, same_Some, slice_get_past, slice_get_within, some_pair_parts, Octets, DomainName, with_label, ends, goes_on, jumps, pointer_place, RunAt, NameAt, RunStep, run_end, run_label, run_pointer, unlawful, step_of, jump, run, runs_before, name_if_short, name_at}

-- What the step of a run at a place says about the octets there.
abbrev StepAt : Octets → ℕ → RunStep → Type 0
StepAt b i run_end = slice_get b i ≡ Some 0
StepAt b i (run_label k) =
    (slice_get b i ≡ Some k) × (0 < k) × (k < 64) × (i + 1 + k ≤ length b)
StepAt b i (run_pointer p) =
    (o o' : ℕ) × (slice_get b i ≡ Some o) × (192 ≤ o) × (slice_get b (i + 1) ≡ Some o')
    × (p ≡ pointer_place o o')
StepAt b i unlawful = Unit {0}

step_at : (b : Octets) (i : ℕ) → StepAt b i (step_of b i (slice_get b i))
step_at b i = go (slice_get b i) (slice_get b (i + 1)) refl refl
  where
    go : (x y : Option ℕ) → slice_get b i ≡ x → slice_get b (i + 1) ≡ y → StepAt b i (step_of b i x)
    go x y e f = grind arith

-- One step of the computed reader.
module _ (known : ℕ → Option (DomainName × ℕ)) (b : Octets) (s r i : ℕ) where
  abbrev at_step : RunStep → Option (DomainName × ℕ)
  at_step run_end = Some ([], i + 1)
  at_step (run_label k) =
      option_map (with_label (take k (drop (i + 1) b))) (run known b s r (i + 1 + k))
  at_step (run_pointer p) = jump known s i p
  at_step unlawful = None

  step_is : (x : Option ℕ) → slice_get b i ≡ x → run known b s (suc r) i ≡ at_step (step_of b i x)
  unfolding run
  step_is x e = grind arith

  step_missing : slice_get b i ≡ None → run known b s (suc r) i ≡ None
  step_missing e = step_is None e

  step_root : slice_get b i ≡ Some 0 → run known b s (suc r) i ≡ Some ([], i + 1)
  step_root e = step_is (Some 0) e

  step_label : (k : ℕ)
      → slice_get b i ≡ Some k → 0 < k → k < 64 → i + 1 + k ≤ length b → run known b s
      (suc r) i ≡ option_map (with_label (take k (drop (i + 1) b))) (run known b s r (i + 1 + k))
  step_label k e h l w =
      let step : step_of b i (Some k) ≡ run_label k = grind (arith, ne_eqb, lt-ltb, le-leb) in
      step_is (Some k) e ∙ ap at_step step

  step_label_past : (k : ℕ) → slice_get b i ≡ Some k
      → 0 < k → k < 64 → length b < i + 1 + k → run known b s (suc r) i ≡ None
  step_label_past k e h l w =
      let step : step_of b i (Some k) ≡ unlawful = grind (arith, ne_eqb, lt-ltb, lt-leb) in
      step_is (Some k) e ∙ ap at_step step

  step_pointer : (o o' : ℕ) → slice_get b i ≡ Some o → 192 ≤ o → slice_get b (i + 1) ≡ Some o'
      → run known b s (suc r) i ≡ jump known s i (pointer_place o o')
  step_pointer o o' e h f =
      let step : step_of b i (Some o) ≡ run_pointer (pointer_place o o') =
      grind (arith, ne_eqb, le-ltb) in
      step_is (Some o) e ∙ ap at_step step

-- what a pointer to an allowed place gives, and a pointer to any other place
after : ℕ → Option (DomainName × ℕ) → Option (DomainName × ℕ)
after i x = option_map (λ r. (r.0, i + 2)) x

jump_lawful : (known : ℕ → Option (DomainName × ℕ)) (s i p : ℕ)
    → 12 ≤ p → p < s → jump known s i p ≡ after i (known p)
unfolding after
jump_lawful known s i p h l = grind arith

-- A pointer's place is valid, or it is not.
data PlaceFor (s p : ℕ) : Type 0 where
  lawful : 12 ≤ p → p < s → PlaceFor s p
  too_low : p < 12 → PlaceFor s p
  too_high : s ≤ p → PlaceFor s p

place_for : (s p : ℕ) → PlaceFor s p
place_for s p = grind (arith, cases_lt, inl, inr)

-- A run takes at most one step per octet that is left: with at least this number of steps, its
-- result depends neither on the number of steps nor on what is known about runs that begin in the
-- header, at the run's own place or after it.
abbrev Alike : ℕ → (ℕ → Option (DomainName × ℕ)) → (ℕ → Option (DomainName × ℕ)) → Type 0
Alike s known known' = (p : ℕ) → 12 ≤ p → p < s → known p ≡ known' p

past_end : (known : ℕ → Option (DomainName × ℕ)) (b : Octets) (s r i : ℕ)
    → length b ≤ i → run known b s r i ≡ None
unfolding run
past_end known b s r i h = grind (arith, step_missing, slice_get_past)

same_step : (known known' : ℕ → Option (DomainName × ℕ)) (b : Octets) (s r r' i : ℕ)
    → Alike s known known' → ((j : ℕ) → i < j → run known b s r j ≡ run known' b s r' j)
    → (step : RunStep) → at_step known b s r i step ≡ at_step known' b s r' i step
same_step known known' b s r r' i a again run_end = refl
same_step known known' b s r r' i a again (run_label k) = grind arith
same_step known known' b s r r' i a again (run_pointer p) = grind arith
same_step known known' b s r r' i a again unlawful = refl

pub same_run : (known known' : ℕ → Option (DomainName × ℕ)) (b : Octets) (s r r' i : ℕ) → Alike
    s known known' → length b - i ≤ r → length b - i ≤ r' → run known b s r i ≡ run known' b s r' i
same_run known known' b s zero r' i a h h' = grind (arith, past_end, zero)
same_run known known' b s (suc r) zero i a h h' = grind (arith, past_end, zero)
same_run known known' b s (suc r) (suc r') i a h h' =
    step_is known b s r i (slice_get b i) refl
    ∙ same_step known known' b s r r' i a
    (λ j l. same_run known known' b s r r' j a (omega arith) (omega arith))
    (step_of b i (slice_get b i))
    ∙ sym (step_is known' b s r' i (slice_get b i) refl)

-- What the relation relates is computed.
known_is : (b : Octets) (k p : ℕ) → runs_before b (suc k) p ≡ run (runs_before b k) b p (length b) p
unfolding runs_before
known_is b k p = refl

after_some : (i : ℕ) (n : DomainName) (e : ℕ) → after i (Some (n, e)) ≡ Some (n, i + 2)
unfolding after
after_some i n e = refl

complete : {b : Octets} {s i e : ℕ} {n : DomainName} → RunAt b s i n e
    → (k r : ℕ) → s ≤ k → length b - i ≤ r → run (runs_before b k) b s r i ≡ Some (n, e)
complete {b} {s} (ends i e) k zero h l = absurd (omega (arith, slice_get_within b i 0 e))
complete {b} {s} (ends i e) k (suc r) h l = step_root (runs_before b k) b s r i e
complete {b} {s} (goes_on i m w n e at pos low inside is rest) k zero h l = absurd (omega arith)
complete {b} {s} (goes_on i m w n e at pos low inside is rest) k (suc r) h l =
    step_label (runs_before b k) b s r i m at pos low inside
    ∙ ap (option_map (with_label (take m (drop (i + 1) b)))) (complete rest k r h (omega arith))
    ∙ ap (λ x. Some (x ∷ n, e)) (sym is)
complete {b} {s} (jumps i o o' p n e at high at' is from before rest) k zero h l =
    absurd (omega (arith, slice_get_within b i o at))
complete {b} {s} (jumps i o o' p n e at high at' is from before rest) zero (suc r) h l = grind arith
complete {b} {s} (jumps i o o' p n e at high at' is from before rest) (suc k) (suc r) h l =
    step_pointer (runs_before b (suc k)) b s r i o o' at high at'
    ∙ ap (jump (runs_before b (suc k)) s i) (sym is)
    ∙ jump_lawful (runs_before b (suc k)) s i p from before
    ∙ ap (after i) (known_is b k p ∙ complete rest k (length b) (omega arith) (omega arith))
    ∙ after_some i n e

-- What is computed is related.
abbrev Truthful : Octets → (ℕ → Option (DomainName × ℕ)) → Type 0
Truthful b known = (p : ℕ) (n : DomainName) (e : ℕ) → known p ≡ Some (n, e) → RunAt b p p n e

after_parts : (i : ℕ) (x : Option (DomainName × ℕ)) (n : DomainName) (e : ℕ)
    → after i x ≡ Some (n, e) → (d : ℕ) × (x ≡ Some (n, d)) × (i + 2 ≡ e)
unfolding after
after_parts i None n e h = absurd (none-some (n, e) h)
after_parts i (Some (m, d)) n e h =
    let p = some_pair_parts m n (i + 2) e h in (d, ap (λ x. Some (x, d)) p.0, p.1)

sound_jump : (known : ℕ → Option (DomainName × ℕ)) (b : Octets) → Truthful b known
    → (s i p : ℕ) (n : DomainName) (e : ℕ) → StepAt b i (run_pointer p)
    → PlaceFor s p → jump known s i p ≡ Some (n, e) → RunAt b s i n e
unfolding after
sound_jump known b t s i p n e (o, o', at, top, at', place) (lawful from before) is =
    let q = after_parts i (known p) n e (sym (jump_lawful known s i p from before) ∙ is) in
    subst (RunAt b s i n) q.2 (jumps i o o' p n q.0 at top at' place from before (t p n q.0 q.1))
sound_jump known b t s i p n e at (too_low h) is = grind arith
sound_jump known b t s i p n e at (too_high h) is = grind arith

sound_step : (known : ℕ → Option (DomainName × ℕ)) (b : Octets) → Truthful b known → (s r i : ℕ)
    (n : DomainName) (e : ℕ) → ((j : ℕ) (m : DomainName) (d : ℕ) → run known b s r j ≡ Some (m, d)
    → RunAt b s j m d) → (step : RunStep) → StepAt b i step
    → at_step known b s r i step ≡ Some (n, e) → RunAt b s i n e
sound_step known b t s r i n e again run_end at is =
    grind (arith, some_pair_parts, subst₂, RunAt, ends)
sound_step known b t s r i n e again (run_label k) (at, pos, low, inside) is =
    grind (arith, goes_on)
sound_step known b t s r i n e again (run_pointer p) at is = grind (arith, sound_jump)
sound_step known b t s r i n e again unlawful at is = absurd (none-some (n, e) is)

sound_run : (known : ℕ → Option (DomainName × ℕ)) (b : Octets) → Truthful b known
    → (s r i : ℕ) (n : DomainName) (e : ℕ) → run known b s r i ≡ Some (n, e) → RunAt b s i n e
unfolding run
sound_run known b t s zero i n e is = absurd (none-some (n, e) is)
sound_run known b t s (suc r) i n e is =
    sound_step known b t s r i n e (λ j m d h. sound_run known b t s r j m d h)
    (step_of b i (slice_get b i)) (step_at b i)
    (sym (step_is known b s r i (slice_get b i) refl) ∙ is)

sound : (b : Octets) (k : ℕ) → Truthful b (runs_before b k)
unfolding runs_before
sound b zero p n e is = grind (arith, none-some)
sound b (suc k) p n e is = grind (arith, sound_run, (sound b k))

-- the name at a place is the run that begins there, if the run is a valid name
name_at_is : (b : Octets) (i : ℕ)
    → name_at b i ≡ option_and_then name_if_short (run (runs_before b i) b i (length b) i)
unfolding name_at
name_at_is b i = ap (option_and_then name_if_short) (known_is b i i)

pub name_computed :
    (b : Octets) (i : ℕ) (n : DomainName) (e : ℕ) → NameAt b i n e → name_at b i ≡ Some (n, e)
name_computed b i n e h = grind (arith, name_at_is, complete, cond-true)

-- `name_at` computes the relation.
pub name_at_computes : (b : Octets) (i : ℕ) (n : DomainName) (e : ℕ)
    → (name_at b i ≡ Some (n, e)) ↔ NameAt b i n e
name_at_computes b i n e = grind (arith, name_at_is, sound_run, sound, name_computed)

-- At most one name is at a place, and the place after it is unique.
pub one_name : (b : Octets) (i : ℕ) (n m : DomainName) (e f : ℕ)
    → NameAt b i n e → NameAt b i m f → (n ≡ m) × (e ≡ f)
one_name b i n m e f h g = some_pair_parts n m e f (sym (name_computed b i n e h) ∙ name_computed b i m f g)

-- A name at place 12, directly after the header: no place is between the header and the name, so no
-- pointer is valid and the name is read label by label. `run12` gives the labels from place i on,
-- in a run that began at place 12, and the place after them.
unfoldable pub run12 : Octets → ℕ → Option (DomainName × ℕ)
run12 d i = run (λ p. None) d 12 (length d - i) i

-- `run` gives the same with at least `length d - i` steps, whatever is known about other runs
pub run12_is : (known : ℕ → Option (DomainName × ℕ)) (d : Octets) (r i : ℕ)
    → length d - i ≤ r → run12 d i ≡ run known d 12 r i
unfolding run12
run12_is known d r i h = grind (arith, same_run)

none_before : ℕ → Option (DomainName × ℕ)
none_before p = None

module _ (d : Octets) (i : ℕ) where
  run12_suc : run12 d i ≡ run none_before d 12 (suc (length d - i)) i
  run12_suc = run12_is none_before d (suc (length d - i)) i (omega arith)

  -- the octets end here
  pub run12_missing : slice_get d i ≡ None → run12 d i ≡ None
  run12_missing at = run12_suc ∙ step_missing none_before d 12 (length d - i) i at

  -- the root
  pub run12_root : slice_get d i ≡ Some 0 → run12 d i ≡ Some ([], i + 1)
  run12_root at = run12_suc ∙ step_root none_before d 12 (length d - i) i at

  -- a label, and what follows it
  pub run12_label : (k : ℕ) → slice_get d i ≡ Some k → 0 < k → k < 64 → i + 1 + k ≤ length d
      → run12 d i ≡ option_map (with_label (take k (drop (i + 1) d))) (run12 d (i + 1 + k))
  run12_label k at pos low inside =
      run12_suc ∙ step_label none_before d 12 (length d - i) i k at pos low inside
      ∙ ap (option_map (with_label (take k (drop (i + 1) d))))
      (sym (run12_is none_before d (length d - i) (i + 1 + k) (omega arith)))

  -- a label that ends past the octets
  pub run12_label_past : (k : ℕ)
      → slice_get d i ≡ Some k → 0 < k → k < 64 → length d < i + 1 + k → run12 d i ≡ None
  run12_label_past k at pos low past = search (rules, run12_suc, step_label_past)

  jump12 : (p : ℕ) → PlaceFor 12 p → jump none_before 12 i p ≡ None
  jump12 p h = grind arith

  high12 : (o : ℕ) → slice_get d i ≡ Some o → 64 ≤ o → (step : RunStep) → StepAt d i step
      → at_step none_before d 12 (length d - i) i step ≡ None
  high12 o at from run_end e = absurd (omega (arith, same_Some o 0 (sym at ∙ e)))
  high12 o at from (run_label k) e = absurd (omega (arith, same_Some o k (sym at ∙ e.0)))
  high12 o at from (run_pointer p) e = jump12 p (place_for 12 p)
  high12 o at from unlawful e = refl

  -- a reserved octet, or a pointer
  pub run12_high : (o : ℕ) → slice_get d i ≡ Some o → 64 ≤ o → run12 d i ≡ None
  run12_high o at from =
      run12_suc ∙ step_is none_before d 12 (length d - i) i (slice_get d i) refl
      ∙ high12 o at from (step_of d i (slice_get d i)) (step_at d i)

-- so the name at place 12 is read this way
pub name_at_12 : (d : Octets) → name_at d 12 ≡ option_and_then name_if_short (run12 d 12)
name_at_12 d = grind (arith, name_at_is, run12_is)
