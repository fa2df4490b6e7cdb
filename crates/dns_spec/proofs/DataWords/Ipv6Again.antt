-- An IPv6 address that is written as text is read as that address again.
use Rattle.dns_spec.proofs.Common.{◌≡◌, ℕ, zero, suc, ◌+◌, ◌*◌, ◌%◌, ◌<◌, ◌≤◌, ◌⊎◌, inl, inr, true, false, Some, List, [], ◌∷◌, ◌++◌, length, take, drop, replicate, nat_lt, refl, ◌∙◌, ap, arith, length-drop, cases_Bool, eq-eqb, lt-ltb, ltb-false, length-take-le, if◌then◌else◌, flat_map, bytes_high_first, Octets, ipv6_groups, SaysIpv6, groups_of, groups_text, longest_run, longest_place, ipv6_text}
use Rattle.dns_spec.proofs.DomainNames.SmallOctets.{Small, small_head, small_tail}
use Rattle.dns_spec.proofs.DataWords.GroupsAgain.{Groups, groups_again, no_gap, gap_after}
use Rattle.dns_spec.proofs.DataWords.ZeroRuns.{longest, around_run, run_inside}

pub groups_of-small : (d : Octets) → Small d → Groups (groups_of d)
groups_of-small [] small = tt
groups_of-small (h ∷ []) small = tt
groups_of-small (h ∷ l ∷ d) small =
    let others = small_tail h (l ∷ d) small in (
      omega (arith, small_head h (l ∷ d) small, small_head l d others),
      groups_of-small d (small_tail l d others),
    )

two_octets : (h l : ℕ) → h < 256 → l < 256 → bytes_high_first 2 (256 * h + l) ≡ h ∷ l ∷ []
two_octets h l high low = grind arith

-- the groups of an address give its octets again
octets_again : (d : Octets)
    → length d % 2 ≡ 0 → Small d → flat_map (bytes_high_first 2) (groups_of d) ≡ d
octets_again [] even small = refl
octets_again (h ∷ []) even small = absurd (omega (arith, even))
octets_again (h ∷ l ∷ d) even small =
    let others = small_tail h (l ∷ d) small in
    ap (λ x. x ++ flat_map (bytes_high_first 2) (groups_of d))
    (two_octets h l (small_head h (l ∷ d) small) (small_head l d others))
    ∙ ap (λ x. h ∷ l ∷ x) (octets_again d (omega (arith, even)) (small_tail l d others))

pub groups_taken : (k : ℕ) (gs : List ℕ) → Groups gs → Groups (take k gs)
groups_taken zero gs small = tt
groups_taken (suc k) [] small = tt
groups_taken (suc k) (g ∷ gs) small = (small.0, groups_taken k gs small.1)

pub groups_dropped : (k : ℕ) (gs : List ℕ) → Groups gs → Groups (drop k gs)
groups_dropped zero gs small = small
groups_dropped (suc k) [] small = tt
groups_dropped (suc k) (g ∷ gs) small = groups_dropped k gs small.1

-- eight groups without `::`
whole_again : (gs : List ℕ) → length gs ≡ 8 → Groups gs → ipv6_groups (groups_text gs) ≡ Some gs
unfolding ipv6_groups
whole_again gs eight small = grind (arith, no_gap, groups_again, eq-eqb)

-- groups on both sides of `::`
gap_again : (front back gs : List ℕ) (run : ℕ) → Groups front → Groups back
    → 0 < run → length front + length back + run ≡ 8 → (front ++ replicate run 0) ++ back ≡ gs
    → ipv6_groups (groups_text front ++ 58 ∷ 58 ∷ groups_text back) ≡ Some gs
unfolding ipv6_groups
gap_again front back gs run small small' some eight whole =
    grind (arith, lt-ltb, gap_after, groups_again)

abbrev text_of : List ℕ → Octets
text_of gs =
    if nat_lt (longest_run gs) 2 then groups_text gs
    else groups_text (take (longest_place gs) gs)
    ++ 58 ∷ 58 ∷ groups_text (drop (longest_place gs + longest_run gs) gs)

text_again : (gs : List ℕ) → length gs ≡ 8 → Groups gs → ipv6_groups (text_of gs) ≡ Some gs
text_again gs eight small = by_cases (cases_Bool (nat_lt (longest_run gs) 2))
  where
    by_cases : (nat_lt (longest_run gs) 2 ≡ true) ⊎ (nat_lt (longest_run gs) 2 ≡ false)
        → ipv6_groups (text_of gs) ≡ Some gs
    by_cases (inl short) = rw short (whole_again gs eight small)
    by_cases (inr long) =
        let place = longest_place gs in
        let run = longest_run gs in
        let two : 2 ≤ run = ltb-false run 2 long in
        let r = longest gs (omega (arith, two)) in
        let inside = run_inside gs r in
        let front = length-take-le place gs (omega (arith, inside)) in
        let back = length-drop (place + run) gs in
        rw long
        (gap_again (take place gs) (drop (place + run) gs) gs run
        (groups_taken place gs small) (groups_dropped (place + run) gs small)
        (omega (arith, two)) (omega (arith, front, back, inside, eight)) (around_run gs r))

pub ipv6_said : (d : Octets) → length d ≡ 16 → Small d → SaysIpv6 (ipv6_text d) d
ipv6_said d long small = grind (arith, text_again, groups_of-small, octets_again)
