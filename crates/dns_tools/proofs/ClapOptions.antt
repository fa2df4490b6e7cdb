-- What `clap` makes of the options that the programs take.
use Rattle.dns_tools.proofs.Common.{refl, sym, subst, ◌≡◌, ◌∙◌, ap, Bool, true, false, List, Octets, Some, inl, inr, codes, if◌then◌else◌, reverse, Options, AreOptions, option_words, Transport, udp, tcp, Text, one_of, App, HasMatchesOf, is_simple, matches_of, takes, limit_words, check_app, once_app}
use Rattle.clap.specs.Matches.{found_of, one_text}
use Rattle.clap.specs.declared.parser.matches.ArgMatches.{ArgMatches}
use Rattle.clap.proofs.OnLiterals.{clap_on_literals}
use Rattle.clap.proofs.WalkLemmas.{one_text-rows}

-- a flag is read from the text of its value
pub flag_text : Bool → Octets
flag_text is_set = if is_set then codes "true" else codes "false"

pub flag_is : (built app : App) (ws : List Text) (m : ArgMatches) (id : Text) (read is_set : Bool)
    → built ≡ app → HasMatchesOf built ws m → is_simple app ≡ true
    → (one_text (found_of m) id ≡ Some (codes "true") → read ≡ true)
    → (one_text (found_of m) id ≡ Some (codes "false") → read ≡ false)
    → one_of id (matches_of app ws) ≡ Some (flag_text is_set) → read ≡ is_set
unfolding flag_text
flag_is built app ws m id read is_set same has simple is_true is_false e =
    go is_set (one_text-rows (found_of m) id
    ∙ ap (one_of id) (subst (λ a. HasMatchesOf a ws m) same has simple).0 ∙ e)
  where
    go : (b : Bool) → one_text (found_of m) id ≡ Some (flag_text b) → read ≡ b
    go true text = is_true text
    go false text = is_false text

-- the options are taken, and each is set if it is among them
pub record IsRead (ws : List Text) (quiet print : Bool) : Type 0 where
  pub taken : takes check_app ws ≡ true
  pub quiet_is : one_of (codes "quiet") (matches_of check_app ws) ≡ Some (flag_text quiet)
  pub print_is : one_of (codes "print") (matches_of check_app ws) ≡ Some (flag_text print)

as_written : (quiet print : Bool)
    → IsRead (option_words (record { is_quiet = quiet; is_printing = print })) quiet print
unfolding clap_on_literals flag_text
as_written false false = record { taken = refl; quiet_is = refl; print_is = refl }
as_written false true = record { taken = refl; quiet_is = refl; print_is = refl }
as_written true false = record { taken = refl; quiet_is = refl; print_is = refl }
as_written true true = record { taken = refl; quiet_is = refl; print_is = refl }

in_reverse : (quiet print : Bool)
    → IsRead (reverse (option_words (record { is_quiet = quiet; is_printing = print }))) quiet print
unfolding clap_on_literals flag_text
in_reverse false false = record { taken = refl; quiet_is = refl; print_is = refl }
in_reverse false true = record { taken = refl; quiet_is = refl; print_is = refl }
in_reverse true false = record { taken = refl; quiet_is = refl; print_is = refl }
in_reverse true true = record { taken = refl; quiet_is = refl; print_is = refl }

pub check_read : (o : Options) (ws : List Octets) → AreOptions o ws
    → IsRead ws o.is_quiet o.is_printing
check_read o ws (inl e) = subst (λ xs. IsRead xs o.is_quiet o.is_printing) (sym e)
    (as_written o.is_quiet o.is_printing)
check_read o ws (inr e) = subst (λ xs. IsRead xs o.is_quiet o.is_printing) (sym e)
    (in_reverse o.is_quiet o.is_printing)

pub check_simple : is_simple check_app ≡ true
unfolding clap_on_literals
check_simple = refl

pub once_simple : is_simple once_app ≡ true
unfolding clap_on_literals
once_simple = refl

pub once_taken : (t : Transport) → takes once_app (limit_words t) ≡ true
unfolding clap_on_literals
once_taken udp = refl
once_taken tcp = refl

pub once_set : one_of (codes "tcp") (matches_of once_app (limit_words tcp)) ≡ Some (flag_text true)
unfolding clap_on_literals flag_text
once_set = refl
