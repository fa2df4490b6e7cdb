-- The programs' options, as `clap` commands.
use Rattle.std.specs.Prelude.{Some, true, codes}
use Rattle.dns_spec.specs.Names.{Octets}
use Rattle.clap.specs.Walk.{Rule}
use Rattle.clap.specs.Simple.{App, new_app, new_rule, on_top, with_rule}
use Rattle.clap.specs.declared.builder.action.ArgAction.TheVariants.{SetTrue}

-- the option of this name, which takes no value
abbrev pub option_rule : Octets → Rule
option_rule name = record (new_rule name) { long = Some name; action = Some SetTrue }

-- a command that takes nothing
abbrev pub bare_app : Octets → App
bare_app name = on_top (λ s. record s {
  no_binary_name = true;
  disable_help_flag = true;
  disable_version_flag = true;
}) (new_app name)

-- `[--tcp]`
abbrev pub once_app : App
once_app = with_rule (bare_app (codes "once")) (option_rule (codes "tcp"))

-- `[--quiet] [--print]`
abbrev pub check_app : App
check_app = with_rule (with_rule (bare_app (codes "zonecheck")) (option_rule (codes "quiet")))
    (option_rule (codes "print"))
