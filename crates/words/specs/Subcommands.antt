-- The program as `clap` knows it.
--     factor_shape, expand_shape, check_shape, demo_shape      the subcommands, and what each takes
--     declared      the program: one of them is required, and there is no help and no version
use Rattle.std.specs.Prelude.{true, codes, Some}
use Rattle.clap.specs.Walk.{Rule, Text}
use Rattle.clap.specs.Simple.{App, Shape, new_app, new_rule, new_shape, on_top, with_rule, with_subcommand}

abbrev pub option_rule : Text → Rule
option_rule name = record (new_rule name) { long = Some name }

abbrev pub positional_rule : Text → Rule
positional_rule name = record (new_rule name) { required = true }

abbrev pub factor_app : App
factor_app = with_rule (with_rule (new_app (codes "factor")) (option_rule (codes "rounds"))) (option_rule (codes
    "workers"))

abbrev pub demo_app : App
demo_app = with_rule (new_app (codes "demo")) (positional_rule (codes "number"))

abbrev pub without_help : Shape → Shape
without_help s = record s {
  no_binary_name = true;
  disable_help_flag = true;
  disable_help_subcommand = true;
  subcommand_required = true;
}

abbrev pub declared : App
declared = with_subcommand (with_subcommand (with_subcommand (with_subcommand
    (on_top without_help (new_app (codes "hensel_tool")))
    factor_app.top) (new_shape (codes "expand"))) (new_shape (codes "check"))) demo_app.top
