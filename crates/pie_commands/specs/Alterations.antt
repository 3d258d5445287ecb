-- `pie what-if`: the alteration that its options choose.
use Rattle.std.specs.Prelude.{ℕ, List, Option, Some, None, Result, codes, is_none, min, option_map, if◌then◌else◌}
use Rattle.std.specs.Option.{option_transpose}
use Rattle.std.specs.Result.{result_ok}
use Rattle.clap.specs.Words.{Row, Text, first_of}
use Rattle.pie_params.specs.Params.{default_profile, first_bad}
use Rattle.pie_units.specs.Opening.{gain_of}
use Rattle.pie_trace.specs.Other.{over}
use Rattle.pie_trace.specs.declared.alteration.Alteration.{Alteration}
use Rattle.pie_trace.specs.declared.other_params.OtherParams.{OtherParams}
use Rattle.pie_units.specs.Number.{time_of}
use Rattle.pie_units.specs.declared.options.OptionFault.{OptionFault}
use Rattle.pie_units.specs.declared.utc.When.{When}
use Rattle.pie_commands.specs.Values.{bound_given, number_given}

-- the gain of an option, from sixteenths to thousandths per second
abbrev pub gain_given : Text → List Row → Option ℕ
gain_given name options = option_map (λ gain. gain_of (min gain 32)) (number_given name options)

-- the time of an option, in nanoseconds, which has a unit
abbrev pub time_given : Text → List Row → Result (Option ℕ) OptionFault
time_given name options = option_transpose (option_map time_of (first_of name options))

-- the parameters in these options, with these times
abbrev pub other_with : Option ℕ → Option ℕ → Option ℕ → List Row → OtherParams
other_with target t_update max_burst options = record {
  target = target;
  t_update = t_update;
  max_burst = max_burst;
  alpha = gain_given (codes "alpha") options;
  beta = gain_given (codes "beta") options;
  mean_pkt = number_given (codes "mean_pkt") options;
  limit_bytes = number_given (codes "limit") options;
  mark_ecnth = number_given (codes "mark_ecnth") options;
  dq_threshold = number_given (codes "dq_threshold") options;
}

-- the alteration, if each parameter is in its range
abbrev pub checked_alteration : When → OtherParams → Option Alteration
checked_alteration from params = if is_none (first_bad (over params default_profile)) then Some (record { from = from; params = params }) else None

-- the alteration of these options, if the moment is given and each time is valid
abbrev pub alteration_at : Option (Option When) → Option (Option ℕ) → Option (Option ℕ) → Option (Option ℕ) → List Row → Option Alteration
alteration_at (Some (Some from)) (Some target) (Some t_update) (Some max_burst) options =
    checked_alteration from (other_with target t_update max_burst options)
alteration_at _ _ _ _ options = None

-- the alteration of these options; none if they are not valid together
unfoldable pub alteration_of : List Row → Option Alteration
alteration_of options = alteration_at (result_ok (bound_given (codes "from") options)) (result_ok (time_given (codes "target") options))
    (result_ok (time_given (codes "tupdate") options)) (result_ok (time_given (codes "max_burst") options)) options
