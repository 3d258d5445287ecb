-- `pie advise`: the link that its options describe.
use Rattle.std.specs.Prelude.{ℕ, ◌==◌, List, Bool, Option, Some, None, Result, Ok, Err, codes, if◌then◌else◌, option_and_then}
use Rattle.std.specs.Result.{result_ok}
use Rattle.clap.specs.Words.{Row, Text, first_of}
use Rattle.pie_units.specs.Advice.{range_in}
use Rattle.pie_units.specs.declared.advising.request.Range.{Range}
use Rattle.pie_units.specs.declared.advising.request.Request.{Request}
use Rattle.pie_units.specs.Number.{rate_of}
use Rattle.pie_units.specs.Opening.{overhead_of}
use Rattle.pie_units.specs.declared.layer.Overhead.{Overhead}
use Rattle.pie_units.specs.declared.layer.Overhead.TheVariants.{Added}
use Rattle.pie_units.specs.declared.number.Quantity.{Quantity}
use Rattle.pie_units.specs.declared.number.Quantity.TheVariants.{Packets, Time}
use Rattle.pie_commands.specs.Tuning.{given_or}
use Rattle.pie_commands.specs.Values.{flag_given}

-- the rate of the options
abbrev pub rate_given : List Row → Option ℕ
rate_given options = option_and_then (λ text. result_ok (rate_of text)) (first_of (codes "rate") options)

-- the range of an option of this name
abbrev pub range_given : Text → Quantity → List Row → Option Range
range_given name kind options = option_and_then (λ text. result_ok (range_in kind text)) (first_of name options)

-- the overhead of the options: none without the option
abbrev pub overhead_given : List Row → Option Overhead
overhead_given options = result_ok (given_or overhead_of (Added 0) (first_of (codes "overhead") options))

-- a link with these values, of which each is valid, and with at least one flow
abbrev pub request_with : Option ℕ → Option Range → Option Range → Option Overhead → Bool → Option Request
request_with (Some rate) (Some trips) (Some flows) (Some overhead) ecn =
    if flows.least == 0 then None
    else Some (record { rate = rate; trips = trips; flows = flows; overhead = overhead; ecn = ecn })
request_with (Some rate) (Some trips) (Some flows) None ecn = None
request_with (Some rate) (Some trips) None overhead ecn = None
request_with (Some rate) None flows overhead ecn = None
request_with None trips flows overhead ecn = None

-- the link that the options describe
abbrev pub request_in : List Row → Option Request
request_in options =
    request_with (rate_given options) (range_given (codes "rtt") Time options) (range_given (codes "flows") Packets options) (overhead_given options)
    (flag_given (codes "ecn") options)
