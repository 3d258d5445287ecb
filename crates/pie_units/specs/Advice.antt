-- The opening for a link.
use Rattle.std.specs.Prelude.{false, ℕ, ◌*◌, ◌/◌, ◌^◌, max, min, pos, ◌≡◌, ◌+◌, ◌-◌, ◌<◌, ◌≤◌, ◌||◌, Bool, Option, Some, None, nat_le, nat_lt, not, int_lt, ◌==◌, List, [], ◌∷◌, Result, Ok, Err, if◌then◌else◌, drop, length, take}
use Rattle.pie_event.specs.declared.opening.Opening.{Opening}
use Rattle.pie_params.specs.declared.elements.Decay.TheVariants.{Zero}
use Rattle.pie_units.specs.Opening.{default_packets, elements_for, gain_of, opening_for, params_for}
use Rattle.pie_units.specs.declared.layer.LinkLayer.TheVariants.{Ethernet}
use Rattle.pie_units.specs.declared.options.TuningOptions.{TuningOptions}
use Rattle.pie_units.specs.declared.advising.request.Request.{Request}
use Rattle.std.specs.Int.{div_ceil}
use Rattle.pie_units.specs.declared.advising.numbers.Numbers.{Numbers}
use Rattle.pie_params.specs.declared.raw.RawParams.{RawParams}
use Rattle.pie_units.specs.declared.advising.margin.RangeMargins.{RangeMargins}
use Rattle.pie_units.specs.declared.advising.margin.Margins.{Margins}
use Rattle.pie_units.specs.declared.advising.outlook.Outlook.{Outlook}
use Rattle.pie_units.specs.declared.number.UnitFault.{UnitFault}
use Rattle.pie_units.specs.declared.number.Quantity.{Quantity}
use Rattle.pie_units.specs.Number.{value_of}
use Rattle.pie_units.specs.declared.advising.request.Range.{Range}
use Rattle.pie_units.specs.declared.advising.request.RangeEnd.{RangeEnd}
use Rattle.pie_units.specs.declared.advising.request.RangeEnd.TheVariants.{Both, Least, Greatest}
use Rattle.pie_units.specs.declared.advising.request.RangeFault.{RangeFault}
use Rattle.pie_units.specs.declared.advising.request.RangeFault.TheVariants.{Unread, Reversed}

-- the options of `tc` for a link
abbrev pub tuning_for : Request → TuningOptions
tuning_for request = record {
  rate = request.rate;
  target = 15_000_000;
  t_update = 15_000_000;
  packets = default_packets request.rate;
  alpha = gain_of 2;
  beta = gain_of 20;
  ecn = request.ecn;
  dq_rate_estimator = false;
  bytemode = false;
  mtu = 1514;
  no_derandomization = false;
  no_cap_drop_adjustment = false;
  decay = Zero;
  layer = record { overhead = request.overhead; mpu = 0; format = Ethernet };
}

-- the opening for a link, which `pie params` writes for these options
abbrev pub opening_for_link : Request → Opening
opening_for_link request =
    opening_for (tuning_for request).packets (elements_for (tuning_for request)) (params_for (tuning_for request))

-- The parameters in the units of other queues.

-- the packets of 1514 bytes that contain a limit in bytes
abbrev pub full_packets : ℕ → ℕ
full_packets bytes = div_ceil bytes 1514

-- the same for a field of 16 bits
abbrev pub tail_threshold : ℕ → ℕ
tail_threshold bytes = min (full_packets bytes) 65535

-- the least size of which this number of packets reaches a limit in bytes
abbrev pub packet_bytes : ℕ → ℕ → ℕ
packet_bytes bytes packets = div_ceil bytes (max packets 1)

-- a gain in thousandths per second, in sixteenths for `tc`, rounded down
abbrev pub sixteenths : ℕ → ℕ
sixteenths gain = gain * 2 / 125

-- the parameters of an opening: times in microseconds, a probability in per cent
abbrev pub numbers_for : Opening → Numbers
numbers_for opening = record {
  pie_limit = full_packets opening.params.limit_bytes;
  tail_threshold = tail_threshold opening.params.limit_bytes;
  packet_bytes = packet_bytes opening.params.limit_bytes opening.limits.packets;
  alpha = sixteenths opening.params.alpha;
  beta = sixteenths opening.params.beta;
  target = opening.params.target / 1000;
  t_update = opening.params.t_update / 1000;
  max_burst = opening.params.max_burst / 1000;
  mark_ecnth = opening.params.mark_ecnth / 10 ^ 10;
}

-- What to expect: the mean wait, and the condition of each warning.

-- ---- margins

-- true if a margin is below 0
abbrev pub is_negative : Option Margins → Bool
is_negative (Some least) = int_lt least.phase (pos 0) || int_lt least.gain (pos 0)
is_negative None = false

abbrev pub swings : RangeMargins → Bool
swings margins = is_negative margins.least

-- true if the phase margin is below 10 degrees
abbrev pub is_small : Option Margins → Bool
is_small (Some least) = int_lt least.phase (pos 1000)
is_small None = false

abbrev pub wants_half : RangeMargins → Bool
wants_half margins = is_small margins.least

-- ---- the mean wait

-- true if there may be a single flow
abbrev pub is_single : Request → Bool
is_single request = nat_le request.flows.least 1

-- true if a packet of 1500 bytes of each flow is more than the limit
abbrev pub is_crowded : Request → RawParams → Bool
is_crowded request params = nat_lt params.limit_bytes (request.flows.greatest * 1500)

-- the mean wait is predicted unless one of these holds
abbrev pub has_prediction : Request → RawParams → RangeMargins → Bool
has_prediction request params margins = not (swings margins || margins.is_beyond || is_single request || is_crowded request params)

-- the time of two mean packets at the rate, in nanoseconds, rounded down
abbrev pub two_packets : ℕ → RawParams → ℕ
two_packets rate params = params.mean_pkt * 16_000_000_000 / max rate 1

-- the square of the predicted mean wait: that of the target and that of the time of two mean packets
abbrev pub squared_wait : ℕ → RawParams → ℕ
squared_wait rate params = params.target * params.target + two_packets rate params * two_packets rate params

-- a root is the square root of a number, rounded down
pub record IsRoot (square root : ℕ) : Type 0 where
  pub at_most : root * root ≤ square
  pub next : square < (root + 1) * (root + 1)

-- ---- the limit

-- true if fewer bytes are in the limit than leave in the target and the burst allowance together
abbrev pub drops_bursts : ℕ → RawParams → Bool
drops_bursts rate params = nat_lt (params.limit_bytes * 8_000_000_000) (rate * min (params.target + params.max_burst) (2 ^ 64 - 1))

-- true if more bits are in the limit than leave in a second
abbrev pub is_above_a_second : ℕ → RawParams → Bool
is_above_a_second rate params = nat_lt rate (params.limit_bytes * 8)

-- true if 16 bits do not contain the number of packets of 1514 bytes in the limit
abbrev pub cuts_the_limit : RawParams → Bool
cuts_the_limit params = nat_lt 65535 (full_packets params.limit_bytes)

-- an outlook says what is to be expected of a link with these parameters; its margins are those of a linear model
pub record IsOutlook (request : Request) (params : RawParams) (outlook : Outlook) : Type 0 where
  pub wait : IsRoot (squared_wait request.rate params) outlook.wait
  pub prediction : outlook.has_prediction ≡ has_prediction request params outlook.margins
  pub swings : outlook.swings ≡ swings outlook.margins
  pub half : outlook.wants_half ≡ wants_half outlook.margins
  pub single : outlook.is_single ≡ is_single request
  pub crowded : outlook.is_crowded ≡ is_crowded request params
  pub bursts : outlook.drops_bursts ≡ drops_bursts request.rate params
  pub second : outlook.is_above_a_second ≡ is_above_a_second request.rate params
  pub cut : outlook.cuts_the_limit ≡ cuts_the_limit params

-- Ranges such as `10ms-100ms`.

-- the number of bytes before the first dash
abbrev pub dash_place : List ℕ → ℕ
dash_place [] = 0
dash_place (first ∷ rest) = if first == 45 then 0 else dash_place rest + 1

-- the number of an end, or the fault of its text
abbrev pub end_of : Quantity → RangeEnd → Result ℕ UnitFault → Result ℕ RangeFault
end_of kind end (Ok number) = Ok number
end_of kind end (Err why) = Err (Unread end kind why)

-- the number of an end's text
abbrev pub value_given : Quantity → RangeEnd → List ℕ → Result ℕ RangeFault
value_given kind end text = end_of kind end (value_of kind text)

-- the range with these ends, if they are in order
abbrev pub pair_of : Result ℕ RangeFault → Result ℕ RangeFault → Result Range RangeFault
pair_of (Ok least) (Ok greatest) = if nat_le least greatest then Ok (record { least = least; greatest = greatest }) else Err Reversed
pair_of (Ok least) (Err why) = Err why
pair_of (Err why) greatest = Err why

-- the range of a text: two numbers with a dash between them, or one for both ends
abbrev pub range_in : Quantity → List ℕ → Result Range RangeFault
range_in kind text =
    if dash_place text == length text then pair_of (value_given kind Both text) (value_given kind Both text)
    else pair_of (value_given kind Least (take (dash_place text) text)) (value_given kind Greatest (drop (dash_place text + 1) text))
