-- The opening of a book with `tc`'s options: sizes of packets on a link, parameters, limits and optional elements.
use Rattle.std.specs.Prelude.{ℕ, ◌+◌, ◌-◌, ◌*◌, ◌/◌, ◌%◌, ◌==◌, ◌||◌, List, [], ◌∷◌, Result, Ok, Err, max, length, nat_lt, not, if◌then◌else◌, ◌^◌, Bool, min, ◌&&◌}
use Rattle.std.specs.Result.{result_map_both}
use Rattle.pie_units.specs.Number.{digit_count, number_after}
use Rattle.pie_units.specs.declared.layer.Layer.{Layer}
use Rattle.pie_units.specs.declared.layer.LinkLayer.{LinkLayer}
use Rattle.pie_units.specs.declared.layer.LinkLayer.TheVariants.{Atm, Ethernet}
use Rattle.pie_units.specs.declared.layer.Overhead.{Overhead}
use Rattle.pie_units.specs.declared.layer.Overhead.TheVariants.{Added, Removed}
use Rattle.pie_units.specs.declared.options.OptionFault.{OptionFault}
use Rattle.pie_units.specs.declared.options.OptionFault.TheVariants.{NotBytes}
use Rattle.pie_params.specs.declared.elements.Delay.TheVariants.{Rate, Stamp}
use Rattle.pie_params.specs.declared.elements.Elements.{Elements}
use Rattle.pie_params.specs.declared.elements.Picking.TheVariants.{Derandomized, Random}
use Rattle.pie_params.specs.declared.elements.Size.TheVariants.{Scaled, Unscaled}
use Rattle.pie_params.specs.declared.elements.Step.TheVariants.{Capped, Uncapped}
use Rattle.pie_params.specs.declared.raw.RawParams.{RawParams}
use Rattle.pie_params.specs.Params.{default_profile, profile_for}
use Rattle.pie_event.specs.declared.opening.Profile.TheVariants.{One}
use Rattle.pie_event.specs.declared.opening.Mode.TheVariants.{Rolling}
use Rattle.pie_event.specs.declared.opening.Opening.{Opening}
use Rattle.pie_units.specs.declared.options.TuningOptions.{TuningOptions}

-- ---- Sizes of packets on a link, as `tc stab` computes them.

-- the size of a packet with the overhead
abbrev pub with_overhead : Overhead → ℕ → ℕ
with_overhead (Added bytes) size = size + bytes
with_overhead (Removed bytes) size = size - bytes

-- bytes in the format of the link: ATM sends cells of 53 bytes that carry 48
abbrev pub in_format : LinkLayer → ℕ → ℕ
in_format Ethernet size = size
in_format Atm size = (size + 47) / 48 * 53

-- the entry of the table at this place: the bytes that the greatest of its four sizes takes
abbrev pub entry_at : Layer → ℕ → ℕ
entry_at layer place = in_format layer.format (max (place * 4 + 4) layer.mpu)

-- the bytes for this place of a table of 512 entries; a place after the table is a sum of entries
abbrev pub looked_up : Layer → ℕ → ℕ
looked_up layer place = entry_at layer 511 * (place / 512) + entry_at layer (place % 512)

-- the bytes that a packet takes on the link: without a least size and cells `tc` makes no table
abbrev pub size_by : LinkLayer → Layer → ℕ → ℕ
size_by Ethernet layer taken = if layer.mpu == 0 then max taken 1 else looked_up layer ((taken - 1) / 4)
size_by Atm layer taken = looked_up layer ((taken - 1) / 4)

abbrev pub size_on_link : Layer → ℕ → ℕ
size_on_link layer size = size_by layer.format layer (with_overhead layer.overhead size)

-- the number of at most 65535 that these digits write
abbrev pub bytes_of : List ℕ → Result ℕ OptionFault
bytes_of digits =
    if (length digits == 0) || not (digit_count digits == length digits) then Err NotBytes
    else if nat_lt 65535 (number_after 0 digits) then Err NotBytes
    else Ok (number_after 0 digits)

-- the overhead that a text writes: digits, with a minus sign before them if it is negative
abbrev pub overhead_of : List ℕ → Result Overhead OptionFault
overhead_of [] = Err NotBytes
overhead_of (byte ∷ digits) =
    if byte == 45 then result_map_both Removed (λ why. why) (bytes_of digits)
    else result_map_both Added (λ why. why) (bytes_of (byte ∷ digits))

-- ---- Parameters and elements of `tc`'s options, and the opening of a book with them.

-- a gain of `tc`, which counts sixteenths per second
abbrev pub gain_of : ℕ → ℕ
gain_of gain = gain * 1000 / 16

-- the defaults at the rate, except these: the mean size is the size on the link of a packet of the default mean size, or
-- of the MTU in `bytemode`; and marks may be forbidden
abbrev pub params_for : TuningOptions → RawParams
params_for tuning = record (profile_for tuning.rate) {
  target = tuning.target;
  t_update = tuning.t_update;
  alpha = tuning.alpha;
  beta = tuning.beta;
  mean_pkt = size_on_link tuning.layer (if tuning.bytemode then tuning.mtu else default_profile.mean_pkt);
  mark_ecnth = if tuning.ecn then default_profile.mark_ecnth else 0;
}

-- ---- The limit in packets

-- the limit without an option: 1000 packets without a rate, otherwise packets of 64 bytes with the limit's bytes, at most
-- 2^20
abbrev pub default_packets : ℕ → ℕ
default_packets rate = if rate == 0 then 1000 else min ((profile_for rate).limit_bytes / 64) (2 ^ 20)

-- true if the rate is known, and fewer bytes are in these packets of the MTU than leave in the target and the burst
-- allowance together
abbrev pub drops_bursts : TuningOptions → RawParams → Bool
drops_bursts tuning params =
    nat_lt (tuning.packets * tuning.mtu * 8_000_000_000) (tuning.rate * min (params.target + params.max_burst) (2 ^ 64 - 1))

-- true if the rate is known, and more bits are in these packets of the MTU than leave in a second
abbrev pub is_above_a_second : TuningOptions → Bool
is_above_a_second tuning = not (tuning.rate == 0) && nat_lt tuning.rate (tuning.packets * tuning.mtu * 8)

-- ---- RFC 8033's optional elements

-- the elements of the options: delays from the departure rate if its estimator is chosen, otherwise from time stamps;
-- random picking without de-randomization; no cap if it is switched off; scaled sizes in `bytemode`
abbrev pub elements_for : TuningOptions → Elements
elements_for tuning = record {
  delay = if tuning.dq_rate_estimator then Rate else Stamp;
  picking = if tuning.no_derandomization then Random else Derandomized;
  step = if tuning.no_cap_drop_adjustment then Uncapped else Capped;
  size = if tuning.bytemode then Scaled else Unscaled;
  decay = tuning.decay;
}

-- ---- The estimator of the departure rate

-- true if the estimator is chosen and the rate is known, and half of the bytes in the queue at the target are fewer
-- than a cycle counts
abbrev pub can_stall : TuningOptions → RawParams → Bool
can_stall tuning params =
    tuning.dq_rate_estimator && not (tuning.rate == 0) && nat_lt (tuning.rate * params.target) (params.dq_threshold * 16_000_000_000)

-- ---- The opening

-- a rolling book of profile one at moment 0 with these parameters and elements; its ring and its event log hold
-- `packets` packets and events, and the number of events has the greatest limit
abbrev pub opening_for : ℕ → Elements → RawParams → Opening
opening_for packets elements params = record {
  moment = 0;
  limits = record { packets = packets; tail = packets; events = 2 ^ 47 };
  params = params;
  choices = record { mode = Rolling; profile = One; elements = elements };
}
