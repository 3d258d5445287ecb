-- `pie params`: the values of its options, and the opening that they request.
use Rattle.std.specs.Prelude.{ℕ, ◌≡◌, ◌<◌, ◌≤◌, ◌^◌, ◌⊎◌, ◌||◌, List, Option, Some, None, Result, Ok, codes, if◌then◌else◌}
use Rattle.std.specs.Str.{bytes_eq}
use Rattle.clap.specs.Words.{Row, Text, first_of}
use Rattle.pie_event.specs.declared.opening.Opening.{Opening}
use Rattle.pie_params.specs.Params.{IsInRange}
use Rattle.pie_units.specs.Opening.{overhead_of, default_packets, elements_for, gain_of, opening_for, params_for}
use Rattle.pie_units.specs.declared.layer.Layer.{Layer}
use Rattle.pie_units.specs.declared.layer.LinkLayer.{LinkLayer}
use Rattle.pie_units.specs.declared.layer.LinkLayer.TheVariants.{Atm, Ethernet}
use Rattle.pie_units.specs.declared.layer.Overhead.TheVariants.{Added}
use Rattle.pie_units.specs.declared.options.TuningOptions.{TuningOptions}
use Rattle.pie_units.specs.declared.options.OptionFault.{OptionFault}
use Rattle.pie_units.specs.declared.number.Quantity.{Quantity}
use Rattle.pie_units.specs.declared.number.Quantity.TheVariants.{Packets, Rate}
use Rattle.pie_units.specs.Number.{packets_of, rate_of, time_of}
use Rattle.pie_commands.specs.Values.{flag_given, number_or}
use Rattle.pie_commands.specs.Storms.{decay_in}

-- the value that an option's text gives, or `unnamed` if the option isn't given
abbrev pub given_or : {A : Type 0} → (Text → Result A OptionFault) → A → Option Text → Result A OptionFault
given_or reads unnamed None = Ok unnamed
given_or reads unnamed (Some text) = reads text

-- the number of a text of this kind: packets, a rate or a time
abbrev pub number_by : Quantity → Text → Result ℕ OptionFault
number_by Rate = rate_of
number_by Packets = packets_of
number_by _ = time_of

-- the link layer of this name, or Ethernet without a name
abbrev pub link_layer_by : Option Text → Option LinkLayer
link_layer_by None = Some Ethernet
link_layer_by (Some name) =
    if bytes_eq name (codes "ethernet") then Some Ethernet
    else if bytes_eq name (codes "atm") || bytes_eq name (codes "adsl") then Some Atm
    else None

-- the layer is that of the options of `tc stab`
pub record AsksForLayer (options : List Row) (layer : Layer) : Type 0 where
  pub overhead : given_or overhead_of (Added 0) (first_of (codes "overhead") options) ≡ Ok layer.overhead
  pub mpu : layer.mpu ≡ number_or (codes "mpu") 0 65535 0 options
  pub format : link_layer_by (first_of (codes "linklayer") options) ≡ Some layer.format

-- these are the values of all options
pub record AsksFor (options : List Row) (asked : TuningOptions) : Type 0 where
  pub rate : given_or rate_of 0 (first_of (codes "rate") options) ≡ Ok asked.rate
  pub target : given_or time_of 15_000_000 (first_of (codes "target") options) ≡ Ok asked.target
  pub t_update : given_or time_of 15_000_000 (first_of (codes "tupdate") options) ≡ Ok asked.t_update
  pub packets : given_or packets_of (default_packets asked.rate) (first_of (codes "limit") options) ≡ Ok asked.packets
  pub alpha : asked.alpha ≡ gain_of (number_or (codes "alpha") 0 32 2 options)
  pub beta : asked.beta ≡ gain_of (number_or (codes "beta") 0 32 20 options)
  pub ecn : asked.ecn ≡ flag_given (codes "ecn") options
  pub dq_rate_estimator : asked.dq_rate_estimator ≡ flag_given (codes "dq_rate_estimator") options
  pub bytemode : asked.bytemode ≡ flag_given (codes "bytemode") options
  pub mtu : asked.mtu ≡ number_or (codes "mtu") 1 65535 1514 options
  pub no_derandomization : asked.no_derandomization ≡ flag_given (codes "no_derandomization") options
  pub no_cap_drop_adjustment : asked.no_cap_drop_adjustment ≡ flag_given (codes "no_cap_drop_adjustment") options
  pub decay : decay_in options ≡ Some asked.decay
  pub layer : AsksForLayer options asked.layer

-- the record that opens a book with the requested parameters: they are in their ranges, and the limit of packets is 1 to 2^20
pub record IsRequested (options : List Row) (opening : Opening) : Type 0 where
  pub asked : TuningOptions
  pub asks : AsksFor options asked
  pub in_range : IsInRange (params_for asked)
  pub packets : (1 ≤ asked.packets) × (asked.packets ≤ 2 ^ 20)
  pub made : opening ≡ opening_for asked.packets (elements_for asked) (params_for asked)

-- the options request no such record: a number is out of its range, or a text is no valid number of its kind or
-- names no choice
abbrev pub IsOutOfRange : TuningOptions → Type 0
IsOutOfRange asked = (IsInRange (params_for asked) → ⊥) ⊎ (asked.packets ≡ 0) ⊎ (2 ^ 20 < asked.packets)

abbrev pub RefusesParams : List Row → Type 0
RefusesParams options = ((asked : TuningOptions) → AsksFor options asked → ⊥) ⊎ ((asked : TuningOptions) × AsksFor options asked × IsOutOfRange asked)
