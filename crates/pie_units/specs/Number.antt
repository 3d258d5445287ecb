-- Units of times, rates, sizes and packets in `tc`: the value of each in nanoseconds, bits per second, bytes or
-- packets.
use Rattle.std.specs.Prelude.{ℕ, ◌-◌, ◌*◌, ◌^◌, ◌||◌, Bool, List, length, take, drop, Option, Some, None, if◌then◌else◌, codes, ◌+◌, ◌/◌, ◌%◌, ◌==◌, ◌&&◌, [], ◌∷◌, ◌++◌, fold, Result, Ok, Err, nat_lt}
use Rattle.std.specs.Str.{str_eq_ignore_ascii_case}
use Rattle.pie_units.specs.declared.number.Quantity.{Quantity}
use Rattle.pie_units.specs.declared.number.Quantity.TheVariants.{Moment, Time, Rate, Size, Packets}
use Rattle.std.specs.Char.{is_ascii_digit}
use Rattle.std.specs.List.{prefix_len}
use Rattle.pie_units.specs.declared.number.UnitFault.{UnitFault}
use Rattle.pie_units.specs.declared.number.UnitFault.TheVariants.{NotANumber, TooPrecise, TooGreat}
use Rattle.std.specs.Result.{result_map_both}
use Rattle.pie_units.specs.declared.options.OptionFault.{OptionFault}
use Rattle.pie_units.specs.declared.options.OptionFault.TheVariants.{Unread, NoRate}

-- true if a text is this word, with letters of any case
unfoldable pub is_word : List ℕ → List ℕ → Bool
is_word word text = str_eq_ignore_ascii_case text word

-- true if a text is one of these words
abbrev pub is_either : List ℕ → List ℕ → List ℕ → Bool
is_either first second text = is_word first text || is_word second text

abbrev pub is_any : List ℕ → List ℕ → List ℕ → List ℕ → Bool
is_any first second third text = is_word first text || is_either second third text

-- the nanoseconds of a unit of time
unfoldable pub time_scale : List ℕ → Option ℕ
time_scale unit =
    if is_any (codes "ns") (codes "nsec") (codes "nsecs") unit then Some 1
    else if is_any (codes "us") (codes "usec") (codes "usecs") unit then Some (10 ^ 3)
    else if is_any (codes "ms") (codes "msec") (codes "msecs") unit then Some (10 ^ 6)
    else if is_any (codes "s") (codes "sec") (codes "secs") unit then Some (10 ^ 9)
    else None

-- the factor of the letters before `bit` or `bps`
unfoldable pub prefix_scale : List ℕ → Option ℕ
prefix_scale prefix =
    if is_word (codes "") prefix then Some 1
    else if is_word (codes "k") prefix then Some (10 ^ 3)
    else if is_word (codes "ki") prefix then Some (2 ^ 10)
    else if is_word (codes "m") prefix then Some (10 ^ 6)
    else if is_word (codes "mi") prefix then Some (2 ^ 20)
    else if is_word (codes "g") prefix then Some (10 ^ 9)
    else if is_word (codes "gi") prefix then Some (2 ^ 30)
    else if is_word (codes "t") prefix then Some (10 ^ 12)
    else if is_word (codes "ti") prefix then Some (2 ^ 40)
    else None

-- the bits per second: 1 for `bit`, and 8 for `bps`, a byte per second
abbrev pub base_scale : List ℕ → Option ℕ
base_scale base = if is_word (codes "bit") base then Some 1 else if is_word (codes "bps") base then Some 8 else None

abbrev pub product : Option ℕ → Option ℕ → Option ℕ
product (Some first) (Some second) = Some (first * second)
product (Some first) None = None
product None second = None

unfoldable pub rate_scale : List ℕ → Option ℕ
rate_scale unit = product (prefix_scale (take (length unit - 3) unit)) (base_scale (drop (length unit - 3) unit))

-- the bytes of a unit of sizes; the bits of a size are multiples of 1024
unfoldable pub size_scale : List ℕ → Option ℕ
size_scale unit =
    if is_either (codes "") (codes "b") unit then Some 1
    else if is_either (codes "k") (codes "kb") unit then Some (2 ^ 10)
    else if is_either (codes "m") (codes "mb") unit then Some (2 ^ 20)
    else if is_either (codes "g") (codes "gb") unit then Some (2 ^ 30)
    else if is_word (codes "kbit") unit then Some (2 ^ 7)
    else if is_word (codes "mbit") unit then Some (2 ^ 17)
    else if is_word (codes "gbit") unit then Some (2 ^ 27)
    else None

-- the packets of a unit of packets
abbrev pub packets_scale : List ℕ → Option ℕ
packets_scale unit = if is_either (codes "") (codes "p") unit then Some 1 else None

-- the nanoseconds of a unit of a moment: a unit of time, minutes or hours; nanoseconds without a unit
abbrev pub moment_scale : List ℕ → Option ℕ
moment_scale unit =
    if is_word (codes "") unit then Some 1
    else if is_word (codes "m") unit then Some (60 * 10 ^ 9)
    else if is_word (codes "h") unit then Some (3600 * 10 ^ 9)
    else time_scale unit

-- the value of a unit of this kind
abbrev pub scale_of : Quantity → List ℕ → Option ℕ
scale_of Moment unit = moment_scale unit
scale_of Time unit = time_scale unit
scale_of Rate unit = rate_scale unit
scale_of Size unit = size_scale unit
scale_of Packets unit = packets_scale unit

-- ---- The value of a number with a unit, such as 1.5ms: a whole number of nanoseconds, bits per second, bytes or packets.

-- the number of digits at the start of a text
unfoldable pub digit_count : List ℕ → ℕ
digit_count text = prefix_len is_ascii_digit text

-- the number of these digits after the number `before`
unfoldable pub number_after : ℕ → List ℕ → ℕ
number_after before digits = fold (λ number digit. number * 10 + (digit - 48)) before digits

-- the digits after a point at the start; empty if there is none
abbrev pub decimals_in : List ℕ → List ℕ
decimals_in [] = []
decimals_in (byte ∷ text) = if byte == 46 then take (digit_count text) text else []

-- the unit after the point and `decimals` decimals
abbrev pub unit_in : ℕ → List ℕ → List ℕ
unit_in decimals text = if decimals == 0 then text else drop (decimals + 1) text

-- the whole number that these parts make, 10^18 for one, if it is whole and at most 2^60 - 1
abbrev pub whole_in : ℕ → Result ℕ UnitFault
whole_in parts =
    if nat_lt ((2 ^ 60 - 1) * 10 ^ 18) parts then Err TooGreat
    else if parts % 10 ^ 18 == 0 then Ok (parts / 10 ^ 18)
    else Err TooPrecise

-- the number with these digits before and after the point, in parts with `places` decimals; missing decimals are zeros
abbrev pub parts_of : ℕ → List ℕ → List ℕ → ℕ
parts_of places whole decimals = number_after 0 (whole ++ decimals ++ take (places - length decimals) (codes "000000000000000000"))

-- the value of these digits before and after the point, in a unit of this value; at most 18 decimals are accepted
abbrev pub value_by : List ℕ → List ℕ → Option ℕ → Result ℕ UnitFault
value_by whole decimals None = Err NotANumber
value_by whole decimals (Some scale) =
    if (length whole == 0) && (length decimals == 0) then Err NotANumber
    else if nat_lt 18 (length decimals) then Err TooPrecise
    else whole_in (parts_of 18 whole decimals * scale)

-- the value of these digits followed by this text
abbrev pub value_with : Quantity → List ℕ → List ℕ → Result ℕ UnitFault
value_with kind whole rest = value_by whole (decimals_in rest) (scale_of kind (unit_in (length (decimals_in rest)) rest))

-- the value of a text of this kind
abbrev pub value_of : Quantity → List ℕ → Result ℕ UnitFault
value_of kind text = value_with kind (take (digit_count text) text) (drop (digit_count text) text)

-- ---- Numbers of `tc`'s options, with units.

-- the number of this kind, or the reason why there is none
abbrev pub option_number : Quantity → List ℕ → Result ℕ OptionFault
option_number kind text = result_map_both (λ number. number) (Unread kind) (value_of kind text)

-- the nanoseconds of a text such as `20ms`
abbrev pub time_of : List ℕ → Result ℕ OptionFault
time_of text = option_number Time text

-- the bits per second of a text such as `100mbit`; the rate of a link is above 0
abbrev pub some_rate : Result ℕ OptionFault → Result ℕ OptionFault
some_rate (Ok rate) = if rate == 0 then Err NoRate else Ok rate
some_rate (Err why) = Err why

-- the rate in bits per second of a text such as `100mbit`
abbrev pub rate_of : List ℕ → Result ℕ OptionFault
rate_of text = some_rate (option_number Rate text)

-- the packets of a text such as `1000p` or `1000`
abbrev pub packets_of : List ℕ → Result ℕ OptionFault
packets_of text = option_number Packets text
