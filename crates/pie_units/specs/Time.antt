-- Dates, wall-clock times in UTC, moments, and bounds of moments in human-readable form.
use Rattle.std.specs.Prelude.{ℕ, ◌+◌, ◌-◌, ◌*◌, ◌/◌, ◌%◌, ◌==◌, ◌&&◌, ◌||◌, not, nat_lt, Bool, if◌then◌else◌, ◌^◌, min, List, [], ◌++◌, length, take, drop, slice_index, replicate, Option, Some, None, Result, Ok, Err, codes, ◌≡◌}
use Rattle.pie_units.specs.declared.utc.Date.{Date}
use Rattle.std.specs.Fmt.{decimal}
use Rattle.std.specs.Option.{option_and_then}
use Rattle.std.specs.Str.{bytes_eq}
use Rattle.pie_units.specs.declared.utc.Utc.{Utc as Utc}
use Rattle.pie_units.specs.declared.utc.UtcFault.{UtcFault}
use Rattle.pie_units.specs.declared.utc.UtcFault.TheVariants.{NotUtc, OutOfRange}
use Rattle.pie_units.specs.Number.{decimals_in, digit_count, number_after, parts_of, unit_in, value_of}
use Rattle.std.specs.Result.{result_map_both}
use Rattle.pie_units.specs.declared.utc.Moment.{Moment as Moment}
use Rattle.pie_units.specs.declared.utc.MomentFault.{MomentFault}
use Rattle.pie_units.specs.declared.utc.MomentFault.TheVariants.{NotAMoment, TooFine, TooLate}
use Rattle.pie_units.specs.declared.number.Quantity.TheVariants.{Moment as AMoment}
use Rattle.pie_units.specs.declared.number.UnitFault.{UnitFault}
use Rattle.pie_units.specs.declared.number.UnitFault.TheVariants.{NotANumber, TooPrecise, TooGreat}
use Rattle.pie_units.specs.declared.utc.When.{When}
use Rattle.pie_units.specs.declared.utc.When.TheVariants as when
use Rattle.pie_units.specs.declared.utc.WhenFault.{WhenFault}
use Rattle.pie_units.specs.declared.utc.WhenFault.TheVariants as fault

-- ---- Dates of the Gregorian calendar. Years begin on 1 March here, so that a leap day is the last of its year:
-- 0000-03-01 is 719468 days before 1970-01-01.

-- ---- The date of a day

-- the year, among 400 such years of 146097 days in all, that contains this day of them: 4 years have 1461 days, and 100
-- years 36524
unfoldable pub year_among : ℕ → ℕ
year_among day = (day - day / 1460 + day / 36524 - day / 146096) / 365

-- the day of that year, counted from 0
unfoldable pub year_day : ℕ → ℕ
year_day day = day - (365 * year_among day + year_among day / 4 - year_among day / 100)

-- the month of the calendar, from a month counted from March as 0
abbrev pub month_of : ℕ → ℕ
month_of month = if nat_lt month 10 then month + 3 else month - 9

-- the date of a day of 400 such years, `years` years after 0000-03-01: five months from March on have 153 days
unfoldable pub date_in : ℕ → ℕ → Date
date_in years day =
    let month = (5 * year_day day + 2) / 153 in
    record {
      year = years + year_among day + (if nat_lt month 10 then 0 else 1);
      month = month_of month;
      day = year_day day - (153 * month + 2) / 5 + 1;
    }

-- the date `days` days after 1970-01-01
unfoldable pub date_of : ℕ → Date
date_of days = date_in ((days + 719468) / 146097 * 400) ((days + 719468) % 146097)

-- ---- The day of a date

-- true if a year has a 29 February
abbrev pub is_leap : ℕ → Bool
is_leap year = ((year % 4 == 0) && not (year % 100 == 0)) || (year % 400 == 0)

-- the number of days of a month of a year
abbrev pub days_in_month : ℕ → ℕ → ℕ
days_in_month year month =
    if month == 2 then (if is_leap year then 29 else 28)
    else if (month == 4) || (month == 6) || (month == 9) || (month == 11) then 30
    else 31

-- the year from 1 March on that contains a month of a year
abbrev pub march_year : ℕ → ℕ → ℕ
march_year year month = if nat_lt month 3 then year - 1 else year

-- the number of a month, counted from March as 0
abbrev pub march_month : ℕ → ℕ
march_month month = if nat_lt month 3 then month + 9 else month - 3

-- the number of days from 1970-01-01 to a date that is not before it
unfoldable pub day_number : Date → ℕ
day_number date =
    let year = march_year date.year date.month in
    365 * year + year / 4 - year / 100 + year / 400 + (153 * march_month date.month + 2) / 5 + date.day - 719469

-- ---- A wall-clock time in UTC: 2026-11-24T20:00:00.265333333Z.

-- ---- The text of a time

-- a number with zeros before it, in `digits` digits at least
abbrev pub with_zeros : ℕ → ℕ → List ℕ
with_zeros digits n = replicate (digits - length (decimal n)) 48 ++ decimal n

abbrev pub date_text : Date → List ℕ → List ℕ
date_text date rest = with_zeros 4 date.year ++ codes "-" ++ with_zeros 2 date.month ++ codes "-" ++ with_zeros 2 date.day ++ rest

abbrev pub seconds_text : ℕ → List ℕ → List ℕ
seconds_text seconds rest = with_zeros 2 (seconds / 3600) ++ codes ":" ++ with_zeros 2 (seconds / 60 % 60) ++ codes ":"
    ++ with_zeros 2 (seconds % 60) ++ rest

-- the text of `unix` nanoseconds after 1970-01-01T00:00:00Z
unfoldable pub utc_text : ℕ → List ℕ
utc_text unix = date_text (date_of (unix / 86400000000000)) (codes "T"
    ++ seconds_text (unix % 86400000000000 / 10 ^ 9) (codes "." ++ with_zeros 9 (unix % 10 ^ 9) ++ codes "Z"))

-- ---- The time of a text

-- the number of up to four digits, if there is nothing else
abbrev pub number_in : List ℕ → Option ℕ
number_in digits = if digit_count digits == length digits then Some (min (number_after 0 digits) 9999) else None

-- the number of up to four digits, if it is at least `first` and at most `last`
abbrev pub number_within : List ℕ → ℕ → ℕ → Option ℕ
number_within digits first last =
    option_and_then (λ number. if nat_lt number first || nat_lt last number then None else Some number) (number_in digits)

-- the bytes of a text from `from` up to but not including `to`
abbrev pub part : ℕ → ℕ → List ℕ → List ℕ
part from to text = take (to - from) (drop from text)

-- true if the separators between the numbers of a date and an hour are present
unfoldable pub has_marks : List ℕ → Bool
has_marks text =
    (slice_index text 4 == 45) && (slice_index text 7 == 45) && (slice_index text 10 == 84) && (slice_index text 13 == 58)
    && (slice_index text 16 == 58)

-- the date at the start of a text
unfoldable pub date_part : List ℕ → Option Date
date_part text =
    option_and_then (λ year. option_and_then (λ month. option_and_then (λ day. Some (record { year = year; month = month; day = day }))
    (number_within (part 8 10 text) 1 (days_in_month year month))) (number_within (part 5 7 text) 1 12)) (number_within (part 0 4 text) 0 9999)

-- the nanoseconds of the decimals of a second: nine digits are at most this number
unfoldable pub nanos_in : List ℕ → ℕ
nanos_in decimals = min (parts_of 9 [] decimals) 999999999

-- the seconds of the day after the date
unfoldable pub seconds_part : List ℕ → Option ℕ
seconds_part text =
    option_and_then (λ hour. option_and_then (λ minute. option_and_then (λ second. Some (hour * 3600 + minute * 60 + second))
    (number_within (part 17 19 text) 0 59)) (number_within (part 14 16 text) 0 59)) (number_within (part 11 13 text) 0 23)

-- the wall-clock time of a date, seconds of its day and nanoseconds: from 1970 on, and at most 2^64 - 1
unfoldable pub unix_of : Date → ℕ → ℕ → Result ℕ UtcFault
unix_of date seconds nanos =
    if nat_lt date.year 1970 then Err OutOfRange
    else if nat_lt (2 ^ 64 - 1) ((day_number date * 86400 + seconds) * 10 ^ 9 + nanos) then Err OutOfRange
    else Ok ((day_number date * 86400 + seconds) * 10 ^ 9 + nanos)

-- the wall-clock time, if date and hour are present
abbrev pub unix_by : Option Date → Option ℕ → ℕ → Result ℕ UtcFault
unix_by None seconds nanos = Err NotUtc
unix_by (Some date) None nanos = Err NotUtc
unix_by (Some date) (Some seconds) nanos = unix_of date seconds nanos

unfoldable pub utc_with : List ℕ → List ℕ → Result ℕ UtcFault
utc_with text decimals = if has_marks text then unix_by (date_part text) (seconds_part text) (nanos_in decimals) else Err NotUtc

-- the nanoseconds after 1970-01-01T00:00:00Z of a text: 19 bytes of date and hour, up to nine decimals of a second
-- after a point, and Z
unfoldable pub utc_in : List ℕ → Result ℕ UtcFault
utc_in text =
    let decimals = decimals_in (drop 19 text) in
    if nat_lt (length text) 20 then Err NotUtc
    else if nat_lt 9 (length decimals) || not (bytes_eq (unit_in (length decimals) (drop 19 text)) (codes "Z")) then Err NotUtc
    else utc_with text decimals

-- the result of parsing a text as a wall-clock time
abbrev pub ParsesUtc : List ℕ → Result Utc UtcFault → Type 0
ParsesUtc text (Ok time) = utc_in text ≡ Ok time.0
ParsesUtc text (Err why) = utc_in text ≡ Err why

-- ---- A moment in human-readable form: whole nanoseconds, or a number with a unit, such as 1.5ms.

-- the reason why a text is not a moment
abbrev pub moment_fault : UnitFault → MomentFault
moment_fault NotANumber = NotAMoment
moment_fault TooPrecise = TooFine
moment_fault TooGreat = TooLate

-- the moment of a text, in nanoseconds
abbrev pub moment_in : List ℕ → Result ℕ MomentFault
moment_in text = result_map_both (λ number. number) moment_fault (value_of AMoment text)

-- the result of parsing a text as a moment
abbrev pub ParsesMoment : List ℕ → Result Moment MomentFault → Type 0
ParsesMoment text (Ok moment) = moment_in text ≡ Ok moment.0
ParsesMoment text (Err why) = moment_in text ≡ Err why

-- ---- A bound of moments in human-readable form: a moment, or a wall-clock time.

-- true if a text begins as a date does, which no moment does
abbrev pub is_date : List ℕ → Bool
is_date text = nat_lt 4 (length text) && (slice_index text 4 == 45)

-- the bound of a text
abbrev pub when_in : List ℕ → Result When WhenFault
when_in text =
    if is_date text then result_map_both when.Unix fault.Utc (utc_in text)
    else result_map_both when.Moment fault.Moment (moment_in text)

-- the result of parsing a text as a bound
abbrev pub ParsesWhen : List ℕ → Result When WhenFault → Type 0
ParsesWhen text read = when_in text ≡ read
