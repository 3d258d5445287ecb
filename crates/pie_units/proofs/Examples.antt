-- Examples of rates, sizes and packets with units, from tc(8) and from `tc` of iproute2, of option numbers, of sizes on a link, and of dates.
-- tests/program/moments.py has times, and tests/program/wall.py wall-clock times.
use Rattle.std.proofs.Common.{◌≡◌, ◌^◌, codes, refl, ◌+◌, ◌*◌, ℕ, zero, suc, List, [], ◌∷◌, map, if◌then◌else◌}
use Rattle.std.specs.Prelude.{Ok, Err, ⊤}
use Rattle.pie_units.specs.declared.number.Quantity.TheVariants.{Rate, Size, Packets, Time}
use Rattle.pie_units.specs.declared.number.UnitFault.TheVariants.{NotANumber, TooPrecise}
use Rattle.pie_units.specs.Number.{is_word, prefix_scale, rate_scale, size_scale, time_scale, digit_count, number_after, value_of, packets_of, rate_of, time_of}
use Rattle.pie_units.specs.declared.options.OptionFault.TheVariants.{NoRate, Unread, NotBytes}
use Rattle.pie_units.specs.Opening.{gain_of, overhead_of, size_on_link}
use Rattle.pie_units.specs.declared.layer.Layer.{Layer}
use Rattle.pie_units.specs.declared.layer.LinkLayer.TheVariants.{Atm, Ethernet}
use Rattle.pie_units.specs.declared.layer.Overhead.{Overhead}
use Rattle.pie_units.specs.declared.layer.Overhead.TheVariants.{Added, Removed}
use Rattle.std.specs.List.{flat_map, range_with_len}
use Rattle.pie_units.specs.declared.utc.Date.{Date}
use Rattle.pie_units.specs.Time.{date_in, date_of, day_number, days_in_month, is_leap, year_among, year_day}

-- the definitions that computing a value unfolds
unfoldable worked : Type 0
unfolding digit_count number_after is_word prefix_scale rate_scale size_scale time_scale
worked = ⊤

rates : (value_of Rate (codes "100mbit") ≡ Ok 100_000_000)
    × (value_of Rate (codes "1Mibit") ≡ Ok 1_048_576)
    × (value_of Rate (codes "1kbps") ≡ Ok 8_000)
    × (value_of Rate (codes "1kibps") ≡ Ok 8_192)
    × (value_of Rate (codes "3bps") ≡ Ok 24)
    × (value_of Rate (codes "9bit") ≡ Ok 9)
    × (value_of Rate (codes "2.5Gbit") ≡ Ok 2_500_000_000)
    × (value_of Rate (codes "0.000000000001tbit") ≡ Ok 1)
    × (value_of Rate (codes "0.5bit") ≡ Err TooPrecise)
    × (value_of Rate (codes "0.5bps") ≡ Ok 4)
    × (value_of Rate (codes "100") ≡ Err NotANumber)
unfolding worked
rates = (refl, refl, refl, refl, refl, refl, refl, refl, refl, refl, refl)

sizes : (value_of Size (codes "1500") ≡ Ok 1_500)
    × (value_of Size (codes "1.5k") ≡ Ok 1_536)
    × (value_of Size (codes "2MB") ≡ Ok 2_097_152)
    × (value_of Size (codes "8kbit") ≡ Ok 1_024)
    × (value_of Size (codes "1g") ≡ Ok (2 ^ 30))
unfolding worked
sizes = (refl, refl, refl, refl, refl)

packets : (value_of Packets (codes "1000p") ≡ Ok 1_000)
    × (value_of Packets (codes "1000") ≡ Ok 1_000)
    × (value_of Packets (codes "1000kb") ≡ Err NotANumber)
unfolding worked
packets = (refl, refl, refl)

-- ---- option numbers

-- values from tc(8); RFC 8033's 0.125 and 1.25 at the end
tuning : (time_of (codes "1.5ms") ≡ Ok 1_500_000)
    × (time_of (codes "20") ≡ Err (Unread Time NotANumber))
    × (time_of (codes "1.5ns") ≡ Err (Unread Time TooPrecise))
    × (rate_of (codes "100mbit") ≡ Ok 100_000_000)
    × (rate_of (codes "1kbps") ≡ Ok 8_000)
    × (rate_of (codes "0mbit") ≡ Err NoRate)
    × (packets_of (codes "1000p") ≡ Ok 1000)
    × (gain_of 2 ≡ 125)
    × (gain_of 20 ≡ 1250)
unfolding worked
tuning = (refl, refl, refl, refl, refl, refl, refl, refl, refl)

-- ---- sizes on a link, computed by hand from the table of tc-stab(8): 48 bytes are one cell, 1540 bytes are 33 cells, and 10000 bytes are four
-- times the last entry and the entry of 1808 bytes

abbrev of_cells : Overhead → Layer
of_cells overhead = record { overhead = overhead; mpu = 0; format = Atm }

abbrev of_frames : Overhead → ℕ → Layer
of_frames overhead mpu = record { overhead = overhead; mpu = mpu; format = Ethernet }

link-sizes : (size_on_link (of_cells (Added 0)) 48 ≡ 53)
    × (size_on_link (of_cells (Added 0)) 49 ≡ 106)
    × (size_on_link (of_cells (Added 40)) 1500 ≡ 33 * 53)
    × (size_on_link (of_cells (Added 0)) 10000 ≡ 4 * (43 * 53) + 38 * 53)
    × (size_on_link (of_frames (Added 0) 0) 1024 ≡ 1024)
    × (size_on_link (of_frames (Removed 14) 0) 1514 ≡ 1500)
    × (size_on_link (of_frames (Removed 14) 0) 10 ≡ 1)
    × (size_on_link (of_frames (Added 44) 84) 28 ≡ 84)
    × (size_on_link (of_frames (Added 44) 84) 41 ≡ 88)
link-sizes = (refl, refl, refl, refl, refl, refl, refl, refl, refl)

overheads : (overhead_of (codes "40") ≡ Ok (Added 40))
    × (overhead_of (codes "-14") ≡ Ok (Removed 14))
    × (overhead_of (codes "-") ≡ Err NotBytes)
    × (overhead_of (codes "65536") ≡ Err NotBytes)
unfolding worked
overheads = (refl, refl, refl, refl)

-- ---- dates, compared with days counted year by year and month by month

abbrev date : ℕ → ℕ → ℕ → Date
date year month day = record { year = year; month = month; day = day }

-- the first days of a number of years, from one that begins on this day, each with 365 or 366 days
unfoldable begins : ℕ → ℕ → ℕ → List ℕ
begins zero year day = []
begins (suc years) year day = day ∷ begins years (year + 1) (day + (if is_leap year then 366 else 365))

-- the first day of each year from 1970 to 2555
years-begin : (map date_of (begins 586 1970 0) ≡ map (λ year. date year 1 1) (range_with_len 1970 586))
    × (map (λ year. day_number (date year 1 1)) (range_with_len 1970 586) ≡ begins 586 1970 0)
unfolding begins date_of date_in year_among year_day day_number
years-begin = (refl, refl)

-- the days of a year, month by month
abbrev days_of : ℕ → List Date
days_of year = flat_map (λ month. map (λ day. date year month day) (range_with_len 1 (days_in_month year month))) (range_with_len 1 12)

-- the days of a leap year, which begins on day 19723, and of the next
days-of-years : (map date_of (range_with_len 19723 366) ≡ days_of 2024) × (map date_of (range_with_len 20089 365) ≡ days_of 2025)
    × (map day_number (days_of 2024) ≡ range_with_len 19723 366) × (map day_number (days_of 2025) ≡ range_with_len 20089 365)
unfolding date_of date_in year_among year_day day_number
days-of-years = (refl, refl, refl, refl)
