-- Worked rows: ranges, the opening for a link, its numbers for other queues, the conditions of warnings, and the mean
-- wait.
use Rattle.std.proofs.Common.{ℕ, ◌≡◌, ◌*◌, ◌^◌, codes, pos, refl, arith}
use Rattle.std.specs.Prelude.{None, Some, Ok, Err, true, false, negsuc}
use Rattle.pie_units.specs.declared.layer.Overhead.TheVariants.{Added, Removed}
use Rattle.pie_units.specs.declared.number.UnitFault.TheVariants.{NotANumber}
use Rattle.pie_units.specs.declared.number.Quantity.TheVariants.{Packets, Time}
use Rattle.pie_units.specs.Number.{digit_count, is_word, number_after, time_scale}
use Rattle.pie_units.specs.Advice.{opening_for_link, numbers_for, IsRoot, cuts_the_limit, has_prediction, squared_wait, swings, wants_half, range_in}
use Rattle.pie_units.specs.declared.advising.margin.RangeMargins.{RangeMargins}
use Rattle.pie_units.specs.declared.advising.request.RangeEnd.TheVariants.{Both, Least, Greatest}
use Rattle.pie_units.specs.declared.advising.request.RangeFault.TheVariants.{Unread, Reversed}
use Rattle.pie_units.specs.declared.advising.request.Request.{Request}

-- one value is both ends; the ends are in order, and there are two at most
ranges : (range_in Time (codes "10ms-100ms") ≡ Ok (record { least = 10_000_000; greatest = 100_000_000 }))
    × (range_in Time (codes "20ms") ≡ Ok (record { least = 20_000_000; greatest = 20_000_000 }))
    × (range_in Packets (codes "1-16") ≡ Ok (record { least = 1; greatest = 16 }))
    × (range_in Time (codes "100ms-10ms") ≡ Err Reversed) × (range_in Time (codes "10ms-") ≡ Err (Unread Greatest Time NotANumber))
    × (range_in Time (codes "-10ms") ≡ Err (Unread Least Time NotANumber)) × (range_in Time (codes "10-50ms") ≡ Err (Unread Least Time NotANumber))
    × (range_in Time (codes "1ms-2ms-3ms") ≡ Err (Unread Greatest Time NotANumber)) × (range_in Packets (codes "") ≡ Err (Unread Both Packets NotANumber))
unfolding digit_count number_after is_word time_scale
ranges = (refl, refl, refl, refl, refl, refl, refl, refl, refl)

-- a link of this rate in bits per second, with one round-trip time in milliseconds and one number of flows
abbrev link : ℕ → ℕ → ℕ → Request
link rate trip flows = record {
  rate = rate;
  trips = record { least = trip * 10 ^ 6; greatest = trip * 10 ^ 6 };
  flows = record { least = flows; greatest = flows };
  overhead = Added 0;
  ecn = true;
}

-- 20 Mbit/s: 200 ms are 500000 bytes; 40 bytes of overhead are in the mean size
opening : let fast = (opening_for_link (link 20_000_000 20 4)) in
    (fast.params.limit_bytes ≡ 500_000) × (fast.limits.packets ≡ 7812) × (fast.params.mean_pkt ≡ 1024)
    × (fast.params.mark_ecnth ≡ 100_000_000_000)
    × ((opening_for_link (record (link 20_000_000 20 4) { overhead = Added 40; ecn = false })).params.mean_pkt ≡ 1064)
    × ((opening_for_link (record (link 20_000_000 20 4) { overhead = Removed 14; ecn = false })).params.mark_ecnth ≡ 0)
opening = (refl, refl, refl, refl, refl, refl)

-- 500000 bytes are 331 packets of 1514 bytes. At 4 Gbit/s they are more than 16 bits contain, and 2^20 packets of fewer
-- than 96 bytes reach the limit in packets first
numbers : let fast = numbers_for (opening_for_link (link 20_000_000 20 4)) in let faster = numbers_for (opening_for_link (link 4_000_000_000 20 4)) in
    (fast ≡ record { pie_limit = 331; tail_threshold = 331; packet_bytes = 65; alpha = 2; beta = 20; target = 15000; t_update = 15000; max_burst = 150_000; mark_ecnth = 10 })
    × (faster.pie_limit ≡ 66_051) × (faster.tail_threshold ≡ 65_535) × (faster.packet_bytes ≡ 96)
numbers = (refl, refl, refl, refl)

-- 3968799600 bit/s are the greatest rate of which 16 bits contain the limit
cuts : let cuts = λ (rate : ℕ). cuts_the_limit (opening_for_link (link rate 20 4)).params in
    (cuts 3_968_799_600 ≡ false) × (cuts 3_968_799_601 ≡ true)
cuts = (refl, refl)

-- margins of 12.34 degrees and 5.67 decibels
abbrev stable : RangeMargins
stable = record { least = Some (record { phase = pos 1234; gain = pos 567 }); has_short_windows = false; is_beyond = false }

-- a phase margin of 9.99 degrees
abbrev small : RangeMargins
small = record stable { least = Some (record { phase = pos 999; gain = pos 567 }) }

-- a phase margin of -0.01 degrees
abbrev unstable : RangeMargins
unstable = record stable { least = Some (record { phase = negsuc 0; gain = pos 567 }) }

signs : (swings stable ≡ false) × (swings small ≡ false) × (swings unstable ≡ true) × (wants_half stable ≡ false) × (wants_half small ≡ true)
    × (wants_half unstable ≡ true) × (swings (record stable { least = None }) ≡ false)
signs = (refl, refl, refl, refl, refl, refl, refl)

-- four flows at 10 Mbit/s have a prediction in a stable loop, also outside the model if windows are short; not in an
-- unstable one, nor beyond the model, nor a single flow, nor 64 flows at 2 Mbit/s
predicted : let predicts = λ (request : Request) (margins : RangeMargins). has_prediction request (opening_for_link request).params margins in
    (predicts (link 10_000_000 20 4) stable ≡ true) × (predicts (link 10_000_000 20 4) (record stable { least = None; has_short_windows = true }) ≡ true)
    × (predicts (link 10_000_000 20 4) unstable ≡ false) × (predicts (link 10_000_000 20 4) (record stable { is_beyond = true }) ≡ false)
    × (predicts (link 10_000_000 20 1) stable ≡ false) × (predicts (link 2_000_000 20 64) stable ≡ false)
predicted = (refl, refl, refl, refl, refl, refl)

-- at 2 Mbit/s two mean packets take 8.192 ms, so the mean wait is 17.091 ms
wait : let request = link 2_000_000 20 4 in IsRoot (squared_wait request.rate (opening_for_link request).params) 17_091_192
wait = record { at_most = search arith; next = search arith }
