-- A summary as a CSV record.
use Rattle.std.specs.Prelude.{ℕ, ◌-◌, ◌/◌, ◌==◌, if◌then◌else◌, Bool, true, false, List, [], ◌∷◌, ◌++◌, map, slice_index, take, codes}
use Rattle.std.specs.{Fmt.decimal, List.sum}
use Rattle.pie_record.specs.Plain.{onto}
use Rattle.pie_units.specs.Time.{utc_text}
use Rattle.pie_explain.specs.declared.meter.Meter.{Meter}
use Rattle.pie_explain.specs.Aggregates.{kept, mean_in, sum_in}
use Rattle.pie_explain.specs.Ranges.{end_within, first_up_to}
use Rattle.pie_explain.specs.Sums.{left_place, updated_place}

-- the names of the fields, with the keywords of the causes between them
abbrev pub field_names : List ℕ
field_names =
    codes "events,first_moment,last_moment,arrivals,arrived_bytes,enqueue,mark,early,bytes,packets,"
    ++ codes "no_room_in_bytes,no_room_in_packets,inactive,burst_allowed,low_delay,short_queue,no_probability,little_accumulated,"
    ++ codes "picked_by_sum,picked_by_sum_not_capable,picked_by_sum_not_below,picked_by_word,picked_by_word_not_capable,"
    ++ codes "picked_by_word_not_below,word_not_below,left,greatest_wait,mean_wait,updates,greatest_delay,last_delay,greatest_probability,"
    ++ codes "last_probability,turned_on,first_turned_on,last_turned_on,turned_off,first_turned_off,last_turned_off,wait_99,carried_bytes,"
    ++ codes "last_target,last_burst_allowance,time_above_target,waited_above_target,time_waited_above_target"

-- the number of packets that left
abbrev pub left_in : Meter → ℕ
left_in meter = slice_index meter.answers left_place

-- the waiting time that at most a hundredth of the packets that left exceeded, by the ranges of the waiting times: that of the packet at this place
-- in the order of waiting times, or up to a tenth more
abbrev pub wait_99 : List ℕ → Meter → ℕ
wait_99 ranges meter = end_within (first_up_to ranges (left_in meter - left_in meter / 100)) meter.greatest_wait

-- these texts, one after another
abbrev pub joined : List (List ℕ) → List ℕ
joined [] = []
joined (text ∷ []) = text
joined (text ∷ (next ∷ texts)) = text ++ joined (next ∷ texts)

-- numbers, each with a comma after it
abbrev pub number_fields : List ℕ → List ℕ
number_fields numbers = onto (map decimal numbers) []

-- the number of events, summed over their answers, the first and the last moment, and the arrivals
unfoldable pub first_fields : Meter → List ℕ
first_fields meter =
    joined (number_fields (kept (sum meter.answers) ∷ meter.first ∷ meter.last ∷ meter.arrivals ∷ [])
    ∷ decimal (sum_in meter.arrived) ∷ codes "," ∷ [])

-- the waiting times, the numbers of the updates, the changes of activity, the waiting time of 99 of 100, and the bytes carried; then the target and
-- the burst allowance at the end, the time above the target, and the number of packets that had waited longer
abbrev pub later_numbers : Meter → ℕ → List ℕ
later_numbers meter most =
    left_in meter ∷ meter.greatest_wait ∷ mean_in (left_in meter) meter.waits
    ∷ slice_index meter.answers updated_place ∷ meter.delays.greatest ∷ meter.delays.last ∷ meter.probs.greatest ∷ meter.probs.last
    ∷ meter.turned_on.count ∷ meter.turned_on.first ∷ meter.turned_on.last
    ∷ meter.turned_off.count ∷ meter.turned_off.first ∷ meter.turned_off.last
    ∷ most ∷ meter.carried ∷ meter.target ∷ meter.burst ∷ meter.above ∷ meter.longer ∷ []

-- the time that packets waited longer than the target at the head of the queue; and if requested the first
-- wall-clock time, empty if none is known
unfoldable pub last_fields : Bool → ℕ → ℕ → ℕ → List ℕ
last_fields false late timed time = joined (decimal late ∷ codes "\n" ∷ [])
last_fields true late timed time =
    if timed == 0 then joined (decimal late ∷ codes ",\n" ∷ [])
    else joined (decimal late ∷ codes "," ∷ utc_text time ∷ codes "\n" ∷ [])

-- a record of these numbers, with a wall-clock time or not; between them the arrivals by verdict, and by cause
unfoldable pub record_of : Bool → Meter → ℕ → List ℕ
record_of by_wall meter most =
    joined (first_fields meter ∷ number_fields (take 5 meter.answers) ∷ number_fields meter.causes ∷ number_fields (later_numbers meter most)
    ∷ last_fields by_wall meter.late meter.timed meter.time ∷ [])
