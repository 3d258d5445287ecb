-- Worked selections, segments of a text and joints: each theorem computes.
use Rattle.pie_cut.proofs.Names.{[], CoreSnapshot, CoreView, EndView, Gap, None, Opening, Option, Position, Some, Span, Unlike, Waiting, ap, arith, false, length, refl, slice_get, true, ℕ, ◌∷◌, ◌≡◌}
use Rattle.pie_cut.specs.declared.snapshot_equality.UnlikeRecord.TheVariants.{Queued, Resume}
use Rattle.pie_queue.specs.declared.packet.Packet.{Packet}
use Rattle.pie_cut.specs.{Excerpt.is_past, Excerpt.is_reached, Joined.JoinsBy, Excerpt.segment, declared.joint_audit.Joint.TheVariants.Follows}
use Rattle.pie_record.specs.Field.{number}
use Rattle.pie_units.specs.declared.{utc.When.When, utc.When.TheVariants.Moment, utc.When.TheVariants.Unix}

-- ---- spans

-- a selection by numbers alone
abbrev numbers : ℕ → ℕ → Span
numbers first last = record { first = first; last = last; from = None; to = None }

-- a selection by bounds alone
abbrev within : Option When → Option When → Span
within from to = record { first = 0; last = 18446744073709551615; from = from; to = to }

abbrev moments : ℕ → ℕ → Span
moments from to = within (Some (Moment from)) (Some (Moment to))

abbrev at_times : ℕ → ℕ → Span
at_times from to = within (Some (Unix from)) (Some (Unix to))

-- an event with this number, this moment, and this wall-clock time or none
abbrev met : ℕ → ℕ → Option ℕ → Position
met number moment time = record { number = number; moment = moment; time = time }

-- a text after 100 events: event 100 is not in it, 101 is the first selected event, 103 the last, and 104 is after
-- it
wanted : (is_reached (numbers 1 103) 100 (met 100 7 None) ≡ false) × (is_reached (numbers 1 103) 100 (met 101 7 None) ≡ true)
    × (is_past (numbers 1 103) 100 false (met 103 7 None) ≡ false) × (is_past (numbers 1 103) 100 false (met 104 7 None) ≡ true)
    × (is_reached (moments 8 9) 100 (met 101 7 None) ≡ false) × (is_reached (moments 7 9) 100 (met 101 7 None) ≡ true)
    × (is_past (moments 7 9) 100 false (met 101 9 None) ≡ false) × (is_past (moments 7 9) 100 false (met 101 10 None) ≡ true)
wanted = (refl, refl, refl, refl, refl, refl, refl, refl)

-- wall-clock times are no moments and may decrease. An event later than the last time ends an excerpt that has
-- begun, and is not the first selected event. An event without a wall-clock time does the same
wanted-times : (is_reached (at_times 8 9) 0 (met 1 8 (Some 7)) ≡ false) × (is_reached (at_times 8 9) 0 (met 1 0 (Some 8)) ≡ true)
    × (is_reached (at_times 8 9) 0 (met 1 0 (Some 9)) ≡ true) × (is_reached (at_times 8 9) 0 (met 1 0 (Some 10)) ≡ false)
    × (is_reached (at_times 8 9) 0 (met 1 8 None) ≡ false) × (is_reached (within None (Some (Unix 9))) 0 (met 1 8 None) ≡ false)
    × (is_past (at_times 8 9) 0 true (met 1 99 (Some 9)) ≡ false) × (is_past (at_times 8 9) 0 true (met 1 0 (Some 10)) ≡ true)
    × (is_past (at_times 8 9) 0 false (met 1 0 (Some 10)) ≡ false) × (is_past (at_times 8 9) 0 true (met 1 0 None) ≡ true)
    × (is_past (at_times 8 9) 0 true (met 1 0 (Some 7)) ≡ false) × (is_past (at_times 8 9) 5 true (met 5 0 (Some 10)) ≡ false)
wanted-times = (refl, refl, refl, refl, refl, refl, refl, refl, refl, refl, refl, refl)

-- segments of 50 events of it: 101 to 150, 151 to 200; none is beyond the greatest number
segments : (segment 100 50 0 ≡ numbers 101 150) × (segment 100 50 1 ≡ numbers 151 200)
    × (segment 0 10000000000000000000 1 ≡ numbers 10000000000000000001 18446744073709551615)
segments = (refl, refl, refl)

-- ---- joints

-- the end of a text after `count` events
abbrev ended : Opening → CoreView → ℕ → EndView
ended opening core count = record { opening = opening; core = record core { count = count } }

-- this core, in which only this packet waits, since this moment
abbrev queued : CoreView → Packet → ℕ → CoreView
queued core packet since = record core { count = 100; waiting = record { packet = packet; since = since } ∷ [] }

-- the moment of a packet
abbrev since_of : Option Waiting → ℕ
since_of None = 0
since_of (Some waiting) = waiting.since

-- after an end at event 100: a text that begins with exactly this end follows. A text that begins after event 103
-- misses three events, and one that begins after event 99 repeats one. A text with the same number and no packet is
-- unlike in its first record, and one whose packet arrived at another moment is unlike in the record of this packet
joints : (opening : Opening) (core : CoreView) (packet : Packet)
    → JoinsBy (ended opening core 100) opening (record core { count = 100 }) Follows
    × JoinsBy (ended opening core 100) opening (record core { count = 103 }) (Gap 100 104)
    × JoinsBy (ended opening core 100) opening (record core { count = 99 }) (Gap 100 100)
    × JoinsBy (ended opening (queued core packet 7) 100) opening (record core { count = 100; waiting = [] }) (Unlike 100 Resume)
    × JoinsBy (ended opening (queued core packet 7) 100) opening (queued core packet 8) (Unlike 100 (Queued 0))
joints opening core packet = (
  (refl, refl),
  (refl, refl, λ e. omega (arith, e)),
  (refl, refl, λ e. omega (arith, e)),
  (refl, refl, λ same is. omega (arith, ap (λ (c : CoreView). length c.waiting) is), λ same is. omega (arith, ap (λ (s : CoreSnapshot). s.packets) is)),
  (
    refl,
    refl,
    λ same is. omega (arith, ap (λ (c : CoreView). since_of (slice_get c.waiting 0)) is),
    (refl, refl, (refl, λ is. omega (arith, ap since_of is))),
  ),
)
