-- Worked examples: excerpts and the event that set the probability before them.
use Rattle.pie_explain.proofs.Names.{◌≡◌, Bool, true, false, Some, None, refl, no_event, Start, from_opening, setter_from_start}
use Rattle.pie_explain.specs.declared.fault.ExplainFault.TheVariants.{Earlier, NoEvent}
use Rattle.pie_event.specs.declared.command.Setter.TheVariants.{Event, Opening, Unknown}
use Rattle.pie_event.specs.Event.{setter_number, setter_from}

-- an excerpt of the events from 101 on. If `tells`, it names the event that set the probability before it
abbrev after_100 : Bool → Start
after_100 tells = record { events = 100; tells = tells }

-- event 97 set the probability, or no event did; named or not. Event 101 is in the excerpt
setters : (setter_from_start (after_100 true) (Event 97) ≡ Event 97) × (setter_from_start (after_100 true) Opening ≡ Opening)
    × (setter_from_start (after_100 false) (Event 97) ≡ Unknown) × (setter_from_start (after_100 false) (Event 100) ≡ Unknown)
    × (setter_from_start (after_100 false) Opening ≡ Unknown) × (setter_from_start (after_100 false) (Event 101) ≡ Event 101)
    × (setter_from_start from_opening Opening ≡ Opening) × (setter_from_start from_opening (Event 3) ≡ Event 3)
setters = (refl, refl, refl, refl, refl, refl, refl, refl)

-- the event by the number in the first record
numbers : (setter_from None ≡ Unknown) × (setter_from (Some 0) ≡ Opening) × (setter_from (Some 97) ≡ Event 97)
    × (setter_number Unknown ≡ None) × (setter_number Opening ≡ None) × (setter_number (Event 97) ≡ Some 97)
numbers = (refl, refl, refl, refl, refl, refl)

-- of events 101 to 200: events 5 and 100 come earlier, events 0 and 201 do not exist; no event comes before a text that opens a book
no-events : (no_event 100 5 200 ≡ Earlier 5 100) × (no_event 100 100 200 ≡ Earlier 100 100) × (no_event 100 0 200 ≡ NoEvent 0 200)
    × (no_event 100 201 200 ≡ NoEvent 201 200) × (no_event 0 0 4 ≡ NoEvent 0 4) × (no_event 0 5 4 ≡ NoEvent 5 4)
no-events = (refl, refl, refl, refl, refl, refl)
