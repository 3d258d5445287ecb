-- Calls of a controller: the state after each, and the event that it adds.
use Rattle.std.specs.Prelude.{◌≡◌, ℕ, ◌^◌, ◌<◌, ◌≤◌, List, [], ◌∷◌, ◌++◌, None, ⊤}
use Rattle.pie_aqm.specs.Steps.{RawParams, ArrivingPacket, ControllerState, ControllerEvent, Opened, Arrived, Departed, Advanced, Updated, Reset, Changed, arrived, bytes_with, changed, departed, advanced, reset, updated, verdict}
use Rattle.pie_params.specs.Params.{first_bad}
use Rattle.pie_aqm.specs.History.{Represents}

-- an arrival; a departure, with the packet's size, the bytes that it leaves and the moment of its arrival; a departure
-- that found no packet; an update, with the bytes in the queue; a reset; new parameters. The last number is the moment
pub data Call : Type 0 where
  Arrive : ArrivingPacket → ℕ → Call
  Depart : ℕ → ℕ → ℕ → ℕ → Call
  Advance : ℕ → Call
  Update : ℕ → ℕ → Call
  Restart : ℕ → Call
  Change : RawParams → ℕ → Call

-- the state of a controller after a call
abbrev pub after_call : ControllerState → Call → ControllerState
after_call h (Arrive a moment) = arrived h a moment
after_call h (Depart size bytes_left since moment) = departed h size bytes_left since moment
after_call h (Advance moment) = advanced h moment
after_call h (Update queued moment) = updated h queued moment
after_call h (Restart moment) = reset h moment
after_call h (Change params moment) = changed h params moment

-- the event of a call
abbrev pub event_of_call : ControllerState → Call → ControllerEvent
event_of_call h (Arrive a moment) = Arrived (verdict h a) a.size a.queued (bytes_with (verdict h a) a.queued a.size) moment
event_of_call h (Depart size bytes_left since moment) = Departed size bytes_left since moment
event_of_call h (Advance moment) = Advanced moment
event_of_call h (Update queued moment) = Updated queued moment
event_of_call h (Restart moment) = Reset moment
event_of_call h (Change params moment) = Changed params moment

-- the abstraction relation across a call: if the old state represents events e1 to en, the new state represents e1 to
-- en and the event of the call
unfoldable pub RepresentsCall : ControllerState → Call → ControllerState → Type 0
RepresentsCall old call new = (opened : Opened) (events : List ControllerEvent) → Represents opened events old
    → Represents opened (events ++ event_of_call old call ∷ []) new

-- a call whose moment and parameters are in their ranges
abbrev pub IsTaken : Call → Type 0
IsTaken (Arrive a moment) = moment < 2 ^ 60
IsTaken (Depart size bytes_left since moment) = moment < 2 ^ 60
IsTaken (Advance moment) = moment < 2 ^ 60
IsTaken (Update queued moment) = moment < 2 ^ 60
IsTaken (Restart moment) = moment < 2 ^ 60
IsTaken (Change params moment) = (moment < 2 ^ 60) × (first_bad params ≡ None)

-- a call whose departure, if it is one, is measured at a permitted threshold
abbrev pub HasThreshold : ControllerState → Call → Type 0
HasThreshold h (Depart size bytes_left since moment) = h.params.dq_threshold ≤ 65536
HasThreshold h call = ⊤
