-- The explanation of an event after a history: the numbers before it, and its cause.
use Rattle.std.specs.Prelude.{ℕ, max, List, Option}
use Rattle.pie_aqm.specs.Steps.{delay_in}
use Rattle.pie_audit.specs.Replay.{Origin, at_core, at_opening}
use Rattle.pie_book.specs.{Core.CoreView, Core.cause_in, Core.core_along, Core.registers_of, History.effective_moment, History.waiting_after, Decision.delay_after, Decision.registers_after, Decision.count_of, Decision.wait_of, Decision.cause_after}
use Rattle.pie_queue.specs.Queue.{bytes_of}
use Rattle.pie_event.specs.declared.{command.Event.Event, opening.Opening.Opening, command.Setter.Setter}
use Rattle.pie_event.specs.Event.{effect_of, caller_moment, is_update}
use Rattle.pie_record.specs.declared.clock.Clock.{Clock}
use Rattle.pie_explain.specs.declared.{explanation.Explained.Explained, explanation.Explanation.Explanation}

-- the effective moment of an event after a history
abbrev pub moment_of : Opening → List Event → Event → ℕ
moment_of opening history event = max (effective_moment opening history) (caller_moment event.command)

-- the explanation of the event with this number after this history, with the numbers before it. `clock` is the last
-- clock record
unfoldable pub explanation : Opening → List Event → ℕ → Event → Setter → Option Clock → Explanation
explanation opening history number event set_by clock = record {
  number = number;
  event = event;
  moment = moment_of opening history event;
  before = registers_after opening history;
  delay = delay_after opening history;
  cause = cause_after opening history event.command;
  waited = wait_of (effect_of event) (moment_of opening history event) (waiting_after opening history);
  set_by = set_by;
  updates = count_of is_update history;
  clock = clock;
}

-- an explanation with the controller's numbers after this history, which ends with the event
abbrev pub with_after : Opening → List Event → Explanation → Explained
with_after opening history one = record {
  explanation = one;
  after = registers_after opening history;
  delay = delay_after opening history;
}

-- ---- the explanation by a core, whatever its state

-- the effective moment of an event that a core is about to decide
abbrev pub moment_at : CoreView → Event → ℕ
moment_at core event = max core.controller.moment (caller_moment event.command)

-- the explanation of the event with this number that a core is about to decide, with the core's numbers. `clock` is
-- the last clock record
unfoldable pub explanation_in : CoreView → ℕ → Event → Setter → Option Clock → Explanation
explanation_in core number event set_by clock = record {
  number = number;
  event = event;
  moment = moment_at core event;
  before = registers_of core;
  delay = delay_in core.controller (bytes_of core.waiting);
  cause = cause_in core event.command;
  waited = wait_of (effect_of event) (moment_at core event) core.waiting;
  set_by = set_by;
  updates = core.stats.updates;
  clock = clock;
}

-- an explanation with the numbers of a core that has decided the event
abbrev pub with_core : CoreView → Explanation → Explained
with_core core one = record { explanation = one; after = registers_of core; delay = delay_in core.controller (bytes_of core.waiting) }

-- ---- the explanation of an event of lines, wherever they begin

-- the effective moment of an event after these events
abbrev pub moment_after : Origin → List Event → Event → ℕ
moment_after (at_opening opening) events event = moment_of opening events event
moment_after (at_core opening core first) events event = moment_at (core_along core events) event

-- the explanation of the event with this number after these events
abbrev pub explanation_after : Origin → List Event → ℕ → Event → Setter → Option Clock → Explanation
explanation_after (at_opening opening) events number event set_by clock = explanation opening events number event set_by clock
explanation_after (at_core opening core first) events number event set_by clock = explanation_in (core_along core events) number event set_by clock

-- an explanation with the controller's numbers after these events, which end with the event
abbrev pub ended_after : Origin → List Event → Explanation → Explained
ended_after (at_opening opening) events one = with_after opening events one
ended_after (at_core opening core set_by) events one = with_core (core_along core events) one
