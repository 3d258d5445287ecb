-- One more row of a text.
use Rattle.std.proofs.Common.{◌≡◌, ℕ, ◌+◌, ◌%◌, ◌^◌, ◌++◌, ◌∷◌, [], List, Option, arith, refl, ◌∙◌, ap, sym}
use Rattle.std.specs.Prelude.{true, false, Some, None, if◌then◌else◌, max, Result, Ok}
use Rattle.std.specs.Option.{option_map}
use Rattle.std.specs.Str.{bytes_eq}
use Rattle.pie_linux_history.specs.declared.{decided.Taken.Taken, fault.StepsFault.StepsFault, known.Known.Known, queues.Queues.Queues, queues.StepDifference.StepDifference, queues.StepsCounts.StepsCounts, step.QueueName.QueueName, step.Step.Step, columns.Columns.Columns}
use Rattle.pie_record.specs.declared.fault.RecordFault.{RecordFault}
use Rattle.pie_record.specs.Text.{Row}
use Rattle.pie_linux_history.specs.{Columns.field_or, Columns.lost_in, Columns.queue_name, Columns.step_in, Audit.difference_at, Audit.judged, Audit.next, Audit.verdict_of, Queue.opening_difference, Cuts.with_name, Decided.decision_of, Decided.taken_by, Known.Leaves, Known.Represents, Known.Takes, Known.known_names, Known.looked_up, LookBack.Entry, LookBack.Lost, LookBack.Skipped, LookBack.Took, LookBack.begun, LookBack.counts_of, LookBack.decision_by, LookBack.dropped_by_step, LookBack.entry_in, LookBack.Followed, LookBack.follow, LookBack.followed, LookBack.is_opening, LookBack.is_other, LookBack.lack_by, LookBack.lack_counted, LookBack.lack_in, LookBack.latest, LookBack.lost_steps, LookBack.name_of, LookBack.step_count}
use Rattle.pie_linux_history.proofs.{LookBackFacts.counts-after, LookBackFacts.latest-more, KnownFacts.represents-begun, KnownFacts.represents-skipped, KnownFacts.represents-step}

decision-of-taken : (step : Step) (was : Option Followed) → decision_of (taken_by step was) ≡ decision_by step was
decision-of-taken step None = refl
decision-of-taken step (Some was) = refl

decision-after : (queues : List Known) (entries : List Entry) (queue : QueueName) (step : Step) (taken : Option Taken) → Represents queues entries
    → taken ≡ taken_by step (looked_up (name_of queue) queues) → decision_of taken ≡ decision_by step (followed (name_of queue) entries)
decision-after queues entries queue step taken was took =
    ap decision_of (took ∙ ap (taken_by step) (was.by_name (name_of queue))) ∙ decision-of-taken step (followed (name_of queue) entries)

-- a step of a queue that has begun
pub follow-row : (queues : List Known) (after : Queues) (entries : List Entry) (queue : QueueName) (step : Step) (event : ℕ) (taken : Option Taken)
    (result : Result (Option StepDifference) StepsFault) → is_opening step.kind ≡ false → Represents queues entries
    → taken ≡ taken_by step (looked_up (name_of queue) queues)
    → ((other : List ℕ) → looked_up other after.known.all.items
    ≡ (if bytes_eq (name_of queue) other then option_map (λ was. follow was step) (looked_up other queues) else looked_up other queues))
    → known_names after.known.all.items ≡ known_names queues
    → after.last ≡ Some (queue, step) → after.taken ≡ taken → after.lost.items ≡ dropped_by_step step (looked_up (name_of queue) queues)
    → result ≡ judged event queue step (decision_of taken)
    → (result ≡ verdict_of entries event (Took queue step)) × Leaves after entries (Took queue step)
follow-row queues after entries queue step event taken result later was took made names last kept lost judges =
    let found = was.by_name (name_of queue) in (
      rw later (judges ∙ ap (judged event queue step) (decision-after queues entries queue step taken was took)),
      record {
        represents = represents-step queues after.known.all.items entries queue step later made names was;
        last_is = last;
        taken_is = rw later (kept ∙ took ∙ ap (taken_by step) found);
        lost_are = rw later (lost ∙ ap (dropped_by_step step) found);
      },
    )

-- a first step
pub open-row : (queues : List Known) (after : Queues) (entries : List Entry) (queue : QueueName) (step : Step) (event : ℕ)
    (result : Result (Option StepDifference) StepsFault) → is_opening step.kind ≡ true → Represents queues entries
    → ((other : List ℕ) → looked_up other after.known.all.items ≡ (if bytes_eq (name_of queue) other then Some (begun (name_of queue) step) else looked_up other queues))
    → known_names after.known.all.items ≡ with_name (name_of queue) (known_names queues)
    → after.last ≡ Some (queue, step) → after.taken ≡ None → after.lost.items ≡ []
    → result ≡ Ok (difference_at event queue step (opening_difference step))
    → (result ≡ verdict_of entries event (Took queue step)) × Leaves after entries (Took queue step)
open-row queues after entries queue step event result opens was made names last taken lost judges = (
  rw opens judges,
  record {
    represents = represents-begun queues after.known.all.items entries queue step opens made names was;
    last_is = last;
    taken_is = rw opens taken;
    lost_are = rw opens lost;
  },
)

-- the input that it lacks
pub follow-lack : (queues : List Known) (entries : List Entry) (queue : QueueName) (step : Step) (taken : Option Taken) → is_opening step.kind ≡ false
    → Represents queues entries → taken ≡ taken_by step (looked_up (name_of queue) queues) → lack_by (decision_of taken) ≡ lack_in entries (Took queue step)
follow-lack queues entries queue step taken later was took = rw later (ap lack_by (decision-after queues entries queue step taken was took))

-- a row of another queue, a row of lost steps, and a row of a step
pub entry-skipped : (chosen : Option (List ℕ)) (columns : Columns) (row : Row) → is_other chosen columns row ≡ true → entry_in chosen columns row ≡ Ok Skipped
unfolding entry_in
entry-skipped chosen columns row other = rw other refl

pub entry-lost : (chosen : Option (List ℕ)) (columns : Columns) (row : Row) (queue : QueueName) (count : ℕ) → is_other chosen columns row ≡ false
    → lost_in row ≡ Ok (Some (queue, count)) → entry_in chosen columns row ≡ Ok (Lost queue count)
unfolding entry_in
entry-lost chosen columns row queue count other is = rw (other, is) refl

pub entry-took : (chosen : Option (List ℕ)) (columns : Columns) (row : Row) (queue : QueueName) (step : Step) → is_other chosen columns row ≡ false
    → lost_in row ≡ Ok None → step_in columns row ≡ Ok step → queue_name (field_or row columns.queue) ≡ Some queue
    → entry_in chosen columns row ≡ Ok (Took queue step)
unfolding entry_in
entry-took chosen columns row queue step other none reads named = rw (other, none, reads, named) refl

-- a row that decides no step
takes-none : (after : Queues) (entries : List Entry) (one : Entry) (entry : Result Entry RecordFault)
    → entry ≡ Ok one → verdict_of entries (next (counts_of entries).events) one ≡ Ok None
    → after.counts ≡ counts_of (entries ++ one ∷ []) → after.moment ≡ latest (entries ++ one ∷ []) → Leaves after entries one
    → Takes after entries entry (Ok None)
takes-none after entries one entry is judges counted moment leaves =
    rw is (record {
      result_is = sym judges;
      read = record { represents = leaves.represents; counts_are = counted; moment_is = moment };
      leaves = leaves;
    })

pub takes-skipped : (queues : List Known) (after : Queues) (entries : List Entry) (entry : Result Entry RecordFault) (was : StepsCounts) (moment : ℕ)
    → entry ≡ Ok Skipped → Represents queues entries → was ≡ counts_of entries → moment ≡ latest entries → after.known.all.items ≡ queues
    → after.counts ≡ record was { events = (was.events + 1) % 2 ^ 64 } → after.moment ≡ moment
    → after.last ≡ None → after.taken ≡ None → after.lost.items ≡ [] → Takes after entries entry (Ok None)
takes-skipped queues after entries entry was moment is represents counts latest same counted kept last taken lost =
    let steps : was.steps ≡ (was.steps + step_count Skipped) % 2 ^ 64 = rw counts (omega arith) in
    let losses : was.lost ≡ (was.lost + lost_steps Skipped) % 2 ^ 64 = rw counts (omega arith) in
    takes-none after entries Skipped entry is refl (counted ∙ rw (steps, losses) (counts-after entries Skipped was counts))
    (kept ∙ latest ∙ sym (latest-more entries Skipped))
    (record { represents = rw same (represents-skipped queues entries represents); last_is = last; taken_is = taken; lost_are = lost })

pub takes-lost : (after : Queues) (entries : List Entry) (entry : Result Entry RecordFault) (queue : QueueName) (count : ℕ) (was : StepsCounts) (moment : ℕ)
    → entry ≡ Ok (Lost queue count) → was ≡ counts_of entries → moment ≡ latest entries → Represents after.known.all.items (entries ++ Lost queue count ∷ [])
    → after.counts ≡ record was { events = (was.events + 1) % 2 ^ 64; lost = (was.lost + count) % 2 ^ 64 } → after.moment ≡ moment
    → after.last ≡ None → after.taken ≡ None → after.lost.items ≡ [] → Takes after entries entry (Ok None)
takes-lost after entries entry queue count was moment is counts latest represents counted kept last taken lost =
    let steps : was.steps ≡ (was.steps + step_count (Lost queue count)) % 2 ^ 64 = rw counts (omega arith) in
    takes-none after entries (Lost queue count) entry is refl (counted ∙ rw steps (counts-after entries (Lost queue count) was counts))
    (kept ∙ latest ∙ sym (latest-more entries (Lost queue count)))
    (record { represents = represents; last_is = last; taken_is = taken; lost_are = lost })

pub takes-took : (after : Queues) (entries : List Entry) (entry : Result Entry RecordFault) (queue : QueueName) (step : Step) (was : StepsCounts) (moment : ℕ)
    (result : Result (Option StepDifference) StepsFault) → entry ≡ Ok (Took queue step) → was ≡ counts_of entries → moment ≡ latest entries
    → result ≡ verdict_of entries ((was.events + 1) % 2 ^ 64) (Took queue step) → Leaves after entries (Took queue step)
    → after.counts ≡ lack_counted (record was { events = (was.events + 1) % 2 ^ 64; steps = (was.steps + step_count (Took queue step)) % 2 ^ 64 })
    (lack_in entries (Took queue step))
    → after.moment ≡ max moment step.moment
    → Takes after entries entry result
takes-took after entries entry queue step was moment result is counts latest judges leaves counted later =
    let lost : was.lost ≡ (was.lost + lost_steps (Took queue step)) % 2 ^ 64 = rw counts (omega arith) in
    let all : after.counts ≡ counts_of (entries ++ Took queue step ∷ []) = counted ∙ rw lost (counts-after entries (Took queue step) was counts) in
    rw is (record {
      result_is = judges ∙ rw counts refl;
      read = record {
        represents = leaves.represents;
        counts_are = all;
        moment_is = later ∙ rw latest refl ∙ sym (latest-more entries (Took queue step));
      };
      leaves = leaves;
    })
