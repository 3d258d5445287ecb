-- Examples of the queues of rows, and of their differences. Each theorem computes.
use Rattle.std.proofs.Common.{◌≡◌, ℕ, ◌∷◌, ◌++◌, [], List, refl, codes, length, map, replicate}
use Rattle.std.specs.Option.{option_map}
use Rattle.std.specs.Prelude.{Option, Ok, Err, Some, None, false}
use Rattle.pie_linux_history.specs.declared.{fault.StepsFault.TheVariants.NoStart, queues.StepDifference.StepDifference, step.Kind.Kind, step.QueueName.QueueName, step.Step.Step}
use Rattle.pie_linux_history.specs.declared.step.Kind.TheVariants as kind
use Rattle.pie_linux_history.specs.{Audit.differences_of, Audit.verdict_of, Columns.blank, Columns.digits_after, Columns.handle_of, Columns.padded, Columns.place_from, Columns.step_of, Decided.for_each, Differences.first_difference, Differences.numbers_of, Differences.step_difference, LookBack.Entry, LookBack.Lost, LookBack.Took, LookBack.counts_of, LookBack.followed, LookBack.lack_count, LookBack.since_last, LookBack.steps_of, Queue.opened, Right.base, Right.right_opening}

-- two queues whose names differ at their last byte only, the 22nd
abbrev named : List ℕ → QueueName
named name = record { bytes = padded name; len = length name }

abbrev zero_name : List ℕ
zero_name = codes "enp0s31f6.100/8001:/0"

abbrev one_name : List ℕ
one_name = codes "enp0s31f6.100/8001:/1"

-- the handle of a name; a name without one
handles : (handle_of one_name ≡ 0x80010000) × (handle_of (codes "eth0/-/1") ≡ 0) × (handle_of (codes "d4") ≡ 0)
unfolding handle_of digits_after
handles = (refl, refl, refl)

-- a step whose other numbers are 0
abbrev numbered : ℕ → Kind → Step
numbered number kind = step_of (number ∷ replicate 52 0) kind false false

-- both begin, each has a step, and steps of the second are lost
abbrev both : List Entry
both = Took (named zero_name) (numbered 7 kind.Init) ∷ Took (named one_name) (numbered 0 kind.Init) ∷ Took (named zero_name) (numbered 8 kind.Empty)
    ∷ Took (named one_name) (numbered 1 kind.Empty) ∷ Lost (named one_name) 3 ∷ []

-- it is resumed, and the first begins again
abbrev again_both : List Entry
again_both = both ++ Took (named one_name) (numbered 5 kind.Resume) ∷ Took (named zero_name) (numbered 0 kind.Init) ∷ []

abbrev numbers_in : Option (Step × List Step) → Option (ℕ × List ℕ)
numbers_in found = option_map (λ (x : Step × List Step). (x.0.number, map (λ (step : Step). step.number) x.1)) found

found_steps : (numbers_in (steps_of zero_name both) ≡ Some (7, 8 ∷ [])) × (numbers_in (steps_of one_name both) ≡ None)
    × (numbers_in (steps_of one_name again_both) ≡ Some (5, [])) × (numbers_in (steps_of zero_name again_both) ≡ Some (0, []))
unfolding steps_of since_last step_of place_from
found_steps = (refl, refl, refl, refl)

-- the next step of the first, a step that is not the next, and a step of the second, whose steps were lost
abbrev not_next : StepDifference
not_next = record { event = 6; queue = named zero_name; step = 10; difference = record { column = 0; recorded = 10; right = 9 } }

verdicts : (verdict_of both 6 (Took (named zero_name) (numbered 9 kind.Empty)) ≡ Ok None)
    × (verdict_of both 6 (Took (named zero_name) (numbered 10 kind.Empty)) ≡ Ok (Some not_next))
    × (verdict_of both 6 (Took (named one_name) (numbered 2 kind.Empty)) ≡ Err (NoStart 7 (named one_name) 2))
    × (verdict_of again_both 8 (Took (named zero_name) (numbered 1 kind.Empty)) ≡ Ok None)
unfolding steps_of since_last step_of place_from followed opened step_difference first_difference numbers_of right_opening base blank
verdicts = (refl, refl, refl, refl)

-- after a step that differs: neither the next step of its queue nor the recorded one is decided, another queue is, and it is again after its next first row
abbrev differed : List Entry
differed = both ++ Took (named zero_name) (numbered 10 kind.Empty) ∷ []

abbrev begun_again : List Entry
begun_again = differed ++ Took (named zero_name) (numbered 9 kind.Empty) ∷ Took (named one_name) (numbered 5 kind.Resume) ∷ Took (named zero_name) (numbered 3 kind.Init) ∷ []

abbrev other_not_next : StepDifference
other_not_next = record { event = 10; queue = named one_name; step = 7; difference = record { column = 0; recorded = 7; right = 6 } }

abbrev again_not_next : StepDifference
again_not_next = record { event = 11; queue = named zero_name; step = 5; difference = record { column = 0; recorded = 5; right = 4 } }

all_differences : (differences_of differed ≡ not_next ∷ []) × (differences_of begun_again ≡ not_next ∷ [])
    × (verdict_of differed 7 (Took (named zero_name) (numbered 11 kind.Empty)) ≡ Ok None)
    × (verdict_of differed 7 (Took (named one_name) (numbered 2 kind.Empty)) ≡ Err (NoStart 8 (named one_name) 2))
    × (differences_of (begun_again ++ Took (named one_name) (numbered 7 kind.Empty) ∷ Took (named zero_name) (numbered 5 kind.Empty) ∷ [])
    ≡ not_next ∷ other_not_next ∷ again_not_next ∷ [])
unfolding steps_of since_last step_of place_from followed opened for_each lack_count step_difference first_difference numbers_of right_opening base blank
all_differences = (refl, refl, refl, refl, refl)

-- five rows, four steps, three lost steps
counted : counts_of both ≡ record { events = 5; steps = 4; lost = 3; without_returned = 0; without_protocol = 0; without_change = 0 }
unfolding step_of place_from lack_count followed steps_of since_last opened step_difference first_difference numbers_of right_opening base blank
counted = refl
