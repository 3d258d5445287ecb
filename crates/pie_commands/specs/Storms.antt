-- `pie storm`: the optional elements and the numbers of the plan that its options choose.
use Rattle.std.specs.Prelude.{ℕ, ◌==◌, ◌-◌, ◌^◌, List, Option, Some, None, codes, option_and_then, if◌then◌else◌}
use Rattle.clap.specs.Words.{Row, Text, first_of}
use Rattle.pie_event.specs.declared.opening.Profile.{Profile}
use Rattle.pie_event.specs.declared.opening.Profile.TheVariants.{One, Two}
use Rattle.pie_params.specs.declared.elements.Elements.{Elements}
use Rattle.pie_params.specs.declared.elements.Decay.{Decay}
use Rattle.pie_params.specs.declared.elements.Decay.TheVariants.{Half, Zero}
use Rattle.pie_params.specs.declared.elements.Delay.{Delay}
use Rattle.pie_params.specs.declared.elements.Delay.TheVariants.{Rate, Stamp}
use Rattle.pie_params.specs.declared.elements.Picking.{Picking}
use Rattle.pie_params.specs.declared.elements.Picking.TheVariants.{Derandomized, Random}
use Rattle.pie_params.specs.declared.elements.Step.{Step}
use Rattle.pie_params.specs.declared.elements.Step.TheVariants.{Capped, Uncapped}
use Rattle.pie_params.specs.declared.elements.Size.{Size}
use Rattle.pie_params.specs.declared.elements.Size.TheVariants.{Unscaled, Scaled}
use Rattle.pie_record.specs.FirstRecord.{one_of_two}
use Rattle.pie_record.specs.Field.{decay_word, delay_word, picking_word, size_word, step_word}
use Rattle.pie_storm.specs.declared.plan.StormNumbers.{StormNumbers}
use Rattle.pie_commands.specs.Values.{number_or}

-- the choice that a word names, of two choices with their keywords; the first without a word
abbrev pub choice_by : {T : Type 0} → List ℕ → T → List ℕ → T → Option Text → Option T
choice_by first one second other None = Some one
choice_by first one second other (Some word) = one_of_two first one second other word

-- the choice that an option's text names
abbrev pub choice_in : {T : Type 0} → Text → List ℕ → T → List ℕ → T → List Row → Option T
choice_in name first one second other options = choice_by first one second other (first_of name options)

-- RFC 8033's optional elements: the source of the delay
abbrev pub delay_in : List Row → Option Delay
delay_in options = choice_in (codes "delay") (delay_word Rate) Rate (delay_word Stamp) Stamp options

-- RFC 8033's optional elements: the method that picks a packet
abbrev pub picking_in : List Row → Option Picking
picking_in options = choice_in (codes "picking") (picking_word Derandomized) Derandomized (picking_word Random) Random options

-- RFC 8033's optional elements: the limit of an update's rise
abbrev pub step_in : List Row → Option Step
step_in options = choice_in (codes "step") (step_word Capped) Capped (step_word Uncapped) Uncapped options

-- RFC 8033's optional elements: the scaling by the packet's size
abbrev pub size_in : List Row → Option Size
size_in options = choice_in (codes "size") (size_word Unscaled) Unscaled (size_word Scaled) Scaled options

-- RFC 8033's optional elements: the delays at which the probability decays
abbrev pub decay_in : List Row → Option Decay
decay_in options = choice_in (codes "decay") (decay_word Zero) Zero (decay_word Half) Half options

-- the elements that the options choose, if each word names a choice
unfoldable pub elements_in : List Row → Option Elements
elements_in options =
    option_and_then (λ delay. option_and_then (λ picking. option_and_then (λ step. option_and_then (λ size. option_and_then (λ decay.
    Some (record { delay = delay; picking = picking; step = step; size = size; decay = decay })) (decay_in options)) (size_in options))
    (step_in options)) (picking_in options)) (delay_in options)

-- the profile of this number
abbrev pub profile_by : ℕ → Profile
profile_by number = if number == 1 then One else Two

-- the numbers of the plan that the options request, with these elements
abbrev pub numbers_in : Elements → List Row → StormNumbers
numbers_in elements options = record {
  senders = number_or (codes "senders") 2 8 2 options;
  packets = number_or (codes "packets") 1 10_000 100 options;
  burst = number_or (codes "burst") 1 1024 1 options;
  seed = number_or (codes "seed") 0 (2 ^ 64 - 1) 1 options;
  load = number_or (codes "load") 50 200 100 options;
  changes = number_or (codes "changes") 0 100 0 options;
  folds = number_or (codes "folds") 0 100 0 options;
  profile = profile_by (number_or (codes "profile") 1 2 1 options);
  elements = elements;
}
