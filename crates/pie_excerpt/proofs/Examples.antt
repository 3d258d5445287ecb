-- Worked examples: the beginnings of texts, and the faults of others. Each theorem computes.
use Rattle.pie_excerpt.proofs.Names.{Beginning, Err, List, Ok, Option, Result, Row, Some, TraceFault, [], beginning_of, codes, core_from, later_at, map, opened_at, queued_of, refl, resume_of, with_queue, ℕ, ◌++◌, ◌∷◌, ◌≡◌}
use Rattle.pie_excerpt.specs.{None, Opening, Version, Three, missing}
use Rattle.pie_aqm.specs.Steps.{first_unsound}
use Rattle.pie_book.specs.{Snapshot.are_balanced, Decision.are_reached}
use Rattle.pie_event.specs.declared.opening.{Mode.Mode, Mode.TheVariants.Bounded, Mode.TheVariants.Rolling}
use Rattle.pie_event.specs.declared.opening.Profile.TheVariants as profile
use Rattle.pie_record.specs.{Names.default_profile, Names.usual, ReadBack.worked_text}
use Rattle.pie_record.specs.declared.fault.TraceFault.TheVariants as fault
use Rattle.pie_record.specs.declared.version.Version.TheVariants as version

abbrev depart : Row
depart = codes "depart" ∷ codes "2" ∷ codes "25" ∷ []

abbrev limits : Row
limits = codes "0" ∷ codes "4" ∷ codes "16" ∷ codes "100" ∷ []

abbrev opening : Mode → Opening
opening mode = record {
  moment = 0;
  limits = record { packets = 4; tail = 16; events = 100 };
  params = default_profile;
  choices = record { mode = mode; profile = profile.One; elements = usual };
}

-- a whole history of each version
abbrev begins : Row → Version → Mode → Type 0
begins row version mode = beginning_of (row ∷ depart ∷ []) ≡ Ok (opened_at version (opening mode) (depart ∷ []))

openings : begins (codes "open" ∷ limits) version.One Bounded × begins (codes "rolling" ∷ limits) version.One Rolling
    × begins (codes "open2" ∷ codes "1" ∷ codes "rolling" ∷ limits) version.Two Rolling
    × begins (codes "open3" ∷ codes "1" ∷ codes "rate" ∷ codes "derandomized" ∷ codes "capped" ∷ codes "unscaled" ∷ codes "bounded" ∷ limits)
    version.Three Bounded
unfolding worked_text beginning_of
openings = (refl, refl, refl, refl)

-- ---- an excerpt after the arrival of one packet

abbrev nine : Row
nine = codes "15000000" ∷ codes "15000000" ∷ codes "150000000" ∷ codes "125" ∷ codes "1250" ∷ codes "1024" ∷ codes "262144" ∷ codes "100000000000"
    ∷ codes "16384" ∷ []

abbrev resume : Row
resume = codes "resume" ∷ codes "1" ∷ codes "rate" ∷ codes "derandomized" ∷ codes "capped" ∷ codes "unscaled" ∷ codes "bounded" ∷ (limits ++ (nine ++ (nine
    ++ (codes "1" ∷ codes "0" ∷ codes "1" ∷ codes "1500" ∷ codes "10" ∷ codes "0" ∷ codes "0" ∷ codes "0" ∷ codes "150000000" ∷ codes "0" ∷ codes "0"
    ∷ codes "0" ∷ codes "0" ∷ codes "0" ∷ codes "0" ∷ codes "1" ∷ codes "1" ∷ codes "1" ∷ codes "0" ∷ codes "0" ∷ codes "0" ∷ codes "0" ∷ codes "0"
    ∷ codes "0" ∷ codes "0" ∷ codes "0" ∷ codes "0" ∷ codes "0" ∷ codes "1500" ∷ codes "0" ∷ codes "0" ∷ []))))

abbrev queued : Row
queued = codes "queued" ∷ codes "7" ∷ codes "1500" ∷ codes "ect0" ∷ codes "10" ∷ []

-- the number of earlier events, the tags of the queued packets, the event that set the probability, and the records read and left
abbrev seen : Result Beginning TraceFault → Option (ℕ × List ℕ × Option ℕ × ℕ × List Row)
seen (Err why) = None
seen (Ok begun) = Some (begun.core.count, map (λ waiting. waiting.packet.tag) begun.core.waiting, begun.set_by, begun.records_read, begun.left)

excerpt : seen (beginning_of (resume ∷ queued ∷ depart ∷ [])) ≡ Some (1, 7 ∷ [], Some 0, 2, depart ∷ [])
unfolding worked_text beginning_of resume_of later_at core_from with_queue queued_of are_balanced are_reached first_unsound
excerpt = refl

-- ---- faults

faults : (beginning_of [] ≡ Err fault.NoOpen) × (beginning_of (depart ∷ []) ≡ Err fault.NoOpen) × (beginning_of (resume ∷ depart ∷ []) ≡ Err missing)
    × (beginning_of ((codes "resume" ∷ []) ∷ []) ≡ Err (fault.Fields 1)) × (beginning_of ((codes "open" ∷ []) ∷ []) ≡ Err (fault.Fields 1))
unfolding worked_text beginning_of resume_of later_at core_from with_queue queued_of are_balanced are_reached first_unsound
faults = (refl, refl, refl, refl, refl)
