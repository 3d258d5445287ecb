-- Worked examples: the first fault of traces with a low limit of records. Each theorem computes.
use Rattle.pie_trace.proofs.Names.{None, Row, Some, [], codes, fault_of, first_fault, record_fault, refl, request_of, ◌∷◌, ◌≡◌}
use Rattle.pie_record.specs.{Command.command_request, ReadBack.worked_text}
use Rattle.pie_record.specs.declared.fault.TraceFault.TheVariants as fault

abbrev open_row : Row
open_row = codes "open" ∷ codes "0" ∷ codes "4" ∷ codes "16" ∷ codes "100" ∷ []

abbrev depart_row : Row
depart_row = codes "depart" ∷ codes "2" ∷ codes "25" ∷ []

limits : (fault_of 0 [] ≡ Some fault.NoOpen) × (fault_of 0 (open_row ∷ []) ≡ Some fault.TooLong)
    × (fault_of 1 (open_row ∷ depart_row ∷ []) ≡ Some fault.TooLong) × (fault_of 2 (open_row ∷ depart_row ∷ []) ≡ None)
unfolding worked_text command_request fault_of first_fault record_fault request_of
limits = (refl, refl, refl, refl)
