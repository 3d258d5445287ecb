-- Examples of the definitions of columns and rows. Each theorem computes.
use Rattle.std.proofs.Common.{◌≡◌, ℕ, ◌∷◌, ◌++◌, [], List, refl, codes, map}
use Rattle.std.specs.List.{range_with_len}
use Rattle.std.specs.Prelude.{Result, Ok, Err}
use Rattle.std.specs.Fmt.{decimal, digits}
use Rattle.pie_record.specs.{Names.field_at, Text.Row, Field.and_then, Field.number}
use Rattle.pie_record.specs.declared.fault.RecordFault.{RecordFault}
use Rattle.pie_record.specs.declared.fault.RecordFault.TheVariants as flaw
use Rattle.pie_linux_history.specs.declared.{columns.Columns.Columns, fault.StepsFault.TheVariants.NoColumn, step.Step.Step}
use Rattle.pie_linux_history.specs.Columns.{collected, columns_of, decimal_at, flow_at, has_flows_at, hexadecimal_after, hexadecimal_at, kind_at, known, lost_in, numbers_of, place_from, step_in, step_of}

-- a first row with a column that is not read, and a row in which each number is the place of its column
abbrev columns : Columns
columns = record { queue = 59; places = range_with_len 1 58; count = 60 }

abbrev arrival : Row
arrival = codes "note" ∷ map decimal (range_with_len 1 53)
    ++ codes "0800" ∷ codes "45b8" ∷ codes "-1" ∷ codes "enq" ∷ codes "pie" ∷ codes "eth0" ∷ []

found : columns_of (codes "note" ∷ known ++ codes "qid" ∷ []) ≡ Ok columns
unfolding columns_of collected place_from
found = refl

-- the first column that is missing
missing : columns_of (codes "seq" ∷ codes "rnd" ∷ []) ≡ Err (NoColumn 1)
unfolding columns_of collected place_from
missing = refl

-- fields by the names of their columns: seq, ns, rnd, backlog, bl1, x2, maxq, moved, proto, l3
abbrev some_fields : Step → Result (List ℕ) RecordFault
some_fields step = Ok (step.number ∷ step.moment ∷ step.word ∷ step.backlog ∷ step.bytes_after ∷ step.x2 ∷ step.stats.maxq ∷ step.moved ∷ step.protocol ∷ step.header ∷ [])

fields : and_then (step_in columns arrival) some_fields ≡ Ok (1 ∷ 26 ∷ 27 ∷ 15 ∷ 17 ∷ 36 ∷ 14 ∷ 53 ∷ 2048 ∷ 17848 ∷ [])
unfolding step_in kind_at has_flows_at flow_at hexadecimal_at hexadecimal_after numbers_of collected decimal_at number step_of place_from field_at digits
fields = refl

-- a row with one more field; rows of lost steps without a queue, and with a count that is no number
faults : (step_in columns (arrival ++ [] ∷ []) ≡ Err flaw.Fields) × (lost_in (codes "lost" ∷ codes "12" ∷ []) ≡ Err flaw.Fields)
    × (lost_in (codes "lost" ∷ codes "1x" ∷ codes "eth0" ∷ []) ≡ Err flaw.Number)
unfolding step_in lost_in decimal_at number field_at
faults = (refl, refl, refl)
