-- Worked examples of history lines and of an opening's version, for cases that no script of tests/ reaches: each theorem computes.
use Rattle.pie_event.specs.declared.opening.Profile.TheVariants.{One}
use Rattle.pie_record.specs.{Opening, Some, codes, usual, default_profile, Bounded, rows_text, records_of, fault_from, lines_from, opening_row, Row, ◌≡◌, ℕ, List, [], ◌∷◌, map, refl, worked_text}
use Rattle.pie_record.specs.declared.history_record.Line.TheVariants.{Note}
use Rattle.pie_record.specs.declared.fault.TraceFault.TheVariants as fault
use Rattle.pie_record.specs.declared.version.Version.TheVariants as version

abbrev three_records : List Row
three_records = records_of (codes "refused,1,1\nrefused,1,1\ndep\n")

-- lines before a fault are read; a record past the greatest number is the fault `TooLong`
faulty-lines : (lines_from version.One 3 2 three_records ≡ Note ∷ Note ∷ []) × (fault_from version.One 3 2 three_records ≡ Some fault.TooLong)
    × (fault_from version.One 4 2 three_records ≡ Some (fault.Kind 4))
unfolding worked_text
faulty-lines = (refl, refl, refl)

-- an opening with a limit above those of version two is written in version three
abbrev opened_by : ℕ → ℕ → Opening
opened_by packets events = record {
  moment = 0;
  limits = record { packets = packets; tail = 16; events = events };
  params = default_profile;
  choices = record { mode = Bounded; profile = One; elements = usual };
}

third-written : map (λ opening. rows_text (opening_row opening ∷ []))
    (opened_by 65536 1099511627776 ∷ opened_by 65537 100 ∷ opened_by 4 1099511627777 ∷ [])
    ≡ codes "open,0,65536,16,1099511627776\n"
    ∷ codes "open3,1,rate,derandomized,capped,unscaled,bounded,0,65537,16,100\n"
    ∷ codes "open3,1,rate,derandomized,capped,unscaled,bounded,0,4,16,1099511627777\n"
    ∷ []
unfolding worked_text
third-written = refl
