use Rattle.pie_record.specs.{length}
use Rattle.pie_record.proofs.put_field.+put_numbers.Given as goal

-- the remaining numbers
abbrev pub decreases-put_numbers : goal.decreases-put_numbers
decreases-put_numbers l = length l.numbers.now
