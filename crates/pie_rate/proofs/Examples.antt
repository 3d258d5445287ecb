-- Weights of averages, at examples worked out by hand. tests/rows and bindings/c/rows.c have rows for cycles and
-- averages.
use Rattle.std.specs.Prelude.{◌≡◌, refl, ◌^◌}
use Rattle.pie_rate.specs.declared.raw.TheConstants.{MAX_THRESHOLD}
use Rattle.pie_rate.specs.{averaged}

-- the weights of a sample and of the average before it are parts of 65536: the greatest threshold gives the sample
-- alone, half of it the middle, the smallest one part in 64
weights : MAX_THRESHOLD ≡ 2 ^ 16
weights = refl

weighted : (averaged 65536 1000 3000 ≡ 3000) × (averaged 32768 1000 3000 ≡ 2000) × (averaged 1024 1000 7400 ≡ 1100)
weighted = (refl, refl, refl)
