-- The position of each name in the list of all names.
use Rattle.std.proofs.Common.{◌≡◌, map, refl}
use Rattle.std.specs.List.{range_with_len}
use Rattle.pie_event.specs.Cause.{cause_names, place_of_cause}

places-in-order : map place_of_cause cause_names ≡ range_with_len 0 15
places-in-order = refl
