-- Worked histories: statements that do not follow, and cases close to the bounds.
use Rattle.pie_guarantees.proofs.LawfulFacts.{refl, worked, places, IsEarly, IsLegal, IsWhole, bytes_after, params_after, effective_moment, Update, Some, ◌≡◌, ◌<◌, ◌++◌, ◌∷◌, [], ℕ, arith, refusal_by_rule, burst_begins, burst_continues, burst_opening, first_drop, lowered, lowered_opening, flows_in_turn, flows_opening, half_is_reached, last_update, all_legal}
use Rattle.pie_guarantees.specs.{picks_of}
use Rattle.pie_event.specs.declared.refusal.Refusal.TheVariants.{TooSoon}
use Rattle.pie_guarantees.proofs.BurstFacts.{refused_with}

pub lowered_below : IsLegal lowered_opening lowered × (bytes_after lowered_opening lowered ≡ 1000)
    × ((params_after lowered_opening lowered).limit_bytes ≡ 500)
unfolding worked
lowered_below = (all_legal lowered_opening (places lowered) refl refl, refl, refl)

pub early_at_bound : IsLegal burst_opening (burst_begins ++ burst_continues ++ first_drop ∷ []) × IsWhole burst_opening burst_begins
    × (effective_moment burst_opening burst_begins ≡ 99) × (effective_moment burst_opening (burst_begins ++ burst_continues) ≡ 200)
    × IsEarly first_drop
unfolding worked
early_at_bound = (all_legal burst_opening (places (burst_begins ++ burst_continues ++ first_drop ∷ [])) refl refl, refl, refl, refl, refl)

pub one_flow_picked : IsLegal flows_opening (half_is_reached ++ flows_in_turn) × (picks_of 1 flows_in_turn ≡ 3) × (picks_of 2 flows_in_turn ≡ 0)
unfolding worked
one_flow_picked = (all_legal flows_opening (places (half_is_reached ++ flows_in_turn)) refl refl, refl, refl)

pub clock_at_its_end : IsLegal burst_opening last_update × ((moment : ℕ) → moment < 1_152_921_504_606_846_976
    → refusal_by_rule burst_opening last_update (Update moment) ≡ Some (TooSoon 1_152_921_504_606_847_075))
unfolding worked
clock_at_its_end = (
  all_legal burst_opening (places last_update) refl refl,
  λ moment within. refused_with 1152921504606846975 1152921504606847075 1 100 moment within (omega arith) (omega (arith, within)),
)
