-- The change of the look-backs when an update or reset is added at the end of the events.
use Rattle.std.proofs.Common.{◌≡◌, refl, ℕ, ◌-◌, ◌≤◌, Bool, if◌then◌else◌, List, [], ◌∷◌, ◌++◌, reverse, arith, sum_by, suc, ◌+◌, ◌^◌}
use Rattle.std.proofs.lemmas.List.{reverse-append}
use Rattle.std.proofs.lemmas.List.Sums.{sum_by-cons}
use Rattle.std.proofs.lemmas.Bool.Decides.{nat_tests}
use Rattle.pie_params.specs.declared.raw.RawParams.{RawParams}
use Rattle.pie_params.specs.declared.elements.Elements.{Elements}
use Rattle.pie_control.specs.{ControlEvent, updated, idled, reset, Update, update_at, updates_after_reset, probability, last_delay, last_moment, granted_burst, burst_allowance, burst_after, ends_calm, is_calm, updates_after_refill, burst_after_refill, Represents, next}
use Rattle.pie_control.specs.History.{ControlState}
use Rattle.std.specs.Prelude.{ℤ, pos, negsuc, ◌≤ℤ◌, ◌*ℤ◌, int_div}
use Rattle.std.proofs.lemmas.Int.{ints}
use Rattle.std.proofs.lemmas.Nat.{mul-le}
use Rattle.std.proofs.Math.Nat.{div-le_self}
use Rattle.pie_fixed.specs.Fixed.{bounded_of}

-- the event added at the end is the first of the reversed list
reversed : (events : List ControlEvent) (e : ControlEvent) → reverse (events ++ e ∷ []) ≡ e ∷ reverse events
reversed events e = reverse-append events (e ∷ [])

-- the time between two updates
abbrev interval : Update → ℕ
interval u = u.params.t_update

-- a refill sets the allowance to the whole, and any other update subtracts its `t_update`
refilled : (calm : Bool) (whole granted : ℕ) (u : Update) (spent : List Update)
    → (if calm then whole else granted) - sum_by interval (if calm then [] else (u ∷ spent))
    ≡ (if calm then whole else (granted - sum_by interval spent - interval u))
refilled calm whole granted u spent = let cons = sum_by-cons interval u spent in grind (arith, nat_tests)

burst-updated : (opening : RawParams) (events : List ControlEvent) (params : RawParams) (elements : Elements) (delay moment : ℕ)
    → burst_allowance opening (events ++ update_at params elements delay moment ∷ [])
    ≡ (if ends_calm params (next elements params (probability events) delay (last_delay events)) delay (last_delay events)
    then params.max_burst else (burst_allowance opening events - params.t_update))
unfolding burst_allowance granted_burst probability last_delay
burst-updated opening events params elements delay moment =
    let u : Update = record { params = params; elements = elements; delay = delay; moment = moment } in
    let earlier = reverse events in
    let calm = is_calm u (updates_after_reset earlier) in
    rw (reversed events (updated u))
    (refilled calm params.max_burst (burst_after_refill opening earlier) u (updates_after_refill earlier))

pub burst_granted : (opening : RawParams) (events : List ControlEvent)
    → burst_allowance opening events ≤ granted_burst opening events
unfolding burst_allowance
burst_granted opening events = omega arith

module _ (opening : RawParams) (start : ℕ) (events : List ControlEvent) (before after : ControlState) (shows : Represents opening start events before) where
  pub represents_updated : (params : RawParams) (elements : Elements) (delay moment : ℕ)
      → after ≡ record {
        prob = next elements params before.prob delay before.old_delay;
        old_delay = delay;
        burst = burst_after elements params before delay;
        last = moment;
      }
      → Represents opening start (events ++ update_at params elements delay moment ∷ []) after
  unfolding probability last_delay last_moment
  represents_updated params elements delay moment is = record {
    prob = rw (is, reversed events (update_at params elements delay moment), shows.prob, shows.old_delay) refl;
    old_delay = rw (is, reversed events (update_at params elements delay moment)) refl;
    burst = rw (is, burst-updated opening events params elements delay moment, shows.burst, shows.prob, shows.old_delay) refl;
    last = rw (is, reversed events (update_at params elements delay moment)) refl;
  }

  -- an idle update changes only the last moment
  pub represents_idled : (moment : ℕ) → after ≡ record before { last = moment } → Represents opening start (events ++ idled moment ∷ []) after
  unfolding probability last_delay last_moment burst_allowance granted_burst
  represents_idled moment is = record {
    prob = rw (is, reversed events (idled moment)) shows.prob;
    old_delay = rw (is, reversed events (idled moment)) shows.old_delay;
    burst = rw (is, reversed events (idled moment)) shows.burst;
    last = rw (is, reversed events (idled moment)) refl;
  }

  pub represents_reset : (params : RawParams) → after ≡ record before { prob = 0; old_delay = 0; burst = params.max_burst }
      → Represents opening start (events ++ reset params ∷ []) after
  unfolding probability last_delay last_moment burst_allowance granted_burst
  represents_reset params is = record {
    prob = rw (is, reversed events (reset params)) refl;
    old_delay = rw (is, reversed events (reset params)) refl;
    burst = rw (is, reversed events (reset params)) (omega arith);
    last = rw (is, reversed events (reset params)) shows.last;
  }

-- ---- Bounds of a gain times a difference of two times, and bounds that the roundings of an update keep.

pub product-above : (g : ℕ) (z : ℤ) → g ≤ 10 ^ 6 → negsuc (2 ^ 40) ≤ℤ z → negsuc (2 ^ 60) ≤ℤ (pos g *ℤ z)
product-above g (pos k) small above = omega (arith, ints)
product-above g (negsuc k) small above =
    omega (arith, ints, mul-le g (suc k) (10 ^ 6) (2 ^ 40 + 1) small (omega (arith, ints, above)))

pub product-below : (g : ℕ) (z : ℤ) → g ≤ 10 ^ 6 → z ≤ℤ pos (2 ^ 40) → (pos g *ℤ z) ≤ℤ pos (2 ^ 60)
product-below g (pos k) small below =
    omega (arith, ints, mul-le g k (10 ^ 6) (2 ^ 40) small (omega (arith, ints, below)))
product-below g (negsuc k) small below = omega (arith, ints)

pub int_div-above : (z : ℤ) (d n : ℕ) → negsuc n ≤ℤ z → negsuc n ≤ℤ int_div z (pos d)
int_div-above (pos a) d n h = omega (arith, ints)
int_div-above (negsuc a) d n h = omega (arith, ints, div-le_self (suc a) d)

pub int_div-below : (z : ℤ) (d n : ℕ) → z ≤ℤ pos n → int_div z (pos d) ≤ℤ pos n
int_div-below (pos a) d n h = omega (arith, ints, div-le_self a d)
int_div-below (negsuc a) d n h = omega (arith, ints)

pub ruleset quotients = (int_div-above, int_div-below)
