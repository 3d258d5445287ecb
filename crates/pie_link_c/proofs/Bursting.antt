-- One more event of a burst is decided.
use Rattle.pie_link_c.specs.{Command, Reply, EventCall, Took, command_by, event_answered, events_answered}
use Rattle.pie_link_c.proofs.Names.{◌≡◌, ◌+◌, ◌<◌, ℕ, List, [], ◌∷◌, ◌++◌, refl, sym, ◌∙◌, length, map, arith, get_or, drop_more, PieEvent}
use Rattle.std.proofs.Common.{drop, length-append, length-drop}
use Rattle.std.proofs.Math.ListN.{set}
use Rattle.std.proofs.lemmas.List.{drop-set-lt, length-map}

-- a place from which there is a command is one of an event
pub is_place : (call : EventCall) (es : List PieEvent) (i : ℕ) → 0 < length (map (command_by call) (drop i es)) → i < length es
is_place call es i some = omega (arith, some, length-map (drop i es) (command_by call), length-drop i es)

none_answered : (call : EventCall) (caller : ℕ) (es : List PieEvent) → events_answered call caller es [] ≡ es
none_answered call caller [] = refl
none_answered call caller (e ∷ es) = refl

answered-more : (call : EventCall) (caller : ℕ) (es : List PieEvent) (rs : List Reply) (r : Reply) (d : PieEvent) → length rs < length es
    → events_answered call caller es (rs ++ r ∷ [])
    ≡ set (events_answered call caller es rs) (length rs) (event_answered call caller (get_or (events_answered call caller es rs) (length rs) d) r)
answered-more call caller [] rs r d some = absurd (omega (arith, some))
answered-more call caller (e ∷ es) [] r d some = grind (arith, none_answered call caller es)
answered-more call caller (e ∷ es) (q ∷ rs) r d some = grind (arith, answered-more call caller es rs r d)

length-answered : (call : EventCall) (caller : ℕ) (es : List PieEvent) (rs : List Reply) → length (events_answered call caller es rs) ≡ length es
length-answered call caller [] rs = refl
length-answered call caller (e ∷ es) [] = refl
length-answered call caller (e ∷ es) (r ∷ rs) = omega (arith, length-answered call caller es rs)

-- a burst took one more result, which was written to the event at its place
pub took : (call : EventCall) (caller number : ℕ) (events now next : List PieEvent) (place done : ℕ) (replies : List Reply) (reply : Reply)
    (d : PieEvent)
    → Took call caller number events now done replies → done ≡ place → place < length now
    → next ≡ set now place (event_answered call number (get_or now place d) reply)
    → Took call caller number events next (place + 1) (replies ++ reply ∷ [])
took call caller number events now next place done replies reply d before at some is =
    let here : place ≡ length replies = sym at ∙ before.counted in
    let few : length replies < length events = grind (arith, length-answered call caller events replies) in
    let has_result = answered-more call caller events replies reply d few in record {
      events_are = grind arith;
      counted = omega (arith, here, length-append replies (reply ∷ []));
      same = before.same;
    }

-- the events after a place are unchanged
pub later_stay : (call : EventCall) (l now : List PieEvent) (i : ℕ) (e : PieEvent) → now ≡ set l i e
    → map (command_by call) (drop (i + 1) now) ≡ map (command_by call) (drop (i + 1) l)
later_stay call l now i e is = grind (arith, drop-set-lt (i + 1) l i e)

-- a burst begins
pub begun : (call : EventCall) (caller : ℕ) (events : List PieEvent) (done : ℕ) → done ≡ 0 → Took call caller caller events events done []
begun call caller events done none = record { events_are = sym (none_answered call caller events); counted = none; same = refl }
