-- The calls that a storm's callers made, and its result. A history is the list of all entries of the link: its events
-- and folds.
use Rattle.std.specs.Prelude.{◌≡◌, ◌==◌, ◌+◌, ◌<◌, ◌≤◌, ◌⊎◌, ℕ, Bool, false, All, List, [], ◌∷◌, ◌++◌, Option, Some, None, Result, Ok, Err, IfSome, IsOk, Vec, drop, min, length, take}
use Rattle.std.specs.declared.alloc.Global.{Global}
use Rattle.pie_lock.specs.Rule.{Extends}
use Rattle.pie_event.specs.declared.command.Command.{Command}
use Rattle.pie_event.specs.declared.command.Event.{Event}
use Rattle.pie_event.specs.declared.opening.Opening.{Opening}
use Rattle.pie_event.specs.declared.command.Answer.{Answer}
use Rattle.pie_event.specs.declared.refusal.Refusal.{Refusal}
use Rattle.pie_event.specs.declared.refusal.Refusal.TheVariants.{TooSoon}
use Rattle.pie_event.specs.declared.refusal.FoldRefusal.{FoldRefusal}
use Rattle.pie_event.specs.declared.refusal.FoldRefusal.TheVariants.{TooMany, Memory}
use Rattle.pie_link.specs.declared.entry.Told.{Told}
use Rattle.pie_book.specs.Decision.{IsLegal, refusal_by_rule, registers_after, stats_after}
use Rattle.pie_link.specs.declared.entry.Entry.{Entry}
use Rattle.pie_link.specs.declared.entry.Entry.TheVariants.{Applied, Folded}
use Rattle.pie_link.specs.Entries.{entries_of, events_in, folded_events, folded_for, number_of, tail_in}
use Rattle.pie_link.specs.Headline.{IsRefusedFor, IsWantOfMemory, link_refusal}
use Rattle.pie_link.specs.Callers.{LinkView, CallerView}
use Rattle.pie_link.specs.declared.entry.LinkRefusal.{LinkRefusal}
use Rattle.pie_storm.specs.declared.run.StormEnd.{StormEnd}
use Rattle.pie_storm.specs.declared.run.StormFault.{StormFault}
use Rattle.pie_storm.specs.declared.run.StormFault.TheVariants as fault
use Rattle.pie_storm.specs.declared.plan.Plan.{Plan}
use Rattle.pie_storm.specs.declared.plan.Call.{Call}
use Rattle.pie_storm.specs.declared.plan.Call.TheVariants.{Apply, Fold}
use Rattle.pie_storm.specs.declared.worker.Folding.{Folding}
use Rattle.pie_storm.specs.declared.worker.Work.{Work}
use Rattle.pie_storm.specs.Plans.{IsSound, calls_of, folder, opening_of, senders, updater}
use Rattle.std.specs.Io.KnownBytes.{Appends}
use Rattle.pie_record.specs.Text.{rows_text, records_of}
use Rattle.pie_record.specs.Write.{written_rows}
use Rattle.pie_audit.specs.declared.auditor.Finding.TheVariants.{Clean}
use Rattle.pie_audit.specs.Text.{text_finding}

-- this entry is the one that the caller's call adds to this history; a fold found its events in the log
abbrev pub IsEntryOf : Opening → List Entry → ℕ → Call → Entry → Type 0
IsEntryOf opening before caller (Apply command) (Applied event) = (event.caller ≡ caller) × (event.command ≡ command)
IsEntryOf opening before caller (Apply command) (Folded who n) = ⊥
IsEntryOf opening before caller (Fold count) (Applied event) = ⊥
IsEntryOf opening before caller (Fold count) (Folded who n) = (who ≡ caller) × (n ≡ count) × (count ≤ length (tail_in opening before))

-- a command was too soon after these events
pub record WasTooSoon (opening : Opening) (before : List Event) (command : Command) : Type 0 where
  pub due : ℕ
  pub refused : refusal_by_rule opening before command ≡ Some (TooSoon due)

-- a fold of n events was of too many after this history: the log had fewer
abbrev pub WasTooMany : Opening → List Entry → ℕ → Type 0
WasTooMany opening before n = length (tail_in opening before) < n

-- a call was refused after this history, and the storm skips it
abbrev pub WasPassedOver : Opening → List Entry → Call → Type 0
WasPassedOver opening before (Apply command) = WasTooSoon opening (events_in before) command
WasPassedOver opening before (Fold n) = WasTooMany opening before n

-- a longer list continues the caller's front, and has no further entry of the caller
abbrev pub HasNoMore : ℕ → List Entry → List Entry → Type 0
HasNoMore caller front longer = Extends number_of caller (caller + 1) front longer

-- a caller with this front made these calls in this history, and no others, except that `passed` of them were skipped. Each was made after a prefix
-- of the history that continues the caller's front and has no further entry of it; the entry of one that was not skipped follows at once
abbrev pub AreMade : Opening → ℕ → List Entry → List Call → List Entry → ℕ → Type 0
AreMade opening caller front [] history passed = HasNoMore caller front history × (passed ≡ 0)
AreMade opening caller front (call ∷ calls) history passed =
    ((before : List Entry) × (entry : Entry) × HasNoMore caller front before × IsEntryOf opening before caller call entry
    × AreMade opening caller (before ++ entry ∷ []) calls history passed)
    ⊎ ((before : List Entry) × (fewer : ℕ) × HasNoMore caller front before × WasPassedOver opening before call × (passed ≡ fewer + 1)
    × AreMade opening caller before calls history fewer)

-- a caller of commands with this front stopped because the book was full, before it had an entry for each of these
-- calls
pub record IsCutShort (plan : Plan) (caller : ℕ) (front : List Entry) (calls : List Call) (history : List Entry) : Type 0 where
  pub asks : caller ≡ folder plan → ⊥
  pub full : min plan.limits.tail plan.limits.events ≤ length (events_in history)
  pub fewer : length (entries_of caller history) < length (entries_of caller front) + length calls

-- a caller with this front made these calls, except the skipped ones; without a number it stopped early
unfoldable pub IsOutcomeBy : Plan → ℕ → List Entry → List Call → List Entry → Option ℕ → Type 0
IsOutcomeBy plan caller front calls history (Some passed) = AreMade (opening_of plan) caller front calls history passed
IsOutcomeBy plan caller front calls history None = IsCutShort plan caller front calls history

-- a caller made all its calls in this history, or stopped early
unfoldable pub IsOutcomeOf : Plan → ℕ → List Entry → ℕ → Type 0
IsOutcomeOf plan caller history passed =
    AreMade (opening_of plan) caller [] (calls_of plan caller) history passed
    ⊎ IsCutShort plan caller [] (calls_of plan caller) history

-- a number is this one
abbrev pub is_number : ℕ → ℕ → Bool
is_number number caller = caller == number

-- these events are those of the caller's folds
abbrev pub WereFolded : Plan → ℕ → List Event → List Entry → Type 0
WereFolded plan caller events history = events ≡ folded_for (is_number caller) (opening_of plan) [] history

-- the number that a result adds to the skipped calls; None for another refusal
unfoldable pub added_by : Result (Told Answer) Refusal → Option ℕ
added_by (Ok reply) = Some 0
added_by (Err (TooSoon due)) = Some 1
added_by (Err _) = None

-- the result of a fold was stored, unless there was no memory: the stored events before and after, and the number that
-- it adds
unfoldable pub TakenIn : Result (Told (Vec Event Global)) FoldRefusal → List Event → List Event → Option ℕ → Type 0
TakenIn (Ok reply) old new passed = (new ≡ old ++ reply.answer.items) × (passed ≡ Some 0)
TakenIn (Err (TooMany held)) old new passed = (new ≡ old) × (passed ≡ Some 1)
TakenIn (Err Memory) old new passed = ⊥

-- the number that the results of a burst add to the skipped calls; None if one is a refusal
abbrev pub AddedByAll : List (Result (Told Answer) Refusal) → Option ℕ → Type 0
AddedByAll answers passed = (All IsOk answers × (passed ≡ Some 0)) ⊎ ((All IsOk answers → ⊥) × (passed ≡ None))

-- a caller has this number alone, at this link
pub record IsAt (link : LinkView) (number : ℕ) (caller : CallerView) : Type 0 where
  pub own : caller.lock ≡ link
  pub first : caller.first ≡ number
  pub limit : caller.limit ≡ number + 1

-- a storm accepts the plan, and the link was opened for it
pub record IsFor (plan : Plan) (link : LinkView) : Type 0 where
  pub sound : IsSound plan
  pub opened : link.origin ≡ Some (opening_of plan)

-- a caller with an empty front begins its calls
pub record Begins (link : LinkView) (plan : Plan) (caller : CallerView) : Type 0 where
  pub own : caller.lock ≡ link
  pub new : caller.front ≡ []
  pub link_for : IsFor plan link

-- there was memory for the events of the folds
abbrev pub IsWell : Folding → Type 0
IsWell folding = folding.is_short_of_memory ≡ false

-- in one turn a caller made `count` calls after its first k, or stopped early; `passed` were skipped. The caller of the
-- folds stored their events
pub record TakesTurn (link : LinkView) (plan : Plan) (number k count : ℕ) (before after : CallerView) (old new : Folding) (passed : Option ℕ)
    : Type 0 where
  pub at : IsAt link number after
  pub few : IfSome passed (λ n. n ≤ 1)
  pub well : IsWell new → IsWell old
  pub came : IsWell new → IsOutcomeBy plan number before.front (take count (drop k (calls_of plan number))) after.front passed
  pub folds_split : IsWell new → number ≡ folder plan → WereFolded plan number old.events.items before.front
      → WereFolded plan number new.events.items after.front

-- the worker of the caller with this number made all its calls
pub record IsWorkOf (link : LinkView) (plan : Plan) (number : ℕ) (work : Work) : Type 0 where
  pub at : IsAt link number work.caller
  pub came : IsWell work.folding → IsOutcomeOf plan number work.caller.front work.passed
  pub folds_split : IsWell work.folding → number ≡ folder plan → WereFolded plan number work.folding.events.items work.caller.front

-- the work of all callers below this number: the skipped calls of the last of them, and the skipped updates
pub record IsWorkBelow (link : LinkView) (plan : Plan) (n : ℕ) (work : Work) : Type 0 where
  pub lock : work.caller.lock ≡ link
  pub first : work.caller.first ≡ 0
  pub limit : work.caller.limit ≡ n
  pub came : IsWell work.folding → (caller : ℕ) → caller < n
      → (passed : ℕ) × IsOutcomeOf plan caller work.caller.front passed × (caller ≡ updater plan → passed ≡ work.too_soon)
  pub folds : IsWell work.folding → n ≡ folder plan + 1
      → IsOutcomeOf plan (folder plan) work.caller.front work.passed × WereFolded plan (folder plan) work.folding.events.items work.caller.front

-- these events are those of the plan, except `too_soon` updates that were too soon; and `too_many` of its folds were of
-- more events than the log had
pub record IsStorm (plan : Plan) (events : List Event) (too_soon too_many : ℕ) : Type 0 where
  -- the link's history with these events
  pub history : List Entry
  pub of_history : events_in history ≡ events
  -- the updates and the folds were made, except the skipped ones, and their callers made no others
  pub updates : AreMade (opening_of plan) (updater plan) [] (calls_of plan (updater plan)) history too_soon
  pub folds : AreMade (opening_of plan) (folder plan) [] (calls_of plan (folder plan)) history too_many
  -- each other caller made all its calls, and no others
  pub others : (caller : ℕ) → (caller ≡ updater plan → ⊥) → (caller ≡ folder plan → ⊥)
      → AreMade (opening_of plan) caller [] (calls_of plan caller) history 0

-- after this history the folds had returned the first `folded` of these events, and the log had the others
pub record AreFolded (opening : Opening) (history : List Entry) (events : List Event) (folded : ℕ) : Type 0 where
  pub folds_split : folded_events opening history ≡ take folded events
  pub left : tail_in opening history ≡ drop folded events

-- the refusal of the link of a storm with this plan, out of memory aside
abbrev pub refusal_of : Plan → Option LinkRefusal
refusal_of plan = link_refusal plan.limits plan.moment (senders plan + 5)

-- the result of a storm with this plan: a legal history of the plan's calls, the number of its folded events, and the
-- look-back over it as the book's state
pub record IsEndOf (plan : Plan) (end : StormEnd) : Type 0 where
  pub legal : IsLegal (opening_of plan) end.events.items
  pub made : IsStorm plan end.events.items end.too_soon end.too_many
  pub folded : AreFolded (opening_of plan) made.history end.events.items end.folded
  pub registers : end.registers ≡ registers_after (opening_of plan) end.events.items
  pub stats : end.stats ≡ stats_after (opening_of plan) end.events.items

-- the reason why a storm of this plan has no result: the plan is not sound; or the link is not opened, for this reason;
-- otherwise no memory or no thread. There is never a gap
unfoldable pub HasFault : Plan → StormFault → Type 0
HasFault plan fault.BadPlan = IsSound plan → ⊥
HasFault plan (fault.Opening why) = IsSound plan × IsRefusedFor (refusal_of plan) why
HasFault plan fault.Memory = IsSound plan × (refusal_of plan ≡ None)
HasFault plan fault.Thread = IsSound plan × (refusal_of plan ≡ None)
HasFault plan fault.Gap = ⊥

-- the reason why a storm by numbers in their ranges has no result: no memory or no thread
unfoldable pub CanStop : StormFault → Type 0
CanStop fault.BadPlan = ⊥
CanStop (fault.Opening why) = IsWantOfMemory why
CanStop fault.Memory = Unit {0}
CanStop fault.Thread = Unit {0}
CanStop fault.Gap = ⊥

-- ---- The written history of a storm.

-- the history of these events, from the opening of this plan, was written
pub record WritesHistory (plan : Plan) (events : List Event) (before now : Option (List ℕ)) : Type 0 where
  pub written : Appends before now (rows_text (written_rows (opening_of plan) events))
  -- if it is the whole text, it is clean
  pub clean : before ≡ Some [] → IfSome now (λ text. text_finding (records_of text) ≡ Ok (Clean (length events)))

-- the history of a storm was written
pub record WritesStorm (plan : Plan) (before now : Option (List ℕ)) : Type 0 where
  pub events : List Event
  pub too_soon : ℕ
  pub too_many : ℕ
  -- its events are those of the plan, except `too_soon` updates that were too soon
  pub planned : IsStorm plan events too_soon too_many
  -- each event is the one that the rules give at its place
  pub legal : IsLegal (opening_of plan) events
  pub history : WritesHistory plan events before now
