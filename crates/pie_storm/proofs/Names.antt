-- Names of lower crates that the files of this folder import.
pub use Rattle.std.proofs.Common.{Bool, Err, List, None, Ok, Option, Result, Some, Vec, [], ap, append_assoc, arith, cond, drop, false, get_or, inl, inr, length, length-append, length-drop, map, min, nat_le, refl, rules, slice_get, subst, suc, sym, take, true, zero, ℕ, ⊎_elim, ◌*◌, ◌++◌, ◌+◌, ◌-◌, ◌/◌, ◌<◌, ◌==◌, ◌^◌, ◌∙◌, ◌∷◌, ◌≡◌, ◌≤◌, ◌⊎◌}
pub use Rattle.std.proofs.Math.Seq.{drop-append_seam, take-add, take-append_seam, take-length}
pub use Rattle.std.proofs.lemmas.Bool.Decides.{nat_tests}
pub use Rattle.std.proofs.lemmas.List.{append-nil, length-map, length-take, map-append}
pub use Rattle.std.proofs.lemmas.List.Elements.{All-cons, All-head, All-nil, All-tail}
pub use Rattle.std.specs.List.{All, drop-map, range_with_len, take-map}
pub use Rattle.std.specs.Prelude.{IfSome, IsOk, if◌then◌else◌, ◌||◌}
pub use Rattle.std.specs.declared.alloc.Global.{Global}
pub use Rattle.pie_book.specs.Decision.{IsLegal, IsLegalAt, decision, refusal_by_rule}
pub use Rattle.pie_book.specs.Book.{event_of}
pub use Rattle.pie_event.specs.declared.command.Answer.{Answer}
pub use Rattle.pie_event.specs.declared.command.Command.{Command}
pub use Rattle.pie_event.specs.declared.command.Event.{Event}
pub use Rattle.pie_event.specs.declared.opening.Opening.{Opening}
pub use Rattle.pie_event.specs.declared.refusal.Refusal.{Refusal}
pub use Rattle.pie_link.specs.Entries.{Reply, always, arrive, entries_of, events_in, folded_events, folded_for, number_of, tail_in}
pub use Rattle.pie_link.specs.Headline.{EntriesLookBack}
pub use Rattle.pie_link.specs.declared.entry.Arrival.{Arrival}
pub use Rattle.pie_link.specs.declared.entry.Entry.{Entry}
pub use Rattle.pie_link.specs.declared.entry.Entry.TheVariants.{Folded, Applied}
pub use Rattle.pie_link.specs.declared.entry.Told.{Told}
pub use Rattle.pie_link.specs.Callers.{CallerView, LinkView}
pub use Rattle.pie_lock.proofs.Steps.{NoneOwn, goes_on_itself, gone_on, own_none}
pub use Rattle.pie_lock.specs.Rule.{is_within, own, Extends}
pub use Rattle.pie_storm.specs.Plans.{IsFair, IsSound, arriving, changing, departing, folder, opening_of, senders, total, updater, updating, arrivals_of, list_in, planned_arrival, sender_words, words_of}
unfoldable pub use Rattle.pie_storm.specs.Plans.{calls_of, words_after}
pub use Rattle.pie_storm.specs.Storms.{AddedByAll, AreFolded, AreMade, HasNoMore, IsAt, IsCutShort, IsEndOf, IsFor, IsWell, IsWorkBelow, WereFolded, is_number}
unfoldable pub use Rattle.pie_storm.specs.Storms.{IsOutcomeBy, IsOutcomeOf}
pub use Rattle.pie_storm.specs.declared.plan.Call.{Call}
pub use Rattle.pie_storm.specs.declared.plan.Call.TheVariants.{Apply, Fold}
pub use Rattle.pie_storm.specs.declared.plan.Plan.{Plan}
pub use Rattle.pie_storm.specs.declared.worker.Work.{Work}
pub use mathlib.Core.Logic.{dite}
pub use native.Mathlib.Decide.{ℕ_discrete}
