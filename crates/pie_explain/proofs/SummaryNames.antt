-- Definitions from lower crates that the files of this folder use.
pub use Rattle.std.proofs.Common.{Bool, List, [], ap, append-nil, append_assoc, arith, cond, false, filter, length, lit≤, map, not, refl, rules, subst, suc, sym, true, zero, ℕ, ◌%◌, ◌*◌, ◌++◌, ◌+◌, ◌-◌, ◌/◌, ◌<◌, ◌==◌, ◌∙◌, ◌∷◌, ◌≡◌, ◌≤◌}
pub use Rattle.std.proofs.{lemmas.Bool.eq-eqb, lemmas.Bool.eqb-true, lemmas.Bool.ne_eqb, lemmas.Bool.Decides.nat_tests, lemmas.List.map_push, lemmas.List.Elements.filter_map-append, lemmas.List.Sums.sum_by_push}
unfoldable pub use Rattle.std.specs.Fmt.{digits}
pub use Rattle.std.specs.{List.cons_option, List.filter_map, List.find, List.range_with_len, List.sum, Map.values_of}
pub use Rattle.std.specs.Prelude.{Err, None, Ok, OnOk, Option, Result, Some, codes, count_by, if◌then◌else◌, max, min, nat_le, nat_lt, replicate, slice_index, slice_set, take, unwrap_or, ⊤, ◌^◌}
pub use Rattle.pie_aqm.specs.History.{Place}
unfoldable pub use Rattle.pie_aqm.specs.History.{greatest, last_or, places}
pub use Rattle.pie_event.specs.Cause.{answer_of}
pub use Rattle.pie_event.specs.declared.{command.Answer.Answer, command.Answer.TheVariants.Done, command.Answer.TheVariants.Left, command.Answer.TheVariants.Updated}
pub use Rattle.pie_explain.proofs.ReportFacts.{begun, concluded, extended, greatest-push, last_or-push, place_of, places-push, reported}
pub use Rattle.pie_explain.specs.{Selection.time_of, FlowRecords.HoldsFlows, FlowRecords.flow_header, Aggregates.kept, FlowSums.flow_sums, FlowSums.is_of, Flows.HasFlows, Flows.first_of, Flows.placed, Flows.sums_beside, LiveInterval.Holds, LiveInterval.clock_of, LiveInterval.length_of, LiveInterval.number_in, Interval.ends_interval, Interval.last_events, Interval.last_interval, Interval.interval_at, Interval.interval_of, Interval.since, Interval.starts_interval, Ranges.first_up_to, Aggregates.bounds_of, Aggregates.moment_at, Aggregates.peak_of, Aggregates.span_of, Aggregates.time_at, Aggregates.total_in, Aggregates.total_of, Summary.HoldsSums, Summary.summary_text_of, Sums.cause_of, Sums.late_at, Sums.meter_input_of, Sums.reached, Sums.size_in, Sums.timed_by, Sums.wait_in}
pub use Rattle.pie_explain.specs.declared.{explanation.Explained.Explained, flow.Flow.Flow, flow_sums.FlowSums.FlowSums, live_interval.LiveInterval.LiveInterval, meter.Meter.Meter, meter_input.MeterInput.MeterInput, aggregates.Bounds.Bounds, interval.Sums.Sums}
unfoldable pub use Rattle.pie_explain.specs.{FlowSums.added_up, Flows.distinct, Flows.in_order, Ranges.range_of, Ranges.ranges_of, SummaryRecord.record_of, Summary.header, Sums.meter_of, Sums.meter_input_by, Sums.sums_of, Sums.waits_of}
unfoldable pub use Rattle.pie_units.specs.Time.{utc_text}
