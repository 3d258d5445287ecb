use Rattle.pie_explain.proofs.SummaryNames.{[], if◌then◌else◌, append_assoc, ◌++◌, ◌∙◌, ap, subst, ends_interval, extended, header, reported, since, HoldsSums, List, Some, ℕ}
use Rattle.pie_explain.specs.Summary.{summary_text}
use Rattle.pie_explain.proofs.IntervalFacts.{keeps-push}
use Rattle.pie_explain.proofs.summary.SummariesReport.report_event.Goals as goal

pub returns : goal.returns
returns g c = λ all text kept says.
    let it = c.args.self.now in
    let by_wall = it.form.by_wall in
    let interval = c.args.sums.now in
    let one = c.args.explained.now in
    let number = c.interval_of-number.ensures in
    let about = c.in_ok-push_event_words.ensures in
    let piece : List ℕ = if ends_interval interval.number c.interval_of-number.result then summary_text by_wall interval.sums interval.waits.value else [] in
    let holds = subst (λ (n : ℕ). HoldsSums c.enter.new.interval (since it.every (Some n) all)) number (c.in_ok-enter.ensures.holds all it.every kept) in (
      keeps-push (HoldsSums c.add.new.self) it.every _ all one (c.add.ensures.number ∙ c.in_ok-enter.ensures.number ∙ ap Some number)
          (c.add.ensures.adds _ holds),
      reported it.form.csv _ (header by_wall) all one (piece ++ about.more)
          (extended c.in_ok-enter.ensures.grown (record { more = about.more; grown = about.grown }))
          (λ csv. rw (about.grown, c.in_ok-enter.ensures.record csv) (append_assoc _ piece about.more)) (
            about.more,
            ap (λ (p : List ℕ). p ++ about.more)
                (λ i. if ends_interval (kept.last i) (number i) then summary_text by_wall (kept.kept.sums i) (kept.kept.waits i) else []),
            about.says,
          ) says,
    )
