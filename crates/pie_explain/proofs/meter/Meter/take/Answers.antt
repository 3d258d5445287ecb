use Rattle.pie_explain.proofs.SummaryNames.{◌≡◌, ◌-◌, ◌∷◌, [], ◌++◌, ◌∙◌, ap, map, sym, List, ℕ, filter_map, refl, slice_index, sum, unwrap_or, length, filter_map-append, max, greatest, last_or, places, Meter, kept, bounds_of, peak_of, total_of, late_at, meter_of}
use Rattle.pie_explain.specs.Sums.{cause_place, excess_within, moments_of}
use Rattle.pie_explain.proofs.{CountFacts.counted-among, CountFacts.counted-push, SpanFacts.count-some, SpanFacts.each-of-push, SpanFacts.greatest-some, SpanFacts.since-push, SpanFacts.some-of-push, SumsFacts.last-push, SumsFacts.place_of, SumsFacts.places-push, SumsFacts.sum-push}
use Rattle.pie_explain.proofs.meter.Meter.take.Goals as goal

pub returns : goal.returns
unfolding meter_of
returns c = λ shown times same.
    let old = c.args.self.now in
    let n = c.args.noted.now in
    let first = slice_index (moments_of (shown ++ n ∷ [])) 0 in
    let count : List ℕ → ℕ = λ numbers. kept (length numbers) in
    let since-is : old.since ≡ last_or first (filter_map (λ one. one.left) shown) = ap (λ (m : Meter). m.since) same in
    let read-late : excess_within n.excess c.saturating_sub-since.result ≡ late_at (place_of shown n) =
    ap (excess_within n.excess) (c.saturating_sub-since.ensures ∙ (λ i. n.moment - since-is i)) in
    λ i. record {
      answers = (c.count.ensures ∙ counted-push (λ one. one.answer) 9 n.answer shown n old.answers (ap (λ (m : Meter). m.answers) same) refl
          c.requires) i;
      causes = (c.count_cause.ensures ∙ counted-among (λ one. cause_place one.cause) 15 (cause_place n.cause) shown n old.causes (ap (λ (m : Meter). m.causes) same) refl) i;
      first = ap (λ (m : Meter). m.first) same i;
      last = last-push (λ one. one.moment) shown n i;
      since = (c.unwrap_or-self.ensures ∙ ap (unwrap_or n.left) since-is ∙ since-push first (filter_map (λ one. one.left) shown) n.left
          ∙ ap (last_or first) (sym (filter_map-append (λ one. one.left) shown (n ∷ [])))) i;
      arrivals = some-of-push count (λ one. one.arrived) shown n (λ numbers. count-some numbers _ _ _ c.count_some-2.ensures) refl
          (ap (λ (m : Meter). m.arrivals) same) i;
      arrived = some-of-push total_of (λ one. one.arrived) shown n c.take_some.ensures refl (ap (λ (m : Meter). m.arrived) same) i;
      waits = some-of-push total_of (λ one. one.wait) shown n c.take_some-2.ensures refl (ap (λ (m : Meter). m.waits) same) i;
      greatest_wait = some-of-push greatest (λ one. one.wait) shown n
          (λ numbers held. c.raise.ensures ∙ (λ j. max (held j) (c.unwrap_or.ensures j)) ∙ greatest-some numbers n.wait) refl
          (ap (λ (m : Meter). m.greatest_wait) same) i;
      delays = some-of-push peak_of (λ one. one.delay) shown n c.take_some-3.ensures refl (ap (λ (m : Meter). m.delays) same) i;
      probs = each-of-push peak_of (λ one. one.prob) shown n c.take.ensures refl (ap (λ (m : Meter). m.probs) same) i;
      turned_on = some-of-push bounds_of (λ one. one.turned_on) shown n c.take_some-4.ensures refl (ap (λ (m : Meter). m.turned_on) same) i;
      turned_off = some-of-push bounds_of (λ one. one.turned_off) shown n c.take_some-5.ensures refl (ap (λ (m : Meter). m.turned_off) same) i;
      timed = ap (λ (m : Meter). m.timed) same i;
      time = ap (λ (m : Meter). m.time) same i;
      carried = sum-push (λ one. one.carried) shown n c.increase.ensures refl (ap (λ (m : Meter). m.carried) same) i;
      above = sum-push (λ one. one.above) shown n c.increase-2.ensures refl (ap (λ (m : Meter). m.above) same) i;
      longer = some-of-push count (λ one. one.excess) shown n (λ numbers. count-some numbers _ _ _ c.count_some.ensures) refl
          (ap (λ (m : Meter). m.longer) same) i;
      late = (sum-push late_at (places shown) (place_of shown n) c.add_excess.ensures read-late (ap (λ (m : Meter). m.late) same)
          ∙ ap (λ ps. kept (sum (map late_at ps))) (sym (places-push shown n))) i;
      target = last-push (λ one. one.target) shown n i;
      burst = last-push (λ one. one.burst) shown n i;
    }
