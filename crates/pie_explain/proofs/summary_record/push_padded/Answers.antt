use Rattle.pie_explain.proofs.SummaryNames.{◌≡◌, ◌-◌, ◌≤◌, ℕ, ap, append_assoc, arith, length, ◌∙◌, codes, replicate, take}
use Rattle.std.proofs.lemmas.List.{take-replicate}
use Rattle.pie_explain.proofs.summary_record.push_padded.Goals as goal

nulls : (zeros digits long : ℕ) → zeros ≡ digits - long → digits ≤ 9 → take zeros (codes "000000000") ≡ replicate (digits - long) 48
nulls zeros digits long is few = take-replicate zeros 9 48 (omega (arith, is, few)) ∙ ap (λ (z : ℕ). replicate z 48) is

pub returns-clause-text : goal.returns-clause-text
returns-clause-text c =
    let zeros = nulls c.saturating_sub-zeros.result c.args.digits (length c.as_bytes-text.result.now) c.saturating_sub-zeros.ensures c.requires.few in
    rw (c.push-3.ensures.text, c.push-2.ensures.text, c.push.ensures.text, zeros, c.as_bytes-text.ensures.value, c.format.ensures.text)
    (simp append_assoc)
