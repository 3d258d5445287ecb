use Rattle.std.proofs.Common.{refl, ◌∙◌, subst, sym}
use Rattle.pie_linux_history.specs.declared.text.Differences.{Differences}
use Rattle.pie_linux_history.specs.Audit.{HasFound, differences_of}
use Rattle.pie_linux_history.proofs.AuditFacts.{ends-at, ends-over, found-more, goes-first, goes-on}
use Rattle.pie_linux_history.proofs.text.Text.decide.Goals as goal

pub rows-init : goal.rows-init
rows-init g c = ((refl, refl), λ entries before read found writes. goes-first _ _ entries _ _ _ (found, writes) read)

pub rows-preserved : goal.rows-preserved
rows-preserved g c =
    let kept = c.rows.invariant.0 in (
      (c.next.ensures.kept.0 ∙ kept.0, c.next.ensures.kept.1 ∙ kept.1),
      λ entries before read found writes.
          let was = c.rows.invariant.1 entries before read found writes in
          goes-on _ _ entries _ _ _ _ _ _ _ c.in-Ok-Some.found was
          ((rw (c.in-Ok-Some.field-0-is, kept.0, kept.1) at c.in-Ok-Some.ensures.takes) was.entries was.read refl)
          (λ one has leaves is. (
            found-more _ was.entries one _ is (c.in-Ok.ensures (differences_of was.entries)
                (subst (λ (it : Differences). HasFound it (differences_of was.entries)) (sym c.next.ensures.kept.2) was.has_them.0)),
            c.in-Ok-write_row.ensures.row was.entries one before has leaves was.has_them.1,
          )),
    )

pub returns-in-Ok-None : goal.returns-in-Ok-None
returns-in-Ok-None g c = λ entries before read found writes _.
    let was = c.rows.invariant.1 entries before read found writes in
    let same = sym c.next.ensures.kept.2 in
    ends-over _ _ entries _ _ _ _ _ _ _ (λ rows had. (subst (λ (it : Differences). HasFound it (differences_of rows)) same had.0, had.1)) was
    ((rw c.in-Ok-None.field-0-is at c.in-Ok-None.ensures.takes) was.entries was.read refl)
    (c.finding.ensures (differences_of was.entries) (subst (λ (it : Differences). HasFound it (differences_of was.entries)) same was.has_them.0))

pub returns-in-Err : goal.returns-in-Err
returns-in-Err g c = λ entries before read found writes ok.
    let kept = c.rows.invariant.0 in
    let was = c.rows.invariant.1 entries before read found writes in
    ends-at _ _ entries _ _ _ _ _ _ _ c.in-Err.why
    (λ rows had. (subst (λ (it : Differences). HasFound it (differences_of rows)) (sym c.next.ensures.kept.2) had.0, had.1)) was
    ((rw (kept.0, kept.1) at c.in-Err.ensures.takes) was.entries was.read ok)
