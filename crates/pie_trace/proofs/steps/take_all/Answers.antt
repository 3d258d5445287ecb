use Rattle.pie_trace.proofs.Names.{Err, Ok, Took, [], arith, ◌+◌, ◌≡◌, ◌≤◌}
use Rattle.pie_trace.proofs.RunFacts.{ill-processed, write-io}
use Rattle.pie_trace.proofs.steps.take_all.Goals as goal

pub each-init : goal.each-init
each-init g c = record { can = c.requires.can; goes = λ all known. (all, known, λ end last came. came) }

pub returns-then-not-found : goal.returns-then-not-found
returns-then-not-found g c = λ all known works.
    let there = c.each.invariant.goes all known in
    let none : there.0 ≡ [] = rw there.1 at (rw c.if-not-found.true at c.in-Ok.ensures.takes) in
    there.2 (Ok c.finish.result) _ (rw none (c.finish.ensures _ _ _))

pub returns-in-Err : goal.returns-in-Err
returns-in-Err g c = λ all known works.
    let there = c.each.invariant.goes all known in
    let met = c.in-Err.ensures.long works in
    let took : Took c.next_within.new.row there.0 c.next_within.new.self = rw there.1 at met.2 in
    let past = met.1 in
    there.2 (Err c.in-Err.why) _ (rw (took.first, met.0) (c.requires.long _ _ c.next_within.new.row took.rest _ (omega arith)))

pub returns-in-Err-take : goal.returns-in-Err-take
returns-in-Err-take g c = λ all known works.
    let there = c.each.invariant.goes all known in
    let took : Took c.next_within.new.row there.0 c.next_within.new.self = rw there.1 at (rw c.if-not-found.false at c.in-Ok.ensures.takes) in
    let within : c.each.read + 1 ≤ c.args.max_records = omega (arith, c.in-Ok.ensures.within c.if-not-found.false) in
    let met = c.in-Err-take.ensures.faulty works in
    there.2 (Err c.in-Err-take.why) _ (rw (took.first, met.0) (met.1 c.args.max_records took.rest _ within))

pub returns-in-Err-write_if_full : goal.returns-in-Err-write_if_full
returns-in-Err-write_if_full g c = λ all known works. ill-processed c.in-Err-write_if_full.why (write-io c.in-Err-write_if_full.why c.in-Err-write_if_full.ensures.io) works

pub each-preserved : goal.each-preserved
each-preserved g c =
    let within : c.each.read + 1 ≤ c.args.max_records = omega (arith, c.in-Ok.ensures.within c.if-not-found.false) in
    record {
      can = c.in-Ok-take.ensures.can;
      goes = λ all known.
          let there = c.each.invariant.goes all known in
          let took : Took c.next_within.new.row there.0 c.next_within.new.self = rw there.1 at (rw c.if-not-found.false at c.in-Ok.ensures.takes) in (
            took.rest,
            took.remain,
            λ end last came. there.2 end last (rw took.first (c.in-Ok-take.ensures.next c.args.max_records took.rest end
                (g.W.Write.contents c.each.writer) _ last within c.in-Ok-write_if_full.ensures.moved came)),
          );
    }
