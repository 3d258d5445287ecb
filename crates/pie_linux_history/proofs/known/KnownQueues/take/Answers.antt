use Rattle.std.proofs.Common.{◌≡◌, ◌∙◌, Some, arith, ap}
use Rattle.pie_linux_history.specs.{Known.looked_up, Known.tracked, LookBack.name_of}
use Rattle.pie_linux_history.proofs.KnownFacts.{looked-at, looked-take, name-at, names-set, place-within, taken-as}
use Rattle.pie_linux_history.proofs.known.KnownQueues.take.Goals as goal

pub returns-in_default-get_mut : goal.returns-in_default-get_mut
returns-in_default-get_mut c =
    absurd (omega (arith, place-within c.args.name.now c.args.self.now.all.items c.in-Some.place c.in-Some.ensures, c.in_default-get_mut.ensures.item.3))

pub returns-in-Ok : goal.returns-in-Ok
returns-in-Ok c =
    let known = c.in-Some-get_mut.known.now in
    let found : looked_up c.args.name.now c.args.self.now.all.items ≡ Some (tracked known) =
    looked-at c.args.self.now.all.items c.in-Some.place c.args.name.now known c.in-Some.ensures c.in-Some-get_mut.ensures.value in
    record {
      taken = rw (found, c.numbers_at-before.ensures, c.numbers_at.ensures)
          (taken-as (tracked known) (tracked c.take.new.self) c.args.step.now c.in-Ok.decision c.in-Ok.ensures.decided c.in-Ok.ensures.follows);
      lost = rw found c.in-Ok.ensures.lost;
      queues = λ other. looked-take c.args.self.now.all.items c.in-Some.place c.args.name.now known c.take.new.self c.args.step.now other
          c.in-Some.ensures c.in-Some-get_mut.ensures.value c.in-Ok.ensures.name c.in-Ok.ensures.follows;
      names = names-set c.args.self.now.all.items c.in-Some.place c.args.name.now c.take.new.self c.in-Some.ensures
          (ap name_of c.in-Ok.ensures.name ∙ name-at c.args.self.now.all.items c.in-Some.place c.args.name.now known c.in-Some.ensures c.in-Some-get_mut.ensures.value);
    }
