use Rattle.std.proofs.Common.{◌≡◌, ◌∙◌, Option, ap, arith, is_some, refl}
use Rattle.pie_linux_history.specs.{Columns.handle_of, LookBack.name_of, Queue.opened, Queue.opening_difference}
use Rattle.pie_linux_history.specs.declared.difference.Difference.{Difference}
use Rattle.pie_linux_history.proofs.KnownFacts.{looked-push, looked-set, names-begun, names-pushed, place-within}
use Rattle.pie_linux_history.proofs.known.KnownQueues.open.Goals as goal

pub returns-clause-queues : goal.returns-clause-queues
returns-clause-queues c =
    let q : c.in_ok-open.field-0 ≡ opened (handle_of (name_of c.args.name)) c.args.step.now = rw (c.handle_of.ensures, c.bytes.ensures) at c.in_ok-open.ensures in
    let d : c.is_some.result ≡ is_some (opening_difference c.args.step.now) = c.is_some.ensures ∙ ap (λ (x : Option Difference). is_some x) c.opening_difference-difference.ensures in
    λ other. rw (← q, ← d) (looked-set c.args.self.now.all.items c.in-Some.place (name_of c.args.name)
    (record { name = c.args.name; last = c.args.step.now.number; queue = c.in_ok-open.field-0; differs = c.is_some.result }) other (rw c.bytes-2.ensures at c.in-Some.ensures) refl)

pub returns-in_default-clause-queues : goal.returns-in_default-clause-queues
returns-in_default-clause-queues c =
    let q : c.in_ok-open.field-0 ≡ opened (handle_of (name_of c.args.name)) c.args.step.now = rw (c.handle_of.ensures, c.bytes.ensures) at c.in_ok-open.ensures in
    let d : c.is_some.result ≡ is_some (opening_difference c.args.step.now) = c.is_some.ensures ∙ ap (λ (x : Option Difference). is_some x) c.opening_difference-difference.ensures in
    λ other. rw (c.in_ok-push.ensures.items, ← q, ← d) (looked-push c.args.self.now.all.items (name_of c.args.name)
    (record { name = c.args.name; last = c.args.step.now.number; queue = c.in_ok-open.field-0; differs = c.is_some.result }) other (rw c.bytes-2.ensures at c.in_default.ensures) refl)

pub returns-in_default-get_mut : goal.returns-in_default-get_mut
returns-in_default-get_mut c =
    absurd (omega (arith, place-within c.bytes-2.result.now c.args.self.now.all.items c.in-Some.place c.in-Some.ensures, c.in_default-get_mut.ensures.item.3))

pub returns-clause-names : goal.returns-clause-names
returns-clause-names c = names-begun c.args.self.now.all.items c.in-Some.place (name_of c.args.name) _ (rw c.bytes-2.ensures at c.in-Some.ensures) refl

pub returns-in_default-clause-names : goal.returns-in_default-clause-names
returns-in_default-clause-names c =
    rw c.in_ok-push.ensures.items (names-pushed c.args.self.now.all.items (name_of c.args.name) _ (rw c.bytes-2.ensures at c.in_default.ensures) refl)
