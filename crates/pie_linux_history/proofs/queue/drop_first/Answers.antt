use Rattle.std.proofs.Common.{◌≡◌, ◌-◌, ◌+◌, ◌∷◌, [], ◌∙◌, arith, sym}
use Rattle.std.specs.Prelude.{suc}
use Rattle.pie_linux_history.proofs.QueueFacts.{drops-all, drops-next, drops-none, empty-of}
use Rattle.pie_linux_history.proofs.queue.drop_first.Goals as goal

pub returns-in_default : goal.returns-in_default
returns-in_default c =
    let none : c.loop-before.waiting.items ≡ [] = empty-of c.loop-before.waiting.items (omega (arith, c.in_default.ensures.cases.0)) in
    let d = drops-none c.args.queue.now c.args.flow.now c.args.waiting.now.items c.args.count c.args.lost.now.items (c.args.count - c.loop-before.before)
    c.loop-before.queue c.loop-before.flow c.loop-before.waiting.items c.loop-before.lost.items none c.loop-before.invariant in
    record { waiting = sym c.in_default.ensures.items ∙ d.waits; flow = d.flow_is; queue = d.queue_is; lost = d.lost_are }

pub loop-before-preserved : goal.loop-before-preserved
loop-before-preserved c =
    let first : c.loop-before.waiting.items ≡ c.in-Some.packet ∷ c.pop_front.new.self.items = c.in-Some.ensures.items in
    let less : c.args.count - c.loop-before.before ≡ suc (c.args.count - (c.loop-before.before + 1)) = omega arith in
    let next = drops-next c.args.queue.now c.args.flow.now c.args.waiting.now.items c.args.count c.args.lost.now.items (c.args.count - c.loop-before.before)
    c.loop-before.queue c.loop-before.flow c.loop-before.waiting.items c.loop-before.lost.items c.in-Some.packet c.pop_front.new.self.items
    (c.args.count - (c.loop-before.before + 1)) first less c.loop-before.invariant in
    rw (c.remove.ensures.queue, c.remove.ensures.flow, c.in_ok-push.ensures.items, c.dropped.ensures) next

pub returns : goal.returns
returns c =
    let d = drops-all c.args.queue.now c.args.flow.now c.args.waiting.now.items c.args.count c.args.lost.now.items (c.args.count - c.loop-before.before)
    c.loop-before.queue c.loop-before.flow c.loop-before.waiting.items c.loop-before.lost.items (omega arith) c.loop-before.invariant in
    record { waiting = d.waits; flow = d.flow_is; queue = d.queue_is; lost = d.lost_are }
