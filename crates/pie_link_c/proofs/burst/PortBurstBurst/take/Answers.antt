use Rattle.std.specs.Prelude.{slice_index_or, slice_set}
use Rattle.pie_link_c.specs.{EventCall, event_answered, blank}
use Rattle.std.proofs.Common.{◌≡◌, subst}
use Rattle.pie_link_c.proofs.Bursting.{is_place, later_stay, took}
use Rattle.pie_link_c.proofs.burst.PortBurstBurst.take.Goals as goal

pub returns-clause-commands : goal.returns-clause-commands
returns-clause-commands g c =
    later_stay g.K.BurstKind.call c.args.self.now.events.now c.fill_event_at.new.events c.args.place _ (c.fill_event_at.ensures (blank 0 0))

pub returns-clause-received : goal.returns-clause-received
returns-clause-received g c = λ first replies shown. (
  shown.0,
  took g.K.BurstKind.call first.caller c.args.self.now.caller first.events.now c.args.self.now.events.now c.fill_event_at.new.events c.args.place
      c.args.self.now.done replies c.args.reply (blank 0 0) shown.1 c.requires.room
      (is_place g.K.BurstKind.call c.args.self.now.events.now c.args.place c.requires.place)
      (subst (λ (a : EventCall). c.fill_event_at.new.events ≡ slice_set c.args.self.now.events.now c.args.place
      (event_answered a c.args.self.now.caller (slice_index_or c.args.self.now.events.now c.args.place (blank 0 0)) c.args.reply)) c.event_call.ensures (c.fill_event_at.ensures (blank 0 0))),
)
