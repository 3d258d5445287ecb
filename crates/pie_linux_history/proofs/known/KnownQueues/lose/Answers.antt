use Rattle.std.proofs.Common.{rules, ◌≡◌}
use Rattle.std.specs.Prelude.{filter}
use Rattle.std.proofs.lemmas.Fn.{filter_same}
use Rattle.pie_linux_history.proofs.KnownFacts.{is_other, looked-lost, names-lost}
use Rattle.pie_linux_history.proofs.known.KnownQueues.lose.Goals as goal

pub returns : goal.returns
returns c =
    let kept : c.retain.new.self.items ≡ filter (is_other c.args.name.now) c.args.self.now.all.items = filter_same _ _ _ (λ x b f' k. search rules) _ _ c.retain.ensures.filtered in
    record {
      names = rw kept (names-lost c.args.self.now.all.items c.args.name.now);
      queues = λ other. rw kept (looked-lost c.args.self.now.all.items c.args.name.now other);
    }
