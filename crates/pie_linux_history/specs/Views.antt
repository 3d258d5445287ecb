-- The views of a queue: lists in place of memory.
use Rattle.std.specs.Prelude.{Bool, List}
use Rattle.pie_linux_history.specs.declared.{numbers.FlowNumbers.FlowNumbers, numbers.QueueNumbers.QueueNumbers, numbers.Waiting.Waiting}

-- a flow: its numbers, and its waiting packets in order
pub record FlowView : Type 0 where
  pub numbers : FlowNumbers
  pub waiting : List Waiting

-- a queue: its numbers, its flows, and true after its row `destroy`
pub record QueueView : Type 0 where
  pub numbers : QueueNumbers
  pub flows : List FlowView
  pub ended : Bool
