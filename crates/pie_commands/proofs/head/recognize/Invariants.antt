use Rattle.std.proofs.Common.{take, codes}
use Rattle.std.specs.Io.KnownBytes.{Consumes}
use Rattle.pie_commands.proofs.head.recognize.Given as goal

abbrev pub invariant-loop-place : goal.invariant-loop-place
invariant-loop-place g l = Consumes (g.R.Read.remaining l.fn.reader) (g.R.Read.remaining l.reader) (take l.place (codes "qid,"))
