use Rattle.pie_audit.specs.Text.{reads-more, reads-none}
use Rattle.pie_explain.proofs.Names.{[], append-nil, append_assoc, ◌++◌, ◌∷◌}
use Rattle.pie_explain.proofs.explainer.Explainer.explain_lines.Goals as goal

pub lines-init : goal.lines-init
lines-init g c = reads-none c.args.lines.now c.requires (record { explains = λ start origin first before was. rw append-nil was })

pub lines-preserved : goal.lines-preserved
lines-preserved g c =
    reads-more c.lines.invariant (rw c.if-branch.true at c.in_ok-read.ensures.reads) (λ seen so. record {
      explains = λ start origin first before was.
          rw (← append_assoc first seen (c.read.new.line ∷ []))
          (c.in_ok-explain_line.ensures.explains start origin (first ++ seen) before (so.explains start origin first before was));
    })
