use Rattle.pie_excerpt.proofs.BackFacts.{goes-on, resumes}
use Rattle.pie_excerpt.proofs.Names.{begun_at, refl, resume_with}
use Rattle.pie_excerpt.proofs.law.preambles_are_resumed.Goals as goal

pub returns : goal.returns
returns c =
    let law = c.packets_of_a_core_are_taken.ensures in
    record {
      resumes = λ opening snapshot set_by rows. resumes (resume_with opening snapshot set_by) rows;
      read_back = λ opening core set_by more written. goes-on opening core set_by more written
          (λ before next after is. law.taken opening.limits core before next after written.queued is) (law.ended opening.limits core);
      continues = λ opening core past set_by more written shows. record {
        beginning = begun_at opening core set_by more;
        begun = goes-on opening core set_by more written
            (λ before next after is. law.taken opening.limits core before next after written.queued is) (law.ended opening.limits core);
        opened = refl;
        represents = shows;
      };
    }
