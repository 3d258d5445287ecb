use Rattle.pie_book.proofs.core_state.Core.cause.Goals as goal

pub returns-clause-cause : goal.returns-clause-cause
returns-clause-cause c = rw (← c.self.view_is) c.cause.ensures.cause

pub returns-clause-decides : goal.returns-clause-decides
returns-clause-decides c = rw (← c.self.view_is) c.cause.ensures.decides
