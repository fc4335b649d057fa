use Rattle.qp_text_scan.proofs.lanes.behind_head.Goals as goal

pub returns-then-stated-number : goal.returns-then-stated-number
returns-then-stated-number c = λ form. rw c.if-stated-number.true at (c.in_ok-stated.ensures form)
