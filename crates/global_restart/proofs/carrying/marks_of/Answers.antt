use Rattle.global_restart.proofs.carrying.marks_of.Goals as goal

pub returns : goal.returns
returns c = record { marked = λ u one. (c.in_ok-marks.ensures u).0 one; removed = λ u one. (c.in_ok-marks.ensures u).1 one }
