-- `survey` meets its contract: the pass of specs/SurveyPass.antt, a job a turn.
use Rattle.std.proofs.Common.{◌≡◌}
use Rattle.cellset.specs.Survey.{columns, earlier_than, Surveyed}
use Rattle.cellset.proofs.survey.survey.Given as goal

abbrev pub invariant-loop-j : goal.invariant-loop-j
invariant-loop-j l =
    (l.earlier ≡ earlier_than (columns l.named l.written l.sure l.back l.committed l.running l.phases) l.j)
    × Surveyed l.on (columns l.named l.written l.sure l.back l.committed l.running l.phases) l.j l.ranks
