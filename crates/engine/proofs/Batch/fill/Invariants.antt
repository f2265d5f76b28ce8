-- `Batch::fill` meets its contract: the columns of the jobs passed.
use Rattle.engine.specs.ChooserPass.{Columned}
use Rattle.engine.proofs.Batch.fill.Given as goal

abbrev pub invariant-loop-j : goal.invariant-loop-j
invariant-loop-j l = Columned l.self l.j l.columns.named l.columns.written l.columns.sure l.columns.back l.columns.arities
