-- `Batch::fresh` meets its contract.
use Rattle.engine.proofs.Batch.fresh.Goals as goal

pub returns : goal.returns
returns c = rw (c.default-job.ensures, c.default-run.ensures)
