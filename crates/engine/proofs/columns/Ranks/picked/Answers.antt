-- `Ranks::picked` meets its contract.
use mathlib.Core.Path.{ap}
use borrow.Author.Tests.{lt-ltb, le-ltb}
use Rattle.engine.specs.declared.chooser.Pick.{Pick}
use Rattle.engine.proofs.columns.Ranks.picked.Goals as goal

-- several
pub returns-then-lowest-highest : goal.returns-then-lowest-highest
returns-then-lowest-highest c = rw (lt-ltb _ _ c.if-lowest-highest.true) (ap (λ (pick : Pick). pick.job) c.pick-pick.ensures)

-- one
pub returns : goal.returns
returns c = rw (le-ltb _ _ c.if-lowest-highest.false)
