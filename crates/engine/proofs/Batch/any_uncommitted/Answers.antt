-- `Batch::any_uncommitted` meets its contract: a search over the jobs held.
use mathlib.Core.Path.{sym}
use borrow.Author.Tests.{eq-eqb, ne_eqb}
use Rattle.laws.specs.SearchLaws.{any_none, any_found, any_more}
use Rattle.engine.specs.Ask.{uncommitted_at}
use Rattle.engine.proofs.Batch.any_uncommitted.Goals as goal

-- none is passed yet
pub loop-j-init : goal.loop-j-init
loop-j-init c = any_none _

-- one is not
pub returns-then-self-j-eq0 : goal.returns-then-self-j-eq0
returns-then-self-j-eq0 c =
    sym (any_found _ c.loop-j.j (uncommitted_at c.args.self.now) c.loop-j-test.true (rw (eq-eqb _ _ c.if-self-j-eq0.true)))

-- one more is
pub loop-j-preserved : goal.loop-j-preserved
loop-j-preserved c =
    any_more c.loop-j.j (uncommitted_at c.args.self.now) c.loop-j.invariant (rw (ne_eqb _ _ c.if-self-j-eq0.false))
