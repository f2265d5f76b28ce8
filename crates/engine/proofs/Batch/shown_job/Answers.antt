-- `Batch::shown_job` meets its contract.
use mathlib.Core.Path.{◌≡◌, ◌∙◌}
use lib.ListN.{get_or}
use borrow.Author.Tests.{ne_eqb}
use Rattle.laws.specs.SearchLaws.{and_false}
use Rattle.rules.specs.Snapshot.{is_live}
use Rattle.rules.specs.Speculation.{validity}
use Rattle.engine.specs.Record.{snapshot_of}
use Rattle.engine.specs.Ask.{shown_job}
use Rattle.engine.specs.InvalidRun.{validity_is}
use Rattle.engine.proofs.Batch.shown_job.Goals as goal
use Rattle.engine.proofs.Batch.shown_job.Goals.{then-committed-eq0+then-is_live, else-committed-eq0, else-committed-eq0-via-then-committed-eq0+else-is_live, else-committed-eq0-via-else-committed-eq0}

-- the mark is the one shown, and the validity the one found
pub returns : goal.returns
unfolding shown_job
returns c =
    let a = c.args in
    let found : c.if-committed-eq0.validity ≡ validity (snapshot_of a.self.now) a.j =
    rw (← validity_is a.self.now a.j)
    (elim c.if-committed-eq0.branch [
      | then-committed-eq0+then-is_live w ↦ w.validity-is ∙ w.live_validity-validity.ensures ∙ rw (← w.is_live.ensures, w.if-is_live.true, w.if-committed-eq0.true)
      | else-committed-eq0 w ↦ w.validity-is ∙ (elim w.else-committed-eq0.branch [
        | else-committed-eq0-via-then-committed-eq0+else-is_live v ↦ rw (← v.is_live.ensures, v.if-is_live.false)
        | else-committed-eq0-via-else-committed-eq0 v ↦ rw (ne_eqb _ _ v.if-committed-eq0.false, and_false (is_live (get_or a.self.now.phase a.j 0)))
      ])
    ]) in
    rw (c.shown_mark.ensures, found)
