-- `value_for` meets its contract: the places from the last one back.
use Rattle.std.proofs.Common.{arith, ◌≡◌, ◌-◌, ℕ, suc, ◌∙◌, false, ◌&&◌, eqb, List, ℤ, ne_eqb}
use Rattle.dependence.specs.declared.Job.{Job}
use Rattle.dependence.specs.Job.{in_use, access_at}
use Rattle.rules.specs.Values.{value_below}
use Rattle.runs.proofs.value_for.Goals as goal
use Rattle.runs.proofs.value_for.Goals.{else-in_use-via-then-in_use+else-job-place, else-in_use-via-else-in_use}

passed_by : (job : Job) (values : List ℤ) (cell n k : ℕ) → k ≡ suc n → (in_use job n && eqb (access_at job n).cell cell) ≡ false
    → value_below job values cell n ≡ value_below job values cell k
unfolding value_below
passed_by job values cell n k e f = rw (e, f)

-- a place that does not name the cell
pub loop-place-preserved : goal.loop-place-preserved
loop-place-preserved c =
    let k = c.loop-place.place in
    let a = c.args in
    passed_by a.job a.values a.cell (k - 1) k (omega arith)
    (elim c.else-in_use.branch [
      | else-in_use-via-then-in_use+else-job-place w ↦ rw (← c.in_use.ensures, w.if-in_use.true) (ne_eqb _ _ w.if-job-place.false)
      | else-in_use-via-else-in_use w ↦ rw (← c.in_use.ensures, w.if-in_use.false)
    ])
    ∙ c.loop-place.invariant
