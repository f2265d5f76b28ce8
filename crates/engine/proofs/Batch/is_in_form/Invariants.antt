-- `Batch::is_in_form` meets its contract: the counts, the columns, the jobs, the runs.
use mathlib.Core.Bool.{false}
use mathlib.Core.Path.{◌≡◌}
use Rattle.laws.specs.Search.{any_below}
use Rattle.engine.specs.FormPass.{StatesIn, refused_at, run_out_at}
use Rattle.engine.proofs.Batch.is_in_form.Given as goal

-- no job passed is refused
abbrev pub invariant-loop-j : goal.invariant-loop-j
invariant-loop-j l =
    StatesIn l.self × (any_below l.j (refused_at l.self) ≡ false)

-- no run passed is out of form
abbrev pub invariant-loop-k : goal.invariant-loop-k
invariant-loop-k l =
    StatesIn l.self × (any_below l.self.job_count (refused_at l.self) ≡ false) × (any_below l.k (run_out_at l.self) ≡ false)
