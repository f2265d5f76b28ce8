-- `is_ready` meets its contract: a search over the earlier jobs.
use Rattle.std.proofs.Common.{rules, tests, ap, sym, ltb-false, ℕ, not, ◌∙◌, ◌≡◌, length}
use Rattle.std.proofs.lemmas.Iterator.{YieldsList-from_slice, YieldsList-from_take, YieldsList-from_zip}
use Rattle.std.proofs.lemmas.Iterator.Search.{any_from_yields_List}
use Rattle.dependence.specs.declared.Job.{Job}
use Rattle.dependence.specs.Job.{no_job, job_at}
use Rattle.dependence.specs.PlaceLaws.{any_beside}
use Rattle.dependence.specs.Ready.{waits_for, ready}
use Rattle.dependence.specs.ReadyLaws.{ready_past}
use Rattle.dependence.proofs.is_ready.Goals as goal

-- no such job
pub returns-in_default : goal.returns-in_default
returns-in_default c =
    let past = ltb-false c.args.j (length c.args.jobs) (sym c.in_default.ensures.lookup.0) in
    sym (ready_past c.args.jobs c.args.committed c.args.j past)

pub returns : goal.returns
unfolding ready
returns c =
    let a = c.args in
    let waits = λ (x : Job × ℕ). waits_for c.in-Some.job.now x.0 x.1 in
    let found =
    any_from_yields_List waits c.any.new.self _ c.any.result c.any.ensures.ran
    (YieldsList-from_take a.j (YieldsList-from_zip (YieldsList-from_slice a.jobs (cc)) (YieldsList-from_slice a.committed (cc))) c.take.ensures.count)
    (λ x b q k. search (rules, tests))
    ∙ any_beside waits a.jobs a.committed no_job 0 a.j (search rules) (search rules) in
    let there : c.in-Some.job.now ≡ job_at a.jobs a.j = search rules in
    ap not (rw there at found)
