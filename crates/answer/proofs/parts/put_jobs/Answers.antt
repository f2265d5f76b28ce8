-- `put_jobs` meets its contract: the lines of the jobs below j are written.
use Rattle.std.proofs.Common.{◌<◌, ◌≡◌, arith, rules}
use Rattle.engine.specs.Ask.{asked_job}
use Rattle.render.specs.PutLaws.{wrote_then}
use Rattle.render.specs.Text.{triple_line}
use Rattle.answer.specs.Output.{job_line, jobs_text}
use Rattle.answer.specs.Lengths.{below_more, below_length, three_bytes}
use Rattle.answer.proofs.parts.put_jobs.Goals as goal

-- a turn: one line more, of three numbers that are bytes
pub loop-j-preserved : goal.loop-j-preserved
loop-j-preserved c =
    let loop = c.loop-j in
    let batch = c.args.batch in
    let shown = c.job-shown.result in
    let asked : shown ≡ asked_job batch loop.j = rw c.from.ensures at c.job-shown.ensures in
    let few : c.progress-j-end.result.job_count < 256 = search rules in
    let how : shown.committed < 256 = search rules in
    let mark : shown.wrote < 256 = search rules in
    let line : triple_line loop.j shown.committed shown.wrote ≡ job_line batch loop.j = rw (← asked) in (
      rw (below_more loop.j (job_line batch), ← line)
          (wrote_then loop.invariant.0
          (rw (c.from-in-loop-j.ensures, c.from-in-loop-j-2.ensures, c.from-in-loop-j-3.ensures) at c.triple.ensures)),
      below_length loop.j (job_line batch) 12 loop.invariant.1 (rw (← line) (three_bytes _ _ _ (omega arith) how mark)),
    )

-- at the end all jobs have their lines
pub returns-clause-wrote : goal.returns-clause-wrote
unfolding jobs_text
returns-clause-wrote c =
    let all : c.loop-j.j ≡ c.progress-j-end.result.job_count = omega arith in
    rw (← c.progress-j-end.ensures) (rw all at c.loop-j.invariant.0)

-- at most 255 of them
pub returns-clause-batch_len_bound : goal.returns-clause-batch_len_bound
unfolding jobs_text
returns-clause-batch_len_bound c =
    let all : c.loop-j.j ≡ c.progress-j-end.result.job_count = omega arith in
    let few : c.progress-j-end.result.job_count < 256 = search rules in
    rw (← c.progress-j-end.ensures) (omega (arith, rw all at c.loop-j.invariant.1))
