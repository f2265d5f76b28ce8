-- `put_jobs` meets its contract: the lines of the jobs below j are written.
use Rattle.std.proofs.Common.{◌≤◌, ◌*◌, length}
use Rattle.render.specs.Put.{Wrote}
use Rattle.answer.specs.Output.{lines_below, job_line}
use Rattle.answer.proofs.parts.put_jobs.Given as goal

-- The lines of the jobs below j are written, each with at most 12 bytes.
abbrev pub invariant-loop-j : goal.invariant-loop-j
invariant-loop-j l =
    Wrote l.initial.writer (lines_below l.j (job_line l.batch)) l.writer × (length (lines_below l.j (job_line l.batch)) ≤ 12 * l.j)
