-- `chain_lengths_from` meets its contract: the pass of specs/ChainPass.antt, a job a turn from the last one back.
use Rattle.std.proofs.Common.{◌≤◌, min}
use Rattle.passes.specs.ChainPass.{ChainPass}
use Rattle.passes.proofs.chain_lengths_from.Given as goal

-- the jobs from j on are done
abbrev pub invariant-loop-j : goal.invariant-loop-j
invariant-loop-j l = (l.j ≤ min l.job_count 128) × ChainPass l.jobs l.job_count l.j l.lengths l.named
