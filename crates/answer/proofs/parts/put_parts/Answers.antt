-- `put_parts` meets its contract: six texts one after the other.
use Rattle.render.specs.PutLaws.{wrote_then}
use Rattle.answer.specs.Output.{parts_text}
use Rattle.answer.specs.Lengths.{parts_length}
use Rattle.answer.proofs.parts.put_parts.Goals as goal

-- jobs and cells are those of the batch that the steps left
pub returns-clause-wrote : goal.returns-clause-wrote
unfolding parts_text
returns-clause-wrote c =
    rw (← c.run_steps-left.ensures.batch_value)
    (wrote_then
    (wrote_then
    (wrote_then (wrote_then (wrote_then c.text.ensures c.run_steps-left.ensures.wrote) c.text-2.ensures) c.put_jobs.ensures.wrote)
    c.text-3.ensures)
    c.put_cells.ensures.wrote)

pub returns-clause-bytes_len_bound : goal.returns-clause-bytes_len_bound
returns-clause-bytes_len_bound c =
    let left = c.run_steps-left.ensures.batch_value in
    parts_length _ _ (rw (← left) c.put_jobs.ensures.batch_len_bound) (rw (← left) c.put_cells.ensures.batch_len_bound)
