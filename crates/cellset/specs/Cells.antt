-- The cells of a job as the bits of words.
use Rattle.std.specs.Prelude.{ℕ, Bool, true, cond, not, ◌&&◌, eqb, ltb}
use Rattle.std.specs.Int.Bits.{bit_and, bit_or}
use Rattle.laws.specs.Fold.{fold_below}
use Rattle.dependence.specs.declared.Access.{Access}
use Rattle.dependence.specs.declared.Job.{Job}
use Rattle.dependence.specs.Job.{is_predicted, counts_as, in_use, access_at}
use Rattle.dependence.specs.Sort.{may_write}
use Rattle.jobset.specs.JobSet.{with_bit}
use Rattle.cellset.specs.declared.Cells.{Cells}

-- The word with the cell at place i of the job, if that is in use, its access satisfies p and the word has a bit for the cell.
abbrev pub word_with : (Access → Bool) → Job → ℕ → ℕ → ℕ
word_with p job i word =
    cond (in_use job i && (ltb (access_at job i).cell 64 && p (access_at job i))) (with_bit word (access_at job i).cell) word

-- All such cells of the job.
unfoldable pub word_of : (Access → Bool) → Job → ℕ
word_of p job = fold_below 4 (word_with p job) 0

-- Any access; one that surely writes, predicted or not; one that a speculative run looks back for.

abbrev pub any_mode : Access → Bool
any_mode access = true

abbrev pub surely_writes : Access → Bool
surely_writes access = eqb (counts_as access.mode) 1

abbrev pub is_unpredicted : Access → Bool
is_unpredicted access = not (is_predicted access.mode)

abbrev pub no_cells : Cells
no_cells = record { named = 0; written = 0; sure = 0; back = 0 }

-- The four words with the cell at place i.
abbrev pub with_place : Job → ℕ → Cells → Cells
with_place job i cells =
    record {
      named = word_with any_mode job i cells.named;
      written = word_with may_write job i cells.written;
      sure = word_with surely_writes job i cells.sure;
      back = word_with is_unpredicted job i cells.back;
    }

-- The four words with the cell of an access, if they have a bit for it.
abbrev pub cell_with : (Access → Bool) → Access → ℕ → ℕ
cell_with p access word = cond (ltb access.cell 64 && p access) (with_bit word access.cell) word

abbrev pub with_access : Access → Cells → Cells
with_access access cells =
    record {
      named = cell_with any_mode access cells.named;
      written = cell_with may_write access cells.written;
      sure = cell_with surely_writes access cells.sure;
      back = cell_with is_unpredicted access cells.back;
    }

abbrev pub cells_of : Job → Cells
cells_of job =
    record {
      named = word_of any_mode job;
      written = word_of may_write job;
      sure = word_of surely_writes job;
      back = word_of is_unpredicted job;
    }

-- Of the cells given, those named and those written by others, the ones by which a job with these cells conflicts.
abbrev pub shared_with : Cells → ℕ → ℕ → ℕ
shared_with cells named written = bit_or (bit_and cells.named written) (bit_and cells.written named)
