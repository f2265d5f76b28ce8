-- R24: the sort of the conflict of an earlier and a later job.
use Rattle.std.specs.Prelude.{ℕ, Bool, cond, not, ◌&&◌, eqb, Option, Some, None}
use Rattle.laws.specs.Search.{any_below}
use Rattle.dependence.specs.declared.Access.{Access}
use Rattle.dependence.specs.declared.Dependence.{Dependence}
use Rattle.dependence.specs.declared.Dependence.TheVariants as sort
use Rattle.dependence.specs.declared.Job.{Job}
use Rattle.dependence.specs.Job.{is_read, in_use, access_at}

-- The access may write its cell: in every mode but a read's.
abbrev pub may_write : Access → Bool
may_write access = not (is_read access.mode)

-- The job has an access to the cell, in whatever mode.
abbrev pub names_at : ℕ → Job → ℕ → Bool
names_at cell job i = in_use job i && eqb cell (access_at job i).cell

unfoldable pub names_cell : ℕ → Job → Bool
names_cell cell job = any_below 4 (names_at cell job)

-- The job may write the cell.
abbrev pub may_write_at : ℕ → Job → ℕ → Bool
may_write_at cell job i = names_at cell job i && may_write (access_at job i)

unfoldable pub may_write_cell : ℕ → Job → Bool
may_write_cell cell job = any_below 4 (may_write_at cell job)

-- The later job names a cell that the earlier one may write: a height may flow from the one to the other.
abbrev pub flows_at : Job → Job → ℕ → Bool
flows_at earlier later i = in_use earlier i && (may_write (access_at earlier i) && names_cell (access_at earlier i).cell later)

unfoldable pub flows : Job → Job → Bool
flows earlier later = any_below 4 (flows_at earlier later)

-- The later job may write a cell that the earlier one reads.
abbrev pub overwrites_at : Job → Job → ℕ → Bool
overwrites_at earlier later i =
    in_use earlier i && (is_read (access_at earlier i).mode && may_write_cell (access_at earlier i).cell later)

unfoldable pub overwrites : Job → Job → Bool
overwrites earlier later = any_below 4 (overwrites_at earlier later)

-- 1 where a height may flow, else 2 where one may be overwritten, else 0.
abbrev pub sort_by : Bool → Bool → ℕ
sort_by flow overwrite = cond flow 1 (cond overwrite 2 0)

unfoldable pub sort_of : Job → Job → ℕ
sort_of earlier later = sort_by (flows earlier later) (overwrites earlier later)

-- The number of a sort that the code names.
abbrev pub number_of : Option Dependence → ℕ
number_of None = 0
number_of (Some sort.Flow) = 1
number_of (Some sort.Anti) = 2
