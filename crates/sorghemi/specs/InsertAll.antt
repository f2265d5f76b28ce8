-- Inserting a list of jobs as a host in another language sees it: the list is one value, and so is all that is answered beside a
-- lent batch.
use Rattle.engine.specs.declared.Batch.{Batch}
use Rattle.engine.specs.declared.JobList.{JobList}
use Rattle.engine.specs.declared.InsertedAll.{InsertedAll}
use Rattle.engine.specs.InsertAll.{inserted_all}
use Rattle.sorghemi.specs.declared.Inserted.{Inserted}

-- R25: the jobs of the list inserted. Its batch is what stands in a lent record afterwards, refused or not.
abbrev pub list_inserted : Batch → JobList → InsertedAll
list_inserted b list = inserted_all b list.jobs list.count

-- What is answered beside a lent batch.
abbrev pub told_of : InsertedAll → Inserted
told_of inserted = record { refusal = inserted.refusal; at = inserted.at }
