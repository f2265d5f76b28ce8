-- A step as a host in another language sees it: the report is one value, and so is all that is answered beside a lent batch.
use Rattle.std.specs.Prelude.{ℕ}
use Rattle.engine.specs.declared.Batch.{Batch}
use Rattle.engine.specs.declared.Report.{Report}
use Rattle.engine.specs.declared.Started.{Started}
use Rattle.engine.specs.ByNumber.{stepped}
use Rattle.sorghemi.specs.declared.Handed.{Handed}

-- R9: the step with the number on job j. Its batch is what stands in a lent record afterwards, refused or not. (R161: it counts as
-- that step, `call_of` in the engine's ByNumber.)
abbrev pub stepped_for : Batch → ℕ → ℕ → Report → Started
stepped_for b number j report = stepped b number j report.values report.wrote

-- What is answered beside a lent batch.
abbrev pub handed_by : Started → Handed
handed_by started = record { refusal = started.refusal; values = started.handed }
