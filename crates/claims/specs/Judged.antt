-- R186: a judgement stays. (Proved as `judgement_stays`.) So a worker may give up a guess that has fallen, and a host may count on
-- one that stands.
use Rattle.std.specs.Prelude.{ℕ, ◌≤◌, List, ◌⊎◌, ◌≡◌, ℤ}
use Rattle.rules.specs.Call.{Call}
use Rattle.engine.specs.declared.Batch.{Batch}
use Rattle.engine.specs.Opening.{opened}
use Rattle.engine.specs.Ask.{asked_job}
use Rattle.engine.specs.Perform.{perform}
use Rattle.claims.specs.Trace.{batch_of}

-- What is told of the guess of job j (R45) before and after a call: a 2 or 3 is told again, or there is no guess to judge any more.
abbrev pub Stays : Batch → Batch → ℕ → Type 0
Stays before after j =
    2 ≤ (asked_job before j).validity
    → ((asked_job after j).validity ≡ (asked_job before j).validity) ⊎ ((asked_job after j).validity ≡ 0)

-- The claim for every accepted opening and every list of calls: whatever is called next.
abbrev pub JudgementStatement : Type 0
JudgementStatement =
    (heights : List ℤ) (calls : List Call) → (opened heights).refusal ≡ 0
    → (call : Call) (j : ℕ) → Stays (batch_of heights calls) (perform (batch_of heights calls) call).batch j
